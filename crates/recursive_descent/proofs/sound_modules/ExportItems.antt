-- An export of names in braces, with a source or without (ECMA-262, 13th edition, 16.2.3).
use Rattle.std.proofs.Common.{◌≡◌, ℕ, true, false, [], ◌∷◌, ◌++◌, refl, sym, subst}
use Rattle.std.specs.Prelude.{codes}
use Rattle.tree.specs.declared.kind.Kind.TheVariants.{ExportNamedDeclaration}
use Rattle.tree.specs.Tree.{node, Parts, none, part, gap, plain, bare_parts}
use Rattle.language.specs.declared.Rank.TheVariants.{Expression, Primary}
use Rattle.language.specs.declared.Start.TheVariants.{Any}
use Rattle.language.specs.Pieces.{module_item, at, absent, sign, term, sp, separator}
use Rattle.language.specs.Statements.{exported, export_list}
use Rattle.language.specs.Token.{Token}
use Rattle.language.specs.Derivation.{first, step, missing, token, laid}
use Rattle.language.proofs.table.Productions.{runs_can}
use Rattle.token_cursor.specs.SourceText.{SourceText, SeenNext, behind_in}
use Rattle.recursive_descent.specs.Soundness.{RunsIn, anywhere}
use Rattle.recursive_descent.specs.Spelled.{SpellsIn}
use Rattle.recursive_descent.specs.ModuleItems.{ItemAt}
use Rattle.recursive_descent.proofs.sound_modules.ModuleEnds.{item_spelled}

-- places change no piece
exports_bare : (ps : Parts) → export_list (bare_parts ps) ≡ export_list ps
exports_bare none = refl
exports_bare (gap none) = refl
exports_bare (gap (part n ps)) = refl
exports_bare (gap (gap ps)) = refl
exports_bare (part n none) = refl
exports_bare (part (node k w g st en ns) (gap none)) = refl
exports_bare (part (node k w g st en ns) (gap (part m ps))) = refl
exports_bare (part (node k w g st en ns) (gap (gap ps))) = refl
exports_bare (part (node k w g st en ns) (part m none)) = refl
exports_bare (part (node k w g st en ns) (part m (part l ps))) = λ i. (exported (node k w g st en ns) ∷ separator k false) ++ exports_bare (part m (part l ps)) i
exports_bare (part (node k w g st en ns) (part m (gap ps))) = λ i. (exported (node k w g st en ns) ∷ separator k false) ++ exports_bare (part m (gap ps)) i

module _ (text : SourceText) where
  pub export_braces : {o from : ℕ} {m e : Token} (ps : Parts) → RunsIn text o (anywhere (sign "{" ∷ export_list ps)) ps m e [] → ItemAt text (codes "export") from (node ExportNamedDeclaration [] plain from e.stop (gap ps)) o m e []
  export_braces {o} {m = m} {e} ps d b r stands =
      let qs = absent ∷ sign "{" ∷ export_list (bare_parts ps) in
      let run : RunsIn text o (anywhere qs) (gap ps) m e [] = missing (subst (λ qs. RunsIn text o (anywhere (sign "{" ∷ qs)) ps m e []) (sym (exports_bare ps)) d) in
      subst (λ z. SpellsIn text o module_item (node ExportNamedDeclaration [] plain z e.stop (gap ps)) b e []) stands
      (item_spelled text {m = m} (at Primary (term "export" ∷ sp ∷ qs)) r.next refl first (runs_can Token (SeenNext text) (behind_in text) Expression true Any qs run) (step (token r) (step laid run)))
