-- Imports and exports by their pieces: the source with which they end, and what stands before it (ECMA-262, 13th edition, 16.2).
use Rattle.std.proofs.Common.{◌≡◌, ℕ, true, List, [], ◌∷◌, refl, subst}
use Rattle.std.specs.Prelude.{codes}
use Rattle.tokens.specs.declared.token.TokenClass.TheVariants.{IdentifierName, Punctuator}
use Rattle.tree.specs.declared.kind.Kind.{Kind}
use Rattle.tree.specs.declared.kind.Kind.TheVariants.{ExportAllDeclaration}
use Rattle.tree.specs.declared.kind.Flags.{Flags}
use Rattle.tree.specs.declared.kind.Pair.{Pair}
use Rattle.tree.specs.Tree.{Tree, node, Parts, none, part, gap, plain, bare, bare_parts}
use Rattle.tree.specs.Uses.{is_lean}
use Rattle.language.specs.declared.Edge.TheVariants.{Closed}
use Rattle.language.specs.declared.Rank.TheVariants.{Primary}
use Rattle.language.specs.Pieces.{directive_string, module_item, Spelling, at, absent, sign, term, sp, ending, behind}
use Rattle.language.specs.Expressions.{module_name}
use Rattle.language.specs.Statements.{from_source, module_items}
use Rattle.language.specs.Token.{Token}
use Rattle.language.specs.Grammar.{spellings}
use Rattle.language.specs.Derivation.{Among, first, Step, direct, placed, done, step, within, missing, token, laid}
use Rattle.language.proofs.lower_bound.Domination.{settled, fits}
use Rattle.language.proofs.table.Productions.{way_from}
use Rattle.token_cursor.specs.SourceText.{SourceText, SeenNext, behind_in}
use Rattle.token_cursor.specs.Seen.{ReadsHere}
use Rattle.recursive_descent.specs.Soundness.{RunsIn, anywhere}
use Rattle.recursive_descent.specs.Spelled.{SpellsIn}
use Rattle.recursive_descent.specs.ModuleItems.{ExportBehind}
use Rattle.recursive_descent.proofs.complete_modules.NamesGiven.{sole_part}

module _ (text : SourceText) where
  -- the end of an import or export
  abbrev pub ClosedAt : Token → Token → Type 0
  ClosedAt s e = Step Token (SeenNext text) (behind_in text) (ending (behind Closed)) s e

  pub source_runs : {o : ℕ} {s a b e : Token} {source : Tree} → ReadsHere text IdentifierName (codes "from") s a → SpellsIn text o directive_string source a b [] → ClosedAt b e → RunsIn text o (anywhere from_source) (part source none) s e []
  source_runs word d ended = step laid (step (token word) (step laid (within d (step ended done))))

  -- an item by its pieces
  pub item_spelled : {o : ℕ} {s m e : Token} {k : Kind} {g : Flags} {ps : Parts} {P : List Pair} (x : Spelling) → SeenNext text s (behind_in text m) m → is_lean (bare (node k [] g m.start e.stop ps)) ≡ true → Among x (module_items k (bare_parts ps)) → fits module_item x ≡ true →
      RunsIn text o (anywhere x.pieces) ps s e P → SpellsIn text o module_item (node k [] g m.start e.stop ps) s e P
  unfolding spellings
  item_spelled {m = m} {e = e} {k = k} {g = g} {ps = ps} x next lean listed f d =
      direct (settled module_item x) (way_from module_item (node k [] g m.start e.stop ps) x lean listed f) (placed next refl) d

  -- all names of a module, as they are or as one
  pub export_all : {o from : ℕ} {m e : Token} {source : Tree} → RunsIn text o (anywhere from_source) (part source none) m e [] → ExportBehind text Punctuator (codes "*") from (node ExportAllDeclaration [] plain from e.stop (gap (part source none))) o m e []
  export_all {o} {from} {m} {e} {source} d b k r stands star =
      subst (λ z. SpellsIn text o module_item (node ExportAllDeclaration [] plain z e.stop (gap (part source none))) b e []) stands
      (item_spelled {m = k} (at Primary (term "export" ∷ sp ∷ absent ∷ sign "*" ∷ from_source)) r.next refl first refl (step (token r) (step laid (missing (step (token star) d)))))

  pub export_named : {o from : ℕ} {m a c e : Token} {left source : Tree} → ReadsHere text IdentifierName (codes "as") m a → RunsIn text o (anywhere (module_name left ∷ [])) (part left none) a c [] → RunsIn text o (anywhere from_source) (part source none) c e [] →
      ExportBehind text Punctuator (codes "*") from (node ExportAllDeclaration [] plain from e.stop (part left (part source none))) o m e []
  export_named {o} {from} {m} {a} {c} {e} {left = node k' w g st en ps} {source} as_word n d b k r stands star =
      let left = node k' w g st en ps in
      subst (λ z. SpellsIn text o module_item (node ExportAllDeclaration [] plain z e.stop (part left (part source none))) b e []) stands
      (item_spelled {m = k} (at Primary (term "export" ∷ sp ∷ sign "*" ∷ sp ∷ term "as" ∷ sp ∷ module_name left ∷ from_source)) r.next refl first refl
      (step (token r) (step laid (step (token star) (step laid (step (token as_word) (step laid (within (sole_part text n) d))))))))
