-- Exports of names as they are read behind their word (ECMA-262, 13th edition, 16.2.3).
use Rattle.std.proofs.Common.{◌≡◌, ℕ, [], ◌∷◌, sym, ap, ◌∙◌, subst}
use Rattle.std.specs.Prelude.{codes}
use Rattle.tokens.specs.declared.token.TokenClass.TheVariants.{IdentifierName, Punctuator}
use Rattle.token_cursor.specs.CursorState.{CursorState}
use Rattle.token_cursor.specs.StatementEnds.{EndsAt}
use Rattle.token_cursor.specs.declared.semicolon.StatementEnd.TheVariants.{AfterExpression, AfterExport}
use Rattle.tree.specs.declared.kind.Kind.TheVariants.{ExportAllDeclaration, ExportNamedDeclaration, ExportSpecifier}
use Rattle.tree.specs.Tree.{Tree, node, plain, Parts, none, part, gap, push, push_gap, join}
use Rattle.language.specs.declared.Edge.TheVariants.{Closed}
use Rattle.language.specs.Pieces.{directive_string}
use Rattle.language.specs.Expressions.{module_name}
use Rattle.language.specs.Token.{Token}
use Rattle.language.specs.Derivation.{missing, step, done}
use Rattle.token_cursor.specs.Seen.{ReadsHere}
use Rattle.recursive_descent.specs.Soundness.{RunsIn, anywhere}
use Rattle.recursive_descent.specs.Spelled.{SpellsIn}
use Rattle.recursive_descent.specs.ModuleItems.{ExportBehind, ReadBehind, ReadWhole, ItemAt, ModuleNameAt, SourceAt}
use Rattle.recursive_descent.proofs.sound_modules.ModuleEnds.{source_runs, export_all, export_named}
use Rattle.recursive_descent.proofs.sound_modules.ExportItems.{export_braces}
use Rattle.recursive_descent.proofs.sound_modules.SpecifierLoop.{SpecifiersDone}
use Rattle.recursive_descent.proofs.complete_modules.ExportNodes.{gap_pushed}

-- what was read of an export of all names before its source: a name with which they are exported, or none
pub data AllBefore (s : CursorState) (nodes : Parts) (m : Token) : Type 0 where
  unnamed : nodes ≡ gap none → ReadsHere s.text IdentifierName (codes "from") s.last m → AllBefore s nodes m
  named : (a e : CursorState) (l : Tree) → nodes ≡ part l none → ReadsHere s.text IdentifierName (codes "as") s.last a.last → a.text ≡ s.text → ModuleNameAt a e l → ReadsHere s.text IdentifierName (codes "from") e.last m → AllBefore s nodes m

pub all_read : (s m e z : CursorState) (from : ℕ) (nodes after : Parts) (k : Tree) → AllBefore s nodes m.last → m.text ≡ s.text → SourceAt m e k → EndsAt s.text (AfterExpression Closed) e.last z.last → after ≡ push nodes k → ReadBehind s z Punctuator (codes "*") from (node ExportAllDeclaration [] plain from z.last.stop after)
all_read s m e z from nodes after k was text d ends added o = subst (λ (ps : Parts). ExportBehind s.text Punctuator (codes "*") from (node ExportAllDeclaration [] plain from z.last.stop ps) o s.last z.last []) (sym added) (of was)
  where
    spelled : SpellsIn s.text o directive_string k m.last e.last []
    spelled = subst (λ v. SpellsIn v o directive_string k m.last e.last []) text (d o)

    of : AllBefore s nodes m.last → ExportBehind s.text Punctuator (codes "*") from (node ExportAllDeclaration [] plain from z.last.stop (push nodes k)) o s.last z.last []
    of (unnamed is word) = subst (λ (ps : Parts). ExportBehind s.text Punctuator (codes "*") from (node ExportAllDeclaration [] plain from z.last.stop (push ps k)) o s.last z.last []) (sym is) (export_all s.text (source_runs s.text word spelled ends))
    of (named a e' l is as_word same n word) =
        subst (λ (ps : Parts). ExportBehind s.text Punctuator (codes "*") from (node ExportAllDeclaration [] plain from z.last.stop (push ps k)) o s.last z.last []) (sym is)
        (export_named s.text as_word (subst (λ v. RunsIn v o (anywhere (module_name l ∷ [])) (part l none) a.last e'.last []) same (n o)) (source_runs s.text word spelled ends))

-- names in braces, with a source or without
module _ (s e : CursorState) (from : ℕ) (nodes : Parts) (done' : SpecifiersDone ExportSpecifier s e (gap none) nodes) where
  pub list_sourced : (m k z : CursorState) (source : Tree) (after : Parts) → ReadsHere s.text IdentifierName (codes "from") e.last m.last → m.text ≡ s.text → SourceAt m k source → EndsAt s.text (AfterExpression Closed) k.last z.last → after ≡ push nodes source → ReadWhole s z (codes "export") from (node ExportNamedDeclaration [] plain from z.last.stop after)
  list_sourced m k z source after word text d ends added o =
      let ps = done'.0 in
      let run = (done'.2 source o z.last).0 (source_runs s.text word (subst (λ v. SpellsIn v o directive_string source m.last k.last []) text (d o)) ends) in
      subst (λ (qs : Parts). ItemAt s.text (codes "export") from (node ExportNamedDeclaration [] plain from z.last.stop qs) o s.last z.last []) (sym (added ∙ ap (λ qs. push qs source) done'.1)) (export_braces s.text (push ps source) run)

  pub list_ended : (z : CursorState) (after : Parts) → EndsAt s.text AfterExport e.last z.last → after ≡ push_gap nodes → ReadWhole s z (codes "export") from (node ExportNamedDeclaration [] plain from z.last.stop after)
  list_ended z after ends added o =
      let ps = done'.0 in
      let run = (done'.2 (node ExportNamedDeclaration [] plain 0 0 none) o z.last).1 (missing (step ends done)) in
      subst (λ (qs : Parts). ItemAt s.text (codes "export") from (node ExportNamedDeclaration [] plain from z.last.stop qs) o s.last z.last []) (sym (added ∙ gap_pushed nodes ∙ ap (λ qs. join qs (gap none)) done'.1)) (export_braces s.text (join ps (gap none)) run)
