use Rattle.std.proofs.Common.{◌≡◌, false, [], Err, refl, ap, ◌∙◌, subst}
use Rattle.std.specs.Prelude.{codes}
use Rattle.std.proofs.lemmas.Bool.{OnTrue_at, OnFalse_at}
use Rattle.tree.specs.Tree.{node, plain, part, none, gap, push_gap}
use Rattle.tree.specs.declared.kind.Kind.TheVariants.{ExportNamedDeclaration}
use Rattle.productions.specs.Made.{Makes}
use Rattle.recursive_descent.proofs.reading.WaitingNodes.{waits_one, waits_gap}
use Rattle.recursive_descent.specs.Soundness.{Adds}
use Rattle.language.specs.Pieces.{item}
use Rattle.recursive_descent.specs.Spelled.{SpellsIn}
use Rattle.recursive_descent.specs.SoundnessOfStatements.{context_role}
use Rattle.recursive_descent.specs.ModuleItems.{ItemAt}
use Rattle.recursive_descent.proofs.reading.AddedPairs.{adds_behind}
use Rattle.recursive_descent.proofs.sound_modules.DeclaredExports.{exported_kind, declared_item}
use Rattle.recursive_descent.proofs.complete_modules.NamesGiven.{made_ok}
use Rattle.recursive_descent.proofs.complete_modules.DeclaredGiven.{declaration_missed, declaration_refused, declaration_answered}
use Rattle.recursive_descent.proofs.parser.Parser.export_declaration.Goals as goal

pub returns-then-not-sees_declaration-clause-complete : goal.returns-then-not-sees_declaration-clause-complete
returns-then-not-sees_declaration-clause-complete c star brace by_default =
    let missed = OnFalse_at c.if-not-sees_declaration.true c.sees_declaration.ensures.missed in
    declaration_missed c.args.self.now.cursor c.args.start star brace by_default c.args.self.now.cursor c.args.self.now.pairs.items c.args.self.now.pairs.items c.args.high (Err c.syntax_error.result) missed.0 missed.1

pub returns-in_err-declaration-clause-complete : goal.returns-in_err-declaration-clause-complete
returns-in_err-declaration-clause-complete c star brace by_default =
    declaration_refused c.args.self.now.cursor c.args.start star brace by_default c.item.result c.item.ensures c.statement.new.self.cursor c.args.self.now.pairs.items c.statement.new.self.pairs.items c.args.high c.saturating_sub-inner.result c.saturating_sub-inner.ensures c.statement.new.self.cursor c.statement.new.self.pairs.items c.from_residual.result c.in_err-declaration.field-0.0
    c.in_err-declaration.ensures.complete c.from_residual.ensures.1

made : (c : goal.After-finish_plain) → Makes (node ExportNamedDeclaration [] plain c.args.start c.statement.new.self.cursor.last.stop (part c.in_ok-declaration.declaration (gap none))) c.args.high c.finish_plain.result
made c =
    let nodes : c.push_gap.new.self ≡ part c.in_ok-declaration.declaration (gap none) = c.in_ok-push_gap.ensures.pushed ∙ ap push_gap c.one-nodes.ensures in
    subst (λ ps. Makes (node ExportNamedDeclaration [] plain c.args.start c.statement.new.self.cursor.last.stop ps) c.args.high c.finish_plain.result) nodes
    (subst (λ span. Makes (node ExportNamedDeclaration [] plain span.start span.end c.push_gap.new.self) c.args.high c.finish_plain.result) c.span_from-span.ensures c.finish_plain.ensures.made)

pub returns-clause-derived : goal.returns-clause-derived
returns-clause-derived c =
    let s = c.args.self.now.cursor in
    let e = c.statement.new.self.cursor in
    let d = c.in_ok-declaration.declaration in
    let ahead = OnTrue_at c.if-not-sees_declaration.false c.sees_declaration.ensures.seen in
    made_ok (node ExportNamedDeclaration [] plain c.args.start e.last.stop (part d (gap none))) c.args.high c.finish_plain.result (λ n. Adds s e c.args.self.now.pairs.items c.statement.new.self.pairs.items (ItemAt s.text (codes "export") c.args.start n)) (made c)
    (adds_behind {s = s} {m = s} {e = e} refl refl c.in_ok-declaration.ensures.derived (λ o P u.
    let spelled : SpellsIn s.text o (item false) d s.last e.last P = subst (λ x. SpellsIn s.text o (context_role x) d s.last e.last P) c.item.ensures u.spelled in
    declared_item s.text d spelled (exported_kind s.text ahead spelled)))

pub returns-clause-complete : goal.returns-clause-complete
returns-clause-complete c star brace by_default =
    declaration_answered c.args.self.now.cursor c.args.start star brace by_default c.item.result c.item.ensures c.statement.new.self.cursor c.args.self.now.pairs.items c.statement.new.self.pairs.items c.args.high c.saturating_sub-inner.result c.saturating_sub-inner.ensures c.in_ok-declaration.declaration c.finish_plain.result
    c.in_ok-declaration.ensures.complete (made c)

pub returns-clause-waits : goal.returns-clause-waits
returns-clause-waits c =
    let old = c.args.self.now.tree in
    c.finish_plain.ensures.waits old (waits_gap old c.one-nodes.result (waits_one old c.in_ok-declaration.ensures.waits c.one-nodes.ensures) c.in_ok-push_gap.ensures.waits c.in_ok-push_gap.ensures.pushed)
