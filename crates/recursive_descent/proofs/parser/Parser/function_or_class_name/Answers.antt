use Rattle.std.proofs.Common.{sym, ◌∙◌, ap}
use Rattle.std.proofs.lemmas.Bool.{OnTrue_at, false≢true}
use Rattle.token_cursor.specs.SourceText.{behind_in}
use Rattle.tree.specs.Tree.{push}
use Rattle.recursive_descent.proofs.reading.WaitingNodes.{waits_one, waits_gap, waits_none}
use Rattle.recursive_descent.specs.Follows.{NotNamed}
use Rattle.recursive_descent.proofs.reading.ReadRefusals.{passed_on, asked, not_named}
use Rattle.recursive_descent.proofs.parser.Parser.function_or_class_name.Goals as goal
use Rattle.recursive_descent.proofs.parser.Parser.function_or_class_name.Goals.{in-FunctionDeclaration, in_default, in-Method}

pub returns-in_err-name-clause-unnamed : goal.returns-in_err-name-clause-unnamed
returns-in_err-name-clause-unnamed c =
    let none = c.in_err-name.ensures.missed.0 in
    let refused = not_named c.args.closure c.args.self.now.cursor c.identifier.new.self.cursor c.args.high c.in_err-name.field-0.0 c.in_err-name.ensures.here in
    passed_on (NotNamed c.args.closure c.args.self.now.cursor c.args.high) _ c.in_err-name.field-0.0 c.from_residual.ensures.1
    (elim c.match-closure.branch [
      | in-FunctionDeclaration w ↦ refused (asked c.args.closure w.in-FunctionDeclaration.is) none
      | in_default w ↦ (let there = OnTrue_at (sym w.has_name-is ∙ c.if-has_name.true) w.sees_identifier-has_name.ensures.seen in absurd (none (behind_in c.args.self.now.cursor.text there.0) there.0 there.1.0 there.1.1))
      | in-Method w ↦ absurd (false≢true (sym w.has_name-is ∙ c.if-has_name.true))
    ])

pub returns-then-has_name-clause-waits : goal.returns-then-has_name-clause-waits
returns-then-has_name-clause-waits c = waits_one c.args.self.now.tree (c.in_ok-name-2.ensures.waits ∙ ap (λ ps. push ps c.in_ok-name-2.name) c.identifier.ensures.same_tree) c.one.ensures

pub returns-clause-waits : goal.returns-clause-waits
returns-clause-waits c = waits_gap c.args.self.now.tree c.new-nodes.result (waits_none c.new-nodes.ensures) c.in_ok-push_gap.ensures.waits c.in_ok-push_gap.ensures.pushed
