use Rattle.std.proofs.Common.{sym, ap, ◌∙◌, subst}
use Rattle.tree.specs.Tree.{join}
use Rattle.recursive_descent.proofs.reading.WaitingNodes.{waits_none, waits_push}
use Rattle.recursive_descent.specs.Follows.{NotBegun}
use Rattle.recursive_descent.proofs.reading.ReadRefusals.{passed_on, not_begun}
use Rattle.covers.specs.declared.list.ListBuilder.{ListBuilder as ListOf}
use Rattle.recursive_descent.specs.Spelled.{AllOfLanguage}
use Rattle.recursive_descent.proofs.reading.LanguageTrees.{of_empty, of_push}
use Rattle.recursive_descent.proofs.parser.Parser.open.Goals as goal
use Rattle.recursive_descent.proofs.parser.Parser.open.Goals.{in-Some+in_ok-expect_punctuator-in-Some, in-None+in_ok-first_template_element-in-None+in_ok-push-in-None, in-None+else-matches}

pub returns-in_err-expect_punctuator-in-Some-clause-not_begun : goal.returns-in_err-expect_punctuator-in-Some-clause-not_begun
returns-in_err-expect_punctuator-in-Some-clause-not_begun c =
    passed_on (NotBegun c.args.listed c.args.self.now.cursor c.args.high) _ c.in_err-expect_punctuator-in-Some.field-0.0 c.from_residual.ensures.1
    (not_begun c.args.listed c.args.self.now.cursor c.expect_punctuator.new.self.cursor c.args.high c.in-Some.mark.now c.in_err-expect_punctuator-in-Some.field-0.0 c.in_err-expect_punctuator-in-Some.ensures.here (sym c.in-Some.ensures) c.in_err-expect_punctuator-in-Some.ensures.missed.0)

pub returns-clause-own : goal.returns-clause-own
returns-clause-own c = elim c.match-opener.branch [
  | in-Some+in_ok-expect_punctuator-in-Some w ↦ of_empty (ap (λ (l : ListOf). l.nodes) w.list-is ∙ c.new-list.ensures.empty)
  | in-None+in_ok-first_template_element-in-None+in_ok-push-in-None w ↦
      let pushed = ap (λ (l : ListOf). l.nodes) w.list-is ∙ ap (λ (l : ListOf). l.nodes) w.in_ok-push-in-None.ensures.pushed in
      subst (AllOfLanguage c.args.self.now.cursor.text) (sym pushed) (of_push c.new-list.result.nodes w.in_ok-first_template_element-in-None.field-0.node (of_empty c.new-list.ensures.empty) w.in_ok-first_template_element-in-None.ensures.own)
  | in-None+else-matches w ↦ of_empty (ap (λ (l : ListOf). l.nodes) w.list-is ∙ c.new-list.ensures.empty)
]

pub returns-clause-waits : goal.returns-clause-waits
returns-clause-waits c =
    let old = c.args.self.now.tree in
    let none = waits_none c.new-list.ensures.empty in
    elim c.match-opener.branch [
      | in-Some+in_ok-expect_punctuator-in-Some w ↦ ap (λ v. v.tree) w.self-is ∙ w.expect_punctuator.ensures.same_tree ∙ none ∙ ap (λ (l : ListOf). join old l.nodes) (sym w.list-is)
      | in-None+in_ok-first_template_element-in-None+in_ok-push-in-None w ↦
          let pushed = ap (λ (l : ListOf). l.nodes) w.list-is ∙ ap (λ (l : ListOf). l.nodes) w.in_ok-push-in-None.ensures.pushed in
          ap (λ v. v.tree) w.self-is ∙ waits_push old c.new-list.result.nodes w.in_ok-first_template_element-in-None.field-0.node none w.in_ok-first_template_element-in-None.ensures.waits pushed
      | in-None+else-matches w ↦ ap (λ v. v.tree) w.self-is ∙ none ∙ ap (λ (l : ListOf). join old l.nodes) (sym w.list-is)
    ]
