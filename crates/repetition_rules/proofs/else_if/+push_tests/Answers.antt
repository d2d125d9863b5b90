use Rattle.std.proofs.Common.{◌≡◌, ◌++◌, true, false, map, append-nil, sym, ap, ◌∙◌}
use Rattle.rule_words.proofs.Results.{on_ok}
use Rattle.tree.specs.Node.{node_tree}
use Rattle.tree.specs.Tree.{kind_of}
use Rattle.repetition_rules.specs.Tests.{is_if}
use Rattle.repetition_rules.specs.Chains.{asking}
use Rattle.repetition_rules.proofs.Chaining.{asked-last, asked-more, tests-none}
use Rattle.repetition_rules.proofs.Operands.{both-appended}
use Rattle.repetition_rules.proofs.else_if.+push_tests.Goals as goal

pub returns-then-not-is_if : goal.returns-then-not-is_if
returns-then-not-is_if t c =
    let out = c.args.out.now.items in
    let no : is_if (kind_of (node_tree c.args.node)) ≡ false = sym (ap is_if c.kind.ensures) ∙ sym c.is_if.ensures ∙ c.if-not-is_if.true in
    sym (append-nil out) ∙ ap (λ l. out ++ map asking l) (sym (tests-none (node_tree c.args.node) no))

pub returns-in-Some : goal.returns-in-Some
returns-in-Some t c =
    let yes : is_if (kind_of (node_tree c.args.node)) ≡ true = sym (ap is_if c.kind.ensures) ∙ sym c.is_if.ensures ∙ c.if-not-is_if.false in
    on_ok c.push_tests.result
    (λ h. both-appended _ _ _ _ _ _ c.in_ok-push_test.ensures h (asked-more (node_tree c.args.node) (node_tree c.in-Some.alternate) _ yes c.part.ensures c.in-Some.ensures))
    c.push_tests.ensures

pub returns-in-None : goal.returns-in-None
returns-in-None t c =
    let yes : is_if (kind_of (node_tree c.args.node)) ≡ true = sym (ap is_if c.kind.ensures) ∙ sym c.is_if.ensures ∙ c.if-not-is_if.false in
    c.in_ok-push_test.ensures ∙ ap (λ l. c.args.out.now.items ++ l) (sym (asked-last (node_tree c.args.node) _ yes c.part.ensures c.in-None.ensures))
