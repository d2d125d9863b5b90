use Rattle.std.proofs.Common.{[], ◌++◌, map, option_map, sym, ap, ◌∙◌, append-nil}
use Rattle.rule_words.proofs.Results.{on_ok}
use Rattle.tree.specs.Node.{node_tree}
use Rattle.repetition_rules.specs.Chains.{are_full, asking, moot_reports}
use Rattle.repetition_rules.specs.Rows.{of_test}
use Rattle.repetition_rules.specs.Tests.{moot_at, tests}
use Rattle.repetition_rules.proofs.Chaining.{are-full, reports-of, short-chain}
use Rattle.repetition_rules.proofs.else_if.push_chain.Goals as goal

pub push_each-requires-clause-full : goal.push_each-requires-clause-full
push_each-requires-clause-full c =
    let ts = tests (node_tree c.in-Some.node) in
    ap are_full (c.deref-2.ensures.value ∙ c.in_ok-push_tests.ensures ∙ ap (λ l. l ++ map asking ts) c.new-tests.ensures.items) ∙ are-full ts

pub returns-clause-found : goal.returns-clause-found
returns-clause-found c =
    let ts = tests (node_tree c.in-Some.node) in
    let out = c.args.out.now.items in
    let rule = c.args.rule in
    let same = c.deref-2.ensures.value ∙ c.in_ok-push_tests.ensures ∙ ap (λ l. l ++ map asking ts) c.new-tests.ensures.items in
    on_ok c.push_each.result
    (λ h. h ∙ ap (λ xs. out ++ moot_reports rule [] xs) same ∙ ap (λ l. out ++ l) (reports-of rule [] ts) ∙ ap (λ o. out ++ map (of_test rule) (moot_at (option_map node_tree o))) (sym c.in-Some.is))
    c.push_each.ensures.found

-- a node at which no chain of more than one test begins
pub returns-then-not-is_chain-clause-found : goal.returns-then-not-is_chain-clause-found
returns-then-not-is_chain-clause-found c =
    let out = c.args.out.now.items in
    let f = map (of_test c.args.rule) in
    sym (append-nil out) ∙ ap (λ l. out ++ f l) (sym (short-chain (node_tree c.in-Some.node) (sym c.is_chain.ensures ∙ c.if-not-is_chain.true)))
    ∙ ap (λ o. out ++ f (moot_at (option_map node_tree o))) (sym c.in-Some.is)
