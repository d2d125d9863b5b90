use Rattle.std.proofs.Common.{◌≡◌, ◌++◌, ◌<◌, ◌≤◌, true, false, map, option_map, subst, sym, ap, ◌∙◌}
use Rattle.rule_words.proofs.Results.{on_ok}
use Rattle.tree.specs.Node.{node_tree}
use Rattle.tree.specs.Tree.{kind_of, parts_of, part_at, part_count}
use Rattle.name_tables.proofs.EachPart.{push-turn, push-end}
use Rattle.repetition_rules.specs.Chains.{chain_reports}
use Rattle.repetition_rules.specs.Rows.{of_test}
use Rattle.repetition_rules.specs.Tests.{is_if, moot_at}
use Rattle.repetition_rules.proofs.Chaining.{at-chain, below-if, below-other}
use Rattle.repetition_rules.proofs.Passes.{grown}
use Rattle.repetition_rules.proofs.else_if.push_chains_below.Goals as goal

pub returns-then-is_if-clause-found : goal.returns-then-is_if-clause-found
returns-then-is_if-clause-found c =
    let out = c.args.out.now.items in
    let yes : is_if (kind_of (node_tree c.args.node)) ≡ true = sym (ap is_if c.kind.ensures) ∙ sym c.is_if.ensures ∙ c.if-is_if.true in
    on_ok c.push_chain.result (λ h. h ∙ ap (λ o. out ++ map (of_test c.args.rule) (moot_at o)) c.part.ensures ∙ ap (λ l. out ++ l) (below-if c.args.rule (node_tree c.args.node) yes)) c.push_chain.ensures.found

pub loop-index-preserved : goal.loop-index-preserved
loop-index-preserved c =
    let i = c.loop-index.index in
    record {
      found = push-turn (chain_reports c.args.rule) (parts_of (node_tree c.args.node)) i _ c.loop-index.out.items c.push_chain-in-loop-index.new.out.items _
          (subst (λ n. i < n) (c.len-index-end.ensures ∙ ap part_count c.parts-parts.ensures) c.loop-index-test.true) (c.get.ensures ∙ ap (λ q. part_at q i) c.parts-parts.ensures)
          (c.in_ok-push_chain.ensures.found ∙ ap (λ l. c.loop-index.out.items ++ l) (at-chain c.args.rule (option_map node_tree c.get.result))) c.loop-index.invariant.found;
      kept = grown c.args.out.now.items c.loop-index.out.items c.push_chain-in-loop-index.new.out.items c.loop-index.invariant.kept c.in_ok-push_chain.ensures.kept;
    }

pub returns-clause-found : goal.returns-clause-found
returns-clause-found c =
    let no : is_if (kind_of (node_tree c.args.node)) ≡ false = sym (ap is_if c.kind.ensures) ∙ sym c.is_if.ensures ∙ c.if-is_if.false in
    push-end (chain_reports c.args.rule) (parts_of (node_tree c.args.node)) c.loop-index.index c.loop-index.out.items _
    (subst (λ n. n ≤ c.loop-index.index) (c.len-index-end.ensures ∙ ap part_count c.parts-parts.ensures) c.loop-index-test.false) c.loop-index.invariant.found
    ∙ ap (λ l. c.args.out.now.items ++ l) (below-other c.args.rule (node_tree c.args.node) no)
