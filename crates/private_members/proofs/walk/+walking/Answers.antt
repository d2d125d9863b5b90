use Rattle.std.proofs.Common.{◌≡◌, ◌<◌, ◌≤◌, ◌++◌, true, false, option_map, subst, sym, ap, ◌∙◌}
use Rattle.rule_words.proofs.Results.{on_ok}
use Rattle.tree.specs.Node.{node_tree}
use Rattle.tree.specs.Tree.{kind_of, parts_of, text_of}
use Rattle.name_tables.specs.PatternParts.{at_part}
use Rattle.private_members.specs.Uses.{is_class_body, uses_in, uses_of}
use Rattle.private_members.proofs.Walks.{found-class, found-end, found-plain, found-turn, grown, uses-class, uses-end, uses-plain, uses-turn}
use Rattle.private_members.proofs.walk.+walking.Goals as goal

pub push_node-returns-then-not-is_class_body-clause-uses : goal.push_node-returns-then-not-is_class_body-clause-uses
push_node-returns-then-not-is_class_body-clause-uses t c =
    let no : is_class_body (kind_of (node_tree c.args.node)) ≡ false = sym (ap is_class_body c.kind.ensures) ∙ sym c.is_class_body.ensures ∙ c.if-not-is_class_body.true in
    on_ok c.push_parts.result (λ h. uses-plain c.args.standing (node_tree c.args.node) no _ _ _ c.in_ok-push_own.ensures h) c.push_parts.ensures.uses

pub push_node-returns-then-not-is_class_body-clause-found : goal.push_node-returns-then-not-is_class_body-clause-found
push_node-returns-then-not-is_class_body-clause-found t c =
    let no : is_class_body (kind_of (node_tree c.args.node)) ≡ false = sym (ap is_class_body c.kind.ensures) ∙ sym c.is_class_body.ensures ∙ c.if-not-is_class_body.true in
    on_ok c.push_parts.result (λ h. found-plain (node_tree c.args.node) no _ _ h) c.push_parts.ensures.found

pub push_node-returns-clause-uses : goal.push_node-returns-clause-uses
push_node-returns-clause-uses t c =
    let yes : is_class_body (kind_of (node_tree c.args.node)) ≡ true = sym (ap is_class_body c.kind.ensures) ∙ sym c.is_class_body.ensures ∙ c.if-not-is_class_body.false in
    let n = node_tree c.args.node in
    let same = c.deref.ensures.value ∙ c.in_ok-push_parts.ensures.uses ∙ ap (λ l. l ++ uses_in c.args.standing (kind_of n) (text_of n) 0 (parts_of n)) c.new-inner.ensures.items in
    on_ok c.leave_class.result (λ h. uses-class c.args.standing (node_tree c.args.node) yes _ _ _ _ c.in_ok-push_own.ensures same h) c.leave_class.ensures.uses

pub push_node-returns-clause-found : goal.push_node-returns-clause-found
push_node-returns-clause-found t c =
    let yes : is_class_body (kind_of (node_tree c.args.node)) ≡ true = sym (ap is_class_body c.kind.ensures) ∙ sym c.is_class_body.ensures ∙ c.if-not-is_class_body.false in
    let n = node_tree c.args.node in
    let same = c.deref.ensures.value ∙ c.in_ok-push_parts.ensures.uses ∙ ap (λ l. l ++ uses_in c.args.standing (kind_of n) (text_of n) 0 (parts_of n)) c.new-inner.ensures.items in
    on_ok c.leave_class.result (λ h. found-class c.args.standing (node_tree c.args.node) yes _ _ _ _ c.in_ok-push_parts.ensures.found same h) c.leave_class.ensures.found

pub push_parts-loop-index-preserved : goal.push_parts-loop-index-preserved
push_parts-loop-index-preserved t c =
    let i = c.loop-index.index in
    let n = node_tree c.args.node in
    let l = subst (λ m. i < m) c.part_count-index-end.ensures c.loop-index-test.true in
    record {
      uses = uses-turn c.args.standing (kind_of n) (text_of n) (parts_of n) i _ _ _ _ l c.part.ensures
          (c.in_ok-push_part.ensures.uses ∙ ap (λ st. c.loop-index.uses.items ++ at_part (uses_of st) (option_map node_tree c.part.result)) c.at.ensures) c.loop-index.invariant.uses;
      found = found-turn (parts_of n) i _ _ _ _ l c.part.ensures c.in_ok-push_part.ensures.found c.loop-index.invariant.found;
      kept = grown _ _ _ c.loop-index.invariant.kept c.in_ok-push_part.ensures.kept;
    }

pub push_parts-returns-clause-uses : goal.push_parts-returns-clause-uses
push_parts-returns-clause-uses t c =
    let n = node_tree c.args.node in
    uses-end c.args.standing (kind_of n) (text_of n) (parts_of n) c.loop-index.index _ _ (subst (λ m. m ≤ c.loop-index.index) c.part_count-index-end.ensures c.loop-index-test.false) c.loop-index.invariant.uses

pub push_parts-returns-clause-found : goal.push_parts-returns-clause-found
push_parts-returns-clause-found t c =
    let n = node_tree c.args.node in
    found-end (parts_of n) c.loop-index.index _ _ (subst (λ m. m ≤ c.loop-index.index) c.part_count-index-end.ensures c.loop-index-test.false) c.loop-index.invariant.found
