use Rattle.std.proofs.Common.{◌<◌, ◌≤◌, subst}
use Rattle.std.specs.String.{string_bytes}
use Rattle.rule_words.proofs.Results.{on_ok}
use Rattle.tree.specs.Node.{node_tree}
use Rattle.tree.specs.Tree.{parts_of}
use Rattle.repetition_rules.proofs.Writing.{written-init, written-turn, written-end}
use Rattle.repetition_rules.proofs.written.+writing.Goals as goal

pub push_written-loop-index-init : goal.push_written-loop-index-init
push_written-loop-index-init t c = written-init (node_tree c.args.node) (string_bytes c.args.out.now) (string_bytes c.push_head.new.out) c.in_ok-push_head.ensures

pub push_written-loop-index-preserved : goal.push_written-loop-index-preserved
push_written-loop-index-preserved t c =
    written-turn (parts_of (node_tree c.args.node)) c.loop-index.index (string_bytes c.loop-index.out) (string_bytes c.push_part.new.out) _ c.loop-index.invariant _
    (subst (λ n. c.loop-index.index < n) c.part_count-index-end.ensures c.loop-index-test.true) c.part.ensures c.in_ok-push_part.ensures

pub push_written-returns : goal.push_written-returns
push_written-returns t c =
    on_ok c.push_text.result
    (λ h. written-end (parts_of (node_tree c.args.node)) c.loop-index.index (string_bytes c.loop-index.out) _ _ c.loop-index.invariant (subst (λ n. n ≤ c.loop-index.index) c.part_count-index-end.ensures c.loop-index-test.false) h)
    c.push_text.ensures
