use Rattle.std.proofs.Common.{◌∙◌, sym, ap, arith}
use Rattle.tree.specs.Node.{node_tree}
use Rattle.tree.specs.Tree.{parts_of}
use Rattle.spellings.specs.Entries.{is_gap}
use Rattle.spellings.proofs.LastParts.{past_gap, past_tested, past_untested, found_twice, found_once}
use Rattle.spellings.proofs.dangling.has_two_defaults.Goals as goal

pub loop-index-preserved-in_default : goal.loop-index-preserved-in_default
loop-index-preserved-in_default c =
    past_gap (parts_of (node_tree c.args.node)) c.loop-index.index c.loop-index.found c.loop-index.invariant c.in_default.ensures (omega (arith, c.part_count-index-end.ensures, c.loop-index-test.true))

pub loop-index-preserved-then-not-is_gap : goal.loop-index-preserved-then-not-is_gap
loop-index-preserved-then-not-is_gap c =
    past_tested (parts_of (node_tree c.args.node)) c.loop-index.index c.loop-index.found (node_tree c.in-Some.case) c.loop-index.invariant c.in-Some.ensures
    (sym (c.is_gap.ensures ∙ ap is_gap c.part_at.ensures) ∙ c.if-not-is_gap.true)

pub returns-then-found : goal.returns-then-found
returns-then-found c =
    found_twice (parts_of (node_tree c.args.node)) c.loop-index.index c.loop-index.found (node_tree c.in-Some.case) c.loop-index.invariant c.if-found.true c.in-Some.ensures
    (sym (c.is_gap.ensures ∙ ap is_gap c.part_at.ensures) ∙ c.if-not-is_gap.false)

pub loop-index-preserved : goal.loop-index-preserved
loop-index-preserved c =
    past_untested (parts_of (node_tree c.args.node)) c.loop-index.index c.loop-index.found (node_tree c.in-Some.case) c.loop-index.invariant c.if-found.false c.in-Some.ensures
    (sym (c.is_gap.ensures ∙ ap is_gap c.part_at.ensures) ∙ c.if-not-is_gap.false)

pub returns : goal.returns
returns c =
    found_once (parts_of (node_tree c.args.node)) c.loop-index.index c.loop-index.found c.loop-index.invariant (omega (arith, c.part_count-index-end.ensures, c.loop-index-test.false))
