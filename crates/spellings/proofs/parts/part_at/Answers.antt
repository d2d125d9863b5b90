use Rattle.std.proofs.Common.{ap, ◌∙◌, arith}
use Rattle.tree.specs.Node.{node_tree}
use Rattle.tree.specs.Tree.{parts_of}
use Rattle.spellings.specs.declared.parts.PartAt.TheVariants.{Part}
use Rattle.spellings.proofs.PartsAtIndices.{entry_some, entry_gap, entry_past}
use Rattle.spellings.proofs.parts.part_at.Goals as goal

pub returns-in-Some : goal.returns-in-Some
returns-in-Some c = ap (λ k. Part k) c.kind.ensures ∙ entry_some (parts_of (node_tree c.args.node)) c.args.index (node_tree c.in-Some.part) c.in-Some.ensures

pub returns-in-None : goal.returns-in-None
returns-in-None c = entry_gap (parts_of (node_tree c.args.node)) c.args.index c.in-None.ensures (omega (arith, c.part_count.ensures, c.if-index-part_count.true))

pub returns-in-None-2 : goal.returns-in-None-2
returns-in-None-2 c = entry_past (parts_of (node_tree c.args.node)) c.args.index (omega (arith, c.part_count.ensures, c.if-index-part_count.false))
