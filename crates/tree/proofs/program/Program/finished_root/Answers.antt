use Rattle.std.proofs.Common.{◌∙◌}
use Rattle.tree.specs.declared.node_use.NodeUse.TheVariants.{NotEvaluated}
use Rattle.tree.proofs.PartRows.{root_holds}
use Rattle.tree.proofs.program.Program.finished_root.Goals as goal

pub returns-clause-rows : goal.returns-clause-rows
returns-clause-rows c =
    c.at.ensures.rows NotEvaluated (root_holds c.self.inside.tree c.new-last.result c.len.result c.self.invariant (c.len.ensures ∙ c.self.inside.tree.nodes.ok.0) c.new-last.ensures.within c.new-last.ensures.node c.new-last.ensures.tree).0

pub returns-clause-numbered : goal.returns-clause-numbered
returns-clause-numbered c =
    c.at.ensures.numbered NotEvaluated 1 (root_holds c.self.inside.tree c.new-last.result c.len.result c.self.invariant (c.len.ensures ∙ c.self.inside.tree.nodes.ok.0) c.new-last.ensures.within c.new-last.ensures.node c.new-last.ensures.tree)
