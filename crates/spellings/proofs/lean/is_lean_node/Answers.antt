use Rattle.std.proofs.Common.{◌∙◌}
use Rattle.tree.specs.Node.{node_tree}
use Rattle.spellings.specs.Spelled.{lean_label}
use Rattle.spellings.proofs.Given.{lean_of}
use Rattle.spellings.proofs.lean.is_lean_node.Goals as goal

pub returns : goal.returns
returns c = c.is_lean_label.ensures ∙ (λ i. lean_label (c.kind.ensures i) (c.text.ensures i) (c.flags.ensures i)) ∙ lean_of (node_tree c.args.node)
