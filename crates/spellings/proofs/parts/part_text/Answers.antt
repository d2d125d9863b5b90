use Rattle.std.proofs.Common.{◌∙◌}
use Rattle.tree.specs.Node.{node_tree}
use Rattle.tree.specs.Tree.{parts_of}
use Rattle.spellings.proofs.PartsAtIndices.{text_some, text_none}
use Rattle.spellings.proofs.parts.part_text.Goals as goal

pub returns-in-Some : goal.returns-in-Some
returns-in-Some c = c.text.ensures ∙ text_some (parts_of (node_tree c.args.node)) c.args.index (node_tree c.in-Some.part) c.in-Some.ensures

pub returns-in-None : goal.returns-in-None
returns-in-None c = text_none (parts_of (node_tree c.args.node)) c.args.index c.in-None.ensures
