use Rattle.std.proofs.Common.{◌≡◌}
use Rattle.tree.specs.Node.{node_tree}
use Rattle.tree.specs.Tree.{parts_of}
use Rattle.spelling_table.specs.Outlines.{parts_after}
use Rattle.spellings.specs.Entries.{specifiers_fit}
use Rattle.spellings.proofs.modules.specifiers_fit.Given as goal

abbrev pub invariant-loop-index : goal.invariant-loop-index
invariant-loop-index l = specifiers_fit (parts_after l.index (parts_of (node_tree l.import))) ≡ specifiers_fit (parts_after l.fn.from (parts_of (node_tree l.import)))
