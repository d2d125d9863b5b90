use Rattle.std.proofs.Common.{◌≡◌}
use Rattle.tree.specs.Node.{node_tree}
use Rattle.tree.specs.Tree.{parts_of}
use Rattle.language.specs.FirstPart.{others}
use Rattle.spelling_table.specs.Outlines.{parts_after}
use Rattle.spellings.specs.Entries.{export_fits}
use Rattle.spellings.proofs.modules.export_fits.Given as goal

abbrev pub invariant-loop-index : goal.invariant-loop-index
invariant-loop-index l = export_fits (parts_after l.index (parts_of (node_tree l.export))) ≡ export_fits (others (parts_of (node_tree l.export)))
