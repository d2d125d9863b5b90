use Rattle.std.proofs.Common.{◌≡◌, drop}
use Rattle.tree.specs.Flat.{post_order}
use Rattle.name_tables.specs.Keys.{among_each, declarable_names, nothing_read, read_names}
use Rattle.name_tables.proofs.key.HashKey.drawn_from.Given as goal

abbrev pub invariant-loop-number : goal.invariant-loop-number
invariant-loop-number l = read_names l.builder.hasher (among_each (drop l.number (post_order l.program))) ≡ read_names nothing_read (declarable_names l.program)
