-- The parts that a witness stands for, by what they come from.
use Rattle.tree.specs.Patterns.{pattern_parts}
use Rattle.tree.specs.Tree.{Parts, node, none, part, push, push_gap, join, all_but, last_parts, only}
use Rattle.tree.specs.declared.witness.Witnessing.{Witnessing}
use Rattle.tree.specs.declared.witness.Witnessing.TheVariants as from

abbrev pub witnessed : Witnessing → Parts
witnessed from.Nothing = none
witnessed (from.Node kind text flags span parts) = part (node kind text.now flags span.start span.end parts.now.parts) none
witnessed (from.Push before last) = push before.now.parts (only last.now.parts)
witnessed (from.PushGap before) = push_gap before.now.parts
witnessed (from.Join before behind) = join before.now.parts behind.now.parts
witnessed (from.AllBut count of) = all_but count of.now.parts
witnessed (from.Last count of) = last_parts count of.now.parts
witnessed (from.Patterns of) = pattern_parts 0 of.now.parts
