-- What stands between two pieces: the widest that is asked for, and nothing before the first.
use Rattle.layout_items.specs.declared.gap.Gap.{Gap}
use Rattle.layout_items.specs.declared.gap.Gap.TheVariants.{Nothing, Space, LineEnd, EmptyLine, Beginning}

-- a space is asked for
abbrev pub spaced : Gap → Gap
spaced Nothing = Space
spaced g = g

-- a line end is asked for
abbrev pub ended : Gap → Gap
ended Nothing = LineEnd
ended Space = LineEnd
ended g = g

-- an empty line is asked for
abbrev pub parted : Gap → Gap
parted Beginning = Beginning
parted g = EmptyLine
