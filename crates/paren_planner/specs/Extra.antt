-- Which grouping pairs are extra: all but the innermost of each wrapped node.
use Rattle.std.specs.Prelude.{◌+◌, ◌-◌, ◌^◌, min, Bool, true, false, not, cond, ◌&&◌, nat_eq, List, [], ◌∷◌, ◌++◌}
use Rattle.tree.specs.declared.kind.Span.{Span}
use Rattle.spellings.specs.declared.pairs.PairRow.{PairRow}
use Rattle.wrap_flags.specs.Flags.{is_flagged}

-- whether the first of these pairs is the innermost of its node: the next stands round another
abbrev pub is_innermost : List PairRow → Bool
is_innermost [] = false
is_innermost (g ∷ []) = true
is_innermost (g ∷ h ∷ gs) = not (nat_eq h.row g.row)

-- from a pair's `(` to behind its `)`, which is the next place, where there is a greater number of 64 bits
abbrev pub span_of : PairRow → Span
span_of g = record { start = g.left; end = min (g.right + 1) (2 ^ 64 - 1) }

-- the extra pairs, by which rows are wrapped
abbrev pub extra_spans : List Bool → List PairRow → List Span
extra_spans wrapped [] = []
extra_spans wrapped (g ∷ gs) = cond (is_innermost (g ∷ gs) && is_flagged wrapped g.row) [] (span_of g ∷ []) ++ extra_spans wrapped gs
