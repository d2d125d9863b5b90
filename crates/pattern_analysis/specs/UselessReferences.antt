-- References of a pattern that match nothing but the empty String, whatever the text: where they are tried their group can't have been matched (ECMA-262,
-- 13th edition, 22.2.1, 22.2.2). The Terms of an Alternative are matched from the first to the last, in a lookbehind from the last to the first; of a
-- Disjunction one Alternative is matched; a group isn't matched while it is being matched; and what a negative lookaround matched is forgotten.
use Rattle.std.specs.Prelude.{ℕ, suc, ◌+◌, Bool, true, false, not, ◌&&◌, ◌||◌, List, [], ◌∷◌, ◌++◌, nat_eq, nat_le, nat_lt, Option, Some, None, if◌then◌else◌}
use Rattle.std.specs.List.{filter, list_any}
use Rattle.regular_expressions.specs.Patterns.{pattern_of}
use Rattle.pattern_analysis.specs.declared.frame.Frame.{Frame}
use Rattle.pattern_analysis.specs.declared.opening.Opening.{Opening}
use Rattle.pattern_analysis.specs.declared.opening.Opening.TheVariants.{Capturing, Grouping, Lookahead, Lookbehind}
use Rattle.pattern_analysis.specs.Marks.{Mark, opening, closing, bar, reference, marks_of}

-- A Frame is a group, a lookaround or the whole pattern: how many groups began before it, and before the Alternative in it that is read; whether it is a
-- negative lookaround; whether its Terms are matched from the last to the first; whether a lookbehind stands around them.

abbrev pub outermost : Frame
outermost = record { first = 0; since = 0; is_negative = false; is_backward = false; in_lookbehind = false }

-- a group in a frame
abbrev pub group_in : Frame → (first since : ℕ) → Frame
group_in frame first since =
    record { first = first; since = since; is_negative = false; is_backward = frame.is_backward; in_lookbehind = frame.in_lookbehind }

-- a lookaround in a frame
abbrev pub lookaround_in : Frame → ℕ → (is_backward is_negative : Bool) → Frame
lookaround_in frame count is_backward is_negative =
    record { first = count; since = count; is_negative = is_negative; is_backward = is_backward; in_lookbehind = is_backward || frame.in_lookbehind }

-- what was read of a pattern
pub record Reached : Type 0 where
  -- the frame that is read, and those around it, from within
  pub frame : Frame
  pub around : List Frame
  -- how many groups began, and which of them stand in no negative lookaround that ended
  pub count : ℕ
  pub kept : List ℕ
  -- the last group that a reference in a lookbehind waits for
  pub awaited : ℕ

abbrev pub begin : Reached
begin = record { frame = outermost; around = []; count = 0; kept = []; awaited = 0 }

-- the first of these frames in which a group stands, or another one
abbrev pub holding : ℕ → Frame → List Frame → Frame
holding n other [] = other
holding n other (frame ∷ around) = if nat_lt frame.first n then frame else holding n other around

abbrev pub is_among : ℕ → List ℕ → Bool
is_among n numbers = list_any (nat_eq n) numbers

-- A group that began is missed: it, or another Alternative with it, is read; it is matched later; or it is forgotten.
abbrev pub is_missed : ℕ → Frame → List ℕ → Bool
is_missed n frame kept = nat_le n frame.since || frame.is_backward || not (is_among n kept)

-- a reference waits for a group that didn't begin
abbrev pub awaiting : Reached → ℕ → Reached
awaiting z n = record z { awaited = if nat_le n z.awaited then z.awaited else n }

-- A reference to one of so many groups; a greater number refers to none (B.1.2). A group that begins later is matched before only in a lookbehind in which
-- both stand.
abbrev pub referred : ℕ → Reached → ℕ → Option Reached
referred groups z n =
    if nat_lt groups n then Some z
    else if nat_le n z.count then (if is_missed n (holding n outermost (z.frame ∷ z.around)) z.kept then None else Some z)
    else if z.frame.in_lookbehind then Some (awaiting z n)
    else None

abbrev pub up_to : ℕ → List ℕ → List ℕ
up_to last numbers = filter (λ n. nat_le n last) numbers

abbrev pub kept_behind : Frame → List ℕ → List ℕ
kept_behind frame kept = if frame.is_negative then up_to frame.first kept else kept

-- behind a `)`: none if a reference waits for a group that comes later still
abbrev pub closed : Reached → List Frame → Option Reached
closed z [] = Some z
closed z (outer ∷ around) =
    if not outer.in_lookbehind && nat_lt z.count z.awaited then None
    else Some (record z { frame = outer; around = around; kept = kept_behind z.frame z.kept })

abbrev pub opened : Reached → Frame → Reached
opened z frame = record z { frame = frame; around = z.frame ∷ z.around }

-- behind the `(` of a group that is numbered
abbrev pub numbered : Reached → Reached
numbered z = record z { count = z.count + 1; kept = z.kept ++ (z.count + 1) ∷ [] }

abbrev pub captured : Reached → Reached
captured z = opened (numbered z) (group_in z.frame z.count (z.count + 1))

abbrev pub looked : Reached → (is_backward is_negative : Bool) → Reached
looked z is_backward is_negative = opened z (lookaround_in z.frame z.count is_backward is_negative)

-- in what a `(` begins
abbrev pub in_frame : Reached → Opening → Reached
in_frame z Capturing = captured z
in_frame z Grouping = opened z (group_in z.frame z.count z.count)
in_frame z (Lookahead is_negative) = looked z false is_negative
in_frame z (Lookbehind is_negative) = looked z true is_negative

abbrev pub barred : Reached → Reached
barred z = record z { frame = record z.frame { since = z.count } }

-- behind a mark; none if a reference misses its group
abbrev pub behind : ℕ → Reached → Mark → Option Reached
behind groups z (opening begun) = Some (in_frame z begun)
behind groups z closing = closed z z.around
behind groups z bar = Some (barred z)
behind groups z (reference n) = referred groups z n

abbrev pub misses : ℕ → Option Reached → List Mark → Bool
misses groups None marks = true
misses groups (Some z) [] = false
misses groups (Some z) (mark ∷ marks) = misses groups (behind groups z mark) marks

-- how many groups are numbered
abbrev pub group_count : List Mark → ℕ
group_count [] = 0
group_count (opening Capturing ∷ marks) = suc (group_count marks)
group_count (_ ∷ marks) = group_count marks

-- of the raw text of a RegularExpressionLiteral
abbrev pub has_useless_reference : List ℕ → Bool
has_useless_reference literal = misses (group_count (marks_of (pattern_of literal))) (Some begin) (marks_of (pattern_of literal))
