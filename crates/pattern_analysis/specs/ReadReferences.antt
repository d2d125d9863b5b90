-- What the program's own calls say of the references of a pattern.
use Rattle.std.specs.Prelude.{◌≡◌, ℕ, ◌<◌, ◌≤◌, Bool, false, List, [], ◌∷◌, ◌++◌, length, get_or, take, Option, Some, None, if◌then◌else◌}
use Rattle.std.specs.List.Sorted.{IsNonDecreasing, IsNonDecreasingBy}
use Rattle.tokens.specs.Alphabet.{one_of}
use Rattle.tokens.specs.Reading.{behind}
use Rattle.tokens.specs.Scanned.{Passed}
use Rattle.regular_expressions.specs.Terms.{decimal_value}
use Rattle.pattern_analysis.specs.declared.frame.Frame.{Frame}
use Rattle.pattern_analysis.specs.declared.marks.Mark.{Mark as ReaderMark}
use Rattle.pattern_analysis.specs.declared.marks.Mark.TheVariants.{Nothing, Opening, Closing, Bar, Reference}
use Rattle.pattern_analysis.specs.declared.reached.Reached.{Reached as ReaderReached}
use Rattle.pattern_analysis.specs.Marks.{Mark, opening, closing, bar, reference, escape_marks, escape_length, marks_from}
use Rattle.pattern_analysis.specs.UselessReferences.{Reached}

abbrev pub marks_as : ReaderMark → List Mark
marks_as Nothing = []
marks_as (Opening begun) = opening begun ∷ []
marks_as Closing = closing ∷ []
marks_as Bar = bar ∷ []
marks_as (Reference digits) = reference (decimal_value 0 digits.now) ∷ []

-- behind a backslash
pub record IsEscapeRead (mark : ReaderMark) (in_class : Bool) (text : List ℕ) (at stop : ℕ) : Type 0 where
  pub word : List ℕ
  pub passed : Passed text at stop word
  pub outside : in_class ≡ false
  pub goes_on : escape_marks (behind text at) ++ marks_from false (escape_length (behind text at)) (behind text at) ≡ marks_as mark ++ marks_from false 0 (behind text stop)

-- behind a character that stands in a class
pub record IsClassRead (c : ℕ) (text : List ℕ) (at stop : ℕ) : Type 0 where
  pub word : List ℕ
  pub passed : Passed text at stop word
  pub goes_on : (in_class : Bool) → marks_from in_class (if one_of "\\" c then 1 else 0) (behind text at) ≡ marks_from in_class 0 (behind text stop)

-- what is read, by a character before a place
pub record IsMarkRead (in_class : Bool) (c : ℕ) (mark : ReaderMark) (next : Bool) (text : List ℕ) (at stop : ℕ) : Type 0 where
  pub word : List ℕ
  pub passed : Passed text at stop word
  pub goes_on : marks_from in_class 0 (c ∷ behind text at) ≡ marks_as mark ++ marks_from next 0 (behind text stop)

abbrev pub reached_as : ReaderReached → List Frame → List ℕ → Reached
reached_as z around kept = record { frame = z.frame; around = around; count = z.count; kept = kept; awaited = z.awaited }

abbrev pub reached_if : Option ReaderReached → List Frame → List ℕ → Option Reached
reached_if None around kept = None
reached_if (Some z) around kept = Some (reached_as z around kept)

-- the first of these numbers, so many
pub record IsFront (part whole : List ℕ) : Type 0 where
  pub count : ℕ
  pub same : part ≡ take count whole

-- what a search by order stands on: frames begin in order, the outermost first, and groups are in order
pub record IsInOrder (frame : Frame) (count : ℕ) (around : List Frame) (kept : List ℕ) : Type 0 where
  pub nested : IsNonDecreasingBy (λ f. f.first) (around ++ frame ∷ [])
  pub begun : frame.first ≤ count
  pub rising : IsNonDecreasing kept
  pub below : (k : ℕ) → k < length kept → get_or kept k 0 ≤ count
