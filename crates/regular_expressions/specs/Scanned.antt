-- What the program's own calls say of a pattern's text.
use Rattle.std.specs.Prelude.{◌≡◌, ℕ, Bool, true, false, ◌-◌, List, [], ◌∷◌, ◌++◌, length, replicate, Option, Some, None, unwrap_or, encode_utf8_all}
use Rattle.std.specs.Str.{chars}
use Rattle.tokens.specs.Reading.{behind}
use Rattle.tokens.specs.Scanned.{Passed}
use Rattle.regular_expressions.specs.declared.piece.Piece.{Piece as ReaderPiece}
use Rattle.regular_expressions.specs.declared.piece.Piece.TheVariants.{Bar, Closing, Assertion, Looking, Grouping, Capturing, Naming, Repeating, Atom, Reference, NameReference}
use Rattle.regular_expressions.specs.declared.class.Ranges.{Ranges as ReaderRanges}
use Rattle.regular_expressions.specs.declared.class.Ranges.TheVariants.{Fresh, Member, Dashed}
use Rattle.regular_expressions.specs.declared.nested.Nested.{Nested as ReaderNested}
use Rattle.regular_expressions.specs.Classes.{class_behind, Ranges, fresh, member, dashed}
use Rattle.regular_expressions.specs.Names.{name_from}
use Rattle.regular_expressions.specs.Terms.{decimal_value, Piece, bar, closing, assertion, looking, grouping, capturing, naming, repeating, atom, reference, name_reference}
use Rattle.regular_expressions.specs.Patterns.{Nested}

-- What a production makes of the text at a place is this value, and it is read up to another place.
pub record IsRead {A : Type 0} (production : Option (A × List ℕ)) (value : A) (text : List ℕ) (at stop : ℕ) : Type 0 where
  pub word : List ℕ
  pub passed : Passed text at stop word
  pub found : production ≡ Some (value, behind text stop)

-- the same of a production without a value
pub record IsPassed (production : Option (List ℕ)) (text : List ℕ) (at stop : ℕ) : Type 0 where
  pub word : List ℕ
  pub passed : Passed text at stop word
  pub found : production ≡ Some (behind text stop)

-- what is left behind a place is what a function leaves of the text behind another
pub record IsEnd (rest_of : List ℕ → List ℕ) (text : List ℕ) (at stop : ℕ) : Type 0 where
  pub word : List ℕ
  pub passed : Passed text at stop word
  pub found : rest_of (behind text at) ≡ behind text stop

-- digits with zeros before them, so many in all
abbrev pub padded : List ℕ → ℕ → List ℕ
padded digits count = replicate (count - length digits) 0x30 ++ digits

-- behind one more atom, which begins with this character, ClassRanges go on with other ranges
pub record IsStep (u : Bool) (ranges : Ranges) (c : ℕ) (next : Ranges) (text : List ℕ) (at stop : ℕ) : Type 0 where
  pub word : List ℕ
  pub passed : Passed text at stop word
  pub goes_on : class_behind u (Some ranges) 0 (c ∷ behind text at) ≡ class_behind u (Some next) 0 (behind text stop)

-- the name that the text between `<` and `>` spells, in UTF-8
abbrev pub spelled : List ℕ → List ℕ
spelled word = encode_utf8_all (unwrap_or (name_from true 0 (chars word)) [])

abbrev pub piece_as : ReaderPiece → Piece
piece_as Bar = bar
piece_as Closing = closing
piece_as Assertion = assertion
piece_as Looking = looking
piece_as Grouping = grouping
piece_as Capturing = capturing
piece_as (Naming word) = naming (spelled word.now)
piece_as Repeating = repeating
piece_as Atom = atom
piece_as (Reference digits) = reference (decimal_value 0 digits.now)
piece_as (NameReference word) = name_reference (spelled word.now)

abbrev pub ranges_as : ReaderRanges → Ranges
ranges_as Fresh = fresh
ranges_as (Member v) = member v
ranges_as (Dashed v) = dashed v

abbrev pub ranges_if : Option ReaderRanges → Option Ranges
ranges_if None = None
ranges_if (Some r) = Some (ranges_as r)

abbrev pub nested_as : ReaderNested → List ℕ → Nested
nested_as z around = record { repeatable = z.repeatable; groups = z.groups; around = around }

abbrev pub nested_if : Option ReaderNested → List ℕ → Option Nested
nested_if None around = None
nested_if (Some z) around = Some (nested_as z around)

-- a piece that refers to a group, or names one
abbrev pub refers : Piece → Bool
refers (naming name) = true
refers (reference n) = true
refers (name_reference name) = true
refers _ = false
