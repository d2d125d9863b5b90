-- What is said of wrong words, with what to type instead.
use Rattle.std.specs.Prelude.{◌≡◌, ◌⊎◌, ℕ, List, [], ◌∷◌, ◌++◌, Bool, not, ◌&&◌, ◌||◌, ◌==◌, if◌then◌else◌, Option, codes, chars, nat_le, slice_get}
use Rattle.std.specs.Char.{is_ascii_alphanumeric}
use Rattle.std.specs.List.{list_all, list_any}
use Rattle.std.specs.Option.{option_map_or}
use Rattle.clap.specs.Words.{Text}
use Rattle.clap.specs.declared.error.kind.ErrorKind.{ErrorKind}
use Rattle.clap.specs.declared.error.kind.ErrorKind.TheVariants.{InvalidSubcommand}
use Rattle.commands.specs.Refusal.{WritesLine, refusal_line}
use Rattle.commands.specs.Refused.{no_memory}
use Rattle.command_line.specs.Shown.{escaped, is_hidden}

-- a character that a shell takes as it is: a letter or a digit, `-`, `.`, `/`, `_`, or one beyond ASCII that is seen
abbrev pub is_plain : ℕ → Bool
is_plain c = is_ascii_alphanumeric c || ((c == 45) || ((c == 46) || ((c == 47) || (c == 95)))) || (nat_le 128 c && not (is_hidden c))

-- a plain word with a `.` or a `/`
abbrev pub looks_like_file : Text → Bool
looks_like_file word = list_all is_plain (chars word) && list_any (λ c. (c == 46) || (c == 47)) (chars word)

-- the line that says what to type, behind an empty one
abbrev pub tip_line : Text → List ℕ
tip_line word = codes "\n  tip: jslint check " ++ word ++ 10 ∷ []

abbrev pub tip_for : Text → List ℕ
tip_for word = if looks_like_file word then tip_line word else []

-- what stands behind the text for wrong words: such a line where the word behind the program's name looks like a file and a command was wanted
abbrev pub tip_of : ErrorKind → List Text → List ℕ
tip_of InvalidSubcommand words = option_map_or tip_for (slice_get words 1) []
tip_of other words = []

-- the text is some text with the tip behind it, or says that memory was refused
abbrev pub IsMistake : List ℕ → List ℕ → Type 0
IsMistake tip text = ((said : List ℕ) × (text ≡ said ++ tip)) ⊎ (text ≡ refusal_line no_memory)

-- such a text was written, each hidden character escaped but line feeds, or a beginning of that and the writer has failed
abbrev pub WritesMistake : List ℕ → Option (List ℕ) → Option (List ℕ) → Bool → Type 0
WritesMistake tip before after failed = (text : List ℕ) × IsMistake tip text × WritesLine (escaped text) before after failed
