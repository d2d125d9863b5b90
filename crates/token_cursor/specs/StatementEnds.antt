-- Where a statement ends at a text's own places, with its `;` or without (ECMA-262 11.9.1).
use Rattle.std.specs.Prelude.{◌≡◌, ℕ, Bool, true, false, List, [], codes}
use Rattle.language.specs.Pieces.{of_do, of_export, behind, behind_value, behind_key, ending}
use Rattle.language.specs.Pieces as Pieces
use Rattle.language.specs.Token.{Token}
use Rattle.language.specs.Derivation.{Step}
use Rattle.token_cursor.specs.declared.semicolon.StatementEnd.{StatementEnd}
use Rattle.token_cursor.specs.declared.semicolon.StatementEnd.TheVariants.{DoWhile, AfterExpression, AfterExport, AfterValue, AfterKey}
use Rattle.token_cursor.specs.declared.semicolon.FieldKey.{FieldKey}
use Rattle.token_cursor.specs.declared.semicolon.FieldKey.TheVariants.{Accessor, Static, Other}
use Rattle.token_cursor.specs.SourceText.{SourceText, SeenNext, behind_in}

-- a word with which a field of such a key goes on as it does
abbrev pub key_word : FieldKey → List ℕ
key_word Accessor = codes "get"
key_word Static = codes "static"
key_word Other = []

-- the table's word for the end of a statement
abbrev pub ending_of : StatementEnd → Pieces.Ending
ending_of DoWhile = of_do
ending_of (AfterExpression x) = behind x
ending_of AfterExport = of_export
ending_of (AfterValue x) = behind_value x
ending_of (AfterKey k) = behind_key (key_word k) false

-- the ends of exports and fields
abbrev pub is_later_end : StatementEnd → Bool
is_later_end AfterExport = true
is_later_end (AfterValue x) = true
is_later_end (AfterKey k) = true
is_later_end _ = false

-- behind one place the statement ends at another
abbrev pub EndsAt : SourceText → StatementEnd → Token → Token → Type 0
EndsAt text x s e = Step Token (SeenNext text) (behind_in text) (ending (ending_of x)) s e

-- and nowhere else
pub record IsEnd (text : SourceText) (x : StatementEnd) (s e : Token) : Type 0 where
  pub ends : EndsAt text x s e
  pub only : (other : Token) → EndsAt text x s other → other ≡ e
