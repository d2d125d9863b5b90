-- Properties and members, by what stands before their name, and their keys.
use Rattle.std.specs.Prelude.{◌≡◌, ℕ, ◌<◌, Option, Some, None, Bool, false, ◌&&◌}
use Rattle.source_text.specs.declared.fault.Fault.{Fault}
use Rattle.source_text.specs.declared.fault.Fault.TheVariants.{Syntax, TooDeep, OutOfMemory}
use Rattle.tokens.specs.declared.token.Goal.TheVariants.{Div}
use Rattle.tokens.specs.declared.token.Token.{Token as Scanned}
use Rattle.tokens.specs.Scanned.{token_of}
use Rattle.token_cursor.specs.CursorState.{CursorState}
use Rattle.language.specs.Token.{Token, as_read}
use Rattle.recursive_descent.specs.declared.properties.PropertyName.{PropertyName}
use Rattle.parser_tables.specs.Methods.{is_constructor}
use Rattle.token_cursor.specs.Seen.{MissesBy}
use Rattle.parser_tables.specs.Tests.{is_key}
use Rattle.parser_tables.specs.Tokens.{key_node}
use Rattle.token_cursor.specs.SourceText.{SourceText, behind_in, unseen}

-- the key that a token is, which was passed
abbrev pub KeyRead : SourceText → Bool → Token → PropertyName → Option Scanned → Type 0
KeyRead text in_class last key None = ⊥
KeyRead text in_class last key (Some t) =
    (last ≡ unseen (as_read (token_of t)))
    × (behind_in text last ≡ as_read (token_of t))
    × (key ≡ record { node = key_node (token_of t); computed = false; token = Some t; is_constructor = in_class && is_constructor t.class t.text.now })

abbrev pub NoKey : Bool → CursorState → ℕ → Fault → Type 0
NoKey in_class s high (Syntax at) = MissesBy s.text Div (is_key s.text in_class) s.last
NoKey in_class s high TooDeep = high < 1
NoKey in_class s high OutOfMemory = Unit {0}
NoKey in_class s high _ = ⊥
