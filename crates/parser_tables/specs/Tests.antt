-- Tests on the token that stands ahead.
use Rattle.std.specs.Prelude.{nat_eq, slice_index_or, Bool, ◌&&◌, ◌||◌, [], ◌∷◌, codes}
use Rattle.tokens.specs.declared.token.TokenClass.TheVariants.{IdentifierName, PrivateName, Template}
use Rattle.language.specs.Vocabulary.{among}
use Rattle.language.specs.Token.{Token, same_class, is_mark}
pub use Rattle.language.specs.Edges.{begins_key}
use Rattle.language.specs.Edges.{is_end}
use Rattle.language.specs.Languages.{is_of_2022}
use Rattle.token_cursor.specs.SourceText.{SourceText}
use Rattle.token_cursor.specs.Seen.{is_key_class}
use Rattle.language.specs.Continuations.{operation}
use Rattle.grammar.specs.Infix.{links}
use Rattle.parser_tables.specs.declared.statements.StatementListEnd.{StatementListEnd}
use Rattle.parser_tables.specs.declared.statements.StatementListEnd.TheVariants as until

-- it goes on with a part of a chain, or would, if it were no template
abbrev pub is_link : Token → Bool
is_link t = links (operation t)

abbrev pub is_template : Token → Bool
is_template t = same_class Template t.class

-- behind a word on the same line no argument begins with the token (13.8 to 13.10)
abbrev pub ends_word : Token → Bool
ends_word t = t.after_break || (is_end t || (is_mark (codes ";") t || is_mark (codes "}") t))

-- `in` or `of`
abbrev pub is_each : Token → Bool
is_each t = same_class IdentifierName t.class && among t.text ("in" ∷ "of" ∷ [])

-- a key without brackets (12.2.6), in a class perhaps a private name (15.7 of the 13th edition)
abbrev pub is_key : SourceText → Bool → Token → Bool
is_key text in_class t = is_key_class t.class || (in_class && (is_of_2022 text.language && same_class PrivateName t.class))

-- a list of statements ends before the token
abbrev pub ends : StatementListEnd → Token → Bool
ends until.ClosingBrace t = is_mark (codes "}") t
ends until.NextCase t = is_mark (codes "}") t || (same_class IdentifierName t.class && among t.text ("case" ∷ "default" ∷ []))
ends until.EndOfText t = is_end t

-- what goes on with `super` (12.3.7): a member, or where it may stand a call
abbrev pub continues_super : Bool → Token → Bool
continues_super takes_call t = is_mark (codes ".") t || (is_mark (codes "[") t || (takes_call && is_mark (codes "(") t))

-- a part of a template that isn't the first (11.8.6)
abbrev pub is_later_part : Token → Bool
is_later_part t = same_class Template t.class && nat_eq (slice_index_or t.text 0 0) 125
