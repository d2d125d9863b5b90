-- Rules on the raw text of literals, row by row: the name, where the text of a literal is begun to be read, what is looked for, how a report is placed, and what
-- it says.
use Rattle.std.specs.Prelude.{ℕ, Bool, true, false, cond, List, Option, Some, None, codes}
use Rattle.tokens.specs.Alphabet.{one_of}
use Rattle.literal_rules.specs.declared.literal_rule.LiteralRule.{LiteralRule}
use Rattle.literal_rules.specs.declared.literal_rule.LiteralRule.TheVariants.{NoControlRegex, NoDivRegex, NoEmptyCharacterClass, NoRegexSpaces, NoScriptUrl, NoTemplateCurlyInString, NoUselessEscape}
use Rattle.literal_rules.specs.declared.text_state.TextState.{TextState}
use Rattle.literal_rules.specs.declared.text_state.TextState.TheVariants.{Slash, Quote, Plain}
use Rattle.literal_rules.specs.Bytes.{byte_at, is_quote}
use Rattle.literal_rules.specs.Escapes.{is_useless}
use Rattle.literal_rules.specs.Patterns.{are_spaces, begins_division, begins_script, closes, ends_class, is_control}

-- what settings and reports call a rule
abbrev pub called : LiteralRule → List ℕ
called NoControlRegex = codes "no-control-regex"
called NoDivRegex = codes "no-div-regex"
called NoEmptyCharacterClass = codes "no-empty-character-class"
called NoRegexSpaces = codes "no-regex-spaces"
called NoScriptUrl = codes "no-script-url"
called NoTemplateCurlyInString = codes "no-template-curly-in-string"
called NoUselessEscape = codes "no-useless-escape"

-- before a regular expression, before a string, before either
abbrev pub from_slash : List ℕ → Option TextState
from_slash text = cond (one_of "/" (byte_at text 0)) (Some Slash) None

abbrev pub from_quote : List ℕ → TextState → Option TextState
from_quote text state = cond (is_quote (byte_at text 0)) (Some state) None

abbrev pub from_any : List ℕ → Option TextState
from_any text = cond (is_quote (byte_at text 0)) (Some Quote) (from_slash text)

-- how a rule begins to read a literal; none if it asks nothing of it
abbrev pub begins_as : LiteralRule → List ℕ → Option TextState
begins_as NoControlRegex text = from_slash text
begins_as NoDivRegex text = from_slash text
begins_as NoEmptyCharacterClass text = from_slash text
begins_as NoRegexSpaces text = from_slash text
begins_as NoScriptUrl text = from_quote text Quote
begins_as NoTemplateCurlyInString text = from_quote text Plain
begins_as NoUselessEscape text = from_any text

-- what it looks for stands next
abbrev pub is_marked : LiteralRule → TextState → (rest : List ℕ) → Bool
is_marked NoControlRegex state rest = is_control state rest
is_marked NoDivRegex state rest = begins_division state rest
is_marked NoEmptyCharacterClass state rest = ends_class state rest
is_marked NoRegexSpaces state rest = are_spaces state rest
is_marked NoScriptUrl state rest = begins_script state rest
is_marked NoTemplateCurlyInString state rest = closes state rest
is_marked NoUselessEscape state rest = is_useless state rest

-- it reports each place, not just the first
abbrev pub is_each : LiteralRule → Bool
is_each NoUselessEscape = true
is_each _ = false

-- it reports the first place, not the node
abbrev pub is_at_mark : LiteralRule → Bool
is_at_mark NoRegexSpaces = true
is_at_mark _ = false

abbrev pub says : LiteralRule → List ℕ
says NoControlRegex = codes "control character"
says NoDivRegex = codes "looks like '/='"
says NoEmptyCharacterClass = codes "class without characters"
says NoRegexSpaces = codes "several spaces"
says NoScriptUrl = codes "code in a URL"
says NoTemplateCurlyInString = codes "template in a string"
says NoUselessEscape = codes "escape without use"
