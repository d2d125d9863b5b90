-- The goals of reading (ECMA-262 11): InputElementDiv, InputElementRegExp, InputElementTemplateTail. A reading chooses one for each token,
-- so InputElementRegExpOrTemplateTail isn't needed.
use Rattle.std.specs.Prelude.{ℕ, Bool, true, false, List, if◌then◌else◌}
use Rattle.std.specs.Bool.{beq}
use Rattle.tokens.specs.Alphabet.{one_of, begins_with}
use Rattle.tokens.specs.Lexical.{LexicalClass}
pub use Rattle.tokens.specs.declared.token.Goal.{Goal}
pub use Rattle.tokens.specs.declared.token.Goal.TheVariants.{Div, RegExp, TemplateTail}

-- whether `/` begins a regular expression
abbrev pub reads_regexps : Goal → Bool
reads_regexps RegExp = true
reads_regexps Div = false
reads_regexps TemplateTail = false

-- whether `}` begins a part of a template
abbrev pub reads_template_parts : Goal → Bool
reads_template_parts TemplateTail = true
reads_template_parts Div = false
reads_template_parts RegExp = false

abbrev pub is_regexp : LexicalClass → Bool
is_regexp LexicalClass.RegularExpressionLiteral = true
is_regexp _ = false

abbrev pub is_template_part : LexicalClass → Bool
is_template_part LexicalClass.Template = true
is_template_part _ = false

-- Whether a token of a class with such a text is read: what begins with `/` is a regular expression or a punctuator, and what begins
-- with `}` is a part of a template or a punctuator, as the goal says
abbrev pub allows : Goal → LexicalClass → List ℕ → Bool
allows goal class text =
    if begins_with (one_of "/") text then beq (is_regexp class) (reads_regexps goal)
    else if begins_with (one_of "}") text then beq (is_template_part class) (reads_template_parts goal)
    else true
