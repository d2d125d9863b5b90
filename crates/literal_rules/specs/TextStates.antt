-- How far the raw text of a literal has been read, byte by byte: a RegularExpressionLiteral (12.9.5), a StringLiteral (12.9.4), TemplateCharacters
-- (12.9.6). A backslash takes the byte behind it; what is further of an escape reads like other text.
use Rattle.std.specs.Prelude.{ℕ, cond}
use Rattle.tokens.specs.Alphabet.{one_of}
use Rattle.literal_rules.specs.declared.text_state.TextState.{TextState}
use Rattle.literal_rules.specs.declared.text_state.TextState.TheVariants.{Slash, Body, BodyBackslash, ClassStart, Class, ClassBackslash, Flags, Quote, Double, DoubleBackslash, Single, SingleBackslash, Template, TemplateDollar, TemplateBackslash, Plain, Dollar, Opened, Inside}

-- RegularExpressionChars: `[` begins a class, `/` ends the body
abbrev pub next_in_body : ℕ → TextState
next_in_body c = cond (one_of "\\" c) BodyBackslash (cond (one_of "[" c) ClassStart (cond (one_of "/" c) Flags Body))

-- RegularExpressionClassChars
abbrev pub next_in_class : ℕ → TextState
next_in_class c = cond (one_of "\\" c) ClassBackslash (cond (one_of "]" c) Body Class)

abbrev pub next_of_quote : ℕ → TextState
next_of_quote c = cond (one_of "\"" c) Double Single

abbrev pub or_backslash : ℕ → (behind other : TextState) → TextState
or_backslash c behind other = cond (one_of "\\" c) behind other

abbrev pub next_in_template : ℕ → TextState
next_in_template c = cond (one_of "\\" c) TemplateBackslash (cond (one_of "$" c) TemplateDollar Template)

abbrev pub next_escaped : ℕ → TextState
next_escaped c = cond (one_of "$" c) TemplateDollar Template

-- a string in which `${`, at least one character and `}` may stand
abbrev pub next_plain : ℕ → TextState
next_plain c = cond (one_of "$" c) Dollar Plain

abbrev pub next_behind_dollar : ℕ → TextState
next_behind_dollar c = cond (one_of "{" c) Opened (cond (one_of "$" c) Dollar Plain)

abbrev pub next_opened : ℕ → TextState
next_opened c = cond (one_of "}" c) Plain Inside

abbrev pub next_state : TextState → ℕ → TextState
next_state Slash c = Body
next_state Body c = next_in_body c
next_state BodyBackslash c = Body
next_state ClassStart c = next_in_class c
next_state Class c = next_in_class c
next_state ClassBackslash c = Class
next_state Flags c = Flags
next_state Quote c = next_of_quote c
next_state Double c = or_backslash c DoubleBackslash Double
next_state DoubleBackslash c = Double
next_state Single c = or_backslash c SingleBackslash Single
next_state SingleBackslash c = Single
next_state Template c = next_in_template c
next_state TemplateDollar c = next_in_template c
next_state TemplateBackslash c = next_escaped c
next_state Plain c = next_plain c
next_state Dollar c = next_behind_dollar c
next_state Opened c = next_opened c
next_state Inside c = Inside
