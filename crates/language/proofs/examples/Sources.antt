-- The tokens of a short text, for examples: ASCII, numbers of digits and letters alone, no comments, no braces inside a
-- template. Whether a `/` begins a regular expression is said by the caller for the whole text.
use Rattle.std.specs.Prelude.{ℕ, suc, Bool, true, false, cond, ◌&&◌, ◌||◌, List, [], ◌∷◌, ◌++◌, nat_le, nat_eq, codes, Option, Some, None}
use Prim.Native.String.{String}
use Rattle.tokens.specs.declared.token.TokenClass.{TokenClass}
use Rattle.tokens.specs.declared.token.TokenClass.TheVariants.{IdentifierName, Punctuator, NumericLiteral, StringLiteral, Template, RegularExpressionLiteral, End}
use Rattle.language.specs.Vocabulary.{among}
use Rattle.language.specs.Token.{Token}
use Rattle.language.specs.Cursor.{beginning}

-- what the next character may do to the token that has been begun
pub data Mode : Type 0 where
  -- a name or number, a punctuator, the body of a regular expression
  word mark body : Mode
  -- up to this character, and behind a backslash there
  quoted escaped : ℕ → Mode
  -- nothing more
  whole : Mode

pub record Scan : Type 0 where
  pub mode : Mode
  pub class : TokenClass
  -- of the token that has been begun; empty between tokens
  pub text : List ℕ
  pub start : ℕ
  pub at : ℕ
  pub after_break : Bool
  -- behind a `${`
  pub in_template : Bool
  -- the last first
  pub tokens : List Token

abbrev pub is_digit : ℕ → Bool
is_digit c = nat_le 48 c && nat_le c 57

abbrev pub is_word_character : ℕ → Bool
is_word_character c = is_digit c || ((nat_le 97 c && nat_le c 122) || ((nat_le 65 c && nat_le c 90) || (nat_eq c 36 || nat_eq c 95)))

-- the punctuators of more than one character, and what they begin with
abbrev pub is_longer_mark : List ℕ → Bool
is_longer_mark w = among w (".." ∷ "..." ∷ "<=" ∷ ">=" ∷ "==" ∷ "!=" ∷ "===" ∷ "!==" ∷ "**" ∷ "++" ∷ "--" ∷ "<<" ∷ ">>" ∷ ">>>" ∷ "&&" ∷ "||" ∷ "??" ∷ "?." ∷ "+=" ∷ "-=" ∷ "*=" ∷ "%=" ∷ "**=" ∷ "<<=" ∷ ">>=" ∷ ">>>=" ∷ "&=" ∷ "|=" ∷ "^=" ∷ "&&=" ∷ "||=" ∷ "??=" ∷ "=>" ∷ "/=" ∷ [])

abbrev pub behind_last : List ℕ → ℕ
behind_last [] = 0
behind_last (c ∷ []) = c
behind_last (c ∷ d ∷ cs) = behind_last (d ∷ cs)

-- the token takes the character
abbrev pub takes_on : Mode → List ℕ → ℕ → Option Mode
takes_on word w c = cond (is_word_character c) (Some word) None
takes_on mark w c = cond (is_longer_mark (w ++ c ∷ [])) (Some mark) None
takes_on body w c = cond (nat_eq c 47) (Some word) (Some body)
takes_on (quoted q) w c =
    cond (nat_eq c q || (nat_eq q 96 && (nat_eq c 123 && nat_eq (behind_last w) 36))) (Some whole) (Some (cond (nat_eq c 92) (escaped q) (quoted q)))
takes_on (escaped q) w c = Some (quoted q)
takes_on whole w c = None

-- how a token goes on that begins with the character, and its class
abbrev pub first_mode : Bool → Bool → ℕ → Mode × TokenClass
first_mode regexps in_template c =
    cond (is_word_character c) (word, cond (is_digit c) NumericLiteral IdentifierName) (
    cond (nat_eq c 34 || nat_eq c 39) (quoted c, StringLiteral) (
    cond (nat_eq c 96 || (in_template && nat_eq c 125)) (quoted 96, Template) (
    cond (regexps && nat_eq c 47) (body, RegularExpressionLiteral) (mark, Punctuator))))

abbrev pub is_template : TokenClass → Bool
is_template Template = true
is_template _ = false

abbrev pub ended : Scan → List ℕ → Scan
ended x [] = x
ended x (c ∷ cs) =
    record x { text = []; after_break = false; in_template = cond (is_template x.class) (nat_eq (behind_last (c ∷ cs)) 123) x.in_template; tokens = record { class = x.class; text = c ∷ cs; start = x.start; stop = x.at; after_break = x.after_break } ∷ x.tokens }

-- between two tokens: white space, or the first character of the next
abbrev pub begun : Bool → Scan → ℕ → Scan
begun regexps x c =
    cond (nat_eq c 32) (record x { at = suc x.at }) (
    cond (nat_eq c 10) (record x { at = suc x.at; after_break = true })
    (record x { mode = (first_mode regexps x.in_template c).0; class = (first_mode regexps x.in_template c).1; text = c ∷ []; start = x.at; at = suc x.at }))

abbrev pub gone_on : Bool → Scan → ℕ → Option Mode → Scan
gone_on regexps x c None = begun regexps (ended x x.text) c
gone_on regexps x c (Some m) = record x { mode = m; text = x.text ++ c ∷ []; at = suc x.at }

abbrev pub next_character : Bool → Scan → List ℕ → ℕ → Scan
next_character regexps x [] c = begun regexps x c
next_character regexps x (d ∷ ds) c = gone_on regexps x c (takes_on x.mode (d ∷ ds) c)

abbrev pub scanned : Bool → Scan → List ℕ → Scan
scanned regexps x [] = ended x x.text
scanned regexps x (c ∷ cs) = scanned regexps (next_character regexps x x.text c) cs

abbrev pub turned : List Token → List Token → List Token
turned [] us = us
turned (t ∷ ts) us = turned ts (t ∷ us)

abbrev pub with_end : Scan → List Token
with_end x = beginning ∷ turned x.tokens (record { class = End; text = []; start = x.at; stop = x.at; after_break = x.after_break } ∷ [])

abbrev pub tokens_by : Bool → String → List Token
tokens_by regexps s =
    with_end (scanned regexps (record { mode = whole; class = End; text = []; start = 0; at = 0; after_break = false; in_template = false; tokens = [] }) (codes s))

-- the tokens of a text, where `/` divides
abbrev pub tokens : String → List Token
tokens s = tokens_by false s

-- the tokens of a text, where `/` begins a regular expression
abbrev pub tokens_with_regexps : String → List Token
tokens_with_regexps s = tokens_by true s
