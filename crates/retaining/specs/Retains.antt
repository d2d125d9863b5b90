-- What formatting keeps of a text: its tokens, but for a few that may go or come, and its comments, each between the same two tokens.
use Rattle.std.specs.Prelude.{◌≡◌, ℕ, Bool, true, false, cond, not, ◌&&◌, ◌||◌, ◌==◌, List, [], ◌∷◌, ◌++◌, map, IsTrue}
use Prim.Native.String.{String}
use Rattle.std.specs.List.{list_all}
use Rattle.std.specs.Str.{bytes_eq, trim}
use Rattle.std.specs.Str.Lines.{lines}
use Rattle.tokens.specs.declared.token.TokenClass.{TokenClass}
use Rattle.tokens.specs.declared.token.TokenClass.TheVariants.{Punctuator}
use Rattle.tokens.specs.Lexical.{is_one_of_words}
use Rattle.tokens.specs.Tokens.{LexicalToken}
use Rattle.tree.specs.Tree.{Tree}
use Rattle.tree.specs.declared.kind.Pair.{Pair}
use Rattle.reading_laws.specs.TreeReadings.{IsReadingBehind, hashbang_line}
use Rattle.unwrapping.specs.Keeps.{Comment, SpacedToken, IsSameToken, spaced_tokens}

-- ---- comments

abbrev pub begins_with_star : List ℕ → Bool
begins_with_star [] = false
begins_with_star (c ∷ bytes) = c == 0x2A

-- each line but the first begins with `*`, blanks aside
abbrev pub is_starred : List (List ℕ) → Bool
is_starred [] = true
is_starred (line ∷ others) = list_all (λ l. begins_with_star (trim l)) others

-- What two comments have in common that are the same: their lines, whose ends are LF or CR LF. Where each line but the first begins with `*`,
-- so in a comment of one line too, the blanks at both ends of a line aside.
abbrev pub comment_lines : Comment → List (List ℕ)
comment_lines c = cond (is_starred (lines c.bytes)) (map trim (lines c.bytes)) (lines c.bytes)

abbrev pub all_lines : List Comment → List (List (List ℕ))
all_lines cs = map comment_lines cs

-- the second and third byte of U+2028 or U+2029
abbrev pub ends_separator : List ℕ → Bool
ends_separator [] = false
ends_separator (a ∷ []) = false
ends_separator (a ∷ b ∷ bytes) = a == 0x80 && (b == 0xA8 || b == 0xA9)

-- a line terminator comes (11.3)
abbrev pub begins_with_line_end : List ℕ → Bool
begins_with_line_end [] = false
begins_with_line_end (c ∷ bytes) = c == 0xA || c == 0xD || (c == 0xE2 && ends_separator bytes)

-- a line terminator is among these bytes
abbrev pub has_line_end : List ℕ → Bool
has_line_end [] = false
has_line_end (c ∷ bytes) = begins_with_line_end (c ∷ bytes) || has_line_end bytes

-- a line ends in or behind the first comment in these bytes between two tokens
abbrev pub breaks_behind_comment : List ℕ → Bool
breaks_behind_comment [] = false
breaks_behind_comment (c ∷ bytes) = cond (c == 0x2F) (has_line_end bytes) (breaks_behind_comment bytes)

-- a line ends in or behind one of some comments, or one that stands in these bytes behind them
abbrev pub breaks_behind : List Comment → List ℕ → Bool
breaks_behind [] gap = breaks_behind_comment gap
breaks_behind (c ∷ cs) gap = has_line_end gap

-- ---- tokens

abbrev pub is_punctuator : TokenClass → Bool
is_punctuator Punctuator = true
is_punctuator _ = false

-- what the definitions below ask of a token
pub record Word : Type 0 where
  pub class : TokenClass
  pub text : List ℕ

abbrev pub word : SpacedToken → Word
word s = record { class = s.token.class; text = s.token.text }

abbrev pub words : List SpacedToken → List Word
words ss = map word ss

-- the characters of the last three tokens that were passed
pub record Recent : Type 0 where
  pub last : List ℕ
  pub second : List ℕ
  pub third : List ℕ

-- What was passed of a text: its last three tokens, whether an operand may end with the last one, the comments that weren't found in the other
-- text yet, and whether a line ends in or behind one of them.
pub record Passed : Type 0 where
  pub recent : Recent
  pub is_operand : Bool
  pub comments : List Comment
  pub breaks : Bool

abbrev pub nothing_passed : Passed
nothing_passed = record { recent = record { last = []; second = []; third = [] }; is_operand = false; comments = []; breaks = false }

-- an operand may end with a token: no operator, and no word that stands before an operand or before a `*`, but as the name of a property
abbrev pub ends_operand : List ℕ → Word → Bool
ends_operand last w =
    cond (is_punctuator w.class) (is_one_of_words (")" ∷ "]" ∷ "}" ∷ "++" ∷ "--" ∷ []) w.text) (is_one_of_words ("." ∷ "?." ∷ []) last
    || not (is_one_of_words ("case" ∷ "typeof" ∷ "void" ∷ "delete" ∷ "in" ∷ "instanceof" ∷ "else" ∷ "do" ∷ "default" ∷ "extends" ∷ "function" ∷ "import" ∷ "export" ∷ []) w.text))

-- a line ends in or behind a comment that wasn't found yet, before a token
abbrev pub breaks_before : Passed → SpacedToken → Bool
breaks_before p s = p.breaks || breaks_behind p.comments s.gap

abbrev pub passing_word : Recent → List ℕ → Recent
passing_word r text = record { last = text; second = r.last; third = r.second }

-- one token further, with the comments before it
abbrev pub passing : Passed → SpacedToken → Passed
passing p s = record { recent = passing_word p.recent s.token.text; is_operand = ends_operand p.recent.last (word s); comments = p.comments ++ s.comments; breaks = breaks_before p s }

-- all comments were found
abbrev pub settled : Passed → Passed
settled p = record { recent = p.recent; is_operand = p.is_operand; comments = []; breaks = false }

abbrev pub is : String → Word → Bool
is text w = is_one_of_words (text ∷ []) w.text

-- the next tokens are these
abbrev pub begin_with : List String → List Word → Bool
begin_with [] ws = true
begin_with (text ∷ texts) [] = false
begin_with (text ∷ texts) (w ∷ ws) = is text w && begin_with texts ws

-- a closing bracket comes
abbrev pub is_before_closing : List Word → Bool
is_before_closing [] = false
is_before_closing (w ∷ ws) = is_one_of_words (")" ∷ "]" ∷ "}" ∷ []) w.text

-- the next token has these characters
abbrev pub next_has : List ℕ → List Word → Bool
next_has text [] = false
next_has text (w ∷ ws) = bytes_eq w.text text

-- a name comes, and perhaps a `,`, and then `)` and `=>`
abbrev pub is_plain_parameter : List Word → Bool
is_plain_parameter [] = false
is_plain_parameter (w ∷ ws) = not (is_punctuator w.class) && (begin_with (")" ∷ "=>" ∷ []) ws || begin_with ("," ∷ ")" ∷ "=>" ∷ []) ws)

abbrev pub is_behind_import : List ℕ → Bool
is_behind_import text = is_one_of_words ("import" ∷ "," ∷ []) text

-- `{` or `}` of an import without names, or `from` behind it where nothing else is imported
abbrev pub is_of_no_names : Recent → Word → List Word → Bool
is_of_no_names r w ws =
    (is "{" w && is_behind_import r.last && begin_with ("}" ∷ "from" ∷ []) ws)
    || (is "}" w && is_one_of_words ("{" ∷ []) r.last && is_behind_import r.second && begin_with ("from" ∷ []) ws)
    || (is "from" w && is_one_of_words ("}" ∷ []) r.last && is_one_of_words ("{" ∷ []) r.second && is_one_of_words ("import" ∷ []) r.third)

-- `as`, or the second `a`, of `a as a`
abbrev pub is_of_same_name : Recent → Word → List Word → Bool
is_of_same_name r w ws = (is "as" w && next_has r.last ws) || (is_one_of_words ("as" ∷ []) r.last && bytes_eq w.text r.second)

-- A token may go or come, by what was passed and what comes behind it: `;`; a `,` before a closing bracket; the parentheses of one plain
-- parameter of an arrow; `{ } from` of an import without names, or `, { }` behind a default; `as a` of `a as a`.
abbrev pub is_free : Recent → List Word → Bool
is_free r [] = false
is_free r (w ∷ ws) =
    is ";" w || (is "," w && (is_before_closing ws || begin_with ("{" ∷ "}" ∷ "from" ∷ []) ws)) || (is "(" w && is_plain_parameter ws)
    || (is ")" w && begin_with ("=>" ∷ []) ws) || is_of_no_names r w ws || is_of_same_name r w ws

-- the operators of two operands (13.6 to 13.13)
abbrev pub operators : List String
operators = "??" ∷ "||" ∷ "&&" ∷ "|" ∷ "^" ∷ "&" ∷ "==" ∷ "!=" ∷ "===" ∷ "!==" ∷ "<" ∷ ">" ∷ "<=" ∷ ">=" ∷ "in" ∷ "instanceof" ∷ "<<" ∷ ">>" ∷ ">>>" ∷ "+" ∷ "-" ∷ "*" ∷ "/" ∷ "%" ∷ "**" ∷ []

-- a comment may move over it: `,`, or an operator behind an operand
abbrev pub may_move_over : Bool → Word → Bool
may_move_over is_operand w = is "," w || (is_operand && is_one_of_words operators w.text)

-- ---- two texts

-- The tokens of a text and those of its formatted text are the same, in order, by class and characters, but for those that may go or come; and
-- `()` may come, as behind `new a`. So each grouping parenthesis stays. Between two that stay the comments are the same, in order. But all
-- comments before a `,` or an operator of two operands may move behind it, if a line ends in or behind one of them.
pub data AreRetained : Passed → Passed → List SpacedToken → List SpacedToken → Type 0 where
  all : {p q : Passed} → p.comments ≡ [] → q.comments ≡ [] → AreRetained p q [] []
  kept : {p q : Passed} {s t : SpacedToken} {ss ts : List SpacedToken} →
      IsSameToken s t → all_lines (p.comments ++ s.comments) ≡ all_lines (q.comments ++ t.comments) →
      AreRetained (settled (passing p s)) (settled (passing q t)) ss ts → AreRetained p q (s ∷ ss) (t ∷ ts)
  moved : {p q : Passed} {s t : SpacedToken} {ss ts : List SpacedToken} →
      IsSameToken s t → IsTrue (may_move_over p.is_operand (word s) && breaks_before p s) → q.comments ++ t.comments ≡ [] →
      AreRetained (passing p s) (settled (passing q t)) ss ts → AreRetained p q (s ∷ ss) (t ∷ ts)
  gone : {p q : Passed} {s : SpacedToken} {ss ts : List SpacedToken} →
      IsTrue (is_free p.recent (words (s ∷ ss))) → AreRetained (passing p s) q ss ts → AreRetained p q (s ∷ ss) ts
  come : {p q : Passed} {t : SpacedToken} {ss ts : List SpacedToken} →
      IsTrue (is_free q.recent (words (t ∷ ts))) → AreRetained p (passing q t) ss ts → AreRetained p q ss (t ∷ ts)
  called : {p q : Passed} {t u : SpacedToken} {ss ts : List SpacedToken} →
      IsTrue (begin_with ("(" ∷ ")" ∷ []) (words (t ∷ u ∷ ts))) → AreRetained p (passing (passing q t) u) ss ts → AreRetained p q ss (t ∷ u ∷ ts)

-- A text with this tree and these grouping pairs, and its formatted text: its tokens and comments are retained, and the line of `#!`.
abbrev pub Retains : List ℕ → Tree → List Pair → List ℕ → Tree → List Pair → Type 0
Retains text n pairs formatted again pairs_again =
    (hashbang_line n text ≡ hashbang_line again formatted)
    × ((before after : List LexicalToken) (reading : IsReadingBehind n text before) (reading_again : IsReadingBehind again formatted after) →
    AreRetained nothing_passed nothing_passed (spaced_tokens reading) (spaced_tokens reading_again))
