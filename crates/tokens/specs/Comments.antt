-- Comments, and all that may stand between tokens (ECMA-262 11.2 to 11.4).
use Rattle.std.specs.Prelude.{◌≡◌, ℕ, Bool, false, not, cond, ◌&&◌, ◌||◌, List, [], ◌∷◌, ◌++◌, IsTrue}
use Rattle.std.specs.List.{list_any}
use Rattle.source_text.specs.Lines.{is_line_terminator}
use Rattle.tokens.specs.Alphabet.{one_of, begins_with, is_empty, is_white_space}

-- a comment can begin here, whether it ends or not
abbrev pub begins_comment : List ℕ → Bool
begins_comment [] = false
begins_comment (c ∷ cs) = one_of "/" c && begins_with (one_of "/*") cs

-- SingleLineComment (11.4): from `//` to before the next line terminator or the end of the text
abbrev pub is_line_comment : List ℕ → List ℕ → Bool
is_line_comment [] rest = false
is_line_comment (c ∷ cs) rest =
    one_of "/" c && begins_with (one_of "/") cs && not (list_any is_line_terminator cs) && (is_empty rest || begins_with is_line_terminator rest)

-- the first `*/` of the text is its end
abbrev pub closes_comment : List ℕ → Bool
closes_comment [] = false
closes_comment (c ∷ []) = false
closes_comment (c ∷ d ∷ []) = one_of "*" c && one_of "/" d
closes_comment (c ∷ d ∷ e ∷ cs) = not (one_of "*" c && one_of "/" d) && closes_comment (d ∷ e ∷ cs)

-- MultiLineComment (11.4): from `/*` to the next `*/`
abbrev pub is_block_comment : List ℕ → Bool
is_block_comment [] = false
is_block_comment (c ∷ []) = false
is_block_comment (c ∷ d ∷ cs) = one_of "/" c && one_of "*" d && closes_comment cs

-- a comment, where `rest` follows it
abbrev pub is_comment : List ℕ → List ℕ → Bool
is_comment body rest = is_line_comment body rest || is_block_comment body

-- what stands before the first line terminator
abbrev pub first_line : List ℕ → List ℕ
first_line [] = []
first_line (c ∷ cs) = cond (is_line_terminator c) [] (c ∷ first_line cs)

-- Hashbang (12.5 of the 14th edition): the first line of a text that begins with `#!`, else nothing
abbrev pub hashbang : List ℕ → List ℕ
hashbang (c ∷ d ∷ cs) = cond (one_of "#" c && one_of "!" d) (c ∷ d ∷ first_line cs) []
hashbang _ = []

-- nothing but white space, line terminators and comments, where `rest` follows
pub data Separators : List ℕ → List ℕ → Type 0 where
  nothing : {rest : List ℕ} → Separators [] rest
  blank : {c : ℕ} {gap rest : List ℕ} → IsTrue (is_white_space c || is_line_terminator c) → Separators gap rest → Separators (c ∷ gap) rest
  comment : {gap rest : List ℕ} → (body behind : List ℕ) → gap ≡ body ++ behind → IsTrue (is_comment body (behind ++ rest)) →
      Separators behind rest → Separators gap rest
