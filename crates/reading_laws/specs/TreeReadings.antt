-- The tokens of a text as a tree reads them. Where a token begins with `/` or `}` the characters don't tell which token it is, so ECMA-262 has
-- several goals (11): the tree tells by the places of its literals and of its elements of templates.
use Rattle.std.specs.Prelude.{ℕ, suc, Bool, false, not, cond, ◌&&◌, ◌||◌, ◌==◌, List, [], ◌∷◌, if◌then◌else◌, IsTrue}
use Rattle.std.specs.List.{list_any}
use Rattle.std.specs.Str.{chars}
use Rattle.tokens.specs.Alphabet.{one_of, begins_with}
use Rattle.tokens.specs.Comments.{hashbang}
use Rattle.tokens.specs.declared.token.Goal.{Goal}
use Rattle.tokens.specs.declared.token.Goal.TheVariants.{Div, RegExp, TemplateTail}
use Rattle.tokens.specs.Reading.{behind}
use Rattle.tokens.specs.Tokens.{LexicalToken, IsTokenAt, is_end, size}
use Rattle.tree.specs.declared.kind.Kind.TheVariants.{Literal, TemplateElement}
use Rattle.tree.specs.Tree.{Tree, node, text_of}
use Rattle.tree.specs.Flat.{post_order}
use Rattle.language.specs.Vocabulary.{is}

-- the node is a regular expression that begins at this place
abbrev pub is_regexp_at : ℕ → Tree → Bool
is_regexp_at at (node Literal text flags start stop parts) = at == start && begins_with (one_of "/") text
is_regexp_at at _ = false

-- the node is an element of a template that begins right after this place
abbrev pub is_element_after : ℕ → Tree → Bool
is_element_after at (node TemplateElement text flags start stop parts) = suc at == start
is_element_after at _ = false

-- the goal by which the tree reads the token that begins at a place
abbrev pub tree_goal : Tree → ℕ → Goal
tree_goal n at =
    if list_any (is_regexp_at at) (post_order n) then RegExp
    else if list_any (is_element_after at) (post_order n) then TemplateTail
    else Div

-- from a place to the end of the text: each token by the goal of the tree
pub data IsTreeReading (n : Tree) : ℕ → List ℕ → List LexicalToken → Type 0 where
  last : {at : ℕ} {cs : List ℕ} {token : LexicalToken} → IsTokenAt (tree_goal n token.start) at cs token [] → IsTrue (is_end token.class) →
      IsTreeReading n at cs (token ∷ [])
  more : {at : ℕ} {cs rest : List ℕ} {token : LexicalToken} {tokens : List LexicalToken} → IsTokenAt (tree_goal n token.start) at cs token rest →
      IsTrue (not (is_end token.class)) → IsTreeReading n token.stop rest tokens → IsTreeReading n at cs (token ∷ tokens)

-- the line of `#!` that a text with this tree begins with, in the language of 2022 (12.5 of the 14th edition)
abbrev pub hashbang_line : Tree → List ℕ → List ℕ
hashbang_line n text = cond (is (text_of n) "2022" || is (text_of n) "module") (hashbang (chars text)) []

-- the tokens of the text behind it
abbrev pub IsReadingBehind : Tree → List ℕ → List LexicalToken → Type 0
IsReadingBehind n text tokens = IsTreeReading n (size (hashbang_line n text)) (behind text (size (hashbang_line n text))) tokens
