-- When a text has the comments of another.
use Rattle.std.specs.Prelude.{◌≡◌, ℕ, List, [], ◌∷◌, ◌++◌}
use Rattle.tokens.specs.Tokens.{LexicalToken}
use Rattle.tree.specs.Tree.{Tree}
use Rattle.reading_laws.specs.TreeReadings.{IsReadingBehind, hashbang_line}
use Rattle.unwrapping.specs.Keeps.{Comment, SpacedToken, spaced_tokens}

-- the comments before all tokens of a text, its end included
abbrev pub all_comments : List SpacedToken → List Comment
all_comments [] = []
all_comments (s ∷ ss) = s.comments ++ all_comments ss

-- A text with this tree, and one that is made of it: the comments are the same, in order, byte for byte, and so is the line of `#!`.
abbrev pub KeepsComments : List ℕ → Tree → List ℕ → Tree → Type 0
KeepsComments text n next again =
    (hashbang_line n text ≡ hashbang_line again next)
    × ((before after : List LexicalToken) (reading : IsReadingBehind n text before) (reading_again : IsReadingBehind again next after) →
    all_comments (spaced_tokens reading) ≡ all_comments (spaced_tokens reading_again))
