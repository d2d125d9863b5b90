-- The comments of a script, from `//` to before the line end, or from `/*` to `*/` (ECMA-262 11.4): what stands outside its literals and parts of
-- templates is read character by character. Places count bytes.
use Rattle.std.specs.Prelude.{ℕ, ◌+◌, cond, length, List, [], ◌∷◌, ◌++◌, Option, Some, None}
use Rattle.std.specs.Str.{chars}
use Rattle.source_text.specs.Lines.{is_line_terminator}
use Rattle.tokens.specs.Alphabet.{one_of}
use Rattle.tokens.specs.Tokens.{size}
use Rattle.tree.specs.declared.kind.Span.{Span}
use Rattle.tree.specs.Tree.{Tree, kind_of, start_of}
use Rattle.tree.specs.Flat.{post_order}
use Rattle.text_rules.specs.declared.spot.Spot.{Spot}
use Rattle.text_rules.specs.declared.spot.Spot.TheVariants.{Outside, Slash, LineComment, BlockComment, Star}
use Rattle.text_rules.specs.Spots.{spot_after}
use Rattle.text_rules.specs.Gaps.{piece}
use Rattle.text_rules.specs.Found.{is_opaque, opening, passed}

-- where the comment begins that may be read behind a character at a place
abbrev pub begun_after : Spot → (begun at : ℕ) → ℕ
begun_after Outside begun at = at
begun_after Slash begun at = begun
begun_after LineComment begun at = begun
begun_after BlockComment begun at = begun
begun_after Star begun at = begun

-- where a comment ends, if it does before or with a character that stands from one place to another
abbrev pub end_at : Spot → ℕ → (at stop : ℕ) → Option ℕ
end_at Outside c at stop = None
end_at Slash c at stop = None
end_at LineComment c at stop = cond (is_line_terminator c) (Some at) None
end_at BlockComment c at stop = None
end_at Star c at stop = cond (one_of "/" c) (Some stop) None

-- where it ends, if what is read ends at a place
abbrev pub last_end : Spot → ℕ → Option ℕ
last_end Outside at = None
last_end Slash at = None
last_end LineComment at = Some at
last_end BlockComment at = None
last_end Star at = None

abbrev pub ended : (begun : ℕ) → Option ℕ → List Span
ended begun None = []
ended begun (Some stop) = record { start = begun; end = stop } ∷ []

-- those that end in these characters, the first of which stands at a place
abbrev pub comments_from : Spot → (begun at : ℕ) → List ℕ → List Span
comments_from spot begun at [] = ended begun (last_end spot at)
comments_from spot begun at (c ∷ cs) =
    ended begun (end_at spot c at (at + size (c ∷ []))) ++ comments_from (spot_after spot c) (begun_after spot begun at) (at + size (c ∷ [])) cs

-- those between two places
abbrev pub comments_between : List ℕ → (from to : ℕ) → List Span
comments_between text from to = comments_from Outside from from (chars (piece text from to))

-- those from a place on up to a node, if that is a literal or a part of a template
abbrev pub comments_up_to : List ℕ → ℕ → Tree → List Span
comments_up_to text from tree = cond (is_opaque (kind_of tree)) (comments_between text from (start_of tree)) []

abbrev pub comments_outside : List ℕ → ℕ → List Tree → List Span
comments_outside text from [] = comments_between text from (length text)
comments_outside text from (tree ∷ trees) = comments_up_to text from tree ++ comments_outside text (passed from tree) trees

-- the comments of a text with this tree
abbrev pub comments_of : List ℕ → Tree → List Span
comments_of text tree = comments_outside text (opening (chars text)) (post_order tree)
