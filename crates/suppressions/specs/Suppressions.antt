-- What directives ask for, rule by rule.
use Rattle.std.specs.Prelude.{ℕ, ◌+◌, Bool, cond, List, [], ◌∷◌, ◌++◌, Option, Some, None}
use Rattle.tree.specs.declared.kind.Span.{Span}
use Rattle.tree.specs.Tree.{Tree}
use Rattle.text_rules.specs.Gaps.{piece}
use Rattle.suppressions.specs.declared.directive.Directive.{Directive}
use Rattle.suppressions.specs.declared.suppression.Origin.{Origin}
use Rattle.suppressions.specs.declared.directive.Reach.{Reach}
use Rattle.suppressions.specs.declared.directive.Reach.TheVariants.{Line, NextLine, Region}
use Rattle.suppressions.specs.Comments.{comments_of}
use Rattle.suppressions.specs.Directives.{directive_of, reaches, turns_off}
use Rattle.suppressions.specs.Lines.{line_of}
use Rattle.suppressions.specs.Words.{begins_reason, body, is_block, words}

-- The reports of a rule, or of all, are turned off or on from a place or in a line on; the span is that of the comment.
pub record Suppression : Type 0 where
  pub start : ℕ
  pub stop : ℕ
  pub from : ℕ
  pub turns_off : Bool
  pub rule : Option (List ℕ)

-- from where on: for regions an offset, for lines the number of the line
abbrev pub from_of : Reach → List ℕ → Span → ℕ
from_of Region text comment = comment.start
from_of Line text comment = line_of text comment.start
from_of NextLine text comment = line_of text comment.end + 1

-- what the suppressions of a comment have in common
abbrev pub origin : Reach → List ℕ → Span → Directive → Origin
origin reach text comment directive = record { comment = comment; from = from_of reach text comment; turns_off = turns_off directive }

abbrev pub suppression : Origin → Option (List ℕ) → Suppression
suppression o rule = record { start = o.comment.start; stop = o.comment.end; from = o.from; turns_off = o.turns_off; rule = rule }

-- one for each name, up to the reason
abbrev pub for_names : Origin → List (List ℕ) → List Suppression
for_names o [] = []
for_names o (name ∷ names) = cond (begins_reason name) [] (suppression o (Some name) ∷ for_names o names)

-- where none is named, one for all rules
abbrev pub for_rules : Origin → List (List ℕ) → List Suppression
for_rules o [] = suppression o None ∷ []
for_rules o (name ∷ names) = cond (begins_reason name) (suppression o None ∷ []) (for_names o (name ∷ names))

abbrev pub of_directive : Reach → List ℕ → Span → (is_block : Bool) → Option Directive → List (List ℕ) → List Suppression
of_directive reach text comment is_block None names = []
of_directive reach text comment is_block (Some directive) names = cond (reaches reach is_block directive) (for_rules (origin reach text comment directive) names) []

abbrev pub of_words : Reach → Bool → List ℕ → Span → (is_block : Bool) → List (List ℕ) → List Suppression
of_words reach eslint text comment is_block [] = []
of_words reach eslint text comment is_block (word ∷ names) = of_directive reach text comment is_block (directive_of eslint word) names

-- those of a comment, of one reach
abbrev pub of_comment : Reach → Bool → List ℕ → Span → List Suppression
of_comment reach eslint text comment = of_words reach eslint text comment (is_block (piece text comment.start comment.end)) (words (body (piece text comment.start comment.end)))

abbrev pub of_comments : Reach → Bool → List ℕ → List Span → List Suppression
of_comments reach eslint text [] = []
of_comments reach eslint text (comment ∷ comments) = of_comment reach eslint text comment ++ of_comments reach eslint text comments

-- those of a script
abbrev pub suppressions_of : Reach → Bool → List ℕ → Tree → List Suppression
suppressions_of reach eslint text tree = of_comments reach eslint text (comments_of text tree)
