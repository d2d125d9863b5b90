-- What rules that look at what stands between tokens find in a script, rule after rule.
use Rattle.std.specs.Prelude.{ℕ, ◌+◌, Bool, true, false, cond, length, List, [], ◌∷◌, ◌++◌, Option, Some, None}
use Rattle.std.specs.Str.{chars}
use Rattle.tokens.specs.Alphabet.{is_among}
use Rattle.tokens.specs.Comments.{hashbang}
use Rattle.tokens.specs.Tokens.{size}
use Rattle.tree.specs.declared.kind.Kind.{Kind}
use Rattle.tree.specs.declared.kind.Kind.TheVariants.{Literal, TemplateElement}
use Rattle.tree.specs.Tree.{Parts, Tree, gap, kind_of, none, part, parts_of, start_of, stop_of}
use Rattle.tree.specs.Flat.{post_order}
use Rattle.rule_words.specs.Reports.{Report}
use Rattle.text_rules.specs.declared.text_rule.TextRule.{TextRule}
use Rattle.text_rules.specs.declared.text_rule.TextRule.TheVariants.{NoCondAssign, NoIrregularWhitespace, NoSequences, NoUnexpectedMultiline}
use Rattle.text_rules.specs.Rows.{between, looks, of_part}

-- what is said of each
abbrev pub each : {X : Type 0} → (X → List Report) → List X → List Report
each f [] = []
each f (x ∷ xs) = f x ++ each f xs

-- ---- nodes

abbrev pub of_place : List ℕ → TextRule → Tree → (index from : ℕ) → Option Tree → List Report
of_place source rule parent index from None = []
of_place source rule parent index from (Some tree) = of_part source rule parent index from tree

-- of each part, from one on, where the part before ends there
abbrev pub of_parts : List ℕ → TextRule → Tree → (index from : ℕ) → Parts → List Report
of_parts source rule parent index from none = []
of_parts source rule parent index from (part tree rest) = of_part source rule parent index from tree ++ of_parts source rule parent (index + 1) (stop_of tree) rest
of_parts source rule parent index from (gap rest) = of_parts source rule parent (index + 1) from rest

abbrev pub of_node : List ℕ → TextRule → Tree → List Report
of_node source rule tree = cond (looks rule (kind_of tree)) (of_parts source rule tree 0 (start_of tree) (parts_of tree)) []

-- ---- the text outside literals and parts of templates

abbrev pub is_opaque : Kind → Bool
is_opaque Literal = true
is_opaque TemplateElement = true
is_opaque _ = false

-- up to a node, and the place from which on it goes on
abbrev pub up_to : List ℕ → TextRule → ℕ → Tree → List Report
up_to source rule from tree = cond (is_opaque (kind_of tree)) (between source rule from (start_of tree)) []

abbrev pub passed : ℕ → Tree → ℕ
passed from tree = cond (is_opaque (kind_of tree)) (stop_of tree) from

abbrev pub outside : List ℕ → TextRule → ℕ → List Tree → List Report
outside source rule from [] = between source rule from (length source)
outside source rule from (tree ∷ trees) = up_to source rule from tree ++ outside source rule (passed from tree) trees

-- a byte order mark is the first character
abbrev pub has_mark : List ℕ → Bool
has_mark [] = false
has_mark (c ∷ cs) = is_among c (0xFEFF ∷ [])

-- behind it, or the line of `#!` (12.5 of the 14th edition)
abbrev pub opening : List ℕ → ℕ
opening cs = cond (has_mark cs) 3 (size (hashbang cs))

-- ---- rules

abbrev pub reads_all : TextRule → Bool
reads_all NoCondAssign = false
reads_all NoIrregularWhitespace = true
reads_all NoSequences = false
reads_all NoUnexpectedMultiline = false

-- one rule
abbrev pub found_by_rule : List ℕ → TextRule → Tree → List Report
found_by_rule source rule tree = cond (reads_all rule) (outside source rule (opening (chars source)) (post_order tree)) (each (of_node source rule) (post_order tree))

abbrev pub found_by_rules : List ℕ → List TextRule → Tree → List Report
found_by_rules source rules tree = each (λ rule. found_by_rule source rule tree) rules
