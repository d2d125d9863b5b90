-- Rules that look at what stands between tokens, row by row: the name, what is said, the nodes that a rule looks at, and what it reports there.
use Rattle.std.specs.Prelude.{ℕ, ◌+◌, Bool, true, false, not, ◌&&◌, ◌||◌, cond, nat_eq, List, [], ◌∷◌, ◌++◌, Option, Some, None, codes}
use Rattle.std.specs.Str.{chars}
use Rattle.source_text.specs.Lines.{is_line_terminator}
use Rattle.tokens.specs.Alphabet.{is_among, is_white_space, one_of}
use Rattle.tokens.specs.Tokens.{size}
use Rattle.tree.specs.declared.kind.Kind.{Kind}
use Rattle.tree.specs.declared.kind.Kind.TheVariants.{ArrowFunctionExpression, AssignmentExpression, CallExpression, DoWhileStatement, ForStatement, IfStatement, MemberExpression, SequenceExpression, SwitchStatement, TaggedTemplateExpression, WhileStatement}
use Rattle.tree.specs.Tree.{Tree, flags_of, kind_of, part_at, parts_of, start_of, stop_of}
use Rattle.rule_words.specs.Reports.{Report}
use Rattle.text_rules.specs.declared.pairs.Pairs.{Pairs}
use Rattle.text_rules.specs.declared.pairs.Pairs.TheVariants.{MorePairs, NoPair, OnePair}
use Rattle.text_rules.specs.declared.reading.Reading.{Reading}
use Rattle.text_rules.specs.declared.text_rule.TextRule.{TextRule}
use Rattle.text_rules.specs.declared.text_rule.TextRule.TheVariants.{NoCondAssign, NoIrregularWhitespace, NoSequences, NoUnexpectedMultiline}
use Rattle.text_rules.specs.Gaps.{piece}
use Rattle.text_rules.specs.Readings.{after, opens, read_through, start}
use Rattle.text_rules.specs.Spots.{is_outside, is_token}

-- what settings and reports call a rule
abbrev pub called : TextRule → List ℕ
called NoCondAssign = codes "no-cond-assign"
called NoIrregularWhitespace = codes "no-irregular-whitespace"
called NoSequences = codes "no-sequences"
called NoUnexpectedMultiline = codes "no-unexpected-multiline"

abbrev pub says : TextRule → List ℕ
says NoCondAssign = codes "assignment as a condition"
says NoIrregularWhitespace = codes "irregular white space"
says NoSequences = codes "comma operator"
says NoUnexpectedMultiline = codes "goes on from the line before"

abbrev pub report_at : TextRule → ℕ → ℕ → Report
report_at rule from to = record { start = from; stop = to; rule = called rule; text = says rule }

-- ---- characters

-- white space (11.2) but tab and space, line terminators (11.3) but LF and CR
abbrev pub is_irregular : ℕ → Bool
is_irregular c = (is_white_space c || is_line_terminator c) && not (is_among c (9 ∷ 10 ∷ 13 ∷ 32 ∷ []))

-- the character is reported, where so much is known of what stands before it
abbrev pub marks : TextRule → Reading → ℕ → Bool
marks NoCondAssign r c = false
marks NoIrregularWhitespace r c = is_outside r.spot c && is_irregular c
marks NoSequences r c = is_token r.spot c && one_of "," c
marks NoUnexpectedMultiline r c = is_token r.spot c && (opens c && (r.broken && not r.opened))

abbrev pub report_if : Bool → TextRule → ℕ → ℕ → List Report
report_if so rule from to = cond so (report_at rule from to ∷ []) []

-- of these characters, the first of which stands at a place, each that is reported
abbrev pub marked : TextRule → Reading → ℕ → List ℕ → List Report
marked rule r at [] = []
marked rule r at (c ∷ cs) = report_if (marks rule r c) rule at (at + size (c ∷ [])) ++ marked rule (after r c) (at + size (c ∷ [])) cs

-- of those between two places
abbrev pub between : List ℕ → TextRule → ℕ → ℕ → List Report
between source rule from to = marked rule start from (chars (piece source from to))

-- ---- parts of nodes, each with its place among them, and the end of the part before it or the start of the node

abbrev pub looks : TextRule → Kind → Bool
looks NoCondAssign IfStatement = true
looks NoCondAssign WhileStatement = true
looks NoCondAssign DoWhileStatement = true
looks NoCondAssign ForStatement = true
looks NoCondAssign _ = false
looks NoIrregularWhitespace _ = false
looks NoSequences _ = true
looks NoUnexpectedMultiline CallExpression = true
looks NoUnexpectedMultiline MemberExpression = true
looks NoUnexpectedMultiline TaggedTemplateExpression = true
looks NoUnexpectedMultiline _ = false

-- its first expression has a pair that is no pair of its own: that of a head (13.6, 13.7, 13.12); an arrow's body (14.2) is to have one more
abbrev pub has_pair : Kind → Bool
has_pair IfStatement = true
has_pair WhileStatement = true
has_pair DoWhileStatement = true
has_pair SwitchStatement = true
has_pair ArrowFunctionExpression = true
has_pair _ = false

abbrev pub is_for : Kind → Bool
is_for ForStatement = true
is_for _ = false

abbrev pub are_too_few : Kind → Pairs → Bool
are_too_few kind NoPair = true
are_too_few kind OnePair = has_pair kind
are_too_few kind MorePairs = false

-- the part has no pair of its own, and is neither the first nor the last of a `for`
abbrev pub lacks_pair : List ℕ → Kind → (index from to : ℕ) → Bool
lacks_pair source kind index from to = not (is_for kind && not (nat_eq index 1)) && are_too_few kind (read_through (piece source from to)).pairs

abbrev pub is_assignment : Kind → Bool
is_assignment AssignmentExpression = true
is_assignment _ = false

abbrev pub is_sequence : Kind → Bool
is_sequence SequenceExpression = true
is_sequence _ = false

abbrev pub is_tagged : Kind → Bool
is_tagged TaggedTemplateExpression = true
is_tagged _ = false

-- the place behind a part that may be missing, or a place before it
abbrev pub behind_part : ℕ → Option Tree → ℕ
behind_part from None = from
behind_part from (Some tree) = stop_of tree

abbrev pub before_part : ℕ → Option Tree → ℕ
before_part to None = to
before_part to (Some tree) = start_of tree

-- the first comma of a sequence
abbrev pub first_comma : List ℕ → TextRule → Tree → List Report
first_comma source rule tree = between source rule (behind_part (start_of tree) (part_at (parts_of tree) 0)) (before_part (stop_of tree) (part_at (parts_of tree) 1))

-- behind the first part: a template, or a bracket without `?.`
abbrev pub second_part : List ℕ → TextRule → Tree → ℕ → Tree → List Report
second_part source rule parent from tree =
    cond (is_tagged (kind_of parent)) (report_if (read_through (piece source from (start_of tree))).broken rule (start_of tree) (stop_of tree))
    (cond (flags_of parent).optional [] (between source rule from (start_of tree)))

-- an assignment without a pair
abbrev pub condition : List ℕ → TextRule → Tree → (index from : ℕ) → Tree → List Report
condition source rule parent index from tree = report_if (is_assignment (kind_of tree) && lacks_pair source (kind_of parent) index from (start_of tree)) rule (start_of tree) (stop_of tree)

-- a sequence without one
abbrev pub sequence : List ℕ → TextRule → Tree → (index from : ℕ) → Tree → List Report
sequence source rule parent index from tree = cond (is_sequence (kind_of tree) && lacks_pair source (kind_of parent) index from (start_of tree)) (first_comma source rule tree) []

abbrev pub of_part : List ℕ → TextRule → Tree → (index from : ℕ) → Tree → List Report
of_part source NoCondAssign parent index from tree = condition source NoCondAssign parent index from tree
of_part source NoIrregularWhitespace parent index from tree = []
of_part source NoSequences parent index from tree = sequence source NoSequences parent index from tree
of_part source NoUnexpectedMultiline parent index from tree = cond (nat_eq index 1) (second_part source NoUnexpectedMultiline parent from tree) []
