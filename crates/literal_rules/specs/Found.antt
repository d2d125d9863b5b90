-- What rules on the text of literals find in a script: of each node what each rule reports, parts before their node.
use Rattle.std.specs.Prelude.{ℕ, ◌+◌, Bool, true, false, ◌&&◌, nat_eq, cond, length, List, [], ◌∷◌, ◌++◌, Option, Some, None}
use Rattle.tree.specs.declared.kind.Kind.{Kind}
use Rattle.tree.specs.declared.kind.Kind.TheVariants.{Literal, TaggedTemplateExpression, TemplateElement, TemplateLiteral}
use Rattle.tree.specs.Flat.{post_order}
use Rattle.tree.specs.Tree.{Tree, kind_of, part_at, parts_of, start_of, stop_of, text_of}
use Rattle.name_tables.specs.BoundNames.{each_part}
use Rattle.rule_words.specs.Reports.{Report}
use Rattle.literal_rules.specs.declared.literal_rule.LiteralRule.{LiteralRule}
use Rattle.literal_rules.specs.declared.text_state.TextState.{TextState}
use Rattle.literal_rules.specs.declared.text_state.TextState.TheVariants.{Template}
use Rattle.literal_rules.specs.Marks.{each_mark, first_mark, reported}
use Rattle.literal_rules.specs.Rows.{begins_as, is_at_mark, is_each}

abbrev pub is_literal : Kind → Bool
is_literal Literal = true
is_literal _ = false

abbrev pub is_tagged : Kind → Bool
is_tagged TaggedTemplateExpression = true
is_tagged _ = false

abbrev pub is_template : Kind → Bool
is_template TemplateLiteral = true
is_template _ = false

abbrev pub is_element : Kind → Bool
is_element TemplateElement = true
is_element _ = false

-- A text is as long as its node's place. That of a part of a template has LF for CR LF (TRV, 12.9.6.1), and is shorter then.
abbrev pub has_whole_text : (start stop : ℕ) → List ℕ → Bool
has_whole_text start stop text = nat_eq (start + length text) stop

-- from where to where the first place in a text is reported
abbrev pub place_of : LiteralRule → (start stop : ℕ) → List ℕ → (at : ℕ) → ℕ × ℕ
place_of rule start stop text at = cond (is_at_mark rule && has_whole_text start stop text) (start + at, start + at + 1) (start, stop)

abbrev pub at_first : LiteralRule → Tree → Option ℕ → List Report
at_first rule tree None = []
at_first rule tree (Some at) =
    reported rule (place_of rule (start_of tree) (stop_of tree) (text_of tree) at).0 (place_of rule (start_of tree) (stop_of tree) (text_of tree) at).1

-- of a node's text, which a rule begins to read in a state
abbrev pub of_text : LiteralRule → TextState → Tree → List Report
of_text rule state tree =
    cond (is_each rule && has_whole_text (start_of tree) (stop_of tree) (text_of tree)) (each_mark rule state (start_of tree) (text_of tree)) (at_first rule tree (first_mark rule state 0 (text_of tree)))

abbrev pub from_state : LiteralRule → Option TextState → Tree → List Report
from_state rule None tree = []
from_state rule (Some state) tree = of_text rule state tree

abbrev pub of_literal : LiteralRule → Tree → List Report
of_literal rule tree = from_state rule (begins_as rule (text_of tree)) tree

abbrev pub of_element : LiteralRule → Tree → List Report
of_element rule tree = cond (is_element (kind_of tree)) (of_text rule Template tree) []

abbrev pub of_template : LiteralRule → Tree → List Report
of_template rule tree = cond (is_template (kind_of tree)) (each_part (of_element rule) (parts_of tree)) []

abbrev pub of_part : LiteralRule → Option Tree → List Report
of_part rule None = []
of_part rule (Some tree) = of_template rule tree

-- the templates among a node's parts; of a tagged template only the tag may be one
abbrev pub of_templates : LiteralRule → Tree → List Report
of_templates rule tree = cond (is_tagged (kind_of tree)) (of_part rule (part_at (parts_of tree) 0)) (each_part (of_template rule) (parts_of tree))

-- of a node: its text, if it is a literal, or its templates
abbrev pub of_node : LiteralRule → Tree → List Report
of_node rule tree = cond (is_literal (kind_of tree)) (of_literal rule tree) (cond (is_each rule) (of_templates rule tree) [])

-- what is said of each
abbrev pub each : {X : Type 0} → (X → List Report) → List X → List Report
each f [] = []
each f (x ∷ xs) = f x ++ each f xs

-- what rules say of nodes
abbrev pub over_nodes : List LiteralRule → List Tree → List Report
over_nodes rules trees = each (λ tree. each (λ rule. of_node rule tree) rules) trees

abbrev pub found_by_rules : List LiteralRule → Tree → List Report
found_by_rules rules tree = over_nodes rules (post_order tree)

-- one rule
abbrev pub found_by_rule : LiteralRule → Tree → List Report
found_by_rule rule tree = found_by_rules (rule ∷ []) tree
