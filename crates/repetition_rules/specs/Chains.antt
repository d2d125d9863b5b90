-- Tests of a chain of `if`, as the code goes over them.
use Rattle.std.specs.Prelude.{◌≡◌, ℕ, Bool, true, false, ◌&&◌, ◌||◌, cond, map, List, [], ◌∷◌, ◌++◌, Option, Some, None, codes}
use Rattle.std.specs.List.{list_any, list_all}
use Rattle.std.specs.Str.{bytes_eq}
use Rattle.tree.specs.Node.{node_tree}
use Rattle.tree.specs.Tree.{Tree, kind_of, text_of, part_at, parts_of, start_of, stop_of}
use Rattle.name_tables.specs.Sets.{contains}
use Rattle.name_tables.specs.declared.set.NameSet.{NameSet}
use Rattle.rule_words.specs.Reports.{Report}
use Rattle.repetition_rules.specs.declared.conditions.Sides.{Sides}
use Rattle.repetition_rules.specs.declared.repetition_rule.RepetitionRule.{RepetitionRule}
use Rattle.repetition_rules.specs.Rows.{moot_report, of_test}
use Rattle.repetition_rules.specs.Tests.{Choice, choices, is_covered, is_if, is_logical, moot_tests, split}

abbrev pub both : Option Tree → Option Tree → Option (Tree × Tree)
both (Some left) (Some right) = Some (left, right)
both (Some left) None = None
both None right = None

-- the two operands of a logical expression with this operator
abbrev pub operands : List ℕ → Tree → Option (Tree × Tree)
operands operator tree = cond (is_logical (kind_of tree) && bytes_eq (text_of tree) operator) (both (part_at (parts_of tree) 0) (part_at (parts_of tree) 1)) None

abbrev pub both_trees : Sides → Tree × Tree
both_trees x = (node_tree x.left, node_tree x.right)

-- the last operand
abbrev pub last_of : Choice → List ℕ
last_of [] = []
last_of (x ∷ []) = x
last_of (x ∷ y ∷ ys) = last_of (y ∷ ys)

abbrev pub is_full : Choice → Bool
is_full [] = false
is_full (x ∷ xs) = true

-- a test, what it asks, and what each operand of its `&&` asks
pub record Asking : Type 0 where
  pub start : ℕ
  pub stop : ℕ
  pub whole : List Choice
  pub operands : List (List Choice)

abbrev pub asking : Tree → Asking
asking tree = record { start = start_of tree; stop = stop_of tree; whole = choices tree; operands = map choices (split (codes "&&") tree) }

-- what all of these ask
abbrev pub asked_before : List Asking → List Choice
asked_before [] = []
asked_before (x ∷ xs) = x.whole ++ asked_before xs

abbrev pub is_all_covered : List Choice → List Choice → Bool
is_all_covered before condition = list_all (λ choice. is_covered before choice) condition

abbrev pub is_moot : List Asking → Asking → Bool
is_moot before x = is_all_covered (asked_before before) x.whole || list_any (λ condition. is_all_covered (asked_before before) condition) x.operands

-- each choice has a label
abbrev pub are_full : List Asking → Bool
are_full tests = list_all (λ choice. is_full choice) (asked_before tests)

-- the label is the last of one of these
abbrev pub is_last_of : List Choice → List ℕ → Bool
is_last_of condition w = list_any (λ choice. bytes_eq w (last_of choice)) condition

-- a set has the last labels of what tests ask
abbrev pub Knows : NameSet → List Asking → Type 0
Knows lasts tests = (w : List ℕ) → contains lasts w ≡ is_last_of (asked_before tests) w

-- what is reported of these, behind others
abbrev pub moot_reports : RepetitionRule → (before tests : List Asking) → List Report
moot_reports rule before [] = []
moot_reports rule before (x ∷ xs) = moot_report (is_moot before x) rule x.start x.stop ++ moot_reports rule (before ++ x ∷ []) xs

-- of the chain that begins with a node
abbrev pub chain_reports : RepetitionRule → Tree → List Report
chain_reports rule tree = map (of_test rule) (moot_tests tree)

-- a part that may be missing is an `if`
abbrev pub is_if_at : Option Tree → Bool
is_if_at None = false
is_if_at (Some tree) = is_if (kind_of tree)

-- a chain of more than one test begins here
abbrev pub is_chain : Tree → Bool
is_chain tree = is_if (kind_of tree) && is_if_at (part_at (parts_of tree) 2)
