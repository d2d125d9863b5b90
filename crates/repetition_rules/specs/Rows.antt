-- Rules on what stands twice, row by row: the name, the kind of node that a rule looks at, what it compares there, and what it says.
use Rattle.std.specs.Prelude.{ℕ, Bool, true, false, cond, map, List, [], ◌∷◌, ◌++◌, codes}
use Rattle.tree.specs.declared.kind.Kind.{Kind}
use Rattle.tree.specs.declared.kind.Kind.TheVariants.{ClassBody, ObjectExpression, SwitchStatement}
use Rattle.tree.specs.Tree.{Tree, kind_of, parts_of, start_of, stop_of}
use Rattle.name_tables.specs.BoundNames.{each_part}
use Rattle.rule_words.specs.Reports.{Report}
use Rattle.repetition_rules.specs.declared.repetition_rule.RepetitionRule.{RepetitionRule}
use Rattle.repetition_rules.specs.declared.repetition_rule.RepetitionRule.TheVariants.{NoDupeClassMembers, NoDupeElseIf, NoDupeKeys, NoDuplicateCase}
use Rattle.repetition_rules.specs.Entries.{Entry, is_again}
use Rattle.repetition_rules.specs.Members.{case, member, property}
use Rattle.repetition_rules.specs.Tests.{moot_below}

-- what settings and reports call a rule
abbrev pub called : RepetitionRule → List ℕ
called NoDupeClassMembers = codes "no-dupe-class-members"
called NoDupeElseIf = codes "no-dupe-else-if"
called NoDupeKeys = codes "no-dupe-keys"
called NoDuplicateCase = codes "no-duplicate-case"

abbrev pub is_class_body : Kind → Bool
is_class_body ClassBody = true
is_class_body _ = false

abbrev pub is_object : Kind → Bool
is_object ObjectExpression = true
is_object _ = false

abbrev pub is_switch : Kind → Bool
is_switch SwitchStatement = true
is_switch _ = false

abbrev pub looks : RepetitionRule → Kind → Bool
looks NoDupeClassMembers kind = is_class_body kind
looks NoDupeElseIf kind = false
looks NoDupeKeys kind = is_object kind
looks NoDuplicateCase kind = is_switch kind

-- what it compares of a part
abbrev pub entries_of : RepetitionRule → Tree → List Entry
entries_of NoDupeClassMembers part = member part
entries_of NoDupeElseIf part = []
entries_of NoDupeKeys part = property part
entries_of NoDuplicateCase part = case part

abbrev pub says : RepetitionRule → List ℕ
says NoDupeClassMembers = codes "member again"
says NoDupeElseIf = codes "test never holds"
says NoDupeKeys = codes "key again"
says NoDuplicateCase = codes "case again"

-- what it reports of one that stands again
abbrev pub report_if : Bool → RepetitionRule → Entry → List Report
report_if again rule e = cond again (record { start = e.start; stop = e.stop; rule = called rule; text = says rule } ∷ []) []

-- of these, behind those that stand before them, the nearest first
abbrev pub reported : RepetitionRule → (before entries : List Entry) → List Report
reported rule before [] = []
reported rule before (e ∷ es) = report_if (is_again before e) rule e ++ reported rule (e ∷ before) es

-- what it reports of a test that never holds
abbrev pub moot_report : Bool → RepetitionRule → (start stop : ℕ) → List Report
moot_report moot rule start stop = cond moot (record { start = start; stop = stop; rule = called rule; text = says rule } ∷ []) []

abbrev pub of_test : RepetitionRule → Tree → Report
of_test rule test = record { start = start_of test; stop = stop_of test; rule = called rule; text = says rule }

-- of the parts of a node that it looks at
abbrev pub of_parts : RepetitionRule → Tree → List Report
of_parts rule tree = cond (looks rule (kind_of tree)) (reported rule [] (each_part (entries_of rule) (parts_of tree))) []

-- of a node
abbrev pub of_node : RepetitionRule → Tree → List Report
of_node NoDupeElseIf tree = map (of_test NoDupeElseIf) (moot_below tree)
of_node rule tree = of_parts rule tree
