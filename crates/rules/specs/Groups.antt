-- Rules of one crate make a group, and run together.
use Rattle.std.specs.Prelude.{Bool, true, false, cond, List, [], ◌∷◌, ◌++◌, Option, Some, None}
use Rattle.rule_words.specs.Reports.{Report}
use Rattle.node_rules.specs.declared.node_rule.NodeRule.{NodeRule}
use Rattle.reference_rules.specs.Found.{found_by_rules}
use Rattle.reference_rules.specs.declared.reference_rule.ReferenceRule.{ReferenceRule}
use Rattle.repetition_rules.specs.Found.{found_by_rules as found_by_repetition_rules}
use Rattle.repetition_rules.specs.declared.repetition_rule.RepetitionRule.{RepetitionRule}
use Rattle.flow_rules.specs.Found.{found_by_rules as found_by_flow_rules}
use Rattle.flow_rules.specs.declared.flow_rule.FlowRule.{FlowRule}
use Rattle.literal_rules.specs.Found.{found_by_rules as found_by_literal_rules}
use Rattle.literal_rules.specs.declared.literal_rule.LiteralRule.{LiteralRule}
use Rattle.text_rules.specs.Found.{found_by_rules as found_by_text_rules}
use Rattle.text_rules.specs.declared.text_rule.TextRule.{TextRule}
use Rattle.value_rules.specs.Found.{found_by_rules as found_by_value_rules}
use Rattle.value_rules.specs.declared.value_rule.ValueRule.{ValueRule}
use Rattle.rules.specs.NodeRules.{found_on_nodes}
use Rattle.rules.specs.RuleNames.{called}
use Rattle.rules.specs.Rules.{View, profile_of}
use Rattle.rules.specs.Run.{found_by_name}
use Rattle.rules.specs.Settings.{Settings, is_on}
use Rattle.rules.specs.declared.rule_list.RuleName.{RuleName}
use Rattle.rules.specs.declared.rule_list.RuleName.TheVariants.{OnNodes, OnReferences, OnRepetitions, OnFlow, OnLiterals, OnTexts, NoExtraParens, NoShadow, NoUndef, NoUnusedPrivateClassMembers, NoUnusedVars, PreferConst, OnValues, NoExtendNative}

-- the rule of a group that a name is of
abbrev pub node_rule_named : RuleName → Option NodeRule
node_rule_named (OnNodes rule) = Some rule
node_rule_named _ = None

abbrev pub reference_rule_named : RuleName → Option ReferenceRule
reference_rule_named (OnReferences rule) = Some rule
reference_rule_named _ = None

abbrev pub repetition_rule_named : RuleName → Option RepetitionRule
repetition_rule_named (OnRepetitions rule) = Some rule
repetition_rule_named _ = None

abbrev pub flow_rule_named : RuleName → Option FlowRule
flow_rule_named (OnFlow rule) = Some rule
flow_rule_named _ = None

abbrev pub literal_rule_named : RuleName → Option LiteralRule
literal_rule_named (OnLiterals rule) = Some rule
literal_rule_named _ = None

abbrev pub text_rule_named : RuleName → Option TextRule
text_rule_named (OnTexts rule) = Some rule
text_rule_named _ = None

abbrev pub value_rule_named : RuleName → Option ValueRule
value_rule_named (OnValues rule) = Some rule
value_rule_named _ = None

-- a name of a rule that is of no group
abbrev pub is_alone : RuleName → Bool
is_alone NoExtendNative = true
is_alone NoExtraParens = true
is_alone NoShadow = true
is_alone NoUndef = true
is_alone NoUnusedPrivateClassMembers = true
is_alone NoUnusedVars = true
is_alone PreferConst = true
is_alone _ = false

-- what rules of a group find in a view
abbrev pub found_on_references : List ReferenceRule → View → List Report
found_on_references rules v = found_by_rules (profile_of v.tree) rules v.found

abbrev pub found_on_repetitions : List RepetitionRule → View → List Report
found_on_repetitions rules v = found_by_repetition_rules rules v.tree

abbrev pub found_on_flow : List FlowRule → View → List Report
found_on_flow rules v = found_by_flow_rules v.text rules v.tree

abbrev pub found_on_literals : List LiteralRule → View → List Report
found_on_literals rules v = found_by_literal_rules rules v.tree

abbrev pub found_on_texts : List TextRule → View → List Report
found_on_texts rules v = found_by_text_rules v.text rules v.tree

abbrev pub found_on_values : List ValueRule → View → List Report
found_on_values rules v = found_by_value_rules rules v.tree

-- in front of these the rule of a name, if it is of the group, and on
abbrev pub chosen_if : {R : Type 0} → Option R → Bool → List R → List R
chosen_if None on rules = rules
chosen_if (Some rule) on rules = cond on (rule ∷ rules) rules

-- the rules of a group that are on, of these names
abbrev pub chosen : {R : Type 0} → (RuleName → Option R) → List RuleName → Settings → List R
chosen named [] s = []
chosen named (name ∷ names) s = chosen_if (named name) (is_on (called name) s) (chosen named names s)

-- what rules find that are of no group, and on
abbrev pub found_alone_by : RuleName → View → List Report
found_alone_by name v = cond (is_alone name) (found_by_name name v) []

abbrev pub found_alone : List RuleName → View → List Report
found_alone [] v = []
found_alone (name ∷ names) v = found_alone_by name v ++ found_alone names v

-- what all of these find, group after group
abbrev pub found_in_groups : List RuleName → View → List Report
found_in_groups names v =
    found_on_nodes (chosen node_rule_named names v.settings) v
    ++ (found_on_references (chosen reference_rule_named names v.settings) v
    ++ (found_on_repetitions (chosen repetition_rule_named names v.settings) v
    ++ (found_on_flow (chosen flow_rule_named names v.settings) v
    ++ (found_on_literals (chosen literal_rule_named names v.settings) v
    ++ (found_on_texts (chosen text_rule_named names v.settings) v
    ++ (found_on_values (chosen value_rule_named names v.settings) v
    ++ found_alone names v))))))
