-- What each rule reports. Names of rules and texts are bytes.
use Rattle.std.specs.Prelude.{ℕ, Bool, true, false, not, cond, ◌+◌, ◌&&◌, ◌||◌, nat_eq, List, [], ◌∷◌, ◌++◌, map, Option, Some, None, is_none, codes}
use Rattle.std.specs.List.{list_any}
use Rattle.tree.specs.declared.kind.Span.{Span}
use Rattle.tree.specs.Tree.{Tree, text_of}
use Rattle.language.specs.Vocabulary.{is}
use Rattle.scopes.specs.declared.kind.BindingKind.{BindingKind}
use Rattle.scopes.specs.declared.kind.BindingKind.TheVariants.{Let, Param, Catch, FunctionName, ClassName}
use Rattle.scopes.specs.Bindings.{Binding}
use Rattle.scopes.specs.Found.{Found, Reference, Scope}
use Rattle.reference_rules.specs.BuiltIn.{is_built_in_for}
use Rattle.reference_rules.specs.Found.{found_by_rule as found_by_name_rule}
use Rattle.reference_rules.specs.declared.reference_rule.Profile.{Profile}
use Rattle.reference_rules.specs.declared.reference_rule.ReferenceRule.{ReferenceRule}
use Rattle.repetition_rules.specs.Found.{found_by_rule as found_by_part_rule}
use Rattle.repetition_rules.specs.declared.repetition_rule.RepetitionRule.{RepetitionRule}
use Rattle.flow_rules.specs.Found.{found_by_rule as found_by_flow_rule}
use Rattle.flow_rules.specs.declared.flow_rule.FlowRule.{FlowRule}
use Rattle.literal_rules.specs.Found.{found_by_rule as found_by_literal_rule}
use Rattle.literal_rules.specs.declared.literal_rule.LiteralRule.{LiteralRule}
use Rattle.text_rules.specs.Found.{found_by_rule as found_by_text_rule}
use Rattle.text_rules.specs.declared.text_rule.TextRule.{TextRule}
use Rattle.native_prototypes.specs.Found.{found as found_prototypes}
use Rattle.private_members.specs.Found.{found as found_private_members}
use Rattle.value_rules.specs.Found.{found_by_rule as found_by_value_rule}
use Rattle.value_rules.specs.declared.value_rule.ValueRule.{ValueRule}
use Rattle.rule_words.specs.Reports.{Report, report, quoted}
use Rattle.node_rules.specs.Found.{found_by_rule}
use Rattle.node_rules.specs.declared.node_rule.NodeOptions.{NodeOptions}
use Rattle.node_rules.specs.declared.node_rule.NodeRule.{NodeRule}
use Rattle.rules.specs.LeftAlone.{is_left_alone}
use Rattle.rules.specs.RuleOptions.{is_listed}
use Rattle.rules.specs.Settings.{Settings, is_global}
use Rattle.rules.specs.declared.name_lists.NameList.{NameList}
use Rattle.rules.specs.declared.name_lists.NameList.TheVariants.{ArgsIgnore, VarsIgnore, CaughtErrorsIgnore, Allow}
use Rattle.rules.specs.declared.rule_option.CheckedParams.{CheckedParams}
use Rattle.rules.specs.declared.rule_option.CheckedParams.TheVariants.{NoParams, AfterUsed, AllParams}
use Rattle.rules.specs.declared.rule_option.RuleOptions.{RuleOptions}

-- what rules look at: the script, its text, its scopes, the spans of the extra pairs, the settings
pub record View : Type 0 where
  pub tree : Tree
  pub text : List ℕ
  pub found : Found
  pub extra : List Span
  pub settings : Settings

-- Rules that look at single nodes: `specs/Rows.antt` of `node_rules` says what each reports.

-- what they ask of the settings
abbrev pub node_options : Settings → NodeOptions
node_options s = record { allow_null = s.options.allow_null; allow_comments = s.options.allow_comments }

-- what one of them finds
abbrev pub on_nodes : NodeRule → View → List Report
on_nodes rule v = found_by_rule (node_options v.settings) v.text rule v.tree

abbrev pub of_extra : Span → Report
of_extra p = report "no-extra-parens" p.start p.end (codes "unnecessary parentheses")

abbrev pub no_extra_parens : View → List Report
no_extra_parens v = map of_extra v.extra

-- no-unused-private-class-members
abbrev pub no_unused_private_class_members : View → List Report
no_unused_private_class_members v = found_private_members v.tree

-- Rules that look at scopes, bindings and references.

-- a tree of the language of 2022, as its text says
abbrev pub is_of_2022 : Tree → Bool
is_of_2022 tree = is (text_of tree) "2022" || is (text_of tree) "module"

-- no-extend-native
abbrev pub no_extend_native : View → List Report
no_extend_native v = found_prototypes (is_of_2022 v.tree) v.found.references v.tree

-- Rules that ask what names mean: `specs/Rows.antt` of `reference_rules` says what each reports.

-- what they ask of the language
abbrev pub profile_of : Tree → Profile
profile_of tree = record { is_2022 = is_of_2022 tree; is_module = is (text_of tree) "module" }

-- what one of them finds
abbrev pub on_references : ReferenceRule → View → List Report
on_references rule v = found_by_name_rule (profile_of v.tree) rule v.found

-- Rules on what stands twice in one node: `specs/Rows.antt` of `repetition_rules` says what each reports.
abbrev pub on_repetitions : RepetitionRule → View → List Report
on_repetitions rule v = found_by_part_rule rule v.tree

-- Rules on the ways that statements end: `specs/Rows.antt` of `flow_rules` says what each reports.
abbrev pub on_flow : FlowRule → View → List Report
on_flow rule v = found_by_flow_rule v.text rule v.tree

-- Rules on the texts of literals: `specs/Rows.antt` of `literal_rules` says what each reports.
abbrev pub on_literals : LiteralRule → View → List Report
on_literals rule v = found_by_literal_rule rule v.tree

-- Rules on what stands between tokens: `specs/Rows.antt` of `text_rules` says what each reports.
abbrev pub on_texts : TextRule → View → List Report
on_texts rule v = found_by_text_rule v.text rule v.tree

-- Rules on the values of literals: `specs/Rows.antt` of `value_rules` says what each reports.
abbrev pub on_values : ValueRule → View → List Report
on_values rule v = found_by_value_rule rule v.tree

abbrev pub is_known : Bool → Settings → List ℕ → Bool
is_known of_2022 s text = is_built_in_for of_2022 text || is_global text s

-- an operand of `typeof` may be undefined, unless the settings say otherwise
abbrev pub may_be_undefined : Settings → Reference → Bool
may_be_undefined s r = r.typeof_operand && not s.options.typeof_operands

abbrev pub of_undefined : Bool → Settings → Reference → List Report
of_undefined of_2022 s r = cond (is_none r.meaning && not (may_be_undefined s r || is_known of_2022 s r.name)) (report "no-undef" r.start r.stop (quoted r.name "is not defined") ∷ []) []

abbrev pub each_undefined : Bool → Settings → List Reference → List Report
each_undefined of_2022 s [] = []
each_undefined of_2022 s (r ∷ rs) = of_undefined of_2022 s r ++ each_undefined of_2022 s rs

abbrev pub no_undef : View → List Report
no_undef v = each_undefined (is_of_2022 v.tree) v.settings v.found.references

-- what is said of each binding, by what it is called in `meaning` and by the bindings behind it in its scope
abbrev pub of_bindings : (ℕ × ℕ → Binding → List Binding → List Report) → ℕ → ℕ → List Binding → List Report
of_bindings f n i [] = []
of_bindings f n i (b ∷ bs) = f (n, i) b bs ++ of_bindings f n (i + 1) bs

abbrev pub of_scopes : (ℕ × ℕ → Binding → List Binding → List Report) → ℕ → List Scope → List Report
of_scopes f n [] = []
of_scopes f n (s ∷ ss) = of_bindings f n 0 s.bindings ++ of_scopes f (n + 1) ss

abbrev pub over_bindings : (ℕ × ℕ → Binding → List Binding → List Report) → View → List Report
over_bindings f v = of_scopes f 0 v.found.scopes

abbrev pub means : Reference → ℕ × ℕ → Bool
means r m = is_it r.meaning
  where
    is_it : Option (ℕ × ℕ) → Bool
    is_it None = false
    is_it (Some x) = nat_eq x.0 m.0 && nat_eq x.1 m.1

-- a reference reads, or writes
abbrev pub uses : Bool → Reference → Bool
uses writes r = cond writes r.writes r.reads

-- some reference reads a binding, or writes it
abbrev pub is_used : Bool → List Reference → ℕ × ℕ → Bool
is_used writes rs m = list_any (λ r. uses writes r && means r m) rs

abbrev pub is_itself : BindingKind → Bool
is_itself FunctionName = true
is_itself ClassName = true
is_itself _ = false

-- the script's scope has none round it, so nothing in it shadows
abbrev pub of_shadow : Settings → Binding → List Report
of_shadow s b = cond (b.shadows && not (is_itself b.kind || is_listed s.lists Allow b.name)) (report "no-shadow" b.start b.stop (quoted b.name "shadows an outer name") ∷ []) []

abbrev pub is_param : BindingKind → Bool
is_param Param = true
is_param _ = false

-- references read a parameter that is one of these bindings; the first stands at this place of its scope
abbrev pub reads_param : (ℕ × ℕ → Bool) → ℕ → ℕ → List Binding → Bool
reads_param read n i [] = false
reads_param read n i (b ∷ bs) = (is_param b.kind && read (n, i)) || reads_param read n (i + 1) bs

-- a parameter is there to be read, by whether one behind it is read
abbrev pub is_param_for_reading : CheckedParams → Bool → Bool
is_param_for_reading NoParams is_behind = false
is_param_for_reading AfterUsed is_behind = not is_behind
is_param_for_reading AllParams is_behind = true

abbrev pub is_for_reading : RuleOptions → Bool → BindingKind → Bool
is_for_reading o is_behind Param = is_param_for_reading o.params is_behind
is_for_reading o is_behind Catch = o.caught_errors
is_for_reading o is_behind FunctionName = false
is_for_reading o is_behind ClassName = false
is_for_reading o is_behind _ = true

-- which list has the names of a kind that are ignored
abbrev pub ignoring : BindingKind → NameList
ignoring Param = ArgsIgnore
ignoring Catch = CaughtErrorsIgnore
ignoring _ = VarsIgnore

abbrev pub begins_with_underscore : List ℕ → Bool
begins_with_underscore [] = false
begins_with_underscore (c ∷ cs) = nat_eq c 95

-- a name that the settings say may stay unread
abbrev pub is_ignored : Settings → Binding → Bool
is_ignored s b = (s.options.ignore_underscore && begins_with_underscore b.name) || is_listed s.lists (ignoring b.kind) b.name

-- by whether it is left alone for its place, whether it is read, and whether a parameter behind it is; what is exported may be read elsewhere
abbrev pub is_unused : Settings → (is_alone is_read is_behind : Bool) → Binding → Bool
is_unused s is_alone is_read is_behind b = is_for_reading s.options is_behind b.kind && (not (is_read || b.exported) && not (is_ignored s b || is_alone))

-- by which identifiers are left alone, which bindings are read, and which stand behind this one
abbrev pub of_unused : Settings → (ℕ → Bool) → (ℕ × ℕ → Bool) → ℕ × ℕ → Binding → List Binding → List Report
of_unused s alone read m b bs =
    cond (is_unused s (alone b.start) (read m) (reads_param read m.0 (m.1 + 1) bs) b)
    (report "no-unused-vars" b.start b.stop (quoted b.name "is never read") ∷ []) []

abbrev pub is_let : BindingKind → Bool
is_let Let = true
is_let _ = false

-- by which bindings are written; nothing but references of the module writes an exported one
abbrev pub of_const : (ℕ × ℕ → Bool) → ℕ × ℕ → Binding → List Report
of_const written m b = cond (is_let b.kind && (b.settled && not (written m))) (report "prefer-const" b.start b.stop (quoted b.name "is never reassigned") ∷ []) []

abbrev pub no_shadow : View → List Report
no_shadow v = over_bindings (λ m b bs. of_shadow v.settings b) v

abbrev pub no_unused_vars : View → List Report
no_unused_vars v = over_bindings (of_unused v.settings (is_left_alone v.settings.options v.tree) (is_used false v.found.references)) v

abbrev pub prefer_const : View → List Report
prefer_const v = over_bindings (λ m b bs. of_const (is_used true v.found.references) m b) v
