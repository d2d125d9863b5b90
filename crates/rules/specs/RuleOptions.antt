-- The options of rules.
use Rattle.std.specs.Prelude.{ℕ, Bool, true, false, cond, ◌&&◌, List, [], ◌∷◌, Option, Some, None, codes}
use Rattle.std.specs.List.{list_any}
use Rattle.std.specs.Str.{bytes_eq}
use Rattle.language.specs.Vocabulary.{is}
use Rattle.node_rules.specs.declared.node_rule.NodeRule.TheVariants.{EqEqEq, NoEmpty}
use Rattle.rules.specs.NamePatterns.{stands_for}
use Rattle.rules.specs.RuleNames.{called}
use Rattle.rules.specs.declared.rule_list.RuleName.{RuleName}
use Rattle.rules.specs.declared.rule_list.RuleName.TheVariants.{OnNodes, NoShadow, NoUndef, NoUnusedVars}
use Rattle.rules.specs.declared.rule_option.RuleOption.{RuleOption}
use Rattle.rules.specs.declared.rule_option.RuleOption.TheVariants.{AllowNull, AllowComments, IgnoreUnderscore, IgnoreRestSiblings, Typeof}
use Rattle.rules.specs.declared.rule_option.CheckedParams.{CheckedParams}
use Rattle.rules.specs.declared.rule_option.CheckedParams.TheVariants.{NoParams, AfterUsed, AllParams}
use Rattle.rules.specs.declared.rule_option.RuleOptions.{RuleOptions}
use Rattle.rules.specs.declared.name_lists.NameList.{NameList}
use Rattle.rules.specs.declared.name_lists.NameList.TheVariants.{ArgsIgnore, VarsIgnore, CaughtErrorsIgnore, Allow}

-- ---- options that are on or off

abbrev pub all_options : List RuleOption
all_options = AllowNull ∷ AllowComments ∷ IgnoreUnderscore ∷ IgnoreRestSiblings ∷ Typeof ∷ []

abbrev pub key_of : RuleOption → List ℕ
key_of AllowNull = codes "allow-null"
key_of AllowComments = codes "allow-comments"
key_of IgnoreUnderscore = codes "ignore-underscore"
key_of IgnoreRestSiblings = codes "ignore-rest-siblings"
key_of Typeof = codes "typeof"

-- the rule that has an option
abbrev pub rule_of : RuleOption → RuleName
rule_of AllowNull = OnNodes EqEqEq
rule_of AllowComments = OnNodes NoEmpty
rule_of IgnoreUnderscore = NoUnusedVars
rule_of IgnoreRestSiblings = NoUnusedVars
rule_of Typeof = NoUndef

-- a rule of this name has an option at this key
unfoldable pub is_option : List ℕ → List ℕ → Bool
is_option rule key = list_any (λ option. bytes_eq rule (called (rule_of option)) && bytes_eq key (key_of option)) all_options

abbrev pub has_option : RuleOptions → RuleOption → Bool
has_option options AllowNull = options.allow_null
has_option options AllowComments = options.allow_comments
has_option options IgnoreUnderscore = options.ignore_underscore
has_option options IgnoreRestSiblings = options.ignore_rest_siblings
has_option options Typeof = options.typeof_operands

-- ---- options by a word

-- the parameters that `no-unused-vars` looks at
abbrev pub params_named : List ℕ → Option CheckedParams
params_named text =
    cond (is text "none") (Some NoParams)
    (cond (is text "after-used") (Some AfterUsed)
    (cond (is text "all") (Some AllParams) None))

-- it looks at what `catch` binds
abbrev pub caught_named : List ℕ → Option Bool
caught_named text =
    cond (is text "none") (Some false)
    (cond (is text "all") (Some true) None)

-- ---- lists of names

abbrev pub all_lists : List NameList
all_lists = ArgsIgnore ∷ VarsIgnore ∷ CaughtErrorsIgnore ∷ Allow ∷ []

abbrev pub list_key_of : NameList → List ℕ
list_key_of ArgsIgnore = codes "args-ignore"
list_key_of VarsIgnore = codes "vars-ignore"
list_key_of CaughtErrorsIgnore = codes "caught-errors-ignore"
list_key_of Allow = codes "allow"

-- the rule that has a list
abbrev pub list_rule_of : NameList → RuleName
list_rule_of ArgsIgnore = NoUnusedVars
list_rule_of VarsIgnore = NoUnusedVars
list_rule_of CaughtErrorsIgnore = NoUnusedVars
list_rule_of Allow = NoShadow

-- a rule of this name has a list at this key
unfoldable pub is_list : List ℕ → List ℕ → Bool
is_list rule key = list_any (λ list. bytes_eq rule (called (list_rule_of list)) && bytes_eq key (list_key_of list)) all_lists

pub record NameLists : Type 0 where
  pub args_ignore : List (List ℕ)
  pub vars_ignore : List (List ℕ)
  pub caught_errors_ignore : List (List ℕ)
  pub allow : List (List ℕ)

abbrev pub names_in : NameLists → NameList → List (List ℕ)
names_in lists ArgsIgnore = lists.args_ignore
names_in lists VarsIgnore = lists.vars_ignore
names_in lists CaughtErrorsIgnore = lists.caught_errors_ignore
names_in lists Allow = lists.allow

-- a text in a list stands for a name
abbrev pub is_listed : NameLists → NameList → List ℕ → Bool
is_listed lists list name = list_any (λ text. stands_for text name) (names_in lists list)
