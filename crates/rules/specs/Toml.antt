-- The settings that a TOML text gives; what is TOML is the reading of the crate `toml`.
use Rattle.std.specs.Prelude.{ℕ, zero, suc, Bool, true, false, cond, ◌&&◌, ◌||◌, nat_eq, nat_le, List, [], ◌∷◌, length, Option, Some, None, is_some, option_map, option_and_then, unwrap_or, codes}
use Rattle.toml.specs.Data.{Data, Items, no_items, item, Members, no_members, member, get_member, as_bool, as_integer, as_str, as_array, as_table}
use Rattle.toml.specs.Parse.{parse_document}
use Rattle.std.specs.BTreeSet.{insert_key}
use Rattle.std.specs.Cmp.Lexicographic.{slice_cmp}
use Rattle.std.specs.List.{list_all, list_any}
use Rattle.std.specs.Option.{option_map_or}
use Rattle.std.specs.Ordering.{nat_cmp}
use Rattle.std.specs.Str.{bytes_eq}
use Rattle.language.specs.Vocabulary.{is}
use Rattle.rules.specs.RuleNames.{all_rules, called, is_known, set_named}
use Rattle.rules.specs.RuleSets.{has_rule, no_sets, with_set}
use Rattle.rules.specs.NamePatterns.{is_pattern}
use Rattle.rules.specs.RuleOptions.{NameLists, caught_named, is_list, is_option, key_of, list_key_of, list_rule_of, params_named, rule_of}
use Rattle.rules.specs.Severities.{is_severity, narrowed, severity_named, severity_numbered, severity_of_flag}
use Rattle.rules.specs.declared.rule_list.RuleName.{RuleName}
use Rattle.rules.specs.declared.rule_list.RuleName.TheVariants.{NoUnusedVars}
use Rattle.rules.specs.declared.rule_option.RuleOption.{RuleOption}
use Rattle.rules.specs.declared.rule_option.RuleOption.TheVariants.{AllowNull, AllowComments, IgnoreUnderscore, IgnoreRestSiblings, Typeof}
use Rattle.rules.specs.declared.rule_option.CheckedParams.{CheckedParams}
use Rattle.rules.specs.declared.rule_option.CheckedParams.TheVariants.{NoParams}
use Rattle.rules.specs.declared.rule_option.RuleOptions.{RuleOptions}
use Rattle.rules.specs.declared.name_lists.NameList.{NameList}
use Rattle.rules.specs.declared.name_lists.NameList.TheVariants.{ArgsIgnore, VarsIgnore, CaughtErrorsIgnore, Allow}
use Rattle.rules.specs.declared.rule_set.RuleSet.TheVariants.{Nine}
use Rattle.rules.specs.declared.rule_set.RuleSets.{RuleSets}
use Rattle.rules.specs.declared.severity.Severity.{Severity}
use Rattle.rules.specs.declared.severity.Severity.TheVariants.{Warn, Error}
use Rattle.rules.specs.declared.environment.Environments.{Environments}
use Rattle.rules.specs.Environments.{environment_of, no_environments, with_environment}
use Rattle.rules.specs.Languages.{all_languages, both_of, edition_languages, has_none, source_type_languages}
use Rattle.rules.specs.declared.languages.Languages.{Languages}
use Rattle.rules.specs.Settings.{Settings}

unfoldable pub is_key : List ℕ → Bool
is_key text = bytes_eq text (codes "rules") || (bytes_eq text (codes "extends") || (bytes_eq text (codes "only") || (bytes_eq text (codes "globals") || (bytes_eq text (codes "env") || (bytes_eq text (codes "edition") || (bytes_eq text (codes "source-type") || (bytes_eq text (codes "allow-null") || (bytes_eq text (codes "allow-comments") || bytes_eq text (codes "ignore-underscore")))))))))

abbrev pub knows_keys : Members → Bool
knows_keys no_members = true
knows_keys (member k d ms) = is_key k && knows_keys ms

-- a flag that is left out is false
abbrev pub flag_of : Option Data → Option Bool
flag_of None = Some false
flag_of (Some d) = as_bool d

abbrev pub strings_of : Items → Option (List (List ℕ))
strings_of no_items = Some []
strings_of (item d xs) = option_and_then (λ w. option_map (λ ws. w ∷ ws) (strings_of xs)) (as_str d)

-- with more names, one by one, each at its place in the order of bytes, and once
abbrev pub with_names : List (List ℕ) → List (List ℕ) → List (List ℕ)
with_names set [] = set
with_names set (w ∷ ws) = with_names (insert_key (slice_cmp nat_cmp) set w) ws

-- the strings of an array, in order, each once
abbrev pub set_of : Items → Option (List (List ℕ))
set_of xs = option_map (with_names []) (strings_of xs)

abbrev pub globals_of : Option Data → Option (List (List ℕ))
globals_of None = Some []
globals_of (Some d) = option_and_then set_of (as_array d)

-- these environments and those that an array names
abbrev pub with_environments : Environments → Items → Option Environments
with_environments e no_items = Some e
with_environments e (item d xs) = option_and_then (λ w. option_and_then (λ x. with_environments (with_environment e x) xs) (environment_of w)) (as_str d)

abbrev pub environments_of : Option Data → Option Environments
environments_of None = Some no_environments
environments_of (Some d) = option_and_then (with_environments no_environments) (as_array d)

-- the languages of an edition, by its year
abbrev pub edition_of : Option Data → Option Languages
edition_of None = Some all_languages
edition_of (Some d) = option_and_then edition_languages (as_integer d)

-- those of a source type, by its name
abbrev pub source_type_of : Option Data → Option Languages
source_type_of None = Some all_languages
source_type_of (Some d) = option_and_then source_type_languages (as_str d)

-- those of both: settings that leave none contradict themselves
abbrev pub languages_of : Members → Option Languages
languages_of ms = option_and_then (λ e. option_and_then (λ t. cond (has_none (both_of e t)) None (Some (both_of e t)))
    (source_type_of (get_member (codes "source-type") ms))) (edition_of (get_member (codes "edition") ms))

-- ---- what stands in `rules`

-- a severity, by true or false, by its number or by its name
abbrev pub severity_said : Data → Option Severity
severity_said d = option_map_or (λ is_on. Some (severity_of_flag is_on)) (as_bool d) (option_map_or severity_numbered (as_integer d) (option_and_then severity_named (as_str d)))

-- the severity that the value of a rule says: it is one, or a table that may have one
abbrev pub severity_at : Data → Option Severity
severity_at d = option_map_or (λ ms. option_and_then severity_said (get_member (codes "severity") ms)) (as_table d) (severity_said d)

-- an option of a rule that is true or false
abbrev pub fits_flag : List ℕ → List ℕ → Data → Bool
fits_flag rule key d = is_option rule key && is_some (as_bool d)

-- one that is a word
abbrev pub params_said : Data → Option CheckedParams
params_said d = option_and_then params_named (as_str d)

abbrev pub caught_said : Data → Option Bool
caught_said d = option_and_then caught_named (as_str d)

abbrev pub fits_word : List ℕ → List ℕ → Data → Bool
fits_word rule key d = is rule "no-unused-vars" && ((is key "args" && is_some (params_said d)) || (is key "caught-errors" && is_some (caught_said d)))

abbrev pub item_count : Items → ℕ
item_count no_items = zero
item_count (item d xs) = suc (item_count xs)

-- a text that stands for names
abbrev pub is_pattern_said : Data → Bool
is_pattern_said d = option_map_or is_pattern (as_str d) false

abbrev pub all_patterns : Items → Bool
all_patterns no_items = true
all_patterns (item d xs) = is_pattern_said d && all_patterns xs

-- not more than a hundred of them, since each is held against each name
abbrev pub are_patterns : Items → Bool
are_patterns xs = nat_le (item_count xs) 100 && all_patterns xs

-- a list of names
abbrev pub fits_list : List ℕ → List ℕ → Data → Bool
fits_list rule key d = is_list rule key && option_map_or are_patterns (as_array d) false

-- the table of a rule may have a severity and the options of the rule, each with a value that it takes
abbrev pub fits_key : List ℕ → List ℕ → Data → Bool
fits_key rule key d = cond (is key "severity") (is_some (severity_said d)) (fits_flag rule key d || (fits_word rule key d || fits_list rule key d))

abbrev pub fits_table : List ℕ → Members → Bool
fits_table rule no_members = true
fits_table rule (member k d ms) = fits_key rule k d && fits_table rule ms

-- a rule takes a value
abbrev pub fits_rule : List ℕ → Data → Bool
fits_rule rule d = option_map_or (fits_table rule) (as_table d) (is_some (severity_said d))

-- this may stand in `rules`: a name of a rule, and a value that it takes
unfoldable pub is_setting : List ℕ → Data → Bool
is_setting rule d = is_known rule && fits_rule rule d

abbrev pub knows_rules : Members → Bool
knows_rules no_members = true
knows_rules (member k d ms) = is_setting k d && knows_rules ms

-- `rules` is left out, or a table of rules, each with a value that it takes
abbrev pub rules_fit : Option Data → Bool
rules_fit None = true
rules_fit (Some d) = option_map_or knows_rules (as_table d) false

-- what stands at a rule there
abbrev pub value_of_rule : List ℕ → Members → Option Data
value_of_rule rule ms = option_and_then (λ d. option_and_then (get_member rule) (as_table d)) (get_member (codes "rules") ms)

-- ---- the severity of each rule

-- these sets of rules and those that an array names
abbrev pub with_sets : RuleSets → Items → Option RuleSets
with_sets sets no_items = Some sets
with_sets sets (item d xs) = option_and_then (λ w. option_and_then (λ set. with_sets (with_set sets set) xs) (set_named w)) (as_str d)

-- the sets that are extended, one by its name or several together: the nine where none is named
abbrev pub sets_of_rules : Option Data → Option RuleSets
sets_of_rules None = Some (with_set no_sets Nine)
sets_of_rules (Some d) = option_map_or (with_sets no_sets) (as_array d) (option_map (with_set no_sets) (option_and_then set_named (as_str d)))

-- the names in an array are those of rules, and none occurs twice
abbrev pub are_names : List (List ℕ) → Items → Bool
are_names names xs = list_all is_known names && nat_eq (length names) (item_count xs)

-- names of rules, each once
abbrev pub names_of : Items → Option (List (List ℕ))
names_of xs = option_and_then (λ names. cond (are_names names xs) (Some names) None) (set_of xs)

-- the names of the rules that alone are asked for, if `only` is there
abbrev pub only_of : Option Data → Option (Option (List (List ℕ)))
only_of None = Some None
only_of (Some d) = option_map Some (option_and_then names_of (as_array d))

-- a severity, where only rules of these names are asked for
abbrev pub narrowed_to : Option (List (List ℕ)) → List ℕ → Severity → Severity
narrowed_to None rule severity = severity
narrowed_to (Some names) rule severity = narrowed (list_any (λ x. bytes_eq rule x) names) severity

-- the severity that `rules` says, and where it says none, an error for a rule of the set, and off for another
abbrev pub said_of : Bool → Option Data → Severity
said_of in_set value = unwrap_or (option_and_then severity_at value) (severity_of_flag in_set)

-- the severity of a rule in a document, by the sets that it extends, by `only`, and by what stands at the rule
abbrev pub severity_of : RuleSets → Option (List (List ℕ)) → Members → RuleName → Severity
severity_of sets only ms rule = narrowed_to only (called rule) (said_of (has_rule sets (called rule)) (value_of_rule (called rule) ms))

-- the rules of a severity
unfoldable pub rules_at : Severity → (RuleName → Severity) → List RuleName → List RuleName
rules_at severity of [] = []
rules_at severity of (r ∷ rs) = cond (is_severity (of r) severity) (r ∷ rules_at severity of rs) (rules_at severity of rs)

-- those of a document
unfoldable pub all_at : Severity → RuleSets → Option (List (List ℕ)) → Members → List RuleName
all_at severity sets only ms = rules_at severity (severity_of sets only ms) all_rules

-- ---- options

-- what the table of a rule has at a key
abbrev pub value_in_rule : RuleName → List ℕ → Members → Option Data
value_in_rule rule key ms = option_and_then (λ d. option_and_then (get_member key) (as_table d)) (value_of_rule (called rule) ms)

-- an option in the table of its rule
abbrev pub option_in_rule : RuleOption → Members → Option Bool
option_in_rule o ms = option_and_then as_bool (value_in_rule (rule_of o) (key_of o) ms)

-- an option: what the table of its rule says, else what its own key says, else it is off
abbrev pub option_of : RuleOption → Members → Option Bool
option_of o ms = option_map (unwrap_or (option_in_rule o ms)) (flag_of (get_member (key_of o) ms))

-- one that has no key of its own
abbrev pub flag_in_rule : RuleOption → Members → Bool
flag_in_rule o ms = unwrap_or (option_in_rule o ms) false

-- options by a word
abbrev pub params_of : Members → CheckedParams
params_of ms = unwrap_or (option_and_then params_said (value_in_rule NoUnusedVars (codes "args") ms)) NoParams

abbrev pub caught_of : Members → Bool
caught_of ms = unwrap_or (option_and_then caught_said (value_in_rule NoUnusedVars (codes "caught-errors") ms)) false

abbrev pub options_of : Members → Option RuleOptions
options_of ms = option_and_then (λ a. option_and_then (λ c. option_map (λ u. record {
  allow_null = a;
  allow_comments = c;
  ignore_underscore = u;
  ignore_rest_siblings = flag_in_rule IgnoreRestSiblings ms;
  typeof_operands = flag_in_rule Typeof ms;
  params = params_of ms;
  caught_errors = caught_of ms;
}) (option_of IgnoreUnderscore ms)) (option_of AllowComments ms)) (option_of AllowNull ms)

-- the strings in an array
abbrev pub strings_in : Items → List (List ℕ)
strings_in no_items = []
strings_in (item d xs) = option_map_or (λ w. w ∷ strings_in xs) (as_str d) (strings_in xs)

-- a list in the table of its rule
abbrev pub list_of : NameList → Members → List (List ℕ)
list_of list ms = option_map_or strings_in (option_and_then as_array (value_in_rule (list_rule_of list) (list_key_of list) ms)) []

abbrev pub lists_of : Members → NameLists
lists_of ms = record { args_ignore = list_of ArgsIgnore ms; vars_ignore = list_of VarsIgnore ms; caught_errors_ignore = list_of CaughtErrorsIgnore ms; allow = list_of Allow ms }

-- ---- settings

-- the settings of a document whose keys and rules fit
abbrev pub settings_with : RuleSets → Option (List (List ℕ)) → Members → Option Settings
settings_with sets only ms =
    option_and_then (λ g. option_and_then (λ e. option_and_then (λ l. option_map (λ o. record { errors = all_at Error sets only ms; warnings = all_at Warn sets only ms; globals = g; environments = e; languages = l; options = o; lists = lists_of ms })
    (options_of ms)) (languages_of ms)) (environments_of (get_member (codes "env") ms)))
    (globals_of (get_member (codes "globals") ms))

abbrev pub settings_of : Members → Option Settings
settings_of ms = cond (knows_keys ms && rules_fit (get_member (codes "rules") ms))
    (option_and_then (λ sets. option_and_then (λ only. settings_with sets only ms) (only_of (get_member (codes "only") ms))) (sets_of_rules (get_member (codes "extends") ms)))
    None

-- the settings that a text gives: none where it is refused
abbrev pub settings_of_text : List ℕ → Option Settings
settings_of_text text = cond (nat_le (length text) 16777216) (option_and_then settings_of (parse_document text)) None
