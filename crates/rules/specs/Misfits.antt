-- What is wrong with settings that don't fit: the first key at fault, with its value, and why.
use Rattle.std.specs.Prelude.{ℕ, Bool, true, false, cond, ◌&&◌, ◌||◌, nat_le, List, ◌++◌, length, map, take, Option, Some, None, is_some, option_map, option_and_then, codes}
use Rattle.std.specs.Fmt.{signed_decimal}
use Rattle.std.specs.Int.{is_in_range}
use Rattle.std.specs.Option.{option_map_or, option_or}
use Rattle.std.specs.Str.{bytes_eq}
use Rattle.toml.specs.Data.{Data, Items, no_items, item, Members, no_members, member, get_member, as_bool, as_integer, as_str, as_array, as_table}
use Rattle.language.specs.Vocabulary.{is}
use Rattle.rules.specs.Environments.{environment_of}
use Rattle.rules.specs.RuleNames.{is_known, set_named}
use Rattle.rules.specs.RuleOptions.{is_list, is_option}
use Rattle.rules.specs.Toml.{edition_of, environments_of, fits_key, flag_of, globals_of, is_key, languages_of, only_of, options_of, severity_said, sets_of_rules, source_type_of}
use Rattle.rules.specs.declared.misfit.ListKey.{ListKey}
use Rattle.rules.specs.declared.misfit.ListKey.TheVariants.{Extends, Only, Globals, Env}
use Rattle.rules.specs.declared.misfit.Misfit.{Misfit}
use Rattle.rules.specs.declared.misfit.Misfit.TheVariants as misfits
use Rattle.rules.specs.declared.settings_fault.SettingsFault.{SettingsFault}

-- the key, as a line shows it, with its value, and why it doesn't fit
pub record KeyFault : Type 0 where
  pub at : List ℕ
  pub why : Misfit

abbrev pub shown_fault : SettingsFault → KeyFault
shown_fault fault = record { at = fault.at.bytes; why = fault.why }

-- ---- keys and values in a line

-- a byte of a name; `?` for one that isn't a letter, a digit, a sign or a space of ASCII
abbrev pub shown_byte : ℕ → ℕ
shown_byte byte = cond (is_in_range 32 126 byte) byte 63

-- a name, or its first forty bytes and three dots
abbrev pub shown_name : List ℕ → List ℕ
shown_name name = cond (nat_le (length name) 40) (map shown_byte name) (map shown_byte (take 40 name) ++ codes "...")

-- a value: a string, a number or a flag as TOML has it, three dots for another
abbrev pub shown_flag : Bool → List ℕ
shown_flag true = codes "true"
shown_flag false = codes "false"

abbrev pub shown_value : Data → List ℕ
shown_value d = option_map_or (λ text. codes "\"" ++ shown_name text ++ codes "\"") (as_str d)
    (option_map_or signed_decimal (as_integer d) (option_map_or shown_flag (as_bool d) (codes "...")))

-- the fault of a key that has a value
abbrev pub fault_at : List ℕ → Data → Misfit → KeyFault
fault_at key d why = record { at = key ++ codes " = " ++ shown_value d; why = why }

-- that of a key that has an element in its array
abbrev pub fault_in : List ℕ → Data → Misfit → KeyFault
fault_in key d why = record { at = key ++ codes " has " ++ shown_value d; why = why }

-- that of a key of a document
unfoldable pub fault_of_key : List ℕ → Members → Misfit → KeyFault
fault_of_key key ms why = option_map_or (λ d. fault_at key d why) (get_member key ms) (record { at = key; why = why })

-- ---- keys

abbrev pub key_fault : Members → Option KeyFault
key_fault no_members = None
key_fault (member k d ms) = cond (is_key k) (key_fault ms) (Some (fault_at (shown_name k) d misfits.NoKey))

-- ---- `rules`

abbrev pub rule_path : List ℕ → List ℕ
rule_path rule = codes "rules." ++ shown_name rule

abbrev pub option_path : List ℕ → List ℕ → List ℕ
option_path rule key = rule_path rule ++ codes "." ++ shown_name key

-- why a value of an option doesn't fit
abbrev pub option_misfit : List ℕ → List ℕ → Misfit
option_misfit rule key =
    cond (is key "severity") misfits.NoSeverity
    (cond (is_option rule key) misfits.NoFlag
    (cond (is_list rule key) misfits.NoNameList
    (cond (is rule "no-unused-vars" && is key "args") misfits.NoParams
    (cond (is rule "no-unused-vars" && is key "caught-errors") misfits.NoCaughtErrors misfits.NoOption))))

abbrev pub table_fault : List ℕ → Members → Option KeyFault
table_fault rule no_members = None
table_fault rule (member k d ms) = cond (fits_key rule k d) (table_fault rule ms) (Some (fault_at (option_path rule k) d (option_misfit rule k)))

abbrev pub value_fault : List ℕ → Data → Option KeyFault
value_fault rule d = option_map_or (table_fault rule) (as_table d) (cond (is_some (severity_said d)) None (Some (fault_at (rule_path rule) d misfits.NoRuleSetting)))

unfoldable pub rule_fault : List ℕ → Data → Option KeyFault
rule_fault rule d = cond (is_known rule) (value_fault rule d) (Some (fault_at (rule_path rule) d misfits.NoRule))

abbrev pub table_of_rules_fault : Members → Option KeyFault
table_of_rules_fault no_members = None
table_of_rules_fault (member k d ms) = option_or (rule_fault k d) (table_of_rules_fault ms)

abbrev pub rules_fault : Option Data → Option KeyFault
rules_fault None = None
rules_fault (Some d) = option_map_or table_of_rules_fault (as_table d) (Some (fault_at (codes "rules") d misfits.NoTable))

-- ---- arrays of names

abbrev pub list_key : ListKey → List ℕ
list_key Extends = codes "extends"
list_key Only = codes "only"
list_key Globals = codes "globals"
list_key Env = codes "env"

-- an element that such an array may have
abbrev pub fits_item : ListKey → Data → Bool
fits_item Extends d = is_some (option_and_then set_named (as_str d))
fits_item Only d = option_map_or is_known (as_str d) false
fits_item Globals d = is_some (as_str d)
fits_item Env d = is_some (option_and_then environment_of (as_str d))

abbrev pub item_misfit : ListKey → Misfit
item_misfit Extends = misfits.NoSet
item_misfit Only = misfits.NoRule
item_misfit Globals = misfits.NoString
item_misfit Env = misfits.NoEnvironment

-- why a value that is no such array doesn't fit
abbrev pub list_misfit : ListKey → Misfit
list_misfit Extends = misfits.NoSets
list_misfit Only = misfits.NoArray
list_misfit Globals = misfits.NoArray
list_misfit Env = misfits.NoArray

abbrev pub unfit_item : ListKey → Items → Option Data
unfit_item key no_items = None
unfit_item key (item d xs) = cond (fits_item key d) (unfit_item key xs) (Some d)

-- an array has this string
abbrev pub has_string : List ℕ → Items → Bool
has_string text no_items = false
has_string text (item d xs) = option_map_or (bytes_eq text) (as_str d) false || has_string text xs

-- the first string that stands again behind its place
abbrev pub repeated : Items → Option Data
repeated no_items = None
repeated (item d xs) = cond (option_map_or (λ text. has_string text xs) (as_str d) false) (Some d) (repeated xs)

-- the first element that such an array may not have, or that `only` has twice
abbrev pub item_fault : ListKey → Items → Option KeyFault
item_fault key xs = option_or (option_map (λ d. fault_in (list_key key) d (item_misfit key)) (unfit_item key xs))
    (option_map (λ d. fault_in (list_key key) d misfits.Twice) (repeated xs))

abbrev pub value_list_fault : ListKey → Data → KeyFault
value_list_fault key d = option_map_or (λ fault. fault) (option_and_then (item_fault key) (as_array d)) (fault_at (list_key key) d (list_misfit key))

-- the fault of an array that isn't taken
abbrev pub list_fault : ListKey → Members → KeyFault
list_fault key ms = option_map_or (value_list_fault key) (get_member (list_key key) ms) (record { at = list_key key; why = list_misfit key })

-- ---- languages and flags

abbrev pub languages_fault : Members → KeyFault
languages_fault ms = cond (is_some (edition_of (get_member (codes "edition") ms)))
    (cond (is_some (source_type_of (get_member (codes "source-type") ms))) (fault_of_key (codes "source-type") ms misfits.NoModules) (fault_of_key (codes "source-type") ms misfits.NoSourceType))
    (fault_of_key (codes "edition") ms misfits.NoEdition)

unfoldable pub is_flag : List ℕ → Members → Bool
is_flag key ms = is_some (flag_of (get_member key ms))

-- where `allow-null` is one
unfoldable pub later_flags_fault : Members → KeyFault
later_flags_fault ms = cond (is_flag (codes "allow-comments") ms) (fault_of_key (codes "ignore-underscore") ms misfits.NoFlag) (fault_of_key (codes "allow-comments") ms misfits.NoFlag)

abbrev pub flags_fault : Members → KeyFault
flags_fault ms = cond (is_flag (codes "allow-null") ms) (later_flags_fault ms) (fault_of_key (codes "allow-null") ms misfits.NoFlag)

-- ---- a document

-- a fault where there is nothing, else what comes next
abbrev pub unless : {A : Type 0} → Option A → KeyFault → Option KeyFault → Option KeyFault
unless None fault next = Some fault
unless (Some x) fault next = next

-- the faults of the keys that are read behind `rules`, `extends` and `only`
abbrev pub values_fault : Members → Option KeyFault
values_fault ms =
    unless (globals_of (get_member (codes "globals") ms)) (list_fault Globals ms)
    (unless (environments_of (get_member (codes "env") ms)) (list_fault Env ms)
    (unless (languages_of ms) (languages_fault ms)
    (unless (options_of ms) (flags_fault ms) None)))

-- the first fault of a document: a key that there isn't, what stands in `rules`, each in the order of names; then `extends`, `only`, `globals`, `env`, the languages and
-- the flags
abbrev pub fault_of : Members → Option KeyFault
fault_of ms =
    option_or (key_fault ms)
    (option_or (rules_fault (get_member (codes "rules") ms))
    (unless (sets_of_rules (get_member (codes "extends") ms)) (list_fault Extends ms)
    (unless (only_of (get_member (codes "only") ms)) (list_fault Only ms) (values_fault ms))))

-- ---- words

abbrev pub misfit_words : Misfit → List ℕ
misfit_words misfits.NoKey = codes ": there is no such key"
misfit_words misfits.NoRule = codes ": there is no such rule"
misfit_words misfits.NoOption = codes ": there is no such option"
misfit_words misfits.NoTable = codes ": it takes a table"
misfit_words misfits.NoSeverity = codes ": it takes true, false, \"off\", \"warn\", \"error\", 0, 1 or 2"
misfit_words misfits.NoRuleSetting = codes ": it takes true, false, \"off\", \"warn\", \"error\", 0, 1, 2 or a table with a severity or options"
misfit_words misfits.NoFlag = codes ": it takes true or false"
misfit_words misfits.NoParams = codes ": it takes \"none\", \"after-used\" or \"all\""
misfit_words misfits.NoCaughtErrors = codes ": it takes \"none\" or \"all\""
misfit_words misfits.NoNameList = codes ": it takes an array of 100 strings at most, each with a * at one end at most"
misfit_words misfits.NoSet = codes ": it takes \"nine\", \"recommended\", \"all\" or \"none\""
misfit_words misfits.NoSets = codes ": it takes \"nine\", \"recommended\", \"all\", \"none\" or an array of these"
misfit_words misfits.NoArray = codes ": it takes an array of strings"
misfit_words misfits.NoString = codes ": it takes strings"
misfit_words misfits.NoEnvironment = codes ": it takes \"browser\", \"node\", \"commonjs\", \"worker\", \"es2022\", \"mocha\" or \"jest\""
misfit_words misfits.NoEdition = codes ": it takes 2020 or 2022"
misfit_words misfits.NoSourceType = codes ": it takes \"script\" or \"module\""
misfit_words misfits.NoModules = codes ": there are none in edition = 2020"
misfit_words misfits.Twice = codes " twice"

-- what a line says of a fault
abbrev pub fault_text : KeyFault → List ℕ
fault_text fault = fault.at ++ misfit_words fault.why
