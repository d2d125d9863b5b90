-- What is said of settings, as a table: right ones, wrong ones, and of two faults the first.
use Rattle.std.proofs.Common.{◌≡◌, ℕ, pos, List, ◌∷◌, ◌++◌, Option, None, Some, true, refl, option_map}
use Rattle.std.specs.Prelude.{codes, replicate}
use Rattle.std.specs.Fmt.{digits}
use Rattle.toml.specs.Data.{Data, no_items, item, Members, no_members, member, string, integer, boolean, array, table}
use Rattle.rules.specs.Misfits.{fault_of, fault_of_key, fault_text, rule_fault, shown_name}
use Rattle.rules.specs.RuleNames.{is_moot, is_rule}
use Rattle.rules.specs.RuleOptions.{is_list, is_option}
use Rattle.rules.specs.Toml.{is_key}

abbrev said : Members → Option (List ℕ)
said ms = option_map fault_text (fault_of ms)

-- one key, and one rule
abbrev at : List ℕ → Data → Members
at key d = member key d no_members

abbrev at_rule : List ℕ → Data → Members
at_rule name d = at (codes "rules") (table (at name d))

nothing-said : said no_members ≡ None
unfolding is_key
nothing-said = refl

a-rule-is-on : said (at_rule (codes "no-var") (boolean true)) ≡ None
unfolding is_key is_rule is_moot rule_fault
a-rule-is-on = refl

no-such-key : said (at (codes "x") (integer (pos 1))) ≡ Some (codes "x = 1: there is no such key")
unfolding is_key digits
no-such-key = refl

-- the first of two
first-key : said (member (codes "extends") (integer (pos 1)) (at (codes "x") (string (codes "y")))) ≡ Some (codes "x = \"y\": there is no such key")
unfolding is_key
first-key = refl

no-such-rule : said (at_rule (codes "no-vars") (string (codes "error"))) ≡ Some (codes "rules.no-vars = \"error\": there is no such rule")
unfolding is_key is_rule is_moot rule_fault
no-such-rule = refl

no-such-option : said (at_rule (codes "no-var") (table (at (codes "args") (boolean true)))) ≡ Some (codes "rules.no-var.args = true: there is no such option")
unfolding is_key is_rule is_moot rule_fault is_option is_list
no-such-option = refl

another-word : said (at_rule (codes "no-unused-vars") (table (at (codes "args") (string (codes "after"))))) ≡ Some (codes "rules.no-unused-vars.args = \"after\": it takes \"none\", \"after-used\" or \"all\"")
unfolding is_key is_rule is_moot rule_fault is_option is_list
another-word = refl

no-such-set : said (at (codes "extends") (array (item (string (codes "nine")) (item (string (codes "ten")) no_items)))) ≡ Some (codes "extends has \"ten\": it takes \"nine\", \"recommended\", \"all\" or \"none\"")
unfolding is_key
no-such-set = refl

a-rule-twice : said (at (codes "only") (array (item (string (codes "no-var")) (item (string (codes "no-var")) no_items)))) ≡ Some (codes "only has \"no-var\" twice")
unfolding is_key is_rule is_moot
a-rule-twice = refl

a-rule-once : said (at (codes "only") (array (item (string (codes "no-var")) (item (string (codes "eqeqeq")) no_items)))) ≡ None
unfolding is_key is_rule is_moot
a-rule-once = refl

no-modules : said (member (codes "edition") (integer (pos 2020)) (at (codes "source-type") (string (codes "module")))) ≡ Some (codes "source-type = \"module\": there are none in edition = 2020")
unfolding is_key fault_of_key
no-modules = refl

-- forty bytes are shown, and no line feed
forty : shown_name (replicate 40 97) ≡ replicate 40 97
forty = refl

more-than-forty : shown_name (10 ∷ replicate 40 97) ≡ 63 ∷ replicate 39 97 ++ codes "..."
more-than-forty = refl
