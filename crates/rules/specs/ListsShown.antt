-- Lists of names as the code keeps them.
use Rattle.std.specs.Prelude.{map, string_bytes}
use Rattle.rules.specs.RuleOptions.{NameLists}
use Rattle.rules.specs.declared.name_lists.NameLists.{NameLists as CodeNameLists}

abbrev pub lists_shown : CodeNameLists → NameLists
lists_shown lists = record {
  args_ignore = map string_bytes lists.args_ignore.items;
  vars_ignore = map string_bytes lists.vars_ignore.items;
  caught_errors_ignore = map string_bytes lists.caught_errors_ignore.items;
  allow = map string_bytes lists.allow.items;
}
