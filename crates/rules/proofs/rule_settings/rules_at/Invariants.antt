use Rattle.std.proofs.Common.{◌≡◌, ◌++◌, drop, map, option_map, string_bytes}
use Rattle.toml.specs.View.{table_view}
use Rattle.rules.specs.Toml.{rules_at, severity_of}
use Rattle.rules.proofs.rule_settings.rules_at.Given as goal

abbrev pub invariant-loop-rule : goal.invariant-loop-rule
invariant-loop-rule l =
    l.found.items ++ rules_at l.severity (severity_of l.sets (option_map (λ names. map string_bytes names.keys) l.only) (table_view l.table)) (drop l.rule-index l.rules)
    ≡ rules_at l.severity (severity_of l.sets (option_map (λ names. map string_bytes names.keys) l.only) (table_view l.table)) l.rules
