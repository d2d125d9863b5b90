use Rattle.std.proofs.Common.{◌≡◌, map, option_map, string_bytes, subst}
use Rattle.std.specs.Prelude.{IfOk}
use Rattle.toml.specs.View.{table_view}
use Rattle.rules.specs.Toml.{all_at, rules_at, severity_of}
use Rattle.rules.proofs.rule_settings.all_at.Goals as goal

pub returns : goal.returns
unfolding all_at
returns c =
    subst (λ rs. IfOk c.rules_at.result (λ v. v.items ≡ rules_at c.args.severity (severity_of c.args.sets (option_map (λ names. map string_bytes names.keys) c.args.only.now) (table_view c.args.table.now)) rs))
    c.as_slice.ensures c.rules_at.ensures
