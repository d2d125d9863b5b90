use Rattle.std.proofs.Common.{sym, ap, ◌∙◌}
use Rattle.std.specs.Prelude.{is_some, not}
use Rattle.toml.specs.View.{table_view}
use Rattle.rules.proofs.KnownKeys.{keys_known, some_shown}
use Rattle.rules.proofs.key_faults.key_fault.Goals as goal

pub returns-clause-known : goal.returns-clause-known
returns-clause-known c =
    keys_known (table_view c.args.table.now) ∙ ap (λ fault. not (is_some fault)) (sym c.first_unknown.ensures) ∙ ap not (some_shown c.first_unknown.result)
