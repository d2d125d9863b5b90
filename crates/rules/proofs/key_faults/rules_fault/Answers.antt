use Rattle.std.proofs.Common.{sym, ap, ◌∙◌}
use Rattle.std.specs.Prelude.{is_some, not}
use Rattle.rules.proofs.KnownKeys.{rules_known, some_shown}
use Rattle.rules.proofs.key_faults.rules_fault.Goals as goal

pub returns-clause-fit : goal.returns-clause-fit
returns-clause-fit c =
    rules_known _ ∙ ap (λ fault. not (is_some fault)) (sym c.fault_at_rules.ensures) ∙ ap not (some_shown c.fault_at_rules.result)
