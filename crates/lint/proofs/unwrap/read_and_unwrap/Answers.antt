use Rattle.std.proofs.Common.{sym, subst, string_bytes}
use Rattle.lint.specs.Unwraps.{Unwraps}
use Rattle.lint.proofs.Unwrapping.{is_unwrapped}
use Rattle.lint.proofs.unwrap.read_and_unwrap.Goals as goal

pub returns-in-Ok-made_or_own-clause-unwrapped : goal.returns-in-Ok-made_or_own-clause-unwrapped
returns-in-Ok-made_or_own-clause-unwrapped c = subst (Unwraps c.args.language c.args.source.now) (sym c.in-Ok-made_or_own.ensures) c.in-Ok-unwrap_unless_fewest.ensures.unwrapped

pub returns-in-Ok-made_or_own-clause-stable : goal.returns-in-Ok-made_or_own-clause-stable
returns-in-Ok-made_or_own-clause-stable c =
    is_unwrapped c.args.language c.args.source.now (string_bytes c.in-Ok-made_or_own.text) (subst (Unwraps c.args.language c.args.source.now) (sym c.in-Ok-made_or_own.ensures) c.in-Ok-unwrap_unless_fewest.ensures.unwrapped)
