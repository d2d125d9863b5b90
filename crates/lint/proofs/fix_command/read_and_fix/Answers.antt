use Rattle.std.proofs.Common.{string_bytes}
use Rattle.language.specs.Claims.{max_open}
use Rattle.lint.proofs.FixAnswers.{stable}
use Rattle.lint.proofs.fix_command.read_and_fix.Goals as goal

pub fix-requires : goal.fix-requires
fix-requires c =
    let is = c.in_ok-parsed.ensures in
    record { script = record { language = c.args.language; text = c.args.source.now; utf8 = is.accepted.source; short = is.short; derived = (max_open, is.accepted.derived.1) } }

pub returns-clause-fixed : goal.returns-clause-fixed
returns-clause-fixed c = c.in_ok-text.ensures.fixed c.args.language c.args.source.now c.in_ok-parsed.ensures.accepted

pub returns-clause-stable : goal.returns-clause-stable
returns-clause-stable c = stable c.args.language c.args.source.now (string_bytes c.in_ok-text.text) (returns-clause-fixed c)
