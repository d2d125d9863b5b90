use Rattle.std.proofs.Common.{string_bytes}
use Rattle.lint.proofs.Mending.{made_once}
use Rattle.lint.proofs.mend.next_text.Goals as goal

pub returns : goal.returns
returns g c =
    made_once _ c.args.language c.args.settings.now (λ t. string_bytes t) c.changed_text.result c.args.source.now c.args.parsed.now.program c.program.result.now c.args.parsed.now.pairs.items c.in_ok-reports.reports.items c.deref.result.now
    c.requires.reading (c.in_ok-reports.ensures c.args.language) c.program.ensures c.deref.ensures.value c.changed_text.ensures
