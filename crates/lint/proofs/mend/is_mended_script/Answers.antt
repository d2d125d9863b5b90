use Rattle.std.proofs.Common.{◌∙◌}
use Rattle.lint.proofs.Mending.{mends_to, told_yes}
use Rattle.lint.proofs.mend.is_mended_script.Goals as goal

pub returns : goal.returns
returns c =
    let again = c.in-Ok-read_script.again in
    let reading = c.in-Ok-read_script.ensures in
    told_yes c.is_mended.result
    (mends_to c.args.script.language c.args.script.reports.now c.args.script.source.now c.in-Ok.next c.args.round.now.bytes.items c.args.script.program.now c.program.result.now again.program again.pairs.items
    (c.in-Ok.ensures.ok.0 ∙ c.deref.ensures.value) c.program.ensures reading.accepted reading.only)
    c.is_mended.ensures
