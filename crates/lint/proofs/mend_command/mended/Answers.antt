use Rattle.lint.proofs.Mending.{mended_none, mended_some}
use Rattle.lint.proofs.mend_command.mended.Goals as goal

pub returns-in-Ok-Some-clause-mended : goal.returns-in-Ok-Some-clause-mended
returns-in-Ok-Some-clause-mended g c = mended_some _ c.args.language c.args.settings.now c.args.source.now _ c.in-Ok-Some.text c.in-Ok-Some.field-0-is c.in-Ok-Some.ensures

pub returns-in-Ok-None-clause-mended : goal.returns-in-Ok-None-clause-mended
returns-in-Ok-None-clause-mended g c = mended_none _ c.args.language c.args.settings.now c.args.source.now c.text.result.now _ c.in-Ok-None.field-0-is c.text.ensures.value c.in-Ok-None.ensures
