use Rattle.named_answers.proofs.Tellings.{told_either, told_refused}
use Rattle.named_answers.proofs.answered.Goals as goal

pub returns-in-Ok : goal.returns-in-Ok
returns-in-Ok c = told_either c.args.command c.args.asked c.args.shown.now c.args.text.now c.args.settings.now c.in-Ok.answer _ c.in-Ok.ensures.answer c.told_or_no_memory.ensures

pub returns-in-Err : goal.returns-in-Err
returns-in-Err c = told_refused c.args.command c.args.asked c.args.shown.now c.args.text.now c.args.settings.now c.in-Err.why _ c.in-Err.ensures.answer c.refused.ensures

pub refused-requires : goal.refused-requires
refused-requires c = c.in-Err.ensures.told
