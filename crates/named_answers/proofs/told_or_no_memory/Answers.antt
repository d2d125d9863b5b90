use Rattle.named_answers.proofs.Tellings.{told_no_more}
use Rattle.named_answers.proofs.told_or_no_memory.Goals as goal

pub returns-in-Err : goal.returns-in-Err
returns-in-Err c = told_no_more c.args.shown.now c.args.answer.now c.at_no_place-why.result _ c.at_no_place-why.ensures c.refused.ensures
