use Rattle.embedding_c.proofs.Telling.{tells_refusal}
use Rattle.embedding_c.proofs.tell_answer.Goals as goal

pub returns-in-Err : goal.returns-in-Err
returns-in-Err c = tells_refusal c.args.command c.args.asked c.args.text.now c.args.second.now _ _ _ _ c.in-Err.ensures.answer c.tell_refusal.ensures

pub tell_refusal-requires : goal.tell_refusal-requires
tell_refusal-requires c = c.in-Err.ensures.told
