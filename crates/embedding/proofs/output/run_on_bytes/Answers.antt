use Rattle.std.proofs.Common.{sym}
use Rattle.embedding.proofs.InMemory.{ran_in_memory, refused_in_memory}
use Rattle.embedding.proofs.output.run_on_bytes.Goals as goal

pub returns-in-Ok-clause-answer : goal.returns-in-Ok-clause-answer
returns-in-Ok-clause-answer c =
    ran_in_memory c.args.command c.args.asked c.args.text.now c.args.second.now _ _ _ _ _ _ c.in-Ok.status c.new-file.ensures c.new-second.ensures c.new-output.ensures.empty
    (sym c.into_bytes.ensures) c.in-Ok.ensures.answer

pub refusal_in_memory-requires : goal.refusal_in_memory-requires
refusal_in_memory-requires c = c.in-Err.ensures.told

pub returns-in-Err-clause-told : goal.returns-in-Err-clause-told
returns-in-Err-clause-told c = c.refusal_in_memory.ensures.told

pub returns-in-Err-clause-answer : goal.returns-in-Err-clause-answer
returns-in-Err-clause-answer c =
    refused_in_memory c.args.command c.args.asked c.args.text.now c.args.second.now _ _ _ _ _ c.in-Err.refused c.refusal_in_memory.result c.new-file.ensures c.new-second.ensures
    c.new-output.ensures.empty c.refusal_in_memory.ensures.same c.in-Err.ensures.answer
