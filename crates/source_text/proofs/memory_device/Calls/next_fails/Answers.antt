use Rattle.std.proofs.Common.{rules}
use Rattle.source_text.proofs.memory_device.Calls.next_fails.Goals as goal

pub returns-in-Some-clause-chosen : goal.returns-in-Some-clause-chosen
returns-in-Some-clause-chosen c = search rules
