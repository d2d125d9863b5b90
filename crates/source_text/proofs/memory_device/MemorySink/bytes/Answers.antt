use Rattle.std.proofs.Common.{rules}
use Rattle.source_text.proofs.memory_device.MemorySink.bytes.Goals as goal

pub returns : goal.returns
returns c = search rules
