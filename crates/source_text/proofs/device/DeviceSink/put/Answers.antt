use Rattle.std.proofs.Common.{rules}
use Rattle.source_text.proofs.device.DeviceSink.put.Goals as goal

pub returns-in-Ok : goal.returns-in-Ok
returns-in-Ok g c = search rules
