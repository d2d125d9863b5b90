use Rattle.std.proofs.Common.{rules}
use Rattle.source_text.proofs.device.Device.new.Goals as goal

pub returns-clause-ready : goal.returns-clause-ready
returns-clause-ready g c = search rules
