use Rattle.std.proofs.Common.{rules}
use Rattle.source_text.proofs.device.DeviceFeed.get.Goals as goal

pub returns-in-Err : goal.returns-in-Err
returns-in-Err g c = search rules
