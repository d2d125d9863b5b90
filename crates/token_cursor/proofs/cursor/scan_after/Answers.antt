use Rattle.token_cursor.proofs.ScanResults.{scanned}
use Rattle.token_cursor.proofs.cursor.scan_after.Goals as goal

pub returns : goal.returns
returns c = let e = c.scan.ensures in scanned c.args.goal c.args.source.now c.args.at c.scan.result e.ok e.within e.goes_on e.string e.err e.fault_place
