use Rattle.std.proofs.Common.{refl}
use Rattle.token_cursor.proofs.ScanResults.{only_end}
use Rattle.token_cursor.proofs.cursor.Cursor.take.Goals as goal

pub returns-in-End-clause-err : goal.returns-in-End-clause-err
returns-in-End-clause-err c = (c.next_start-in-End.ensures.place, only_end _ _ _ _ c.in-Some.ensures.some c.in-End.is, refl)
