use Rattle.retaining.proofs.WordLists.{next_same}
use Rattle.retaining.proofs.free.is_before_same.Goals as goal

pub returns-in-Some : goal.returns-in-Some
returns-in-Some c = λ same. next_same c.args.text.now c.args.span c.args.rows.now c.in-Some.row.now c.in-Some.ensures.value (c.are_same.ensures same)
