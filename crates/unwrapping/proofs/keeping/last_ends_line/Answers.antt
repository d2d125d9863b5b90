use Rattle.unwrapping.proofs.CompareSteps.{last_some}
use Rattle.unwrapping.proofs.keeping.last_ends_line.Goals as goal

pub returns-in-Some : goal.returns-in-Some
returns-in-Some c = λ ends. last_some c.args.text.now c.args.comments.now c.in-Some.comment.now c.in-Some.ensures.value (c.ends_line.ensures ends)
