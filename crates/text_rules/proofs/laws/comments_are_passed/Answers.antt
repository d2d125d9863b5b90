use Rattle.text_rules.proofs.CommentsPassed.{passed}
use Rattle.text_rules.proofs.laws.comments_are_passed.Goals as goal

pub returns : goal.returns
returns c = passed
