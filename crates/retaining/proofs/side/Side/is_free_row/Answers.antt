use Rattle.retaining.specs.Comparing.{recent_in, word_in, words_in}
use Rattle.retaining.proofs.WordLists.{free_same}
use Rattle.retaining.proofs.side.Side.is_free_row.Goals as goal

pub returns-in-Some : goal.returns-in-Some
returns-in-Some c =
    let text = c.args.text.now in
    λ is. free_same (recent_in text c.args.self.now) (word_in text c.args.row) (words_in text c.args.rest.now) (c.is_of_same_name.ensures is)
