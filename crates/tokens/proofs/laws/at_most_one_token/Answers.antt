use Rattle.tokens.proofs.TokenUniqueness.{determined}
use Rattle.tokens.proofs.laws.at_most_one_token.Goals as goal

pub returns : goal.returns
returns c = determined
