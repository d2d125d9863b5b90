use Rattle.std.proofs.lemmas.Str.{IsCharBoundary-start}
use Rattle.unwrapping.proofs.reading.first_token_place.Goals as goal

pub returns-in_default-clause-place : goal.returns-in_default-clause-place
returns-in_default-clause-place c = IsCharBoundary-start c.args.source.now c.text-text.ensures.utf8
