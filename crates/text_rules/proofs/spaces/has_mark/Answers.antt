use Rattle.std.proofs.Common.{ap, sym}
use Rattle.std.proofs.lemmas.Str.{IsCharBoundary-start}
use Rattle.text_rules.specs.Found.{has_mark}
use Rattle.text_rules.proofs.spaces.has_mark.Goals as goal

pub char_at-requires : goal.char_at-requires
char_at-requires c = IsCharBoundary-start c.args.source.now c.utf8.source

pub returns-in-Some : goal.returns-in-Some
returns-in-Some c = sym (ap has_mark c.in-Some.ensures.some.split)

pub returns-in-None : goal.returns-in-None
returns-in-None c = sym (ap has_mark c.in-None.ensures.none)
