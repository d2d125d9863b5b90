use Rattle.std.proofs.Common.{lit<}
use Rattle.std.proofs.lemmas.Str.Pattern.{strip_prefix_char}
use Rattle.estree_json.proofs.Quotes.{no_regex}
use Rattle.estree_json.proofs.values.literal_regex.Goals as goal

pub returns-in-None : goal.returns-in-None
returns-in-None c =
    let found = strip_prefix_char 47 c.args.raw.now c.strip_prefix.result c.strip_prefix.ensures.cases (lit< tt) in
    no_regex c.args.raw.now (rw c.in-None.is at found)
