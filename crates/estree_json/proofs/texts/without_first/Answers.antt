use Rattle.std.proofs.Common.{lit<}
use Rattle.std.proofs.lemmas.Str.Pattern.{strip_prefix_char}
use Rattle.estree_json.proofs.Quotes.{no_quote_first}
use Rattle.estree_json.proofs.texts.without_first.Goals as goal

pub returns-in-None : goal.returns-in-None
returns-in-None c =
    let double = strip_prefix_char 34 c.args.text.now c.strip_prefix.result c.strip_prefix.ensures.cases (lit< tt) in
    let single = strip_prefix_char 39 c.args.text.now c.strip_prefix-2.result c.strip_prefix-2.ensures.cases (lit< tt) in
    no_quote_first c.args.text.now (rw c.in_default.is at double) (rw c.in-None.is at single)
