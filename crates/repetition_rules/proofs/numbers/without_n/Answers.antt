use Rattle.std.proofs.Common.{◌≡◌, [], ◌∷◌, ◌++◌, sym, ◌∙◌, ap, lit<}
use Rattle.std.proofs.lemmas.Str.Pattern.{strip_suffix_char}
use Rattle.repetition_rules.specs.Keys.{without_n}
use Rattle.repetition_rules.proofs.Digits.{n-last, no-n-last}
use Rattle.repetition_rules.proofs.numbers.without_n.Goals as goal

pub returns-in-Some : goal.returns-in-Some
returns-in-Some c =
    let found = strip_suffix_char 110 c.args.text.now c.strip_suffix.result c.strip_suffix.ensures.cases (lit< tt) in
    let split : c.args.text.now ≡ c.in-Some.rest.now ++ 110 ∷ [] = rw c.in-Some.is at found in
    sym (ap without_n split ∙ n-last c.in-Some.rest.now)

pub returns-in-None : goal.returns-in-None
returns-in-None c =
    let found = strip_suffix_char 110 c.args.text.now c.strip_suffix.result c.strip_suffix.ensures.cases (lit< tt) in
    no-n-last c.args.text.now (rw c.in-None.is at found)
