use Rattle.std.proofs.Common.{◌≡◌, [], ◌∷◌, ◌++◌, sym, ◌∙◌, ap, refl, lit<}
use Rattle.std.proofs.lemmas.Str.Pattern.{strip_suffix_char}
use Rattle.estree_json.specs.Texts.{without_last}
use Rattle.estree_json.proofs.Quotes.{no_quote_last, quote_last}
use Rattle.estree_json.proofs.texts.without_last.Goals as goal

pub returns-in-Some : goal.returns-in-Some
returns-in-Some c =
    let found = strip_suffix_char 34 c.args.text.now c.strip_suffix.result c.strip_suffix.ensures.cases (lit< tt) in
    let split : c.args.text.now ≡ c.in-Some.rest.now ++ 34 ∷ [] = rw c.in-Some.is at found in
    sym (ap without_last split ∙ quote_last 34 c.in-Some.rest.now refl)

pub returns-in-Some-strip_suffix : goal.returns-in-Some-strip_suffix
returns-in-Some-strip_suffix c =
    let found = strip_suffix_char 39 c.args.text.now c.strip_suffix-2.result c.strip_suffix-2.ensures.cases (lit< tt) in
    let split : c.args.text.now ≡ c.in-Some-strip_suffix.rest.now ++ 39 ∷ [] = rw c.in-Some-strip_suffix.is at found in
    sym (ap without_last split ∙ quote_last 39 c.in-Some-strip_suffix.rest.now refl)

pub returns-in-None : goal.returns-in-None
returns-in-None c =
    let double = strip_suffix_char 34 c.args.text.now c.strip_suffix.result c.strip_suffix.ensures.cases (lit< tt) in
    let single = strip_suffix_char 39 c.args.text.now c.strip_suffix-2.result c.strip_suffix-2.ensures.cases (lit< tt) in
    no_quote_last c.args.text.now (rw c.in_default.is at double) (rw c.in-None.is at single)
