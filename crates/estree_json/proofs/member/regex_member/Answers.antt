use Rattle.std.proofs.Common.{◌≡◌, ◌∷◌, codes, Some, lit<}
use Rattle.std.proofs.lemmas.Str.Pattern.{strip_prefix_char}
use Rattle.estree_json.specs.Texts.{regex_of, literal_regex}
use Rattle.estree_json.proofs.Quotes.{no_regex}
use Rattle.estree_json.proofs.Sent.{option_as, option_none, regex_some}
use Rattle.estree_json.proofs.member.regex_member.Goals as goal

pub returns-in-Some : goal.returns-in-Some
returns-in-Some g c =
    let log = g.S.Serializer.written in
    let found = strip_prefix_char 47 c.args.raw.now c.strip_prefix.result c.strip_prefix.ensures.cases (lit< tt) in
    let split : c.args.raw.now ≡ 47 ∷ c.in-Some.rest.now = rw c.in-Some.is at found in
    option_as c.regex_object.result (codes "regex") (Some (regex_of c.in-Some.rest.now)) (literal_regex c.args.raw.now) (log c.args.out.now) (log c.regex_object.new.out) (regex_some _ _ split) c.regex_object.ensures

pub returns-in-None : goal.returns-in-None
returns-in-None g c =
    let found = strip_prefix_char 47 c.args.raw.now c.strip_prefix.result c.strip_prefix.ensures.cases (lit< tt) in
    option_none (codes "regex") (literal_regex c.args.raw.now) (g.S.Serializer.written c.args.out.now) (no_regex c.args.raw.now (rw c.in-None.is at found))
