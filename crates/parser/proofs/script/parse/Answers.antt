use Rattle.std.proofs.Common.{◌∙◌, ◌<◌, ap, subst, sym, Err, List, ℕ, length}
use Rattle.std.proofs.lemmas.Str.{IsCharBoundary-start}
use Rattle.unambiguity_laws.proofs.OrderedPairs.{pairs_ordered_in}
use Rattle.parser.specs.Scripts.{IsAnswered}
use Rattle.parser.proofs.ShortTexts.{short_refused}
use Rattle.parser.proofs.Refusals.{refused_alike}
use Rattle.parser.proofs.EarlierTexts.{earlier_derives}
use Rattle.parser.proofs.script.parse.Goals as goal
use Rattle.language.specs.Claims.{max_open, short_bytes}

pub returns-in-Err-TooDeep-clause-complete : goal.returns-in-Err-TooDeep-clause-complete
returns-in-Err-TooDeep-clause-complete c =
    short_refused c.args.language c.args.source.now c.read.result c.text-text.ensures.utf8 (subst (λ (x : List ℕ). length x < short_bytes) c.text-text.ensures.value c.if-text-lt-SHORT_BYTES.true) (c.in-Err-TooDeep.is ∙ ap Err c.in-Err-TooDeep.field-0-is) c.read.ensures.complete

pub returns-in-Err-TooDeep-clause-refused : goal.returns-in-Err-TooDeep-clause-refused
returns-in-Err-TooDeep-clause-refused c = IsCharBoundary-start c.args.source.now c.text-text.ensures.utf8

pub returns-in-Ok-clause-ordered : goal.returns-in-Ok-clause-ordered
returns-in-Ok-clause-ordered c =
    let is = c.in-Ok.ensures in
    pairs_ordered_in c.args.language c.args.source.now _ _ is.source.0 (max_open, is.derived.1)

pub returns-in-Ok-clause-earlier : goal.returns-in-Ok-clause-earlier
returns-in-Ok-clause-earlier c = λ base o n P before. c.in-Ok.ensures.complete o n P (earlier_derives c.args.language o c.args.source.now n P base c.text-text.ensures.utf8 before)

pub returns-in-Err-TooDeep-clause-earlier : goal.returns-in-Err-TooDeep-clause-earlier
returns-in-Err-TooDeep-clause-earlier c = λ base o n P before.
    short_refused c.args.language c.args.source.now c.read.result c.text-text.ensures.utf8 (subst (λ (x : List ℕ). length x < short_bytes) c.text-text.ensures.value c.if-text-lt-SHORT_BYTES.true) (c.in-Err-TooDeep.is ∙ ap Err c.in-Err-TooDeep.field-0-is) c.read.ensures.complete o n P
    (earlier_derives c.args.language o c.args.source.now n P base c.text-text.ensures.utf8 before)

pub returns-in-Err-clause-earlier : goal.returns-in-Err-clause-earlier
returns-in-Err-clause-earlier c = λ base o n P before.
    subst (λ fault. IsAnswered c.args.language c.args.source.now (Err fault)) (sym c.in-Err.fault-is) (refused_alike c.args.language c.args.source.now c.in-Err.fault c.in-Err.ensures.complete) o n P
    (earlier_derives c.args.language o c.args.source.now n P base c.text-text.ensures.utf8 before)
