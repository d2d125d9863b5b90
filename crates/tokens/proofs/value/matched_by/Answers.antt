use Rattle.std.proofs.Common.{◌∙◌, ap, sym, subst, get_or}
use Rattle.tokens.specs.Escaped.{units_of, IsOther}
use Rattle.tokens.proofs.WordMatches.{another}
use Rattle.tokens.proofs.value.matched_by.Goals as goal

pub returns-then-from-value-clause-none : goal.returns-then-from-value-clause-none
returns-then-from-value-clause-none c =
    subst (λ v. IsOther c.args.word.now c.args.matched (units_of v)) (sym c.in-Some.is)
    (another c.args.word.now c.args.matched c.in-Some.value ((c.type_inv.word c.args.matched).fits)
    (λ e. c.if-from-value.true (c.from.ensures ∙ ap (λ x. get_or x c.args.matched 0) c.as_bytes-bytes.ensures.value ∙ e)))
