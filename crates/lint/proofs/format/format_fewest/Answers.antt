use Rattle.std.proofs.Common.{sym, subst, string_bytes}
use Rattle.lint.specs.Unwraps.{Unwraps, made_text}
use Rattle.lint.proofs.Formatting.{fewest_either}
use Rattle.lint.proofs.format.format_fewest.Goals as goal

pub returns-in-Ok-None-clause-formatted : goal.returns-in-Ok-None-clause-formatted
returns-in-Ok-None-clause-formatted c =
    let text = c.args.source.now in
    let own : Unwraps c.args.terms.language text text = subst (λ made. Unwraps c.args.terms.language text (made_text text made)) c.in-Ok-None.field-0-is c.in-Ok-None.ensures.unwrapped in
    fewest_either (λ t. string_bytes t) c.args.terms.language c.args.terms.style text text c.format_parsed.result own c.format_parsed.ensures.formatted

pub returns-in-Ok-Some-clause-formatted : goal.returns-in-Ok-Some-clause-formatted
returns-in-Ok-Some-clause-formatted c =
    let text = c.args.source.now in
    let made : Unwraps c.args.terms.language text (string_bytes c.in-Ok-Some.text) = subst (λ made. Unwraps c.args.terms.language text (made_text text made)) c.in-Ok-Some.field-0-is c.in-Ok-Some.ensures.unwrapped in
    let unwraps : Unwraps c.args.terms.language text c.as_str.result.now = subst (Unwraps c.args.terms.language text) (sym c.as_str.ensures.value) made in
    fewest_either (λ t. string_bytes t) c.args.terms.language c.args.terms.style text c.as_str.result.now c.format_unwrapped.result unwraps c.format_unwrapped.ensures.formatted
