use Rattle.std.proofs.Common.{[], refl, sym, subst, string_bytes}
use Rattle.lint.specs.Unwraps.{Unwraps, made_text}
use Rattle.lint.proofs.Unwrapping.{is_unwrapped}
use Rattle.lint.proofs.command_answers.unwrapped.Goals as goal

pub returns-in-Ok-Some-clause-answer : goal.returns-in-Ok-Some-clause-answer
returns-in-Ok-Some-clause-answer c =
    let text = c.args.source.now in
    let unwraps : Unwraps c.args.language text (string_bytes c.in-Ok-Some.text) = subst (λ made. Unwraps c.args.language text (made_text text made)) c.in-Ok-Some.field-0-is c.in-Ok-Some.ensures.unwrapped in
    λ finds given. (refl, ([], refl, (unwraps, is_unwrapped c.args.language text (string_bytes c.in-Ok-Some.text) unwraps, refl)))

pub returns-in-Ok-None-clause-answer : goal.returns-in-Ok-None-clause-answer
returns-in-Ok-None-clause-answer c =
    let text = c.args.source.now in
    let own : Unwraps c.args.language text text = subst (λ made. Unwraps c.args.language text (made_text text made)) c.in-Ok-None.field-0-is c.in-Ok-None.ensures.unwrapped in
    let unwraps : Unwraps c.args.language text c.text.result.now = subst (Unwraps c.args.language text) (sym c.text.ensures.value) own in
    λ finds given. (refl, ([], refl, (unwraps, is_unwrapped c.args.language text c.text.result.now unwraps, refl)))
