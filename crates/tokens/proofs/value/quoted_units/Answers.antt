use Rattle.std.proofs.Common.{◌∙◌, [], unwrap_or, ap}
use Rattle.tokens.specs.Escapes.{unescaped}
use Rattle.tokens.proofs.value.quoted_units.Goals as goal

pub returns-in_default : goal.returns-in_default
returns-in_default c =
    let e = rw c.in_default.is at c.in_ok-value.ensures in
    c.new.ensures.items ∙ ap (λ o. unwrap_or o []) e ∙ ap (λ x. unwrap_or (unescaped x) []) c.contents.ensures

pub returns : goal.returns
returns c =
    let e = rw c.in-Some.is at c.in_ok-value.ensures in
    ap (λ o. unwrap_or o []) e ∙ ap (λ x. unwrap_or (unescaped x) []) c.contents.ensures
