use Rattle.std.proofs.Common.{ap, sym, ◌∙◌, subst}
use Rattle.std.specs.Str.{chars}
use Rattle.tokens.specs.Escapes.{unescaped}
use Rattle.tokens.specs.Templates.{IsSettled}
use Rattle.tokens.proofs.LiteralValues.{return_found, raw_changes, raw_borrowed, raw_same, raw_units, settled}
use Rattle.tokens.proofs.value.template_value.Goals as goal

pub returns-then-contains-clause-borrowed : goal.returns-then-contains-clause-borrowed
returns-then-contains-clause-borrowed c =
    raw_changes c.args.text.now (return_found c.args.text.now c.as_bytes.result.now c.contains.result c.utf8.text c.as_bytes.ensures.value c.contains.ensures.value ∙ c.if-contains.true)

pub returns-then-contains-clause-cooked : goal.returns-then-contains-clause-cooked
returns-then-contains-clause-cooked c =
    c.in_ok-cooked.ensures ∙ raw_units c.args.text.now c.as_str.result.now c.as_str.utf8 (c.as_str.ensures.value ∙ c.in_ok-raw.ensures)

pub returns-clause-raw : goal.returns-clause-raw
returns-clause-raw c =
    raw_borrowed c.args.text.now c.utf8.text (return_found c.args.text.now c.as_bytes.result.now c.contains.result c.utf8.text c.as_bytes.ensures.value c.contains.ensures.value ∙ c.if-contains.false)

pub returns-clause-cooked : goal.returns-clause-cooked
returns-clause-cooked c =
    let f = return_found c.args.text.now c.as_bytes.result.now c.contains.result c.utf8.text c.as_bytes.ensures.value c.contains.ensures.value ∙ c.if-contains.false in
    c.in_ok-cooked-2.ensures ∙ ap unescaped (sym (raw_same (chars c.args.text.now) f))

pub returns-then-contains-clause-again : goal.returns-then-contains-clause-again
returns-then-contains-clause-again c =
    subst (λ bytes. IsSettled (chars c.args.text.now) (chars bytes)) c.as_str.ensures.value (settled c.args.text.now c.as_str.result.now c.as_str.utf8 (c.as_str.ensures.value ∙ c.in_ok-raw.ensures))

pub returns-clause-again : goal.returns-clause-again
returns-clause-again c =
    let f = return_found c.args.text.now c.as_bytes.result.now c.contains.result c.utf8.text c.as_bytes.ensures.value c.contains.ensures.value ∙ c.if-contains.false in
    settled c.args.text.now c.args.text.now c.utf8.text (raw_borrowed c.args.text.now c.utf8.text f)
