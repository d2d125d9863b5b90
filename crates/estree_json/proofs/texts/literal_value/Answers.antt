use Rattle.estree_json.proofs.Steps.{value_as, string_meant, true_meant, false_meant, others, null_meant, none_meant}
use Rattle.estree_json.proofs.texts.literal_value.Goals as goal

pub returns-then-is_quoted : goal.returns-then-is_quoted
returns-then-is_quoted c = value_as _ _ _ (string_meant c.args.raw.now _ _ _ c.is_quoted.ensures c.if-is_quoted.true c.deref.ensures.value c.in_ok-units.ensures) c.text_of.ensures

pub returns-then-eq : goal.returns-then-eq
returns-then-eq c = true_meant c.args.raw.now _ _ c.is_quoted.ensures c.if-is_quoted.false c.eq.ensures c.if-eq.true

pub returns-then-eq-2 : goal.returns-then-eq-2
returns-then-eq-2 c = false_meant c.args.raw.now _ _ _ c.is_quoted.ensures c.if-is_quoted.false c.eq.ensures c.if-eq.false c.eq-2.ensures c.if-eq-2.true

pub returns-then-eq-3 : goal.returns-then-eq-3
returns-then-eq-3 c =
    let other = others c.args.raw.now _ _ _ c.is_quoted.ensures c.if-is_quoted.false c.eq.ensures c.if-eq.false c.eq-2.ensures c.if-eq-2.false in
    null_meant c.args.raw.now _ other c.eq-3.ensures c.if-eq-3.true

pub returns : goal.returns
returns c =
    let other = others c.args.raw.now _ _ _ c.is_quoted.ensures c.if-is_quoted.false c.eq.ensures c.if-eq.false c.eq-2.ensures c.if-eq-2.false in
    none_meant c.args.raw.now _ other c.eq-3.ensures c.if-eq-3.false
