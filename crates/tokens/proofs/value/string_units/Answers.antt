use Rattle.std.proofs.Common.{[], unwrap_or, ap, ◌∙◌, arith}
use Rattle.tokens.proofs.LiteralValues.{quoted, quoted_length, quoted_start, quoted_stop, quoted_units}
use Rattle.tokens.proofs.value.string_units.Goals as goal

pub overflow_sub-text : goal.overflow_sub-text
overflow_sub-text c = let n = quoted_length c.args.text.now (quoted c.args.text.now c.utf8.text c.requires) in omega arith

pub range-requires-clause-start_le_end : goal.range-requires-clause-start_le_end
range-requires-clause-start_le_end c = let n = quoted_length c.args.text.now (quoted c.args.text.now c.utf8.text c.requires) in omega arith

pub range-requires-clause-start_boundary : goal.range-requires-clause-start_boundary
range-requires-clause-start_boundary c = λ _. quoted_start c.args.text.now c.utf8.text (quoted c.args.text.now c.utf8.text c.requires)

pub range-requires-clause-end_boundary : goal.range-requires-clause-end_boundary
range-requires-clause-end_boundary c = quoted_stop c.args.text.now (quoted c.args.text.now c.utf8.text c.requires)

pub returns-in-Some : goal.returns-in-Some
returns-in-Some c =
    let e = rw c.in-Some.is at c.in_ok-units.ensures in
    ap (λ o. unwrap_or o []) e ∙ quoted_units c.args.text.now c.range.result.now (quoted c.args.text.now c.utf8.text c.requires) c.range.utf8 c.range.ensures.value

pub returns-in-None : goal.returns-in-None
returns-in-None c =
    let e = rw c.in-None.is at c.in_ok-units.ensures in
    c.new.ensures.items ∙ ap (λ o. unwrap_or o []) e ∙ quoted_units c.args.text.now c.range.result.now (quoted c.args.text.now c.utf8.text c.requires) c.range.utf8 c.range.ensures.value
