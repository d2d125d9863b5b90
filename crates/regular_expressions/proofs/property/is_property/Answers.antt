use Rattle.std.proofs.Common.{sym, ◌∙◌}
use Rattle.regular_expressions.proofs.Words.{value_begins}
use Rattle.regular_expressions.proofs.property.is_property.Goals as goal

pub returns : goal.returns
returns c =
    let e = value_begins c.args.word.now c.name_length-length.result c.name_length-length.ensures c.if-length-word.false in
    c.is_property_value.ensures ∙ sym e
