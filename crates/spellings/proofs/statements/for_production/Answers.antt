use Rattle.std.proofs.Common.{sym, ◌∙◌}
use Rattle.std.specs.Prelude.{Some}
use Rattle.spelling_table.specs.declared.production.Production.TheVariants.{For}
use Rattle.spelling_table.specs.Productions.{outline_of}
use Rattle.spellings.proofs.Productions.{for_past, for_given}
use Rattle.spellings.proofs.statements.for_production.Goals as goal

pub returns-then-is_short : goal.returns-then-is_short
returns-then-is_short c = for_past c.args.returns c.args.init c.args.test c.args.update (sym c.is_short.ensures ∙ c.if-is_short.true)

pub returns : goal.returns
returns c =
    (λ i. Some (outline_of (For (c.init_of.ensures i) (c.is_part-has_test.ensures i) (c.is_part-has_update.ensures i) c.args.returns)))
    ∙ for_given c.args.returns c.args.init c.args.test c.args.update (sym c.is_short.ensures ∙ c.if-is_short.false)
