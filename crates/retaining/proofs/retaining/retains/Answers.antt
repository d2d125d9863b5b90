use Rattle.std.proofs.Common.{subst}
use Rattle.std.specs.Prelude.{Option, IfSome}
use Rattle.unwrapping.specs.declared.reading.TreeReading.{TreeReading}
use Rattle.unwrapping.specs.Readings.{IsRead}
use Rattle.unwrapping.proofs.CompareSteps.{each_ok}
use Rattle.retaining.proofs.RetainSteps.{retains_read}
use Rattle.retaining.proofs.retaining.retains.Goals as goal

pub returns : goal.returns
returns c =
    let text = c.args.source.now in
    let formatted = c.args.formatted.now in
    let read = subst (λ (found : Option TreeReading). IfSome found (IsRead formatted c.args.program.now c.args.pairs_again.now)) c.in-Some.is c.in_ok-again.ensures in
    each_ok c.are_retained.result
    (λ retained n pairs is. retains_read text n pairs formatted c.args.program.now c.args.pairs_again.now c.args.reading.now c.in-Some.again is read (c.begin_alike_before.ensures c.if-not-begin_alike_before.false) retained)
    c.are_retained.ensures
