use Rattle.std.proofs.Common.{subst}
use Rattle.std.specs.Prelude.{Option, IfSome}
use Rattle.unwrapping.specs.declared.reading.TreeReading.{TreeReading}
use Rattle.unwrapping.specs.Readings.{IsRead}
use Rattle.unwrapping.proofs.CompareSteps.{each_ok, keeps_read}
use Rattle.unwrapping.proofs.keeping.keeps.Goals as goal

pub returns : goal.returns
returns c =
    let text = c.args.source.now in
    let unwrapped = c.args.unwrapped.now in
    let read = subst (λ (found : Option TreeReading). IfSome found (IsRead unwrapped c.args.program.now c.args.pairs_again.now)) c.in-Some.is c.in_ok-again.ensures in
    each_ok c.are_kept.result
    (λ kept n pairs is. keeps_read text n pairs unwrapped c.args.program.now c.args.pairs_again.now c.args.reading.now c.in-Some.again is read (c.begin_alike_before.ensures c.if-not-begin_alike_before.false) kept)
    c.are_kept.ensures
