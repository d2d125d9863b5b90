use Rattle.std.proofs.Common.{◌<◌, length, take, subst, sym}
use Rattle.std.proofs.lemmas.List.{take_more}
use Rattle.suppressions.specs.Left.{AreUsed}
use Rattle.suppressions.proofs.unused.used_by.Goals as goal

pub loop-off-preserved : goal.loop-off-preserved
loop-off-preserved c =
    let within : c.loop-off.off-index < length c.args.offs.now = c.loop-off-test.true in
    subst (λ offs. AreUsed c.args.count offs c.mark.new.used.items) (sym (take_more c.args.offs.now c.loop-off.off-index _ within))
    (c.mark.ensures c.args.count (take c.loop-off.off-index c.args.offs.now) c.loop-off.invariant)
