use Rattle.std.proofs.Common.{◌<◌, [], ◌∷◌, ◌++◌, true, length, arith, subst, sym}
use Rattle.std.proofs.Math.ListN.{set}
use Rattle.suppressions.specs.Left.{AreUsed}
use Rattle.suppressions.proofs.UnusedTurns.{mark-set}
use Rattle.suppressions.proofs.unused.mark.Goals as goal

pub returns-then-index-len : goal.returns-then-index-len
returns-then-index-len c = λ n offs are.
    let within : c.in-Some.index < length c.args.used.now.items = omega arith in
    subst (λ o. AreUsed n (offs ++ o ∷ []) (set c.args.used.now.items c.in-Some.index true)) (sym c.in-Some.is) (mark-set n offs c.args.used.now.items c.in-Some.index within are)
