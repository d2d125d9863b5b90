use Rattle.std.proofs.Common.{◌≡◌, ◌≤◌, false, [], ◌∷◌, length, length-append, ap, arith, subst}
use Rattle.suppressions.specs.Left.{AreUsed}
use Rattle.suppressions.proofs.UnusedTurns.{flag-pushed}
use Rattle.suppressions.proofs.unused.none_used.Goals as goal

pub flags-preserved : goal.flags-preserved
flags-preserved c =
    let more : length c.push.new.self.items ≤ c.args.count = omega (arith, c.flags.used.ok.0, ap length c.in_ok-push.ensures.items, length-append c.flags.used.items (false ∷ [])) in
    record {
      unused = flag-pushed c.flags.used.items c.push.new.self.items c.in_ok-push.ensures.items c.flags.invariant.unused;
      most = more;
    }

pub returns : goal.returns
returns c =
    let all : length c.flags.used.items ≡ c.args.count = omega (arith, c.flags.used.ok.0) in
    subst (λ m. AreUsed m [] c.flags.used.items) all c.flags.invariant.unused
