use Rattle.std.proofs.Common.{◌≡◌, ◌-◌, length}
use Rattle.suppressions.specs.Sweeps.{IsSwept}
use Rattle.suppressions.proofs.sweep.Sweep.advance.Given as goal

abbrev pub invariant-passing : goal.invariant-passing
invariant-passing l = record {
  swept : IsSwept l.suppressions l.self;
  there : l.self.reached ≡ l.key;
}

abbrev pub decreases-passing : goal.decreases-passing
decreases-passing l = length l.suppressions - l.self.passed
