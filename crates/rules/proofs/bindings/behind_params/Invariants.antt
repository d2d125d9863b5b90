use Rattle.rules.specs.Used.{is_marked}
use Rattle.rules.proofs.BehindParams.{IsBehind}
use Rattle.rules.proofs.bindings.behind_params.Given as goal

abbrev pub invariant-loop-index : goal.invariant-loop-index
invariant-loop-index l = IsBehind (is_marked l.used) l.scope l.bindings l.index l.behind
