use Rattle.native_prototypes.proofs.Passes.{meant-end}
use Rattle.native_prototypes.proofs.bound.bound_names.Goals as goal

pub returns : goal.returns
returns c w = meant-end c.args.references.now c.loop-reference.reference-index w _ _ c.loop-reference-test.false (c.loop-reference.invariant w)
