use Rattle.std.proofs.Common.{arith}
use Rattle.segmented_vec.proofs.SegmentItems.{most}
use Rattle.segmented_vec.proofs.segmented_vec.SegmentedVec.len.Goals as goal

pub returns-clause-few : goal.returns-clause-few
returns-clause-few g c = omega (arith, c.self.invariant.1.1.1.0, c.self.invariant.1.1.1.1, most g.row.N c.self.inside.chunks.items c.self.invariant.1.0)
