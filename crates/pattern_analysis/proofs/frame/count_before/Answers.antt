use Rattle.std.proofs.Common.{ltb, rules}
use Rattle.std.proofs.lemmas.List.Sorted.{IsPartitionPoint-from_clause, IsPartitionedBy-ltb}
use Rattle.pattern_analysis.proofs.frame.count_before.Goals as goal

pub returns-clause-point : goal.returns-clause-point
returns-clause-point c = λ up.
    IsPartitionPoint-from_clause (λ y. ltb y.first c.args.number) _ _ c.partition_point.ensures.partitioned (IsPartitionedBy-ltb (λ y. y.first) c.args.frames.now c.args.number up) (λ a r q k. search rules)
