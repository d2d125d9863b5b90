use Rattle.std.proofs.Common.{leb, rules}
use Rattle.std.proofs.lemmas.List.Sorted.{IsPartitionPoint-from_clause, IsPartitionedBy-leb}
use Rattle.pattern_analysis.proofs.kept.count_up_to.Goals as goal

pub returns : goal.returns
returns c = λ up.
    IsPartitionPoint-from_clause (λ y. leb y c.args.last) _ _ c.partition_point.ensures.partitioned (IsPartitionedBy-leb (λ y. y) c.args.numbers.now c.args.last up) (λ a r q k. search rules)
