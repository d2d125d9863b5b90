use Rattle.std.proofs.Common.{ltb, rules}
use Rattle.std.proofs.lemmas.List.Sorted.{IsPartitionPoint-from_clause, IsPartitionedBy-ltb}
use Rattle.paren_planner.proofs.text_pairs.first_from.Goals as goal

pub returns : goal.returns
returns c = λ ordered.
    IsPartitionPoint-from_clause (λ y. ltb y.left c.args.place) _ _ c.partition_point.ensures.partitioned (IsPartitionedBy-ltb (λ y. y.left) c.args.pairs.now c.args.place ordered) (λ a r q k. search rules)
