use Rattle.tree.proofs.node_use.+contains_optional.Given as goal

abbrev pub decreases-contains_optional : goal.decreases-contains_optional
decreases-contains_optional l = l.number
