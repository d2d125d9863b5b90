use Rattle.std.proofs.Common.{sym, subst}
use Rattle.tree.specs.Tree.{Tree}
use Rattle.tree.specs.Places.{place_tree}
use Rattle.tree.specs.HeldRows.{HoldsRowsFrom, use_below, row_below}
use Rattle.tree.proofs.part_access.flat_part.Goals as goal

pub returns-in-Some-clause-numbered : goal.returns-in-Some-clause-numbered
returns-in-Some-clause-numbered c = λ a r h.
    let n = place_tree c.args.place in
    let i = c.args.index in
    subst (λ (t : Tree). HoldsRowsFrom (use_below a n i t) (row_below a r n i) c.at.result) (sym c.at.ensures.tree)
    (c.at.ensures.numbered (use_below a n i (place_tree c.in-Some.part)) (row_below a r n i) (c.in-Some.ensures.numbered a r h))
