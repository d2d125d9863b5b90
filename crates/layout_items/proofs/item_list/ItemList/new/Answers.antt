use Rattle.std.proofs.Common.{refl}
use Rattle.layout_items.specs.Passes.{sizes}
use Rattle.layout_items.proofs.item_list.ItemList.new.Goals as goal

pub invariant_of-result-clause-measured : goal.invariant_of-result-clause-measured
unfolding sizes
invariant_of-result-clause-measured c = rw c.new.ensures.items refl
