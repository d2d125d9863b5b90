use Rattle.std.proofs.Common.{ap, arith}
use Rattle.layout_items.specs.Passes.{sizes}
use Rattle.layout_items.proofs.BackPass.{sizes-push}
use Rattle.layout_items.proofs.item_list.ItemList.push.Goals as goal

pub invariant_of-self-in-Ok-clause-measured : goal.invariant_of-self-in-Ok-clause-measured
invariant_of-self-in-Ok-clause-measured c =
    omega (arith, c.size_of-size.ensures.value, sizes-push c.args.self.now.items.items c.args.item, ap sizes c.in-Ok.ensures.items, c.args.self.now.measured)

pub invariant_of-self-in-Ok-clause-few : goal.invariant_of-self-in-Ok-clause-few
invariant_of-self-in-Ok-clause-few c = omega (arith, c.args.self.now.few, c.if-size-self.false)
