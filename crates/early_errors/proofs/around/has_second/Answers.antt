use Rattle.std.proofs.Common.{◌≡◌, refl, sym, ap, is_some, option_map, Option, Some, None, ◌∙◌}
use Rattle.tree.specs.Node.{node_tree}
use Rattle.tree.specs.Tree.{parts_of}
use Rattle.early_errors.proofs.Surrounds.{second-stands}
use Rattle.early_errors.proofs.around.has_second.Goals as goal

still : {X Y : Type 0} (f : X → Y) (o : Option X) → is_some (option_map f o) ≡ is_some o
still f None = refl
still f (Some x) = refl

pub returns : goal.returns
returns c = second-stands (parts_of (node_tree c.args.node)) ∙ ap is_some (sym c.part.ensures) ∙ still node_tree c.part.result ∙ sym c.is_some.ensures
