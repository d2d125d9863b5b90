use Rattle.std.proofs.Common.{List, ℕ, sym, ap, ◌∙◌}
use Rattle.tree.specs.Node.{node_tree}
use Rattle.tree.specs.Tree.{parts_of}
use Rattle.name_tables.specs.BoundNames.{each_part}
use Rattle.early_errors.specs.declared.EarlyError.TheVariants.{DuplicateProto}
use Rattle.early_errors.specs.declared.own.OwnErrors.TheVariants.{Object}
use Rattle.early_errors.specs.Classes.{after_first}
use Rattle.early_errors.specs.Early.{each}
use Rattle.early_errors.specs.Names.{when}
use Rattle.early_errors.specs.Objects.{proto_places}
use Rattle.early_errors.specs.Walk.{after}
use Rattle.early_errors.proofs.Least.{sooner-none}
use Rattle.early_errors.proofs.OwnErrorsByKind.{small_given}
use Rattle.early_errors.proofs.objects.object_errors.Goals as goal

pub returns-then-is_2022 : goal.returns-then-is_2022
returns-then-is_2022 c = λ z l.
    let t = node_tree c.args.object in
    let places : List ℕ = after_first (each_part proto_places (parts_of t)) in
    c.proto_errors.ensures ∙ (λ i. after c.args.found (each DuplicateProto (when (sym (l ∙ c.if-is_2022.true) i) places))) ∙ sym (ap (after c.args.found) (small_given Object z t c.requires))

pub returns-else-is_2022 : goal.returns-else-is_2022
returns-else-is_2022 c = λ z l.
    let t = node_tree c.args.object in
    let places : List ℕ = after_first (each_part proto_places (parts_of t)) in
    sym (sooner-none c.args.found) ∙ (λ i. after c.args.found (each DuplicateProto (when (sym (l ∙ c.if-is_2022.false) i) places))) ∙ sym (ap (after c.args.found) (small_given Object z t c.requires))
