use Rattle.std.proofs.Common.{◌∙◌}
use Rattle.tree.proofs.BuiltNodes.{still_open, shown_patterns}
use Rattle.tree.proofs.TreesTooLarge.{patterns_done, patterns_still}
use Rattle.tree.proofs.tree_builder.TreeBuilder.make_patterns.Goals as goal

pub make_last_patterns-requires : goal.make_last_patterns-requires
make_last_patterns-requires c = (c.self.invariant.nodes (still_open c.self.inside.refused c.if-is_none.ensures)).sound

pub invariant_of-self : goal.invariant_of-self
invariant_of-self c =
    let none = (still_open c.self.inside.refused c.if-is_none.ensures) in
    patterns_done c.self.inside.building c.make_last_patterns.new.building c.self.inside.refused c.self.inside.shown.parts _ c.args.count c.patterned-self-inside.ensures
    none (c.make_last_patterns.ensures c.self.inside.shown.parts (c.self.invariant.nodes none))

pub invariant_of-self-else-is_none : goal.invariant_of-self-else-is_none
invariant_of-self-else-is_none c =
    patterns_still c.self.inside.building c.self.inside.building c.self.inside.refused c.self.inside.shown.parts _ c.args.count c.patterned-self-inside.ensures c.if-is_none.ensures c.self.invariant

pub returns-then-is_none : goal.returns-then-is_none
returns-then-is_none c = λ base own h n.
    c.patterned-self-inside.ensures ∙ shown_patterns c.args.count c.self.inside.shown.parts c.args.self.now base own c.self.view_is h n

pub returns-else-is_none : goal.returns-else-is_none
returns-else-is_none c = λ base own h n.
    c.patterned-self-inside.ensures ∙ shown_patterns c.args.count c.self.inside.shown.parts c.args.self.now base own c.self.view_is h n
