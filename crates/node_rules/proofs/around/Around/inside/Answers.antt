use Rattle.std.proofs.Common.{sym, ap, ◌∙◌}
use Rattle.tree.specs.Node.{node_tree}
use Rattle.node_rules.specs.Arounds.{at_place}
use Rattle.node_rules.specs.Calm.{keeps_around}
use Rattle.node_rules.proofs.CalmLemmas.{kept-inside}
use Rattle.node_rules.proofs.around.Around.inside.Goals as goal

-- a node that changes no more than the parent
pub returns : goal.returns
returns c =
    kept-inside (at_place c.args.self.now c.args.place) (node_tree c.args.node) c.kind-2.result c.flags.result c.kind-2.ensures c.flags.ensures
    (sym (c.keeps_around.ensures ∙ ap (keeps_around c.args.self.now) c.kind.ensures) ∙ c.if-not-keeps_around.false)
