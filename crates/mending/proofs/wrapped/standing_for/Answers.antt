use Rattle.std.proofs.Common.{sym, ◌∙◌, subst, Option, Some}
use Rattle.std.specs.Prelude.{option_map}
use Rattle.tree.specs.declared.node.Node.{Node}
use Rattle.tree.specs.Node.{node_tree}
use Rattle.mending.specs.declared.change.MendRule.TheVariants.{Curly}
use Rattle.mending.specs.Making.{BeginsParts, MendsPart}
use Rattle.mending.proofs.MendSteps.{begins_only}
use Rattle.mending.proofs.wrapped.standing_for.Goals as goal

pub returns : goal.returns
returns c =
    let changes = c.args.changes.now in
    let found = option_map node_tree c.only_statement.result in
    let n = node_tree c.in-Some.node in
    subst (λ (o : Option Node). MendsPart changes (option_map node_tree o) found → BeginsParts changes c.args.kind (option_map node_tree o) (option_map node_tree c.args.other)) (sym c.in-Some.is)
    (subst (λ (o : Option Node). MendsPart changes (Some n) found → BeginsParts changes c.args.kind (Some n) (option_map node_tree o)) (sym c.in-Some-other.is)
    (begins_only changes c.args.kind n (node_tree c.in-Some-other.after) Curly c.only_statement.result (sym c.is_wrapped.ensures ∙ c.if-not-is_wrapped.false) (c.is_asked.ensures c.if-not-is_asked.false) c.only_statement.ensures))
