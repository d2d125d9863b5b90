use Rattle.std.proofs.Common.{sym, ap, ◌∙◌}
use Rattle.tree.specs.Node.{node_tree}
use Rattle.tree.specs.declared.kind.Flags.{Flags}
use Rattle.mending.specs.Words.{is_member}
use Rattle.mending.proofs.RebuiltSteps.{becomes_dotted, not_false}
use Rattle.mending.proofs.rebuilt.dotted_key.Goals as goal

pub returns : goal.returns
returns c =
    becomes_dotted c.args.changes.now (node_tree c.args.node) (node_tree c.in-Some.key) (ap is_member (sym c.kind.ensures) ∙ sym c.is_member.ensures ∙ c.if-not-is_member.false)
    (ap (λ (f : Flags). f.computed) (sym c.flags.ensures) ∙ not_false c.flags.result.computed c.if-not-flags.false) c.in-Some.ensures (sym c.is_name_as_key.ensures ∙ c.if-not-is_name_as_key.false) (c.is_asked.ensures c.if-not-is_asked.false)
