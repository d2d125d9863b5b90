use Rattle.std.proofs.Common.{sym, subst}
use Rattle.tree.specs.Node.{node_tree}
use Rattle.early_errors.specs.Passed.{IsWhere}
use Rattle.early_errors.proofs.skipping.in_member.Goals as goal

pub returns : goal.returns
returns c = subst (λ b. IsWhere b c.where_in_member.result (node_tree c.args.node)) (sym c.if-no_arguments.false) c.where_in_member.ensures
