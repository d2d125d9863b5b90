use Rattle.std.proofs.Common.{◌≤◌, ◌<◌, subst}
use Rattle.tree.specs.Node.{node_tree}
use Rattle.tree.specs.Tree.{parts_of}
use Rattle.early_errors.proofs.FunctionLists.{body-none, body-at}
use Rattle.early_errors.proofs.functions.body_of_function.Goals as goal

pub returns-then-part_count-from : goal.returns-then-part_count-from
returns-then-part_count-from c = body-none (parts_of (node_tree c.args.node)) c.args.from (subst (λ n. n ≤ c.args.from) c.part_count.ensures c.if-part_count-from.true)

pub returns : goal.returns
returns c = body-at (parts_of (node_tree c.args.node)) c.args.from _ (subst (λ n. c.args.from < n) c.part_count.ensures c.if-part_count-from.false) c.body_of.ensures
