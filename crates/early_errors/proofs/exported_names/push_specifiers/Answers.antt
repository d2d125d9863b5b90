use Rattle.std.proofs.Common.{◌<◌, ◌≤◌, subst}
use Rattle.tree.specs.Node.{node_tree}
use Rattle.tree.specs.Tree.{parts_of}
use Rattle.early_errors.specs.ExportsRead.{all_exported}
use Rattle.early_errors.specs.Modules.{specifier_name}
use Rattle.name_tables.proofs.EachPart.{push-turn, push-end}
use Rattle.early_errors.proofs.exported_names.push_specifiers.Goals as goal

pub loop-index-preserved : goal.loop-index-preserved
loop-index-preserved c =
    let i = c.loop-index.index in
    push-turn specifier_name (parts_of (node_tree c.args.export)) i _ (all_exported c.loop-index.names.items) (all_exported c.push_specifier.new.names.items) _ (subst (λ n. i < n) c.part_count-index-end.ensures c.loop-index-test.true) c.part.ensures c.in_ok-push_specifier.ensures c.loop-index.invariant

pub returns : goal.returns
returns c = push-end specifier_name (parts_of (node_tree c.args.export)) c.loop-index.index (all_exported c.loop-index.names.items) _ (subst (λ n. n ≤ c.loop-index.index) c.part_count-index-end.ensures c.loop-index-test.false) c.loop-index.invariant
