use Rattle.tree.specs.Node.{node_tree}
use Rattle.early_errors.specs.Owns.{round}
use Rattle.early_errors.specs.Walk.{look}
use Rattle.early_errors.proofs.Founds.{continues}
use Rattle.early_errors.proofs.labels.continue_errors.Goals as goal

pub returns : goal.returns
returns c = λ ls h.
    continues (round c.args.around ls) (node_tree c.args.node) (look c.args.labels.now) _ c.is_misplaced-misplaced.result c.span.result.start c.args.found c.with_error_if-found.result c.undefined.result
    c.requires.kind h c.requires.names c.span.ensures.starts c.is_misplaced-misplaced.ensures c.with_error_if-found.ensures c.undefined.ensures
