use Rattle.std.proofs.Common.{ap, ◌∙◌}
use Rattle.tree.specs.Tree.{Tree, Parts, node, none, plain, all_but, push, join}
use Rattle.tree.proofs.BuiltNodes.{shown_leaf}
use Rattle.tree.proofs.tree_builder.led.Goals as goal

pub returns : goal.returns
returns c =
    let w = c.args.waiting.now.parts in
    let base = all_but c.args.count w in
    let t : Tree = node c.args.kind c.args.text.now plain c.args.span.start c.args.span.end none in
    c.of.ensures
    ∙ ap (λ (ps : Parts). join ps c.of-last.result.parts)
    (c.finished-before.ensures ∙ shown_leaf c.args.kind c.args.text.now plain c.args.span.start c.args.span.end c.of-kept.result.parts base c.of-kept.ensures)
    ∙ ap (join (push base t)) c.of-last.ensures
