use Rattle.std.proofs.Common.{◌∙◌, ap, sym}
use Rattle.tree.specs.Tree.{push}
use Rattle.parser_tables.specs.declared.operand.Operand.{Operand}
use Rattle.recursive_descent.proofs.reading.WaitingNodes.{waits_two}
use Rattle.recursive_descent.proofs.parser.Parser.meta_property.Goals as goal

pub returns-clause-waits : goal.returns-clause-waits
returns-clause-waits c =
    let base = c.args.self.now.tree in
    let meta = c.in_ok-meta.ensures.waits ∙ ap (λ ps. push ps c.in_ok-meta.meta) c.expect_word.ensures.same_tree in
    let both = c.in_ok-property.ensures.waits ∙ ap (λ ps. push ps c.in_ok-property.property) meta in
    c.in_ok-node.ensures.waits base (waits_two base both c.two-nodes.ensures) ∙ ap (λ (p : Operand). push base p.cover.node) (sym c.plain.ensures)
