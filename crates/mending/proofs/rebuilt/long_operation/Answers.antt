use Rattle.std.proofs.Common.{◌≡◌, true, sym, ap, ◌∙◌, rules}
use Rattle.language.specs.Vocabulary.{is}
use Rattle.tree.specs.Node.{node_tree}
use Rattle.tree.specs.Tree.{text_of}
use Rattle.mending.specs.Changes.{are_same_name}
use Rattle.mending.specs.Words.{is_assignment, is_binary}
use Rattle.mending.proofs.RebuiltSteps.{becomes_assignment}
use Rattle.mending.proofs.rebuilt.long_operation.Goals as goal

pub returns-clause-leads : goal.returns-clause-leads
returns-clause-leads c =
    let n = node_tree c.args.node in
    let equals : is (text_of n) "=" ≡ true = search rules in
    becomes_assignment c.args.changes.now n (node_tree c.in-Some.operation) (ap is_assignment (sym c.kind.ensures) ∙ sym c.is_assignment.ensures ∙ c.if-not-is_assignment.false) equals c.in-Some.ensures
    (ap is_binary (sym c.kind-2.ensures) ∙ sym c.is_binary.ensures ∙ c.if-not-is_binary.false)
    ((λ i. are_same_name (sym c.part-2.ensures i) (sym c.part-3.ensures i)) ∙ sym c.are_same_name.ensures ∙ c.if-not-are_same_name.false) (c.is_asked.ensures c.if-not-is_asked.false)
