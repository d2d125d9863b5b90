use Rattle.std.proofs.Common.{sym, ap, ◌∙◌, option_map}
use Rattle.tree.specs.Node.{node_tree}
use Rattle.early_errors.specs.Owns.{uncooked_at}
use Rattle.early_errors.proofs.Literally.{element_cooks}
use Rattle.early_errors.proofs.literals.is_uncooked.Goals as goal

pub returns : goal.returns
returns c =
    element_cooks (λ v. v.items) (node_tree c.in-Some.part) c.kind.result c.text.result.now c.is_none.result c.is_element.result c.in_ok-cooked.cooked c.kind.ensures c.is_element.ensures c.if-not-is_element.false c.text.ensures
    c.in_ok-cooked.ensures.cooked c.is_none.ensures
    ∙ ap (λ o. uncooked_at (option_map node_tree o)) (sym c.in-Some.is)
