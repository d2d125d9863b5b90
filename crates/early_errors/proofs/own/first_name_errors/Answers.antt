use Rattle.std.proofs.Common.{◌++◌, sym, ap, ◌∙◌}
use Rattle.tree.specs.Node.{node_tree}
use Rattle.tree.specs.Tree.{parts_of}
use Rattle.early_errors.specs.Walk.{all_named, names_at}
use Rattle.early_errors.proofs.FirstNames.{first_names-at}
use Rattle.early_errors.proofs.own.first_name_errors.Goals as goal

pub named_found-requires-clause-names : goal.named_found-requires-clause-names
named_found-requires-clause-names c =
    ap all_named c.as_slice.ensures.value ∙ c.in_ok-push_part_names.ensures ∙ (λ i. all_named (c.clear.ensures.items i) ++ names_at (c.part.ensures i)) ∙ sym (first_names-at (parts_of (node_tree c.args.node)))
