use Rattle.std.proofs.Common.{None, sym, ◌∙◌}
use Rattle.tree.specs.Node.{node_tree}
use Rattle.early_errors.specs.Walk.{after, sooner}
use Rattle.name_tables.proofs.Results.{if_ok}
use Rattle.early_errors.proofs.Least.{sooner-none}
use Rattle.early_errors.proofs.PartsByKind.{on_false}
use Rattle.early_errors.proofs.Privates.{class_kind, keys_found, no_keys}
use Rattle.early_errors.proofs.private_names.private_errors.Goals as goal

pub returns-then-not-declares_private : goal.returns-then-not-declares_private
returns-then-not-declares_private c =
    let n = no_keys (node_tree c.args.body) (on_false c.declares_private.result c.if-not-declares_private.true c.declares_private.ensures) in
    sym (sooner-none c.args.found) ∙ sym (sooner-none (sooner c.args.found None)) ∙ (λ i. after (after c.args.found (sym n.0 i)) (sym n.1 i))

pub returns : goal.returns
returns c =
    let t = node_tree c.args.body in
    if_ok c.errors_of_keys.result _ _ (λ e x. keys_found t c.args.found e (class_kind t c.requires) x) c.errors_of_keys.ensures
