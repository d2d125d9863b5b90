use Rattle.std.proofs.Common.{List, ◌++◌, sym, ap, ◌∙◌}
use Rattle.tree.specs.Node.{node_tree}
use Rattle.early_errors.specs.declared.EarlyError.TheVariants.{DuplicateConstructor, PrivateConstructor, DuplicatePrivateName}
use Rattle.early_errors.specs.declared.own.OwnErrors.TheVariants.{ClassElements}
use Rattle.early_errors.specs.Classes.{duplicate_constructor}
use Rattle.early_errors.specs.PrivateNames.{private_constructor, duplicate_private_name}
use Rattle.early_errors.specs.Early.{Error, each}
use Rattle.early_errors.specs.Walk.{after}
use Rattle.name_tables.proofs.Results.{if_ok}
use Rattle.early_errors.proofs.Least.{after-append}
use Rattle.early_errors.proofs.OwnErrorsByKind.{small_given}
use Rattle.early_errors.proofs.classes.class_errors.Goals as goal

pub returns : goal.returns
returns c =
    let t = node_tree c.args.body in
    let doubled : List Error = each DuplicateConstructor (duplicate_constructor t) in
    let named : List Error = each PrivateConstructor (private_constructor t) in
    let again : List Error = each DuplicatePrivateName (duplicate_private_name t) in
    if_ok c.private_errors.result _ _
    (λ r x z. x ∙ ap (λ o. after (after o named) again) c.constructor_errors-found.ensures
    ∙ sym (ap (after c.args.found) (small_given ClassElements z t c.requires) ∙ after-append c.args.found doubled (named ++ again) ∙ after-append (after c.args.found doubled) named again))
    c.private_errors.ensures
