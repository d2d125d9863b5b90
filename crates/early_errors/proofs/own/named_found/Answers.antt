use Rattle.std.proofs.Common.{List, ◌++◌, filter, sym, ap, ◌∙◌}
use Rattle.tree.specs.Node.{node_tree}
use Rattle.early_errors.specs.declared.EarlyError.TheVariants.{EvalOrArguments, DuplicateLabel, AwaitOutsideAsync, ForAsyncOf}
use Rattle.early_errors.specs.declared.own.OwnErrors.TheVariants.{Label}
use Rattle.early_errors.specs.Names.{places}
use Rattle.early_errors.specs.Strict.{is_restricted, eval_or_arguments}
use Rattle.early_errors.specs.Yields.{await_outside_async, for_async_of}
use Rattle.early_errors.specs.Early.{Error, each}
use Rattle.early_errors.specs.Owns.{named_errors, round}
use Rattle.early_errors.specs.Walk.{after, look}
use Rattle.early_errors.proofs.Least.{after-append}
use Rattle.early_errors.proofs.OwnErrorsByKind.{has_first_names, small_given, restricted_given}
use Rattle.early_errors.proofs.Jumps.{stands_label}
use Rattle.early_errors.proofs.own.named_found.Goals as goal

pub returns-in-Break : goal.returns-in-Break
returns-in-Break c = λ r h. c.break_errors.ensures r h.labelled ∙ ap (λ o. after c.args.found (named_errors o (round c.args.surroundings.around r) (node_tree c.args.node))) (sym c.in-Break.is)

pub returns-in-Continue : goal.returns-in-Continue
returns-in-Continue c = λ r h. c.continue_errors.ensures r h.labelled ∙ ap (λ o. after c.args.found (named_errors o (round c.args.surroundings.around r) (node_tree c.args.node))) (sym c.in-Continue.is)

pub returns-in-Label : goal.returns-in-Label
returns-in-Label c = λ r h.
    c.reported.ensures ∙ (λ i. after c.args.found (each DuplicateLabel (places (filter (λ x. stands_label (look c.args.surroundings.labels.now) r.labels h.labelled x i) (c.requires.names i)))))
    ∙ sym (ap (after c.args.found) (small_given Label (round c.args.surroundings.around r) (node_tree c.args.node) (sym c.requires.own ∙ c.in-Label.is)))
    ∙ ap (λ o. after c.args.found (named_errors o (round c.args.surroundings.around r) (node_tree c.args.node))) (sym c.in-Label.is)

pub returns-in-FirstNames : goal.returns-in-FirstNames
returns-in-FirstNames c = λ r h.
    c.restricted.ensures ∙ ap (λ x. after c.args.found (each EvalOrArguments (places (filter is_restricted x)))) c.requires.names
    ∙ ap (after c.args.found) (restricted_given (node_tree c.args.node) (ap has_first_names (sym c.requires.own ∙ c.in-FirstNames.is)))
    ∙ ap (λ o. after c.args.found (named_errors o (round c.args.surroundings.around r) (node_tree c.args.node))) (sym c.in-FirstNames.is)

pub returns-in-ForOf : goal.returns-in-ForOf
returns-in-ForOf c = λ r h.
    let t = node_tree c.args.node in
    let z = round c.args.surroundings.around r in
    let names : List Error = each EvalOrArguments (eval_or_arguments t) in
    let awaits : List Error = each AwaitOutsideAsync (await_outside_async z t) in
    let asyncs : List Error = each ForAsyncOf (for_async_of z t) in
    c.for_of_errors.ensures r h.of_2022
    ∙ ap (λ o. after (after o awaits) asyncs)
    (c.restricted-in-ForOf.ensures ∙ ap (λ x. after c.args.found (each EvalOrArguments (places (filter is_restricted x)))) c.requires.names ∙ ap (after c.args.found) (restricted_given t (ap has_first_names (sym c.requires.own ∙ c.in-ForOf.is))))
    ∙ sym (after-append c.args.found names (awaits ++ asyncs) ∙ after-append (after c.args.found names) awaits asyncs)
    ∙ ap (λ o. after c.args.found (named_errors o z t)) (sym c.in-ForOf.is)
