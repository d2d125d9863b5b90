use Rattle.std.proofs.Common.{false, ◌++◌, filter, sym, ap, ◌∙◌}
use Rattle.tree.specs.Node.{node_tree}
use Rattle.early_errors.specs.declared.EarlyError.TheVariants.{EvalOrArguments}
use Rattle.early_errors.specs.declared.own.OwnErrors.TheVariants.{Import}
use Rattle.early_errors.specs.Names.{lexical_names, places}
use Rattle.early_errors.specs.Strict.{is_restricted}
use Rattle.early_errors.specs.Early.{each}
use Rattle.early_errors.specs.Walk.{after, all_named}
use Rattle.early_errors.proofs.Exports.{import_given}
use Rattle.early_errors.proofs.OwnErrorsByKind.{small_given}
use Rattle.early_errors.proofs.modules.import_errors.Goals as goal

pub returns : goal.returns
returns c = λ z.
    let t = node_tree c.args.import in
    let names = ap all_named c.as_slice.ensures.value ∙ c.in_ok-push_lexical_part.ensures ∙ ap (λ l. all_named l ++ lexical_names false t) c.new-names.ensures.items ∙ import_given t c.requires in
    c.restricted.ensures ∙ ap (λ ns. after c.args.found (each EvalOrArguments (places (filter is_restricted ns)))) names ∙ sym (ap (after c.args.found) (small_given Import z t c.requires))
