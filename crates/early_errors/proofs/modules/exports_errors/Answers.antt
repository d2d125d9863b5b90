use Rattle.std.proofs.Common.{None, sym, ap, ◌∙◌}
use Rattle.tree.specs.Node.{node_tree}
use Rattle.early_errors.specs.declared.EarlyError.TheVariants.{UndeclaredExport}
use Rattle.early_errors.specs.Early.{each}
use Rattle.early_errors.specs.Modules.{undeclared_export}
use Rattle.early_errors.specs.Walk.{after, sooner}
use Rattle.name_tables.proofs.Results.{if_ok}
use Rattle.early_errors.proofs.Least.{sooner-none}
use Rattle.early_errors.proofs.PartsByKind.{on_false}
use Rattle.early_errors.proofs.Exports.{none_twice, none_undeclared}
use Rattle.early_errors.proofs.modules.exports_errors.Goals as goal

pub returns-then-not-has_exports : goal.returns-then-not-has_exports
returns-then-not-has_exports c =
    let t = node_tree c.args.program in
    let n = none_twice t (on_false c.has_exports.result c.if-not-has_exports.true c.has_exports.ensures.names) in
    let m = none_undeclared t (on_false c.has_exports.result c.if-not-has_exports.true c.has_exports.ensures.locals) in
    sym (sooner-none c.args.found) ∙ sym (sooner-none (sooner c.args.found None)) ∙ (λ i. after (after c.args.found (sym n i)) (sym m i))

pub returns-then-not-has_own_exports : goal.returns-then-not-has_own_exports
returns-then-not-has_own_exports c =
    let t = node_tree c.args.program in
    let m = none_undeclared t (on_false c.has_own_exports.result c.if-not-has_own_exports.true c.has_own_exports.ensures) in
    c.in_ok-found.ensures ∙ sym (sooner-none _) ∙ ap (after _) (sym m)

pub returns : goal.returns
returns c =
    if_ok c.undeclared_exports.result _ _ (λ e x. x ∙ ap (λ o. after o (each UndeclaredExport (undeclared_export (node_tree c.args.program)))) c.in_ok-found.ensures) c.undeclared_exports.ensures
