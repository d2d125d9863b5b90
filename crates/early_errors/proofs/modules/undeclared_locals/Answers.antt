use Rattle.std.proofs.Common.{◌+◌, ◌<◌, ◌≤◌, subst, sym, ap, ◌∙◌}
use Rattle.tree.specs.Node.{node_tree}
use Rattle.tree.specs.Tree.{parts_of, parts_drop}
use Rattle.name_tables.specs.BoundNames.{each_part}
use Rattle.early_errors.specs.declared.EarlyError.TheVariants.{UndeclaredExport}
use Rattle.early_errors.specs.Walk.{look}
use Rattle.early_errors.proofs.Exports.{unknown, unknown_given}
use Rattle.early_errors.proofs.Privates.{none_is}
use Rattle.early_errors.specs.Modules.{first_tree}
use Rattle.early_errors.specs.Walk.{after}
use Rattle.early_errors.proofs.Least.{sooner-none}
use Rattle.early_errors.proofs.Exports.{first_given, first_missing, no_locals, own_locals, passing, passing-end, passing-given, passing-missing}
use Rattle.early_errors.proofs.modules.undeclared_locals.Goals as goal
use Rattle.early_errors.proofs.modules.undeclared_locals.Goals.{in-Some, in_default}

pub returns-then-not-exports_own_names : goal.returns-then-not-exports_own_names
returns-then-not-exports_own_names c =
    let t = node_tree c.args.item in
    sym (sooner-none c.args.found) ∙ sym (ap (λ xs. after c.args.found (passing UndeclaredExport (unknown (look c.args.there.now)) xs)) (no_locals t (sym c.exports_own_names.ensures ∙ c.if-not-exports_own_names.true)))

pub loop-index-preserved : goal.loop-index-preserved
loop-index-preserved c =
    let ps = parts_of (node_tree c.args.item) in
    let i = c.loop-index.index in
    let p = unknown (look c.args.there.now) in
    let l = subst (λ n. i < n) c.part_count-index-end.ensures c.loop-index-test.true in
    let so = c.loop-index.invariant in
    elim c.match-local_of.branch [
      | in-Some w ↦
          ap (λ q. after q (passing UndeclaredExport p (each_part first_tree (parts_drop (i + 1) ps)))) w.found-is
          ∙ passing-given UndeclaredExport p first_tree ps i _ l c.part.ensures c.loop-index.found _ so (node_tree w.in-Some.local) w.both-is_wrong.result w.span.result.start w.with_error_if-found.result (first_given _ (node_tree w.in-Some.local) w.in-Some.ensures)
          (unknown_given (look c.args.there.now) (node_tree w.in-Some.local) w.is_no_name.result w.is_none.result w.both-is_wrong.result w.value.result w.text.result.now w.is_no_name.ensures w.value.ensures w.text.ensures
          (none_is w.value.result w.is_none.result w.is_none.ensures) w.both-is_wrong.ensures) w.span.ensures.starts w.with_error_if-found.ensures
      | in_default w ↦
          ap (λ q. after q (passing UndeclaredExport p (each_part first_tree (parts_drop (i + 1) ps)))) w.found-is
          ∙ passing-missing UndeclaredExport p first_tree ps i _ l c.part.ensures c.loop-index.found _ so (first_missing _ w.in_default.ensures)
    ]

pub returns : goal.returns
returns c =
    let t = node_tree c.args.item in
    passing-end UndeclaredExport (unknown (look c.args.there.now)) first_tree (parts_of t) c.loop-index.index c.loop-index.found _ (subst (λ n. n ≤ c.loop-index.index) c.part_count-index-end.ensures c.loop-index-test.false) c.loop-index.invariant
    ∙ sym (ap (λ xs. after c.args.found (passing UndeclaredExport (unknown (look c.args.there.now)) xs)) (own_locals t (sym c.exports_own_names.ensures ∙ c.if-not-exports_own_names.false)))
