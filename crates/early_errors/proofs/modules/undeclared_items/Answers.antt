use Rattle.std.proofs.Common.{◌+◌, ◌<◌, ◌≤◌, subst, refl, ap, ◌∙◌}
use Rattle.tree.specs.Node.{node_tree}
use Rattle.tree.specs.Tree.{parts_of, parts_drop}
use Rattle.name_tables.specs.BoundNames.{each_part}
use Rattle.early_errors.specs.declared.EarlyError.TheVariants.{UndeclaredExport}
use Rattle.early_errors.specs.Modules.{locals}
use Rattle.early_errors.specs.Walk.{after, look}
use Rattle.early_errors.proofs.Exports.{passing, passing-end, passing-missing, passing-turn, unknown}
use Rattle.early_errors.proofs.modules.undeclared_items.Goals as goal
use Rattle.early_errors.proofs.modules.undeclared_items.Goals.{in-Some, in_default}

pub loop-index-preserved : goal.loop-index-preserved
loop-index-preserved c =
    let ps = parts_of (node_tree c.args.program) in
    let i = c.loop-index.index in
    let p = unknown (look c.args.there.now) in
    let l = subst (λ n. i < n) c.part_count-index-end.ensures c.loop-index-test.true in
    let so = c.loop-index.invariant in
    elim c.match-part.branch [
      | in-Some w ↦
          ap (λ q. after q (passing UndeclaredExport p (each_part locals (parts_drop (i + 1) ps)))) w.found-is
          ∙ passing-turn UndeclaredExport p locals ps i _ l w.in-Some.ensures c.loop-index.found _ so w.undeclared_locals-found.result w.undeclared_locals-found.ensures
      | in_default w ↦
          ap (λ q. after q (passing UndeclaredExport p (each_part locals (parts_drop (i + 1) ps)))) w.found-is ∙ passing-missing UndeclaredExport p locals ps i _ l w.in_default.ensures c.loop-index.found _ so refl
    ]

pub returns : goal.returns
returns c =
    passing-end UndeclaredExport (unknown (look c.args.there.now)) locals (parts_of (node_tree c.args.program)) c.loop-index.index c.loop-index.found _ (subst (λ n. n ≤ c.loop-index.index) c.part_count-index-end.ensures c.loop-index-test.false) c.loop-index.invariant
