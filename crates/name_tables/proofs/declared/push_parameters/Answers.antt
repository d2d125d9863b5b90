use Rattle.std.proofs.Common.{sym, ap, ◌∙◌, ◌≤◌, ◌<◌, ◌-◌, ◌+◌, ◌++◌, arith, append-nil, subst}
use Rattle.tree.specs.Node.{node_tree}
use Rattle.tree.specs.Tree.{parts_of, part_count, parts_drop}
use Rattle.name_tables.specs.DeclaredNames.{parameter_names}
use Rattle.name_tables.specs.PatternParts.{all_bound, bound_as}
use Rattle.name_tables.proofs.EachPart.{appended}
use Rattle.name_tables.proofs.Parameters.{parameters-step, parameters-past}
use Rattle.name_tables.proofs.declared.push_parameters.Goals as goal

pub returns-then-count-eq0 : goal.returns-then-count-eq0
returns-then-count-eq0 t c =
    let ps = parts_of (node_tree c.args.function) in
    let l : part_count ps - 1 ≤ c.args.from = omega (arith, c.part_count-count.ensures, c.if-count-eq0.true) in
    sym (append-nil (all_bound c.args.names.now.items)) ∙ ap (λ x. all_bound c.args.names.now.items ++ x) (sym (parameters-past (bound_as c.args.how) ps c.args.from l))

pub loop-index-preserved : goal.loop-index-preserved
loop-index-preserved t c =
    let ps = parts_of (node_tree c.args.function) in
    appended (all_bound c.loop-index.names.items) _ (parameter_names (bound_as c.args.how) (parts_drop c.loop-index.index ps)) (parameter_names (bound_as c.args.how) (parts_drop (c.loop-index.index + 1) ps)) (all_bound c.push_part_names.new.names.items) _
    c.in_ok-push_part_names.ensures (parameters-step (bound_as c.args.how) ps c.loop-index.index _ (subst (λ n. c.loop-index.index < n - 1) c.part_count-count.ensures c.loop-index-test.true) c.part.ensures) c.loop-index.invariant

pub returns : goal.returns
returns t c =
    let ps = parts_of (node_tree c.args.function) in
    let l : part_count ps - 1 ≤ c.loop-index.index = subst (λ n. n - 1 ≤ c.loop-index.index) c.part_count-count.ensures c.loop-index-test.false in
    sym (append-nil (all_bound c.loop-index.names.items)) ∙ ap (λ x. all_bound c.loop-index.names.items ++ x) (sym (parameters-past (bound_as c.args.how) ps c.loop-index.index l)) ∙ c.loop-index.invariant
