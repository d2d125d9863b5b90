use Rattle.std.proofs.Common.{◌+◌, ◌++◌, ◌<◌, ◌≤◌, append_assoc, append-nil, subst, sym, ap, ◌∙◌}
use Rattle.tree.specs.Node.{node_tree}
use Rattle.tree.specs.Tree.{parts_of}
use Rattle.tree.proofs.PartWalk.{parts_drop, parts_drop-some, parts_drop-gap, parts_drop-past}
use Rattle.early_errors.specs.Names.{parts_vars}
use Rattle.early_errors.specs.Owns.{vars_of}
use Rattle.early_errors.specs.Walk.{all_named}
use Rattle.name_tables.proofs.Results.{on_ok}
use Rattle.early_errors.proofs.VarFree.{function_given, vars-given, vars-step, vars-gap, vars-end}
use Rattle.early_errors.proofs.vars.+pushing.Goals as goal
use Rattle.early_errors.proofs.vars.+pushing.Goals.{push_parts_vars-in-Some+in_ok-push_vars, push_parts_vars-in_default}

pub push_vars-returns-then-has_own_vars : goal.push_vars-returns-then-has_own_vars
push_vars-returns-then-has_own_vars t c =
    sym (append-nil (all_named c.args.names.now.items))
    ∙ ap (λ l. all_named c.args.names.now.items ++ l) (sym (function_given (node_tree c.args.node) c.kind.result c.has_own_vars.result c.kind.ensures c.has_own_vars.ensures c.if-has_own_vars.true))

pub push_vars-returns : goal.push_vars-returns
push_vars-returns t c =
    let n = node_tree c.args.node in
    let old = all_named c.args.names.now.items in
    on_ok c.push_parts_vars.result
    (λ h. h ∙ ap (λ l. l ++ parts_vars (parts_of n)) c.in_ok-push_own_vars.ensures ∙ append_assoc old (vars_of n) (parts_vars (parts_of n))
    ∙ ap (λ l. old ++ l) (sym (vars-given n c.kind.result c.has_own_vars.result c.kind.ensures c.has_own_vars.ensures c.if-has_own_vars.false)))
    c.push_parts_vars.ensures

pub push_parts_vars-loop-index-preserved : goal.push_parts_vars-loop-index-preserved
push_parts_vars-loop-index-preserved t c =
    let ps = parts_of (node_tree c.args.node) in
    let i = c.loop-index.index in
    let l = subst (λ n. i < n) c.part_count-index-end.ensures c.loop-index-test.true in
    elim c.match-part.branch [
      | push_parts_vars-in-Some+in_ok-push_vars w ↦
          vars-step (all_named c.loop-index.names.items) _ _ (parts_drop i ps) (parts_drop (i + 1) ps) (node_tree w.in-Some.part) (parts_drop-some ps i (node_tree w.in-Some.part) w.in-Some.ensures)
          (ap (λ x. all_named x.items) w.names-is ∙ w.in_ok-push_vars.ensures) c.loop-index.invariant
      | push_parts_vars-in_default w ↦
          vars-gap (all_named c.loop-index.names.items) _ _ (parts_drop i ps) (parts_drop (i + 1) ps) (parts_drop-gap ps i w.in_default.ensures l) (ap (λ x. all_named x.items) w.names-is) c.loop-index.invariant
    ]

pub push_parts_vars-returns : goal.push_parts_vars-returns
push_parts_vars-returns t c =
    let ps = parts_of (node_tree c.args.node) in
    vars-end (all_named c.loop-index.names.items) _ (parts_drop c.loop-index.index ps) (parts_drop-past ps c.loop-index.index (subst (λ n. n ≤ c.loop-index.index) c.part_count-index-end.ensures c.loop-index-test.false)) c.loop-index.invariant
