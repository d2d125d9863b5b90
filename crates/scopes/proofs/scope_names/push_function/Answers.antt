use Rattle.std.proofs.Common.{sym, ap, ◌∙◌, ◌++◌, ◌≡◌, ◌≤◌, ◌<◌, ◌-◌, suc, subst, append-nil, append_assoc, arith}
use Rattle.tree.specs.Node.{node_tree}
use Rattle.tree.specs.Tree.{parts_of, part_at, part_count, parts_drop}
use Rattle.name_tables.specs.PatternParts.{at_part}
use Rattle.scopes.specs.Gathered.{parameters}
use Rattle.scopes.specs.Openings.{body_names}
use Rattle.scopes.specs.Shown.{all_declared}
use Rattle.scopes.proofs.Parameters.{parameters-body, parameters-none}
use Rattle.name_tables.proofs.Results.{on_ok}
use Rattle.scopes.proofs.scope_names.push_function.Goals as goal

pub returns-then-count-from : goal.returns-then-count-from
returns-then-count-from c =
    sym (append-nil (all_declared c.args.names.now.items)) ∙ ap (λ l. all_declared c.args.names.now.items ++ l) (sym (parameters-none (parts_of (node_tree c.args.node)) c.args.from (subst (λ n. n ≤ c.args.from) c.part_count-count.ensures c.if-count-from.true)))

pub returns : goal.returns
returns c =
    let ps = parts_of (node_tree c.args.node) in
    let old = all_declared c.args.names.now.items in
    let k = part_count ps - 1 in
    let f : c.args.from < part_count ps = subst (λ n. c.args.from < n) c.part_count-count.ensures c.if-count-from.false in
    let count : part_count ps ≡ suc k = omega (arith, f) in
    let l : c.args.from ≤ k = omega (arith, f, count) in
    on_ok c.push_body.result
    (λ h. h ∙ ap (λ o. all_declared c.push_parameters.new.names.items ++ at_part body_names o) (c.part.ensures ∙ ap (λ n. part_at ps (n - 1)) c.part_count-count.ensures)
    ∙ ap (λ x. x ++ at_part body_names (part_at ps k)) c.in_ok-push_parameters.ensures
    ∙ append_assoc old (parameters (parts_drop c.args.from ps)) (at_part body_names (part_at ps k))
    ∙ ap (λ x. old ++ x) (sym (parameters-body ps c.args.from k count l)))
    c.push_body.ensures
