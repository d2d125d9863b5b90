use Rattle.std.proofs.Common.{[], ◌∷◌, ◌++◌, map, cond, sym, ap, ◌∙◌}
use Rattle.tree.specs.Node.{node_tree}
use Rattle.scopes.specs.Shown.{reference_shown}
use Rattle.scopes.specs.Walks.{reference_at, round}
use Rattle.name_tables.proofs.Results.{on_ok}
use Rattle.scopes.proofs.walk.refer.Goals as goal

pub returns-then-refers : goal.returns-then-refers
returns-then-refers c =
    on_ok c.push_reference.result
    (λ h n fs k.
    let x = reference_at (round c.args.around fs) (node_tree c.args.node) in
    h n fs k ∙ ap (λ l. map reference_shown c.args.references.now.items ++ l) (ap (λ b. cond b (x ∷ []) []) (sym c.if-refers.true) ∙ sym (c.refers.ensures fs)))
    c.push_reference.ensures
