use Rattle.std.proofs.Common.{◌++◌, map, ap, ◌∙◌}
use Rattle.rule_words.proofs.Results.{on_ok}
use Rattle.scopes.specs.Shown.{reference_shown}
use Rattle.tree.specs.Flat.{post_order}
use Rattle.name_tables.specs.Sets.{contains}
use Rattle.native_prototypes.specs.Found.{is_bound}
use Rattle.native_prototypes.proofs.Passes.{meant-shown, nodes-same}
use Rattle.native_prototypes.proofs.walk.push_by_references.Goals as goal

pub returns-clause-found : goal.returns-clause-found
returns-clause-found c =
    let rs = c.args.references.now in
    on_ok c.push_nodes.result
    (λ h. h ∙ ap (λ l. c.args.out.now.items ++ l) (nodes-same c.args.is_2022 (contains c.in_ok-bound.bound) (is_bound (map reference_shown rs)) (λ w. c.in_ok-bound.ensures w ∙ meant-shown rs w) (post_order c.args.program.now)))
    c.push_nodes.ensures.found
