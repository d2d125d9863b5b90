use Rattle.std.proofs.Common.{ap, ◌∙◌}
use Rattle.tree.specs.Node.{node_tree}
use Rattle.early_errors.specs.Early.{errors, errors_within, least}
use Rattle.early_errors.specs.Names.{var_names}
use Rattle.early_errors.specs.Owns.{program_beside}
use Rattle.early_errors.specs.Walk.{after, hits, look, sooner}
use Rattle.early_errors.proofs.JoinedHits.{hits-none}
use Rattle.early_errors.proofs.Known.{known_program}
use Rattle.early_errors.proofs.Least.{sooner-none}
use Rattle.early_errors.proofs.found_from.Goals as goal

pub returns : goal.returns
returns c =
    let t = node_tree c.args.root in
    c.in_ok-walk_node.ensures.found (program_beside c.args.walk.now.language) (known_program (look c.args.walk.now.labels) (look c.args.walk.now.privates) c.args.walk.now.language c.requires.labels c.requires.privates)
    ∙ ap (λ z. sooner (after c.args.walk.now.found (errors_within z t)) (hits (look c.args.walk.now.vars) (var_names t))) (c.outside.ensures.around t c.requires.of_2022 c.requires.in_module)
    ∙ (λ i. sooner (sooner (c.requires.found i) (least (errors t))) (hits-none (look c.args.walk.now.vars) c.requires.vars (var_names t) i))
    ∙ sooner-none (least (errors t))
