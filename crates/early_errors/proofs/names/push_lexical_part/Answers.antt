use Rattle.std.proofs.Common.{◌≡◌, ◌++◌, option_map, subst}
use Rattle.tree.specs.Node.{node_tree}
use Rattle.name_tables.specs.DeclaratorParts as parts
use Rattle.name_tables.specs.PatternParts.{all_bound, at_part}
use Rattle.early_errors.specs.Names.{lexical_names}
use Rattle.early_errors.specs.Walk.{lexical_as, name_of}
use Rattle.name_tables.proofs.Results.{on_ok}
use Rattle.name_tables.proofs.Retold.{retold-at}
use Rattle.early_errors.proofs.Bindings.{lexically_named}
use Rattle.early_errors.proofs.names.push_lexical_part.Goals as goal

pub returns : goal.returns
returns c =
    let item = option_map node_tree c.args.item in
    let new = c.push_lexical_part.new.names.items in
    let old = c.args.names.now.items in
    let b = c.args.functions in
    on_ok c.push_lexical_part.result
    (λ h. retold-at name_of (parts.lexical_as (lexical_as b)) (lexical_names b) (lexically_named b) new old item (subst (λ how. all_bound new ≡ all_bound old ++ at_part (parts.lexical_as how) item) c.lexical_as.ensures h))
    c.push_lexical_part.ensures
