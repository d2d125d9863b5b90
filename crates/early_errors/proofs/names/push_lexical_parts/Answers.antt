use Rattle.std.proofs.Common.{◌≡◌, ◌++◌, subst}
use Rattle.tree.specs.Node.{node_tree}
use Rattle.tree.specs.Tree.{parts_of}
use Rattle.name_tables.specs.BoundNames.{each_part}
use Rattle.name_tables.specs.DeclaratorParts as parts
use Rattle.name_tables.specs.PatternParts.{all_bound}
use Rattle.early_errors.specs.Names.{lexical_names}
use Rattle.early_errors.specs.Walk.{lexical_as, name_of}
use Rattle.name_tables.proofs.Results.{on_ok}
use Rattle.name_tables.proofs.Retold.{retold-each}
use Rattle.early_errors.proofs.Bindings.{lexically_named}
use Rattle.early_errors.proofs.names.push_lexical_parts.Goals as goal

pub returns : goal.returns
returns c =
    let ps = parts_of (node_tree c.args.node) in
    let new = c.push_lexical_parts.new.names.items in
    let old = c.args.names.now.items in
    let b = c.args.functions in
    on_ok c.push_lexical_parts.result
    (λ h. retold-each name_of (parts.lexical_as (lexical_as b)) (lexical_names b) (lexically_named b) new old ps (subst (λ how. all_bound new ≡ all_bound old ++ each_part (parts.lexical_as how) ps) c.lexical_as.ensures h))
    c.push_lexical_parts.ensures
