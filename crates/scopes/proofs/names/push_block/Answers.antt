use Rattle.std.proofs.Common.{◌≡◌, ◌++◌, subst}
use Rattle.tree.specs.Node.{node_tree}
use Rattle.tree.specs.Tree.{parts_of}
use Rattle.name_tables.specs.BoundNames.{each_part}
use Rattle.name_tables.specs.DeclaratorParts as parts
use Rattle.name_tables.specs.PatternParts.{all_bound}
use Rattle.scopes.specs.declared.names.DeclaredIn.TheVariants.{Statement}
use Rattle.scopes.specs.Bindings.{lexical}
use Rattle.scopes.specs.Gathered.{lexical_as}
use Rattle.scopes.specs.Shown.{made_of}
use Rattle.name_tables.proofs.Results.{on_ok}
use Rattle.name_tables.proofs.Retold.{retold-each}
use Rattle.scopes.proofs.Patterns.{lexically_declared}
use Rattle.scopes.proofs.names.push_block.Goals as goal

pub returns : goal.returns
returns c =
    let ps = parts_of (node_tree c.args.block) in
    let new = c.push_lexical_parts.new.names.items in
    let old = c.args.names.now.items in
    on_ok c.push_lexical_parts.result
    (λ p. retold-each made_of (parts.lexical_as (lexical_as Statement)) (lexical Statement) (lexically_declared Statement) new old ps
    (subst (λ how. all_bound new ≡ all_bound old ++ each_part (parts.lexical_as how) ps) c.lexical_as.ensures p))
    c.push_lexical_parts.ensures
