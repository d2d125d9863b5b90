use Rattle.std.proofs.Common.{◌≡◌, ◌++◌, subst}
use Rattle.tree.specs.Node.{node_tree}
use Rattle.tree.specs.Tree.{parts_of, parts_drop}
use Rattle.name_tables.specs.BoundNames.{each_part}
use Rattle.name_tables.specs.DeclaredNames as declared
use Rattle.name_tables.specs.DeclaratorParts as parts
use Rattle.name_tables.specs.PatternParts.{all_bound}
use Rattle.scopes.specs.declared.names.DeclaredIn.TheVariants.{Statement}
use Rattle.scopes.specs.Gathered.{lexical_as}
use Rattle.scopes.specs.Openings.{case_names}
use Rattle.scopes.specs.Shown.{made_of}
use Rattle.name_tables.proofs.Results.{on_ok}
use Rattle.name_tables.proofs.Retold.{retold-each}
use Rattle.scopes.proofs.Patterns.{case_declared}
use Rattle.scopes.proofs.names.push_cases.Goals as goal

pub returns : goal.returns
returns c =
    let ps = parts_drop 1 (parts_of (node_tree c.args.switch)) in
    let new = c.push_cases.new.names.items in
    let old = c.args.names.now.items in
    on_ok c.push_cases.result
    (λ p. retold-each made_of (declared.case_names (parts.lexical_as (lexical_as Statement))) case_names case_declared new old ps
    (subst (λ how. all_bound new ≡ all_bound old ++ each_part (declared.case_names (parts.lexical_as how)) ps) c.lexical_as.ensures p))
    c.push_cases.ensures
