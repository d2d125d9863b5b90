use Rattle.std.proofs.Common.{◌≡◌, ◌++◌, true, subst}
use Rattle.tree.specs.Node.{node_tree}
use Rattle.tree.specs.Tree.{parts_of, parts_drop}
use Rattle.name_tables.specs.BoundNames.{each_part}
use Rattle.name_tables.specs.DeclaredNames as declared
use Rattle.name_tables.specs.DeclaratorParts as parts
use Rattle.name_tables.specs.PatternParts.{all_bound}
use Rattle.early_errors.specs.Owns.{case_names}
use Rattle.early_errors.specs.Walk.{lexical_as, name_of}
use Rattle.name_tables.proofs.Results.{on_ok}
use Rattle.name_tables.proofs.Retold.{retold-each}
use Rattle.early_errors.proofs.Bindings.{case_named}
use Rattle.early_errors.proofs.names.push_cases.Goals as goal

pub returns : goal.returns
returns c =
    let ps = parts_drop 1 (parts_of (node_tree c.args.switch)) in
    let new = c.push_cases.new.names.items in
    let old = c.args.names.now.items in
    on_ok c.push_cases.result
    (λ h. retold-each name_of (declared.case_names (parts.lexical_as (lexical_as true))) case_names case_named new old ps
    (subst (λ how. all_bound new ≡ all_bound old ++ each_part (declared.case_names (parts.lexical_as how)) ps) c.lexical_as.ensures h))
    c.push_cases.ensures
