use Rattle.std.proofs.Common.{◌≡◌, ap, ◌∙◌, ◌++◌, subst}
use Rattle.tree.specs.Node.{node_tree}
use Rattle.tree.specs.Tree.{parts_of}
use Rattle.name_tables.specs.DeclaratorParts as parts
use Rattle.name_tables.specs.DeclaratorParts.{how_of}
use Rattle.name_tables.specs.DeclaredNames.{declarator_names}
use Rattle.name_tables.specs.PatternParts.{all_bound}
use Rattle.scopes.specs.declared.kind.BindingKind.TheVariants.{Var}
use Rattle.scopes.specs.Gathered.{declarator_as}
use Rattle.scopes.specs.Shown.{all_declared, made_of}
use Rattle.name_tables.proofs.Results.{on_ok}
use Rattle.name_tables.proofs.Retold.{retold-declarators}
use Rattle.scopes.proofs.Patterns.{declared_var}
use Rattle.scopes.proofs.names.push_var_declarators.Goals as goal

pub returns : goal.returns
returns c =
    let h = c.args.head in
    let ps = parts_of (node_tree c.args.declaration) in
    let new = c.push_declarators.new.names.items in
    let old = c.args.names.now.items in
    on_ok c.push_declarators.result
    (λ p. retold-declarators made_of (how_of (declarator_as h Var)) new old ps (subst (λ how. all_bound new ≡ all_bound old ++ declarator_names (parts.declarator_as how) ps) c.declarator_as-how.ensures p)
    ∙ ap (λ l. all_declared old ++ l) (declared_var h ps))
    c.push_declarators.ensures
