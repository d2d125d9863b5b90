use Rattle.std.proofs.Common.{sym, ◌∙◌}
use Rattle.tree.specs.Node.{node_tree}
use Rattle.name_tables.specs.declared.bound.PatternNames.TheVariants.{Name}
use Rattle.name_tables.proofs.Patterns.{names_given}
use Rattle.early_errors.specs.Names.{name_at}
use Rattle.early_errors.proofs.DeclarationKinds.{one_free}
use Rattle.early_errors.proofs.skipping.is_restricted_or_pattern.Goals as goal

pub returns-in-Name : goal.returns-in-Name
returns-in-Name c =
    one_free (node_tree c.args.target) c.text.result.now c.is_restricted.result c.text.ensures c.is_restricted.ensures
    (names_given name_at (node_tree c.args.target) c.kind.result Name c.kind.ensures (sym c.in-Name.is ∙ c.pattern_names_of.ensures))
