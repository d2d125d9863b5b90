use Rattle.std.proofs.Common.{filter, sym, ap, ◌∙◌}
use Rattle.tree.specs.Node.{node_tree}
use Rattle.name_tables.specs.declared.bound.PatternNames.TheVariants.{Name, Nothing}
use Rattle.early_errors.specs.Strict.{is_restricted}
use Rattle.name_tables.proofs.Patterns.{names_given}
use Rattle.early_errors.specs.Names.{name_at}
use Rattle.early_errors.proofs.PartsByKind.{name_free}
use Rattle.early_errors.proofs.skipping.names_restricted.Goals as goal

pub returns-in-Nothing : goal.returns-in-Nothing
returns-in-Nothing c = ap (filter is_restricted) (names_given name_at (node_tree c.args.target) c.kind.result Nothing c.kind.ensures (sym c.in-Nothing.is ∙ c.pattern_names_of.ensures))

pub returns-in-Name : goal.returns-in-Name
returns-in-Name c =
    name_free (node_tree c.args.target) c.text.result.now c.is_restricted.result c.text.ensures c.is_restricted.ensures
    (names_given name_at (node_tree c.args.target) c.kind.result Name c.kind.ensures (sym c.in-Name.is ∙ c.pattern_names_of.ensures))
