use Rattle.std.proofs.Common.{◌∙◌, refl, sym}
use Rattle.tree.specs.Node.{node_tree}
use Rattle.spelling_table.specs.declared.production.Production.TheVariants as by
use Rattle.spelling_table.specs.Outlines.{role_of}
use Rattle.spellings.specs.Wherever.{spelled_by}
use Rattle.cost_table.specs.Tables.{table_of}
use Rattle.cost_certificate.proofs.FreeLeaves.{leaf_without_row, leaf_with_row}
use Rattle.cost_certificate.proofs.check_rows.behind_free_leaf.Goals as goal

pub returns-then-not-has_row : goal.returns-then-not-has_row
returns-then-not-has_row c =
    leaf_without_row (table_of c.args.table.now.rows.items c.args.table.now.total) (role_of c.args.position) (node_tree c.args.node) c.args.index (spelled_by c.args.node c.args.position by.Leaf) refl
    (c.is_leaf.ensures.spelled c.if-not-is_leaf.false) (c.is_leaf.ensures.parts c.if-not-is_leaf.false) (sym c.has_row.ensures ∙ c.if-not-has_row.true)

pub returns-then-is_free_row : goal.returns-then-is_free_row
returns-then-is_free_row c =
    leaf_with_row (table_of c.args.table.now.rows.items c.args.table.now.total) (role_of c.args.position) (node_tree c.args.node) c.args.index (spelled_by c.args.node c.args.position by.Leaf) c.kind.result refl
    (c.is_leaf.ensures.spelled c.if-not-is_leaf.false) (c.is_leaf.ensures.parts c.if-not-is_leaf.false) (sym c.has_row.ensures ∙ c.if-not-has_row.false) (sym c.takes_leaf.ensures ∙ c.if-not-takes_leaf.false)
    (c.is_free_row.ensures c.if-is_free_row.true) c.kind.ensures
