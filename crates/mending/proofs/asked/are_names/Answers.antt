use Rattle.std.proofs.Common.{sym, ap, ◌∙◌, arith}
use Rattle.tree.specs.Node.{node_tree, list_parts}
use Rattle.mending.specs.declared.change.MendRule.TheVariants.{PreferConst}
use Rattle.mending.specs.Words.{is_identifier, kind_at, span_at}
use Rattle.mending.specs.Making.{is_made}
use Rattle.mending.proofs.NameSteps.{names_on, names_end}
use Rattle.mending.proofs.asked.are_names.Goals as goal

pub loop-index-preserved : goal.loop-index-preserved
loop-index-preserved c =
    let d = node_tree c.in-Some.declarator in
    let name = sym (ap is_identifier (c.kind_at.ensures ∙ ap kind_at c.part-name.ensures)) ∙ sym c.is_identifier.ensures ∙ c.if-not-is_identifier.false in
    let place = c.span_at.ensures ∙ ap (span_at d) c.part-name.ensures in
    names_on (is_made c.args.changes.now PreferConst) (list_parts c.args.declarators) c.loop-index.index d c.in-Some.ensures name
    (ap (is_made c.args.changes.now PreferConst) (sym place) ∙ c.is_made.ensures c.if-not-is_made.false) c.loop-index.invariant

pub returns : goal.returns
returns c = λ _. names_end (is_made c.args.changes.now PreferConst) (list_parts c.args.declarators) c.loop-index.index (omega arith) c.loop-index.invariant
