use Rattle.std.proofs.Common.{sym, ◌∙◌}
use Rattle.tree.proofs.KindsEqual.{kinds_equal}
use Rattle.parser_tables.proofs.operand.Operand.is_ungrouped.Goals as goal

pub returns-then-eq-clause-bare : goal.returns-then-eq-clause-bare
returns-then-eq-clause-bare c =
    let e = (kinds_equal c.kind.result c.args.kind).0 (sym c.eq.ensures ∙ c.if-eq.true) in
    (cc, cc)
