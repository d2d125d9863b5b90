use Rattle.cost_certificate.proofs.CheckedRows.{passed_join}
use Rattle.cost_certificate.proofs.check_rows.joined.Goals as goal

pub returns-clause-passed : goal.returns-clause-passed
returns-clause-passed c = λ t xs ys r h g. passed_join t xs ys r c.args.first c.args.second _ _ c.or.ensures c.or-2.ensures h g
