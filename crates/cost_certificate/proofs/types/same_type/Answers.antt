use Rattle.std.proofs.Common.{◌∙◌, ap, sym}
use Rattle.tree.proofs.KindsEqual.{kinds_equal}
use Rattle.cost_certificate.specs.Types.{same_type}
use Rattle.cost_certificate.proofs.KindNames.{same_itself}
use Rattle.cost_certificate.proofs.types.same_type.Goals as goal

pub returns-then-eq : goal.returns-then-eq
returns-then-eq c =
    let same = (kinds_equal c.args.first c.args.second).0 (sym c.eq.ensures ∙ c.if-eq.true) in
    sym (same_itself c.args.first) ∙ ap (same_type c.args.first) same
