use Rattle.std.proofs.Common.{◌≡◌, take, subst, arith}
use Rattle.regular_expressions.specs.Terms.{decimal_value}
use Rattle.regular_expressions.specs.Scanned.{padded}
use Rattle.regular_expressions.proofs.Numbers.{ordered_end}
use Rattle.regular_expressions.proofs.count.is_ordered.Goals as goal

pub returns : goal.returns
returns c =
    let least = c.args.least.now in
    let most = c.args.most.now in
    let width = c.max-width.result in
    let e : c.loop-index.index ≡ width = omega arith in
    ordered_end least most width (omega arith) (omega arith)
    (subst (λ k. decimal_value 0 (take k (padded least width)) ≡ decimal_value 0 (take k (padded most width))) e c.loop-index.invariant)
