use Rattle.std.specs.Prelude.{◌≡◌, ◌+◌, ◌-◌, ◌*◌, ◌<◌, get_or}
use Rattle.std.proofs.Common.{ap}
use Rattle.std.proofs.Common.{arith}
use Rattle.std.proofs.Common.{lt-ltb, le-ltb}
use Rattle.number_precision.specs.Limbs.{limb_weight, value_below}
use Rattle.number_precision.proofs.LimbsLemmas.{value_below-zero, value_below-suc, value_below_less}
use Rattle.number_precision.proofs.big.are_less.Goals as goal

pub returns-then-a-i : goal.returns-then-a-i
returns-then-a-i c =
    let a = c.args.a.now in
    let b = c.args.b.now in
    let i = c.loop-i.i - 1 in
    let e : i + 1 ≡ c.loop-i.i = omega arith in
    let l : value_below a c.args.len < value_below b c.args.len = omega (arith, rw e at (value_below_less a b i (λ k. (c.type_inv.a k).fits) c.if-a-i.true)) in
    rw (lt-ltb _ _ l)

pub returns-then-a-i-2 : goal.returns-then-a-i-2
returns-then-a-i-2 c =
    let a = c.args.a.now in
    let b = c.args.b.now in
    let i = c.loop-i.i - 1 in
    let e : i + 1 ≡ c.loop-i.i = omega arith in
    let l : value_below b c.args.len < value_below a c.args.len = omega (arith, rw e at (value_below_less b a i (λ k. (c.type_inv.b k).fits) c.if-a-i-2.true)) in
    rw (le-ltb (value_below a c.args.len) (value_below b c.args.len) (omega arith))

pub loop-i-preserved : goal.loop-i-preserved
loop-i-preserved c =
    let i = c.loop-i.i - 1 in
    let e : i + 1 ≡ c.loop-i.i = omega arith in
    let same : get_or c.args.a.now i 0 ≡ get_or c.args.b.now i 0 = omega arith in
    (omega arith, omega (arith, rw e at (value_below-suc c.args.a.now i), rw e at (value_below-suc c.args.b.now i), ap (λ x. x * limb_weight i) same))

pub returns : goal.returns
returns c =
    let e : c.loop-i.i ≡ 0 = omega arith in
    let same : value_below c.args.a.now c.args.len ≡ value_below c.args.b.now c.args.len = omega (arith, rw e at c.loop-i.invariant.1, value_below-zero c.args.a.now, value_below-zero c.args.b.now) in
    rw (le-ltb (value_below c.args.a.now c.args.len) (value_below c.args.b.now c.args.len) (omega arith))
