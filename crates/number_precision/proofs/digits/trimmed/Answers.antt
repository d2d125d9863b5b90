use Rattle.std.proofs.Common.{◌≡◌, ◌-◌, suc, take, arith, ap, sym, ◌∙◌, eq-eqb, ne_eqb}
use Rattle.number_precision.specs.Digits.{trimmed}
use Rattle.number_precision.proofs.DigitLists.{end-turn, end-kept}
use Rattle.number_precision.proofs.digits.trimmed.Goals as goal
use Rattle.number_precision.proofs.digits.trimmed.Goals.{then-loop-end-test+else-digits-end-eq48, else-loop-end-test}

pub loop-end-preserved : goal.loop-end-preserved
loop-end-preserved c =
    let i = c.loop-end.end - 1 in
    let e : suc i ≡ c.loop-end.end = omega arith in
    (omega arith, end-turn c.args.digits.now i 0 (omega arith) (eq-eqb _ _ c.if-digits-end-eq48.true) ∙ ap (λ n. trimmed (take n c.args.digits.now)) e ∙ c.loop-end.invariant.1)

pub returns : goal.returns
returns c =
    let i = c.loop-end.end - 1 in
    elim c.loop-end-test.branch [
      | then-loop-end-test+else-digits-end-eq48 w ↦
          let e : suc i ≡ c.loop-end.end = omega arith in
          ap (λ n. take n c.args.digits.now) (sym e) ∙ end-kept c.args.digits.now i 0 (omega arith) (ne_eqb _ _ w.if-digits-end-eq48.false) ∙ ap (λ n. trimmed (take n c.args.digits.now)) e ∙ c.loop-end.invariant.1
      | else-loop-end-test w ↦
          let e : c.loop-end.end ≡ 0 = omega arith in
          ap (λ n. take n c.args.digits.now) e ∙ sym (ap (λ n. trimmed (take n c.args.digits.now)) e) ∙ c.loop-end.invariant.1
    ]
