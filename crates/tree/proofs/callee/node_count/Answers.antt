use Rattle.std.proofs.Common.{◌≡◌, ◌-◌, ◌<◌, suc, length, drop, sym, ap, ◌∙◌, subst, arith, Some, slice_get}
use Rattle.tree.specs.Flat.{numbers_of}
use Rattle.tree.proofs.FlatTrees.{Pool, AreBefore-at}
use Rattle.tree.proofs.Runs.{at_place}
use Rattle.tree.proofs.MovedNodes.{AreGaps, gaps_total, last_total}
use Rattle.tree.proofs.callee.node_count.Goals as goal

pub returns-in-Some-clause-within : goal.returns-in-Some-clause-within
returns-in-Some-clause-within c = λ n h.
    let os = c.args.waiting.now in
    let i = c.loop-index.index - 1 in
    let low : i < length os = omega (arith, c.loop-index-test.true, c.loop-index.auto.index) in
    let e : slice_get os i ≡ Some (Some c.in-Some.last) = at_place os i c.index-waiting-index.result low c.index-waiting-index.is ∙ ap Some (sym c.number.ensures ∙ c.in-Some.is) in
    omega (arith, AreBefore-at n os i c.in-Some.last h e)

pub returns-in-Some-clause-all : goal.returns-in-Some-clause-all
returns-in-Some-clause-all c = λ w h.
    let os = c.args.waiting.now in
    let i = c.loop-index.index - 1 in
    let low : i < length os = omega (arith, c.loop-index-test.true, c.loop-index.auto.index) in
    let e : slice_get os i ≡ Some (Some c.in-Some.last) = at_place os i c.index-waiting-index.result low c.index-waiting-index.is ∙ ap Some (sym c.number.ensures ∙ c.in-Some.is) in
    let at : c.loop-index.index ≡ suc i = omega (arith, c.loop-index-test.true) in
    let behind : AreGaps (drop (suc i) (numbers_of 0 w)) = subst (λ (us : Pool). AreGaps (drop (suc i) us)) h (subst (λ n. AreGaps (drop n os)) at c.loop-index.invariant) in
    omega (arith, last_total 0 w i c.in-Some.last (ap (λ (us : Pool). slice_get us i) (sym h) ∙ e) behind)

pub returns-clause-all : goal.returns-clause-all
returns-clause-all c = λ w h.
    let os = c.args.waiting.now in
    let at : c.loop-index.index ≡ 0 = omega (arith, c.loop-index-test.false) in
    let all : AreGaps (numbers_of 0 w) = subst AreGaps h (subst (λ n. AreGaps (drop n os)) at c.loop-index.invariant) in
    sym (gaps_total 0 w all)
