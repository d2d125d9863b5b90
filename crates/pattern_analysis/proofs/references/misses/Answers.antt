use Rattle.std.proofs.Common.{false, ◌+◌, ◌≤◌, [], reverse, sym, ap, ◌∙◌, subst}
use Rattle.std.proofs.lemmas.Str.{IsCharBoundary-start}
use Rattle.pattern_analysis.specs.UselessReferences.{misses}
use Rattle.pattern_analysis.specs.ReadReferences.{IsInOrder, reached_if}
use Rattle.pattern_analysis.proofs.ReferenceSteps.{InReferences, references_begin, references_go_on}
use Rattle.pattern_analysis.proofs.references.misses.Goals as goal

pub loop-first-init : goal.loop-first-init
loop-first-init c =
    let text = c.args.text.now in
    subst (λ around. InReferences c.args.groups text 0 false c.begin-reached.result around c.args.kept.now.items) (sym c.requires.around)
    (subst (λ kept. InReferences c.args.groups text 0 false c.begin-reached.result [] kept) (sym c.requires.kept)
    (references_begin c.args.groups text c.begin-reached.result (IsCharBoundary-start text c.utf8.text) c.begin-reached.ensures))

pub loop-first-preserved : goal.loop-first-preserved
loop-first-preserved c =
    let text = c.args.text.now in
    let z = c.loop-first.reached in
    let around = c.loop-first.around.items in
    let kept = c.loop-first.kept.items in
    let h = c.loop-first.invariant in
    let within = c.in-Some.ensures.within in
    let read = c.mark_at-read.result in
    let next = c.in-Some-2.next in
    let others = c.behind.new.around.items in
    let left = c.behind.new.kept.items in
    let o : IsInOrder z.frame z.count around kept → IsInOrder next.frame next.count others left = rw c.in-Some-2.is at c.in_ok-next.ensures.order in
    let n : next.count ≤ z.count + 1 = rw c.in-Some-2.is at c.in_ok-next.ensures.count in
    references_go_on c.args.groups text c.loop-first.at c.in-Some.first.end read.end c.in-Some.first.c c.loop-first.in_class read.in_class read.mark z around kept next others left h within.0
    c.in-Some.ensures.some c.mark_at-read.ensures
    (λ marks. c.in_ok-next.ensures.next h.order marks ∙ ap (λ r. misses c.args.groups (reached_if r (reverse others) left) marks) c.in-Some-2.is) (o h.order) n
