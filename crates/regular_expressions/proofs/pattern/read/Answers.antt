use Rattle.std.proofs.Common.{◌+◌, ◌≤◌, false, reverse, sum, sym, ap, ◌∙◌, subst, arith}
use Rattle.std.proofs.lemmas.Str.{IsCharBoundary-start}
use Rattle.tokens.proofs.PassedCharacters.{passed_ordered}
use Rattle.regular_expressions.specs.Scanned.{piece_as, nested_as, nested_if}
use Rattle.regular_expressions.proofs.PatternSteps.{InPattern, pattern_begins, pattern_stops, pattern_breaks, pattern_goes_on}
use Rattle.regular_expressions.proofs.pattern.read.Goals as goal

pub loop-first-init : goal.loop-first-init
loop-first-init c = record {
  few = subst (λ xs. 0 + sum xs ≤ 0) (sym c.requires) (omega arith);
  read = subst (λ xs. InPattern c.args.is_unicode c.args.text.now 0 (nested_as (record { repeatable = false; groups = 0 }) (reverse xs)) false) (sym c.requires)
      (pattern_begins c.args.is_unicode c.args.text.now (IsCharBoundary-start c.args.text.now c.utf8.text));
}

pub returns-in_default-piece_at-clause-fault : goal.returns-in_default-piece_at-clause-fault
returns-in_default-piece_at-clause-fault c =
    sym (pattern_stops c.args.is_unicode c.args.text.now c.loop-first.at c.in-Some.first.end c.in-Some.first.c (nested_as c.loop-first.nested (reverse c.loop-first.around.items)) c.loop-first.has_references
    c.loop-first.invariant.read c.in-Some.ensures.some c.in_default-piece_at.ensures.none)

pub nest-requires : goal.nest-requires
nest-requires c = record { few = omega (arith, c.in-Some.ensures.within) }

pub returns-in_default-2-clause-fault : goal.returns-in_default-2-clause-fault
returns-in_default-2-clause-fault c =
    let xs = reverse c.nest.new.around.items in
    sym (pattern_breaks c.args.is_unicode c.args.text.now c.loop-first.at c.in-Some.first.end c.in-Some-piece_at.read.end c.in-Some.first.c (nested_as c.loop-first.nested (reverse c.loop-first.around.items))
    c.loop-first.has_references (piece_as c.in-Some-piece_at.read.piece) c.loop-first.invariant.read c.in-Some.ensures.some c.in-Some-piece_at.ensures.some
    (sym c.in_ok-behind.ensures.next ∙ ap (λ q. nested_if q xs) c.in_default-2.is))

pub loop-first-preserved : goal.loop-first-preserved
loop-first-preserved c =
    let text = c.args.text.now in
    let u = c.args.is_unicode in
    let z = nested_as c.loop-first.nested (reverse c.loop-first.around.items) in
    let w = nested_as c.in-Some-2.behind (reverse c.nest.new.around.items) in
    let p = piece_as c.in-Some-piece_at.read.piece in
    let r = c.in-Some-piece_at.ensures.some in
    let o = passed_ordered text c.in-Some.first.end c.in-Some-piece_at.read.end r.word r.passed in
    let f : c.in-Some-2.behind.groups + sum c.nest.new.around.items ≤ c.loop-first.nested.groups + sum c.loop-first.around.items + 1 = rw c.in-Some-2.is at c.in_ok-behind.ensures.few in
    record {
      few = omega (arith, c.in-Some.ensures.within);
      read = subst (λ b. InPattern u text c.in-Some-piece_at.read.end w b) (sym c.has_seen-has_references.ensures)
          (pattern_goes_on u text c.loop-first.at c.in-Some.first.end c.in-Some-piece_at.read.end c.in-Some.first.c z w c.loop-first.has_references p c.loop-first.invariant.read c.in-Some.ensures.some r
          (sym c.in_ok-behind.ensures.next ∙ ap (λ q. nested_if q (reverse c.nest.new.around.items)) c.in-Some-2.is));
    }
