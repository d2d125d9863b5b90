use Rattle.std.proofs.Common.{◌≡◌, true, List, ◌∙◌, refl, sym, subst}
use Rattle.std.specs.Prelude.{slice_range}
use Rattle.tree.specs.declared.kind.Pair.{Pair}
use Rattle.tokens.proofs.Beginnings.{true_false}
use Rattle.tokens.specs.Scanned.{token_of}
use Rattle.tree.specs.Flat.{post_order}
use Rattle.unwrapping.specs.declared.reading.TokenRow.{TokenRow}
use Rattle.unwrapping.specs.Keeps.{is_grouping}
use Rattle.unwrapping.proofs.NoteSteps.{noted_from}
use Rattle.unwrapping.proofs.ReadSteps.{IsReadTo, begins_reading, reads_on, reads_end, row_of_token, no_end}
use Rattle.unwrapping.proofs.reading.read.Goals as goal

pub loop-step-init : goal.loop-step-init
loop-step-init c =
    let text = c.args.source.now in
    record {
      here = c.requires.place;
      order = c.requires.order;
      pairs = c.new-walk.ensures;
      noted = λ n a. noted_from (post_order n) c.args.start c.args.notes.now a;
      read = λ n a e. subst (λ (rs : List TokenRow). IsReadTo text n c.args.pairs.now c.args.start c.args.start rs) (sym c.new-tokens.ensures.items) (begins_reading text n c.args.pairs.now c.args.start e);
    }

pub returns-then-is_end : goal.returns-then-is_end
returns-then-is_end c = λ n a e.
    let text = c.args.source.now in
    let pairs = c.args.pairs.now in
    let t = c.in-Some.step.token in
    let bytes = c.in-Some.ensures.slice ∙ (λ i. slice_range text (sym c.of.ensures.start i) (sym c.of.ensures.end i)) in
    reads_end text n pairs c.args.start c.loop-step.at c.loop-step.tokens.items _ (token_of t) _ refl e (c.loop-step.invariant.read n a e)
    (λ rest x. row_of_token text pairs _ c.loop-step.at (token_of t) rest _ c.text-text.ensures.utf8 c.loop-step.invariant.here x refl bytes c.of.ensures.start (λ h. subst (λ (ps : List Pair). is_grouping ps (token_of t) ≡ true) c.loop-step.invariant.pairs (c.in_ok-takes.ensures.grouping h)))
    (c.in-Some.ensures.read n (c.loop-step.invariant.noted n a)) (c.is_end.ensures.0 c.if-is_end.true) c.in_ok-push.ensures.items

pub loop-step-preserved : goal.loop-step-preserved
loop-step-preserved c =
    let text = c.args.source.now in
    let pairs = c.args.pairs.now in
    let t = c.in-Some.step.token in
    let bytes = c.in-Some.ensures.slice ∙ (λ i. slice_range text (sym c.of.ensures.start i) (sym c.of.ensures.end i)) in
    record {
      here = c.in-Some.ensures.within.2;
      order = c.in-Some.ensures.order;
      pairs = c.in_ok-takes.ensures.pairs ∙ c.loop-step.invariant.pairs;
      noted = λ n a. c.in-Some.ensures.noted n (c.loop-step.invariant.noted n a);
      read = λ n a e.
          let reads = c.in-Some.ensures.read n (c.loop-step.invariant.noted n a) in
          subst (λ (rs : List TokenRow). IsReadTo text n pairs c.args.start t.end rs) (sym c.in_ok-push.ensures.items)
          (reads_on text n pairs c.args.start c.loop-step.at c.loop-step.tokens.items _ (token_of t) (c.loop-step.invariant.read n a e) reads
          (row_of_token text pairs _ c.loop-step.at (token_of t) _ _ c.text-text.ensures.utf8 c.loop-step.invariant.here reads refl bytes c.of.ensures.start (λ h. subst (λ (ps : List Pair). is_grouping ps (token_of t) ≡ true) c.loop-step.invariant.pairs (c.in_ok-takes.ensures.grouping h)))
          c.of.ensures.end (no_end t.class (λ e. true_false c.is_end.result (c.is_end.ensures.1 e) c.if-is_end.false)));
    }
