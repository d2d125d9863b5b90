use Rattle.std.proofs.Common.{ℕ, List, [], ◌∷◌, IsTrue, sym, ap, ◌∙◌, subst}
use Rattle.std.proofs.lemmas.Bool.{and_from}
use Rattle.tokens.specs.Lexical.{is_one_of_words}
use Rattle.unwrapping.specs.Readings.{bytes_in}
use Rattle.unwrapping.specs.Comparing.{leads_rows, may_be_ended_before}
use Rattle.unwrapping.proofs.CompareSteps.{both_ok, settles_by, leads_kept}
use Rattle.unwrapping.proofs.keeping.Comparison.keep.Goals as goal

pub returns-clause-leads : goal.returns-clause-leads
returns-clause-leads c =
    let old = c.args.self.now in
    let row = c.args.row in
    let other = c.args.other in
    let is = c.bytes-text.ensures.value in
    let is_again = c.bytes-again.ensures.value in
    both_ok c.settle.result
    (λ settled rest. leads_kept {text = c.args.source.now} {unwrapped = c.args.unwrapped.now} old c.settle.new.self c.pass.new.self c.pass-2.new.self row other c.stays-stays.result c.may_lead-may_lead.result c.may_follow-may_follow.result
    c.requires.row c.requires.other c.requires.same
    (λ st a. (λ i. bytes_in (sym is i) (record { start = old.text.at; end = row.span.start })) ∙ c.stays-stays.ensures st a ∙ (λ i. bytes_in (is_again i) (record { start = old.unwrapped.at; end = other.span.start })))
    (λ h. and_from _ _ (subst (λ (x : List ℕ). IsTrue (is_one_of_words ("return" ∷ "throw" ∷ "yield" ∷ []) (bytes_in x row.span))) is (c.may_lead-may_lead.ensures.word h)) (ap (λ x. leads_rows x c.pass.new.self.rows.now) (sym is) ∙ c.may_lead-may_lead.ensures.next h))
    (λ h. (c.may_follow-may_follow.ensures.alike h, subst (λ (x : List ℕ). IsTrue (is_one_of_words ("++" ∷ "--" ∷ ";" ∷ "," ∷ []) (bytes_in x row.span))) is (c.may_follow-may_follow.ensures.word h)))
    (λ u. (λ i. may_be_ended_before (bytes_in (sym is_again i) other.span) (sym is i) c.pass.new.self.rows.now) ∙ c.may_be_ended-self.ensures (sym rest.may_end ∙ u))
    (c.in_ok-passed.ensures c.if-not-passed.false) (c.in_ok-passed_again.ensures c.if-not-passed_again.false) (settles_by c.pass.new.self.passed.items c.pass-2.new.self.passed.items c.settle.new.self.text.passed.items c.settle.new.self.unwrapped.passed.items is is_again settled) rest.rows rest.at rest.rows_again rest.at_again)
    c.settle.ensures.settles c.settle.ensures.rest
