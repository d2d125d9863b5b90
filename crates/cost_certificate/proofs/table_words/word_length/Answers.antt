use Rattle.std.proofs.Common.{arith, ◌≡◌, length, subst, true, take}
use Rattle.cost_certificate.proofs.LinesAndWords.{lacks_byte}
use Rattle.cost_certificate.proofs.Fronts.{word_found, word_last, lacks_more}
use Rattle.cost_certificate.proofs.table_words.word_length.Goals as goal

pub returns-then-text-index-eq32-clause-words : goal.returns-then-text-index-eq32-clause-words
returns-then-text-index-eq32-clause-words c = word_found c.args.text.now c.loop-index.index c.loop-index-test.true c.if-text-index-eq32.true c.loop-index.invariant

pub loop-index-preserved : goal.loop-index-preserved
loop-index-preserved c = lacks_more 32 c.args.text.now c.loop-index.index c.loop-index-test.true c.if-text-index-eq32.false c.loop-index.invariant

pub returns-clause-words : goal.returns-clause-words
returns-clause-words c =
    let text = c.args.text.now in
    let l = c.loop-index-test.false in
    let m = c.loop-index.auto.index-end in
    let z : c.loop-index.index ≡ length text = omega (arith, l, m) in
    word_last text (length text) (omega arith) (subst (λ i. lacks_byte 32 (take i text) ≡ true) z c.loop-index.invariant)
