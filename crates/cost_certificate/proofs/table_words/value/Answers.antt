use Rattle.std.proofs.Common.{refl, sym, ◌∙◌}
use Rattle.cost_certificate.proofs.Fronts.{value_more, stops_low, stops_high, stops_large, value_small, value_large}
use Rattle.cost_certificate.proofs.table_words.value.Goals as goal
use Rattle.cost_certificate.proofs.table_words.value.Goals.{then-byte-lt48-via-then-byte-lt48, then-byte-lt48-via-else-byte-lt48+then-byte-gt57, then-byte-lt48-via-else-byte-lt48+else-byte-gt57+then-value-gt-LIMIT}

pub returns-then-byte-lt48 : goal.returns-then-byte-lt48
returns-then-byte-lt48 c =
    let w = c.args.word.now in
    let i = c.loop-index.index in
    let m = c.loop-index.value in
    elim c.then-byte-lt48.branch [
      | then-byte-lt48-via-then-byte-lt48 x ↦ sym (stops_low w i m _ c.loop-index-test.true refl x.if-byte-lt48.true) ∙ c.loop-index.invariant
      | then-byte-lt48-via-else-byte-lt48+then-byte-gt57 x ↦ sym (stops_high w i m _ c.loop-index-test.true refl x.if-byte-gt57.true) ∙ c.loop-index.invariant
      | then-byte-lt48-via-else-byte-lt48+else-byte-gt57+then-value-gt-LIMIT x ↦ sym (stops_large w i m _ c.loop-index-test.true refl x.if-value-gt-LIMIT.true) ∙ c.loop-index.invariant
    ]

pub loop-index-preserved : goal.loop-index-preserved
loop-index-preserved c = sym (value_more c.args.word.now c.loop-index.index c.loop-index.value _ c.loop-index-test.true refl c.if-byte-lt48.false c.if-byte-gt57.false c.if-value-gt-LIMIT.false) ∙ c.loop-index.invariant

pub returns-then-value-le-LIMIT : goal.returns-then-value-le-LIMIT
returns-then-value-le-LIMIT c = sym (value_small c.args.word.now c.loop-index.index c.loop-index.value c.loop-index-test.false c.if-value-le-LIMIT.true) ∙ c.loop-index.invariant

pub returns-else-value-le-LIMIT : goal.returns-else-value-le-LIMIT
returns-else-value-le-LIMIT c = sym (value_large c.args.word.now c.loop-index.index c.loop-index.value c.loop-index-test.false c.if-value-le-LIMIT.false) ∙ c.loop-index.invariant
