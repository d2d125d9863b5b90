use Rattle.std.proofs.Common.{arith, sym, ap, ◌∙◌}
use Rattle.std.specs.Str.{bytes_eq}
use Rattle.cost_certificate.proofs.Fronts.{kinds_more}
use Rattle.cost_certificate.proofs.table_words.kind_named.Goals as goal

pub loop-kind-preserved : goal.loop-kind-preserved
loop-kind-preserved c =
    let w = c.args.word.now in
    let l = c.loop-kind-test.true in
    sym (kinds_more w c.loop-kind.kind-index _ (omega (arith, l)) (sym (ap (λ n. bytes_eq n w) (c.as_bytes.ensures.value ∙ c.type_name.ensures)) ∙ sym c.eq.ensures ∙ c.if-eq.false)) ∙ c.loop-kind.invariant
