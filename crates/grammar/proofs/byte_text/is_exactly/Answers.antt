use Rattle.std.proofs.Common.{refl, sym, ◌∙◌, arith}
use Rattle.grammar.proofs.Bytewise.{same_at, same_to_end, same_both}
use Rattle.grammar.proofs.byte_text.is_exactly.Goals as goal

pub bytes-init : goal.bytes-init
bytes-init c = refl

pub bytes-preserved : goal.bytes-preserved
bytes-preserved c = c.bytes.invariant ∙ same_at c.as_bytes-bytes.result.now c.as_bytes-others.result.now c.bytes.i (omega arith) (omega arith) c.if-bytes-i.false

pub returns : goal.returns
returns c =
    same_both c.as_bytes-bytes.ensures.value c.as_bytes-others.ensures.value
    (sym (c.bytes.invariant ∙ same_to_end c.as_bytes-bytes.result.now c.as_bytes-others.result.now c.bytes.i (omega arith) (omega arith)))
