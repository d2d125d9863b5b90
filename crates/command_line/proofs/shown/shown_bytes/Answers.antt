use Rattle.std.proofs.Common.{◌≡◌, ◌∙◌, ◌++◌, ap, slice_index_or}
use Rattle.command_line.specs.Shown.{shown_byte}
use Rattle.command_line.proofs.ShownMore.{byte_more}
use Rattle.command_line.proofs.shown.shown_bytes.Goals as goal

-- one byte more
pub loop-byte-preserved : goal.loop-byte-preserved
loop-byte-preserved c =
    let more = shown_byte (slice_index_or c.args.name.now c.loop-byte.byte-index 0) in
    let piece : c.as_bytes.result.now ≡ more = c.as_bytes.ensures ∙ c.push_byte.ensures ∙ ap (λ w. w ++ more) c.clear.ensures in
    c.in_ok-extend_from_slice.ensures.items ∙ ap (λ b. c.loop-byte.bytes.items ++ b) piece ∙ ap (λ w. w ++ more) c.loop-byte.invariant
    ∙ byte_more c.args.name.now c.loop-byte.byte-index c.loop-byte-test.true
