use Rattle.std.proofs.Common.{length, ap, ◌∙◌, arith}
use Rattle.source_text.specs.LineBytes.{after_bytes}
use Rattle.source_text.proofs.Lines.{line_column_by_bytes}
use Rattle.source_text.proofs.LineEnds.{behind_line_end}
use Rattle.source_text.proofs.line_walker.LineWalker.moved.Goals as goal

pub loop-at-preserved : goal.loop-at-preserved
loop-at-preserved d =
    let here = d.loop-at.here in
    let bytes = d.bytes-bytes.result.now in
    let next = d.in-Some.ensures.some in
    let at = d.in-Some.at in
    let value = ap length d.bytes-bytes.ensures.value in
    let until = d.in-Some.ensures.until in
    let located = d.loop-at.invariant.located in
    let few_lines = located.few_lines in
    let ordered = next.ordered in
    let reaches = next.reaches in
    record {
      located = record {
        within = omega arith;
        walked = behind_line_end bytes here.line here.column here.at at (omega arith) located.walked next;
        few_lines = omega arith;
        few_columns = omega arith;
      };
      ahead = until;
    }

pub returns-clause-value : goal.returns-clause-value
returns-clause-value d at_place =
    let bytes = d.bytes-bytes.result.now in
    let place = d.args.place in
    d.along.ensures.there.walked ∙ ap (λ n. after_bytes (1, 1) n bytes) d.along.ensures.place ∙ ap (λ x. after_bytes (1, 1) place x) d.bytes-bytes.ensures.value
    ∙ line_column_by_bytes d.args.source.now place d.bytes-bytes.ensures.utf8 at_place
