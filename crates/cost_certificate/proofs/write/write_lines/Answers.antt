use Rattle.std.proofs.Common.{◌≡◌, ◌<◌, ◌+◌, ◌∙◌, ◌++◌, ◌∷◌, [], length, drop, arith, ap, sym, suc, subst}
use Rattle.std.specs.Prelude.{slice_index_or}
use Rattle.source_text.specs.Writing.{WritesText}
use Rattle.cost_table.specs.Rows.{shown}
use Rattle.cost_table.specs.Tables.{table_of}
use Rattle.cost_certificate.specs.Forms.{short, row_line, total_line, lines_text, table_lines, table_text}
use Rattle.cost_certificate.proofs.CellRows.{any_row}
use Rattle.cost_certificate.proofs.WrittenLines.{upto, upto_row, upto_total, upto_rest, sent_begun, sent_more, sent_last}
use Rattle.cost_certificate.proofs.write.write_lines.Goals as goal

pub returns-in-Err : goal.returns-in-Err
returns-in-Err g c =
    let rows = c.args.table.now.rows.items in
    let total = c.args.table.now.total in
    let i = c.loop-index.index in (
      sent_begun (g.W.Sink.taken c.args.writer.now) (g.W.Sink.taken c.loop-index.writer) (g.W.Sink.taken c.make_room.new.writer) c.loop-index.piece (upto rows total i) (lines_text (drop (suc i) (table_lines short (table_of rows total)))) (table_text short (table_of rows total))
          c.loop-index.invariant.written (upto_rest rows total i) c.in-Err.ensures.written.0,
      c.in-Err.ensures.written.1,
    )

pub loop-index-preserved : goal.loop-index-preserved
loop-index-preserved g c =
    let rows = c.args.table.now.rows.items in
    let total = c.args.table.now.total in
    let i = c.loop-index.index in
    let within : i < length rows = omega (arith, c.loop-index-test.true, c.row_count-index-end.ensures) in
    let z : suc i ≡ i + 1 = omega arith in
    record {
      written = sent_more (g.W.Sink.taken c.args.writer.now) (g.W.Sink.taken c.loop-index.writer) (g.W.Sink.taken c.make_room.new.writer) c.loop-index.piece c.make_room.new.piece c.push_row.new.piece (upto rows total i)
          (row_line short (i + 1) (shown (slice_index_or rows i any_row)) ++ 10 ∷ []) (upto rows total (i + 1)) c.loop-index.invariant.written c.in_default.ensures.written.0 (c.push_row.ensures any_row) (ap (upto rows total) (sym z) ∙ upto_row rows total i any_row within);
      sound = c.in_default.ensures.written.1;
    }

pub returns-in-Err-make_room : goal.returns-in-Err-make_room
returns-in-Err-make_room g c =
    let rows = c.args.table.now.rows.items in
    let total = c.args.table.now.total in
    let i = c.loop-index.index in (
      sent_begun (g.W.Sink.taken c.args.writer.now) (g.W.Sink.taken c.loop-index.writer) (g.W.Sink.taken c.make_room-2.new.writer) c.loop-index.piece (upto rows total i) (lines_text (drop (suc i) (table_lines short (table_of rows total)))) (table_text short (table_of rows total))
          c.loop-index.invariant.written (upto_rest rows total i) c.in-Err-make_room.ensures.written.0,
      c.in-Err-make_room.ensures.written.1,
    )

pub returns : goal.returns
returns g c =
    let rows = c.args.table.now.rows.items in
    let total = c.args.table.now.total in
    let i = c.loop-index.index in
    let at_end : i ≡ length rows = omega (arith, c.loop-index-test.false, c.loop-index.auto.index-end, c.row_count-index-end.ensures) in
    let line : c.push_total.new.piece ≡ c.make_room-2.new.piece ++ (total_line total ++ 10 ∷ []) = c.push_total.ensures ∙ ap (λ k. c.make_room-2.new.piece ++ (total_line k ++ 10 ∷ [])) c.total.ensures in
    sent_last (g.W.Sink.taken c.args.writer.now) (g.W.Sink.taken c.make_room-2.new.writer) (g.W.Sink.taken c.write_text.new.writer) c.push_total.new.piece (table_text short (table_of rows total)) c.write_text.result (g.W.Sink.failed c.write_text.new.writer)
    (sent_more (g.W.Sink.taken c.args.writer.now) (g.W.Sink.taken c.loop-index.writer) (g.W.Sink.taken c.make_room-2.new.writer) c.loop-index.piece c.make_room-2.new.piece c.push_total.new.piece (upto rows total i) (total_line total ++ 10 ∷ []) (table_text short (table_of rows total))
    c.loop-index.invariant.written c.in_default-make_room.ensures.written.0 line (upto_total rows total i at_end))
    (let e : c.as_bytes.result.now ≡ c.push_total.new.piece = c.as_bytes.ensures in subst (λ w. WritesText w c.write_text.result (g.W.Sink.taken c.make_room-2.new.writer) (g.W.Sink.taken c.write_text.new.writer) (g.W.Sink.failed c.write_text.new.writer)) e c.write_text.ensures)
