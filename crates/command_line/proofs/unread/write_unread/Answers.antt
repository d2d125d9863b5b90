use Rattle.std.proofs.Common.{◌≡◌, ◌++◌, ◌∷◌, [], ◌∙◌, ap, sym, subst, append_assoc}
use Rattle.source_text.specs.Writing.{WritesText}
use Rattle.command_line.specs.Shown.{escaped_name}
use Rattle.command_line.specs.Unread.{failure_words, unread_line, unread_words}
use Rattle.command_line.proofs.SentPieces.{longer, sent_begun, sent_last, sent_more}
use Rattle.command_line.proofs.unread.write_unread.Goals as goal

-- the writer failed before the end of the name
pub returns-in-Err : goal.returns-in-Err
returns-in-Err g c =
    let start : c.push_text.new.self ≡ unread_words = c.push_text.ensures ∙ ap (λ w. w ++ unread_words) c.new-waiting.ensures in
    let name = escaped_name c.args.name.now in
    let end = failure_words c.args.failure ++ 10 ∷ [] in (
      longer (g.W.Sink.taken c.args.errors.now) (g.W.Sink.taken c.push_escaped.new.writer) (c.push_text.new.self ++ name) end (unread_line c.args.name.now c.args.failure)
          (ap (λ w. w ++ name ++ end) (sym start)) c.in-Err.ensures.0,
      c.in-Err.ensures.1,
    )

-- the writer failed behind the name
pub returns-in-Err-make_room : goal.returns-in-Err-make_room
returns-in-Err-make_room g c =
    let start : c.push_text.new.self ≡ unread_words = c.push_text.ensures ∙ ap (λ w. w ++ unread_words) c.new-waiting.ensures in
    let name = escaped_name c.args.name.now in
    let end = failure_words c.args.failure ++ 10 ∷ [] in (
      sent_begun (g.W.Sink.taken c.args.errors.now) (g.W.Sink.taken c.push_escaped.new.writer) (g.W.Sink.taken c.make_room.new.writer) c.push_escaped.new.waiting (c.push_text.new.self ++ name) end (unread_line c.args.name.now c.args.failure)
          c.in_default.ensures.0 (ap (λ w. w ++ name ++ end) (sym start)) c.in-Err-make_room.ensures.written.0,
      c.in-Err-make_room.ensures.written.1,
    )

-- what waited last was written, or a beginning of it
pub returns : goal.returns
returns g c =
    let start : c.push_text.new.self ≡ unread_words = c.push_text.ensures ∙ ap (λ w. w ++ unread_words) c.new-waiting.ensures in
    let name = escaped_name c.args.name.now in
    let end = failure_words c.args.failure ++ 10 ∷ [] in
    let left = c.make_room.new.waiting in
    let filled : c.push.new.self ≡ left ++ end =
    c.push.ensures ∙ ap (λ w. w ++ 10 ∷ []) (c.push_text-2.ensures ∙ ap (λ w. left ++ w) c.failure_words.ensures.words) ∙ append_assoc left (failure_words c.args.failure) (10 ∷ []) in
    let sent = sent_more (g.W.Sink.taken c.args.errors.now) (g.W.Sink.taken c.push_escaped.new.writer) (g.W.Sink.taken c.make_room.new.writer) c.push_escaped.new.waiting left c.push.new.self (c.push_text.new.self ++ name) end (unread_line c.args.name.now c.args.failure)
    c.in_default.ensures.0 c.in_default-make_room.ensures.written.0 filled (ap (λ w. w ++ name ++ end) (sym start)) in
    sent_last (g.W.Sink.taken c.args.errors.now) (g.W.Sink.taken c.make_room.new.writer) (g.W.Sink.taken c.write_text.new.writer) c.push.new.self (unread_line c.args.name.now c.args.failure) c.write_text.result (g.W.Sink.failed c.write_text.new.writer)
    sent
    (subst (λ w. WritesText w c.write_text.result (g.W.Sink.taken c.make_room.new.writer) (g.W.Sink.taken c.write_text.new.writer) (g.W.Sink.failed c.write_text.new.writer)) c.as_bytes.ensures c.write_text.ensures)
