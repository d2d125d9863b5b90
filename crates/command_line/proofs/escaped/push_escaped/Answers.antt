use Rattle.std.proofs.Common.{◌≡◌, ◌++◌, ◌∙◌, length, drop, flat_map, sym, ap, map-id}
use Rattle.std.specs.Prelude.{encode_utf8_all}
use Rattle.std.specs.Str.{chars}
use Rattle.std.proofs.lemmas.Iterator.{YieldsList-from_chars}
use Rattle.std.proofs.lemmas.Iterator.Consumers.{YieldsList-end, YieldsList-so_far}
use Rattle.std.proofs.lemmas.List.{take-append-drop}
use Rattle.command_line.specs.Shown.{shown, shown_text}
use Rattle.command_line.proofs.SentPieces.{sent_begun, sent_more}
use Rattle.command_line.proofs.ShownMore.{shown_more, shown_rest}
use Rattle.command_line.proofs.escaped.push_escaped.Goals as goal

-- the writer failed, behind the characters so far
pub returns-in-Err : goal.returns-in-Err
returns-in-Err g c =
    let all = chars c.args.text.now in
    let xs = c.loop-c.yielded in
    let rest = drop (length xs) all in
    let so_far = YieldsList-so_far (YieldsList-from_chars c.args.text.now c.utf8.text cc) xs _ c.loop-c.yielded_by in
    let joined : all ≡ xs ++ rest = sym (take-append-drop (length xs) all) ∙ ap (λ ys. ys ++ rest) (sym so_far ∙ map-id xs) in
    let start = c.args.waiting.now in (
      sent_begun (g.W.Sink.taken c.args.writer.now) (g.W.Sink.taken c.loop-c.writer) (g.W.Sink.taken c.make_room.new.writer) c.loop-c.waiting (start ++ encode_utf8_all (flat_map (shown c.args.has_lines) xs))
          (encode_utf8_all (flat_map (shown c.args.has_lines) rest)) (start ++ shown_text c.args.has_lines c.args.text.now)
          c.loop-c.invariant.written (shown_rest c.args.has_lines start all xs rest joined) c.in-Err.ensures.written.0,
      c.in-Err.ensures.written.1,
    )

-- one more character waits
pub loop-c-preserved : goal.loop-c-preserved
loop-c-preserved g c =
    let xs = c.loop-c.yielded in
    let start = c.args.waiting.now in
    record {
      written = sent_more (g.W.Sink.taken c.args.writer.now) (g.W.Sink.taken c.loop-c.writer) (g.W.Sink.taken c.make_room.new.writer) c.loop-c.waiting c.make_room.new.waiting c.push_shown.new.waiting
          (start ++ encode_utf8_all (flat_map (shown c.args.has_lines) xs)) (encode_utf8_all (shown c.args.has_lines c.in-Some.c)) _
          c.loop-c.invariant.written c.in_default.ensures.written.0 c.push_shown.ensures (shown_more c.args.has_lines start xs c.in-Some.c);
      sound = c.in_default.ensures.written.1;
    }

-- all characters were yielded
pub returns : goal.returns
returns g c =
    let end = YieldsList-end (YieldsList-from_chars c.args.text.now c.utf8.text cc) c.loop-c.yielded _ c.loop-c.yielded_by _ _ c.in-None.is c.next.ensures.steps in
    let sent = c.loop-c.invariant.written in
    ((sent.0, sent.1, sent.2 ∙ ap (λ cs. c.args.waiting.now ++ encode_utf8_all (flat_map (shown c.args.has_lines) cs)) (sym (map-id c.loop-c.yielded) ∙ end.0)), c.loop-c.invariant.sound)
