use Rattle.std.proofs.Common.{◌≡◌, encode_utf8_all, false, flat_map, sym, ap, ◌∙◌, ◌++◌, [], map-id}
use Rattle.std.proofs.lemmas.Iterator.{YieldsList-from_chars}
use Rattle.std.proofs.lemmas.Iterator.Consumers.{YieldsList-end}
use Rattle.command_line.specs.Shown.{shown}
use Rattle.command_line.proofs.ShownMore.{shown_more}
use Rattle.command_line.proofs.shown.shown_name.Goals as goal

-- one character more
pub loop-c-preserved : goal.loop-c-preserved
loop-c-preserved c =
    let more = encode_utf8_all (shown false c.in-Some.c) in
    let piece : c.as_bytes.result.now ≡ more = c.as_bytes.ensures ∙ c.push_shown.ensures ∙ ap (λ w. w ++ more) c.clear.ensures in
    c.in_ok-extend_from_slice.ensures.items ∙ ap (λ b. c.loop-c.bytes.items ++ b) piece ∙ ap (λ w. w ++ more) c.loop-c.invariant ∙ sym (shown_more false [] c.loop-c.yielded c.in-Some.c)

-- all characters were yielded
pub returns : goal.returns
returns c =
    let end = YieldsList-end (YieldsList-from_chars c.args.name.now c.utf8.name cc) c.loop-c.yielded _ c.loop-c.yielded_by _ _ c.in-None.is c.next.ensures.steps in
    c.loop-c.invariant ∙ ap (λ cs. encode_utf8_all (flat_map (shown false) cs)) (sym (map-id c.loop-c.yielded) ∙ end.0)
