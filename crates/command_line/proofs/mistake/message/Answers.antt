use Rattle.std.proofs.Common.{◌∙◌, ap, map, string_bytes, sym}
use Rattle.std.proofs.lemmas.Simd.{map-map}
use Rattle.command_line.specs.Shown.{on_one_line}
use Rattle.command_line.proofs.mistake.message.Goals as goal

-- the words were put on one line each
pub refusal_text-requires : goal.refusal_text-requires
refusal_text-requires c =
    let words = map (λ w. w.now) c.args.words.now in
    (words, ap (map (λ s. string_bytes s)) c.deref.ensures.value ∙ c.in_ok-lines.ensures ∙ sym (map-map on_one_line (λ w. w.now) c.args.words.now))
