use Rattle.std.proofs.Common.{◌++◌, ◌∷◌, [], ◌∙◌, ap, sym, string_bytes, codes, cond}
use Rattle.std.specs.Char.{encode_utf8}
use Rattle.command_line.specs.Tip.{tip_for, tip_line}
use Rattle.command_line.proofs.Tips.{pushed, three}
use Rattle.command_line.proofs.mistake.push_tip_for.Goals as goal

-- the line that says what to type
pub returns : goal.returns
unfolding encode_utf8
returns c =
    let start = string_bytes c.args.text.now in
    let word = c.args.word.now in
    pushed c.push.result (string_bytes c.push.new.self) (string_bytes c.push_str-2.new.self) (10 ∷ []) (start ++ tip_for word) c.push.ensures.bytes
    (three start (string_bytes c.push_str.new.self) (string_bytes c.push_str-2.new.self) (codes "\n  tip: jslint check ") word (10 ∷ []) c.in_ok-push_str.ensures.bytes c.in_ok-push_str-2.ensures.bytes
    ∙ ap (λ b. start ++ cond b (tip_line word) []) (sym c.if-not-looks_like_file.false ∙ c.looks_like_file.ensures))
