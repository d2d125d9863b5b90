use Rattle.std.proofs.Common.{◌≡◌, ◌++◌, ◌∙◌, IfOk, ap, sym, subst, map, string_bytes, append-nil}
use Rattle.std.specs.Option.{option_map}
use Rattle.command_line.proofs.Tips.{no_tip, no_word, tip_there, word_at}
use Rattle.command_line.proofs.mistake.push_tip.Goals as goal

pub returns-in-Some : goal.returns-in-Some
returns-in-Some c =
    let words = map (λ w. w.now) c.args.words.now in
    let there = word_at c.args.words.now 1 c.get.result c.get.ensures.lookup ∙ ap (option_map (λ w. w.now.now)) c.in-Some.is in
    subst (λ tip. IfOk c.push_tip_for.result (λ _. string_bytes c.push_tip_for.new.text ≡ string_bytes c.args.text.now ++ tip))
    (sym (tip_there c.args.kind words c.in-Some.word.now.now c.in-InvalidSubcommand.is there)) c.push_tip_for.ensures

pub returns-in-None : goal.returns-in-None
returns-in-None c =
    let words = map (λ w. w.now) c.args.words.now in
    let none = word_at c.args.words.now 1 c.get.result c.get.ensures.lookup ∙ ap (option_map (λ w. w.now.now)) c.in-None.is in
    sym (ap (λ tip. string_bytes c.args.text.now ++ tip) (no_word c.args.kind words c.in-InvalidSubcommand.is none) ∙ append-nil (string_bytes c.args.text.now))

pub returns-in_default : goal.returns-in_default
returns-in_default c =
    let words = map (λ w. w.now) c.args.words.now in
    sym (ap (λ tip. string_bytes c.args.text.now ++ tip) (no_tip c.args.kind words c.in_default.not-InvalidSubcommand) ∙ append-nil (string_bytes c.args.text.now))
