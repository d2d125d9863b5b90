use Rattle.std.proofs.Common.{◌≡◌, length, [], ◌∷◌, sym, ap, ◌∙◌, arith}
use Rattle.language.specs.Vocabulary.{operator_among}
use Rattle.grammar.specs.Infix.{coded_operator, short_operators}
use Rattle.grammar.proofs.InfixRows.{short_made, long_made, of_byte}
use Rattle.grammar.proofs.infix.infix_of_punctuator.Goals as goal

pub returns-in-1 : goal.returns-in-1
returns-in-1 c =
    let one : length c.args.text.now ≡ 1 = omega arith in
    c.infix_of_one.ensures
    ∙ ap (λ b. coded_operator (operator_among (b ∷ []) short_operators) (b ∷ [])) c.first_byte.ensures
    ∙ of_byte c.args.text.now one
    ∙ ap (λ o. coded_operator o c.args.text.now) (sym (short_made c.args.text.now one))

pub returns-in_default : goal.returns-in_default
returns-in_default c =
    let more : length c.args.text.now ≡ 1 → ⊥ = λ h. omega arith in
    c.infix_of_more.ensures ∙ ap (λ o. coded_operator o c.args.text.now) (sym (long_made c.args.text.now more))
