use Rattle.std.proofs.Common.{refl, sym, ◌∙◌, arith}
use Rattle.grammar.proofs.Lengths.{reserved-at, none_reserved}
use Rattle.grammar.proofs.words.is_reserved.Goals as goal

pub returns-in-2 : goal.returns-in-2
returns-in-2 c = c.is_reserved_of_two.ensures ∙ sym (reserved-at c.args.name.now 2 c.in-2.is refl)

pub returns-in-3 : goal.returns-in-3
returns-in-3 c = c.is_reserved_of_three.ensures ∙ sym (reserved-at c.args.name.now 3 c.in-3.is refl)

pub returns-in-4 : goal.returns-in-4
returns-in-4 c = c.is_reserved_of_four.ensures ∙ sym (reserved-at c.args.name.now 4 c.in-4.is refl)

pub returns-in-5 : goal.returns-in-5
returns-in-5 c = c.is_reserved_of_five.ensures ∙ sym (reserved-at c.args.name.now 5 c.in-5.is refl)

pub returns-in-6 : goal.returns-in-6
returns-in-6 c = c.is_reserved_of_six.ensures ∙ sym (reserved-at c.args.name.now 6 c.in-6.is refl)

pub returns-in-7 : goal.returns-in-7
returns-in-7 c = c.is_reserved_of_seven.ensures ∙ sym (reserved-at c.args.name.now 7 c.in-7.is refl)

pub returns-in-8 : goal.returns-in-8
returns-in-8 c = c.is_reserved_of_eight.ensures ∙ sym (reserved-at c.args.name.now 8 c.in-8.is refl)

pub returns-in-9 : goal.returns-in-9
returns-in-9 c = c.is_reserved_of_nine.ensures ∙ sym (reserved-at c.args.name.now 9 c.in-9.is refl)

pub returns-in-10 : goal.returns-in-10
returns-in-10 c = c.is_reserved_of_ten.ensures ∙ sym (reserved-at c.args.name.now 10 c.in-10.is refl)

pub returns-in_default : goal.returns-in_default
returns-in_default c = sym (none_reserved c.args.name.now (λ k l h e. omega arith))
