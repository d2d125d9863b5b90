use Rattle.std.proofs.Common.{ℕ}
use Rattle.tokens.specs.declared.token.TokenClass.TheVariants.{Template}
use Rattle.tokens.specs.Scanned.{IsPartRest, NoPartRest, IsWordAt, NoWordAt}
use Rattle.tokens.proofs.PassedCharacters.{some_gives, none_gives}
use Rattle.tokens.proofs.Parts.{part_word, no_part}
use Rattle.tokens.proofs.template.template_end.Goals as goal

pub returns-then-first-clause-some : goal.returns-then-first-clause-some
returns-then-first-clause-some c =
    some_gives (λ (e : ℕ). IsPartRest c.args.text.now c.in-Some.first.end e) (λ (e : ℕ). IsWordAt Template c.args.text.now c.args.at e) c.part_end.result
    (λ e h. part_word c.args.text.now c.args.at c.in-Some.first.end e c.in-Some.first.c c.in-Some.ensures.some c.if-first.true h) c.part_end.ensures.some

pub returns-then-first-clause-none : goal.returns-then-first-clause-none
returns-then-first-clause-none c =
    none_gives (NoPartRest c.args.text.now c.in-Some.first.end) (NoWordAt Template c.args.text.now c.args.at) c.part_end.result
    (λ h. no_part c.args.text.now c.args.at c.in-Some.first.end c.in-Some.first.c c.in-Some.ensures.some h) c.part_end.ensures.none
