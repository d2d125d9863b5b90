use Rattle.tokens.specs.Scanned.{IsWordAt, NoWordAt}
use Rattle.tokens.specs.Lexical.{IdentifierName, PrivateName}
use Rattle.tokens.proofs.PassedCharacters.{some_gives, none_gives}
use Rattle.tokens.proofs.PrivateNames.{private_word, no_private_word, no_name_nothing}
use Rattle.tokens.proofs.name.private_name_end.Goals as goal

pub returns-then-first-ne35-clause-none : goal.returns-then-first-ne35-clause-none
returns-then-first-ne35-clause-none c = λ at p. no_private_word c.args.text.now at c.args.first.end c.args.first.c p (λ e. absurd (c.if-first-ne35.true e))

pub returns-in_default-clause-none : goal.returns-in_default-clause-none
returns-in_default-clause-none c = λ at p. no_private_word c.args.text.now at c.args.first.end c.args.first.c p (λ e. no_name_nothing c.args.text.now c.args.first.end c.in_default.ensures.none)

pub returns-clause-some : goal.returns-clause-some
returns-clause-some c = λ at p.
    some_gives (λ e. IsWordAt IdentifierName c.args.text.now c.args.first.end e) (λ e. IsWordAt PrivateName c.args.text.now at e) c.name_end.result
    (λ e w. private_word c.args.text.now at c.args.first.end e c.args.first.c p c.if-first-ne35.false w) (c.name_end.ensures.some c.args.first.end c.in-Some.ensures.some)

pub returns-clause-none : goal.returns-clause-none
returns-clause-none c = λ at p.
    none_gives (NoWordAt IdentifierName c.args.text.now c.args.first.end) (NoWordAt PrivateName c.args.text.now at) c.name_end.result
    (λ n. no_private_word c.args.text.now at c.args.first.end c.args.first.c p (λ e. n)) (c.name_end.ensures.none c.args.first.end c.in-Some.ensures.some)
