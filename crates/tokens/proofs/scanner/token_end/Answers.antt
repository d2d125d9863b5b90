use Rattle.std.proofs.Common.{sym, subst}
use Rattle.std.specs.Prelude.{IfSome, IfNone}
use Rattle.tokens.specs.Scanned.{IsWordAt, NoWordAt}
use Rattle.tokens.proofs.PrivateNames.{no_keyword}
use Rattle.tokens.proofs.scanner.token_end.Goals as goal

pub returns-in-IdentifierName-clause-some : goal.returns-in-IdentifierName-clause-some
returns-in-IdentifierName-clause-some c =
    subst (λ k. IfSome c.name_end.result (λ e. IsWordAt k c.args.text.now c.args.at e)) (sym c.in-IdentifierName.is) (c.name_end.ensures.some c.args.at c.requires.first)

pub returns-in-IdentifierName-clause-none : goal.returns-in-IdentifierName-clause-none
returns-in-IdentifierName-clause-none c =
    subst (λ k. IfNone c.name_end.result (NoWordAt k c.args.text.now c.args.at)) (sym c.in-IdentifierName.is) (c.name_end.ensures.none c.args.at c.requires.first)

pub returns-in-Punctuator-clause-some : goal.returns-in-Punctuator-clause-some
returns-in-Punctuator-clause-some c =
    subst (λ k. IfSome c.punctuator_end.result (λ e. IsWordAt k c.args.text.now c.args.at e)) (sym c.in-Punctuator.is) (c.punctuator_end.ensures.some c.args.at c.requires.first)

pub returns-in-Punctuator-clause-none : goal.returns-in-Punctuator-clause-none
returns-in-Punctuator-clause-none c =
    subst (λ k. IfNone c.punctuator_end.result (NoWordAt k c.args.text.now c.args.at)) (sym c.in-Punctuator.is) (c.punctuator_end.ensures.none c.args.at c.requires.first)

pub returns-in-PrivateName-clause-some : goal.returns-in-PrivateName-clause-some
returns-in-PrivateName-clause-some c =
    subst (λ k. IfSome c.private_name_end.result (λ e. IsWordAt k c.args.text.now c.args.at e)) (sym c.in-PrivateName.is) (c.private_name_end.ensures.some c.args.at c.requires.first)

pub returns-in-PrivateName-clause-none : goal.returns-in-PrivateName-clause-none
returns-in-PrivateName-clause-none c =
    subst (λ k. IfNone c.private_name_end.result (NoWordAt k c.args.text.now c.args.at)) (sym c.in-PrivateName.is) (c.private_name_end.ensures.none c.args.at c.requires.first)

pub returns-in-Keyword-clause-none : goal.returns-in-Keyword-clause-none
returns-in-Keyword-clause-none c = subst (λ k. NoWordAt k c.args.text.now c.args.at) (sym c.in-Keyword.is) (no_keyword c.args.text.now c.args.at)
