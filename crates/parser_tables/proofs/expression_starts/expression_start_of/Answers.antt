use Rattle.std.proofs.Common.{◌∙◌}
use Rattle.tokens.specs.declared.token.TokenClass.TheVariants.{IdentifierName, Punctuator}
use Rattle.tokens.specs.Scanned.{token_of}
use Rattle.parser_tables.proofs.StartsByClass.{by_class, marks_same}
use Rattle.parser_tables.proofs.expression_starts.expression_start_of.Goals as goal

pub returns-in-IdentifierName-clause-coded : goal.returns-in-IdentifierName-clause-coded
returns-in-IdentifierName-clause-coded c = c.start_of_word.ensures.coded ∙ by_class c.args.language (token_of c.args.token.now) IdentifierName c.in-IdentifierName.is

pub returns-in-Punctuator-clause-coded : goal.returns-in-Punctuator-clause-coded
returns-in-Punctuator-clause-coded c =
    c.start_of_punctuator.ensures.coded ∙ marks_same c.args.language c.args.token.now.text.now ∙ by_class c.args.language (token_of c.args.token.now) Punctuator c.in-Punctuator.is
