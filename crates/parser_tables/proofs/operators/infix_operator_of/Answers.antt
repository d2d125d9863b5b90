use Rattle.std.proofs.Common.{◌∙◌}
use Rattle.tokens.specs.Scanned.{token_of}
use Rattle.parser_tables.proofs.InfixOperators.{sign_operation, name_operation}
use Rattle.parser_tables.proofs.operators.infix_operator_of.Goals as goal

pub returns-in-Punctuator-clause-coded : goal.returns-in-Punctuator-clause-coded
returns-in-Punctuator-clause-coded c = c.infix_of_punctuator.ensures ∙ sign_operation (token_of c.args.token.now) c.in-Punctuator.is

pub returns-in-IdentifierName-clause-coded : goal.returns-in-IdentifierName-clause-coded
returns-in-IdentifierName-clause-coded c = c.infix_of_word.ensures ∙ name_operation (token_of c.args.token.now) c.in-IdentifierName.is
