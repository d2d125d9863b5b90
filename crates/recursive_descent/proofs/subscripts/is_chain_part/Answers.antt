use Rattle.std.proofs.Common.{sym, ◌∙◌}
use Rattle.tokens.specs.Scanned.{token_of}
use Rattle.language.specs.Continuations.{operation}
use Rattle.language.specs.Token.{as_read}
use Rattle.parser_tables.proofs.InfixOperators.{links_same}
use Rattle.recursive_descent.proofs.subscripts.is_chain_part.Goals as goal

pub returns-in-Some : goal.returns-in-Some
returns-in-Some c = c.continues_chain.ensures ∙ sym (links_same c.in-Some.operator (operation (as_read (token_of c.args.token.now))) _ (sym c.in-Some.ensures.coded))
