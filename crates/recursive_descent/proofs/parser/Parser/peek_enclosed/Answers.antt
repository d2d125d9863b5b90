use Rattle.std.proofs.Common.{sym}
use Rattle.tokens.specs.Scanned.{token_of}
use Rattle.recursive_descent.proofs.reading.RemainingArms.{enclosed_ahead, is_one}
use Rattle.recursive_descent.proofs.parser.Parser.peek_enclosed.Goals as goal

pub returns-in-Arguments : goal.returns-in-Arguments
returns-in-Arguments c = record { linked = enclosed_ahead c.in-Some-subscript_of.found c.args.self.now.cursor (token_of c.in-Some.token) (is_one c.in-Arguments.is) c.in-Some.ensures.some (sym c.in-Some-subscript_of.ensures) }
