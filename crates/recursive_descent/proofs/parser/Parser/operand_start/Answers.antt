use Rattle.std.proofs.Common.{◌≡◌, refl}
use Rattle.tokens.specs.Scanned.{token_of}
use Rattle.tokens.specs.declared.token.Goal.TheVariants.{RegExp}
use Rattle.language.specs.Token.{Token}
use Rattle.token_cursor.proofs.TokensAhead.{of_ahead, none_ahead}
use Rattle.recursive_descent.proofs.parser.Parser.operand_start.Goals as goal

pub returns-in-Some : goal.returns-in-Some
returns-in-Some c = of_ahead c.args.self.now.cursor.text (λ (t : Token). c.in-Some.token.start ≡ t.start) RegExp c.args.self.now.cursor.last (token_of c.in-Some.token) c.in-Some.ensures.some refl

pub returns-in-None : goal.returns-in-None
returns-in-None c t m r = absurd (none_ahead c.args.self.now.cursor.text RegExp c.args.self.now.cursor.last c.in-None.ensures.none t m r)
