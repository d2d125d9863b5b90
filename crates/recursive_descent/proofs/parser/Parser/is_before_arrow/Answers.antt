use Rattle.std.proofs.Common.{sym, ◌∙◌}
use Rattle.std.proofs.lemmas.Bool.{OnTrue_from, OnFalse_from}
use Rattle.tokens.specs.Scanned.{token_of}
use Rattle.token_cursor.proofs.TokensAhead.{not_true}
use Rattle.recursive_descent.proofs.reading.AsyncAhead.{arrow_behind, arrow_apart, arrow_none, second_false, first_false}
use Rattle.recursive_descent.proofs.parser.Parser.is_before_arrow.Goals as goal

pub returns-then-is_punctuator-clause-seen : goal.returns-then-is_punctuator-clause-seen
returns-then-is_punctuator-clause-seen c = OnTrue_from _ _ (λ h.
    arrow_behind c.args.self.now.cursor.text c.args.self.now.cursor.last (token_of c.args.token.now) c.requires (token_of c.in-Some.second) c.in-Some.ensures.some
    (sym c.is_punctuator.ensures.is ∙ c.if-is_punctuator.true) (not_true _ h))

pub returns-then-is_punctuator-clause-missed : goal.returns-then-is_punctuator-clause-missed
returns-then-is_punctuator-clause-missed c = OnFalse_from _ _ (λ h.
    arrow_apart c.args.self.now.cursor.text c.args.self.now.cursor.last (token_of c.args.token.now) c.requires (token_of c.in-Some.second) c.in-Some.ensures.some (second_false _ _ h))

pub returns-else-is_punctuator-clause-missed : goal.returns-else-is_punctuator-clause-missed
returns-else-is_punctuator-clause-missed c = OnFalse_from _ _ (λ h.
    arrow_apart c.args.self.now.cursor.text c.args.self.now.cursor.last (token_of c.args.token.now) c.requires (token_of c.in-Some.second) c.in-Some.ensures.some (first_false _ _ (sym c.is_punctuator.ensures.is ∙ h)))

pub returns-in-None-clause-missed : goal.returns-in-None-clause-missed
returns-in-None-clause-missed c = arrow_none c.args.self.now.cursor.text c.args.self.now.cursor.last (token_of c.args.token.now) c.requires c.in-None.ensures.none
