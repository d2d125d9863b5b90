use Rattle.std.proofs.Common.{sym, ◌∙◌}
use Rattle.std.proofs.lemmas.Bool.{OnTrue_from, OnFalse_from}
use Rattle.tokens.specs.Scanned.{token_of}
use Rattle.token_cursor.proofs.TokensAhead.{not_true, not_false}
use Rattle.recursive_descent.proofs.reading.AsyncFunctionAhead.{no_async, no_async_word, async_function, no_function, function_apart, nothing_behind}
use Rattle.recursive_descent.proofs.parser.Parser.sees_async_function.Goals as goal

pub returns-in_default-clause-other : goal.returns-in_default-clause-other
returns-in_default-clause-other c = no_async c.args.self.now.cursor.text c.args.self.now.cursor.last c.in_default.ensures.none

pub returns-then-not-is_name_token-clause-other : goal.returns-then-not-is_name_token-clause-other
returns-then-not-is_name_token-clause-other c =
    no_async_word c.args.self.now.cursor.text c.args.self.now.cursor.last (token_of c.in-Some.token) c.in-Some.ensures.some (sym c.is_name_token.ensures.is ∙ c.if-not-is_name_token.true)

pub returns-then-is_name_token-clause-begins : goal.returns-then-is_name_token-clause-begins
returns-then-is_name_token-clause-begins c = OnTrue_from _ _ (λ h.
    async_function c.args.self.now.cursor.text c.args.self.now.cursor.last (token_of c.in-Some.token) c.in-Some.ensures.some (token_of c.in-Some-peek_behind.second) c.in-Some-peek_behind.ensures.some
    (sym c.is_name_token.ensures.is ∙ c.if-not-is_name_token.false) (sym c.is_name_token-in-Some-peek_behind.ensures.is ∙ c.if-is_name_token.true) (not_true _ h))

pub returns-then-is_name_token-clause-other : goal.returns-then-is_name_token-clause-other
returns-then-is_name_token-clause-other c = OnFalse_from _ _ (λ h.
    function_apart c.args.self.now.cursor.text c.args.self.now.cursor.last (token_of c.in-Some.token) c.in-Some.ensures.some (token_of c.in-Some-peek_behind.second) c.in-Some-peek_behind.ensures.some
    (sym c.is_name_token-in-Some-peek_behind.ensures.is ∙ c.if-is_name_token.true) (not_false _ h))

pub returns-else-is_name_token-clause-other : goal.returns-else-is_name_token-clause-other
returns-else-is_name_token-clause-other c = OnFalse_from _ _ (λ h.
    no_function c.args.self.now.cursor.text c.args.self.now.cursor.last (token_of c.in-Some.token) c.in-Some.ensures.some (token_of c.in-Some-peek_behind.second) c.in-Some-peek_behind.ensures.some
    (sym c.is_name_token-in-Some-peek_behind.ensures.is ∙ h))

pub returns-in-None-clause-other : goal.returns-in-None-clause-other
returns-in-None-clause-other c = nothing_behind c.args.self.now.cursor.text c.args.self.now.cursor.last (token_of c.in-Some.token) c.in-Some.ensures.some c.in-None.ensures.none
