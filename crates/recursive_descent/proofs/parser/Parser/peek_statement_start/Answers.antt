use Rattle.std.proofs.Common.{◌≡◌, inl, inr, refl, sym, ◌∙◌}
use Rattle.tokens.specs.declared.token.Goal.TheVariants.{RegExp}
use Rattle.token_cursor.proofs.TokensAhead.{none_ahead}
use Rattle.std.proofs.lemmas.Bool.{OnTrue_at, OnFalse_at, true≢false}
use Rattle.tokens.specs.Scanned.{token_of}
use Rattle.tokens.specs.declared.token.TokenClass.TheVariants.{IdentifierName, End}
use Rattle.recursive_descent.proofs.reading.AsyncFunctionAhead.{async_same, async_coded}
use Rattle.recursive_descent.proofs.parser.Parser.peek_statement_start.Goals as goal
use Rattle.recursive_descent.proofs.parser.Parser.peek_statement_start.Goals.{in-Expression, in_default-matches, else-matches-via-then-matches+else-begins_async_function, else-matches-via-else-matches}

pub returns-in_default-clause-none : goal.returns-in_default-clause-none
returns-in_default-clause-none c = inr (λ t m r. none_ahead _ RegExp _ c.in_default.ensures.none t m r)

pub returns-then-high-eq0-clause-none : goal.returns-then-high-eq0-clause-none
returns-then-high-eq0-clause-none c = inl c.if-high-eq0.true

pub returns-in_default-clause-failed : goal.returns-in_default-clause-failed
returns-in_default-clause-failed c = inl (λ t m r. none_ahead _ RegExp _ c.in_default.ensures.none t m r)

pub returns-then-high-eq0-clause-failed : goal.returns-then-high-eq0-clause-failed
returns-then-high-eq0-clause-failed c = inr (refl, c.if-high-eq0.true)

pub returns-then-begins_async_function-clause-real : goal.returns-then-begins_async_function-clause-real
returns-then-begins_async_function-clause-real c ended =
    let begun = OnTrue_at c.if-begins_async_function.true c.begins_async_function.ensures.begins in
    let class : IdentifierName ≡ End = sym (async_same c.args.self.now.cursor.text RegExp c.args.self.now.cursor.last (token_of c.in-Some.token) c.in-Some.ensures.some begun.2).0 ∙ ended in
    cc

pub returns-clause-coded : goal.returns-clause-coded
returns-clause-coded c =
    let by_token = c.statement_start_of-beginning.ensures.coded in
    elim c.else-matches.branch [
      | else-matches-via-then-matches+else-begins_async_function w ↦ inr (by_token, OnFalse_at w.if-begins_async_function.false w.begins_async_function.ensures.other)
      | else-matches-via-else-matches w ↦ inr (
        by_token,
        λ later item d. elim c.match-matches.branch [
          | in-Expression v ↦ absurd (true≢false (sym v.matches-is ∙ w.if-matches.false))
          | in_default-matches v ↦ absurd (v.in_default-matches.not-Expression (by_token ∙ async_coded c.args.self.now.cursor.text RegExp c.args.self.now.cursor.last (token_of c.in-Some.token) c.args.context.is_item c.args.context.returns c.in-Some.ensures.some d))
        ],
      )
    ]
