use Rattle.std.proofs.Common.{sym, ◌∙◌}
use Rattle.std.proofs.lemmas.Bool.{OnTrue_at, OnFalse_at}
use Rattle.tokens.specs.Scanned.{token_of}
use Rattle.tokens.specs.declared.token.Goal.TheVariants.{Div}
use Rattle.token_cursor.proofs.TokensAhead.{missed_by, none_by}
use Rattle.recursive_descent.specs.ModuleItems.{begins_default}
use Rattle.recursive_descent.proofs.reading.AsyncFunctionAhead.{async_same, no_async}
use Rattle.recursive_descent.proofs.sound_modules.ModuleTests.{no_default, name_text}
use Rattle.recursive_descent.proofs.parser.Parser.default_declaration.Goals as goal

pub returns-in_default-clause-other : goal.returns-in_default-clause-other
returns-in_default-clause-other c = (none_by _ begins_default Div _ c.in_default.ensures.none, no_async c.args.self.now.cursor.text c.args.self.now.cursor.last c.in_default.ensures.none)

pub returns-in-true-clause-begun : goal.returns-in-true-clause-begun
returns-in-true-clause-begun c =
    let begun = OnTrue_at c.in-true.is c.sees_async_function.ensures.begins in
    let same = async_same c.args.self.now.cursor.text Div c.args.self.now.cursor.last (token_of c.in-Some.token) c.in-Some.ensures.some begun in
    (same.0, name_text (token_of c.in-Some.token) same.0 same.1, begun)

pub returns-in-false-clause-other : goal.returns-in-false-clause-other
returns-in-false-clause-other c = (
  missed_by _ begins_default Div _ _ c.in-Some.ensures.some (no_default (token_of c.in-Some.token) (sym c.is_name_token.ensures.is ∙ c.if-is_name_token.false) (sym c.is_name_token-2.ensures.is ∙ c.if-is_name_token-2.false)),
  OnFalse_at c.in-false.is c.sees_async_function.ensures.other,
)
