use Rattle.std.proofs.Common.{◌⊎◌, sym, ◌∙◌, inl, inr}
use Rattle.std.proofs.lemmas.Bool.{OnTrue_from, OnFalse_from, OnFalse_at, true≢false}
use Rattle.tokens.specs.Scanned.{token_of}
use Rattle.tokens.specs.declared.token.Goal.TheVariants.{Div}
use Rattle.token_cursor.specs.CursorState.{CursorState}
use Rattle.token_cursor.specs.Seen.{SeesBy, MissesBy}
use Rattle.token_cursor.proofs.TokensAhead.{seen_by, missed_by, none_by}
use Rattle.parser_tables.specs.StatementStarts.{AsyncFunctionAhead, NoAsyncFunction}
use Rattle.recursive_descent.specs.ModuleItems.{begins_declaration}
use Rattle.recursive_descent.proofs.reading.AsyncFunctionAhead.{no_async}
use Rattle.recursive_descent.proofs.sound_modules.ModuleTests.{declaration_begins, no_declaration}
use Rattle.recursive_descent.proofs.parser.Parser.sees_declaration.Goals as goal
use Rattle.recursive_descent.proofs.parser.Parser.sees_declaration.Goals.{then-is_declaration_word, else-is_declaration_word, then-is_name_token, else-is_name_token}

abbrev Seen : CursorState → Type 0
Seen s = SeesBy s.text Div begins_declaration s.last ⊎ AsyncFunctionAhead s.text s.last

abbrev Missed : CursorState → Type 0
Missed s = MissesBy s.text Div begins_declaration s.last × NoAsyncFunction s.text s.last

pub returns-in_default-clause-missed : goal.returns-in_default-clause-missed
returns-in_default-clause-missed c = (none_by _ begins_declaration Div _ c.in_default.ensures.none, no_async c.args.self.now.cursor.text c.args.self.now.cursor.last c.in_default.ensures.none)

pub returns-then-is_name_token-2-clause-seen : goal.returns-then-is_name_token-2-clause-seen
returns-then-is_name_token-2-clause-seen c = OnTrue_from c.if-is_name_token.value (Seen c.args.self.now.cursor) (λ h.
    inl (seen_by _ begins_declaration Div _ _ c.in-Some.ensures.some (declaration_begins (token_of c.in-Some.token) (elim c.if-is_name_token.branch [
      | then-is_name_token w ↦ elim c.if-is_declaration_word.branch [
        | then-is_declaration_word v ↦ inl (sym c.is_declaration_word.ensures.is ∙ v.if-is_declaration_word.true)
        | else-is_declaration_word v ↦ inr (inl (sym v.is_name_token.ensures.is ∙ sym v.value-is ∙ w.if-is_name_token.true))
      ]
      | else-is_name_token w ↦ inr (inr (sym w.is_name_token-else-is_name_token.ensures.is ∙ sym w.value-is ∙ h))
    ]))))

pub returns-else-is_name_token-2-clause-missed : goal.returns-else-is_name_token-2-clause-missed
returns-else-is_name_token-2-clause-missed c = OnFalse_from c.sees_async_function.result (Missed c.args.self.now.cursor) (λ h. (
  missed_by _ begins_declaration Div _ _ c.in-Some.ensures.some (elim c.if-is_name_token.branch [
    | then-is_name_token w ↦ absurd (true≢false (sym w.if-is_name_token.true ∙ sym w.value-is ∙ c.if-is_name_token-2.false))
    | else-is_name_token w ↦ elim c.if-is_declaration_word.branch [
      | then-is_declaration_word v ↦ absurd (true≢false (sym v.if-is_declaration_word.true ∙ sym v.value-is ∙ w.if-is_name_token.false))
      | else-is_declaration_word v ↦ no_declaration (token_of c.in-Some.token) (sym c.is_declaration_word.ensures.is ∙ v.if-is_declaration_word.false) (sym v.is_name_token.ensures.is ∙ sym v.value-is ∙ w.if-is_name_token.false)
          (sym w.is_name_token-else-is_name_token.ensures.is ∙ sym w.value-is ∙ c.if-is_name_token-2.false)
    ]
  ]),
  OnFalse_at h c.sees_async_function.ensures.other,
))
