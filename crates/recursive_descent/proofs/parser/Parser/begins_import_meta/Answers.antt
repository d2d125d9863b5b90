use Rattle.std.proofs.Common.{◌≡◌, true, sym, ◌∙◌}
use Rattle.std.proofs.lemmas.Bool.{OnTrue_from, OnFalse_from, true≢false}
use Rattle.tokens.specs.Scanned.{token_of}
use Rattle.recursive_descent.proofs.reading.ImportMetaAhead.{no_import, meta_ahead, no_dot, nothing_behind}
use Rattle.token_cursor.specs.CursorState.{CursorState}
use Rattle.language.specs.Languages.{is_of_2022}
use Rattle.parser_tables.specs.ExpressionStarts.{MetaAhead}
use Rattle.recursive_descent.proofs.parser.Parser.begins_import_meta.Goals as goal
use Rattle.recursive_descent.proofs.parser.Parser.begins_import_meta.Goals.{then-not-is_name_token-via-then-not-is_name_token, then-not-is_name_token-via-else-not-is_name_token+then-not-is_of_2022}

abbrev Meta : CursorState → Type 0
Meta s = (is_of_2022 s.text.language ≡ true) × MetaAhead s.text s.last

abbrev NoMeta : CursorState → Type 0
NoMeta s = is_of_2022 s.text.language ≡ true → MetaAhead s.text s.last → ⊥

pub returns-in-Some-clause-seen : goal.returns-in-Some-clause-seen
returns-in-Some-clause-seen c = OnTrue_from _ (Meta c.args.self.now.cursor) (λ h. (
  sym c.is_of_2022.ensures ∙ c.if-not-is_of_2022.false,
  meta_ahead c.args.self.now.cursor.text c.args.self.now.cursor.last (token_of c.args.token.now) c.requires (token_of c.in-Some.second) c.in-Some.ensures.some (sym c.is_name_token.ensures.is ∙ c.if-not-is_name_token.false) (sym c.is_punctuator.ensures.is ∙ h),
))

pub returns-in-Some-clause-missed : goal.returns-in-Some-clause-missed
returns-in-Some-clause-missed c = OnFalse_from _ (NoMeta c.args.self.now.cursor) (λ h later meta.
    no_dot c.args.self.now.cursor.text c.args.self.now.cursor.last (token_of c.args.token.now) c.requires (token_of c.in-Some.second) c.in-Some.ensures.some (sym c.is_punctuator.ensures.is ∙ h) meta)

pub returns-then-not-is_name_token-clause-missed : goal.returns-then-not-is_name_token-clause-missed
returns-then-not-is_name_token-clause-missed c later meta = elim c.then-not-is_name_token.branch [
  | then-not-is_name_token-via-then-not-is_name_token w ↦ no_import c.args.self.now.cursor.text c.args.self.now.cursor.last (token_of c.args.token.now) c.requires (sym c.is_name_token.ensures.is ∙ w.if-not-is_name_token.true) meta
  | then-not-is_name_token-via-else-not-is_name_token+then-not-is_of_2022 w ↦ absurd (true≢false (sym later ∙ sym w.is_of_2022.ensures ∙ w.if-not-is_of_2022.true))
]

pub returns-in-None-clause-missed : goal.returns-in-None-clause-missed
returns-in-None-clause-missed c later meta = nothing_behind c.args.self.now.cursor.text c.args.self.now.cursor.last (token_of c.args.token.now) c.requires c.in-None.ensures.none meta
