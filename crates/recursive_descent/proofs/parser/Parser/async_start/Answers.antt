use Rattle.std.proofs.Common.{sym, ap, ◌∙◌}
use Rattle.std.proofs.lemmas.Bool.{false≢true, OnTrue_at, OnFalse_at}
use Rattle.tokens.specs.Scanned.{token_of}
use Rattle.parser_tables.specs.ExpressionStarts.{takes_function_or_class}
use Rattle.recursive_descent.proofs.reading.AsyncAhead.{function_stands, nothing_begun, broken_begun, function_begun, parentheses_begun, tight_begun, name_begun, no_parameter, no_arrow_there, parameter_begun}
use Rattle.recursive_descent.proofs.parser.Parser.async_start.Goals.{in-Statement, in_default-matches, else-is_name_token-via-then-is_name_token+else-not-matches, else-is_name_token-via-else-is_name_token, then-is_identifier, else-is_identifier}
use Rattle.recursive_descent.proofs.parser.Parser.async_start.Goals as goal

pub returns-in_default : goal.returns-in_default
returns-in_default c = nothing_begun c.args.self.now.cursor.text c.args.position c.args.self.now.cursor.last c.in_default.ensures.none

pub returns-then-token : goal.returns-then-token
returns-then-token c = broken_begun c.args.self.now.cursor.text c.args.position c.args.self.now.cursor.last (token_of c.in-Some.token) c.in-Some.ensures.some c.if-token.true

pub returns-then-not-matches : goal.returns-then-not-matches
returns-then-not-matches c =
    function_begun c.args.self.now.cursor.text c.args.position c.args.self.now.cursor.last (token_of c.in-Some.token) c.in-Some.ensures.some c.if-token.false (sym c.is_name_token.ensures.is ∙ c.if-is_name_token.true)
    (function_stands c.args.position.start (λ is. elim c.match-matches.branch [
      | in-Statement w ↦ false≢true (sym c.if-not-matches.true ∙ w.matches-is)
      | in_default-matches w ↦ w.in_default-matches.not-Statement is
    ]))

pub returns-then-not-accepts_rank : goal.returns-then-not-accepts_rank
returns-then-not-accepts_rank c =
    tight_begun c.args.self.now.cursor.text c.args.position c.args.self.now.cursor.last (token_of c.in-Some.token) c.in-Some.ensures.some
    (λ word. elim c.else-is_name_token.branch [
      | else-is_name_token-via-then-is_name_token+else-not-matches w ↦ elim w.match-matches.branch [
        | in-Statement v ↦ ap takes_function_or_class v.in-Statement.is
        | in_default-matches v ↦ absurd (false≢true (sym v.matches-is ∙ w.if-not-matches.false))
      ]
      | else-is_name_token-via-else-is_name_token w ↦ absurd (false≢true (sym w.if-is_name_token.false ∙ c.is_name_token.ensures.is ∙ word))
    ]) (sym c.accepts_rank.ensures ∙ c.if-not-accepts_rank.true)

pub returns-then-is_punctuator : goal.returns-then-is_punctuator
returns-then-is_punctuator c =
    parentheses_begun c.args.self.now.cursor.text c.args.position c.args.self.now.cursor.last (token_of c.in-Some.token) c.in-Some.ensures.some c.if-token.false (sym c.is_punctuator.ensures.is ∙ c.if-is_punctuator.true)
    (sym c.accepts_rank.ensures ∙ c.if-not-accepts_rank.false)

pub returns-in-true : goal.returns-in-true
returns-in-true c = elim c.if-is_identifier.branch [
  | then-is_identifier w ↦
      let arrow = OnTrue_at (sym w.value-is ∙ c.in-true.is) w.is_before_arrow.ensures.seen in
      parameter_begun c.args.self.now.cursor.text c.args.position c.args.self.now.cursor.last (token_of c.in-Some.token) c.in-Some.ensures.some c.if-token.false (sym c.is_identifier.ensures.is ∙ w.if-is_identifier.true) arrow.2 arrow.3 arrow.4
      (sym c.accepts_rank.ensures ∙ c.if-not-accepts_rank.false)
  | else-is_identifier w ↦ absurd (false≢true (sym w.if-is_identifier.false ∙ sym w.value-is ∙ c.in-true.is))
]

pub returns-in-false : goal.returns-in-false
returns-in-false c =
    name_begun c.args.self.now.cursor.text c.args.position c.args.self.now.cursor.last (token_of c.in-Some.token) c.in-Some.ensures.some
    (λ word. elim c.else-is_name_token.branch [
      | else-is_name_token-via-then-is_name_token+else-not-matches w ↦ elim w.match-matches.branch [
        | in-Statement v ↦ ap takes_function_or_class v.in-Statement.is
        | in_default-matches v ↦ absurd (false≢true (sym v.matches-is ∙ w.if-not-matches.false))
      ]
      | else-is_name_token-via-else-is_name_token w ↦ absurd (false≢true (sym w.if-is_name_token.false ∙ c.is_name_token.ensures.is ∙ word))
    ]) (sym c.is_punctuator.ensures.is ∙ c.if-is_punctuator.false)
    (elim c.if-is_identifier.branch [
      | then-is_identifier w ↦ no_arrow_there c.args.self.now.cursor.text c.args.position c.args.self.now.cursor.last (token_of c.in-Some.token) c.in-Some.ensures.some (OnFalse_at (sym w.value-is ∙ c.in-false.is) w.is_before_arrow.ensures.missed)
      | else-is_identifier w ↦ no_parameter c.args.self.now.cursor.text c.args.position c.args.self.now.cursor.last (token_of c.in-Some.token) c.in-Some.ensures.some (sym c.is_identifier.ensures.is ∙ w.if-is_identifier.false)
    ])
