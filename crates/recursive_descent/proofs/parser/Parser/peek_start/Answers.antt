use Rattle.std.proofs.Common.{◌≡◌, Some, ap, sym, ◌∙◌, inl, inr}
use Rattle.std.proofs.lemmas.Bool.{OnTrue_at, OnFalse_at, true≢false}
use Rattle.tokens.specs.Scanned.{token_of}
use Rattle.language.specs.Token.{as_read}
use Rattle.parser_tables.specs.ExpressionStarts.{coded_in}
use Rattle.parser_tables.proofs.StartsByClass.{stands_same, meta_coded, nothing_coded, nothing_stands, nothing_read}
use Rattle.recursive_descent.proofs.parser.Parser.peek_start.Goals as goal
use Rattle.recursive_descent.proofs.parser.Parser.peek_start.Goals.{then-may_start, else-may_start}

some_same : {X : Type 0} {x y : X} → Some x ≡ Some y → x ≡ y
some_same h = cc

pub returns-in_default-clause-none : goal.returns-in_default-clause-none
returns-in_default-clause-none c = nothing_read _ c.args.position _ c.in_default.ensures.none

pub returns-in_default-expression_start_of-clause-none : goal.returns-in_default-expression_start_of-clause-none
returns-in_default-expression_start_of-clause-none c = nothing_coded _ c.args.position _ _ c.in-Some.ensures.some (ap (λ l. coded_in l (as_read (token_of c.in-Some.token))) (sym c.language.ensures) ∙ sym c.in_default-expression_start_of.ensures.coded)

pub returns-in-true-clause-coded : goal.returns-in-true-clause-coded
returns-in-true-clause-coded c = ap (λ l. coded_in l (as_read (token_of c.in-Some.token))) (sym c.language.ensures) ∙ sym c.in-Some-expression_start_of.ensures.coded

pub returns-in-true-clause-stands : goal.returns-in-true-clause-stands
returns-in-true-clause-stands c =
    let t = as_read (token_of c.in-Some.token) in
    let coded = ap (λ l. coded_in l t) (sym c.language.ensures) ∙ sym c.in-Some-expression_start_of.ensures.coded in
    elim c.if-may_start.branch [
      | then-may_start w ↦ inl (stands_same c.args.self.now.cursor.text.language c.args.position t _ coded (sym c.may_start.ensures ∙ w.if-may_start.true))
      | else-may_start w ↦
          let meta = OnTrue_at (sym w.value-is ∙ c.in-true.is) w.begins_import_meta.ensures.seen in
          inr (some_same (sym coded ∙ meta_coded c.args.self.now.cursor.text c.args.self.now.cursor.last (token_of c.in-Some.token) c.in-Some.ensures.some meta.1), meta.0, meta.1)
    ]

pub returns-in-false-clause-none : goal.returns-in-false-clause-none
returns-in-false-clause-none c =
    let t = as_read (token_of c.in-Some.token) in
    let coded = ap (λ l. coded_in l t) (sym c.language.ensures) ∙ sym c.in-Some-expression_start_of.ensures.coded in
    elim c.if-may_start.branch [
      | then-may_start w ↦ absurd (true≢false (sym w.if-may_start.true ∙ sym w.value-is ∙ c.in-false.is))
      | else-may_start w ↦ nothing_stands c.args.self.now.cursor.text c.args.position c.args.self.now.cursor.last (token_of c.in-Some.token) _ c.in-Some.ensures.some coded (sym c.may_start.ensures ∙ w.if-may_start.false) (λ is. OnFalse_at (sym w.value-is ∙ c.in-false.is) w.begins_import_meta.ensures.missed)
    ]
