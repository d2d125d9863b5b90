use Rattle.std.proofs.Common.{Some, true, false, sym, ap, ◌∙◌, subst, inl, inr}
use Rattle.std.specs.Prelude.{codes}
use Rattle.std.proofs.lemmas.Bool.{false≢true}
use Rattle.tokens.specs.Scanned.{token_of}
use Rattle.tokens.specs.declared.token.TokenClass.TheVariants.{Punctuator}
use Rattle.recursive_descent.specs.Follows.{unlinks}
use Rattle.token_cursor.specs.Seen.{ReadsHere, Misses}
use Rattle.recursive_descent.proofs.complete_subscripts.SubscriptsGiven.{not_linked_by}
use Rattle.recursive_descent.proofs.parser.Parser.subscript_start.Goals as goal
use Rattle.recursive_descent.proofs.parser.Parser.subscript_start.Goals.{else-not-optional-via-then-not-optional+else-accept_punctuator, else-not-optional-via-else-not-optional}

pub returns-in-None-clause-failed : goal.returns-in-None-clause-failed
returns-in-None-clause-failed c =
    let by = sym c.subscript_of.ensures ∙ c.in-None.is in
    not_linked_by c.args.self.now.cursor c.else-not-optional.self.cursor c.syntax_error-in-None.result c.syntax_error-in-None.ensures.here
    (elim c.else-not-optional.branch [
      | else-not-optional-via-then-not-optional+else-accept_punctuator w ↦ inr (
        ap (λ s. s.cursor.last) w.self-is ∙ w.if-accept_punctuator.ensures.missed.1 ∙ w.if-not-optional.ensures.missed.1,
        w.if-not-optional.ensures.missed.0,
        subst (λ x. Misses x Punctuator (codes ".") c.args.self.now.cursor.last) c.accept_punctuator-optional.ensures.text (subst (λ x. Misses c.accept_punctuator-optional.new.self.cursor.text Punctuator (codes ".") x) w.if-not-optional.ensures.missed.1 w.if-accept_punctuator.ensures.missed.0),
        inr (token_of c.in-Some.token, c.in-Some.ensures.some, ap (unlinks false) by),
      )
      | else-not-optional-via-else-not-optional w ↦ inl (
        subst (λ x. ReadsHere c.args.self.now.cursor.text Punctuator (codes "?.") c.args.self.now.cursor.last x) (sym (ap (λ s. s.cursor.last) w.self-is)) w.if-not-optional.ensures.accepted,
        inr (token_of c.in-Some.token, c.in-Some.ensures.some, ap (unlinks true) by),
      )
    ])

pub returns-in-Some-Name-clause-failed : goal.returns-in-Some-Name-clause-failed
returns-in-Some-Name-clause-failed c =
    let by = sym c.subscript_of.ensures ∙ c.in-Some-Name.is ∙ ap Some c.in-Some-Name.field-0-is in
    not_linked_by c.args.self.now.cursor c.else-not-optional.self.cursor c.syntax_error-in-Some-Name.result c.syntax_error-in-Some-Name.ensures.here
    (elim c.else-not-optional.branch [
      | else-not-optional-via-then-not-optional+else-accept_punctuator w ↦ inr (
        ap (λ s. s.cursor.last) w.self-is ∙ w.if-accept_punctuator.ensures.missed.1 ∙ w.if-not-optional.ensures.missed.1,
        w.if-not-optional.ensures.missed.0,
        subst (λ x. Misses x Punctuator (codes ".") c.args.self.now.cursor.last) c.accept_punctuator-optional.ensures.text (subst (λ x. Misses c.accept_punctuator-optional.new.self.cursor.text Punctuator (codes ".") x) w.if-not-optional.ensures.missed.1 w.if-accept_punctuator.ensures.missed.0),
        inr (token_of c.in-Some.token, c.in-Some.ensures.some, ap (unlinks false) by),
      )
      | else-not-optional-via-else-not-optional w ↦ absurd (false≢true (sym c.if-not-optional-2.true ∙ w.if-not-optional.false))
    ])
