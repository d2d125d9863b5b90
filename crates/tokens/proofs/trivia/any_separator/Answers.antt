use Rattle.std.proofs.Common.{◌≡◌, Bool, true, ◌||◌, [], ◌∷◌, IsTrue, sym, subst, arith}
use Rattle.std.proofs.lemmas.Bool.Decides.{nat_tests}
use Rattle.tokens.specs.Scanned.{Passed, IsCommentRest, NoCommentRest, IsSeparator, IsSolid}
use Rattle.tokens.specs.declared.trivia.Trivia.{Trivia}
use Rattle.tokens.specs.Reading.{behind}
use Rattle.tokens.proofs.PassedCharacters.{some_gives, none_gives}
use Rattle.tokens.proofs.TriviaSteps.{comment_separator, solid_slash, blank_separator}
use Rattle.tokens.proofs.trivia.any_separator.Goals as goal

pub returns-then-step-eq47-clause-some : goal.returns-then-step-eq47-clause-some
returns-then-step-eq47-clause-some c =
    let p = subst (λ x. Passed c.args.text.now c.args.at c.in-Some.step.end (x ∷ [])) c.if-step-eq47.true c.in-Some.ensures.some in
    some_gives (λ (g : Trivia). IsCommentRest c.args.text.now c.in-Some.step.end g.end g.has_line_break) (λ (g : Trivia). IsSeparator c.args.text.now c.args.at g.end g.has_line_break) c.comment.result
    (λ g h. comment_separator c.args.text.now c.args.at c.in-Some.step.end g.end g.has_line_break p h) c.comment.ensures.some

pub returns-then-step-eq47-clause-none : goal.returns-then-step-eq47-clause-none
returns-then-step-eq47-clause-none c =
    let p = subst (λ x. Passed c.args.text.now c.args.at c.in-Some.step.end (x ∷ [])) c.if-step-eq47.true c.in-Some.ensures.some in
    none_gives (NoCommentRest c.args.text.now c.in-Some.step.end) (IsSolid (behind c.args.text.now c.args.at)) c.comment.result
    (λ h. solid_slash c.args.text.now c.args.at c.in-Some.step.end p h) c.comment.ensures.none

pub returns-then-has_line_break-is_space-clause-some : goal.returns-then-has_line_break-is_space-clause-some
returns-then-has_line_break-is_space-clause-some c =
    let t = either c.is_line_terminator-has_line_break.result c.is_space.result _ _ c.if-has_line_break-is_space.true c.is_line_terminator-has_line_break.ensures c.is_space.ensures in
    subst (λ b. IsSeparator c.args.text.now c.args.at c.in-Some.step.end b) (sym c.is_line_terminator-has_line_break.ensures)
    (blank_separator c.args.text.now c.args.at c.in-Some.step.end c.in-Some.step.c c.in-Some.ensures.some t) where
      either : (a b d e : Bool) → (a || b) ≡ true → a ≡ d → b ≡ e → IsTrue (e || d)
      either a b d e h p q = grind (arith, nat_tests)
