use Rattle.std.proofs.Common.{[], ◌∷◌, subst}
use Rattle.tokens.specs.Scanned.{Passed, IsBlockRest, NoBlockRest, IsCommentRest, NoCommentRest}
use Rattle.tokens.specs.declared.trivia.Trivia.{Trivia}
use Rattle.tokens.proofs.PassedCharacters.{some_gives, none_gives}
use Rattle.tokens.proofs.TriviaSteps.{line_rest, block_rest_comment, no_block_comment}
use Rattle.tokens.proofs.trivia.comment.Goals as goal

pub returns-in-47-clause-some : goal.returns-in-47-clause-some
returns-in-47-clause-some c =
    let p = subst (λ x. Passed c.args.text.now c.args.at c.in-Some.step.end (x ∷ [])) c.in-47.is c.in-Some.ensures.some in
    line_rest c.args.text.now c.args.at c.in-Some.step.end c.line_end.result p c.line_end.ensures

pub returns-in-42-clause-some : goal.returns-in-42-clause-some
returns-in-42-clause-some c =
    let p = subst (λ x. Passed c.args.text.now c.args.at c.in-Some.step.end (x ∷ [])) c.in-42.is c.in-Some.ensures.some in
    some_gives (λ (g : Trivia). IsBlockRest c.args.text.now c.in-Some.step.end g.end g.has_line_break) (λ (g : Trivia). IsCommentRest c.args.text.now c.args.at g.end g.has_line_break) c.block_rest.result
    (λ g h. block_rest_comment c.args.text.now c.args.at c.in-Some.step.end g.end g.has_line_break p h) c.block_rest.ensures.some

pub returns-in-42-clause-none : goal.returns-in-42-clause-none
returns-in-42-clause-none c =
    let p = subst (λ x. Passed c.args.text.now c.args.at c.in-Some.step.end (x ∷ [])) c.in-42.is c.in-Some.ensures.some in
    none_gives (NoBlockRest c.args.text.now c.in-Some.step.end) (NoCommentRest c.args.text.now c.args.at) c.block_rest.result
    (λ h. no_block_comment c.args.text.now c.args.at c.in-Some.step.end p h) c.block_rest.ensures.none
