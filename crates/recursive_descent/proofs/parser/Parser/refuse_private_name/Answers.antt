use Rattle.std.proofs.Common.{sym, ◌∙◌, subst}
use Rattle.std.specs.Prelude.{codes, IfNone}
use Rattle.tokens.specs.declared.token.Goal.TheVariants.{Div}
use Rattle.token_cursor.specs.CursorState.{NoneAhead}
use Rattle.tokens.specs.Scanned.{token_of}
use Rattle.token_cursor.proofs.TokensAhead.{mark_missed, mark_none}
use Rattle.recursive_descent.proofs.complete_expressions.Agreement.{not_missed}
use Rattle.recursive_descent.proofs.sound_subscripts.MemberNames.{no_private_behind, nothing_behind, private_behind}
use Rattle.recursive_descent.proofs.parser.Parser.refuse_private_name.Goals as goal

pub returns-in_default-clause-none : goal.returns-in_default-clause-none
returns-in_default-clause-none c u m e dot next = absurd (not_missed (mark_none c.args.self.now.cursor.text (codes ".") c.args.self.now.cursor.last c.in_default.ensures.none) dot)

pub returns-then-not-is_punctuator-clause-none : goal.returns-then-not-is_punctuator-clause-none
returns-then-not-is_punctuator-clause-none c u m e dot next = absurd (not_missed (mark_missed c.args.self.now.cursor.text (codes ".") c.args.self.now.cursor.last (token_of c.in-Some.dot) c.in-Some.ensures.some (sym c.is_punctuator.ensures.is ∙ c.if-not-is_punctuator.true)) dot)

pub returns-in-Some-peek_behind-clause-private : goal.returns-in-Some-peek_behind-clause-private
returns-in-Some-peek_behind-clause-private c =
    private_behind c.args.self.now.cursor.text c.args.self.now.cursor.last (token_of c.in-Some.dot) c.in-Some.ensures.some (token_of c.in-Some-peek_behind.second) c.in-Some-peek_behind.ensures.some (sym c.is_punctuator.ensures.is ∙ c.if-not-is_punctuator.false) (sym c.is_private_name.ensures ∙ c.if-is_private_name.true)

pub returns-in_default-peek_behind-clause-none : goal.returns-in_default-peek_behind-clause-none
returns-in_default-peek_behind-clause-none c u m e dot next =
    no_private_behind c.args.self.now.cursor.text c.args.self.now.cursor.last (token_of c.in-Some.dot) c.in-Some.ensures.some (token_of c.in-Some-peek_behind.second) c.in-Some-peek_behind.ensures.some (sym c.is_private_name.ensures ∙ c.if-is_private_name.false) u m e dot next

pub returns-in_default-peek_behind-2-clause-none : goal.returns-in_default-peek_behind-2-clause-none
returns-in_default-peek_behind-2-clause-none c u m e dot next =
    let nothing = subst (λ r. IfNone r (NoneAhead Div c.args.self.now.cursor.text c.in-Some.dot.end)) c.in_default-peek_behind.is c.peek_behind.ensures.none in
    nothing_behind c.args.self.now.cursor.text c.args.self.now.cursor.last (token_of c.in-Some.dot) c.in-Some.ensures.some nothing u m e dot next
