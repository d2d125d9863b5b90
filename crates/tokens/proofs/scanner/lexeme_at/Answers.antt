use Rattle.std.proofs.Common.{◌≡◌, sym, ap, ◌∙◌, subst}
use Rattle.tokens.specs.TokenStarts.{class_of}
use Rattle.tokens.specs.Reading.{behind}
use Rattle.tokens.specs.Scanned.{NoWordAt}
use Rattle.tokens.proofs.ScannedTokens.{class_at_point, class_not_end, end_word}
use Rattle.tokens.proofs.scanner.lexeme_at.Goals as goal
use Rattle.tokens.proofs.scanner.lexeme_at.Goals.{After-class_by-class}

class_same : (c : After-class_by-class) → c.class_by-class.result ≡ class_of c.args.goal (behind c.args.text.now c.args.at)
class_same c =
    c.class_by-class.ensures ∙ class_at_point c.args.goal c.in-Some.first.c (behind c.args.text.now c.in-Some.first.end) c.is_point_before_digit-digit.result c.is_point_before_digit-digit.ensures
    ∙ sym (ap (class_of c.args.goal) c.in-Some.ensures.some.split)

pub returns-in_default-clause-some : goal.returns-in_default-clause-some
returns-in_default-clause-some c =
    (sym (ap (class_of c.args.goal) c.in_default.ensures.none), end_word c.args.text.now c.args.at c.requires c.in_default.ensures.none)

pub token_end-requires-clause-class : goal.token_end-requires-clause-class
token_end-requires-clause-class c = λ e. class_not_end c.args.goal c.in-Some.first.c c.is_point_before_digit-digit.result (sym c.class_by-class.ensures ∙ e)

pub returns-in_default-token_end-clause-none : goal.returns-in_default-token_end-clause-none
returns-in_default-token_end-clause-none c =
    subst (λ k. NoWordAt k c.args.text.now c.args.at) (class_same (goal.at.returns-in_default-token_end-clause-none c).After-class_by-class) c.in_default-token_end.ensures.none

pub returns-clause-some : goal.returns-clause-some
returns-clause-some c = (class_same (goal.at.returns-clause-some c).After-class_by-class, c.in-Some-token_end.ensures.some)
