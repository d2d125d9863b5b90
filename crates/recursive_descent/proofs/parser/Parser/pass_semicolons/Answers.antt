use Rattle.std.proofs.Common.{refl, ◌∙◌, subst, arith}
use Rattle.std.specs.Prelude.{codes}
use Rattle.std.proofs.lemmas.Bool.{OnTrue_at}
use Rattle.tokens.specs.declared.token.TokenClass.TheVariants.{Punctuator}
use Rattle.recursive_descent.specs.Follows.{none_passed, one_more}
use Rattle.token_cursor.specs.Seen.{ReadsHere}
use Rattle.recursive_descent.proofs.parser.Parser.pass_semicolons.Goals as goal

pub empty-init : goal.empty-init
empty-init c = record { same = refl; forward = omega arith; same_open = refl; same_pairs = refl; same_tree = refl; passed = none_passed }

pub empty-preserved : goal.empty-preserved
empty-preserved c =
    let read = OnTrue_at c.empty-test.true c.accept_punctuator.ensures.accepted in
    record {
      same = c.accept_punctuator.ensures.text ∙ c.empty.invariant.same;
      forward = omega arith;
      same_open = c.accept_punctuator.ensures.same_open ∙ c.empty.invariant.same_open;
      same_pairs = c.accept_punctuator.ensures.same_pairs ∙ c.empty.invariant.same_pairs;
      same_tree = c.accept_punctuator.ensures.same_tree ∙ c.empty.invariant.same_tree;
      passed = one_more c.empty.invariant.passed (subst (λ x. ReadsHere x Punctuator (codes ";") c.empty.self.cursor.last c.accept_punctuator.new.self.cursor.last) c.empty.invariant.same read);
    }
