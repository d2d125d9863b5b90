use Rattle.std.proofs.Common.{refl, sym, ◌∙◌}
use Rattle.std.proofs.lemmas.Bool.{OnTrue_at, OnFalse_at, true≢false}
use Rattle.recursive_descent.proofs.sound_properties.MemberWords.{key_follows, star_follows, none_follows}
use Rattle.recursive_descent.proofs.sound_properties.Modifiers.{modifies_ahead, named_ahead}
use Rattle.token_cursor.proofs.TokensAhead.{word_missed}
use Rattle.recursive_descent.proofs.parser.Parser.modifier.Goals.{then-sees_key, else-sees_key}
use Rattle.recursive_descent.proofs.parser.Parser.modifier.Goals as goal

pub returns-then-not-is_name_token-clause-modified : goal.returns-then-not-is_name_token-clause-modified
returns-then-not-is_name_token-clause-modified c = (word_missed _ _ _ _ c.in-Some.ensures.some (sym c.is_name_token.ensures.is ∙ c.if-not-is_name_token.true), refl)

pub returns-in-true-clause-modified : goal.returns-in-true-clause-modified
returns-in-true-clause-modified c =
    let text = c.advance.new.self.cursor.text in
    let w = c.args.word.now in
    modifies_ahead _ text w _ _ _ c.in-Some.ensures.some (sym c.is_name_token.ensures.is ∙ c.if-not-is_name_token.false) c.advance.ensures.last c.advance.ensures.text (elim c.if-sees_key.branch [
      | then-sees_key v ↦ key_follows text w (OnTrue_at v.if-sees_key.true c.sees_key.ensures.seen)
      | else-sees_key v ↦ let told = OnTrue_at (sym v.value-is ∙ c.in-true.is) v.sees_static_generator.ensures.seen in star_follows text w told.0 told.1 told.2
    ])

pub returns-in-false-clause-modified : goal.returns-in-false-clause-modified
returns-in-false-clause-modified c =
    let text = c.advance.new.self.cursor.text in
    let w = c.args.word.now in
    named_ahead _ text w _ _ _ c.in-Some.ensures.some (sym c.is_name_token.ensures.is ∙ c.if-not-is_name_token.false) c.advance.ensures.last c.advance.ensures.text (elim c.if-sees_key.branch [
      | then-sees_key v ↦ absurd (true≢false (sym v.if-sees_key.true ∙ sym v.value-is ∙ c.in-false.is))
      | else-sees_key v ↦ none_follows text w (OnFalse_at v.if-sees_key.false c.sees_key.ensures.missed) (OnFalse_at (sym v.value-is ∙ c.in-false.is) v.sees_static_generator.ensures.missed)
    ])
