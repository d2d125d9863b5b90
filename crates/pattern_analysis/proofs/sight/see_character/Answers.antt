use Rattle.tokens.proofs.PassedCharacters.{some_gives, none_gives}
use Rattle.std.proofs.Common.{◌≡◌, ◌∷◌, ◌++◌, true, List, Option, ℕ, Some}
use Rattle.pattern_analysis.specs.ClassValues.{characters}
use Rattle.pattern_analysis.specs.Misleading.{misleads}
use Rattle.pattern_analysis.proofs.ReadSteps.{lead_misleads, trail_misleads, units_stand, trail_of}
use Rattle.pattern_analysis.proofs.sight.see_character.Goals as goal

pub returns-in_default-clause-none : goal.returns-in_default-clause-none
returns-in_default-clause-none c =
    lead_misleads c.args.is_unicode c.args.value c.args.sight.before c.args.sight.last c.if-is_unicode.false c.if-value-lt65536.false c.in_default.ensures.none

pub returns-clause-some : goal.returns-clause-some
returns-clause-some c =
    let before = c.args.sight.before in
    let last = c.args.sight.last in
    let near = c.in-Some.behind_lead in
    some_gives
    (λ s. (rest : List (Option ℕ)) → misleads near.before near.last (Some (trail_of c.args.value) ∷ rest) ≡ misleads s.before s.last rest)
    (λ s. (rest : List (Option ℕ)) → misleads before last (characters c.args.is_unicode c.args.value ++ rest) ≡ misleads s.before s.last rest)
    c.see-3.result
    (λ s h. units_stand c.args.is_unicode c.args.value before last c.if-is_unicode.false c.if-value-lt65536.false near.before near.last s.before s.last c.in-Some.ensures.some h)
    c.see-3.ensures.some

pub returns-clause-none : goal.returns-clause-none
returns-clause-none c =
    let before = c.args.sight.before in
    let last = c.args.sight.last in
    let near = c.in-Some.behind_lead in
    none_gives
    ((rest : List (Option ℕ)) → misleads near.before near.last (Some (trail_of c.args.value) ∷ rest) ≡ true)
    ((rest : List (Option ℕ)) → misleads before last (characters c.args.is_unicode c.args.value ++ rest) ≡ true)
    c.see-3.result
    (λ h. trail_misleads c.args.is_unicode c.args.value before last c.if-is_unicode.false c.if-value-lt65536.false near.before near.last c.in-Some.ensures.some h)
    c.see-3.ensures.none
