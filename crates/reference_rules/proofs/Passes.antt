-- What rules say of names, as a pass goes over them.
use Rattle.std.proofs.Common.{◌≡◌, ℕ, zero, suc, ◌+◌, ◌<◌, ◌≤◌, List, [], ◌∷◌, ◌++◌, length, drop, get_or, Option, Some, None, map, option_map, slice_get, sym, ap, refl, ◌∙◌, add-one, arith, append_assoc}
use Rattle.std.proofs.Math.Seq.{drop-cons}
use Rattle.std.proofs.lemmas.Option.{none-some}
use Rattle.scopes.specs.declared.binding.Reference.{Reference as CodeReference}
use Rattle.scopes.specs.Bindings.{Binding}
use Rattle.scopes.specs.Found.{Scope}
use Rattle.scopes.specs.Shown.{reference_shown}
use Rattle.rule_words.specs.Appends.{Grows}
use Rattle.rule_words.specs.Reports.{Report}
use Rattle.reference_rules.specs.declared.reference_rule.Profile.{Profile}
use Rattle.reference_rules.specs.declared.reference_rule.ReferenceRule.{ReferenceRule}
use Rattle.reference_rules.specs.Found.{by_reference, each, meant, over_references, over_scope, over_scopes, standing_in}

-- what is appended to a longer list is appended to the shorter one too
pub grown : (xs ys zs : List Report) → Grows xs ys → Grows ys zs → Grows xs zs
grown xs ys zs g h = (g.0 ++ h.0, h.1 ∙ ap (λ a. a ++ h.0) g.1 ∙ append_assoc xs g.0 h.0)

-- a turn of a loop that appends what is said of each element
pub each-turn : {X Y : Type 0} (f : Y → List Report) (g : X → Y) (xs : List X) (i : ℕ) (d : X) (acc new total : List Report) → i < length xs → new ≡ acc ++ f (g (get_or xs i d)) →
    acc ++ each f (map g (drop i xs)) ≡ total → new ++ each f (map g (drop (i + 1) xs)) ≡ total
each-turn f g xs i d acc new total l n so =
    rw (add-one i) (ap (λ a. a ++ each f (map g (drop (suc i) xs))) n ∙ append_assoc acc (f (g (get_or xs i d))) (each f (map g (drop (suc i) xs)))
    ∙ ap (λ ys. acc ++ each f (map g ys)) (sym (drop-cons xs i d l)) ∙ so)

-- a turn of the loop over references
pub references-turn : (p : Profile) (rules : List ReferenceRule) (ss : List Scope) (xs : List CodeReference) (i : ℕ) (d : CodeReference) (b : Option Binding) (acc new total : List Report) → i < length xs →
    new ≡ acc ++ each (by_reference p (reference_shown (get_or xs i d)) b) rules → b ≡ meant ss (get_or xs i d).meaning →
    acc ++ over_references p rules ss (map reference_shown (drop i xs)) ≡ total → new ++ over_references p rules ss (map reference_shown (drop (i + 1) xs)) ≡ total
references-turn p rules ss xs i d b acc new total l n e so =
    each-turn (λ r. each (by_reference p r (meant ss r.meaning)) rules) reference_shown xs i d acc new total l (n ∙ ap (λ x. acc ++ each (by_reference p (reference_shown (get_or xs i d)) x) rules) e) so

-- a turn of the loop over rules
pub rules-turn : (f : ReferenceRule → List Report) (xs : List ReferenceRule) (i : ℕ) (d : ReferenceRule) (acc new total : List Report) → i < length xs → new ≡ acc ++ f (get_or xs i d) →
    acc ++ each f (drop i xs) ≡ total → new ++ each f (drop (i + 1) xs) ≡ total
rules-turn f xs i d acc new total l n so =
    rw (add-one i) (ap (λ a. a ++ each f (drop (suc i) xs)) n ∙ append_assoc acc (f (get_or xs i d)) (each f (drop (suc i) xs)) ∙ ap (λ ys. acc ++ each f ys) (sym (drop-cons xs i d l)) ∙ so)

module _ (p : Profile) (rules : List ReferenceRule) where
  -- what is said of a scope, and of those behind it
  scopes-step : (k : ℕ) (ss : List Scope) (i : ℕ) (bs rs : List Binding) → Some bs ≡ option_map (λ (s : Scope). s.bindings) (slice_get ss i) → Some rs ≡ option_map (λ (s : Scope). s.redeclared) (slice_get ss i) →
      over_scopes p rules k (drop i ss) ≡ over_scope p rules (standing_in k) bs rs ++ over_scopes p rules (k + 1) (drop (suc i) ss)
  scopes-step k [] i bs rs h g = absurd (none-some _ (sym h))
  scopes-step k (s ∷ ss) zero bs rs h g =
      let same : bs ≡ s.bindings = cc in
      let alike : rs ≡ s.redeclared = cc in
      ap (λ b. over_scope p rules (standing_in k) b s.redeclared ++ over_scopes p rules (k + 1) ss) (sym same) ∙ ap (λ r. over_scope p rules (standing_in k) bs r ++ over_scopes p rules (k + 1) ss) (sym alike)
  scopes-step k (s ∷ ss) (suc i) bs rs h g = scopes-step k ss i bs rs h g

  -- a turn of the loop over scopes
  pub scopes-turn : (ss : List Scope) (i : ℕ) (bs rs : List Binding) (acc new total : List Report) → Some bs ≡ option_map (λ (s : Scope). s.bindings) (slice_get ss i) → Some rs ≡ option_map (λ (s : Scope). s.redeclared) (slice_get ss i) →
      new ≡ acc ++ over_scope p rules (standing_in i) bs rs → acc ++ over_scopes p rules i (drop i ss) ≡ total → new ++ over_scopes p rules (i + 1) (drop (i + 1) ss) ≡ total
  scopes-turn ss i bs rs acc new total h g e so =
      ap (λ k. new ++ over_scopes p rules (i + 1) (drop k ss)) (add-one i)
      ∙ ap (λ a. a ++ over_scopes p rules (i + 1) (drop (suc i) ss)) e ∙ append_assoc acc (over_scope p rules (standing_in i) bs rs) (over_scopes p rules (i + 1) (drop (suc i) ss))
      ∙ ap (λ l. acc ++ l) (sym (scopes-step i ss i bs rs h g)) ∙ so

-- the binding that a reference means
pub meant-in : (ss : List Scope) (n i : ℕ) (bs : List Binding) → Some bs ≡ option_map (λ (s : Scope). s.bindings) (slice_get ss n) → slice_get bs i ≡ meant ss (Some (n, i))
meant-in [] n i bs h = absurd (none-some _ (sym h))
meant-in (s ∷ ss) zero i bs h = let same : bs ≡ s.bindings = cc in ap (λ l. slice_get l i) same
meant-in (s ∷ ss) (suc n) i bs h = meant-in ss n i bs h

pub meant-past : (ss : List Scope) (n i : ℕ) → length ss ≤ n → None ≡ meant ss (Some (n, i))
meant-past [] n i l = refl
meant-past (s ∷ ss) zero i l = absurd (omega (arith, l))
meant-past (s ∷ ss) (suc n) i l = meant-past ss n i (omega (arith, l))
