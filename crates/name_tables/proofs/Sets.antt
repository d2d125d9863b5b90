-- Sets of names, as they grow.
use Rattle.std.proofs.Common.{◌≡◌, ℕ, Bool, true, false, List, [], ◌∷◌, ◌++◌, Bor, if◌then◌else◌, refl, ap, ◌∙◌}
use Rattle.std.specs.Prelude.{◌||◌}
use Rattle.std.specs.List.{list_any}
use Rattle.std.specs.Str.{bytes_eq}
use Rattle.std.proofs.lemmas.Slice.Eq.{bytes_eq-Decides}
use Rattle.indexmap.specs.IndexSet.{insert_key}

-- the first two of three turn
pub or-turned : (a b c : Bool) → (a || (b || c)) ≡ (b || (a || c))
or-turned true true c = refl
or-turned true false c = refl
or-turned false b c = refl

module _ {A : Type 0} (p : A → Bool) where
  any-push : (xs : List A) (x : A) → list_any p (xs ++ x ∷ []) ≡ (p x || list_any p xs)
  any-push [] x = refl
  any-push (y ∷ xs) x = ap (λ b. p y || b) (any-push xs x) ∙ or-turned (p y) (p x) (list_any p xs)

module _ (ks : List (Bor (List ℕ))) (n : Bor (List ℕ)) (w : List ℕ) where
  -- what is in a set with one more name
  pub one_more : list_any (λ k. bytes_eq w k.now) (insert_key (λ x y. bytes_eq x.now y.now) ks n) ≡ (bytes_eq w n.now || list_any (λ k. bytes_eq w k.now) ks)
  one_more = pick (list_any (λ k. bytes_eq n.now k.now) ks) refl
    where
      stands : list_any (λ k. bytes_eq n.now k.now) ks ≡ true → (b : Bool) → bytes_eq w n.now ≡ b → list_any (λ k. bytes_eq w k.now) ks ≡ (b || list_any (λ k. bytes_eq w k.now) ks)
      stands h true e = ap (λ v. list_any (λ k. bytes_eq v k.now) ks) ((bytes_eq-Decides w n.now).0 e) ∙ h
      stands h false e = refl

      pick : (b : Bool) → list_any (λ k. bytes_eq n.now k.now) ks ≡ b → list_any (λ k. bytes_eq w k.now) (if b then ks else ks ++ n ∷ []) ≡ (bytes_eq w n.now || list_any (λ k. bytes_eq w k.now) ks)
      pick true h = stands h (bytes_eq w n.now) refl
      pick false h = any-push (λ k. bytes_eq w k.now) ks n
