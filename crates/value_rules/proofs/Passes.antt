-- What is reported, as the walk goes over nodes and rules.
use Rattle.std.proofs.Common.{◌≡◌, ℕ, suc, ◌+◌, ◌<◌, ◌≤◌, List, ◌++◌, length, drop, get_or, Some, sym, ap, ◌∙◌, add-one, append_assoc, append-nil}
use Rattle.std.specs.List.{slice_get}
use Rattle.std.proofs.Math.Seq.{drop-cons}
use Rattle.std.proofs.lemmas.List.{drop_all}
use Rattle.std.proofs.lemmas.Option.{get_or_from_slice_get, slice_get_within}
use Rattle.rule_words.specs.Appends.{Grows}
use Rattle.rule_words.specs.Reports.{Report}
use Rattle.value_rules.specs.Found.{each}

-- what is appended to a longer list is appended to the shorter one too
pub grown : (xs ys zs : List Report) → Grows xs ys → Grows ys zs → Grows xs zs
grown xs ys zs g h = (g.0 ++ h.0, h.1 ∙ ap (λ a. a ++ h.0) g.1 ∙ append_assoc xs g.0 h.0)

module _ {X : Type 0} (f : X → List Report) (xs : List X) (i : ℕ) (acc total : List Report) (so : acc ++ each f (drop i xs) ≡ total) where
  -- a turn of a loop that appends what is said of each element
  pub each-turn : (d : X) (new : List Report) → i < length xs → new ≡ acc ++ f (get_or xs i d) → new ++ each f (drop (i + 1) xs) ≡ total
  each-turn d new l n =
      rw (add-one i) (ap (λ a. a ++ each f (drop (suc i) xs)) n ∙ append_assoc acc (f (get_or xs i d)) (each f (drop (suc i) xs)) ∙ ap (λ ys. acc ++ each f ys) (sym (drop-cons xs i d l)) ∙ so)

  -- the same of an element that stands at the place
  pub at-turn : (x : X) (new : List Report) → slice_get xs i ≡ Some x → new ≡ acc ++ f x → new ++ each f (drop (i + 1) xs) ≡ total
  at-turn x new e n = each-turn x new (slice_get_within xs i x e) (n ∙ ap (λ y. acc ++ f y) (sym (get_or_from_slice_get xs i x x e)))

  pub each-end : length xs ≤ i → acc ≡ total
  each-end l = sym (append-nil acc) ∙ ap (λ ys. acc ++ each f ys) (sym (drop_all i xs l)) ∙ so
