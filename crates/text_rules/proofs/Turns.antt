-- What is reported, turn by turn of a loop that appends it.
use Rattle.std.proofs.Common.{◌≡◌, ℕ, suc, ◌+◌, ◌≤◌, List, [], ◌∷◌, ◌++◌, length, drop, Some, sym, ap, ◌∙◌, add-one, append_assoc, append-nil}
use Rattle.std.specs.List.{slice_get}
use Rattle.std.proofs.Math.Seq.{drop-cons}
use Rattle.std.proofs.lemmas.List.{drop_all}
use Rattle.std.proofs.lemmas.Option.{get_or_from_slice_get, slice_get_within}
use Rattle.rule_words.specs.Appends.{Grows}
use Rattle.rule_words.specs.Reports.{Report}

-- one list more, of which the rest still has to come
pub turn : (old one rest all new total : List Report) → new ≡ old ++ one → all ≡ one ++ rest → old ++ all ≡ total → new ++ rest ≡ total
turn old one rest all new total n a so = ap (λ l. l ++ rest) n ∙ append_assoc old one rest ∙ ap (λ l. old ++ l) (sym a) ∙ so

-- nothing is left
pub last : (old all total : List Report) → all ≡ [] → old ++ all ≡ total → old ≡ total
last old all total a so = sym (append-nil old) ∙ ap (λ l. old ++ l) (sym a) ∙ so

-- a list that grew twice
pub grows : (xs ys zs : List Report) → Grows xs ys → Grows ys zs → Grows xs zs
grows xs ys zs first next = (first.0 ++ next.0, next.1 ∙ (ap (λ l. l ++ next.0) first.1 ∙ append_assoc xs first.0 next.0))

-- a list from one of its elements on
pub from-element : {X : Type 0} (xs : List X) (i : ℕ) (x : X) → slice_get xs i ≡ Some x → drop i xs ≡ x ∷ drop (i + 1) xs
from-element xs i x e =
    rw (add-one i) (drop-cons xs i x (slice_get_within xs i x e) ∙ ap (λ y. y ∷ drop (suc i) xs) (get_or_from_slice_get xs i x x e))

pub from-end : {X : Type 0} (xs : List X) (i : ℕ) → length xs ≤ i → drop i xs ≡ []
from-end xs i l = drop_all i xs l
