-- Tables of names, as loops write and undo them.
use Rattle.std.proofs.Common.{◌≡◌, ℕ, Bool, true, false, cond, List, [], ◌∷◌, ◌++◌, Option, refl, sym, ap, ◌∙◌}
use Rattle.std.specs.Str.{bytes_eq}
use Rattle.std.proofs.lemmas.Slice.Eq.{bytes_eq-Decides}
use Rattle.name_tables.specs.Tables.{with_value, Agree, undone_by}

-- a table with another value at one name for a while
pub restored : {V : Type 0} (f g h k : List ℕ → Option V) (n : List ℕ) (v r : Option V) → v ≡ f n → Agree g (with_value f n r) → Agree h g → Agree k (with_value h n v) → Agree k f
restored f g h k n v r e a b c w = c w ∙ pick (bytes_eq n w) refl
  where
    pick : (x : Bool) → bytes_eq n w ≡ x → cond x v (h w) ≡ f w
    pick true t = e ∙ ap f ((bytes_eq-Decides n w).0 t)
    pick false t = b w ∙ a w ∙ ap (λ x. cond x r (f w)) t

module _ {S V : Type 0} (name : S → List ℕ) (value : S → Option V) where
  undone-more : (f : List ℕ → Option V) (xs : List S) (x : S) → undone_by name value f (xs ++ x ∷ []) ≡ undone_by name value (with_value f (name x) (value x)) xs
  undone-more f [] x = refl
  undone-more f (y ∷ xs) x = ap (λ q. with_value q (name y) (value y)) (undone-more f xs x)

  pub undone-agrees : (f g : List ℕ → Option V) (xs : List S) → Agree f g → Agree (undone_by name value f xs) (undone_by name value g xs)
  undone-agrees f g [] h w = h w
  undone-agrees f g (x ∷ xs) h w = ap (λ o. cond (bytes_eq (name x) w) (value x) o) (undone-agrees f g xs h w)

  -- a name is saved, and the table says something else of it
  pub kept-turn : (f g h : List ℕ → Option V) (x : S) (saved more : List S) (r : Option V) → more ≡ saved ++ x ∷ [] → value x ≡ g (name x) → Agree h (with_value g (name x) r) →
      Agree (undone_by name value g saved) f → Agree (undone_by name value h more) f
  kept-turn f g h x saved more r m e k so w =
      ap (λ q. undone_by name value h q w) m ∙ ap (λ q. q w) (undone-more h saved x)
      ∙ undone-agrees (with_value h (name x) (value x)) g saved (λ u. restored g h h (with_value h (name x) (value x)) (name x) (value x) r e k (λ v. refl) (λ v. refl) u) w ∙ so w

  -- a name that was saved says again what it said
  pub leave-turn : (f g h : List ℕ → Option V) (x : S) (saved less : List S) → saved ≡ less ++ x ∷ [] → Agree h (with_value g (name x) (value x)) → Agree (undone_by name value g saved) f →
      Agree (undone_by name value h less) f
  leave-turn f g h x saved less m k so w =
      undone-agrees h (with_value g (name x) (value x)) less k w ∙ sym (ap (λ q. q w) (undone-more g less x)) ∙ sym (ap (λ q. undone_by name value g q w) m) ∙ so w
