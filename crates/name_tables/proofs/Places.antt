-- What a table says after an insertion or a write at a place.
use Rattle.std.proofs.Common.{◌≡◌, ℕ, suc, ◌+◌, Bool, true, false, not, cond, List, [], ◌∷◌, Option, Some, slice_get, Bor, refl, arith, sym, ap, ◌∙◌}
use Rattle.std.specs.Str.{bytes_eq}
use Rattle.std.specs.List.{position_or_len}
use Rattle.std.specs.Map.{update, keys_of}
use Rattle.std.specs.Cmp.{IsEquivalence, on_equiv}
use Rattle.std.specs.Cmp.Lexicographic.{nat_list_eq_equiv}
use Rattle.std.proofs.lemmas.Map.Text.{hash_map_updates_str}
use Rattle.std.proofs.lemmas.Slice.Eq.{bytes_eq-Decides}
use Rattle.indexmap.specs.IndexMap.{IndexMap, get_by, insert_entry, with_value_at, IsUnique}
use Rattle.indexmap.proofs.CallerLemmas.{updates-with_value_at}
use Rattle.name_tables.specs.Tables.{value_of}

abbrev Name : Type 0
Name = Bor (List ℕ)

abbrev same_name : Name → Name → Bool
same_name x y = bytes_eq x.now y.now

names_equal : IsEquivalence same_name
names_equal = on_equiv (λ k. k.now) nat_list_eq_equiv

module _ {V : Type 0} (f : List ℕ → Option (Option V)) (n : List ℕ) where
  pub value_chosen : (v : Option V) (w : List ℕ) → value_of (update bytes_eq f n (Some v) w) ≡ cond (bytes_eq n w) v (value_of (f w))
  value_chosen v w = pick (bytes_eq n w)
    where
      pick : (b : Bool) → value_of (cond b (Some v) (f w)) ≡ cond b v (value_of (f w))
      pick true = refl
      pick false = refl

  -- the last of two counts
  pub twice_chosen : (u v : Option V) (w : List ℕ) → cond (bytes_eq n w) v (cond (bytes_eq n w) u (value_of (f w))) ≡ cond (bytes_eq n w) v (value_of (f w))
  twice_chosen u v w = pick (bytes_eq n w)
    where
      pick : (b : Bool) → cond b v (cond b u (value_of (f w))) ≡ cond b v (value_of (f w))
      pick true = refl
      pick false = refl

  -- a name that stands for what it stood for
  pub value_kept : (v : Option V) (w : List ℕ) → v ≡ value_of (f n) → cond (bytes_eq n w) v (value_of (f w)) ≡ value_of (f w)
  value_kept v w e = pick (bytes_eq n w) refl
    where
      pick : (b : Bool) → bytes_eq n w ≡ b → cond b v (value_of (f w)) ≡ value_of (f w)
      pick true t = e ∙ ap (λ u. value_of (f u)) ((bytes_eq-Decides n w).0 t)
      pick false t = refl

next : (n : ℕ) → 1 + n ≡ suc n
next n = omega arith

-- names that aren't told apart
pub not_other : (n m : List ℕ) → false ≡ not (bytes_eq m n) → bytes_eq n m ≡ true
not_other n m h = nat_list_eq_equiv.symm n m ∙ pick (bytes_eq m n) h
  where
    pick : (b : Bool) → false ≡ not b → b ≡ true
    pick true e = refl
    pick false e = e

-- an inserted name stands at its place
pub record Stands {X : Type 0} (es : List (Name × X)) (i : ℕ) (k : Name) (v : X) : Type 0 where
  pub stored : Name
  pub at : slice_get es i ≡ Some (stored, v)
  pub same : same_name k stored ≡ true

pub inserted : {X : Type 0} (es : List (Name × X)) (k : Name) (v : X) → Stands (insert_entry same_name es k v) (position_or_len (same_name k) (keys_of es)) k v
inserted [] k v = record { stored = k; at = refl; same = names_equal.refl k }
inserted {X} (e ∷ es) k v = pick (inserted es k v) (same_name k e.0) refl
  where
    pick : Stands (insert_entry same_name es k v) (position_or_len (same_name k) (keys_of es)) k v → (b : Bool) → same_name k e.0 ≡ b
        → Stands (cond b ((e.0, v) ∷ es) (e ∷ insert_entry same_name es k v)) (cond (not b) (1 + position_or_len (same_name k) (keys_of es)) 0) k v
    pick s true t = record { stored = e.0; at = refl; same = t }
    pick s false t = record { stored = s.stored; at = ap (slice_get (e ∷ insert_entry same_name es k v)) (next (position_or_len (same_name k) (keys_of es))) ∙ s.at; same = s.same }

-- a write at the place of a name
module _ {V S : Type 0} (m : IndexMap Name (Option V) S) (i : ℕ) (v u : Option V) (n : List ℕ) (k : Name) where
  pub written : IsUnique same_name m → slice_get m.entries i ≡ Some (k, u) → bytes_eq n k.now ≡ true → (w : List ℕ)
      → value_of (get_by (λ q. bytes_eq w q.now) (with_value_at m i v)) ≡ cond (bytes_eq n w) v (value_of (get_by (λ q. bytes_eq w q.now) m))
  written unique at same w =
      let e : n ≡ k.now = (bytes_eq-Decides n k.now).0 same in
      ap value_of (hash_map_updates_str k.now m (with_value_at m i v) (Some v) (updates-with_value_at m i v names_equal unique k u at) w)
      ∙ value_chosen (λ x. get_by (λ q. bytes_eq x q.now) m) k.now v w ∙ ap (λ x. cond (bytes_eq x w) v (value_of (get_by (λ q. bytes_eq w q.now) m))) (sym e)
