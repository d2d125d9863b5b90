-- Pieces of a text, one after the other.
use Rattle.std.proofs.Common.{◌≡◌, ℕ, ◌+◌, ◌≤◌, List, ◌++◌, take, drop, sym, ap, ◌∙◌, subst, Option}
use Rattle.std.proofs.lemmas.List.{take-take}
use Rattle.std.proofs.Math.Seq.{take-add}
use Rattle.std.specs.Io.KnownBytes.{Appends}
use Rattle.std.proofs.KnownBytes.{Appends-trans}

pub take_pieces : (t : List ℕ) (at m n : ℕ) → n ≤ m → take at t ++ take n (take m (drop at t)) ≡ take (at + n) t
take_pieces t at m n h = ap (λ x. take at t ++ x) (take-take n m (drop at t) h) ∙ sym (take-add at n t)

pub written_more : (a b c : Option (List ℕ)) (t : List ℕ) (at m n : ℕ) → n ≤ m
    → Appends a b (take at t) → Appends b c (take n (take m (drop at t))) → Appends a c (take (at + n) t)
written_more a b c t at m n h p q = subst (Appends a c) (take_pieces t at m n h) (Appends-trans a b c _ _ p q)
