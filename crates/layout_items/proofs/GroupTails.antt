-- The groups whose start wasn't passed yet.
use Rattle.std.proofs.Common.{◌≡◌, ℕ, zero, suc, List, [], ◌∷◌, ◌++◌, length, get_or, Option, Some, None, refl, arith}
use Rattle.std.specs.Prelude.{reverse, option_to_list, unwrap_or}
use Rattle.layout_items.specs.declared.needs.Measures.{Measures}
use Rattle.layout_items.specs.declared.needs.Tail.{Tail}
use Rattle.layout_items.specs.Passes.{tail_at, no_tail, tail_of}
use Rattle.layout_items.proofs.GroupNeeds.{reverse-more}

pub tails_end : (m : Measures) (us : List Tail) → us ≡ m.outer.items ++ m.innermost ∷ [] → (n : ℕ) → get_or (reverse us) n no_tail ≡ tail_at m n
tails_end m us e zero = rw (e, reverse-more) refl
tails_end m us e (suc n) = rw (e, reverse-more) refl

pub first_tail : (ts us : List Tail) (o : Option Tail) → ts ≡ us ++ option_to_list o → (o ≡ None → length ts ≡ 0) → unwrap_or o no_tail ≡ get_or (reverse ts) 0 no_tail
first_tail ts us (Some t) e m = rw (e, reverse-more) refl
first_tail [] us None e m = refl
first_tail (x ∷ xs) us None e m = absurd (let z = m refl in omega arith)

pub more_tails : (ts us : List Tail) (o : Option Tail) (n : ℕ) → ts ≡ us ++ option_to_list o → (o ≡ None → length ts ≡ 0) → get_or (reverse us) n no_tail ≡ get_or (reverse ts) (suc n) no_tail
more_tails ts us (Some t) n e m = rw (e, reverse-more) refl
more_tails [] [] None n e m = refl
more_tails [] (x ∷ xs) None n e m = cc
more_tails (x ∷ xs) us None n e m = absurd (let z = m refl in omega arith)

pub no_tails : (m : Measures) → m.innermost ≡ no_tail → m.outer.items ≡ [] → (n : ℕ) → tail_at m n ≡ tail_of [] n
unfolding tail_of
no_tails m e f zero = e
no_tails m e f (suc n) = rw f refl
