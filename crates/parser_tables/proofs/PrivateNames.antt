-- The text of a private name, without its `#`.
use Rattle.std.proofs.Common.{◌≡◌, ◌≢◌, ℕ, Bool, true, false, List, [], ◌∷◌, refl, ap, sym}
use Rattle.std.specs.Prelude.{cond, nat_eq}
use Rattle.std.proofs.lemmas.Bool.{eqb-true}
use Rattle.parser_tables.specs.Tokens.{without_hash}

pub hash_dropped : (w v : List ℕ) → w ≡ 35 ∷ v → v ≡ without_hash w
hash_dropped w v h = sym (ap without_hash h)

pub hash_missing : (w : List ℕ) → ((v : List ℕ) → w ≢ 35 ∷ v) → w ≡ without_hash w
hash_missing [] h = refl
hash_missing (c ∷ w) h = by (nat_eq c 35) refl
  where
    by : (b : Bool) → nat_eq c 35 ≡ b → c ∷ w ≡ cond b w (c ∷ w)
    by true e = absurd (h w (ap (λ d. d ∷ w) (eqb-true c 35 e)))
    by false e = refl
