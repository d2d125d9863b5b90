-- What `none_longer` says: of all texts that go on into what stands behind, none is of the class at its place.
use Rattle.std.proofs.Common.{◌≡◌, ℕ, Bool, not, ◌&&◌, List, [], ◌∷◌, ◌++◌, IsTrue, IsFalse, refl, sym, subst, append_assoc, arith}
use Rattle.std.proofs.lemmas.Bool.Decides.{nat_tests}
use Rattle.tokens.specs.Lexical.{LexicalClass, is_at, none_longer}

pub and_first : (a b : Bool) → IsTrue (not a && b) → IsFalse a
and_first a b h = grind (arith, nat_tests)

pub and_second : (a b : Bool) → IsTrue (a && b) → IsTrue b
and_second a b h = grind (arith, nat_tests)

pub both_true : (a b : Bool) → IsFalse a → IsTrue b → IsTrue (not a && b)
both_true a b h k = grind (arith, nat_tests)

pub longer_is_none : (class : LexicalClass) (text : List ℕ) (c : ℕ) (more rest : List ℕ) → IsTrue (none_longer class text (c ∷ more ++ rest)) →
    IsFalse (is_at class (text ++ c ∷ more) rest)
longer_is_none class text c [] rest h = and_first _ _ h
longer_is_none class text c (d ∷ more) rest h =
    let P : List ℕ → Type 0 = λ w. IsFalse (is_at class w rest) in
    subst P (append_assoc text (c ∷ []) (d ∷ more)) (longer_is_none class (text ++ c ∷ []) d more rest (and_second _ _ h))

pub none_is_longer : (class : LexicalClass) (text rest : List ℕ) →
    ((c : ℕ) (more behind : List ℕ) → rest ≡ c ∷ more ++ behind → IsFalse (is_at class (text ++ c ∷ more) behind)) → IsTrue (none_longer class text rest)
none_is_longer class text [] h = refl
none_is_longer class text (c ∷ rest) h =
    both_true _ _ (h c [] rest refl)
    (none_is_longer class (text ++ c ∷ []) rest (λ d more behind e.
    let P : List ℕ → Type 0 = λ w. IsFalse (is_at class w behind) in
    let Q : List ℕ → Type 0 = λ ds. c ∷ rest ≡ c ∷ ds in
    subst P (sym (append_assoc text (c ∷ []) (d ∷ more))) (h c (d ∷ more) behind (subst Q e refl))))
