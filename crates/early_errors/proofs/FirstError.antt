-- The least error of a list is one of the list, and none of the list comes before it.
use Rattle.std.proofs.Common.{◌≡◌, Bool, true, false, cond, List, [], ◌∷◌, refl, ap, subst, arith}
use Rattle.std.proofs.lemmas.Bool.Decides.{nat_tests}
use Rattle.std.specs.Prelude.{IsTrue, Option, Some, None}
use Rattle.language.specs.Derivation.{Among, first, later}
use Rattle.early_errors.specs.Early.{Error, comes_first, lesser, least}

pub same_first : (x : Error) → IsTrue (comes_first x x)
same_first x = grind (arith, nat_tests)

pub before_that : (x y z : Error) → IsTrue (comes_first x y) → IsTrue (comes_first y z) → IsTrue (comes_first x z)
before_that x y z e f = grind (arith, nat_tests)

pub one_first : (x y : Error) → comes_first x y ≡ false → IsTrue (comes_first y x)
one_first x y e = grind (arith, nat_tests)

pub least_none : (xs : List Error) → least xs ≡ None → xs ≡ []
least_none [] e = refl
least_none (x ∷ xs) e = cc

abbrev given : Error → Option Error → Error
given x None = x
given x (Some y) = y

chosen : (x : Error) (xs : List Error) (o : Option Error) → ((y : Error) → o ≡ Some y → Among y xs) → Among (lesser x o) (x ∷ xs)
chosen x xs None h = first
chosen x xs (Some y) h = pick (comes_first x y)
  where
    pick : (b : Bool) → Among (cond b x y) (x ∷ xs)
    pick true = first
    pick false = later (h y refl)

-- the least is one of them
pub least_among : (xs : List Error) (y : Error) → least xs ≡ Some y → Among y xs
least_among [] y e = cc
least_among (x ∷ xs) y e = subst (λ m. Among m (x ∷ xs)) (ap (given x) e) (chosen x xs (least xs) (least_among xs))

lower : (x y w : Error) (xs : List Error) (b : Bool) → comes_first x y ≡ b → ((v : Error) → Among v xs → IsTrue (comes_first y v)) → Among w (x ∷ xs) → IsTrue (comes_first (cond b x y) w)
lower x y w xs true e h first = same_first x
lower x y w xs true e h (later a) = before_that x y w e (h w a)
lower x y w xs false e h first = one_first x y e
lower x y w xs false e h (later a) = h w a

lowest : (x w : Error) (xs : List Error) (o : Option Error) → (o ≡ None → xs ≡ []) → ((y : Error) → o ≡ Some y → (v : Error) → Among v xs → IsTrue (comes_first y v)) →
    Among w (x ∷ xs) → IsTrue (comes_first (lesser x o) w)
lowest x w xs None n h first = same_first x
lowest x w xs None n h (later a) = elim (subst (λ l. Among w l) (n refl) a) [ ]
lowest x w xs (Some y) n h a = lower x y w xs (comes_first x y) refl (h y refl) a

-- none of them comes before the least
pub least_first : (xs : List Error) (y : Error) → least xs ≡ Some y → (w : Error) → Among w xs → IsTrue (comes_first y w)
least_first [] y e w a = elim a [ ]
least_first (x ∷ xs) y e w a = subst (λ m. IsTrue (comes_first m w)) (ap (given x) e) (lowest x w xs (least xs) (least_none xs) (least_first xs) a)
