-- The order of symbols and of starts.
use Rattle.std.proofs.Common.{◌≡◌, ℕ, Bool, true, false, refl, arith, cond}
use Rattle.std.specs.Prelude.{IsTrue, ◌&&◌, ◌||◌, nat_eq, nat_le, not}
use Rattle.std.proofs.lemmas.Bool.Decides.{nat_tests}
use Rattle.language.specs.declared.Rank.{Rank}
use Rattle.language.specs.declared.Rank.TheVariants.{Call, Member}
use Rattle.language.specs.declared.Start.{Start}
use Rattle.language.specs.declared.Start.TheVariants.{Any, NoBrace, Statement}
use Rattle.language.specs.Vocabulary.{takes_number, takes, precedence}
use Rattle.language.specs.Pieces.{is_tight}
use Rattle.tree.specs.Uses.{implies}

-- behind a `new` without arguments a node costs no less than behind one with them
abbrev pub looser_number : ℕ → ℕ → Bool
looser_number y z = takes_number z y || (nat_eq y 19 && takes_number z 21)

abbrev pub looser_rank : Rank → Rank → Bool
looser_rank y z = looser_number (precedence y) (precedence z)

abbrev pub looser_start : Start → Start → Bool
looser_start f Any = true
looser_start NoBrace NoBrace = true
looser_start Statement NoBrace = true
looser_start Statement Statement = true
looser_start _ _ = false

pub looser_takes : (y z r : ℕ) → IsTrue (looser_number y z) → IsTrue (takes_number y r) → (r ≡ 19 → ⊥) → IsTrue (takes_number z r)
looser_takes y z r h k n = grind (arith, nat_tests)

pub looser_new : (y z : ℕ) → IsTrue (looser_number y z) → IsTrue (takes_number y 19) → IsTrue (takes_number z 21)
looser_new y z h k = grind (arith, nat_tests)

pub looser_refl : (y : ℕ) → IsTrue (looser_number y y)
looser_refl y = grind (arith, nat_tests)

pub looser_all : (y : ℕ) → IsTrue (looser_number y 0)
looser_all y = grind (arith, nat_tests)

pub looser_member : (y z : ℕ) → IsTrue (looser_number y z) → nat_le 21 z ≡ true → IsTrue (looser_number y 21)
looser_member y z h k = grind (arith, nat_tests)

pub looser_callee : (y z : Rank) → IsTrue (looser_rank y z) → IsTrue (looser_rank (cond (is_tight y) Member Call) (cond (is_tight z) Member Call))
looser_callee y z h = go (takes y Call) (takes z Call) (λ k. looser_takes (precedence y) (precedence z) 20 h k twenty)
  where
    twenty : ◌≡◌ {A = ℕ} 20 19 → ⊥
    twenty e = omega arith

    go : (b c : Bool) → (b ≡ true → c ≡ true) → IsTrue (looser_rank (cond (not b) Member Call) (cond (not c) Member Call))
    go true true k = refl
    go false true k = refl
    go false false k = refl
    go true false k = cc (k refl)

pub implies_trans : (n i j : Bool) → IsTrue (implies i j) → IsTrue (implies n i) → IsTrue (implies n j)
implies_trans false i j h k = refl
implies_trans true true j h k = h
implies_trans true false j h k = cc

pub looser_start_refl : (f : Start) → IsTrue (looser_start f f)
looser_start_refl Any = refl
looser_start_refl NoBrace = refl
looser_start_refl Statement = refl
