-- The last part of a node stands at a symbol that takes all that follows it: nothing goes on behind the node that went on behind the part.
use Rattle.std.proofs.Common.{◌≡◌, ℕ, ◌≤◌, ◌<◌, Bool, true, false, cond, List, refl, sym, subst, arith}
use Rattle.std.specs.Prelude.{IsTrue, Some}
use Rattle.std.proofs.lemmas.Bool.Decides.{nat_tests}
use Rattle.tree.specs.declared.kind.Kind.{Kind}
use Rattle.language.specs.declared.Rank.{Rank}
use Rattle.language.specs.declared.Rank.TheVariants.{Expression, Assignment, Conditional, ShortCircuit, Exponentiation, Unary, Update, LeftHandSide, New, Call, Member}
use Rattle.language.specs.declared.Start.{Start}
use Rattle.tree.specs.declared.kind.Flags.{Flags}
use Rattle.tree.specs.Tree.{Parts}
use Rattle.language.specs.Vocabulary.{takes, takes_number, precedence, Operator}
use Rattle.language.specs.Pieces.{expr, PieceOf, Role, is_tight}
use Rattle.language.specs.Continuations.{rank_made_by}
use Rattle.language.proofs.table.OperatorFacts.{Rises, Binding, binding}
use Rattle.language.proofs.table.RightEdges.{takes_less}
use Rattle.language.proofs.table.LeftRecursiveWays.{callee_rank, Led, led_binary, led_power, led_assign, led_postfix, led_sequence, led_conditional, led_dot, led_index, led_call, led_tag, led_chain}

-- What is known of the symbol z of a node and of the symbol q at which its last part stands. A conditional is taken at Conditional, where
-- the assignment that its last part may go on with isn't.
pub record Tails (z q : Rank) : Type 0 where
  pub highest : precedence z ≤ 19
  pub least : 1 ≤ precedence q
  pub loose : precedence q ≤ 3 → precedence z ≤ 2
  pub middle : 4 ≤ precedence q → precedence q ≤ 14 → precedence z < precedence q
  pub tight : 17 ≤ precedence z → 18 ≤ precedence q
  pub passes : (y x : ℕ) → (y ≡ 2 → precedence z ≡ 2 → ⊥) → IsTrue (takes_number y (precedence z)) → IsTrue (takes_number (precedence q) x) → IsTrue (takes_number y x)

by_binary : (y z q x : ℕ) → IsTrue (takes_number y z) → Rises z q → z ≤ 15 → IsTrue (takes_number q x) → IsTrue (takes_number y x)
by_binary y z q x h (k, c) l j = grind (arith, nat_tests)

-- the right side of an operator with two sides
pub tails_binary : (z q : Rank) → Binding z q → Tails z q
tails_binary z q b = let up = b.rises.0 in let low = b.least in let most = b.most in record {
  highest = omega arith;
  least = omega arith;
  loose = λ h. omega arith;
  middle = λ h k. up;
  tight = λ h. omega arith;
  passes = λ y x n h k. by_binary y (precedence z) (precedence q) x h b.rises (let low' : precedence z ≤ 15 = omega arith in low') k;
}

by_power : (y x : ℕ) → IsTrue (takes_number y 15) → IsTrue (takes_number 15 x) → IsTrue (takes_number y x)
by_power y x h k = grind (arith, nat_tests)

by_assign : (y x : ℕ) → IsTrue (takes_number y 1) → IsTrue (takes_number 1 x) → IsTrue (takes_number y x)
by_assign y x h k = grind (arith, nat_tests)

by_conditional : (y x : ℕ) → (y ≡ 2 → ⊥) → IsTrue (takes_number y 2) → IsTrue (takes_number 1 x) → IsTrue (takes_number y x)
by_conditional y x n h k = grind (arith, nat_tests)

by_unary : (y x : ℕ) → IsTrue (takes_number y 16) → IsTrue (takes_number 16 x) → IsTrue (takes_number y x)
by_unary y x h k = grind (arith, nat_tests)

by_step : (y x : ℕ) → IsTrue (takes_number y 17) → IsTrue (takes_number 18 x) → IsTrue (takes_number y x)
by_step y x h k = grind (arith, nat_tests)

by_new : (y x : ℕ) → IsTrue (takes_number y 19) → IsTrue (takes_number 19 x) → IsTrue (takes_number y x)
by_new y x h k = grind (arith, nat_tests)

-- that of `**`
pub tails_power : Tails Exponentiation Exponentiation
tails_power = record { highest = omega arith; least = omega arith; loose = λ h. absurd (omega arith); middle = λ h k. absurd (omega arith); tight = λ h. absurd (omega arith); passes = λ y x n h k. by_power y x h k }

-- an assignment, or an arrow with an expression as its body
pub tails_assign : Tails Assignment Assignment
tails_assign = record { highest = omega arith; least = omega arith; loose = λ h. omega arith; middle = λ h k. absurd (omega arith); tight = λ h. absurd (omega arith); passes = λ y x n h k. by_assign y x h k }

-- what stands behind the `:` of a conditional
pub tails_conditional : Tails Conditional Assignment
tails_conditional = record {
  highest = omega arith;
  least = omega arith;
  loose = λ h. omega arith;
  middle = λ h k. absurd (omega arith);
  tight = λ h. absurd (omega arith);
  passes = λ y x n h k. by_conditional y x (λ e. n e refl) h k;
}

-- the operand of a unary operator
pub tails_unary : Tails Unary Unary
tails_unary = record { highest = omega arith; least = omega arith; loose = λ h. absurd (omega arith); middle = λ h k. absurd (omega arith); tight = λ h. absurd (omega arith); passes = λ y x n h k. by_unary y x h k }

-- that of `++` and `--`
pub tails_step : Tails Update LeftHandSide
tails_step = record { highest = omega arith; least = omega arith; loose = λ h. absurd (omega arith); middle = λ h k. absurd (omega arith); tight = λ h. omega arith; passes = λ y x n h k. by_step y x h k }

-- `new` without arguments
pub tails_new : Tails New New
tails_new = record { highest = omega arith; least = omega arith; loose = λ h. absurd (omega arith); middle = λ h k. absurd (omega arith); tight = λ h. omega arith; passes = λ y x n h k. by_new y x h k }

rank_is : {y z : Rank} {i j : Bool} {f g : Start} → expr y i f ≡ expr z j g → y ≡ z
rank_is e = cc

some_is : {b c : Rank} → Some b ≡ Some c → b ≡ c
some_is e = cc

-- of a head at a, which takes z, and of a node at r, which q takes
record Bounds (a r z q : Rank) : Type 0 where
  above : precedence a ≤ precedence z
  below : precedence q ≤ precedence r

bounds : {h x : Rank} (a r z q : Rank) → h ≡ a → Some r ≡ Some x → IsTrue (takes h z) → IsTrue (takes q x) → Bounds a r z q
bounds a r z q e s k l = record { above = takes_less a z (subst (λ b. IsTrue (takes b z)) e k); below = takes_less q r (subst (λ b. IsTrue (takes q b)) (sym (some_is s)) l) }

callee_number : (b : Bool) → 20 ≤ precedence (cond b Member Call)
callee_number true = omega arith
callee_number false = omega arith

of_small : (q z r : ℕ) → r ≤ z → q ≤ r → 4 ≤ r → r ≤ 14 → (q ≤ 3 → z ≤ 2) → (4 ≤ q → q ≤ 14 → z < q) → ⊥
of_small q z r a b c d f g = grind arith

-- no operator that the last part's symbol takes has a head at which the node stands
pub no_further : {y : Rank} {i : Bool} {f : Start} {k : Kind} {w : List ℕ} {g : Flags} {ps : Parts} {h : Rank} {j : Bool} {f' : Start} {rest : List (PieceOf Role)} {o : Operator} {x : Rank} (n : Bool) (z q : Rank) →
    Led y i f k w g ps (expr h j f') rest o → rank_made_by o n ≡ Some x → Tails z q → IsTrue (takes h z) → IsTrue (takes q x) → ⊥
no_further {w = w} n z q (led_binary {z = r} {q = p} k op tk im b e) s u t l =
    let v = binding w op in let low = v.least in let most = v.most in let up = v.rises.0 in let c = bounds r r z q (rank_is b) s t l in let above = c.above in let below = c.below in
    of_small (precedence q) (precedence z) (precedence r) above below low (let most' : precedence r ≤ 14 = omega arith in most') u.loose u.middle
no_further n z q (led_power k op tk b e) s u t l = let c = bounds Update Exponentiation z q (rank_is b) s t l in let above = c.above in let below = c.below in let tight = u.tight (let a : 17 ≤ precedence z = omega arith in a) in absurd (omega arith)
no_further n z q (led_assign k op ta tk b e) s u t l = let c = bounds LeftHandSide Assignment z q (rank_is b) s t l in let above = c.above in let below = c.below in let tight = u.tight (let a : 17 ≤ precedence z = omega arith in a) in absurd (omega arith)
no_further true z q (led_postfix k op ta p tk b e) s u t l = cc
no_further false z q (led_postfix k op ta p tk b e) s u t l = let c = bounds LeftHandSide Update z q (rank_is b) s t l in let above = c.above in let below = c.below in let tight = u.tight (let a : 17 ≤ precedence z = omega arith in a) in absurd (omega arith)
no_further n z q (led_sequence k c tk b e) s u t l = let d = bounds Assignment Expression z q (rank_is b) s t l in let below = d.below in let least = u.least in absurd (omega arith)
no_further n z q (led_conditional k tk b e) s u t l = let c = bounds ShortCircuit Conditional z q (rank_is b) s t l in let above = c.above in let below = c.below in let loose = u.loose (let a : precedence q ≤ 3 = omega arith in a) in absurd (omega arith)
no_further {y} n z q (led_dot k o c d tk b e) s u t l = let v = bounds (callee_rank y) Member z q (rank_is b) s t l in let above = v.above in let high = u.highest in let twenty = callee_number (is_tight y) in absurd (omega arith)
no_further {y} n z q (led_index k o c d tk b e) s u t l = let v = bounds (callee_rank y) Member z q (rank_is b) s t l in let above = v.above in let high = u.highest in let twenty = callee_number (is_tight y) in absurd (omega arith)
no_further n z q (led_call k o d tk b e) s u t l = let v = bounds Call Call z q (rank_is b) s t l in let above = v.above in let high = u.highest in absurd (omega arith)
no_further {y} n z q (led_tag k tk b e) s u t l = let v = bounds (callee_rank y) Member z q (rank_is b) s t l in let above = v.above in let high = u.highest in let twenty = callee_number (is_tight y) in absurd (omega arith)
no_further n z q (led_chain k c tk b e) s u t l = cc
