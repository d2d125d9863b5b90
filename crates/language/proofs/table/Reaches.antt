-- Outward along a spine: the position of the whole takes what the position of a head takes, and at loose symbols In stays.
use Rattle.std.proofs.Common.{◌≡◌, ℕ, ◌≤◌, ◌<◌, Bool, true, false, cond, List, refl, sym, ap, ◌∙◌, subst, arith}
use Rattle.std.specs.Prelude.{IsTrue, nat_le, not, Some}
use Rattle.std.proofs.lemmas.Bool.{false≢true}
use Rattle.std.proofs.lemmas.Bool.Decides.{nat_tests}
use Rattle.tree.specs.declared.kind.Kind.{Kind}
use Rattle.language.specs.declared.Rank.{Rank}
use Rattle.language.specs.declared.Rank.TheVariants.{Expression, Conditional, LeftHandSide, Call, Member}
use Rattle.language.specs.declared.Start.{Start}
use Rattle.tree.specs.declared.kind.Flags.{Flags}
use Rattle.tree.specs.declared.kind.Pair.{Pair}
use Rattle.tree.specs.Tree.{Tree, node, Parts}
use Rattle.language.specs.Vocabulary.{takes, takes_number, precedence, Operator, op_binary, operator_of}
use Rattle.language.specs.Pieces.{Role, expr, chain_part, PieceOf, is_tight}
use Rattle.language.specs.Token.{Token}
use Rattle.language.specs.Continuations.{rank_made_by}
use Rattle.language.specs.Grammar.{spellings}
use Rattle.language.proofs.table.OperatorFacts.{binding}
use Rattle.language.proofs.table.ViewIsComplete.{way_of, made}
use Rattle.language.proofs.climbing.Spine.{Grows, whole, grow, grows_on_spine}
use Rattle.language.proofs.table.LeftRecursiveWays.{Led, led_binary, led_power, led_assign, led_postfix, led_sequence, led_conditional, led_dot, led_index, led_call, led_tag, led_chain, led_of, on_part, on_base, Linked, link_dot, link_index, link_call, link_chained_name, link_chained_index, link_chained_call, linked_of}

-- a symbol down to Exponentiation, where In matters or operators stand
abbrev pub is_loose : Rank → Bool
is_loose y = nat_le (precedence y) 15

-- the position of symbol y and In i takes what a head of symbol h and In j takes
pub record Reaches (y h : Rank) (i j : Bool) : Type 0 where
  pub taken : (r : Rank) → IsTrue (takes h r) → IsTrue (takes y r)
  pub same_in : is_loose h ≡ true → (is_loose y ≡ true) × (j ≡ i)

by_binary : (y z r : ℕ) → 4 ≤ z → z ≤ 15 → IsTrue (takes_number y z) → IsTrue (takes_number z r) → IsTrue (takes_number y r)
by_binary y z r a b h k = grind (arith, nat_tests)

by_power : (y r : ℕ) → IsTrue (takes_number y 15) → IsTrue (takes_number 17 r) → IsTrue (takes_number y r)
by_power y r h k = grind (arith, nat_tests)

by_assign : (y r : ℕ) → IsTrue (takes_number y 1) → IsTrue (takes_number 18 r) → IsTrue (takes_number y r)
by_assign y r h k = grind (arith, nat_tests)

by_postfix : (y r : ℕ) → IsTrue (takes_number y 17) → IsTrue (takes_number 18 r) → IsTrue (takes_number y r)
by_postfix y r h k = grind (arith, nat_tests)

by_sequence : (y r : ℕ) → IsTrue (takes_number y 0) → IsTrue (takes_number 1 r) → IsTrue (takes_number y r)
by_sequence y r h k = grind (arith, nat_tests)

by_conditional : (y r : ℕ) → IsTrue (takes_number y 2) → IsTrue (takes_number 3 r) → IsTrue (takes_number y r)
by_conditional y r h k = grind (arith, nat_tests)

by_call : (y r : ℕ) → IsTrue (takes_number y 20) → IsTrue (takes_number 20 r) → IsTrue (takes_number y r)
by_call y r h k = grind (arith, nat_tests)

by_member : (y r : ℕ) → IsTrue (takes_number y 21) → IsTrue (takes_number 21 r) → IsTrue (takes_number y r)
by_member y r h k = grind (arith, nat_tests)

pub by_chain : (y r : ℕ) → IsTrue (takes_number y 18) → IsTrue (takes_number 20 r) → IsTrue (takes_number y r)
by_chain y r h k = grind (arith, nat_tests)

at_most : (a b : ℕ) → IsTrue (takes_number a b) → nat_le b 15 ≡ true → nat_le a 15 ≡ true
at_most a b h k = grind (arith, nat_tests)

pub loose_of : (y z : Rank) → IsTrue (takes y z) → is_loose z ≡ true → is_loose y ≡ true
loose_of y z h k = at_most (precedence y) (precedence z) h k

rank_is : {y z : Rank} {i j : Bool} {f g : Start} → expr y i f ≡ expr z j g → y ≡ z
rank_is e = cc

in_is : {y z : Rank} {i j : Bool} {f g : Start} → expr y i f ≡ expr z j g → i ≡ j
in_is e = cc

-- from a head at a fixed symbol, which is loose
of_loose : {y h a : Rank} {i j : Bool} (z : Rank) → h ≡ a → j ≡ i → IsTrue (takes y z) → is_loose z ≡ true → ((r : Rank) → IsTrue (takes a r) → IsTrue (takes y r)) → Reaches y h i j
of_loose {y} z e k t l f = record { taken = λ r u. f r (subst (λ b. IsTrue (takes b r)) e u); same_in = λ u. (loose_of y z t l, k) }

-- or isn't
of_tight : {y h a : Rank} {i j : Bool} → h ≡ a → is_loose a ≡ false → ((r : Rank) → IsTrue (takes a r) → IsTrue (takes y r)) → Reaches y h i j
of_tight e l f = record { taken = λ r u. f r (subst (λ b. IsTrue (takes b r)) e u); same_in = λ u. absurd (false≢true (sym l ∙ sym (ap is_loose e) ∙ u)) }

callee_reaches : (y : Rank) → IsTrue (takes y Member) → (b : Bool) → takes y Call ≡ b → (r : Rank) → IsTrue (takes (cond (not b) Member Call) r) → IsTrue (takes y r)
callee_reaches y t true e r u = by_call (precedence y) (precedence r) e u
callee_reaches y t false e r u = by_member (precedence y) (precedence r) t u

callee_tight : (b : Bool) → is_loose (cond b Member Call) ≡ false
callee_tight true = refl
callee_tight false = refl

small : (a b : ℕ) → a < b → b ≤ 15 → nat_le a 15 ≡ true
small a b h k = grind (arith, nat_tests)

-- the symbol of an operator with two sides is loose
pub binds_loose : (w : List ℕ) {l : Bool} {z q : Rank} → operator_of w ≡ op_binary l z q → is_loose z ≡ true
binds_loose w {z = z} {q = q} h = let u = binding w h in small (precedence z) (precedence q) u.rises.0 u.most

pub led_reaches : {y : Rank} {i : Bool} {f : Start} {k : Kind} {w : List ℕ} {g : Flags} {ps : Parts} {h : Rank} {j : Bool} {f' : Start} {rest : List (PieceOf Role)} {x : Operator} →
    Led y i f k w g ps (expr h j f') rest x → Reaches y h i j
led_reaches {y} {w = w} (led_binary {z = z} {q = q} k op tk im b e) = let u = binding w op in
    let up = u.rises.0 in let low = u.least in let most = u.most in
    of_loose z (rank_is b) (in_is b) tk (small (precedence z) (precedence q) up most) (λ r t. by_binary (precedence y) (precedence z) (precedence r) low (omega arith) tk t)
led_reaches {y} (led_power k op tk b e) = of_tight (rank_is b) refl (λ r t. by_power (precedence y) (precedence r) tk t)
led_reaches {y} (led_assign k op ta tk b e) = of_tight (rank_is b) refl (λ r t. by_assign (precedence y) (precedence r) tk t)
led_reaches {y} (led_postfix k op ta p tk b e) = of_tight (rank_is b) refl (λ r t. by_postfix (precedence y) (precedence r) tk t)
led_reaches {y} (led_sequence k c tk b e) = of_loose Expression (rank_is b) (in_is b) tk refl (λ r t. by_sequence (precedence y) (precedence r) tk t)
led_reaches {y} (led_conditional k tk b e) = of_loose Conditional (rank_is b) (in_is b) tk refl (λ r t. by_conditional (precedence y) (precedence r) tk t)
led_reaches {y} (led_dot k o c s tk b e) = of_tight (rank_is b) (callee_tight (is_tight y)) (callee_reaches y tk (takes y Call) refl)
led_reaches {y} (led_index k o c s tk b e) = of_tight (rank_is b) (callee_tight (is_tight y)) (callee_reaches y tk (takes y Call) refl)
led_reaches {y} (led_call k o s tk b e) = of_tight (rank_is b) refl (λ r t. by_call (precedence y) (precedence r) tk t)
led_reaches {y} (led_tag k tk b e) = of_tight (rank_is b) (callee_tight (is_tight y)) (callee_reaches y tk (takes y Call) refl)
led_reaches (led_chain k c tk b e) = cc

-- a chain's part is led by the base at Call alone
pub linked_base : {f : Start} {k : Kind} {g : Flags} {ps : Parts} {h : Rank} {j : Bool} {f' : Start} {rest : List (PieceOf Role)} {x : Operator} → Linked f k g ps (expr h j f') rest x → h ≡ Call
linked_base (link_dot k o c fc b e) = cc
linked_base (link_index k o c fc b e) = cc
linked_base (link_call k o fc b e) = cc
linked_base (link_chained_name k o c (on_part t b) e) = cc
linked_base (link_chained_name k o c (on_base t u b) e) = rank_is b
linked_base (link_chained_index k o c (on_part t b) e) = cc
linked_base (link_chained_index k o c (on_base t u b) e) = rank_is b
linked_base (link_chained_call k o (on_part t b) e) = cc
linked_base (link_chained_call k o (on_base t u b) e) = rank_is b

-- what is known of a position on the spine of an expression of symbol y and In i
abbrev pub ReachesFrom : Rank → Bool → Role → Type 0
ReachesFrom y i (expr h j f) = Reaches y h i j
ReachesFrom y i (chain_part f) = IsTrue (takes y LeftHandSide)
ReachesFrom y i _ = ⊥

led_spine : {y : Rank} {i : Bool} {f : Start} {k : Kind} {w : List ℕ} {g : Flags} {ps : Parts} {f' : Start} {rest : List (PieceOf Role)} {x : Operator} → Led y i f k w g ps (chain_part f') rest x → IsTrue (takes y LeftHandSide)
led_spine (led_chain k c tk b e) = tk
led_spine (led_binary k op tk im b e) = cc
led_spine (led_power k op tk b e) = cc
led_spine (led_assign k op ta tk b e) = cc
led_spine (led_postfix k op ta p tk b e) = cc
led_spine (led_sequence k c tk b e) = cc
led_spine (led_conditional k tk b e) = cc
led_spine (led_dot k o c s tk b e) = cc
led_spine (led_index k o c s tk b e) = cc
led_spine (led_call k o s tk b e) = cc
led_spine (led_tag k tk b e) = cc

some_is : {a b : Rank} → Some a ≡ Some b → a ≡ b
some_is e = cc

-- the symbol of the node that an operator makes stands at the node's position
pub led_symbol : {y : Rank} {i : Bool} {f : Start} {k : Kind} {w : List ℕ} {g : Flags} {ps : Parts} {b : Role} {rest : List (PieceOf Role)} {x : Operator} {z : Rank} (n : Bool) →
    Led y i f k w g ps b rest x → rank_made_by x n ≡ Some z → IsTrue (takes y z)
led_symbol {y} n (led_binary k op tk im b e) h = subst (λ r. IsTrue (takes y r)) (some_is h) tk
led_symbol {y} n (led_power k op tk b e) h = subst (λ r. IsTrue (takes y r)) (some_is h) tk
led_symbol {y} n (led_assign k op ta tk b e) h = subst (λ r. IsTrue (takes y r)) (some_is h) tk
led_symbol {y} true (led_postfix k op ta p tk b e) h = cc
led_symbol {y} false (led_postfix k op ta p tk b e) h = subst (λ r. IsTrue (takes y r)) (some_is h) tk
led_symbol {y} n (led_sequence k c tk b e) h = subst (λ r. IsTrue (takes y r)) (some_is h) tk
led_symbol {y} n (led_conditional k tk b e) h = subst (λ r. IsTrue (takes y r)) (some_is h) tk
led_symbol {y} n (led_dot k o c s tk b e) h = subst (λ r. IsTrue (takes y r)) (some_is h) tk
led_symbol {y} n (led_index k o c s tk b e) h = subst (λ r. IsTrue (takes y r)) (some_is h) tk
led_symbol {y} n (led_call k o s tk b e) h = subst (λ r. IsTrue (takes y r)) (some_is h) tk
led_symbol {y} n (led_tag k tk b e) h = subst (λ r. IsTrue (takes y r)) (some_is h) tk
led_symbol {y} n (led_chain k c tk b e) h = cc

chain_takes : (y z : Rank) → IsTrue (takes y LeftHandSide) → IsTrue (takes Call z) → IsTrue (takes y z)
chain_takes y z h k = by_chain (precedence y) (precedence z) h k

pub linked_symbol : {f : Start} {k : Kind} {g : Flags} {ps : Parts} {b : Role} {rest : List (PieceOf Role)} {x : Operator} {z : Rank} (y : Rank) (n : Bool) →
    IsTrue (takes y LeftHandSide) → Linked f k g ps b rest x → rank_made_by x n ≡ Some z → IsTrue (takes y z)
linked_symbol y n t (link_dot k o c fc b e) h = subst (λ r. IsTrue (takes y r)) (some_is h) (chain_takes y Member t refl)
linked_symbol y n t (link_index k o c fc b e) h = subst (λ r. IsTrue (takes y r)) (some_is h) (chain_takes y Member t refl)
linked_symbol y n t (link_call k o fc b e) h = subst (λ r. IsTrue (takes y r)) (some_is h) (chain_takes y Call t refl)
linked_symbol y n t (link_chained_name k o c b e) h = subst (λ r. IsTrue (takes y r)) (some_is h) t
linked_symbol y n t (link_chained_index k o c b e) h = subst (λ r. IsTrue (takes y r)) (some_is h) t
linked_symbol y n t (link_chained_call k o b e) h = subst (λ r. IsTrue (takes y r)) (some_is h) t

module _ (S : Type 0) (Next : S → Token → S → Type 0) (behind : S → Token) where
  -- so each position on the spine of an expression is reached
  pub reaches : {o : ℕ} {s0 e : S} {y : Rank} {i : Bool} {f : Start} {n : Tree} {P : List Pair} {b : Role} {m : Tree} {mid : S} {Q : List Pair} → Grows S Next behind o s0 (expr y i f) n e P b m mid Q → ReachesFrom y i b
  unfolding spellings
  reaches whole = record { taken = λ r h. h; same_in = λ h. (h, refl) }
  reaches {y = y} {i = i} {b = expr h j f'} (grow {c = expr y2 i2 f2} {l = node k w g st en ps} t led pl eq d gs) =
      let v = way_of t in
      let u = led_reaches (led_of y2 i2 f2 (made k v.listed) v.fit v.is led).led in
      let out = reaches gs in
      record { taken = λ r h. out.taken r (u.taken r h); same_in = λ h. let a = u.same_in h in let c = out.same_in a.0 in (c.0, a.1 ∙ c.1) }
  reaches {y = y} {i = i} {b = chain_part f'} (grow {c = expr y2 i2 f2} {l = node k w g st en ps} t led pl eq d gs) =
      let v = way_of t in
      let out = reaches gs in
      out.taken LeftHandSide (led_spine (led_of y2 i2 f2 (made k v.listed) v.fit v.is led).led)
  reaches {y = y} {i = i} {b = expr h j f'} (grow {c = chain_part f2} {l = node k w g st en ps} t led pl eq d gs) =
      let v = way_of t in
      let e = linked_base (linked_of f2 k v.listed v.is).linked in
      of_tight e refl (λ r u. by_chain (precedence y) (precedence r) (reaches gs) u)
  reaches {b = chain_part f'} (grow {c = chain_part f2} t led pl eq d gs) = reaches gs
  reaches {b = expr h j f'} (grow {c = _} t led pl eq d gs) = absurd (false≢true (grows_on_spine S Next behind refl gs))
  reaches {b = chain_part f'} (grow {c = _} t led pl eq d gs) = absurd (false≢true (grows_on_spine S Next behind refl gs))
  reaches {b = _} (grow t led pl eq d gs) = absurd (false≢true led)
