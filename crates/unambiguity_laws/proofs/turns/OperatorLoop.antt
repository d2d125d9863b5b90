-- The loop over operators: from the leftmost part of an expression, turn by turn, up to the whole.
use Rattle.std.proofs.Common.{◌≡◌, ℕ, zero, suc, ◌+◌, ◌≤◌, ◌<◌, Bool, true, false, List, refl, sym, ◌∙◌, subst, ◌⊎◌, inl, inr, arith}
use Rattle.std.proofs.lemmas.Bool.{false≢true}
use Rattle.tokens.specs.declared.token.Goal.TheVariants.{Div, RegExp}
use Rattle.tree.specs.declared.kind.Flags.{Flags}
use Rattle.tree.specs.declared.kind.Kind.{Kind}
use Rattle.tree.specs.declared.kind.Pair.{Pair}
use Rattle.tree.specs.Tree.{Tree, node, Parts, height}
use Rattle.language.specs.declared.Rank.{Rank}
use Rattle.language.specs.declared.Rank.TheVariants.{Conditional, New}
use Rattle.language.specs.declared.Start.{Start}
use Rattle.language.specs.declared.Start.TheVariants.{Any}
use Rattle.language.specs.Vocabulary.{Operator, op_optional, op_none}
use Rattle.language.specs.Pieces.{Role, expr, chain_part, PieceOf}
use Rattle.language.specs.Token.{Token}
use Rattle.language.specs.ExpressionStart.{ExpressionStart, with_new, expression_start}
use Rattle.language.specs.Edges.{edge}
use Rattle.language.specs.Continuations.{operation, stops}
use Rattle.language.specs.Promises.{IsDetermined, ReadBy, Stops, Found, Callee, FoundCallee}
use Rattle.language.specs.Following.{IsAlike}
use Rattle.language.specs.Grammar.{ways, spellings}
use Rattle.language.specs.Derivation.{Spells}
use Rattle.language.proofs.climbing.Spine.{Grows, whole, grow, grows_on_spine}
use Rattle.language.proofs.table.ViewIsComplete.{way_of, made}
use Rattle.language.proofs.table.LeftRecursiveWays.{Led, led_of, led_chain, linked_of}
use Rattle.language.proofs.climbing.SpineContinuations.{led_read, linked_read}
use Rattle.language.proofs.climbing.NoContinuation.{Ended, ends_where_stops, no_spine}
use Rattle.language.proofs.climbing.OperatorLoop.{grows_height, Climbing, whole_where_stops}
use Rattle.language.proofs.climbing.LeftmostParts.{core_of}
use Rattle.language.proofs.climbing.FirstTurn.{Begun, begins}
use Rattle.language.proofs.climbing.Callees.{callee_new, as_callee, ClimbingCallee}
use Rattle.language.proofs.climbing.Suffixes.{argument_pieces}
use Rattle.unambiguity_laws.proofs.Unique.{Unique, UniqueParts, Expressions, Inner, Climbed, ClimbedCallee, Turn, CoreStep, NewCallee}
use Rattle.unambiguity_laws.proofs.turns.Turns.{turn}
use Rattle.unambiguity_laws.proofs.turns.TurnsAfterNew.{turn_callee}

module _ (S : Type 0) (Next : S → Token → S → Type 0) (behind : S → Token) (det : IsDetermined S Next behind) where
  -- it is the whole, or a token is read behind it
  data ReadsOn (a : Role) (n : Tree) (e : S) (P : List Pair) (b : Role) (m : Tree) (mid : S) (Q : List Pair) : Type 0 where
    no_more : Ended S Next behind det a n e P b m mid Q → ReadsOn a n e P b m mid Q
    one_more : (t : Token) (x : S) → ReadBy S Next behind Div mid t x → ReadsOn a n e P b m mid Q

  reads_on : {o : ℕ} {s0 e : S} {y : Rank} {i : Bool} {f : Start} {n : Tree} {P : List Pair} {h : Rank} {j : Bool} {f' : Start} {m : Tree} {mid : S} {Q : List Pair} →
      Grows S Next behind o s0 (expr y i f) n e P (expr h j f') m mid Q → ReadsOn (expr y i f) n e P (expr h j f') m mid Q
  unfolding spellings
  reads_on whole = no_more (record { role = refl; tree = refl; place = refl; pairs = refl })
  reads_on {h = h} {j = j} {f' = f'} (grow {c = expr y2 i2 f2} {l = node k w g st en ps} {rest = rest} t led pl eq d gs) =
      let v = way_of t in
      let u = led_of y2 i2 f2 (made k v.listed) v.fit v.is led in
      let w = led_read S Next behind det u.led (some u.led) d in
      one_more w.token w.mid w.read
    where
      some : {y : Rank} {i : Bool} {f : Start} {k : Kind} {w : List ℕ} {g : Flags} {ps : Parts} {rest : List (PieceOf Role)} {x : Operator} → Led y i f k w g ps (expr h j f') rest x → x ≡ op_none → ⊥
      some (led_chain k c tk b e) x = no_spine b
      some _ x = cc
  reads_on (grow {c = chain_part f2} {l = node k w g st en ps} t led pl eq d gs) =
      let v = way_of t in
      let w = linked_read S Next behind det (linked_of f2 k v.listed v.is).linked d in
      one_more w.token w.mid w.read
  reads_on (grow {c = _} t led pl eq d gs) = absurd (false≢true (grows_on_spine S Next behind refl gs))

  -- it is the whole, or a token is read behind it with which it goes on
  data GoesOn (y : Rank) (i : Bool) (a : Role) (n : Tree) (e : S) (P : List Pair) (b : Role) (m : Tree) (mid : S) (Q : List Pair) : Type 0 where
    no_further : Ended S Next behind det a n e P b m mid Q → GoesOn y i a n e P b m mid Q
    further : (t : Token) (x : S) → ReadBy S Next behind Div mid t x → stops y i (edge m) (behind mid) t ≡ false → GoesOn y i a n e P b m mid Q

  goes_further : {o : ℕ} {s0 e : S} {y : Rank} {i : Bool} {f : Start} {n : Tree} {P : List Pair} {h : Rank} {j : Bool} {f' : Start} {m : Tree} {mid : S} {Q : List Pair} → Spells ways S Next behind o (expr h j f') m s0 mid Q →
      Grows S Next behind o s0 (expr y i f) n e P (expr h j f') m mid Q → GoesOn y i (expr y i f) n e P (expr h j f') m mid Q
  goes_further {o} {s0} {e} {y} {i} {f} {n} {P} {h} {j} {f'} {m} {mid} {Q} sp gs = of (reads_on gs)
    where
      of : ReadsOn (expr y i f) n e P (expr h j f') m mid Q → GoesOn y i (expr y i f) n e P (expr h j f') m mid Q
      of (no_more v) = no_further v
      of (one_more t x r) = decide (stops y i (edge m) (behind mid) t) refl
        where
          decide : (b : Bool) → stops y i (edge m) (behind mid) t ≡ b → GoesOn y i (expr y i f) n e P (expr h j f') m mid Q
          decide true k = no_further (ends_where_stops S Next behind det sp r k gs)
          decide false k = further t x r k

  -- what can't go on, told of what is equal
  stopped_at : (y : Rank) (i : Bool) {n m : Tree} {e mid : S} → n ≡ m → e ≡ mid → Stops S Next behind y i n e → Stops S Next behind y i m mid
  stopped_at y i {n} {m} {e} {mid} a b st = subst (λ v. Stops S Next behind y i m v) b (subst (λ v. Stops S Next behind y i v e) a st)

-- an opening is `new`, or isn't
is_new : (z : ExpressionStart) → (z ≡ with_new) ⊎ (z ≡ with_new → ⊥)
is_new with_new = inl refl
is_new _ = inr (λ e. cc)

-- an operator is `?.`, or isn't
is_chain : (z : Operator) → (z ≡ op_optional) ⊎ (z ≡ op_optional → ⊥)
is_chain op_optional = inl refl
is_chain _ = inr (λ e. cc)

module _ (S : Type 0) (Next : S → Token → S → Type 0) (behind : S → Token) (det : IsDetermined S Next behind) (alike : IsAlike S Next behind) {h : ℕ} (u : Unique S Next behind det h) where
  module _ (arguments : UniqueParts S Next behind det h argument_pieces) (chain_turn : Turn S Next behind det h op_optional) where
    any_turn : (z : Operator) → Turn S Next behind det h z
    any_turn z = of (is_chain z)
      where
        of : (z ≡ op_optional) ⊎ (z ≡ op_optional → ⊥) → Turn S Next behind det h z
        of (inl e) = subst (λ v. Turn S Next behind det h v) (sym e) chain_turn
        of (inr e) = turn S Next behind det alike u arguments z e

    -- it is the whole, or there is one turn more
    step_whole : {o : ℕ} {y : Rank} {i : Bool} {f : Start} {n : Tree} {s0 e : S} {P : List Pair} {r a : Rank} {j : Bool} {g : Start} {m : Tree} {mid : S} {Q : List Pair} (k : ℕ) → (y ≡ Conditional → ⊥) → (y ≡ New → ⊥) → height n ≤ suc h →
        Spells ways S Next behind o (expr y i f) n s0 e P → Stops S Next behind y i n e → Climbing S Next behind det o y i f r s0 m mid Q → height n < height m + suc k → GoesOn S Next behind det y i (expr y i f) n e P (expr a j g) m mid Q →
        ((m' : Tree) (mid' : S) (Q' : List Pair) → Climbed S Next behind det o y i f s0 m' mid' Q' → height n < height m' + k → Found S Next behind o y i f s0 e n P) → Found S Next behind o y i f s0 e n P
    step_whole {y = y} {i = i} k no_test no_new low d st climb more (no_further same) next = record {
      spelled = d;
      stopped = st;
      only = λ o' e' n' P' d' st'.
          let v = climb.leads o' e' n' P' d' st' in
          let w = whole_where_stops S Next behind det v.spelled (stopped_at S Next behind det y i same.tree same.place st) v.grows in
          (w.place ∙ sym same.place, w.tree ∙ sym same.tree, w.pairs ∙ sym same.pairs);
    }
    step_whole k no_test no_new low d st climb more (further t x r goes) next =
        let w = (any_turn (operation t)).gives no_test no_new low d st climb r refl goes in
        let up = w.taller in
        next w.tree w.place w.pairs w.climbed (omega arith)

    -- so many turns lead to the whole
    climbed_whole : {o : ℕ} {y : Rank} {i : Bool} {f : Start} {n : Tree} {s0 e : S} {P : List Pair} (bound : ℕ) (m : Tree) (mid : S) (Q : List Pair) → (y ≡ Conditional → ⊥) → (y ≡ New → ⊥) → height n ≤ suc h → Spells ways S Next behind o (expr y i f) n s0 e P →
        Stops S Next behind y i n e → Climbed S Next behind det o y i f s0 m mid Q → height n < height m + bound → Found S Next behind o y i f s0 e n P
    climbed_whole {o} {y} {i} {f} {n} {s0} {e} {P} zero m mid Q no_test no_new low d st c more =
        let v = c.climbing.leads o e n P d st in
        let below = grows_height S Next behind det v.grows in
        absurd (omega arith)
    climbed_whole {o} {y} {i} {f} {n} {s0} {e} {P} (suc k) m mid Q no_test no_new low d st c more =
        let v = c.climbing.leads o e n P d st in
        step_whole k no_test no_new low d st c.climbing more (goes_further S Next behind det v.spelled v.grows) (λ m' mid' Q' c' l. climbed_whole k m' mid' Q' no_test no_new low d st c' l)

    -- a step of the loop behind `new`
    step_callee : {o : ℕ} {n : Tree} {s0 e : S} {P : List Pair} {r a : Rank} {j : Bool} {g : Start} {m : Tree} {mid : S} {Q : List Pair} (k : ℕ) → height n ≤ suc h →
        Callee S Next behind o n s0 e P → Stops S Next behind New true n e → ClimbingCallee S Next behind det o r s0 m mid Q → height n < height m + suc k → GoesOn S Next behind det New true (expr New true Any) n e P (expr a j g) m mid Q →
        ((m' : Tree) (mid' : S) (Q' : List Pair) → ClimbedCallee S Next behind det o s0 m' mid' Q' → height n < height m' + k → FoundCallee S Next behind o s0 e n P) → FoundCallee S Next behind o s0 e n P
    step_callee k low d st climb more (no_further same) next = record {
      callee = d;
      stopped = st;
      only = λ o' e' n' P' d' st'.
          let v = climb.leads o' e' n' P' d' st' in
          let w = whole_where_stops S Next behind det v.spelled (stopped_at S Next behind det New true same.tree same.place st) v.grows in
          (w.place ∙ sym same.place, w.tree ∙ sym same.tree, w.pairs ∙ sym same.pairs);
    }
    step_callee k low d st climb more (further t x r goes) next =
        let w = (turn_callee S Next behind det alike u (operation t)).gives low d st climb r refl goes in
        let up = w.taller in
        next w.tree w.place w.pairs w.climbed (omega arith)

    climbed_callee : {o : ℕ} {n : Tree} {s0 e : S} {P : List Pair} (bound : ℕ) (m : Tree) (mid : S) (Q : List Pair) → height n ≤ suc h → Callee S Next behind o n s0 e P → Stops S Next behind New true n e → ClimbedCallee S Next behind det o s0 m mid Q →
        height n < height m + bound → FoundCallee S Next behind o s0 e n P
    climbed_callee {o} {n} {s0} {e} {P} zero m mid Q low d st c more =
        let v = c.climbing.leads o e n P d st in
        let below = grows_height S Next behind det v.grows in
        absurd (omega arith)
    climbed_callee {o} {n} {s0} {e} {P} (suc k) m mid Q low d st c more =
        let v = c.climbing.leads o e n P d st in
        step_callee k low d st c.climbing more (goes_further S Next behind det v.spelled v.grows) (λ m' mid' Q' c' l. climbed_callee k m' mid' Q' low d st c' l)

    module _ (cores : (z : ExpressionStart) → CoreStep S Next behind det h z) (new_callee : NewCallee S Next behind det h) where
      expression_found : {o : ℕ} {y : Rank} {i : Bool} {f : Start} {n : Tree} {s0 e : S} {P : List Pair} → Inner S Next behind det o (suc h) → height n ≤ suc h → (y ≡ Conditional → ⊥) → (y ≡ New → ⊥) → Spells ways S Next behind o (expr y i f) n s0 e P →
          Stops S Next behind y i n e → Found S Next behind o y i f s0 e n P
      expression_found {n = n} inner low no_test no_new d st =
          let b = begins S Next behind det d st in
          let c = core_of S Next behind det b.begun.core in
          let climbed = (cores c.opening).gives (λ k. no_new) inner low b.begun c.begins.read c.begins.opens in
          climbed_whole (suc (height n)) b.m b.mid b.Q no_test no_new low d st climbed (omega arith)

      -- what stands in a group has fewer parentheses left
      inner_of : (o : ℕ) → Inner S Next behind det o (suc h)
      inner_of zero = record { gives = λ e low d st. absurd (omega arith) }
      inner_of (suc o) = record { gives = λ {less} e low d st. expression_found (subst (λ v. Inner S Next behind det v (suc h)) (let same : o ≡ less = omega arith in same) (inner_of o)) low (λ k. cc) (λ k. cc) d st }

      callee_begun : {o : ℕ} {n : Tree} {s0 e : S} {P : List Pair} → height n ≤ suc h → Callee S Next behind o n s0 e P → Stops S Next behind New true n e → FoundCallee S Next behind o s0 e n P
      callee_begun {o} {n} {s0} {e} {P} low d st =
          let b = begins S Next behind det (callee_new S Next behind d) st in
          let c = core_of S Next behind det b.begun.core in
          of c.opening (is_new c.opening) b.begun c.begins.read c.begins.opens
        where
          of : {q : Rank} {j : Bool} {m : Tree} {mid m0 : S} {Q : List Pair} {t : Token} (z : ExpressionStart) → (z ≡ with_new) ⊎ (z ≡ with_new → ⊥) → Begun S Next behind det o s0 New true Any n e P q j m mid Q → ReadBy S Next behind RegExp s0 t m0 → expression_start t ≡ z →
              FoundCallee S Next behind o s0 e n P
          of z (inl k) b r op = let c = new_callee.gives low d st r (op ∙ k) in climbed_callee (suc (height n)) c.tree c.place c.pairs low d st c.climbed (omega arith)
          of {m = m} {mid = mid} {Q = Q} z (inr k) b r op =
              let c = (cores z).gives (λ l. absurd (k l)) (inner_of o) low b r op in
              climbed_callee (suc (height n)) m mid Q low d st (record { symbol = c.symbol; climbing = as_callee S Next behind det c.climbing }) (omega arith)

      -- Expressions of the next height.
      pub expressions_step : Expressions S Next behind det (suc h)
      expressions_step = record {
        found = λ {o} {y} {i} {f} {n} {s} {e} {P} low no_test no_new d st. expression_found (inner_of o) low no_test no_new d st;
        callee = λ {o} {n} {s} {e} {P} low d st. callee_begun low d st;
      }
