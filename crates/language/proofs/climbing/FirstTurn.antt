-- Before the first turn of the loop: the leftmost part of all derivations at a position.
use Rattle.std.proofs.Common.{◌≡◌, ℕ, Bool, true, List, refl, sym, ap, ◌∙◌, subst}
use Rattle.std.specs.Prelude.{IsTrue}
use Rattle.std.proofs.lemmas.Bool.{false≢true}
use Rattle.tree.specs.declared.kind.Kind.{Kind}
use Rattle.language.specs.declared.Rank.{Rank}
use Rattle.language.specs.declared.Rank.TheVariants.{Relational}
use Rattle.language.specs.declared.Start.{Start}
use Rattle.tree.specs.declared.kind.Flags.{Flags}
use Rattle.tree.specs.declared.kind.Pair.{Pair}
use Rattle.tree.specs.Tree.{Tree, node, Parts}
use Rattle.language.specs.Vocabulary.{takes, precedence, Operator}
use Rattle.language.specs.Pieces.{Role, expr, chain_part, PieceOf}
use Rattle.language.specs.Token.{Token}
use Rattle.language.specs.Edges.{edge, edge_as_written}
use Rattle.language.specs.Promises.{IsDetermined, Stops, Absent}
use Rattle.language.specs.Grammar.{ways, spellings, own_start}
use Rattle.language.specs.Derivation.{Spells, direct, grouped, Runs}
use Rattle.language.proofs.climbing.Spine.{core_key, core_word, Core, group, plain, Grows, whole, grow, on_spine, grows_on_spine, spine_of}
use Rattle.language.proofs.table.ViewIsComplete.{way_of, made}
use Rattle.language.proofs.table.LeftRecursiveWays.{Led, led_binary, led_power, led_assign, led_postfix, led_sequence, led_conditional, led_dot, led_index, led_call, led_tag, led_chain, led_of, on_part, on_base, Linked, link_dot, link_index, link_call, link_chained_name, link_chained_index, link_chained_call, linked_of}
use Rattle.language.proofs.climbing.LeftmostParts.{no_spine_core}
use Rattle.language.proofs.table.Reaches.{is_loose, Reaches, reaches}
use Rattle.language.proofs.table.Tails.{Tails}
use Rattle.language.proofs.climbing.OperatorLoop.{Climbing, stops_inside}

-- the head of a way keeps the start of its node
led_start : {y : Rank} {i : Bool} {f : Start} {k : Kind} {w : List ℕ} {g : Flags} {ps : Parts} {b : Role} {rest : List (PieceOf Role)} {x : Operator} → Led y i f k w g ps b rest x → own_start b ≡ f
led_start (led_binary k op tk im b e) = ap own_start b
led_start (led_power k op tk b e) = ap own_start b
led_start (led_assign k op ta tk b e) = ap own_start b
led_start (led_postfix k op ta p tk b e) = ap own_start b
led_start (led_sequence k c tk b e) = ap own_start b
led_start (led_conditional k tk b e) = ap own_start b
led_start (led_dot k o c s tk b e) = ap own_start b
led_start (led_index k o c s tk b e) = ap own_start b
led_start (led_call k o s tk b e) = ap own_start b
led_start (led_tag k tk b e) = ap own_start b
led_start (led_chain k c tk b e) = ap own_start b

linked_start : {f : Start} {k : Kind} {g : Flags} {ps : Parts} {b : Role} {rest : List (PieceOf Role)} {x : Operator} → Linked f k g ps b rest x → own_start b ≡ f
linked_start (link_dot k o c fc b e) = ap own_start b
linked_start (link_index k o c fc b e) = ap own_start b
linked_start (link_call k o fc b e) = ap own_start b
linked_start (link_chained_name k o c (on_part t b) e) = ap own_start b
linked_start (link_chained_name k o c (on_base t u b) e) = ap own_start b
linked_start (link_chained_index k o c (on_part t b) e) = ap own_start b
linked_start (link_chained_index k o c (on_base t u b) e) = ap own_start b
linked_start (link_chained_call k o (on_part t b) e) = ap own_start b
linked_start (link_chained_call k o (on_base t u b) e) = ap own_start b

module _ (S : Type 0) (Next : S → Token → S → Type 0) (behind : S → Token) where
  -- so each position on a spine has the start of the whole
  pub grows_start : {o : ℕ} {s0 e : S} {y : Rank} {i : Bool} {f : Start} {n : Tree} {P : List Pair} {b : Role} {m : Tree} {mid : S} {Q : List Pair} → Grows S Next behind o s0 (expr y i f) n e P b m mid Q → own_start b ≡ f
  unfolding spellings
  grows_start whole = refl
  grows_start (grow {c = expr y2 i2 f2} {l = node k w g st en ps} t led pl eq d gs) = let v = way_of t in led_start (led_of y2 i2 f2 (made k v.listed) v.fit v.is led).led ∙ grows_start gs
  grows_start (grow {c = chain_part f2} {l = node k w g st en ps} t led pl eq d gs) = let v = way_of t in linked_start (linked_of f2 k v.listed v.is).linked ∙ grows_start gs
  grows_start (grow {c = _} t led pl eq d gs) = absurd (false≢true (grows_on_spine S Next behind refl gs))

  -- a core is spelled at its position
  pub core_spelled : {o : ℕ} {a : Role} {n : Tree} {s e : S} {P : List Pair} → Core S Next behind o a n s e P → Spells ways S Next behind o a n s e P
  core_spelled (group p d q) = grouped p d q
  core_spelled (core_key d) = d
  core_spelled (core_word d) = d
  core_spelled {o} {s = s} {e = e} {P = P} (plain qs h un pl eq d) = direct qs h pl (subst (λ v. Runs ways S Next behind o qs v s e P) (sym eq) d)

module _ (S : Type 0) (Next : S → Token → S → Type 0) (behind : S → Token) (det : IsDetermined S Next behind) where
  -- the leftmost part of a derivation that can't go on, which stands at the symbol h
  pub record Begun (o : ℕ) (s0 : S) (y : Rank) (i : Bool) (f : Start) (n : Tree) (e : S) (P : List Pair) (h : Rank) (j : Bool) (m : Tree) (mid : S) (Q : List Pair) : Type 0 where
    pub stopped : Stops S Next behind y i n e
    pub reached : Reaches y h i j
    pub core : Core S Next behind o (expr h j f) m s0 mid Q
    pub grows : Grows S Next behind o s0 (expr y i f) n e P (expr h j f) m mid Q

  -- what it begins with
  pub record Begins (o : ℕ) (s0 : S) (y : Rank) (i : Bool) (f : Start) (n : Tree) (e : S) (P : List Pair) : Type 0 where
    pub h : Rank
    pub j : Bool
    pub m : Tree
    pub mid : S
    pub Q : List Pair
    pub begun : Begun o s0 y i f n e P h j m mid Q

  -- each derivation that can't go on does so
  pub begins : {o : ℕ} {s0 : S} {y : Rank} {i : Bool} {f : Start} {n : Tree} {e : S} {P : List Pair} → Spells ways S Next behind o (expr y i f) n s0 e P → Stops S Next behind y i n e → Begins o s0 y i f n e P
  begins {o} {s0} {y} {i} {f} {n} {e} {P} d st = let u = spine_of S Next behind d in of u.role (grows_on_spine S Next behind refl u.grows) u.core u.grows
    where
      of : {m : Tree} {mid : S} {Q : List Pair} (b : Role) → on_spine b ≡ true → Core S Next behind o b m s0 mid Q → Grows S Next behind o s0 (expr y i f) n e P b m mid Q → Begins o s0 y i f n e P
      of {m} {mid} {Q} (expr h j g) on c gs =
          let same : g ≡ f = grows_start S Next behind gs in
          record {
            h = h;
            j = j;
            m = m;
            mid = mid;
            Q = Q;
            begun = record {
              stopped = st;
              reached = reaches S Next behind gs;
              core = subst (λ v. Core S Next behind o (expr h j v) m s0 mid Q) same c;
              grows = subst (λ v. Grows S Next behind o s0 (expr y i f) n e P (expr h j v) m mid Q) same gs;
            };
          }
      of (chain_part g) on c gs = absurd (no_spine_core S Next behind det c)
      of _ on c gs = absurd (false≢true on)

  module _ {y : Rank} {i : Bool} {f : Start} {s0 : S} where
    -- where all derivations begin with one leftmost part, at a position that takes its symbol, the loop begins with it
    pub climb_start : {o : ℕ} {r : Rank} {m : Tree} {mid : S} {Q : List Pair} → IsTrue (takes y r) →
        ((h : Rank) (j : Bool) → IsTrue (takes h r) → (is_loose h ≡ true → j ≡ i) → Spells ways S Next behind o (expr h j f) m s0 mid Q) →
        ((o' : ℕ) (n : Tree) (e : S) (P : List Pair) (h : Rank) (j : Bool) (m' : Tree) (mid' : S) (Q' : List Pair) → Begun o' s0 y i f n e P h j m' mid' Q' → (mid' ≡ mid) × (m' ≡ m) × (Q' ≡ Q) × IsTrue (takes h r)) →
        Climbing S Next behind det o y i f r s0 m mid Q
    climb_start {r = r} {m = m} {mid = mid} {Q = Q} low stands alone = record {
      low = low;
      stands = stands;
      leads = λ o' e' n' P' d st.
          let u = begins d st in
          let same = alone o' n' e' P' u.h u.j u.m u.mid u.Q u.begun in
          record {
            h = u.h;
            j = u.j;
            g = f;
            fits = same.3;
            spelled = subst (λ v. Spells ways S Next behind o' (expr u.h u.j f) m s0 mid v) same.2 (subst (λ v. Spells ways S Next behind o' (expr u.h u.j f) m s0 v u.Q) same.0 (subst (λ v. Spells ways S Next behind o' (expr u.h u.j f) v s0 u.mid u.Q) same.1 (core_spelled S Next behind u.begun.core)));
            grows = subst (λ v. Grows S Next behind o' s0 (expr y i f) n' e' P' (expr u.h u.j f) m mid v) same.2 (subst (λ v. Grows S Next behind o' s0 (expr y i f) n' e' P' (expr u.h u.j f) m v u.Q) same.0 (subst (λ v. Grows S Next behind o' s0 (expr y i f) n' e' P' (expr u.h u.j f) v u.mid u.Q) same.1 u.begun.grows));
          };
    }

    -- no leftmost part
    pub start_absent : ((o' : ℕ) (n : Tree) (e : S) (P : List Pair) (h : Rank) (j : Bool) (m : Tree) (mid : S) (Q : List Pair) → Begun o' s0 y i f n e P h j m mid Q → ⊥) → Absent S Next behind y i f s0
    start_absent missed = record { nothing = λ o' e' n' P' d st. (let u = begins d st in missed o' n' e' P' u.h u.j u.m u.mid u.Q u.begun) }

  -- nothing goes on behind the last part of a leftmost part either
  pub begun_stops : {o : ℕ} {s0 e : S} {y : Rank} {i : Bool} {f : Start} {n : Tree} {P : List Pair} {h : Rank} {j : Bool} {m : Tree} {mid : S} {Q : List Pair} (z q : Rank) (i' : Bool) (u : Tree) → Tails z q →
      (precedence z ≡ 2 → ⊥) → IsTrue (takes h z) → (takes q Relational ≡ true → i' ≡ j) → edge_as_written (edge m) (behind mid) ≡ edge_as_written (edge u) (behind mid) → Begun o s0 y i f n e P h j m mid Q → Stops S Next behind q i' u mid
  begun_stops z q i' u tails other stands ins same b = stops_inside S Next behind det z q i' u tails (λ k l. other l) stands ins same b.stopped b.grows
