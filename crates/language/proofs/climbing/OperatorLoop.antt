-- The loop over the operators: what is known of all derivations at a position before each turn, and behind the last.
use Rattle.std.proofs.Common.{◌≡◌, ℕ, ◌≤◌, Bool, true, false, List, ◌++◌, refl, sym, ap, ◌∙◌, subst, arith}
use Rattle.std.specs.Prelude.{IsTrue, Some, None, Option, not, ◌&&◌, ◌||◌, max, codes}
use Rattle.std.proofs.lemmas.Bool.{false≢true}
use Rattle.std.proofs.lemmas.Slice.Eq.{bytes_eq-Decides}
use Rattle.tokens.specs.declared.token.TokenClass.{TokenClass}
use Rattle.tokens.specs.declared.token.TokenClass.TheVariants.{IdentifierName, Punctuator, NumericLiteral, StringLiteral, Template, RegularExpressionLiteral, PrivateName, Keyword, End}
use Rattle.tokens.specs.declared.token.Goal.TheVariants.{Div}
use Rattle.tree.specs.declared.kind.Kind.{Kind}
use Rattle.language.specs.declared.Rank.{Rank}
use Rattle.language.specs.declared.Rank.TheVariants.{Relational, Shift, Call}
use Rattle.language.specs.declared.Start.{Start}
use Rattle.language.specs.declared.Edge.{Edge}
use Rattle.tree.specs.declared.kind.Flags.{Flags}
use Rattle.tree.specs.declared.kind.Pair.{Pair}
use Rattle.tree.specs.Tree.{Tree, node, Parts, part, height, parts_height, bare, bare_parts}
use Rattle.tree.specs.Uses.{implies, is_lean}
use Rattle.language.specs.Vocabulary.{is, takes, precedence, Operator, op_binary, op_optional, op_none}
use Rattle.language.specs.Pieces.{Role, expr, chain_part, PieceOf}
use Rattle.language.specs.Token.{Token}
use Rattle.language.specs.Edges.{edge, edge_as_written}
use Rattle.language.specs.Continuations.{of_class, operation, rank_made_by, holds, stops_at, stops}
use Rattle.language.specs.Promises.{IsDetermined, ReadBy, Stops, Found}
use Rattle.language.specs.Grammar.{ways, spellings}
use Rattle.language.specs.Derivation.{Spells, Runs, Placed}
use Rattle.language.proofs.climbing.Spine.{Grows, whole, grow, grows_on_spine}
use Rattle.language.proofs.table.ViewIsComplete.{way_of, made}
use Rattle.language.proofs.table.LeftRecursiveWays.{Led, led_of, Linked, link_dot, link_index, link_call, link_chained_name, link_chained_index, link_chained_call, linked_of, led_chain}
use Rattle.language.proofs.climbing.SpineContinuations.{Onward, ended, by_led, by_link, by_chain, onward, led_read, linked_read}
use Rattle.language.proofs.table.Reaches.{is_loose, linked_base}
use Rattle.language.proofs.table.Tails.{Tails, no_further}
use Rattle.language.proofs.table.RightEdges.{takes_less}
use Rattle.language.proofs.climbing.NoContinuation.{Ended, ends_where_stops, no_spine, led_makes}
use Rattle.language.proofs.climbing.NamesBehind.{apart_inside}

-- what the test says where something goes on
pub record GoesOn (q : Rank) (i : Bool) (x : Edge) (t : Token) (s : Option Rank) : Type 0 where
  pub symbol : Rank
  pub makes : s ≡ Some symbol
  pub taken : takes q symbol ≡ true
  pub has_in : implies (is t.text "in") i ≡ true
  pub held : holds x symbol ≡ true

three : (a b c d : Bool) → (not a || ((b && not c) || not d)) ≡ false → (a ≡ true) × ((not b || c) ≡ true) × (d ≡ true)
three true true true true h = (refl, refl, refl)
three true false c true h = (refl, refl, refl)
three true true false d h = cc
three true b c false h = last b c h
  where
    last : (b c : Bool) → ((b && not c) || true) ≡ false → (true ≡ true) × ((not b || c) ≡ true) × (false ≡ true)
    last true true h = cc
    last true false h = cc
    last false c h = cc
three false b c d h = cc

not_three : (a b c d : Bool) → a ≡ true → (not b || c) ≡ true → d ≡ true → (not a || ((b && not c) || not d)) ≡ true → ⊥
not_three true true true true h k l m = cc
not_three true true false d h k l m = cc
not_three true false c true h k l m = cc
not_three a b c false h k l m = cc
not_three false b c d h k l m = cc

goes_on_at : (q : Rank) (i : Bool) (x : Edge) (t : Token) (s : Option Rank) → stops_at q i x t s ≡ false → GoesOn q i x t s
goes_on_at q i x t None h = cc
goes_on_at q i x t (Some z) h = let u = three (takes q z) (is t.text "in") i (holds x z) h in record { symbol = z; makes = refl; taken = u.0; has_in = u.1; held = u.2 }

-- where the test says that something goes on
pub goes_on : (y : Rank) (i : Bool) (x : Edge) (last t : Token) → stops y i x last t ≡ false → GoesOn y i (edge_as_written x last) t (rank_made_by (operation t) t.after_break)
goes_on y i x last t h = goes_on_at y i (edge_as_written x last) t (rank_made_by (operation t) t.after_break) h

-- what a token with the text `in` makes: a relational node, or nothing
data OfIn (x : Operator) : Type 0 where
  relates : x ≡ op_binary false Relational Shift → OfIn x
  makes_none : x ≡ op_none → OfIn x

of_in : (c : TokenClass) (w : List ℕ) → w ≡ codes "in" → OfIn (of_class c w)
of_in IdentifierName w e = relates (ap (of_class IdentifierName) e)
of_in Punctuator w e = makes_none (ap (of_class Punctuator) e)
of_in Template w e = makes_none (ap (of_class Template) e)
of_in NumericLiteral w e = makes_none refl
of_in StringLiteral w e = makes_none refl
of_in RegularExpressionLiteral w e = makes_none refl
of_in PrivateName w e = makes_none refl
of_in Keyword w e = makes_none refl
of_in End w e = makes_none refl

some_same : {b c : Rank} → Some b ≡ Some c → b ≡ c
some_same e = cc

in_symbol : (t : Token) {z : Rank} → is t.text "in" ≡ true → rank_made_by (operation t) t.after_break ≡ Some z → z ≡ Relational
in_symbol t {z} h k = go (operation t) (of_in t.class t.text ((bytes_eq-Decides t.text (codes "in")).0 h)) k
  where
    go : (x : Operator) → OfIn x → rank_made_by x t.after_break ≡ Some z → z ≡ Relational
    go x (relates e) k = sym (some_same (sym (ap (λ v. rank_made_by v t.after_break) e) ∙ k))
    go x (makes_none e) k = let u : None ≡ Some z = sym (ap (λ v. rank_made_by v t.after_break) e) ∙ k in cc

-- only a `?.` follows a base
pub linked_chains : {f : Start} {k : Kind} {g : Flags} {ps : Parts} {h : Rank} {j : Bool} {f' : Start} {rest : List (PieceOf Role)} {x : Operator} → Linked f k g ps (expr h j f') rest x → x ≡ op_optional
linked_chains (link_dot k o c fc b e) = cc
linked_chains (link_index k o c fc b e) = cc
linked_chains (link_call k o fc b e) = cc
linked_chains (link_chained_name k o c b e) = refl
linked_chains (link_chained_index k o c b e) = refl
linked_chains (link_chained_call k o b e) = refl

role_is : {y z : Rank} {i j : Bool} {f g : Start} → expr y i f ≡ expr z j g → (y ≡ z) × (i ≡ j)
role_is {y} {z} {i} {j} e = let u : y ≡ z = cc in let v : i ≡ j = cc in (u, v)

-- a first part is no higher than all parts
pub part_low : (ps : Parts) (n : Tree) (qs : Parts) → ps ≡ part n qs → height n ≤ parts_height ps
part_low ps n qs e = let u : parts_height ps ≡ max (height n) (parts_height qs) = ap parts_height e in omega arith

module _ (S : Type 0) (Next : S → Token → S → Type 0) (behind : S → Token) (det : IsDetermined S Next behind) where
  -- a tree only grows
  pub grows_height : {o : ℕ} {s0 e : S} {a : Role} {n : Tree} {P : List Pair} {b : Role} {m : Tree} {mid : S} {Q : List Pair} → Grows S Next behind o s0 a n e P b m mid Q → height m ≤ height n
  grows_height whole = omega arith
  grows_height (grow {m = m} {l = node k w g st en ps} {ps = qs} h led pl eq d gs) = let u = grows_height gs in let v = part_low ps m qs eq in omega arith

  -- What stands so far, m up to mid, on the spine of a whole: it stands at a position that takes its symbol r, and is spelled there.
  pub record Leads (o : ℕ) (s0 : S) (y : Rank) (i : Bool) (f : Start) (n : Tree) (e : S) (P : List Pair) (r : Rank) (m : Tree) (mid : S) (Q : List Pair) : Type 0 where
    pub h : Rank
    pub j : Bool
    pub g : Start
    pub fits : IsTrue (takes h r)
    pub spelled : Spells ways S Next behind o (expr h j g) m s0 mid Q
    pub grows : Grows S Next behind o s0 (expr y i f) n e P (expr h j g) m mid Q

  -- Before each turn of the loop at the position `expr y i f`, from s0: m is read up to mid, whose symbol is r. It is spelled at each
  -- position that takes r, with the same In where In matters; and what the position spells here, and what can't go on, begins with m.
  pub record Climbing (o : ℕ) (y : Rank) (i : Bool) (f : Start) (r : Rank) (s0 : S) (m : Tree) (mid : S) (Q : List Pair) : Type 0 where
    pub low : IsTrue (takes y r)
    pub stands : (h : Rank) (j : Bool) → IsTrue (takes h r) → (is_loose h ≡ true → j ≡ i) → Spells ways S Next behind o (expr h j f) m s0 mid Q
    pub leads : (o' : ℕ) (e' : S) (n' : Tree) (P' : List Pair) → Spells ways S Next behind o' (expr y i f) n' s0 e' P' → Stops S Next behind y i n' e' → Leads o' s0 y i f n' e' P' r m mid Q

  -- it is the whole, or a token is read behind it
  data ReadsOn (a : Role) (n : Tree) (e : S) (P : List Pair) (b : Role) (m : Tree) (mid : S) (Q : List Pair) : Type 0 where
    no_more : Ended S Next behind det a n e P b m mid Q → ReadsOn a n e P b m mid Q
    one_more : (t : Token) (x : S) → ReadBy S Next behind Div mid t x → ReadsOn a n e P b m mid Q

  reads_on : {o : ℕ} {s0 e : S} {y : Rank} {i : Bool} {f : Start} {n : Tree} {P : List Pair} {h : Rank} {j : Bool} {f' : Start} {m : Tree} {mid : S} {Q : List Pair} →
      Grows S Next behind o s0 (expr y i f) n e P (expr h j f') m mid Q → ReadsOn (expr y i f) n e P (expr h j f') m mid Q
  unfolding spellings
  reads_on whole = no_more (record { role = refl; tree = refl; place = refl; pairs = refl })
  reads_on {h = h} {j = j} {f' = f'} (grow {c = expr y2 i2 f2} {l = node k w g st en ps} {rest = rest} t led pl eq d gs) =
      let v = way_of t in
      let u = led_of y2 i2 f2 (made k v.listed) v.fit v.is led in
      let w = led_read S Next behind det u.led (some u.led) d in
      one_more w.token w.mid w.read
    where
      some : {y : Rank} {i : Bool} {f : Start} {k : Kind} {w : List ℕ} {g : Flags} {ps : Parts} {rest : List (PieceOf Role)} {x : Operator} → Led y i f k w g ps (expr h j f') rest x → x ≡ op_none → ⊥
      some (led_chain k c tk b e) x = no_spine b
      some _ x = cc
  reads_on (grow {c = chain_part f2} {l = node k w g st en ps} t led pl eq d gs) =
      let v = way_of t in
      let w = linked_read S Next behind det (linked_of f2 k v.listed v.is).linked d in
      one_more w.token w.mid w.read
  reads_on (grow {c = _} t led pl eq d gs) = absurd (false≢true (grows_on_spine S Next behind refl gs))

  -- what can't go on is the whole
  pub whole_where_stops : {o : ℕ} {s0 e : S} {y : Rank} {i : Bool} {f : Start} {n : Tree} {P : List Pair} {h : Rank} {j : Bool} {f' : Start} {m : Tree} {mid : S} {Q : List Pair} →
      Spells ways S Next behind o (expr h j f') m s0 mid Q → Stops S Next behind y i m mid → Grows S Next behind o s0 (expr y i f) n e P (expr h j f') m mid Q → Ended S Next behind det (expr y i f) n e P (expr h j f') m mid Q
  whole_where_stops {o} {s0} {e} {y} {i} {f} {n} {P} {h} {j} {f'} {m} {mid} {Q} sp st gs = of (reads_on gs)
    where
      of : ReadsOn (expr y i f) n e P (expr h j f') m mid Q → Ended S Next behind det (expr y i f) n e P (expr h j f') m mid Q
      of (no_more u) = u
      of (one_more t x r) = ends_where_stops S Next behind det sp r (st.before t x r) gs

  -- where nothing can go on, what stands so far is found
  pub climb_stop : {o : ℕ} {y : Rank} {i : Bool} {f : Start} {r : Rank} {s0 : S} {m : Tree} {mid : S} {Q : List Pair} → Climbing o y i f r s0 m mid Q → Stops S Next behind y i m mid → Found S Next behind o y i f s0 mid m Q
  climb_stop {y = y} {i = i} c st = record {
    spelled = c.stands y i c.low (λ h. refl);
    stopped = st;
    only = λ o' e' n' P' d st'. let v = c.leads o' e' n' P' d st' in let u = whole_where_stops v.spelled st v.grows in (u.place, u.tree, u.pairs);
  }

  -- The way that goes on from what stands so far, and how the spine goes on from it
  pub record LedOn (o : ℕ) (s0 : S) (a : Role) (n : Tree) (e : S) (P : List Pair) (h : Rank) (j : Bool) (f' : Start) (m : Tree) (mid : S) (Q : List Pair) (x : Operator) : Type 0 where
    pub y : Rank
    pub i : Bool
    pub f : Start
    pub k : Kind
    pub w : List ℕ
    pub g : Flags
    pub st : ℕ
    pub en : ℕ
    pub ps : Parts
    pub rest : List (PieceOf Role)
    pub to : S
    pub more : List Pair
    pub led : Led y i f k w g (bare_parts (part m ps)) (expr h j f') rest x
    pub lean : is_lean (bare (node k w g st en (part m ps))) ≡ true
    pub runs : Runs ways S Next behind o rest ps mid to more
    pub placed : Placed S Next behind (expr y i f) (node k w g st en (part m ps)) s0 to
    pub spelled : Spells ways S Next behind o (expr y i f) (node k w g st en (part m ps)) s0 to (Q ++ more)
    pub grows : Grows S Next behind o s0 a n e P (expr y i f) (node k w g st en (part m ps)) to (Q ++ more)

  -- where the token that is read goes on, and is no `?.`
  pub led_on : {o : ℕ} {s0 e x : S} {y : Rank} {i : Bool} {f : Start} {n : Tree} {P : List Pair} {h : Rank} {j : Bool} {f' : Start} {m : Tree} {mid : S} {Q : List Pair} {t : Token} {z : Operator} →
      ReadBy S Next behind Div mid t x → operation t ≡ z → (z ≡ op_optional → ⊥) → (Ended S Next behind det (expr y i f) n e P (expr h j f') m mid Q → ⊥) → Spells ways S Next behind o (expr h j f') m s0 mid Q →
      Grows S Next behind o s0 (expr y i f) n e P (expr h j f') m mid Q → LedOn o s0 (expr y i f) n e P h j f' m mid Q z
  led_on {o} {s0} {e} {x} {y} {i} {f} {n} {P} {h} {j} {f'} {m} {mid} {Q} {t} {z} r op other goes sp gs = of (onward S Next behind det refl r gs)
    where
      of : Onward S Next behind det o s0 (expr y i f) n e P (expr h j f') m mid Q t → LedOn o s0 (expr y i f) n e P h j f' m mid Q z
      of (ended a b c d) = absurd (goes (record { role = a; tree = b; place = c; pairs = d }))
      of (by_led {y = y2} {i = i2} {f = f2} {k = k} {w = w} {g = g} {st = st} {en = en} {ps = ps} {rest = rest} {to = to} {R = R} {x = x2} led some op' lean d pl grown gs') = record {
        y = y2;
        i = i2;
        f = f2;
        k = k;
        w = w;
        g = g;
        st = st;
        en = en;
        ps = ps;
        rest = rest;
        to = to;
        more = R;
        led = subst (λ v. Led y2 i2 f2 k w g (bare_parts (part m ps)) (expr h j f') rest v) (sym op' ∙ op) led;
        lean = lean;
        runs = d;
        placed = pl;
        spelled = grown sp;
        grows = gs';
      }
      of (by_link linked op' lean d pl grown gs') = absurd (other (sym op ∙ op' ∙ linked_chains linked))
      of (by_chain b tk lean pl grown gs') = absurd (no_spine b)

  -- The whole can't go on, so nothing goes on behind its last part either: the part u, at the symbol q, ends where the node does.
  pub stops_inside : {o : ℕ} {s0 e : S} {y : Rank} {i : Bool} {f : Start} {n : Tree} {P : List Pair} {h : Rank} {j : Bool} {f' : Start} {m : Tree} {to : S} {Q : List Pair} (z q : Rank) (i' : Bool) (u : Tree) → Tails z q →
      (precedence y ≡ 2 → precedence z ≡ 2 → ⊥) → IsTrue (takes h z) → (takes q Relational ≡ true → i' ≡ j) → edge_as_written (edge m) (behind to) ≡ edge_as_written (edge u) (behind to) → Stops S Next behind y i n e →
      Grows S Next behind o s0 (expr y i f) n e P (expr h j f') m to Q → Stops S Next behind q i' u to
  stops_inside {o} {s0} {e} {y} {i} {f} {n} {P} {h} {j} {f'} {m} {to} {Q} z q i' u tails conditional stands ins same st gs = record { before = λ t x r. decide r (stops q i' (edge u) (behind to) t) refl; apart = apart_inside S Next behind det gs st.apart }
    where
      goes : {t : Token} {x : S} → ReadBy S Next behind Div to t x → GoesOn q i' (edge_as_written (edge u) (behind to)) t (rank_made_by (operation t) t.after_break) → Onward S Next behind det o s0 (expr y i f) n e P (expr h j f') m to Q t → ⊥
      goes {t} {x} r c (ended a b d p) =
          let role = role_is a in
          let stopped : stops_at y i (edge_as_written (edge n) (behind e)) t (rank_made_by (operation t) t.after_break) ≡ true = st.before t x (subst (λ v. ReadBy S Next behind Div v t x) (sym d) r) in
          let standing' : edge_as_written (edge n) (behind e) ≡ edge_as_written (edge u) (behind to) = ap (λ v. edge_as_written (edge v) (behind e)) b ∙ ap (λ v. edge_as_written (edge m) (behind v)) d ∙ same in
          let stopped2 : stops_at y i (edge_as_written (edge u) (behind to)) t (Some c.symbol) ≡ true = subst (λ v. stops_at y i v t (Some c.symbol) ≡ true) standing' (subst (λ v. stops_at y i (edge_as_written (edge n) (behind e)) t v ≡ true) c.makes stopped) in
          let taken : takes y c.symbol ≡ true = tails.passes (precedence y) (precedence c.symbol) conditional (subst (λ v. IsTrue (takes v z)) (sym role.0) stands) c.taken in
          not_three (takes y c.symbol) (is t.text "in") i (holds (edge_as_written (edge u) (behind to)) c.symbol) taken (has_in (is t.text "in") refl role.1) c.held stopped2
        where
          has_in : (b : Bool) → is t.text "in" ≡ b → i ≡ j → (not b || i) ≡ true
          has_in false e k = refl
          has_in true e k =
              let w : takes q Relational ≡ true = subst (λ v. takes q v ≡ true) (in_symbol t e c.makes) c.taken in
              k ∙ sym (ins w) ∙ ap (λ b. not b || i') (sym e) ∙ c.has_in
      goes {t} {x} r c (by_led led some op lean d pl grown gs') =
          let w = led_makes S Next behind det led some d r in
          no_further t.after_break z q led (ap (λ v. rank_made_by v t.after_break) (sym op) ∙ c.makes) tails stands c.taken
      goes r c (by_link linked op lean d pl grown gs') =
          let less = takes_less Call z (subst (λ v. IsTrue (takes v z)) (linked_base linked) stands) in let high = tails.highest in absurd (omega arith)
      goes r c (by_chain b tk lean pl grown gs') = no_spine b

      decide : {t : Token} {x : S} → ReadBy S Next behind Div to t x → (b : Bool) → stops q i' (edge u) (behind to) t ≡ b → IsTrue (stops q i' (edge u) (behind to) t)
      decide r true k = k
      decide {t} r false k = absurd (goes r (goes_on q i' (edge u) (behind to) t k) (onward S Next behind det refl r gs))
