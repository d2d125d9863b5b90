-- The loop over the commas of a sequence, behind its first expression.
use Rattle.std.proofs.Common.{◌≡◌, ℕ, ◌≤◌, Bool, true, false, cond, List, [], ◌++◌, refl, sym, ap, ◌∙◌, subst, arith}
use Rattle.std.specs.Prelude.{IsTrue, Some, not, ◌&&◌, ◌||◌}
use Rattle.std.proofs.lemmas.Bool.{false≢true}
use Rattle.tokens.specs.declared.token.Goal.TheVariants.{Div}
use Rattle.tree.specs.declared.kind.Kind.{Kind}
use Rattle.tree.specs.declared.kind.Kind.TheVariants.{SequenceExpression}
use Rattle.language.specs.declared.Rank.{Rank}
use Rattle.language.specs.declared.Rank.TheVariants.{Expression, Assignment, Call, Member}
use Rattle.language.specs.declared.Start.{Start}
use Rattle.language.specs.declared.Edge.{Edge}
use Rattle.language.specs.declared.Edge.TheVariants.{Arrow, Postfix, Other, Closed}
use Rattle.tree.specs.declared.kind.Flags.{Flags}
use Rattle.tree.specs.declared.kind.Pair.{Pair}
use Rattle.tree.specs.Tree.{Tree, node, Parts, none, part, gap, bare, bare_parts, plain, join}
use Rattle.tree.specs.Uses.{used_flags, has_text}
use Rattle.tree.proofs.Lean.{lean_flags, lean_text}
use Rattle.language.specs.FirstPart.{others}
use Rattle.language.specs.Vocabulary.{is, takes, precedence, Operator, op_comma}
use Rattle.language.specs.Pieces.{Role, expr, chain_part, PieceOf, is_none, is_tight}
use Rattle.language.specs.Token.{Token}
use Rattle.language.specs.Edges.{edge, last_edge, edge_as_written}
use Rattle.language.specs.Expressions.{sequence}
use Rattle.language.specs.Continuations.{operation, rank_made_by, holds, stops_at, stops}
use Rattle.language.specs.Promises.{IsDetermined, ReadBy, Stops}
use Rattle.language.specs.Grammar.{ways, spellings}
use Rattle.language.specs.Derivation.{Spells, Runs, done, Placed}
use Rattle.language.proofs.climbing.Spine.{Grows, whole, grow, grows_on_spine}
use Rattle.language.proofs.table.ViewIsComplete.{way_of, made}
use Rattle.language.proofs.table.OperatorFacts.{binding}
use Rattle.language.proofs.table.Begins.{goes_to, retell}
use Rattle.language.proofs.table.LeftRecursiveWays.{Led, led_binary, led_power, led_assign, led_postfix, led_sequence, led_conditional, led_dot, led_index, led_call, led_tag, led_chain, led_of, linked_of}
use Rattle.language.proofs.table.Reaches.{reaches, linked_base}
use Rattle.language.proofs.table.RightEdges.{edged}
use Rattle.language.proofs.climbing.NoContinuation.{Ended, goes_where_not}
use Rattle.language.proofs.climbing.OperatorLoop.{Climbing, led_on}
use Rattle.language.proofs.climbing.BinaryTurns.{same_node, same_places}
use Rattle.language.proofs.table.OperatorTokens.{reads_comma}
use Rattle.language.proofs.climbing.FirstTurn.{grows_start}

rank_is : {y z : Rank} {i j : Bool} {f g : Start} → expr y i f ≡ expr z j g → y ≡ z
rank_is e = cc

takes_expression : (y : Rank) → IsTrue (takes y Expression) → y ≡ Expression
takes_expression Expression h = refl
takes_expression _ h = cc

callee_some : (b : Bool) → 1 ≤ precedence (cond b Member Call)
callee_some true = omega arith
callee_some false = omega arith

-- no head stands at Expression
led_low : {y : Rank} {i : Bool} {f : Start} {k : Kind} {w : List ℕ} {g : Flags} {ps : Parts} {h : Rank} {j : Bool} {f' : Start} {rest : List (PieceOf Role)} {x : Operator} → Led y i f k w g ps (expr h j f') rest x → h ≡ Expression → ⊥
led_low {w = w} (led_binary k op tk im b e) h = let v = binding w op in let low = v.least in let u = ap precedence (sym h ∙ rank_is b) in omega arith
led_low (led_power k op tk b e) h = let u = sym h ∙ rank_is b in cc
led_low (led_assign k op ta tk b e) h = let u = sym h ∙ rank_is b in cc
led_low (led_postfix k op ta p tk b e) h = let u = sym h ∙ rank_is b in cc
led_low (led_sequence k c tk b e) h = let u = sym h ∙ rank_is b in cc
led_low (led_conditional k tk b e) h = let u = sym h ∙ rank_is b in cc
led_low {y} (led_dot k o c s tk b e) h = let u = ap precedence (sym h ∙ rank_is b) in let v = callee_some (is_tight y) in omega arith
led_low {y} (led_index k o c s tk b e) h = let u = ap precedence (sym h ∙ rank_is b) in let v = callee_some (is_tight y) in omega arith
led_low (led_call k o s tk b e) h = let u = sym h ∙ rank_is b in cc
led_low {y} (led_tag k tk b e) h = let u = ap precedence (sym h ∙ rank_is b) in let v = callee_some (is_tight y) in omega arith
led_low (led_chain k c tk b e) h = cc

-- the way of a sequence
record CommaLed (y : Rank) (i : Bool) (f : Start) (k : Kind) (ps : Parts) (h : Rank) (rest : List (PieceOf Role)) : Type 0 where
  kind : k ≡ SequenceExpression
  some : is_none (others ps) ≡ false
  head : h ≡ Assignment
  stands : IsTrue (takes y Expression)
  rest_is : rest ≡ goes_to y i f (sequence (others ps))

comma_led : {y : Rank} {i : Bool} {f : Start} {k : Kind} {w : List ℕ} {g : Flags} {ps : Parts} {h : Rank} {j : Bool} {f' : Start} {rest : List (PieceOf Role)} → Led y i f k w g ps (expr h j f') rest op_comma → CommaLed y i f k ps h rest
comma_led (led_sequence k c tk b e) = record { kind = k; some = c; head = rank_is b; stands = tk; rest_is = e }

-- the symbol of its head
pub comma_head : {y : Rank} {i : Bool} {f : Start} {k : Kind} {w : List ℕ} {g : Flags} {ps : Parts} {h : Rank} {j : Bool} {f' : Start} {rest : List (PieceOf Role)} → Led y i f k w g ps (expr h j f') rest op_comma → h ≡ Assignment
comma_head l = (comma_led l).head

-- the pieces behind the first expression
abbrev pub comma_pieces : Bool → Start → Parts → List (PieceOf Role)
comma_pieces i f ps = goes_to Expression i f (sequence (bare_parts ps))

joined_edge : (qs : Parts) (u : Tree) → last_edge (join qs (part u none)) ≡ edge u
joined_edge none u = refl
joined_edge (gap qs) u = joined_edge qs u
joined_edge (part n none) u = refl
joined_edge (part n (part l qs)) u = joined_edge (part l qs) u
joined_edge (part n (gap qs)) u = joined_edge qs u

-- the last part's edge, behind others
pub last_edge_join : (qs : Parts) (u : Tree) (m : Tree) → last_edge (part m (join qs (part u none))) ≡ edge u
last_edge_join qs u m = joined_edge (part m qs) u

module _ (S : Type 0) (Next : S → Token → S → Type 0) (behind : S → Token) (det : IsDetermined S Next behind) where
  -- what stands at Expression is led by nothing further
  none_above : {o : ℕ} {s0 e : S} {y : Rank} {i : Bool} {f : Start} {n : Tree} {P : List Pair} {h : Rank} {j : Bool} {f' : Start} {m : Tree} {mid : S} {Q : List Pair} → h ≡ Expression →
      Grows S Next behind o s0 (expr y i f) n e P (expr h j f') m mid Q → Ended S Next behind det (expr y i f) n e P (expr h j f') m mid Q
  unfolding spellings
  none_above low whole = record { role = refl; tree = refl; place = refl; pairs = refl }
  none_above low (grow {c = expr y2 i2 f2} {l = node k w g st en ps} t led pl eq d gs) = let v = way_of t in absurd (led_low (led_of y2 i2 f2 (made k v.listed) v.fit v.is led).led low)
  none_above low (grow {c = chain_part f2} {l = node k w g st en ps} t led pl eq d gs) = let v = way_of t in let u = sym low ∙ linked_base (linked_of f2 k v.listed v.is).linked in cc
  none_above low (grow {c = _} t led pl eq d gs) = absurd (false≢true (grows_on_spine S Next behind refl gs))

  -- a sequence that begins with m and these further parts, up to k: what follows is its other parts
  pub record CommaLeads (o : ℕ) (s0 : S) (i : Bool) (f : Start) (n : Tree) (e : S) (P : List Pair) (m : Tree) (Q : List Pair) (qs : Parts) (k : S) (R : List Pair) : Type 0 where
    pub st : ℕ
    pub en : ℕ
    pub rest : Parts
    pub pairs : List Pair
    pub runs : Runs ways S Next behind o (comma_pieces i f rest) rest k e pairs
    pub tree : n ≡ node SequenceExpression [] plain st en (part m (join qs rest))
    pub all : P ≡ Q ++ (R ++ pairs)
    pub places : Placed S Next behind (expr Expression i f) n s0 e
    pub spelled : Spells ways S Next behind o (expr Expression i f) n s0 e P
    pub stopped : Stops S Next behind Expression i n e

  -- Before each comma: m is the first expression, up to mid, and the parts qs follow it up to k.
  pub record Sequencing (o : ℕ) (i : Bool) (f : Start) (s0 : S) (m : Tree) (mid : S) (Q : List Pair) (qs : Parts) (k : S) (R : List Pair) : Type 0 where
    pub head : Spells ways S Next behind o (expr Assignment i f) m s0 mid Q
    pub runs : Runs ways S Next behind o (comma_pieces i f qs) qs mid k R
    pub leads : (o' : ℕ) (e' : S) (n' : Tree) (P' : List Pair) → Spells ways S Next behind o' (expr Expression i f) n' s0 e' P' → Stops S Next behind Expression i n' e' → CommaLeads o' s0 i f n' e' P' m Q qs k R

  -- at the first comma
  pub seq_first : {o : ℕ} {i : Bool} {f : Start} {c : Rank} {s0 mid x : S} {m : Tree} {Q : List Pair} {t : Token} → Climbing S Next behind det o Expression i f c s0 m mid Q → ReadBy S Next behind Div mid t x → operation t ≡ op_comma →
      stops Expression i (edge m) (behind mid) t ≡ false → IsTrue (takes Assignment c) → Sequencing o i f s0 m mid Q none mid []
  seq_first {i = i} {f = f} {s0 = s0} {mid = mid} {m = m} {Q = Q} climb r op goes fits = record {
    head = climb.stands Assignment i fits (λ h. refl);
    runs = done;
    leads = λ o' e' n' P' d st.
        let v = climb.leads o' e' n' P' d st in
        let on = led_on S Next behind det r op (λ q. cc) (goes_where_not S Next behind det Expression i r st goes) v.spelled v.grows in
        let led = comma_led on.led in
        let at : on.y ≡ Expression = takes_expression on.y led.stands in
        let inside : on.i ≡ i = ((reaches S Next behind on.grows).same_in (ap Rattle.language.proofs.table.Reaches.is_loose at)).1 in
        let starts : on.f ≡ f = grows_start S Next behind on.grows in
        let all = none_above at on.grows in
        let flags : on.g ≡ plain = lean_flags (bare (node on.k on.w on.g on.st on.en (part m on.ps))) on.lean ∙ ap (λ v. used_flags v on.g) led.kind in
        let text : on.w ≡ [] = lean_text (bare (node on.k on.w on.g on.st on.en (part m on.ps))) on.lean (ap has_text led.kind) in
        let pieces : goes_to on.y on.i on.f (sequence (bare_parts on.ps)) ≡ comma_pieces i f on.ps = λ k. goes_to (at k) (inside k) (starts k) (sequence (bare_parts on.ps)) in
        let placed1 : Placed S Next behind (expr on.y on.i on.f) n' s0 on.to = subst (λ c. Placed S Next behind (expr on.y on.i on.f) c s0 on.to) (sym all.tree) on.placed in
        let placed2 : Placed S Next behind (expr on.y on.i on.f) n' s0 e' = subst (λ c. Placed S Next behind (expr on.y on.i on.f) n' s0 c) (sym all.place) placed1 in
        record {
          st = on.st;
          en = on.en;
          rest = on.ps;
          pairs = on.more;
          runs = subst (λ c. Runs ways S Next behind o' (comma_pieces i f on.ps) on.ps mid c on.more) (sym all.place) (retell S Next behind (led.rest_is ∙ pieces) on.runs);
          tree = all.tree ∙ same_node led.kind text flags refl refl refl;
          all = all.pairs;
          places = Rattle.language.proofs.climbing.BinaryTurns.replaced S Next behind det placed2;
          spelled = d;
          stopped = st;
        };
  }

  -- where a comma is read, a sequence isn't at its end
  pub comma_goes : {o : ℕ} {i : Bool} {f : Start} {n : Tree} {s e x : S} {P : List Pair} {t : Token} → Spells ways S Next behind o (expr Expression i f) n s e P → Stops S Next behind Expression i n e → ReadBy S Next behind Div e t x → operation t ≡ op_comma → ⊥
  comma_goes {i = i} {n = n} {e = e} {x = x} {t = t} d st r op =
      let h : stops_at Expression i (edge_as_written (edge n) (behind e)) t (Some Expression) ≡ true = subst (λ v. stops_at Expression i (edge_as_written (edge n) (behind e)) t (rank_made_by v t.after_break) ≡ true) op (st.before t x r) in
      let sign = reads_comma S Next behind r.next op in
      let no_in : is t.text "in" ≡ false = ap (λ w. is w "in") sign.text in
      let held = holds_any (edge_as_written (edge n) (behind e)) (λ c. (edged S Next behind det d).ends (closed (edge n) (behind e) c)) in
      refused (is t.text "in") i (holds (edge_as_written (edge n) (behind e)) Expression) no_in held h
    where
      holds_any : (c : Edge) → (c ≡ Closed → ⊥) → holds c Expression ≡ true
      holds_any Arrow h = refl
      holds_any Postfix h = refl
      holds_any Other h = refl
      holds_any Closed h = absurd (h refl)

      closed : (c : Edge) (last : Token) → edge_as_written c last ≡ Closed → c ≡ Closed
      closed Closed last h = refl
      closed Other last h = cc
      closed Arrow last h = of (is last.text ")") h
        where
          of : (b : Bool) → cond b Other Arrow ≡ Closed → Arrow ≡ Closed
          of true h = cc
          of false h = cc
      closed Postfix last h = of (is last.text ")") h
        where
          of : (b : Bool) → cond b Other Postfix ≡ Closed → Postfix ≡ Closed
          of true h = cc
          of false h = cc

      refused : (b c d : Bool) → b ≡ false → d ≡ true → (false || ((b && not c) || not d)) ≡ true → ⊥
      refused true c d h k l = cc
      refused false c true h k l = cc
      refused false c false h k l = cc
