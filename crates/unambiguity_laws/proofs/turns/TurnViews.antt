-- What a turn of the loop reads in a given whole: the parts of the node that an operator makes, which are lower than the whole and can't go on.
use Rattle.std.proofs.Common.{◌≡◌, ℕ, suc, ◌≤◌, Bool, true, false, cond, List, [], ◌∷◌, ◌++◌, refl, sym, ap, ◌∙◌, subst, arith}
use Rattle.std.specs.Prelude.{IsTrue, Some, codes, max, not, ◌&&◌, ◌||◌}
use Rattle.tokens.specs.declared.token.TokenClass.TheVariants.{Punctuator}
use Rattle.tokens.specs.declared.token.Goal.TheVariants.{Div}
use Rattle.tokens.specs.Goals.{allows}
use Rattle.tree.specs.declared.kind.Kind.{Kind}
use Rattle.tree.specs.declared.kind.Kind.TheVariants.{BinaryExpression, LogicalExpression, SequenceExpression}
use Rattle.language.specs.declared.Rank.{Rank}
use Rattle.language.specs.declared.Rank.TheVariants.{Expression, Assignment, Relational, Call}
use Rattle.language.specs.declared.Start.{Start}
use Rattle.language.specs.declared.Start.TheVariants.{Any}
use Rattle.language.specs.declared.Edge.{Edge}
use Rattle.language.specs.declared.Edge.TheVariants.{Arrow, Postfix, Other, Closed}
use Rattle.tree.specs.declared.kind.Flags.{Flags}
use Rattle.tree.specs.declared.kind.Pair.{Pair}
use Rattle.tree.specs.Tree.{Tree, node, Parts, none, part, gap, height, parts_height, bare_parts, kind_of, push, join}
use Rattle.language.specs.FirstPart.{lead as lead_kind, others}
use Rattle.language.specs.Vocabulary.{is, takes, precedence, is_target, Operator, is_assign_op, operator_of, op_optional, op_comma, op_call}
use Rattle.language.specs.Pieces.{Role, expr, PieceOf, sub}
use Rattle.language.specs.Token.{Token}
use Rattle.language.specs.Edges.{edge, last_edge, edge_as_written}
use Rattle.language.specs.Expressions.{arguments}
use Rattle.language.specs.Continuations.{operation, rank_made_by, holds, stops_at, stops}
use Rattle.language.specs.Promises.{IsDetermined, ReadBy, Stops, later_parts, LaterStop, FoundLater, Apart}
use Rattle.language.specs.Grammar.{ways}
use Rattle.language.specs.Derivation.{reserved_key, reserved_word, Reads, Spells, direct, grouped, Runs, Placed, placed}
use Rattle.language.proofs.table.OperatorFacts.{binding}
use Rattle.language.proofs.table.OperatorTokens.{op_reads, reads_comma}
use Rattle.language.proofs.table.Begins.{retell, goes_to}
use Rattle.language.proofs.table.LeftRecursiveWays.{Led, led_binary, led_power, led_assign, led_call, between}
use Rattle.language.proofs.climbing.RightOperands.{right_side, called}
use Rattle.language.proofs.climbing.OperatorNodes.{kind_bare}
use Rattle.language.proofs.table.Reaches.{is_loose, loose_of, binds_loose, reaches}
use Rattle.language.proofs.climbing.SpineContinuations.{makes}
use Rattle.language.proofs.list_loops.FirstPieces.{run_none, run_token, run_laid, run_never, run_the_part}
use Rattle.language.proofs.climbing.NoContinuation.{goes_where_not}
use Rattle.language.proofs.table.Tails.{Tails, tails_binary, tails_power, tails_assign}
use Rattle.language.proofs.climbing.OperatorLoop.{grows_height, Leads, Climbing, led_on, stops_inside}
use Rattle.language.proofs.climbing.BinaryTurns.{TwoSided, two_binds, two_powers, two_assigns}
use Rattle.language.proofs.climbing.Conditionals.{same_sign, stops_before}
use Rattle.language.proofs.climbing.Suffixes.{rank_is, argument_pieces, arguments_fixed}
use Rattle.language.proofs.climbing.Commas.{comma_pieces, comma_goes, seq_first}
use Rattle.unambiguity_laws.proofs.Unique.{Expressions}
use Rattle.language.proofs.climbing.Sequences.{stops_assignment, Listing, listing_first, listing_more, listing_stop}

-- the class and the text of an operator with two sides
pub two_reads : (t : Token) {x : Operator} {K : Kind} {a z q : Rank} {b : Bool} → TwoSided x K a z q b → operation t ≡ x → operator_of t.text ≡ x
two_reads t two_binds h = (op_reads t h (λ e. cc) (λ e. cc)).1
two_reads t two_powers h = (op_reads t h (λ e. cc) (λ e. cc)).1
two_reads t two_assigns h = (op_reads t h (λ e. cc) (λ e. cc)).1

-- the way with such an operator, at the position `expr y i f`, whose head stands at h
record TwoLed (y : Rank) (i : Bool) (k : Kind) (w : List ℕ) (ps : Parts) (h : Rank) (rest : List (PieceOf Role)) (x : Operator) (K : Kind) (a z q : Rank) (b : Bool) : Type 0 where
  kind : k ≡ K
  head : h ≡ a
  stands : IsTrue (takes y z)
  target : is_assign_op x ≡ true → is_target (lead_kind ps) ≡ true
  rest_is : rest ≡ between w (expr q (cond b i true) Any)

two_led : {y : Rank} {i : Bool} {f : Start} {k : Kind} {w : List ℕ} {g : Flags} {ps : Parts} {h : Rank} {j : Bool} {f' : Start} {rest : List (PieceOf Role)} {x : Operator} {K : Kind} {a z q : Rank} {b : Bool} →
    TwoSided x K a z q b → Led y i f k w g ps (expr h j f') rest x → TwoLed y i k w ps h rest x K a z q b
two_led two_binds (led_binary k op tk im b e) = record { kind = k; head = rank_is b; stands = tk; target = λ c. cc; rest_is = e }
two_led two_powers (led_power k op tk b e) = record { kind = k; head = rank_is b; stands = tk; target = λ c. cc; rest_is = e }
two_led two_assigns (led_assign k op ta tk b e) = record { kind = k; head = rank_is b; stands = tk; target = λ c. ta; rest_is = e }

two_tails : {x : Operator} {K : Kind} {a z q : Rank} {b : Bool} → (w : List ℕ) → operator_of w ≡ x → TwoSided x K a z q b → Tails z q
two_tails w op (two_binds {z = z} {q = q}) = tails_binary z q (binding w op)
two_tails w op two_powers = tails_power
two_tails w op two_assigns = tails_assign

two_loose : {x : Operator} {K : Kind} {a z q : Rank} {b : Bool} → (w : List ℕ) → operator_of w ≡ x → TwoSided x K a z q b → is_loose z ≡ true
two_loose w op two_binds = binds_loose w op
two_loose w op two_powers = refl
two_loose w op two_assigns = refl

two_conditional : {x : Operator} {K : Kind} {a z q : Rank} {b : Bool} → (w : List ℕ) → operator_of w ≡ x → TwoSided x K a z q b → precedence z ≡ 2 → ⊥
two_conditional w op two_binds h = let v = binding w op in let low = v.least in omega arith
two_conditional w op two_powers h = omega arith
two_conditional w op two_assigns h = omega arith

two_in : {x : Operator} {K : Kind} {a z q : Rank} {b : Bool} → TwoSided x K a z q b → (i : Bool) → takes q Relational ≡ true → cond b i true ≡ i
two_in two_binds i h = refl
two_in two_powers i h = cc
two_in two_assigns i h = refl

two_edge : {x : Operator} {K : Kind} {a z q : Rank} {b : Bool} → TwoSided x K a z q b → (w : List ℕ) (g : Flags) (st en : ℕ) (m u : Tree) → edge (node K w g st en (part m (part u none))) ≡ edge u
two_edge (two_binds {l = l}) w g st en m u = of l
  where
    of : (l : Bool) → edge (node (cond l LogicalExpression BinaryExpression) w g st en (part m (part u none))) ≡ edge u
    of true = refl
    of false = refl
two_edge two_powers w g st en m u = refl
two_edge two_assigns w g st en m u = refl

parted_edge : {x : Operator} {K : Kind} {a z q : Rank} {b : Bool} → TwoSided x K a z q b → (w : List ℕ) (g : Flags) (st en : ℕ) (m u : Tree) {k : Kind} {ps : Parts} → k ≡ K → ps ≡ part u none → edge (node k w g st en (part m ps)) ≡ edge u
parted_edge two w g st en m u kind parts = (λ c. edge (node (kind c) w g st en (part m (parts c)))) ∙ two_edge two w g st en m u

no_chain : {op : Operator} {K : Kind} {a z q : Rank} {b : Bool} → TwoSided op K a z q b → op ≡ op_optional → ⊥
no_chain two_binds e = cc
no_chain two_powers e = cc
no_chain two_assigns e = cc

-- the way of a call
record CallLed (y : Rank) (i : Bool) (f : Start) (ps : Parts) (h : Rank) (rest : List (PieceOf Role)) : Type 0 where
  head : h ≡ Call
  rest_is : rest ≡ goes_to y i f (arguments (others ps))

call_led : {y : Rank} {i : Bool} {f : Start} {k : Kind} {w : List ℕ} {g : Flags} {ps : Parts} {h : Rank} {j : Bool} {f' : Start} {rest : List (PieceOf Role)} → Led y i f k w g ps (expr h j f') rest op_call → CallLed y i f ps h rest
call_led (led_call k o s tk b e) = record { head = rank_is b; rest_is = e }

-- a start changes no pieces behind a comma
comma_any : (i : Bool) (f : Start) (ps : Parts) → comma_pieces i f ps ≡ comma_pieces i Any ps
comma_any i f none = refl
comma_any i f (gap ps) = refl
comma_any i f (part n ps) = ap (λ qs. Rattle.language.specs.Pieces.tok Punctuator (codes ",") ∷ Rattle.language.specs.Pieces.lay Rattle.language.specs.Pieces.space ∷ sub (expr Assignment i Any) ∷ qs) (comma_any i f ps)

last_push : (ps : Parts) (u : Tree) → last_edge (push ps u) ≡ edge u
last_push none u = refl
last_push (gap ps) u = last_push ps u
last_push (part n none) u = refl
last_push (part n (part m ps)) u = last_push (part m ps) u
last_push (part n (gap ps)) u = last_push ps u

open_edge : (c : Edge) (last : Token) → (c ≡ Closed → ⊥) → holds (edge_as_written c last) Expression ≡ true
open_edge c last other = of (edge_as_written c last) refl
  where
    of : (d : Edge) → edge_as_written c last ≡ d → holds d Expression ≡ true
    of Arrow e = refl
    of Postfix e = refl
    of Other e = refl
    of Closed e = absurd (other (Rattle.language.proofs.table.RightEdges.standing_closed c last e))

refused : (b c d : Bool) → b ≡ false → d ≡ true → (false || ((b && not c) || not d)) ≡ true → ⊥
refused true c d h k l = cc
refused false c true h k l = cc
refused false c false h k l = cc

module _ (S : Type 0) (Next : S → Token → S → Type 0) (behind : S → Token) where
  -- a token is read at a place
  pub record First (s : S) : Type 0 where
    pub token : Token
    pub mid : S
    pub next : Next s token mid

  -- what is spelled begins with a token
  pub first_token : {o : ℕ} {a : Role} {n : Tree} {s e : S} {P : List Pair} → Spells ways S Next behind o a n s e P → First s
  first_token (grouped {left = left} {m = m} p d q) = record { token = left; mid = m; next = p.next }
  first_token (reserved_key r k p) = record { token = _; mid = _; next = r.next }
  first_token (reserved_word r k p) = record { token = _; mid = _; next = r.next }
  first_token (direct qs h (placed {t = t} {m = m} nx eq) d) = record { token = t; mid = m; next = nx }

  -- so there is a node from there to any place
  pub place_node : {s : S} (x : First s) {y : Rank} {i : Bool} {f : Start} {k : Kind} {w : List ℕ} {g : Flags} {ps : Parts} {e : S} → Placed S Next behind (expr y i f) (node k w g x.token.start (behind e).stop ps) s e
  place_node x = placed x.next refl

module _ (S : Type 0) (Next : S → Token → S → Type 0) (behind : S → Token) (det : IsDetermined S Next behind) where
  -- the right side of the node with such an operator, on the spine of a whole that can't go on
  pub record TwoOn (o : ℕ) (n : Tree) (m : Tree) (x : S) (op : Operator) (a q : Rank) (i b : Bool) (c : Rank) : Type 0 where
    pub operand : Tree
    pub to : S
    pub right : List Pair
    pub fits : IsTrue (takes a c)
    pub target : is_assign_op op ≡ true → is_target (kind_of m) ≡ true
    pub side : Spells ways S Next behind o (expr q (cond b i true) Any) operand x to right
    pub stopped : Stops S Next behind q (cond b i true) operand to
    pub low : suc (height operand) ≤ height n

  pub two_on : {y : Rank} {i : Bool} {s0 mid x : S} {m : Tree} {t : Token} {op : Operator} {K : Kind} {a z q : Rank} {b : Bool} {o : ℕ} {f : Start} {n : Tree} {e : S} {P Q : List Pair} {c : Rank} →
      TwoSided op K a z q b → ReadBy S Next behind Div mid t x → operation t ≡ op → stops y i (edge m) (behind mid) t ≡ false → Stops S Next behind y i n e → Leads S Next behind det o s0 y i f n e P c m mid Q → TwoOn o n m x op a q i b c
  two_on {y} {i} {s0} {mid} {x} {m} {t} {op} {K} {a} {z} {q} {b} {o} {f} {n} {e} {P} {Q} {c} two r is_op goes st v =
      let on = led_on S Next behind det r is_op (no_chain two) (goes_where_not S Next behind det y i r st goes) v.spelled v.grows in
      let led = two_led two on.led in
      let reads = two_reads t two is_op in
      let inside : on.i ≡ i = ((reaches S Next behind {b = expr on.y on.i on.f} {m = node on.k on.w on.g on.st on.en (part m on.ps)} on.grows).same_in (loose_of on.y z led.stands (two_loose t.text reads two))).1 in
      let side = right_side S Next behind det on.w (retell S Next behind led.rest_is on.runs) r in
      let high = grows_height S Next behind det {b = expr on.y on.i on.f} {m = node on.k on.w on.g on.st on.en (part m on.ps)} on.grows in
      let parts : parts_height on.ps ≡ max (height side.operand) 0 = ap parts_height side.parts in
      record {
        operand = side.operand;
        to = on.to;
        right = on.more;
        fits = subst (λ k. IsTrue (takes k c)) led.head v.fits;
        target = λ k. ap is_target (sym (kind_bare m)) ∙ led.target k;
        side = subst (λ j. Spells ways S Next behind o (expr q (cond b j true) Any) side.operand x on.to on.more) inside side.spelled;
        stopped = stops_inside S Next behind det {m = node on.k on.w on.g on.st on.en (part m on.ps)} z q (cond b i true) side.operand (two_tails t.text reads two) (λ k l. two_conditional t.text reads two l) led.stands (λ k. two_in two i k ∙ sym inside)
            (ap (λ k. edge_as_written k (behind on.to)) (parted_edge two on.w on.g on.st on.en m side.operand led.kind side.parts)) st on.grows;
        low = omega arith;
      }

  -- the arguments of a call on the spine of a whole that can't go on
  pub record CallOn (o : ℕ) (n : Tree) (x : S) (c : Rank) : Type 0 where
    pub fits : IsTrue (takes Call c)
    pub given : Parts
    pub to : S
    pub pairs : List Pair
    pub runs : Runs ways S Next behind o (argument_pieces given) given x to pairs
    pub low : suc (parts_height given) ≤ height n

  pub call_on : {y : Rank} {i : Bool} {s0 mid x : S} {m : Tree} {t : Token} {o : ℕ} {f : Start} {n : Tree} {e : S} {P Q : List Pair} {c : Rank} → ReadBy S Next behind Div mid t x → operation t ≡ op_call → stops y i (edge m) (behind mid) t ≡ false →
      Stops S Next behind y i n e → Leads S Next behind det o s0 y i f n e P c m mid Q → CallOn o n x c
  call_on {y} {i} {m = m} {c = c} r is_op goes st v =
      let on = led_on S Next behind det r is_op (λ q. cc) (goes_where_not S Next behind det y i r st goes) v.spelled v.grows in
      let led = call_led on.led in
      let high = grows_height S Next behind det on.grows in
      record {
        fits = subst (λ k. IsTrue (takes k c)) led.head v.fits;
        given = on.ps;
        to = on.to;
        pairs = on.more;
        runs = retell S Next behind (arguments_fixed on.y on.i on.f (bare_parts on.ps)) (called S Next behind det on.y on.i on.f (bare_parts on.ps) (retell S Next behind led.rest_is on.runs) r);
        low = omega arith;
      }

  -- what stands behind the first comma of a sequence that can't go on
  pub record LaterOn (o : ℕ) (i : Bool) (n : Tree) (x e : S) : Type 0 where
    pub later : Parts
    pub pairs : List Pair
    pub runs : Runs ways S Next behind o (later_parts i later) later x e pairs
    pub stopped : LaterStop S Next behind i later e
    pub low : suc (parts_height later) ≤ height n

  pub later_on : {i : Bool} {f : Start} {c : Rank} {s0 mid x : S} {m : Tree} {Q : List Pair} {t : Token} {o o' : ℕ} {n : Tree} {e : S} {P : List Pair} → ReadBy S Next behind Div mid t x → operation t ≡ op_comma → stops Expression i (edge m) (behind mid) t ≡ false →
      Climbing S Next behind det o Expression i f c s0 m mid Q → IsTrue (takes Assignment c) → Spells ways S Next behind o' (expr Expression i f) n s0 e P → Stops S Next behind Expression i n e → LaterOn o' i n x e
  later_on {i} {f} {s0 = s0} {mid = mid} {x = x} {m = m} {t = t} {o' = o'} {n = n} {e = e} {P = P} r op goes climb fits d st = let v = (seq_first S Next behind det climb r op goes fits).leads o' e n P d st in of v.rest v.runs v.tree
    where
      of : {W : List Pair} {st1 en1 : ℕ} (rest : Parts) → Runs ways S Next behind o' (comma_pieces i f rest) rest mid e W → n ≡ node SequenceExpression [] Rattle.tree.specs.Tree.plain st1 en1 (part m (join none rest)) → LaterOn o' i n x e
      of none d1 tree = let end = run_none S Next behind d1 in absurd (comma_goes S Next behind det d st (subst (λ k. ReadBy S Next behind Div k t x) end.place r) op)
      of (gap ps) d1 tree = absurd (run_never S Next behind d1)
      of {W} (part u ps) d1 tree =
          let comma = run_token S Next behind (retell S Next behind (comma_any i f (part u ps)) d1) in
          let same = same_sign S Next behind det comma.reads (reads_comma S Next behind r.next op) refl in
          let high : height n ≡ suc (max (height m) (parts_height (part u ps))) = ap height tree in
          record {
            later = part u ps;
            pairs = W;
            runs = subst (λ k. Runs ways S Next behind o' (later_parts i (part u ps)) (part u ps) k e W) same.1 (run_laid S Next behind comma.runs);
            stopped = record { before = λ t1 x1 r1. subst (λ k. stops Expression i k (behind e) t1 ≡ true) (ap edge tree) (st.before t1 x1 r1); apart = st.apart };
            low = omega arith;
          }

  -- an item before a comma, or the last one, can't go on
  item_stops : {o : ℕ} (i : Bool) {k e : S} {P : List Pair} (u : Tree) (rest : Parts) → Runs ways S Next behind o (comma_pieces i Any rest) rest k e P → LaterStop S Next behind i (part u rest) e → Stops S Next behind Assignment i u k
  item_stops i {k = k} {e = e} u none d st =
      let end = run_none S Next behind d in
      record {
        before = λ t m r.
            stops_assignment i (edge_as_written (edge u) (behind k)) t (rank_made_by (operation t) t.after_break)
            (subst (λ c. stops Expression i (edge u) (behind c) t ≡ true) (sym end.place) (st.before t m (subst (λ c. ReadBy S Next behind Div c t m) end.place r)));
        apart = subst (Apart S Next behind) (sym end.place) st.apart;
      }
  item_stops i u (gap rest) d st = absurd (run_never S Next behind d)
  item_stops i u (part n rest) d st = stops_before S Next behind det Assignment i u (run_token S Next behind d).reads refl refl (λ c b. refl)

  read_comma : {k x : S} {t : Token} → Reads S Next behind Punctuator (codes ",") k t x → ReadBy S Next behind Div k t x × (operation t ≡ op_comma)
  read_comma {t = t} h =
      let al : IsTrue (allows Div t.class t.text) = subst (λ v. IsTrue (allows Div v t.text)) (sym h.class) (subst (λ v. IsTrue (allows Div Punctuator v)) (sym h.text) refl) in
      (record { next = h.next; allowed = al }, makes t h.class h.text refl)

  -- behind the last item no comma is read
  no_comma : (i : Bool) (u : Tree) {e x : S} {t : Token} → (edge u ≡ Closed → ⊥) → LaterStop S Next behind i (part u none) e → ReadBy S Next behind Div e t x → operation t ≡ op_comma → ⊥
  no_comma i u {e} {x} {t} ends st r op =
      let at : stops_at Expression i (edge_as_written (edge u) (behind e)) t (Some Expression) ≡ true = subst (λ v. stops_at Expression i (edge_as_written (edge u) (behind e)) t (rank_made_by v t.after_break) ≡ true) op (st.before t x r) in
      let sign = reads_comma S Next behind r.next op in
      refused (is t.text "in") i (holds (edge_as_written (edge u) (behind e)) Expression) (ap (λ w. is w "in") sign.text) (open_edge (edge u) (behind e) ends) at

  -- parts behind a first comma are found
  pub record LaterFound (o : ℕ) (i : Bool) (s : S) : Type 0 where
    pub parts : Parts
    pub to : S
    pub pairs : List Pair
    pub found : FoundLater S Next behind o i s to parts pairs

  -- each item of a height is found, so all are
  module _ (o h : ℕ) (i : Bool) (each : Expressions S Next behind det h) where
    more_found : {s k e : S} {qs : Parts} {R W : List Pair} (u : Tree) (rest : Parts) → Listing S Next behind det o i s qs k R → last_edge qs ≡ edge u → Runs ways S Next behind o (comma_pieces i Any rest) rest k e W → LaterStop S Next behind i (part u rest) e →
        parts_height rest ≤ h → LaterFound o i s
    more_found {k = k} {e = e} {qs = qs} {R = R} u none listing last d st low =
        let end = run_none S Next behind d in
        let stopped : LaterStop S Next behind i (part u none) k = record { before = λ t x r. subst (λ c. stops Expression i (edge u) (behind c) t ≡ true) (sym end.place) (st.before t x (subst (λ c. ReadBy S Next behind Div c t x) end.place r)); apart = subst (Apart S Next behind) (sym end.place) st.apart } in
        record { parts = qs; to = k; pairs = R; found = listing_stop S Next behind det listing (λ t x r op. no_comma i u (λ c. listing.edge_is (last ∙ c)) stopped r op) }
    more_found u (gap rest) listing last d st low = absurd (run_never S Next behind d)
    more_found {s = s} {k = k} {e = e} {qs = qs} {R = R} {W = W} u (part n rest) listing last d st low =
        let comma = run_token S Next behind d in
        let p = run_the_part S Next behind (run_laid S Next behind comma.runs) in
        let read = read_comma comma.reads in
        let on : LaterStop S Next behind i (part n rest) e = record { before = st.before; apart = st.apart } in
        let found = each.found (omega arith) (λ c. cc) (λ c. cc) p.spelled (item_stops i n rest p.runs on) in
        more_found {s = s} {k = p.mid} {e = e} {qs = push qs n} {R = R ++ p.one} {W = p.more} n rest (listing_more S Next behind det read.0 read.1 listing found) (last_push qs n) p.runs on (omega arith)

    pub later_found : {s e : S} {P : List Pair} (ps : Parts) → Runs ways S Next behind o (later_parts i ps) ps s e P → LaterStop S Next behind i ps e → parts_height ps ≤ h → LaterFound o i s
    later_found none d st low = absurd (run_never S Next behind d)
    later_found (gap ps) d st low = absurd (run_never S Next behind d)
    later_found (part n ps) d st low =
        let p = run_the_part S Next behind d in
        let found = each.found (omega arith) (λ c. cc) (λ c. cc) p.spelled (item_stops i n ps p.runs st) in
        more_found n ps (listing_first S Next behind det found) refl p.runs st (omega arith)
