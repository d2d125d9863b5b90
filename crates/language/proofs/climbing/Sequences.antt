-- A sequence in one turn of the loop: its parts behind the first comma, one by one, and the turn with them.
use Rattle.std.proofs.Common.{◌≡◌, ℕ, Bool, true, false, cond, List, [], ◌∷◌, ◌++◌, refl, sym, ap, ◌∙◌, subst, arith, append_assoc}
use Rattle.std.specs.Prelude.{IsTrue, Option, Some, None, codes, not, ◌&&◌, ◌||◌}
use Rattle.std.proofs.lemmas.Bool.{false≢true}
use Rattle.std.proofs.lemmas.Bool.Decides.{nat_tests}
use Rattle.std.proofs.lemmas.List.{append-nil}
use Rattle.tokens.specs.declared.token.TokenClass.TheVariants.{Punctuator}
use Rattle.tokens.specs.declared.token.Goal.TheVariants.{Div}
use Rattle.tokens.specs.Goals.{allows}
use Rattle.tree.specs.declared.kind.Kind.TheVariants.{SequenceExpression}
use Rattle.language.specs.declared.Rank.{Rank}
use Rattle.language.specs.declared.Rank.TheVariants.{Expression, Assignment, Update}
use Rattle.language.specs.declared.Start.{Start}
use Rattle.language.specs.declared.Start.TheVariants.{Any}
use Rattle.language.specs.declared.Edge.{Edge}
use Rattle.language.specs.declared.Edge.TheVariants.{Arrow, Postfix, Other, Closed}
use Rattle.tree.specs.declared.kind.Pair.{Pair}
use Rattle.tree.specs.Tree.{Tree, node, Parts, none, part, gap, bare_parts, plain, push, join}
use Rattle.tree.proofs.Shapes.{join-none, join-push}
use Rattle.language.specs.Vocabulary.{is, takes, takes_number, precedence, Operator, op_binary, op_power, op_assign, op_update, op_comma, op_question, op_dot, op_call, op_index, op_optional, op_arrow, op_template, op_none}
use Rattle.language.specs.Pieces.{Role, expr, PieceOf, sub, is_none}
use Rattle.language.specs.Token.{Token}
use Rattle.language.specs.Edges.{edge, last_edge, edge_as_written}
use Rattle.language.specs.Expressions.{sequence}
use Rattle.language.specs.Continuations.{operation, rank_made_by, holds, stops_at, stops}
use Rattle.language.specs.Promises.{IsDetermined, ReadBy, Stops, Found, Absent, later_parts, LaterStop, FoundLater, Apart}
use Rattle.language.specs.Grammar.{ways}
use Rattle.language.specs.Derivation.{Reads, Spells, Runs, done, step, within, token, laid, Placed}
use Rattle.language.proofs.climbing.Spine.{whole}
use Rattle.language.proofs.table.Begins.{goes_to, retell}
use Rattle.language.proofs.table.OperatorFacts.{binding}
use Rattle.language.proofs.table.OperatorTokens.{op_reads, reads_comma}
use Rattle.language.proofs.table.RightEdges.{edged, standing_closed}
use Rattle.language.proofs.list_loops.FirstPieces.{run_none, run_token, run_laid, run_never, run_the_part}
use Rattle.language.proofs.climbing.SpineContinuations.{makes}
use Rattle.language.proofs.climbing.OperatorNodes.{sequence_grows}
use Rattle.language.proofs.climbing.BinaryTurns.{same_node, same_places, replaced, retold, regrown}
use Rattle.language.proofs.climbing.Conditionals.{same_sign, stops_before}
use Rattle.language.proofs.climbing.OperatorLoop.{Leads, Climbing, led_on}
use Rattle.language.proofs.climbing.NoContinuation.{goes_where_not}
use Rattle.language.proofs.climbing.Commas.{comma_pieces, comma_goes, CommaLeads, Sequencing, seq_first}

low_symbol : (z : Rank) → takes Assignment z ≡ false → z ≡ Expression
low_symbol Expression h = refl
low_symbol _ h = cc

some_is : {b c : Rank} → Some b ≡ Some c → b ≡ c
some_is e = cc

-- only a comma makes a node at Expression
pub comma_symbol : (t : Token) (x : Operator) → operation t ≡ x → rank_made_by x t.after_break ≡ Some Expression → x ≡ op_comma
comma_symbol t (op_binary l z q) op h =
    let reads = op_reads t op (λ e. cc) (λ e. cc) in
    let b = binding t.text reads.1 in
    let low = b.least in
    let at : precedence z ≡ precedence Expression = ap precedence (some_is h) in
    absurd (omega arith)
comma_symbol t op_comma op h = refl
comma_symbol t op_power op h = cc
comma_symbol t op_assign op h = cc
comma_symbol t op_update op h = of t.after_break h
  where
    of : (b : Bool) → cond b None (Some Update) ≡ Some Expression → op_update ≡ op_comma
    of true e = cc
    of false e = cc
comma_symbol t op_question op h = cc
comma_symbol t op_dot op h = cc
comma_symbol t op_call op h = cc
comma_symbol t op_index op h = cc
comma_symbol t op_optional op h = cc
comma_symbol t op_arrow op h = of t.after_break h
  where
    of : (b : Bool) → cond b None (Some Assignment) ≡ Some Expression → op_arrow ≡ op_comma
    of true e = cc
    of false e = cc
comma_symbol t op_template op h = cc
comma_symbol t op_none op h = cc

-- what can't go on at Expression can't at Assignment; and the other way round where no comma follows
weaker : (a c : Bool) → c ≡ true → (not a || c) ≡ true
weaker true c h = h
weaker false c h = refl

all_low : (z : Rank) (c : Bool) → (not (takes Expression z) || c) ≡ true → takes Expression z ≡ true → c ≡ true
all_low z c h k = of (takes Expression z) k h
  where
    of : (b : Bool) → b ≡ true → (not b || c) ≡ true → c ≡ true
    of true k h = h
    of false k h = cc

low_number : (z : ℕ) → takes_number 0 z ≡ true
low_number z = grind (arith, nat_tests)

-- at Expression everything stands
pub takes_all : (z : Rank) → takes Expression z ≡ true
takes_all z = low_number (precedence z)

pub stops_assignment : (i : Bool) (x : Edge) (t : Token) (z : Option Rank) → stops_at Expression i x t z ≡ true → stops_at Assignment i x t z ≡ true
stops_assignment i x t None h = refl
stops_assignment i x t (Some z) h = weaker (takes Assignment z) ((is t.text "in" && not i) || not (holds x z)) (all_low z ((is t.text "in" && not i) || not (holds x z)) h (takes_all z))

-- where no comma follows
pub stops_expression : (i : Bool) (x : Edge) (t : Token) (z : Option Rank) → (z ≡ Some Expression → ⊥) → stops_at Assignment i x t z ≡ true → stops_at Expression i x t z ≡ true
stops_expression i x t None other h = refl
stops_expression i x t (Some z) other h = of (takes Assignment z) refl h
  where
    of : (b : Bool) → takes Assignment z ≡ b → (not b || ((is t.text "in" && not i) || not (holds x z))) ≡ true → (not (takes Expression z) || ((is t.text "in" && not i) || not (holds x z))) ≡ true
    of true e k = weaker (takes Expression z) ((is t.text "in" && not i) || not (holds x z)) k
    of false e k = absurd (other (ap Some (low_symbol z e)))

last_push : (ps : Parts) (u : Tree) → last_edge (push ps u) ≡ edge u
last_push none u = refl
last_push (gap ps) u = last_push ps u
last_push (part n none) u = refl
last_push (part n (part m ps)) u = last_push (part m ps) u
last_push (part n (gap ps)) u = last_push ps u

last_joined : (qs : Parts) (n : Tree) (rest : Parts) → last_edge (join qs (part n rest)) ≡ last_edge (part n rest)
last_joined none n rest = refl
last_joined (gap qs) n rest = last_joined qs n rest
last_joined (part l none) n rest = refl
last_joined (part l (part v qs)) n rest = last_joined (part v qs) n rest
last_joined (part l (gap qs)) n rest = last_joined qs n rest

-- a start changes no pieces behind a comma
pub comma_any : (i : Bool) (f : Start) (ps : Parts) → comma_pieces i f ps ≡ comma_pieces i Any ps
comma_any i f none = refl
comma_any i f (gap ps) = refl
comma_any i f (part n ps) = ap (λ qs. Rattle.language.specs.Pieces.tok Punctuator (codes ",") ∷ Rattle.language.specs.Pieces.lay Rattle.language.specs.Pieces.space ∷ sub (expr Assignment i Any) ∷ qs) (comma_any i f ps)

open_edge : (c : Edge) (last : Token) → (c ≡ Closed → ⊥) → holds (edge_as_written c last) Expression ≡ true
open_edge c last other = of (edge_as_written c last) refl
  where
    of : (d : Edge) → edge_as_written c last ≡ d → holds d Expression ≡ true
    of Arrow e = refl
    of Postfix e = refl
    of Other e = refl
    of Closed e = absurd (other (standing_closed c last e))

module _ (S : Type 0) (Next : S → Token → S → Type 0) (behind : S → Token) (det : IsDetermined S Next behind) where
  read_comma : {k x : S} {t : Token} → Reads S Next behind Punctuator (codes ",") k t x → ReadBy S Next behind Div k t x × (operation t ≡ op_comma)
  read_comma {t = t} h =
      let al : IsTrue (allows Div t.class t.text) = subst (λ v. IsTrue (allows Div v t.text)) (sym h.class) (subst (λ v. IsTrue (allows Div Punctuator v)) (sym h.text) refl) in
      (record { next = h.next; allowed = al }, makes t h.class h.text refl)

  -- the parts of a sequence that begin with these, up to a place
  pub record Further (o : ℕ) (i : Bool) (e : S) (ps : Parts) (P : List Pair) (qs : Parts) (k : S) (R : List Pair) : Type 0 where
    pub rest : Parts
    pub pairs : List Pair
    pub runs : Runs ways S Next behind o (comma_pieces i Any rest) rest k e pairs
    pub parts : ps ≡ join qs rest
    pub all : P ≡ R ++ pairs

  -- Before each comma behind the first: the parts qs are read from s up to k, and all that can't go on begins with them.
  pub record Listing (o : ℕ) (i : Bool) (s : S) (qs : Parts) (k : S) (R : List Pair) : Type 0 where
    pub runs : Runs ways S Next behind o (later_parts i qs) qs s k R
    pub ends : (t : Token) (m : S) → ReadBy S Next behind Div k t m → IsTrue (stops Assignment i (last_edge qs) (behind k) t)
    pub apart : Apart S Next behind k
    pub edge_is : last_edge qs ≡ Closed → ⊥
    pub leads : (o' : ℕ) (e' : S) (ps' : Parts) (P' : List Pair) → Runs ways S Next behind o' (later_parts i ps') ps' s e' P' → LaterStop S Next behind i ps' e' → Further o' i e' ps' P' qs k R

  -- an item before a comma, or the last one, can't go on
  item_stops : {o : ℕ} (i : Bool) {k e : S} {P : List Pair} (u : Tree) (rest : Parts) → Runs ways S Next behind o (comma_pieces i Any rest) rest k e P → LaterStop S Next behind i (part u rest) e → Stops S Next behind Assignment i u k
  item_stops i {k = k} {e = e} u none d st =
      let end = run_none S Next behind d in
      record {
        before = λ t m r.
            stops_assignment i (edge_as_written (edge u) (behind k)) t (rank_made_by (operation t) t.after_break)
            (subst (λ c. stops Expression i (edge u) (behind c) t ≡ true) (sym end.place) (st.before t m (subst (λ c. ReadBy S Next behind Div c t m) end.place r)));
        apart = subst (Apart S Next behind) (sym end.place) st.apart;
      }
  item_stops i u (gap rest) d st = absurd (run_never S Next behind d)
  item_stops i u (part n rest) d st = stops_before S Next behind det Assignment i u (run_token S Next behind d).reads refl refl (λ c b. refl)

  -- the first item
  record FirstItem (o : ℕ) (i : Bool) (s e : S) (ps : Parts) (P : List Pair) : Type 0 where
    item : Tree
    rest : Parts
    mid : S
    one : List Pair
    more : List Pair
    parts : ps ≡ part item rest
    pairs : P ≡ one ++ more
    spelled : Spells ways S Next behind o (expr Assignment i Any) item s mid one
    stopped : Stops S Next behind Assignment i item mid
    runs : Runs ways S Next behind o (comma_pieces i Any rest) rest mid e more

  first_item : {o : ℕ} {i : Bool} {s e : S} {P : List Pair} (ps : Parts) → Runs ways S Next behind o (later_parts i ps) ps s e P → LaterStop S Next behind i ps e → FirstItem o i s e ps P
  first_item none d st = absurd (run_never S Next behind d)
  first_item (gap ps) d st = absurd (run_never S Next behind d)
  first_item {i = i} (part n ps) d st =
      let p = run_the_part S Next behind d in
      record { item = n; rest = ps; mid = p.mid; one = p.one; more = p.more; parts = refl; pairs = p.pairs; spelled = p.spelled; stopped = item_stops i n ps p.runs st; runs = p.runs }

  pub listing_first : {o : ℕ} {i : Bool} {s k : S} {u : Tree} {U : List Pair} → Found S Next behind o Assignment i Any s k u U → Listing o i s (part u none) k U
  listing_first {o} {i} {s} {k} {u} {U} found = record {
    runs = subst (λ v. Runs ways S Next behind o (later_parts i (part u none)) (part u none) s k v) (append-nil U) (within found.spelled done);
    ends = found.stopped.before;
    apart = found.stopped.apart;
    edge_is = (edged S Next behind det found.spelled).ends;
    leads = λ o' e' ps' P' d st.
        let w = first_item ps' d st in
        let same = found.only o' w.mid w.item w.one w.spelled w.stopped in
        record {
          rest = w.rest;
          pairs = w.more;
          runs = subst (λ c. Runs ways S Next behind o' (comma_pieces i Any w.rest) w.rest c e' w.more) same.0 w.runs;
          parts = w.parts ∙ ap (λ c. part c w.rest) same.1;
          all = w.pairs ∙ ap (λ c. c ++ w.more) same.2;
        };
  }

  -- the next item, behind a comma that is read
  record NextItem (o : ℕ) (i : Bool) (x e : S) (ps : Parts) (P : List Pair) (qs : Parts) (R : List Pair) : Type 0 where
    item : Tree
    rest : Parts
    to : S
    one : List Pair
    more : List Pair
    parts : ps ≡ join qs (part item rest)
    all : P ≡ R ++ (one ++ more)
    spelled : Spells ways S Next behind o (expr Assignment i Any) item x to one
    stopped : Stops S Next behind Assignment i item to
    runs : Runs ways S Next behind o (comma_pieces i Any rest) rest to e more

  joined_stop : (i : Bool) (qs ps : Parts) (n : Tree) (rest : Parts) {e : S} → ps ≡ join qs (part n rest) → LaterStop S Next behind i ps e → LaterStop S Next behind i (part n rest) e
  joined_stop i qs ps n rest {e} h st = record { before = λ t m r. subst (λ c. stops Expression i c (behind e) t ≡ true) (ap last_edge h ∙ last_joined qs n rest) (st.before t m r); apart = st.apart }

  module _ {i : Bool} {s k x : S} {qs : Parts} {R : List Pair} {t : Token} (r : ReadBy S Next behind Div k t x) (op : operation t ≡ op_comma) where
    next_item : {o o' : ℕ} {e : S} {ps : Parts} {P : List Pair} → Listing o i s qs k R → LaterStop S Next behind i ps e → Further o' i e ps P qs k R → NextItem o' i x e ps P qs R
    next_item {o' = o'} {e = e} {ps = ps} {P = P} listing st w = of w.rest w.runs w.parts w.all
      where
        of : {W : List Pair} (rest : Parts) → Runs ways S Next behind o' (comma_pieces i Any rest) rest k e W → ps ≡ join qs rest → P ≡ R ++ W → NextItem o' i x e ps P qs R
        of none d parts all =
            let end = run_none S Next behind d in
            let same : ps ≡ qs = parts ∙ join-none qs in
            let stopped : stops Expression i (last_edge qs) (behind e) t ≡ true = subst (λ c. stops Expression i (last_edge c) (behind e) t ≡ true) same (st.before t x (subst (λ c. ReadBy S Next behind Div c t x) end.place r)) in
            let at : stops_at Expression i (edge_as_written (last_edge qs) (behind e)) t (Some Expression) ≡ true = subst (λ v. stops_at Expression i (edge_as_written (last_edge qs) (behind e)) t (rank_made_by v t.after_break) ≡ true) op stopped in
            let sign = reads_comma S Next behind r.next op in
            absurd (refused (is t.text "in") i (holds (edge_as_written (last_edge qs) (behind e)) Expression) (ap (λ w. is w "in") sign.text) (open_edge (last_edge qs) (behind e) listing.edge_is) at)
          where
            refused : (b c d : Bool) → b ≡ false → d ≡ true → (false || ((b && not c) || not d)) ≡ true → ⊥
            refused true c d h k l = cc
            refused false c true h k l = cc
            refused false c false h k l = cc
        of (gap ps') d parts all = absurd (run_never S Next behind d)
        of (part u rest) d parts all =
            let comma = run_token S Next behind d in
            let p = run_the_part S Next behind (run_laid S Next behind comma.runs) in
            let same = same_sign S Next behind det comma.reads (reads_comma S Next behind r.next op) refl in
            record {
              item = u;
              rest = rest;
              to = p.mid;
              one = p.one;
              more = p.more;
              parts = parts;
              all = all ∙ ap (λ c. R ++ c) p.pairs;
              spelled = subst (λ c. Spells ways S Next behind o' (expr Assignment i Any) u c p.mid p.one) same.1 p.spelled;
              stopped = item_stops i u rest p.runs (joined_stop i qs ps u rest parts st);
              runs = p.runs;
            }

    -- one more
    pub listing_more : {o : ℕ} {u : Tree} {to : S} {U : List Pair} → Listing o i s qs k R → Found S Next behind o Assignment i Any x to u U → Listing o i s (push qs u) to (R ++ U)
    listing_more {o} {u} {to} {U} listing found = record {
      runs = snoc qs listing.runs;
      ends = λ t m r. subst (λ c. stops Assignment i c (behind to) t ≡ true) (sym (last_push qs u)) (found.stopped.before t m r);
      apart = found.stopped.apart;
      edge_is = λ e. (edged S Next behind det found.spelled).ends (sym (last_push qs u) ∙ e);
      leads = λ o' e' ps' P' d st.
          let w = next_item listing st (listing.leads o' e' ps' P' d st) in
          let same = found.only o' w.to w.item w.one w.spelled w.stopped in
          record {
            rest = w.rest;
            pairs = w.more;
            runs = subst (λ c. Runs ways S Next behind o' (comma_pieces i Any w.rest) w.rest c e' w.more) same.0 w.runs;
            parts = w.parts ∙ ap (λ v. join qs (part v w.rest)) same.1 ∙ sym (join-push qs w.rest u);
            all = w.all ∙ ap (λ v. R ++ (v ++ w.more)) same.2 ∙ sym (append_assoc R U w.more);
          };
    }
      where
        item : Runs ways S Next behind o (comma_pieces i Any (part u none)) (part u none) k to U
        item = subst (λ v. Runs ways S Next behind o (comma_pieces i Any (part u none)) (part u none) k to v) (append-nil U) (step (token (reads_comma S Next behind r.next op)) (step laid (within found.spelled done)))

        behind_items : (ps : Parts) {a : S} {W : List Pair} → Runs ways S Next behind o (comma_pieces i Any ps) ps a k W → Runs ways S Next behind o (comma_pieces i Any (push ps u)) (push ps u) a to (W ++ U)
        behind_items none {a} d =
            let end = run_none S Next behind d in
            subst (λ v. Runs ways S Next behind o (comma_pieces i Any (part u none)) (part u none) a to (v ++ U)) (sym end.pairs) (subst (λ v. Runs ways S Next behind o (comma_pieces i Any (part u none)) (part u none) v to U) (sym end.place) item)
        behind_items (gap ps) d = absurd (run_never S Next behind d)
        behind_items (part l ps) {a} d =
            let comma = run_token S Next behind d in
            let v = run_the_part S Next behind (run_laid S Next behind comma.runs) in
            subst (λ c. Runs ways S Next behind o (comma_pieces i Any (part l (push ps u))) (part l (push ps u)) a to c) (sym (append_assoc v.one v.more U) ∙ ap (λ c. c ++ U) (sym v.pairs)) (step (token comma.reads) (step laid (within v.spelled (behind_items ps v.runs))))

        snoc : (ps : Parts) {W : List Pair} → Runs ways S Next behind o (later_parts i ps) ps s k W → Runs ways S Next behind o (later_parts i (push ps u)) (push ps u) s to (W ++ U)
        snoc none d = absurd (run_never S Next behind d)
        snoc (gap ps) d = absurd (run_never S Next behind d)
        snoc (part l ps) d =
            let v = run_the_part S Next behind d in
            subst (λ c. Runs ways S Next behind o (later_parts i (part l (push ps u))) (part l (push ps u)) s to c) (sym (append_assoc v.one v.more U) ∙ ap (λ c. c ++ U) (sym v.pairs)) (within v.spelled (behind_items ps v.runs))

  -- where no comma follows, the parts are found
  pub listing_stop : {o : ℕ} {i : Bool} {s k : S} {qs : Parts} {R : List Pair} → Listing o i s qs k R → ((t : Token) (x : S) → ReadBy S Next behind Div k t x → operation t ≡ op_comma → ⊥) → FoundLater S Next behind o i s k qs R
  listing_stop {o} {i} {s} {k} {qs} {R} listing no_comma = record {
    runs = listing.runs;
    stopped = record { before = λ t x r. stops_expression i (edge_as_written (last_edge qs) (behind k)) t (rank_made_by (operation t) t.after_break) (λ e. no_comma t x r (comma_symbol t (operation t) refl e)) (listing.ends t x r); apart = listing.apart };
    only = λ o' e' ps' P' d st. (let w = listing.leads o' e' ps' P' d st in of w.rest w.runs w.parts w.all);
  }
    where
      of : {o' : ℕ} {e' : S} {ps' : Parts} {P' W : List Pair} (rest : Parts) → Runs ways S Next behind o' (comma_pieces i Any rest) rest k e' W → ps' ≡ join qs rest → P' ≡ R ++ W → (e' ≡ k) × (ps' ≡ qs) × (P' ≡ R)
      of none d parts all = let end = run_none S Next behind d in (sym end.place, parts ∙ join-none qs, all ∙ ap (λ v. R ++ v) end.pairs ∙ append-nil R)
      of (gap ps) d parts all = absurd (run_never S Next behind d)
      of (part n ps) d parts all = let comma = run_token S Next behind d in let u = read_comma comma.reads in absurd (no_comma comma.sign comma.mid u.0 u.1)

  -- what stands behind the comma in a whole
  record LaterOn (o : ℕ) (i : Bool) (f : Start) (s0 : S) (m : Tree) (x : S) (Q : List Pair) (n : Tree) (e : S) (P : List Pair) : Type 0 where
    st : ℕ
    en : ℕ
    later : Parts
    pairs : List Pair
    runs : Runs ways S Next behind o (later_parts i later) later x e pairs
    stopped : LaterStop S Next behind i later e
    tree : n ≡ node SequenceExpression [] plain st en (part m later)
    all : P ≡ Q ++ pairs
    places : Placed S Next behind (expr Expression i f) n s0 e
    spelled : Spells ways S Next behind o (expr Expression i f) n s0 e P

  -- The turn at a comma.
  module _ {i : Bool} {f : Start} {c : Rank} {s0 mid x : S} {m : Tree} {Q : List Pair} {t : Token} (r : ReadBy S Next behind Div mid t x) (op : operation t ≡ op_comma) (goes : stops Expression i (edge m) (behind mid) t ≡ false) where
    later_on : {o o' : ℕ} {n : Tree} {e : S} {P : List Pair} → Climbing S Next behind det o Expression i f c s0 m mid Q → IsTrue (takes Assignment c) → Spells ways S Next behind o' (expr Expression i f) n s0 e P → Stops S Next behind Expression i n e → LaterOn o' i f s0 m x Q n e P
    later_on {o' = o'} {n = n} {e = e} {P = P} climb fits d st = let v = (seq_first S Next behind det climb r op goes fits).leads o' e n P d st in of v.rest v.runs v.tree v.all v.places
      where
        of : {W : List Pair} {st1 en1 : ℕ} (rest : Parts) → Runs ways S Next behind o' (comma_pieces i f rest) rest mid e W → n ≡ node SequenceExpression [] plain st1 en1 (part m (join none rest)) → P ≡ Q ++ ([] ++ W) → Placed S Next behind (expr Expression i f) n s0 e → LaterOn o' i f s0 m x Q n e P
        of none d1 tree all places = let end = run_none S Next behind d1 in absurd (comma_goes S Next behind det d st (subst (λ k. ReadBy S Next behind Div k t x) end.place r) op)
        of (gap ps) d1 tree all places = absurd (run_never S Next behind d1)
        of {W} {st1} {en1} (part u ps) d1 tree all places =
            let comma = run_token S Next behind (retell S Next behind (comma_any i f (part u ps)) d1) in
            let same = same_sign S Next behind det comma.reads (reads_comma S Next behind r.next op) refl in
            record {
              st = st1;
              en = en1;
              later = part u ps;
              pairs = W;
              runs = subst (λ k. Runs ways S Next behind o' (later_parts i (part u ps)) (part u ps) k e W) same.1 (run_laid S Next behind comma.runs);
              stopped = record { before = λ t1 x1 r1. subst (λ k. stops Expression i k (behind e) t1 ≡ true) (ap edge tree) (st.before t1 x1 r1); apart = st.apart };
              tree = tree;
              all = all;
              places = places;
              spelled = d;
            }

    -- what stands before the comma is too loose
    unfit_led : {o : ℕ} {n : Tree} {e : S} {P : List Pair} → Leads S Next behind det o s0 Expression i f n e P c m mid Q → Stops S Next behind Expression i n e → IsTrue (takes Assignment c)
    unfit_led v st = let on = led_on S Next behind det r op (λ q. cc) (goes_where_not S Next behind det Expression i r st goes) v.spelled v.grows in subst (λ k. IsTrue (takes k c)) (Rattle.language.proofs.climbing.Commas.comma_head on.led) v.fits

    pub climb_comma_unfit : {o : ℕ} → Climbing S Next behind det o Expression i f c s0 m mid Q → takes Assignment c ≡ false → Absent S Next behind Expression i f s0
    climb_comma_unfit climb no_fit = record { nothing = λ o' e' n' P' d st. false≢true (sym no_fit ∙ unfit_led (climb.leads o' e' n' P' d st) st) }

    -- a sequence
    pub climb_comma : {o : ℕ} {qs : Parts} {to : S} {U : List Pair} {st en : ℕ} → Climbing S Next behind det o Expression i f c s0 m mid Q → IsTrue (takes Assignment c) → FoundLater S Next behind o i x to qs U →
        Placed S Next behind (expr Expression i f) (node SequenceExpression [] plain st en (part m qs)) s0 to → Climbing S Next behind det o Expression i f Expression s0 (node SequenceExpression [] plain st en (part m qs)) to (Q ++ U)
    climb_comma {o} {qs} {to} {U} {st} {en} climb fits found places = record {
      low = refl;
      stands = λ h j tk lo. of h tk j (lo (loose h tk));
      leads = λ o' e' n' P' d stopped.
          let w = later_on climb fits d stopped in
          let same = found.only o' e' w.later w.pairs w.runs w.stopped in
          let where_is = same_places S Next behind det (subst (λ k. Placed S Next behind (expr Expression i f) k s0 e') w.tree w.places) places same.0 in
          let tree : n' ≡ node SequenceExpression [] plain st en (part m qs) = w.tree ∙ same_node refl refl refl where_is.0 where_is.1 (ap (part m) same.1) in
          let pairs : P' ≡ Q ++ U = w.all ∙ ap (λ k. Q ++ k) same.2 in
          record { h = Expression; j = i; g = f; fits = refl; spelled = retold S Next behind det tree same.0 pairs w.spelled; grows = regrown S Next behind det tree same.0 pairs whole };
    }
      where
        loose : (h : Rank) → IsTrue (takes h Expression) → Rattle.language.proofs.table.Reaches.is_loose h ≡ true
        loose h tk = Rattle.language.proofs.table.Reaches.loose_of h Expression tk refl

        behind_comma : (ps : Parts) {k : S} {W : List Pair} → Runs ways S Next behind o (later_parts i ps) ps x k W → (is_none ps ≡ false) × Runs ways S Next behind o (comma_pieces i f ps) ps mid k W
        behind_comma none d = absurd (run_never S Next behind d)
        behind_comma (gap ps) d = absurd (run_never S Next behind d)
        behind_comma (part n ps) d = (refl, retell S Next behind (sym (comma_any i f (part n ps))) (step (token (reads_comma S Next behind r.next op)) (step laid d)))

        of : (h : Rank) → IsTrue (takes h Expression) → (j : Bool) → j ≡ i → Spells ways S Next behind o (expr h j f) (node SequenceExpression [] plain st en (part m qs)) s0 to (Q ++ U)
        of h tk j same =
            let b = behind_comma qs found.runs in
            subst (λ k. Spells ways S Next behind o (expr h k f) (node SequenceExpression [] plain st en (part m qs)) s0 to (Q ++ U)) (sym same)
            (sequence_grows S Next behind b.0 tk (climb.stands Assignment i fits (λ k. refl)) (to_rank h tk b.1) (replaced S Next behind det places))
          where
            to_rank : (h : Rank) → IsTrue (takes h Expression) → Runs ways S Next behind o (comma_pieces i f qs) qs mid to U → Runs ways S Next behind o (goes_to h i f (sequence (bare_parts qs))) qs mid to U
            to_rank Expression tk d = d
            to_rank _ tk d = cc
