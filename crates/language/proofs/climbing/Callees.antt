-- What stands behind `new`: how it is read, turn by turn.
use Rattle.std.proofs.Common.{◌≡◌, ℕ, ◌≤◌, Bool, true, false, cond, List, [], ◌∷◌, ◌++◌, refl, sym, ap, ◌∙◌, subst, arith}
use Rattle.std.specs.Prelude.{IsTrue, Some, None, Option, codes, not, ◌&&◌, ◌||◌}
use Rattle.std.proofs.lemmas.Bool.{and_parts, and_from}
use Rattle.std.proofs.lemmas.Bool.Decides.{nat_tests}
use Rattle.std.proofs.lemmas.List.{append-nil}
use Rattle.tokens.specs.declared.token.TokenClass.TheVariants.{Punctuator}
use Rattle.tokens.specs.declared.token.Goal.TheVariants.{Div}
use Rattle.tokens.specs.Goals.{allows}
use Rattle.tree.specs.declared.kind.Kind.{Kind}
use Rattle.tree.specs.declared.kind.Kind.TheVariants.{MemberExpression, TaggedTemplateExpression}
use Rattle.language.specs.declared.Rank.{Rank}
use Rattle.language.specs.declared.Rank.TheVariants.{Expression, Assignment, Conditional, ShortCircuit, Coalesce, LogicalOr, LogicalAnd, BitwiseOr, BitwiseXor, BitwiseAnd, Equality, Relational, Shift, Additive, Multiplicative, Exponentiation, Unary, Update, LeftHandSide, New, Call, Member, Primary, Grouped}
use Rattle.language.specs.declared.Start.{Start}
use Rattle.language.specs.declared.Start.TheVariants.{Any}
use Rattle.language.specs.declared.Edge.{Edge}
use Rattle.language.specs.declared.Edge.TheVariants.{Arrow, Postfix, Other, Closed}
use Rattle.tree.specs.declared.kind.Pair.{Pair}
use Rattle.tree.specs.Tree.{Tree, node, Parts, none, part, parts_of, plain}
use Rattle.language.specs.Vocabulary.{is, takes, takes_number, precedence, op_dot, op_index, op_call, op_template}
use Rattle.language.specs.Pieces.{Role, expr, tagged_quasi, PieceOf, Piece, Slot, fixed, left, lead, tail, callee, lead_chain, lead_pattern, sub, is_tight, settle_piece}
use Rattle.language.specs.Token.{Token}
use Rattle.language.specs.Edges.{edge, edge_as_written}
use Rattle.language.specs.Continuations.{operation, rank_made_by, holds, stops_at, stops}
use Rattle.language.specs.Promises.{IsDetermined, ReadBy, Stops, Found, FoundAt, Callee, at_member, at_new}
use Rattle.language.specs.Grammar.{ways, spellings}
use Rattle.language.specs.Derivation.{Among, Reads, Spells, direct, grouped, Runs, Placed}
use Rattle.language.proofs.climbing.Spine.{is_led, Grows, whole, grow}
use Rattle.language.proofs.table.ViewIsComplete.{way_of}
use Rattle.language.proofs.table.Productions.{way_from}
use Rattle.language.proofs.table.Begins.{goes_to}
use Rattle.language.proofs.table.LeftRecursiveWays.{callee_rank, Led, led_call}
use Rattle.language.proofs.table.RightEdges.{Edged, standing_closed}
use Rattle.language.proofs.table.Reaches.{is_loose}
use Rattle.language.proofs.table.OperatorTokens.{reads_dot, reads_index}
use Rattle.language.proofs.climbing.RightOperands.{PropertyFound}
use Rattle.language.proofs.climbing.OperatorNodes.{dot_grows, index_grows, tag_grows}
use Rattle.language.proofs.climbing.NoContinuation.{ends_where_stops}
use Rattle.language.proofs.climbing.BinaryTurns.{replaced, retold, regrown}
use Rattle.language.proofs.climbing.OperatorLoop.{Leads, Climbing}
use Rattle.language.proofs.climbing.Conditionals.{same_sign}
use Rattle.language.proofs.climbing.Suffixes.{rank_is, suffix_rank, suffix_fits, suffix_stands, callee_tight, computed_flags, stands_callee, no_super, dot_on}
use Rattle.language.proofs.climbing.Calls.{index_on, tag_on}
use Rattle.language.proofs.climbing.FirstTurn.{Begun, begins, core_spelled}
use Rattle.language.proofs.climbing.Targets.{led_behind}

slot_same : (y y' : Rank) (i : Bool) (f : Start) → is_tight y ≡ is_tight y' → (p : Slot) → settle_piece y i f (sub p) ≡ settle_piece y' i f (sub p)
slot_same y y' i f h callee = ap (λ b. sub (expr (cond b Member Call) true f)) h
slot_same y y' i f h (fixed a) = refl
slot_same y y' i f h (left z) = refl
slot_same y y' i f h (lead z) = refl
slot_same y y' i f h (tail z x) = refl
slot_same y y' i f h lead_chain = refl
slot_same y y' i f h lead_pattern = refl

piece_same : (y y' : Rank) (i : Bool) (f : Start) → is_tight y ≡ is_tight y' → (p : Piece) → settle_piece y i f p ≡ settle_piece y' i f p
piece_same y y' i f h (sub x) = slot_same y y' i f h x
piece_same y y' i f h _ = refl

-- pieces are the same at positions that are both tight
pub tight_pieces : (y y' : Rank) (i : Bool) (f : Start) → is_tight y ≡ is_tight y' → (qs : List Piece) → goes_to y i f qs ≡ goes_to y' i f qs
tight_pieces y y' i f h [] = refl
tight_pieces y y' i f h (p ∷ qs) = λ k. piece_same y y' i f h p k ∷ tight_pieces y y' i f h qs k

member_number : (z : ℕ) → IsTrue (takes_number 21 z) → IsTrue (takes_number 19 z)
member_number z h = grind (arith, nat_tests)

-- what stands at Member stands at New
pub member_new : (z : Rank) → IsTrue (takes Member z) → IsTrue (takes New z)
member_new z h = member_number (precedence z) h

way_new : (i : Bool) (f : Start) {qs : List (PieceOf Role)} (n : Tree) → Among qs (ways (expr Member i f) n) → Among qs (ways (expr New i f) n)
unfolding spellings
way_new i f (node k w g st en ps) h =
    let v = way_of h in
    let fit = and_parts _ _ v.fit in
    let fits = and_parts _ _ fit.0 in
    subst (λ c. Among c (ways (expr New i f) (node k w g st en ps))) (sym (v.is ∙ tight_pieces Member New i f refl v.spelling.pieces))
    (way_from (expr New i f) (node k w g st en ps) v.spelling v.lean v.listed (and_from _ _ (and_from _ _ (member_new v.spelling.rank fits.0) fits.1) fit.1))

-- a position at which `(` goes on, or nothing without arguments stands
not_new : (y : Rank) → (y ≡ New → ⊥) → takes y New ≡ true → takes y Call ≡ true
not_new New h k = absurd (h refl)
not_new Call h k = refl
not_new Member h k = cc
not_new Primary h k = cc
not_new Grouped h k = cc
not_new Expression h k = refl
not_new Assignment h k = refl
not_new Conditional h k = refl
not_new ShortCircuit h k = refl
not_new Coalesce h k = refl
not_new LogicalOr h k = refl
not_new LogicalAnd h k = refl
not_new BitwiseOr h k = refl
not_new BitwiseXor h k = refl
not_new BitwiseAnd h k = refl
not_new Equality h k = refl
not_new Relational h k = refl
not_new Shift h k = refl
not_new Additive h k = refl
not_new Multiplicative h k = refl
not_new Exponentiation h k = refl
not_new Unary h k = refl
not_new Update h k = refl
not_new LeftHandSide h k = refl

tighter : (a b : Bool) (c : Bool) → (not a || c) ≡ true → (b ≡ true → a ≡ true) → (not b || c) ≡ true
tighter true true c h f = h
tighter a false c h f = refl
tighter false true c h f = let u = f refl in cc

-- the edge of what stands at a tight position
pub standing_tight : {h : Rank} {x : Edge} {last : Token} → Edged h x last → 18 ≤ precedence h → edge_as_written x last ≡ Other
standing_tight {h} {x} {last} u high = of (edge_as_written x last) refl
  where
    of : (c : Edge) → edge_as_written x last ≡ c → edge_as_written x last ≡ Other
    of Other e = e
    of Arrow e = let low = u.arrow e in absurd (omega arith)
    of Postfix e = let low = u.postfix e in absurd (omega arith)
    of Closed e = absurd (u.ends (standing_closed x last e))

module _ (S : Type 0) (Next : S → Token → S → Type 0) (behind : S → Token) where
  -- what is spelled at Member is spelled at New
  pub spells_new : {o : ℕ} {i : Bool} {f : Start} {n : Tree} {s e : S} {P : List Pair} → Spells ways S Next behind o (expr Member i f) n s e P → Spells ways S Next behind o (expr New i f) n s e P
  spells_new (grouped p d q) = grouped p d q
  spells_new {i = i} {f = f} {n = n} (direct qs h (Rattle.language.specs.Derivation.placed nx p) d) = direct qs (way_new i f n h) (Rattle.language.specs.Derivation.placed nx p) d

  -- so each callee is
  pub callee_new : {o : ℕ} {n : Tree} {s e : S} {P : List Pair} → Callee S Next behind o n s e P → Spells ways S Next behind o (expr New true Any) n s e P
  callee_new (at_member d) = spells_new d
  callee_new (at_new d h) = d

  -- what can't go on at New can't at Member
  pub member_stops : (n : Tree) {e : S} → Stops S Next behind New true n e → Stops S Next behind Member true n e
  member_stops n {e} st = record { before = λ t m r. of t (rank_made_by (operation t) t.after_break) (st.before t m r); apart = st.apart }
    where
      of : (t : Token) (z : Option Rank) → stops_at New true (edge_as_written (edge n) (behind e)) t z ≡ true → stops_at Member true (edge_as_written (edge n) (behind e)) t z ≡ true
      of t None h = refl
      of t (Some z) h = tighter (takes New z) (takes Member z) ((is t.text "in" && not true) || not (holds (edge_as_written (edge n) (behind e)) z)) h (member_new z)

module _ (S : Type 0) (Next : S → Token → S → Type 0) (behind : S → Token) (det : IsDetermined S Next behind) where
  -- a growth to a whole at Member is one to a whole at New
  data AtNew (o : ℕ) (s0 : S) (n : Tree) (e : S) (P : List Pair) (b : Role) (m : Tree) (mid : S) (Q : List Pair) : Type 0 where
    the_whole : expr Member true Any ≡ b → n ≡ m → e ≡ mid → P ≡ Q → AtNew o s0 n e P b m mid Q
    grown : Grows S Next behind o s0 (expr New true Any) n e P b m mid Q → AtNew o s0 n e P b m mid Q

  last_step : {o : ℕ} {s0 e : S} {n : Tree} {P : List Pair} {b c : Role} {m l : Tree} {ps : Parts} {rest : List (PieceOf Role)} {mid to : S} {Q R : List Pair} → expr Member true Any ≡ c → n ≡ l → e ≡ to → P ≡ Q ++ R →
      Among (sub b ∷ rest) (ways c l) → is_led (sub b ∷ rest) ≡ true → Placed S Next behind c l s0 to → parts_of l ≡ part m ps → Runs ways S Next behind o rest ps mid to R → Grows S Next behind o s0 (expr New true Any) n e P b m mid Q
  last_step {s0 = s0} {b = b} {l = l} {rest = rest} {to = to} a t p q h led pl eq d =
      let way = way_new true Any l (subst (λ v. Among (sub b ∷ rest) (ways v l)) (sym a) h) in
      let places : Placed S Next behind (expr New true Any) l s0 to = replaced S Next behind det (subst (λ v. Placed S Next behind v l s0 to) (sym a) pl) in
      grow way led places eq d (regrown S Next behind det t p q whole)

  grows_new : {o : ℕ} {s0 e : S} {n : Tree} {P : List Pair} {b : Role} {m : Tree} {mid : S} {Q : List Pair} → Grows S Next behind o s0 (expr Member true Any) n e P b m mid Q → AtNew o s0 n e P b m mid Q
  grows_new whole = the_whole refl refl refl refl
  grows_new {o} {s0} {e} {n} {P} {b} {m} {mid} {Q} (grow {c = c} {l = l} {ps = ps} {rest = rest} {to = to} {R = R} h led pl eq d gs) = of (grows_new gs)
    where
      of : AtNew o s0 n e P c l to (Q ++ R) → AtNew o s0 n e P b m mid Q
      of (the_whole a t p q) = grown (last_step a t p q h led pl eq d)
      of (grown gs') = grown (grow h led pl eq d gs')

  -- so what leads to a whole at Member leads to it at New
  leads_new : {o : ℕ} {s0 e : S} {n : Tree} {P : List Pair} {r : Rank} {m : Tree} {mid : S} {Q : List Pair} → Leads S Next behind det o s0 Member true Any n e P r m mid Q → Leads S Next behind det o s0 New true Any n e P r m mid Q
  leads_new {o} {s0} {e} {n} {P} {r} {m} {mid} {Q} v = of (grows_new v.grows)
    where
      of : AtNew o s0 n e P (expr v.h v.j v.g) m mid Q → Leads S Next behind det o s0 New true Any n e P r m mid Q
      of (grown gs) = record { h = v.h; j = v.j; g = v.g; fits = v.fits; spelled = v.spelled; grows = gs }
      of (the_whole a t p q) = record {
        h = New;
        j = true;
        g = Any;
        fits = member_new r (subst (λ k. IsTrue (takes k r)) (sym (rank_is a)) v.fits);
        spelled = spells_new S Next behind (subst (λ k. Spells ways S Next behind o k m s0 mid Q) (sym a) v.spelled);
        grows = regrown S Next behind det t p q whole;
      }

  -- a leftmost part that is the one that was read leads on
  pub leads_begun : {o : ℕ} {s0 e : S} {y : Rank} {i : Bool} {f : Start} {n : Tree} {P : List Pair} {h r : Rank} {j : Bool} {m m' : Tree} {mid mid' : S} {Q Q' : List Pair} → Begun S Next behind det o s0 y i f n e P h j m' mid' Q' → (mid' ≡ mid) × (m' ≡ m) × (Q' ≡ Q) × IsTrue (takes h r) →
      Leads S Next behind det o s0 y i f n e P r m mid Q
  leads_begun {f = f} {h = h} {j = j} b same = record { h = h; j = j; g = f; fits = same.3; spelled = retold S Next behind det same.1 same.0 same.2 (core_spelled S Next behind b.core); grows = regrown S Next behind det same.1 same.0 same.2 b.grows }

  -- Before each turn of the loop behind `new`: as before each turn at New, but only what is a callee begins with what stands so far.
  pub record ClimbingCallee (o : ℕ) (r : Rank) (s0 : S) (m : Tree) (mid : S) (Q : List Pair) : Type 0 where
    pub low : IsTrue (takes New r)
    pub stands : (h : Rank) (j : Bool) → IsTrue (takes h r) → (is_loose h ≡ true → j ≡ true) → Spells ways S Next behind o (expr h j Any) m s0 mid Q
    pub leads : (o' : ℕ) (e' : S) (n' : Tree) (P' : List Pair) → Callee S Next behind o' n' s0 e' P' → Stops S Next behind New true n' e' → Leads S Next behind det o' s0 New true Any n' e' P' r m mid Q

  -- what begins all at New begins each callee
  pub as_callee : {o : ℕ} {r : Rank} {s0 : S} {m : Tree} {mid : S} {Q : List Pair} → Climbing S Next behind det o New true Any r s0 m mid Q → ClimbingCallee o r s0 m mid Q
  as_callee climb = record { low = climb.low; stands = climb.stands; leads = λ o' e' n' P' d st. climb.leads o' e' n' P' (callee_new S Next behind d) st }

  -- Nothing that may stand at New alone and is the leftmost part has `(` behind it: it would go on with that.
  abbrev pub Uncalled : Rank → Tree → S → Type 0
  Uncalled h m mid = IsTrue (takes h New) → edge m ≡ Other → (t : Token) (k : S) → Reads S Next behind Punctuator (codes "(") mid t k → ⊥

  call_head : {y : Rank} {i : Bool} {f : Start} {k : Kind} {w : List ℕ} {g : Rattle.tree.specs.declared.kind.Flags.Flags} {ps : Parts} {h : Rank} {j : Bool} {f' : Start} {rest : List (PieceOf Role)} → Led y i f k w g ps (expr h j f') rest op_call → h ≡ Call
  call_head (led_call k o s tk b e) = rank_is b

  -- at a position other than New
  pub uncalled_at : {o : ℕ} {s0 e : S} {y : Rank} {i : Bool} {f : Start} {n : Tree} {P : List Pair} {h : Rank} {j : Bool} {m : Tree} {mid : S} {Q : List Pair} → (y ≡ New → ⊥) → Begun S Next behind det o s0 y i f n e P h j m mid Q → Uncalled h m mid
  uncalled_at {y = y} {h = h} {mid = mid} other b tk at t k reads =
      let call = not_new y other (b.reached.taken New tk) in
      let on = led_behind S Next behind det Call b (ap (λ c. edge_as_written c (behind mid)) at) reads refl refl refl refl (λ e. cc) call in
      let same : takes Call New ≡ true = subst (λ c. IsTrue (takes c New)) (call_head on.led) tk in
      cc

  -- at New, in what no `(` follows
  uncalled_new : {o : ℕ} {s0 e : S} {n : Tree} {P : List Pair} {h : Rank} {j : Bool} {m : Tree} {mid : S} {Q : List Pair} → ((t : Token) (k : S) → Reads S Next behind Punctuator (codes "(") e t k → ⊥) → Begun S Next behind det o s0 New true Any n e P h j m mid Q → Uncalled h m mid
  uncalled_new {m = m} {mid = mid} closed b tk at t k reads =
      let al : IsTrue (allows Div t.class t.text) = subst (λ c. IsTrue (allows Div c t.text)) (sym reads.class) (subst (λ c. IsTrue (allows Div Punctuator c)) (sym reads.text) refl) in
      let op : operation t ≡ op_call = Rattle.language.proofs.climbing.SpineContinuations.makes t reads.class reads.text refl in
      let stopped : stops New true (edge m) (behind mid) t ≡ true = ap (λ v. stops_at New true (edge_as_written (edge m) (behind mid)) t (rank_made_by v t.after_break)) op in
      let end = ends_where_stops S Next behind det (core_spelled S Next behind b.core) (record { next = reads.next; allowed = al }) stopped b.grows in
      closed t k (subst (λ v. Reads S Next behind Punctuator (codes "(") v t k) (sym end.place) reads)

  -- where all callees begin with one leftmost part, the loop behind `new` begins with it
  pub callee_start : {o : ℕ} {r : Rank} {s0 : S} {m : Tree} {mid : S} {Q : List Pair} → IsTrue (takes New r) →
      ((h : Rank) (j : Bool) → IsTrue (takes h r) → (is_loose h ≡ true → j ≡ true) → Spells ways S Next behind o (expr h j Any) m s0 mid Q) →
      ((o' : ℕ) (y : Rank) (n : Tree) (e : S) (P : List Pair) (h : Rank) (j : Bool) (m' : Tree) (mid' : S) (Q' : List Pair) → Begun S Next behind det o' s0 y true Any n e P h j m' mid' Q' → Uncalled h m' mid' → (mid' ≡ mid) × (m' ≡ m) × (Q' ≡ Q) × IsTrue (takes h r)) →
      ClimbingCallee o r s0 m mid Q
  callee_start {o} {r} {s0} {m} {mid} {Q} low stands alone = record { low = low; stands = stands; leads = λ o' e' n' P' d st. of d st }
    where
      of : {o' : ℕ} {e' : S} {n' : Tree} {P' : List Pair} → Callee S Next behind o' n' s0 e' P' → Stops S Next behind New true n' e' → Leads S Next behind det o' s0 New true Any n' e' P' r m mid Q
      of {o'} {e'} {n'} {P'} (at_member d) st =
          let u = begins S Next behind det d (member_stops S Next behind n' st) in
          leads_new (leads_begun u.begun (alone o' Member n' e' P' u.h u.j u.m u.mid u.Q u.begun (uncalled_at (λ k. cc) u.begun)))
      of {o'} {e'} {n'} {P'} (at_new d closed) st =
          let u = begins S Next behind det d st in
          leads_begun u.begun (alone o' New n' e' P' u.h u.j u.m u.mid u.Q u.begun (uncalled_new closed u.begun))

  module _ {s0 mid x : S} {m : Tree} {t : Token} (r : ReadBy S Next behind Div mid t x) where
    module _ (is_op : operation t ≡ op_dot) (goes : stops New true (edge m) (behind mid) t ≡ false) where
      -- `.` and a name
      pub callee_dot : {o : ℕ} {c : Rank} {Q : List Pair} {u : Tree} {to : S} {U : List Pair} {st en : ℕ} → ClimbingCallee o c s0 m mid Q → IsTrue (takes Call c) → PropertyFound S Next behind det o x to u U →
          Placed S Next behind (expr New true Any) (node MemberExpression [] plain st en (part m (part u none))) s0 to → ClimbingCallee o (suffix_rank c) s0 (node MemberExpression [] plain st en (part m (part u none))) to (Q ++ U)
      callee_dot {c = c} {u = u} {to = to} {U = U} {st = st} {en = en} climb fits found places = record {
        low = suffix_fits New c (stands_callee New c climb.low fits refl) refl;
        stands = λ h j tk lo.
            let at = suffix_stands h c tk fits in
            let callee_is = climb.stands (callee_rank h) true at.1 (λ k. absurd (callee_tight (is_tight h) k)) in
            dot_grows S Next behind (no_super S Next behind callee_is) at.0 callee_is (reads_dot S Next behind r.next is_op) found.spelled (replaced S Next behind det places);
        leads = λ o' e' n' P' d stopped.
            let w = dot_on S Next behind det r is_op goes stopped (climb.leads o' e' n' P' d stopped) in
            let same = found.only o' w.to w.name w.pairs w.spelled in
            w.leads st en u to U same.1 same.0 same.2 places;
      }

    module _ (is_op : operation t ≡ op_index) (goes : stops New true (edge m) (behind mid) t ≡ false) where
      module _ {o1 : ℕ} {u : Tree} {e1 : S} {U : List Pair} (found : Found S Next behind o1 Expression true Any x e1 u U) where
        -- `[`, an expression and `]`
        pub callee_index : {c : Rank} {Q : List Pair} {close : Token} {to : S} {st en : ℕ} → ClimbingCallee o1 c s0 m mid Q → IsTrue (takes Call c) → Reads S Next behind Punctuator (codes "]") e1 close to →
            Placed S Next behind (expr New true Any) (node MemberExpression [] computed_flags st en (part m (part u none))) s0 to → ClimbingCallee o1 (suffix_rank c) s0 (node MemberExpression [] computed_flags st en (part m (part u none))) to (Q ++ U)
        callee_index {c = c} {Q = Q} {close = close} {to = to} {st = st} {en = en} climb fits closes places = record {
          low = suffix_fits New c (stands_callee New c climb.low fits refl) refl;
          stands = λ h j tk lo.
              let at = suffix_stands h c tk fits in
              let callee_is = climb.stands (callee_rank h) true at.1 (λ k. absurd (callee_tight (is_tight h) k)) in
              retold S Next behind det refl refl (ap (λ v. Q ++ v) (append-nil U))
              (index_grows S Next behind (no_super S Next behind callee_is) at.0 callee_is (reads_index S Next behind r.next is_op) found.spelled closes (replaced S Next behind det places));
          leads = λ o' e' n' P' d stopped.
              let w = index_on S Next behind det r is_op goes stopped (climb.leads o' e' n' P' d stopped) in
              let same = found.only o' w.place w.inner w.pairs w.spelled w.stopped in
              let end = same_sign S Next behind det (subst (λ k. Reads S Next behind Punctuator (codes "]") k w.closing w.to) same.0 w.closes) closes refl in
              w.leads st en u to U same.1 end.1 same.2 places;
        }

    module _ (is_op : operation t ≡ op_template) (goes : stops New true (edge m) (behind mid) t ≡ false) where
      -- a template
      pub callee_tag : {o : ℕ} {c : Rank} {Q : List Pair} {u : Tree} {to : S} {U : List Pair} {st en : ℕ} → ClimbingCallee o c s0 m mid Q → IsTrue (takes Call c) → FoundAt S Next behind o tagged_quasi mid to u U →
          Placed S Next behind (expr New true Any) (node TaggedTemplateExpression [] plain st en (part m (part u none))) s0 to → ClimbingCallee o (suffix_rank c) s0 (node TaggedTemplateExpression [] plain st en (part m (part u none))) to (Q ++ U)
      callee_tag {c = c} {u = u} {to = to} {U = U} {st = st} {en = en} climb fits found places = record {
        low = suffix_fits New c (stands_callee New c climb.low fits refl) refl;
        stands = λ h j tk lo.
            let at = suffix_stands h c tk fits in
            tag_grows S Next behind at.0 (climb.stands (callee_rank h) true at.1 (λ k. absurd (callee_tight (is_tight h) k))) found.spelled (replaced S Next behind det places);
        leads = λ o' e' n' P' d stopped.
            let w = tag_on S Next behind det r is_op goes stopped (climb.leads o' e' n' P' d stopped) in
            let same = found.only o' w.to w.template w.pairs w.spelled in
            w.leads st en u to U same.1 same.0 same.2 places;
      }
