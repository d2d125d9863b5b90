-- The right edge of what stands at a symbol: that of an arrow's body at Conditional or a looser one, `++` or `--` at Update or a looser one.
use Rattle.std.proofs.Common.{◌≡◌, ℕ, ◌≤◌, ◌<◌, Bool, true, false, cond, List, [], ◌∷◌, ◌++◌, refl, sym, ap, ◌∙◌, subst, arith}
use Rattle.std.specs.Prelude.{IsTrue, nat_le, nat_eq, not, ◌&&◌, Some}
use Rattle.std.proofs.lemmas.Bool.{and_parts}
use Rattle.std.proofs.lemmas.Bool.Decides.{nat_tests}
use Rattle.tree.specs.declared.kind.Kind.{Kind}
use Rattle.language.specs.declared.Rank.{Rank}
use Rattle.language.specs.declared.Rank.TheVariants.{Expression, Assignment, Conditional, ShortCircuit, Relational, Shift, Exponentiation, Unary, Update, LeftHandSide, Call, Member}
use Rattle.language.specs.declared.Start.{Start}
use Rattle.language.specs.declared.Start.TheVariants.{Any, NoBrace}
use Rattle.language.specs.declared.Edge.{Edge}
use Rattle.language.specs.declared.Edge.TheVariants.{Arrow, Postfix, Other, Closed}
use Rattle.tree.specs.declared.kind.Flags.{Flags}
use Rattle.tree.specs.declared.kind.Pair.{Pair}
use Rattle.tree.specs.Tree.{Tree, node, Parts, none, part, gap, kind_of, bare_parts}
use Rattle.language.specs.FirstPart.{others}
use Rattle.language.specs.Vocabulary.{is, takes, takes_number, precedence, Operator}
use Rattle.language.specs.Pieces.{Role, expr, body, Piece, PieceOf, Spelling, never, is_tight, sub, tail, put, is_none, separator, parameters, lay, apart}
use Rattle.language.specs.Token.{Token}
use Rattle.language.specs.Edges.{operand_edge, edge, last_edge, edge_as_written}
use Rattle.language.specs.Expressions.{arrow_words, arrow_end, sequence, joined, arrow_closing}
use Rattle.language.specs.Grammar.{ways, spellings}
use Rattle.language.specs.Derivation.{Among, Spells, direct, grouped, Runs, done, step, opened, closed, within, missing, reserved_key, reserved_word}
use Rattle.language.specs.Chosen as chosen
use Rattle.language.specs.Chosen.{Chosen}
use Rattle.language.specs.Forms.{Production, form, spelling_of}
use Rattle.language.proofs.table.NodeForms.{Made}
use Rattle.language.specs.Promises.{IsDetermined}
use Rattle.language.specs.Continuations.{rank_made_by, holds}
use Rattle.language.proofs.lower_bound.Domination.{settled, fits}
use Rattle.language.proofs.table.OperatorFacts.{binding}
use Rattle.language.proofs.table.ViewIsComplete.{way_of, made}
use Rattle.language.proofs.table.Begins.{goes_to}
use Rattle.language.proofs.table.LeftRecursiveWays.{callee_rank, Led, led_binary, led_power, led_assign, led_postfix, led_sequence, led_conditional, led_dot, led_index, led_call, led_tag, led_chain, Linked}
use Rattle.language.proofs.table.Reaches.{linked_base}

-- what the edge of a node, which ends with this token, asks of the symbol at which it stands
pub record Edged (h : Rank) (x : Edge) (last : Token) : Type 0 where
  pub ends : x ≡ Closed → ⊥
  pub arrow : edge_as_written x last ≡ Arrow → precedence h ≤ 2
  pub postfix : edge_as_written x last ≡ Postfix → precedence h ≤ 17

abbrev pub EdgedAt : Role → Edge → Token → Type 0
EdgedAt (expr h j f) x last = Edged h x last
EdgedAt _ x last = Unit {0}

other_edged : {h : Rank} {last : Token} → Edged h Other last
other_edged = record { ends = λ e. cc; arrow = λ e. cc; postfix = λ e. cc }

-- behind a `)` an edge is that of a group
grouped_edged : {h : Rank} (x : Edge) (last : Token) → is last.text ")" ≡ true → (x ≡ Closed → ⊥) → Edged h x last
grouped_edged Other last e c = other_edged
grouped_edged Closed last e c = absurd (c refl)
grouped_edged Arrow last e c = let u : cond (is last.text ")") Other Arrow ≡ Other = ap (λ b. cond b Other Arrow) e in
    record { ends = c; arrow = λ k. (let v : Other ≡ Arrow = sym u ∙ k in cc); postfix = λ k. (let v : Other ≡ Postfix = sym u ∙ k in cc) }
grouped_edged Postfix last e c = let u : cond (is last.text ")") Other Postfix ≡ Other = ap (λ b. cond b Other Postfix) e in
    record { ends = c; arrow = λ k. (let v : Other ≡ Arrow = sym u ∙ k in cc); postfix = λ k. (let v : Other ≡ Postfix = sym u ∙ k in cc) }

-- the pieces end with an expression at this symbol, or nothing runs over them
data Ends (q : Rank) : List (PieceOf Role) → Type 0 where
  at_last : {i : Bool} {f : Start} → Ends q (sub (expr q i f) ∷ [])
  dead : {qs : List (PieceOf Role)} → Ends q (never ∷ qs)
  more : {p : PieceOf Role} {qs : List (PieceOf Role)} → Ends q qs → Ends q (p ∷ qs)

ends_behind : {q : Rank} (y : Rank) (i : Bool) (f : Start) (qs rs : List Piece) → Ends q (goes_to y i f rs) → Ends q (goes_to y i f (qs ++ rs))
ends_behind y i f [] rs u = u
ends_behind y i f (p ∷ qs) rs u = more (ends_behind y i f qs rs u)

sequence_ends : (y : Rank) (i : Bool) (f : Start) (ps : Parts) → is_none ps ≡ false → Ends Assignment (goes_to y i f (sequence ps))
sequence_ends y i f none h = cc
sequence_ends y i f (gap ps) h = dead
sequence_ends y i f (part n none) h = more (more at_last)
sequence_ends y i f (part n (gap ps)) h = more (more (more dead))
sequence_ends y i f (part n (part m ps)) h = more (more (more (sequence_ends y i f (part m ps) refl)))

parameters_end : {q : Rank} (y : Rank) (i : Bool) (f : Start) (after : List Piece) (ps : Parts) → Ends q (goes_to y i f after) → Ends q (goes_to y i f (parameters after ps))
parameters_end y i f after none u = dead
parameters_end y i f after (gap ps) u = dead
parameters_end y i f after (part n none) u = u
parameters_end y i f after (part n (gap ps)) u = dead
parameters_end y i f after (part n (part m ps)) u = more (ends_behind y i f (separator (kind_of n) (is_none ps)) (parameters after (part m ps)) (parameters_end y i f after (part m ps) u))

less_number : (y z : ℕ) → IsTrue (takes_number y z) → y ≤ z
less_number y z h = grind (arith, nat_tests)

-- a position takes only what is as tight or tighter
pub takes_less : (y z : Rank) → IsTrue (takes y z) → precedence y ≤ precedence z
takes_less y z h = less_number (precedence y) (precedence z) h

-- the last part, and its edge
abbrev LastEdged : Rank → Parts → Token → Type 0
LastEdged q ps last = (is_none ps ≡ false) × Edged q (last_edge ps) last

part_last : {q : Rank} (n : Tree) {last : Token} (ps : Parts) → LastEdged q ps last → LastEdged q (part n ps) last
part_last n none u = let c = u.0 in cc
part_last n (part m ps) u = (refl, u.1)
part_last n (gap ps) u = (refl, u.1)

-- an edge that ends something is that of its `yield`
pub operand_same : (x : Edge) → (x ≡ Closed → ⊥) → operand_edge x ≡ x
operand_same Closed c = absurd (c refl)
operand_same Arrow c = refl
operand_same Postfix c = refl
operand_same Other c = refl

module _ (y : Rank) (i : Bool) (f : Start) (last : Token) where
  -- a node at the symbol z, whose edge is that of its last part, at q
  right : (z q : Rank) (ps : Parts) → IsTrue (takes y z) → (precedence q ≤ 2 → precedence z ≤ 2) → precedence z ≤ 17 → LastEdged q ps last → Edged y (last_edge ps) last
  right z q ps tk low high u = let less = takes_less y z tk in record {
    ends = u.1.ends;
    arrow = λ h. (let k = low (u.1.arrow h) in omega arith);
    postfix = λ h. omega arith;
  }

  stands_at : (x : Spelling) → IsTrue (fits (expr y i f) x) → IsTrue (takes y x.rank)
  stands_at x fit = (and_parts _ _ (and_parts _ _ fit).0).0

  arrow_edged : (ps : Parts) (b : Bool) → IsTrue (takes y Assignment) → ((b ≡ true) → LastEdged Assignment ps last) → Edged y (cond b (last_edge ps) Arrow) last
  arrow_edged ps true tk u = right Assignment Assignment ps tk (λ h. omega arith) (omega arith) (u refl)
  arrow_edged ps false tk u = let less = takes_less y Assignment tk in record { ends = λ e. cc; arrow = λ e. omega arith; postfix = λ e. omega arith }

  arrow_ends : (g : Flags) → g.expression ≡ true → Ends Assignment (goes_to y i f (arrow_end g))
  arrow_ends g e = more (more (more (more (of g.expression e))))
    where
      of : (b : Bool) → b ≡ true → Ends Assignment (goes_to y i f (cond b (sub (tail Assignment NoBrace)) (put body) ∷ []))
      of true e = at_last
      of false e = cc

  postfix_edged : IsTrue (takes y Update) → Edged y Postfix last
  postfix_edged tk = let less = takes_less y Update tk in record { ends = λ e. cc; arrow = λ e. never_arrow _ e; postfix = λ e. omega arith }
    where
      never_arrow : (b : Bool) {A : Type 0} → cond b Other Postfix ≡ Arrow → A
      never_arrow true e = cc
      never_arrow false e = cc

  update_edged : (b : Bool) → IsTrue (takes y Update) → Edged y (cond b Other Postfix) last
  update_edged true tk = other_edged
  update_edged false tk = postfix_edged tk

  short_ends : (b : Bool) → b ≡ true → Ends Assignment (goes_to y i f (cond b (sub (tail Assignment NoBrace) ∷ []) (put body ∷ [])))
  short_ends true e = at_last
  short_ends false e = cc

  -- a `yield` with an operand has the operand's edge
  yield_edged : (ps : Parts) → IsTrue (takes y Assignment) → LastEdged Assignment ps last → Edged y (operand_edge (last_edge ps)) last
  yield_edged ps tk v = subst (λ e. Edged y e last) (sym (operand_same (last_edge ps) v.1.ends)) (right Assignment Assignment ps tk (λ h. omega arith) (omega arith) v)

  -- one without goes on with nothing
  bare_edged : (ps : Parts) → IsTrue (takes y Assignment) → bare_parts ps ≡ gap none → Edged y (operand_edge (last_edge ps)) last
  bare_edged (gap none) tk e = let less = takes_less y Assignment tk in record { ends = λ e. cc; arrow = λ e. omega arith; postfix = λ e. omega arith }
  bare_edged none tk e = cc
  bare_edged (part n ps) tk e = cc
  bare_edged (gap (part n ps)) tk e = cc
  bare_edged (gap (gap ps)) tk e = cc

  form_edged : {k : Kind} {w : List ℕ} {g : Flags} (st en : ℕ) (ps : Parts) {qs : Parts} {p : Production} → bare_parts ps ≡ qs → Chosen w g qs (expr Expression true Any) k p → IsTrue (fits (expr y i f) (spelling_of (form p) w g qs)) →
      ((q : Rank) → Ends q (settled (expr y i f) (spelling_of (form p) w g qs)) → LastEdged q ps last) → Edged y (edge (node k w g st en ps)) last
  form_edged {g = g} st en ps same (chosen.short_arrow e a) fit u = arrow_edged ps g.expression (and_parts _ _ (and_parts _ _ fit).0).0 (λ e. u Assignment (ends_behind y i f (arrow_words g.form) _ (more (more (more (more (more (short_ends g.expression e))))))))
  form_edged {g = g} st en ps {qs} same chosen.arrow fit u = arrow_edged ps g.expression (and_parts _ _ (and_parts _ _ fit).0).0 (λ e. u Assignment (ends_behind y i f (arrow_words g.form) _ (more (parameters_end y i f (arrow_closing g.form ∷ arrow_end g) qs (more (arrow_ends g e))))))
  form_edged {g = g} st en ps same (chosen.prefix a c) fit u = update_edged g.prefix (and_parts _ _ (and_parts _ _ fit).0).0
  form_edged {g = g} st en ps same (chosen.postfix a c) fit u = update_edged g.prefix (and_parts _ _ (and_parts _ _ fit).0).0
  form_edged st en ps same (chosen.unary_word a b) fit u = right Unary Unary ps (and_parts _ _ (and_parts _ _ fit).0).0 (λ h. omega arith) (omega arith) (u Unary (more (more at_last)))
  form_edged {w = w} st en ps same (chosen.unary_sign a b) fit u = right Unary Unary ps (and_parts _ _ (and_parts _ _ fit).0).0 (λ h. omega arith) (omega arith)
      (u Unary (more (ends_behind y i f (cond (is w "+") (lay (apart 43) ∷ []) (cond (is w "-") (lay (apart 45) ∷ []) [])) (put (expr Unary true Any) ∷ []) at_last)))
  form_edged st en ps same chosen.await fit u = right Unary Unary ps (and_parts _ _ (and_parts _ _ fit).0).0 (λ h. omega arith) (omega arith) (u Unary (more (more at_last)))
  form_edged st en ps same (chosen.private_left p a) fit u = right Relational Shift ps (and_parts _ _ (and_parts _ _ fit).0).0 (λ h. omega arith) (omega arith) (u Shift (more (more (more (more at_last)))))
  form_edged st en ps same (chosen.yield_alone a d) fit u = bare_edged ps (and_parts _ _ (and_parts _ _ fit).0).0 (same ∙ d)
  form_edged st en ps same (chosen.yield_operand a d) fit u = yield_edged ps (and_parts _ _ (and_parts _ _ fit).0).0 (u Assignment (more (more (more at_last))))
  form_edged st en ps same (chosen.yield_from a d) fit u = yield_edged ps (and_parts _ _ (and_parts _ _ fit).0).0 (u Assignment (more (more (more (more at_last)))))
  form_edged st en ps same (chosen.power p a) fit u = right Exponentiation Exponentiation ps (and_parts _ _ (and_parts _ _ fit).0).0 (λ h. omega arith) (omega arith) (u Exponentiation (more (more (more (more at_last)))))
  form_edged {w = w} st en ps same (chosen.binary {z = z} {q = q} p op) fit u = let b = binding w op in let least = b.least in let most = b.most in let up = b.rises.0 in
      right z q ps (stands_at (joined w z q) fit) (λ h. omega arith) (omega arith) (u q (more (more (more (more at_last)))))
  form_edged {w = w} st en ps same (chosen.logical {z = z} {q = q} op) fit u = let b = binding w op in let least = b.least in let most = b.most in let up = b.rises.0 in
      right z q ps (stands_at (joined w z q) fit) (λ h. omega arith) (omega arith) (u q (more (more (more (more at_last)))))
  form_edged st en ps same chosen.conditional fit u = right Conditional Assignment ps (and_parts _ _ (and_parts _ _ fit).0).0 (λ h. omega arith) (omega arith) (u Assignment (more (more (more (more (more (more (more (more at_last)))))))))
  form_edged st en ps same (chosen.assign a b) fit u = right Assignment Assignment ps (and_parts _ _ (and_parts _ _ fit).0).0 (λ h. omega arith) (omega arith) (u Assignment (more (more (more (more at_last)))))
  form_edged st en ps same (chosen.assign_pattern a b c) fit u = right Assignment Assignment ps (and_parts _ _ (and_parts _ _ fit).0).0 (λ h. omega arith) (omega arith) (u Assignment (more (more (more (more at_last)))))
  form_edged st en ps {qs} same (chosen.several a) fit u = right Expression Assignment ps (and_parts _ _ (and_parts _ _ fit).0).0 (λ h. omega arith) (omega arith) (u Assignment (more (sequence_ends y i f (others qs) a)))
  form_edged st en ps same (chosen.of_statement s c) fit u = elim s [ ]
  form_edged st en ps same (chosen.of_declaration s c) fit u = elim s [ ]
  form_edged st en ps same _ fit u = other_edged

  -- the edge of a node, by the production that spells it
  way_edged : {k : Kind} {w : List ℕ} {g : Flags} (st en : ℕ) (ps : Parts) {qs : Parts} {x : Spelling} → bare_parts ps ≡ qs → Made k w g qs x → IsTrue (fits (expr y i f) x) →
      ((q : Rank) → Ends q (settled (expr y i f) x) → LastEdged q ps last) → Edged y (edge (node k w g st en ps)) last
  way_edged st en ps same m fit u = form_edged st en ps same m.chosen (subst (λ x. IsTrue (fits (expr y i f) x)) m.is fit) (λ q e. u q (subst (λ x. Ends q (settled (expr y i f) x)) (sym m.is) e))

-- a way of an expression, as a production
pub record ViewOf (y : Rank) (i : Bool) (f : Start) (k : Kind) (w : List ℕ) (g : Flags) (ps : Parts) (qs : List (PieceOf Role)) : Type 0 where
  pub spelling : Spelling
  pub made : Made k w g (bare_parts ps) spelling
  pub fit : IsTrue (fits (expr y i f) spelling)
  pub is : qs ≡ settled (expr y i f) spelling

-- each way of an expression is a production
pub view_of : {y : Rank} {i : Bool} {f : Start} {k : Kind} {w : List ℕ} {g : Flags} (st en : ℕ) {ps : Parts} {qs : List (PieceOf Role)} → Among qs (ways (expr y i f) (node k w g st en ps)) → ViewOf y i f k w g ps qs
unfolding spellings
view_of {k = k} st en h = let v = way_of h in record { spelling = v.spelling; made = made k v.listed; fit = v.fit; is = v.is }

-- only the end of nothing stands so
pub standing_closed : (x : Edge) (last : Token) → edge_as_written x last ≡ Closed → x ≡ Closed
standing_closed Closed last e = refl
standing_closed Other last e = cc
standing_closed Arrow last e = of (is last.text ")") e
  where
    of : (b : Bool) → cond b Other Arrow ≡ Closed → Arrow ≡ Closed
    of true e = cc
    of false e = cc
standing_closed Postfix last e = of (is last.text ")") e
  where
    of : (b : Bool) → cond b Other Postfix ≡ Closed → Postfix ≡ Closed
    of true e = cc
    of false e = cc

-- of a head at the symbol a, of a node at the symbol r
of_head : {h z : Rank} {x : Edge} {last : Token} (a r : Rank) → h ≡ a → Some r ≡ Some z → Edged h x last → (precedence a ≤ 2 → nat_eq (precedence r) 0 ≡ true) →
    (precedence a ≤ 17 → (nat_le (precedence r) 15 && not (nat_eq (precedence r) 1)) ≡ true) → holds (edge_as_written x last) z ≡ true
of_head {h} {z} {x} {last} a r e s u low high = subst (λ q. holds (edge_as_written x last) q ≡ true) (some_is s) (of (edge_as_written x last) refl)
  where
    some_is : {b c : Rank} → Some b ≡ Some c → b ≡ c
    some_is e = cc

    of : (c : Edge) → edge_as_written x last ≡ c → holds c r ≡ true
    of Other k = refl
    of Closed k = absurd (u.ends (standing_closed x last k))
    of Arrow k = low (subst (λ q. precedence q ≤ 2) e (u.arrow k))
    of Postfix k = high (subst (λ q. precedence q ≤ 17) e (u.postfix k))

rank_is : {y z : Rank} {i j : Bool} {f g : Start} → expr y i f ≡ expr z j g → y ≡ z
rank_is e = cc

callee_high : (b : Bool) {A : Type 0} → precedence (cond b Member Call) ≤ 17 → A
callee_high true h = absurd (omega arith)
callee_high false h = absurd (omega arith)

between_low : (a b : ℕ) → 4 ≤ a → a < b → b ≤ 15 → (nat_le a 15 && not (nat_eq a 1)) ≡ true
between_low a b h k l = grind (arith, nat_tests)

-- the edge of the head of a way that is led can be the left part of what the way makes
pub led_holds : {y : Rank} {i : Bool} {f : Start} {k : Kind} {w : List ℕ} {g : Flags} {ps : Parts} {h : Rank} {j : Bool} {f' : Start} {rest : List (PieceOf Role)} {x : Operator} {z : Rank} {c : Edge} {last : Token} (n : Bool) →
    Led y i f k w g ps (expr h j f') rest x → rank_made_by x n ≡ Some z → Edged h c last → holds (edge_as_written c last) z ≡ true
led_holds {w = w} n (led_binary {z = r} {q = q} k op tk im b e) s u = let v = binding w op in let least = v.least in let most = v.most in let up = v.rises.0 in
    of_head r r (rank_is b) s u (λ q. absurd (omega arith)) (λ p. between_low (precedence r) (precedence q) least up most)
led_holds n (led_power k op tk b e) s u = of_head Update Exponentiation (rank_is b) s u (λ q. absurd (omega arith)) (λ q. refl)
led_holds n (led_assign k op ta tk b e) s u = of_head LeftHandSide Assignment (rank_is b) s u (λ q. absurd (omega arith)) (λ q. absurd (omega arith))
led_holds true (led_postfix k op ta p tk b e) s u = cc
led_holds false (led_postfix k op ta p tk b e) s u = of_head LeftHandSide Update (rank_is b) s u (λ q. absurd (omega arith)) (λ q. absurd (omega arith))
led_holds n (led_sequence k c tk b e) s u = of_head Assignment Expression (rank_is b) s u (λ q. refl) (λ q. refl)
led_holds n (led_conditional k tk b e) s u = of_head ShortCircuit Conditional (rank_is b) s u (λ q. absurd (omega arith)) (λ q. refl)
led_holds {y} n (led_dot k o c t tk b e) s u = of_head (callee_rank y) Member (rank_is b) s u (λ q. callee_high (is_tight y) (omega arith)) (λ q. callee_high (is_tight y) q)
led_holds {y} n (led_index k o c t tk b e) s u = of_head (callee_rank y) Member (rank_is b) s u (λ q. callee_high (is_tight y) (omega arith)) (λ q. callee_high (is_tight y) q)
led_holds n (led_call k o t tk b e) s u = of_head Call Call (rank_is b) s u (λ q. absurd (omega arith)) (λ q. absurd (omega arith))
led_holds {y} n (led_tag k tk b e) s u = of_head (callee_rank y) Member (rank_is b) s u (λ q. callee_high (is_tight y) (omega arith)) (λ q. callee_high (is_tight y) q)
led_holds n (led_chain k c tk b e) s u = cc

-- of the base of a chain too
pub linked_holds : {f : Start} {k : Kind} {g : Flags} {ps : Parts} {h : Rank} {j : Bool} {f' : Start} {rest : List (PieceOf Role)} {x : Operator} {c : Edge} {last : Token} (z : Rank) →
    Linked f k g ps (expr h j f') rest x → Edged h c last → holds (edge_as_written c last) z ≡ true
linked_holds z l u = of_head Call z (linked_base l) refl u (λ q. absurd (omega arith)) (λ q. absurd (omega arith))

module _ (S : Type 0) (Next : S → Token → S → Type 0) (behind : S → Token) (det : IsDetermined S Next behind) where
  mutual
    -- the edge of what stands at a position
    pub edged : {o : ℕ} {a : Role} {n : Tree} {s e : S} {P : List Pair} → Spells ways S Next behind o a n s e P → EdgedAt a (edge n) (behind e)
    edged {n = n} {e = e} (grouped {right = t} {l = l} p d q) = grouped_edged (edge n) (behind e) (ap (λ (x : Token). is x.text ")") (det.last l t e q.next) ∙ ap (λ w. is w ")") q.text) (edged d).ends
    edged {a = expr y i f} {n = node k w g st en ps} {e = e} (direct qs h pl d) = let v = view_of st en h in
        way_edged y i f (behind e) st en ps refl v.made v.fit (λ q u. last_edged (subst (Ends q) (sym v.is) u) d)
    edged {a = _} (direct qs h pl d) = tt
    edged (reserved_key r k p) = tt
    edged (reserved_word r k p) = tt

    last_edged : {o : ℕ} {q : Rank} {qs : List (PieceOf Role)} {ps : Parts} {s e : S} {P : List Pair} → Ends q qs → Runs ways S Next behind o qs ps s e P → LastEdged q ps (behind e)
    last_edged at_last (within p done) = (refl, edged p)
    last_edged at_last (step p d) = elim p [ ]
    last_edged dead (step p d) = elim p [ ]
    last_edged (more u) (step p d) = last_edged u d
    last_edged (more u) (opened k d) = last_edged u d
    last_edged (more u) (closed k d) = last_edged u d
    last_edged (more u) (within {n = n} {ps = ps} p d) = part_last n ps (last_edged u d)
    last_edged (more u) (missing d) = (refl, (last_edged u d).1)
    last_edged u done = elim u [ ]
