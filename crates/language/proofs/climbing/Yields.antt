-- A leftmost part that begins with `yield`: with an operand on the same line, behind `*` or alone, or with none.
use Rattle.std.proofs.Common.{◌≡◌, ℕ, Bool, true, false, List, [], ◌∷◌, refl, sym, ap, ◌∙◌, subst, arith}
use Rattle.std.specs.Prelude.{IsTrue, codes}
use Rattle.tokens.specs.declared.token.TokenClass.TheVariants.{IdentifierName, Punctuator}
use Rattle.tokens.specs.declared.token.Goal.{Goal}
use Rattle.tokens.specs.Goals.{allows}
use Rattle.tree.specs.declared.kind.Kind.TheVariants.{YieldExpression}
use Rattle.tree.specs.declared.kind.Flags.{Flags}
use Rattle.tree.specs.declared.kind.Form.{Form}
use Rattle.tree.specs.declared.kind.Form.TheVariants.{Init, Generator}
use Rattle.tree.specs.declared.kind.Pair.{Pair}
use Rattle.tree.specs.Tree.{Tree, node, Parts, none, part, gap, bare, bare_parts, plain}
use Rattle.tree.specs.Uses.{is_lean, used_flags, has_text}
use Rattle.tree.proofs.Lean.{lean_flags, lean_text}
use Rattle.language.specs.declared.Rank.{Rank}
use Rattle.language.specs.declared.Rank.TheVariants.{Assignment}
use Rattle.language.specs.declared.Start.{Start}
use Rattle.language.specs.declared.Start.TheVariants.{Any, NoBrace, Statement}
use Rattle.language.specs.Vocabulary.{takes}
use Rattle.language.specs.Pieces.{expr, no_operand, term, at}
use Rattle.language.specs.Token.{Token}
use Rattle.language.specs.Edges.{edge, edge_as_written, begins_no_operand}
use Rattle.language.specs.ExpressionStart.{with_yield, expression_start}
use Rattle.language.specs.Promises.{IsDetermined, ReadBy, Stops, Found}
use Rattle.language.specs.Grammar.{ways, starts}
use Rattle.language.specs.Derivation.{Reads, Spells, Runs, done, step, token, laid, same_line, left_bare, missing, Placed}
use Rattle.language.specs.Chosen as chosen
use Rattle.language.proofs.table.NodeForms.{Made, by_form}
use Rattle.language.proofs.table.Productions.{spell}
use Rattle.language.proofs.table.Begins.{goes_to, retell}
use Rattle.language.proofs.table.RightEdges.{operand_same, edged}
use Rattle.language.proofs.table.TokenFirstWays.{yield_end, head_yield}
use Rattle.language.proofs.climbing.LeftmostParts.{Cored, in_way, core_by}
use Rattle.language.proofs.climbing.RightOperands.{one_part}
use Rattle.language.proofs.list_loops.FirstPieces.{run_token, run_laid, run_unbroken, run_never, run_the_gap}
use Rattle.language.proofs.climbing.OperatorNodes.{last_runs}
use Rattle.language.proofs.table.Reaches.{is_loose, loose_of}
use Rattle.language.proofs.table.Tails.{tails_assign}
use Rattle.language.proofs.climbing.OperatorLoop.{Climbing}
use Rattle.language.proofs.climbing.BinaryTurns.{same_node, replaced, same_places}
use Rattle.language.proofs.climbing.FirstTurn.{Begun, climb_start, begun_stops}
use Rattle.language.proofs.climbing.Leaves.{by_name}

-- the flags of a `yield`
abbrev pub yield_flags : Form → Flags
yield_flags x = record plain { form = x }

yield_lean : (x : Form) (st en : ℕ) (ps : Parts) → is_lean (bare (node YieldExpression [] (yield_flags x) st en ps)) ≡ true
yield_lean Init st en ps = refl
yield_lean _ st en ps = refl

yield_starts : (f : Start) (x : Form) (ps : Parts) → IsTrue (starts f (term "yield" ∷ yield_end x ps))
yield_starts Any x ps = refl
yield_starts NoBrace x ps = refl
yield_starts Statement Init none = refl
yield_starts Statement Init (part n none) = refl
yield_starts Statement Init (part n (part m ps)) = refl
yield_starts Statement Init (part n (gap ps)) = refl
yield_starts Statement Init (gap none) = refl
yield_starts Statement Init (gap (part n ps)) = refl
yield_starts Statement Init (gap (gap ps)) = refl
yield_starts Statement Generator none = refl
yield_starts Statement Generator (part n none) = refl
yield_starts Statement Generator (part n (part m ps)) = refl
yield_starts Statement Generator (part n (gap ps)) = refl
yield_starts Statement Generator (gap ps) = refl
yield_starts Statement _ ps = refl

module _ (S : Type 0) (Next : S → Token → S → Type 0) (behind : S → Token) (det : IsDetermined S Next behind) where
  -- at one place only one of these stands behind `yield`: an operand, `*`, or what begins no operand
  pub record YieldApart : Type 0 where
    pub bare_operand : {o : ℕ} {j : Bool} {n : Tree} {x m k e : S} {t v : Token} {P : List Pair} → Next x t m → IsTrue (begins_no_operand t) → Next x v k → v.after_break ≡ false → Spells ways S Next behind o (expr Assignment j Any) n x e P → ⊥
    pub bare_star : {x m k : S} {t v : Token} → Next x t m → IsTrue (begins_no_operand t) → Reads S Next behind Punctuator (codes "*") x v k → v.after_break ≡ false → ⊥
    pub star_operand : {o : ℕ} {j : Bool} {n : Tree} {x k e : S} {v : Token} {P : List Pair} → Reads S Next behind Punctuator (codes "*") x v k → Spells ways S Next behind o (expr Assignment j Any) n x e P → ⊥

  -- what stands behind `yield` in a derivation
  pub data YieldRest (o : ℕ) (j : Bool) (x mid : S) : Form → Parts → List Pair → Type 0 where
    with_operand : {u : Tree} {Q : List Pair} {t : Token} {m : S} → Next x t m → t.after_break ≡ false → Spells ways S Next behind o (expr Assignment j Any) u x mid Q → YieldRest o j x mid Init (part u none) Q
    with_star : {u : Tree} {Q : List Pair} {t : Token} {m : S} → Reads S Next behind Punctuator (codes "*") x t m → t.after_break ≡ false → Spells ways S Next behind o (expr Assignment j Any) u m mid Q → YieldRest o j x mid Generator (part u none) Q
    without : {t : Token} {m : S} → Next x t m → IsTrue (begins_no_operand t) → mid ≡ x → YieldRest o j x mid Init (gap none) []

  bare_rest : {o : ℕ} {j : Bool} {x mid : S} {Q : List Pair} → Runs ways S Next behind o (no_operand ∷ []) none x mid Q → YieldRest o j x mid Init (gap none) Q
  bare_rest (step (left_bare nx h) done) = without nx h refl

  yield_rest : {o : ℕ} (h : Rank) (j : Bool) (f : Start) (b : Form) (ps : Parts) {x mid : S} {Q : List Pair} → Runs ways S Next behind o (goes_to h j f (yield_end b (bare_parts ps))) ps x mid Q → YieldRest o j x mid b ps Q
  yield_rest {o} h j f Generator (part n none) {x} {mid} {Q} d =
      let a = run_unbroken S Next behind d in
      let v = run_token S Next behind a.runs in
      let c = one_part S Next behind det (run_laid S Next behind v.runs) in
      subst (λ z. YieldRest o j x mid Generator z Q) (sym c.parts) (with_star v.reads (det.break x v.sign a.sign v.mid a.mid v.reads.next a.next ∙ a.unbroken) c.spelled)
  yield_rest {o} h j f Init (part n none) {x} {mid} {Q} d =
      let a = run_unbroken S Next behind (run_laid S Next behind d) in
      let c = one_part S Next behind det a.runs in
      subst (λ z. YieldRest o j x mid Init z Q) (sym c.parts) (with_operand a.next a.unbroken c.spelled)
  yield_rest h j f Init (gap none) d = bare_rest (run_the_gap S Next behind d)
  yield_rest h j f Generator none d = absurd (run_never S Next behind d)
  yield_rest h j f Init none d = absurd (run_never S Next behind d)
  yield_rest h j f Generator (gap ps) d = absurd (run_never S Next behind d)
  yield_rest h j f Init (gap (part n ps)) d = absurd (run_never S Next behind d)
  yield_rest h j f Init (gap (gap ps)) d = absurd (run_never S Next behind d)
  yield_rest h j f Generator (part n (part m ps)) d = absurd (run_never S Next behind d)
  yield_rest h j f Generator (part n (gap ps)) d = absurd (run_never S Next behind d)
  yield_rest h j f Init (part n (part m ps)) d = absurd (run_never S Next behind d)
  yield_rest h j f Init (part n (gap ps)) d = absurd (run_never S Next behind d)
  yield_rest h j f _ ps d = absurd (run_never S Next behind d)

  -- such a node as it stands in a derivation
  pub record YieldCore (o : ℕ) (h : Rank) (j : Bool) (f : Start) (m : Tree) (s0 x mid : S) (Q : List Pair) (t : Token) : Type 0 where
    pub class : t.class ≡ IdentifierName
    pub word : t.text ≡ codes "yield"
    pub st : ℕ
    pub en : ℕ
    pub flag : Form
    pub parts : Parts
    pub tree : m ≡ node YieldExpression [] (yield_flags flag) st en parts
    pub stands : IsTrue (takes h Assignment)
    pub places : Placed S Next behind (expr h j f) m s0 mid
    pub rest : YieldRest o j x mid flag parts Q

  pub yield_core : {o : ℕ} {h : Rank} {j : Bool} {f : Start} {m : Tree} {s0 x mid : S} {Q : List Pair} {t : Token} → ReadBy S Next behind Goal.RegExp s0 t x → Cored S Next behind det o h j f m s0 mid Q with_yield → YieldCore o h j f m s0 x mid Q t
  yield_core {o} {h} {j} {f} {mid = mid} {Q = Q} r (in_way {k = k0} {w = w} {g = g} {st = st} {en = en} {ps = ps} is (head_yield k tk q) lean pl d) =
      let bares : is_lean (bare (node k0 w g st en ps)) ≡ true = ap (λ v. is_lean (bare v)) (sym is) ∙ lean in
      let flags : g ≡ yield_flags g.form = lean_flags (bare (node k0 w g st en ps)) bares ∙ ap (λ v. used_flags v g) k in
      let text : w ≡ [] = lean_text (bare (node k0 w g st en ps)) bares (ap has_text k) in
      let a = run_token S Next behind (retell S Next behind q d) in
      let same = by_name S Next behind det r a.sign a.mid a.reads in
      record {
        class = ap (λ (z : Token). z.class) (sym same.0) ∙ a.reads.class;
        word = ap (λ (z : Token). z.text) (sym same.0) ∙ a.reads.text;
        st = st;
        en = en;
        flag = g.form;
        parts = ps;
        tree = is ∙ same_node k text flags refl refl refl;
        stands = tk;
        places = pl;
        rest = subst (λ c. YieldRest o j c mid g.form ps Q) same.1 (yield_rest h j f g.form ps a.runs);
      }

  -- what is found behind `yield`
  pub data YieldFound (o : ℕ) (i : Bool) (x to : S) : Form → Parts → List Pair → Type 0 where
    operand_found : {u : Tree} {U : List Pair} {v : Token} {m : S} → Next x v m → v.after_break ≡ false → Found S Next behind o Assignment i Any x to u U → YieldFound o i x to Init (part u none) U
    star_found : {u : Tree} {U : List Pair} {v : Token} {m : S} → Reads S Next behind Punctuator (codes "*") x v m → v.after_break ≡ false → Found S Next behind o Assignment i Any m to u U → YieldFound o i x to Generator (part u none) U
    bare_found : {v : Token} {m : S} → Next x v m → IsTrue (begins_no_operand v) → to ≡ x → YieldFound o i x to Init (gap none) []

  yield_runs : {o : ℕ} {i : Bool} {x to : S} {b : Form} {ps : Parts} {U : List Pair} (h : Rank) (f : Start) → YieldFound o i x to b ps U → Runs ways S Next behind o (goes_to h i f (yield_end b (bare_parts ps))) ps x to U
  yield_runs h f (operand_found nx line found) = step laid (step (same_line nx line) (last_runs S Next behind found.spelled))
  yield_runs h f (star_found r line found) = step (same_line r.next line) (step (token r) (step laid (last_runs S Next behind found.spelled)))
  yield_runs {o} {i} {x} {to} h f (bare_found nx left same) = subst (λ c. Runs ways S Next behind o (goes_to h i f (yield_end Init (gap none))) (gap none) x c []) (sym same) (missing (step (left_bare nx left) done))

  yield_made : {o : ℕ} {i : Bool} {x to : S} {b : Form} {ps : Parts} {U : List Pair} → YieldFound o i x to b ps U → Made YieldExpression [] (yield_flags b) (bare_parts ps) (at Assignment (term "yield" ∷ yield_end b (bare_parts ps)))
  yield_made (operand_found nx line found) = by_form (chosen.yield_operand refl refl)
  yield_made (star_found r line found) = by_form (chosen.yield_from refl refl)
  yield_made (bare_found nx left same) = by_form (chosen.yield_alone refl refl)

  module _ (apart : YieldApart) {s0 x : S} {t : Token} (r : ReadBy S Next behind Goal.RegExp s0 t x) (word : t.text ≡ codes "yield") (class : t.class ≡ IdentifierName) (opening : expression_start t ≡ with_yield) where
    -- the last part of a leftmost `yield` can't go on
    pub yield_stops : {o : ℕ} {y : Rank} {i : Bool} {f : Start} {n : Tree} {e : S} {P : List Pair} {h : Rank} {j : Bool} {m u : Tree} {from mid : S} {Q : List Pair} {st en : ℕ} {b : Form} → Begun S Next behind det o s0 y i f n e P h j m mid Q → IsTrue (takes h Assignment) →
        m ≡ node YieldExpression [] (yield_flags b) st en (part u none) → Spells ways S Next behind o (expr Assignment j Any) u from mid Q → Stops S Next behind Assignment j u mid
    yield_stops {j = j} {u = u} {mid = mid} g stands tree d =
        begun_stops S Next behind det Assignment Assignment j u tails_assign (λ l. omega arith) stands (λ k. refl)
        (ap (λ v. edge_as_written (edge v) (behind mid)) tree ∙ ap (λ v. edge_as_written v (behind mid)) (operand_same (edge u) ((edged S Next behind det d).ends))) g

    star_allowed : {v : Token} {s z : S} → Reads S Next behind Punctuator (codes "*") s v z → IsTrue (allows Goal.Div v.class v.text)
    star_allowed {v} q = subst (λ z. IsTrue (allows Goal.Div z v.text)) (sym q.class) (subst (λ z. IsTrue (allows Goal.Div Punctuator z)) (sym q.text) refl)

    -- what two derivations have in common from `yield` on
    module _ (y : Rank) (i : Bool) (f : Start) (h : Rank) (j : Bool) (m : Tree) (mid to : S) (inside : j ≡ i) (stands : IsTrue (takes h Assignment)) where
      same_yield : {b d : Form} {ps qs : Parts} {Q U : List Pair} {st en st' en' : ℕ} → Placed S Next behind (expr y i f) (node YieldExpression [] (yield_flags b) st en ps) s0 to → Placed S Next behind (expr h j f) m s0 mid →
          d ≡ b → m ≡ node YieldExpression [] (yield_flags d) st' en' qs → mid ≡ to → qs ≡ ps → Q ≡ U → (mid ≡ to) × (m ≡ node YieldExpression [] (yield_flags b) st en ps) × (Q ≡ U) × IsTrue (takes h Assignment)
      same_yield places pl flag tree place parts pairs =
          let where_is = same_places S Next behind det (subst (λ v. Placed S Next behind (expr h j f) v s0 mid) tree pl) places place in
          (place, tree ∙ same_node refl refl (ap yield_flags flag) where_is.0 where_is.1 parts, pairs, stands)

      only : {o o' : ℕ} {n : Tree} {e : S} {P Q U : List Pair} {u v : Tree} {from : S} {d : Form} {st' en' : ℕ} → Begun S Next behind det o' s0 y i f n e P h j m mid Q → m ≡ node YieldExpression [] (yield_flags d) st' en' (part v none) → Found S Next behind o Assignment i Any from to u U →
          Spells ways S Next behind o' (expr Assignment j Any) v from mid Q → (mid ≡ to) × (v ≡ u) × (Q ≡ U)
      only {o' = o'} {Q = Q} {v = v} {from = from} g tree found d =
          found.only o' mid v Q (subst (λ k. Spells ways S Next behind o' (expr Assignment k Any) v from mid Q) inside d) (subst (λ k. Stops S Next behind Assignment k v mid) inside (yield_stops g stands tree d))

      both : {o o' : ℕ} {n : Tree} {e : S} {P Q U : List Pair} {b d : Form} {ps qs : Parts} {st en st' en' : ℕ} → Begun S Next behind det o' s0 y i f n e P h j m mid Q → Placed S Next behind (expr y i f) (node YieldExpression [] (yield_flags b) st en ps) s0 to →
          Placed S Next behind (expr h j f) m s0 mid → YieldFound o i x to b ps U → YieldRest o' j x mid d qs Q → m ≡ node YieldExpression [] (yield_flags d) st' en' qs → (mid ≡ to) × (m ≡ node YieldExpression [] (yield_flags b) st en ps) × (Q ≡ U) × IsTrue (takes h Assignment)
      both g places pl (operand_found nx line found) (with_operand nx' line' d) tree = let same = only g tree found d in same_yield places pl refl tree same.0 (ap (λ z. part z none) same.1) same.2
      both g places pl (operand_found nx line found) (with_star r' line' d) tree = absurd (apart.star_operand r' found.spelled)
      both g places pl (operand_found nx line found) (without nx' left here) tree = absurd (apart.bare_operand nx' left nx line found.spelled)
      both {o' = o'} {Q = Q} g places pl (star_found {m = k} r1 line found) (with_star {u = v} {m = k'} r' line' d) tree =
          let there : k' ≡ k = (det.same Goal.Div x _ _ _ _ r'.next r1.next (star_allowed r') (star_allowed r1)).1 in
          let same = only g tree found (subst (λ z. Spells ways S Next behind o' (expr Assignment j Any) v z mid Q) there d) in same_yield places pl refl tree same.0 (ap (λ z. part z none) same.1) same.2
      both g places pl (star_found r1 line found) (with_operand nx' line' d) tree = absurd (apart.star_operand r1 d)
      both g places pl (star_found r1 line found) (without nx' left here) tree = absurd (apart.bare_star nx' left r1 line)
      both g places pl (bare_found nx left here) (with_operand nx' line' d) tree = absurd (apart.bare_operand nx left nx' line' d)
      both g places pl (bare_found nx left here) (with_star r' line' d) tree = absurd (apart.bare_star nx left r' line')
      both g places pl (bare_found nx left here) (without nx' left' here') tree = same_yield places pl refl tree (here' ∙ sym here) refl refl

    yield_alone : {o o' : ℕ} {y : Rank} {i : Bool} {f : Start} {n : Tree} {e : S} {P : List Pair} {h : Rank} {j : Bool} {m : Tree} {mid to : S} {Q U : List Pair} {st en : ℕ} {b : Form} {ps : Parts} → YieldFound o i x to b ps U →
        Placed S Next behind (expr y i f) (node YieldExpression [] (yield_flags b) st en ps) s0 to → Begun S Next behind det o' s0 y i f n e P h j m mid Q → (c : YieldCore o' h j f m s0 x mid Q t) →
        (mid ≡ to) × (m ≡ node YieldExpression [] (yield_flags b) st en ps) × (Q ≡ U) × IsTrue (takes h Assignment)
    yield_alone {y = y} {i = i} {f = f} {h = h} {j = j} {m = m} {mid = mid} {to = to} found places g c = both y i f h j m mid to ((g.reached.same_in (loose_of h Assignment c.stands refl)).1) c.stands g places c.places found c.rest c.tree

    -- the node, with what is found behind `yield`
    pub climb_yield : {o : ℕ} {y : Rank} {i : Bool} {f : Start} {b : Form} {ps : Parts} {to : S} {U : List Pair} {st en : ℕ} → IsTrue (takes y Assignment) → YieldFound o i x to b ps U → Placed S Next behind (expr y i f) (node YieldExpression [] (yield_flags b) st en ps) s0 to →
        Climbing S Next behind det o y i f Assignment s0 (node YieldExpression [] (yield_flags b) st en ps) to U
    climb_yield {o} {y} {i} {f} {b} {ps} {to} {U} {st} {en} low found places = climb_start S Next behind det low stands (λ o' n e P h j m mid Q g. yield_alone found places g (yield_core r (core_by S Next behind det r opening g.core)))
      where
        stands : (h : Rank) (j : Bool) → IsTrue (takes h Assignment) → (is_loose h ≡ true → j ≡ i) → Spells ways S Next behind o (expr h j f) (node YieldExpression [] (yield_flags b) st en ps) s0 to U
        stands h j tk lo =
            let inside : j ≡ i = lo (loose_of h Assignment tk refl) in
            subst (λ c. Spells ways S Next behind o (expr h c f) (node YieldExpression [] (yield_flags b) st en ps) s0 to U) (sym inside)
            (spell S Next behind (at Assignment (term "yield" ∷ yield_end b (bare_parts ps))) (yield_made found) (yield_lean b st en ps) tk refl (yield_starts f b (bare_parts ps)) (replaced S Next behind det places)
            (step (token (record { next = r.next; class = class; text = word })) (yield_runs h f found)))
