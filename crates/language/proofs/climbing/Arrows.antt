-- A leftmost part that is an arrow with one plain parameter.
use Rattle.std.proofs.Common.{◌≡◌, ℕ, Bool, true, false, cond, List, [], ◌∷◌, ◌++◌, refl, sym, ap, ◌∙◌, subst, arith}
use Rattle.std.specs.Prelude.{IsTrue, Some, codes, not, ◌&&◌, ◌||◌}
use Rattle.tokens.specs.declared.token.TokenClass.TheVariants.{IdentifierName, Punctuator}
use Rattle.tokens.specs.declared.token.Goal.{Goal}
use Rattle.tokens.specs.declared.token.Goal.TheVariants.{Div}
use Rattle.tokens.specs.Goals.{allows}
use Rattle.tree.specs.declared.kind.Kind.{Kind}
use Rattle.tree.specs.declared.kind.Kind.TheVariants.{Identifier, ArrowFunctionExpression}
use Rattle.language.specs.declared.Rank.{Rank}
use Rattle.language.specs.declared.Rank.TheVariants.{Assignment}
use Rattle.language.specs.declared.Start.{Start}
use Rattle.language.specs.declared.Start.TheVariants.{NoBrace}
use Rattle.language.specs.declared.Edge.TheVariants.{Other}
use Rattle.tree.specs.declared.kind.Flags.{Flags}
use Rattle.tree.specs.declared.kind.Pair.{Pair}
use Rattle.tree.specs.Tree.{Tree, node, Parts, none, part, bare, plain}
use Rattle.tree.specs.Uses.{is_lean, used_flags, has_text}
use Rattle.tree.proofs.Lean.{lean_flags, lean_text}
use Rattle.language.specs.Vocabulary.{is, takes, is_reserved, op_arrow}
use Rattle.language.specs.Pieces.{Role, expr, name, body, PieceOf, put, sub, tail, at, fixed}
use Rattle.language.specs.Token.{Token}
use Rattle.language.specs.Edges.{edge, edge_as_written}
use Rattle.language.specs.Expressions.{arrow_end}
use Rattle.language.specs.Continuations.{operation, rank_made_by, stops_at, stops}
use Rattle.language.specs.ExpressionStart.{with_name}
use Rattle.language.specs.Promises.{IsDetermined, ReadBy, Stops, Found, Absent, FoundAt, AbsentAt}
use Rattle.language.specs.Grammar.{ways}
use Rattle.language.specs.Derivation.{Reads, Spells, Runs, step, within, token, laid, same_line, Placed}
use Rattle.language.proofs.table.NodeForms.{short_arrow}
use Rattle.language.proofs.table.Productions.{spell, starts_led}
use Rattle.language.proofs.table.Begins.{goes_to, retell}
use Rattle.language.proofs.climbing.SpineContinuations.{makes}
use Rattle.language.proofs.table.LeftRecursiveWays.{Led}
use Rattle.language.proofs.table.TokenFirstWays.{head_identifier, head_short_arrow, head_async, opens, identifier_opens}
use Rattle.language.proofs.climbing.LeftmostParts.{Cored, in_way, core_by}
use Rattle.language.proofs.climbing.RightOperands.{OnePart, one_part}
use Rattle.language.proofs.list_loops.FirstPieces.{run_token, run_laid, run_unbroken, run_part}
use Rattle.language.proofs.climbing.OperatorNodes.{last_runs}
use Rattle.language.proofs.table.Reaches.{is_loose, loose_of}
use Rattle.language.proofs.climbing.NoContinuation.{goes_where_not}
use Rattle.language.proofs.table.Tails.{tails_assign}
use Rattle.language.proofs.climbing.OperatorLoop.{Climbing, led_on}
use Rattle.language.proofs.climbing.BinaryTurns.{same_node, replaced, same_places}
use Rattle.language.proofs.climbing.Conditionals.{same_sign}
use Rattle.language.proofs.climbing.FirstTurn.{Begun, climb_start, begun_stops, core_spelled}
use Rattle.language.proofs.climbing.Leaves.{by_name, name_found, AsyncNext, function_next, name_next, parameters_next, async_next}
use Rattle.std.proofs.lemmas.Bool.{false≢true}

-- the flags of an arrow
abbrev pub arrow_flags : Bool → Flags
arrow_flags b = record plain { expression = b }

arrow_lean : (b : Bool) (st en : ℕ) (ps : Parts) → is_lean (bare (node ArrowFunctionExpression [] (arrow_flags b) st en ps)) ≡ true
arrow_lean true st en ps = refl
arrow_lean false st en ps = refl

-- nothing is led by what stands before `=>`
none_led : {y : Rank} {i : Bool} {f : Start} {k : Kind} {w : List ℕ} {g : Flags} {ps : Parts} {b : Role} {rest : List (PieceOf Role)} → Led y i f k w g ps b rest op_arrow → ⊥
none_led l = elim l [ ]

refused : (a b c d : Bool) → a ≡ true → b ≡ false → d ≡ true → (not a || ((b && not c) || not d)) ≡ false
refused true false c true h k l = refl
refused true true c d h k l = cc
refused false b c d h k l = cc
refused a b c false h k l = cc

module _ (S : Type 0) (Next : S → Token → S → Type 0) (behind : S → Token) (det : IsDetermined S Next behind) where
  -- the body of an arrow: an expression or a block, and not the other
  pub data ArrowBody (o : ℕ) (i : Bool) (s e : S) (u : Tree) (U : List Pair) : Bool → Type 0 where
    as_expression : Found S Next behind o Assignment i NoBrace s e u U → AbsentAt S Next behind body s → ArrowBody o i s e u U true
    as_block : FoundAt S Next behind o body s e u U → Absent S Next behind Assignment i NoBrace s → ArrowBody o i s e u U false

  -- what stands before `=>` on its line isn't the leftmost part of anything that can't go on
  arrow_follows : {o : ℕ} {s0 e : S} {y : Rank} {i : Bool} {f : Start} {n : Tree} {P : List Pair} {h : Rank} {j : Bool} {m : Tree} {mid x : S} {Q : List Pair} {v : Token} → Begun S Next behind det o s0 y i f n e P h j m mid Q → IsTrue (takes y Assignment) → edge m ≡ Other →
      Reads S Next behind Punctuator (codes "=>") mid v x → v.after_break ≡ false → ⊥
  arrow_follows {y = y} {i = i} {m = m} {mid = mid} {x = x} {v = v} b tk at eq line =
      let op : operation v ≡ op_arrow = makes v eq.class eq.text refl in
      let al : IsTrue (allows Div v.class v.text) = subst (λ c. IsTrue (allows Div c v.text)) (sym eq.class) (subst (λ c. IsTrue (allows Div Punctuator c)) (sym eq.text) refl) in
      let r : ReadBy S Next behind Div mid v x = record { next = eq.next; allowed = al } in
      let goes : stops_at y i Other v (Some Assignment) ≡ false = refused (takes y Assignment) (is v.text "in") i true tk (ap (λ w. is w "in") eq.text) refl in
      let goes' : stops y i (edge m) (behind mid) v ≡ false = ap (λ c. stops_at y i (edge_as_written c (behind mid)) v (rank_made_by (operation v) v.after_break)) at ∙ ap (λ c. stops_at y i Other v (rank_made_by c v.after_break)) op
      ∙ ap (λ c. stops_at y i Other v (rank_made_by op_arrow c)) line ∙ goes in
      none_led (led_on S Next behind det r op (λ q. cc) (goes_where_not S Next behind det y i r b.stopped goes') (core_spelled S Next behind b.core) b.grows).led

  module _ (y : Rank) (i : Bool) (f : Start) (s0 x x2 : S) (t v : Token) (r : ReadBy S Next behind Goal.RegExp s0 t x) (low : IsTrue (takes y Assignment)) (class : t.class ≡ IdentifierName) (free : is_reserved t.text ≡ false)
      (eq : Reads S Next behind Punctuator (codes "=>") x v x2) (line : v.after_break ≡ false) where
    -- the arrow as it stands in a derivation
    record ArrowCore (o : ℕ) (h : Rank) (j : Bool) (m : Tree) (mid : S) (Q : List Pair) : Type 0 where
      flag : Bool
      st : ℕ
      en : ℕ
      operand : Tree
      tree : m ≡ node ArrowFunctionExpression [] (arrow_flags flag) st en (part (node Identifier t.text plain t.start (behind x).stop none) (part operand none))
      stands : IsTrue (takes h Assignment)
      spelled : Spells ways S Next behind o (cond flag (expr Assignment j NoBrace) body) operand x2 mid Q
      places : Placed S Next behind (expr h j f) m s0 mid

    -- no `=>` follows `async` in one of its own heads
    no_word_next : {w : List ℕ} {t' u : Token} {k z : S} → Reads S Next behind IdentifierName (codes "async") s0 t' k → Reads S Next behind IdentifierName w k u z → ⊥
    no_word_next {w = w} {u = u} {z = z} ra rb =
        let here = by_name S Next behind det {w = codes "async"} r _ _ ra in
        let rc = subst (λ c. Reads S Next behind IdentifierName w c u z) here.1 rb in
        let al : IsTrue (allows Div v.class v.text) = subst (λ c. IsTrue (allows Div c v.text)) (sym eq.class) (subst (λ c. IsTrue (allows Div Punctuator c)) (sym eq.text) refl) in
        let same = det.same Div x u v z x2 rc.next eq.next (det.free Div x u z rc.next (ap Rattle.language.specs.Promises.is_free rc.class)) al in
        let clash : IdentifierName ≡ Punctuator = sym rc.class ∙ ap (λ (c : Token). c.class) same.0 ∙ eq.class in
        cc

    no_async_arrow : {h : Rank} → AsyncNext S Next behind det h s0 → ⊥
    no_async_arrow (function_next ra rb broken) = no_word_next ra rb
    no_async_arrow (name_next ra rb free broken arrow on tk) = no_word_next ra rb
    no_async_arrow (parameters_next {v = u} {x = z} ra rb broken d arrow on tk) =
        let here = by_name S Next behind det {w = codes "async"} r _ _ ra in
        let rc = subst (λ c. Reads S Next behind Punctuator (codes "(") c u z) here.1 rb in
        let al : IsTrue (allows Div v.class v.text) = subst (λ c. IsTrue (allows Div c v.text)) (sym eq.class) (subst (λ c. IsTrue (allows Div Punctuator c)) (sym eq.text) refl) in
        let al' : IsTrue (allows Div u.class u.text) = subst (λ c. IsTrue (allows Div c u.text)) (sym rc.class) (subst (λ c. IsTrue (allows Div Punctuator c)) (sym rc.text) refl) in
        let same = det.same Div x u v z x2 rc.next eq.next al' al in
        let clash : true ≡ false = ap (λ w. is w "(") (sym rc.text ∙ ap (λ (c : Token). c.text) same.0 ∙ eq.text) in
        false≢true (sym clash)

    arrow_core : {o : ℕ} {h : Rank} {j : Bool} {m : Tree} {mid : S} {Q : List Pair} → (edge m ≡ Other → mid ≡ x → ⊥) → Cored S Next behind det o h j f m s0 mid Q with_name → ArrowCore o h j m mid Q
    arrow_core {m = m} {mid = mid} other (in_way {w = w} {g = g} {st = st} {en = en} {ps = ps} is (head_identifier k c q) lean pl d) =
        let v1 = run_token S Next behind (retell S Next behind q d) in
        let here = by_name S Next behind det r v1.sign v1.mid v1.reads in
        let end = Rattle.language.proofs.list_loops.FirstPieces.run_none S Next behind v1.runs in
        absurd (other (ap edge (is ∙ ap (λ c. node c w g st en ps) k)) (sym end.place ∙ here.1))
    arrow_core {h = h} {j = j} other (in_way is (head_async u st q) lean pl d) = absurd (no_async_arrow (async_next S Next behind det h j f u (retell S Next behind q d)))
    arrow_core {o} {h} {j} {m} {mid} {Q} other (in_way {w = w} {g = g} {st = st} {en = en} {ps = ps} is (head_short_arrow k z p n tk q) lean pl d) =
        let bares : is_lean (bare (node _ w g st en ps)) ≡ true = ap (λ v. is_lean (bare v)) (sym is) ∙ lean in
        let a = run_part S Next behind (retell S Next behind q d) in
        let found = name_found S Next behind det {o = o} (record { next = r.next; class = class; text = refl }) free in
        let first = found.only o a.mid a.item a.one a.spelled in
        let on_line = run_unbroken S Next behind a.runs in
        let sign = run_token S Next behind (run_laid S Next behind on_line.runs) in
        let there = same_sign S Next behind det (subst (λ c. Reads S Next behind Punctuator (codes "=>") c sign.sign sign.mid) first.0 sign.reads) eq refl in
        let flags : g ≡ arrow_flags g.expression = lean_flags (bare (node _ w g st en ps)) bares ∙ ap (λ v. used_flags v g) k ∙ (λ i. record plain { expression = g.expression; form = z i }) in
        let text : w ≡ [] = lean_text (bare (node _ w g st en ps)) bares (ap has_text k) in
        let b = body_part g.expression (run_laid S Next behind sign.runs) in
        let parts : ps ≡ part (node Identifier t.text plain t.start (behind x).stop none) (part b.operand none) = a.parts ∙ ap (λ c. part c a.rest) first.1 ∙ ap (part (node Identifier t.text plain t.start (behind x).stop none)) b.parts in
        let pairs : a.more ≡ Q = sym (a.pairs ∙ ap (λ c. c ++ a.more) first.2) in
        record {
          flag = g.expression;
          st = st;
          en = en;
          operand = b.operand;
          tree = is ∙ same_node k text flags refl refl parts;
          stands = tk;
          spelled = subst (λ c. Spells ways S Next behind o (cond g.expression (expr Assignment j NoBrace) body) b.operand x2 mid c) pairs (subst (λ c. Spells ways S Next behind o (cond g.expression (expr Assignment j NoBrace) body) b.operand c mid a.more) there.1 b.spelled);
          places = pl;
        }
      where
        body_part : {s e : S} {ps : Parts} {P : List Pair} (b : Bool) → Runs ways S Next behind o (goes_to h j f (cond b (sub (tail Assignment NoBrace)) (put body) ∷ [])) ps s e P → OnePart S Next behind det o (cond b (expr Assignment j NoBrace) body) ps s e P
        body_part true d = one_part S Next behind det d
        body_part false d = one_part S Next behind det d

    arrow_runs : {o : ℕ} (h : Rank) {u : Tree} {to : S} {U : List Pair} {b : Bool} → ArrowBody o i x2 to u U b → Runs ways S Next behind o (goes_to h i f (cond b (sub (tail Assignment NoBrace)) (put body) ∷ [])) (part u none) x2 to U
    arrow_runs h (as_expression found other) = last_runs S Next behind found.spelled
    arrow_runs h (as_block found other) = last_runs S Next behind found.spelled

    -- where the body is the same, so is the arrow
    same_arrow : {h : Rank} {j : Bool} {m u v : Tree} {mid to : S} {Q U : List Pair} {st en st' en' : ℕ} (b : Bool) → (mid ≡ to) × (v ≡ u) × (Q ≡ U) → m ≡ node ArrowFunctionExpression [] (arrow_flags b) st' en' (part (node Identifier t.text plain t.start (behind x).stop none) (part v none)) →
        Placed S Next behind (expr h j f) m s0 mid → Placed S Next behind (expr y i f) (node ArrowFunctionExpression [] (arrow_flags b) st en (part (node Identifier t.text plain t.start (behind x).stop none) (part u none))) s0 to → IsTrue (takes h Assignment) →
        (mid ≡ to) × (m ≡ node ArrowFunctionExpression [] (arrow_flags b) st en (part (node Identifier t.text plain t.start (behind x).stop none) (part u none))) × (Q ≡ U) × IsTrue (takes h Assignment)
    same_arrow {h = h} {j = j} {mid = mid} b same tree pl places tk =
        let where_is = same_places S Next behind det (subst (λ c. Placed S Next behind (expr h j f) c s0 mid) tree pl) places same.0 in
        (same.0, tree ∙ same_node refl refl refl where_is.0 where_is.1 (ap (λ c. part (node Identifier t.text plain t.start (behind x).stop none) (part c none)) same.1), same.2, tk)

    arrow_alone : {o o' : ℕ} {n : Tree} {e : S} {P : List Pair} {h : Rank} {j : Bool} {m u : Tree} {mid to : S} {Q U : List Pair} {st en : ℕ} {b : Bool} → ArrowBody o i x2 to u U b →
        Placed S Next behind (expr y i f) (node ArrowFunctionExpression [] (arrow_flags b) st en (part (node Identifier t.text plain t.start (behind x).stop none) (part u none))) s0 to → Begun S Next behind det o' s0 y i f n e P h j m mid Q → ArrowCore o' h j m mid Q →
        (mid ≡ to) × (m ≡ node ArrowFunctionExpression [] (arrow_flags b) st en (part (node Identifier t.text plain t.start (behind x).stop none) (part u none))) × (Q ≡ U) × IsTrue (takes h Assignment)
    arrow_alone {o' = o'} {h = h} {j = j} {m = m} {u = u} {mid = mid} {to = to} {Q = Q} {U = U} {st = st} {en = en} (as_expression found other) places g c = of c.flag c.spelled c.tree
      where
        inside : j ≡ i
        inside = (g.reached.same_in (loose_of h Assignment c.stands refl)).1

        of : (d : Bool) → Spells ways S Next behind o' (cond d (expr Assignment j NoBrace) body) c.operand x2 mid Q → m ≡ node ArrowFunctionExpression [] (arrow_flags d) c.st c.en (part (node Identifier t.text plain t.start (behind x).stop none) (part c.operand none)) →
            (mid ≡ to) × (m ≡ node ArrowFunctionExpression [] (arrow_flags true) st en (part (node Identifier t.text plain t.start (behind x).stop none) (part u none))) × (Q ≡ U) × IsTrue (takes h Assignment)
        of false p tree = absurd (other.nothing o' mid c.operand Q p)
        of true p tree =
            let stopped : Stops S Next behind Assignment j c.operand mid = begun_stops S Next behind det Assignment Assignment j c.operand tails_assign (λ l. omega arith) c.stands (λ k. refl) (ap (λ v. edge_as_written (edge v) (behind mid)) tree) g in
            same_arrow true (found.only o' mid c.operand Q (subst (λ k. Spells ways S Next behind o' (expr Assignment k NoBrace) c.operand x2 mid Q) inside p) (subst (λ k. Stops S Next behind Assignment k c.operand mid) inside stopped)) tree c.places places c.stands
    arrow_alone {o' = o'} {h = h} {j = j} {m = m} {u = u} {mid = mid} {to = to} {Q = Q} {U = U} {st = st} {en = en} (as_block found other) places g c = of c.flag c.spelled c.tree
      where
        inside : j ≡ i
        inside = (g.reached.same_in (loose_of h Assignment c.stands refl)).1

        of : (d : Bool) → Spells ways S Next behind o' (cond d (expr Assignment j NoBrace) body) c.operand x2 mid Q → m ≡ node ArrowFunctionExpression [] (arrow_flags d) c.st c.en (part (node Identifier t.text plain t.start (behind x).stop none) (part c.operand none)) →
            (mid ≡ to) × (m ≡ node ArrowFunctionExpression [] (arrow_flags false) st en (part (node Identifier t.text plain t.start (behind x).stop none) (part u none))) × (Q ≡ U) × IsTrue (takes h Assignment)
        of false p tree = same_arrow false (found.only o' mid c.operand Q p) tree c.places places c.stands
        of true p tree =
            let stopped : Stops S Next behind Assignment j c.operand mid = begun_stops S Next behind det Assignment Assignment j c.operand tails_assign (λ l. omega arith) c.stands (λ k. refl) (ap (λ v. edge_as_written (edge v) (behind mid)) tree) g in
            absurd (other.nothing o' mid c.operand Q (subst (λ k. Spells ways S Next behind o' (expr Assignment k NoBrace) c.operand x2 mid Q) inside p) (subst (λ k. Stops S Next behind Assignment k c.operand mid) inside stopped))

    core_of : {o : ℕ} {n : Tree} {e : S} {P : List Pair} {h : Rank} {j : Bool} {m : Tree} {mid : S} {Q : List Pair} → Begun S Next behind det o s0 y i f n e P h j m mid Q → ArrowCore o h j m mid Q
    core_of g = arrow_core (λ k l. arrow_follows g low k (subst (λ c. Reads S Next behind Punctuator (codes "=>") c v x2) (sym l) eq) line) (core_by S Next behind det r (opens t class refl (identifier_opens t.text free)) g.core)

    -- an arrow with one plain parameter
    pub climb_arrow : {o : ℕ} {u : Tree} {to : S} {U : List Pair} {st en : ℕ} {b : Bool} → ArrowBody o i x2 to u U b →
        Placed S Next behind (expr y i f) (node ArrowFunctionExpression [] (arrow_flags b) st en (part (node Identifier t.text plain t.start (behind x).stop none) (part u none))) s0 to →
        Climbing S Next behind det o y i f Assignment s0 (node ArrowFunctionExpression [] (arrow_flags b) st en (part (node Identifier t.text plain t.start (behind x).stop none) (part u none))) to U
    climb_arrow {o} {u} {to} {U} {st} {en} {b} found places = climb_start S Next behind det low stands
        (λ o' n e P h j m mid Q g. arrow_alone found places g (core_of g))
      where
        stands : (h : Rank) (j : Bool) → IsTrue (takes h Assignment) → (is_loose h ≡ true → j ≡ i) → Spells ways S Next behind o (expr h j f) (node ArrowFunctionExpression [] (arrow_flags b) st en (part (node Identifier t.text plain t.start (behind x).stop none) (part u none))) s0 to U
        stands h j tk lo =
            let inside : j ≡ i = lo (loose_of h Assignment tk refl) in
            let name_there = name_found S Next behind det {o = o} (record { next = r.next; class = class; text = refl }) free in
            subst (λ c. Spells ways S Next behind o (expr h c f) (node ArrowFunctionExpression [] (arrow_flags b) st en (part (node Identifier t.text plain t.start (behind x).stop none) (part u none))) s0 to U) (sym inside)
            (spell S Next behind (at Assignment (put name ∷ arrow_end (arrow_flags b))) (short_arrow refl) (arrow_lean b st en (part (node Identifier t.text plain t.start (behind x).stop none) (part u none))) tk refl (starts_led f (fixed name) _) (replaced S Next behind det places)
            (within name_there.spelled (step (same_line eq.next line) (step laid (step (token eq) (step laid (arrow_runs h found)))))))
