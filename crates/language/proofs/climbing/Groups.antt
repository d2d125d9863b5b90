-- A leftmost part that begins with `(`: a group, or an arrow with its parameters in parentheses.
use Rattle.std.proofs.Common.{◌≡◌, ℕ, suc, Bool, true, false, cond, List, [], ◌∷◌, ◌++◌, refl, sym, ap, ◌∙◌, subst, arith}
use Rattle.std.specs.Prelude.{IsTrue, codes}
use Rattle.tokens.specs.declared.token.TokenClass.TheVariants.{Punctuator}
use Rattle.tokens.specs.declared.token.Goal.{Goal}
use Rattle.tokens.specs.Goals.{allows}
use Rattle.tree.specs.declared.kind.Kind.{Kind}
use Rattle.tree.specs.declared.kind.Kind.TheVariants.{ArrowFunctionExpression}
use Rattle.language.specs.declared.Rank.{Rank}
use Rattle.language.specs.declared.Rank.TheVariants.{Expression, Assignment, Conditional, ShortCircuit, Coalesce, LogicalOr, LogicalAnd, BitwiseOr, BitwiseXor, BitwiseAnd, Equality, Relational, Shift, Additive, Multiplicative, Exponentiation, Unary, Update, LeftHandSide, New, Call, Member, Primary, Grouped}
use Rattle.language.specs.declared.Start.{Start}
use Rattle.language.specs.declared.Start.TheVariants.{Any, NoBrace, Statement}
use Rattle.language.specs.declared.Edge.{Edge}
use Rattle.language.specs.declared.Edge.TheVariants.{Arrow, Postfix, Other, Closed}
use Rattle.tree.specs.declared.kind.Flags.{Flags}
use Rattle.tree.specs.declared.kind.Pair.{Pair}
use Rattle.tree.specs.Tree.{Tree, node, Parts, none, part, gap, bare, bare_parts, join, plain}
use Rattle.tree.specs.Uses.{is_lean, used_flags, has_text}
use Rattle.tree.proofs.Lean.{lean_flags, lean_text}
use Rattle.language.specs.Vocabulary.{is, takes, op_arrow}
use Rattle.language.specs.Pieces.{Role, expr, body, PieceOf, Piece, sub, tail, put, at, open_parameters, close_parameters, parameters}
use Rattle.language.specs.Token.{Token}
use Rattle.language.specs.Edges.{edge, last_edge, edge_as_written}
use Rattle.language.specs.Expressions.{arrow_end}
use Rattle.language.specs.Continuations.{rank_made_by}
use Rattle.language.specs.ExpressionStart.{with_parenthesis}
use Rattle.language.specs.Promises.{IsDetermined, ReadBy, Stops, Found, FoundParts}
use Rattle.language.specs.Grammar.{ways, starts}
use Rattle.language.specs.Derivation.{pair_of, Reads, Spells, grouped, Runs, step, opened, closed, token, laid, same_line, Placed}
use Rattle.language.proofs.table.NodeForms.{arrow}
use Rattle.language.proofs.table.Begins.{goes_to, retell}
use Rattle.language.proofs.table.Productions.{spell}
use Rattle.language.proofs.table.LeftRecursiveWays.{Led}
use Rattle.language.proofs.table.TokenFirstWays.{head_arrow, opens}
use Rattle.language.proofs.climbing.LeftmostParts.{Cored, in_group, in_way, core_by}
use Rattle.language.proofs.list_loops.FirstPieces.{run_opened, run_closed, run_unbroken, run_laid, run_token}
use Rattle.language.proofs.climbing.RightOperands.{OnePart, one_part}
use Rattle.language.proofs.climbing.OperatorNodes.{last_runs}
use Rattle.language.proofs.table.RightEdges.{edged}
use Rattle.language.proofs.table.Reaches.{is_loose, loose_of}
use Rattle.language.proofs.table.Tails.{tails_assign}
use Rattle.language.proofs.climbing.Commas.{last_edge_join}
use Rattle.language.proofs.climbing.BinaryTurns.{same_node, replaced, same_places}
use Rattle.language.proofs.climbing.OperatorLoop.{Climbing}
use Rattle.language.proofs.climbing.Conditionals.{stops_before, same_sign}
use Rattle.language.proofs.climbing.FirstTurn.{Begun, climb_start, begun_stops}
use Rattle.language.proofs.list_loops.ParameterLists.{parameter_list, Closer, parameters_split, parameters_join}
use Rattle.language.proofs.climbing.Arrows.{arrow_flags, ArrowBody, as_expression, as_block}
use Rattle.language.proofs.climbing.Targets.{led_behind, PartsEndAt}

-- each position takes a group
pub takes_group : (y : Rank) → IsTrue (takes y Grouped)
takes_group Expression = refl
takes_group Assignment = refl
takes_group Conditional = refl
takes_group ShortCircuit = refl
takes_group Coalesce = refl
takes_group LogicalOr = refl
takes_group LogicalAnd = refl
takes_group BitwiseOr = refl
takes_group BitwiseXor = refl
takes_group BitwiseAnd = refl
takes_group Equality = refl
takes_group Relational = refl
takes_group Shift = refl
takes_group Additive = refl
takes_group Multiplicative = refl
takes_group Exponentiation = refl
takes_group Unary = refl
takes_group Update = refl
takes_group LeftHandSide = refl
takes_group New = refl
takes_group Call = refl
takes_group Member = refl
takes_group Primary = refl
takes_group Grouped = refl

arrow_lean : (b : Bool) (st en : ℕ) (ps : Parts) → is_lean (bare (node ArrowFunctionExpression [] (arrow_flags b) st en ps)) ≡ true
arrow_lean true st en ps = refl
arrow_lean false st en ps = refl

-- nothing is led by what stands before `=>`
none_led : {y : Rank} {i : Bool} {f : Start} {k : Kind} {w : List ℕ} {g : Flags} {ps : Parts} {b : Role} {rest : List (PieceOf Role)} → Led y i f k w g ps b rest op_arrow → ⊥
none_led l = elim l [ ]

starts_parameters : (f : Start) (qs : List Piece) → IsTrue (starts f (open_parameters ∷ qs))
starts_parameters Any qs = refl
starts_parameters NoBrace qs = refl
starts_parameters Statement qs = refl

module _ (S : Type 0) (Next : S → Token → S → Type 0) (behind : S → Token) where
  -- no parameters here have `=>` behind them on their line; none within the limits
  abbrev pub Unarrowed : S → Type 0
  Unarrowed x = (o' : ℕ) (e' : S) (ps' : Parts) (P' : List Pair) (v : Token) (k : S) → Runs ways S Next behind o' (parameter_list ps') ps' x e' P' → Reads S Next behind Punctuator (codes "=>") e' v k → v.after_break ≡ false → ⊥

  -- by the place where they end, and by their absence
  pub unarrowed_end : {x e : S} → PartsEndAt S Next behind parameter_list x e → ((v : Token) (k : S) → Reads S Next behind Punctuator (codes "=>") e v k → v.after_break ≡ false → ⊥) → Unarrowed x
  unarrowed_end ends no_sign o' e' ps' P' v k d h line = no_sign v k (subst (λ c. Reads S Next behind Punctuator (codes "=>") c v k) (ends o' e' ps' P' d) h) line

  -- whatever parentheses group here ends at one place
  abbrev pub GroupEnds : S → S → Type 0
  GroupEnds x mid = (o' : ℕ) (e' : S) (n' : Tree) (P' : List Pair) (v : Token) (k : S) → Spells ways S Next behind o' (expr Expression true Any) n' x e' P' → Reads S Next behind Punctuator (codes ")") e' v k → k ≡ mid

  -- the parenthesis behind an arrow's parameters
  arrow_closer : (y : Rank) (i : Bool) (f : Start) (o : ℕ) → Closer S Next behind y i f o (suc o) close_parameters
  arrow_closer y i f o = record { opens = λ d. (let u = run_closed S Next behind d in (u.sign, u.mid, u.reads, u.runs)); closes = λ h d. closed h d }

module _ (S : Type 0) (Next : S → Token → S → Type 0) (behind : S → Token) (det : IsDetermined S Next behind) where
  -- nothing goes on before the closing parenthesis
  group_stops : (m : Tree) {place mid : S} {right : Token} → Reads S Next behind Punctuator (codes ")") place right mid → Stops S Next behind Expression true m place
  group_stops m closes = stops_before S Next behind det Expression true m closes refl refl (λ k u. refl)

  -- the right edge of a group
  group_standing : {o : ℕ} {y : Rank} {i : Bool} {f : Start} {m : Tree} {x place mid : S} {P : List Pair} {right : Token} → Spells ways S Next behind o (expr y i f) m x place P → Reads S Next behind Punctuator (codes ")") place right mid → edge_as_written (edge m) (behind mid) ≡ Other
  group_standing {m = m} {place = place} {mid = mid} {right = right} d closes = of (edge m) (edged S Next behind det d).ends (ap (λ (x : Token). is x.text ")") (det.last place right mid closes.next) ∙ ap (λ w. is w ")") closes.text)
    where
      of : (c : Edge) → (c ≡ Closed → ⊥) → is (behind mid).text ")" ≡ true → edge_as_written c (behind mid) ≡ Other
      of Arrow h e = ap (λ b. cond b Other Arrow) e
      of Postfix h e = ap (λ b. cond b Other Postfix) e
      of Other h e = refl
      of Closed h e = absurd (h refl)

  read_opening : {s0 x : S} {t : Token} → Reads S Next behind Punctuator (codes "(") s0 t x → ReadBy S Next behind Goal.RegExp s0 t x
  read_opening {t = t} h = record { next = h.next; allowed = subst (λ c. IsTrue (allows Goal.RegExp c t.text)) (sym h.class) (subst (λ z. IsTrue (allows Goal.RegExp Punctuator z)) (sym h.text) refl) }

  -- What begins with `(` in a derivation: a group; or an arrow, with its parameters, its `=>` and its body.
  data ParenCore (o : ℕ) (h : Rank) (j : Bool) (f : Start) (m : Tree) (s0 x mid : S) (Q : List Pair) (t : Token) : Type 0 where
    as_group : {less : ℕ} {right : Token} {place : S} {inner : List Pair} → o ≡ suc less → Spells ways S Next behind less (expr Expression true Any) m x place inner → Reads S Next behind Punctuator (codes ")") place right mid → Q ≡ pair_of t right ∷ inner →
        ParenCore o h j f m s0 x mid Q t
    as_arrow : {less st en : ℕ} {flag : Bool} {ps : Parts} {u : Tree} {place x2 : S} {v : Token} {R V : List Pair} → o ≡ suc less → m ≡ node ArrowFunctionExpression [] (arrow_flags flag) st en (join ps (part u none)) → IsTrue (takes h Assignment) → Placed S Next behind (expr h j f) m s0 mid →
        Runs ways S Next behind less (parameter_list ps) ps x place R → Reads S Next behind Punctuator (codes "=>") place v x2 → v.after_break ≡ false → Spells ways S Next behind (suc less) (cond flag (expr Assignment j NoBrace) body) u x2 mid V → Q ≡ R ++ V →
        ParenCore o h j f m s0 x mid Q t

  paren_core : {o : ℕ} {h : Rank} {j : Bool} {f : Start} {m : Tree} {s0 x mid : S} {Q : List Pair} {t : Token} → Reads S Next behind Punctuator (codes "(") s0 t x → Cored S Next behind det o h j f m s0 mid Q with_parenthesis → ParenCore o h j f m s0 x mid Q t
  paren_core {m = m} opens_it (in_group {less = less} {left = left} {right = right} {l = l} {Q = inner} o p d q e) =
      let same = same_sign S Next behind det p opens_it refl in
      as_group o (subst (λ c. Spells ways S Next behind less (expr Expression true Any) m c l inner) same.1 d) q (e ∙ ap (λ c. pair_of c right ∷ inner) same.0)
  paren_core {h = h} {j = j} {f = f} {mid = mid} {Q = Q} opens_it (in_way {k = k} {w = w} {g = g} {st = st} {en = en} {ps = ps} tree (head_arrow kind z tk q) lean pl d) =
      let bares : is_lean (bare (node k w g st en ps)) ≡ true = ap (λ v. is_lean (bare v)) (sym tree) ∙ lean in
      let a = run_opened S Next behind (retell S Next behind q d) in
      let there = same_sign S Next behind det a.reads opens_it refl in
      let inside = subst (λ c. Runs ways S Next behind a.less (goes_to h j f (parameters (close_parameters ∷ arrow_end g) (bare_parts ps))) ps c mid Q) there.1 a.runs in
      let b = parameters_split S Next behind (arrow_end g) (arrow_closer S Next behind h j f a.less) ps inside in
      let on_line = run_unbroken S Next behind b.runs in
      let sign = run_token S Next behind (run_laid S Next behind on_line.runs) in
      let u = body_part g.expression (run_laid S Next behind sign.runs) in
      let flags : g ≡ arrow_flags g.expression = lean_flags (bare (node k w g st en ps)) bares ∙ ap (λ v. used_flags v g) kind ∙ (λ i. record plain { expression = g.expression; form = z i }) in
      let text : w ≡ [] = lean_text (bare (node k w g st en ps)) bares (ap has_text kind) in
      as_arrow a.more (tree ∙ same_node kind text flags refl refl (b.parts ∙ ap (λ v. join b.given v) u.parts)) tk pl b.list sign.reads (det.break b.mid sign.sign on_line.sign sign.mid on_line.mid sign.reads.next on_line.next ∙ on_line.unbroken) u.spelled b.pairs
    where
      body_part : {less : ℕ} {s e : S} {ps : Parts} {P : List Pair} (b : Bool) → Runs ways S Next behind less (goes_to h j f (cond b (sub (tail Assignment NoBrace)) (put body) ∷ [])) ps s e P → OnePart S Next behind det less (cond b (expr Assignment j NoBrace) body) ps s e P
      body_part true d = one_part S Next behind det d
      body_part false d = one_part S Next behind det d

  -- what stands behind `=>` in a derivation does so behind this one
  behind_sign : {x mid x2 : S} {v : Token} → PartsEndAt S Next behind parameter_list x mid → Reads S Next behind Punctuator (codes "=>") mid v x2 → {less o : ℕ} {a : Role} {ps : Parts} {u : Tree} {place x3 e : S} {v' : Token} {R V : List Pair} →
      Runs ways S Next behind less (parameter_list ps) ps x place R → Reads S Next behind Punctuator (codes "=>") place v' x3 → Spells ways S Next behind o a u x3 e V → Spells ways S Next behind o a u x2 e V
  behind_sign {x2 = x2} given_end eq {less} {o} {a} {ps} {u} {place} {x3} {e} {v'} {R} {V} d eq' p =
      let there = same_sign S Next behind det (subst (λ c. Reads S Next behind Punctuator (codes "=>") c v' x3) (given_end less place ps R d) eq') eq refl in
      subst (λ c. Spells ways S Next behind o a u c e V) there.1 p

  module _ {s0 x : S} {t : Token} {f : Start} (opens_it : Reads S Next behind Punctuator (codes "(") s0 t x) where
    core_of : {o : ℕ} {y h : Rank} {i j : Bool} {n m : Tree} {e mid : S} {P Q : List Pair} → Begun S Next behind det o s0 y i f n e P h j m mid Q → ParenCore o h j f m s0 x mid Q t
    core_of b = paren_core opens_it (core_by S Next behind det (read_opening opens_it) (opens t opens_it.class opens_it.text refl) b.core)

    module _ {o : ℕ} {u : Tree} {e1 : S} {U : List Pair} (found : Found S Next behind o Expression true Any x e1 u U) where
      -- a group
      pub climb_group : {y : Rank} {i : Bool} {right : Token} {to : S} → (IsTrue (takes y Assignment) → Unarrowed S Next behind x) → Reads S Next behind Punctuator (codes ")") e1 right to → Climbing S Next behind det (suc o) y i f Grouped s0 u to (pair_of t right ∷ U)
      climb_group {y} {i} {right} {to} unarrowed closes = climb_start S Next behind det (takes_group y)
          (λ h j tk lo. grouped opens_it found.spelled closes)
          (λ o' n e P h j m mid Q b. of b (core_of b))
        where
          of : {o' : ℕ} {n : Tree} {e : S} {P : List Pair} {h : Rank} {j : Bool} {m : Tree} {mid : S} {Q : List Pair} → Begun S Next behind det o' s0 y i f n e P h j m mid Q → ParenCore o' h j f m s0 x mid Q t →
              (mid ≡ to) × (m ≡ u) × (Q ≡ pair_of t right ∷ U) × IsTrue (takes h Grouped)
          of {h = h} {m = m} {mid = mid} b (as_group {less = less} {right = right'} {place = place} {inner = inner} more d closes' q) =
              let same = found.only less place m inner d (group_stops m closes') in
              let end = same_sign S Next behind det (subst (λ k. Reads S Next behind Punctuator (codes ")") k right' mid) same.0 closes') closes refl in
              (end.1, same.1, q ∙ ap (λ k. pair_of t k ∷ inner) end.0 ∙ ap (λ k. pair_of t right ∷ k) same.2, takes_group h)
          of b (as_arrow {less = less} {ps = ps} {place = place} {x2 = x2} {v = v} {R = R} more tree tk pl d eq line u q) = absurd (unarrowed (b.reached.taken Assignment tk) less place ps R v x2 d eq line)

    -- `=>` follows on the line of what ends there
    module _ {mid x2 : S} {v : Token} (ends : GroupEnds S Next behind x mid) (eq : Reads S Next behind Punctuator (codes "=>") mid v x2) (line : v.after_break ≡ false) {y : Rank} {i : Bool} (low : IsTrue (takes y Assignment)) where
      -- a group isn't the leftmost part
      no_group : {o less : ℕ} {n : Tree} {e : S} {P : List Pair} {h : Rank} {j : Bool} {m : Tree} {mid' place : S} {Q inner : List Pair} {right : Token} → Begun S Next behind det o s0 y i f n e P h j m mid' Q → Spells ways S Next behind less (expr Expression true Any) m x place inner →
          Reads S Next behind Punctuator (codes ")") place right mid' → ⊥
      no_group {less = less} {m = m} {mid' = mid'} {place = place} {inner = inner} {right = right} b d closes =
          none_led (led_behind S Next behind det Assignment b (group_standing d closes) (subst (λ c. Reads S Next behind Punctuator (codes "=>") c v x2) (sym (ends less place m inner right mid' d closes)) eq) refl refl (ap (λ c. rank_made_by op_arrow c) line) refl (λ e. cc) low).led

      -- the body can't go on
      body_stops : {o st en : ℕ} {n : Tree} {e : S} {P : List Pair} {h : Rank} {j : Bool} {m : Tree} {mid' : S} {Q : List Pair} (ps : Parts) (u : Tree) → Begun S Next behind det o s0 y i f n e P h j m mid' Q → m ≡ node ArrowFunctionExpression [] (arrow_flags true) st en (join ps (part u none)) → IsTrue (takes h Assignment) →
          Stops S Next behind Assignment j u mid'
      body_stops {j = j} {mid' = mid'} ps u b tree tk = begun_stops S Next behind det Assignment Assignment j u tails_assign (λ l. omega arith) tk (λ k. refl) (ap (λ c. edge_as_written (edge c) (behind mid')) tree ∙ ap (λ c. edge_as_written c (behind mid')) (joined_edge ps u)) b
        where
          joined_edge : (ps : Parts) (u : Tree) → last_edge (join ps (part u none)) ≡ edge u
          joined_edge none u = refl
          joined_edge (part n ps) u = last_edge_join ps u n
          joined_edge (gap ps) u = joined_edge ps u

      inside : {o : ℕ} {n : Tree} {e : S} {P : List Pair} {h : Rank} {j : Bool} {m : Tree} {mid' : S} {Q : List Pair} → Begun S Next behind det o s0 y i f n e P h j m mid' Q → IsTrue (takes h Assignment) → j ≡ i
      inside {h = h} b tk = (b.reached.same_in (loose_of h Assignment tk refl)).1

      -- an arrow with its parameters in parentheses
      pub climb_paren_arrow : {o : ℕ} {ps : Parts} {u : Tree} {to : S} {R U : List Pair} {st en : ℕ} {b : Bool} → FoundParts S Next behind o parameter_list x mid ps R → ArrowBody S Next behind det (suc o) i x2 to u U b →
          Placed S Next behind (expr y i f) (node ArrowFunctionExpression [] (arrow_flags b) st en (join ps (part u none))) s0 to → Climbing S Next behind det (suc o) y i f Assignment s0 (node ArrowFunctionExpression [] (arrow_flags b) st en (join ps (part u none))) to (R ++ U)
      climb_paren_arrow {o} {ps} {u} {to} {R} {U} {st} {en} {b} given found places = climb_start S Next behind det low stands (λ o' n e P h j m mid' Q g. of g (core_of g))
        where
          arrow_runs : (h : Rank) {b : Bool} → ArrowBody S Next behind det (suc o) i x2 to u U b → Runs ways S Next behind (suc o) (goes_to h i f (cond b (sub (tail Assignment NoBrace)) (put body) ∷ [])) (part u none) x2 to U
          arrow_runs h (as_expression found other) = last_runs S Next behind found.spelled
          arrow_runs h (as_block found other) = last_runs S Next behind found.spelled

          stands : (h : Rank) (j : Bool) → IsTrue (takes h Assignment) → (is_loose h ≡ true → j ≡ i) → Spells ways S Next behind (suc o) (expr h j f) (node ArrowFunctionExpression [] (arrow_flags b) st en (join ps (part u none))) s0 to (R ++ U)
          stands h j tk lo =
              let same : j ≡ i = lo (loose_of h Assignment tk refl) in
              subst (λ c. Spells ways S Next behind (suc o) (expr h c f) (node ArrowFunctionExpression [] (arrow_flags b) st en (join ps (part u none))) s0 to (R ++ U)) (sym same)
              (spell S Next behind (at Assignment (open_parameters ∷ parameters (close_parameters ∷ arrow_end (arrow_flags b)) (bare_parts (join ps (part u none))))) arrow (arrow_lean b st en (join ps (part u none))) tk refl (starts_parameters f _) (replaced S Next behind det places)
              (opened opens_it (parameters_join S Next behind (arrow_end (arrow_flags b)) (arrow_closer S Next behind h i f o) ps given.runs (step (same_line eq.next line) (step laid (step (token eq) (step laid (arrow_runs h found))))))))

          same_arrow : {h : Rank} {j : Bool} {m w : Tree} {mid' : S} {Q A V : List Pair} {qs : Parts} {st' en' : ℕ} (c : Bool) → (mid' ≡ to) × (w ≡ u) × (V ≡ U) → (qs ≡ ps) × (A ≡ R) → Q ≡ A ++ V → m ≡ node ArrowFunctionExpression [] (arrow_flags c) st' en' (join qs (part w none)) →
              Placed S Next behind (expr h j f) m s0 mid' → Placed S Next behind (expr y i f) (node ArrowFunctionExpression [] (arrow_flags c) st en (join ps (part u none))) s0 to → IsTrue (takes h Assignment) →
              (mid' ≡ to) × (m ≡ node ArrowFunctionExpression [] (arrow_flags c) st en (join ps (part u none))) × (Q ≡ R ++ U) × IsTrue (takes h Assignment)
          same_arrow {h = h} {j = j} {mid' = mid'} c same parts q tree pl places tk =
              let where_is = same_places S Next behind det (subst (λ k. Placed S Next behind (expr h j f) k s0 mid') tree pl) places same.0 in
              (same.0, tree ∙ same_node refl refl refl where_is.0 where_is.1 (λ k. join (parts.0 k) (part (same.1 k) none)), q ∙ (λ k. parts.1 k ++ same.2 k), tk)

          of_body : {o' : ℕ} {n : Tree} {e : S} {P : List Pair} {h : Rank} {j : Bool} {m w : Tree} {mid' : S} {Q A V : List Pair} {qs : Parts} {st' en' : ℕ} {less : ℕ} {b : Bool} (d : Bool) → ArrowBody S Next behind det (suc o) i x2 to u U b →
              Placed S Next behind (expr y i f) (node ArrowFunctionExpression [] (arrow_flags b) st en (join ps (part u none))) s0 to → Begun S Next behind det o' s0 y i f n e P h j m mid' Q → m ≡ node ArrowFunctionExpression [] (arrow_flags d) st' en' (join qs (part w none)) → IsTrue (takes h Assignment) →
              Placed S Next behind (expr h j f) m s0 mid' → Spells ways S Next behind (suc less) (cond d (expr Assignment j NoBrace) body) w x2 mid' V → (qs ≡ ps) × (A ≡ R) → Q ≡ A ++ V →
              (mid' ≡ to) × (m ≡ node ArrowFunctionExpression [] (arrow_flags b) st en (join ps (part u none))) × (Q ≡ R ++ U) × IsTrue (takes h Assignment)
          of_body {w = w} {mid' = mid'} {V = V} {less = less} false (as_expression found other) places g tree tk pl p parts q = absurd (other.nothing (suc less) mid' w V p)
          of_body {w = w} {mid' = mid'} {V = V} {less = less} false (as_block found other) places g tree tk pl p parts q = same_arrow false (found.only (suc less) mid' w V p) parts q tree pl places tk
          of_body {w = w} {mid' = mid'} {V = V} {qs = qs} {less = less} true (as_expression found other) places g tree tk pl p parts q =
              let same = inside g tk in
              same_arrow true (found.only (suc less) mid' w V (subst (λ k. Spells ways S Next behind (suc less) (expr Assignment k NoBrace) w x2 mid' V) same p) (subst (λ k. Stops S Next behind Assignment k w mid') same (body_stops qs w g tree tk))) parts q tree pl places tk
          of_body {w = w} {mid' = mid'} {V = V} {qs = qs} {less = less} true (as_block found other) places g tree tk pl p parts q =
              let same = inside g tk in
              absurd (other.nothing (suc less) mid' w V (subst (λ k. Spells ways S Next behind (suc less) (expr Assignment k NoBrace) w x2 mid' V) same p) (subst (λ k. Stops S Next behind Assignment k w mid') same (body_stops qs w g tree tk)))

          of : {o' : ℕ} {n : Tree} {e : S} {P : List Pair} {h : Rank} {j : Bool} {m : Tree} {mid' : S} {Q : List Pair} → Begun S Next behind det o' s0 y i f n e P h j m mid' Q → ParenCore o' h j f m s0 x mid' Q t →
              (mid' ≡ to) × (m ≡ node ArrowFunctionExpression [] (arrow_flags b) st en (join ps (part u none))) × (Q ≡ R ++ U) × IsTrue (takes h Assignment)
          of g (as_group more d closes q) = absurd (no_group g d closes)
          of g (as_arrow {less = less} {flag = flag} {ps = qs} {place = place} {R = A} more tree tk pl d eq' line' w q) =
              let same = given.only less place qs A d in
              of_body flag found places g tree tk pl (behind_sign (λ o1 e1 ps1 P1 d1. (given.only o1 e1 ps1 P1 d1).0) eq d eq' w) (same.1, same.2) q
