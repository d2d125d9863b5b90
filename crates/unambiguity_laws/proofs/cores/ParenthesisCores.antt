-- The leftmost part that begins with `(`: a group, or an arrow with its parameters in parentheses.
use Rattle.std.proofs.Common.{◌≡◌, ℕ, suc, ◌≤◌, Bool, true, false, cond, List, [], ◌∷◌, ◌++◌, refl, sym, ap, ◌∙◌, subst, arith}
use Rattle.std.specs.Prelude.{IsTrue, codes}
use Rattle.tokens.specs.declared.token.TokenClass.TheVariants.{Punctuator}
use Rattle.tokens.specs.declared.token.Goal.{Goal}
use Rattle.tokens.specs.Goals.{allows}
use Rattle.tree.specs.declared.kind.Kind.{Kind}
use Rattle.tree.specs.declared.kind.Kind.TheVariants.{ArrowFunctionExpression}
use Rattle.language.specs.declared.Rank.{Rank}
use Rattle.language.specs.declared.Rank.TheVariants.{Expression, Assignment, Grouped}
use Rattle.language.specs.declared.Start.{Start}
use Rattle.language.specs.declared.Start.TheVariants.{Any, NoBrace}
use Rattle.language.specs.declared.Edge.{Edge}
use Rattle.language.specs.declared.Edge.TheVariants.{Arrow, Postfix, Other, Closed}
use Rattle.tree.specs.declared.kind.Flags.{Flags}
use Rattle.tree.specs.declared.kind.Form.{Form}
use Rattle.tree.specs.declared.kind.Pair.{Pair}
use Rattle.tree.specs.Tree.{Tree, node, Parts, none, part, gap, height, parts_height, bare, bare_parts, join}
use Rattle.tree.specs.Uses.{is_lean, used_flags, has_text}
use Rattle.tree.proofs.Lean.{lean_flags, lean_text}
use Rattle.tree.proofs.Shapes.{parts_height-join}
use Rattle.language.specs.Vocabulary.{is, takes, op_arrow}
use Rattle.language.specs.Pieces.{Role, expr, body, PieceOf, sub, tail, put, close_parameters, parameters}
use Rattle.language.specs.Token.{Token}
use Rattle.language.specs.Edges.{edge, last_edge, edge_as_written}
use Rattle.language.specs.Expressions.{arrow_end}
use Rattle.language.specs.Continuations.{rank_made_by}
use Rattle.language.specs.ExpressionStart.{with_parenthesis}
use Rattle.language.specs.Promises.{IsDetermined, ReadBy, Stops, Found}
use Rattle.language.specs.Following.{IsAlike}
use Rattle.language.specs.Grammar.{ways}
use Rattle.language.specs.Derivation.{pair_of, Reads, Spells, Runs, closed, Placed}
use Rattle.language.proofs.table.Begins.{goes_to, retell}
use Rattle.language.proofs.table.LeftRecursiveWays.{Led}
use Rattle.language.proofs.table.TokenFirstWays.{head_arrow}
use Rattle.language.proofs.climbing.LeftmostParts.{Cored, in_group, in_way, core_by}
use Rattle.language.proofs.list_loops.FirstPieces.{run_opened, run_closed, run_unbroken, run_laid, run_token}
use Rattle.language.proofs.climbing.RightOperands.{OnePart, one_part}
use Rattle.language.proofs.table.RightEdges.{edged}
use Rattle.language.proofs.table.Reaches.{loose_of}
use Rattle.language.proofs.table.Tails.{tails_assign}
use Rattle.language.proofs.climbing.Commas.{last_edge_join}
use Rattle.language.proofs.climbing.BinaryTurns.{same_node, replaced}
use Rattle.language.proofs.climbing.OperatorLoop.{grows_height, Climbing}
use Rattle.language.proofs.climbing.Conditionals.{stops_before, same_sign}
use Rattle.language.proofs.climbing.FirstTurn.{Begun, begun_stops}
use Rattle.language.proofs.list_loops.ParameterLists.{parameter_list, Closer, parameters_split}
use Rattle.language.proofs.climbing.Arrows.{arrow_flags}
use Rattle.language.proofs.climbing.Targets.{led_behind, PartsEndAt}
use Rattle.language.proofs.climbing.Groups.{GroupEnds, Unarrowed, unarrowed_end, climb_group, climb_paren_arrow}
use Rattle.unambiguity_laws.proofs.Unique.{Unique, UniqueParts, Inner, Climbed, CoreStep}
use Rattle.unambiguity_laws.proofs.cores.ArrowBodies.{arrow_body}

-- nothing is led by what stands before `=>`
none_led : {y : Rank} {i : Bool} {f : Start} {k : Kind} {w : List ℕ} {g : Flags} {ps : Parts} {b : Role} {rest : List (PieceOf Role)} → Led y i f k w g ps b rest op_arrow → ⊥
none_led l = elim l [ ]

joined_edge : (ps : Parts) (n : Tree) → last_edge (join ps (part n none)) ≡ edge n
joined_edge none n = refl
joined_edge (part m ps) n = last_edge_join ps n m
joined_edge (gap ps) n = joined_edge ps n

module _ (S : Type 0) (Next : S → Token → S → Type 0) (behind : S → Token) where
  -- the parenthesis behind an arrow's parameters
  arrow_closer : (y : Rank) (i : Bool) (f : Start) (o : ℕ) → Closer S Next behind y i f o (suc o) close_parameters
  arrow_closer y i f o = record { opens = λ d. (let u = run_closed S Next behind d in (u.sign, u.mid, u.reads, u.runs)); closes = λ h d. closed h d }

  -- what stands in parentheses that group ends where parameters there do, and where parameters end, so does what groups there
  pub record GroupParameters (h : ℕ) : Type 0 where
    pub gives : {o : ℕ} {x e1 mid : S} {n : Tree} {t : Token} {P : List Pair} → height n ≤ suc h → Found S Next behind o Expression true Any x e1 n P → Reads S Next behind Punctuator (codes ")") e1 t mid → PartsEndAt S Next behind parameter_list x mid

  pub record ParametersGroup (h : ℕ) : Type 0 where
    pub gives : {o : ℕ} {x mid : S} {ps : Parts} {P : List Pair} → parts_height ps ≤ h → Runs ways S Next behind o (parameter_list ps) ps x mid P → GroupEnds S Next behind x mid

module _ (S : Type 0) (Next : S → Token → S → Type 0) (behind : S → Token) (det : IsDetermined S Next behind) where
  -- nothing goes on before the closing parenthesis
  group_stops : (m : Tree) {place mid : S} {right : Token} → Reads S Next behind Punctuator (codes ")") place right mid → Stops S Next behind Expression true m place
  group_stops m closes = stops_before S Next behind det Expression true m closes refl refl (λ k u. refl)

  -- the right edge of a group
  group_standing : {o : ℕ} {y : Rank} {i : Bool} {f : Start} {m : Tree} {x place mid : S} {P : List Pair} {right : Token} → Spells ways S Next behind o (expr y i f) m x place P → Reads S Next behind Punctuator (codes ")") place right mid → edge_as_written (edge m) (behind mid) ≡ Other
  group_standing {m = m} {place = place} {mid = mid} {right = right} d closes = of (edge m) (edged S Next behind det d).ends (ap (λ (x : Token). is x.text ")") (det.last place right mid closes.next) ∙ ap (λ w. is w ")") closes.text)
    where
      of : (c : Edge) → (c ≡ Closed → ⊥) → is (behind mid).text ")" ≡ true → edge_as_written c (behind mid) ≡ Other
      of Arrow h e = ap (λ b. cond b Other Arrow) e
      of Postfix h e = ap (λ b. cond b Other Postfix) e
      of Other h e = refl
      of Closed h e = absurd (h refl)

  -- What begins with `(` in a derivation: a group; or an arrow, with its parameters, its `=>` and its body.
  data ParenParts (o : ℕ) (h : Rank) (j : Bool) (f : Start) (m : Tree) (s0 x mid : S) (Q : List Pair) (t : Token) : Type 0 where
    as_group : {less : ℕ} {right : Token} {place : S} {inner : List Pair} → o ≡ suc less → Spells ways S Next behind less (expr Expression true Any) m x place inner → Reads S Next behind Punctuator (codes ")") place right mid → Q ≡ pair_of t right ∷ inner →
        ParenParts o h j f m s0 x mid Q t
    as_arrow : {less st en : ℕ} {flag : Bool} {ps : Parts} {u : Tree} {place x2 : S} {v : Token} {R V : List Pair} → o ≡ suc less → m ≡ node ArrowFunctionExpression [] (arrow_flags flag) st en (join ps (part u none)) → IsTrue (takes h Assignment) → Placed S Next behind (expr h j f) m s0 mid →
        Runs ways S Next behind less (parameter_list ps) ps x place R → Reads S Next behind Punctuator (codes "=>") place v x2 → v.after_break ≡ false → Spells ways S Next behind (suc less) (cond flag (expr Assignment j NoBrace) body) u x2 mid V → Q ≡ R ++ V →
        ParenParts o h j f m s0 x mid Q t

  paren_parts : {o : ℕ} {h : Rank} {j : Bool} {f : Start} {m : Tree} {s0 x mid : S} {Q : List Pair} {t : Token} → Reads S Next behind Punctuator (codes "(") s0 t x → Cored S Next behind det o h j f m s0 mid Q with_parenthesis → ParenParts o h j f m s0 x mid Q t
  paren_parts {m = m} opens_it (in_group {less = less} {left = left} {right = right} {l = l} {Q = inner} o p d q e) =
      let same = same_sign S Next behind det p opens_it refl in
      as_group o (subst (λ c. Spells ways S Next behind less (expr Expression true Any) m c l inner) same.1 d) q (e ∙ ap (λ c. pair_of c right ∷ inner) same.0)
  paren_parts {h = h} {j = j} {f = f} {mid = mid} {Q = Q} opens_it (in_way {k = k} {w = w} {g = g} {st = st} {en = en} {ps = ps} tree (head_arrow kind formed tk q) lean pl d) =
      let bares : is_lean (bare (node k w g st en ps)) ≡ true = ap (λ v. is_lean (bare v)) (sym tree) ∙ lean in
      let a = run_opened S Next behind (retell S Next behind q d) in
      let there = same_sign S Next behind det a.reads opens_it refl in
      let inside = subst (λ c. Runs ways S Next behind a.less (goes_to h j f (parameters (close_parameters ∷ arrow_end g) (bare_parts ps))) ps c mid Q) there.1 a.runs in
      let b = parameters_split S Next behind (arrow_end g) (arrow_closer S Next behind h j f a.less) ps inside in
      let on_line = run_unbroken S Next behind b.runs in
      let sign = run_token S Next behind (run_laid S Next behind on_line.runs) in
      let u = body_part g.expression (run_laid S Next behind sign.runs) in
      let flags : g ≡ arrow_flags g.expression = lean_flags (bare (node k w g st en ps)) bares ∙ ap (λ v. used_flags v g) kind ∙ ap (λ (x : Form). record (arrow_flags g.expression) { form = x }) formed in
      let text : w ≡ [] = lean_text (bare (node k w g st en ps)) bares (ap has_text kind) in
      as_arrow a.more (tree ∙ same_node kind text flags refl refl (b.parts ∙ ap (λ v. join b.given v) u.parts)) tk pl b.list sign.reads (det.break b.mid sign.sign on_line.sign sign.mid on_line.mid sign.reads.next on_line.next ∙ on_line.unbroken) u.spelled b.pairs
    where
      body_part : {less : ℕ} {s e : S} {ps : Parts} {P : List Pair} (b : Bool) → Runs ways S Next behind less (goes_to h j f (cond b (sub (tail Assignment NoBrace)) (put body) ∷ [])) ps s e P → OnePart S Next behind det less (cond b (expr Assignment j NoBrace) body) ps s e P
      body_part true d = one_part S Next behind det d
      body_part false d = one_part S Next behind det d

  -- the parenthesis with which it begins is the token that the goal reads
  opening_reads : {o : ℕ} {h : Rank} {j : Bool} {f : Start} {m : Tree} {s0 x mid : S} {Q : List Pair} {t : Token} → ReadBy S Next behind Goal.RegExp s0 t x → Cored S Next behind det o h j f m s0 mid Q with_parenthesis → Reads S Next behind Punctuator (codes "(") s0 t x
  opening_reads {s0 = s0} {x = x} {t = t} r c = of c
    where
      the_same : {left : Token} {k : S} → Reads S Next behind Punctuator (codes "(") s0 left k → Reads S Next behind Punctuator (codes "(") s0 t x
      the_same {left} {k} p =
          let al : IsTrue (allows Goal.RegExp left.class left.text) = subst (λ c. IsTrue (allows Goal.RegExp c left.text)) (sym p.class) (subst (λ z. IsTrue (allows Goal.RegExp Punctuator z)) (sym p.text) refl) in
          let same = det.same Goal.RegExp s0 t left x k r.next p.next r.allowed al in
          record { next = r.next; class = ap (λ (v : Token). v.class) same.0 ∙ p.class; text = ap (λ (v : Token). v.text) same.0 ∙ p.text }

      of : {o : ℕ} {h : Rank} {j : Bool} {f : Start} {m : Tree} {mid : S} {Q : List Pair} → Cored S Next behind det o h j f m s0 mid Q with_parenthesis → Reads S Next behind Punctuator (codes "(") s0 t x
      of (in_group more p d q pairs) = the_same p
      of (in_way tree (head_arrow kind formed tk q) lean pl d) = the_same (run_opened S Next behind (retell S Next behind q d)).reads

module _ (S : Type 0) (Next : S → Token → S → Type 0) (behind : S → Token) (det : IsDetermined S Next behind) (alike : IsAlike S Next behind) {h : ℕ} (u : Unique S Next behind det h) where
  module _ (groups : GroupParameters S Next behind h) (lists : ParametersGroup S Next behind h) (listed : UniqueParts S Next behind det h parameter_list) {o : ℕ} {y : Rank} {i : Bool} {f : Start} {n : Tree} {s0 e x : S} {P : List Pair} {q : Rank} {j : Bool} {m : Tree} {mid : S} {Q : List Pair} {t : Token}
      (inner : Inner S Next behind det o (suc h)) (low : height n ≤ suc h) (b : Begun S Next behind det o s0 y i f n e P q j m mid Q) (opens_it : Reads S Next behind Punctuator (codes "(") s0 t x) where
    -- behind a group no `=>` follows on its line
    unarrowed : {less : ℕ} {place : S} {right : Token} {A : List Pair} → height m ≤ suc h → Found S Next behind less Expression true Any x place m A → Reads S Next behind Punctuator (codes ")") place right mid → IsTrue (takes y Assignment) → Unarrowed S Next behind x
    unarrowed lower found closes taken = unarrowed_end S Next behind (groups.gives lower found closes)
        (λ v k eq line. none_led (led_behind S Next behind det Assignment b (group_standing S Next behind det found.spelled closes) eq refl refl (ap (λ c. rank_made_by op_arrow c) line) refl (λ e. cc) taken).led)

    grouped_core : {less : ℕ} {place : S} {right : Token} {A : List Pair} → o ≡ suc less → Spells ways S Next behind less (expr Expression true Any) m x place A → Reads S Next behind Punctuator (codes ")") place right mid → Q ≡ pair_of t right ∷ A → Climbed S Next behind det o y i f s0 m mid Q
    grouped_core {less} {place} {right} {A} more d closes pairs =
        let up = grows_height S Next behind det b.grows in
        let lower : height m ≤ suc h = omega arith in
        let found = inner.gives more lower d (group_stops S Next behind det m closes) in
        let climb : Climbing S Next behind det (suc less) y i f Grouped s0 m mid (pair_of t right ∷ A) = climb_group S Next behind det opens_it found (unarrowed lower found closes) closes in
        record { symbol = Grouped; climbing = subst (λ c. Climbing S Next behind det c y i f Grouped s0 m mid Q) (sym more) (subst (λ c. Climbing S Next behind det (suc less) y i f Grouped s0 m mid c) (sym pairs) climb) }

    -- the body that is an expression can't go on
    body_stops : {st en : ℕ} (flag : Bool) (ps : Parts) (w : Tree) → m ≡ node ArrowFunctionExpression [] (arrow_flags flag) st en (join ps (part w none)) → IsTrue (takes q Assignment) → flag ≡ true → Stops S Next behind Assignment j w mid
    body_stops true ps w tree tk is = begun_stops S Next behind det Assignment Assignment j w tails_assign (λ l. omega arith) tk (λ k. refl) (ap (λ c. edge_as_written (edge c) (behind mid)) tree ∙ ap (λ c. edge_as_written c (behind mid)) (joined_edge ps w)) b
    body_stops false ps w tree tk is = cc

    arrow_core : {less st en : ℕ} {flag : Bool} {ps : Parts} {w : Tree} {place x2 : S} {v : Token} {R V : List Pair} → o ≡ suc less → m ≡ node ArrowFunctionExpression [] (arrow_flags flag) st en (join ps (part w none)) → IsTrue (takes q Assignment) → Placed S Next behind (expr q j f) m s0 mid →
        Runs ways S Next behind less (parameter_list ps) ps x place R → Reads S Next behind Punctuator (codes "=>") place v x2 → v.after_break ≡ false → Spells ways S Next behind (suc less) (cond flag (expr Assignment j NoBrace) body) w x2 mid V → Q ≡ R ++ V → Climbed S Next behind det o y i f s0 m mid Q
    arrow_core {less} {st} {en} {flag} {ps} {w} {place} {x2} {v} {R} {V} more tree tk pl d eq line spelled pairs =
        let up = grows_height S Next behind det b.grows in
        let high : height m ≡ height (node ArrowFunctionExpression [] (arrow_flags flag) st en (join ps (part w none))) = ap height tree in
        let inside = parts_height-join ps (part w none) in
        let lower : parts_height ps ≤ h = omega arith in
        let same : j ≡ i = (b.reached.same_in (loose_of q Assignment tk refl)).1 in
        let ends = arrow_body S Next behind det alike u flag (omega arith) (subst (λ c. Spells ways S Next behind (suc less) (cond flag (expr Assignment c NoBrace) body) w x2 mid V) same spelled) (λ is. subst (λ c. Stops S Next behind Assignment c w mid) same (body_stops flag ps w tree tk is)) in
        let places : Placed S Next behind (expr y i f) (node ArrowFunctionExpression [] (arrow_flags flag) st en (join ps (part w none))) s0 mid = replaced S Next behind det (subst (λ c. Placed S Next behind (expr q j f) c s0 mid) tree pl) in
        let climb : Climbing S Next behind det (suc less) y i f Assignment s0 (node ArrowFunctionExpression [] (arrow_flags flag) st en (join ps (part w none))) mid (R ++ V) = climb_paren_arrow S Next behind det opens_it (lists.gives lower d) eq line (b.reached.taken Assignment tk) (listed.gives lower d) ends places in
        record {
          symbol = Assignment;
          climbing = subst (λ c. Climbing S Next behind det c y i f Assignment s0 m mid Q) (sym more) (subst (λ c. Climbing S Next behind det (suc less) y i f Assignment s0 m mid c) (sym pairs) (subst (λ c. Climbing S Next behind det (suc less) y i f Assignment s0 c mid (R ++ V)) (sym tree) climb));
        }

    core_climbed : ParenParts S Next behind det o q j f m s0 x mid Q t → Climbed S Next behind det o y i f s0 m mid Q
    core_climbed (as_group more d closes pairs) = grouped_core more d closes pairs
    core_climbed (as_arrow more tree tk pl d eq line spelled pairs) = arrow_core more tree tk pl d eq line spelled pairs

  pub parenthesis_core : GroupParameters S Next behind h → ParametersGroup S Next behind h → UniqueParts S Next behind det h parameter_list → CoreStep S Next behind det h with_parenthesis
  parenthesis_core groups lists listed = record {
    gives = λ other inner low b r opening.
        let c = core_by S Next behind det r opening b.core in
        let opens_it = opening_reads S Next behind det r c in
        core_climbed groups lists listed inner low b opens_it (paren_parts S Next behind det opens_it c);
  }
