-- What is given at a `(` where an expression may begin: what the parentheses group, or an arrow function with its parameters in them (ECMA-262 12.2.10, 14.2).
use Rattle.std.proofs.Common.{◌≡◌, inl, inr, ℕ, suc, Bool, true, false, cond, List, [], ◌∷◌, ◌++◌, refl, sym, ap, ◌∙◌, subst, arith}
use Rattle.std.specs.Prelude.{IsTrue, codes}
use Rattle.tokens.specs.declared.token.TokenClass.TheVariants.{Punctuator}
use Rattle.tokens.specs.declared.token.Goal.{Goal}
use Rattle.tokens.specs.Goals.{allows}
use Rattle.tree.specs.declared.kind.Kind.{Kind}
use Rattle.tree.specs.declared.kind.Kind.TheVariants.{ArrowFunctionExpression}
use Rattle.tree.specs.declared.kind.Flags.{Flags}
use Rattle.tree.specs.declared.kind.Pair.{Pair}
use Rattle.tree.specs.Tree.{Tree, node, plain, Parts, none, part, gap, push, join, start_of, stop_of, bare, bare_parts}
use Rattle.tree.specs.Uses.{is_lean, used_flags, has_text}
use Rattle.tree.proofs.Lean.{lean_flags, lean_text}
use Rattle.language.specs.declared.Rank.{Rank}
use Rattle.language.specs.declared.Rank.TheVariants.{Expression, Assignment, Member, New}
use Rattle.language.specs.declared.Start.{Start}
use Rattle.language.specs.declared.Start.TheVariants.{Any, NoBrace}
use Rattle.language.specs.Covers.{Reading, as_expression}
use Rattle.language.specs.Vocabulary.{takes, op_arrow}
use Rattle.language.specs.Pieces.{Role, expr, body, PieceOf, sub, tail, put, close_parameters, parameters}
use Rattle.language.specs.Token.{Token}
use Rattle.language.specs.Edges.{edge, last_edge, edge_as_written}
use Rattle.language.specs.Expressions.{arrow_end}
use Rattle.language.specs.Continuations.{rank_made_by}
use Rattle.language.specs.ExpressionStart.{with_parenthesis}
use Rattle.language.specs.Promises.{ReadBy}
use Rattle.language.specs.Derivation.{pair_of, Reads, Placed, placed}
use Rattle.language.proofs.climbing.Arrows.{arrow_flags}
use Rattle.language.proofs.table.Begins.{goes_to, retell}
use Rattle.language.proofs.climbing.Commas.{last_edge_join}
use Rattle.language.proofs.climbing.Conditionals.{same_sign}
use Rattle.language.proofs.climbing.LeftmostParts.{Cored, in_group, in_way, core_by}
use Rattle.language.proofs.covers.CoverReadings.{name_or_sign, grouped_unbracketed, grouped_unnamed}
use Rattle.language.proofs.table.TokenFirstWays.{head_arrow, opens}
use Rattle.language.proofs.table.LeftRecursiveWays.{Led}
use Rattle.language.proofs.list_loops.ParameterLists.{parameter_list, Closer, parameters_split}
use Rattle.language.proofs.table.PatternStarts.{pattern_moves}
use Rattle.language.proofs.table.Reaches.{loose_of}
use Rattle.language.proofs.list_loops.FirstPieces.{run_opened, run_closed, run_unbroken, run_laid, run_token}
use Rattle.language.proofs.climbing.RightOperands.{OnePart, one_part}
use Rattle.language.proofs.climbing.FirstTurn.{Begun, begun_stops}
use Rattle.language.proofs.table.Tails.{tails_assign}
use Rattle.language.proofs.climbing.Targets.{led_behind}
use Rattle.token_cursor.proofs.SeenTokens.{seen_determined}
use Rattle.language.proofs.climbing.BinaryTurns.{same_node}
use Rattle.parser_tables.specs.declared.expression_context.ExpressionContext.{ExpressionContext}
use Rattle.recursive_descent.specs.Soundness.{RunsIn}
use Rattle.recursive_descent.specs.Completeness.{StopsIn, FirstAs, a_core, a_pattern, a_name, an_async_call, Wholly}
use Rattle.token_cursor.specs.Seen.{ReadsHere}
use Rattle.recursive_descent.proofs.sound_expressions.ArrowFunctions.{join_one}
use Rattle.recursive_descent.proofs.reading.SeenClasses.{edge_seen}
use Rattle.recursive_descent.proofs.complete_expressions.Agreement.{read_here}
use Rattle.recursive_descent.proofs.sound_expressions.GroupContents.{group_edge}
use Rattle.token_cursor.specs.SourceText.{SourceText, SeenNext, behind_in}
use Rattle.recursive_descent.specs.Spelled.{SpellsIn}

-- nothing is led by what stands before `=>`
none_led : {y : Rank} {i : Bool} {f : Start} {k : Kind} {w : List ℕ} {g : Flags} {ps : Parts} {b : Role} {rest : List (PieceOf Role)} → Led y i f k w g ps b rest op_arrow → ⊥
none_led l = elim l [ ]

pub joined_edge : (ps : Parts) (n : Tree) → last_edge (join ps (part n none)) ≡ edge n
joined_edge none n = refl
joined_edge (part m ps) n = last_edge_join ps n m
joined_edge (gap ps) n = joined_edge ps n

-- a symbol of the whole that takes an arrow is that of the position
wholly_takes : (y r : Rank) → Wholly y r → IsTrue (takes y Assignment) → y ≡ r
wholly_takes y r (inl e) tk = e
wholly_takes y r (inr e) tk = let other : IsTrue (takes Member Assignment) = subst (λ x. IsTrue (takes x Assignment)) e.0 tk in cc

wholly_taken : (y r : Rank) → Wholly y r → IsTrue (takes r Assignment) → IsTrue (takes y Assignment)
wholly_taken y r (inl e) tk = subst (λ x. IsTrue (takes x Assignment)) (sym e) tk
wholly_taken y r (inr e) tk = let other : IsTrue (takes New Assignment) = subst (λ x. IsTrue (takes x Assignment)) e.1 tk in cc

module _ (text : SourceText) where
  -- A group, behind which no `=>` goes on; or an arrow: its parameters, its `=>` and its body.
  pub data ParenGiven (p : ExpressionContext) (o : ℕ) (t : Tree) (m e : Token) (P : List Pair) (h : Rank) : Type 0 where
    a_group : {less : ℕ} {place : Token} {Q : List Pair} → o ≡ suc less → SpellsIn text less (expr Expression true Any) t m place Q → ReadsHere text Punctuator (codes ")") place e → P ≡ pair_of m e ∷ Q →
        ((v : Token) → IsTrue (takes p.rank Assignment) → ReadsHere text Punctuator (codes "=>") e v → v.after_break ≡ false → ⊥) → ParenGiven p o t m e P h
    an_arrow : {less : ℕ} {flag : Bool} {ps : Parts} {u : Tree} {place x : Token} {Q R : List Pair} → o ≡ suc less → t ≡ node ArrowFunctionExpression [] (arrow_flags flag) m.start e.stop (push ps u) → IsTrue (takes h Assignment) → IsTrue (takes p.rank Assignment) →
        RunsIn text less (parameter_list ps) ps m place Q → ReadsHere text Punctuator (codes "=>") place x → x.after_break ≡ false → SpellsIn text (suc less) (cond flag (expr Assignment p.has_in NoBrace) body) u x e R → (flag ≡ true → StopsIn text Assignment p.has_in u e) → P ≡ Q ++ R →
        ParenGiven p o t m e P h

  -- as the derivation has it
  data ParenParts (o : ℕ) (h : Rank) (j : Bool) (f : Start) (t : Tree) (s m e : Token) (P : List Pair) : Type 0 where
    as_group : {less : ℕ} {right place : Token} {Q : List Pair} → o ≡ suc less → SpellsIn text less (expr Expression true Any) t m place Q → Reads Token (SeenNext text) (behind_in text) Punctuator (codes ")") place right e → P ≡ pair_of m right ∷ Q → ParenParts o h j f t s m e P
    as_arrow : {less st en : ℕ} {flag : Bool} {ps : Parts} {u : Tree} {place x v : Token} {Q R : List Pair} → o ≡ suc less → t ≡ node ArrowFunctionExpression [] (arrow_flags flag) st en (join ps (part u none)) → IsTrue (takes h Assignment) → Placed Token (SeenNext text) (behind_in text) (expr h j f) t s e →
        RunsIn text less (parameter_list ps) ps m place Q → Reads Token (SeenNext text) (behind_in text) Punctuator (codes "=>") place v x → v.after_break ≡ false → SpellsIn text (suc less) (cond flag (expr Assignment j NoBrace) body) u x e R → P ≡ Q ++ R → ParenParts o h j f t s m e P

  arrow_closer : (y : Rank) (i : Bool) (f : Start) (o : ℕ) → Closer Token (SeenNext text) (behind_in text) y i f o (suc o) close_parameters
  arrow_closer y i f o = record { opens = λ d. (let u = run_closed Token (SeenNext text) (behind_in text) d in (u.sign, u.mid, u.reads, u.runs)); closes = λ h d. Rattle.language.specs.Derivation.closed h d }

  body_part : {less : ℕ} (h : Rank) (j : Bool) (f : Start) {s e : Token} {ps : Parts} {P : List Pair} (b : Bool) → RunsIn text less (goes_to h j f (cond b (sub (tail Assignment NoBrace)) (put body) ∷ [])) ps s e P → OnePart Token (SeenNext text) (behind_in text) (seen_determined text) less (cond b (expr Assignment j NoBrace) body) ps s e P
  body_part h j f true d = one_part Token (SeenNext text) (behind_in text) (seen_determined text) d
  body_part h j f false d = one_part Token (SeenNext text) (behind_in text) (seen_determined text) d

  paren_parts : {o : ℕ} {h : Rank} {j : Bool} {f : Start} {t : Tree} {s m e : Token} {P : List Pair} → ReadsHere text Punctuator (codes "(") s m → Cored Token (SeenNext text) (behind_in text) (seen_determined text) o h j f t s e P with_parenthesis → ParenParts o h j f t s m e P
  paren_parts {t = t} {e = e} opens_it (in_group {less = less} {left = left} {right = right} {l = l} {Q = inner} o p d q pairs) =
      let same = same_sign Token (SeenNext text) (behind_in text) (seen_determined text) p opens_it refl in
      as_group o (subst (λ c. SpellsIn text less (expr Expression true Any) t c l inner) same.1 d) q (pairs ∙ ap (λ c. pair_of c right ∷ inner) same.0)
  paren_parts {h = h} {j = j} {f = f} {e = e} {P = P} opens_it (in_way {k = k} {w = w} {g = g} {st = st} {en = en} {ps = ps} tree (head_arrow kind form_is tk q) lean pl d) =
      let bares : is_lean (bare (node k w g st en ps)) ≡ true = ap (λ v. is_lean (bare v)) (sym tree) ∙ lean in
      let a = run_opened Token (SeenNext text) (behind_in text) (retell Token (SeenNext text) (behind_in text) q d) in
      let there = same_sign Token (SeenNext text) (behind_in text) (seen_determined text) a.reads opens_it refl in
      let inside = subst (λ c. RunsIn text a.less (goes_to h j f (parameters (close_parameters ∷ arrow_end g) (bare_parts ps))) ps c e P) there.1 a.runs in
      let b = parameters_split Token (SeenNext text) (behind_in text) (arrow_end g) (arrow_closer h j f a.less) ps inside in
      let on_line = run_unbroken Token (SeenNext text) (behind_in text) b.runs in
      let sign = run_token Token (SeenNext text) (behind_in text) (run_laid Token (SeenNext text) (behind_in text) on_line.runs) in
      let u = body_part h j f g.expression (run_laid Token (SeenNext text) (behind_in text) sign.runs) in
      let flags : g ≡ arrow_flags g.expression = lean_flags (bare (node k w g st en ps)) bares ∙ ap (λ v. used_flags v g) kind ∙ (λ i. record plain { expression = g.expression; form = form_is i }) in
      let texts : w ≡ [] = lean_text (bare (node k w g st en ps)) bares (ap has_text kind) in
      as_arrow a.more (tree ∙ same_node kind texts flags refl refl (b.parts ∙ ap (λ v. join b.given v) u.parts)) tk pl b.list sign.reads ((seen_determined text).break b.mid sign.sign on_line.sign sign.mid on_line.mid sign.reads.next on_line.next ∙ on_line.unbroken) u.spelled b.pairs

  -- the span of what begins with the parenthesis
  places : {a : Rank} {j : Bool} {f : Start} {n : Tree} {s m e : Token} → Placed Token (SeenNext text) (behind_in text) (expr a j f) n s e → ReadsHere text Punctuator (codes "(") s m → (start_of n ≡ m.start) × (stop_of n ≡ e.stop)
  places {s = s} {m = m} (placed {t = t} {m = k} nx p) r = (sym (ap (λ (x : ℕ × ℕ). x.0) p) ∙ (seen_determined text).start s t (behind_in text m) k m nx r.next, sym (ap (λ (x : ℕ × ℕ). x.1) p))

  read_opening : {s m : Token} → ReadsHere text Punctuator (codes "(") s m → ReadBy Token (SeenNext text) (behind_in text) Goal.RegExp s (behind_in text m) m
  read_opening {m = m} h = record { next = h.next; allowed = subst (λ c. IsTrue (allows Goal.RegExp c (behind_in text m).text)) (sym h.class) (subst (λ z. IsTrue (allows Goal.RegExp Punctuator z)) (sym h.text) refl) }

  module _ {p : ExpressionContext} {o : ℕ} {s m e z : Token} {y h : Rank} {j : Bool} {t n : Tree} {P Q : List Pair} (sign : ReadsHere text Punctuator (codes "(") s m) (w : Wholly y p.rank) (b : Begun Token (SeenNext text) (behind_in text) (seen_determined text) o s y p.has_in p.start n z Q h j t e P) where
    -- behind a group no `=>` goes on
    unarrowed : {less : ℕ} {place right : Token} {R : List Pair} → SpellsIn text less (expr Expression true Any) t m place R → Reads Token (SeenNext text) (behind_in text) Punctuator (codes ")") place right e → (v : Token) → IsTrue (takes p.rank Assignment) → ReadsHere text Punctuator (codes "=>") e v → v.after_break ≡ false → ⊥
    unarrowed d closes v tk eq line =
        none_led (led_behind Token (SeenNext text) (behind_in text) (seen_determined text) Assignment b (edge_seen text (edge t) e ∙ sym (group_edge text d (read_here text closes))) eq refl refl (ap (λ c. rank_made_by op_arrow c) line) refl (λ k. cc) (wholly_taken y p.rank w tk)).led

    body_stops : {st en : ℕ} (flag : Bool) (ps : Parts) (u : Tree) → t ≡ node ArrowFunctionExpression [] (arrow_flags flag) st en (join ps (part u none)) → IsTrue (takes h Assignment) → flag ≡ true → StopsIn text Assignment j u e
    body_stops true ps u tree tk is = begun_stops Token (SeenNext text) (behind_in text) (seen_determined text) Assignment Assignment j u tails_assign (λ l. omega arith) tk (λ k. refl) (ap (λ c. edge_as_written (edge c) (behind_in text e)) tree ∙ ap (λ c. edge_as_written c (behind_in text e)) (joined_edge ps u)) b
    body_stops false ps u tree tk is = cc

    core_given : ParenParts o h j p.start t s m e P → ParenGiven p o t m e P h
    core_given (as_group {less} {right} {place} {Q = R} more d closes pairs) =
        let same : behind_in text e ≡ right = (seen_determined text).last place right e closes.next in
        a_group more d (read_here text closes) (pairs ∙ ap (λ c. pair_of m c ∷ R) (sym same)) (unarrowed d closes)
    core_given (as_arrow {less} {st} {en} {flag} {ps} {u} {place} {x} {v} {Q = A} {R = B} more tree tk pl d eq line spelled pairs) =
        let taken : IsTrue (takes y Assignment) = b.reached.taken Assignment tk in
        let inside : j ≡ p.has_in = (b.reached.same_in (loose_of h Assignment tk refl)).1 in
        let span = places pl sign in
        let first : st ≡ m.start = sym (ap start_of tree) ∙ span.0 in
        let last : en ≡ e.stop = sym (ap stop_of tree) ∙ span.1 in
        let here : behind_in text x ≡ v = (seen_determined text).last place v x eq.next in
        an_arrow more (tree ∙ (λ k. node ArrowFunctionExpression [] (arrow_flags flag) (first k) (last k) (join_one ps u k))) tk (subst (λ c. IsTrue (takes c Assignment)) (wholly_takes y p.rank w taken) taken) d (read_here text eq)
        (ap (λ (c : Token). c.after_break) here ∙ line) (subst (λ c. SpellsIn text (suc less) (cond flag (expr Assignment c NoBrace) body) u x e B) inside spelled) (λ k. subst (λ c. StopsIn text Assignment c u e) inside (body_stops flag ps u tree tk k)) pairs

  -- so of what stands first at a `(`
  pub paren_given : {p : ExpressionContext} {o : ℕ} {t : Tree} {s m e : Token} {P : List Pair} {a : Reading} {h : Rank} → ReadsHere text Punctuator (codes "(") s m → FirstAs text p o t s e P a h → (a ≡ as_expression) × ParenGiven p o t m e P h
  paren_given {m = m} sign (a_core no_test w b uncalled other unasync) =
      (refl, core_given sign w b (paren_parts sign (core_by Token (SeenNext text) (behind_in text) (seen_determined text) (read_opening sign) (opens (behind_in text m) sign.class sign.text refl) b.core)))
  paren_given {o = o} {t = t} {e = e} {P = P} sign (a_pattern d) = absurd ((grouped_unbracketed Token (SeenNext text) (behind_in text) (seen_determined text) sign).nothing o e t P (pattern_moves Token (SeenNext text) (behind_in text) (seen_determined text) (λ k. refl) d))
  paren_given {o = o} {t = t} {e = e} {P = P} sign (a_name d quiet) = absurd ((grouped_unnamed Token (SeenNext text) (behind_in text) (seen_determined text) sign).nothing o e t P d)
  paren_given sign (an_async_call tk call fits d st gs) = absurd (name_or_sign Token (SeenNext text) (behind_in text) (seen_determined text) refl call.name sign)
