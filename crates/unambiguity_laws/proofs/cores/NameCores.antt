-- Leftmost parts that begin with a name: an identifier, or an arrow with one plain parameter.
use Rattle.std.proofs.Common.{◌≡◌, ℕ, suc, ◌≤◌, Bool, true, false, cond, List, [], ◌∷◌, ◌++◌, refl, sym, ap, ◌∙◌, subst, arith}
use Rattle.std.specs.Prelude.{IsTrue, Some, codes, not, ◌&&◌, ◌||◌}
use Rattle.tokens.specs.declared.token.TokenClass.TheVariants.{IdentifierName, Punctuator}
use Rattle.tokens.specs.declared.token.Goal.{Goal}
use Rattle.tokens.specs.declared.token.Goal.TheVariants.{Div}
use Rattle.tokens.specs.Goals.{allows}
use Rattle.tree.specs.declared.kind.Kind.{Kind}
use Rattle.tree.specs.declared.kind.Kind.TheVariants.{Identifier, ArrowFunctionExpression}
use Rattle.tree.specs.declared.kind.Flags.{Flags}
use Rattle.tree.specs.declared.kind.Form.{Form}
use Rattle.tree.specs.declared.kind.Pair.{Pair}
use Rattle.tree.specs.Tree.{Tree, node, Parts, none, part, height, bare, plain}
use Rattle.tree.specs.Uses.{is_lean, used_flags, has_text}
use Rattle.tree.proofs.Lean.{lean_flags, lean_text}
use Rattle.language.specs.declared.Rank.{Rank}
use Rattle.language.specs.declared.Rank.TheVariants.{Assignment, Primary}
use Rattle.language.specs.declared.Start.{Start}
use Rattle.language.specs.declared.Start.TheVariants.{NoBrace}
use Rattle.language.specs.declared.Edge.TheVariants.{Other}
use Rattle.language.specs.Vocabulary.{is, takes, is_reserved, op_arrow}
use Rattle.language.specs.Pieces.{Role, expr, body, PieceOf, sub, tail, put}
use Rattle.language.specs.Token.{Token}
use Rattle.language.specs.Edges.{edge, edge_as_written}
use Rattle.language.specs.Continuations.{operation, rank_made_by, stops_at, stops}
use Rattle.language.specs.ExpressionStart.{with_name, expression_start}
use Rattle.language.specs.Promises.{IsDetermined, ReadBy, Stops}
use Rattle.language.specs.Following.{IsAlike}
use Rattle.language.specs.Grammar.{ways}
use Rattle.language.specs.Derivation.{Reads, Spells, Runs, Placed}
use Rattle.language.proofs.table.Begins.{goes_to, retell}
use Rattle.language.proofs.climbing.SpineContinuations.{makes}
use Rattle.language.proofs.table.LeftRecursiveWays.{Led}
use Rattle.language.proofs.table.TokenFirstWays.{head_identifier, head_short_arrow, head_async}
use Rattle.language.proofs.climbing.LeftmostParts.{Cored, in_way, core_by}
use Rattle.language.proofs.climbing.RightOperands.{OnePart, one_part}
use Rattle.language.proofs.list_loops.FirstPieces.{run_token, run_laid, run_unbroken, run_part}
use Rattle.language.proofs.table.Reaches.{loose_of}
use Rattle.language.proofs.climbing.NoContinuation.{goes_where_not}
use Rattle.language.proofs.table.Tails.{tails_assign}
use Rattle.language.proofs.climbing.OperatorLoop.{Climbing, led_on, grows_height}
use Rattle.language.proofs.climbing.BinaryTurns.{same_node, replaced}
use Rattle.language.proofs.climbing.FirstTurn.{Begun, begun_stops, core_spelled}
use Rattle.language.proofs.climbing.Leaves.{by_name, core_primary, name_form, climb_identifier}
use Rattle.language.proofs.climbing.Arrows.{arrow_flags, ArrowBody, climb_arrow}
use Rattle.language.proofs.climbing.FunctionsAndClasses.{body_begins, braced_absent, block_body, concise_body}
use Rattle.language.proofs.list_loops.ParameterLists.{parameter_list}
use Rattle.unambiguity_laws.proofs.Unique.{Unique, UniqueParts, CoreStep, Climbed}
use Rattle.unambiguity_laws.proofs.cores.AsyncCalls.{no_async_name}
use Rattle.unambiguity_laws.proofs.cores.AsyncCores.{part_of, async_climbed}
use Rattle.unambiguity_laws.proofs.cores.WordCores.{leaf_same, climbed_as}

-- nothing is led by what stands before `=>`
none_led : {y : Rank} {i : Bool} {f : Start} {k : Kind} {w : List ℕ} {g : Flags} {ps : Parts} {b : Role} {rest : List (PieceOf Role)} → Led y i f k w g ps b rest op_arrow → ⊥
none_led l = elim l [ ]

refused : (a b c d : Bool) → a ≡ true → b ≡ false → d ≡ true → (not a || ((b && not c) || not d)) ≡ false
refused true false c true h k l = refl
refused true true c d h k l = cc
refused false b c d h k l = cc
refused a b c false h k l = cc

module _ (S : Type 0) (Next : S → Token → S → Type 0) (behind : S → Token) (det : IsDetermined S Next behind) where
  -- what stands before `=>` on its line isn't the leftmost part of anything that can't go on
  arrow_follows : {o : ℕ} {s0 e : S} {y : Rank} {i : Bool} {f : Start} {n : Tree} {P : List Pair} {q : Rank} {j : Bool} {m : Tree} {mid x : S} {Q : List Pair} {v : Token} → Begun S Next behind det o s0 y i f n e P q j m mid Q → IsTrue (takes y Assignment) → edge m ≡ Other →
      Reads S Next behind Punctuator (codes "=>") mid v x → v.after_break ≡ false → ⊥
  arrow_follows {y = y} {i = i} {m = m} {mid = mid} {x = x} {v = v} b tk at eq line =
      let op : operation v ≡ op_arrow = makes v eq.class eq.text refl in
      let al : IsTrue (allows Div v.class v.text) = subst (λ c. IsTrue (allows Div c v.text)) (sym eq.class) (subst (λ c. IsTrue (allows Div Punctuator c)) (sym eq.text) refl) in
      let r : ReadBy S Next behind Div mid v x = record { next = eq.next; allowed = al } in
      let goes : stops_at y i Other v (Some Assignment) ≡ false = refused (takes y Assignment) (is v.text "in") i true tk (ap (λ w. is w "in") eq.text) refl in
      let goes' : stops y i (edge m) (behind mid) v ≡ false = ap (λ c. stops_at y i (edge_as_written c (behind mid)) v (rank_made_by (operation v) v.after_break)) at ∙ ap (λ c. stops_at y i Other v (rank_made_by c v.after_break)) op
      ∙ ap (λ c. stops_at y i Other v (rank_made_by op_arrow c)) line ∙ goes in
      none_led (led_on S Next behind det r op (λ c. cc) (goes_where_not S Next behind det y i r b.stopped goes') (core_spelled S Next behind b.core) b.grows).led

module _ (S : Type 0) (Next : S → Token → S → Type 0) (behind : S → Token) (det : IsDetermined S Next behind) (alike : IsAlike S Next behind) {h : ℕ} (u : Unique S Next behind det h) where
  -- the body of an arrow, whose expression can't go on
  arrow_body : {o : ℕ} {i : Bool} {s e : S} {v : Tree} {U : List Pair} (b : Bool) → height v ≤ h → Spells ways S Next behind o (cond b (expr Assignment i NoBrace) body) v s e U → (b ≡ true → Stops S Next behind Assignment i v e) → ArrowBody S Next behind det o i s e v U b
  arrow_body {o} {i} {s} {e} {v} {U} true low d st =
      concise_body S Next behind det (λ t m k. (braced_absent S Next behind det {y = Assignment} {i = i} k).nothing o e v U d (st refl)) (u.expressions.found low (λ c. cc) (λ c. cc) d (st refl))
  arrow_body false low d st = let w = body_begins S Next behind det d in block_body S Next behind det w.2 (u.closed refl low d)

  pub name_core : UniqueParts S Next behind det h parameter_list → CoreStep S Next behind det h with_name
  name_core parameters = record { gives = λ {o} {y} {i} {f} {n} {s0} {e} {P} {q} {j} {m} {mid} {m0} {Q} {t} no_new inner low b r op. of low b r op (core_by S Next behind det r op b.core) (core_primary S Next behind det b.core r (λ c. (let z = sym c ∙ op in cc))) }
    where
      of : {o : ℕ} {y : Rank} {i : Bool} {f : Start} {n : Tree} {s0 e : S} {P : List Pair} {q : Rank} {j : Bool} {m : Tree} {mid m0 : S} {Q : List Pair} {t : Token} → height n ≤ suc h → Begun S Next behind det o s0 y i f n e P q j m mid Q → ReadBy S Next behind Goal.RegExp s0 t m0 → expression_start t ≡ with_name →
          Cored S Next behind det o q j f m s0 mid Q with_name → IsTrue (takes q Primary) → Climbed S Next behind det o y i f s0 m mid Q
      of {m = m} {mid = mid} {m0 = m0} {t = t} low b r op (in_way {k = k0} {w = w} {g = g} {st = st} {en = en} {ps = ps} whole (head_identifier k c v) lean pl d) tk =
          let bares : is_lean (bare (node k0 w g st en ps)) ≡ true = ap (λ v. is_lean (bare v)) (sym whole) ∙ lean in
          let a = run_token S Next behind (retell S Next behind v d) in
          let here = (by_name S Next behind det r a.sign a.mid a.reads).0 in
          let text : w ≡ t.text = sym a.reads.text ∙ ap (λ (t : Token). t.text) here in
          let class : t.class ≡ IdentifierName = sym (ap (λ (t : Token). t.class) here) ∙ a.reads.class in
          let leaf = leaf_same S Next behind det whole k (lean_flags (bare (node k0 w g st en ps)) bares ∙ ap (λ v. used_flags v g) k) pl (retell S Next behind v d) (by_name S Next behind det r) in
          let tree : m ≡ node Identifier t.text plain t.start (behind m0).stop none = leaf.1 ∙ ap (λ v. node Identifier v plain t.start (behind m0).stop none) text in
          climbed_as S Next behind det leaf.0 tree leaf.2 (climb_identifier S Next behind det r (b.reached.taken Primary tk) class (ap is_reserved (sym text) ∙ c)
          (λ tk' v k eq line. arrow_follows S Next behind det b tk' (ap edge tree) (subst (λ c. Reads S Next behind Punctuator (codes "=>") c v k) (sym leaf.0) eq) line) (no_async_name S Next behind det alike u low b r leaf.0 (ap edge tree)))
      of {q = q} {j = j} {t = t} low b r op (in_way whole (head_async k st v) lean pl d) tk =
          let a = run_token S Next behind (retell S Next behind v d) in
          let here = (by_name S Next behind det r a.sign a.mid a.reads).0 in
          let class : t.class ≡ IdentifierName = sym (ap (λ (t : Token). t.class) here) ∙ a.reads.class in
          let word : t.text ≡ codes "async" = sym (ap (λ (t : Token). t.text) here) ∙ a.reads.text in
          async_climbed S Next behind det alike u parameters r class word op low b (part_of S Next behind det r class word q j _ whole lean pl tk k st (retell S Next behind v d))
      of {o} {y} {i} {f} {n} {s0} {e} {P} {q} {j} {m} {mid} {m0} {Q} {t} low b r op (in_way {k = k0} {w = w} {g = g} {st = st} {en = en} {ps = ps} whole (head_short_arrow k formed p nm tk' v) lean pl d) tk =
          let bares : is_lean (bare (node k0 w g st en ps)) ≡ true = ap (λ v. is_lean (bare v)) (sym whole) ∙ lean in
          let a = run_part S Next behind (retell S Next behind v d) in
          let first = name_form S Next behind det a.spelled in
          let here = by_name S Next behind det r first.0.sign a.mid first.0.reads in
          let class : t.class ≡ IdentifierName = sym (ap (λ (t : Token). t.class) here.0) ∙ first.0.reads.class in
          let name_text : first.0.text ≡ t.text = sym first.0.reads.text ∙ ap (λ (t : Token). t.text) here.0 in
          let free : is_reserved t.text ≡ false = ap is_reserved (sym name_text) ∙ first.1 in
          let name_tree : a.item ≡ node Identifier t.text plain t.start (behind m0).stop none = first.0.tree ∙ same_node refl name_text refl (ap (λ (t : Token). t.start) here.0) (ap (λ c. (behind c).stop) here.1) refl in
          let on_line = run_unbroken S Next behind a.runs in
          let sign = run_token S Next behind (run_laid S Next behind on_line.runs) in
          let eq : Reads S Next behind Punctuator (codes "=>") m0 sign.sign sign.mid = subst (λ c. Reads S Next behind Punctuator (codes "=>") c sign.sign sign.mid) here.1 sign.reads in
          let line : sign.sign.after_break ≡ false = det.break a.mid sign.sign on_line.sign sign.mid on_line.mid sign.reads.next on_line.next ∙ on_line.unbroken in
          let flags : g ≡ arrow_flags g.expression = lean_flags (bare (node k0 w g st en ps)) bares ∙ ap (λ v. used_flags v g) k ∙ ap (λ (x : Form). record (arrow_flags g.expression) { form = x }) formed in
          let text : w ≡ [] = lean_text (bare (node k0 w g st en ps)) bares (ap has_text k) in
          let z = body_part g.expression (run_laid S Next behind sign.runs) in
          let parts : ps ≡ part (node Identifier t.text plain t.start (behind m0).stop none) (part z.operand none) = a.parts ∙ ap (λ c. part c a.rest) name_tree ∙ ap (part (node Identifier t.text plain t.start (behind m0).stop none)) z.parts in
          let pairs : a.more ≡ Q = sym (a.pairs ∙ ap (λ c. c ++ a.more) first.0.pairs) in
          let tree : m ≡ node ArrowFunctionExpression [] (arrow_flags g.expression) st en (part (node Identifier t.text plain t.start (behind m0).stop none) (part z.operand none)) = whole ∙ same_node k text flags refl refl parts in
          let inside : j ≡ i = (b.reached.same_in (loose_of q Assignment tk' refl)).1 in
          let spelled : Spells ways S Next behind o (cond g.expression (expr Assignment i NoBrace) body) z.operand sign.mid mid Q =
          subst (λ c. Spells ways S Next behind o (cond g.expression (expr Assignment c NoBrace) body) z.operand sign.mid mid Q) inside (subst (λ c. Spells ways S Next behind o (cond g.expression (expr Assignment j NoBrace) body) z.operand sign.mid mid c) pairs z.spelled) in
          let high : height m ≡ height (node ArrowFunctionExpression [] (arrow_flags g.expression) st en (part (node Identifier t.text plain t.start (behind m0).stop none) (part z.operand none))) = ap height tree in
          let below = grows_height S Next behind det b.grows in
          let stopped : g.expression ≡ true → Stops S Next behind Assignment i z.operand mid = λ c. subst (λ k. Stops S Next behind Assignment k z.operand mid) inside
          (begun_stops S Next behind det Assignment Assignment j z.operand tails_assign (λ l. omega arith) tk' (λ k. refl) (ap (λ v. edge_as_written (edge v) (behind mid)) tree ∙ arrow_edge mid (node Identifier t.text plain t.start (behind m0).stop none) z.operand st en g.expression c) b) in
          record {
            symbol = Assignment;
            climbing = subst (λ c. Climbing S Next behind det o y i f Assignment s0 c mid Q) (sym tree)
                (climb_arrow S Next behind det y i f s0 m0 sign.mid t sign.sign r (b.reached.taken Assignment tk') class free eq line (arrow_body g.expression (omega arith) spelled stopped) (replaced S Next behind det (subst (λ c. Placed S Next behind (expr q j f) c s0 mid) tree pl)));
          }
        where
          arrow_edge : (mid : S) (t l : Tree) (st en : ℕ) (c : Bool) → c ≡ true → edge_as_written (edge (node ArrowFunctionExpression [] (arrow_flags c) st en (part t (part l none)))) (behind mid) ≡ edge_as_written (edge l) (behind mid)
          arrow_edge mid t l st en true e = refl
          arrow_edge mid t l st en false e = cc

          body_part : {s e : S} {ps : Parts} {P : List Pair} (b : Bool) → Runs ways S Next behind o (goes_to q j f (cond b (sub (tail Assignment NoBrace)) (put body) ∷ [])) ps s e P → OnePart S Next behind det o (cond b (expr Assignment j NoBrace) body) ps s e P
          body_part true d = one_part S Next behind det d
          body_part false d = one_part S Next behind det d
