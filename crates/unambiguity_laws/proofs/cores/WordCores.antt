-- Leftmost parts that their first word tells: `this`, functions, classes, literals; and that there is none without an opening.
use Rattle.std.proofs.Common.{◌≡◌, ℕ, suc, ◌≤◌, Bool, true, false, cond, List, [], ◌∷◌, refl, sym, ap, ◌∙◌, subst}
use Rattle.std.specs.Prelude.{IsTrue, codes, not, ◌&&◌}
use Rattle.std.proofs.lemmas.Bool.{false≢true}
use Rattle.tokens.specs.declared.token.TokenClass.{TokenClass}
use Rattle.tokens.specs.declared.token.TokenClass.TheVariants.{IdentifierName, NumericLiteral, StringLiteral}
use Rattle.tokens.specs.declared.token.Goal.{Goal}
use Rattle.tokens.specs.declared.token.Goal.TheVariants.{Div}
use Rattle.tokens.specs.Goals.{allows}
use Rattle.tokens.specs.Alphabet.{one_of, begins_with}
use Rattle.tree.specs.declared.kind.Kind.{Kind}
use Rattle.tree.specs.declared.kind.Kind.TheVariants.{Literal, ThisExpression}
use Rattle.tree.specs.declared.kind.Flags.{Flags}
use Rattle.tree.specs.declared.kind.Pair.{Pair}
use Rattle.tree.specs.Tree.{Tree, node, Parts, none, height, bare, bare_parts, plain}
use Rattle.tree.specs.Uses.{is_lean, used_flags}
use Rattle.tree.proofs.Lean.{lean_flags}
use Rattle.language.specs.declared.Rank.{Rank}
use Rattle.language.specs.declared.Rank.TheVariants.{Primary}
use Rattle.language.specs.declared.Start.{Start}
use Rattle.language.specs.declared.Start.TheVariants.{Any, NoBrace, Statement}
use Rattle.language.specs.Vocabulary.{is_name, among, takes, literal_class}
use Rattle.language.specs.Pieces.{Role, expr, PieceOf, tok, at}
use Rattle.language.specs.Token.{Token}
use Rattle.language.specs.ExpressionStart.{ExpressionStart, with_literal, with_this, with_function, with_class, no_start, expression_start}
use Rattle.language.specs.Promises.{is_free, IsDetermined, ReadBy}
use Rattle.language.specs.Following.{IsAlike}
use Rattle.language.specs.Grammar.{ways, starts}
use Rattle.language.specs.Derivation.{Reads, Runs, Placed, placed}
use Rattle.tree.specs.declared.kind.Form.TheVariants.{Init}
use Rattle.language.proofs.table.NodeForms.{this}
use Rattle.language.proofs.table.Productions.{spell}
use Rattle.language.proofs.table.Begins.{retell}
use Rattle.language.proofs.table.TokenFirstWays.{Headed, head_this, head_literal, head_function, head_class, either_class}
use Rattle.language.proofs.climbing.LeftmostParts.{Cored, in_way, core_by}
use Rattle.language.proofs.list_loops.FirstPieces.{run_none, run_token}
use Rattle.language.proofs.climbing.BinaryTurns.{same_node}
use Rattle.language.proofs.climbing.OperatorLoop.{Climbing}
use Rattle.language.proofs.climbing.FirstTurn.{Begun}
use Rattle.language.proofs.climbing.Leaves.{core_primary, climb_literal}
use Rattle.language.proofs.climbing.SingleStarts.{Production, one_form, function_production, class_production}
use Rattle.language.proofs.list_loops.ParameterLists.{parameter_list}
use Rattle.unambiguity_laws.proofs.Unique.{Unique, UniqueParts, CoreStep, Climbed}
use Rattle.unambiguity_laws.proofs.list_items.PieceRuns.{nothing_unique, token_unique}
use Rattle.unambiguity_laws.proofs.cores.CoreNodes.{production_climbed}
use Rattle.unambiguity_laws.proofs.statements.FunctionBodies.{class_unique}
use Rattle.unambiguity_laws.proofs.statements.FunctionForms.{function_found}

starts_this : (f : Start) → starts f (tok IdentifierName (codes "this") ∷ []) ≡ true
starts_this Any = refl
starts_this NoBrace = refl
starts_this Statement = refl

module _ (S : Type 0) (Next : S → Token → S → Type 0) (behind : S → Token) (det : IsDetermined S Next behind) where
  this_production : (f : Start) (s0 : S) → Production S Next behind det with_this ThisExpression Primary f s0 (λ g. Init) (λ x ps. tok IdentifierName (codes "this") ∷ [])
  this_production f s0 = record {
    no_text = refl;
    no_flags = λ g. refl;
    no_group = λ e. cc;
    is_way = λ o h j k w g ps qs mid Q headed d tk. of h j ps headed tk;
    spells = λ o h j st en g ps e P tk pl d. spell S Next behind (at Primary (tok IdentifierName (codes "this") ∷ [])) this refl tk refl (starts_this f) pl d;
  }
    where
      of : (h : Rank) (j : Bool) {k : Kind} {w : List ℕ} {g : Flags} (ps : Parts) {qs : List (PieceOf Role)} → Headed h j f k w g (bare_parts ps) qs with_this → IsTrue (takes h Primary) → (k ≡ ThisExpression) × IsTrue (takes h Primary) × (qs ≡ tok IdentifierName (codes "this") ∷ [])
      of h j ps (head_this k q) tk = (k, tk, q)

  -- by the goal for operands, what a literal's text is read as
  literal_allowed : {s m : S} {t : Token} (w : List ℕ) → (is_name (literal_class w) && not (among w ("true" ∷ "false" ∷ "null" ∷ []))) ≡ false → Reads S Next behind (literal_class w) w s t m → IsTrue (allows Goal.RegExp t.class t.text)
  literal_allowed {s} {m} {t} w h d = go _ _ _ h d
    where
      go : (a b c : Bool) → (is_name (cond a StringLiteral (cond b TokenClass.RegularExpressionLiteral (cond c NumericLiteral IdentifierName))) && not (among w ("true" ∷ "false" ∷ "null" ∷ []))) ≡ false →
          Reads S Next behind (cond a StringLiteral (cond b TokenClass.RegularExpressionLiteral (cond c NumericLiteral IdentifierName))) w s t m → IsTrue (allows Goal.RegExp t.class t.text)
      go true b c h d = det.free Goal.RegExp s t m d.next (ap is_free d.class)
      go false true c h d = subst (λ v. IsTrue (allows Goal.RegExp v t.text)) (sym d.class) (either_class (begins_with (one_of "/") t.text) (begins_with (one_of "}") t.text))
      go false false true h d = det.free Goal.RegExp s t m d.next (ap is_free d.class)
      go false false false h d = det.free Goal.RegExp s t m d.next (ap is_free d.class)

  -- a leftmost part of one token is the node of the token that is read
  pub leaf_same : {o : ℕ} {q : Rank} {j : Bool} {f : Start} {k K : Kind} {c : TokenClass} {v w : List ℕ} {g : Flags} {st en : ℕ} {ps : Parts} {m : Tree} {s x mid : S} {Q : List Pair} {t : Token} → m ≡ node k w g st en ps → k ≡ K → g ≡ plain →
      Placed S Next behind (expr q j f) m s mid → Runs ways S Next behind o (tok c v ∷ []) ps s mid Q → ((t1 : Token) (m1 : S) → Reads S Next behind c v s t1 m1 → (t1 ≡ t) × (m1 ≡ x)) →
      (mid ≡ x) × (m ≡ node K w plain t.start (behind x).stop none) × (Q ≡ [])
  leaf_same {q = q} {j = j} {f = f} {k = k} {K = K} {w = w} {g = g} {st = st} {en = en} {ps = ps} {m = m} {s = s} {x = x} {mid = mid} {Q = Q} {t = t} is kind flags pl d same = of (subst (λ c. Placed S Next behind (expr q j f) c s mid) is pl)
    where
      of : Placed S Next behind (expr q j f) (node k w g st en ps) s mid → (mid ≡ x) × (m ≡ node K w plain t.start (behind x).stop none) × (Q ≡ [])
      of (placed {t = t0} {m = m0} nx p) =
          let v = run_token S Next behind d in
          let z = run_none S Next behind v.runs in
          let u = same v.sign v.mid v.reads in
          let there : mid ≡ x = sym z.place ∙ u.1 in
          (there, is ∙ same_node kind refl flags (sym (ap (λ (x : ℕ × ℕ). x.0) p) ∙ det.start s t0 v.sign m0 v.mid nx v.reads.next ∙ ap (λ (t : Token). t.start) u.0) (sym (ap (λ (x : ℕ × ℕ). x.1) p) ∙ ap (λ x. (behind x).stop) there) z.parts, z.pairs)

  -- the loop begins with what is equal to that with which it begins
  pub climbed_as : {o : ℕ} {y : Rank} {i : Bool} {f : Start} {c : Rank} {s0 mid mid' : S} {m m' : Tree} {Q Q' : List Pair} → mid ≡ mid' → m ≡ m' → Q ≡ Q' → Climbing S Next behind det o y i f c s0 m' mid' Q' → Climbed S Next behind det o y i f s0 m mid Q
  climbed_as {o} {y} {i} {f} {c} {s0} {mid} {mid'} {m} {m'} {Q} {Q'} p q r d = record {
    symbol = c;
    climbing = subst (λ v. Climbing S Next behind det o y i f c s0 m mid v) (sym r) (subst (λ v. Climbing S Next behind det o y i f c s0 m v Q') (sym p) (subst (λ v. Climbing S Next behind det o y i f c s0 v mid' Q') (sym q) d));
  }

module _ (S : Type 0) (Next : S → Token → S → Type 0) (behind : S → Token) (det : IsDetermined S Next behind) (alike : IsAlike S Next behind) {h : ℕ} (u : Unique S Next behind det h) where
  pub no_core : CoreStep S Next behind det h no_start
  no_core = record { gives = λ {o} {y} {i} {f} {n} {s0} {e} {P} {q} {j} {m} {mid} {m0} {Q} {t} no_new inner low b r op. of (core_by S Next behind det r op b.core) }
    where
      none_headed : {A : Type 0} {q : Rank} {j : Bool} {f : Start} {k : Kind} {w : List ℕ} {g : Flags} {ps : Parts} {qs : List (PieceOf Role)} → Headed q j f k w g ps qs no_start → A
      none_headed v = elim v [ ]

      of : {A : Type 0} {o : ℕ} {q : Rank} {j : Bool} {f : Start} {m : Tree} {s0 mid : S} {Q : List Pair} → Cored S Next behind det o q j f m s0 mid Q no_start → A
      of (in_way is v lean pl d) = none_headed v

  pub this_core : CoreStep S Next behind det h with_this
  this_core = record { gives = λ {o} {y} {i} {f} no_new inner low b r op. production_climbed S Next behind det (this_production S Next behind det f _) r op (λ o g ps e P low d. one_form S Next behind det ((token_unique S Next behind det Div refl (nothing_unique S Next behind det)).gives low d)) low b }

  pub class_core : CoreStep S Next behind det h with_class
  class_core = record { gives = λ {o} {y} {i} {f} {n} {s0} {e} {P} {q} {j} {m} {mid} {m0} {Q} {t} no_new inner low b r op. of low b r op (core_by S Next behind det r op b.core) }
    where
      of : {o : ℕ} {y : Rank} {i : Bool} {f : Start} {n : Tree} {s0 e : S} {P : List Pair} {q : Rank} {j : Bool} {m : Tree} {mid m0 : S} {Q : List Pair} {t : Token} → height n ≤ suc h → Begun S Next behind det o s0 y i f n e P q j m mid Q → ReadBy S Next behind Goal.RegExp s0 t m0 → expression_start t ≡ with_class →
          Cored S Next behind det o q j f m s0 mid Q with_class → Climbed S Next behind det o y i f s0 m mid Q
      of {f = f} low b r op (in_way is (head_class k begins v) lean pl d) = production_climbed S Next behind det (class_production S Next behind det f _ begins) r op (λ o g ps e P low d. one_form S Next behind det ((token_unique S Next behind det Div refl (class_unique S Next behind det alike u)).gives low d)) low b

  pub function_core : UniqueParts S Next behind det h parameter_list → CoreStep S Next behind det h with_function
  function_core parameters = record { gives = λ {o} {y} {i} {f} {n} {s0} {e} {P} {q} {j} {m} {mid} {m0} {Q} {t} no_new inner low b r op. of low b r op (core_by S Next behind det r op b.core) }
    where
      of : {o : ℕ} {y : Rank} {i : Bool} {f : Start} {n : Tree} {s0 e : S} {P : List Pair} {q : Rank} {j : Bool} {m : Tree} {mid m0 : S} {Q : List Pair} {t : Token} → height n ≤ suc h → Begun S Next behind det o s0 y i f n e P q j m mid Q → ReadBy S Next behind Goal.RegExp s0 t m0 → expression_start t ≡ with_function →
          Cored S Next behind det o q j f m s0 mid Q with_function → Climbed S Next behind det o y i f s0 m mid Q
      of {f = f} low b r op (in_way is (head_function k plainly begins v) lean pl d) = production_climbed S Next behind det (function_production S Next behind det f _ begins) r op (λ o g ps e P low d. function_found S Next behind det alike u parameters o g ps e P low d) low b

  pub literal_core : CoreStep S Next behind det h with_literal
  literal_core = record { gives = λ {o} {y} {i} {f} {n} {s0} {e} {P} {q} {j} {m} {mid} {m0} {Q} {t} no_new inner low b r op. of b r op (core_by S Next behind det r op b.core) (core_primary S Next behind det b.core r (λ c. (let z = sym c ∙ op in cc))) }
    where
      of : {o : ℕ} {y : Rank} {i : Bool} {f : Start} {n : Tree} {s0 e : S} {P : List Pair} {q : Rank} {j : Bool} {m : Tree} {mid m0 : S} {Q : List Pair} {t : Token} → Begun S Next behind det o s0 y i f n e P q j m mid Q → ReadBy S Next behind Goal.RegExp s0 t m0 → expression_start t ≡ with_literal →
          Cored S Next behind det o q j f m s0 mid Q with_literal → IsTrue (takes q Primary) → Climbed S Next behind det o y i f s0 m mid Q
      of {s0 = s0} {m = m} {m0 = m0} {t = t} b r op (in_way {w = w} {g = g} {st = st} {en = en} {ps = ps} is (head_literal k c v) lean pl d) tk =
          let bares : is_lean (bare (node _ w g st en ps)) ≡ true = ap (λ v. is_lean (bare v)) (sym is) ∙ lean in
          let same : (t1 : Token) (m1 : S) → Reads S Next behind (literal_class w) w s0 t1 m1 → (t1 ≡ t) × (m1 ≡ m0) = λ t1 m1 b. det.same Goal.RegExp s0 t1 t m1 m0 b.next r.next (literal_allowed S Next behind det w c b) r.allowed in
          let a = run_token S Next behind (retell S Next behind v d) in
          let here = (same a.sign a.mid a.reads).0 in
          let text : w ≡ t.text = sym a.reads.text ∙ ap (λ (t : Token). t.text) here in
          let class : t.class ≡ literal_class t.text = sym (ap (λ (t : Token). t.class) here) ∙ a.reads.class ∙ ap literal_class text in
          let leaf = leaf_same S Next behind det is k (lean_flags (bare (node _ w g st en ps)) bares ∙ ap (λ v. used_flags v g) k) pl (retell S Next behind v d) same in
          let tree : m ≡ node Literal t.text plain t.start (behind m0).stop none = leaf.1 ∙ ap (λ v. node Literal v plain t.start (behind m0).stop none) text in
          climbed_as S Next behind det leaf.0 tree leaf.2 (climb_literal S Next behind det r (b.reached.taken Primary tk) class (ap (λ v. is_name (literal_class v) && not (among v ("true" ∷ "false" ∷ "null" ∷ []))) (sym text) ∙ c) op)

  -- what needs no lists of its own
  abbrev pub is_lone : ExpressionStart → Bool
  is_lone with_literal = true
  is_lone with_this = true
  is_lone with_class = true
  is_lone no_start = true
  is_lone _ = false

  pub lone_core : (z : ExpressionStart) → is_lone z ≡ true → CoreStep S Next behind det h z
  lone_core with_literal l = literal_core
  lone_core with_this l = this_core
  lone_core with_class l = class_core
  lone_core no_start l = no_core
  lone_core _ l = absurd (false≢true l)
