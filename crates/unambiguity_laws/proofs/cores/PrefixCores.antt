-- Leftmost parts that begin with an operator: a unary one, `++` or `--`.
use Rattle.tokens.specs.declared.token.TokenClass.{TokenClass}
use Rattle.std.proofs.Common.{◌≡◌, ℕ, suc, ◌≤◌, max, Bool, true, false, cond, List, [], ◌∷◌, ◌++◌, refl, sym, ap, ◌∙◌, subst, arith}
use Rattle.std.specs.Prelude.{IsTrue}
use Rattle.tokens.specs.declared.token.TokenClass.TheVariants.{IdentifierName, Punctuator}
use Rattle.tokens.specs.declared.token.Goal.{Goal}
use Rattle.tokens.specs.Goals.{allows}
use Rattle.tree.specs.declared.kind.Kind.{Kind}
use Rattle.tree.specs.declared.kind.Kind.TheVariants.{Identifier, MemberExpression}
use Rattle.tree.specs.declared.kind.Flags.{Flags}
use Rattle.tree.specs.declared.kind.Pair.{Pair}
use Rattle.tree.specs.Tree.{Tree, node, Parts, none, part, height, bare, bare_parts, kind_of, plain}
use Rattle.tree.specs.Uses.{is_lean, used_flags, has_text}
use Rattle.tree.proofs.Lean.{lean_flags, lean_text}
use Rattle.language.specs.declared.Rank.{Rank}
use Rattle.language.specs.declared.Rank.TheVariants.{Conditional, Unary, New, Relational}
use Rattle.language.specs.declared.Start.{Start}
use Rattle.language.specs.declared.Start.TheVariants.{Any}
use Rattle.language.specs.declared.Edge.TheVariants.{Other}
use Rattle.language.specs.FirstPart.{lead as lead_kind}
use Rattle.language.specs.Vocabulary.{is, takes, precedence, is_prefix, is_word_operator, is_target, operator_of}
use Rattle.language.specs.Pieces.{expr, Piece, lay, apart, put}
use Rattle.language.specs.Token.{Token}
use Rattle.language.specs.Edges.{edge, edge_as_written}
use Rattle.language.specs.ExpressionStart.{ExpressionStart, with_word, with_sign, with_step}
use Rattle.language.specs.Promises.{IsDetermined, ReadBy, Stops}
use Rattle.language.specs.Following.{IsAlike}
use Rattle.language.specs.Grammar.{ways}
use Rattle.language.specs.Derivation.{Reads, Spells, Runs, Placed}
use Rattle.language.proofs.table.Begins.{AllLaid, no_piece, one_laid, goes_to, retell}
use Rattle.language.proofs.table.TokenFirstWays.{unary_space, head_await, head_word, head_sign, head_step, prefix_sign_opens, step_opens}
use Rattle.language.proofs.climbing.LeftmostParts.{Cored, in_way, core_by}
use Rattle.language.proofs.climbing.RightOperands.{OnePart, one_part}
use Rattle.language.proofs.list_loops.FirstPieces.{run_token, run_laid}
use Rattle.language.proofs.climbing.OperatorNodes.{kind_bare}
use Rattle.language.proofs.table.Tails.{Tails, tails_unary, tails_step}
use Rattle.language.proofs.climbing.OperatorLoop.{Climbing, grows_height}
use Rattle.language.proofs.climbing.BinaryTurns.{same_node, replaced}
use Rattle.language.proofs.climbing.FirstTurn.{Begun, begun_stops}
use Rattle.language.proofs.climbing.Leaves.{by_class, by_name}
use Rattle.language.proofs.climbing.Prefixes.{Prefixed, prefix_text, by_await, by_word, by_sign, by_step, Steps, climb_prefix}
use Rattle.unambiguity_laws.proofs.Unique.{Unique, CoreStep, Climbed}

-- the symbols of a prefix and its operand
tails_of : {t : Token} {x : ExpressionStart} {K : Kind} {z a : Rank} {G : Flags} → Prefixed t x K z a G → Tails z a
tails_of (by_await c h) = tails_unary
tails_of (by_word c h v) = tails_unary
tails_of (by_sign c h v) = tails_unary
tails_of (by_step c h) = tails_step

no_conditional : {t : Token} {x : ExpressionStart} {K : Kind} {z a : Rank} {G : Flags} → Prefixed t x K z a G → precedence z ≡ 2 → ⊥
no_conditional (by_await c h) e = omega arith
no_conditional (by_word c h v) e = omega arith
no_conditional (by_sign c h v) e = omega arith
no_conditional (by_step c h) e = omega arith

no_relation : {t : Token} {x : ExpressionStart} {K : Kind} {z a : Rank} {G : Flags} {j : Bool} → Prefixed t x K z a G → takes a Relational ≡ true → true ≡ j
no_relation (by_await c h) e = cc
no_relation (by_word c h v) e = cc
no_relation (by_sign c h v) e = cc
no_relation (by_step c h) e = cc

operand_symbol : {t : Token} {x : ExpressionStart} {K : Kind} {z a : Rank} {G : Flags} → Prefixed t x K z a G → (a ≡ Conditional → ⊥) × (a ≡ New → ⊥)
operand_symbol (by_await c h) = (λ e. cc, λ e. cc)
operand_symbol (by_word c h v) = (λ e. cc, λ e. cc)
operand_symbol (by_sign c h v) = (λ e. cc, λ e. cc)
operand_symbol (by_step c h) = (λ e. cc, λ e. cc)

target_edge : (u : Tree) → is_target (kind_of u) ≡ true → edge u ≡ Other
target_edge (node Identifier w g st en ps) h = refl
target_edge (node MemberExpression w g st en ps) h = refl
target_edge (node k0 w g st en ps) h = cc

prefix_edge : {t : Token} {x : ExpressionStart} {K : Kind} {z a : Rank} {G : Flags} (w : List ℕ) (st en : ℕ) (v : Tree) → Prefixed t x K z a G → Steps a v → edge (node K w G st en (part v none)) ≡ edge v
prefix_edge w st en v (by_await c h) s = refl
prefix_edge w st en v (by_word c h k) s = refl
prefix_edge w st en v (by_sign c h k) s = refl
prefix_edge w st en v (by_step c h) s = sym (target_edge v s)

unary_laid : (w : List ℕ) → AllLaid (unary_space w)
unary_laid w = of (is w "+") (is w "-")
  where
    of : (b c : Bool) → AllLaid (cond b (lay (apart 43) ∷ []) (cond c (lay (apart 45) ∷ []) []))
    of true c = one_laid
    of false true = one_laid
    of false false = no_piece

module _ (S : Type 0) (Next : S → Token → S → Type 0) (behind : S → Token) (det : IsDetermined S Next behind) where
  strip : {o : ℕ} (y : Rank) (j : Bool) (f : Start) {qs : List Piece} (rs : List Piece) {ps : Parts} {s e : S} {P : List Pair} → AllLaid qs → Runs ways S Next behind o (goes_to y j f (qs ++ rs)) ps s e P → Runs ways S Next behind o (goes_to y j f rs) ps s e P
  strip y j f rs no_piece d = d
  strip y j f rs one_laid d = run_laid S Next behind d

  by_mark : {s0 x : S} {t : Token} {w : List ℕ} → ReadBy S Next behind Goal.RegExp s0 t x → IsTrue (allows Goal.RegExp Punctuator w) → (t1 : Token) (m1 : S) → Reads S Next behind Punctuator w s0 t1 m1 → (t1 ≡ t) × (m1 ≡ x)
  by_mark {s0} {x} {t} {w} r al t1 m1 h =
      let al' : IsTrue (allows Goal.RegExp t1.class t1.text) = subst (λ v. IsTrue (allows Goal.RegExp v t1.text)) (sym h.class) (subst (λ v. IsTrue (allows Goal.RegExp Punctuator v)) (sym h.text) al) in
      det.same Goal.RegExp s0 t1 t m1 x h.next r.next al' r.allowed

module _ (S : Type 0) (Next : S → Token → S → Type 0) (behind : S → Token) (det : IsDetermined S Next behind) (alike : IsAlike S Next behind) {h : ℕ} (u : Unique S Next behind det h) where
  -- the node of the token that is read, with the operand that is the only one
  prefixed : {o : ℕ} {y : Rank} {i : Bool} {f : Start} {n : Tree} {s0 e : S} {P : List Pair} {q : Rank} {j : Bool} {m : Tree} {mid x m1 : S} {Q : List Pair} {t t1 : Token} {a : ExpressionStart} {k K : Kind} {z b : Rank} {w : List ℕ} {g G : Flags} {st en : ℕ} {ps : Parts} → Prefixed t a K z b G → height n ≤ suc h →
      Begun S Next behind det o s0 y i f n e P q j m mid Q → ReadBy S Next behind Goal.RegExp s0 t x → m ≡ node k w g st en ps → k ≡ K → w ≡ prefix_text K t.text → (t1 ≡ t) × (m1 ≡ x) → g ≡ G → IsTrue (takes q z) →
      (v : OnePart S Next behind det o (expr b true Any) ps m1 mid Q) → Steps b v.operand → Placed S Next behind (expr q j f) m s0 mid → Climbed S Next behind det o y i f s0 m mid Q
  prefixed {o} {y} {i} {f} {n} {s0} {e} {P} {q} {j} {m} {mid} {x} {m1} {Q} {t} {t1} {a} {k} {K} {z} {b} {w} {g} {G} {st} {en} {ps} p low begun r is kind text same flags tk v target pl =
      let tree : m ≡ node K (prefix_text K t.text) G st en (part v.operand none) = is ∙ same_node kind text flags refl refl v.parts in
      let spelled = subst (λ c. Spells ways S Next behind o (expr b true Any) v.operand c mid Q) same.1 v.spelled in
      let stops : Stops S Next behind b true v.operand mid = begun_stops S Next behind det z b true v.operand (tails_of p) (no_conditional p) tk (no_relation p) (ap (λ c. edge_as_written (edge c) (behind mid)) tree ∙ ap (λ c. edge_as_written c (behind mid)) (prefix_edge (prefix_text K t.text) st en v.operand p target)) begun in
      let high : height m ≡ suc (max (height v.operand) 0) = ap height tree in
      let below = grows_height S Next behind det begun.grows in
      let found = u.expressions.found (omega arith) (operand_symbol p).0 (operand_symbol p).1 spelled stops in
      record {
        symbol = z;
        climbing = subst (λ c. Climbing S Next behind det o y i f z s0 c mid Q) (sym tree)
            (climb_prefix S Next behind det p r (begun.reached.taken z tk) target found (replaced S Next behind det (subst (λ c. Placed S Next behind (expr q j f) c s0 mid) tree pl)));
      }

  -- `delete`, `void` or `typeof`
  pub word_core : CoreStep S Next behind det h with_word
  word_core = record { gives = λ {o} {y} {i} {f} {n} {s0} {e} {P} {q} {j} {m} {mid} {m0} {Q} {t} no_new inner low b r op. of low b r (core_by S Next behind det r op b.core) }
    where
      of : {o : ℕ} {y : Rank} {i : Bool} {f : Start} {n : Tree} {s0 e : S} {P : List Pair} {q : Rank} {j : Bool} {m : Tree} {mid m0 : S} {Q : List Pair} {t : Token} → height n ≤ suc h → Begun S Next behind det o s0 y i f n e P q j m mid Q → ReadBy S Next behind Goal.RegExp s0 t m0 →
          Cored S Next behind det o q j f m s0 mid Q with_word → Climbed S Next behind det o y i f s0 m mid Q
      of {t = t} low b r (in_way {k = k0} {w = w} {g = g} {st = st} {en = en} {ps = ps} is (head_await k tk d1) lean pl d) =
          let bares : is_lean (bare (node k0 w g st en ps)) ≡ true = ap (λ c. is_lean (bare c)) (sym is) ∙ lean in
          let a = run_token S Next behind (retell S Next behind d1 d) in
          let same = by_class S Next behind det refl r a.sign a.mid a.reads in
          let class : t.class ≡ TokenClass.Keyword = sym (ap (λ (t : Token). t.class) same.0) ∙ a.reads.class in
          prefixed (by_await class (sym (ap (λ (t : Token). t.text) same.0) ∙ a.reads.text)) low b r is k (lean_text (bare (node k0 w g st en ps)) bares (ap has_text k)) same (lean_flags (bare (node k0 w g st en ps)) bares ∙ ap (λ c. used_flags c g) k) tk
          (one_part S Next behind det (run_laid S Next behind a.runs)) tt pl
      of {t = t} low b r (in_way {k = k0} {w = w} {g = g} {st = st} {en = en} {ps = ps} is (head_word k p v tk d1) lean pl d) =
          let bares : is_lean (bare (node k0 w g st en ps)) ≡ true = ap (λ c. is_lean (bare c)) (sym is) ∙ lean in
          let a = run_token S Next behind (retell S Next behind d1 d) in
          let same = by_name S Next behind det r a.sign a.mid a.reads in
          let text : w ≡ t.text = sym a.reads.text ∙ ap (λ (t : Token). t.text) same.0 in
          let class : t.class ≡ IdentifierName = sym (ap (λ (t : Token). t.class) same.0) ∙ a.reads.class in
          prefixed (by_word class (subst (λ c. is_prefix c ≡ true) text p) (subst (λ c. is_word_operator c ≡ true) text v)) low b r is k text same (lean_flags (bare (node k0 w g st en ps)) bares ∙ ap (λ c. used_flags c g) k) tk
          (one_part S Next behind det (run_laid S Next behind a.runs)) tt pl

  -- `+`, `-`, `~` or `!`
  pub sign_core : CoreStep S Next behind det h with_sign
  sign_core = record { gives = λ {o} {y} {i} {f} {n} {s0} {e} {P} {q} {j} {m} {mid} {m0} {Q} {t} no_new inner low b r op. of low b r (core_by S Next behind det r op b.core) }
    where
      of : {o : ℕ} {y : Rank} {i : Bool} {f : Start} {n : Tree} {s0 e : S} {P : List Pair} {q : Rank} {j : Bool} {m : Tree} {mid m0 : S} {Q : List Pair} {t : Token} → height n ≤ suc h → Begun S Next behind det o s0 y i f n e P q j m mid Q → ReadBy S Next behind Goal.RegExp s0 t m0 →
          Cored S Next behind det o q j f m s0 mid Q with_sign → Climbed S Next behind det o y i f s0 m mid Q
      of {f = f} {q = q} {j = j} {t = t} low b r (in_way {k = k0} {w = w} {g = g} {st = st} {en = en} {ps = ps} is (head_sign k p v tk d1) lean pl d) =
          let bares : is_lean (bare (node k0 w g st en ps)) ≡ true = ap (λ c. is_lean (bare c)) (sym is) ∙ lean in
          let a = run_token S Next behind (retell S Next behind d1 d) in
          let same = by_mark S Next behind det r (prefix_sign_opens w p v).1 a.sign a.mid a.reads in
          let text : w ≡ t.text = sym a.reads.text ∙ ap (λ (t : Token). t.text) same.0 in
          let class : t.class ≡ Punctuator = sym (ap (λ (t : Token). t.class) same.0) ∙ a.reads.class in
          prefixed (by_sign class (subst (λ c. is_prefix c ≡ true) text p) (subst (λ c. is_word_operator c ≡ false) text v)) low b r is k text same (lean_flags (bare (node k0 w g st en ps)) bares ∙ ap (λ c. used_flags c g) k) tk
          (one_part S Next behind det (strip S Next behind det q j f (put (expr Unary true Any) ∷ []) (unary_laid w) a.runs)) tt pl

  -- `++` or `--`
  pub step_core : CoreStep S Next behind det h with_step
  step_core = record { gives = λ {o} {y} {i} {f} {n} {s0} {e} {P} {q} {j} {m} {mid} {m0} {Q} {t} no_new inner low b r op. of low b r (core_by S Next behind det r op b.core) }
    where
      of : {o : ℕ} {y : Rank} {i : Bool} {f : Start} {n : Tree} {s0 e : S} {P : List Pair} {q : Rank} {j : Bool} {m : Tree} {mid m0 : S} {Q : List Pair} {t : Token} → height n ≤ suc h → Begun S Next behind det o s0 y i f n e P q j m mid Q → ReadBy S Next behind Goal.RegExp s0 t m0 →
          Cored S Next behind det o q j f m s0 mid Q with_step → Climbed S Next behind det o y i f s0 m mid Q
      of {t = t} low b r (in_way {k = k0} {w = w} {g = g} {st = st} {en = en} {ps = ps} is (head_step k p ta fl tk d1) lean pl d) =
          let bares : is_lean (bare (node k0 w g st en ps)) ≡ true = ap (λ c. is_lean (bare c)) (sym is) ∙ lean in
          let a = run_token S Next behind (retell S Next behind d1 d) in
          let same = by_mark S Next behind det r (step_opens w p).1 a.sign a.mid a.reads in
          let text : w ≡ t.text = sym a.reads.text ∙ ap (λ (t : Token). t.text) same.0 in
          let class : t.class ≡ Punctuator = sym (ap (λ (t : Token). t.class) same.0) ∙ a.reads.class in
          let one = one_part S Next behind det (run_laid S Next behind a.runs) in
          let target : is_target (kind_of one.operand) ≡ true = ap is_target (sym (kind_bare one.operand)) ∙ sym (ap (λ c. is_target (lead_kind (bare_parts c))) one.parts) ∙ ta in
          prefixed (by_step class (ap operator_of (sym text) ∙ p)) low b r is k text same (lean_flags (bare (node k0 w g st en ps)) bares ∙ ap (λ c. used_flags c g) k ∙ (λ c. record plain { prefix = fl c })) tk one target pl
