-- A leftmost part that begins with an operator: a unary one, `++` or `--`.
use Rattle.std.proofs.Common.{◌≡◌, ℕ, Bool, true, false, cond, List, [], ◌∷◌, ◌++◌, refl, sym, ap, ◌∙◌, subst, arith}
use Rattle.std.specs.Prelude.{IsTrue, not, codes}
use Rattle.tokens.specs.declared.token.TokenClass.TheVariants.{IdentifierName, Punctuator}
use Rattle.tokens.specs.declared.token.Goal.{Goal}
use Rattle.tokens.specs.Goals.{allows}
use Rattle.tree.specs.declared.kind.Kind.{Kind}
use Rattle.tree.specs.declared.kind.Kind.TheVariants.{Identifier, MemberExpression, UnaryExpression, UpdateExpression, AwaitExpression}
use Rattle.language.specs.declared.Rank.{Rank}
use Rattle.language.specs.declared.Rank.TheVariants.{Unary, Update, LeftHandSide, Relational}
use Rattle.language.specs.declared.Start.{Start}
use Rattle.language.specs.declared.Start.TheVariants.{Any, NoBrace, Statement}
use Rattle.language.specs.declared.Edge.TheVariants.{Other}
use Rattle.tree.specs.declared.kind.Flags.{Flags}
use Rattle.tree.specs.declared.kind.Pair.{Pair}
use Rattle.tree.specs.Tree.{Tree, node, Parts, none, part, bare, bare_parts, kind_of, plain}
use Rattle.tree.specs.Uses.{is_lean, used_flags, has_text}
use Rattle.tree.proofs.Lean.{lean_flags, lean_text}
use Rattle.language.specs.FirstPart.{lead as lead_kind}
use Rattle.language.specs.Vocabulary.{is, among, takes, precedence, is_prefix, is_word_operator, is_target, op_update, operator_of}
use Rattle.language.specs.Pieces.{expr, Piece, tok, lay, apart, sp, put, at}
use Rattle.language.specs.Token.{Token}
use Rattle.language.specs.Edges.{edge, edge_as_written}
use Rattle.language.specs.ExpressionStart.{ExpressionStart, with_word, with_sign, with_step, expression_start}
use Rattle.language.specs.Promises.{IsDetermined, ReadBy, Stops, Found}
use Rattle.language.specs.Grammar.{ways, starts}
use Rattle.language.specs.Derivation.{Reads, Spells, Runs, step, token, laid, Placed}
use Rattle.language.proofs.table.NodeForms.{prefix, unary_word, unary_sign, await}
use Rattle.language.proofs.table.Productions.{spell}
use Rattle.language.proofs.table.OperatorFacts.{step_texts}
use Rattle.language.proofs.table.Begins.{AllLaid, no_piece, one_laid, among_by, goes_to, retell, starts_plain, function_follows}
use Rattle.language.proofs.table.TokenFirstWays.{head_await, unary_space, head_word, head_sign, head_step, opens, prefix_word_opens, prefix_sign_opens, step_opens, await_opens}
use Rattle.language.proofs.climbing.LeftmostParts.{Cored, in_way, core_by}
use Rattle.language.proofs.climbing.RightOperands.{OnePart, one_part}
use Rattle.language.proofs.list_loops.FirstPieces.{run_token, run_laid}
use Rattle.language.proofs.climbing.OperatorNodes.{kind_bare, last_runs, lay_runs}
use Rattle.language.proofs.table.Tails.{Tails, tails_unary, tails_step}
use Rattle.language.proofs.climbing.OperatorLoop.{Climbing}
use Rattle.language.proofs.climbing.BinaryTurns.{same_node, replaced, same_places}
use Rattle.language.proofs.climbing.FirstTurn.{Begun, climb_start, begun_stops}
use Rattle.language.proofs.climbing.Leaves.{by_name, by_class}
use Rattle.tokens.specs.declared.token.TokenClass.{TokenClass}

abbrev pub prefix_flags : Flags
prefix_flags = record plain { prefix = true }

-- The tokens that begin such a node: what it opens with, the node's kind and symbol, the symbol of its operand, its flags.
pub data Prefixed (t : Token) : ExpressionStart → Kind → Rank → Rank → Flags → Type 0 where
  by_await : t.class ≡ TokenClass.Keyword → t.text ≡ codes "await" → Prefixed t with_word AwaitExpression Unary Unary plain
  by_word : t.class ≡ IdentifierName → is_prefix t.text ≡ true → is_word_operator t.text ≡ true → Prefixed t with_word UnaryExpression Unary Unary plain
  by_sign : t.class ≡ Punctuator → is_prefix t.text ≡ true → is_word_operator t.text ≡ false → Prefixed t with_sign UnaryExpression Unary Unary plain
  by_step : t.class ≡ Punctuator → operator_of t.text ≡ op_update → Prefixed t with_step UpdateExpression Update LeftHandSide prefix_flags

-- what it opens with
opening_is : {t : Token} {x : ExpressionStart} {K : Kind} {z q : Rank} {G : Flags} → Prefixed t x K z q G → expression_start t ≡ x
opening_is {t} (by_await c h) = opens t c h await_opens
opening_is {t} (by_word c h v) = opens t c refl (prefix_word_opens t.text h v)
opening_is {t} (by_sign c h v) = opens t c refl (prefix_sign_opens t.text h v).0
opening_is {t} (by_step c h) = opens t c refl (step_opens t.text h).0

tails_of : {t : Token} {x : ExpressionStart} {K : Kind} {z q : Rank} {G : Flags} → Prefixed t x K z q G → Tails z q
tails_of (by_await c h) = tails_unary
tails_of (by_word c h v) = tails_unary
tails_of (by_sign c h v) = tails_unary
tails_of (by_step c h) = tails_step

no_conditional : {t : Token} {x : ExpressionStart} {K : Kind} {z q : Rank} {G : Flags} → Prefixed t x K z q G → precedence z ≡ 2 → ⊥
no_conditional (by_await c h) e = omega arith
no_conditional (by_word c h v) e = omega arith
no_conditional (by_sign c h v) e = omega arith
no_conditional (by_step c h) e = omega arith

no_relation : {t : Token} {x : ExpressionStart} {K : Kind} {z q : Rank} {G : Flags} {j : Bool} → Prefixed t x K z q G → takes q Relational ≡ true → true ≡ j
no_relation (by_await c h) e = cc
no_relation (by_word c h v) e = cc
no_relation (by_sign c h v) e = cc
no_relation (by_step c h) e = cc

-- what `++` steps is an identifier or a member
abbrev pub Steps : Rank → Tree → Type 0
Steps LeftHandSide u = is_target (kind_of u) ≡ true
Steps _ u = Unit {0}

target_edge : (u : Tree) → is_target (kind_of u) ≡ true → edge u ≡ Other
target_edge (node Identifier w g st en ps) h = refl
target_edge (node MemberExpression w g st en ps) h = refl
target_edge (node k0 w g st en ps) h = cc

prefix_edge : {t : Token} {x : ExpressionStart} {K : Kind} {z q : Rank} {G : Flags} (w : List ℕ) (st en : ℕ) (u : Tree) → Prefixed t x K z q G → Steps q u → edge (node K w G st en (part u none)) ≡ edge u
prefix_edge w st en u (by_await c h) s = refl
prefix_edge w st en u (by_word c h v) s = refl
prefix_edge w st en u (by_sign c h v) s = refl
prefix_edge w st en u (by_step c h) s = sym (target_edge u s)

-- the text of the node, by the text of its token
abbrev pub prefix_text : Kind → List ℕ → List ℕ
prefix_text AwaitExpression w = []
prefix_text _ w = w

unary_laid : (w : List ℕ) → AllLaid (unary_space w)
unary_laid w = of (is w "+") (is w "-")
  where
    of : (b c : Bool) → AllLaid (cond b (lay (apart 43) ∷ []) (cond c (lay (apart 45) ∷ []) []))
    of true c = one_laid
    of false true = one_laid
    of false false = no_piece

starts_keyword : (f : Start) (w : List ℕ) (qs : List Piece) → starts f (tok TokenClass.Keyword w ∷ qs) ≡ true
starts_keyword Any w qs = refl
starts_keyword NoBrace w qs = refl
starts_keyword Statement w qs = refl

unlike : IdentifierName ≡ TokenClass.Keyword → ⊥
unlike e = cc

starts_word : (f : Start) (w : List ℕ) (qs : List Piece) → is_prefix w ≡ true → function_follows qs ≡ false → starts f (tok IdentifierName w ∷ qs) ≡ true
starts_word f w qs h k = starts_plain f w qs (among_by (λ v. among v ("function" ∷ "class" ∷ []) ≡ false) w ("delete" ∷ "void" ∷ "typeof" ∷ "+" ∷ "-" ∷ "~" ∷ "!" ∷ []) h (refl, (refl, (refl, (refl, (refl, (refl, (refl, tt)))))))) k

starts_mark : (f : Start) (w : List ℕ) (qs : List Piece) → not (is w "{") ≡ true → starts f (tok Punctuator w ∷ qs) ≡ true
starts_mark Any w qs h = refl
starts_mark NoBrace w qs h = h
starts_mark Statement w qs h = h

prefix_no_brace : (w : List ℕ) → is_prefix w ≡ true → not (is w "{") ≡ true
prefix_no_brace w h = among_by (λ v. not (is v "{") ≡ true) w ("delete" ∷ "void" ∷ "typeof" ∷ "+" ∷ "-" ∷ "~" ∷ "!" ∷ []) h (refl, (refl, (refl, (refl, (refl, (refl, (refl, tt)))))))

step_no_brace : (w : List ℕ) → operator_of w ≡ op_update → not (is w "{") ≡ true
step_no_brace w h = among_by (λ v. not (is v "{") ≡ true) w ("++" ∷ "--" ∷ []) (step_texts w h) (refl, (refl, tt))

module _ (S : Type 0) (Next : S → Token → S → Type 0) (behind : S → Token) (det : IsDetermined S Next behind) where
  -- such a node as it stands in a derivation, and its operand
  record PrefixCore (o : ℕ) (h : Rank) (j : Bool) (f : Start) (m : Tree) (s0 x mid : S) (Q : List Pair) (w : List ℕ) (K : Kind) (z q : Rank) (G : Flags) : Type 0 where
    st : ℕ
    en : ℕ
    operand : Tree
    tree : m ≡ node K w G st en (part operand none)
    stands : IsTrue (takes h z)
    target : Steps q operand
    spelled : Spells ways S Next behind o (expr q true Any) operand x mid Q
    places : Placed S Next behind (expr h j f) m s0 mid

  strip : {o : ℕ} (h : Rank) (j : Bool) (f : Start) {qs : List Piece} (rs : List Piece) {ps : Parts} {s e : S} {P : List Pair} → AllLaid qs → Runs ways S Next behind o (goes_to h j f (qs ++ rs)) ps s e P → Runs ways S Next behind o (goes_to h j f rs) ps s e P
  strip h j f rs no_piece d = d
  strip h j f rs one_laid d = run_laid S Next behind d

  by_mark : {s0 x : S} {t : Token} {w : List ℕ} → ReadBy S Next behind Goal.RegExp s0 t x → IsTrue (allows Goal.RegExp Punctuator w) → (t1 : Token) (m1 : S) → Reads S Next behind Punctuator w s0 t1 m1 → (t1 ≡ t) × (m1 ≡ x)
  by_mark {s0} {x} {t} {w} r al t1 m1 h =
      let al' : IsTrue (allows Goal.RegExp t1.class t1.text) = subst (λ v. IsTrue (allows Goal.RegExp v t1.text)) (sym h.class) (subst (λ v. IsTrue (allows Goal.RegExp Punctuator v)) (sym h.text) al) in
      det.same Goal.RegExp s0 t1 t m1 x h.next r.next al' r.allowed

  whole_core : {o : ℕ} {h : Rank} {j : Bool} {f : Start} {m : Tree} {s0 x mid m1 : S} {Q : List Pair} {t t1 : Token} {k K : Kind} {w : List ℕ} {g G : Flags} {st en : ℕ} {ps : Parts} {z q : Rank} → m ≡ node k w g st en ps → k ≡ K → w ≡ prefix_text K t.text → (t1 ≡ t) × (m1 ≡ x) → g ≡ G → IsTrue (takes h z) →
      (u : OnePart S Next behind det o (expr q true Any) ps m1 mid Q) → Steps q u.operand → Placed S Next behind (expr h j f) m s0 mid → PrefixCore o h j f m s0 x mid Q (prefix_text K t.text) K z q G
  whole_core {o} {mid = mid} {Q = Q} {st = st} {en = en} {q = q} is kind text same flags tk u target pl = record {
    st = st;
    en = en;
    operand = u.operand;
    tree = is ∙ same_node kind text flags refl refl u.parts;
    stands = tk;
    target = target;
    spelled = subst (λ c. Spells ways S Next behind o (expr q true Any) u.operand c mid Q) same.1 u.spelled;
    places = pl;
  }

  prefix_core : {o : ℕ} {h : Rank} {j : Bool} {f : Start} {m : Tree} {s0 x mid : S} {Q : List Pair} {t : Token} {a : ExpressionStart} {K : Kind} {z q : Rank} {G : Flags} → Prefixed t a K z q G → ReadBy S Next behind Goal.RegExp s0 t x → Cored S Next behind det o h j f m s0 mid Q a →
      PrefixCore o h j f m s0 x mid Q (prefix_text K t.text) K z q G
  prefix_core (by_await c p) r (in_way {k = k0} {w = w} {g = g} {st = st} {en = en} {ps = ps} is (head_await k tk e) lean pl d) =
      let bares : is_lean (bare (node k0 w g st en ps)) ≡ true = ap (λ v. is_lean (bare v)) (sym is) ∙ lean in
      let u = run_token S Next behind (retell S Next behind e d) in
      whole_core is k (lean_text (bare (node k0 w g st en ps)) bares (ap has_text k)) (by_class S Next behind det refl r u.sign u.mid u.reads) (lean_flags (bare (node k0 w g st en ps)) bares ∙ ap (λ v. used_flags v g) k) tk (one_part S Next behind det (run_laid S Next behind u.runs)) tt pl
  prefix_core (by_await c p) r (in_way {ps = ps} is (head_word k h b tk e) lean pl d) =
      let u = run_token S Next behind (retell S Next behind e d) in
      absurd (unlike (sym u.reads.class ∙ ap (λ (x : Token). x.class) (by_name S Next behind det r u.sign u.mid u.reads).0 ∙ c))
  prefix_core (by_word c p v) r (in_way {ps = ps} is (head_await k tk e) lean pl d) =
      let u = run_token S Next behind (retell S Next behind e d) in
      absurd (unlike (sym c ∙ sym (ap (λ (x : Token). x.class) (by_class S Next behind det refl r u.sign u.mid u.reads).0) ∙ u.reads.class))
  prefix_core (by_word c p v) r (in_way {k = k0} {w = w} {g = g} {st = st} {en = en} {ps = ps} is (head_word k h b tk e) lean pl d) =
      let bares : is_lean (bare (node k0 w g st en ps)) ≡ true = ap (λ v. is_lean (bare v)) (sym is) ∙ lean in
      let u = run_token S Next behind (retell S Next behind e d) in
      whole_core is k (sym u.reads.text ∙ ap (λ (x : Token). x.text) (by_name S Next behind det r u.sign u.mid u.reads).0) (by_name S Next behind det r u.sign u.mid u.reads) (lean_flags (bare (node k0 w g st en ps)) bares ∙ ap (λ v. used_flags v g) k) tk (one_part S Next behind det (run_laid S Next behind u.runs)) tt pl
  prefix_core {h = h'} {j = j} {f = f} (by_sign c p v) r (in_way {k = k0} {w = w} {g = g} {st = st} {en = en} {ps = ps} is (head_sign k h b tk e) lean pl d) =
      let bares : is_lean (bare (node k0 w g st en ps)) ≡ true = ap (λ v. is_lean (bare v)) (sym is) ∙ lean in
      let u = run_token S Next behind (retell S Next behind e d) in
      whole_core is k (sym u.reads.text ∙ ap (λ (x : Token). x.text) (by_mark r (prefix_sign_opens w h b).1 u.sign u.mid u.reads).0) (by_mark r (prefix_sign_opens w h b).1 u.sign u.mid u.reads) (lean_flags (bare (node k0 w g st en ps)) bares ∙ ap (λ v. used_flags v g) k) tk
      (one_part S Next behind det (strip h' j f (put (expr Unary true Any) ∷ []) (unary_laid w) u.runs)) tt pl
  prefix_core (by_step c p) r (in_way {k = k0} {w = w} {g = g} {st = st} {en = en} {ps = ps} is (head_step k h ta b tk e) lean pl d) =
      let bares : is_lean (bare (node k0 w g st en ps)) ≡ true = ap (λ v. is_lean (bare v)) (sym is) ∙ lean in
      let u = run_token S Next behind (retell S Next behind e d) in
      let one = one_part S Next behind det (run_laid S Next behind u.runs) in
      let target : is_target (kind_of one.operand) ≡ true = ap is_target (sym (kind_bare one.operand)) ∙ sym (ap (λ c. is_target (lead_kind (bare_parts c))) one.parts) ∙ ta in
      whole_core is k (sym u.reads.text ∙ ap (λ (x : Token). x.text) (by_mark r (step_opens w h).1 u.sign u.mid u.reads).0) (by_mark r (step_opens w h).1 u.sign u.mid u.reads) (lean_flags (bare (node k0 w g st en ps)) bares ∙ ap (λ v. used_flags v g) k ∙ (λ i. record plain { prefix = b i })) tk one target pl

  prefix_runs : {o : ℕ} {s0 x : S} {t : Token} {u : Tree} {to : S} {U : List Pair} (h : Rank) (j : Bool) (f : Start) {st en : ℕ} {a : ExpressionStart} {K : Kind} {z q : Rank} {G : Flags} → Prefixed t a K z q G → ReadBy S Next behind Goal.RegExp s0 t x → IsTrue (takes h z) → Steps q u →
      Spells ways S Next behind o (expr q true Any) u x to U → Placed S Next behind (expr h j f) (node K (prefix_text K t.text) G st en (part u none)) s0 to → Spells ways S Next behind o (expr h j f) (node K (prefix_text K t.text) G st en (part u none)) s0 to U
  prefix_runs {t = t} h j f (by_await c p) r tk target d pl =
      spell S Next behind (at Unary (tok TokenClass.Keyword (codes "await") ∷ sp ∷ put (expr Unary true Any) ∷ [])) await refl tk refl (starts_keyword f (codes "await") (sp ∷ put (expr Unary true Any) ∷ [])) pl
      (step (token (record { next = r.next; class = c; text = p })) (step laid (last_runs S Next behind d)))
  prefix_runs {t = t} h j f (by_word c p v) r tk target d pl =
      spell S Next behind (at Unary (tok IdentifierName t.text ∷ sp ∷ put (expr Unary true Any) ∷ [])) (unary_word p v) refl tk refl (starts_word f t.text (sp ∷ put (expr Unary true Any) ∷ []) p refl) pl
      (step (token (record { next = r.next; class = c; text = refl })) (step laid (last_runs S Next behind d)))
  prefix_runs {t = t} h j f (by_sign c p v) r tk target d pl =
      spell S Next behind (at Unary (tok Punctuator t.text ∷ unary_space t.text ++ put (expr Unary true Any) ∷ [])) (unary_sign p v) refl tk refl (starts_mark f t.text (unary_space t.text ++ put (expr Unary true Any) ∷ []) (prefix_no_brace t.text p)) pl
      (step (token (record { next = r.next; class = c; text = refl })) (lay_runs S Next behind h j f (put (expr Unary true Any) ∷ []) (unary_laid t.text) (last_runs S Next behind d)))
  prefix_runs {t = t} {u = u} h j f (by_step c p) r tk target d pl =
      spell S Next behind (at Update (tok Punctuator t.text ∷ lay (apart (cond (is t.text "++") 43 45)) ∷ put (expr LeftHandSide true Any) ∷ [])) (prefix p (ap is_target (kind_bare u) ∙ target) refl) refl tk refl
      (starts_mark f t.text (lay (apart (cond (is t.text "++") 43 45)) ∷ put (expr LeftHandSide true Any) ∷ []) (step_no_brace t.text p)) pl
      (step (token (record { next = r.next; class = c; text = refl })) (step laid (last_runs S Next behind d)))

  module _ {s0 x : S} {t : Token} {a : ExpressionStart} {K : Kind} {z q : Rank} {G : Flags} (p : Prefixed t a K z q G) (r : ReadBy S Next behind Goal.RegExp s0 t x) where
    prefix_stops : {o : ℕ} {y : Rank} {i : Bool} {f : Start} {n : Tree} {e : S} {P : List Pair} {h : Rank} {j : Bool} {m : Tree} {mid : S} {Q : List Pair} → Begun S Next behind det o s0 y i f n e P h j m mid Q → (c : PrefixCore o h j f m s0 x mid Q (prefix_text K t.text) K z q G) → Stops S Next behind q true c.operand mid
    prefix_stops {mid = mid} b c = begun_stops S Next behind det z q true c.operand (tails_of p) (no_conditional p) c.stands (no_relation p) (ap (λ v. edge_as_written (edge v) (behind mid)) c.tree ∙ ap (λ v. edge_as_written v (behind mid)) (prefix_edge (prefix_text K t.text) c.st c.en c.operand p c.target)) b

    -- the node, with its operand
    pub climb_prefix : {o : ℕ} {y : Rank} {i : Bool} {f : Start} {u : Tree} {to : S} {U : List Pair} {st en : ℕ} → IsTrue (takes y z) → Steps q u → Found S Next behind o q true Any x to u U →
        Placed S Next behind (expr y i f) (node K (prefix_text K t.text) G st en (part u none)) s0 to → Climbing S Next behind det o y i f z s0 (node K (prefix_text K t.text) G st en (part u none)) to U
    climb_prefix {f = f} {u = u} {to = to} {U = U} {st = st} {en = en} low target found places = climb_start S Next behind det low
        (λ h j tk lo. prefix_runs h j f p r tk target found.spelled (replaced S Next behind det places))
        (λ o' n e P h j m mid Q b.
        let c = prefix_core p r (core_by S Next behind det r (opening_is p) b.core) in
        let same = found.only o' mid c.operand Q c.spelled (prefix_stops b c) in
        let where_is = same_places S Next behind det (subst (λ v. Placed S Next behind (expr h j f) v s0 mid) c.tree c.places) places same.0 in
        (same.0, c.tree ∙ same_node refl refl refl where_is.0 where_is.1 (ap (λ v. part v none) same.1), same.2, c.stands))
