-- Turns of the loop at what stands behind an operand: `++` and `--`, a member, a call, a template behind a tag.
use Rattle.std.proofs.Common.{◌≡◌, ℕ, ◌-◌, ◌≤◌, Bool, true, false, cond, List, [], ◌∷◌, ◌++◌, refl, sym, ap, ◌∙◌, subst, arith}
use Rattle.std.specs.Prelude.{IsTrue, Some, max, not}
use Rattle.std.proofs.lemmas.Bool.{false≢true}
use Rattle.std.proofs.lemmas.Bool.Decides.{nat_tests}
use Rattle.tokens.specs.declared.token.TokenClass.TheVariants.{Punctuator}
use Rattle.tokens.specs.declared.token.Goal.TheVariants.{Div}
use Rattle.tree.specs.declared.kind.Kind.{Kind}
use Rattle.tree.specs.declared.kind.Kind.TheVariants.{Super, MemberExpression, CallExpression, UpdateExpression}
use Rattle.language.specs.declared.Rank.{Rank}
use Rattle.language.specs.declared.Rank.TheVariants.{Expression, LeftHandSide, Update, Call, Member}
use Rattle.language.specs.declared.Start.{Start}
use Rattle.language.specs.declared.Start.TheVariants.{Any}
use Rattle.tree.specs.declared.kind.Flags.{Flags}
use Rattle.tree.specs.declared.kind.Pair.{Pair}
use Rattle.tree.specs.Tree.{Tree, node, Parts, none, part, gap, height, kind_of, bare, bare_parts, plain}
use Rattle.tree.specs.Uses.{used_flags, has_text}
use Rattle.tree.proofs.Lean.{lean_flags, lean_text}
use Rattle.language.specs.FirstPart.{lead as lead_kind, others}
use Rattle.language.specs.Vocabulary.{takes, takes_number, precedence, is_target, is_super, Operator, op_update, op_dot}
use Rattle.language.specs.Pieces.{Role, expr, PieceOf, tok, unbroken, is_tight, listed, argument, sign}
use Rattle.language.specs.Token.{Token}
use Rattle.language.specs.Edges.{edge}
use Rattle.language.specs.Expressions.{expressions, after_number}
use Rattle.language.specs.Continuations.{operation, rank_made_by, stops}
use Rattle.language.specs.Promises.{IsDetermined, ReadBy, Stops, Absent}
use Rattle.language.specs.Grammar.{ways, spellings}
use Rattle.language.specs.Derivation.{reserved_key, reserved_word, Among, Spells, direct, grouped, Placed}
use Rattle.language.proofs.table.Begins.{retell, goes_to}
use Rattle.language.proofs.table.ViewIsComplete.{way_of}
use Rattle.language.proofs.table.FixedPieces.{all_done, one_more, same_pieces, fixed_join, fixed_listed}
use Rattle.language.proofs.table.LeftRecursiveWays.{callee_rank, property_role, dotted, Led, led_postfix, led_dot}
use Rattle.language.proofs.climbing.RightOperands.{nothing_more, selected, as_property, PropertyFound}
use Rattle.language.proofs.table.OperatorTokens.{reads_dot, reads_step}
use Rattle.language.proofs.climbing.OperatorNodes.{kind_bare, postfix_grows, dot_grows}
use Rattle.language.proofs.table.Reaches.{is_loose}
use Rattle.language.proofs.climbing.NoContinuation.{goes_where_not, led_text}
use Rattle.language.proofs.climbing.OperatorLoop.{goes_on, grows_height, Leads, Climbing, LedOn, led_on}
use Rattle.language.proofs.climbing.BinaryTurns.{same_node, replaced, same_places, retold, regrown}

-- the same position has the same symbol
pub rank_is : {y z : Rank} {i j : Bool} {f g : Start} → expr y i f ≡ expr z j g → y ≡ z
rank_is e = cc

-- the same symbol is given
pub some_same : {b c : Rank} → Some b ≡ Some c → b ≡ c
some_same e = cc

-- the symbol of a member or a tagged template of what stands at c: behind a call it is a call
abbrev pub suffix_rank : Rank → Rank
suffix_rank c = cond (takes Member c) Member Call

call_member : (h : ℕ) → IsTrue (takes_number h 20) → IsTrue (takes_number h 21)
call_member h t = grind (arith, nat_tests)

member_call : (c : ℕ) → IsTrue (takes_number 21 c) → IsTrue (takes_number 20 c)
member_call c t = grind (arith, nat_tests)

-- a position that takes a member, whose object it takes, takes the node by its symbol
pub suffix_fits : (h c : Rank) → IsTrue (takes (callee_rank h) c) → IsTrue (takes h Member) → IsTrue (takes h (suffix_rank c))
suffix_fits h c f t = go (takes Member c) refl (takes h Call) refl f
  where
    go : (b : Bool) → takes Member c ≡ b → (d : Bool) → takes h Call ≡ d → takes (cond (not d) Member Call) c ≡ true → takes h (cond b Member Call) ≡ true
    go true e d k f = t
    go false e true k f = k
    go false e false k f = absurd (false≢true (sym e ∙ f))

-- and where it takes the node by its symbol, it takes a member and its object
pub suffix_stands : (h c : Rank) → IsTrue (takes h (suffix_rank c)) → IsTrue (takes Call c) → IsTrue (takes h Member) × IsTrue (takes (callee_rank h) c)
suffix_stands h c f t = go (takes Member c) refl (takes h Call) refl f
  where
    go : (b : Bool) → takes Member c ≡ b → (d : Bool) → takes h Call ≡ d → takes h (cond b Member Call) ≡ true → (takes h Member ≡ true) × (takes (cond (not d) Member Call) c ≡ true)
    go true e true k f = (f, t)
    go true e false k f = (f, e)
    go false e true k f = (call_member (precedence h) f, t)
    go false e false k f = absurd (false≢true (sym k ∙ f))

-- what is taken as an object is taken at Call
pub callee_call : (h c : Rank) → IsTrue (takes (callee_rank h) c) → IsTrue (takes Call c)
callee_call h c f = go (takes h Call) f
  where
    go : (d : Bool) → takes (cond (not d) Member Call) c ≡ true → takes Call c ≡ true
    go true f = f
    go false f = member_call (precedence c) f

-- the position of an object is tight
pub callee_tight : (b : Bool) → is_loose (cond b Member Call) ≡ true → ⊥
callee_tight true h = cc
callee_tight false h = cc

abbrev pub computed_flags : Flags
computed_flags = record plain { computed = true }

-- what stands behind the `(` of arguments
abbrev pub argument_pieces : Parts → List (PieceOf Role)
argument_pieces ps = goes_to Expression true Any (listed argument (bare_parts ps) ++ sign ")" ∷ [])

-- the position of the node doesn't change it
pub arguments_fixed : (y : Rank) (i : Bool) (f : Start) (ps : Parts) → goes_to y i f (listed argument ps ++ sign ")" ∷ []) ≡ goes_to Expression true Any (listed argument ps ++ sign ")" ∷ [])
arguments_fixed y i f ps = same_pieces y Expression i true f Any (fixed_join (fixed_listed argument (λ n. refl) ps) (one_more refl all_done))

-- a position that takes what stands so far takes it as an object too, where it takes a member
pub stands_callee : (y c : Rank) → IsTrue (takes y c) → IsTrue (takes Call c) → IsTrue (takes y Member) → IsTrue (takes (callee_rank y) c)
stands_callee y c low fits taken = go (takes y Call) refl
  where
    tight : (a b : ℕ) → IsTrue (takes_number a b) → IsTrue (takes_number 20 b) → IsTrue (takes_number a 21) → takes_number a 20 ≡ false → IsTrue (takes_number 21 b)
    tight a b h k l n = grind (arith, nat_tests)

    go : (d : Bool) → takes y Call ≡ d → takes (cond (not d) Member Call) c ≡ true
    go true e = fits
    go false e = tight (precedence y) (precedence c) low fits taken e

-- the kind `Super` spells no expression
abbrev pub NoSuper : Role → Tree → Type 0
NoSuper (expr y i f) n = is_super (kind_of n) ≡ false
NoSuper _ n = Unit {0}

not_super : (y : Rank) (i : Bool) (f : Start) {qs : List (PieceOf Role)} (n : Tree) → Among qs (ways (expr y i f) n) → is_super (kind_of n) ≡ false
unfolding spellings expressions
not_super y i f (node Super w g st en ps) h = elim ((way_of h).listed) [ ]
not_super y i f (node _ w g st en ps) h = refl

module _ (S : Type 0) (Next : S → Token → S → Type 0) (behind : S → Token) where
  -- what stands at the position of an expression is no `super`
  pub no_super : {o : ℕ} {a : Role} {n : Tree} {s e : S} {P : List Pair} → Spells ways S Next behind o a n s e P → NoSuper a n
  no_super (grouped p d q) = no_super d
  no_super (reserved_key r k p) = tt
  no_super (reserved_word r k p) = tt
  no_super {a = expr y i f} {n = n} (direct qs h pl d) = not_super y i f n h
  no_super {a = _} (direct qs h pl d) = tt

module _ (S : Type 0) (Next : S → Token → S → Type 0) (behind : S → Token) (det : IsDetermined S Next behind) where
  -- the node that a way has made on the spine, told of what is equal
  pub leads_on : {o : ℕ} {s0 e : S} {y : Rank} {i : Bool} {f : Start} {n : Tree} {P : List Pair} {h : Rank} {j : Bool} {f' : Start} {m : Tree} {mid to : S} {Q M : List Pair} {x : Operator} {K : Kind} {W : List ℕ} {G : Flags} {st en : ℕ} {ps : Parts} (z : Rank)
      (on : LedOn S Next behind det o s0 (expr y i f) n e P h j f' m mid Q x) → on.k ≡ K → on.w ≡ W → on.g ≡ G → on.ps ≡ ps → on.to ≡ to → on.more ≡ M → Placed S Next behind (expr y i f) (node K W G st en (part m ps)) s0 to → IsTrue (takes on.y z) →
      Leads S Next behind det o s0 y i f n e P z (node K W G st en (part m ps)) to (Q ++ M)
  leads_on {m = m} {Q = Q} {M = M} {K = K} {W = W} {G = G} {st = st} {en = en} {ps = ps} z on kind text flags parts place pairs places fits =
      let where_is = same_places S Next behind det on.placed places place in
      let tree : node on.k on.w on.g on.st on.en (part m on.ps) ≡ node K W G st en (part m ps) = same_node kind text flags where_is.0 where_is.1 (ap (part m) parts) in
      let all : Q ++ on.more ≡ Q ++ M = ap (λ v. Q ++ v) pairs in
      record { h = on.y; j = on.i; g = on.f; fits = fits; spelled = retold S Next behind det tree place all on.spelled; grows = regrown S Next behind det tree place all on.grows }

  -- the symbol of the node that the operator makes
  pub symbol_taken : (y : Rank) (i : Bool) (m : Tree) (mid : S) (t : Token) {x : Operator} (z : Rank) → stops y i (edge m) (behind mid) t ≡ false → operation t ≡ x → ((n : Bool) (c : Rank) → rank_made_by x n ≡ Some c → z ≡ c) → IsTrue (takes y z)
  symbol_taken y i m mid t z goes op is =
      let on = goes_on y i (edge m) (behind mid) t goes in
      subst (λ v. IsTrue (takes y v)) (sym (is t.after_break on.symbol (ap (λ v. rank_made_by v t.after_break) (sym op) ∙ on.makes))) on.taken

  -- the way of `++` or `--`, whose head stands at h
  record StepLed (y : Rank) (k : Kind) (g : Flags) (w : List ℕ) (ps : Parts) (h : Rank) (rest : List (PieceOf Role)) : Type 0 where
    kind : k ≡ UpdateExpression
    head : h ≡ LeftHandSide
    target : is_target (lead_kind ps) ≡ true
    prefix : g.prefix ≡ false
    stands : IsTrue (takes y Update)
    rest_is : rest ≡ unbroken ∷ tok Punctuator w ∷ []

  step_led : {y : Rank} {i : Bool} {f : Start} {k : Kind} {w : List ℕ} {g : Flags} {ps : Parts} {h : Rank} {j : Bool} {f' : Start} {rest : List (PieceOf Role)} → Led y i f k w g ps (expr h j f') rest op_update → StepLed y k g w ps h rest
  step_led (led_postfix k op ta p tk b e) = record { kind = k; head = rank_is b; target = ta; prefix = p; stands = tk; rest_is = e }

  step_symbol : (n : Bool) (c : Rank) → rank_made_by op_update n ≡ Some c → (n ≡ false) × (Update ≡ c)
  step_symbol true c h = cc
  step_symbol false c h = (refl, some_same h)

  -- the node of `++` or `--` on the spine of a whole that can't go on
  record StepOn (o : ℕ) (s0 : S) (y : Rank) (i : Bool) (f : Start) (n : Tree) (e : S) (P : List Pair) (m : Tree) (t : Token) (x : S) (Q : List Pair) (c : Rank) : Type 0 where
    fits : IsTrue (takes LeftHandSide c)
    target : is_target (kind_of m) ≡ true
    leads : (st en : ℕ) → Placed S Next behind (expr y i f) (node UpdateExpression t.text plain st en (part m none)) s0 x → Leads S Next behind det o s0 y i f n e P Update (node UpdateExpression t.text plain st en (part m none)) x (Q ++ [])

  module _ {y : Rank} {i : Bool} {s0 mid x : S} {m : Tree} {t : Token} (r : ReadBy S Next behind Div mid t x) (is_op : operation t ≡ op_update) (goes : stops y i (edge m) (behind mid) t ≡ false) where
    step_on : {o : ℕ} {f : Start} {n : Tree} {e : S} {P Q : List Pair} {c : Rank} → Stops S Next behind y i n e → Leads S Next behind det o s0 y i f n e P c m mid Q → StepOn o s0 y i f n e P m t x Q c
    step_on {c = c} st v =
        let on = led_on S Next behind det r is_op (λ q. cc) (goes_where_not S Next behind det y i r st goes) v.spelled v.grows in
        let led = step_led on.led in
        let end = nothing_more S Next behind det (retell S Next behind led.rest_is on.runs) r in
        let flags : on.g ≡ plain = lean_flags (bare (node on.k on.w on.g on.st on.en (part m on.ps))) on.lean ∙ ap (λ v. used_flags v on.g) led.kind ∙ (λ k. record plain { prefix = led.prefix k }) in
        let text : on.w ≡ t.text = sym (led_text S Next behind det on.led (ap has_text led.kind) on.runs r) in
        record {
          fits = subst (λ k. IsTrue (takes k c)) led.head v.fits;
          target = ap is_target (sym (kind_bare m)) ∙ led.target;
          leads = λ st en places. leads_on Update on led.kind text flags end.parts (sym end.place) end.pairs places led.stands;
        }

    -- `++` or `--`
    pub climb_step : {o : ℕ} {f : Start} {c : Rank} {Q : List Pair} {st en : ℕ} → Climbing S Next behind det o y i f c s0 m mid Q → IsTrue (takes LeftHandSide c) → is_target (kind_of m) ≡ true →
        Placed S Next behind (expr y i f) (node UpdateExpression t.text plain st en (part m none)) s0 x → Climbing S Next behind det o y i f Update s0 (node UpdateExpression t.text plain st en (part m none)) x (Q ++ [])
    climb_step {st = st} {en = en} climb fits target places =
        let on = goes_on y i (edge m) (behind mid) t goes in
        let symbol = step_symbol t.after_break on.symbol (ap (λ v. rank_made_by v t.after_break) (sym is_op) ∙ on.makes) in
        let sign = reads_step S Next behind r.next is_op in
        record {
          low = subst (λ v. IsTrue (takes y v)) (sym symbol.1) on.taken;
          stands = λ h j tk lo. postfix_grows S Next behind sign.1 target tk symbol.0 (climb.stands LeftHandSide true fits (λ k. cc)) sign.0 (replaced S Next behind det places);
          leads = λ o' e' n' P' d stopped. (step_on stopped (climb.leads o' e' n' P' d stopped)).leads st en places;
        }

    -- what stands before `++` is too loose
    pub climb_step_unfit : {o : ℕ} {f : Start} {c : Rank} {Q : List Pair} → Climbing S Next behind det o y i f c s0 m mid Q → takes LeftHandSide c ≡ false → Absent S Next behind y i f s0
    climb_step_unfit climb no_fit = record { nothing = λ o' e' n' P' d stopped. false≢true (sym no_fit ∙ (step_on stopped (climb.leads o' e' n' P' d stopped)).fits) }

    -- it is neither an identifier nor a member
    pub climb_step_no_target : {o : ℕ} {f : Start} {c : Rank} {Q : List Pair} → Climbing S Next behind det o y i f c s0 m mid Q → is_target (kind_of m) ≡ false → Absent S Next behind y i f s0
    climb_step_no_target climb no_fit = record { nothing = λ o' e' n' P' d stopped. false≢true (sym no_fit ∙ (step_on stopped (climb.leads o' e' n' P' d stopped)).target) }

  -- the flags of a member that isn't in a chain
  pub member_flags : (g : Flags) (c : Bool) → g.optional ≡ false → g.computed ≡ c → used_flags MemberExpression g ≡ record plain { computed = c }
  member_flags g c o k = λ v. record plain { computed = k v; optional = o v }

  -- the flags of a call that isn't in a chain
  pub call_flags : (g : Flags) → g.optional ≡ false → used_flags CallExpression g ≡ plain
  call_flags g o = λ v. record plain { optional = o v }

  -- the way of a member by its name
  record DotLed (y : Rank) (i : Bool) (f : Start) (k : Kind) (g : Flags) (ps : Parts) (h : Rank) (rest : List (PieceOf Role)) : Type 0 where
    kind : k ≡ MemberExpression
    optional : g.optional ≡ false
    computed : g.computed ≡ false
    head : h ≡ callee_rank y
    stands : IsTrue (takes y Member)
    rest_is : rest ≡ goes_to y i f (after_number ps g) ++ dotted (lead_kind (others ps))

  dot_led : {y : Rank} {i : Bool} {f : Start} {k : Kind} {w : List ℕ} {g : Flags} {ps : Parts} {h : Rank} {j : Bool} {f' : Start} {rest : List (PieceOf Role)} → Led y i f k w g ps (expr h j f') rest op_dot → DotLed y i f k g ps h rest
  dot_led (led_dot k o c s tk b e) = record { kind = k; optional = o; computed = c; head = rank_is b; stands = tk; rest_is = e }

  -- the member on the spine of a whole that can't go on
  pub record DotOn (o : ℕ) (s0 : S) (y : Rank) (i : Bool) (f : Start) (n : Tree) (e : S) (P : List Pair) (m : Tree) (x : S) (Q : List Pair) (c : Rank) : Type 0 where
    pub fits : IsTrue (takes Call c)
    pub name : Tree
    pub to : S
    pub pairs : List Pair
    pub spelled : Spells ways S Next behind o (property_role (kind_of name)) name x to pairs
    pub low : height name ≤ height n - 1
    pub leads : (st en : ℕ) (u : Tree) (to' : S) (U : List Pair) → name ≡ u → to ≡ to' → pairs ≡ U → Placed S Next behind (expr y i f) (node MemberExpression [] plain st en (part m (part u none))) s0 to' →
        Leads S Next behind det o s0 y i f n e P (suffix_rank c) (node MemberExpression [] plain st en (part m (part u none))) to' (Q ++ U)

  module _ {y : Rank} {i : Bool} {s0 mid x : S} {m : Tree} {t : Token} (r : ReadBy S Next behind Div mid t x) (is_op : operation t ≡ op_dot) (goes : stops y i (edge m) (behind mid) t ≡ false) where
    pub dot_on : {o : ℕ} {f : Start} {n : Tree} {e : S} {P Q : List Pair} {c : Rank} → Stops S Next behind y i n e → Leads S Next behind det o s0 y i f n e P c m mid Q → DotOn o s0 y i f n e P m x Q c
    dot_on {c = c} st v =
        let on = led_on S Next behind det r is_op (λ q. cc) (goes_where_not S Next behind det y i r st goes) v.spelled v.grows in
        let led = dot_led on.led in
        let b = selected S Next behind det on.y on.i on.f (lead_kind (bare_parts on.ps)) (bare_parts (part m on.ps)) on.g (retell S Next behind led.rest_is on.runs) r in
        let flags : on.g ≡ plain = lean_flags (bare (node on.k on.w on.g on.st on.en (part m on.ps))) on.lean ∙ ap (λ v. used_flags v on.g) led.kind ∙ member_flags on.g false led.optional led.computed in
        let text : on.w ≡ [] = lean_text (bare (node on.k on.w on.g on.st on.en (part m on.ps))) on.lean (ap has_text led.kind) in
        let head : IsTrue (takes (callee_rank on.y) c) = subst (λ k. IsTrue (takes k c)) led.head v.fits in
        let high = grows_height S Next behind det on.grows in
        let parts : Rattle.tree.specs.Tree.parts_height on.ps ≡ max (height b.operand) 0 = ap Rattle.tree.specs.Tree.parts_height b.parts in
        record {
          fits = callee_call on.y c head;
          name = b.operand;
          to = on.to;
          pairs = on.more;
          spelled = as_property S Next behind det b;
          low = omega arith;
          leads = λ st en u to' U name place pairs places. leads_on (suffix_rank c) on led.kind text flags (b.parts ∙ ap (λ k. part k none) name) place pairs places (suffix_fits on.y c head led.stands);
        }

    -- `.` and a name
    pub climb_dot : {o : ℕ} {f : Start} {c : Rank} {Q : List Pair} {u : Tree} {to : S} {U : List Pair} {st en : ℕ} → Climbing S Next behind det o y i f c s0 m mid Q → IsTrue (takes Call c) → PropertyFound S Next behind det o x to u U →
        Placed S Next behind (expr y i f) (node MemberExpression [] plain st en (part m (part u none))) s0 to → Climbing S Next behind det o y i f (suffix_rank c) s0 (node MemberExpression [] plain st en (part m (part u none))) to (Q ++ U)
    climb_dot {c = c} {u = u} {to = to} {U = U} {st = st} {en = en} climb fits found places =
        let taken : IsTrue (takes y Member) = symbol_taken y i m mid t Member goes is_op (λ n c h. some_same h) in
        record {
          low = suffix_fits y c (stands_callee y c climb.low fits taken) taken;
          stands = λ h j tk lo.
              let at = suffix_stands h c tk fits in
              dot_grows S Next behind (no_super S Next behind (climb.stands (callee_rank h) true at.1 (λ k. absurd (callee_tight (is_tight h) k)))) at.0
              (climb.stands (callee_rank h) true at.1 (λ k. absurd (callee_tight (is_tight h) k))) (reads_dot S Next behind r.next is_op) found.spelled (replaced S Next behind det places);
          leads = λ o' e' n' P' d stopped.
              let w = dot_on stopped (climb.leads o' e' n' P' d stopped) in
              let same = found.only o' w.to w.name w.pairs w.spelled in
              w.leads st en u to U same.1 same.0 same.2 places;
        }
