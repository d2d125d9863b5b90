-- Turns of the loop at `[`, at the arguments of a call and at a template behind a tag.
use Rattle.std.proofs.Common.{◌≡◌, ℕ, ◌-◌, ◌≤◌, Bool, true, false, List, [], ◌∷◌, ◌++◌, refl, sym, ap, ◌∙◌, subst, arith}
use Rattle.std.specs.Prelude.{IsTrue, codes, max}
use Rattle.std.proofs.lemmas.List.{append-nil}
use Rattle.tokens.specs.declared.token.TokenClass.TheVariants.{Punctuator}
use Rattle.tokens.specs.declared.token.Goal.TheVariants.{Div}
use Rattle.tree.specs.declared.kind.Kind.{Kind}
use Rattle.tree.specs.declared.kind.Kind.TheVariants.{MemberExpression, CallExpression, TaggedTemplateExpression}
use Rattle.language.specs.declared.Rank.{Rank}
use Rattle.language.specs.declared.Rank.TheVariants.{Expression, Call, Member}
use Rattle.language.specs.declared.Start.{Start}
use Rattle.language.specs.declared.Start.TheVariants.{Any}
use Rattle.tree.specs.declared.kind.Flags.{Flags}
use Rattle.tree.specs.declared.kind.Pair.{Pair}
use Rattle.tree.specs.Tree.{Tree, node, Parts, none, part, height, parts_height, bare, bare_parts, plain}
use Rattle.tree.specs.Uses.{used_flags, has_text}
use Rattle.tree.proofs.Lean.{lean_flags, lean_text}
use Rattle.language.specs.FirstPart.{others}
use Rattle.language.specs.Vocabulary.{takes, op_index, op_call, op_template}
use Rattle.language.specs.Pieces.{Role, expr, tagged_quasi, PieceOf, sub, is_tight}
use Rattle.language.specs.Token.{Token}
use Rattle.language.specs.Edges.{edge}
use Rattle.language.specs.Expressions.{arguments, after_number}
use Rattle.language.specs.Continuations.{operation, stops}
use Rattle.language.specs.Promises.{IsDetermined, ReadBy, Stops, Found, FoundAt, FoundParts}
use Rattle.language.specs.Grammar.{ways}
use Rattle.language.specs.Derivation.{Reads, Spells, Runs, step, token, Placed}
use Rattle.language.proofs.table.Begins.{retell, goes_to}
use Rattle.language.proofs.table.LeftRecursiveWays.{callee_rank, bracketed, Led, led_index, led_call, led_tag}
use Rattle.language.proofs.climbing.RightOperands.{indexed, called, one_part}
use Rattle.language.proofs.table.OperatorTokens.{reads_index, reads_call}
use Rattle.language.proofs.climbing.OperatorNodes.{index_grows, call_grows, tag_grows}
use Rattle.language.proofs.climbing.NoContinuation.{goes_where_not}
use Rattle.language.proofs.climbing.OperatorLoop.{grows_height, Leads, Climbing, led_on}
use Rattle.language.proofs.climbing.BinaryTurns.{replaced, retold}
use Rattle.language.proofs.climbing.Conditionals.{same_sign, stops_before}
use Rattle.language.proofs.climbing.Suffixes.{rank_is, some_same, suffix_rank, suffix_fits, suffix_stands, callee_call, callee_tight, computed_flags, argument_pieces, arguments_fixed, stands_callee, no_super, leads_on, symbol_taken, member_flags, call_flags}

module _ (S : Type 0) (Next : S → Token → S → Type 0) (behind : S → Token) (det : IsDetermined S Next behind) where
  -- the way of a member in brackets
  record IndexLed (y : Rank) (i : Bool) (f : Start) (k : Kind) (g : Flags) (ps : Parts) (h : Rank) (rest : List (PieceOf Role)) : Type 0 where
    kind : k ≡ MemberExpression
    optional : g.optional ≡ false
    computed : g.computed ≡ true
    head : h ≡ callee_rank y
    stands : IsTrue (takes y Member)
    rest_is : rest ≡ goes_to y i f (after_number ps g) ++ bracketed

  index_led : {y : Rank} {i : Bool} {f : Start} {k : Kind} {w : List ℕ} {g : Flags} {ps : Parts} {h : Rank} {j : Bool} {f' : Start} {rest : List (PieceOf Role)} → Led y i f k w g ps (expr h j f') rest op_index → IndexLed y i f k g ps h rest
  index_led (led_index k o c s tk b e) = record { kind = k; optional = o; computed = c; head = rank_is b; stands = tk; rest_is = e }

  -- the member on the spine of a whole that can't go on, and what stands in its brackets
  pub record IndexOn (o : ℕ) (s0 : S) (y : Rank) (i : Bool) (f : Start) (n : Tree) (e : S) (P : List Pair) (m : Tree) (x : S) (Q : List Pair) (c : Rank) : Type 0 where
    pub fits : IsTrue (takes Call c)
    pub inner : Tree
    pub place : S
    pub closing : Token
    pub to : S
    pub pairs : List Pair
    pub spelled : Spells ways S Next behind o (expr Expression true Any) inner x place pairs
    pub stopped : Stops S Next behind Expression true inner place
    pub closes : Reads S Next behind Punctuator (codes "]") place closing to
    pub low : height inner ≤ height n - 1
    pub leads : (st en : ℕ) (u : Tree) (to' : S) (U : List Pair) → inner ≡ u → to ≡ to' → pairs ≡ U → Placed S Next behind (expr y i f) (node MemberExpression [] computed_flags st en (part m (part u none))) s0 to' →
        Leads S Next behind det o s0 y i f n e P (suffix_rank c) (node MemberExpression [] computed_flags st en (part m (part u none))) to' (Q ++ U)

  module _ {y : Rank} {i : Bool} {s0 mid x : S} {m : Tree} {t : Token} (r : ReadBy S Next behind Div mid t x) (is_op : operation t ≡ op_index) (goes : stops y i (edge m) (behind mid) t ≡ false) where
    pub index_on : {o : ℕ} {f : Start} {n : Tree} {e : S} {P Q : List Pair} {c : Rank} → Stops S Next behind y i n e → Leads S Next behind det o s0 y i f n e P c m mid Q → IndexOn o s0 y i f n e P m x Q c
    index_on {c = c} st v =
        let on = led_on S Next behind det r is_op (λ q. cc) (goes_where_not S Next behind det y i r st goes) v.spelled v.grows in
        let led = index_led on.led in
        let b = indexed S Next behind det on.y on.i on.f (bare_parts (part m on.ps)) on.g (retell S Next behind led.rest_is on.runs) r in
        let flags : on.g ≡ computed_flags = lean_flags (bare (node on.k on.w on.g on.st on.en (part m on.ps))) on.lean ∙ ap (λ v. used_flags v on.g) led.kind ∙ member_flags S Next behind det on.g true led.optional led.computed in
        let text : on.w ≡ [] = lean_text (bare (node on.k on.w on.g on.st on.en (part m on.ps))) on.lean (ap has_text led.kind) in
        let head : IsTrue (takes (callee_rank on.y) c) = subst (λ k. IsTrue (takes k c)) led.head v.fits in
        let high = grows_height S Next behind det on.grows in
        let parts : parts_height on.ps ≡ max (height b.inner) 0 = ap parts_height b.parts in
        record {
          fits = callee_call on.y c head;
          inner = b.inner;
          place = b.place;
          closing = b.closing;
          to = on.to;
          pairs = b.pairs;
          spelled = b.spelled;
          stopped = stops_before S Next behind det Expression true b.inner b.closes refl refl (λ k u. refl);
          closes = b.closes;
          low = omega arith;
          leads = λ st en u to' U name place pairs places. leads_on S Next behind det (suffix_rank c) on led.kind text flags (b.parts ∙ ap (λ k. part k none) name) place (b.pairs_are ∙ pairs) places (suffix_fits on.y c head led.stands);
        }

    module _ {o1 : ℕ} {u : Tree} {e1 : S} {U : List Pair} (found : Found S Next behind o1 Expression true Any x e1 u U) where
      -- `[`, an expression and `]`
      pub climb_index : {f : Start} {c : Rank} {Q : List Pair} {close : Token} {to : S} {st en : ℕ} → Climbing S Next behind det o1 y i f c s0 m mid Q → IsTrue (takes Call c) → Reads S Next behind Punctuator (codes "]") e1 close to →
          Placed S Next behind (expr y i f) (node MemberExpression [] computed_flags st en (part m (part u none))) s0 to → Climbing S Next behind det o1 y i f (suffix_rank c) s0 (node MemberExpression [] computed_flags st en (part m (part u none))) to (Q ++ U)
      climb_index {c = c} {Q = Q} {close = close} {to = to} {st = st} {en = en} climb fits closes places =
          let taken : IsTrue (takes y Member) = symbol_taken S Next behind det y i m mid t Member goes is_op (λ n c h. some_same h) in
          record {
            low = suffix_fits y c (stands_callee y c climb.low fits taken) taken;
            stands = λ h j tk lo.
                let at = suffix_stands h c tk fits in
                let callee = climb.stands (callee_rank h) true at.1 (λ k. absurd (callee_tight (is_tight h) k)) in
                retold S Next behind det refl refl (ap (λ v. Q ++ v) (append-nil U))
                (index_grows S Next behind (no_super S Next behind callee) at.0 callee (reads_index S Next behind r.next is_op) found.spelled closes (replaced S Next behind det places));
            leads = λ o' e' n' P' d stopped.
                let w = index_on stopped (climb.leads o' e' n' P' d stopped) in
                let same = found.only o' w.place w.inner w.pairs w.spelled w.stopped in
                let end = same_sign S Next behind det (subst (λ k. Reads S Next behind Punctuator (codes "]") k w.closing w.to) same.0 w.closes) closes refl in
                w.leads st en u to U same.1 end.1 same.2 places;
          }

  -- the way of a call
  record CallLed (y : Rank) (i : Bool) (f : Start) (k : Kind) (g : Flags) (ps : Parts) (h : Rank) (rest : List (PieceOf Role)) : Type 0 where
    kind : k ≡ CallExpression
    optional : g.optional ≡ false
    head : h ≡ Call
    stands : IsTrue (takes y Call)
    rest_is : rest ≡ goes_to y i f (arguments (others ps))

  call_led : {y : Rank} {i : Bool} {f : Start} {k : Kind} {w : List ℕ} {g : Flags} {ps : Parts} {h : Rank} {j : Bool} {f' : Start} {rest : List (PieceOf Role)} → Led y i f k w g ps (expr h j f') rest op_call → CallLed y i f k g ps h rest
  call_led (led_call k o s tk b e) = record { kind = k; optional = o; head = rank_is b; stands = tk; rest_is = e }

  -- the call on the spine of a whole that can't go on, and its arguments
  record CallOn (o : ℕ) (s0 : S) (y : Rank) (i : Bool) (f : Start) (n : Tree) (e : S) (P : List Pair) (m : Tree) (x : S) (Q : List Pair) (c : Rank) : Type 0 where
    fits : IsTrue (takes Call c)
    given : Parts
    to : S
    pairs : List Pair
    runs : Runs ways S Next behind o (argument_pieces given) given x to pairs
    low : parts_height given ≤ height n - 1
    leads : (st en : ℕ) (ps : Parts) (to' : S) (U : List Pair) → given ≡ ps → to ≡ to' → pairs ≡ U → Placed S Next behind (expr y i f) (node CallExpression [] plain st en (part m ps)) s0 to' →
        Leads S Next behind det o s0 y i f n e P Call (node CallExpression [] plain st en (part m ps)) to' (Q ++ U)

  module _ {y : Rank} {i : Bool} {s0 mid x : S} {m : Tree} {t : Token} (r : ReadBy S Next behind Div mid t x) (is_op : operation t ≡ op_call) (goes : stops y i (edge m) (behind mid) t ≡ false) where
    call_on : {o : ℕ} {f : Start} {n : Tree} {e : S} {P Q : List Pair} {c : Rank} → Stops S Next behind y i n e → Leads S Next behind det o s0 y i f n e P c m mid Q → CallOn o s0 y i f n e P m x Q c
    call_on {c = c} st v =
        let on = led_on S Next behind det r is_op (λ q. cc) (goes_where_not S Next behind det y i r st goes) v.spelled v.grows in
        let led = call_led on.led in
        let flags : on.g ≡ plain = lean_flags (bare (node on.k on.w on.g on.st on.en (part m on.ps))) on.lean ∙ ap (λ v. used_flags v on.g) led.kind ∙ call_flags S Next behind det on.g led.optional in
        let text : on.w ≡ [] = lean_text (bare (node on.k on.w on.g on.st on.en (part m on.ps))) on.lean (ap has_text led.kind) in
        let high = grows_height S Next behind det on.grows in
        record {
          fits = subst (λ k. IsTrue (takes k c)) led.head v.fits;
          given = on.ps;
          to = on.to;
          pairs = on.more;
          runs = retell S Next behind (arguments_fixed on.y on.i on.f (bare_parts on.ps)) (called S Next behind det on.y on.i on.f (bare_parts on.ps) (retell S Next behind led.rest_is on.runs) r);
          low = omega arith;
          leads = λ st en ps to' U parts place pairs places. leads_on S Next behind det Call on led.kind text flags parts place pairs places led.stands;
        }

    -- arguments
    pub climb_call : {o : ℕ} {f : Start} {c : Rank} {Q : List Pair} {ps : Parts} {to : S} {U : List Pair} {st en : ℕ} → Climbing S Next behind det o y i f c s0 m mid Q → IsTrue (takes Call c) → FoundParts S Next behind o argument_pieces x to ps U →
        Placed S Next behind (expr y i f) (node CallExpression [] plain st en (part m ps)) s0 to → Climbing S Next behind det o y i f Call s0 (node CallExpression [] plain st en (part m ps)) to (Q ++ U)
    climb_call {c = c} {ps = ps} {to = to} {U = U} {st = st} {en = en} climb fits found places = record {
      low = symbol_taken S Next behind det y i m mid t Call goes is_op (λ n c h. some_same h);
      stands = λ h j tk lo.
          let callee = climb.stands Call true fits (λ k. cc) in
          call_grows S Next behind (no_super S Next behind callee) tk callee (step (token (reads_call S Next behind r.next is_op)) (retell S Next behind (sym (arguments_fixed h j _ (bare_parts ps))) found.runs)) (replaced S Next behind det places);
      leads = λ o' e' n' P' d stopped.
          let w = call_on stopped (climb.leads o' e' n' P' d stopped) in
          let same = found.only o' w.to w.given w.pairs w.runs in
          w.leads st en ps to U same.1 same.0 same.2 places;
    }

  -- the way of a template behind a tag
  record TagLed (y : Rank) (k : Kind) (h : Rank) (rest : List (PieceOf Role)) : Type 0 where
    kind : k ≡ TaggedTemplateExpression
    head : h ≡ callee_rank y
    stands : IsTrue (takes y Member)
    rest_is : rest ≡ sub tagged_quasi ∷ []

  tag_led : {y : Rank} {i : Bool} {f : Start} {k : Kind} {w : List ℕ} {g : Flags} {ps : Parts} {h : Rank} {j : Bool} {f' : Start} {rest : List (PieceOf Role)} → Led y i f k w g ps (expr h j f') rest op_template → TagLed y k h rest
  tag_led (led_tag k tk b e) = record { kind = k; head = rank_is b; stands = tk; rest_is = e }

  -- the tagged template on the spine of a whole that can't go on
  pub record TagOn (o : ℕ) (s0 : S) (y : Rank) (i : Bool) (f : Start) (n : Tree) (e : S) (P : List Pair) (m : Tree) (mid : S) (Q : List Pair) (c : Rank) : Type 0 where
    pub fits : IsTrue (takes Call c)
    pub template : Tree
    pub to : S
    pub pairs : List Pair
    pub spelled : Spells ways S Next behind o tagged_quasi template mid to pairs
    pub low : height template ≤ height n - 1
    pub leads : (st en : ℕ) (u : Tree) (to' : S) (U : List Pair) → template ≡ u → to ≡ to' → pairs ≡ U → Placed S Next behind (expr y i f) (node TaggedTemplateExpression [] plain st en (part m (part u none))) s0 to' →
        Leads S Next behind det o s0 y i f n e P (suffix_rank c) (node TaggedTemplateExpression [] plain st en (part m (part u none))) to' (Q ++ U)

  module _ {y : Rank} {i : Bool} {s0 mid x : S} {m : Tree} {t : Token} (r : ReadBy S Next behind Div mid t x) (is_op : operation t ≡ op_template) (goes : stops y i (edge m) (behind mid) t ≡ false) where
    pub tag_on : {o : ℕ} {f : Start} {n : Tree} {e : S} {P Q : List Pair} {c : Rank} → Stops S Next behind y i n e → Leads S Next behind det o s0 y i f n e P c m mid Q → TagOn o s0 y i f n e P m mid Q c
    tag_on {c = c} st v =
        let on = led_on S Next behind det r is_op (λ q. cc) (goes_where_not S Next behind det y i r st goes) v.spelled v.grows in
        let led = tag_led on.led in
        let b = one_part S Next behind det (retell S Next behind led.rest_is on.runs) in
        let flags : on.g ≡ plain = lean_flags (bare (node on.k on.w on.g on.st on.en (part m on.ps))) on.lean ∙ ap (λ v. used_flags v on.g) led.kind in
        let text : on.w ≡ [] = lean_text (bare (node on.k on.w on.g on.st on.en (part m on.ps))) on.lean (ap has_text led.kind) in
        let head : IsTrue (takes (callee_rank on.y) c) = subst (λ k. IsTrue (takes k c)) led.head v.fits in
        let high = grows_height S Next behind det on.grows in
        let parts : parts_height on.ps ≡ max (height b.operand) 0 = ap parts_height b.parts in
        record {
          fits = callee_call on.y c head;
          template = b.operand;
          to = on.to;
          pairs = on.more;
          spelled = b.spelled;
          low = omega arith;
          leads = λ st en u to' U name place pairs places. leads_on S Next behind det (suffix_rank c) on led.kind text flags (b.parts ∙ ap (λ k. part k none) name) place pairs places (suffix_fits on.y c head led.stands);
        }

    -- a template
    pub climb_tag : {o : ℕ} {f : Start} {c : Rank} {Q : List Pair} {u : Tree} {to : S} {U : List Pair} {st en : ℕ} → Climbing S Next behind det o y i f c s0 m mid Q → IsTrue (takes Call c) → FoundAt S Next behind o tagged_quasi mid to u U →
        Placed S Next behind (expr y i f) (node TaggedTemplateExpression [] plain st en (part m (part u none))) s0 to → Climbing S Next behind det o y i f (suffix_rank c) s0 (node TaggedTemplateExpression [] plain st en (part m (part u none))) to (Q ++ U)
    climb_tag {c = c} {u = u} {to = to} {U = U} {st = st} {en = en} climb fits found places =
        let taken : IsTrue (takes y Member) = symbol_taken S Next behind det y i m mid t Member goes is_op (λ n c h. some_same h) in
        record {
          low = suffix_fits y c (stands_callee y c climb.low fits taken) taken;
          stands = λ h j tk lo.
              let at = suffix_stands h c tk fits in
              tag_grows S Next behind at.0 (climb.stands (callee_rank h) true at.1 (λ k. absurd (callee_tight (is_tight h) k))) found.spelled (replaced S Next behind det places);
          leads = λ o' e' n' P' d stopped.
              let w = tag_on stopped (climb.leads o' e' n' P' d stopped) in
              let same = found.only o' w.to w.template w.pairs w.spelled in
              w.leads st en u to U same.1 same.0 same.2 places;
        }
