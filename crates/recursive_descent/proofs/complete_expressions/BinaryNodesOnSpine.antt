-- The node with an operator with two sides on the spine of a whole that can't go on.
use Rattle.std.proofs.Common.{◌≡◌, ℕ, Bool, true, false, cond, List, ◌++◌, refl, sym, ap, ◌∙◌, subst, arith}
use Rattle.std.specs.Prelude.{IsTrue}
use Rattle.std.proofs.lemmas.Bool.{false≢true}
use Rattle.tokens.specs.declared.token.TokenClass.TheVariants.{IdentifierName, Punctuator}
use Rattle.tokens.specs.declared.token.Goal.TheVariants.{Div}
use Rattle.tree.specs.declared.kind.Kind.{Kind}
use Rattle.tree.specs.declared.kind.Kind.TheVariants.{BinaryExpression, LogicalExpression}
use Rattle.language.specs.declared.Rank.{Rank}
use Rattle.language.specs.declared.Rank.TheVariants.{Relational}
use Rattle.language.specs.declared.Start.{Start}
use Rattle.language.specs.declared.Start.TheVariants.{Any}
use Rattle.tree.specs.declared.kind.Flags.{Flags}
use Rattle.tree.specs.declared.kind.Pair.{Pair}
use Rattle.tree.specs.Tree.{Tree, node, Parts, none, part, bare, kind_of, plain}
use Rattle.tree.specs.Uses.{has_text, used_flags}
use Rattle.tree.proofs.Lean.{lean_flags}
use Rattle.language.specs.FirstPart.{lead as lead_kind}
use Rattle.language.specs.Vocabulary.{takes, precedence, is_word_operator, is_target, Operator, is_assign_op, operator_of, op_optional}
use Rattle.language.specs.Pieces.{Role, expr, PieceOf}
use Rattle.language.specs.Token.{Token}
use Rattle.language.specs.Edges.{edge, edge_as_written}
use Rattle.language.specs.Continuations.{operation, stops}
use Rattle.language.specs.Promises.{IsDetermined, ReadBy, Stops}
use Rattle.language.specs.Grammar.{ways}
use Rattle.language.specs.Derivation.{Spells, Placed}
use Rattle.language.proofs.climbing.Spine.{Grows}
use Rattle.language.proofs.table.OperatorFacts.{binding}
use Rattle.language.proofs.table.OperatorTokens.{op_reads}
use Rattle.language.proofs.table.Begins.{retell}
use Rattle.language.proofs.table.LeftRecursiveWays.{Led, led_binary, led_power, led_assign, between}
use Rattle.language.proofs.climbing.RightOperands.{right_side}
use Rattle.language.proofs.climbing.OperatorNodes.{kind_bare}
use Rattle.language.proofs.table.Reaches.{is_loose, loose_of, binds_loose, reaches}
use Rattle.language.proofs.climbing.NoContinuation.{goes_where_not, led_text}
use Rattle.language.proofs.table.Tails.{Tails, tails_binary, tails_power, tails_assign}
use Rattle.language.proofs.climbing.OperatorLoop.{Leads, led_on, stops_inside}
use Rattle.language.proofs.climbing.BinaryTurns.{TwoSided, two_binds, two_powers, two_assigns, same_node, replaced}
use Rattle.language.proofs.climbing.Suffixes.{rank_is}

pub two_reads : (t : Token) {x : Operator} {K : Kind} {a z q : Rank} {b : Bool} → TwoSided x K a z q b → operation t ≡ x → (t.class ≡ cond (is_word_operator t.text) IdentifierName Punctuator) × (operator_of t.text ≡ x)
two_reads t two_binds h = op_reads t h (λ e. cc) (λ e. cc)
two_reads t two_powers h = op_reads t h (λ e. cc) (λ e. cc)
two_reads t two_assigns h = op_reads t h (λ e. cc) (λ e. cc)

-- the way with such an operator, at the position `expr y i f`, whose head stands at h
record TwoLed (y : Rank) (i : Bool) (k : Kind) (w : List ℕ) (ps : Parts) (h : Rank) (rest : List (PieceOf Role)) (x : Operator) (K : Kind) (a z q : Rank) (b : Bool) : Type 0 where
  kind : k ≡ K
  head : h ≡ a
  stands : IsTrue (takes y z)
  target : is_assign_op x ≡ true → is_target (lead_kind ps) ≡ true
  rest_is : rest ≡ between w (expr q (cond b i true) Any)

two_led : {y : Rank} {i : Bool} {f : Start} {k : Kind} {w : List ℕ} {g : Flags} {ps : Parts} {h : Rank} {j : Bool} {f' : Start} {rest : List (PieceOf Role)} {x : Operator} {K : Kind} {a z q : Rank} {b : Bool} →
    TwoSided x K a z q b → Led y i f k w g ps (expr h j f') rest x → TwoLed y i k w ps h rest x K a z q b
two_led two_binds (led_binary k op tk im b e) = record { kind = k; head = rank_is b; stands = tk; target = λ c. cc; rest_is = e }
two_led two_powers (led_power k op tk b e) = record { kind = k; head = rank_is b; stands = tk; target = λ c. cc; rest_is = e }
two_led two_assigns (led_assign k op ta tk b e) = record { kind = k; head = rank_is b; stands = tk; target = λ c. ta; rest_is = e }

two_tails : {x : Operator} {K : Kind} {a z q : Rank} {b : Bool} → (w : List ℕ) → operator_of w ≡ x → TwoSided x K a z q b → Tails z q
two_tails w op (two_binds {z = z} {q = q}) = tails_binary z q (binding w op)
two_tails w op two_powers = tails_power
two_tails w op two_assigns = tails_assign

two_loose : {x : Operator} {K : Kind} {a z q : Rank} {b : Bool} → (w : List ℕ) → operator_of w ≡ x → TwoSided x K a z q b → is_loose z ≡ true
two_loose w op two_binds = binds_loose w op
two_loose w op two_powers = refl
two_loose w op two_assigns = refl

two_conditional : {x : Operator} {K : Kind} {a z q : Rank} {b : Bool} → (w : List ℕ) → operator_of w ≡ x → TwoSided x K a z q b → precedence z ≡ 2 → ⊥
two_conditional w op two_binds h = let v = binding w op in let low = v.least in omega arith
two_conditional w op two_powers h = omega arith
two_conditional w op two_assigns h = omega arith

two_in : {x : Operator} {K : Kind} {a z q : Rank} {b : Bool} → TwoSided x K a z q b → (i : Bool) → takes q Relational ≡ true → cond b i true ≡ i
two_in two_binds i h = refl
two_in two_powers i h = absurd (false≢true h)
two_in two_assigns i h = refl

two_text : {x : Operator} {K : Kind} {a z q : Rank} {b : Bool} → TwoSided x K a z q b → has_text K ≡ true
two_text (two_binds {l = l}) = of l
  where
    of : (l : Bool) → has_text (cond l LogicalExpression BinaryExpression) ≡ true
    of true = refl
    of false = refl
two_text two_powers = refl
two_text two_assigns = refl

two_flags : {x : Operator} {K : Kind} {a z q : Rank} {b : Bool} → TwoSided x K a z q b → (g : Flags) → used_flags K g ≡ plain
two_flags (two_binds {l = l}) g = of l
  where
    of : (l : Bool) → used_flags (cond l LogicalExpression BinaryExpression) g ≡ plain
    of true = refl
    of false = refl
two_flags two_powers g = refl
two_flags two_assigns g = refl

two_edge : {x : Operator} {K : Kind} {a z q : Rank} {b : Bool} → TwoSided x K a z q b → (w : List ℕ) (g : Flags) (st en : ℕ) (m u : Tree) → edge (node K w g st en (part m (part u none))) ≡ edge u
two_edge (two_binds {l = l}) w g st en m u = of l
  where
    of : (l : Bool) → edge (node (cond l LogicalExpression BinaryExpression) w g st en (part m (part u none))) ≡ edge u
    of true = refl
    of false = refl
two_edge two_powers w g st en m u = refl
two_edge two_assigns w g st en m u = refl

module _ (S : Type 0) (Next : S → Token → S → Type 0) (behind : S → Token) (det : IsDetermined S Next behind) where
  -- the node with such an operator on the spine of a whole that can't go on, and its right side, which can't go on either
  pub record TwoOn (o : ℕ) (s0 : S) (y : Rank) (i : Bool) (f : Start) (n : Tree) (e : S) (P : List Pair) (m : Tree) (x : S) (Q : List Pair) (op : Operator) (w : List ℕ) (K : Kind) (a z q : Rank) (b : Bool) (c : Rank) : Type 0 where
    pub h : Rank
    pub g : Start
    pub st : ℕ
    pub en : ℕ
    pub operand : Tree
    pub to : S
    pub right : List Pair
    pub fits : IsTrue (takes a c)
    pub target : is_assign_op op ≡ true → is_target (kind_of m) ≡ true
    pub stands : IsTrue (takes h z)
    pub side : Spells ways S Next behind o (expr q (cond b i true) Any) operand x to right
    pub stopped : Stops S Next behind q (cond b i true) operand to
    pub places : Placed S Next behind (expr h i g) (node K w plain st en (part m (part operand none))) s0 to
    pub spelled : Spells ways S Next behind o (expr h i g) (node K w plain st en (part m (part operand none))) s0 to (Q ++ right)
    pub grows : Grows S Next behind o s0 (expr y i f) n e P (expr h i g) (node K w plain st en (part m (part operand none))) to (Q ++ right)

  module _ {y : Rank} {i : Bool} {s0 mid x : S} {m : Tree} {t : Token} {op : Operator} {K : Kind} {a z q : Rank} {b : Bool} (two : TwoSided op K a z q b) (r : ReadBy S Next behind Div mid t x) (is_op : operation t ≡ op)
      (goes : stops y i (edge m) (behind mid) t ≡ false) where
    pub two_on : {o : ℕ} {f : Start} {n : Tree} {e : S} {P Q : List Pair} {c : Rank} → Stops S Next behind y i n e → Leads S Next behind det o s0 y i f n e P c m mid Q → TwoOn o s0 y i f n e P m x Q op t.text K a z q b c
    two_on {o} {f} {n} {e} {P} {Q} {c} st v =
        let reads = two_reads t two is_op in
        let on = led_on S Next behind det r is_op (no_chain two) (goes_where_not S Next behind det y i r st goes) v.spelled v.grows in
        let led = two_led two on.led in
        let loose = two_loose t.text reads.1 two in
        let inside : on.i ≡ i = ((reaches S Next behind on.grows).same_in (loose_of on.y z led.stands loose)).1 in
        let side = right_side S Next behind det on.w (retell S Next behind led.rest_is on.runs) r in
        let text : t.text ≡ on.w = led_text S Next behind det on.led (ap has_text led.kind ∙ two_text two) on.runs r in
        let flags : on.g ≡ plain = lean_flags (bare (node on.k on.w on.g on.st on.en (part m on.ps))) on.lean ∙ ap (λ v. used_flags v on.g) led.kind ∙ two_flags two on.g in
        let same : node on.k on.w on.g on.st on.en (part m on.ps) ≡ node K t.text plain on.st on.en (part m (part side.operand none)) = same_node led.kind (sym text) flags refl refl (ap (part m) side.parts) in
        let grows' : Grows S Next behind o s0 (expr y i f) n e P (expr on.y on.i on.f) (node K t.text plain on.st on.en (part m (part side.operand none))) on.to (Q ++ on.more) =
        subst (λ c. Grows S Next behind o s0 (expr y i f) n e P (expr on.y on.i on.f) c on.to (Q ++ on.more)) same on.grows in
        let grows : Grows S Next behind o s0 (expr y i f) n e P (expr on.y i on.f) (node K t.text plain on.st on.en (part m (part side.operand none))) on.to (Q ++ on.more) =
        subst (λ j. Grows S Next behind o s0 (expr y i f) n e P (expr on.y j on.f) (node K t.text plain on.st on.en (part m (part side.operand none))) on.to (Q ++ on.more)) inside grows' in
        record {
          h = on.y;
          g = on.f;
          st = on.st;
          en = on.en;
          operand = side.operand;
          to = on.to;
          right = on.more;
          fits = subst (λ k. IsTrue (takes k c)) led.head v.fits;
          target = λ k. ap is_target (sym (kind_bare m)) ∙ led.target k;
          stands = led.stands;
          side = subst (λ j. Spells ways S Next behind o (expr q (cond b j true) Any) side.operand x on.to on.more) inside side.spelled;
          stopped = stops_inside S Next behind det z q (cond b i true) side.operand (two_tails t.text reads.1 two) (λ k l. two_conditional t.text reads.1 two l) led.stands (two_in two i)
              (ap (λ c. edge_as_written c (behind on.to)) (two_edge two t.text plain on.st on.en m side.operand)) st grows;
          places = replaced S Next behind det (subst (λ c. Placed S Next behind (expr on.y on.i on.f) c s0 on.to) same on.placed);
          spelled = subst (λ j. Spells ways S Next behind o (expr on.y j on.f) (node K t.text plain on.st on.en (part m (part side.operand none))) s0 on.to (Q ++ on.more)) inside
              (subst (λ c. Spells ways S Next behind o (expr on.y on.i on.f) c s0 on.to (Q ++ on.more)) same on.spelled);
          grows = grows;
        }
      where
        no_chain : {op : Operator} {K : Kind} {a z q : Rank} {b : Bool} → TwoSided op K a z q b → op ≡ op_optional → ⊥
        no_chain two_binds e = cc
        no_chain two_powers e = cc
        no_chain two_assigns e = cc
