-- Expressions where a pattern stands: they begin with an array or an object that ends where the pattern does, or with an assignment to a pattern that does.
use Rattle.std.proofs.Common.{◌≡◌, ℕ, suc, ◌≤◌, Bool, true, false, List, [], refl, sym, ap, ◌∙◌, subst, arith, ◌⊎◌, inl, inr}
use Rattle.std.specs.Prelude.{IsTrue, codes, ◌&&◌, ◌||◌}
use Rattle.std.proofs.lemmas.Bool.{false≢true}
use Rattle.tokens.specs.declared.token.TokenClass.TheVariants.{Punctuator}
use Rattle.tokens.specs.declared.token.Goal.{Goal}
use Rattle.tokens.specs.Goals.{allows}
use Rattle.tree.specs.declared.kind.Kind.{Kind}
use Rattle.tree.specs.declared.kind.Kind.TheVariants.{ArrayExpression, ObjectExpression, ArrayPattern, ObjectPattern, AssignmentExpression}
use Rattle.tree.specs.declared.kind.Pair.{Pair}
use Rattle.tree.specs.Tree.{Tree, node, Parts, none, part, kind_of, height, parts_height, plain}
use Rattle.language.specs.declared.Rank.{Rank}
use Rattle.language.specs.declared.Rank.TheVariants.{Assignment, LeftHandSide}
use Rattle.language.specs.declared.Start.{Start}
use Rattle.language.specs.declared.Start.TheVariants.{Any}
use Rattle.language.specs.Vocabulary.{takes, is_target, is_pattern}
use Rattle.language.specs.Pieces.{Role, expr, pattern, PieceOf}
use Rattle.language.specs.Token.{Token}
use Rattle.language.specs.ExpressionStart.{ExpressionStart, with_bracket, with_brace, expression_start}
use Rattle.language.specs.Covers.{Reading, as_expression, as_pattern}
use Rattle.language.specs.Promises.{IsDetermined, ReadBy, Stops}
use Rattle.language.specs.Following.{IsAlike}
use Rattle.language.specs.Grammar.{ways}
use Rattle.language.specs.Derivation.{Reads, Spells}
use Rattle.language.proofs.table.TokenFirstWays.{opens}
use Rattle.language.proofs.list_loops.FirstPieces.{run_token}
use Rattle.language.proofs.climbing.Targets.{array_parts, object_parts, Bracketing, by_bracket, by_brace, pattern_is}
use Rattle.language.proofs.climbing.OperatorLoop.{grows_height, whole_where_stops}
use Rattle.language.proofs.climbing.FirstTurn.{Begun, begins, core_spelled}
use Rattle.language.proofs.list_loops.CommaLists.{Separated}
use Rattle.language.proofs.covers.CoverEnds.{Closing, item_stops, item_quiet}
use Rattle.language.proofs.covers.CoverElements.{is_simple}
use Rattle.language.proofs.covers.CoverItems.{simply, Unlike}
use Rattle.unambiguity_laws.proofs.Unique.{Unique}
use Rattle.unambiguity_laws.proofs.cores.BracketForms.{BracketCore, as_list, as_assigned, bracket_of, literal_unassigned, right_stops, inside}
use Rattle.unambiguity_laws.proofs.list_items.BracketEnds.{Bracketed, an_array, an_object, literal_bracketed, pattern_parts, brackets_end, patterns_end}

-- an array and an object are neither simple targets nor assignments
literal_plain : {f : Start} {a : ExpressionStart} {K L : Kind} {pieces : Parts → List (PieceOf Role)} (b : Bool) (st en : ℕ) (ps : Parts) → Bracketing f a K L pieces → simply b (node K [] plain st en ps) ≡ false
literal_plain true st en ps by_bracket = refl
literal_plain false st en ps by_bracket = refl
literal_plain true st en ps (by_brace h) = refl
literal_plain false st en ps (by_brace h) = refl

literal_target : {f : Start} {a : ExpressionStart} {K L : Kind} {pieces : Parts → List (PieceOf Role)} → Bracketing f a K L pieces → is_target K ≡ false
literal_target by_bracket = refl
literal_target (by_brace h) = refl

-- a pattern is no simple target
pattern_plain : (b : Bool) (k : Kind) → is_pattern k ≡ true → is_simple b k ≡ false
pattern_plain true ArrayPattern h = refl
pattern_plain true ObjectPattern h = refl
pattern_plain false ArrayPattern h = refl
pattern_plain false ObjectPattern h = refl
pattern_plain b _ h = cc

assigned_plain : (b : Bool) (x : Bool) → x ≡ false → (is_simple b AssignmentExpression || (true && x)) ≡ false
assigned_plain true x h = h
assigned_plain false x h = h

module _ (S : Type 0) (Next : S → Token → S → Type 0) (behind : S → Token) (det : IsDetermined S Next behind) where
  -- the sign with which a pattern begins
  record BracketStart (s : S) : Type 0 where
    opening : ExpressionStart
    kind : Kind
    other : Kind
    pieces : Parts → List (PieceOf Role)
    bracketing : Bracketing Any opening kind other pieces
    sign : Token
    mid : S
    read : ReadBy S Next behind Goal.RegExp s sign mid
    opens_with : expression_start sign ≡ opening

  operand : {w : List ℕ} {s m : S} {t : Token} → Reads S Next behind Punctuator w s t m → IsTrue (allows Goal.RegExp Punctuator w) → ReadBy S Next behind Goal.RegExp s t m
  operand {t = t} r al = record { next = r.next; allowed = subst (λ c. IsTrue (allows Goal.RegExp c t.text)) (sym r.class) (subst (λ c. IsTrue (allows Goal.RegExp Punctuator c)) (sym r.text) al) }

  bracket_start : {x : Reading} {o : ℕ} {ps : Parts} {s e : S} {P : List Pair} → Bracketed S Next behind x o ps s e P → BracketStart s
  bracket_start (an_array d) = let v = run_token S Next behind d in record { opening = with_bracket; kind = ArrayExpression; other = ArrayPattern; pieces = array_parts; bracketing = by_bracket; sign = v.sign; mid = v.mid; read = operand v.reads refl; opens_with = opens v.sign v.reads.class v.reads.text refl }
  bracket_start (an_object d) = let v = run_token S Next behind d in record { opening = with_brace; kind = ObjectExpression; other = ObjectPattern; pieces = object_parts; bracketing = by_brace refl; sign = v.sign; mid = v.mid; read = operand v.reads refl; opens_with = opens v.sign v.reads.class v.reads.text refl }

  -- What an expression begins with where a pattern ends at k.
  pub data Beside (o : ℕ) (y : Rank) (i : Bool) (n : Tree) (s e : S) (P : List Pair) (k : S) : Type 0 where
    literal : {a : ExpressionStart} {K L : Kind} {pieces : Parts → List (PieceOf Role)} {q : Rank} {j : Bool} {m : Tree} {mid : S} {Q : List Pair} {st en : ℕ} {ps : Parts} → Bracketing Any a K L pieces → Begun S Next behind det o s y i Any n e P q j m mid Q → m ≡ node K [] plain st en ps → mid ≡ k →
        Beside o y i n s e P k
    assigned : {q : Rank} {j : Bool} {m : Tree} {mid : S} {Q : List Pair} {st en : ℕ} {p v : Tree} {place x : S} {t : Token} {R : List Pair} → Begun S Next behind det o s y i Any n e P q j m mid Q → m ≡ node AssignmentExpression (codes "=") plain st en (part p (part v none)) → IsTrue (takes q Assignment) →
        Spells ways S Next behind o (pattern false Any) p s place R → Reads S Next behind Punctuator (codes "=") place t x → place ≡ k → Beside o y i n s e P k

module _ (S : Type 0) (Next : S → Token → S → Type 0) (behind : S → Token) (det : IsDetermined S Next behind) (alike : IsAlike S Next behind) {h : ℕ} (u : Unique S Next behind det h) where
  -- one of the two is no higher
  pub beside : {b : Bool} {f : Start} {o o' : ℕ} {y : Rank} {i : Bool} {n p : Tree} {s e k : S} {P R : List Pair} → (height p ≤ suc h) ⊎ (height n ≤ suc h) → Spells ways S Next behind o' (pattern b f) p s k R → Spells ways S Next behind o (expr y i Any) n s e P → Stops S Next behind y i n e →
      Beside S Next behind det o y i n s e P k
  beside {b} {f} {o} {o'} {y} {i} {n} {p} {s} {e} {k} {P} {R} low target d st =
      let there = pattern_parts S Next behind det target in
      let start = bracket_start S Next behind det there.bracketed in
      let v = begins S Next behind det d st in
      of start.bracketing there.high there.bracketed v.begun (grows_height S Next behind det v.begun.grows) (bracket_of S Next behind det start.bracketing start.read start.opens_with v.begun.core)
    where
      of : {a : ExpressionStart} {K L : Kind} {pieces : Parts → List (PieceOf Role)} {q : Rank} {j : Bool} {m : Tree} {mid : S} {Q : List Pair} {qs : Parts} → Bracketing Any a K L pieces → height p ≡ suc (parts_height qs) → Bracketed S Next behind (as_pattern b) o' qs s k R → Begun S Next behind det o s y i Any n e P q j m mid Q → height m ≤ height n →
          BracketCore S Next behind det o q j Any m s mid Q K pieces → Beside S Next behind det o y i n s e P k
      of {K = K} {m = m} {qs = qs} is high bracketed begun lower (as_list {st = st} {en = en} {ps = ps} tree pl r) = literal is begun tree (brackets_end S Next behind det alike u (as_pattern b) as_expression (either low) bracketed (literal_bracketed S Next behind is r))
        where
          either : (height p ≤ suc h) ⊎ (height n ≤ suc h) → (parts_height qs ≤ h) ⊎ (parts_height ps ≤ h)
          either (inl l) = inl (omega arith)
          either (inr l) = let same : height m ≡ height (node K [] plain st en ps) = ap height tree in inr (omega arith)
      of {m = m} is high bracketed begun lower (as_assigned {st = st} {en = en} {p = l} {u = v} tree tk pl left eq right z) = assigned begun tree tk left eq (patterns_end S Next behind det alike u (either low) target left)
        where
          either : (height p ≤ suc h) ⊎ (height n ≤ suc h) → (height p ≤ suc h) ⊎ (height l ≤ suc h)
          either (inl l) = inl l
          either (inr c) = let same : height m ≡ height (node AssignmentExpression (codes "=") plain st en (part l (part v none))) = ap height tree in inr (omega arith)

  -- no pattern stands before what can't follow a literal where a simple target is read
  pub no_target_beside : {b : Bool} {f : Start} {o o' : ℕ} {n p : Tree} {s e k : S} {P R : List Pair} → (height p ≤ suc h) ⊎ (height n ≤ suc h) → Spells ways S Next behind o' (pattern b f) p s k R → ((m : Tree) → Stops S Next behind LeftHandSide true m k) → is_target (kind_of n) ≡ true →
      Spells ways S Next behind o (expr LeftHandSide true Any) n s e P → Stops S Next behind LeftHandSide true n e → ⊥
  no_target_beside {o = o} {n = n} {s = s} {e} {k} {P} low target at_end is d st = of (beside low target d st)
    where
      of : Beside S Next behind det o LeftHandSide true n s e P k → ⊥
      of (literal {m = m} bracketing b tree there) =
          let ended = whole_where_stops S Next behind det (core_spelled S Next behind b.core) (subst (λ c. Stops S Next behind LeftHandSide true m c) (sym there) (at_end m)) b.grows in
          false≢true (sym (literal_target bracketing) ∙ sym (ap (λ c. is_target (kind_of c)) (ended.tree ∙ tree)) ∙ is)
      of (assigned b tree tk left eq there) = let clash = b.reached.taken Assignment tk in cc

  -- beside a pattern that stands alone nothing is a simple target or an assignment to one
  pub unlike_alone : {b : Bool} {f : Start} {o : ℕ} {p : Tree} {s k : S} {R : List Pair} {w : List ℕ} → Closing w → height p ≤ suc h → Spells ways S Next behind o (pattern b f) p s k R → Separated S Next behind det w k → Unlike S Next behind (Separated S Next behind det w) b s
  unlike_alone {b} {s = s} {k} {w = w} c low target at_end o' e' n' P' d ends = of (beside (inl low) target d (item_stops S Next behind det c Assignment n' e' refl ends))
    where
      of : Beside S Next behind det o' Assignment true n' s e' P' k → simply b n' ≡ false
      of (literal {m = m} {st = st} {en = en} {ps = ps} bracketing begun tree there) =
          let ended = whole_where_stops S Next behind det (core_spelled S Next behind begun.core) (item_stops S Next behind det c Assignment m _ refl (subst (λ z. Separated S Next behind det w z) (sym there) at_end)) begun.grows in
          ap (simply b) (ended.tree ∙ tree) ∙ literal_plain b st en ps bracketing
      of (assigned {x = x} {t = t} begun tree tk left eq there) = absurd (item_quiet S Next behind det c k t x at_end (subst (λ z. Reads S Next behind Punctuator (codes "=") z t x) there eq))

  -- nor beside one that is assigned to
  pub unlike_assigned : {b : Bool} {f : Start} {o : ℕ} {p : Tree} {s k x : S} {t : Token} {R : List Pair} {w : List ℕ} → Closing w → height p ≤ suc h → Spells ways S Next behind o (pattern b f) p s k R → Reads S Next behind Punctuator (codes "=") k t x → Unlike S Next behind (Separated S Next behind det w) b s
  unlike_assigned {b} {s = s} {k} {x} {t} {w = w} c low target eq o' e' n' P' d ends = of (beside (inl low) target d (item_stops S Next behind det c Assignment n' e' refl ends))
    where
      of : Beside S Next behind det o' Assignment true n' s e' P' k → simply b n' ≡ false
      of (literal bracketing begun tree there) = absurd (literal_unassigned S Next behind det bracketing refl begun tree (subst (λ z. Reads S Next behind Punctuator (codes "=") z t x) (sym there) eq))
      of (assigned {j = j} {m = m} {mid = mid} {p = p} {v = v} begun tree tk left eq' there) =
          let right : Stops S Next behind Assignment true v mid = subst (λ z. Stops S Next behind Assignment z v mid) (inside S Next behind det begun tk) (right_stops S Next behind det begun tree tk) in
          let ended = whole_where_stops S Next behind det (core_spelled S Next behind begun.core) (subst (λ z. Stops S Next behind Assignment true z mid) (sym tree) (record { before = right.before; apart = right.apart })) begun.grows in
          ap (simply b) (ended.tree ∙ tree) ∙ assigned_plain b (is_simple b (kind_of p)) (pattern_plain b (kind_of p) (pattern_is S Next behind left))
