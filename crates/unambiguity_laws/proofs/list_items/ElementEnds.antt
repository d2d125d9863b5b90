-- An expression and an element of a pattern at one place end alike, where a comma or a closing sign follows; so do two elements.
use Rattle.std.proofs.Common.{◌≡◌, ℕ, suc, ◌≤◌, Bool, true, List, [], refl, sym, ap, ◌∙◌, subst, arith, ◌⊎◌, inl, inr}
use Rattle.std.specs.Prelude.{IsTrue, codes}
use Rattle.tokens.specs.declared.token.TokenClass.TheVariants.{Punctuator}
use Rattle.tokens.specs.declared.token.Goal.{Goal}
use Rattle.tokens.specs.Goals.{allows}
use Rattle.tree.specs.declared.kind.Kind.{Kind}
use Rattle.tree.specs.declared.kind.Kind.TheVariants.{AssignmentExpression, AssignmentPattern}
use Rattle.tree.specs.declared.kind.Pair.{Pair}
use Rattle.tree.specs.Tree.{Tree, node, Parts, none, part, height, parts_height, plain}
use Rattle.language.specs.declared.Rank.{Rank}
use Rattle.language.specs.declared.Rank.TheVariants.{Assignment}
use Rattle.language.specs.declared.Start.TheVariants.{Any}
use Rattle.language.specs.Pieces.{Role, expr, pattern, PieceOf}
use Rattle.language.specs.Token.{Token}
use Rattle.language.specs.ExpressionStart.{ExpressionStart, expression_start}
use Rattle.language.specs.Covers.{Reading, as_expression}
use Rattle.language.specs.Promises.{IsDetermined, ReadBy, Stops, Found}
use Rattle.language.specs.Following.{IsAlike}
use Rattle.language.specs.Grammar.{ways}
use Rattle.language.specs.Derivation.{Reads, Spells}
use Rattle.language.proofs.list_loops.FirstPieces.{run_token}
use Rattle.language.proofs.table.TokenFirstWays.{opens}
use Rattle.language.proofs.climbing.Conditionals.{same_sign}
use Rattle.language.proofs.climbing.OperatorLoop.{grows_height, whole_where_stops}
use Rattle.language.proofs.climbing.FirstTurn.{Begun, begins, core_spelled}
use Rattle.language.proofs.list_loops.CommaLists.{Separated}
use Rattle.language.proofs.covers.CoverElements.{simple_expression, Defaulted, default_expression, ElementForm, bare_pattern, bare_simple, pattern_default, simple_default}
use Rattle.language.proofs.covers.CoverEnds.{Closing, item_stops, item_quiet}
use Rattle.language.proofs.climbing.Targets.{Bracketing, by_bracket, by_brace}
use Rattle.unambiguity_laws.proofs.Unique.{Unique}
use Rattle.unambiguity_laws.proofs.cores.BracketForms.{BracketCore, as_list, as_assigned, bracket_of, literal_unassigned, right_stops, inside}
use Rattle.unambiguity_laws.proofs.list_items.BracketEnds.{Bracketed, an_array, an_object, literal_bracketed, pattern_parts, brackets_end, patterns_end}

module _ (S : Type 0) (Next : S → Token → S → Type 0) (behind : S → Token) (det : IsDetermined S Next behind) where
  -- the bracket with which such a thing begins
  data BracketAt (s : S) : Type 0 where
    bracket_at : {a : ExpressionStart} {K L : Kind} {pieces : Parts → List (PieceOf Role)} {t : Token} {m : S} → Bracketing Any a K L pieces → ReadBy S Next behind Goal.RegExp s t m → expression_start t ≡ a → BracketAt s

  bracketed_at : {x : Reading} {o : ℕ} {ps : Parts} {s e : S} {P : List Pair} → Bracketed S Next behind x o ps s e P → BracketAt s
  bracketed_at (an_array d) =
      let v = run_token S Next behind d in
      bracket_at by_bracket (record { next = v.reads.next; allowed = subst (λ c. IsTrue (allows Goal.RegExp c v.sign.text)) (sym v.reads.class) (subst (λ z. IsTrue (allows Goal.RegExp Punctuator z)) (sym v.reads.text) refl) }) (opens v.sign v.reads.class v.reads.text refl)
  bracketed_at (an_object d) =
      let v = run_token S Next behind d in
      bracket_at (by_brace refl) (record { next = v.reads.next; allowed = subst (λ c. IsTrue (allows Goal.RegExp c v.sign.text)) (sym v.reads.class) (subst (λ z. IsTrue (allows Goal.RegExp Punctuator z)) (sym v.reads.text) refl) }) (opens v.sign v.reads.class v.reads.text refl)

  -- a pattern with a default behind it
  abbrev pub WithDefault : Bool → ℕ → Tree → S → S → List Pair → Type 0
  WithDefault b = Defaulted S Next behind det (λ o' l s' e' P'. Spells ways S Next behind o' (pattern b Any) l s' e' P')

  -- What spells an element: an expression as high; a pattern; or one with a default.
  pub data Plain (o : ℕ) (n : Tree) (s e : S) (P : List Pair) : Type 0 where
    an_expression : {m : Tree} {Q : List Pair} → height m ≡ height n → Spells ways S Next behind o (expr Assignment true Any) m s e Q → Plain o n s e P
    a_pattern : (b : Bool) → Spells ways S Next behind o (pattern b Any) n s e P → Plain o n s e P
    a_default : (b : Bool) → WithDefault b o n s e P → Plain o n s e P

  pub plainly : (b : Bool) {o : ℕ} {n : Tree} {s e : S} {P : List Pair} → ElementForm S Next behind det b o n s e P → Plain o n s e P
  plainly b (bare_pattern d) = a_pattern b d
  plainly b (bare_simple v) = an_expression refl (simple_expression S Next behind det b v)
  plainly b (pattern_default v) = a_default b v
  plainly b {n = n} (simple_default v) =
      let k : height n ≡ height (node AssignmentPattern [] plain v.st v.en (part v.left (part v.right none))) = ap height v.tree in
      an_expression (sym k) (default_expression S Next behind det b v)

module _ (S : Type 0) (Next : S → Token → S → Type 0) (behind : S → Token) (det : IsDetermined S Next behind) (alike : IsAlike S Next behind) {h : ℕ} (u : Unique S Next behind det h) where
  module _ {w : List ℕ} (c : Closing w) where
    -- nothing goes on at such a place
    stopped : (n : Tree) {e : S} → Separated S Next behind det w e → Stops S Next behind Assignment true n e
    stopped n {e} sep = item_stops S Next behind det c Assignment n e refl sep

    module _ {o : ℕ} {n : Tree} {s e : S} {P : List Pair} (d : Spells ways S Next behind o (expr Assignment true Any) n s e P) (sep : Separated S Next behind det w e) where
      -- an expression whose leftmost part ends at such a place is that part
      alone : {q : Rank} {j : Bool} {m : Tree} {mid : S} {Q : List Pair} → Begun S Next behind det o s Assignment true Any n e P q j m mid Q → Separated S Next behind det w mid → e ≡ mid
      alone {m = m} b there = (whole_where_stops S Next behind det (core_spelled S Next behind b.core) (stopped m there) b.grows).place

      -- What the leftmost part is, where a pattern is spelled: an array or an object that ends with it, or an assignment to one that does.
      data Met (place : S) : Type 0 where
        literal : {q : Rank} {j : Bool} {m : Tree} {mid : S} {Q : List Pair} → Begun S Next behind det o s Assignment true Any n e P q j m mid Q → mid ≡ place → ((v : Token) (x : S) → Reads S Next behind Punctuator (codes "=") mid v x → ⊥) → Met place
        assigned : {q : Rank} {j : Bool} {m r : Tree} {mid x target : S} {Q R : List Pair} {v : Token} → Begun S Next behind det o s Assignment true Any n e P q j m mid Q → target ≡ place → Reads S Next behind Punctuator (codes "=") target v x →
            Spells ways S Next behind o (expr Assignment true Any) r x mid R → Stops S Next behind Assignment true r mid → suc (height r) ≤ height n → Met place

      meets : {b : Bool} {o' : ℕ} {m : Tree} {place : S} {Q : List Pair} → (height n ≤ suc h) ⊎ (height m ≤ suc h) → Spells ways S Next behind o' (pattern b Any) m s place Q → Met place
      meets {b} {o'} {m} {place} {Q} low p = by_bracket_at (bracketed_at S Next behind det (pattern_parts S Next behind det p).bracketed) (begins S Next behind det d (stopped n sep)).begun
        where
          of : {a : ExpressionStart} {K L : Kind} {pieces : Parts → List (PieceOf Role)} {q : Rank} {j : Bool} {m0 : Tree} {mid : S} {Q0 : List Pair} → Bracketing Any a K L pieces → ((st en : ℕ) (ps : Parts) → height (node K [] plain st en ps) ≡ suc (parts_height ps)) →
              Begun S Next behind det o s Assignment true Any n e P q j m0 mid Q0 → BracketCore S Next behind det o q j Any m0 s mid Q0 K pieces → Met place
          of {K = K} {m0 = m0} bracketing high b (as_list {st = st} {en = en} {ps = ps} tree pl dl) =
              let g = grows_height S Next behind det b.grows in
              let k : height m0 ≡ height (node K [] plain st en ps) = ap height tree in
              let k' = high st en ps in
              let inner = pattern_parts S Next behind det p in
              literal b (brackets_end S Next behind det alike u _ as_expression (either inner.high (omega arith) low) inner.bracketed (literal_bracketed S Next behind bracketing dl)) (λ v x eq. literal_unassigned S Next behind det bracketing refl b tree eq)
            where
              either : {x y : ℕ} → height m ≡ suc x → suc y ≤ height n → (height n ≤ suc h) ⊎ (height m ≤ suc h) → (x ≤ h) ⊎ (y ≤ h)
              either v w (inl l) = inr (omega arith)
              either v w (inr l) = inl (omega arith)
          of {m0 = m0} {mid = mid} bracketing high b (as_assigned {st = st} {en = en} {p = p'} {u = r} {x = x} {V = V} tree tk pl dp eq dr pairs) =
              let g = grows_height S Next behind det b.grows in
              let k : height m0 ≡ height (node AssignmentExpression (codes "=") plain st en (part p' (part r none))) = ap height tree in
              let same = inside S Next behind det b tk in
              assigned b (patterns_end S Next behind det alike u (either (omega arith) low) p dp) eq (subst (λ c. Spells ways S Next behind o (expr Assignment c Any) r x mid V) same dr) (subst (λ c. Stops S Next behind Assignment c r mid) same (right_stops S Next behind det b tree tk)) (omega arith)
            where
              either : suc (height p') ≤ height n → (height n ≤ suc h) ⊎ (height m ≤ suc h) → (height m ≤ suc h) ⊎ (height p' ≤ suc h)
              either w (inl l) = inr (omega arith)
              either w (inr l) = inl l

          by_bracket_at : {q : Rank} {j : Bool} {m0 : Tree} {mid : S} {Q0 : List Pair} → BracketAt S Next behind det s → Begun S Next behind det o s Assignment true Any n e P q j m0 mid Q0 → Met place
          by_bracket_at (bracket_at bracketing r opening) b = of bracketing (λ st en ps. refl) b (bracket_of S Next behind det bracketing r opening b.core)

      -- at the place of a pattern
      pub at_pattern : {b : Bool} {o' : ℕ} {m : Tree} {k : S} {Q : List Pair} → (height n ≤ suc h) ⊎ (height m ≤ suc h) → Spells ways S Next behind o' (pattern b Any) m s k Q → Separated S Next behind det w k → k ≡ e
      at_pattern {k = k} low p there = of (meets low p)
        where
          of : Met k → k ≡ e
          of (literal b same no_sign) = sym same ∙ sym (alone b (subst (λ v. Separated S Next behind det w v) (sym same) there))
          of (assigned {x = x} {v = v} b same eq dr st lower) = absurd (item_quiet S Next behind det c k v x there (subst (λ z. Reads S Next behind Punctuator (codes "=") z v x) same eq))

      -- at that of a pattern with a default
      pub at_default : {b : Bool} {o' : ℕ} {m : Tree} {k : S} {Q : List Pair} → (height n ≤ suc h) ⊎ (height m ≤ suc h) → WithDefault S Next behind det b o' m s k Q → Separated S Next behind det w k → k ≡ e
      at_default {b} {o'} {m} {k} {Q} low p there = of (meets (either low) p.stands)
        where
          high : height m ≡ height (node AssignmentPattern [] plain p.st p.en (part p.left (part p.right none)))
          high = ap height p.tree

          either : (height n ≤ suc h) ⊎ (height m ≤ suc h) → (height n ≤ suc h) ⊎ (height p.left ≤ suc h)
          either (inl l) = inl l
          either (inr l) = let v = high in inr (omega arith)

          rights : {r : Tree} {x mid : S} {R : List Pair} → (height n ≤ suc h) ⊎ (height m ≤ suc h) → suc (height r) ≤ height n → Spells ways S Next behind o (expr Assignment true Any) r x mid R → Stops S Next behind Assignment true r mid → Spells ways S Next behind o' (expr Assignment true Any) p.right x k p.more → mid ≡ k
          rights {r} {x} {mid} {R} (inl l) lower dr st dv = sym ((u.expressions.found (omega arith) (λ c. cc) (λ c. cc) dr st).only o' k p.right p.more dv (stopped p.right there)).0
          rights {r} {x} {mid} {R} (inr l) lower dr st dv = let v = high in ((u.expressions.found (omega arith) (λ c. cc) (λ c. cc) dv (stopped p.right there)).only o mid r R dr st).0

          of : Met p.mid → k ≡ e
          of (literal b same no_sign) = absurd (no_sign p.sign p.x (subst (λ z. Reads S Next behind Punctuator (codes "=") z p.sign p.x) (sym same) p.reads))
          of (assigned {x = x} {v = v} b same eq dr st lower) =
              let one = same_sign S Next behind det (subst (λ z. Reads S Next behind Punctuator (codes "=") z v x) same eq) p.reads refl in
              let ends = rights low lower dr st (subst (λ z. Spells ways S Next behind o' (expr Assignment true Any) p.right z k p.more) (sym one.1) p.value) in
              sym ends ∙ sym (alone b (subst (λ v. Separated S Next behind det w v) (sym ends) there))

      -- at that of a pattern, with a default or without; or where this expression is the only one
      pub found_plain : {o' : ℕ} {m : Tree} {k : S} {Q : List Pair} → Found S Next behind o Assignment true Any s e n P → height n ≤ suc h → Plain S Next behind det o' m s k Q → Separated S Next behind det w k → k ≡ e
      found_plain {o'} {m} {k} found low (an_expression {m = m'} {Q = Q'} high p) there = (found.only o' k m' Q' p (stopped m' there)).0
      found_plain found low (a_pattern b p) there = at_pattern (inl low) p there
      found_plain found low (a_default b p) there = at_default (inl low) p there
