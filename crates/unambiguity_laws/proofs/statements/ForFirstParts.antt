-- The first part of the head of a `for`, of any kind, ends at one place, and by its kind it is the only one there.
use Rattle.std.proofs.Common.{◌≡◌, ℕ, suc, ◌≤◌, Bool, true, false, cond, List, [], ◌∷◌, refl, sym, ap, ◌∙◌, subst, arith, ◌⊎◌, inl, inr}
use Rattle.std.specs.Prelude.{IsTrue, Option, Some, codes}
use Rattle.std.proofs.lemmas.Bool.{false≢true}
use Rattle.tokens.specs.declared.token.TokenClass.TheVariants.{IdentifierName, Punctuator}
use Rattle.tokens.specs.declared.token.Goal.{Goal}
use Rattle.tokens.specs.Goals.{allows}
use Rattle.tree.specs.declared.kind.Kind.{Kind}
use Rattle.tree.specs.declared.kind.Pair.{Pair}
use Rattle.tree.specs.Tree.{Tree, Parts, kind_of, height}
use Rattle.language.specs.declared.Rank.TheVariants.{Expression, LeftHandSide}
use Rattle.language.specs.declared.Start.{Start}
use Rattle.language.specs.declared.Start.TheVariants.{Any}
use Rattle.language.specs.Vocabulary.{is, is_target, is_reserved}
use Rattle.language.specs.ExpressionStart.{ExpressionStart, no_start, expression_start_by}
use Rattle.language.specs.Pieces.{Role, expr, head, pattern, bound, PieceOf}
use Rattle.language.specs.Statements.{is_declaration}
use Rattle.language.specs.Token.{Token}
use Rattle.language.specs.Promises.{is_free, IsDetermined}
use Rattle.language.specs.Following.{IsAlike}
use Rattle.language.specs.Grammar.{ways}
use Rattle.language.specs.Derivation.{Reads, Spells}
use Rattle.language.proofs.table.Begins.{among_by}
use Rattle.language.proofs.table.TokenFirstWays.{opens}
use Rattle.language.proofs.climbing.Supers.{none_begins}
use Rattle.language.proofs.climbing.OperatorLoop.{whole_where_stops}
use Rattle.language.proofs.climbing.FirstTurn.{core_spelled}
use Rattle.language.proofs.climbing.Targets.{Bracketing, by_bracket, by_brace}
use Rattle.language.proofs.covers.CoverReadings.{named_unbracketed, name_or_sign}
use Rattle.language.proofs.covers.CoverElements.{BoundForm, a_pattern, a_simple, a_name, a_target, bound_form, target_moves}
use Rattle.language.proofs.table.ForDeclarationWays.{is_declaration_word, head_form, two_signs}
use Rattle.language.proofs.covers.PatternsByToken.{PatternCore, as_array, as_object, pattern_core}
use Rattle.language.proofs.list_loops.FirstPieces.{run_token}
use Rattle.language.proofs.statements.ForHeads.{first_role, left_role}
use Rattle.unambiguity_laws.proofs.Unique.{Unique}
use Rattle.unambiguity_laws.proofs.turns.BesidePatterns.{Beside, literal, assigned, beside}
use Rattle.unambiguity_laws.proofs.statements.ForDeclarations.{HeadEnds, head_stops, head_equals, head_found, heads_end}

some_same : {a b : Role} → Some a ≡ Some b → a ≡ b
some_same e = cc

-- no expression begins with the word of a declaration
word_opens : (w : List ℕ) → is_declaration_word w ≡ true → expression_start_by IdentifierName w ≡ no_start
unfolding is_reserved
word_opens w h = among_by (λ v. expression_start_by IdentifierName v ≡ no_start) w ("var" ∷ "let" ∷ "const" ∷ []) h (refl, (refl, (refl, tt)))

literal_target : {f : Start} {a : ExpressionStart} {K L : Kind} {pieces : Parts → List (PieceOf Role)} → Bracketing f a K L pieces → is_target K ≡ false
literal_target by_bracket = refl
literal_target (by_brace h) = refl

module _ (S : Type 0) (Next : S → Token → S → Type 0) (behind : S → Token) (det : IsDetermined S Next behind) where
  -- a declaration and an expression or a pattern don't begin alike
  declared_expression : {b : Bool} {o o' : ℕ} {n m : Tree} {s e k : S} {P Q : List Pair} → Spells ways S Next behind o (head b) n s e P → Spells ways S Next behind o' (expr Expression false Any) m s k Q → ⊥
  declared_expression d x =
      let u = head_form S Next behind det d in
      none_begins S Next behind det (record { next = u.reads.next; allowed = det.free Goal.RegExp _ u.sign_token u.mid u.reads.next (ap is_free u.reads.class) }) (opens u.sign_token u.reads.class u.reads.text (word_opens u.text u.word)) x

  declared_pattern : {b : Bool} {o o' : ℕ} {n m : Tree} {s e k : S} {P Q : List Pair} → Spells ways S Next behind o (head b) n s e P → Spells ways S Next behind o' (pattern false Any) m s k Q → ⊥
  declared_pattern {o' = o'} {m = m} {k = k} {Q = Q} d x = let u = head_form S Next behind det d in (named_unbracketed S Next behind det u.reads).nothing o' k m Q x

  -- the first part of a `for` with `;`, and the left side of one with `in` or `of`
  pub data FirstPart (o : ℕ) (n : Tree) (s e : S) (P : List Pair) : Type 0 where
    first_declared : Spells ways S Next behind o (head true) n s e P → FirstPart o n s e P
    first_expression : Spells ways S Next behind o (expr Expression false Any) n s e P → FirstPart o n s e P

  pub data LeftPart (o : ℕ) (n : Tree) (s e : S) (P : List Pair) : Type 0 where
    left_declared : Spells ways S Next behind o (head false) n s e P → LeftPart o n s e P
    left_target : is_target (kind_of n) ≡ true → Spells ways S Next behind o (expr Expression false Any) n s e P → LeftPart o n s e P
    left_pattern : Spells ways S Next behind o (pattern false Any) n s e P → LeftPart o n s e P

  pub first_part : {a : Role} {o : ℕ} (n : Tree) {s e : S} {P : List Pair} → first_role (kind_of n) ≡ Some a → Spells ways S Next behind o a n s e P → FirstPart o n s e P
  first_part {a} {o} n {s} {e} {P} h d = of (is_declaration (kind_of n)) h
    where
      of : (b : Bool) → ◌≡◌ {A = Option Role} (Some (cond b (head true) (expr Expression false Any))) (Some a) → FirstPart o n s e P
      of true k = first_declared (subst (λ c. Spells ways S Next behind o c n s e P) (sym (some_same k)) d)
      of false k = first_expression (subst (λ c. Spells ways S Next behind o c n s e P) (sym (some_same k)) d)

  pub left_part : {a : Role} {o : ℕ} (n : Tree) {s e : S} {P : List Pair} → left_role (kind_of n) ≡ Some a → Spells ways S Next behind o a n s e P → LeftPart o n s e P
  left_part {a} {o} n {s} {e} {P} h d = of (is_declaration (kind_of n)) h
    where
      by : BoundForm S Next behind det false o n s e P → LeftPart o n s e P
      by (a_pattern p) = left_pattern p
      by (a_simple (a_name b p)) = cc
      by (a_simple (a_target b t p)) = left_target t (target_moves S Next behind det LeftHandSide Expression refl refl refl t p)

      of : (b : Bool) → cond b (Some (head false)) (bound false (kind_of n)) ≡ Some a → LeftPart o n s e P
      of true k = left_declared (subst (λ c. Spells ways S Next behind o c n s e P) (sym (some_same k)) d)
      of false k = by (bound_form S Next behind det false n k d)

  -- of any kind
  pub data HeadPart (o : ℕ) (n : Tree) (s e : S) (P : List Pair) : Type 0 where
    a_declaration : (b : Bool) → Spells ways S Next behind o (head b) n s e P → HeadPart o n s e P
    an_expression : Spells ways S Next behind o (expr Expression false Any) n s e P → HeadPart o n s e P
    a_bare_pattern : Spells ways S Next behind o (pattern false Any) n s e P → HeadPart o n s e P

  pub of_first : {o : ℕ} {n : Tree} {s e : S} {P : List Pair} → FirstPart o n s e P → HeadPart o n s e P
  of_first (first_declared d) = a_declaration true d
  of_first (first_expression d) = an_expression d

  pub of_left : {o : ℕ} {n : Tree} {s e : S} {P : List Pair} → LeftPart o n s e P → HeadPart o n s e P
  of_left (left_declared d) = a_declaration false d
  of_left (left_target t d) = an_expression d
  of_left (left_pattern d) = a_bare_pattern d

  -- none begins with `;`
  pub head_part_begins : {o : ℕ} {n : Tree} {s e m : S} {P : List Pair} {t : Token} → HeadPart o n s e P → Reads S Next behind Punctuator (codes ";") s t m → ⊥
  head_part_begins (a_declaration b d) r = name_or_sign S Next behind det refl (head_form S Next behind det d).reads r
  head_part_begins {t = t} (an_expression d) r =
      let al : IsTrue (allows Goal.RegExp t.class t.text) = subst (λ c. IsTrue (allows Goal.RegExp c t.text)) (sym r.class) (subst (λ z. IsTrue (allows Goal.RegExp Punctuator z)) (sym r.text) refl) in
      none_begins S Next behind det (record { next = r.next; allowed = al }) (opens t r.class r.text refl) d
  head_part_begins {s = s} {m = m} {t = t} (a_bare_pattern d) r = of (pattern_core S Next behind det d)
    where
      of : {o : ℕ} {n : Tree} {e : S} {P : List Pair} → PatternCore S Next behind det o false Any n s e P → ⊥
      of (as_array tree pl q) = false≢true (ap (λ w. is w "[") (two_signs S Next behind det refl refl r (run_token S Next behind q).reads).0)
      of (as_object tree b pl q) = false≢true (ap (λ w. is w "{") (two_signs S Next behind det refl refl r (run_token S Next behind q).reads).0)

module _ (S : Type 0) (Next : S → Token → S → Type 0) (behind : S → Token) (det : IsDetermined S Next behind) (alike : IsAlike S Next behind) {h : ℕ} (u : Unique S Next behind det h) where
  -- an expression beside a pattern ends where it does, and is no simple target
  crossed : {o o' : ℕ} {n p : Tree} {s e k : S} {P R : List Pair} → (height p ≤ suc h) ⊎ (height n ≤ suc h) → Spells ways S Next behind o' (pattern false Any) p s k R → HeadEnds S Next behind det k → Spells ways S Next behind o (expr Expression false Any) n s e P → HeadEnds S Next behind det e →
      (e ≡ k) × (is_target (kind_of n) ≡ false)
  crossed {o} {o'} {n} {p} {s} {e} {k} {P} {R} low target there d ends = of (beside S Next behind det alike u low target d (head_stops S Next behind det n e ends))
    where
      of : Beside S Next behind det o Expression false n s e P k → (e ≡ k) × (is_target (kind_of n) ≡ false)
      of (literal {m = m} is b tree at) =
          let z = whole_where_stops S Next behind det (core_spelled S Next behind b.core) (head_stops S Next behind det m _ (subst (HeadEnds S Next behind det) (sym at) there)) b.grows in
          (z.place ∙ at, ap (λ c. is_target (kind_of c)) (z.tree ∙ tree) ∙ literal_target is)
      of (assigned {x = x} {t = t} b tree tk left eq at) = absurd (head_equals S Next behind det there (subst (λ c. Reads S Next behind Punctuator (codes "=") c t x) at eq))

  -- two parts end alike
  pub parts_end : {o o' : ℕ} {n m : Tree} {s e k : S} {P Q : List Pair} → height n ≤ h → HeadPart S Next behind det o n s e P → HeadEnds S Next behind det e → HeadPart S Next behind det o' m s k Q → HeadEnds S Next behind det k → k ≡ e
  parts_end low (a_declaration b d) ends (a_declaration c d') ends' = heads_end S Next behind det alike u b c low d ends d' ends'
  parts_end {o' = o'} {n} {m} {e = e} {k} {Q = Q} low (an_expression d) ends (an_expression d') ends' = ((u.expressions.found low (λ z. cc) (λ z. cc) d (head_stops S Next behind det n e ends)).only o' k m Q d' (head_stops S Next behind det m k ends')).0
  parts_end {o' = o'} {m = m} {k = k} {Q = Q} low (a_bare_pattern d) ends (a_bare_pattern d') ends' = ((u.closed refl low d).only o' k m Q d').0
  parts_end low (an_expression d) ends (a_bare_pattern d') ends' = sym (crossed (inr (omega arith)) d' ends' d ends).0
  parts_end low (a_bare_pattern d) ends (an_expression d') ends' = (crossed (inl (omega arith)) d ends d' ends').0
  parts_end low (a_declaration b d) ends (an_expression d') ends' = absurd (declared_expression S Next behind det d d')
  parts_end low (a_declaration b d) ends (a_bare_pattern d') ends' = absurd (declared_pattern S Next behind det d d')
  parts_end low (an_expression d') ends (a_declaration b d) ends' = absurd (declared_expression S Next behind det d d')
  parts_end low (a_bare_pattern d') ends (a_declaration b d) ends' = absurd (declared_pattern S Next behind det d d')

  -- two of the same kind are the same
  pub first_unique : {o o' : ℕ} {n m : Tree} {s e k : S} {P Q : List Pair} → height n ≤ h → FirstPart S Next behind det o n s e P → HeadEnds S Next behind det e → FirstPart S Next behind det o' m s k Q → HeadEnds S Next behind det k → (k ≡ e) × (m ≡ n) × (Q ≡ P)
  first_unique {o' = o'} {m = m} {k = k} {Q = Q} low (first_declared d) ends (first_declared d') ends' = (head_found S Next behind det alike u true low d ends).only o' k m Q d' ends'
  first_unique {o' = o'} {n} {m} {e = e} {k} {Q = Q} low (first_expression d) ends (first_expression d') ends' = (u.expressions.found low (λ z. cc) (λ z. cc) d (head_stops S Next behind det n e ends)).only o' k m Q d' (head_stops S Next behind det m k ends')
  first_unique low (first_declared d) ends (first_expression d') ends' = absurd (declared_expression S Next behind det d d')
  first_unique low (first_expression d') ends (first_declared d) ends' = absurd (declared_expression S Next behind det d d')

  pub left_unique : {o o' : ℕ} {n m : Tree} {s e k : S} {P Q : List Pair} → height n ≤ h → LeftPart S Next behind det o n s e P → HeadEnds S Next behind det e → LeftPart S Next behind det o' m s k Q → HeadEnds S Next behind det k → (k ≡ e) × (m ≡ n) × (Q ≡ P)
  left_unique {o' = o'} {m = m} {k = k} {Q = Q} low (left_declared d) ends (left_declared d') ends' = (head_found S Next behind det alike u false low d ends).only o' k m Q d' ends'
  left_unique {o' = o'} {n} {m} {e = e} {k} {Q = Q} low (left_target t d) ends (left_target t' d') ends' = (u.expressions.found low (λ z. cc) (λ z. cc) d (head_stops S Next behind det n e ends)).only o' k m Q d' (head_stops S Next behind det m k ends')
  left_unique {o' = o'} {m = m} {k = k} {Q = Q} low (left_pattern d) ends (left_pattern d') ends' = (u.closed refl low d).only o' k m Q d'
  left_unique low (left_target t d) ends (left_pattern d') ends' = absurd (false≢true (sym (crossed (inr (omega arith)) d' ends' d ends).1 ∙ t))
  left_unique low (left_pattern d) ends (left_target t d') ends' = absurd (false≢true (sym (crossed (inl (omega arith)) d ends d' ends').1 ∙ t))
  left_unique low (left_declared d) ends (left_target t d') ends' = absurd (declared_expression S Next behind det d d')
  left_unique low (left_declared d) ends (left_pattern d') ends' = absurd (declared_pattern S Next behind det d d')
  left_unique low (left_target t d') ends (left_declared d) ends' = absurd (declared_expression S Next behind det d d')
  left_unique low (left_pattern d') ends (left_declared d) ends' = absurd (declared_pattern S Next behind det d d')
