-- What stands in an object or its pattern is the only thing there, by each reading: a value behind its key, a name, a name with a default, a
-- method, a getter or setter, a spread, a rest (ECMA-262 12.2.6, 12.15.5, 13.3.3).
use Rattle.std.proofs.Common.{◌≡◌, ℕ, suc, ◌≤◌, Bool, true, false, cond, List, [], ◌++◌, refl, sym, ap, ◌∙◌, subst, arith}
use Rattle.std.specs.Prelude.{Option, Some, codes}
use Rattle.std.proofs.lemmas.Bool.{false≢true}
use Rattle.tokens.specs.declared.token.TokenClass.TheVariants.{IdentifierName, Punctuator}
use Rattle.tokens.specs.declared.token.Goal.TheVariants.{Div}
use Rattle.tree.specs.declared.kind.Kind.{Kind}
use Rattle.tree.specs.declared.kind.Kind.TheVariants.{Identifier, Property, SpreadElement, RestElement, AssignmentPattern}
use Rattle.tree.specs.declared.kind.Form.{Form}
use Rattle.tree.specs.declared.kind.Form.TheVariants.{Init, Set, Method, Shorthand, Generator, Async, AsyncGenerator}
use Rattle.tree.specs.declared.kind.Pair.{Pair}
use Rattle.tree.specs.Tree.{Tree, node, none, part, kind_of, height, plain}
use Rattle.language.specs.declared.Rank.TheVariants.{Assignment}
use Rattle.language.specs.declared.Start.TheVariants.{Any}
use Rattle.language.specs.Vocabulary.{is, is_reserved}
use Rattle.language.specs.Pieces.{Role, expr, name, key, method, spread, element, rest, with_default}
use Rattle.language.specs.Token.{Token}
use Rattle.language.specs.Covers.{Reading, as_expression, as_pattern, element_as, property_as, FoundItem}
use Rattle.language.specs.Promises.{is_free, IsDetermined, Found, FoundAt}
use Rattle.language.specs.Following.{IsAlike}
use Rattle.language.specs.Grammar.{ways}
use Rattle.language.specs.Derivation.{Reads, Spells, Placed, placed}
use Rattle.language.proofs.climbing.BinaryTurns.{same_node}
use Rattle.language.proofs.climbing.Conditionals.{stops_before, same_sign}
use Rattle.language.proofs.climbing.Leaves.{OneToken, name_form}
use Rattle.language.proofs.table.PropertyNameWays.{key_kind, key_free, key_form, is_accessor, name_key_found}
use Rattle.language.proofs.list_loops.CommaLists.{Separated}
use Rattle.language.proofs.covers.CoverElements.{bound_defaults, BoundForm, a_pattern, a_simple, a_name, a_target, Defaulted, default_core}
use Rattle.language.proofs.covers.CoverSpreads.{default_no_rest, Dotted, spread_form, RestForm, rest_form}
use Rattle.language.proofs.covers.CoverReadings.{name_or_sign, named_unbracketed}
use Rattle.language.proofs.table.ForDeclarationWays.{two_signs}
use Rattle.language.proofs.covers.CoverProperties.{flags_as, accessor_word, KeyAt, plain_key, computed_key, Valued, Short, Called, PropertyAt, by_value, by_name, by_method, by_star, by_async, by_async_star, by_accessor, PatternPropertyAt, with_value, with_name, with_element, property_at, pattern_property_at}
use Rattle.language.proofs.covers.CoverKeys.{KeyFound, key_at_sign, plain_key_found, computed_key_found, echo_form}
use Rattle.language.proofs.covers.CoverObjects.{Mark, form_as, short_ends, star_bracket, value_as, property_role, pair_found, shorthand_found, initialized_found}
use Rattle.language.proofs.covers.CoverMethods.{method_found, accessor_found}
use Rattle.language.proofs.covers.CoverEnds.{a_brace, item_stops, item_marks}
use Rattle.language.proofs.table.KindViews.{InObject, a_spread, a_property, in_object, InPattern, a_rest, a_property_there, in_pattern}
use Rattle.unambiguity_laws.proofs.Unique.{Unique}

dots_bracket : codes "..." ≡ codes "[" → ⊥
dots_bracket e = false≢true (sym (ap (λ w. is w "...") e))

colon_bracket : codes ":" ≡ codes "[" → ⊥
colon_bracket e = false≢true (sym (ap (λ w. is w ":") e))

colon_star : codes ":" ≡ codes "*" → ⊥
colon_star e = false≢true (sym (ap (λ w. is w ":") e))

call_bracket : codes "(" ≡ codes "[" → ⊥
call_bracket e = false≢true (sym (ap (λ w. is w "(") e))

call_star : codes "(" ≡ codes "*" → ⊥
call_star e = false≢true (sym (ap (λ w. is w "(") e))

-- a getter's or setter's word isn't `async`
pub unlike_async : (f : Form) → accessor_word f ≡ codes "async" → ⊥
unlike_async Set e = false≢true (ap (λ w. is w "async") e)
unlike_async _ e = false≢true (ap (λ w. is w "async") e)

some_same : {a b : Role} → Some a ≡ Some b → a ≡ b
some_same e = cc

-- what may have a default is an element
as_element : (b : Bool) (k : Kind) {a : Role} → with_default b k ≡ Some a → element_as (as_pattern b) k ≡ Some a
as_element b k h = ap (λ c. cond c (Some (rest b false)) (with_default b k)) (default_no_rest b k h) ∙ h

module _ (S : Type 0) (Next : S → Token → S → Type 0) (behind : S → Token) (det : IsDetermined S Next behind) where
  -- the item that is found is the one that is given
  pub given : {Ends : S → Type 0} {r : Kind → Option Role} {a : Role} {o : ℕ} {m n : Tree} {s k e : S} {P Q : List Pair} → FoundItem S Next behind Ends r o s k m Q → r (kind_of n) ≡ Some a → Spells ways S Next behind o a n s e P → Ends e → FoundItem S Next behind Ends r o s e n P
  given {a = a} {o = o} {n = n} {e = e} {P = P} found it d ends =
      let is = found.only o a e n P it d ends in
      record { role = a; it_is = it; spelled = d; only = λ o' a' e' n' P' h' d' ends'. (let same = found.only o' a' e' n' P' h' d' ends' in (same.0 ∙ sym is.0, same.1 ∙ sym is.1, same.2 ∙ sym is.2)) }

  -- a key of one token
  key_found : {o : ℕ} {n : Tree} {s e : S} {P : List Pair} → Spells ways S Next behind o key n s e P → FoundAt S Next behind o key s e n P
  key_found {s = s} {e = e} d = record {
    spelled = d;
    only = λ o' e' n' P' d'.
        let u = key_form S Next behind det d in
        let v = key_form S Next behind det d' in
        let same = det.same Div s v.leaf.sign u.leaf.sign e' e v.leaf.reads.next u.leaf.reads.next (det.free Div s v.leaf.sign e' v.leaf.reads.next (ap is_free v.leaf.reads.class ∙ key_free v.class v.is_key)) (det.free Div s u.leaf.sign e u.leaf.reads.next (ap is_free u.leaf.reads.class ∙ key_free u.class u.is_key)) in
        let class : v.class ≡ u.class = sym v.leaf.reads.class ∙ ap (λ (t : Token). t.class) same.0 ∙ u.leaf.reads.class in
        let text : v.leaf.text ≡ u.leaf.text = sym v.leaf.reads.text ∙ ap (λ (t : Token). t.text) same.0 ∙ u.leaf.reads.text in
        (same.1, v.leaf.tree ∙ same_node (ap key_kind class) text refl (ap (λ (t : Token). t.start) same.0) (ap (λ z. (behind z).stop) same.1) refl ∙ sym u.leaf.tree, v.leaf.pairs ∙ sym u.leaf.pairs);
  }

  star_no_dots : codes "*" ≡ codes "..." → ⊥
  star_no_dots e = cc

  no_dots_at_key : {c : Bool} {o : ℕ} {n : Tree} {s e k : S} {P : List Pair} {t : Token} → KeyAt S Next behind det o n s e P c → Reads S Next behind Punctuator (codes "...") s t k → ⊥
  no_dots_at_key d = key_at_sign S Next behind det refl refl dots_bracket d

  -- no property begins with `...`
  module _ {s x : S} {t : Token} (dots : Reads S Next behind Punctuator (codes "...") s t x) where
    no_property : {o : ℕ} {n : Tree} {e : S} {P : List Pair} → PropertyAt S Next behind det o n s e P → ⊥
    no_property (by_value u) = no_dots_at_key u.key dots
    no_property (by_name u) = name_or_sign S Next behind det refl (echo_form S Next behind det u.echoes).reads dots
    no_property (by_method u) = no_dots_at_key u.key dots
    no_property (by_star star u) = absurd (star_no_dots (two_signs S Next behind det refl refl star dots).0)
    no_property (by_async word nx same_line u) = name_or_sign S Next behind det refl word dots
    no_property (by_async_star word star same_line u) = name_or_sign S Next behind det refl word dots
    no_property (by_accessor f h word u) = name_or_sign S Next behind det refl word dots

    no_pattern_property : {b : Bool} {o : ℕ} {n : Tree} {e : S} {P : List Pair} → PatternPropertyAt S Next behind det b o n s e P → ⊥
    no_pattern_property (with_value u) = no_dots_at_key u.key dots
    no_pattern_property (with_name u) = name_or_sign S Next behind det refl (echo_form S Next behind det u.echoes).reads dots
    no_pattern_property (with_element u) = name_or_sign S Next behind det refl (echo_form S Next behind det u.echoes).reads dots

    -- so what stands there is a spread, or a rest
    spread_at : {o : ℕ} {a : Role} (n : Tree) {e : S} {P : List Pair} → property_as as_expression (kind_of n) ≡ Some a → Spells ways S Next behind o a n s e P → (u : Dotted S Next behind det SpreadElement o n s e P) × (u.role ≡ expr Assignment true Any)
    spread_at {o} {a} (node k w g st en ps) {e} {P} h d = of (in_object k h) h d
      where
        of : {k : Kind} → InObject k → property_as as_expression k ≡ Some a → Spells ways S Next behind o a (node k w g st en ps) s e P → (u : Dotted S Next behind det SpreadElement o (node k w g st en ps) s e P) × (u.role ≡ expr Assignment true Any)
        of a_spread h d = spread_form S Next behind det (subst (λ z. Spells ways S Next behind o z (node SpreadElement w g st en ps) s e P) (sym (some_same h)) d)
        of a_property h d = absurd (no_property (property_at S Next behind det (subst (λ z. Spells ways S Next behind o z (node Property w g st en ps) s e P) (sym (some_same h)) d)))

    rest_at : (b : Bool) {o : ℕ} {a : Role} (n : Tree) {e : S} {P : List Pair} → property_as (as_pattern b) (kind_of n) ≡ Some a → Spells ways S Next behind o a n s e P → RestForm S Next behind det b true o n s e P
    rest_at b {o} {a} (node k w g st en ps) {e} {P} h d = of (in_pattern b k h) h d
      where
        of : {k : Kind} → InPattern k → property_as (as_pattern b) k ≡ Some a → Spells ways S Next behind o a (node k w g st en ps) s e P → RestForm S Next behind det b true o (node k w g st en ps) s e P
        of a_rest h d = rest_form S Next behind det (subst (λ z. Spells ways S Next behind o z (node RestElement w g st en ps) s e P) (sym (some_same h)) d)
        of a_property_there h d = absurd (no_pattern_property (pattern_property_at S Next behind det b (subst (λ z. Spells ways S Next behind o z (node Property w g st en ps) s e P) (sym (some_same h)) d)))

  -- two nodes with `...` before the same part at one place are one
  dotted_same : {K : Kind} {o o' : ℕ} {n n' : Tree} {s e e' : S} {P P' : List Pair} (v : Dotted S Next behind det K o' n' s e' P') (u : Dotted S Next behind det K o n s e P) → e' ≡ e → v.inner ≡ u.inner → n' ≡ n
  dotted_same v u h k = v.tree ∙ same_node refl refl refl (sym v.starts ∙ ap (λ (t : Token). t.start) (same_sign S Next behind det v.reads u.reads refl).0 ∙ u.starts) (sym v.stops ∙ ap (λ c. (behind c).stop) h ∙ u.stops) (ap (λ c. part c none) k) ∙ sym u.tree

  dotted_there : {K : Kind} {o o' : ℕ} {n n' : Tree} {s e e' : S} {P P' : List Pair} (v : Dotted S Next behind det K o' n' s e' P') (u : Dotted S Next behind det K o n s e P) → Spells ways S Next behind o' v.role v.inner u.x e' P'
  dotted_there {o' = o'} {e' = e'} {P' = P'} v u = subst (λ c. Spells ways S Next behind o' v.role v.inner c e' P') (same_sign S Next behind det v.reads u.reads refl).1 v.value

module _ (S : Type 0) (Next : S → Token → S → Type 0) (behind : S → Token) (det : IsDetermined S Next behind) (alike : IsAlike S Next behind) {h : ℕ} (u : Unique S Next behind det h) where
  -- a key, in brackets or not
  key_unique : {c : Bool} {o : ℕ} {n : Tree} {s e : S} {P : List Pair} → height n ≤ h → KeyAt S Next behind det o n s e P c → KeyFound S Next behind det c o s e n P
  key_unique low (plain_key d) = plain_key_found S Next behind det (key_found S Next behind det d)
  key_unique {n = n} low (computed_key x d y) = computed_key_found S Next behind det x (u.expressions.found low (λ z. cc) (λ z. cc) d (stops_before S Next behind det Assignment true n y refl refl (λ c v. refl))) y

  abbrev Ends : S → Type 0
  Ends e = Separated S Next behind det (codes "}") e

  expression_unique : {o : ℕ} {n : Tree} {s e : S} {P : List Pair} → height n ≤ h → Spells ways S Next behind o (expr Assignment true Any) n s e P → Ends e → Found S Next behind o Assignment true Any s e n P
  expression_unique {n = n} {e = e} low d ends = u.expressions.found low (λ z. cc) (λ z. cc) d (item_stops S Next behind det a_brace Assignment n e refl ends)

  -- the value of a property, by each reading
  value_unique : (x : Reading) {a : Role} {o : ℕ} {n : Tree} {s e : S} {P : List Pair} → height n ≤ h → value_as x (kind_of n) ≡ Some a → Spells ways S Next behind o a n s e P → Ends e → FoundItem S Next behind Ends (value_as x) o s e n P
  value_unique as_expression {a} {o} {n} {s} {e} {P} low it d ends =
      let found = expression_unique low (subst (λ z. Spells ways S Next behind o z n s e P) (sym (some_same it)) d) ends in
      record {
        role = a;
        it_is = it;
        spelled = d;
        only = λ o' a' e' n' P' it' d' ends'. found.only o' e' n' P' (subst (λ z. Spells ways S Next behind o' z n' s e' P') (sym (some_same it')) d') (item_stops S Next behind det a_brace Assignment n' e' refl ends');
      }
  value_unique (as_pattern b) {a} {n = n} low it d ends =
      let found = u.element (as_pattern b) a_brace low (as_element b (kind_of n) it) d ends in
      record { role = a; it_is = it; spelled = d; only = λ o' a' e' n' P' it' d' ends'. found.only o' a' e' n' P' (as_element b (kind_of n') it') d' ends' }

  valued_step : (x : Reading) {o : ℕ} {n : Tree} {s e : S} {P : List Pair} → height n ≤ suc h → Valued S Next behind det (value_as x) o n s e P → Ends e → FoundItem S Next behind Ends (property_as x) o s e n P
  valued_step x {o} {n} {s} {e} {P} low v ends =
      let high : height n ≡ height (node Property [] (flags_as v.computed Init) v.st v.en (part v.name (part v.value none))) = ap height v.tree in
      let found = pair_found S Next behind det (λ t k. no_dots_at_key S Next behind det v.key) Ends (item_marks S Next behind det a_brace) (key_unique (omega arith) v.key) v.reads x (value_unique x (omega arith) v.it_is v.spelled ends) (at_ends x) in
      subst (λ c. FoundItem S Next behind Ends (property_as x) o s e n c) (sym v.pairs) (subst (λ c. FoundItem S Next behind Ends (property_as x) o s e c (v.one ++ v.more)) (sym v.tree) found)
    where
      at_ends : (x : Reading) → Placed S Next behind (property_role x) (node Property [] (flags_as v.computed Init) v.st v.en (part v.name (part v.value none))) s e
      at_ends as_expression = placed v.next (λ i. (v.starts i, v.stops i))
      at_ends (as_pattern b) = placed v.next (λ i. (v.starts i, v.stops i))

  short_step : (x : Reading) {a : Role} {o : ℕ} {n : Tree} {s e : S} {P : List Pair} → Short S Next behind det name o n s e P → property_as x (kind_of n) ≡ Some a → Spells ways S Next behind o a n s e P → Ends e → FoundItem S Next behind Ends (property_as x) o s e n P
  short_step x {o = o} {n} {s} {e} {P} v it d ends =
      given S Next behind det (shorthand_found S Next behind det (λ t k. name_or_sign S Next behind det refl word) Ends (item_marks S Next behind det a_brace) word free (plain_key_found S Next behind det (name_key_found S Next behind det {o = o} word)) x ends (at_ends x)) it d ends
    where
      leaf : (l : OneToken S Next behind det IdentifierName Identifier v.value s e v.more) × (is_reserved l.text ≡ false)
      leaf = name_form S Next behind det (subst (λ z. Spells ways S Next behind o name v.value z e v.more) (sym (echo_form S Next behind det v.echoes).place) v.spelled)

      word : Reads S Next behind IdentifierName leaf.0.sign.text s leaf.0.sign e
      word = record { next = leaf.0.reads.next; class = leaf.0.reads.class; text = refl }

      free : is_reserved leaf.0.sign.text ≡ false
      free = ap is_reserved leaf.0.reads.text ∙ leaf.1

      at_ends : (x : Reading) → Placed S Next behind (property_role x) (node Property [] (flags_as false Shorthand) v.st v.en (part (node Identifier leaf.0.sign.text plain leaf.0.sign.start leaf.0.sign.stop none) (part (node Identifier leaf.0.sign.text plain leaf.0.sign.start (behind e).stop none) none))) s e
      at_ends as_expression = placed v.next (λ i. (v.starts i, v.stops i))
      at_ends (as_pattern b) = placed v.next (λ i. (v.starts i, v.stops i))

  initialized_step : (b : Bool) {a : Role} {o : ℕ} {n : Tree} {s e : S} {P : List Pair} → height n ≤ suc h → Short S Next behind det (element true) o n s e P → property_as (as_pattern b) (kind_of n) ≡ Some a → Spells ways S Next behind o a n s e P → Ends e →
      FoundItem S Next behind Ends (property_as (as_pattern b)) o s e n P
  initialized_step b {a} {o} {n} {s} {e} {P} low v it d ends = of core core.stands
    where
      core : Defaulted S Next behind det (BoundForm S Next behind det true) o v.value s e v.more
      core = default_core S Next behind det true (subst (λ z. Spells ways S Next behind o (element true) v.value z e v.more) (sym (echo_form S Next behind det v.echoes).place) v.spelled)

      of : (z : Defaulted S Next behind det (BoundForm S Next behind det true) o v.value s e v.more) → BoundForm S Next behind det true o z.left s z.mid z.one → FoundItem S Next behind Ends (property_as (as_pattern b)) o s e n P
      of z (a_pattern p) = absurd ((named_unbracketed S Next behind det (echo_form S Next behind det v.echoes).reads).nothing o z.mid z.left z.one p)
      of z (a_simple (a_target c k p)) = cc
      of z (a_simple (a_name c p)) =
          let l = name_form S Next behind det p in
          let t : Token = l.0.sign in
          let word : Reads S Next behind IdentifierName t.text s t z.mid = record { next = l.0.reads.next; class = l.0.reads.class; text = refl } in
          let outer : height n ≡ height (node Property [] (flags_as false Shorthand) v.st v.en (part v.key (part v.value none))) = ap height v.tree in
          let inner : height v.value ≡ height (node AssignmentPattern [] plain z.st z.en (part z.left (part z.right none))) = ap height z.tree in
          given S Next behind det
          (initialized_found S Next behind det (λ t k. name_or_sign S Next behind det refl word) Ends (item_marks S Next behind det a_brace) word (ap is_reserved l.0.reads.text ∙ l.1) (plain_key_found S Next behind det (name_key_found S Next behind det {o = o} word)) z.reads b
          (value_unique as_expression (omega arith) refl z.value ends) (placed v.next (λ i. (v.starts i, v.stops i))) (placed z.next (λ i. (z.starts i, z.stops i))))
          it d ends

  called_step : {o : ℕ} {n : Tree} {s e : S} {P : List Pair} → height n ≤ suc h → Called S Next behind det Method Method o n s s e P → Ends e → FoundItem S Next behind Ends (property_as as_expression) o s e n P
  called_step {o} {n} {s} {e} {P} low v ends =
      let high : height n ≡ height (node Property [] (flags_as v.computed Method) v.st v.en (part v.name (part v.function none))) = ap height v.tree in
      let found = method_found S Next behind det Ends (item_stops S Next behind det a_brace) (item_marks S Next behind det a_brace) (λ t k. no_dots_at_key S Next behind det v.key) (key_unique (omega arith) v.key) (u.closed refl (omega arith) v.spelled) (placed v.next (λ i. (v.starts i, v.stops i))) in
      subst (λ c. FoundItem S Next behind Ends (property_as as_expression) o s e n c) (sym v.pairs) (subst (λ c. FoundItem S Next behind Ends (property_as as_expression) o s e c (v.one ++ v.more)) (sym v.tree) found)

  accessed_step : (f : Form) {o : ℕ} {n : Tree} {s z e : S} {t : Token} {P : List Pair} → is_accessor f ≡ true → Reads S Next behind IdentifierName (accessor_word f) s t z → height n ≤ suc h → Called S Next behind det f f o n s z e P → Ends e → FoundItem S Next behind Ends (property_as as_expression) o s e n P
  accessed_step f {o} {n} {s} {z} {e} {P = P} is word low v ends =
      let high : height n ≡ height (node Property [] (flags_as v.computed f) v.st v.en (part v.name (part v.function none))) = ap height v.tree in
      let found = accessor_found S Next behind det Ends (item_stops S Next behind det a_brace) (item_marks S Next behind det a_brace) (λ t k. name_or_sign S Next behind det refl word) f is word (key_unique (omega arith) v.key) (u.closed refl (omega arith) v.spelled) (placed v.next (λ i. (v.starts i, v.stops i))) in
      subst (λ c. FoundItem S Next behind Ends (property_as as_expression) o s e n c) (sym v.pairs) (subst (λ c. FoundItem S Next behind Ends (property_as as_expression) o s e c (v.one ++ v.more)) (sym v.tree) found)

  spread_step : {o : ℕ} {n : Tree} {s e : S} {P : List Pair} → kind_of n ≡ SpreadElement → height n ≤ suc h → Spells ways S Next behind o spread n s e P → Ends e → FoundItem S Next behind Ends (property_as as_expression) o s e n P
  spread_step {o} {n} {s} {e} {P} k low d ends =
      let v = spread_form S Next behind det d in
      let high : height n ≡ height (node SpreadElement [] plain v.0.st v.0.en (part v.0.inner none)) = ap height v.0.tree in
      let found = expression_unique (omega arith) (subst (λ c. Spells ways S Next behind o c v.0.inner v.0.x e P) v.1 v.0.value) ends in
      record {
        role = spread;
        it_is = ap (property_as as_expression) k;
        spelled = d;
        only = λ o' a' e' n' P' it' d' ends'.
            let w = spread_at S Next behind det v.0.reads n' it' d' in
            let same = found.only o' e' w.0.inner P' (subst (λ c. Spells ways S Next behind o' c w.0.inner v.0.x e' P') w.1 (dotted_there S Next behind det w.0 v.0)) (item_stops S Next behind det a_brace Assignment w.0.inner e' refl ends') in
            (same.0, dotted_same S Next behind det w.0 v.0 same.0 same.1, same.2);
      }

  rest_step : (b : Bool) {o : ℕ} {n : Tree} {s e : S} {P : List Pair} → kind_of n ≡ RestElement → height n ≤ suc h → Spells ways S Next behind o (rest b true) n s e P → Ends e → FoundItem S Next behind Ends (property_as (as_pattern b)) o s e n P
  rest_step b {o} {n} {s} {e} {P} k low d ends =
      let v = rest_form S Next behind det d in
      let high : height n ≡ height (node RestElement [] plain v.dotted.st v.dotted.en (part v.dotted.inner none)) = ap height v.dotted.tree in
      let found = value_unique (as_pattern b) (omega arith) (bound_defaults b (kind_of v.dotted.inner) v.it_is) v.dotted.value ends in
      record {
        role = rest b true;
        it_is = ap (property_as (as_pattern b)) k;
        spelled = d;
        only = λ o' a' e' n' P' it' d' ends'.
            let w = rest_at S Next behind det v.dotted.reads b n' it' d' in
            let same = found.only o' w.dotted.role e' w.dotted.inner P' (bound_defaults b (kind_of w.dotted.inner) w.it_is) (dotted_there S Next behind det w.dotted v.dotted) ends' in
            (same.0, dotted_same S Next behind det w.dotted v.dotted same.0 same.1, same.2);
      }

  -- two methods of one form at one place, with their keys at one place too, are one
  called_same : {f y : Form} {o o' : ℕ} {n n' : Tree} {s z e e' : S} {P P' : List Pair} → height n ≤ suc h → Called S Next behind det f y o n s z e P → Called S Next behind det f y o' n' s z e' P' → (e' ≡ e) × (n' ≡ n) × (P' ≡ P)
  called_same {f} {y} {o} {o'} {n} {n'} {s} {z} {e} {e'} low v w =
      let high : height n ≡ height (node Property [] (flags_as v.computed f) v.st v.en (part v.name (part v.function none))) = ap height v.tree in
      let key = (key_unique (omega arith) v.key).only w.computed o' w.mid w.name w.one w.key in
      let function = u.closed {a = method y} refl (omega arith) v.spelled in
      let same = function.only o' e' w.function w.more (subst (λ k. Spells ways S Next behind o' (method y) w.function k e' w.more) key.1 w.spelled) in
      let start : w.st ≡ v.st = sym w.starts ∙ det.start s w.start v.start w.behind_start v.behind_start w.next v.next ∙ v.starts in
      let stop : w.en ≡ v.en = sym w.stops ∙ ap (λ c. (behind c).stop) same.0 ∙ v.stops in
      (same.0, w.tree ∙ same_node refl refl (ap (λ c. flags_as c f) key.0) start stop (λ i. part (key.2 i) (part (same.1 i) none)) ∙ sym v.tree, w.pairs ∙ (λ i. key.3 i ++ same.2 i) ∙ sym v.pairs)

  -- a property whose first token no spread has, compared with each other there
  compared : {a : Role} {o : ℕ} {n : Tree} {s e : S} {P : List Pair} → ((t : Token) (k : S) → Reads S Next behind Punctuator (codes "...") s t k → ⊥) → property_as as_expression (kind_of n) ≡ Some a → Spells ways S Next behind o a n s e P →
      ((o' : ℕ) (e' : S) (n' : Tree) (P' : List Pair) → PropertyAt S Next behind det o' n' s e' P' → Ends e' → (e' ≡ e) × (n' ≡ n) × (P' ≡ P)) → FoundItem S Next behind Ends (property_as as_expression) o s e n P
  compared {a} no_dots it d same = record { role = a; it_is = it; spelled = d; only = λ o' a' e' n' P' it' d' ends'. same o' e' n' P' (form_as S Next behind det no_dots as_expression n' it' d') ends' }

  -- a generator method
  star_step : {a : Role} {o : ℕ} {n : Tree} {s x e : S} {P : List Pair} {t : Token} → height n ≤ suc h → Reads S Next behind Punctuator (codes "*") s t x → Called S Next behind det Method Generator o n s x e P → property_as as_expression (kind_of n) ≡ Some a → Spells ways S Next behind o a n s e P →
      FoundItem S Next behind Ends (property_as as_expression) o s e n P
  star_step {o = o} {n} {s} {x} {e} {P} low star v it d = compared (λ t k dots. star_no_dots S Next behind det (two_signs S Next behind det refl refl star dots).0) it d same
    where
      same : (o' : ℕ) (e' : S) (n' : Tree) (P' : List Pair) → PropertyAt S Next behind det o' n' s e' P' → Ends e' → (e' ≡ e) × (n' ≡ n) × (P' ≡ P)
      same o' e' n' P' (by_value w) ends = absurd (key_at_sign S Next behind det refl refl star_bracket w.key star)
      same o' e' n' P' (by_name w) ends = absurd (name_or_sign S Next behind det refl (echo_form S Next behind det w.echoes).reads star)
      same o' e' n' P' (by_method w) ends = absurd (key_at_sign S Next behind det refl refl star_bracket w.key star)
      same o' e' n' P' (by_star star' w) ends = called_same low v (subst (λ c. Called S Next behind det Method Generator o' n' s c e' P') (same_sign S Next behind det star' star refl).1 w)
      same o' e' n' P' (by_async word nx line w) ends = absurd (name_or_sign S Next behind det refl word star)
      same o' e' n' P' (by_async_star word star' line w) ends = absurd (name_or_sign S Next behind det refl word star)
      same o' e' n' P' (by_accessor f acc word w) ends = absurd (name_or_sign S Next behind det refl word star)

  -- behind `async`
  module _ {s x : S} {t : Token} (word : Reads S Next behind IdentifierName (codes "async") s t x) where
    no_dots : (v : Token) (k : S) → Reads S Next behind Punctuator (codes "...") s v k → ⊥
    no_dots v k dots = name_or_sign S Next behind det refl word dots

    word_found : KeyFound S Next behind det false 0 s x (node Identifier t.text plain t.start (behind x).stop none) []
    word_found = plain_key_found S Next behind det (name_key_found S Next behind det (record { next = word.next; class = word.class; text = refl }))

    -- the word as a key ends there
    key_there : {c : Bool} {o : ℕ} {n : Tree} {k : S} {P : List Pair} → KeyAt S Next behind det o n s k P c → k ≡ x
    key_there {c} {o} {n} {k} {P} there = (word_found.only c o k n P there).1

    same_word : {k : S} {v : Token} → Reads S Next behind IdentifierName (codes "async") s v k → k ≡ x
    same_word {k} {v} read = (det.same Div s v t k x read.next word.next (det.free Div s v k read.next (ap is_free read.class)) (det.free Div s t x word.next (ap is_free word.class))).1

    no_accessor : (f : Form) {k : S} {v : Token} → Reads S Next behind IdentifierName (accessor_word f) s v k → ⊥
    no_accessor f {k} {v} read =
        let same = det.same Div s v t k x read.next word.next (det.free Div s v k read.next (ap is_free read.class)) (det.free Div s t x word.next (ap is_free word.class)) in
        unlike_async f (sym read.text ∙ ap (λ (c : Token). c.text) same.0 ∙ word.text)

    -- the sign with which a property ends there
    mark_there : {o : ℕ} {n : Tree} {e : S} {P : List Pair} → Short S Next behind det name o n s e P → Ends e → Mark S Next behind det x
    mark_there w ends = item_marks S Next behind det a_brace x (subst Ends (short_ends S Next behind det no_dots Ends (item_marks S Next behind det a_brace) word_found w) ends)

    -- an async method
    async_step : {a : Role} {o : ℕ} {n : Tree} {e : S} {P : List Pair} → height n ≤ suc h → Called S Next behind det Method Async o n s x e P → property_as as_expression (kind_of n) ≡ Some a → Spells ways S Next behind o a n s e P → FoundItem S Next behind Ends (property_as as_expression) o s e n P
    async_step {o = o} {n} {e} {P} low v it d = compared no_dots it d same
      where
        same : (o' : ℕ) (e' : S) (n' : Tree) (P' : List Pair) → PropertyAt S Next behind det o' n' s e' P' → Ends e' → (e' ≡ e) × (n' ≡ n) × (P' ≡ P)
        same o' e' n' P' (by_value w) ends = absurd (key_at_sign S Next behind det refl refl colon_bracket v.key (subst (λ c. Reads S Next behind Punctuator (codes ":") c w.sign w.x) (key_there w.key) w.reads))
        same o' e' n' P' (by_name w) ends = let m = mark_there w ends in absurd (key_at_sign S Next behind det m.operand m.allowed m.no_bracket v.key m.reads)
        same o' e' n' P' (by_method w) ends = absurd (key_at_sign S Next behind det refl refl call_bracket v.key (subst (λ c. Reads S Next behind Punctuator (codes "(") c w.sign w.x) (key_there w.key) w.reads))
        same o' e' n' P' (by_star star w) ends = absurd (name_or_sign S Next behind det refl word star)
        same o' e' n' P' (by_async word' nx line w) ends = called_same low v (subst (λ c. Called S Next behind det Method Async o' n' s c e' P') (same_word word') w)
        same o' e' n' P' (by_async_star {k = k'} {v = v'} word' star line w) ends = absurd (key_at_sign S Next behind det refl refl star_bracket v.key (subst (λ c. Reads S Next behind Punctuator (codes "*") c v' k') (same_word word') star))
        same o' e' n' P' (by_accessor f acc word' w) ends = absurd (no_accessor f word')

    -- an async generator method
    async_star_step : {a : Role} {o : ℕ} {n : Tree} {k e : S} {P : List Pair} {z : Token} → height n ≤ suc h → Reads S Next behind Punctuator (codes "*") x z k → Called S Next behind det Method AsyncGenerator o n s k e P → property_as as_expression (kind_of n) ≡ Some a → Spells ways S Next behind o a n s e P →
        FoundItem S Next behind Ends (property_as as_expression) o s e n P
    async_star_step {o = o} {n} {k} {e} {P} {z} low star v it d = compared no_dots it d same
      where
        same : (o' : ℕ) (e' : S) (n' : Tree) (P' : List Pair) → PropertyAt S Next behind det o' n' s e' P' → Ends e' → (e' ≡ e) × (n' ≡ n) × (P' ≡ P)
        same o' e' n' P' (by_value w) ends = absurd (colon_star (two_signs S Next behind det refl refl (subst (λ c. Reads S Next behind Punctuator (codes ":") c w.sign w.x) (key_there w.key) w.reads) star).0)
        same o' e' n' P' (by_name w) ends = let m = mark_there w ends in absurd (m.no_star (two_signs S Next behind det m.allowed refl m.reads star).0)
        same o' e' n' P' (by_method w) ends = absurd (call_star (two_signs S Next behind det refl refl (subst (λ c. Reads S Next behind Punctuator (codes "(") c w.sign w.x) (key_there w.key) w.reads) star).0)
        same o' e' n' P' (by_star star' w) ends = absurd (name_or_sign S Next behind det refl word star')
        same o' e' n' P' (by_async {k = k'} word' nx line w) ends = absurd (key_at_sign S Next behind det refl refl star_bracket w.key (subst (λ c. Reads S Next behind Punctuator (codes "*") c z k) (sym (same_word word')) star))
        same o' e' n' P' (by_async_star {k = k'} {v = v'} word' star' line w) ends =
            let there = (same_sign S Next behind det (subst (λ c. Reads S Next behind Punctuator (codes "*") c v' k') (same_word word') star') star refl).1 in
            called_same low v (subst (λ c. Called S Next behind det Method AsyncGenerator o' n' s c e' P') there w)
        same o' e' n' P' (by_accessor f acc word' w) ends = absurd (no_accessor f word')

  -- What stands in an object or its pattern, by each reading, is the only thing there.
  pub property_step : (x : Reading) {a : Role} {o : ℕ} {n : Tree} {s e : S} {P : List Pair} → height n ≤ suc h → property_as x (kind_of n) ≡ Some a → Spells ways S Next behind o a n s e P → Separated S Next behind det (codes "}") e →
      FoundItem S Next behind (Separated S Next behind det (codes "}")) (property_as x) o s e n P
  property_step as_expression {a} {o} {n = node k w g st en ps} {s} {e} {P} low it d ends = of (in_object k it) low it d
    where
      with_property : PropertyAt S Next behind det o (node Property w g st en ps) s e P → height (node Property w g st en ps) ≤ suc h → property_as as_expression Property ≡ Some a → Spells ways S Next behind o a (node Property w g st en ps) s e P →
          FoundItem S Next behind Ends (property_as as_expression) o s e (node Property w g st en ps) P
      with_property (by_value v) low it d = valued_step as_expression low v ends
      with_property (by_name v) low it d = short_step as_expression v it d ends
      with_property (by_method v) low it d = called_step low v ends
      with_property (by_star star v) low it d = star_step low star v it d
      with_property (by_async word nx line v) low it d = async_step word low v it d
      with_property (by_async_star word star line v) low it d = async_star_step word low star v it d
      with_property (by_accessor f acc word v) low it d = accessed_step f acc word low v ends

      of : {k : Kind} → InObject k → height (node k w g st en ps) ≤ suc h → property_as as_expression k ≡ Some a → Spells ways S Next behind o a (node k w g st en ps) s e P → FoundItem S Next behind Ends (property_as as_expression) o s e (node k w g st en ps) P
      of a_spread low it d = spread_step refl low (subst (λ z. Spells ways S Next behind o z (node SpreadElement w g st en ps) s e P) (sym (some_same it)) d) ends
      of a_property low it d = with_property (property_at S Next behind det (subst (λ z. Spells ways S Next behind o z (node Property w g st en ps) s e P) (sym (some_same it)) d)) low it d
  property_step (as_pattern b) {a} {o} {n = node k w g st en ps} {s} {e} {P} low it d ends = of (in_pattern b k it) low it d
    where
      with_property : PatternPropertyAt S Next behind det b o (node Property w g st en ps) s e P → height (node Property w g st en ps) ≤ suc h → property_as (as_pattern b) Property ≡ Some a → Spells ways S Next behind o a (node Property w g st en ps) s e P →
          FoundItem S Next behind Ends (property_as (as_pattern b)) o s e (node Property w g st en ps) P
      with_property (with_value v) low it d = valued_step (as_pattern b) low v ends
      with_property (with_name v) low it d = short_step (as_pattern b) v it d ends
      with_property (with_element v) low it d = initialized_step b low v it d ends

      of : {k : Kind} → InPattern k → height (node k w g st en ps) ≤ suc h → property_as (as_pattern b) k ≡ Some a → Spells ways S Next behind o a (node k w g st en ps) s e P → FoundItem S Next behind Ends (property_as (as_pattern b)) o s e (node k w g st en ps) P
      of a_rest low it d = rest_step b refl low (subst (λ z. Spells ways S Next behind o z (node RestElement w g st en ps) s e P) (sym (some_same it)) d) ends
      of a_property_there low it d = with_property (pattern_property_at S Next behind det b (subst (λ z. Spells ways S Next behind o z (node Property w g st en ps) s e P) (sym (some_same it)) d)) low it d
