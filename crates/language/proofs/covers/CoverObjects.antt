-- The properties of an object, each reading by what stands behind the key: a value, nothing, or a default (ECMA-262 12.2.6, 12.15.5, 13.3.3).
use Rattle.std.proofs.Common.{◌≡◌, ℕ, Bool, true, false, List, [], ◌∷◌, ◌++◌, refl, sym, ap, ◌∙◌, subst}
use Rattle.std.specs.Prelude.{IsTrue, Option, Some, codes}
use Rattle.std.proofs.lemmas.Bool.{false≢true}
use Rattle.tokens.specs.declared.token.TokenClass.TheVariants.{IdentifierName, Punctuator}
use Rattle.tokens.specs.declared.token.Goal.{Goal}
use Rattle.tokens.specs.declared.token.Goal.TheVariants.{Div}
use Rattle.tokens.specs.Goals.{allows}
use Rattle.tree.specs.declared.kind.Kind.{Kind}
use Rattle.tree.specs.declared.kind.Kind.TheVariants.{Identifier, Property, SpreadElement, RestElement, AssignmentPattern}
use Rattle.tree.specs.declared.kind.Form.TheVariants.{Init, Shorthand}
use Rattle.tree.specs.declared.kind.Pair.{Pair}
use Rattle.tree.specs.Tree.{Tree, node, Parts, none, part, kind_of, height, bare, plain, bare_parts}
use Rattle.language.specs.declared.Rank.TheVariants.{Assignment, Primary}
use Rattle.language.specs.declared.Start.TheVariants.{Any}
use Rattle.language.specs.Vocabulary.{is, is_reserved}
use Rattle.language.specs.Pieces.{Role, expr, name, element, property, pattern_property, Spelling, sign, sp, put, put_at, at, only, with_default}
use Rattle.language.specs.Token.{Token}
use Rattle.language.specs.Expressions.{assignment, keyed, properties, pattern_properties, value_form}
use Rattle.language.specs.Covers.{Reading, as_expression, as_pattern, property_as, FoundItem}
use Rattle.language.specs.Promises.{is_free, IsDetermined}
use Rattle.language.specs.Grammar.{ways, spellings}
use Rattle.language.specs.Derivation.{Among, first, Reads, Spells, direct, Runs, step, within, token, laid, Placed, placed}
use Rattle.language.proofs.lower_bound.Domination.{settled}
use Rattle.language.proofs.table.Productions.{way_from}
use Rattle.language.proofs.climbing.OperatorNodes.{kind_bare, last_runs}
use Rattle.language.proofs.climbing.BinaryTurns.{same_node}
use Rattle.language.proofs.climbing.Conditionals.{same_sign}
use Rattle.language.proofs.climbing.Leaves.{name_found}
use Rattle.language.proofs.covers.CoverElements.{BoundForm, a_pattern, a_simple, a_name, a_target, Defaulted, default_core, default_spells}
use Rattle.language.proofs.covers.CoverSpreads.{two_texts, spread_form, rest_form}
use Rattle.language.proofs.covers.CoverReadings.{named_unbracketed}
use Rattle.language.proofs.covers.CoverProperties.{flags_as, key_pieces, KeyAt, key_runs, Valued, Short, to_expression, PropertyAt, by_value, by_name, by_method, by_star, by_async, by_async_star, by_accessor, PatternPropertyAt, with_value, with_name, with_element, property_at, pattern_property_at}
use Rattle.language.proofs.table.KindViews.{InObject, a_spread, a_property, in_object, InPattern, a_rest, a_property_there, in_pattern}
use Rattle.language.proofs.table.PropertyNameWays.{word_key}
use Rattle.language.proofs.covers.CoverKeys.{Echo, KeyFound, key_at_sign, name_key, echo_form, echo_spells}
use Rattle.language.proofs.covers.CoverProperties.{plain_key}
use Rattle.tree.specs.declared.kind.Form.{Form}

colon_call : codes ":" ≡ codes "(" → ⊥
colon_call e = false≢true (sym (ap (λ w. is w ":") e))

colon_bracket : codes ":" ≡ codes "[" → ⊥
colon_bracket e = false≢true (sym (ap (λ w. is w ":") e))

colon_equals : codes ":" ≡ codes "=" → ⊥
colon_equals e = false≢true (sym (ap (λ w. is w ":") e))

pub star_bracket : codes "*" ≡ codes "[" → ⊥
star_bracket e = false≢true (sym (ap (λ w. is w "*") e))

colon_star : codes ":" ≡ codes "*" → ⊥
colon_star e = false≢true (sym (ap (λ w. is w ":") e))

some_same : {a b : Role} → Some a ≡ Some b → a ≡ b
some_same e = cc

-- the position of the value of a property
abbrev pub value_as : Reading → Kind → Option Role
value_as as_expression = to_expression
value_as (as_pattern b) = with_default b

abbrev pub property_role : Reading → Role
property_role as_expression = property
property_role (as_pattern b) = pattern_property b

property_there : (a : Reading) → property_as a Property ≡ Some (property_role a)
property_there as_expression = refl
property_there (as_pattern b) = refl

value_listed : (c : Bool) (x : Form) → Among (at Primary (key_pieces c (sign ":" ∷ sp ∷ assignment ∷ []))) (properties c Init x)
value_listed true x = first
value_listed false x = first

value_can : (c : Bool) (r : Role) → Rattle.language.specs.Grammar.can_run (key_pieces c (sign ":" ∷ sp ∷ put r ∷ [])) ≡ true
value_can true r = refl
value_can false r = refl

pattern_listed : (b c : Bool) (k : Kind) {r : Role} → with_default b k ≡ Some r → Among (at Primary (key_pieces c (sign ":" ∷ sp ∷ put r ∷ []))) (pattern_properties b c Init k)
pattern_listed b true k {r} h = subst (λ x. Among (at Primary (key_pieces true (sign ":" ∷ sp ∷ put r ∷ []))) (keyed [] true (sign ":" ∷ sp ∷ put_at x ∷ []))) (sym h) first
pattern_listed b false k {r} h = subst (λ x. Among (at Primary (key_pieces false (sign ":" ∷ sp ∷ put r ∷ []))) (keyed [] false (sign ":" ∷ sp ∷ put_at x ∷ []))) (sym h) first

module _ (S : Type 0) (Next : S → Token → S → Type 0) (behind : S → Token) (det : IsDetermined S Next behind) where
  -- a property from its key and value
  pub value_spells : (a : Reading) {o : ℕ} {c : Bool} {r : Role} {n u : Tree} {st en : ℕ} {s k x e : S} {v : Token} {P Q : List Pair} → KeyAt S Next behind det o n s k P c → Reads S Next behind Punctuator (codes ":") k v x → value_as a (kind_of u) ≡ Some r → Spells ways S Next behind o r u x e Q →
      Placed S Next behind (property_role a) (node Property [] (flags_as c Init) st en (part n (part u none))) s e → Spells ways S Next behind o (property_role a) (node Property [] (flags_as c Init) st en (part n (part u none))) s e (P ++ Q)
  unfolding spellings
  value_spells as_expression {o} {c} {r} {n} {u} {st} {en} {x = x} {e = e} {Q = Q} key colon it d pl =
      let y : Spelling = at Primary (key_pieces c (sign ":" ∷ sp ∷ assignment ∷ [])) in
      let d' = subst (λ z. Spells ways S Next behind o z u x e Q) (sym (some_same it)) d in
      direct (settled property y) (way_from property (node Property [] (flags_as c Init) st en (part n (part u none))) y (lean c) (value_listed c (value_form (bare_parts (part n (part u none))))) (value_can c (expr Assignment true Any))) pl (key_runs S Next behind det c (sign ":" ∷ sp ∷ assignment ∷ []) key (step (token colon) (step laid (last_runs S Next behind d'))))
    where
      lean : (c : Bool) → Rattle.tree.specs.Uses.is_lean (bare (node Property [] (flags_as c Init) st en (part n (part u none)))) ≡ true
      lean true = refl
      lean false = refl
  value_spells (as_pattern b) {o} {c} {r} {n} {u} {st} {en} key colon it d pl =
      let y : Spelling = at Primary (key_pieces c (sign ":" ∷ sp ∷ put r ∷ [])) in
      direct (settled (pattern_property b) y) (way_from (pattern_property b) (node Property [] (flags_as c Init) st en (part n (part u none))) y (lean c) (pattern_listed b c (kind_of (bare u)) (ap (with_default b) (kind_bare u) ∙ it)) (value_can c r)) pl
      (key_runs S Next behind det c (sign ":" ∷ sp ∷ put r ∷ []) key (step (token colon) (step laid (last_runs S Next behind d))))
    where
      lean : (c : Bool) → Rattle.tree.specs.Uses.is_lean (bare (node Property [] (flags_as c Init) st en (part n (part u none)))) ≡ true
      lean true = refl
      lean false = refl

  -- a sign with which a property ends: none that goes on with it
  pub record Mark (k : S) : Type 0 where
    pub text : List ℕ
    pub sign : Token
    pub mid : S
    pub reads : Reads S Next behind Punctuator text k sign mid
    pub allowed : IsTrue (allows Div Punctuator text)
    pub operand : IsTrue (allows Goal.RegExp Punctuator text)
    pub no_colon : text ≡ codes ":" → ⊥
    pub no_equals : text ≡ codes "=" → ⊥
    pub no_call : text ≡ codes "(" → ⊥
    pub no_bracket : text ≡ codes "[" → ⊥
    pub no_star : text ≡ codes "*" → ⊥

  -- what a property's item is, in each reading
  abbrev pub FormAs : Reading → ℕ → Tree → S → S → List Pair → Type 0
  FormAs as_expression o n s e P = PropertyAt S Next behind det o n s e P
  FormAs (as_pattern b) o n s e P = PatternPropertyAt S Next behind det b o n s e P

  module _ {s : S} (no_dots : (t : Token) (k : S) → Reads S Next behind Punctuator (codes "...") s t k → ⊥) where
    pub form_as : (a : Reading) {o : ℕ} {r : Role} (n : Tree) {e : S} {P : List Pair} → property_as a (kind_of n) ≡ Some r → Spells ways S Next behind o r n s e P → FormAs a o n s e P
    form_as as_expression {o} {r} (node k w g st en ps) {e} {P} h d = of (in_object k h) h d
      where
        of : {k : Kind} → InObject k → property_as as_expression k ≡ Some r → Spells ways S Next behind o r (node k w g st en ps) s e P → PropertyAt S Next behind det o (node k w g st en ps) s e P
        of a_spread h d = let u = (spread_form S Next behind det (subst (λ z. Spells ways S Next behind o z (node SpreadElement w g st en ps) s e P) (sym (some_same h)) d)).0 in absurd (no_dots u.sign u.x u.reads)
        of a_property h d = property_at S Next behind det (subst (λ z. Spells ways S Next behind o z (node Property w g st en ps) s e P) (sym (some_same h)) d)
    form_as (as_pattern b) {o} {r} (node k w g st en ps) {e} {P} h d = of (in_pattern b k h) h d
      where
        of : {k : Kind} → InPattern k → property_as (as_pattern b) k ≡ Some r → Spells ways S Next behind o r (node k w g st en ps) s e P → PatternPropertyAt S Next behind det b o (node k w g st en ps) s e P
        of a_rest h d = let u = (rest_form S Next behind det (subst (λ z. Spells ways S Next behind o z (node RestElement w g st en ps) s e P) (sym (some_same h)) d)).dotted in absurd (no_dots u.sign u.x u.reads)
        of a_property_there h d = pattern_property_at S Next behind det b (subst (λ z. Spells ways S Next behind o z (node Property w g st en ps) s e P) (sym (some_same h)) d)

    -- The key that was read, and the sign that stands behind it
    module _ (Ends : S → Type 0) (marks : (e : S) → Ends e → Mark e) {c : Bool} {o : ℕ} {k : S} {nk : Tree} {PK : List Pair} (found : KeyFound S Next behind det c o s k nk PK) where
      name_ends : {o' : ℕ} {u : Tree} {e' : S} {P' : List Pair} → Spells ways S Next behind o' name u s e' P' → e' ≡ k
      name_ends {o'} {u} {e'} {P'} d = (found.only false o' e' u P' (plain_key (name_key S Next behind det d))).1

      pub short_ends : {o' : ℕ} {n' : Tree} {e' : S} {P' : List Pair} → Short S Next behind det name o' n' s e' P' → e' ≡ k
      short_ends {o'} {e' = e'} u = name_ends (subst (λ z. Spells ways S Next behind o' name u.value z e' u.more) (sym (echo_form S Next behind det u.echoes).place) u.spelled)

      pub record Equals : Type 0 where
        pub sign : Token
        pub mid : S
        pub reads : Reads S Next behind Punctuator (codes "=") k sign mid

      pub default_ends : {o' : ℕ} {n' : Tree} {e' : S} {P' : List Pair} → Short S Next behind det (element true) o' n' s e' P' → Equals
      default_ends {o'} {e' = e'} u = of core core.stands
        where
          core : Defaulted S Next behind det (BoundForm S Next behind det true) o' u.value s e' u.more
          core = default_core S Next behind det true (subst (λ z. Spells ways S Next behind o' (element true) u.value z e' u.more) (sym (echo_form S Next behind det u.echoes).place) u.spelled)

          of : (w : Defaulted S Next behind det (BoundForm S Next behind det true) o' u.value s e' u.more) → BoundForm S Next behind det true o' w.left s w.mid w.one → Equals
          of w (a_pattern d) = absurd ((named_unbracketed S Next behind det (echo_form S Next behind det u.echoes).reads).nothing o' w.mid w.left w.one d)
          of w (a_simple (a_name h d)) = record { sign = w.sign; mid = w.x; reads = subst (λ z. Reads S Next behind Punctuator (codes "=") z w.sign w.x) (name_ends d) w.reads }
          of w (a_simple (a_target h t d)) = cc

      -- behind the key stands this sign
      module _ {W : List ℕ} {v : Token} {x : S} (reads : Reads S Next behind Punctuator W k v x) (al : IsTrue (allows Div Punctuator W)) (al' : IsTrue (allows Goal.RegExp Punctuator W)) where
        pub colon_is : {o' : ℕ} {u : Tree} {c' : Bool} {k' x' : S} {v' : Token} {Q : List Pair} → KeyAt S Next behind det o' u s k' Q c' → Reads S Next behind Punctuator (codes ":") k' v' x' → W ≡ codes ":"
        colon_is {o'} {u} {c'} {k'} {x'} {v'} {Q} key colon = two_texts S Next behind det al refl reads (subst (λ z. Reads S Next behind Punctuator (codes ":") z v' x') (found.only c' o' k' u Q key).1 colon)

        pub call_is : {o' : ℕ} {u : Tree} {c' : Bool} {k' x' : S} {v' : Token} {Q : List Pair} → KeyAt S Next behind det o' u s k' Q c' → Reads S Next behind Punctuator (codes "(") k' v' x' → W ≡ codes "("
        call_is {o'} {u} {c'} {k'} {x'} {v'} {Q} key call = two_texts S Next behind det al refl reads (subst (λ z. Reads S Next behind Punctuator (codes "(") z v' x') (found.only c' o' k' u Q key).1 call)

        pub accessor_is : {o' : ℕ} {u : Tree} {c' : Bool} {w : List ℕ} {k' x' : S} {t : Token} {Q : List Pair} → (W ≡ codes "[" → ⊥) → Reads S Next behind IdentifierName w s t x' → KeyAt S Next behind det o' u x' k' Q c' → ⊥
        accessor_is {o'} {u} {c'} {w} {k'} {x'} {t} {Q} other word key =
            let there : x' ≡ k = (found.only false o' x' (node Identifier w plain t.start (behind x').stop none) [] (plain_key (word_key S Next behind word))).1 in
            key_at_sign S Next behind det al' al other (subst (λ z. KeyAt S Next behind det o' u z k' Q c') there key) reads

        pub async_star_is : {w : List ℕ} {x' y' : S} {t z : Token} → (W ≡ codes "*" → ⊥) → Reads S Next behind IdentifierName w s t x' → Reads S Next behind Punctuator (codes "*") x' z y' → ⊥
        async_star_is {w} {x'} {y'} {t} {z} other word star =
            let there : x' ≡ k = (found.only false o x' (node Identifier w plain t.start (behind x').stop none) [] (plain_key (word_key S Next behind word))).1 in
            other (two_texts S Next behind det al refl reads (subst (λ c. Reads S Next behind Punctuator (codes "*") c z y') there star))

        pub equals_is : Equals → W ≡ codes "="
        equals_is u = two_texts S Next behind det al refl reads u.reads

        pub mark_is : {e' : S} → Ends e' → e' ≡ k → (m : Mark k) × (W ≡ m.text)
        mark_is {e'} ends there = let m = marks k (subst Ends there ends) in (m, two_texts S Next behind det al m.allowed reads m.reads)

        -- a colon: a value
        valued_by : (a : Reading) → W ≡ codes ":" → {o' : ℕ} {n' : Tree} {e' : S} {P' : List Pair} → FormAs a o' n' s e' P' → Ends e' → Valued S Next behind det (value_as a) o' n' s e' P'
        valued_by as_expression is (by_value u) ends = u
        valued_by as_expression is (by_name u) ends = let m = mark_is ends (short_ends u) in absurd (m.0.no_colon (sym m.1 ∙ is))
        valued_by as_expression is (by_method u) ends = absurd (colon_call (sym is ∙ call_is u.key u.reads))
        valued_by as_expression is (by_accessor f h word u) ends = absurd (accessor_is (λ e. colon_bracket (sym is ∙ e)) word u.key)
        valued_by as_expression is (by_star star u) ends = absurd (key_at_sign S Next behind det refl refl star_bracket found.spelled star)
        valued_by as_expression is (by_async word nx line u) ends = absurd (accessor_is (λ e. colon_bracket (sym is ∙ e)) word u.key)
        valued_by as_expression is (by_async_star word star line u) ends = absurd (async_star_is (λ e. colon_star (sym is ∙ e)) word star)
        valued_by (as_pattern b) is (with_value u) ends = u
        valued_by (as_pattern b) is (with_name u) ends = let m = mark_is ends (short_ends u) in absurd (m.0.no_colon (sym m.1 ∙ is))
        valued_by (as_pattern b) is (with_element u) ends = absurd (colon_equals (sym is ∙ equals_is (default_ends u)))

      -- a property with a value, by the value's reading behind the colon
      module _ {v : Token} {x : S} (colon : Reads S Next behind Punctuator (codes ":") k v x) where
        same_value : (a : Reading) {o' : ℕ} {n' : Tree} {e' : S} {P' : List Pair} (u : Valued S Next behind det (value_as a) o' n' s e' P') → Spells ways S Next behind o' u.role u.value x e' u.more
        same_value a {o'} {n'} {e'} u =
            let key = found.only u.computed o' u.mid u.name u.one u.key in
            subst (λ z. Spells ways S Next behind o' u.role u.value z e' u.more) (same_sign S Next behind det (subst (λ z. Reads S Next behind Punctuator (codes ":") z u.sign u.x) key.1 u.reads) colon refl).1 u.spelled

        span : {a : Role} {n : Tree} {st en st' en' : ℕ} {e e' j : S} {t : Token} → Next s t j → t.start ≡ st' → (behind e').stop ≡ en' → e' ≡ e → ((t l : Token) → Rattle.language.specs.Derivation.place a t l ≡ (t.start, l.stop)) → Rattle.tree.specs.Tree.start_of n ≡ st → Rattle.tree.specs.Tree.stop_of n ≡ en → Placed S Next behind a n s e → (st' ≡ st) × (en' ≡ en)
        span {e = e} {j = j} {t = t} nx p q same spans is_st is_en (placed {t = t0} {m = m} nx0 r) =
            let z = sym (spans t0 (behind e)) ∙ r in
            (sym p ∙ det.start s t t0 j m nx nx0 ∙ ap (λ (c : ℕ × ℕ). c.0) z ∙ is_st, sym q ∙ ap (λ c. (behind c).stop) same ∙ ap (λ (c : ℕ × ℕ). c.1) z ∙ is_en)

        role_spans : (a : Reading) (t l : Token) → Rattle.language.specs.Derivation.place (property_role a) t l ≡ (t.start, l.stop)
        role_spans as_expression t l = refl
        role_spans (as_pattern b) t l = refl

        pub pair_found : (a : Reading) {e : S} {n : Tree} {P : List Pair} {st en : ℕ} → FoundItem S Next behind Ends (value_as a) o x e n P → Placed S Next behind (property_role a) (node Property [] (flags_as c Init) st en (part nk (part n none))) s e →
            FoundItem S Next behind Ends (property_as a) o s e (node Property [] (flags_as c Init) st en (part nk (part n none))) (PK ++ P)
        pair_found a {e} {n} {P} {st} {en} value places = record {
          role = property_role a;
          it_is = property_there a;
          spelled = value_spells a found.spelled colon value.it_is value.spelled places;
          only = λ o' r e' n' P' h d ends.
              let u = valued_by colon refl refl a refl (form_as a n' h d) ends in
              let key = found.only u.computed o' u.mid u.name u.one u.key in
              let same = value.only o' u.role e' u.value u.more u.it_is (same_value a u) ends in
              let where_is = span u.next u.starts u.stops same.0 (role_spans a) refl refl places in
              (same.0, u.tree ∙ same_node refl refl (ap (λ z. flags_as z Init) key.0) where_is.0 where_is.1 (λ i. part (key.2 i) (part (same.1 i) none)), u.pairs ∙ (λ i. key.3 i ++ same.2 i));
        }

    -- a name that is key and value, with a default or without
    module _ (Ends : S → Type 0) (marks : (e : S) → Ends e → Mark e) {ok : ℕ} {k : S} {w : List ℕ} {t : Token} (word : Reads S Next behind IdentifierName w s t k) (free : is_reserved w ≡ false)
        (found : KeyFound S Next behind det false ok s k (node Identifier w plain t.start (behind k).stop none) []) where
      same_key : {n : Tree} {m : S} {P : List Pair} → Echo S Next behind det n s m P → (n ≡ node Identifier w plain t.start t.stop none) × (s ≡ m) × (P ≡ [])
      same_key u =
          let same = det.same Div s u.sign t u.mid k u.reads.next word.next (det.free Div s u.sign u.mid u.reads.next (ap is_free u.reads.class)) (det.free Div s t k word.next (ap is_free word.class)) in
          (u.tree ∙ same_node refl (sym u.reads.text ∙ ap (λ (c : Token). c.text) same.0 ∙ word.text) refl (ap (λ (c : Token). c.start) same.0) (ap (λ (c : Token). c.stop) same.0) refl, u.place, u.pairs)

      same_span : {a : Role} {n : Tree} {st' en' : ℕ} {e e' j : S} {v : Token} → Next s v j → v.start ≡ st' → (behind e').stop ≡ en' → e' ≡ e → ((t l : Token) → Rattle.language.specs.Derivation.place a t l ≡ (t.start, l.stop)) → Placed S Next behind a n s e → (st' ≡ Rattle.tree.specs.Tree.start_of n) × (en' ≡ Rattle.tree.specs.Tree.stop_of n)
      same_span {e = e} {j = j} {v = v} nx p q same spans (placed {t = t0} {m = m} nx0 r) =
          let z = sym (spans t0 (behind e)) ∙ r in
          (sym p ∙ det.start s v t0 j m nx nx0 ∙ ap (λ (c : ℕ × ℕ). c.0) z, sym q ∙ ap (λ c. (behind c).stop) same ∙ ap (λ (c : ℕ × ℕ). c.1) z)

      spans_of : (a : Reading) (t l : Token) → Rattle.language.specs.Derivation.place (property_role a) t l ≡ (t.start, l.stop)
      spans_of as_expression t l = refl
      spans_of (as_pattern b) t l = refl

      short_spells : (a : Reading) {o : ℕ} {st en : ℕ} → Placed S Next behind (property_role a) (node Property [] (flags_as false Shorthand) st en (part (node Identifier w plain t.start t.stop none) (part (node Identifier w plain t.start (behind k).stop none) none))) s k →
          Spells ways S Next behind o (property_role a) (node Property [] (flags_as false Shorthand) st en (part (node Identifier w plain t.start t.stop none) (part (node Identifier w plain t.start (behind k).stop none) none))) s k []
      unfolding spellings
      short_spells as_expression {o} {st} {en} pl =
          let y : Spelling = at Primary (put Rattle.language.specs.Pieces.shorthand_key ∷ put name ∷ []) in
          direct (settled property y) (way_from property (node Property [] (flags_as false Shorthand) st en (part (node Identifier w plain t.start t.stop none) (part (node Identifier w plain t.start (behind k).stop none) none))) y refl first refl) pl
          (within (echo_spells S Next behind det word) (last_runs S Next behind (name_found S Next behind det {o = o} word free).spelled))
      short_spells (as_pattern b) {o} {st} {en} pl =
          let y : Spelling = at Primary (put Rattle.language.specs.Pieces.shorthand_key ∷ put name ∷ []) in
          direct (settled (pattern_property b) y) (way_from (pattern_property b) (node Property [] (flags_as false Shorthand) st en (part (node Identifier w plain t.start t.stop none) (part (node Identifier w plain t.start (behind k).stop none) none))) y refl first refl) pl
          (within (echo_spells S Next behind det word) (last_runs S Next behind (name_found S Next behind det {o = o} word free).spelled))

      -- alone: in each reading
      pub shorthand_found : (a : Reading) {o : ℕ} {st en : ℕ} → Ends k → Placed S Next behind (property_role a) (node Property [] (flags_as false Shorthand) st en (part (node Identifier w plain t.start t.stop none) (part (node Identifier w plain t.start (behind k).stop none) none))) s k →
          FoundItem S Next behind Ends (property_as a) o s k (node Property [] (flags_as false Shorthand) st en (part (node Identifier w plain t.start t.stop none) (part (node Identifier w plain t.start (behind k).stop none) none))) []
      shorthand_found a {o} {st} {en} at_end places = record {
        role = property_role a;
        it_is = property_there a;
        spelled = short_spells a places;
        only = λ o' r e' n' P' h d ends. of a o' n' e' P' places (form_as a n' h d);
      }
        where
          m : Mark k
          m = marks k at_end

          there : (a : Reading) {o' : ℕ} {n' : Tree} {e' : S} {P' : List Pair} → Placed S Next behind (property_role a) (node Property [] (flags_as false Shorthand) st en (part (node Identifier w plain t.start t.stop none) (part (node Identifier w plain t.start (behind k).stop none) none))) s k → Short S Next behind det name o' n' s e' P' →
              (e' ≡ k) × (n' ≡ node Property [] (flags_as false Shorthand) st en (part (node Identifier w plain t.start t.stop none) (part (node Identifier w plain t.start (behind k).stop none) none))) × (P' ≡ [])
          there a {o'} {n'} {e'} {P'} pl u =
              let key = same_key (echo_form S Next behind det u.echoes) in
              let same = (name_found S Next behind det {o = o'} word free).only o' e' u.value u.more (subst (λ z. Spells ways S Next behind o' name u.value z e' u.more) (sym key.1) u.spelled) in
              let where_is = same_span u.next u.starts u.stops same.0 (spans_of a) pl in
              (same.0, u.tree ∙ same_node refl refl refl where_is.0 where_is.1 (λ i. part (key.0 i) (part (same.1 i) none)), u.pairs ∙ (λ i. key.2 i ++ same.2 i))

          of : (a : Reading) (o' : ℕ) (n' : Tree) (e' : S) (P' : List Pair) → Placed S Next behind (property_role a) (node Property [] (flags_as false Shorthand) st en (part (node Identifier w plain t.start t.stop none) (part (node Identifier w plain t.start (behind k).stop none) none))) s k → FormAs a o' n' s e' P' →
              (e' ≡ k) × (n' ≡ node Property [] (flags_as false Shorthand) st en (part (node Identifier w plain t.start t.stop none) (part (node Identifier w plain t.start (behind k).stop none) none))) × (P' ≡ [])
          of as_expression o' n' e' P' pl (by_value u) = absurd (m.no_colon (colon_is Ends marks found m.reads m.allowed m.operand u.key u.reads))
          of as_expression o' n' e' P' pl (by_name u) = there as_expression pl u
          of as_expression o' n' e' P' pl (by_method u) = absurd (m.no_call (call_is Ends marks found m.reads m.allowed m.operand u.key u.reads))
          of as_expression o' n' e' P' pl (by_accessor f h before u) = absurd (accessor_is Ends marks found m.reads m.allowed m.operand m.no_bracket before u.key)
          of as_expression o' n' e' P' pl (by_star star u) = absurd (key_at_sign S Next behind det refl refl star_bracket found.spelled star)
          of as_expression o' n' e' P' pl (by_async before nx line u) = absurd (accessor_is Ends marks found m.reads m.allowed m.operand m.no_bracket before u.key)
          of as_expression o' n' e' P' pl (by_async_star before star line u) = absurd (async_star_is Ends marks found m.reads m.allowed m.operand m.no_star before star)
          of (as_pattern b) o' n' e' P' pl (with_value u) = absurd (m.no_colon (colon_is Ends marks found m.reads m.allowed m.operand u.key u.reads))
          of (as_pattern b) o' n' e' P' pl (with_name u) = there (as_pattern b) pl u
          of (as_pattern b) o' n' e' P' pl (with_element u) = absurd (m.no_equals (equals_is Ends marks found m.reads m.allowed m.operand (default_ends Ends marks found u)))

      -- before `=`: no property of an expression (12.2.6), and a default of a pattern
      module _ {v : Token} {x : S} (equals : Reads S Next behind Punctuator (codes "=") k v x) where
        no_mark : {A : Type 0} {e' : S} → Ends e' → e' ≡ k → A
        no_mark ends there = let m = mark_is Ends marks found equals refl refl ends there in absurd (m.0.no_equals (sym m.1))

        -- the default that stands there, of a pattern's property
        initial : (b : Bool) {o' : ℕ} {n' : Tree} {e' : S} {P' : List Pair} → PatternPropertyAt S Next behind det b o' n' s e' P' → Ends e' → Short S Next behind det (element true) o' n' s e' P'
        initial b (with_value u) ends = absurd (colon_equals (sym (colon_is Ends marks found equals refl refl u.key u.reads)))
        initial b (with_name u) ends = no_mark ends (short_ends Ends marks found u)
        initial b (with_element u) ends = u

        record Initial (o' : ℕ) (n' : Tree) (e' : S) (P' : List Pair) : Type 0 where
          st : ℕ
          en : ℕ
          st1 : ℕ
          en1 : ℕ
          value : Tree
          more : List Pair
          tree : n' ≡ node Property [] (flags_as false Shorthand) st en (part (node Identifier w plain t.start t.stop none) (part (node AssignmentPattern [] plain st1 en1 (part (node Identifier w plain t.start (behind k).stop none) (part value none))) none))
          start : Token
          behind_start : S
          next : Next s start behind_start
          starts : start.start ≡ st
          stops : (behind e').stop ≡ en
          start1 : Token
          behind_start1 : S
          next1 : Next s start1 behind_start1
          starts1 : start1.start ≡ st1
          stops1 : (behind e').stop ≡ en1
          spelled : Spells ways S Next behind o' (expr Assignment true Any) value x e' more
          pairs : P' ≡ more

        initial_parts : {o' : ℕ} {n' : Tree} {e' : S} {P' : List Pair} → Short S Next behind det (element true) o' n' s e' P' → Initial o' n' e' P'
        initial_parts {o'} {n'} {e'} {P'} u = of core core.stands
          where
            core : Defaulted S Next behind det (BoundForm S Next behind det true) o' u.value s e' u.more
            core = default_core S Next behind det true (subst (λ z. Spells ways S Next behind o' (element true) u.value z e' u.more) (sym (echo_form S Next behind det u.echoes).place) u.spelled)

            of : (z : Defaulted S Next behind det (BoundForm S Next behind det true) o' u.value s e' u.more) → BoundForm S Next behind det true o' z.left s z.mid z.one → Initial o' n' e' P'
            of z (a_pattern d) = absurd ((named_unbracketed S Next behind det word).nothing o' z.mid z.left z.one d)
            of z (a_simple (a_target h j d)) = cc
            of z (a_simple (a_name h d)) =
                let key = same_key (echo_form S Next behind det u.echoes) in
                let same = (name_found S Next behind det {o = o'} word free).only o' z.mid z.left z.one d in
                let there = same_sign S Next behind det (subst (λ c. Reads S Next behind Punctuator (codes "=") c z.sign z.x) same.0 z.reads) equals refl in
                record {
                  st = u.st;
                  en = u.en;
                  st1 = z.st;
                  en1 = z.en;
                  value = z.right;
                  more = z.more;
                  tree = u.tree ∙ (λ i. node Property [] (flags_as false Shorthand) u.st u.en (part (key.0 i) (part (z.tree i) none))) ∙ (λ i. node Property [] (flags_as false Shorthand) u.st u.en (part (node Identifier w plain t.start t.stop none) (part (node AssignmentPattern [] plain z.st z.en (part (same.1 i) (part z.right none))) none)));
                  start = u.start;
                  behind_start = u.behind_start;
                  next = u.next;
                  starts = u.starts;
                  stops = u.stops;
                  start1 = z.start;
                  behind_start1 = z.behind_start;
                  next1 = z.next;
                  starts1 = z.starts;
                  stops1 = z.stops;
                  spelled = subst (λ c. Spells ways S Next behind o' (expr Assignment true Any) z.right c e' z.more) there.1 z.value;
                  pairs = u.pairs ∙ (λ i. key.2 i ++ u.more) ∙ z.pairs ∙ (λ i. same.2 i ++ z.more);
                }

        pub initialized_found : (b : Bool) {o : ℕ} {u : Tree} {e : S} {V : List Pair} {st en st1 en1 : ℕ} → FoundItem S Next behind Ends to_expression o x e u V →
            Placed S Next behind (pattern_property b) (node Property [] (flags_as false Shorthand) st en (part (node Identifier w plain t.start t.stop none) (part (node AssignmentPattern [] plain st1 en1 (part (node Identifier w plain t.start (behind k).stop none) (part u none))) none))) s e →
            Placed S Next behind (element true) (node AssignmentPattern [] plain st1 en1 (part (node Identifier w plain t.start (behind k).stop none) (part u none))) s e →
            FoundItem S Next behind Ends (property_as (as_pattern b)) o s e (node Property [] (flags_as false Shorthand) st en (part (node Identifier w plain t.start t.stop none) (part (node AssignmentPattern [] plain st1 en1 (part (node Identifier w plain t.start (behind k).stop none) (part u none))) none))) V
        unfolding spellings
        initialized_found b {o} {u} {e} {V} {st} {en} {st1} {en1} value places inside = record {
          role = pattern_property b;
          it_is = refl;
          spelled = let y : Spelling = at Primary (put Rattle.language.specs.Pieces.shorthand_key ∷ put (element true) ∷ []) in
              direct (settled (pattern_property b) y) (way_from (pattern_property b) (node Property [] (flags_as false Shorthand) st en (part (node Identifier w plain t.start t.stop none) (part (node AssignmentPattern [] plain st1 en1 (part (node Identifier w plain t.start (behind k).stop none) (part u none))) none))) y refl first refl) places
              (within (echo_spells S Next behind det word) (last_runs S Next behind (default_spells S Next behind det true refl (name_found S Next behind det {o = o} word free).spelled equals (subst (λ c. Spells ways S Next behind o c u x e V) (sym (some_same value.it_is)) value.spelled) inside)));
          only = λ o' r e' n' P' h d ends.
              let z = initial_parts (initial b (form_as (as_pattern b) n' h d) ends) in
              let same = value.only o' (expr Assignment true Any) e' z.value z.more refl z.spelled ends in
              let outer = same_span z.next z.starts z.stops same.0 (λ t l. refl) places in
              let inner = same_span z.next1 z.starts1 z.stops1 same.0 (λ t l. refl) inside in
              (same.0, z.tree ∙ same_node refl refl refl outer.0 outer.1 (λ i. part (node Identifier w plain t.start t.stop none) (part (node AssignmentPattern [] plain (inner.0 i) (inner.1 i) (part (node Identifier w plain t.start (behind k).stop none) (part (same.1 i) none))) none)), z.pairs ∙ same.2);
        }
