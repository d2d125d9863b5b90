-- A method, getter or setter of an object: an expression's property, found by its key and its function, and no pattern's (ECMA-262 12.2.6, 14.3).
use Rattle.std.proofs.Common.{◌≡◌, ℕ, Bool, true, false, List, [], ◌∷◌, ◌++◌, refl, sym, ap, ◌∙◌, subst}
use Rattle.std.specs.Prelude.{codes, not, ◌||◌}
use Rattle.std.proofs.lemmas.Bool.{false≢true}
use Rattle.tokens.specs.declared.token.TokenClass.TheVariants.{IdentifierName, Punctuator}
use Rattle.tokens.specs.declared.token.Goal.TheVariants.{Div}
use Rattle.tree.specs.declared.kind.Kind.TheVariants.{Identifier, Property, FunctionExpression}
use Rattle.tree.specs.declared.kind.Form.{Form}
use Rattle.tree.specs.declared.kind.Form.TheVariants.{Get, Set, Method, Init}
use Rattle.tree.specs.declared.kind.Pair.{Pair}
use Rattle.tree.specs.Tree.{Tree, node, Parts, none, part, bare, plain, bare_parts}
use Rattle.tree.specs.Uses.{is_lean, is_init}
use Rattle.language.specs.declared.Rank.{Rank}
use Rattle.language.specs.declared.Rank.TheVariants.{Expression, Primary}
use Rattle.language.specs.Vocabulary.{is, takes}
use Rattle.language.specs.Pieces.{property, method, Spelling, tok, sp, at, put}
use Rattle.language.specs.Token.{Token}
use Rattle.language.specs.Expressions.{properties, value_form}
use Rattle.language.specs.Covers.{as_expression, property_as, FoundItem}
use Rattle.language.specs.Promises.{is_free, IsDetermined, Stops, FoundAt}
use Rattle.language.specs.Grammar.{ways, spellings, can_run, is_function_at}
use Rattle.language.specs.Derivation.{Among, first, Reads, Spells, direct, step, token, laid, Placed, placed}
use Rattle.language.proofs.lower_bound.Domination.{settled}
use Rattle.language.proofs.table.Productions.{way_from}
use Rattle.language.proofs.climbing.OperatorNodes.{last_runs}
use Rattle.language.proofs.climbing.BinaryTurns.{same_node}
use Rattle.language.proofs.table.PropertyNameWays.{is_accessor, name_key_found}
use Rattle.language.proofs.covers.CoverProperties.{flags_as, key_pieces, accessor_word, key_runs, method_begins, Called, PropertyAt, by_value, by_name, by_method, by_star, by_async, by_async_star, by_accessor}
use Rattle.language.proofs.covers.CoverKeys.{KeyFound, key_at_sign, plain_key_found}
use Rattle.language.proofs.covers.CoverObjects.{Mark, form_as, short_ends, colon_is, accessor_is, mark_is, star_bracket, async_star_is}
use Rattle.language.proofs.covers.CoverReadings.{name_or_sign}
use Rattle.language.proofs.table.ViewIsComplete.{way_of, cases}

call_colon : codes "(" ≡ codes ":" → ⊥
call_colon e = false≢true (sym (ap (λ w. is w "(") e))

call_bracket : codes "(" ≡ codes "[" → ⊥
call_bracket e = false≢true (sym (ap (λ w. is w "(") e))

colon_bracket : codes ":" ≡ codes "[" → ⊥
colon_bracket e = false≢true (sym (ap (λ w. is w ":") e))

call_star : codes "(" ≡ codes "*" → ⊥
call_star e = false≢true (sym (ap (λ w. is w "(") e))

-- a getter's or setter's word isn't `async`
unlike_async : (f : Form) → accessor_word f ≡ codes "async" → ⊥
unlike_async Set e = false≢true (ap (λ w. is w "async") e)
unlike_async _ e = false≢true (ap (λ w. is w "async") e)

init_form : (x : Form) → is_init x ≡ true → x ≡ Init
init_form Init h = refl
init_form _ h = cc

-- the word tells a getter from a setter
pub word_tells : (f g : Form) → is_accessor f ≡ true → is_accessor g ≡ true → accessor_word g ≡ accessor_word f → g ≡ f
word_tells Get Get h k e = refl
word_tells Set Set h k e = refl
word_tells Get Set h k e = absurd (false≢true (sym (ap (λ w. is w "set") e)))
word_tells Set Get h k e = absurd (false≢true (sym (ap (λ w. is w "get") e)))
word_tells _ _ h k e = cc

method_listed : (c : Bool) → Among (at Primary (key_pieces c (put (method Method) ∷ []))) (properties c Method Init)
method_listed true = first
method_listed false = first

accessor_listed : (f x : Form) (c : Bool) → is_accessor f ≡ true → Among (at Primary (tok IdentifierName (accessor_word f) ∷ sp ∷ key_pieces c (put (method f) ∷ []))) (properties c f x)
accessor_listed Get x true h = first
accessor_listed Get x false h = first
accessor_listed Set x true h = first
accessor_listed Set x false h = first
accessor_listed _ x c h = cc

key_can : (c : Bool) (f : Form) → can_run (key_pieces c (put (method f) ∷ [])) ≡ true
key_can true f = refl
key_can false f = refl

either_way : (b : Bool) → (not b || b) ≡ true
either_way true = refl
either_way false = refl

flags_lean : (c : Bool) (f : Form) (st en : ℕ) (ps : Parts) → is_lean (bare (node Property [] (flags_as c f) st en ps)) ≡ true
flags_lean true f st en ps = either_way (is_init f)
flags_lean false f st en ps = either_way (is_init f)

-- the function of a method at the plain position has the plain form
module _ (S : Type 0) (Next : S → Token → S → Type 0) (behind : S → Token) where
  plain_value : (n : Tree) {o : ℕ} {u : Tree} {s e : S} {P : List Pair} → Spells ways S Next behind o (method Method) u s e P → value_form (bare_parts (part n (part u none))) ≡ Init
  unfolding spellings
  plain_value n {u = node FunctionExpression w g st en ps} (direct qs h pl d) = cases {ys = []} (is_function_at Method g.form) ((way_of h).listed) (λ b l. init_form g.form b) (λ b l. elim l [ ])
  plain_value n {u = node _ w g st en ps} (direct qs h pl d) = elim ((way_of h).listed) [ ]

module _ (S : Type 0) (Next : S → Token → S → Type 0) (behind : S → Token) (det : IsDetermined S Next behind) (Ends : S → Type 0)
    (stops : (y : Rank) (n : Tree) (e : S) → takes y Expression ≡ false → Ends e → Stops S Next behind y true n e) (marks : (e : S) → Ends e → Mark S Next behind det e) {s : S} (no_dots : (t : Token) (k : S) → Reads S Next behind Punctuator (codes "...") s t k → ⊥) where
  -- the span of a property that begins and ends there
  span : {n : Tree} {st en : ℕ} {e e' j : S} {t : Token} → Next s t j → t.start ≡ st → (behind e').stop ≡ en → e' ≡ e → Placed S Next behind property n s e → (st ≡ Rattle.tree.specs.Tree.start_of n) × (en ≡ Rattle.tree.specs.Tree.stop_of n)
  span {j = j} {t = t} nx p q same (placed {t = t0} {m = m} nx0 r) = (sym p ∙ det.start s t t0 j m nx nx0 ∙ ap (λ (c : ℕ × ℕ). c.0) r, sym q ∙ ap (λ c. (behind c).stop) same ∙ ap (λ (c : ℕ × ℕ). c.1) r)

  module _ {c : Bool} {o : ℕ} {k : S} {nk : Tree} {PK : List Pair} (found : KeyFound S Next behind det c o s k nk PK) where
    -- behind its key a `(`: a method
    method_by : {v : Token} {x : S} → Reads S Next behind Punctuator (codes "(") k v x → {o' : ℕ} {n' : Tree} {e' : S} {P' : List Pair} → PropertyAt S Next behind det o' n' s e' P' → Ends e' → Called S Next behind det Method Method o' n' s s e' P'
    method_by call (by_value u) ends = absurd (call_colon (colon_is S Next behind det no_dots Ends marks found call refl refl u.key u.reads))
    method_by call (by_name u) ends = let m = mark_is S Next behind det no_dots Ends marks found call refl refl ends (short_ends S Next behind det no_dots Ends marks found u) in absurd (m.0.no_call (sym m.1))
    method_by call (by_method u) ends = u
    method_by call (by_star star u) ends = absurd (key_at_sign S Next behind det refl refl star_bracket found.spelled star)
    method_by call (by_async word nx line u) ends = absurd (accessor_is S Next behind det no_dots Ends marks found call refl refl call_bracket word u.key)
    method_by call (by_async_star word star line u) ends = absurd (async_star_is S Next behind det no_dots Ends marks found call refl refl call_star word star)
    method_by call (by_accessor f h word u) ends = absurd (accessor_is S Next behind det no_dots Ends marks found call refl refl call_bracket word u.key)

    its_function : {o' : ℕ} {n' : Tree} {e' : S} {P' : List Pair} (u : Called S Next behind det Method Method o' n' s s e' P') → Spells ways S Next behind o' (method Method) u.function k e' u.more
    its_function {o'} {n'} {e'} u = subst (λ z. Spells ways S Next behind o' (method Method) u.function z e' u.more) (found.only u.computed o' u.mid u.name u.one u.key).1 u.spelled

    method_spells : {e : S} {u : Tree} {P : List Pair} {st en : ℕ} → Spells ways S Next behind o (method Method) u k e P → Placed S Next behind property (node Property [] (flags_as c Method) st en (part nk (part u none))) s e →
        Spells ways S Next behind o property (node Property [] (flags_as c Method) st en (part nk (part u none))) s e (PK ++ P)
    unfolding spellings
    method_spells {u = u} {st = st} {en = en} d pl =
        let y : Spelling = at Primary (key_pieces c (put (method Method) ∷ [])) in
        direct (settled property y) (way_from property (node Property [] (flags_as c Method) st en (part nk (part u none))) y (flags_lean c Method st en (part nk (part u none))) (subst (λ x. Among y (properties c Method x)) (sym (plain_value S Next behind nk d)) (method_listed c)) (key_can c Method)) pl
        (key_runs S Next behind det c (put (method Method) ∷ []) found.spelled (last_runs S Next behind d))

    pub method_found : {e : S} {u : Tree} {P : List Pair} {st en : ℕ} → FoundAt S Next behind o (method Method) k e u P → Placed S Next behind property (node Property [] (flags_as c Method) st en (part nk (part u none))) s e →
        FoundItem S Next behind Ends (property_as as_expression) o s e (node Property [] (flags_as c Method) st en (part nk (part u none))) (PK ++ P)
    method_found function places = record {
      role = property;
      it_is = refl;
      spelled = method_spells function.spelled places;
      only = λ o' r e' n' P' h d ends.
          let u = method_by (method_begins S Next behind det Method function.spelled).reads (form_as S Next behind det no_dots as_expression n' h d) ends in
          let key = found.only u.computed o' u.mid u.name u.one u.key in
          let same = function.only o' e' u.function u.more (its_function u) in
          let where_is = span u.next u.starts u.stops same.0 places in
          (same.0, u.tree ∙ same_node refl refl (ap (λ z. flags_as z Method) key.0) where_is.0 where_is.1 (λ i. part (key.2 i) (part (same.1 i) none)), u.pairs ∙ (λ i. key.3 i ++ same.2 i));
    }

  -- behind `get` or `set` another key
  module _ (f : Form) (accesses : is_accessor f ≡ true) {z : S} {t : Token} (word : Reads S Next behind IdentifierName (accessor_word f) s t z) {c : Bool} {o : ℕ} {k : S} {nk : Tree} {PK : List Pair} (found : KeyFound S Next behind det c o z k nk PK) where
    -- the word is a key too, the only one there
    word_found : KeyFound S Next behind det false 0 s z (node Identifier t.text plain t.start (behind z).stop none) []
    word_found = plain_key_found S Next behind det (name_key_found S Next behind det (record { next = word.next; class = word.class; text = refl }))

    same_form : {g : Form} {x : S} {v : Token} → is_accessor g ≡ true → Reads S Next behind IdentifierName (accessor_word g) s v x → (g ≡ f) × (x ≡ z)
    same_form {g} {x} {v} h read =
        let same = det.same Div s v t x z read.next word.next (det.free Div s v x read.next (ap is_free read.class)) (det.free Div s t z word.next (ap is_free word.class)) in
        (word_tells f g accesses h (sym read.text ∙ ap (λ (w : Token). w.text) same.0 ∙ word.text), same.1)

    no_async : {x : S} {v : Token} → Reads S Next behind IdentifierName (codes "async") s v x → ⊥
    no_async {x} {v} read =
        let same = det.same Div s v t x z read.next word.next (det.free Div s v x read.next (ap is_free read.class)) (det.free Div s t z word.next (ap is_free word.class)) in
        unlike_async f (sym word.text ∙ sym (ap (λ (w : Token). w.text) same.0) ∙ read.text)

    accessor_by : {o' : ℕ} {n' : Tree} {e' : S} {P' : List Pair} → PropertyAt S Next behind det o' n' s e' P' → Ends e' → Called S Next behind det f f o' n' s z e' P'
    accessor_by {o'} (by_value u) ends = absurd (key_at_sign S Next behind det refl refl colon_bracket found.spelled (subst (λ y. Reads S Next behind Punctuator (codes ":") y u.sign u.x) (word_found.only u.computed o' u.mid u.name u.one u.key).1 u.reads))
    accessor_by (by_name u) ends = let m = marks z (subst Ends (short_ends S Next behind det no_dots Ends marks word_found u) ends) in absurd (key_at_sign S Next behind det m.operand m.allowed m.no_bracket found.spelled m.reads)
    accessor_by {o'} (by_method u) ends = absurd (key_at_sign S Next behind det refl refl call_bracket found.spelled (subst (λ y. Reads S Next behind Punctuator (codes "(") y u.sign u.x) (word_found.only u.computed o' u.mid u.name u.one u.key).1 u.reads))
    accessor_by (by_star star u) ends = absurd (name_or_sign S Next behind det refl word star)
    accessor_by (by_async read nx line u) ends = absurd (no_async read)
    accessor_by (by_async_star read star line u) ends = absurd (no_async read)
    accessor_by {o'} {n'} {e'} {P'} (by_accessor {x = x} g h read u) ends =
        let same = same_form h read in
        subst (λ y. Called S Next behind det f f o' n' s y e' P') same.1 (subst (λ y. Called S Next behind det y y o' n' s x e' P') same.0 u)

    accessor_function : {o' : ℕ} {n' : Tree} {e' : S} {P' : List Pair} (u : Called S Next behind det f f o' n' s z e' P') → Spells ways S Next behind o' (method f) u.function k e' u.more
    accessor_function {o'} {n'} {e'} u = subst (λ y. Spells ways S Next behind o' (method f) u.function y e' u.more) (found.only u.computed o' u.mid u.name u.one u.key).1 u.spelled

    accessor_spells : {e : S} {u : Tree} {P : List Pair} {st en : ℕ} → Spells ways S Next behind o (method f) u k e P → Placed S Next behind property (node Property [] (flags_as c f) st en (part nk (part u none))) s e →
        Spells ways S Next behind o property (node Property [] (flags_as c f) st en (part nk (part u none))) s e (PK ++ P)
    unfolding spellings
    accessor_spells {u = u} {st = st} {en = en} d pl =
        let y : Spelling = at Primary (tok IdentifierName (accessor_word f) ∷ sp ∷ key_pieces c (put (method f) ∷ [])) in
        direct (settled property y) (way_from property (node Property [] (flags_as c f) st en (part nk (part u none))) y (flags_lean c f st en (part nk (part u none))) (accessor_listed f (value_form (bare_parts (part nk (part u none)))) c accesses) (key_can c f)) pl
        (step (token word) (step laid (key_runs S Next behind det c (put (method f) ∷ []) found.spelled (last_runs S Next behind d))))

    pub accessor_found : {e : S} {u : Tree} {P : List Pair} {st en : ℕ} → FoundAt S Next behind o (method f) k e u P → Placed S Next behind property (node Property [] (flags_as c f) st en (part nk (part u none))) s e →
        FoundItem S Next behind Ends (property_as as_expression) o s e (node Property [] (flags_as c f) st en (part nk (part u none))) (PK ++ P)
    accessor_found function places = record {
      role = property;
      it_is = refl;
      spelled = accessor_spells function.spelled places;
      only = λ o' r e' n' P' h d ends.
          let u = accessor_by (form_as S Next behind det no_dots as_expression n' h d) ends in
          let key = found.only u.computed o' u.mid u.name u.one u.key in
          let same = function.only o' e' u.function u.more (accessor_function u) in
          let where_is = span u.next u.starts u.stops same.0 places in
          (same.0, u.tree ∙ same_node refl refl (ap (λ y. flags_as y f) key.0) where_is.0 where_is.1 (λ i. part (key.2 i) (part (same.1 i) none)), u.pairs ∙ (λ i. key.3 i ++ same.2 i));
    }
