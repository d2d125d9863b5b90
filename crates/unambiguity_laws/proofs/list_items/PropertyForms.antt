-- What stands in an object or its pattern, by its key and what is read behind it (ECMA-262 12.2.6, 12.15.5, 13.3.3).
use Rattle.std.proofs.Common.{◌≡◌, ℕ, suc, ◌≤◌, Bool, true, false, cond, List, [], refl, sym, ap, ◌∙◌, subst, arith}
use Rattle.std.specs.Prelude.{Option, Some, codes}
use Rattle.std.proofs.lemmas.Bool.{false≢true}
use Rattle.tokens.specs.declared.token.TokenClass.TheVariants.{IdentifierName, Punctuator}
use Rattle.tree.specs.declared.kind.Kind.{Kind}
use Rattle.tree.specs.declared.kind.Kind.TheVariants.{Property, SpreadElement, RestElement, AssignmentPattern}
use Rattle.tree.specs.declared.kind.Form.{Form}
use Rattle.tree.specs.declared.kind.Form.TheVariants.{Init, Method, Shorthand, Generator, Async, AsyncGenerator}
use Rattle.tree.specs.declared.kind.Pair.{Pair}
use Rattle.tree.specs.Tree.{Tree, node, none, part, kind_of, height, plain}
use Rattle.language.specs.declared.Rank.TheVariants.{Assignment}
use Rattle.language.specs.declared.Start.TheVariants.{Any}
use Rattle.language.specs.Pieces.{Role, expr, name, spread, element, rest, method, with_default}
use Rattle.language.specs.Token.{Token}
use Rattle.language.specs.Covers.{Reading, as_expression, as_pattern, element_as, property_as}
use Rattle.language.specs.Promises.{IsDetermined}
use Rattle.language.specs.Grammar.{ways}
use Rattle.language.specs.Derivation.{Reads, Spells}
use Rattle.language.proofs.table.PropertyNameWays.{is_accessor}
use Rattle.language.proofs.covers.CoverElements.{bound_defaults, BoundForm, a_pattern, a_simple, a_name, a_target, Defaulted, default_core}
use Rattle.language.proofs.covers.CoverSpreads.{default_no_rest, expression_kind, spread_form, rest_form}
use Rattle.language.proofs.covers.CoverReadings.{named_unbracketed}
use Rattle.language.proofs.covers.CoverProperties.{flags_as, accessor_word, KeyAt, plain_key, Valued, Short, Called, PropertyAt, by_value, by_name, by_method, by_star, by_async, by_async_star, by_accessor, PatternPropertyAt, with_value, with_name, with_element, property_at, pattern_property_at}
use Rattle.language.proofs.covers.CoverKeys.{name_key, echo_form}
use Rattle.language.proofs.table.KindViews.{InObject, a_spread, a_property, in_object, InPattern, a_rest, a_property_there, in_pattern}

some_same : {a b : Role} → Some a ≡ Some b → a ≡ b
some_same e = cc

-- what may have a default is an element
as_element : (b : Bool) (k : Kind) {a : Role} → with_default b k ≡ Some a → element_as (as_pattern b) k ≡ Some a
as_element b k h = ap (λ c. cond c (Some (rest b false)) (with_default b k)) (default_no_rest b k h) ∙ h

module _ (S : Type 0) (Next : S → Token → S → Type 0) (behind : S → Token) (det : IsDetermined S Next behind) where
  -- What stands behind a key, no part of it higher than this: nothing, a value, a default, or the function of a method.
  pub data BehindKey (x : Reading) (o hi : ℕ) (mid e : S) : Type 0 where
    nothing : mid ≡ e → BehindKey x o hi mid e
    a_value : {a : Role} {n : Tree} {y : S} {t : Token} {P : List Pair} → Reads S Next behind Punctuator (codes ":") mid t y → height n ≤ hi → element_as x (kind_of n) ≡ Some a → Spells ways S Next behind o a n y e P → BehindKey x o hi mid e
    a_default : {n : Tree} {y : S} {t : Token} {P : List Pair} → Reads S Next behind Punctuator (codes "=") mid t y → height n ≤ hi → Spells ways S Next behind o (expr Assignment true Any) n y e P → BehindKey x o hi mid e
    a_function : {n : Tree} {y : S} {t : Token} {P : List Pair} → Reads S Next behind Punctuator (codes "(") mid t y → height n ≤ hi → Spells ways S Next behind o (method Method) n mid e P → BehindKey x o hi mid e

  -- what stands before the key of a method whose function has this form
  pub data Modifies (s : S) : Form → S → Type 0 where
    starred : {z : S} {t : Token} → Reads S Next behind Punctuator (codes "*") s t z → Modifies s Generator z
    asynchronous : {z k : S} {t v : Token} → Reads S Next behind IdentifierName (codes "async") s t z → Next z v k → v.after_break ≡ false → Modifies s Async z
    both_modify : {x z : S} {t v : Token} → Reads S Next behind IdentifierName (codes "async") s t x → Reads S Next behind Punctuator (codes "*") x v z → v.after_break ≡ false → Modifies s AsyncGenerator z

  -- A property: a spread or a rest; a key and what stands behind it; a getter or setter; or a method of another form.
  pub data PropertyIs (x : Reading) (o hi : ℕ) (s e : S) : Type 0 where
    dotted : {a : Role} {n : Tree} {y : S} {t : Token} {P : List Pair} → Reads S Next behind Punctuator (codes "...") s t y → height n ≤ hi → element_as x (kind_of n) ≡ Some a → Spells ways S Next behind o a n y e P → PropertyIs x o hi s e
    keyed : {c : Bool} {n : Tree} {mid : S} {P : List Pair} → height n ≤ hi → KeyAt S Next behind det o n s mid P c → BehindKey x o hi mid e → PropertyIs x o hi s e
    accessed : (f : Form) {c : Bool} {n m : Tree} {z mid : S} {t : Token} {P Q : List Pair} → is_accessor f ≡ true → Reads S Next behind IdentifierName (accessor_word f) s t z → height n ≤ hi → KeyAt S Next behind det o n z mid P c → height m ≤ hi → Spells ways S Next behind o (method f) m mid e Q → PropertyIs x o hi s e
    modified : (y : Form) {c : Bool} {n m : Tree} {z mid : S} {P Q : List Pair} → Modifies s y z → height n ≤ hi → KeyAt S Next behind det o n z mid P c → height m ≤ hi → Spells ways S Next behind o (method y) m mid e Q → PropertyIs x o hi s e

  module _ {o hi : ℕ} {n : Tree} {s e : S} {P : List Pair} (low : height n ≤ suc hi) where
    of_value : (x : Reading) {r : Kind → Option Role} → (v : Valued S Next behind det r o n s e P) → element_as x (kind_of v.value) ≡ Some v.role → PropertyIs x o hi s e
    of_value x v it =
        let high : height n ≡ height (node Property [] (flags_as v.computed Init) v.st v.en (part v.name (part v.value none))) = ap height v.tree in
        keyed (omega arith) v.key (a_value v.reads (omega arith) it v.spelled)

    of_name : (x : Reading) → Short S Next behind det name o n s e P → PropertyIs x o hi s e
    of_name x v =
        let high : height n ≡ height (node Property [] (flags_as false Shorthand) v.st v.en (part v.key (part v.value none))) = ap height v.tree in
        keyed (omega arith) (plain_key (name_key S Next behind det (subst (λ z. Spells ways S Next behind o name v.value z e v.more) (sym (echo_form S Next behind det v.echoes).place) v.spelled))) (nothing refl)

    of_element : (x : Reading) → Short S Next behind det (element true) o n s e P → PropertyIs x o hi s e
    of_element x v = of core core.stands
      where
        core : Defaulted S Next behind det (BoundForm S Next behind det true) o v.value s e v.more
        core = default_core S Next behind det true (subst (λ z. Spells ways S Next behind o (element true) v.value z e v.more) (sym (echo_form S Next behind det v.echoes).place) v.spelled)

        of : (w : Defaulted S Next behind det (BoundForm S Next behind det true) o v.value s e v.more) → BoundForm S Next behind det true o w.left s w.mid w.one → PropertyIs x o hi s e
        of w (a_pattern d) = absurd ((named_unbracketed S Next behind det (echo_form S Next behind det v.echoes).reads).nothing o w.mid w.left w.one d)
        of w (a_simple (a_target c k d)) = absurd (false≢true (sym c))
        of w (a_simple (a_name c d)) =
            let outer : height n ≡ height (node Property [] (flags_as false Shorthand) v.st v.en (part v.key (part v.value none))) = ap height v.tree in
            let inner : height v.value ≡ height (node AssignmentPattern [] plain w.st w.en (part w.left (part w.right none))) = ap height w.tree in
            keyed (omega arith) (plain_key (name_key S Next behind det d)) (a_default w.reads (omega arith) w.value)

    of_modified : (x : Reading) {y : Form} {z : S} → Modifies s y z → Called S Next behind det Method y o n s z e P → PropertyIs x o hi s e
    of_modified x {y} words v =
        let high : height n ≡ height (node Property [] (flags_as v.computed Method) v.st v.en (part v.name (part v.function none))) = ap height v.tree in
        modified y words (omega arith) v.key (omega arith) v.spelled

    of_property : PropertyAt S Next behind det o n s e P → PropertyIs as_expression o hi s e
    of_property (by_value v) = of_value as_expression v (ap (λ b. Some (cond b spread (expr Assignment true Any))) (expression_kind S Next behind det (subst (λ r. Spells ways S Next behind o r v.value v.x e v.more) (sym (some_same v.it_is)) v.spelled)) ∙ v.it_is)
    of_property (by_name v) = of_name as_expression v
    of_property (by_method v) =
        let high : height n ≡ height (node Property [] (flags_as v.computed Method) v.st v.en (part v.name (part v.function none))) = ap height v.tree in
        keyed (omega arith) v.key (a_function v.reads (omega arith) v.spelled)
    of_property (by_star star v) = of_modified as_expression (starred star) v
    of_property (by_async word nx line v) = of_modified as_expression (asynchronous word nx line) v
    of_property (by_async_star word star line v) = of_modified as_expression (both_modify word star line) v
    of_property (by_accessor f h word v) =
        let high : height n ≡ height (node Property [] (flags_as v.computed f) v.st v.en (part v.name (part v.function none))) = ap height v.tree in
        accessed f h word (omega arith) v.key (omega arith) v.spelled

    of_pattern : (b : Bool) → PatternPropertyAt S Next behind det b o n s e P → PropertyIs (as_pattern b) o hi s e
    of_pattern b (with_value v) = of_value (as_pattern b) v (as_element b (kind_of v.value) v.it_is)
    of_pattern b (with_name v) = of_name (as_pattern b) v
    of_pattern b (with_element v) = of_element (as_pattern b) v

    of_spread : Spells ways S Next behind o spread n s e P → PropertyIs as_expression o hi s e
    of_spread d =
        let v = spread_form S Next behind det d in
        let high : height n ≡ height (node SpreadElement [] plain v.0.st v.0.en (part v.0.inner none)) = ap height v.0.tree in
        let inner = subst (λ r. Spells ways S Next behind o r v.0.inner v.0.x e P) v.1 v.0.value in
        dotted v.0.reads (omega arith) (ap (λ b. Some (cond b spread (expr Assignment true Any))) (expression_kind S Next behind det inner)) inner

    of_rest : (b : Bool) → Spells ways S Next behind o (rest b true) n s e P → PropertyIs (as_pattern b) o hi s e
    of_rest b d =
        let v = (rest_form S Next behind det d) in
        let high : height n ≡ height (node RestElement [] plain v.dotted.st v.dotted.en (part v.dotted.inner none)) = ap height v.dotted.tree in
        dotted v.dotted.reads (omega arith) (as_element b (kind_of v.dotted.inner) (bound_defaults b (kind_of v.dotted.inner) v.it_is)) v.dotted.value

  -- what stands at a property's position is one of these
  pub property_is : (x : Reading) {a : Role} {o hi : ℕ} (n : Tree) {s e : S} {P : List Pair} → height n ≤ suc hi → property_as x (kind_of n) ≡ Some a → Spells ways S Next behind o a n s e P → PropertyIs x o hi s e
  property_is as_expression {a} {o} {hi} (node k w g st en ps) {s} {e} {P} low it d = of (in_object k it) low it d
    where
      of : {k : Kind} → InObject k → height (node k w g st en ps) ≤ suc hi → property_as as_expression k ≡ Some a → Spells ways S Next behind o a (node k w g st en ps) s e P → PropertyIs as_expression o hi s e
      of a_spread low it d = of_spread low (subst (λ z. Spells ways S Next behind o z (node SpreadElement w g st en ps) s e P) (sym (some_same it)) d)
      of a_property low it d = of_property low (property_at S Next behind det (subst (λ z. Spells ways S Next behind o z (node Property w g st en ps) s e P) (sym (some_same it)) d))
  property_is (as_pattern b) {a} {o} {hi} (node k w g st en ps) {s} {e} {P} low it d = of (in_pattern b k it) low it d
    where
      of : {k : Kind} → InPattern k → height (node k w g st en ps) ≤ suc hi → property_as (as_pattern b) k ≡ Some a → Spells ways S Next behind o a (node k w g st en ps) s e P → PropertyIs (as_pattern b) o hi s e
      of a_rest low it d = of_rest low b (subst (λ z. Spells ways S Next behind o z (node RestElement w g st en ps) s e P) (sym (some_same it)) d)
      of a_property_there low it d = of_pattern low b (pattern_property_at S Next behind det b (subst (λ z. Spells ways S Next behind o z (node Property w g st en ps) s e P) (sym (some_same it)) d))
