-- Two readings of an element at one place end alike.
use Rattle.std.proofs.Common.{◌≡◌, ℕ, suc, ◌≤◌, Bool, true, false, cond, List, [], refl, sym, ap, ◌∙◌, subst, arith, inl, inr}
use Rattle.std.specs.Prelude.{Option, Some, codes}
use Rattle.tokens.specs.declared.token.TokenClass.TheVariants.{Punctuator}
use Rattle.tree.specs.declared.kind.Kind.{Kind}
use Rattle.tree.specs.declared.kind.Kind.TheVariants.{AssignmentPattern, SpreadElement, RestElement}
use Rattle.tree.specs.declared.kind.Pair.{Pair}
use Rattle.tree.specs.Tree.{Tree, node, none, part, kind_of, height, plain}
use Rattle.language.specs.declared.Rank.TheVariants.{Assignment}
use Rattle.language.specs.declared.Start.TheVariants.{Any}
use Rattle.language.specs.Vocabulary.{is_spread, is_rest}
use Rattle.language.specs.Pieces.{Role, expr, spread, rest, with_default}
use Rattle.language.specs.Token.{Token}
use Rattle.language.specs.Covers.{Reading, as_expression, as_pattern, element_as}
use Rattle.language.specs.Promises.{IsDetermined}
use Rattle.language.specs.Following.{IsAlike}
use Rattle.language.specs.Grammar.{ways}
use Rattle.language.specs.Derivation.{Reads, Spells}
use Rattle.language.proofs.climbing.Conditionals.{same_sign}
use Rattle.language.proofs.list_loops.CommaLists.{Separated}
use Rattle.language.proofs.covers.CoverElements.{bare_pattern, pattern_default, element_form, bound_defaults}
use Rattle.language.proofs.covers.CoverEnds.{Closing, item_stops, item_quiet}
use Rattle.language.proofs.covers.CoverSpreads.{spread_form, rest_form, default_no_rest, expression_kind, no_element, no_plain_expression}
use Rattle.unambiguity_laws.proofs.Unique.{Unique, Expressions}
use Rattle.unambiguity_laws.proofs.list_items.BracketEnds.{patterns_end}
use Rattle.unambiguity_laws.proofs.list_items.ElementEnds.{WithDefault, Plain, an_expression, a_pattern, a_default, plainly, at_pattern, at_default, found_plain}

some_same : {a b : Role} → Some a ≡ Some b → a ≡ b
some_same e = cc

module _ (S : Type 0) (Next : S → Token → S → Type 0) (behind : S → Token) (det : IsDetermined S Next behind) where
  -- An element, by its first token: what stands behind `...` is an element too.
  pub data Element (x : Reading) (o : ℕ) (n : Tree) (s e : S) (P : List Pair) : Type 0 where
    dotted : {a : Role} {m : Tree} {t : Token} {y : S} → height n ≡ suc (height m) → Reads S Next behind Punctuator (codes "...") s t y → element_as x (kind_of m) ≡ Some a → Spells ways S Next behind o a m y e P → Element x o n s e P
    undotted : Plain S Next behind det o n s e P → Element x o n s e P

  one_high : (K : Kind) (st en : ℕ) {n m : Tree} → n ≡ node K [] plain st en (part m none) → height n ≡ suc (height m)
  one_high K st en {n} {m} tree = let k : height n ≡ height (node K [] plain st en (part m none)) = ap height tree in omega arith

  pub element_is : (x : Reading) {a : Role} {o : ℕ} {n : Tree} {s e : S} {P : List Pair} → element_as x (kind_of n) ≡ Some a → Spells ways S Next behind o a n s e P → Element x o n s e P
  element_is as_expression {a} {o} {n} {s} {e} {P} it d = of (is_spread (kind_of n)) it
    where
      of : (c : Bool) → ◌≡◌ {A = Option Role} (Some (cond c spread (expr Assignment true Any))) (Some a) → Element as_expression o n s e P
      of true k =
          let v = spread_form S Next behind det (subst (λ r. Spells ways S Next behind o r n s e P) (sym (some_same k)) d) in
          let inner = subst (λ r. Spells ways S Next behind o r v.0.inner v.0.x e P) v.1 v.0.value in
          dotted (one_high SpreadElement v.0.st v.0.en v.0.tree) v.0.reads (ap (λ b. Some (cond b spread (expr Assignment true Any))) (expression_kind S Next behind det inner)) inner
      of false k = undotted (an_expression refl (subst (λ r. Spells ways S Next behind o r n s e P) (sym (some_same k)) d))
  element_is (as_pattern b) {a} {o} {n} {s} {e} {P} it d = of (is_rest (kind_of n)) it
    where
      of : (c : Bool) → cond c (Some (rest b false)) (with_default b (kind_of n)) ≡ Some a → Element (as_pattern b) o n s e P
      of true k =
          let v = rest_form S Next behind det (subst (λ r. Spells ways S Next behind o r n s e P) (sym (some_same k)) d) in
          let u = v.dotted in
          let bound = bound_defaults b (kind_of u.inner) v.it_is in
          dotted (one_high RestElement u.st u.en u.tree) u.reads (ap (λ c. cond c (Some (rest b false)) (with_default b (kind_of u.inner))) (default_no_rest b (kind_of u.inner) bound) ∙ bound) u.value
      of false k = undotted (plainly S Next behind det b (element_form S Next behind det b n k d))

  -- nothing but a spread and a rest begins with `...`
  pub no_dots : {o : ℕ} {n : Tree} {s e y : S} {P : List Pair} {t : Token} → Plain S Next behind det o n s e P → Reads S Next behind Punctuator (codes "...") s t y → ⊥
  no_dots (an_expression high d) h = no_plain_expression S Next behind det h d
  no_dots (a_pattern b d) h = no_element S Next behind det h b (bare_pattern d)
  no_dots (a_default b d) h = no_element S Next behind det h b (pattern_default d)

module _ (S : Type 0) (Next : S → Token → S → Type 0) (behind : S → Token) (det : IsDetermined S Next behind) (alike : IsAlike S Next behind) {h : ℕ} (u : Unique S Next behind det h) where
  module _ (x : Expressions S Next behind det (suc h)) {w : List ℕ} (c : Closing w) where
    -- a pattern with a default, and what else is no expression
    default_default : {b b' : Bool} {o o' : ℕ} {n m : Tree} {s e k : S} {P Q : List Pair} → height n ≤ suc h → WithDefault S Next behind det b o n s e P → Separated S Next behind det w e → WithDefault S Next behind det b' o' m s k Q → Separated S Next behind det w k → k ≡ e
    default_default {o' = o'} {n = n} {k = k} low p sep q there =
        let high : height n ≡ height (node AssignmentPattern [] plain p.st p.en (part p.left (part p.right none))) = ap height p.tree in
        let left_low : height p.left ≤ suc h = omega arith in
        let left = patterns_end S Next behind det alike u (inl left_low) p.stands q.stands in
        let one = same_sign S Next behind det (subst (λ z. Reads S Next behind Punctuator (codes "=") z q.sign q.x) left q.reads) p.reads refl in
        let right_low : height p.right ≤ h = omega arith in
        ((u.expressions.found right_low (λ c. cc) (λ c. cc) p.value (item_stops S Next behind det c Assignment p.right _ refl sep)).only o' k q.right q.more (subst (λ z. Spells ways S Next behind o' (expr Assignment true Any) q.right z k q.more) one.1 q.value) (item_stops S Next behind det c Assignment q.right k refl there)).0

    plains_end : {o o' : ℕ} {n m : Tree} {s e k : S} {P Q : List Pair} → height n ≤ suc h → Plain S Next behind det o n s e P → Separated S Next behind det w e → Plain S Next behind det o' m s k Q → Separated S Next behind det w k → k ≡ e
    plains_end {n = n} low (an_expression {m = n'} high d) sep q there =
        let low' : height n' ≤ suc h = omega arith in
        found_plain S Next behind det alike u c d sep (x.found low' (λ c. cc) (λ c. cc) d (item_stops S Next behind det c Assignment n' _ refl sep)) low' q there
    plains_end low (a_pattern b p) sep (an_expression high d) there = sym (at_pattern S Next behind det alike u c d there (inr low) p sep)
    plains_end low (a_default b p) sep (an_expression high d) there = sym (at_default S Next behind det alike u c d there (inr low) p sep)
    plains_end low (a_pattern b p) sep (a_pattern b' q) there = patterns_end S Next behind det alike u (inl low) p q
    plains_end {e = e} low (a_pattern b p) sep (a_default b' q) there =
        absurd (item_quiet S Next behind det c e q.sign q.x sep (subst (λ z. Reads S Next behind Punctuator (codes "=") z q.sign q.x) (patterns_end S Next behind det alike u (inl low) p q.stands) q.reads))
    plains_end {n = n} {k = k} low (a_default b p) sep (a_pattern b' q) there =
        let high : height n ≡ height (node AssignmentPattern [] plain p.st p.en (part p.left (part p.right none))) = ap height p.tree in
        let left_low : height p.left ≤ suc h = omega arith in
        absurd (item_quiet S Next behind det c k p.sign p.x there (subst (λ z. Reads S Next behind Punctuator (codes "=") z p.sign p.x) (sym (patterns_end S Next behind det alike u (inl left_low) p.stands q)) p.reads))
    plains_end low (a_default b p) sep (a_default b' q) there = default_default low p sep q there

    both_elements : (y z : Reading) {o o' : ℕ} {n m : Tree} {s e k : S} {P Q : List Pair} → height n ≤ suc h → Element S Next behind det y o n s e P → Separated S Next behind det w e → Element S Next behind det z o' m s k Q → Separated S Next behind det w k → k ≡ e
    both_elements y z low (undotted p) sep (undotted q) there = plains_end low p sep q there
    both_elements y z low (undotted p) sep (dotted high r it q) there = absurd (no_dots S Next behind det p r)
    both_elements y z low (dotted high r it p) sep (undotted q) there = absurd (no_dots S Next behind det q r)
    both_elements y z {o' = o'} {k = k} {Q = Q} low (dotted {m = n'} high r it p) sep (dotted {a = a'} {m = m'} high' r' it' q) there =
        let same = same_sign S Next behind det r' r refl in
        let low' : height n' ≤ h = omega arith in
        u.element_ends y z c low' it p sep it' (subst (λ v. Spells ways S Next behind o' a' m' v k Q) same.1 q) there

  -- two readings of an element end alike
  pub element_ends_step : Expressions S Next behind det (suc h) → (y z : Reading) {w : List ℕ} {a b : Role} {o o' : ℕ} {n m : Tree} {s e k : S} {P Q : List Pair} → Closing w → height n ≤ suc h → element_as y (kind_of n) ≡ Some a → Spells ways S Next behind o a n s e P → Separated S Next behind det w e →
      element_as z (kind_of m) ≡ Some b → Spells ways S Next behind o' b m s k Q → Separated S Next behind det w k → k ≡ e
  element_ends_step x y z c low it d sep it' d' there = both_elements x c y z low (element_is S Next behind det y it d) sep (element_is S Next behind det z it' d') there
