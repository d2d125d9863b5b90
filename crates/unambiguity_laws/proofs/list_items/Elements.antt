-- An element, argument or parameter is the only one before a comma or the closing sign, by each reading.
use Rattle.std.proofs.Common.{◌≡◌, ℕ, suc, ◌≤◌, Bool, true, false, cond, List, [], ◌++◌, refl, sym, ap, subst, arith, inr}
use Rattle.std.specs.Prelude.{Option, Some, codes}
use Rattle.tree.specs.declared.kind.Kind.TheVariants.{AssignmentExpression, AssignmentPattern, SpreadElement, RestElement}
use Rattle.tree.specs.declared.kind.Pair.{Pair}
use Rattle.tree.specs.Tree.{Tree, node, none, part, kind_of, height, plain}
use Rattle.language.specs.declared.Rank.{Rank}
use Rattle.language.specs.declared.Rank.TheVariants.{Expression, Assignment, LeftHandSide}
use Rattle.language.specs.declared.Start.TheVariants.{Any}
use Rattle.language.specs.Vocabulary.{takes, is_spread, is_rest}
use Rattle.language.specs.Pieces.{Role, expr, spread, pattern, rest, with_default}
use Rattle.language.specs.Token.{Token}
use Rattle.language.specs.Covers.{Reading, as_expression, as_pattern, element_as, FoundItem}
use Rattle.language.specs.Promises.{IsDetermined, Stops, Found, FoundAt}
use Rattle.language.specs.Following.{IsAlike}
use Rattle.language.specs.Grammar.{ways}
use Rattle.language.specs.Derivation.{Spells, placed}
use Rattle.language.proofs.climbing.Conditionals.{stops_before}
use Rattle.language.proofs.climbing.Leaves.{name_form, name_found}
use Rattle.language.proofs.list_loops.CommaLists.{Separated}
use Rattle.language.proofs.covers.CoverEnds.{Closing, item_stops, item_quiet}
use Rattle.language.proofs.covers.CoverElements.{bound_defaults, Simple, a_name, a_target, simple_expression, ElementForm, bare_pattern, bare_simple, pattern_default, simple_default, element_form, default_expression}
use Rattle.language.proofs.covers.CoverItems.{NotAlone, NotAssigned, absent_alone, absent_assigned, element_pattern, element_target, element_name, element_assigned, element_assigned_pattern}
use Rattle.language.proofs.covers.CoverReadings.{named_unbracketed}
use Rattle.language.proofs.covers.CoverSpreads.{bound_plain, spread_form, rest_form, no_element, no_plain_expression}
use Rattle.language.proofs.covers.CoverLists.{argument_found, element_found, spread_found, rest_found}
use Rattle.unambiguity_laws.proofs.Unique.{Unique, Expressions}
use Rattle.unambiguity_laws.proofs.list_items.Properties.{given}
use Rattle.unambiguity_laws.proofs.list_items.PatternLists.{pattern_closed}
use Rattle.unambiguity_laws.proofs.turns.BesidePatterns.{no_target_beside, unlike_alone, unlike_assigned}

some_same : {a b : Role} → Some a ≡ Some b → a ≡ b
some_same e = cc

module _ (S : Type 0) (Next : S → Token → S → Type 0) (behind : S → Token) (det : IsDetermined S Next behind) (alike : IsAlike S Next behind) {h : ℕ} (u : Unique S Next behind det h) (x : Expressions S Next behind det (suc h)) {w : List ℕ} (c : Closing w) where
  abbrev Ends : S → Type 0
  Ends = Separated S Next behind det w

  stops : (y : Rank) (n : Tree) (e : S) → takes y Expression ≡ false → Ends e → Stops S Next behind y true n e
  stops y n e = item_stops S Next behind det c y n e

  -- where a name stands, no pattern does; nor where a simple target stands, before what may follow an element
  simple_alone : {b : Bool} {o : ℕ} {l : Tree} {s k : S} {P : List Pair} → height l ≤ suc h → Simple S Next behind det b o l s k P → Stops S Next behind LeftHandSide true l k → NotAlone S Next behind Ends b s
  simple_alone low (a_name i d) st = absent_alone S Next behind Ends (named_unbracketed S Next behind det (name_form S Next behind det d).0.reads)
  simple_alone low (a_target i t d) st = λ o' e' n' P' target ends. no_target_beside S Next behind det alike u (inr low) target (λ m. stops LeftHandSide m e' refl ends) t d st

  simple_assigned : {b : Bool} {o : ℕ} {l : Tree} {s k : S} {P : List Pair} → height l ≤ suc h → Simple S Next behind det b o l s k P → Stops S Next behind LeftHandSide true l k → NotAssigned S Next behind Ends b s
  simple_assigned low (a_name i d) st = absent_assigned S Next behind Ends (named_unbracketed S Next behind det (name_form S Next behind det d).0.reads)
  simple_assigned low (a_target i t d) st = λ o' e' n' P' v z target eq. no_target_beside S Next behind det alike u (inr low) target (λ m. stops_before S Next behind det LeftHandSide true m eq refl refl (λ k l. refl)) t d st

  -- what is bound, with a default or without
  bound_item : (b : Bool) {a : Role} {o : ℕ} {n : Tree} {s e : S} {P : List Pair} → height n ≤ suc h → with_default b (kind_of n) ≡ Some a → Spells ways S Next behind o a n s e P → Ends e → FoundItem S Next behind Ends (with_default b) o s e n P
  bound_item b {a} {o} {n} {s} {e} {P} low it d ends = of (element_form S Next behind det b n it d)
    where
      simple : Simple S Next behind det b o n s e P → FoundItem S Next behind Ends (with_default b) o s e n P
      simple (a_name i l) =
          let v = name_form S Next behind det l in
          let before = stops LeftHandSide n e refl ends in
          let here : Simple S Next behind det true o n s e P = a_name refl l in
          subst (λ z. FoundItem S Next behind Ends (with_default z) o s e n P) (sym i) (given S Next behind det (element_name S Next behind det Ends stops (λ k v z. item_quiet S Next behind det c k v z) {o = o} (name_found S Next behind det v.0.reads v.1) (simple_alone low here before) (simple_assigned low here before) ends)
          (subst (λ z. with_default z (kind_of n) ≡ Some a) i it) d ends)
      simple (a_target i t l) =
          let before = stops LeftHandSide n e refl ends in
          let here : Simple S Next behind det false o n s e P = a_target refl t l in
          let found : Found S Next behind o Assignment true Any s e n P = x.found low (λ k. cc) (λ k. cc) (simple_expression S Next behind det false here) (stops Assignment n e refl ends) in
          subst (λ z. FoundItem S Next behind Ends (with_default z) o s e n P) (sym i) (element_target S Next behind det Ends stops (λ k v z. item_quiet S Next behind det c k v z) found t (simple_alone low here before) (simple_assigned low here before))

      of : ElementForm S Next behind det b o n s e P → FoundItem S Next behind Ends (with_default b) o s e n P
      of (bare_pattern l) = element_pattern S Next behind det Ends stops (λ k v z. item_quiet S Next behind det c k v z) (unlike_alone S Next behind det alike u c low l ends) (pattern_closed S Next behind det alike u low l) ends
      of (bare_simple l) = simple l
      of (pattern_default l) =
          let high : height n ≡ height (node AssignmentPattern [] plain l.st l.en (part l.left (part l.right none))) = ap height l.tree in
          let left : FoundAt S Next behind o (pattern b Any) s l.mid l.left l.one = u.closed refl (omega arith) l.stands in
          let right : Found S Next behind o Assignment true Any l.x e l.right l.more = u.expressions.found (omega arith) (λ k. cc) (λ k. cc) l.value (stops Assignment l.right e refl ends) in
          given S Next behind det (element_assigned_pattern S Next behind det Ends stops (λ k v z. item_quiet S Next behind det c k v z) l.reads (placed l.next (λ i. (l.starts i, l.stops i))) (unlike_assigned S Next behind det alike u c (omega arith) l.stands l.reads) left right ends) it d ends
      of (simple_default l) =
          let high : height n ≡ height (node AssignmentPattern [] plain l.st l.en (part l.left (part l.right none))) = ap height l.tree in
          let whole : Spells ways S Next behind o (expr Assignment true Any) (node AssignmentExpression (codes "=") plain l.st l.en (part l.left (part l.right none))) s e (l.one ++ l.more) =
          subst (λ k. Spells ways S Next behind o (expr Assignment true Any) (node AssignmentExpression (codes "=") plain l.st l.en (part l.left (part l.right none))) s e k) l.pairs (default_expression S Next behind det b l) in
          let found : Found S Next behind o Assignment true Any s e (node AssignmentExpression (codes "=") plain l.st l.en (part l.left (part l.right none))) (l.one ++ l.more) = x.found (omega arith) (λ k. cc) (λ k. cc) whole (stops Assignment (node AssignmentExpression (codes "=") plain l.st l.en (part l.left (part l.right none))) e refl ends) in
          let before : Stops S Next behind LeftHandSide true l.left l.mid = stops_before S Next behind det LeftHandSide true l.left l.reads refl refl (λ k v. refl) in
          given S Next behind det
          (element_assigned S Next behind det Ends stops (λ k v z. item_quiet S Next behind det c k v z) l.reads (placed l.next (λ i. (l.starts i, l.stops i))) found l.stands l.value (simple_alone (omega arith) l.stands before) (simple_assigned (omega arith) l.stands before)) it d ends

  -- an argument or an element of an array
  argument_item : {a : Role} {o : ℕ} {n : Tree} {s e : S} {P : List Pair} → height n ≤ suc h → element_as as_expression (kind_of n) ≡ Some a → Spells ways S Next behind o a n s e P → Ends e → FoundItem S Next behind Ends (element_as as_expression) o s e n P
  argument_item {a} {o} {n} {s} {e} {P} low it d ends = of (is_spread (kind_of n)) it
    where
      of : (z : Bool) → ◌≡◌ {A = Option Role} (Some (cond z spread (expr Assignment true Any))) (Some a) → FoundItem S Next behind Ends (element_as as_expression) o s e n P
      of true k =
          let v = spread_form S Next behind det (subst (λ z. Spells ways S Next behind o z n s e P) (sym (some_same k)) d) in
          let high : height n ≡ height (node SpreadElement [] plain v.0.st v.0.en (part v.0.inner none)) = ap height v.0.tree in
          let found : Found S Next behind o Assignment true Any v.0.x e v.0.inner P = u.expressions.found (omega arith) (λ k. cc) (λ k. cc) (subst (λ z. Spells ways S Next behind o z v.0.inner v.0.x e P) v.1 v.0.value) (stops Assignment v.0.inner e refl ends) in
          given S Next behind det (spread_found S Next behind det Ends stops v.0.reads found) it d ends
      of false k =
          let plainly = subst (λ z. Spells ways S Next behind o z n s e P) (sym (some_same k)) d in
          argument_found S Next behind det Ends stops (λ t m dots. no_plain_expression S Next behind det dots plainly) (x.found low (λ k. cc) (λ k. cc) plainly (stops Assignment n e refl ends))

  -- a parameter or an element of a pattern
  pattern_item : (b : Bool) {a : Role} {o : ℕ} {n : Tree} {s e : S} {P : List Pair} → height n ≤ suc h → element_as (as_pattern b) (kind_of n) ≡ Some a → Spells ways S Next behind o a n s e P → Ends e → FoundItem S Next behind Ends (element_as (as_pattern b)) o s e n P
  pattern_item b {a} {o} {n} {s} {e} {P} low it d ends = of (is_rest (kind_of n)) it
    where
      of : (z : Bool) → cond z (Some (rest b false)) (with_default b (kind_of n)) ≡ Some a → FoundItem S Next behind Ends (element_as (as_pattern b)) o s e n P
      of true k =
          let v = rest_form S Next behind det (subst (λ z. Spells ways S Next behind o z n s e P) (sym (some_same k)) d) in
          let high : height n ≡ height (node RestElement [] plain v.dotted.st v.dotted.en (part v.dotted.inner none)) = ap height v.dotted.tree in
          let found = bound_item b (omega arith) (bound_defaults b (kind_of v.dotted.inner) v.it_is) v.dotted.value ends in
          given S Next behind det (rest_found S Next behind det Ends stops v.dotted.reads found (bound_plain b (kind_of v.dotted.inner) v.it_is)) it d ends
      of false k = element_found S Next behind det Ends stops (λ t m dots. no_element S Next behind det dots b (element_form S Next behind det b n k d)) (bound_item b low k d ends)

module _ (S : Type 0) (Next : S → Token → S → Type 0) (behind : S → Token) (det : IsDetermined S Next behind) (alike : IsAlike S Next behind) {h : ℕ} (u : Unique S Next behind det h) where
  pub element_step : Expressions S Next behind det (suc h) → (x : Reading) {w : List ℕ} {a : Role} {o : ℕ} {n : Tree} {s e : S} {P : List Pair} → Closing w → height n ≤ suc h → element_as x (kind_of n) ≡ Some a → Spells ways S Next behind o a n s e P → Separated S Next behind det w e →
      FoundItem S Next behind (Separated S Next behind det w) (element_as x) o s e n P
  element_step es as_expression c low it d ends = argument_item S Next behind det alike u es c low it d ends
  element_step es (as_pattern b) c low it d ends = pattern_item S Next behind det alike u es c b low it d ends
