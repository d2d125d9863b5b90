-- The items of a list in brackets or parentheses, each reading by what was read there: with `...` before it and without.
use Rattle.std.proofs.Common.{◌≡◌, ℕ, Bool, true, false, cond, List, [], refl, sym, ap, ◌∙◌, subst}
use Rattle.std.specs.Prelude.{Option, Some, codes}
use Rattle.tokens.specs.declared.token.TokenClass.TheVariants.{Punctuator}
use Rattle.tree.specs.declared.kind.Kind.{Kind}
use Rattle.tree.specs.declared.kind.Kind.TheVariants.{SpreadElement, RestElement}
use Rattle.tree.specs.declared.kind.Pair.{Pair}
use Rattle.tree.specs.Tree.{Tree, node, none, part, kind_of, plain}
use Rattle.language.specs.declared.Rank.{Rank}
use Rattle.language.specs.declared.Rank.TheVariants.{Expression, Assignment}
use Rattle.language.specs.declared.Start.TheVariants.{Any}
use Rattle.language.specs.Vocabulary.{takes, is_spread, is_rest}
use Rattle.language.specs.Pieces.{Role, expr, rest, spread, bound, with_default}
use Rattle.language.specs.Token.{Token}
use Rattle.language.specs.Covers.{FoundItem, element_as, as_expression, as_pattern}
use Rattle.language.specs.Promises.{IsDetermined, Stops, Found}
use Rattle.language.specs.Grammar.{ways}
use Rattle.language.specs.Derivation.{Reads, Spells}
use Rattle.language.proofs.climbing.BinaryTurns.{same_node}
use Rattle.language.proofs.climbing.Conditionals.{same_sign}
use Rattle.language.proofs.covers.CoverElements.{bound_defaults, element_form}
use Rattle.language.proofs.covers.CoverSpreads.{has_default, plain_bound, default_no_rest, Dotted, spread_form, spread_spells, rest_form, rest_spells, expression_kind, no_element, no_plain_expression}

some_same : {a b : Role} → Some a ≡ Some b → a ≡ b
some_same e = cc

-- an item is no rest, or one
plainly : (b : Bool) (c : Bool) (k : Kind) {a : Role} → c ≡ false → cond c (Some (rest b false)) (with_default b k) ≡ Some a → with_default b k ≡ Some a
plainly b true k f h = cc
plainly b false k f h = h

module _ (S : Type 0) (Next : S → Token → S → Type 0) (behind : S → Token) (det : IsDetermined S Next behind) (Ends : S → Type 0)
    (stops : (y : Rank) (n : Tree) (e : S) → takes y Expression ≡ false → Ends e → Stops S Next behind y true n e) where
  -- an item as the table has it, without `...`: an expression
  data Argued (o : ℕ) (n : Tree) (s e : S) (P : List Pair) : Type 0 where
    argued : Spells ways S Next behind o (expr Assignment true Any) n s e P → Argued o n s e P
    spreaded : Dotted S Next behind det SpreadElement o n s e P → Argued o n s e P

  argument_form : {o : ℕ} {a : Role} (n : Tree) {s e : S} {P : List Pair} → element_as as_expression (kind_of n) ≡ Some a → Spells ways S Next behind o a n s e P → Argued o n s e P
  argument_form {o} {a} n {s} {e} {P} h d = of (is_spread (kind_of n)) h
    where
      of : (c : Bool) → ◌≡◌ {A = Option Role} (Some (cond c spread (expr Assignment true Any))) (Some a) → Argued o n s e P
      of true k = spreaded (spread_form S Next behind det (subst (λ z. Spells ways S Next behind o z n s e P) (sym (some_same k)) d)).0
      of false k = argued (subst (λ z. Spells ways S Next behind o z n s e P) (sym (some_same k)) d)

  -- where no `...` is read
  module _ {s : S} (no_dots : (t : Token) (k : S) → Reads S Next behind Punctuator (codes "...") s t k → ⊥) where
    -- an expression is an item
    pub argument_found : {o : ℕ} {e : S} {n : Tree} {P : List Pair} → Found S Next behind o Assignment true Any s e n P → FoundItem S Next behind Ends (element_as as_expression) o s e n P
    argument_found {o} {e} {n} {P} found = record {
      role = expr Assignment true Any;
      it_is = ap (λ c. Some (cond c spread (expr Assignment true Any))) (expression_kind S Next behind det found.spelled);
      spelled = found.spelled;
      only = λ o' a e' n' P' h d ends. of (argument_form n' h d) ends;
    }
      where
        of : {o' : ℕ} {e' : S} {n' : Tree} {P' : List Pair} → Argued o' n' s e' P' → Ends e' → (e' ≡ e) × (n' ≡ n) × (P' ≡ P)
        of {o'} {e'} {n'} {P'} (argued d) ends = found.only o' e' n' P' d (stops Assignment n' e' refl ends)
        of (spreaded u) ends = absurd (no_dots u.sign u.x u.reads)

    no_rest : (b : Bool) {o : ℕ} {a : Role} (n : Tree) {e : S} {P : List Pair} → element_as (as_pattern b) (kind_of n) ≡ Some a → Spells ways S Next behind o a n s e P → is_rest (kind_of n) ≡ false
    no_rest b {o} {a} n {e} {P} h d = of (is_rest (kind_of n)) refl h
      where
        of : (c : Bool) → is_rest (kind_of n) ≡ c → cond c (Some (rest b false)) (with_default b (kind_of n)) ≡ Some a → is_rest (kind_of n) ≡ false
        of true k i = let u = rest_form S Next behind det (subst (λ z. Spells ways S Next behind o z n s e P) (sym (some_same i)) d) in absurd (no_dots u.dotted.sign u.dotted.x u.dotted.reads)
        of false k i = k

    -- what is bound is an item
    pub element_found : {b : Bool} {o : ℕ} {e : S} {n : Tree} {P : List Pair} → FoundItem S Next behind Ends (with_default b) o s e n P → FoundItem S Next behind Ends (element_as (as_pattern b)) o s e n P
    element_found {b} {n = n} found = record {
      role = found.role;
      it_is = ap (λ c. cond c (Some (rest b false)) (with_default b (kind_of n))) (default_no_rest b (kind_of n) found.it_is) ∙ found.it_is;
      spelled = found.spelled;
      only = λ o' a e' n' P' h d ends. found.only o' a e' n' P' (plainly b (is_rest (kind_of n')) (kind_of n') (no_rest b n' h d) h) d ends;
    }

  -- where `...` is read, and behind it at x
  module _ {s x : S} {t : Token} (dots : Reads S Next behind Punctuator (codes "...") s t x) where
    moved : {o : ℕ} {a : Role} {n : Tree} {k e : S} {v : Token} {P : List Pair} → Reads S Next behind Punctuator (codes "...") s v k → Spells ways S Next behind o a n k e P → Spells ways S Next behind o a n x e P
    moved {o} {a} {n} {e = e} {P = P} h d = subst (λ c. Spells ways S Next behind o a n c e P) (same_sign S Next behind det h dots refl).1 d

    dotted_same : {K : Kind} {o : ℕ} {n u : Tree} {e e' : S} {P : List Pair} (d : Dotted S Next behind det K o n s e' P) → e' ≡ e → d.inner ≡ u → n ≡ node K [] plain t.start (behind e).stop (part u none)
    dotted_same d h k = d.tree ∙ same_node refl refl refl (sym d.starts ∙ ap (λ (v : Token). v.start) (same_sign S Next behind det d.reads dots refl).0) (sym d.stops ∙ ap (λ c. (behind c).stop) h) (ap (λ c. part c none) k)

    spread_at : {o : ℕ} {a : Role} (n : Tree) {e : S} {P : List Pair} → element_as as_expression (kind_of n) ≡ Some a → Spells ways S Next behind o a n s e P → (u : Dotted S Next behind det SpreadElement o n s e P) × (u.role ≡ expr Assignment true Any)
    spread_at {o} {a} n {e} {P} h d = of (is_spread (kind_of n)) h
      where
        of : (c : Bool) → ◌≡◌ {A = Option Role} (Some (cond c spread (expr Assignment true Any))) (Some a) → (u : Dotted S Next behind det SpreadElement o n s e P) × (u.role ≡ expr Assignment true Any)
        of true k = spread_form S Next behind det (subst (λ z. Spells ways S Next behind o z n s e P) (sym (some_same k)) d)
        of false k = absurd (no_plain_expression S Next behind det dots (subst (λ z. Spells ways S Next behind o z n s e P) (sym (some_same k)) d))

    -- a spread
    pub spread_found : {o : ℕ} {e : S} {n : Tree} {P : List Pair} → Found S Next behind o Assignment true Any x e n P → FoundItem S Next behind Ends (element_as as_expression) o s e (node SpreadElement [] plain t.start (behind e).stop (part n none)) P
    spread_found {o} {e} {n} {P} found = record {
      role = spread;
      it_is = refl;
      spelled = spread_spells S Next behind det dots found.spelled;
      only = λ o' a e' n' P' h d ends.
          let u = spread_at n' h d in
          let v = subst (λ c. Spells ways S Next behind o' c u.0.inner x e' P') u.1 (moved u.0.reads u.0.value) in
          let same = found.only o' e' u.0.inner P' v (stops Assignment u.0.inner e' refl ends) in
          (same.0, dotted_same u.0 same.0 same.1, same.2);
    }

    -- a rest, as an item of an array's or a parameter list's pattern
    record Rested (b : Bool) (o : ℕ) (n : Tree) (e : S) (P : List Pair) : Type 0 where
      dotted : Dotted S Next behind det RestElement o n s e P
      it_is : bound b (kind_of dotted.inner) ≡ Some dotted.role
      value : Spells ways S Next behind o dotted.role dotted.inner x e P

    rest_at : {b : Bool} {o : ℕ} {a : Role} (n : Tree) {e : S} {P : List Pair} → element_as (as_pattern b) (kind_of n) ≡ Some a → Spells ways S Next behind o a n s e P → Rested b o n e P
    rest_at {b} {o} {a} n {e} {P} h d = of (is_rest (kind_of n)) h
      where
        of : (c : Bool) → cond c (Some (rest b false)) (with_default b (kind_of n)) ≡ Some a → Rested b o n e P
        of true k = let u = rest_form S Next behind det (subst (λ z. Spells ways S Next behind o z n s e P) (sym (some_same k)) d) in record { dotted = u.dotted; it_is = u.it_is; value = moved u.dotted.reads u.dotted.value }
        of false k = absurd (no_element S Next behind det dots b (element_form S Next behind det b n k d))

    pub rest_found : {b : Bool} {o : ℕ} {e : S} {n : Tree} {P : List Pair} → FoundItem S Next behind Ends (with_default b) o x e n P → has_default (kind_of n) ≡ false →
        FoundItem S Next behind Ends (element_as (as_pattern b)) o s e (node RestElement [] plain t.start (behind e).stop (part n none)) P
    rest_found {b} {o} {e} {n} {P} found no_default = record {
      role = rest b false;
      it_is = refl;
      spelled = rest_spells S Next behind det b false (plain_bound b (kind_of n) no_default found.it_is) refl dots found.spelled;
      only = λ o' a e' n' P' h d ends.
          let u = rest_at n' h d in
          let same = found.only o' u.dotted.role e' u.dotted.inner P' (bound_defaults b (kind_of u.dotted.inner) u.it_is) u.value ends in
          (same.0, dotted_same u.dotted same.0 same.1, same.2);
    }
