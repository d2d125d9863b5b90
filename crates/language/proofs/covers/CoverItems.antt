-- An element of a pattern where an expression was read: found or absent, by what was found there as an expression and as a bare pattern.
use Rattle.std.proofs.Common.{◌≡◌, ℕ, Bool, true, false, List, [], ◌++◌, refl, sym, ap, ◌∙◌, subst}
use Rattle.std.specs.Prelude.{Some, codes, ◌&&◌, ◌||◌}
use Rattle.std.proofs.lemmas.Bool.{false≢true}
use Rattle.tokens.specs.declared.token.TokenClass.TheVariants.{Punctuator}
use Rattle.tree.specs.declared.kind.Kind.{Kind}
use Rattle.tree.specs.declared.kind.Kind.TheVariants.{AssignmentExpression, AssignmentPattern}
use Rattle.tree.specs.declared.kind.Pair.{Pair}
use Rattle.tree.specs.Tree.{Tree, node, Parts, none, part, kind_of, parts_of, plain}
use Rattle.language.specs.declared.Rank.{Rank}
use Rattle.language.specs.declared.Rank.TheVariants.{Expression, Assignment, LeftHandSide}
use Rattle.language.specs.declared.Start.TheVariants.{Any}
use Rattle.language.specs.FirstPart.{lead}
use Rattle.language.specs.Vocabulary.{takes, is_target}
use Rattle.language.specs.Pieces.{Role, expr, name, pattern, element, with_default, bound}
use Rattle.language.specs.Token.{Token}
use Rattle.language.specs.Covers.{is_default, FoundItem}
use Rattle.language.specs.Promises.{IsDetermined, Stops, Found, FoundAt, AbsentAt}
use Rattle.language.specs.Grammar.{ways}
use Rattle.language.specs.Derivation.{Reads, Spells, Placed, placed}
use Rattle.language.proofs.climbing.BinaryTurns.{same_node}
use Rattle.language.proofs.climbing.Conditionals.{same_sign}
use Rattle.language.proofs.covers.CoverElements.{is_simple, simple_target, bound_defaults, target_moves, Simple, a_name, a_target, simple_role, pattern_role, simple_left, simple_expression, Defaulted, ElementForm, bare_pattern, bare_simple, pattern_default, simple_default, element_form, default_spells, default_expression}

-- the node or its left side is such a target
abbrev pub simply : Bool → Tree → Bool
simply b n = is_simple b (kind_of n) || (is_default (kind_of n) && is_simple b (lead (parts_of n)))

or_first : (x y : Bool) → x ≡ true → (x || y) ≡ true
or_first true y h = refl
or_first false y h = cc

assigned_simply : (b : Bool) (k : Kind) → is_simple b k ≡ true → (is_simple b AssignmentExpression || (true && is_simple b k)) ≡ true
assigned_simply true k h = h
assigned_simply false k h = h

no_clash : {k l : Kind} → k ≡ l → is_target k ≡ true → is_target l ≡ false → ⊥
no_clash e h f = false≢true (sym f ∙ sym (ap is_target e) ∙ h)

module _ (S : Type 0) (Next : S → Token → S → Type 0) (behind : S → Token) (Ends : S → Type 0) where
  -- no pattern here stands alone; none has `=` behind it
  abbrev pub NotAlone : Bool → S → Type 0
  NotAlone b s = (o' : ℕ) (e' : S) (n' : Tree) (P' : List Pair) → Spells ways S Next behind o' (pattern b Any) n' s e' P' → Ends e' → ⊥

  abbrev pub NotAssigned : Bool → S → Type 0
  NotAssigned b s = (o' : ℕ) (e' : S) (n' : Tree) (P' : List Pair) (v : Token) (k : S) → Spells ways S Next behind o' (pattern b Any) n' s e' P' → Reads S Next behind Punctuator (codes "=") e' v k → ⊥

  -- no expression here is a simple target or an assignment to one; where names are bound, a name or an assignment to one
  abbrev pub Unlike : Bool → S → Type 0
  Unlike b s = (o' : ℕ) (e' : S) (n' : Tree) (P' : List Pair) → Spells ways S Next behind o' (expr Assignment true Any) n' s e' P' → Ends e' → simply b n' ≡ false

  -- where no pattern stands at all, or where it ends
  pub absent_alone : {b : Bool} {s : S} → AbsentAt S Next behind (pattern b Any) s → NotAlone b s
  absent_alone missed o' e' n' P' d ends = missed.nothing o' e' n' P' d

  pub absent_assigned : {b : Bool} {s : S} → AbsentAt S Next behind (pattern b Any) s → NotAssigned b s
  absent_assigned missed o' e' n' P' v k d h = missed.nothing o' e' n' P' d

module _ (S : Type 0) (Next : S → Token → S → Type 0) (behind : S → Token) (det : IsDetermined S Next behind) (Ends : S → Type 0)
    (stops : (y : Rank) (n : Tree) (e : S) → takes y Expression ≡ false → Ends e → Stops S Next behind y true n e) (quiet : (e : S) (v : Token) (k : S) → Ends e → Reads S Next behind Punctuator (codes "=") e v k → ⊥) where
  abbrev Item : Bool → ℕ → S → S → Tree → List Pair → Type 0
  Item b = FoundItem S Next behind Ends (with_default b)

  unlike_simple : {b : Bool} {o : ℕ} {n : Tree} {s e : S} {P : List Pair} → Unlike S Next behind Ends b s → Simple S Next behind det b o n s e P → Ends e → ⊥
  unlike_simple {b} {o} {n} {s} {e} {P} other u ends =
      false≢true (sym (other o e n P (simple_expression S Next behind det b u) ends) ∙ or_first (is_simple b (kind_of n)) _ (simple_left S Next behind det b u).0)

  unlike_default : {b : Bool} {o : ℕ} {n : Tree} {s e : S} {P : List Pair} → Unlike S Next behind Ends b s → Defaulted S Next behind det (Simple S Next behind det b) o n s e P → Ends e → ⊥
  unlike_default {b} {o} {n} {s} {e} {P} other u ends =
      false≢true (sym (other o e (node AssignmentExpression (codes "=") plain u.st u.en (part u.left (part u.right none))) P (default_expression S Next behind det b u) ends) ∙ assigned_simply b (kind_of u.left) (simple_left S Next behind det b u.stands).0)

  -- a bare pattern
  pub element_pattern : {b : Bool} {o : ℕ} {s e : S} {m : Tree} {P : List Pair} → Unlike S Next behind Ends b s → FoundAt S Next behind o (pattern b Any) s e m P → Ends e → Item b o s e m P
  element_pattern {b} {o} {s} {e} {m} {P} other found at_end =
      let r = pattern_role S Next behind det found.spelled in
      record { role = r.role; it_is = bound_defaults b (kind_of m) r.it_is; spelled = r.spelled; only = λ o' a e' n' P' h d ends. of (element_form S Next behind det b n' h d) ends }
    where
      of : {o' : ℕ} {e' : S} {n' : Tree} {P' : List Pair} → ElementForm S Next behind det b o' n' s e' P' → Ends e' → (e' ≡ e) × (n' ≡ m) × (P' ≡ P)
      of {o'} {e'} {n'} {P'} (bare_pattern d) ends = found.only o' e' n' P' d
      of (bare_simple u) ends = absurd (unlike_simple other u ends)
      of {o'} (pattern_default u) ends = absurd (quiet e u.sign u.x at_end (subst (λ c. Reads S Next behind Punctuator (codes "=") c u.sign u.x) (found.only o' u.mid u.left u.one u.stands).0 u.reads))
      of (simple_default u) ends = absurd (unlike_default other u ends)

  -- a name or a member that is assigned to, in parentheses or not
  pub element_target : {o : ℕ} {s e : S} {n : Tree} {P : List Pair} → Found S Next behind o Assignment true Any s e n P → is_target (kind_of n) ≡ true → NotAlone S Next behind Ends false s → NotAssigned S Next behind Ends false s → Item false o s e n P
  element_target {o} {s} {e} {n} {P} found target alone assigned =
      let r = simple_role S Next behind det (a_target refl target (target_moves S Next behind det Assignment LeftHandSide refl refl refl target found.spelled)) in
      record { role = r.role; it_is = bound_defaults false (kind_of n) r.it_is; spelled = r.spelled; only = λ o' a e' n' P' h d ends. of (element_form S Next behind det false n' h d) ends }
    where
      of : {o' : ℕ} {e' : S} {n' : Tree} {P' : List Pair} → ElementForm S Next behind det false o' n' s e' P' → Ends e' → (e' ≡ e) × (n' ≡ n) × (P' ≡ P)
      of {o'} {e'} {n'} {P'} (bare_pattern d) ends = absurd (alone o' e' n' P' d ends)
      of {o'} {e'} {n'} {P'} (bare_simple u) ends = found.only o' e' n' P' (simple_expression S Next behind det false u) (stops Assignment n' e' refl ends)
      of {o'} (pattern_default u) ends = absurd (assigned o' u.mid u.left u.one u.sign u.x u.stands u.reads)
      of {o'} {e'} {P' = P'} (simple_default u) ends =
          let m = node AssignmentExpression (codes "=") plain u.st u.en (part u.left (part u.right none)) in
          let same = found.only o' e' m P' (default_expression S Next behind det false u) (stops Assignment m e' refl ends) in
          absurd (no_clash (sym (ap kind_of same.1)) target refl)

  -- a name that is bound
  pub element_name : {o : ℕ} {s e : S} {n : Tree} {P : List Pair} → FoundAt S Next behind o name s e n P → NotAlone S Next behind Ends true s → NotAssigned S Next behind Ends true s → Ends e → Item true o s e n P
  element_name {o} {s} {e} {n} {P} found alone assigned at_end =
      let r = simple_role S Next behind det (a_name refl found.spelled) in
      record { role = r.role; it_is = bound_defaults true (kind_of n) r.it_is; spelled = r.spelled; only = λ o' a e' n' P' h d ends. of (element_form S Next behind det true n' h d) ends }
    where
      there : {o' : ℕ} {e' : S} {n' : Tree} {P' : List Pair} → Simple S Next behind det true o' n' s e' P' → (e' ≡ e) × (n' ≡ n) × (P' ≡ P)
      there {o'} {e'} {n'} {P'} (a_name h d) = found.only o' e' n' P' d
      there (a_target h t d) = cc

      of : {o' : ℕ} {e' : S} {n' : Tree} {P' : List Pair} → ElementForm S Next behind det true o' n' s e' P' → Ends e' → (e' ≡ e) × (n' ≡ n) × (P' ≡ P)
      of {o'} {e'} {n'} {P'} (bare_pattern d) ends = absurd (alone o' e' n' P' d ends)
      of (bare_simple u) ends = there u
      of {o'} (pattern_default u) ends = absurd (assigned o' u.mid u.left u.one u.sign u.x u.stands u.reads)
      of (simple_default u) ends = absurd (quiet e u.sign u.x at_end (subst (λ c. Reads S Next behind Punctuator (codes "=") c u.sign u.x) (there u.stands).0 u.reads))

  -- What stands so far, `=` and what was read behind it: of an assignment to a name or a simple target the element with that default.
  module _ {b : Bool} {o : ℕ} {l u : Tree} {st en : ℕ} {s mid x e : S} {v : Token} {R V : List Pair} (reads : Reads S Next behind Punctuator (codes "=") mid v x) (places : Placed S Next behind (element b) (node AssignmentPattern [] plain st en (part l (part u none))) s e) where
    element_with : {a : Role} → bound b (kind_of l) ≡ Some a → Spells ways S Next behind o a l s mid R → Spells ways S Next behind o (expr Assignment true Any) u x e V → Spells ways S Next behind o (element b) (node AssignmentPattern [] plain st en (part l (part u none))) s e (R ++ V)
    element_with h d r = default_spells S Next behind det b h d reads r places

    pub element_assigned : Found S Next behind o Assignment true Any s e (node AssignmentExpression (codes "=") plain st en (part l (part u none))) (R ++ V) → Simple S Next behind det b o l s mid R → Spells ways S Next behind o (expr Assignment true Any) u x e V → NotAlone S Next behind Ends b s →
        NotAssigned S Next behind Ends b s → Item b o s e (node AssignmentPattern [] plain st en (part l (part u none))) (R ++ V)
    element_assigned found left right alone assigned =
        let r = simple_role S Next behind det left in
        record { role = element b; it_is = refl; spelled = element_with r.it_is r.spelled right; only = λ o' a e' n' P' h d ends. of (element_form S Next behind det b n' h d) ends }
      where
        of : {o' : ℕ} {e' : S} {n' : Tree} {P' : List Pair} → ElementForm S Next behind det b o' n' s e' P' → Ends e' → (e' ≡ e) × (n' ≡ node AssignmentPattern [] plain st en (part l (part u none))) × (P' ≡ R ++ V)
        of {o'} {e'} {n'} {P'} (bare_pattern d) ends = absurd (alone o' e' n' P' d ends)
        of {o'} {e'} {n'} {P'} (bare_simple w) ends =
            let same = found.only o' e' n' P' (simple_expression S Next behind det b w) (stops Assignment n' e' refl ends) in
            absurd (no_clash (ap kind_of same.1) (simple_target b (kind_of n') (simple_left S Next behind det b w).0) refl)
        of {o'} (pattern_default w) ends = absurd (assigned o' w.mid w.left w.one w.sign w.x w.stands w.reads)
        of {o'} {e'} {P' = P'} (simple_default w) ends =
            let m = node AssignmentExpression (codes "=") plain w.st w.en (part w.left (part w.right none)) in
            let same = found.only o' e' m P' (default_expression S Next behind det b w) (stops Assignment m e' refl ends) in
            (same.0, w.tree ∙ (λ k. node AssignmentPattern [] plain (Rattle.tree.specs.Tree.start_of (same.1 k)) (Rattle.tree.specs.Tree.stop_of (same.1 k)) (parts_of (same.1 k))), same.2)

    -- of an assignment to a pattern
    pub element_assigned_pattern : Unlike S Next behind Ends b s → FoundAt S Next behind o (pattern b Any) s mid l R → Found S Next behind o Assignment true Any x e u V → Ends e → Item b o s e (node AssignmentPattern [] plain st en (part l (part u none))) (R ++ V)
    element_assigned_pattern other left right at_end =
        let r = pattern_role S Next behind det left.spelled in
        record { role = element b; it_is = refl; spelled = element_with r.it_is r.spelled right.spelled; only = λ o' a e' n' P' h d ends. of (element_form S Next behind det b n' h d) ends }
      where
        span : {st' en' : ℕ} {e' k : S} {t : Token} → Next s t k → t.start ≡ st' → (behind e').stop ≡ en' → e' ≡ e → Placed S Next behind (element b) (node AssignmentPattern [] plain st en (part l (part u none))) s e → (st' ≡ st) × (en' ≡ en)
        span {k = k} {t = t} nx p q same (placed {t = t0} {m = m} nx0 r) = (sym p ∙ det.start s t t0 k m nx nx0 ∙ ap (λ (c : ℕ × ℕ). c.0) r, sym q ∙ ap (λ c. (behind c).stop) same ∙ ap (λ (c : ℕ × ℕ). c.1) r)

        of : {o' : ℕ} {e' : S} {n' : Tree} {P' : List Pair} → ElementForm S Next behind det b o' n' s e' P' → Ends e' → (e' ≡ e) × (n' ≡ node AssignmentPattern [] plain st en (part l (part u none))) × (P' ≡ R ++ V)
        of {o'} {e'} {n'} {P'} (bare_pattern d) ends = absurd (quiet e' v x ends (subst (λ c. Reads S Next behind Punctuator (codes "=") c v x) (sym (left.only o' e' n' P' d).0) reads))
        of (bare_simple w) ends = absurd (unlike_simple other w ends)
        of {o'} {e'} (pattern_default w) ends =
            let before = left.only o' w.mid w.left w.one w.stands in
            let there = same_sign S Next behind det (subst (λ c. Reads S Next behind Punctuator (codes "=") c w.sign w.x) before.0 w.reads) reads refl in
            let same = right.only o' e' w.right w.more (subst (λ c. Spells ways S Next behind o' (expr Assignment true Any) w.right c e' w.more) there.1 w.value) (stops Assignment w.right e' refl ends) in
            let where_is = span w.next w.starts w.stops same.0 places in
            (same.0, w.tree ∙ same_node refl refl refl where_is.0 where_is.1 (λ k. part (before.1 k) (part (same.1 k) none)), w.pairs ∙ (λ k. before.2 k ++ same.2 k))
        of (simple_default w) ends = absurd (unlike_default other w ends)
