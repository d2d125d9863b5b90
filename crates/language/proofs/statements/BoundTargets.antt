-- What is bound where a name or a binding pattern may stand (ECMA-262 13.3): found of either kind, or absent.
use Rattle.std.proofs.Common.{◌≡◌, ℕ, Bool, true, false, cond, List, sym, ap, subst, ◌⊎◌, inl, inr}
use Rattle.std.specs.Prelude.{Some, None}
use Rattle.tree.specs.declared.kind.Kind.{Kind}
use Rattle.tree.specs.declared.kind.Pair.{Pair}
use Rattle.tree.specs.Tree.{Tree, kind_of}
use Rattle.language.specs.declared.Start.TheVariants.{Any}
use Rattle.language.specs.Vocabulary.{is_pattern, is_identifier}
use Rattle.language.specs.Pieces.{Role, name, pattern, bound}
use Rattle.language.specs.Token.{Token}
use Rattle.language.specs.Covers.{FoundItem}
use Rattle.language.specs.Promises.{IsDetermined, FoundAt, AbsentAt}
use Rattle.language.specs.Grammar.{ways}
use Rattle.language.specs.Derivation.{Spells}
use Rattle.language.proofs.climbing.Leaves.{name_form}
use Rattle.language.proofs.climbing.Targets.{pattern_is}
use Rattle.language.proofs.covers.CoverReadings.{named_unbracketed}

some_same : {a b : Role} → Some a ≡ Some b → a ≡ b
some_same e = cc

-- the position is that of a pattern or of a name
either_role : (k : Kind) {a : Role} → bound true k ≡ Some a → (a ≡ pattern true Any) ⊎ (a ≡ name)
either_role k {a} h = of (is_pattern k) (is_identifier k) h
  where
    of : (x y : Bool) → cond x (Some (pattern true Any)) (cond y (Some name) None) ≡ Some a → (a ≡ pattern true Any) ⊎ (a ≡ name)
    of true y k = inl (sym (some_same k))
    of false true k = inr (sym (some_same k))
    of false false k = cc

pattern_bound : (k : Kind) → is_pattern k ≡ true → bound true k ≡ Some (pattern true Any)
pattern_bound k h = ap (λ c. cond c (Some (pattern true Any)) (cond (is_identifier k) (Some name) None)) h

module _ (S : Type 0) (Next : S → Token → S → Type 0) (behind : S → Token) (det : IsDetermined S Next behind) (Ends : S → Type 0) {s : S} where
  by_role : {A : Type 0} {a : Role} {o : ℕ} (n : Tree) {e : S} {P : List Pair} → bound true (kind_of n) ≡ Some a → Spells ways S Next behind o a n s e P → (Spells ways S Next behind o (pattern true Any) n s e P → A) → (Spells ways S Next behind o name n s e P → A) → A
  by_role {A} {a} {o} n {e} {P} h d on_pattern on_name = of (either_role (kind_of n) h)
    where
      of : (a ≡ pattern true Any) ⊎ (a ≡ name) → A
      of (inl q) = on_pattern (subst (λ c. Spells ways S Next behind o c n s e P) q d)
      of (inr q) = on_name (subst (λ c. Spells ways S Next behind o c n s e P) q d)

  pub name_bound : {o : ℕ} {k : S} {n : Tree} {A : List Pair} → FoundAt S Next behind o name s k n A → FoundItem S Next behind Ends (bound true) o s k n A
  name_bound found =
      let u = (name_form S Next behind det found.spelled).0 in
      record {
        role = name;
        it_is = ap (λ c. bound true (kind_of c)) u.tree;
        spelled = found.spelled;
        only = λ o' a e' n' P' h d ends. by_role n' h d (λ p. absurd ((named_unbracketed S Next behind det u.reads).nothing o' e' n' P' p)) (λ p. found.only o' e' n' P' p);
      }

  pub pattern_bound_found : {o : ℕ} {k : S} {n : Tree} {A : List Pair} → FoundAt S Next behind o (pattern true Any) s k n A → AbsentAt S Next behind name s → FoundItem S Next behind Ends (bound true) o s k n A
  pattern_bound_found {n = n} found unnamed = record {
    role = pattern true Any;
    it_is = pattern_bound (kind_of n) (pattern_is S Next behind found.spelled);
    spelled = found.spelled;
    only = λ o' a e' n' P' h d ends. by_role n' h d (λ p. found.only o' e' n' P' p) (λ p. absurd (unnamed.nothing o' e' n' P' p));
  }
