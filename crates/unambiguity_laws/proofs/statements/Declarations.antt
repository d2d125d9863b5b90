-- Declarators and declarations are the only ones at their place.
use Rattle.std.proofs.Common.{◌≡◌, ℕ, suc, ◌≤◌, Bool, true, false, List, [], ◌++◌, refl, sym, ap, subst, arith}
use Rattle.std.specs.Prelude.{IsTrue, codes}
use Rattle.tokens.specs.declared.token.TokenClass.TheVariants.{Punctuator}
use Rattle.tree.specs.declared.kind.Kind.TheVariants.{VariableDeclarator}
use Rattle.tree.specs.declared.kind.Pair.{Pair}
use Rattle.tree.specs.Tree.{Tree, node, none, part, gap, height, plain}
use Rattle.language.specs.declared.Rank.TheVariants.{Assignment}
use Rattle.language.specs.declared.Start.TheVariants.{Any}
use Rattle.language.specs.Edges.{edge}
use Rattle.language.specs.Continuations.{stops}
use Rattle.language.specs.Pieces.{expr, name, pattern, declarator}
use Rattle.language.specs.Token.{Token}
use Rattle.language.specs.Promises.{IsDetermined, FoundAt, AbsentAt}
use Rattle.language.specs.Following.{IsAlike, Declared, FoundWhere}
use Rattle.language.specs.Grammar.{ways}
use Rattle.language.specs.Derivation.{Reads, Spells, Placed}
use Rattle.language.proofs.list_loops.FirstPieces.{run_token}
use Rattle.language.proofs.climbing.Leaves.{name_form, name_found}
use Rattle.language.proofs.covers.PatternsByToken.{PatternCore, as_array, as_object, pattern_core}
use Rattle.language.proofs.covers.CoverReadings.{name_or_sign}
use Rattle.language.proofs.covers.CoverElements.{BoundForm, a_pattern, a_simple, a_name, a_target, bound_form}
use Rattle.language.proofs.statements.BoundTargets.{name_bound, pattern_bound_found}
use Rattle.language.proofs.statements.Declarators.{Target, DeclaratorForm, with_value, alone, declarator_form, TargetFound, declarator_alone, declarator_found}
use Rattle.unambiguity_laws.proofs.Unique.{Unique, Expressions}
use Rattle.unambiguity_laws.proofs.statements.StatementFacts.{found_at_as}

module _ (S : Type 0) (Next : S → Token → S → Type 0) (behind : S → Token) (det : IsDetermined S Next behind) (alike : IsAlike S Next behind) {h : ℕ} (u : Unique S Next behind det h) where
  -- a name that binds is the only one
  pub name_closed : {o : ℕ} {n : Tree} {s e : S} {P : List Pair} → Spells ways S Next behind o name n s e P → FoundAt S Next behind o name s e n P
  name_closed d = let v = name_form S Next behind det d in found_at_as S Next behind det (name_found S Next behind det {o = 0} v.0.reads v.1) d

  -- where a pattern is spelled, no name is
  pub pattern_unnamed : {o : ℕ} {b : Bool} {n : Tree} {s e : S} {P : List Pair} → Spells ways S Next behind o (pattern b Any) n s e P → AbsentAt S Next behind name s
  pattern_unnamed d = of (pattern_core S Next behind det d)
    where
      of : {o : ℕ} {b : Bool} {n : Tree} {s e : S} {P : List Pair} → PatternCore S Next behind det o b Any n s e P → AbsentAt S Next behind name s
      of (as_array t pl r) = record { nothing = λ o' e' n' P' d'. name_or_sign S Next behind det refl (name_form S Next behind det d').0.reads (run_token S Next behind r).reads }
      of (as_object t b pl r) = record { nothing = λ o' e' n' P' d'. name_or_sign S Next behind det refl (name_form S Next behind det d').0.reads (run_token S Next behind r).reads }

  -- what is bound is the only one, of either kind
  pub target_unique : {o : ℕ} {s k : S} {n : Tree} {P : List Pair} → height n ≤ h → Target S Next behind det o s k n P → TargetFound S Next behind det o s k n P
  target_unique {o} {s} {k} {n} {P} low t = of (bound_form S Next behind det true n t.it_is t.spelled)
    where
      of : BoundForm S Next behind det true o n s k P → TargetFound S Next behind det o s k n P
      of (a_pattern d) = pattern_bound_found S Next behind det (λ e. Unit {0}) (u.closed refl low d) (pattern_unnamed d)
      of (a_simple (a_name b d)) = name_bound S Next behind det (λ e. Unit {0}) (name_closed d)
      of (a_simple (a_target b i d)) = cc

  -- a declarator that can't go on
  pub declarator_step : Expressions S Next behind det (suc h) → {i b : Bool} {o : ℕ} {n : Tree} {s e : S} {P : List Pair} → height n ≤ suc h → Spells ways S Next behind o (declarator i b) n s e P → Declared S Next behind i n e → FoundWhere S Next behind (Declared S Next behind i) o (declarator i b) s e n P
  declarator_step x {i} {b} {o} {n} {s} {e} {P} low d fine = of (declarator_form S Next behind det d)
    where
      on_value : (c : Bool) → b ≡ c → c ≡ true → {st en : ℕ} {target value : Tree} {k y : S} {t : Token} {A V : List Pair} → n ≡ node VariableDeclarator [] plain st en (part target (part value none)) → Target S Next behind det o s k target A → Reads S Next behind Punctuator (codes "=") k t y →
          Spells ways S Next behind o (expr Assignment i Any) value y e V → P ≡ A ++ V → Placed S Next behind (declarator i c) (node VariableDeclarator [] plain st en (part target (part value none))) s e → FoundWhere S Next behind (Declared S Next behind i) o (declarator i c) s e n P
      on_value false same on tree t equals v p pl = cc
      on_value true same on {st} {en} {target} {value} {A = A} {V = V} tree t equals v p pl =
          let high : height n ≡ height (node VariableDeclarator [] plain st en (part target (part value none))) = ap height tree in
          let first = target_unique (omega arith) t in
          let second = u.expressions.found (omega arith) (λ z. cc) (λ z. cc) v (record { before = λ w m r. subst (λ c. IsTrue (stops Assignment i c (behind e) w)) (ap edge tree) (fine.stopped.before w m r); apart = fine.stopped.apart }) in
          subst (λ c. FoundWhere S Next behind (Declared S Next behind i) o (declarator i true) s e c P) (sym tree)
          (subst (λ c. FoundWhere S Next behind (Declared S Next behind i) o (declarator i true) s e (node VariableDeclarator [] plain st en (part target (part value none))) c) (sym p)
          (declarator_found S Next behind det first equals second pl))

      of : DeclaratorForm S Next behind det i b o n s e P → FoundWhere S Next behind (Declared S Next behind i) o (declarator i b) s e n P
      of (with_value on tree t equals v p pl) = on_value b refl on tree t equals v p pl
      of (alone {st} {en} {target} fits tree t pl) =
          let high : height n ≡ height (node VariableDeclarator [] plain st en (part target (gap none))) = ap height tree in
          let first = target_unique (omega arith) t in
          subst (λ c. FoundWhere S Next behind (Declared S Next behind i) o (declarator i b) s e c P) (sym tree) (declarator_alone S Next behind det i b first fine.no_value fits pl)
