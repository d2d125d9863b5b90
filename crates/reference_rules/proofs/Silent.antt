-- References of which no rule says anything.
use Rattle.std.proofs.Common.{◌≡◌, Bool, true, false, List, [], ◌∷◌, ◌++◌, Option, Some, None, refl, sym, ap, ◌∙◌, append-nil}
use Rattle.std.specs.Prelude.{not, ◌&&◌, cond, is_none, is_some}
use Rattle.std.proofs.lemmas.Bool.{false≢true}
use Rattle.language.specs.Vocabulary.{is}
use Rattle.scopes.specs.Bindings.{Binding}
use Rattle.scopes.specs.Found.{Reference}
use Rattle.rule_words.specs.Reports.{Report}
use Rattle.reference_rules.specs.declared.reference_rule.Profile.{Profile}
use Rattle.reference_rules.specs.declared.reference_rule.ReferenceRule.{ReferenceRule}
use Rattle.reference_rules.specs.declared.reference_rule.ReferenceRule.TheVariants.{NoAlert, NoClassAssign, NoConstAssign, NoExAssign, NoFuncAssign, NoGlobalAssign, NoImplicitGlobals, NoImportAssign, NoNewNativeNonconstructor, NoNewSymbol, NoObjCalls, NoParamReassign, NoRedeclare, NoShadowRestrictedNames, NoUndefined, NoUseBeforeDefine}
use Rattle.reference_rules.specs.BuiltIn.{is_built_in_for}
use Rattle.reference_rules.specs.Found.{by_reference, each, named}
use Rattle.reference_rules.specs.Rows.{is_behind, is_silent, of_reference, says}
use Rattle.reference_rules.specs.Tests.{by_catch, by_class, by_const, by_function, by_import, by_parameter, is_bound, is_callee, is_dialog, is_namespace, is_no_constructor}

both-true : (a b : Bool) → (a && b) ≡ true → (a ≡ true) × (b ≡ true)
both-true true b h = (refl, h)
both-true false b h = absurd (false≢true h)

not-true : (a : Bool) → not a ≡ true → a ≡ false
not-true false h = refl
not-true true h = absurd (false≢true h)

first-false : (a b : Bool) → a ≡ false → (a && b) ≡ false
first-false a b h = ap (λ x. x && b) h

middle-false : (a b c : Bool) → b ≡ false → (a && (b && c)) ≡ false
middle-false true b c h = first-false b c h
middle-false false b c h = refl

not-none : {X : Type 0} (o : Option X) → is_some o ≡ true → is_none o ≡ false
not-none None h = absurd (false≢true h)
not-none (Some x) h = refl

module _ (p : Profile) (r : Reference) (b : Option Binding) (w : r.writes ≡ false) (m : is_none r.meaning ≡ false) (u : is r.name "undefined" ≡ false) (d : is_behind r.start b ≡ false) where
  none-holds : (rule : ReferenceRule) → of_reference p rule r b ≡ false
  none-holds NoAlert = middle-false r.called (is_none r.meaning) (is_dialog r.name) m
  none-holds NoClassAssign = first-false r.writes (is_bound by_class b) w
  none-holds NoConstAssign = first-false r.writes (is_bound by_const b) w
  none-holds NoExAssign = first-false r.writes (is_bound by_catch b) w
  none-holds NoFuncAssign = first-false r.writes (is_bound by_function b) w
  none-holds NoGlobalAssign = middle-false r.writes (is_none r.meaning) (is_built_in_for p.is_2022 r.name) m
  none-holds NoImplicitGlobals = refl
  none-holds NoImportAssign = first-false r.writes (is_bound by_import b) w
  none-holds NoNewNativeNonconstructor = middle-false r.constructed (is_none r.meaning) (is_no_constructor r.name) m
  none-holds NoNewSymbol = middle-false r.constructed (is_none r.meaning) (is r.name "Symbol") m
  none-holds NoObjCalls = middle-false (is_callee r) (is_none r.meaning) (is_namespace r.name) m
  none-holds NoParamReassign = first-false r.writes (is_bound by_parameter b) w
  none-holds NoRedeclare = refl
  none-holds NoShadowRestrictedNames = refl
  none-holds NoUndefined = u
  none-holds NoUseBeforeDefine = d

  none-said : (rules : List ReferenceRule) → each (by_reference p r b) rules ≡ []
  none-said [] = refl
  none-said (rule ∷ rules) = ap (λ x. cond x (named rule r.name r.start r.stop (says rule) ∷ []) [] ++ each (by_reference p r b) rules) (none-holds rule) ∙ none-said rules

pub nothing-said : (p : Profile) (rules : List ReferenceRule) (r : Reference) (b : Option Binding) (old : List Report) → is_silent r b ≡ true → old ≡ old ++ each (by_reference p r b) rules
nothing-said p rules r b old h =
    let q = both-true _ _ h in
    let x = both-true _ _ q.0 in
    let y = both-true _ _ q.1 in
    sym (append-nil old) ∙ ap (λ l. old ++ l) (sym (none-said p r b (not-true _ x.1) (not-none r.meaning x.0) (not-true _ y.0) (not-true _ y.1) rules))
