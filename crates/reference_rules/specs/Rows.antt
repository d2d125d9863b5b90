-- Rules that ask what names mean, row by row: the name, which references and which declarations a rule reports, and what it says of them.
use Rattle.std.specs.Prelude.{ℕ, Bool, true, false, not, ◌&&◌, ◌||◌, nat_lt, List, Option, Some, None, is_none, is_some, codes}
use Rattle.language.specs.Vocabulary.{is}
use Rattle.scopes.specs.declared.kind.BindingKind.{BindingKind}
use Rattle.scopes.specs.Bindings.{Binding}
use Rattle.scopes.specs.Found.{Reference}
use Rattle.reference_rules.specs.declared.reference_rule.Profile.{Profile}
use Rattle.reference_rules.specs.declared.reference_rule.ReferenceRule.{ReferenceRule}
use Rattle.reference_rules.specs.declared.reference_rule.ReferenceRule.TheVariants.{NoAlert, NoClassAssign, NoConstAssign, NoExAssign, NoFuncAssign, NoGlobalAssign, NoImplicitGlobals, NoImportAssign, NoNewNativeNonconstructor, NoNewSymbol, NoObjCalls, NoParamReassign, NoRedeclare, NoShadowRestrictedNames, NoUndefined, NoUseBeforeDefine}
use Rattle.reference_rules.specs.declared.reference_rule.Standing.{Standing}
use Rattle.reference_rules.specs.declared.reference_rule.Standing.TheVariants.{Again, InScope, InScript}
use Rattle.reference_rules.specs.BuiltIn.{is_built_in_for}
use Rattle.reference_rules.specs.Tests.{by_catch, by_class, by_const, by_function, by_global, by_import, by_parameter, is_bound, is_callee, is_dialog, is_left_undefined, is_namespace, is_no_constructor, is_repeated, is_restricted}

-- what settings and reports call a rule
abbrev pub called : ReferenceRule → List ℕ
called NoAlert = codes "no-alert"
called NoClassAssign = codes "no-class-assign"
called NoConstAssign = codes "no-const-assign"
called NoExAssign = codes "no-ex-assign"
called NoFuncAssign = codes "no-func-assign"
called NoGlobalAssign = codes "no-global-assign"
called NoImplicitGlobals = codes "no-implicit-globals"
called NoImportAssign = codes "no-import-assign"
called NoNewNativeNonconstructor = codes "no-new-native-nonconstructor"
called NoNewSymbol = codes "no-new-symbol"
called NoObjCalls = codes "no-obj-calls"
called NoParamReassign = codes "no-param-reassign"
called NoRedeclare = codes "no-redeclare"
called NoShadowRestrictedNames = codes "no-shadow-restricted-names"
called NoUndefined = codes "no-undefined"
called NoUseBeforeDefine = codes "no-use-before-define"

-- a binding that is declared behind this place
abbrev pub is_behind : ℕ → Option Binding → Bool
is_behind place None = false
is_behind place (Some b) = nat_lt place b.start

-- whether a rule reports a reference, by the binding that it means
abbrev pub of_reference : Profile → ReferenceRule → Reference → Option Binding → Bool
of_reference profile NoAlert r b = r.called && (is_none r.meaning && is_dialog r.name)
of_reference profile NoClassAssign r b = r.writes && is_bound by_class b
of_reference profile NoConstAssign r b = r.writes && is_bound by_const b
of_reference profile NoExAssign r b = r.writes && is_bound by_catch b
of_reference profile NoFuncAssign r b = r.writes && is_bound by_function b
of_reference profile NoGlobalAssign r b = r.writes && (is_none r.meaning && is_built_in_for profile.is_2022 r.name)
of_reference profile NoImplicitGlobals r b = false
of_reference profile NoImportAssign r b = r.writes && is_bound by_import b
of_reference profile NoNewNativeNonconstructor r b = r.constructed && (is_none r.meaning && is_no_constructor r.name)
of_reference profile NoNewSymbol r b = r.constructed && (is_none r.meaning && is r.name "Symbol")
of_reference profile NoObjCalls r b = is_callee r && (is_none r.meaning && is_namespace r.name)
of_reference profile NoParamReassign r b = r.writes && is_bound by_parameter b
of_reference profile NoRedeclare r b = false
of_reference profile NoShadowRestrictedNames r b = false
of_reference profile NoUndefined r b = is r.name "undefined"
of_reference profile NoUseBeforeDefine r b = is_behind r.start b

-- no rule reports a reference: it means a binding that isn't declared behind it, isn't written, and isn't called `undefined`
abbrev pub is_silent : Reference → Option Binding → Bool
is_silent r b = (is_some r.meaning && not r.writes) && (not (is r.name "undefined") && not (is_behind r.start b))

-- a name that is declared here has a meaning already: by another declaration, or, in the global scope, by the language
abbrev pub declares_again : Profile → Standing → List ℕ → Bool
declares_again profile InScript name = not profile.is_module && is_built_in_for profile.is_2022 name
declares_again profile InScope name = false
declares_again profile Again name = true

-- a declaration makes a property of the global object (8.1.1.4.17, 8.1.1.4.18): the first of a name
abbrev pub is_global : Profile → Standing → BindingKind → Bool
is_global profile InScript kind = not profile.is_module && by_global kind
is_global profile InScope kind = false
is_global profile Again kind = false

-- whether it reports a declaration, by where that stands
abbrev pub of_declaration : Profile → ReferenceRule → Standing → Binding → Bool
of_declaration profile NoImplicitGlobals standing b = is_global profile standing b.kind
of_declaration profile NoRedeclare standing b = declares_again profile standing b.name
of_declaration profile NoShadowRestrictedNames standing b = is_restricted b.name && not (is_repeated b.kind || is_left_undefined b)
of_declaration profile NoUndefined standing b = is b.name "undefined" && not (is_repeated b.kind)
of_declaration profile _ standing b = false

-- what it says behind the name
abbrev pub says : ReferenceRule → List ℕ
says NoAlert = codes "waits for the user"
says NoClassAssign = codes "is a class"
says NoConstAssign = codes "is constant"
says NoExAssign = codes "is what was caught"
says NoFuncAssign = codes "is a function"
says NoGlobalAssign = codes "is built in"
says NoImplicitGlobals = codes "is global"
says NoImportAssign = codes "is imported"
says NoNewNativeNonconstructor = codes "is no constructor"
says NoNewSymbol = codes "is no constructor"
says NoObjCalls = codes "is no function"
says NoParamReassign = codes "is a parameter"
says NoRedeclare = codes "is declared again"
says NoShadowRestrictedNames = codes "is restricted"
says NoUndefined = codes "is used"
says NoUseBeforeDefine = codes "is declared further down"

abbrev pub again_words : Standing → List ℕ
again_words InScript = codes "is built in"
again_words _ = codes "is declared again"

-- behind that of a declaration
abbrev pub says_declared : ReferenceRule → Standing → List ℕ
says_declared NoRedeclare standing = again_words standing
says_declared rule standing = says rule
