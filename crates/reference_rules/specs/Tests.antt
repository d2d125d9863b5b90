-- Words for what rules on names ask.
use Rattle.std.specs.Prelude.{ℕ, Bool, true, false, not, ◌&&◌, ◌||◌, List, [], ◌∷◌, Option, Some, None}
use Rattle.language.specs.Vocabulary.{among, is}
use Rattle.scopes.specs.declared.kind.BindingKind.{BindingKind}
use Rattle.scopes.specs.declared.kind.BindingKind.TheVariants.{Catch, Class, ClassName, Const, Function, FunctionName, Import, Let, Param, Var}
use Rattle.scopes.specs.Bindings.{Binding}
use Rattle.scopes.specs.Found.{Reference}

-- a binding is there, and of such a kind
abbrev pub is_bound : (BindingKind → Bool) → Option Binding → Bool
is_bound f None = false
is_bound f (Some b) = f b.kind

-- the callee of a call, or of `new`
abbrev pub is_callee : Reference → Bool
is_callee r = r.called || r.constructed

abbrev pub by_const : BindingKind → Bool
by_const Const = true
by_const _ = false

abbrev pub by_class : BindingKind → Bool
by_class Class = true
by_class ClassName = true
by_class _ = false

abbrev pub by_function : BindingKind → Bool
by_function Function = true
by_function FunctionName = true
by_function _ = false

abbrev pub by_catch : BindingKind → Bool
by_catch Catch = true
by_catch _ = false

abbrev pub by_import : BindingKind → Bool
by_import Import = true
by_import _ = false

abbrev pub by_parameter : BindingKind → Bool
by_parameter Param = true
by_parameter _ = false

-- values of the global object that nothing can change (18.1)
abbrev pub is_restricted : List ℕ → Bool
is_restricted name = among name ("Infinity" ∷ "NaN" ∷ "undefined" ∷ [])

-- the name of a class inside it: the identifier is that round it
abbrev pub is_repeated : BindingKind → Bool
is_repeated ClassName = true
is_repeated _ = false

abbrev pub by_variable : BindingKind → Bool
by_variable Var = true
by_variable Let = true
by_variable _ = false

-- what a script's own scope puts into the global object
abbrev pub by_global : BindingKind → Bool
by_global Var = true
by_global Function = true
by_global _ = false

-- `undefined` that is undefined, as it is declared
abbrev pub is_left_undefined : Binding → Bool
is_left_undefined b = is b.name "undefined" && (by_variable b.kind && not b.settled)

-- objects that are no functions (clause 18.4)
abbrev pub is_namespace : List ℕ → Bool
is_namespace name = among name ("Atomics" ∷ "JSON" ∷ "Math" ∷ "Reflect" ∷ [])

-- functions of browsers that stop a page until the user answers
abbrev pub is_dialog : List ℕ → Bool
is_dialog name = among name ("alert" ∷ "confirm" ∷ "prompt" ∷ [])

-- functions that `new` refuses (19.4.1, 20.2.1)
abbrev pub is_no_constructor : List ℕ → Bool
is_no_constructor name = among name ("BigInt" ∷ "Symbol" ∷ [])
