-- The early errors of a tree: their numbers and places, and the least.
use Rattle.std.specs.Prelude.{ℕ, Bool, cond, ◌&&◌, ◌||◌, List, [], ◌∷◌, ◌++◌, map, nat_eq, nat_lt, nat_le, Option, Some, None}
use Rattle.tree.specs.Tree.{Tree, node, Parts, none, part, gap}
use Rattle.early_errors.specs.declared.EarlyError.{EarlyError}
use Rattle.early_errors.specs.declared.EarlyError.TheVariants.{EvalOrArguments, DeleteOfIdentifier, DuplicateLexicalName, LexicalNameIsVar, ConstWithoutInitializer, DuplicateParameter, ParameterIsLexicalName, UseStrictBehindPattern, MisplacedJump, UndefinedLabel, DuplicateLabel, CatchParameterConflict, ForNameIsVar, SuperPropertyOutsideMethod, SuperCallOutsideConstructor, NewTargetOutsideFunction, DuplicateConstructor, SpecialConstructor, StaticPrototype, UncookedTemplate, RegExpFlags, YieldOutsideGenerator, AwaitOutsideAsync, FieldNamedConstructor, PrivateConstructor, DuplicatePrivateName, UndeclaredPrivateName, ArgumentsInInit, DeleteOfPrivate, ImportMetaOutsideModule, DuplicateExport, ExportOfNoName, UndeclaredExport, LoneSurrogate, ForAsyncOf, DuplicateProto, RegExpPattern}
use Rattle.early_errors.specs.Around.{Around, outside_of, settled, around_first, around_others}
use Rattle.early_errors.specs.Scopes.{duplicate_lexical_name, lexical_name_is_var, const_without_initializer, catch_parameter_conflict, for_name_is_var}
use Rattle.early_errors.specs.Functions.{duplicate_parameter, parameter_is_lexical_name, use_strict_after_pattern}
use Rattle.early_errors.specs.Strict.{eval_or_arguments, delete_of_identifier}
use Rattle.early_errors.specs.Labels.{misplaced_jump, undefined_label, duplicate_label}
use Rattle.early_errors.specs.Classes.{super_property_outside_method, super_call_outside_constructor, new_target_outside_function, duplicate_constructor, special_constructor, static_prototype}
use Rattle.early_errors.specs.Yields.{yield_outside_generator, await_outside_async, for_async_of}
use Rattle.early_errors.specs.Fields.{field_named_constructor, arguments_in_init}
use Rattle.early_errors.specs.PrivateNames.{private_constructor, duplicate_private_name, undeclared_private_name, delete_of_private}
use Rattle.early_errors.specs.Modules.{import_meta_outside_module, duplicate_export, export_of_no_name, undeclared_export, lone_surrogate}
use Rattle.early_errors.specs.Objects.{duplicate_proto}
use Rattle.early_errors.specs.Literals.{uncooked_template, reg_exp_flags, reg_exp_pattern}

-- the number that a report names the early error by
abbrev pub number : EarlyError → ℕ
number EvalOrArguments = 1
number DeleteOfIdentifier = 2
number DuplicateLexicalName = 3
number LexicalNameIsVar = 4
number ConstWithoutInitializer = 5
number DuplicateParameter = 6
number ParameterIsLexicalName = 7
number UseStrictBehindPattern = 8
number MisplacedJump = 9
number UndefinedLabel = 10
number DuplicateLabel = 11
number CatchParameterConflict = 12
number ForNameIsVar = 13
number SuperPropertyOutsideMethod = 14
number SuperCallOutsideConstructor = 15
number NewTargetOutsideFunction = 16
number DuplicateConstructor = 17
number SpecialConstructor = 18
number StaticPrototype = 19
number UncookedTemplate = 20
number RegExpFlags = 21
number YieldOutsideGenerator = 22
number AwaitOutsideAsync = 23
number FieldNamedConstructor = 24
number PrivateConstructor = 25
number DuplicatePrivateName = 26
number UndeclaredPrivateName = 27
number ArgumentsInInit = 28
number DeleteOfPrivate = 29
number ImportMetaOutsideModule = 30
number DuplicateExport = 31
number ExportOfNoName = 32
number UndeclaredExport = 33
number LoneSurrogate = 34
number ForAsyncOf = 35
number DuplicateProto = 36
number RegExpPattern = 37

-- a number and a place
abbrev pub Error : Type 0
Error = ℕ × ℕ

abbrev pub each : EarlyError → List ℕ → List Error
each error text = map (λ p. (number error, p)) text

-- the places that a node itself gives for each early error
abbrev pub own_places : Around → Tree → List (EarlyError × List ℕ)
own_places z tree =
    (EvalOrArguments, eval_or_arguments tree) ∷
    (DeleteOfIdentifier, delete_of_identifier tree) ∷
    (DuplicateLexicalName, duplicate_lexical_name z tree) ∷
    (LexicalNameIsVar, lexical_name_is_var z tree) ∷
    (ConstWithoutInitializer, const_without_initializer z tree) ∷
    (DuplicateParameter, duplicate_parameter tree) ∷
    (ParameterIsLexicalName, parameter_is_lexical_name tree) ∷
    (UseStrictBehindPattern, use_strict_after_pattern tree) ∷
    (MisplacedJump, misplaced_jump z tree) ∷
    (UndefinedLabel, undefined_label z tree) ∷
    (DuplicateLabel, duplicate_label z tree) ∷
    (CatchParameterConflict, catch_parameter_conflict tree) ∷
    (ForNameIsVar, for_name_is_var tree) ∷
    (SuperPropertyOutsideMethod, super_property_outside_method z tree) ∷
    (SuperCallOutsideConstructor, super_call_outside_constructor z tree) ∷
    (NewTargetOutsideFunction, new_target_outside_function z tree) ∷
    (DuplicateConstructor, duplicate_constructor tree) ∷
    (SpecialConstructor, special_constructor tree) ∷
    (StaticPrototype, static_prototype tree) ∷
    (UncookedTemplate, uncooked_template z tree) ∷
    (RegExpFlags, reg_exp_flags z tree) ∷
    (YieldOutsideGenerator, yield_outside_generator z tree) ∷
    (AwaitOutsideAsync, await_outside_async z tree) ∷
    (FieldNamedConstructor, field_named_constructor tree) ∷
    (PrivateConstructor, private_constructor tree) ∷
    (DuplicatePrivateName, duplicate_private_name tree) ∷
    (UndeclaredPrivateName, undeclared_private_name z tree) ∷
    (ArgumentsInInit, arguments_in_init z tree) ∷
    (DeleteOfPrivate, delete_of_private tree) ∷
    (ImportMetaOutsideModule, import_meta_outside_module z tree) ∷
    (DuplicateExport, duplicate_export tree) ∷
    (ExportOfNoName, export_of_no_name tree) ∷
    (UndeclaredExport, undeclared_export tree) ∷
    (LoneSurrogate, lone_surrogate tree) ∷
    (ForAsyncOf, for_async_of z tree) ∷
    (DuplicateProto, duplicate_proto z tree) ∷
    (RegExpPattern, reg_exp_pattern z tree) ∷
    []

abbrev pub each_of : List (EarlyError × List ℕ) → List Error
each_of [] = []
each_of (x ∷ xs) = each x.0 x.1 ++ each_of xs

-- the errors of the node itself
unfoldable pub own_errors : Around → Tree → List Error
own_errors z tree = each_of (own_places z tree)

unfoldable mutual
  -- the errors of a node and of all below it, with what holds round it
  pub errors_within : Around → Tree → List Error
  errors_within z (node kind text flags from to parts) =
      let y = settled z kind in
      own_errors y (node kind text flags from to parts) ++ parts_errors (around_first y kind flags parts) (around_others y kind flags parts) parts

  pub parts_errors : Around → Around → Parts → List Error
  parts_errors y z none = []
  parts_errors y z (part tree rest) = errors_within y tree ++ parts_errors z z rest
  parts_errors y z (gap rest) = parts_errors z z rest

-- All early errors of a tree, in no particular order. Which there are depends on the tree; their places are the nodes' own.
abbrev pub errors : Tree → List Error
errors tree = errors_within (outside_of tree) tree

-- before another one: by place, then by number
abbrev pub comes_first : Error → Error → Bool
comes_first x y = nat_lt x.1 y.1 || (nat_eq x.1 y.1 && nat_le x.0 y.0)

abbrev pub lesser : Error → Option Error → Error
lesser x None = x
lesser x (Some y) = cond (comes_first x y) x y

abbrev pub least : List Error → Option Error
least [] = None
least (x ∷ xs) = Some (lesser x (least xs))

-- the early error that is reported, where there is any
abbrev pub least_error : Tree → Option Error
least_error tree = least (errors tree)
