-- A node's own errors, kind by kind.
use Rattle.std.proofs.Common.{◌≡◌, Bool, true, false, not, List, [], ◌∷◌, ◌++◌, filter, refl, sym, ap, ◌∙◌, append-nil}
use Rattle.std.specs.Prelude.{◌||◌, ◌&&◌}
use Rattle.std.proofs.lemmas.Bool.{false≢true}
use Rattle.tree.specs.declared.kind.Kind.{Kind}
use Rattle.tree.specs.declared.kind.Kind.TheVariants.{Program, Identifier, PrivateIdentifier, YieldExpression, AwaitExpression, PropertyDefinition, ImportDeclaration, ImportSpecifier, ExportSpecifier, ExportAllDeclaration, ExportNamedDeclaration, CatchClause, ForInStatement, ForOfStatement, ClassDeclaration, ClassExpression, AssignmentExpression, UpdateExpression, VariableDeclaration, FunctionDeclaration, FunctionExpression, ArrowFunctionExpression, BreakStatement, ContinueStatement, LabeledStatement, UnaryExpression, MemberExpression, CallExpression, MetaProperty, ClassBody, MethodDefinition, TemplateLiteral, Literal, ObjectExpression}
use Rattle.tree.specs.Tree.{Tree, node, Parts, kind_of, text_of, flags_of, start_of, parts_of}
use Rattle.language.specs.FirstPart.{lead}
use Rattle.language.specs.Vocabulary.{is, is_identifier, literal_class}
use Rattle.early_errors.specs.declared.EarlyError.TheVariants.{EvalOrArguments, DuplicateLexicalName, ConstWithoutInitializer, DuplicateParameter, ParameterIsLexicalName, UseStrictBehindPattern, MisplacedJump, UndefinedLabel, DuplicateLabel, DeleteOfIdentifier, SuperPropertyOutsideMethod, SuperCallOutsideConstructor, NewTargetOutsideFunction, DuplicateConstructor, SpecialConstructor, StaticPrototype, UncookedTemplate, RegExpFlags, YieldOutsideGenerator, AwaitOutsideAsync, FieldNamedConstructor, PrivateConstructor, DuplicatePrivateName, UndeclaredPrivateName, ArgumentsInInit, DeleteOfPrivate, ImportMetaOutsideModule, DuplicateExport, ExportOfNoName, UndeclaredExport, LoneSurrogate, DuplicateProto, RegExpPattern}
use Rattle.early_errors.specs.declared.own.OwnErrors.{OwnErrors}
use Rattle.early_errors.specs.declared.own.OwnErrors.TheVariants as own
use Rattle.tree.specs.Uses.{is_init}
use Rattle.language.specs.Expressions.{value_form}
use Rattle.early_errors.specs.Around.{Around, is_accessor}
use Rattle.name_tables.specs.BoundNames.{each_part}
use Rattle.early_errors.specs.Names.{import_name, places, when, first_names, twice, shared, lexical_names, parameter_names, parameters_on, body_items}
use Rattle.early_errors.specs.Scopes.{declaration_names, without_initializer, duplicate_lexical_name, lexical_name_is_var, const_without_initializer, catch_parameter_conflict, for_name_is_var}
use Rattle.early_errors.specs.Functions.{is_simple, use_strict, duplicate_parameter, parameter_is_lexical_name, use_strict_after_pattern}
use Rattle.early_errors.specs.Strict.{is_restricted, names_given, eval_or_arguments, delete_of_identifier}
use Rattle.early_errors.specs.Labels.{is_bare, labels_statement, labels_a_loop, misplaced_jump, undefined_label, duplicate_label}
use Rattle.early_errors.specs.Classes.{after_first, key_places, has_key, named, super_places, super_property_outside_method, super_call_outside_constructor, new_target_outside_function, duplicate_constructor, special_constructor, static_prototype}
use Rattle.early_errors.specs.Objects.{proto_places, duplicate_proto}
use Rattle.early_errors.specs.Literals.{some_uncooked, good_flags_in, is_reg_exp, has_pattern_fault, uncooked_template, reg_exp_flags, reg_exp_pattern}
use Rattle.early_errors.specs.Yields.{yield_outside_generator, await_outside_async, for_async_of}
use Rattle.early_errors.specs.Fields.{field_named_constructor, arguments_in_init}
use Rattle.early_errors.specs.PrivateNames.{holds_name, private_operand, private_constructor, duplicate_private_name, undeclared_private_name, delete_of_private}
use Rattle.early_errors.specs.Modules.{starts_of, is_no_name, locals, lone_parts, first_only, import_meta_outside_module, duplicate_export, export_of_no_name, undeclared_export, lone_surrogate}
use Rattle.early_errors.specs.Early.{Error, each, own_errors}
use Rattle.early_errors.specs.Owns.{own_of, own_of_2022, sort_of, plain_errors, named_errors, nameless, vars_of}
use Rattle.early_errors.specs.declared.own.OwnErrorInput.{OwnErrorInput}
use Rattle.early_errors.specs.declared.own.OwnErrorInput.TheVariants as sort

-- a function's
abbrev pub names_of : Kind → Parts → List Error
names_of k ps = each EvalOrArguments (places (filter is_restricted (names_given k ps)))

abbrev pub doubles_of : Kind → Parts → List Error
doubles_of k ps = each DuplicateParameter (places (twice (parameter_names (parameters_on k ps))))

abbrev pub lexicals_of : Kind → Parts → List Error
lexicals_of k ps = each ParameterIsLexicalName (places (shared (each_part (lexical_names false) (body_items (parameters_on k ps))) (parameter_names (parameters_on k ps))))

abbrev pub directives_of : Kind → Parts → List Error
directives_of k ps = each UseStrictBehindPattern (when (not (is_simple (parameters_on k ps))) (each_part use_strict (body_items (parameters_on k ps))))

-- the errors of each kind that makes no scope
abbrev pub small : OwnErrors → Around → Tree → List Error
small own.Break z n = each MisplacedJump (when (is_bare (parts_of n) && not (z.in_loop || z.in_switch)) (start_of n ∷ [])) ++ each UndefinedLabel (places (filter (λ x. not (labels_statement z.labels x.0)) (first_names (parts_of n))))
small own.Continue z n = each MisplacedJump (when (is_bare (parts_of n) && not z.in_loop) (start_of n ∷ [])) ++ each UndefinedLabel (places (filter (λ x. not (labels_a_loop z.labels x.0)) (first_names (parts_of n))))
small own.Label z n = each DuplicateLabel (places (filter (λ x. labels_statement z.labels x.0) (first_names (parts_of n))))
small own.Delete z n =
    each DeleteOfIdentifier (when (is (text_of n) "delete" && is_identifier (lead (parts_of n))) (start_of n ∷ [])) ++ each DeleteOfPrivate (when (is (text_of n) "delete" && private_operand (parts_of n)) (start_of n ∷ []))
small own.SuperProperty z n = each SuperPropertyOutsideMethod (when (not z.super_property) (super_places (parts_of n)))
small own.SuperCall z n = each SuperCallOutsideConstructor (when (not z.super_call) (super_places (parts_of n)))
small own.Target z n =
    each NewTargetOutsideFunction (when (has_key (parts_of n) (λ m. is (text_of m) "new") && not z.new_target) (start_of n ∷ []))
    ++ each ImportMetaOutsideModule (when (has_key (parts_of n) (λ m. is (text_of m) "import") && not z.in_module) (start_of n ∷ []))
small own.ClassElements z n = each DuplicateConstructor (duplicate_constructor n) ++ (each PrivateConstructor (private_constructor n) ++ each DuplicatePrivateName (duplicate_private_name n))
small own.Template z n = each UncookedTemplate (when (not z.tagged && some_uncooked (parts_of n)) (start_of n ∷ []))
small own.Literal z n =
    each RegExpFlags (when (not (good_flags_in z.of_2022 (text_of n))) (start_of n ∷ []))
    ++ each RegExpPattern (when (z.of_2022 && (is_reg_exp (literal_class (text_of n)) && has_pattern_fault (text_of n))) (start_of n ∷ []))
small own.Object z n = each DuplicateProto (when z.of_2022 (after_first (each_part proto_places (parts_of n))))
small own.Member z n =
    each SpecialConstructor (when (((is_accessor (flags_of n).form || not (is_init (value_form (parts_of n)))) && not (flags_of n).is_static) && (not (flags_of n).computed && has_key (parts_of n) (λ m. named m "constructor"))) (key_places (parts_of n)))
    ++ each StaticPrototype (when ((flags_of n).is_static && (not (flags_of n).computed && has_key (parts_of n) (λ m. named m "prototype"))) (key_places (parts_of n)))
small own.Name z n = each ArgumentsInInit (when (z.no_arguments && not z.is_word && is (text_of n) "arguments") (start_of n ∷ []))
small own.PrivateName z n = each UndeclaredPrivateName (when (not (holds_name z.privates (text_of n))) (start_of n ∷ []))
small own.Yield z n = each YieldOutsideGenerator (when (not z.yields) (start_of n ∷ []))
small own.Await z n = each AwaitOutsideAsync (when (not z.awaits) (start_of n ∷ []))
small own.Field z n =
    each StaticPrototype (when ((flags_of n).is_static && (not (flags_of n).computed && has_key (parts_of n) (λ m. named m "prototype"))) (key_places (parts_of n)))
    ++ each FieldNamedConstructor (when (not (flags_of n).computed && has_key (parts_of n) (λ m. named m "constructor")) (key_places (parts_of n)))
small own.Import z n = each EvalOrArguments (places (filter is_restricted (each_part import_name (parts_of n))))
small own.ModuleNames z n = each LoneSurrogate (lone_parts (parts_of n))
small own.ExportAll z n = each LoneSurrogate (lone_parts (first_only (parts_of n)))
small own.Export z n = each ExportOfNoName (starts_of (filter is_no_name (locals n)))
small own.Variables z n =
    names_of (kind_of n) (parts_of n) ++ (each DuplicateLexicalName (places (twice (declaration_names (kind_of n) (text_of n) (parts_of n))))
    ++ each ConstWithoutInitializer (when (is (text_of n) "const" && not z.in_head) (each_part without_initializer (parts_of n))))
small own.Function z n = names_of (kind_of n) (parts_of n) ++ (doubles_of (kind_of n) (parts_of n) ++ (lexicals_of (kind_of n) (parts_of n) ++ directives_of (kind_of n) (parts_of n)))
small _ z n = own_errors z n

function_list : (k : Kind) (ps : Parts) → names_of k ps ++ (doubles_of k ps ++ (lexicals_of k ps ++ (directives_of k ps ++ []))) ≡ names_of k ps ++ (doubles_of k ps ++ (lexicals_of k ps ++ directives_of k ps))
function_list k ps = ap (λ x. names_of k ps ++ (doubles_of k ps ++ (lexicals_of k ps ++ x))) (append-nil (directives_of k ps))

pub small_by_kind : (z : Around) (t : Tree) → own_errors z t ≡ small (own_of (kind_of t)) z t
unfolding own_errors duplicate_lexical_name lexical_name_is_var const_without_initializer catch_parameter_conflict for_name_is_var duplicate_parameter parameter_is_lexical_name use_strict_after_pattern eval_or_arguments delete_of_identifier misplaced_jump undefined_label duplicate_label super_property_outside_method super_call_outside_constructor new_target_outside_function duplicate_constructor special_constructor static_prototype uncooked_template reg_exp_flags yield_outside_generator await_outside_async field_named_constructor private_constructor duplicate_private_name undeclared_private_name arguments_in_init delete_of_private import_meta_outside_module duplicate_export export_of_no_name undeclared_export lone_surrogate for_async_of duplicate_proto reg_exp_pattern
small_by_kind z (node BreakStatement w g s e ps) = ap (λ x. each MisplacedJump (when (is_bare ps && not (z.in_loop || z.in_switch)) (s ∷ [])) ++ x) (append-nil _)
small_by_kind z (node ContinueStatement w g s e ps) = ap (λ x. each MisplacedJump (when (is_bare ps && not z.in_loop) (s ∷ [])) ++ x) (append-nil _)
small_by_kind z (node LabeledStatement w g s e ps) = append-nil _
small_by_kind z (node UnaryExpression w g s e ps) = ap (λ x. each DeleteOfIdentifier (when (is w "delete" && is_identifier (lead ps)) (s ∷ [])) ++ x) (append-nil _)
small_by_kind z (node MemberExpression w g s e ps) = append-nil _
small_by_kind z (node CallExpression w g s e ps) = append-nil _
small_by_kind z (node MetaProperty w g s e ps) = ap (λ x. each NewTargetOutsideFunction (when (has_key ps (λ m. is (text_of m) "new") && not z.new_target) (s ∷ [])) ++ x) (append-nil _)
small_by_kind z (node ClassBody w g s e ps) =
    ap (λ x. each DuplicateConstructor (duplicate_constructor (node ClassBody w g s e ps)) ++ (each PrivateConstructor (private_constructor (node ClassBody w g s e ps)) ++ x)) (append-nil (each DuplicatePrivateName (duplicate_private_name (node ClassBody w g s e ps))))
small_by_kind z (node MethodDefinition w g s e ps) =
    ap (λ x. each SpecialConstructor (when (((is_accessor g.form || not (is_init (value_form ps))) && not g.is_static) && (not g.computed && has_key ps (λ m. named m "constructor"))) (key_places ps)) ++ x) (append-nil _)
small_by_kind z (node PropertyDefinition w g s e ps) =
    ap (λ x. each StaticPrototype (when (g.is_static && (not g.computed && has_key ps (λ m. named m "prototype"))) (key_places ps)) ++ x) (append-nil _)
small_by_kind z (node Identifier w g s e ps) = append-nil _
small_by_kind z (node PrivateIdentifier w g s e ps) = append-nil _
small_by_kind z (node YieldExpression w g s e ps) = append-nil _
small_by_kind z (node AwaitExpression w g s e ps) = append-nil _
small_by_kind z (node ImportDeclaration w g s e ps) = append-nil _
small_by_kind z (node ImportSpecifier w g s e ps) = append-nil _
small_by_kind z (node ExportSpecifier w g s e ps) = append-nil _
small_by_kind z (node ExportAllDeclaration w g s e ps) = append-nil _
small_by_kind z (node ExportNamedDeclaration w g s e ps) = append-nil _
small_by_kind z (node VariableDeclaration w g s e ps) =
    ap (λ x. names_of VariableDeclaration ps ++ (each DuplicateLexicalName (places (twice (declaration_names VariableDeclaration w ps))) ++ x)) (append-nil (each ConstWithoutInitializer (when (is w "const" && not z.in_head) (each_part without_initializer ps))))
small_by_kind z (node FunctionDeclaration w g s e ps) = function_list FunctionDeclaration ps
small_by_kind z (node FunctionExpression w g s e ps) = function_list FunctionExpression ps
small_by_kind z (node ArrowFunctionExpression w g s e ps) = function_list ArrowFunctionExpression ps
small_by_kind z (node TemplateLiteral w g s e ps) = append-nil _
small_by_kind z (node Literal w g s e ps) = ap (λ x. each RegExpFlags (when (not (good_flags_in z.of_2022 w)) (s ∷ [])) ++ x) (append-nil _)
small_by_kind z (node ObjectExpression w g s e ps) = append-nil _
small_by_kind z (node _ w g s e ps) = refl

pub small_given : (o : OwnErrors) (z : Around) (t : Tree) → own_of (kind_of t) ≡ o → own_errors z t ≡ small o z t
small_given o z t e = small_by_kind z t ∙ ap (λ x. small x z t) e

-- ---- which function finds them

abbrev is_declared : OwnErrorInput → Bool
is_declared sort.Variables = true
is_declared _ = false

abbrev has_parameters : OwnErrorInput → Bool
has_parameters sort.Parameters = true
has_parameters _ = false

abbrev is_named : OwnErrorInput → Bool
is_named sort.Named = true
is_named _ = false

abbrev is_nameless : OwnErrorInput → Bool
is_nameless sort.Nameless = true
is_nameless _ = false

abbrev declares : OwnErrors → Bool
declares own.Variables = true
declares _ = false

abbrev binds_parameters : OwnErrors → Bool
binds_parameters own.Function = true
binds_parameters _ = false

abbrev pub has_first_names : OwnErrors → Bool
has_first_names own.FirstNames = true
has_first_names own.ForOf = true
has_first_names _ = false

pub named_plain : (z : Around) (t : Tree) → sort_of (own_of (kind_of t)) ≡ sort.Named → (named_errors (own_of (kind_of t)) z t ≡ plain_errors z t) × (vars_of t ≡ [])
unfolding own_errors duplicate_lexical_name lexical_name_is_var const_without_initializer catch_parameter_conflict for_name_is_var duplicate_parameter parameter_is_lexical_name use_strict_after_pattern eval_or_arguments delete_of_identifier misplaced_jump undefined_label duplicate_label super_property_outside_method super_call_outside_constructor new_target_outside_function duplicate_constructor special_constructor static_prototype uncooked_template reg_exp_flags yield_outside_generator await_outside_async field_named_constructor private_constructor duplicate_private_name undeclared_private_name arguments_in_init delete_of_private import_meta_outside_module duplicate_export export_of_no_name undeclared_export lone_surrogate for_async_of duplicate_proto reg_exp_pattern
named_plain z (node CatchClause w g s e ps) h = (sym (append-nil _), refl)
named_plain z (node ForInStatement w g s e ps) h = (sym (append-nil _), refl)
named_plain z (node ForOfStatement w g s e ps) h = (refl, refl)
named_plain z (node ClassDeclaration w g s e ps) h = (sym (append-nil _), refl)
named_plain z (node ClassExpression w g s e ps) h = (sym (append-nil _), refl)
named_plain z (node AssignmentExpression w g s e ps) h = (sym (append-nil _), refl)
named_plain z (node UpdateExpression w g s e ps) h = (sym (append-nil _), refl)
named_plain z (node BreakStatement w g s e ps) h = (refl, refl)
named_plain z (node ContinueStatement w g s e ps) h = (refl, refl)
named_plain z (node LabeledStatement w g s e ps) h = (refl, refl)
named_plain z (node _ w g s e ps) h = absurd (false≢true (ap is_named h))

pub nameless_plain : (z : Around) (t : Tree) → sort_of (own_of (kind_of t)) ≡ sort.Nameless → (nameless (own_of (kind_of t)) z t ≡ plain_errors z t) × (vars_of t ≡ [])
unfolding own_errors duplicate_lexical_name lexical_name_is_var const_without_initializer catch_parameter_conflict for_name_is_var duplicate_parameter parameter_is_lexical_name use_strict_after_pattern eval_or_arguments delete_of_identifier misplaced_jump undefined_label duplicate_label super_property_outside_method super_call_outside_constructor new_target_outside_function duplicate_constructor special_constructor static_prototype uncooked_template reg_exp_flags yield_outside_generator await_outside_async field_named_constructor private_constructor duplicate_private_name undeclared_private_name arguments_in_init delete_of_private import_meta_outside_module duplicate_export export_of_no_name undeclared_export lone_surrogate for_async_of duplicate_proto reg_exp_pattern
nameless_plain z (node Program w g s e ps) h = (ap (λ x. each DuplicateExport (duplicate_export (node Program w g s e ps)) ++ x) (sym (append-nil (each UndeclaredExport (undeclared_export (node Program w g s e ps))))), refl)
nameless_plain z (node CatchClause w g s e ps) h = absurd (false≢true (ap is_nameless h))
nameless_plain z (node ForInStatement w g s e ps) h = absurd (false≢true (ap is_nameless h))
nameless_plain z (node ForOfStatement w g s e ps) h = absurd (false≢true (ap is_nameless h))
nameless_plain z (node ClassDeclaration w g s e ps) h = absurd (false≢true (ap is_nameless h))
nameless_plain z (node ClassExpression w g s e ps) h = absurd (false≢true (ap is_nameless h))
nameless_plain z (node AssignmentExpression w g s e ps) h = absurd (false≢true (ap is_nameless h))
nameless_plain z (node UpdateExpression w g s e ps) h = absurd (false≢true (ap is_nameless h))
nameless_plain z (node BreakStatement w g s e ps) h = absurd (false≢true (ap is_nameless h))
nameless_plain z (node ContinueStatement w g s e ps) h = absurd (false≢true (ap is_nameless h))
nameless_plain z (node LabeledStatement w g s e ps) h = absurd (false≢true (ap is_nameless h))
nameless_plain z (node VariableDeclaration w g s e ps) h = absurd (false≢true (ap is_nameless h))
nameless_plain z (node FunctionDeclaration w g s e ps) h = absurd (false≢true (ap is_nameless h))
nameless_plain z (node FunctionExpression w g s e ps) h = absurd (false≢true (ap is_nameless h))
nameless_plain z (node ArrowFunctionExpression w g s e ps) h = absurd (false≢true (ap is_nameless h))
nameless_plain z (node _ w g s e ps) h = (refl, refl)

pub variables_plain : (z : Around) (t : Tree) → own_of (kind_of t) ≡ own.Variables → own_errors z t ≡ plain_errors z t
variables_plain z (node VariableDeclaration w g s e ps) h = refl
variables_plain z (node _ w g s e ps) h = absurd (false≢true (ap declares h))

pub function_plain : (z : Around) (t : Tree) → own_of (kind_of t) ≡ own.Function → (own_errors z t ≡ plain_errors z t) × (vars_of t ≡ [])
function_plain z (node FunctionDeclaration w g s e ps) h = (refl, refl)
function_plain z (node FunctionExpression w g s e ps) h = (refl, refl)
function_plain z (node ArrowFunctionExpression w g s e ps) h = (refl, refl)
function_plain z (node _ w g s e ps) h = absurd (false≢true (ap binds_parameters h))

pub is_variables : (o : OwnErrors) → sort_of o ≡ sort.Variables → o ≡ own.Variables
is_variables own.Variables h = refl
is_variables _ h = absurd (false≢true (ap is_declared h))

pub is_function : (o : OwnErrors) → sort_of o ≡ sort.Parameters → o ≡ own.Function
is_function own.Function h = refl
is_function _ h = absurd (false≢true (ap has_parameters h))

-- a kind that has errors of the language of 2022 has no others
abbrev is_later : OwnErrors → Bool
is_later own.ModuleNames = true
is_later own.ExportAll = true
is_later _ = false

pub later_kind : (t : Tree) {o : OwnErrors} → own_of_2022 (kind_of t) ≡ o → is_later o ≡ true → own_of (kind_of t) ≡ o
later_kind (node ImportSpecifier w g s e ps) h i = h
later_kind (node ExportSpecifier w g s e ps) h i = h
later_kind (node ExportAllDeclaration w g s e ps) h i = h
later_kind (node _ w g s e ps) h i = absurd (false≢true (ap is_later h ∙ i))

-- what is left of the nodes whose names don't matter: those of the language of 2022
pub later_own : (k : Kind) → sort_of (own_of k) ≡ sort.Nameless → (own_of k ≡ own.Member → ⊥) → (own_of k ≡ own.Template → ⊥) → (own_of k ≡ own.Delete → ⊥) → (own_of k ≡ own.SuperProperty → ⊥) → (own_of k ≡ own.SuperCall → ⊥) → (own_of k ≡ own.Target → ⊥) → (own_of k ≡ own.ClassElements → ⊥) → (own_of k ≡ own.Literal → ⊥) → own_of k ≡ own_of_2022 k
later_own VariableDeclaration h n1 n2 n3 n4 n5 n6 n7 n8 = absurd (false≢true (ap is_nameless h))
later_own FunctionDeclaration h n1 n2 n3 n4 n5 n6 n7 n8 = absurd (false≢true (ap is_nameless h))
later_own FunctionExpression h n1 n2 n3 n4 n5 n6 n7 n8 = absurd (false≢true (ap is_nameless h))
later_own ArrowFunctionExpression h n1 n2 n3 n4 n5 n6 n7 n8 = absurd (false≢true (ap is_nameless h))
later_own ClassDeclaration h n1 n2 n3 n4 n5 n6 n7 n8 = absurd (false≢true (ap is_nameless h))
later_own ClassExpression h n1 n2 n3 n4 n5 n6 n7 n8 = absurd (false≢true (ap is_nameless h))
later_own CatchClause h n1 n2 n3 n4 n5 n6 n7 n8 = absurd (false≢true (ap is_nameless h))
later_own AssignmentExpression h n1 n2 n3 n4 n5 n6 n7 n8 = absurd (false≢true (ap is_nameless h))
later_own UpdateExpression h n1 n2 n3 n4 n5 n6 n7 n8 = absurd (false≢true (ap is_nameless h))
later_own ForInStatement h n1 n2 n3 n4 n5 n6 n7 n8 = absurd (false≢true (ap is_nameless h))
later_own ForOfStatement h n1 n2 n3 n4 n5 n6 n7 n8 = absurd (false≢true (ap is_nameless h))
later_own BreakStatement h n1 n2 n3 n4 n5 n6 n7 n8 = absurd (false≢true (ap is_nameless h))
later_own ContinueStatement h n1 n2 n3 n4 n5 n6 n7 n8 = absurd (false≢true (ap is_nameless h))
later_own LabeledStatement h n1 n2 n3 n4 n5 n6 n7 n8 = absurd (false≢true (ap is_nameless h))
later_own UnaryExpression h n1 n2 n3 n4 n5 n6 n7 n8 = absurd (n3 refl)
later_own MemberExpression h n1 n2 n3 n4 n5 n6 n7 n8 = absurd (n4 refl)
later_own CallExpression h n1 n2 n3 n4 n5 n6 n7 n8 = absurd (n5 refl)
later_own MetaProperty h n1 n2 n3 n4 n5 n6 n7 n8 = absurd (n6 refl)
later_own ClassBody h n1 n2 n3 n4 n5 n6 n7 n8 = absurd (n7 refl)
later_own MethodDefinition h n1 n2 n3 n4 n5 n6 n7 n8 = absurd (n1 refl)
later_own TemplateLiteral h n1 n2 n3 n4 n5 n6 n7 n8 = absurd (n2 refl)
later_own Literal h n1 n2 n3 n4 n5 n6 n7 n8 = absurd (n8 refl)
later_own k h n1 n2 n3 n4 n5 n6 n7 n8 = refl

pub first_names_given : (t : Tree) → has_first_names (own_of (kind_of t)) ≡ true → names_given (kind_of t) (parts_of t) ≡ first_names (parts_of t)
first_names_given (node CatchClause w g s e ps) h = refl
first_names_given (node ForInStatement w g s e ps) h = refl
first_names_given (node ForOfStatement w g s e ps) h = refl
first_names_given (node ClassDeclaration w g s e ps) h = refl
first_names_given (node ClassExpression w g s e ps) h = refl
first_names_given (node AssignmentExpression w g s e ps) h = refl
first_names_given (node UpdateExpression w g s e ps) h = refl
first_names_given (node _ w g s e ps) h = absurd (false≢true h)

pub restricted_given : (t : Tree) → has_first_names (own_of (kind_of t)) ≡ true → each EvalOrArguments (places (filter is_restricted (first_names (parts_of t)))) ≡ each EvalOrArguments (eval_or_arguments t)
unfolding eval_or_arguments
restricted_given t h = ap (λ x. each EvalOrArguments (places (filter is_restricted x))) (sym (first_names_given t h)) ∙ whole t
  where
    whole : (t : Tree) → each EvalOrArguments (places (filter is_restricted (names_given (kind_of t) (parts_of t)))) ≡ each EvalOrArguments (eval_or_arguments t)
    whole (node k w g s e ps) = refl
