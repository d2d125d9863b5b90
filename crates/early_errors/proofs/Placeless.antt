-- Which early errors a tree has doesn't depend on its places.
use Rattle.std.proofs.Common.{◌≡◌, ℕ, zero, suc, Bool, true, false, cond, List, [], ◌∷◌, ◌++◌, refl, sym, ap, ◌∙◌, length}
use Rattle.std.specs.Prelude.{◌&&◌, ◌||◌, not, map, filter, codes}
use Rattle.tree.specs.declared.kind.Kind.{Kind}
use Rattle.tree.specs.declared.kind.Kind.TheVariants.{Program, StaticBlock, Identifier, YieldExpression, AwaitExpression, PropertyDefinition, ImportDeclaration, Literal, ObjectExpression, Property, FunctionExpression, ArrowFunctionExpression, ClassExpression, ClassBody, MethodDefinition, TemplateLiteral, TaggedTemplateExpression, MemberExpression, CallExpression, MetaProperty, UpdateExpression, UnaryExpression, AssignmentExpression, BlockStatement, BreakStatement, ContinueStatement, LabeledStatement, SwitchStatement, CatchClause, ForStatement, ForInStatement, ForOfStatement, VariableDeclaration, FunctionDeclaration, ClassDeclaration}
use Rattle.tree.specs.declared.kind.Flags.{Flags}
use Prim.Native.String.{String}
use Rattle.tree.specs.Uses.{is_async, is_init}
use Rattle.tree.specs.Tree.{Tree, node, Parts, none, part, gap, bare, bare_parts, SameTree, parts_of}
use Rattle.language.specs.FirstPart.{lead, others}
use Rattle.language.specs.Vocabulary.{is, among, is_identifier, is_super, literal_class}
use Rattle.language.specs.Expressions.{value_form}
use Rattle.early_errors.specs.declared.EarlyError.{EarlyError}
use Rattle.early_errors.specs.declared.EarlyError.TheVariants.{EvalOrArguments, DeleteOfIdentifier, DuplicateLexicalName, LexicalNameIsVar, ConstWithoutInitializer, DuplicateParameter, ParameterIsLexicalName, UseStrictBehindPattern, MisplacedJump, UndefinedLabel, DuplicateLabel, CatchParameterConflict, ForNameIsVar, SuperPropertyOutsideMethod, SuperCallOutsideConstructor, NewTargetOutsideFunction, DuplicateConstructor, SpecialConstructor, StaticPrototype, UncookedTemplate, RegExpFlags, YieldOutsideGenerator, AwaitOutsideAsync, FieldNamedConstructor, PrivateConstructor, DuplicatePrivateName, UndeclaredPrivateName, ArgumentsInInit, DeleteOfPrivate, ImportMetaOutsideModule, DuplicateExport, ExportOfNoName, UndeclaredExport, LoneSurrogate, ForAsyncOf, DuplicateProto, RegExpPattern}
use Rattle.name_tables.specs.BoundNames.{each_part}
use Rattle.early_errors.specs.Names.{import_name, places, when, twice, shared, first_names, declared_names, parts_vars, lexical_names, function_names, parameter_names, parameters_on, body_items}
use Rattle.early_errors.specs.Around.{Around, Label, outside_of, settled, private_key, private_keys, within, is_loop, is_label, labels_loop, last_loop, own_label, has_heritage, around_first, around_others, is_constructor, is_accessor}
use Rattle.early_errors.specs.Scopes.{scope_lexical, scope_vars, declaration_names, duplicate_lexical_name, lexical_name_is_var, without_initializer, const_without_initializer, catch_parameter_conflict, head_lexical, for_name_is_var}
use Rattle.early_errors.specs.Functions.{is_simple, use_strict, duplicate_parameter, parameter_is_lexical_name, use_strict_after_pattern}
use Rattle.early_errors.specs.Strict.{names_given, eval_or_arguments, delete_of_identifier}
use Rattle.early_errors.specs.Labels.{is_bare, labels_statement, labels_a_loop, misplaced_jump, undefined_label, duplicate_label}
use Rattle.early_errors.specs.Classes.{super_places, key_places, has_key, named, constructor_places, after_first, super_property_outside_method, super_call_outside_constructor, new_target_outside_function, duplicate_constructor, special_constructor, static_prototype}
use Rattle.early_errors.specs.Objects.{is_property, is_proto, proto_places, duplicate_proto}
use Rattle.early_errors.specs.Literals.{is_uncooked, some_uncooked, good_flags_in, is_reg_exp, has_pattern_fault, uncooked_template, reg_exp_flags, reg_exp_pattern}
use Rattle.early_errors.specs.Yields.{yield_outside_generator, await_outside_async, for_async_of}
use Rattle.early_errors.specs.Fields.{field_named_constructor, arguments_in_init}
use Rattle.early_errors.specs.Early.{Error, number, each, each_of, own_places, own_errors, errors_within, parts_errors, errors}
use Rattle.early_errors.proofs.Words.{words, import-bare, Alike, alike-append, alike-twice, alike-shared, alike-filter, alike-cond, alike-places, alike-each, others-bare, first_names-bare, declared-bare, vars-bare, lexical-bare, function_names-bare, parameters-bare, parameters_on-bare, body_items-bare}
use Rattle.early_errors.proofs.EvenPlaces.{Even, one, once, even-when, even-both, even-each, behind, lead-bare, has_key-bare, worded-bare}
use Rattle.early_errors.proofs.PlacelessModules.{delete_private-bare, duplicate_export-bare, export_no_name-bare, lone-bare, meta-bare, private_again-bare, private_constructor-bare, undeclared-bare, undeclared_export-bare}

-- strict words
other-parameters : (ps : Parts) → Alike (parameter_names (others (bare_parts ps))) (parameter_names (others ps))
other-parameters ps = ap (λ q. words (parameter_names q)) (others-bare ps) ∙ parameters-bare (others ps)

function-given : (ps : Parts) → Alike (first_names (bare_parts ps) ++ parameter_names (others (bare_parts ps))) (first_names ps ++ parameter_names (others ps))
function-given ps = alike-append (first_names (bare_parts ps)) (first_names ps) (parameter_names (others (bare_parts ps))) (parameter_names (others ps)) (first_names-bare ps) (other-parameters ps)

given-bare : (k : Kind) (ps : Parts) → Alike (names_given k (bare_parts ps)) (names_given k ps)
given-bare VariableDeclaration ps = declared-bare ps
given-bare FunctionDeclaration ps = function-given ps
given-bare FunctionExpression ps = function-given ps
given-bare ArrowFunctionExpression ps = parameters-bare ps
given-bare ClassDeclaration ps = first_names-bare ps
given-bare ClassExpression ps = first_names-bare ps
given-bare CatchClause ps = first_names-bare ps
given-bare AssignmentExpression ps = first_names-bare ps
given-bare UpdateExpression ps = first_names-bare ps
given-bare ForInStatement ps = first_names-bare ps
given-bare ForOfStatement ps = first_names-bare ps
given-bare ImportDeclaration ps = alike-each import_name import-bare ps
given-bare _ ps = refl

eval-bare : (n : Tree) → Even (eval_or_arguments (bare n)) (eval_or_arguments n)
unfolding eval_or_arguments
eval-bare (node k w g s e ps) =
    alike-places (filter (λ x. among x.0 ("eval" ∷ "arguments" ∷ [])) (names_given k (bare_parts ps))) (filter (λ x. among x.0 ("eval" ∷ "arguments" ∷ [])) (names_given k ps))
    (alike-filter (λ v. among v ("eval" ∷ "arguments" ∷ [])) (names_given k (bare_parts ps)) (names_given k ps) (given-bare k ps))

delete-bare : (n : Tree) → Even (delete_of_identifier (bare n)) (delete_of_identifier n)
unfolding delete_of_identifier
delete-bare (node UnaryExpression w g s e ps) =
    once (is w "delete" && is_identifier (lead (bare_parts ps))) (is w "delete" && is_identifier (lead ps)) 0 s (ap (λ k. is w "delete" && is_identifier k) (lead-bare ps))
delete-bare (node _ w g s e ps) = refl

-- scopes
case_lexical-bare : (n : Tree) → Alike (each_part (lexical_names true) (others (parts_of (bare n)))) (each_part (lexical_names true) (others (parts_of n)))
case_lexical-bare (node k w g s e ps) = ap (λ q. words (each_part (lexical_names true) q)) (others-bare ps) ∙ alike-each (lexical_names true) (lexical-bare true) (others ps)

scope_lexical-bare : (z : Around) (k : Kind) (ps : Parts) → Alike (scope_lexical z k (bare_parts ps)) (scope_lexical z k ps)
scope_lexical-bare z Program ps = alike-each (lexical_names z.in_module) (lexical-bare z.in_module) ps
scope_lexical-bare z StaticBlock ps = alike-each (lexical_names false) (lexical-bare false) ps
scope_lexical-bare z BlockStatement ps = alike-each (lexical_names (not z.is_body)) (lexical-bare (not z.is_body)) ps
scope_lexical-bare z SwitchStatement ps =
    ap (λ q. words (each_part (λ c. each_part (lexical_names true) (others (parts_of c))) q)) (others-bare ps) ∙
    alike-each (λ c. each_part (lexical_names true) (others (parts_of c))) case_lexical-bare (others ps)
scope_lexical-bare z _ ps = refl

functions-bare : (ps : Parts) → Alike (each_part function_names (bare_parts ps)) (each_part function_names ps)
functions-bare ps = alike-each function_names function_names-bare ps

scope_vars-bare : (z : Around) (k : Kind) (ps : Parts) → Alike (scope_vars z k (bare_parts ps)) (scope_vars z k ps)
scope_vars-bare z Program ps =
    alike-append (cond z.in_module [] (each_part function_names (bare_parts ps))) (cond z.in_module [] (each_part function_names ps)) (parts_vars (bare_parts ps)) (parts_vars ps)
    (alike-cond z.in_module [] [] (each_part function_names (bare_parts ps)) (each_part function_names ps) refl (functions-bare ps)) (vars-bare ps)
scope_vars-bare z StaticBlock ps =
    alike-append (each_part function_names (bare_parts ps)) (each_part function_names ps) (parts_vars (bare_parts ps)) (parts_vars ps) (functions-bare ps) (vars-bare ps)
scope_vars-bare z BlockStatement ps =
    alike-append (cond z.is_body (each_part function_names (bare_parts ps)) []) (cond z.is_body (each_part function_names ps) []) (parts_vars (bare_parts ps)) (parts_vars ps)
    (alike-cond z.is_body (each_part function_names (bare_parts ps)) (each_part function_names ps) [] [] (functions-bare ps) refl) (vars-bare ps)
scope_vars-bare z SwitchStatement ps =
    ap (λ q. words (parts_vars q)) (others-bare ps) ∙ vars-bare (others ps)
scope_vars-bare z _ ps = refl

declaration-bare : (k : Kind) (w : List ℕ) (ps : Parts) → Alike (declaration_names k w (bare_parts ps)) (declaration_names k w ps)
declaration-bare VariableDeclaration w ps = alike-cond (is w "var") [] [] (declared_names (bare_parts ps)) (declared_names ps) refl (declared-bare ps)
declaration-bare _ w ps = refl

duplicate_lexical-bare : (z : Around) (n : Tree) → Even (duplicate_lexical_name z (bare n)) (duplicate_lexical_name z n)
unfolding duplicate_lexical_name
duplicate_lexical-bare z (node k w g s e ps) =
    let a' = scope_lexical z k (bare_parts ps) in
    let a = scope_lexical z k ps in
    let b' = declaration_names k w (bare_parts ps) in
    let b = declaration_names k w ps in
    alike-places (twice a' ++ twice b') (twice a ++ twice b)
    (alike-append (twice a') (twice a) (twice b') (twice b) (alike-twice a' a (scope_lexical-bare z k ps)) (alike-twice b' b (declaration-bare k w ps)))

lexical_is_var-bare : (z : Around) (n : Tree) → Even (lexical_name_is_var z (bare n)) (lexical_name_is_var z n)
unfolding lexical_name_is_var
lexical_is_var-bare z (node k w g s e ps) =
    let a' = scope_lexical z k (bare_parts ps) in
    let a = scope_lexical z k ps in
    let b' = scope_vars z k (bare_parts ps) in
    let b = scope_vars z k ps in
    alike-places (shared a' b') (shared a b) (alike-shared a' a b' b (scope_lexical-bare z k ps) (scope_vars-bare z k ps))

without-bare : (n : Tree) → Even (without_initializer (bare n)) (without_initializer n)
without-bare (node k w g s e none) = refl
without-bare (node k w g s e (part n none)) = refl
without-bare (node k w g s e (part n (part m ps))) = refl
without-bare (node k w g s e (part n (gap ps))) = refl
without-bare (node k w g s e (gap none)) = refl
without-bare (node k w g s e (gap (part m ps))) = refl
without-bare (node k w g s e (gap (gap ps))) = refl

const-bare : (z : Around) (n : Tree) → Even (const_without_initializer z (bare n)) (const_without_initializer z n)
unfolding const_without_initializer
const-bare z (node VariableDeclaration w g s e ps) =
    even-when (is w "const" && not z.in_head) (each_part without_initializer (bare_parts ps)) (each_part without_initializer ps) (even-each without_initializer without-bare ps)
const-bare z (node _ w g s e ps) = refl

block-bare : (ps : Parts) → Alike (each_part (lexical_names true) (body_items (bare_parts ps)) ++ parts_vars (body_items (bare_parts ps))) (each_part (lexical_names true) (body_items ps) ++ parts_vars (body_items ps))
block-bare ps =
    ap (λ q. words (each_part (lexical_names true) q ++ parts_vars q)) (body_items-bare ps) ∙
    alike-append (each_part (lexical_names true) (bare_parts (body_items ps))) (each_part (lexical_names true) (body_items ps)) (parts_vars (bare_parts (body_items ps))) (parts_vars (body_items ps))
    (alike-each (lexical_names true) (lexical-bare true) (body_items ps)) (vars-bare (body_items ps))

catch-bare : (n : Tree) → Even (catch_parameter_conflict (bare n)) (catch_parameter_conflict n)
unfolding catch_parameter_conflict
catch-bare (node CatchClause w g s e ps) =
    let a' = first_names (bare_parts ps) in
    let a = first_names ps in
    let b' = each_part (lexical_names true) (body_items (bare_parts ps)) ++ parts_vars (body_items (bare_parts ps)) in
    let b = each_part (lexical_names true) (body_items ps) ++ parts_vars (body_items ps) in
    alike-places (twice a' ++ shared a' b') (twice a ++ shared a b)
    (alike-append (twice a') (twice a) (shared a' b') (shared a b) (alike-twice a' a (first_names-bare ps)) (alike-shared a' a b' b (first_names-bare ps) (block-bare ps)))
catch-bare (node _ w g s e ps) = refl

head-bare : (ps : Parts) → Alike (head_lexical (bare_parts ps)) (head_lexical ps)
head-bare none = refl
head-bare (part n ps) = lexical-bare false n
head-bare (gap ps) = refl

in_of-bare : (ps : Parts) → Even (places (shared (head_lexical (bare_parts ps)) (parts_vars (others (others (bare_parts ps)))))) (places (shared (head_lexical ps) (parts_vars (others (others ps)))))
in_of-bare ps =
    let a' = head_lexical (bare_parts ps) in
    let a = head_lexical ps in
    let b' = parts_vars (others (others (bare_parts ps))) in
    let b = parts_vars (others (others ps)) in
    alike-places (shared a' b') (shared a b) (alike-shared a' a b' b (head-bare ps) (ap (λ q. words (parts_vars q)) (behind ps) ∙ vars-bare (others (others ps))))

for-bare : (n : Tree) → Even (for_name_is_var (bare n)) (for_name_is_var n)
unfolding for_name_is_var
for-bare (node ForStatement w g s e ps) =
    let a' = head_lexical (bare_parts ps) in
    let a = head_lexical ps in
    let b' = parts_vars (others (others (others (bare_parts ps)))) in
    let b = parts_vars (others (others (others ps))) in
    alike-places (shared a' b') (shared a b)
    (alike-shared a' a b' b (head-bare ps) (ap (λ q. words (parts_vars q)) (ap others (behind ps) ∙ others-bare (others (others ps))) ∙ vars-bare (others (others (others ps)))))
for-bare (node ForInStatement w g s e ps) = in_of-bare ps
for-bare (node ForOfStatement w g s e ps) = in_of-bare ps
for-bare (node _ w g s e ps) = refl

-- parameters
given_parameters : (k : Kind) (ps : Parts) → Alike (parameter_names (parameters_on k (bare_parts ps))) (parameter_names (parameters_on k ps))
given_parameters k ps = ap (λ q. words (parameter_names q)) (parameters_on-bare k ps) ∙ parameters-bare (parameters_on k ps)

body_lexical : (k : Kind) (ps : Parts) → Alike (each_part (lexical_names false) (body_items (parameters_on k (bare_parts ps)))) (each_part (lexical_names false) (body_items (parameters_on k ps)))
body_lexical k ps =
    ap (λ q. words (each_part (lexical_names false) (body_items q))) (parameters_on-bare k ps) ∙ ap (λ q. words (each_part (lexical_names false) q)) (body_items-bare (parameters_on k ps)) ∙
    alike-each (lexical_names false) (lexical-bare false) (body_items (parameters_on k ps))

parameter-bare : (n : Tree) → Even (duplicate_parameter (bare n)) (duplicate_parameter n)
unfolding duplicate_parameter
parameter-bare (node k w g s e ps) =
    let a' = parameter_names (parameters_on k (bare_parts ps)) in
    let a = parameter_names (parameters_on k ps) in
    alike-places (twice a') (twice a) (alike-twice a' a (given_parameters k ps))

parameter_lexical-bare : (n : Tree) → Even (parameter_is_lexical_name (bare n)) (parameter_is_lexical_name n)
unfolding parameter_is_lexical_name
parameter_lexical-bare (node k w g s e ps) =
    let a' = each_part (lexical_names false) (body_items (parameters_on k (bare_parts ps))) in
    let a = each_part (lexical_names false) (body_items (parameters_on k ps)) in
    let b' = parameter_names (parameters_on k (bare_parts ps)) in
    let b = parameter_names (parameters_on k ps) in
    alike-places (shared a' b') (shared a b) (alike-shared a' a b' b (body_lexical k ps) (given_parameters k ps))

simple-bare : (ps : Parts) → is_simple (bare_parts ps) ≡ is_simple ps
simple-bare none = refl
simple-bare (part n none) = refl
simple-bare (part (node k w g s e qs) (part m ps)) = ap (λ b. is_identifier k && b) (simple-bare (part m ps))
simple-bare (part (node k w g s e qs) (gap ps)) = ap (λ b. is_identifier k && b) (simple-bare (gap ps))
simple-bare (gap ps) = simple-bare ps

use_strict-bare : (n : Tree) → Even (use_strict (bare n)) (use_strict n)
use_strict-bare (node k w g s e none) = one (g.directive && false) 0 s
use_strict-bare (node k w g s e (part (node k2 w2 g2 s2 e2 ps2) ps)) = one (g.directive && among w2 ("'use strict'" ∷ "\"use strict\"" ∷ [])) 0 s
use_strict-bare (node k w g s e (gap ps)) = one (g.directive && false) 0 s

strict-bare : (n : Tree) → Even (use_strict_after_pattern (bare n)) (use_strict_after_pattern n)
unfolding use_strict_after_pattern
strict-bare (node k w g s e ps) =
    let q' = parameters_on k (bare_parts ps) in
    let q = parameters_on k ps in
    even-both (not (is_simple q')) (not (is_simple q)) (each_part use_strict (body_items q')) (each_part use_strict (body_items q))
    (ap (λ r. not (is_simple r)) (parameters_on-bare k ps) ∙ ap not (simple-bare q))
    (ap (λ r. length (each_part use_strict (body_items r))) (parameters_on-bare k ps) ∙ ap (λ r. length (each_part use_strict r)) (body_items-bare q) ∙ even-each use_strict use_strict-bare (body_items q))

-- jumps and labels
bare-bare : (ps : Parts) → is_bare (bare_parts ps) ≡ is_bare ps
bare-bare none = refl
bare-bare (part n ps) = refl
bare-bare (gap ps) = refl

jump-bare : (z : Around) (n : Tree) → Even (misplaced_jump z (bare n)) (misplaced_jump z n)
unfolding misplaced_jump
jump-bare z (node BreakStatement w g s e ps) =
    once (is_bare (bare_parts ps) && not (z.in_loop || z.in_switch)) (is_bare ps && not (z.in_loop || z.in_switch)) 0 s (ap (λ b. b && not (z.in_loop || z.in_switch)) (bare-bare ps))
jump-bare z (node ContinueStatement w g s e ps) = once (is_bare (bare_parts ps) && not z.in_loop) (is_bare ps && not z.in_loop) 0 s (ap (λ b. b && not z.in_loop) (bare-bare ps))
jump-bare z (node _ w g s e ps) = refl

label-filter : (p : List ℕ → Bool) (ps : Parts) → Even (places (filter (λ x. p x.0) (first_names (bare_parts ps)))) (places (filter (λ x. p x.0) (first_names ps)))
label-filter p ps =
    alike-places (filter (λ x. p x.0) (first_names (bare_parts ps))) (filter (λ x. p x.0) (first_names ps)) (alike-filter p (first_names (bare_parts ps)) (first_names ps) (first_names-bare ps))

undefined-bare : (z : Around) (n : Tree) → Even (undefined_label z (bare n)) (undefined_label z n)
unfolding undefined_label
undefined-bare z (node BreakStatement w g s e ps) = label-filter (λ v. not (labels_statement z.labels v)) ps
undefined-bare z (node ContinueStatement w g s e ps) = label-filter (λ v. not (labels_a_loop z.labels v)) ps
undefined-bare z (node _ w g s e ps) = refl

label-bare : (z : Around) (n : Tree) → Even (duplicate_label z (bare n)) (duplicate_label z n)
unfolding duplicate_label
label-bare z (node LabeledStatement w g s e ps) = label-filter (labels_statement z.labels) ps
label-bare z (node _ w g s e ps) = refl

-- classes
super-bare : (ps : Parts) → Even (super_places (bare_parts ps)) (super_places ps)
super-bare none = refl
super-bare (part (node k w g s e qs) ps) = one (is_super k) 0 s
super-bare (gap ps) = refl

super_property-bare : (z : Around) (n : Tree) → Even (super_property_outside_method z (bare n)) (super_property_outside_method z n)
unfolding super_property_outside_method
super_property-bare z (node MemberExpression w g s e ps) = even-when (not z.super_property) (super_places (bare_parts ps)) (super_places ps) (super-bare ps)
super_property-bare z (node _ w g s e ps) = refl

super_call-bare : (z : Around) (n : Tree) → Even (super_call_outside_constructor z (bare n)) (super_call_outside_constructor z n)
unfolding super_call_outside_constructor
super_call-bare z (node CallExpression w g s e ps) = even-when (not z.super_call) (super_places (bare_parts ps)) (super_places ps) (super-bare ps)
super_call-bare z (node _ w g s e ps) = refl

target-bare : (z : Around) (n : Tree) → Even (new_target_outside_function z (bare n)) (new_target_outside_function z n)
unfolding new_target_outside_function
target-bare z (node MetaProperty w g s e ps) = worded-bare (codes "new") z.new_target ps s
target-bare z (node _ w g s e ps) = refl

key-bare : (ps : Parts) → Even (key_places (bare_parts ps)) (key_places ps)
key-bare none = refl
key-bare (part n ps) = refl
key-bare (gap ps) = refl

constructor-bare : (n : Tree) → Even (constructor_places (bare n)) (constructor_places n)
constructor-bare (node k w g s e ps) = even-when (is_constructor g.form) (key_places (bare_parts ps)) (key_places ps) (key-bare ps)

abbrev less : ℕ → ℕ
less zero = zero
less (suc n) = n

behind_first-length : (xs : List ℕ) → length (after_first xs) ≡ less (length xs)
behind_first-length [] = refl
behind_first-length (x ∷ xs) = refl

constructors-bare : (n : Tree) → Even (duplicate_constructor (bare n)) (duplicate_constructor n)
unfolding duplicate_constructor
constructors-bare (node ClassBody w g s e ps) =
    behind_first-length (each_part constructor_places (bare_parts ps)) ∙ ap less (even-each constructor_places constructor-bare ps) ∙ sym (behind_first-length (each_part constructor_places ps))
constructors-bare (node _ w g s e ps) = refl

named-bare : (v : String) (n : Tree) → named (bare n) v ≡ named n v
named-bare v (node k w g s e ps) = refl

value_form-bare : (ps : Parts) → value_form (bare_parts ps) ≡ value_form ps
value_form-bare none = refl
value_form-bare (part n none) = refl
value_form-bare (part n (part (node k w g s e qs) ps)) = refl
value_form-bare (part n (gap ps)) = refl
value_form-bare (gap ps) = refl

-- a key with a word
keyed-bare : (v : String) (a b : Bool) (ps : Parts) → Even (when (a && (b && has_key (bare_parts ps) (λ n. named n v))) (key_places (bare_parts ps))) (when (a && (b && has_key ps (λ n. named n v))) (key_places ps))
keyed-bare v a b ps =
    let p : Tree → Bool = λ n. named n v in
    even-both (a && (b && has_key (bare_parts ps) p)) (a && (b && has_key ps p)) (key_places (bare_parts ps)) (key_places ps) (ap (λ x. a && (b && x)) (has_key-bare p (named-bare v) ps)) (key-bare ps)

special-bare : (n : Tree) → Even (special_constructor (bare n)) (special_constructor n)
unfolding special_constructor
special-bare (node MethodDefinition w g s e ps) =
    let p : Tree → Bool = λ n. named n "constructor" in
    ap (λ f. length (when (((is_accessor g.form || not (is_init f)) && not g.is_static) && (not g.computed && has_key (bare_parts ps) p)) (key_places (bare_parts ps)))) (value_form-bare ps)
    ∙ keyed-bare "constructor" ((is_accessor g.form || not (is_init (value_form ps))) && not g.is_static) (not g.computed) ps
special-bare (node _ w g s e ps) = refl

prototype-bare : (n : Tree) → Even (static_prototype (bare n)) (static_prototype n)
unfolding static_prototype
prototype-bare (node MethodDefinition w g s e ps) = keyed-bare "prototype" g.is_static (not g.computed) ps
prototype-bare (node PropertyDefinition w g s e ps) = keyed-bare "prototype" g.is_static (not g.computed) ps
prototype-bare (node _ w g s e ps) = refl

-- objects
is_proto-bare : (n : Tree) → is_proto (bare n) ≡ is_proto n
is_proto-bare (node k w g s e ps) =
    let p : Tree → Bool = λ n. named n "__proto__" in
    ap (λ x. (not g.computed && x) && (is_property k && is_init g.form)) (has_key-bare p (named-bare "__proto__") ps)

proto-bare : (n : Tree) → Even (proto_places (bare n)) (proto_places n)
proto-bare (node k w g s e ps) =
    even-both (is_proto (bare (node k w g s e ps))) (is_proto (node k w g s e ps)) (key_places (bare_parts ps)) (key_places ps) (is_proto-bare (node k w g s e ps)) (key-bare ps)

protos-bare : (z : Around) (n : Tree) → Even (duplicate_proto z (bare n)) (duplicate_proto z n)
unfolding duplicate_proto
protos-bare z (node ObjectExpression w g s e ps) =
    even-when z.of_2022 (after_first (each_part proto_places (bare_parts ps))) (after_first (each_part proto_places ps))
    (behind_first-length (each_part proto_places (bare_parts ps)) ∙ ap less (even-each proto_places proto-bare ps) ∙ sym (behind_first-length (each_part proto_places ps)))
protos-bare z (node _ w g s e ps) = refl

-- literals
uncooked-bare : (ps : Parts) → some_uncooked (bare_parts ps) ≡ some_uncooked ps
uncooked-bare none = refl
uncooked-bare (part (node k w g s e qs) ps) = ap (λ b. is_uncooked k w || b) (uncooked-bare ps)
uncooked-bare (gap ps) = uncooked-bare ps

template-bare : (z : Around) (n : Tree) → Even (uncooked_template z (bare n)) (uncooked_template z n)
unfolding uncooked_template
template-bare z (node TemplateLiteral w g s e ps) =
    once (not z.tagged && some_uncooked (bare_parts ps)) (not z.tagged && some_uncooked ps) 0 s (ap (λ b. not z.tagged && b) (uncooked-bare ps))
template-bare z (node _ w g s e ps) = refl

flags-bare : (z : Around) (n : Tree) → Even (reg_exp_flags z (bare n)) (reg_exp_flags z n)
unfolding reg_exp_flags
flags-bare z (node Literal w g s e ps) = one (not (good_flags_in z.of_2022 w)) 0 s
flags-bare z (node _ w g s e ps) = refl

pattern-bare : (z : Around) (n : Tree) → Even (reg_exp_pattern z (bare n)) (reg_exp_pattern z n)
unfolding reg_exp_pattern
pattern-bare z (node Literal w g s e ps) = one (z.of_2022 && (is_reg_exp (literal_class w) && has_pattern_fault w)) 0 s
pattern-bare z (node _ w g s e ps) = refl

-- `yield`, `await` and `async`
yield-bare : (z : Around) (n : Tree) → Even (yield_outside_generator z (bare n)) (yield_outside_generator z n)
unfolding yield_outside_generator
yield-bare z (node YieldExpression w g s e ps) = one (not z.yields) 0 s
yield-bare z (node _ w g s e ps) = refl

await-bare : (z : Around) (n : Tree) → Even (await_outside_async z (bare n)) (await_outside_async z n)
unfolding await_outside_async
await-bare z (node AwaitExpression w g s e ps) = one (not z.awaits) 0 s
await-bare z (node ForOfStatement w g s e ps) = one (is_async g.form && not z.awaits) 0 s
await-bare z (node _ w g s e ps) = refl

async-bare : (z : Around) (n : Tree) → Even (for_async_of z (bare n)) (for_async_of z n)
unfolding for_async_of
async-bare z (node ForOfStatement w g s e none) = refl
async-bare z (node ForOfStatement w g s e (part (node k2 w2 g2 s2 e2 ps2) ps)) = one (z.of_2022 && not (is_async g.form) && is_identifier k2 && is w2 "async") 0 s2
async-bare z (node ForOfStatement w g s e (gap ps)) = refl
async-bare z (node _ w g s e ps) = refl

-- fields
field-bare : (n : Tree) → Even (field_named_constructor (bare n)) (field_named_constructor n)
unfolding field_named_constructor
field-bare (node PropertyDefinition w g s e ps) = keyed-bare "constructor" true (not g.computed) ps
field-bare (node _ w g s e ps) = refl

arguments-bare : (z : Around) (n : Tree) → Even (arguments_in_init z (bare n)) (arguments_in_init z n)
unfolding arguments_in_init
arguments-bare z (node Identifier w g s e ps) = one (z.no_arguments && not z.is_word && is w "arguments") 0 s
arguments-bare z (node _ w g s e ps) = refl

-- what holds round the parts
mutual
  unfolding labels_loop last_loop

  loop-bare : (n : Tree) → labels_loop (bare n) ≡ labels_loop n
  loop-bare (node k w g s e ps) = ap (λ b. is_loop k || (is_label k && b)) (last_loop-bare ps)

  last_loop-bare : (ps : Parts) → last_loop (bare_parts ps) ≡ last_loop ps
  last_loop-bare none = refl
  last_loop-bare (part n none) = loop-bare n
  last_loop-bare (part n (part m ps)) = last_loop-bare (part m ps)
  last_loop-bare (part n (gap ps)) = last_loop-bare ps
  last_loop-bare (gap ps) = last_loop-bare ps

own_label-bare : (ps : Parts) (ls : List Label) → own_label (bare_parts ps) ls ≡ own_label ps ls
own_label-bare none ls = refl
own_label-bare (part (node k w g s e qs) ps) ls = ap (λ b. (w, b) ∷ ls) (last_loop-bare ps)
own_label-bare (gap ps) ls = refl

heritage-bare : (ps : Parts) → has_heritage (bare_parts ps) ≡ has_heritage ps
heritage-bare none = refl
heritage-bare (part n ps) = refl
heritage-bare (gap ps) = refl

derived-bare : (ps : Parts) → has_heritage (others (bare_parts ps)) ≡ has_heritage (others ps)
derived-bare ps = ap has_heritage (others-bare ps) ∙ heritage-bare (others ps)

private_key-bare : (n : Tree) → private_key (bare n) ≡ private_key n
private_key-bare (node k w g s e none) = refl
private_key-bare (node k w g s e (part (node k2 w2 g2 s2 e2 ps2) ps)) = refl
private_key-bare (node k w g s e (gap ps)) = refl

private_keys-bare : (ps : Parts) → private_keys (bare_parts ps) ≡ private_keys ps
private_keys-bare none = refl
private_keys-bare (part n ps) = λ i. private_key-bare n i ++ private_keys-bare ps i
private_keys-bare (gap ps) = private_keys-bare ps

others_around : (z : Around) (k : Kind) (g : Flags) (ps : Parts) → around_others z k g (bare_parts ps) ≡ around_others z k g ps
others_around z ClassExpression g ps = ap (λ b. record (within z) { derived = b }) (derived-bare ps)
others_around z ClassDeclaration g ps = ap (λ b. record (within z) { derived = b }) (derived-bare ps)
others_around z ClassBody g ps = ap (λ ws. record (within z) { derived = z.derived; privates = ws ++ z.privates }) (private_keys-bare ps)
others_around z LabeledStatement g ps = ap (λ l. record (within z) { labels = l }) (own_label-bare ps z.labels)
others_around z _ g ps = refl

first_around : (z : Around) (k : Kind) (g : Flags) (ps : Parts) → around_first z k g (bare_parts ps) ≡ around_first z k g ps
first_around z MethodDefinition g ps = refl
first_around z PropertyDefinition g ps = refl
first_around z Property g ps = refl
first_around z MemberExpression g ps = refl
first_around z LabeledStatement g ps = refl
first_around z BreakStatement g ps = refl
first_around z ContinueStatement g ps = refl
first_around z TaggedTemplateExpression g ps = refl
first_around z ForInStatement g ps = refl
first_around z ForOfStatement g ps = refl
first_around z k g ps = others_around z k g ps

-- the numbers of a list of errors
abbrev pub numbers : List Error → List ℕ
numbers xs = map (λ x. x.0) xs

abbrev times : ℕ → ℕ → List ℕ
times v zero = []
times v (suc n) = v ∷ times v n

abbrev tally : List (EarlyError × ℕ) → List ℕ
tally [] = []
tally (x ∷ xs) = times (number x.0) x.1 ++ tally xs

abbrev counts : List (EarlyError × List ℕ) → List (EarlyError × ℕ)
counts xs = map (λ x. (x.0, length x.1)) xs

each-times : (c : EarlyError) (xs : List ℕ) → numbers (each c xs) ≡ times (number c) (length xs)
each-times c [] = refl
each-times c (x ∷ xs) = ap (λ l. number c ∷ l) (each-times c xs)

numbers-append : (xs ys : List Error) → numbers (xs ++ ys) ≡ numbers xs ++ numbers ys
numbers-append [] ys = refl
numbers-append (x ∷ xs) ys = ap (λ l. x.0 ∷ l) (numbers-append xs ys)

tallied : (xs : List (EarlyError × List ℕ)) → numbers (each_of xs) ≡ tally (counts xs)
tallied [] = refl
tallied (x ∷ xs) = numbers-append (each x.0 x.1) (each_of xs) ∙ (λ i. each-times x.0 x.1 i ++ tallied xs i)

counted : (z : Around) (n : Tree) → counts (own_places z (bare n)) ≡ counts (own_places z n)
counted z n = λ i.
    (EvalOrArguments, eval-bare n i) ∷
    (DeleteOfIdentifier, delete-bare n i) ∷
    (DuplicateLexicalName, duplicate_lexical-bare z n i) ∷
    (LexicalNameIsVar, lexical_is_var-bare z n i) ∷
    (ConstWithoutInitializer, const-bare z n i) ∷
    (DuplicateParameter, parameter-bare n i) ∷
    (ParameterIsLexicalName, parameter_lexical-bare n i) ∷
    (UseStrictBehindPattern, strict-bare n i) ∷
    (MisplacedJump, jump-bare z n i) ∷
    (UndefinedLabel, undefined-bare z n i) ∷
    (DuplicateLabel, label-bare z n i) ∷
    (CatchParameterConflict, catch-bare n i) ∷
    (ForNameIsVar, for-bare n i) ∷
    (SuperPropertyOutsideMethod, super_property-bare z n i) ∷
    (SuperCallOutsideConstructor, super_call-bare z n i) ∷
    (NewTargetOutsideFunction, target-bare z n i) ∷
    (DuplicateConstructor, constructors-bare n i) ∷
    (SpecialConstructor, special-bare n i) ∷
    (StaticPrototype, prototype-bare n i) ∷
    (UncookedTemplate, template-bare z n i) ∷
    (RegExpFlags, flags-bare z n i) ∷
    (YieldOutsideGenerator, yield-bare z n i) ∷
    (AwaitOutsideAsync, await-bare z n i) ∷
    (FieldNamedConstructor, field-bare n i) ∷
    (PrivateConstructor, private_constructor-bare n i) ∷
    (DuplicatePrivateName, private_again-bare n i) ∷
    (UndeclaredPrivateName, undeclared-bare z n i) ∷
    (ArgumentsInInit, arguments-bare z n i) ∷
    (DeleteOfPrivate, delete_private-bare n i) ∷
    (ImportMetaOutsideModule, meta-bare z n i) ∷
    (DuplicateExport, duplicate_export-bare n i) ∷
    (ExportOfNoName, export_no_name-bare n i) ∷
    (UndeclaredExport, undeclared_export-bare n i) ∷
    (LoneSurrogate, lone-bare n i) ∷
    (ForAsyncOf, async-bare z n i) ∷
    (DuplicateProto, protos-bare z n i) ∷
    (RegExpPattern, pattern-bare z n i) ∷
    []

own-bare : (z : Around) (n : Tree) → numbers (own_errors z (bare n)) ≡ numbers (own_errors z n)
unfolding own_errors
own-bare z n = tallied (own_places z (bare n)) ∙ ap tally (counted z n) ∙ sym (tallied (own_places z n))

both_numbers : (xs xs' ys ys' : List Error) → numbers xs ≡ numbers xs' → numbers ys ≡ numbers ys' → numbers (xs ++ ys) ≡ numbers (xs' ++ ys')
both_numbers xs xs' ys ys' e f = numbers-append xs ys ∙ (λ i. e i ++ f i) ∙ sym (numbers-append xs' ys')

mutual
  unfolding errors_within parts_errors

  pub within-bare : (z : Around) (n : Tree) → numbers (errors_within z (bare n)) ≡ numbers (errors_within z n)
  within-bare z (node k w g s e ps) =
      let y = settled z k in
      both_numbers (own_errors y (bare (node k w g s e ps))) (own_errors y (node k w g s e ps))
      (parts_errors (around_first y k g (bare_parts ps)) (around_others y k g (bare_parts ps)) (bare_parts ps)) (parts_errors (around_first y k g ps) (around_others y k g ps) ps)
      (own-bare y (node k w g s e ps))
      ((λ i. numbers (parts_errors (first_around y k g ps i) (others_around y k g ps i) (bare_parts ps))) ∙ parts-bare (around_first y k g ps) (around_others y k g ps) ps)

  pub parts-bare : (y z : Around) (ps : Parts) → numbers (parts_errors y z (bare_parts ps)) ≡ numbers (parts_errors y z ps)
  parts-bare y z none = refl
  parts-bare y z (part n ps) = both_numbers (errors_within y (bare n)) (errors_within y n) (parts_errors z z (bare_parts ps)) (parts_errors z z ps) (within-bare y n) (parts-bare z z ps)
  parts-bare y z (gap ps) = parts-bare z z ps

outside-bare : (n : Tree) → outside_of (bare n) ≡ outside_of n
outside-bare (node k w g s e ps) = refl

errors-bare : (n : Tree) → numbers (errors (bare n)) ≡ numbers (errors n)
errors-bare n = ap (λ z. numbers (errors_within z (bare n))) (outside-bare n) ∙ within-bare (outside_of n) n

-- two trees that are one, places aside, have the same early errors, but for their places
pub same_errors : (a b : Tree) → SameTree a b → numbers (errors a) ≡ numbers (errors b)
same_errors a b h = sym (errors-bare a) ∙ ap (λ n. numbers (errors n)) h ∙ errors-bare b

empty : (xs : List Error) → numbers xs ≡ [] → xs ≡ []
empty [] e = refl
empty (x ∷ xs) e = cc

-- where a tree has no early error, the same tree with other places has none
pub none_either : (a b : Tree) → SameTree a b → errors a ≡ [] → errors b ≡ []
none_either a b h e = empty (errors b) (sym (same_errors a b h) ∙ ap numbers e)
