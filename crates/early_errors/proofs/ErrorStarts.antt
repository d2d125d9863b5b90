-- An early error stands where a node of the tree starts.
use Rattle.std.proofs.Common.{ℕ, Bool, true, false, List, [], ◌∷◌, ◌++◌}
use Rattle.std.specs.Prelude.{◌&&◌, ◌||◌, not, cond, filter, map}
use Rattle.tree.specs.declared.kind.Kind.{Kind}
use Rattle.tree.specs.declared.kind.Kind.TheVariants.{Program, StaticBlock, Identifier, PrivateIdentifier, YieldExpression, AwaitExpression, PropertyDefinition, ImportDeclaration, ImportSpecifier, ExportNamedDeclaration, ExportSpecifier, ExportDefaultDeclaration, ExportAllDeclaration, Literal, ObjectExpression, FunctionExpression, ArrowFunctionExpression, ClassExpression, ClassBody, MethodDefinition, TemplateLiteral, MemberExpression, CallExpression, MetaProperty, UpdateExpression, UnaryExpression, AssignmentExpression, BlockStatement, BreakStatement, ContinueStatement, LabeledStatement, SwitchStatement, CatchClause, ForStatement, ForInStatement, ForOfStatement, VariableDeclaration, FunctionDeclaration, ClassDeclaration}
use Rattle.tree.specs.Uses.{is_async, is_init}
use Rattle.tree.specs.Tree.{Tree, node, Parts, none, part, gap, kind_of, text_of, flags_of, start_of, parts_of}
use Rattle.language.specs.FirstPart.{lead, others}
use Rattle.language.specs.Vocabulary.{is, is_identifier, is_private, is_super, literal_class}
use Rattle.language.specs.Expressions.{value_form}
use Rattle.language.specs.Derivation.{Among, first, later}
use Rattle.early_errors.specs.declared.EarlyError.{EarlyError}
use Rattle.name_tables.specs.BoundNames.{each_part}
use Rattle.early_errors.specs.Names.{Named, has_name, import_name, when, twice, shared, first_names, declared_names, parts_vars, lexical_names, parameter_names, parameters_on, body_items}
use Rattle.early_errors.specs.Around.{Around, outside_of, settled, around_first, around_others, is_constructor, is_accessor}
use Rattle.early_errors.specs.Scopes.{scope_lexical, scope_vars, declaration_names, duplicate_lexical_name, lexical_name_is_var, without_initializer, const_without_initializer, catch_parameter_conflict, head_lexical, for_name_is_var}
use Rattle.early_errors.specs.Functions.{is_simple, use_strict, duplicate_parameter, parameter_is_lexical_name, use_strict_after_pattern}
use Rattle.early_errors.specs.Strict.{names_given, is_restricted, eval_or_arguments, delete_of_identifier}
use Rattle.early_errors.specs.Labels.{is_bare, labels_statement, labels_a_loop, misplaced_jump, undefined_label, duplicate_label}
use Rattle.early_errors.specs.Classes.{super_places, key_places, has_key, named, constructor_places, after_first, super_property_outside_method, super_call_outside_constructor, new_target_outside_function, duplicate_constructor, special_constructor, static_prototype}
use Rattle.early_errors.specs.Objects.{is_proto, proto_places, duplicate_proto}
use Rattle.early_errors.specs.Literals.{some_uncooked, good_flags_in, is_reg_exp, has_pattern_fault, uncooked_template, reg_exp_flags, reg_exp_pattern}
use Rattle.early_errors.specs.Yields.{yield_outside_generator, await_outside_async, for_async_of}
use Rattle.early_errors.specs.Fields.{field_named_constructor, arguments_in_init}
use Rattle.early_errors.specs.PrivateNames.{Declared, declared, is_get, is_set, is_any, is_pair, of_name, second_on, named_constructor, holds_name, private_operand, private_constructor, duplicate_private_name, undeclared_private_name, delete_of_private}
use Rattle.early_errors.specs.Modules.{module_name_at, last_part, each_tree, specifier_name, in_units, declaration_exports, exported_names, no_source, first_tree, locals, is_no_name, starts_of, string_of, lone_parts, first_only, import_meta_outside_module, duplicate_export, export_of_no_name, undeclared_export, lone_surrogate}
use Rattle.early_errors.specs.Early.{Error, each, each_of, own_places, own_errors, errors_within, parts_errors, errors}
use Rattle.early_errors.specs.Starts.{starts}
use Rattle.early_errors.proofs.NodeStarts.{Each, EachNamed, Starting, AllStarting, at_import, each_append, each_when, each_each_part, each_starting, named_append, named_cond, named_filter, named_twice, named_shared, named_each_part, starting_others, starting_parts, starting_parameters, starting_body, at_first, at_declared, at_lexical, at_parameters}

module _ (Q : ℕ → Type 0) where
  at_start : (n : Tree) → Starting Q n → Q (start_of n)
  at_start (node k w g s e ps) h = h.0

  one_when : (b : Bool) (x : ℕ) → Q x → Each Q (when b (x ∷ []))
  one_when b x h = each_when Q b (x ∷ []) (h, tt)

  -- strict words
  at_function_given : (ps : Parts) → AllStarting Q ps → EachNamed Q (first_names ps ++ parameter_names (others ps))
  at_function_given ps h = named_append Q (first_names ps) (parameter_names (others ps)) (at_first Q ps h) (at_parameters Q (others ps) (starting_others Q ps h))

  at_given : (k : Kind) (ps : Parts) → AllStarting Q ps → EachNamed Q (names_given k ps)
  at_given VariableDeclaration ps h = at_declared Q ps h
  at_given FunctionDeclaration ps h = at_function_given ps h
  at_given FunctionExpression ps h = at_function_given ps h
  at_given ArrowFunctionExpression ps h = at_parameters Q ps h
  at_given ClassDeclaration ps h = at_first Q ps h
  at_given ClassExpression ps h = at_first Q ps h
  at_given CatchClause ps h = at_first Q ps h
  at_given AssignmentExpression ps h = at_first Q ps h
  at_given UpdateExpression ps h = at_first Q ps h
  at_given ForInStatement ps h = at_first Q ps h
  at_given ForOfStatement ps h = at_first Q ps h
  at_given ImportDeclaration ps h = named_each_part Q import_name (at_import Q) ps h
  at_given _ ps h = tt

  at_eval : (n : Tree) → Starting Q n → Each Q (eval_or_arguments n)
  unfolding eval_or_arguments
  at_eval (node k w g s e ps) h = named_filter Q is_restricted (names_given k ps) (at_given k ps h.1)

  at_delete : (n : Tree) → Starting Q n → Each Q (delete_of_identifier n)
  unfolding delete_of_identifier
  at_delete (node UnaryExpression w g s e ps) h = one_when (is w "delete" && is_identifier (lead ps)) s h.0
  at_delete (node _ w g s e ps) h = tt

  -- scopes
  at_scope : (z : Around) (k : Kind) (ps : Parts) → AllStarting Q ps → EachNamed Q (scope_lexical z k ps)
  at_scope z Program ps h = named_each_part Q (lexical_names z.in_module) (at_lexical Q z.in_module) ps h
  at_scope z StaticBlock ps h = named_each_part Q (lexical_names false) (at_lexical Q false) ps h
  at_scope z BlockStatement ps h = named_each_part Q (lexical_names (not z.is_body)) (at_lexical Q (not z.is_body)) ps h
  at_scope z SwitchStatement ps h =
      named_each_part Q (λ c. each_part (lexical_names true) (others (parts_of c)))
      (λ c k. named_each_part Q (lexical_names true) (at_lexical Q true) (others (parts_of c)) (starting_others Q (parts_of c) (starting_parts Q c k)))
      (others ps) (starting_others Q ps h)
  at_scope z _ ps h = tt

  at_declaration : (k : Kind) (w : List ℕ) (ps : Parts) → AllStarting Q ps → EachNamed Q (declaration_names k w ps)
  at_declaration VariableDeclaration w ps h = named_cond Q (is w "var") [] (declared_names ps) tt (at_declared Q ps h)
  at_declaration _ w ps h = tt

  at_duplicate_lexical : (z : Around) (n : Tree) → Starting Q n → Each Q (duplicate_lexical_name z n)
  unfolding duplicate_lexical_name
  at_duplicate_lexical z (node k w g s e ps) h =
      let a = scope_lexical z k ps in
      let b = declaration_names k w ps in
      named_append Q (twice a) (twice b) (named_twice Q a (at_scope z k ps h.1)) (named_twice Q b (at_declaration k w ps h.1))

  at_lexical_var : (z : Around) (n : Tree) → Starting Q n → Each Q (lexical_name_is_var z n)
  unfolding lexical_name_is_var
  at_lexical_var z (node k w g s e ps) h = named_shared Q (scope_lexical z k ps) (scope_vars z k ps) (at_scope z k ps h.1)

  at_without : (n : Tree) → Starting Q n → Each Q (without_initializer n)
  at_without n h = each_when Q _ (start_of n ∷ []) (at_start n h, tt)

  at_const : (z : Around) (n : Tree) → Starting Q n → Each Q (const_without_initializer z n)
  unfolding const_without_initializer
  at_const z (node VariableDeclaration w g s e ps) h = each_when Q (is w "const" && not z.in_head) (each_part without_initializer ps) (each_each_part Q without_initializer at_without ps h.1)
  at_const z (node _ w g s e ps) h = tt

  at_catch : (n : Tree) → Starting Q n → Each Q (catch_parameter_conflict n)
  unfolding catch_parameter_conflict
  at_catch (node CatchClause w g s e ps) h =
      let a = first_names ps in
      let b = each_part (lexical_names true) (body_items ps) ++ parts_vars (body_items ps) in
      named_append Q (twice a) (shared a b) (named_twice Q a (at_first Q ps h.1)) (named_shared Q a b (at_first Q ps h.1))
  at_catch (node _ w g s e ps) h = tt

  at_head : (ps : Parts) → AllStarting Q ps → EachNamed Q (head_lexical ps)
  at_head none h = tt
  at_head (part n ps) h = at_lexical Q false n h.0
  at_head (gap ps) h = tt

  at_for : (n : Tree) → Starting Q n → Each Q (for_name_is_var n)
  unfolding for_name_is_var
  at_for (node ForStatement w g s e ps) h = named_shared Q (head_lexical ps) (parts_vars (others (others (others ps)))) (at_head ps h.1)
  at_for (node ForInStatement w g s e ps) h = named_shared Q (head_lexical ps) (parts_vars (others (others ps))) (at_head ps h.1)
  at_for (node ForOfStatement w g s e ps) h = named_shared Q (head_lexical ps) (parts_vars (others (others ps))) (at_head ps h.1)
  at_for (node _ w g s e ps) h = tt

  -- parameters
  at_parameter : (n : Tree) → Starting Q n → Each Q (duplicate_parameter n)
  unfolding duplicate_parameter
  at_parameter (node k w g s e ps) h = let a = parameter_names (parameters_on k ps) in named_twice Q a (at_parameters Q (parameters_on k ps) (starting_parameters Q k ps h.1))

  at_parameter_lexical : (n : Tree) → Starting Q n → Each Q (parameter_is_lexical_name n)
  unfolding parameter_is_lexical_name
  at_parameter_lexical (node k w g s e ps) h =
      let q = parameters_on k ps in
      named_shared Q (each_part (lexical_names false) (body_items q)) (parameter_names q)
      (named_each_part Q (lexical_names false) (at_lexical Q false) (body_items q) (starting_body Q q (starting_parameters Q k ps h.1)))

  at_use_strict : (n : Tree) → Starting Q n → Each Q (use_strict n)
  at_use_strict n h = each_when Q _ (start_of n ∷ []) (at_start n h, tt)

  at_strict : (n : Tree) → Starting Q n → Each Q (use_strict_after_pattern n)
  unfolding use_strict_after_pattern
  at_strict (node k w g s e ps) h =
      let q = parameters_on k ps in
      each_when Q (not (is_simple q)) (each_part use_strict (body_items q)) (each_each_part Q use_strict at_use_strict (body_items q) (starting_body Q q (starting_parameters Q k ps h.1)))

  -- jumps and labels
  at_jump : (z : Around) (n : Tree) → Starting Q n → Each Q (misplaced_jump z n)
  unfolding misplaced_jump
  at_jump z (node BreakStatement w g s e ps) h = one_when (is_bare ps && not (z.in_loop || z.in_switch)) s h.0
  at_jump z (node ContinueStatement w g s e ps) h = one_when (is_bare ps && not z.in_loop) s h.0
  at_jump z (node _ w g s e ps) h = tt

  at_undefined : (z : Around) (n : Tree) → Starting Q n → Each Q (undefined_label z n)
  unfolding undefined_label
  at_undefined z (node BreakStatement w g s e ps) h = named_filter Q (λ x. not (labels_statement z.labels x.0)) (first_names ps) (at_first Q ps h.1)
  at_undefined z (node ContinueStatement w g s e ps) h = named_filter Q (λ x. not (labels_a_loop z.labels x.0)) (first_names ps) (at_first Q ps h.1)
  at_undefined z (node _ w g s e ps) h = tt

  at_duplicate_label : (z : Around) (n : Tree) → Starting Q n → Each Q (duplicate_label z n)
  unfolding duplicate_label
  at_duplicate_label z (node LabeledStatement w g s e ps) h = named_filter Q (λ x. labels_statement z.labels x.0) (first_names ps) (at_first Q ps h.1)
  at_duplicate_label z (node _ w g s e ps) h = tt

  -- classes
  at_super : (ps : Parts) → AllStarting Q ps → Each Q (super_places ps)
  at_super none h = tt
  at_super (part n ps) h = one_when (is_super (kind_of n)) (start_of n) (at_start n h.0)
  at_super (gap ps) h = tt

  at_super_property : (z : Around) (n : Tree) → Starting Q n → Each Q (super_property_outside_method z n)
  unfolding super_property_outside_method
  at_super_property z (node MemberExpression w g s e ps) h = each_when Q (not z.super_property) (super_places ps) (at_super ps h.1)
  at_super_property z (node _ w g s e ps) h = tt

  at_super_call : (z : Around) (n : Tree) → Starting Q n → Each Q (super_call_outside_constructor z n)
  unfolding super_call_outside_constructor
  at_super_call z (node CallExpression w g s e ps) h = each_when Q (not z.super_call) (super_places ps) (at_super ps h.1)
  at_super_call z (node _ w g s e ps) h = tt

  at_new_target : (z : Around) (n : Tree) → Starting Q n → Each Q (new_target_outside_function z n)
  unfolding new_target_outside_function
  at_new_target z (node MetaProperty w g s e ps) h = one_when (has_key ps (λ n. is (text_of n) "new") && not z.new_target) s h.0
  at_new_target z (node _ w g s e ps) h = tt

  at_key : (ps : Parts) → AllStarting Q ps → Each Q (key_places ps)
  at_key none h = tt
  at_key (part n ps) h = (at_start n h.0, tt)
  at_key (gap ps) h = tt

  at_constructor : (n : Tree) → Starting Q n → Each Q (constructor_places n)
  at_constructor n h = each_when Q (is_constructor (flags_of n).form) (key_places (parts_of n)) (at_key (parts_of n) (starting_parts Q n h))

  at_behind_first : (xs : List ℕ) → Each Q xs → Each Q (after_first xs)
  at_behind_first [] h = tt
  at_behind_first (x ∷ xs) h = h.1

  at_constructors : (n : Tree) → Starting Q n → Each Q (duplicate_constructor n)
  unfolding duplicate_constructor
  at_constructors (node ClassBody w g s e ps) h = at_behind_first (each_part constructor_places ps) (each_each_part Q constructor_places at_constructor ps h.1)
  at_constructors (node _ w g s e ps) h = tt

  at_special : (n : Tree) → Starting Q n → Each Q (special_constructor n)
  unfolding special_constructor
  at_special (node MethodDefinition w g s e ps) h =
      each_when Q (((is_accessor g.form || not (is_init (value_form ps))) && not g.is_static) && (not g.computed && has_key ps (λ n. named n "constructor"))) (key_places ps) (at_key ps h.1)
  at_special (node _ w g s e ps) h = tt

  at_prototype : (n : Tree) → Starting Q n → Each Q (static_prototype n)
  unfolding static_prototype
  at_prototype (node MethodDefinition w g s e ps) h =
      each_when Q (g.is_static && (not g.computed && has_key ps (λ n. named n "prototype"))) (key_places ps) (at_key ps h.1)
  at_prototype (node PropertyDefinition w g s e ps) h =
      each_when Q (g.is_static && (not g.computed && has_key ps (λ n. named n "prototype"))) (key_places ps) (at_key ps h.1)
  at_prototype (node _ w g s e ps) h = tt

  -- objects
  at_proto : (n : Tree) → Starting Q n → Each Q (proto_places n)
  at_proto n h = each_when Q (is_proto n) (key_places (parts_of n)) (at_key (parts_of n) (starting_parts Q n h))

  at_protos : (z : Around) (n : Tree) → Starting Q n → Each Q (duplicate_proto z n)
  unfolding duplicate_proto
  at_protos z (node ObjectExpression w g s e ps) h =
      each_when Q z.of_2022 (after_first (each_part proto_places ps)) (at_behind_first (each_part proto_places ps) (each_each_part Q proto_places at_proto ps h.1))
  at_protos z (node _ w g s e ps) h = tt

  -- literals
  at_template : (z : Around) (n : Tree) → Starting Q n → Each Q (uncooked_template z n)
  unfolding uncooked_template
  at_template z (node TemplateLiteral w g s e ps) h = one_when (not z.tagged && some_uncooked ps) s h.0
  at_template z (node _ w g s e ps) h = tt

  at_flags : (z : Around) (n : Tree) → Starting Q n → Each Q (reg_exp_flags z n)
  unfolding reg_exp_flags
  at_flags z (node Literal w g s e ps) h = one_when (not (good_flags_in z.of_2022 w)) s h.0
  at_flags z (node _ w g s e ps) h = tt

  at_pattern : (z : Around) (n : Tree) → Starting Q n → Each Q (reg_exp_pattern z n)
  unfolding reg_exp_pattern
  at_pattern z (node Literal w g s e ps) h = one_when (z.of_2022 && (is_reg_exp (literal_class w) && has_pattern_fault w)) s h.0
  at_pattern z (node _ w g s e ps) h = tt

  -- `yield`, `await` and `async`
  at_yield : (z : Around) (n : Tree) → Starting Q n → Each Q (yield_outside_generator z n)
  unfolding yield_outside_generator
  at_yield z (node YieldExpression w g s e ps) h = one_when (not z.yields) s h.0
  at_yield z (node _ w g s e ps) h = tt

  at_await : (z : Around) (n : Tree) → Starting Q n → Each Q (await_outside_async z n)
  unfolding await_outside_async
  at_await z (node AwaitExpression w g s e ps) h = one_when (not z.awaits) s h.0
  at_await z (node ForOfStatement w g s e ps) h = one_when (is_async g.form && not z.awaits) s h.0
  at_await z (node _ w g s e ps) h = tt

  at_async : (z : Around) (n : Tree) → Starting Q n → Each Q (for_async_of z n)
  unfolding for_async_of
  at_async z (node ForOfStatement w g s e (part n ps)) h = each_when Q _ (start_of n ∷ []) (at_start n h.1.0, tt)
  at_async z (node _ w g s e ps) h = tt

  -- fields
  at_field : (n : Tree) → Starting Q n → Each Q (field_named_constructor n)
  unfolding field_named_constructor
  at_field (node PropertyDefinition w g s e ps) h = each_when Q (not g.computed && has_key ps (λ n. named n "constructor")) (key_places ps) (at_key ps h.1)
  at_field (node _ w g s e ps) h = tt

  at_arguments : (z : Around) (n : Tree) → Starting Q n → Each Q (arguments_in_init z n)
  unfolding arguments_in_init
  at_arguments z (node Identifier w g s e ps) h = one_when (z.no_arguments && not z.is_word && is w "arguments") s h.0
  at_arguments z (node _ w g s e ps) h = tt

  -- private names
  abbrev EachDeclared : List Declared → Type 0
  EachDeclared [] = Unit {0}
  EachDeclared (x ∷ xs) = Q x.at × EachDeclared xs

  declared_append : (xs ys : List Declared) → EachDeclared xs → EachDeclared ys → EachDeclared (xs ++ ys)
  declared_append [] ys h k = k
  declared_append (x ∷ xs) ys h k = (h.0, declared_append xs ys h.1 k)

  at_element : (n : Tree) → Starting Q n → EachDeclared (declared n)
  at_element (node k w g s e none) h = tt
  at_element (node k w g s e (gap ps)) h = tt
  at_element (node k w g s e (part n ps)) h = pick (is_private (kind_of n))
    where
      pick : (b : Bool) → EachDeclared (cond b (record { name = text_of n; at = start_of n; is_static = g.is_static; gets = is_get g.form; sets = is_set g.form } ∷ []) [])
      pick true = (at_start n h.1.0, tt)
      pick false = tt

  at_elements : (ps : Parts) → AllStarting Q ps → EachDeclared (each_part declared ps)
  at_elements none h = tt
  at_elements (part n ps) h = declared_append (declared n) (each_part declared ps) (at_element n h.0) (at_elements ps h.1)
  at_elements (gap ps) h = at_elements ps h

  at_named : (xs : List Declared) → EachDeclared xs → Each Q (named_constructor xs)
  at_named [] h = tt
  at_named (x ∷ xs) h = each_append Q (when (is x.name "constructor") (x.at ∷ [])) (named_constructor xs) (one_when (is x.name "constructor") x.at h.0) (at_named xs h.1)

  at_private_constructor : (n : Tree) → Starting Q n → Each Q (private_constructor n)
  unfolding private_constructor
  at_private_constructor (node ClassBody w g s e ps) h = at_named (each_part declared ps) (at_elements ps h.1)
  at_private_constructor (node _ w g s e ps) h = tt

  at_second : (all before xs : List Declared) → EachDeclared xs → Each Q (second_on all before xs)
  at_second all before [] h = tt
  at_second all before (x ∷ xs) h =
      let b = is_any (of_name x.name before) && not (is_pair (of_name x.name all)) in
      each_append Q (when b (x.at ∷ [])) (second_on all (x ∷ before) xs) (one_when b x.at h.0) (at_second all (x ∷ before) xs h.1)

  at_private_again : (n : Tree) → Starting Q n → Each Q (duplicate_private_name n)
  unfolding duplicate_private_name
  at_private_again (node ClassBody w g s e ps) h = at_second (each_part declared ps) [] (each_part declared ps) (at_elements ps h.1)
  at_private_again (node _ w g s e ps) h = tt

  at_undeclared : (z : Around) (n : Tree) → Starting Q n → Each Q (undeclared_private_name z n)
  unfolding undeclared_private_name
  at_undeclared z (node PrivateIdentifier w g s e ps) h = one_when (not (holds_name z.privates w)) s h.0
  at_undeclared z (node _ w g s e ps) h = tt

  at_delete_private : (n : Tree) → Starting Q n → Each Q (delete_of_private n)
  unfolding delete_of_private
  at_delete_private (node UnaryExpression w g s e ps) h = one_when (is w "delete" && private_operand ps) s h.0
  at_delete_private (node _ w g s e ps) h = tt

  -- modules
  at_meta : (z : Around) (n : Tree) → Starting Q n → Each Q (import_meta_outside_module z n)
  unfolding import_meta_outside_module
  at_meta z (node MetaProperty w g s e ps) h = one_when (has_key ps (λ n. is (text_of n) "import") && not z.in_module) s h.0
  at_meta z (node _ w g s e ps) h = tt

  abbrev EachTree : List Tree → Type 0
  EachTree [] = Unit {0}
  EachTree (x ∷ xs) = Starting Q x × EachTree xs

  tree_append : (xs ys : List Tree) → EachTree xs → EachTree ys → EachTree (xs ++ ys)
  tree_append [] ys h k = k
  tree_append (x ∷ xs) ys h k = (h.0, tree_append xs ys h.1 k)

  tree_each_part : (f : Tree → List Tree) → ((n : Tree) → Starting Q n → EachTree (f n)) → (ps : Parts) → AllStarting Q ps → EachTree (each_part f ps)
  tree_each_part f g none h = tt
  tree_each_part f g (part n ps) h = tree_append (f n) (each_part f ps) (g n h.0) (tree_each_part f g ps h.1)
  tree_each_part f g (gap ps) h = tree_each_part f g ps h

  last_tree : (ps : Parts) → AllStarting Q ps → EachTree (last_part ps)
  last_tree none h = tt
  last_tree (part n none) h = (h.0, tt)
  last_tree (part n (part m ps)) h = last_tree (part m ps) h.1
  last_tree (part n (gap ps)) h = last_tree (gap ps) h.1
  last_tree (gap ps) h = last_tree ps h

  at_module_names : (xs : List Tree) → EachTree xs → EachNamed Q (each_tree (λ x. module_name_at x ∷ []) xs)
  at_module_names [] h = tt
  at_module_names (x ∷ xs) h = (at_start x h.0, at_module_names xs h.1)

  at_specifier : (n : Tree) → Starting Q n → EachNamed Q (specifier_name n)
  at_specifier (node ExportSpecifier w g s e ps) h = at_module_names (last_part ps) (last_tree ps h.1)
  at_specifier (node _ w g s e ps) h = tt

  at_units : (xs : List Named) → EachNamed Q xs → EachNamed Q (map in_units xs)
  at_units [] h = tt
  at_units (x ∷ xs) h = (h.0, at_units xs h.1)

  at_declaration_exports : (n : Tree) → Starting Q n → EachNamed Q (declaration_exports n)
  at_declaration_exports (node VariableDeclaration w g s e ps) h = at_units (declared_names ps) (at_declared Q ps h.1)
  at_declaration_exports (node _ w g s e ps) h = at_units (first_names ps) (at_first Q ps h.1)

  at_exported : (n : Tree) → Starting Q n → EachNamed Q (exported_names n)
  at_exported (node ExportNamedDeclaration w g s e (part n ps)) h = at_declaration_exports n h.1.0
  at_exported (node ExportNamedDeclaration w g s e (gap ps)) h = named_each_part Q specifier_name at_specifier ps h.1
  at_exported (node ExportDefaultDeclaration w g s e ps) h = (h.0, tt)
  at_exported (node ExportAllDeclaration w g s e (part n ps)) h = (at_start n h.1.0, tt)
  at_exported (node _ w g s e ps) h = tt

  at_duplicate_export : (n : Tree) → Starting Q n → Each Q (duplicate_export n)
  unfolding duplicate_export
  at_duplicate_export (node Program w g s e ps) h = let xs = each_part exported_names ps in named_twice Q xs (named_each_part Q exported_names at_exported ps h.1)
  at_duplicate_export (node _ w g s e ps) h = tt

  first_trees : (n : Tree) → Starting Q n → EachTree (first_tree n)
  first_trees (node k w g s e none) h = tt
  first_trees (node k w g s e (part n ps)) h = (h.1.0, tt)
  first_trees (node k w g s e (gap ps)) h = tt

  local_trees : (n : Tree) → Starting Q n → EachTree (locals n)
  local_trees (node ExportNamedDeclaration w g s e (gap ps)) h = pick (no_source ps)
    where
      pick : (b : Bool) → EachTree (cond b (each_part first_tree ps) [])
      pick true = tree_each_part first_tree first_trees ps h.1
      pick false = tt
  local_trees (node _ w g s e ps) h = tt

  at_filtered : (p : Tree → Bool) (xs : List Tree) → EachTree xs → Each Q (starts_of (filter p xs))
  at_filtered p [] h = tt
  at_filtered p (x ∷ xs) h = pick (p x) (at_start x h.0) (at_filtered p xs h.1)
    where
      pick : (b : Bool) → Q (start_of x) → Each Q (starts_of (filter p xs)) → Each Q (starts_of (cond b (x ∷ filter p xs) (filter p xs)))
      pick true k l = (k, l)
      pick false k l = l

  at_no_name : (n : Tree) → Starting Q n → Each Q (export_of_no_name n)
  unfolding export_of_no_name
  at_no_name (node ExportNamedDeclaration w g s e ps) h = at_filtered is_no_name (locals (node ExportNamedDeclaration w g s e ps)) (local_trees (node ExportNamedDeclaration w g s e ps) h)
  at_no_name (node _ w g s e ps) h = tt

  at_undeclared_export : (n : Tree) → Starting Q n → Each Q (undeclared_export n)
  unfolding undeclared_export
  at_undeclared_export (node Program w g s e ps) h =
      at_filtered (λ x. not (is_no_name x || has_name (text_of x) (each_part (lexical_names true) ps ++ parts_vars ps))) (each_part locals ps) (tree_each_part locals local_trees ps h.1)
  at_undeclared_export (node _ w g s e ps) h = tt

  at_lone_parts : (ps : Parts) → AllStarting Q ps → Each Q (lone_parts ps)
  at_lone_parts none h = tt
  at_lone_parts (part n ps) h = each_append Q (when (string_of n) (start_of n ∷ [])) (lone_parts ps) (one_when (string_of n) (start_of n) (at_start n h.0)) (at_lone_parts ps h.1)
  at_lone_parts (gap ps) h = at_lone_parts ps h

  at_first_only : (ps : Parts) → AllStarting Q ps → AllStarting Q (first_only ps)
  at_first_only none h = tt
  at_first_only (part n ps) h = (h.0, tt)
  at_first_only (gap ps) h = tt

  at_lone : (n : Tree) → Starting Q n → Each Q (lone_surrogate n)
  unfolding lone_surrogate
  at_lone (node ImportSpecifier w g s e ps) h = at_lone_parts ps h.1
  at_lone (node ExportSpecifier w g s e ps) h = at_lone_parts ps h.1
  at_lone (node ExportAllDeclaration w g s e ps) h = at_lone_parts (first_only ps) (at_first_only ps h.1)
  at_lone (node _ w g s e ps) h = tt

  -- all of them
  abbrev EachError : List Error → Type 0
  EachError [] = Unit {0}
  EachError (x ∷ xs) = Q x.1 × EachError xs

  of_error : {x : Error} {xs : List Error} → EachError xs → Among x xs → Q x.1
  of_error h first = h.0
  of_error h (later a) = of_error h.1 a

  errors_append : (xs ys : List Error) → EachError xs → EachError ys → EachError (xs ++ ys)
  errors_append [] ys h k = k
  errors_append (x ∷ xs) ys h k = (h.0, errors_append xs ys h.1 k)

  errors_each : (error : EarlyError) (at : List ℕ) → Each Q at → EachError (each error at)
  errors_each error [] h = tt
  errors_each error (x ∷ xs) h = (h.0, errors_each error xs h.1)

  abbrev EachOf : List (EarlyError × List ℕ) → Type 0
  EachOf [] = Unit {0}
  EachOf (x ∷ xs) = Each Q x.1 × EachOf xs

  errors_each_of : (xs : List (EarlyError × List ℕ)) → EachOf xs → EachError (each_of xs)
  errors_each_of [] h = tt
  errors_each_of (x ∷ xs) h = errors_append (each x.0 x.1) (each_of xs) (errors_each x.0 x.1 h.0) (errors_each_of xs h.1)

  at_own : (z : Around) (n : Tree) → Starting Q n → EachError (own_errors z n)
  unfolding own_errors
  at_own z n h =
      errors_each_of (own_places z n)
      (at_eval n h, (at_delete n h, (at_duplicate_lexical z n h, (at_lexical_var z n h, (at_const z n h, (at_parameter n h, (at_parameter_lexical n h, (at_strict n h, (at_jump z n h, (at_undefined z n h, (at_duplicate_label z n h, (at_catch n h, (at_for n h, (at_super_property z n h, (at_super_call z n h, (at_new_target z n h, (at_constructors n h, (at_special n h, (at_prototype n h, (at_template z n h, (at_flags z n h, (at_yield z n h, (at_await z n h, (at_field n h, (at_private_constructor n h, (at_private_again n h, (at_undeclared z n h, (at_arguments z n h, (at_delete_private n h, (at_meta z n h, (at_duplicate_export n h, (at_no_name n h, (at_undeclared_export n h, (at_lone n h, (at_async z n h, (at_protos z n h, (at_pattern z n h, tt)))))))))))))))))))))))))))))))))))))

  mutual
    unfolding errors_within parts_errors

    at_within : (z : Around) (n : Tree) → Starting Q n → EachError (errors_within z n)
    at_within z (node k w g s e ps) h =
        let y = settled z k in
        errors_append (own_errors y (node k w g s e ps)) (parts_errors (around_first y k g ps) (around_others y k g ps) ps) (at_own y (node k w g s e ps) h)
        (at_parts (around_first y k g ps) (around_others y k g ps) ps h.1)

    at_parts : (y z : Around) (ps : Parts) → AllStarting Q ps → EachError (parts_errors y z ps)
    at_parts y z none h = tt
    at_parts y z (part n ps) h = errors_append (errors_within y n) (parts_errors z z ps) (at_within y n h.0) (at_parts z z ps h.1)
    at_parts y z (gap ps) h = at_parts z z ps h

  -- what holds of the starts of all nodes holds of the places of all errors
  pub error_start : (n : Tree) (x : Error) → Starting Q n → Among x (errors n) → Q x.1
  error_start n x h a = of_error (at_within (outside_of n) n h) a

-- an early error stands where a node starts
pub error_at_node : (n : Tree) (x : Error) → Among x (errors n) → Among x.1 (starts n)
error_at_node n x a = error_start (λ s. Among s (starts n)) n x (each_starting (λ s. Among s (starts n)) n (λ s b. b)) a
