-- Where `arguments` may stand, a name has the same errors as a reference and as a word.
use Rattle.std.proofs.Common.{◌≡◌, Bool, true, false, cond, [], ◌∷◌, ◌++◌, refl, sym, ap, ◌∙◌}
use Rattle.std.specs.Prelude.{◌&&◌}
use Rattle.tree.specs.declared.kind.Kind.{Kind}
use Rattle.tree.specs.declared.kind.Kind.TheVariants.{Program, Identifier}
use Rattle.tree.specs.declared.kind.Flags.{Flags}
use Rattle.tree.specs.Tree.{Tree, node, Parts, none, part, gap}
use Rattle.language.specs.Vocabulary.{is}
use Rattle.early_errors.specs.declared.EarlyError.TheVariants.{ArgumentsInInit}
use Rattle.early_errors.specs.Around.{Around, around_first, around_others, as_word, within}
use Rattle.early_errors.specs.Names.{when}
use Rattle.early_errors.specs.Scopes.{duplicate_lexical_name, lexical_name_is_var, const_without_initializer, catch_parameter_conflict, for_name_is_var}
use Rattle.early_errors.specs.Functions.{duplicate_parameter, parameter_is_lexical_name, use_strict_after_pattern}
use Rattle.early_errors.specs.Strict.{eval_or_arguments, delete_of_identifier}
use Rattle.early_errors.specs.Labels.{misplaced_jump, undefined_label, duplicate_label}
use Rattle.early_errors.specs.Classes.{super_property_outside_method, super_call_outside_constructor, new_target_outside_function, duplicate_constructor, special_constructor, static_prototype}
use Rattle.early_errors.specs.Objects.{duplicate_proto}
use Rattle.early_errors.specs.Literals.{uncooked_template, reg_exp_flags, reg_exp_pattern}
use Rattle.early_errors.specs.Yields.{yield_outside_generator, await_outside_async, for_async_of}
use Rattle.early_errors.specs.Fields.{field_named_constructor, arguments_in_init}
use Rattle.early_errors.specs.PrivateNames.{private_constructor, duplicate_private_name, undeclared_private_name, delete_of_private}
use Rattle.early_errors.specs.Modules.{import_meta_outside_module, duplicate_export, export_of_no_name, undeclared_export, lone_surrogate}
use Rattle.early_errors.specs.Early.{each, own_errors, errors_within, parts_errors}
use Rattle.early_errors.proofs.OwnErrorsByKind.{small_by_kind}

own_alike : (z : Around) (t : Tree) → z.no_arguments ≡ false → own_errors (as_word z) t ≡ own_errors (within z) t
unfolding own_errors duplicate_lexical_name lexical_name_is_var const_without_initializer catch_parameter_conflict for_name_is_var duplicate_parameter parameter_is_lexical_name use_strict_after_pattern eval_or_arguments delete_of_identifier misplaced_jump undefined_label duplicate_label super_property_outside_method super_call_outside_constructor new_target_outside_function duplicate_constructor special_constructor static_prototype uncooked_template reg_exp_flags yield_outside_generator await_outside_async field_named_constructor private_constructor duplicate_private_name undeclared_private_name arguments_in_init delete_of_private import_meta_outside_module duplicate_export export_of_no_name undeclared_export lone_surrogate for_async_of duplicate_proto reg_exp_pattern
own_alike z (node Identifier w g s e ps) h =
    small_by_kind (as_word z) (node Identifier w g s e ps) ∙ ap (λ b. each ArgumentsInInit (when (b && false && is w "arguments") (s ∷ []))) h
    ∙ sym (ap (λ b. each ArgumentsInInit (when (b && true && is w "arguments") (s ∷ []))) h) ∙ sym (small_by_kind (within z) (node Identifier w g s e ps))
own_alike z (node _ w g s e ps) h = refl

first_alike : (k : Kind) (z : Around) (g : Flags) (ps : Parts) → around_first (as_word z) k g ps ≡ around_first (within z) k g ps
first_alike Program z g ps = refl
first_alike _ z g ps = refl

others_alike : (k : Kind) (z : Around) (g : Flags) (ps : Parts) → around_others (as_word z) k g ps ≡ around_others (within z) k g ps
others_alike Program z g ps = refl
others_alike _ z g ps = refl

-- a node as a word
pub word_alike : (z : Around) (t : Tree) → z.no_arguments ≡ false → errors_within (as_word z) t ≡ errors_within (within z) t
unfolding errors_within
word_alike z (node k w g s e ps) h = λ i. own_alike z (node k w g s e ps) h i ++ parts_errors (first_alike k z g ps i) (others_alike k z g ps i) ps

words_alike : (z : Around) (ps : Parts) → z.no_arguments ≡ false → parts_errors (as_word z) (as_word z) ps ≡ parts_errors (within z) (within z) ps
unfolding parts_errors
words_alike z none h = refl
words_alike z (part t ps) h = λ i. word_alike z t h i ++ words_alike z ps h i
words_alike z (gap ps) h = words_alike z ps h

-- the first part as a word, unless it is computed
pub first_word : (z : Around) (computed : Bool) (ps : Parts) → z.no_arguments ≡ false → parts_errors (cond computed (within z) (as_word z)) (within z) ps ≡ parts_errors (within z) (within z) ps
unfolding parts_errors
first_word z true ps h = refl
first_word z false none h = refl
first_word z false (part t ps) h = ap (λ x. x ++ parts_errors (within z) (within z) ps) (word_alike z t h)
first_word z false (gap ps) h = refl

-- the others as words, unless they are computed
pub other_words : (z : Around) (computed : Bool) (ps : Parts) → z.no_arguments ≡ false → parts_errors (within z) (cond computed (within z) (as_word z)) ps ≡ parts_errors (within z) (within z) ps
unfolding parts_errors
other_words z true ps h = refl
other_words z false none h = refl
other_words z false (part t ps) h = ap (λ x. errors_within (within z) t ++ x) (words_alike z ps h)
other_words z false (gap ps) h = words_alike z ps h
