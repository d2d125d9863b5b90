-- What the examples compute with.
use Rattle.std.specs.Prelude.{ℕ}
use Rattle.name_tables.specs.BoundNames.{bound_names, all_bound_names, first_bound_names, last_bound_names}
use Rattle.early_errors.specs.Names.{var_names, parts_vars}
use Rattle.early_errors.specs.Around.{labels_loop, last_loop}
use Rattle.early_errors.specs.Scopes.{duplicate_lexical_name, lexical_name_is_var, const_without_initializer, catch_parameter_conflict, for_name_is_var}
use Rattle.early_errors.specs.Functions.{duplicate_parameter, parameter_is_lexical_name, use_strict_after_pattern}
use Rattle.early_errors.specs.Strict.{eval_or_arguments, delete_of_identifier}
use Rattle.early_errors.specs.Labels.{misplaced_jump, undefined_label, duplicate_label}
use Rattle.early_errors.specs.Classes.{super_property_outside_method, super_call_outside_constructor, new_target_outside_function, duplicate_constructor, special_constructor, static_prototype}
use Rattle.early_errors.specs.Objects.{duplicate_proto}
use Rattle.early_errors.specs.Literals.{uncooked_template, reg_exp_flags, has_pattern_fault, reg_exp_pattern}
use Rattle.early_errors.specs.Yields.{yield_outside_generator, await_outside_async, for_async_of}
use Rattle.early_errors.specs.Fields.{field_named_constructor, arguments_in_init}
use Rattle.early_errors.specs.PrivateNames.{private_constructor, duplicate_private_name, undeclared_private_name, delete_of_private}
use Rattle.early_errors.specs.Modules.{import_meta_outside_module, duplicate_export, export_of_no_name, undeclared_export, lone_surrogate}
use Rattle.early_errors.specs.Early.{own_errors, errors_within, parts_errors}

-- all that the definitions compute with
unfoldable pub computing : ℕ
unfolding bound_names all_bound_names first_bound_names last_bound_names var_names parts_vars labels_loop last_loop duplicate_lexical_name lexical_name_is_var const_without_initializer catch_parameter_conflict for_name_is_var duplicate_parameter parameter_is_lexical_name use_strict_after_pattern eval_or_arguments delete_of_identifier misplaced_jump undefined_label duplicate_label super_property_outside_method super_call_outside_constructor new_target_outside_function duplicate_constructor special_constructor static_prototype uncooked_template reg_exp_flags yield_outside_generator await_outside_async field_named_constructor private_constructor duplicate_private_name undeclared_private_name arguments_in_init delete_of_private import_meta_outside_module duplicate_export export_of_no_name undeclared_export lone_surrogate for_async_of duplicate_proto has_pattern_fault reg_exp_pattern own_errors errors_within parts_errors
computing = 0
