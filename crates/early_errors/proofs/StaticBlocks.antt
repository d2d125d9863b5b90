-- A static block has its labels and `var`s alone.
use Rattle.std.proofs.Common.{◌≡◌, ℕ, List, [], ◌++◌, Option, refl, sym, ◌∙◌}
use Rattle.tree.specs.declared.kind.Kind.TheVariants.{StaticBlock}
use Rattle.tree.specs.Tree.{Tree, node, kind_of}
use Rattle.early_errors.specs.declared.around.Context.{Context as Code}
use Rattle.early_errors.specs.Around.{Around, around_first, around_others, settled}
use Rattle.early_errors.specs.Names.{var_names}
use Rattle.early_errors.specs.Scopes.{duplicate_lexical_name, lexical_name_is_var, const_without_initializer, catch_parameter_conflict, for_name_is_var}
use Rattle.early_errors.specs.Functions.{duplicate_parameter, parameter_is_lexical_name, use_strict_after_pattern}
use Rattle.early_errors.specs.Strict.{eval_or_arguments, delete_of_identifier}
use Rattle.early_errors.specs.Labels.{misplaced_jump, undefined_label, duplicate_label}
use Rattle.early_errors.specs.Classes.{super_property_outside_method, super_call_outside_constructor, new_target_outside_function, duplicate_constructor, special_constructor, static_prototype}
use Rattle.early_errors.specs.Objects.{duplicate_proto}
use Rattle.early_errors.specs.Literals.{uncooked_template, reg_exp_flags, reg_exp_pattern}
use Rattle.early_errors.specs.Yields.{yield_outside_generator, await_outside_async, for_async_of}
use Rattle.early_errors.specs.Fields.{field_named_constructor, arguments_in_init}
use Rattle.early_errors.specs.PrivateNames.{private_constructor, duplicate_private_name, undeclared_private_name, delete_of_private}
use Rattle.early_errors.specs.Modules.{import_meta_outside_module, duplicate_export, export_of_no_name, undeclared_export, lone_surrogate}
use Rattle.early_errors.specs.Early.{Error, own_errors, errors_within, parts_errors}
use Rattle.early_errors.specs.Owns.{Beside, round, unlabelled, plain_errors, vars_of}
use Rattle.early_errors.specs.Walk.{sooner, after, hits}

-- whatever labels stand round it, it has the same errors
record Alone (a : Code) (r : Beside) (t : Tree) : Type 0 where
  errors : errors_within (round a (unlabelled r)) t ≡ errors_within (round a r) t
  plain : plain_errors (round a (unlabelled r)) t ≡ plain_errors (round a r) t
  vars : var_names t ≡ []
  own_vars : vars_of t ≡ []

alone : (a : Code) (r : Beside) (t : Tree) → kind_of t ≡ StaticBlock → ((r : Beside) → settled (round a r) (kind_of t) ≡ round a r) → Alone a r t
unfolding errors_within var_names own_errors duplicate_lexical_name lexical_name_is_var const_without_initializer catch_parameter_conflict for_name_is_var duplicate_parameter parameter_is_lexical_name use_strict_after_pattern eval_or_arguments delete_of_identifier misplaced_jump undefined_label duplicate_label super_property_outside_method super_call_outside_constructor new_target_outside_function duplicate_constructor special_constructor static_prototype uncooked_template reg_exp_flags yield_outside_generator await_outside_async field_named_constructor private_constructor duplicate_private_name undeclared_private_name arguments_in_init delete_of_private import_meta_outside_module duplicate_export export_of_no_name undeclared_export lone_surrogate for_async_of duplicate_proto reg_exp_pattern
alone a r (node StaticBlock w g s e ps) k still =
    let t = node StaticBlock w g s e ps in
    let E : Around → List Error = λ y. own_errors y t ++ parts_errors (around_first y StaticBlock g ps) (around_others y StaticBlock g ps) ps in
    record { errors = (λ i. E (still (unlabelled r) i)) ∙ sym (λ i. E (still r i)); plain = refl; vars = refl; own_vars = refl }
alone a r (node _ w g s e ps) k still = absurd (cc)

-- so what is found in it with tables of its own is what is found
pub block-found : (a : Code) (r : Beside) (t : Tree) (f g : List ℕ → Option Error) (o q s : Option Error) → kind_of t ≡ StaticBlock → ((r : Beside) → settled (round a r) (kind_of t) ≡ round a r) →
    q ≡ sooner (after o (plain_errors (round a r) t)) (hits f (vars_of t)) →
    (q ≡ sooner (after o (plain_errors (round a (unlabelled r)) t)) (hits g (vars_of t)) → s ≡ sooner (after o (errors_within (round a (unlabelled r)) t)) (hits g (var_names t))) →
    s ≡ sooner (after o (errors_within (round a r) t)) (hits f (var_names t))
block-found a r t f g o q s k still e h =
    let b = alone a r t k still in
    h (e ∙ (λ i. sooner (after o (sym b.plain i)) (hits f (b.own_vars i))) ∙ sym (λ i. sooner (after o (plain_errors (round a (unlabelled r)) t)) (hits g (b.own_vars i))))
    ∙ (λ i. sooner (after o (b.errors i)) (hits g (b.vars i))) ∙ sym (λ i. sooner (after o (errors_within (round a r) t)) (hits f (b.vars i)))
