-- Leaves that have no errors.
use Rattle.std.proofs.Common.{◌≡◌, ℕ, Bool, true, false, not, [], ◌∷◌, List, ◌++◌, Option, None, refl, sym, ap, ◌∙◌, append-nil}
use Rattle.std.specs.Prelude.{◌||◌, ◌&&◌}
use Rattle.std.specs.Bool.{OnTrue}
use Rattle.std.proofs.lemmas.Bool.{false≢true}
use Rattle.tree.specs.declared.kind.Kind.TheVariants.{Identifier, Literal, ThisExpression}
use Rattle.tree.specs.Tree.{Tree, node, kind_of, text_of, parts_of, part_count}
use Rattle.early_errors.specs.declared.EarlyError.TheVariants.{RegExpFlags, RegExpPattern, ArgumentsInInit}
use Rattle.language.specs.Vocabulary.{is, literal_class}
use Rattle.early_errors.specs.Around.{Around, settled}
use Rattle.early_errors.specs.Names.{when, var_names}
use Rattle.early_errors.specs.Scopes.{duplicate_lexical_name, lexical_name_is_var, const_without_initializer, catch_parameter_conflict, for_name_is_var}
use Rattle.early_errors.specs.Functions.{duplicate_parameter, parameter_is_lexical_name, use_strict_after_pattern}
use Rattle.early_errors.specs.Strict.{eval_or_arguments, delete_of_identifier}
use Rattle.early_errors.specs.Labels.{misplaced_jump, undefined_label, duplicate_label}
use Rattle.early_errors.specs.Classes.{super_property_outside_method, super_call_outside_constructor, new_target_outside_function, duplicate_constructor, special_constructor, static_prototype}
use Rattle.early_errors.specs.Objects.{duplicate_proto}
use Rattle.early_errors.specs.Literals.{are_among, known_flags, flags_part, is_reg_exp, has_pattern_fault, uncooked_template, reg_exp_flags, reg_exp_pattern}
use Rattle.early_errors.specs.Yields.{yield_outside_generator, await_outside_async, for_async_of}
use Rattle.early_errors.specs.Fields.{field_named_constructor, arguments_in_init}
use Rattle.early_errors.specs.PrivateNames.{private_constructor, duplicate_private_name, undeclared_private_name, delete_of_private}
use Rattle.early_errors.specs.Modules.{import_meta_outside_module, duplicate_export, export_of_no_name, undeclared_export, lone_surrogate}
use Rattle.early_errors.specs.Early.{Error, each, own_errors, errors_within}
use Rattle.early_errors.specs.Walk.{after, hits, sooner}
use Rattle.early_errors.specs.Walks.{IsQuiet, is_quiet}
use Rattle.early_errors.proofs.Least.{sooner-none}
use Rattle.early_errors.proofs.OwnErrorsByKind.{small_by_kind}
use Rattle.early_errors.proofs.PartRanges.{errors_whole}
use Rattle.early_errors.proofs.Settled.{settled_arguments, settled_errors, settled_twice}
use Rattle.early_errors.proofs.VarFree.{parts_free}

quiet_name : (b w x : Bool) → not (b && x) ≡ true → (b && not w && x) ≡ false
quiet_name false w x h = refl
quiet_name true true x h = refl
quiet_name true false true h = absurd (false≢true h)
quiet_name true false false h = refl

no_pattern : (a x y : Bool) (s : ℕ) → not x ≡ true → each RegExpPattern (when (a && (x && y)) (s ∷ [])) ≡ []
no_pattern a true y s h = absurd (false≢true h)
no_pattern true false y s h = refl
no_pattern false false y s h = refl

no_own : (b : Bool) (t : Tree) (z : Around) → is_quiet b (kind_of t) (text_of t) ≡ true → z.no_arguments ≡ b → own_errors z t ≡ []
unfolding own_errors duplicate_lexical_name lexical_name_is_var const_without_initializer catch_parameter_conflict for_name_is_var duplicate_parameter parameter_is_lexical_name use_strict_after_pattern eval_or_arguments delete_of_identifier misplaced_jump undefined_label duplicate_label super_property_outside_method super_call_outside_constructor new_target_outside_function duplicate_constructor special_constructor static_prototype uncooked_template reg_exp_flags yield_outside_generator await_outside_async field_named_constructor private_constructor duplicate_private_name undeclared_private_name arguments_in_init delete_of_private import_meta_outside_module duplicate_export export_of_no_name undeclared_export lone_surrogate for_async_of duplicate_proto reg_exp_pattern
no_own b (node Identifier w g s e ps) z h a =
    small_by_kind z (node Identifier w g s e ps) ∙ ap (λ c. each ArgumentsInInit (when c (s ∷ []))) (ap (λ c. c && not z.is_word && is w "arguments") a ∙ quiet_name b z.is_word (is w "arguments") h)
no_own b (node ThisExpression w g s e ps) z h a = refl
no_own b (node Literal w g s e ps) z h a =
    small_by_kind z (node Literal w g s e ps) ∙
    (λ i. each RegExpFlags (when (not (h i || are_among (known_flags z.of_2022) (flags_part [] w))) (s ∷ [])) ++ no_pattern z.of_2022 (is_reg_exp (literal_class w)) (has_pattern_fault w) s h i)
no_own b (node _ w g s e ps) z h a = absurd (false≢true h)

no_vars : (b : Bool) (t : Tree) → is_quiet b (kind_of t) (text_of t) ≡ true → 0 ≡ part_count (parts_of t) → var_names t ≡ []
no_vars b (node Identifier w g s e ps) h c = parts_free (node Identifier w g s e ps) 0 refl c refl
no_vars b (node ThisExpression w g s e ps) h c = parts_free (node ThisExpression w g s e ps) 0 refl c refl
no_vars b (node Literal w g s e ps) h c = parts_free (node Literal w g s e ps) 0 refl c refl
no_vars b (node _ w g s e ps) h c = absurd (false≢true h)

pub quiet_leaf : (b : Bool) (t : Tree) (n : ℕ) → is_quiet b (kind_of t) (text_of t) ≡ true → n ≡ part_count (parts_of t) → n ≡ 0 → IsQuiet b t
quiet_leaf b t n h c e =
    let none : 0 ≡ part_count (parts_of t) = sym e ∙ c in (
      (λ z a.
          let y : Around = settled z (kind_of t) in
          settled_errors z t ∙ errors_whole y t 0 (settled_twice z (kind_of t)) none ∙ append-nil (own_errors y t) ∙ no_own b t y h (settled_arguments z (kind_of t) ∙ a)),
      no_vars b t h none,
    )

pub quiet_given : (c b : Bool) (t : Tree) (n : ℕ) → b ≡ is_quiet c (kind_of t) (text_of t) → n ≡ part_count (parts_of t) → n ≡ 0 → OnTrue b (IsQuiet c t)
quiet_given c true t n h e f = quiet_leaf c t n (sym h) e f
quiet_given c false t n h e f = tt

-- what is found behind a quiet node is what was found before
pub quiet_found : (f : List ℕ → Option Error) (b : Bool) (z : Around) (t : Tree) (q r : Option Error) → IsQuiet b t → z.no_arguments ≡ b → r ≡ q → r ≡ sooner (after q (errors_within z t)) (hits f (var_names t))
quiet_found f b z t q r a k h =
    h ∙ sym (sooner-none q) ∙ sym (sooner-none (sooner q None)) ∙ (λ j. sooner (after q (sym (a.0 z k) j)) (hits f (sym a.1 j)))
