-- Nodes that a walk passes, kind by kind.
use Rattle.std.proofs.Common.{◌≡◌, ℕ, ◌≤◌, Bool, true, false, not, cond, List, [], ◌∷◌, ◌++◌, filter, refl, sym, ap, ◌∙◌, arith}
use Rattle.std.specs.Prelude.{◌||◌, ◌&&◌}
use Rattle.std.specs.Bool.{OnFalse}
use Rattle.std.proofs.lemmas.Bool.{false≢true}
use Rattle.tree.specs.declared.kind.Kind.{Kind}
use Rattle.tree.specs.declared.kind.Kind.TheVariants as kind
use Rattle.tree.specs.declared.kind.Flags.{Flags}
use Rattle.tree.specs.Tree.{Tree, node, Parts, none, part, gap, kind_of, text_of, flags_of, start_of, parts_of, part_at, part_count}
use Rattle.language.specs.Vocabulary.{is, among, is_identifier}
use Rattle.language.specs.FirstPart.{lead}
use Rattle.early_errors.specs.declared.EarlyError.{EarlyError}
use Rattle.early_errors.specs.declared.EarlyError.TheVariants as error
use Rattle.early_errors.specs.declared.own.OwnErrors.TheVariants as own
use Rattle.early_errors.specs.declared.skipping.SkipTest.{SkipTest}
use Rattle.early_errors.specs.declared.skipping.SkipTest.TheVariants as telling
use Rattle.early_errors.specs.Around.{Around, around_first, around_others, as_word, within, settled, is_method, in_method}
use Rattle.name_tables.specs.BoundNames.{each_part}
use Rattle.tree.specs.Kinds.{is_function}
use Rattle.early_errors.specs.Names.{places, when, twice, shared, function_names, is_static_block, lexical_names, names_in, own_vars, var_names, parts_vars}
use Rattle.early_errors.specs.Scopes.{duplicate_lexical_name, lexical_name_is_var, const_without_initializer, catch_parameter_conflict, for_name_is_var}
use Rattle.early_errors.specs.Functions.{duplicate_parameter, parameter_is_lexical_name, use_strict_after_pattern}
use Rattle.early_errors.specs.Strict.{is_restricted, eval_or_arguments, delete_of_identifier}
use Rattle.early_errors.specs.Labels.{misplaced_jump, undefined_label, duplicate_label}
use Rattle.early_errors.specs.Classes.{after_first, super_places, super_property_outside_method, super_call_outside_constructor, new_target_outside_function, duplicate_constructor, special_constructor, static_prototype}
use Rattle.early_errors.specs.Objects.{proto_places, duplicate_proto}
use Rattle.early_errors.specs.Literals.{uncooked_template, reg_exp_flags, reg_exp_pattern}
use Rattle.early_errors.specs.Yields.{yield_outside_generator, await_outside_async, for_async_of}
use Rattle.early_errors.specs.Fields.{field_named_constructor, arguments_in_init}
use Rattle.early_errors.specs.PrivateNames.{private_operand, private_constructor, duplicate_private_name, undeclared_private_name, delete_of_private}
use Rattle.early_errors.specs.Modules.{import_meta_outside_module, duplicate_export, export_of_no_name, undeclared_export, lone_surrogate}
use Rattle.early_errors.specs.Early.{each, own_errors, errors_within, parts_errors}
use Rattle.early_errors.specs.Owns.{own_of}
use Rattle.early_errors.specs.Walk.{names_at}
use Rattle.early_errors.specs.Walks.{IsQuiet, IsSilent}
use Rattle.early_errors.specs.Passed.{IsOpen, is_super_at, telling_of}
use Rattle.early_errors.proofs.FirstNames.{first_names-at}
use Rattle.early_errors.proofs.OwnErrorsByKind.{has_first_names, small_given, named_plain, restricted_given}
use Rattle.early_errors.proofs.Settled.{settled_arguments, settled_errors, settled_twice}
use Rattle.early_errors.proofs.WordAlike.{first_word, other_words}

abbrev pub in_parts : SkipTest → Bool
in_parts telling.Kind = true
in_parts telling.Callee = true
in_parts telling.Target = true
in_parts telling.Operator = true
in_parts telling.Items = true
in_parts telling.Object = true
in_parts _ = false

-- ---- what stands round the parts

or_false : (b : Bool) → (b || false) ≡ b
or_false true = refl
or_false false = refl

pub same_round : (z : Around) → record (within z) { in_loop = z.in_loop || false } ≡ within z
same_round z = λ i. record (within z) { in_loop = or_false z.in_loop i }

-- its parts have the errors that they have where what stands round the node stands round all of them, and the node has the `var`s of its parts;
-- the flag says whether `arguments` may not stand there
abbrev pub HandsOn : Bool → Tree → Type 0
HandsOn b t =
    ((z : Around) → z.no_arguments ≡ b → parts_errors (around_first z (kind_of t) (flags_of t) (parts_of t)) (around_others z (kind_of t) (flags_of t) (parts_of t)) (parts_of t) ≡ parts_errors (within z) (within z) (parts_of t))
    × (var_names t ≡ parts_vars (parts_of t))

-- what stands round a node, as a kind without a loop hands it on
abbrev passed_on : Around → Around
passed_on z = record (within z) { in_loop = z.in_loop || false }

on_first : (k : Kind) (z : Around) (g : Flags) (ps : Parts) → cond (in_parts (telling_of k)) (around_first z k g ps) (passed_on z) ≡ passed_on z
on_first kind.Program z g ps = refl
on_first _ z g ps = refl

on_others : (k : Kind) (z : Around) (g : Flags) (ps : Parts) → cond (in_parts (telling_of k)) (around_others z k g ps) (passed_on z) ≡ passed_on z
on_others kind.Program z g ps = refl
on_others _ z g ps = refl

vars_on : (k : Kind) (w : List ℕ) (ps : Parts) → cond (in_parts (telling_of k)) (cond (is_function k || is_static_block k) [] (own_vars k w ps ++ parts_vars ps)) (parts_vars ps) ≡ parts_vars ps
vars_on kind.Program w ps = refl
vars_on _ w ps = refl

hands_on : (b : Bool) (t : Tree) → in_parts (telling_of (kind_of t)) ≡ true → HandsOn b t
unfolding var_names
hands_on b (node k w g s e ps) h = (
  (λ z a. λ i.
      parts_errors (((λ i. cond (sym h i) (around_first z k g ps) (passed_on z)) ∙ on_first k z g ps ∙ same_round z) i) (((λ i. cond (sym h i) (around_others z k g ps) (passed_on z)) ∙ on_others k z g ps ∙ same_round z) i) ps),
  (λ i. cond (sym h i) (cond (is_function k || is_static_block k) [] (own_vars k w ps ++ parts_vars ps)) (parts_vars ps)) ∙ vars_on k w ps,
)

pub opened : (b : Bool) (t : Tree) → ((z : Around) → z.no_arguments ≡ b → own_errors z t ≡ []) → HandsOn b t → IsOpen b t
unfolding errors_within
opened b (node k w g s e ps) own h = (
  (λ z a still. ap (λ y. own_errors y (node k w g s e ps) ++ parts_errors (around_first y k g ps) (around_others y k g ps) ps) still ∙ (λ i. own z a i ++ h.0 z a i)),
  h.1,
)

opens : (b : Bool) (t : Tree) (x : SkipTest) → telling_of (kind_of t) ≡ x → in_parts x ≡ true → ((z : Around) → own_errors z t ≡ []) → IsOpen b t
opens b t x e h own = opened b t (λ z a. own z) (hands_on b t (ap in_parts e ∙ h))

-- ---- a node's own errors

abbrev is_kind : SkipTest → Bool
is_kind telling.Kind = true
is_kind _ = false

none_here : (k : Kind) (w : List ℕ) (g : Flags) (s e : ℕ) (ps : Parts) (z : Around) → cond (is_kind (telling_of k)) (own_errors z (node k w g s e ps)) [] ≡ []
unfolding own_errors duplicate_lexical_name lexical_name_is_var const_without_initializer catch_parameter_conflict for_name_is_var duplicate_parameter parameter_is_lexical_name use_strict_after_pattern eval_or_arguments delete_of_identifier misplaced_jump undefined_label duplicate_label super_property_outside_method super_call_outside_constructor new_target_outside_function duplicate_constructor special_constructor static_prototype uncooked_template reg_exp_flags yield_outside_generator await_outside_async field_named_constructor private_constructor duplicate_private_name undeclared_private_name arguments_in_init delete_of_private import_meta_outside_module duplicate_export export_of_no_name undeclared_export lone_surrogate for_async_of duplicate_proto reg_exp_pattern
none_here kind.Program w g s e ps z = refl
none_here _ w g s e ps z = refl

none_own : (t : Tree) → is_kind (telling_of (kind_of t)) ≡ true → (z : Around) → own_errors z t ≡ []
none_own (node k w g s e ps) h z = (λ i. cond (sym h i) (own_errors z (node k w g s e ps)) []) ∙ none_here k w g s e ps z

-- of a kind that can have none
pub open_kind : (b : Bool) (t : Tree) → telling_of (kind_of t) ≡ telling.Kind → IsOpen b t
open_kind b t h = opens b t telling.Kind h refl (none_own t (ap is_kind h))

abbrev is_member : SkipTest → Bool
is_member telling.Member = true
is_member _ = false

abbrev is_callee : SkipTest → Bool
is_callee telling.Callee = true
is_callee _ = false

abbrev is_target : SkipTest → Bool
is_target telling.Target = true
is_target _ = false

abbrev is_operator : SkipTest → Bool
is_operator telling.Operator = true
is_operator _ = false

abbrev is_form : SkipTest → Bool
is_form telling.Form = true
is_form _ = false

abbrev is_items : SkipTest → Bool
is_items telling.Items = true
is_items _ = false

abbrev is_object : SkipTest → Bool
is_object telling.Object = true
is_object _ = false

no_super : (ps : Parts) → is_super_at (part_at ps 0) ≡ false → super_places ps ≡ []
no_super none h = refl
no_super (gap ps) h = refl
no_super (part t ps) h = ap (λ b. when b (start_of t ∷ [])) h

pub never : (e : EarlyError) (b : Bool) (ps : List ℕ) → ps ≡ [] → each e (when b ps) ≡ []
never e true ps h = ap (each e) h
never e false ps h = refl

own_call : (t : Tree) → is_callee (telling_of (kind_of t)) ≡ true → own_of (kind_of t) ≡ own.SuperCall
own_call (node kind.CallExpression w g s e ps) h = refl
own_call (node _ w g s e ps) h = absurd (false≢true h)

own_target : (t : Tree) → is_target (telling_of (kind_of t)) ≡ true → own_of (kind_of t) ≡ own.FirstNames
own_target (node kind.AssignmentExpression w g s e ps) h = refl
own_target (node kind.UpdateExpression w g s e ps) h = refl
own_target (node _ w g s e ps) h = absurd (false≢true h)

own_unary : (t : Tree) → is_operator (telling_of (kind_of t)) ≡ true → own_of (kind_of t) ≡ own.Delete
own_unary (node kind.UnaryExpression w g s e ps) h = refl
own_unary (node _ w g s e ps) h = absurd (false≢true h)

own_object : (t : Tree) → is_object (telling_of (kind_of t)) ≡ true → own_of (kind_of t) ≡ own.Object
own_object (node kind.ObjectExpression w g s e ps) h = refl
own_object (node _ w g s e ps) h = absurd (false≢true h)

-- without a `__proto__: v`
pub open_object : (b : Bool) (t : Tree) → telling_of (kind_of t) ≡ telling.Object → each_part proto_places (parts_of t) ≡ [] → IsOpen b t
open_object b t h n =
    opens b t telling.Object h refl (λ z. small_given own.Object z t (own_object t (ap is_object h)) ∙ never error.DuplicateProto z.of_2022 (after_first (each_part proto_places (parts_of t))) (ap after_first n))

-- with a head that isn't `super`, where `arguments` may stand
pub open_member : (t : Tree) → telling_of (kind_of t) ≡ telling.Member → is_super_at (part_at (parts_of t) 0) ≡ false → IsOpen false t
unfolding var_names
open_member (node kind.MemberExpression w g s e ps) h n =
    let t = node kind.MemberExpression w g s e ps in
    opened false t (λ z a. small_given own.SuperProperty z t refl ∙ never error.SuperPropertyOutsideMethod (not z.super_property) (super_places ps) (no_super ps n)) ((λ z a. other_words z g.computed ps a), refl)
open_member (node _ w g s e ps) h n = absurd (false≢true (ap is_member h))

pub open_call : (b : Bool) (t : Tree) → telling_of (kind_of t) ≡ telling.Callee → is_super_at (part_at (parts_of t) 0) ≡ false → IsOpen b t
open_call b t h n =
    opens b t telling.Callee h refl (λ z. small_given own.SuperCall z t (own_call t (ap is_callee h)) ∙ never error.SuperCallOutsideConstructor (not z.super_call) (super_places (parts_of t)) (no_super (parts_of t) n))

-- with an operator that isn't `delete`, or an operand that is neither a name nor a private member
pub open_unary : (b : Bool) (t : Tree) → telling_of (kind_of t) ≡ telling.Operator → (is (text_of t) "delete" && is_identifier (lead (parts_of t))) ≡ false → (is (text_of t) "delete" && private_operand (parts_of t)) ≡ false → IsOpen b t
open_unary b t h n m =
    opens b t telling.Operator h refl
    (λ z. small_given own.Delete z t (own_unary t (ap is_operator h)) ∙ (λ i. each error.DeleteOfIdentifier (when (n i) (start_of t ∷ [])) ++ each error.DeleteOfPrivate (when (m i) (start_of t ∷ []))))

target_own : (t : Tree) (z : Around) → is_target (telling_of (kind_of t)) ≡ true → own_errors z t ≡ each error.EvalOrArguments (eval_or_arguments t)
target_own (node kind.AssignmentExpression w g s e ps) z h = sym (named_plain z (node kind.AssignmentExpression w g s e ps) refl).0
target_own (node kind.UpdateExpression w g s e ps) z h = sym (named_plain z (node kind.UpdateExpression w g s e ps) refl).0
target_own (node _ w g s e ps) z h = absurd (false≢true h)

-- with a target that names neither `eval` nor `arguments`
pub open_target : (b : Bool) (t : Tree) → telling_of (kind_of t) ≡ telling.Target → filter is_restricted (names_at (part_at (parts_of t) 0)) ≡ [] → IsOpen b t
open_target b t h n =
    opens b t telling.Target h refl
    (λ z. target_own t z (ap is_target h) ∙ sym (restricted_given t (ap has_first_names (own_target t (ap is_target h)))) ∙ ap (λ l. each error.EvalOrArguments (places (filter is_restricted l))) (first_names-at (parts_of t))
    ∙ ap (λ l. each error.EvalOrArguments (places l)) n)

-- with no names but of `var`s
block_own : (t : Tree) (z : Around) → is_items (telling_of (kind_of t)) ≡ true → ((b : Bool) → each_part (lexical_names b) (parts_of t) ≡ []) → own_errors z t ≡ []
unfolding own_errors duplicate_lexical_name lexical_name_is_var const_without_initializer catch_parameter_conflict for_name_is_var duplicate_parameter parameter_is_lexical_name use_strict_after_pattern eval_or_arguments delete_of_identifier misplaced_jump undefined_label duplicate_label super_property_outside_method super_call_outside_constructor new_target_outside_function duplicate_constructor special_constructor static_prototype uncooked_template reg_exp_flags yield_outside_generator await_outside_async field_named_constructor private_constructor duplicate_private_name undeclared_private_name arguments_in_init delete_of_private import_meta_outside_module duplicate_export export_of_no_name undeclared_export lone_surrogate for_async_of duplicate_proto reg_exp_pattern
block_own (node kind.BlockStatement w g s e ps) z h n =
    λ i. each error.DuplicateLexicalName (places (twice (n (not z.is_body) i) ++ [])) ++ (each error.LexicalNameIsVar (places (shared (n (not z.is_body) i) (cond z.is_body (each_part function_names ps) [] ++ parts_vars ps))) ++ [])
block_own (node _ w g s e ps) z h n = absurd (false≢true h)

pub open_block : (b : Bool) (t : Tree) → telling_of (kind_of t) ≡ telling.Items → ((b : Bool) → each_part (lexical_names b) (parts_of t) ≡ []) → IsOpen b t
open_block b t h n = opens b t telling.Items h refl (λ z. block_own t z (ap is_items h) n)

-- that is no method, where `arguments` may stand
pub open_property : (t : Tree) → telling_of (kind_of t) ≡ telling.Form → is_method (flags_of t).form ≡ false → IsOpen false t
unfolding var_names own_errors duplicate_lexical_name lexical_name_is_var const_without_initializer catch_parameter_conflict for_name_is_var duplicate_parameter parameter_is_lexical_name use_strict_after_pattern eval_or_arguments delete_of_identifier misplaced_jump undefined_label duplicate_label super_property_outside_method super_call_outside_constructor new_target_outside_function duplicate_constructor special_constructor static_prototype uncooked_template reg_exp_flags yield_outside_generator await_outside_async field_named_constructor private_constructor duplicate_private_name undeclared_private_name arguments_in_init delete_of_private import_meta_outside_module duplicate_export export_of_no_name undeclared_export lone_surrogate for_async_of duplicate_proto reg_exp_pattern
open_property (node kind.Property w g s e ps) h n =
    opened false (node kind.Property w g s e ps) (λ z a. refl)
    ((λ z a. ap (λ b. parts_errors (cond g.computed (within z) (as_word z)) (cond b (in_method z false) (within z)) ps) n ∙ first_word z g.computed ps a), refl)
open_property (node _ w g s e ps) h n = absurd (false≢true (ap is_form h))

-- of two parts that say nothing
silent_two : (c : Bool) (z : Around) (ps : Parts) → z.no_arguments ≡ c → part_count ps ≤ 2 → IsSilent c (part_at ps 0) → IsSilent c (part_at ps 1) → parts_errors z z ps ≡ []
unfolding parts_errors
silent_two c z none k l a b = refl
silent_two c z (part t none) k l a b = λ i. a.0 z k i ++ []
silent_two c z (gap none) k l a b = refl
silent_two c z (part t (part u none)) k l a b = λ i. a.0 z k i ++ (b.0 z k i ++ [])
silent_two c z (part t (gap none)) k l a b = λ i. a.0 z k i ++ []
silent_two c z (gap (part u none)) k l a b = λ i. b.0 z k i ++ []
silent_two c z (gap (gap none)) k l a b = refl
silent_two c z (part t (part u (part v ps))) k l a b = absurd (omega (arith, l))
silent_two c z (part t (part u (gap ps))) k l a b = absurd (omega (arith, l))
silent_two c z (part t (gap (part v ps))) k l a b = absurd (omega (arith, l))
silent_two c z (part t (gap (gap ps))) k l a b = absurd (omega (arith, l))
silent_two c z (gap (part u (part v ps))) k l a b = absurd (omega (arith, l))
silent_two c z (gap (part u (gap ps))) k l a b = absurd (omega (arith, l))
silent_two c z (gap (gap (part v ps))) k l a b = absurd (omega (arith, l))
silent_two c z (gap (gap (gap ps))) k l a b = absurd (omega (arith, l))

silent_vars : (c : Bool) (ps : Parts) → part_count ps ≤ 2 → IsSilent c (part_at ps 0) → IsSilent c (part_at ps 1) → parts_vars ps ≡ []
unfolding parts_vars
silent_vars c none l a b = refl
silent_vars c (part t none) l a b = λ i. a.1 i ++ []
silent_vars c (gap none) l a b = refl
silent_vars c (part t (part u none)) l a b = λ i. a.1 i ++ (b.1 i ++ [])
silent_vars c (part t (gap none)) l a b = λ i. a.1 i ++ []
silent_vars c (gap (part u none)) l a b = λ i. b.1 i ++ []
silent_vars c (gap (gap none)) l a b = refl
silent_vars c (part t (part u (part v ps))) l a b = absurd (omega (arith, l))
silent_vars c (part t (part u (gap ps))) l a b = absurd (omega (arith, l))
silent_vars c (part t (gap (part v ps))) l a b = absurd (omega (arith, l))
silent_vars c (part t (gap (gap ps))) l a b = absurd (omega (arith, l))
silent_vars c (gap (part u (part v ps))) l a b = absurd (omega (arith, l))
silent_vars c (gap (part u (gap ps))) l a b = absurd (omega (arith, l))
silent_vars c (gap (gap (part v ps))) l a b = absurd (omega (arith, l))
silent_vars c (gap (gap (gap ps))) l a b = absurd (omega (arith, l))

pub quiet_open : (c : Bool) (t : Tree) → IsOpen c t → part_count (parts_of t) ≤ 2 → IsSilent c (part_at (parts_of t) 0) → IsSilent c (part_at (parts_of t) 1) → IsQuiet c t
quiet_open c t h l a b = (
  (λ z k. let k' = settled_arguments z (kind_of t) ∙ k in settled_errors z t ∙ h.0 (settled z (kind_of t)) k' (settled_twice z (kind_of t)) ∙ silent_two c (within (settled z (kind_of t))) (parts_of t) k' l a b),
  h.1 ∙ silent_vars c (parts_of t) l a b,
)

-- ---- what a test says

pub on_false : {P : Type 0} (b : Bool) → b ≡ false → OnFalse b P → P
on_false false e h = h
on_false true e h = absurd (false≢true (sym e))

pub none_where : {P Q : Type 0} (b : Bool) → (P → Q) → OnFalse b P → OnFalse b Q
none_where true f h = tt
none_where false f h = f h

pub false_gives : {P : Type 0} (b : Bool) → (b ≡ false → P) → OnFalse b P
false_gives true h = tt
false_gives false h = h refl

pub neither : (a b : Bool) → (a || b) ≡ false → (a ≡ false) × (b ≡ false)
neither false b h = (refl, h)
neither true b h = absurd (false≢true (sym h))

-- a name alone, given
pub name_free : (t : Tree) (w : List ℕ) (b : Bool) → w ≡ text_of t → b ≡ among w ("eval" ∷ "arguments" ∷ []) → names_in t ≡ (text_of t, start_of t) ∷ [] → OnFalse b (filter is_restricted (names_in t) ≡ [])
name_free t w true h e n = tt
name_free t w false h e n = ap (filter is_restricted) n ∙ ap (λ c. cond c ((text_of t, start_of t) ∷ []) []) (sym (e ∙ ap (λ v. among v ("eval" ∷ "arguments" ∷ [])) h))
