-- A scope's own errors: those of its names alone, and those of `var`s inside.
use Rattle.std.proofs.Common.{◌≡◌, ℕ, ◌+◌, ◌-◌, ◌<◌, ◌≤◌, Bool, true, false, not, cond, List, [], ◌∷◌, ◌++◌, Option, Some, None, filter, ◌⊎◌, inl, inr, is_some, refl, sym, ap, ◌∙◌, arith, append-nil}
use Rattle.std.proofs.Math.Dec.{leb}
use Rattle.std.proofs.lemmas.Bool.{false≢true}
use Rattle.std.proofs.lemmas.Bool.Decides.{leb_tells}
use Rattle.tree.specs.declared.kind.Kind.TheVariants.{Program, StaticBlock, BlockStatement, SwitchStatement, CatchClause, ForStatement, ForInStatement, ForOfStatement}
use Rattle.tree.specs.Tree.{Tree, node, Parts, none, part, gap, kind_of, parts_of, part_at, part_count, parts_drop}
use Rattle.language.specs.FirstPart.{others}
use Rattle.early_errors.specs.declared.EarlyError.{EarlyError}
use Rattle.early_errors.specs.declared.EarlyError.TheVariants as error
use Rattle.early_errors.specs.declared.scopes.ScopeKind.{ScopeKind}
use Rattle.early_errors.specs.declared.scopes.ScopeKind.TheVariants as scope
use Rattle.early_errors.specs.Around.{Around}
use Rattle.name_tables.specs.PatternParts.{at_part}
use Rattle.name_tables.specs.BoundNames.{each_part}
use Rattle.early_errors.specs.Names.{Named, places, twice, shared, first_names, var_names, parts_vars, lexical_names, function_names, body_items}
use Rattle.early_errors.specs.Scopes.{head_lexical, duplicate_lexical_name, lexical_name_is_var, const_without_initializer, catch_parameter_conflict, for_name_is_var}
use Rattle.early_errors.specs.Functions.{duplicate_parameter, parameter_is_lexical_name, use_strict_after_pattern}
use Rattle.early_errors.specs.Strict.{is_restricted, eval_or_arguments, delete_of_identifier}
use Rattle.early_errors.specs.Labels.{misplaced_jump, undefined_label, duplicate_label}
use Rattle.early_errors.specs.Classes.{super_property_outside_method, super_call_outside_constructor, new_target_outside_function, duplicate_constructor, special_constructor, static_prototype}
use Rattle.early_errors.specs.Objects.{duplicate_proto}
use Rattle.early_errors.specs.Literals.{uncooked_template, reg_exp_flags, reg_exp_pattern}
use Rattle.early_errors.specs.Yields.{yield_outside_generator, await_outside_async, for_async_of}
use Rattle.early_errors.specs.Fields.{field_named_constructor, arguments_in_init}
use Rattle.early_errors.specs.PrivateNames.{private_constructor, duplicate_private_name, undeclared_private_name, delete_of_private}
use Rattle.early_errors.specs.Modules.{import_meta_outside_module, duplicate_export, export_of_no_name, undeclared_export, lone_surrogate}
use Rattle.early_errors.specs.Early.{Error, each, own_errors, least}
use Rattle.early_errors.specs.Owns.{makes_scope, scope_kind, scope_error, names_of_scope, place_of_scope, body_place, block_at, is_block, items_at, found_of_scope, plain_errors, doubled, clash_with, case_names}
use Rattle.early_errors.specs.Walk.{sooner}
use Rattle.early_errors.specs.Walks.{vars_at, range_vars}
use Rattle.early_errors.proofs.FirstNames.{first_names-at}
use Rattle.early_errors.proofs.Least.{sooner-swaps, sooner-twice, least-append}
use Rattle.early_errors.proofs.FunctionLists.{others-drop, body-whole}
use Rattle.early_errors.proofs.PartRanges.{past, ranged-step, ranged-past, vars_drop}
use Rattle.early_errors.proofs.VarConflictSymmetry.{shared-both}

each-places : (e : EarlyError) (xs ys : List Named) → each e (places (xs ++ ys)) ≡ each e (places xs) ++ each e (places ys)
each-places e [] ys = refl
each-places e (x ∷ xs) ys = ap (λ l. each e (x.1 ∷ []) ++ l) (each-places e xs ys)

-- names alone, with functions of the scope, with `var`s inside
top : (ns fs vs : List Named) →
    least (each error.DuplicateLexicalName (places (twice ns ++ [])) ++ (each error.LexicalNameIsVar (places (shared ns (fs ++ vs))) ++ []))
    ≡ sooner (least (doubled error.DuplicateLexicalName ns ++ clash_with error.LexicalNameIsVar ns fs)) (least (clash_with error.LexicalNameIsVar ns vs))
top ns fs vs =
    least-append (each error.DuplicateLexicalName (places (twice ns ++ []))) (each error.LexicalNameIsVar (places (shared ns (fs ++ vs))) ++ [])
    ∙ (λ i. sooner (least (each error.DuplicateLexicalName (places (append-nil (twice ns) i)))) (least (append-nil (each error.LexicalNameIsVar (places (shared ns (fs ++ vs)))) i)))
    ∙ ap (sooner (least (doubled error.DuplicateLexicalName ns))) (shared-both error.LexicalNameIsVar ns fs vs)
    ∙ sym (sooner-twice (least (doubled error.DuplicateLexicalName ns)) (least (clash_with error.LexicalNameIsVar ns fs)) (least (clash_with error.LexicalNameIsVar ns vs)))
    ∙ ap (λ x. sooner x (least (clash_with error.LexicalNameIsVar ns vs))) (sym (least-append (doubled error.DuplicateLexicalName ns) (clash_with error.LexicalNameIsVar ns fs)))

inner : (ns vs : List Named) →
    least (each error.DuplicateLexicalName (places (twice ns ++ [])) ++ (each error.LexicalNameIsVar (places (shared ns vs)) ++ []))
    ≡ sooner (least (doubled error.DuplicateLexicalName ns)) (least (clash_with error.LexicalNameIsVar ns vs))
inner ns vs =
    least-append (each error.DuplicateLexicalName (places (twice ns ++ []))) (each error.LexicalNameIsVar (places (shared ns vs)) ++ [])
    ∙ (λ i. sooner (least (each error.DuplicateLexicalName (places (append-nil (twice ns) i)))) (least (append-nil (each error.LexicalNameIsVar (places (shared ns vs))) i)))

-- what is found besides
more : (xs ys es : List Error) → least (xs ++ (ys ++ es)) ≡ sooner (least es) (least (xs ++ (ys ++ [])))
more xs ys es =
    least-append xs (ys ++ es) ∙ ap (sooner (least xs)) (least-append ys es) ∙ sym (sooner-twice (least xs) (least ys) (least es)) ∙ sooner-swaps (sooner (least xs) (least ys)) (least es)
    ∙ ap (sooner (least es)) (sym (least-append xs (ys ++ []) ∙ ap (λ l. sooner (least xs) (least l)) (append-nil ys)))

-- a scope whose functions are its own lexical names, or `var` names
abbrev Named_scope : ScopeKind → (inner : Bool) → Parts → Type 0
Named_scope k b ps = let ns = each_part (lexical_names b) ps in let ms = names_of_scope k ps in
    least (each error.DuplicateLexicalName (places (twice ns ++ [])) ++ (each error.LexicalNameIsVar (places (shared ns (cond b [] (each_part function_names ps) ++ parts_vars ps))) ++ []))
    ≡ sooner (least (found_of_scope k ps ms)) (least (clash_with (scope_error k) ms (range_vars ps (place_of_scope k ps) (part_count ps - place_of_scope k ps))))

outer_scope : (ps : Parts) → Named_scope scope.TopLevel false ps
outer_scope ps =
    let ns = each_part (lexical_names false) ps in
    top ns (each_part function_names ps) (parts_vars ps) ∙ ap (λ vs. sooner (least (found_of_scope scope.TopLevel ps ns)) (least (clash_with error.LexicalNameIsVar ns vs))) (sym (vars_drop ps 0))

inner_scope : (ps : Parts) → Named_scope scope.Block true ps
inner_scope ps =
    let ns = each_part (lexical_names true) ps in
    inner ns (parts_vars ps) ∙ ap (λ vs. sooner (least (found_of_scope scope.Block ps ns)) (least (clash_with error.LexicalNameIsVar ns vs))) (sym (vars_drop ps 0))

program : (m : Bool) (ps : Parts) → Named_scope (cond (not m) scope.TopLevel scope.Block) m ps
program true ps = inner_scope ps
program false ps = outer_scope ps

block : (b : Bool) (ps : Parts) → let k = cond b scope.TopLevel scope.Block in let ns = each_part (lexical_names (not b)) ps in let ms = names_of_scope k ps in
    least (each error.DuplicateLexicalName (places (twice ns ++ [])) ++ (each error.LexicalNameIsVar (places (shared ns (cond b (each_part function_names ps) [] ++ parts_vars ps))) ++ []))
    ≡ sooner (least (found_of_scope k ps ms)) (least (clash_with (scope_error k) ms (range_vars ps (place_of_scope k ps) (part_count ps - place_of_scope k ps))))
block true ps = outer_scope ps
block false ps = inner_scope ps

catch : (es : List Error) (ns bs vs : List Named) →
    least (es ++ (each error.CatchParameterConflict (places (twice ns ++ shared ns (bs ++ vs))) ++ []))
    ≡ sooner (least es) (sooner (least (doubled error.CatchParameterConflict ns ++ clash_with error.CatchParameterConflict ns bs)) (least (clash_with error.CatchParameterConflict ns vs)))
catch es ns bs vs =
    let c = error.CatchParameterConflict in
    least-append es (each c (places (twice ns ++ shared ns (bs ++ vs))) ++ [])
    ∙ ap (λ x. sooner (least es) (least x)) (append-nil (each c (places (twice ns ++ shared ns (bs ++ vs)))) ∙ each-places c (twice ns) (shared ns (bs ++ vs)))
    ∙ ap (sooner (least es)) (least-append (doubled c ns) (clash_with c ns (bs ++ vs)) ∙ ap (sooner (least (doubled c ns))) (shared-both c ns bs vs)
    ∙ sym (sooner-twice (least (doubled c ns)) (least (clash_with c ns bs)) (least (clash_with c ns vs))) ∙ ap (λ x. sooner x (least (clash_with c ns vs))) (sym (least-append (doubled c ns) (clash_with c ns bs))))

head : (es : List Error) (ns vs : List Named) → least (es ++ (each error.ForNameIsVar (places (shared ns vs)) ++ [])) ≡ sooner (least es) (least (clash_with error.ForNameIsVar ns vs))
head es ns vs = least-append es (each error.ForNameIsVar (places (shared ns vs)) ++ []) ∙ ap (λ x. sooner (least es) (least x)) (append-nil (each error.ForNameIsVar (places (shared ns vs))))

-- between a node's other errors
between : (es xs ys zs : List Error) → least (es ++ (xs ++ (ys ++ (zs ++ [])))) ≡ sooner (least (es ++ (ys ++ zs))) (least xs)
between es xs ys zs =
    let y = ys ++ zs in
    ap (λ l. least (es ++ (xs ++ (ys ++ l)))) (append-nil zs) ∙ least-append es (xs ++ y) ∙ ap (sooner (least es)) (least-append xs y ∙ sooner-swaps (least xs) (least y))
    ∙ sym (sooner-twice (least es) (least y) (least xs)) ∙ ap (λ o. sooner o (least xs)) (sym (least-append es y))

-- ---- the parts with `var`s

head-at : (ps : Parts) → head_lexical ps ≡ at_part (lexical_names false) (part_at ps 0)
head-at none = refl
head-at (part t ps) = refl
head-at (gap ps) = refl

behind_two : (ps : Parts) → others (others ps) ≡ parts_drop 2 ps
behind_two none = refl
behind_two (part t ps) = others-drop ps
behind_two (gap ps) = others-drop ps

behind_three : (ps : Parts) → others (others (others ps)) ≡ parts_drop 3 ps
behind_three none = refl
behind_three (part t ps) = behind_two ps
behind_three (gap ps) = behind_two ps

block-vars : (t : Tree) → is_block (kind_of t) ≡ true → var_names t ≡ parts_vars (parts_of t)
unfolding var_names
block-vars (node BlockStatement w g s e ps) h = refl
block-vars (node _ w g s e ps) h = absurd (false≢true h)

-- from the body on, where there is one
abbrev place_at : Option Tree → Parts → ℕ
place_at p ps = cond (is_some (block_at p)) (part_count ps - 1) (part_count ps)

no_body : (ps : Parts) → parts_vars none ≡ range_vars ps (part_count ps) (part_count ps - part_count ps)
unfolding parts_vars
no_body ps = sym (ranged-past (vars_at ps) (part_count ps) (part_count ps) (omega arith))

a_body : (ps : Parts) (t : Tree) → Some t ≡ part_at ps (part_count ps - 1) → is_block (kind_of t) ≡ true → parts_vars (parts_of t) ≡ range_vars ps (part_count ps - 1) (part_count ps - (part_count ps - 1))
a_body ps t e h = whole (leb_tells (part_count ps) (part_count ps - 1))
  where
    n : ℕ
    n = part_count ps

    stands : n - 1 < n → parts_vars (parts_of t) ≡ range_vars ps (n - 1) (n - (n - 1))
    stands l =
        sym (block-vars t h) ∙ sym (append-nil (var_names t)) ∙ ap (λ p. at_part var_names p ++ []) e
        ∙ ap (λ x. vars_at ps (n - 1) ++ x) (sym (ranged-past (vars_at ps) (n - 1 + 1) n (omega arith)))
        ∙ sym (ranged-step (vars_at ps) (n - 1) n l)

    whole : ((leb n (n - 1) ≡ true) × (n ≤ n - 1)) ⊎ ((leb n (n - 1) ≡ false) × (n - 1 < n)) → parts_vars (parts_of t) ≡ range_vars ps (n - 1) (n - (n - 1))
    whole (inl l) = let p = past ps (n - 1) l.1 in absurd (cc)
    whole (inr l) = stands l.1

at_body : (ps : Parts) (p : Option Tree) → p ≡ part_at ps (part_count ps - 1) → parts_vars (items_at (block_at p)) ≡ range_vars ps (place_at p ps) (part_count ps - place_at p ps)
at_body ps None e = no_body ps
at_body ps (Some t) e = pick (is_block (kind_of t)) refl
  where
    pick : (b : Bool) → is_block (kind_of t) ≡ b →
        parts_vars (items_at (cond b (Some t) None)) ≡ range_vars ps (cond (is_some (cond b (Some t) None)) (part_count ps - 1) (part_count ps)) (part_count ps - cond (is_some (cond b (Some t) None)) (part_count ps - 1) (part_count ps))
    pick true h = a_body ps t e h
    pick false h = no_body ps

body-vars : (ps : Parts) → parts_vars (body_items ps) ≡ range_vars ps (body_place ps) (part_count ps - body_place ps)
body-vars ps = ap parts_vars (sym (body-whole ps (block_at (part_at ps (part_count ps - 1))) refl)) ∙ at_body ps (part_at ps (part_count ps - 1)) refl

-- ---- kind by kind

module _ (z : Around) where
  abbrev Split : Tree → Type 0
  Split t = let k = scope_kind (kind_of t) z.in_module z.is_body in let ps = parts_of t in let ns = names_of_scope k ps in
      least (own_errors z t) ≡ sooner (least (plain_errors z t)) (sooner (least (found_of_scope k ps ns)) (least (clash_with (scope_error k) ns (range_vars ps (place_of_scope k ps) (part_count ps - place_of_scope k ps)))))

  pub scope-split : (t : Tree) → makes_scope (kind_of t) ≡ true → Split t
  unfolding own_errors duplicate_lexical_name lexical_name_is_var const_without_initializer catch_parameter_conflict for_name_is_var duplicate_parameter parameter_is_lexical_name use_strict_after_pattern eval_or_arguments delete_of_identifier misplaced_jump undefined_label duplicate_label super_property_outside_method super_call_outside_constructor new_target_outside_function duplicate_constructor special_constructor static_prototype uncooked_template reg_exp_flags yield_outside_generator await_outside_async field_named_constructor private_constructor duplicate_private_name undeclared_private_name arguments_in_init delete_of_private import_meta_outside_module duplicate_export export_of_no_name undeclared_export lone_surrogate for_async_of duplicate_proto reg_exp_pattern
  scope-split (node Program w g s e ps) h =
      let t = node Program w g s e ps in
      let ns = each_part (lexical_names z.in_module) ps in
      let exports = each error.DuplicateExport (duplicate_export t) ++ (each error.UndeclaredExport (undeclared_export t) ++ []) in
      more (each error.DuplicateLexicalName (places (twice ns ++ []))) (each error.LexicalNameIsVar (places (shared ns (cond z.in_module [] (each_part function_names ps) ++ parts_vars ps)))) exports
      ∙ ap (sooner (least exports)) (program z.in_module ps)
  scope-split (node StaticBlock w g s e ps) h = outer_scope ps
  scope-split (node BlockStatement w g s e ps) h = block z.is_body ps
  scope-split (node SwitchStatement w g s e ps) h =
      inner (each_part case_names (others ps)) (parts_vars (others ps))
      ∙ (λ i. sooner (least (doubled error.DuplicateLexicalName (each_part case_names (others-drop ps i)))) (least (clash_with error.LexicalNameIsVar (each_part case_names (others-drop ps i)) ((ap parts_vars (others-drop ps) ∙ sym (vars_drop ps 1)) i))))
  scope-split (node CatchClause w g s e ps) h =
      let es = each error.EvalOrArguments (places (filter is_restricted (first_names ps))) in
      let bs = each_part (lexical_names true) (body_items ps) in
      let c = error.CatchParameterConflict in
      catch es (first_names ps) bs (parts_vars (body_items ps))
      ∙ (λ i. let ns = first_names-at ps i in sooner (least (sym (append-nil es) i)) (sooner (least (doubled c ns ++ clash_with c ns bs)) (least (clash_with c ns (body-vars ps i)))))
  scope-split (node ForStatement w g s e ps) h =
      head [] (head_lexical ps) (parts_vars (others (others (others ps))))
      ∙ (λ i. least (clash_with error.ForNameIsVar (head-at ps i) ((ap parts_vars (behind_three ps) ∙ sym (vars_drop ps 3)) i)))
  scope-split (node ForInStatement w g s e ps) h =
      let es = each error.EvalOrArguments (places (filter is_restricted (first_names ps))) in
      head es (head_lexical ps) (parts_vars (others (others ps)))
      ∙ (λ i. sooner (least (sym (append-nil es) i)) (least (clash_with error.ForNameIsVar (head-at ps i) ((ap parts_vars (behind_two ps) ∙ sym (vars_drop ps 2)) i))))
  scope-split (node ForOfStatement w g s e ps) h =
      let t = node ForOfStatement w g s e ps in
      let es = each error.EvalOrArguments (places (filter is_restricted (first_names ps))) in
      let await_so = each error.AwaitOutsideAsync (await_outside_async z t) ++ each error.ForAsyncOf (for_async_of z t) in
      between es (each error.ForNameIsVar (places (shared (head_lexical ps) (parts_vars (others (others ps)))))) (each error.AwaitOutsideAsync (await_outside_async z t)) (each error.ForAsyncOf (for_async_of z t))
      ∙ (λ i. sooner (least (es ++ await_so)) (least (clash_with error.ForNameIsVar (head-at ps i) ((ap parts_vars (behind_two ps) ∙ sym (vars_drop ps 2)) i))))
  scope-split (node _ w g s e ps) h = absurd (false≢true h)

  -- by what a walk has of the scope
  pub split_given : (t : Tree) (k : ScopeKind) (ns : List Named) (e : EarlyError) (m n : ℕ) → makes_scope (kind_of t) ≡ true →
      k ≡ scope_kind (kind_of t) z.in_module z.is_body → ns ≡ names_of_scope k (parts_of t) → e ≡ scope_error k → m ≡ place_of_scope k (parts_of t) → n ≡ part_count (parts_of t) →
      least (own_errors z t) ≡ sooner (least (plain_errors z t)) (sooner (least (found_of_scope k (parts_of t) ns)) (least (clash_with e ns (range_vars (parts_of t) m (n - m)))))
  split_given t k ns e m n h a b c d g =
      let names = b ∙ ap (λ j. names_of_scope j (parts_of t)) a in
      let code = c ∙ ap scope_error a in
      let place = d ∙ ap (λ j. place_of_scope j (parts_of t)) a in
      scope-split t h
      ∙ sym (λ i. sooner (least (plain_errors z t)) (sooner (least (found_of_scope (a i) (parts_of t) (names i))) (least (clash_with (code i) (names i) (range_vars (parts_of t) (place i) (g i - place i))))))
