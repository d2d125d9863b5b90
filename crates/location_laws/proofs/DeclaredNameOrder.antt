-- The names that a tree in order declares are in the order of their places.
use Rattle.std.proofs.Common.{◌≡◌, ℕ, zero, suc, ◌≤◌, ◌<◌, Bool, true, false, cond, not, List, [], ◌++◌, refl, sym, ap, subst, arith, ◌⊎◌, inl, inr}
use Rattle.std.specs.Prelude.{Option, Some, None}
use Rattle.std.proofs.lemmas.Bool.{false≢true}
use Rattle.tree.specs.declared.kind.Kind.{Kind}
use Rattle.tree.specs.declared.kind.Kind.TheVariants.{Identifier, ArrayPattern, ObjectPattern, AssignmentPattern, RestElement, Property, Program, StaticBlock, ArrowFunctionExpression, FunctionExpression, ClassExpression, BlockStatement, CatchClause, ForStatement, ForInStatement, ForOfStatement, SwitchStatement, VariableDeclaration, FunctionDeclaration, ClassDeclaration, ImportDeclaration, ExportNamedDeclaration, ExportDefaultDeclaration}
use Rattle.tree.specs.declared.kind.Flags.{Flags}
use Rattle.tree.specs.Tree.{Tree, node, Parts, none, part, gap, start_of, stop_of, parts_of, parts_drop}
use Rattle.language.specs.Vocabulary.{is}
use Rattle.scopes.specs.declared.kind.BindingKind.{BindingKind}
use Rattle.scopes.specs.declared.kind.BindingKind.TheVariants.{Function, Class, Import, Param, Catch, FunctionName, ClassName}
use Rattle.scopes.specs.declared.identifier_use.IdentifierUse.{IdentifierUse}
use Rattle.scopes.specs.declared.identifier_use.IdentifierUse.TheVariants.{Body}
use Rattle.scopes.specs.declared.names.DeclaredIn.{DeclaredIn}
use Rattle.scopes.specs.declared.names.DeclaredIn.TheVariants.{Statement, ForHead, ForInOfHead}
use Rattle.name_tables.specs.BoundNames.{each_part, bound_names, all_bound_names, first_bound_names, last_bound_names}
use Rattle.name_tables.specs.DeclaredNames.{specifier_names, declaration_of, own_lexical_names}
use Rattle.scopes.specs.Bindings.{Binding, binding_at, names_in, word_kind, settles, is_exported, stands_in, declared, lexical, holds_statements, own_vars, vars_in, parts_vars}
use Rattle.scopes.specs.Openings.{block_names, case_names, item_names, body_names, function_names, first_scope, head_scope, scope_round_all, scope_round_others}
use Rattle.location_laws.specs.InOrder.{is_shorthand}
use Rattle.location_laws.proofs.OrderLemmas.{Ordered, PartsOrdered, KeyInValue, by_shape, span_ordered, parts_forward}
use Rattle.location_laws.proofs.Apart.{Apart, apart_within, apart_append}

own_or_none : (i : DeclaredIn) (k : Kind) (w : List ℕ) (ps : Parts) → (k ≡ VariableDeclaration) ⊎ (own_vars i k w ps ≡ [])
own_or_none i VariableDeclaration w ps = inl refl
own_or_none i _ w ps = inr refl

statements_long : (k : Kind) (g : Flags) → holds_statements k ≡ true → is_shorthand k g ≡ false
statements_long Property g h = absurd (false≢true h)
statements_long _ g h = refl

module _ (Q : List ℕ → ℕ → ℕ → Type 0) (wide : (w : List ℕ) (s e : ℕ) → Q w s e → s < e) where
  abbrev pub NamesApart : ℕ → ℕ → List Binding → Type 0
  NamesApart = Apart Q Binding (λ b. b.name) (λ b. b.start) (λ b. b.stop)

  pub names_within : (a from to b : ℕ) (xs : List Binding) → a ≤ from → to ≤ b → NamesApart from to xs → NamesApart a b xs
  names_within = apart_within Q Binding (λ b. b.name) (λ b. b.start) (λ b. b.stop)

  pub names_append : (a m b : ℕ) (xs ys : List Binding) → NamesApart a m xs → NamesApart m b ys → NamesApart a b (xs ++ ys)
  names_append = apart_append Q Binding (λ b. b.name) (λ b. b.start) (λ b. b.stop)

  -- what one part declares, and what the parts behind it do
  part_apart : (s e : ℕ) (t : Tree) (xs ys : List Binding) → s ≤ start_of t → NamesApart (start_of t) (stop_of t) xs → NamesApart (stop_of t) e ys → NamesApart s e (xs ++ ys)
  part_apart s e t xs ys l h k = names_append s (stop_of t) e xs ys (names_within s (start_of t) (stop_of t) (stop_of t) xs l (omega arith) h) k

  -- one part's alone
  alone_apart : (s e : ℕ) (t : Tree) (xs : List Binding) → s ≤ start_of t → stop_of t ≤ e → NamesApart (start_of t) (stop_of t) xs → NamesApart s e xs
  alone_apart s e t xs l k h = names_within s (start_of t) (stop_of t) e xs l k h

  first_alone : (s e : ℕ) (t : Tree) (ps : Parts) (xs : List Binding) → PartsOrdered Q s e (part t ps) → NamesApart (start_of t) (stop_of t) xs → NamesApart s e xs
  first_alone s e t ps xs h k = alone_apart s e t xs h.0 (parts_forward Q (stop_of t) e ps h.2) k

  behind_alone : (s e : ℕ) (t : Tree) (xs : List Binding) → s ≤ start_of t → Ordered Q t → NamesApart (stop_of t) e xs → NamesApart s e xs
  behind_alone s e t xs l o h = let y = span_ordered Q t o in names_within s (stop_of t) e e xs (omega (arith, l, y)) (omega arith) h

  mutual
    unfolding bound_names all_bound_names first_bound_names last_bound_names

    -- of a pattern
    pub names_apart : (i : BindingKind) (b x : Bool) (t : Tree) → Ordered Q t → NamesApart (start_of t) (stop_of t) (bound_names (binding_at i b x) t)
    names_apart i b x (node Identifier w g s e ps) h = let q = (h.0 refl).0 in (omega arith, wide w s e q, q, omega arith)
    names_apart i b x (node ArrayPattern w g s e ps) h = all_apart i b x s e ps (h.3 refl)
    names_apart i b x (node ObjectPattern w g s e ps) h = all_apart i b x s e ps (h.3 refl)
    names_apart i b x (node RestElement w g s e ps) h = all_apart i b x s e ps (h.3 refl)
    names_apart i b x (node AssignmentPattern w g s e ps) h = first_apart i b x s e ps (h.3 refl)
    names_apart i b x (node Property w g s e ps) h = by_shape (is_shorthand Property g) (λ j. value_apart i b x s e ps (h.2 j).1) (λ j. last_apart i b x s e ps (h.3 j))
    names_apart i b x (node _ w g s e ps) h = h.1

    all_apart : (i : BindingKind) (b x : Bool) (s e : ℕ) (ps : Parts) → PartsOrdered Q s e ps → NamesApart s e (all_bound_names (binding_at i b x) ps)
    all_apart i b x s e none h = h
    all_apart i b x s e (gap ps) h = all_apart i b x s e ps h
    all_apart i b x s e (part t ps) h = part_apart s e t (bound_names (binding_at i b x) t) (all_bound_names (binding_at i b x) ps) h.0 (names_apart i b x t h.1) (all_apart i b x (stop_of t) e ps h.2)

    pub first_apart : (i : BindingKind) (b x : Bool) (s e : ℕ) (ps : Parts) → PartsOrdered Q s e ps → NamesApart s e (first_bound_names (binding_at i b x) ps)
    first_apart i b x s e none h = h
    first_apart i b x s e (gap ps) h = parts_forward Q s e ps h
    first_apart i b x s e (part t ps) h = first_alone s e t ps (bound_names (binding_at i b x) t) h (names_apart i b x t h.1)

    last_apart : (i : BindingKind) (b x : Bool) (s e : ℕ) (ps : Parts) → PartsOrdered Q s e ps → NamesApart s e (last_bound_names (binding_at i b x) ps)
    last_apart i b x s e none h = h
    last_apart i b x s e (gap ps) h = last_apart i b x s e ps h
    last_apart i b x s e (part t none) h = first_alone s e t none (bound_names (binding_at i b x) t) h (names_apart i b x t h.1)
    last_apart i b x s e (part t (gap ps)) h = behind_alone s e t (last_bound_names (binding_at i b x) ps) h.0 h.1 (last_apart i b x (stop_of t) e ps h.2)
    last_apart i b x s e (part t (part u ps)) h = behind_alone s e t (last_bound_names (binding_at i b x) (part u ps)) h.0 h.1 (last_apart i b x (stop_of t) e (part u ps) h.2)

    value_apart : (i : BindingKind) (b x : Bool) (s e : ℕ) (ps : Parts) → KeyInValue Q s e ps → NamesApart s e (last_bound_names (binding_at i b x) ps)
    value_apart i b x s e none h = absurd h
    value_apart i b x s e (gap ps) h = absurd h
    value_apart i b x s e (part k none) h = absurd h
    value_apart i b x s e (part k (gap ps)) h = absurd h
    value_apart i b x s e (part k (part v (gap ps))) h = absurd h
    value_apart i b x s e (part k (part v (part t ps))) h = absurd h
    value_apart i b x s e (part k (part v none)) h = let start = h.5 in let stop = h.6 in alone_apart s e v (bound_names (binding_at i b x) v) (omega (arith, start)) (omega (arith, stop)) (names_apart i b x v h.4)

  -- of the first part of a node
  key_apart : (i : BindingKind) (b x : Bool) (s e : ℕ) (ps : Parts) → KeyInValue Q s e ps → NamesApart s e (first_bound_names (binding_at i b x) ps)
  unfolding first_bound_names
  key_apart i b x s e none h = absurd h
  key_apart i b x s e (gap ps) h = absurd h
  key_apart i b x s e (part k none) h = absurd h
  key_apart i b x s e (part k (gap ps)) h = absurd h
  key_apart i b x s e (part k (part v (gap ps))) h = absurd h
  key_apart i b x s e (part k (part v (part t ps))) h = absurd h
  key_apart i b x s e (part k (part v none)) h = let start = h.2 in alone_apart s e k (bound_names (binding_at i b x) k) (omega (arith, start)) h.3 (names_apart i b x k h.1)

  of_last : (i : BindingKind) (b x : Bool) (t : Tree) → Ordered Q t → NamesApart (start_of t) (stop_of t) (last_bound_names (binding_at i b x) (parts_of t))
  of_last i b x (node k w g s e ps) h = by_shape (is_shorthand k g) (λ j. value_apart i b x s e ps (h.2 j).1) (λ j. last_apart i b x s e ps (h.3 j))

  of_first : (i : BindingKind) (b x : Bool) (t : Tree) → Ordered Q t → NamesApart (start_of t) (stop_of t) (first_bound_names (binding_at i b x) (parts_of t))
  of_first i b x (node k w g s e ps) h = by_shape (is_shorthand k g) (λ j. key_apart i b x s e ps (h.2 j).1) (λ j. first_apart i b x s e ps (h.3 j))

  -- what each part declares
  abbrev Each : (Tree → List Binding) → Type 0
  Each f = (t : Tree) → Ordered Q t → NamesApart (start_of t) (stop_of t) (f t)

  each_apart : (f : Tree → List Binding) → Each f → (s e : ℕ) (ps : Parts) → PartsOrdered Q s e ps → NamesApart s e (each_part f ps)
  each_apart f k s e none h = h
  each_apart f k s e (gap ps) h = each_apart f k s e ps h
  each_apart f k s e (part t ps) h = part_apart s e t (f t) (each_part f ps) h.0 (k t h.1) (each_apart f k (stop_of t) e ps h.2)

  -- Declarations

  declared_apart : (i : DeclaredIn) (w : List ℕ) (s e : ℕ) (ps : Parts) → PartsOrdered Q s e ps → NamesApart s e (declared i w ps)
  declared_apart i w s e ps h =
      each_apart (λ d. first_bound_names (binding_at (word_kind w) (settles i (parts_of d)) (is_exported i)) (parts_of d)) (λ t o. of_first (word_kind w) (settles i (parts_of t)) (is_exported i) t o) s e ps h

  either_apart : (b : Bool) (s e : ℕ) (xs ys : List Binding) → NamesApart s e xs → NamesApart s e ys → NamesApart s e (cond b xs ys)
  either_apart true s e xs ys h k = h
  either_apart false s e xs ys h k = k

  -- what a node declares itself by `let`, `const`, a function, a class or an import
  abbrev own_names : DeclaredIn → Tree → List Binding
  own_names i t = own_lexical_names true (λ w ps. binding_at (word_kind w) (settles i ps) (is_exported i)) (binding_at Function false (is_exported i)) (binding_at Class false (is_exported i)) (binding_at Import false false) t

  imported_apart : (s e : ℕ) (ps : Parts) → PartsOrdered Q s e ps → NamesApart s e (each_part (specifier_names (binding_at Import false false)) ps)
  imported_apart s e ps h = each_apart (specifier_names (binding_at Import false false)) (λ t o. of_last Import false false t o) s e ps h

  own_names_apart : (i : DeclaredIn) → Each (own_names i)
  own_names_apart i (node VariableDeclaration w g s e ps) h = either_apart (is w "var") s e [] _ h.1 (declared_apart i w s e ps (h.3 refl))
  own_names_apart i (node FunctionDeclaration w g s e ps) h = first_apart Function false (is_exported i) s e ps (h.3 refl)
  own_names_apart i (node ClassDeclaration w g s e ps) h = first_apart Class false (is_exported i) s e ps (h.3 refl)
  own_names_apart i (node ImportDeclaration w g s e ps) h = imported_apart s e ps (h.3 refl)
  own_names_apart i (node _ w g s e ps) h = h.1

  -- an export declares what its declaration does
  of_declaration : (f : Tree → List Binding) → Each f → Each (λ t. f (declaration_of t))
  of_declaration f k (node ExportNamedDeclaration w g s e none) h = k (node ExportNamedDeclaration w g s e none) h
  of_declaration f k (node ExportNamedDeclaration w g s e (gap ps)) h = k (node ExportNamedDeclaration w g s e (gap ps)) h
  of_declaration f k (node ExportNamedDeclaration w g s e (part t ps)) h = first_alone s e t ps (f t) (h.3 refl) (k t (h.3 refl).1)
  of_declaration f k (node ExportDefaultDeclaration w g s e none) h = k (node ExportDefaultDeclaration w g s e none) h
  of_declaration f k (node ExportDefaultDeclaration w g s e (gap ps)) h = k (node ExportDefaultDeclaration w g s e (gap ps)) h
  of_declaration f k (node ExportDefaultDeclaration w g s e (part t ps)) h = first_alone s e t ps (f t) (h.3 refl) (k t (h.3 refl).1)
  of_declaration f k (node j w g s e ps) h = k (node j w g s e ps) h

  lexical_apart : (i : DeclaredIn) → Each (lexical i)
  lexical_apart i t h = of_declaration (own_names i) (own_names_apart i) t h

  block_apart : (s e : ℕ) (ps : Parts) → PartsOrdered Q s e ps → NamesApart s e (block_names ps)
  block_apart s e ps h = each_apart (lexical Statement) (lexical_apart Statement) s e ps h

  own_apart : (i : DeclaredIn) (k : Kind) (w : List ℕ) (g : Flags) (s e : ℕ) (ps : Parts) → (k ≡ VariableDeclaration) ⊎ (own_vars i k w ps ≡ []) → Ordered Q (node k w g s e ps) → (xs : List Binding) → (k ≡ VariableDeclaration → xs ≡ []) → NamesApart s e xs →
      NamesApart s e (own_vars i k w ps ++ xs)
  own_apart i k w g s e ps (inr o) h xs j a = subst (λ ys. NamesApart s e (ys ++ xs)) (sym o) a
  own_apart i k w g s e ps (inl o) h xs j a =
      subst (λ ys. NamesApart s e (own_vars i k w ps ++ ys)) (sym (j o))
      (names_append s e e (own_vars i k w ps) [] (subst (λ y. NamesApart s e (own_vars i y w ps)) (sym o) (either_apart (is w "var") s e _ [] (declared_apart i w s e ps (h.3 (ap (λ y. is_shorthand y g) o))) h.1)) (omega arith))

  mutual
    unfolding vars_in parts_vars

    vars_apart : (i : DeclaredIn) (t : Tree) → Ordered Q t → NamesApart (start_of t) (stop_of t) (vars_in i t)
    vars_apart i (node k w g s e ps) h =
        own_apart i k w g s e ps (own_or_none i k w ps) h (cond (holds_statements k) (parts_vars i ps) []) (λ o. ap (λ j. cond (holds_statements j) (parts_vars i ps) []) o)
        (by_shape (holds_statements k)
        (λ j. subst (λ b. NamesApart s e (cond b (parts_vars i ps) [])) (sym j) (all_vars_apart i s e ps (h.3 (statements_long k g j))))
        (λ j. subst (λ b. NamesApart s e (cond b (parts_vars i ps) [])) (sym j) h.1))

    all_vars_apart : (i : DeclaredIn) (s e : ℕ) (ps : Parts) → PartsOrdered Q s e ps → NamesApart s e (parts_vars i ps)
    all_vars_apart i s e none h = h
    all_vars_apart i s e (gap ps) h = all_vars_apart i s e ps h
    all_vars_apart i s e (part t ps) h = part_apart s e t (vars_in i t) (parts_vars i ps) h.0 (vars_apart i t h.1) (all_vars_apart i (stop_of t) e ps h.2)

  -- a node declares in one of the two ways
  both_apart : (i : DeclaredIn) → Each (λ t. own_names i t ++ vars_in i t)
  unfolding vars_in parts_vars
  both_apart i (node VariableDeclaration w g s e ps) h = of (is w "var") _ (declared_apart i w s e ps (h.3 refl))
    where
      of : (b : Bool) (xs : List Binding) → NamesApart s e xs → NamesApart s e (cond b [] xs ++ (cond b xs [] ++ []))
      of true xs k = names_append s e e xs [] k (omega arith)
      of false xs k = names_append s e e xs [] k (omega arith)
  both_apart i (node FunctionDeclaration w g s e ps) h = names_append s e e _ [] (first_apart Function false (is_exported i) s e ps (h.3 refl)) (omega arith)
  both_apart i (node ClassDeclaration w g s e ps) h = names_append s e e _ [] (first_apart Class false (is_exported i) s e ps (h.3 refl)) (omega arith)
  both_apart i (node ImportDeclaration w g s e ps) h = names_append s e e _ [] (imported_apart s e ps (h.3 refl)) (omega arith)
  both_apart i (node k w g s e ps) h = vars_apart i (node k w g s e ps) h

  item_apart : Each item_names
  item_apart t h = of_declaration (λ d. own_names (stands_in t) d ++ vars_in (stands_in t) d) (both_apart (stands_in t)) t h

  body_apart : Each body_names
  body_apart (node BlockStatement w g s e ps) h = each_apart item_names item_apart s e ps (h.3 refl)
  body_apart (node _ w g s e ps) h = h.1

  function_apart : (s e : ℕ) (ps : Parts) → PartsOrdered Q s e ps → NamesApart s e (function_names ps)
  function_apart s e none h = h
  function_apart s e (gap ps) h = function_apart s e ps h
  function_apart s e (part t none) h = first_alone s e t none (body_names t) h (body_apart t h.1)
  function_apart s e (part t (gap ps)) h = part_apart s e t (names_in Param false t) (function_names (gap ps)) h.0 (names_apart Param false false t h.1) (function_apart (stop_of t) e (gap ps) h.2)
  function_apart s e (part t (part u ps)) h = part_apart s e t (names_in Param false t) (function_names (part u ps)) h.0 (names_apart Param false false t h.1) (function_apart (stop_of t) e (part u ps) h.2)

  -- parts from a place on
  from_earlier : (a s e : ℕ) (ps : Parts) → a ≤ s → PartsOrdered Q s e ps → PartsOrdered Q a e ps
  from_earlier a s e none l h = omega (arith, l, h)
  from_earlier a s e (gap ps) l h = from_earlier a s e ps l h
  from_earlier a s e (part t ps) l h = let x = h.0 in (omega (arith, l, x), h.1, h.2)

  dropped : (i : ℕ) (s e : ℕ) (ps : Parts) → PartsOrdered Q s e ps → PartsOrdered Q s e (parts_drop i ps)
  dropped zero s e ps h = h
  dropped (suc i) s e none h = h
  dropped (suc i) s e (gap ps) h = dropped i s e ps h
  dropped (suc i) s e (part t ps) h =
      let x = h.0 in
      let y = span_ordered Q t h.1 in
      dropped i s e ps (from_earlier s (stop_of t) e ps (omega (arith, x, y)) h.2)

  short_case : (s e : ℕ) (ps : Parts) → KeyInValue Q s e ps → NamesApart s e (block_names (parts_drop 1 ps))
  short_case s e none h = absurd h
  short_case s e (gap ps) h = absurd h
  short_case s e (part k none) h = absurd h
  short_case s e (part k (gap ps)) h = absurd h
  short_case s e (part k (part v (gap ps))) h = absurd h
  short_case s e (part k (part v (part t ps))) h = absurd h
  short_case s e (part k (part v none)) h = let start = h.5 in let stop = h.6 in block_apart s e (part v none) (omega (arith, start), h.4, omega (arith, stop))

  case_apart : Each case_names
  case_apart (node k w g s e ps) h = by_shape (is_shorthand k g) (λ j. short_case s e ps (h.2 j).1) (λ j. block_apart s e (parts_drop 1 ps) (dropped 1 s e ps (h.3 j)))

  -- the names of a scope, if there is one
  abbrev pub IfNames : ℕ → ℕ → Option (List Binding) → Type 0
  IfNames s e None = Unit {0}
  IfNames s e (Some xs) = NamesApart s e xs

  first_names_apart : (i : BindingKind) (s e : ℕ) (ps : Parts) → PartsOrdered Q s e ps → IfNames s e (first_scope i ps)
  first_names_apart i s e none h = tt
  first_names_apart i s e (gap ps) h = tt
  first_names_apart i s e (part t ps) h = first_alone s e t ps (names_in i false t) h (names_apart i false false t h.1)

  -- of a `for`, where its head is a declaration and no `var`
  head_apart : (b : Bool) (s e : ℕ) (xs : List Binding) → NamesApart s e xs → IfNames s e (cond (not b) (Some (cond b [] xs)) None)
  head_apart true s e xs h = tt
  head_apart false s e xs h = h

  head_scope_apart : (i : DeclaredIn) (s e : ℕ) (ps : Parts) → PartsOrdered Q s e ps → IfNames s e (head_scope i ps)
  head_scope_apart i s e none h = tt
  head_scope_apart i s e (gap ps) h = tt
  head_scope_apart i s e (part (node VariableDeclaration x y a b qs) ps) h = head_apart (is x "var") s e _ (first_alone s e (node VariableDeclaration x y a b qs) ps _ h (declared_apart i x a b qs (h.1.3 refl)))
  head_scope_apart i s e (part (node _ x y a b qs) ps) h = tt

  pub round_all_apart : (u : IdentifierUse) (k : Kind) (w : List ℕ) (g : Flags) (s e : ℕ) (ps : Parts) → Ordered Q (node k w g s e ps) → IfNames s e (scope_round_all u k ps)
  round_all_apart u Program w g s e ps h = each_apart item_names item_apart s e ps (h.3 refl)
  round_all_apart u StaticBlock w g s e ps h = each_apart item_names item_apart s e ps (h.3 refl)
  round_all_apart u ArrowFunctionExpression w g s e ps h = function_apart s e ps (h.3 refl)
  round_all_apart u FunctionExpression w g s e ps h = first_names_apart FunctionName s e ps (h.3 refl)
  round_all_apart Body BlockStatement w g s e ps h = tt
  round_all_apart u BlockStatement w g s e ps h = block_apart s e ps (h.3 refl)
  round_all_apart u CatchClause w g s e ps h = first_names_apart Catch s e ps (h.3 refl)
  round_all_apart u ForStatement w g s e ps h = head_scope_apart ForHead s e ps (h.3 refl)
  round_all_apart u ForInStatement w g s e ps h = head_scope_apart ForInOfHead s e ps (h.3 refl)
  round_all_apart u ForOfStatement w g s e ps h = head_scope_apart ForInOfHead s e ps (h.3 refl)
  round_all_apart u _ w g s e ps h = tt

  pub round_others_apart : (k : Kind) (w : List ℕ) (g : Flags) (s e : ℕ) (ps : Parts) → Ordered Q (node k w g s e ps) → IfNames s e (scope_round_others k ps)
  round_others_apart FunctionDeclaration w g s e ps h = function_apart s e (parts_drop 1 ps) (dropped 1 s e ps (h.3 refl))
  round_others_apart FunctionExpression w g s e ps h = function_apart s e (parts_drop 1 ps) (dropped 1 s e ps (h.3 refl))
  round_others_apart ClassDeclaration w g s e ps h = first_names_apart ClassName s e ps (h.3 refl)
  round_others_apart ClassExpression w g s e ps h = first_names_apart ClassName s e ps (h.3 refl)
  round_others_apart SwitchStatement w g s e ps h = each_apart case_names case_apart s e (parts_drop 1 ps) (dropped 1 s e ps (h.3 refl))
  round_others_apart _ w g s e ps h = tt
