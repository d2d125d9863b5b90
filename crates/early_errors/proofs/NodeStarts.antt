-- What holds of the starts of all nodes holds of the places of the names that a tree binds.
use Rattle.std.proofs.Common.{ℕ, Bool, true, false, cond, List, [], ◌∷◌, ◌++◌}
use Rattle.std.specs.Prelude.{filter}
use Rattle.tree.specs.declared.kind.Kind.{Kind}
use Rattle.tree.specs.declared.kind.Kind.TheVariants.{Identifier, Property, FunctionExpression, ArrowFunctionExpression, ArrayPattern, ObjectPattern, AssignmentPattern, RestElement, BlockStatement, VariableDeclaration, FunctionDeclaration, ClassDeclaration, ImportDeclaration, ExportNamedDeclaration, ExportDefaultDeclaration}
use Rattle.tree.specs.Tree.{Tree, node, Parts, none, part, gap, parts_of}
use Rattle.language.specs.FirstPart.{others}
use Rattle.language.specs.Vocabulary.{is}
use Rattle.language.specs.Derivation.{Among, first, later}
use Rattle.name_tables.specs.BoundNames.{each_part, bound_names, all_bound_names, first_bound_names, last_bound_names}
use Rattle.name_tables.specs.DeclaredNames.{declaration_of, own_lexical_names}
use Rattle.early_errors.specs.Names.{import_name, Named, places, when, has_name, repeated, twice, shared, name_at, names_in, first_names, declared_names, lexical_names, parameter_names, parameters_on, items_of, body_items}
use Rattle.early_errors.specs.Starts.{starts, parts_starts}

among_front : {A : Type 0} {x : A} (xs ys : List A) → Among x xs → Among x (xs ++ ys)
among_front [] ys a = elim a [ ]
among_front (y ∷ xs) ys first = first
among_front (y ∷ xs) ys (later a) = later (among_front xs ys a)

among_back : {A : Type 0} {x : A} (xs ys : List A) → Among x ys → Among x (xs ++ ys)
among_back [] ys a = a
among_back (y ∷ xs) ys a = later (among_back xs ys a)

-- a property of places
module _ (Q : ℕ → Type 0) where
  abbrev pub Each : List ℕ → Type 0
  Each [] = Unit {0}
  Each (x ∷ xs) = Q x × Each xs

  abbrev pub EachNamed : List Named → Type 0
  EachNamed xs = Each (places xs)

  abbrev mutual
    -- it holds of the starts of a node and of all below it
    pub Starting : Tree → Type 0
    Starting (node k w g s e ps) = Q s × AllStarting ps

    pub AllStarting : Parts → Type 0
    AllStarting none = Unit {0}
    AllStarting (part n ps) = Starting n × AllStarting ps
    AllStarting (gap ps) = AllStarting ps

  pub of_each : {x : ℕ} {xs : List ℕ} → Each xs → Among x xs → Q x
  of_each h first = h.0
  of_each h (later a) = of_each h.1 a

  pub each_append : (xs ys : List ℕ) → Each xs → Each ys → Each (xs ++ ys)
  each_append [] ys h k = k
  each_append (x ∷ xs) ys h k = (h.0, each_append xs ys h.1 k)

  mutual
    unfolding starts parts_starts

    pub starting_each : (n : Tree) → Starting n → Each (starts n)
    starting_each (node k w g s e ps) h = (h.0, all_starting_each ps h.1)

    all_starting_each : (ps : Parts) → AllStarting ps → Each (parts_starts ps)
    all_starting_each none h = tt
    all_starting_each (part n ps) h = each_append (starts n) (parts_starts ps) (starting_each n h.0) (all_starting_each ps h.1)
    all_starting_each (gap ps) h = all_starting_each ps h

  mutual
    unfolding starts parts_starts

    pub each_starting : (n : Tree) → ((x : ℕ) → Among x (starts n) → Q x) → Starting n
    each_starting (node k w g s e ps) f = (f s first, each_all_starting ps (λ x a. f x (later a)))

    each_all_starting : (ps : Parts) → ((x : ℕ) → Among x (parts_starts ps) → Q x) → AllStarting ps
    each_all_starting none f = tt
    each_all_starting (part n ps) f = (
      each_starting n (λ x a. f x (among_front (starts n) (parts_starts ps) a)),
      each_all_starting ps (λ x a. f x (among_back (starts n) (parts_starts ps) a)),
    )
    each_all_starting (gap ps) f = each_all_starting ps f

  pub each_when : (b : Bool) (xs : List ℕ) → Each xs → Each (when b xs)
  each_when true xs h = h
  each_when false xs h = tt

  pub each_each_part : (f : Tree → List ℕ) → ((n : Tree) → Starting n → Each (f n)) → (ps : Parts) → AllStarting ps → Each (each_part f ps)
  each_each_part f g none h = tt
  each_each_part f g (part n ps) h = each_append (f n) (each_part f ps) (g n h.0) (each_each_part f g ps h.1)
  each_each_part f g (gap ps) h = each_each_part f g ps h

  pub named_append : (xs ys : List Named) → EachNamed xs → EachNamed ys → EachNamed (xs ++ ys)
  named_append [] ys h k = k
  named_append (x ∷ xs) ys h k = (h.0, named_append xs ys h.1 k)

  pub named_cond : (b : Bool) (xs ys : List Named) → EachNamed xs → EachNamed ys → EachNamed (cond b xs ys)
  named_cond true xs ys h k = h
  named_cond false xs ys h k = k

  pub named_filter : (p : Named → Bool) (xs : List Named) → EachNamed xs → EachNamed (filter p xs)
  named_filter p [] h = tt
  named_filter p (x ∷ xs) h = kept (p x) (named_filter p xs h.1)
    where
      kept : (b : Bool) → EachNamed (filter p xs) → EachNamed (cond b (x ∷ filter p xs) (filter p xs))
      kept true k = (h.0, k)
      kept false k = k

  named_repeated : (before xs : List Named) → EachNamed xs → EachNamed (repeated before xs)
  named_repeated before [] h = tt
  named_repeated before (x ∷ xs) h =
      named_append (cond (has_name x.0 before) (x ∷ []) []) (repeated (x ∷ before) xs) (named_cond (has_name x.0 before) (x ∷ []) [] (h.0, tt) tt) (named_repeated (x ∷ before) xs h.1)

  pub named_twice : (xs : List Named) → EachNamed xs → EachNamed (twice xs)
  named_twice xs h = named_repeated [] xs h

  pub named_shared : (xs ys : List Named) → EachNamed xs → EachNamed (shared xs ys)
  named_shared xs ys h = named_filter (λ x. has_name x.0 ys) xs h

  pub named_each_part : (f : Tree → List Named) → ((n : Tree) → Starting n → EachNamed (f n)) → (ps : Parts) → AllStarting ps → EachNamed (each_part f ps)
  named_each_part f g none h = tt
  named_each_part f g (part n ps) h = named_append (f n) (each_part f ps) (g n h.0) (named_each_part f g ps h.1)
  named_each_part f g (gap ps) h = named_each_part f g ps h

  pub starting_others : (ps : Parts) → AllStarting ps → AllStarting (others ps)
  starting_others none h = tt
  starting_others (part n ps) h = h.1
  starting_others (gap ps) h = h

  pub starting_parts : (n : Tree) → Starting n → AllStarting (parts_of n)
  starting_parts (node k w g s e ps) h = h.1

  mutual
    unfolding bound_names all_bound_names first_bound_names last_bound_names

    pub at_names : (n : Tree) → Starting n → EachNamed (names_in n)
    at_names (node Identifier w g s e ps) h = (h.0, tt)
    at_names (node ArrayPattern w g s e ps) h = at_all ps h.1
    at_names (node ObjectPattern w g s e ps) h = at_all ps h.1
    at_names (node RestElement w g s e ps) h = at_all ps h.1
    at_names (node AssignmentPattern w g s e ps) h = at_first ps h.1
    at_names (node Property w g s e ps) h = at_last ps h.1
    at_names (node _ w g s e ps) h = tt

    at_all : (ps : Parts) → AllStarting ps → EachNamed (all_bound_names name_at ps)
    at_all none h = tt
    at_all (part n ps) h = named_append (names_in n) (all_bound_names name_at ps) (at_names n h.0) (at_all ps h.1)
    at_all (gap ps) h = at_all ps h

    pub at_first : (ps : Parts) → AllStarting ps → EachNamed (first_names ps)
    at_first none h = tt
    at_first (part n ps) h = at_names n h.0
    at_first (gap ps) h = tt

    at_last : (ps : Parts) → AllStarting ps → EachNamed (last_bound_names name_at ps)
    at_last none h = tt
    at_last (part n none) h = at_names n h.0
    at_last (part n (part m ps)) h = at_last (part m ps) h.1
    at_last (part n (gap ps)) h = at_last ps h.1
    at_last (gap ps) h = at_last ps h

  pub at_declared : (ps : Parts) → AllStarting ps → EachNamed (declared_names ps)
  at_declared ps h = named_each_part (λ n. first_names (parts_of n)) (λ n k. at_first (parts_of n) (starting_parts n k)) ps h

  pub at_import : (n : Tree) → Starting n → EachNamed (import_name n)
  at_import n h = at_last (parts_of n) (starting_parts n h)

  at_own_lexical : (b : Bool) (n : Tree) → Starting n → EachNamed (own_lexical_names b (λ text ps. name_at) name_at name_at name_at n)
  at_own_lexical b (node VariableDeclaration w g s e ps) h = named_cond (is w "var") [] (declared_names ps) tt (at_declared ps h.1)
  at_own_lexical b (node ClassDeclaration w g s e ps) h = at_first ps h.1
  at_own_lexical b (node FunctionDeclaration w g s e ps) h = named_cond b (first_names ps) [] (at_first ps h.1) tt
  at_own_lexical b (node ImportDeclaration w g s e ps) h = named_each_part import_name at_import ps h.1
  at_own_lexical b (node _ w g s e ps) h = tt

  starting_declaration : (n : Tree) → Starting n → Starting (declaration_of n)
  starting_declaration (node ExportNamedDeclaration w g s e (part n ps)) h = h.1.0
  starting_declaration (node ExportDefaultDeclaration w g s e (part n ps)) h = h.1.0
  starting_declaration (node k w g s e ps) h = h

  pub at_lexical : (b : Bool) (n : Tree) → Starting n → EachNamed (lexical_names b n)
  at_lexical b n h = at_own_lexical b (declaration_of n) (starting_declaration n h)

  pub at_parameters : (ps : Parts) → AllStarting ps → EachNamed (parameter_names ps)
  at_parameters none h = tt
  at_parameters (part n none) h = tt
  at_parameters (part n (part m ps)) h = named_append (names_in n) (parameter_names (part m ps)) (at_names n h.0) (at_parameters (part m ps) h.1)
  at_parameters (part n (gap ps)) h = named_append (names_in n) (parameter_names (gap ps)) (at_names n h.0) (at_parameters (gap ps) h.1)
  at_parameters (gap ps) h = at_parameters ps h

  pub starting_parameters : (k : Kind) (ps : Parts) → AllStarting ps → AllStarting (parameters_on k ps)
  starting_parameters ArrowFunctionExpression ps h = h
  starting_parameters FunctionExpression ps h = starting_others ps h
  starting_parameters FunctionDeclaration ps h = starting_others ps h
  starting_parameters _ ps h = tt

  starting_items : (n : Tree) → Starting n → AllStarting (items_of n)
  starting_items (node BlockStatement w g s e ps) h = h.1
  starting_items (node _ w g s e ps) h = tt

  pub starting_body : (ps : Parts) → AllStarting ps → AllStarting (body_items ps)
  starting_body none h = tt
  starting_body (part n none) h = starting_items n h.0
  starting_body (part n (part m ps)) h = starting_body (part m ps) h.1
  starting_body (part n (gap ps)) h = starting_body (gap ps) h.1
  starting_body (gap ps) h = starting_body ps h
