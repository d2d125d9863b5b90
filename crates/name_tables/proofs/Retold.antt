-- What a list of bound names says in other words.
use Rattle.std.proofs.Common.{◌≡◌, Bool, true, false, cond, List, [], ◌∷◌, ◌++◌, map, Option, Some, None, is_some, refl, sym, ap, ◌∙◌}
use Rattle.std.specs.Prelude.{codes, unwrap_or}
use Rattle.std.specs.Str.{bytes_eq}
use Rattle.std.proofs.lemmas.List.{map-append}
use Rattle.tree.specs.declared.kind.Kind.TheVariants.{Identifier, ArrayPattern, ObjectPattern, RestElement, AssignmentPattern, Property, VariableDeclaration, FunctionDeclaration, ClassDeclaration, ImportDeclaration}
use Rattle.tree.specs.Tree.{Tree, Parts, none, part, gap, node, parts_of, parts_drop}
use Rattle.name_tables.specs.declared.bound.BoundName.{BoundName}
use Rattle.name_tables.specs.PatternParts.{Bound, all_bound, at_part, bound, bound_as}
use Rattle.name_tables.specs.declared.declared.LexicalAs.{LexicalAs}
use Rattle.name_tables.specs.DeclaratorParts.{declarator_as, declarators_as, how_of, lexical_as}
use Rattle.name_tables.specs.DeclaredNames.{case_names, declaration_of, declarator_names, lexically_declared_names, own_lexical_names, parameter_names, specifier_names}
use Rattle.name_tables.specs.BoundNames.{each_part, bound_names, all_bound_names, first_bound_names, last_bound_names}

module _ {A B : Type 0} (g : A → B) (f : Tree → A) where
  mutual
    unfolding bound_names all_bound_names first_bound_names last_bound_names

    names : (t : Tree) → map g (bound_names f t) ≡ bound_names (λ u. g (f u)) t
    names (node Identifier w k s e ps) = refl
    names (node ArrayPattern w k s e ps) = all ps
    names (node ObjectPattern w k s e ps) = all ps
    names (node RestElement w k s e ps) = all ps
    names (node AssignmentPattern w k s e ps) = first ps
    names (node Property w k s e ps) = last ps
    names (node _ w k s e ps) = refl

    all : (ps : Parts) → map g (all_bound_names f ps) ≡ all_bound_names (λ u. g (f u)) ps
    all none = refl
    all (part t ps) = map-append g (bound_names f t) (all_bound_names f ps) ∙ (λ i. names t i ++ all ps i)
    all (gap ps) = all ps

    first : (ps : Parts) → map g (first_bound_names f ps) ≡ first_bound_names (λ u. g (f u)) ps
    first none = refl
    first (part t ps) = names t
    first (gap ps) = refl

    last : (ps : Parts) → map g (last_bound_names f ps) ≡ last_bound_names (λ u. g (f u)) ps
    last none = refl
    last (part t none) = names t
    last (part t (part u ps)) = last (part u ps)
    last (part t (gap ps)) = last ps
    last (gap ps) = last ps

module _ {A B : Type 0} (g : A → B) (f : Tree → A) where
  parameters : (ps : Parts) → map g (parameter_names f ps) ≡ parameter_names (λ u. g (f u)) ps
  parameters none = refl
  parameters (part t none) = refl
  parameters (part t (part u ps)) = map-append g (bound_names f t) (parameter_names f (part u ps)) ∙ (λ i. names g f t i ++ parameters (part u ps) i)
  parameters (part t (gap ps)) = map-append g (bound_names f t) (parameter_names f (gap ps)) ∙ (λ i. names g f t i ++ parameters (gap ps) i)
  parameters (gap ps) = parameters ps

module _ {H A : Type 0} (g : Bound H → A) where
  each : (xs : List (BoundName H)) → map g (all_bound xs) ≡ map (λ x. g (bound x)) xs
  each [] = refl
  each (x ∷ xs) = ap (λ l. g (bound x) ∷ l) (each xs)

  -- names that were pushed, in these words
  retold-by : (new old : List (BoundName H)) (xs : List (Bound H)) (ys : List A) → map g xs ≡ ys → all_bound new ≡ all_bound old ++ xs → map (λ x. g (bound x)) new ≡ map (λ x. g (bound x)) old ++ ys
  retold-by new old xs ys e h = sym (each new) ∙ ap (map g) h ∙ map-append g (all_bound old) xs ∙ (λ i. each old i ++ e i)

  pub retold : (how : H) (new old : List (BoundName H)) (t : Tree) → all_bound new ≡ all_bound old ++ bound_names (bound_as how) t →
      map (λ x. g (bound x)) new ≡ map (λ x. g (bound x)) old ++ bound_names (λ u. g (bound_as how u)) t
  retold how new old t h = retold-by new old (bound_names (bound_as how) t) (bound_names (λ u. g (bound_as how u)) t) (names g (bound_as how) t) h

  -- the names of declarators, however each is bound
  module _ (how_of : Parts → H) where
    declarators : (ps : Parts) → map g (declarator_names (λ qs. bound_as (how_of qs)) ps) ≡ declarator_names (λ qs t. g (bound_as (how_of qs) t)) ps
    declarators none = refl
    declarators (part d ps) =
        map-append g (first_bound_names (bound_as (how_of (parts_of d))) (parts_of d)) (declarator_names (λ qs. bound_as (how_of qs)) ps)
        ∙ (λ i. first g (bound_as (how_of (parts_of d))) (parts_of d) i ++ declarators ps i)
    declarators (gap ps) = declarators ps

    pub retold-declarators : (new old : List (BoundName H)) (ps : Parts) → all_bound new ≡ all_bound old ++ declarator_names (λ qs. bound_as (how_of qs)) ps →
        map (λ x. g (bound x)) new ≡ map (λ x. g (bound x)) old ++ declarator_names (λ qs t. g (bound_as (how_of qs) t)) ps
    retold-declarators new old ps h = retold-by new old (declarator_names (λ qs. bound_as (how_of qs)) ps) (declarator_names (λ qs t. g (bound_as (how_of qs) t)) ps) (declarators ps) h

  -- what specifiers bind
  specifiers : (how : H) (ps : Parts) → map g (each_part (specifier_names (bound_as how)) ps) ≡ each_part (specifier_names (λ u. g (bound_as how u))) ps
  specifiers how none = refl
  specifiers how (part d ps) = map-append g (specifier_names (bound_as how) d) (each_part (specifier_names (bound_as how)) ps) ∙ (λ i. last g (bound_as how) (parts_of d) i ++ specifiers how ps i)
  specifiers how (gap ps) = specifiers how ps

  -- what an item declares lexically
  own-lexically : (how : LexicalAs H) (t : Tree)
      → map g (own_lexical_names (is_some how.function) (λ text. declarator_as (declarators_as how text)) (bound_as (unwrap_or how.function how.class)) (bound_as how.class) (bound_as how.import) t)
      ≡ own_lexical_names (is_some how.function) (λ text ps u. g (declarator_as (declarators_as how text) ps u)) (λ u. g (bound_as (unwrap_or how.function how.class) u)) (λ u. g (bound_as how.class u)) (λ u. g (bound_as how.import u)) t
  own-lexically how (node VariableDeclaration w k s e ps) = pick (bytes_eq w (codes "var"))
    where
      pick : (b : Bool) → map g (cond b [] (declarator_names (declarator_as (declarators_as how w)) ps)) ≡ cond b [] (declarator_names (λ qs u. g (declarator_as (declarators_as how w) qs u)) ps)
      pick true = refl
      pick false = declarators (how_of (declarators_as how w)) ps
  own-lexically how (node FunctionDeclaration w k s e ps) = pick (is_some how.function)
    where
      pick : (b : Bool) → map g (cond b (first_bound_names (bound_as (unwrap_or how.function how.class)) ps) []) ≡ cond b (first_bound_names (λ u. g (bound_as (unwrap_or how.function how.class) u)) ps) []
      pick true = first g (bound_as (unwrap_or how.function how.class)) ps
      pick false = refl
  own-lexically how (node ClassDeclaration w k s e ps) = first g (bound_as how.class) ps
  own-lexically how (node ImportDeclaration w k s e ps) = specifiers how.import ps
  own-lexically how (node _ w k s e ps) = refl

  pub lexically : (how : LexicalAs H) (t : Tree) → map g (lexical_as how t)
      ≡ lexically_declared_names (is_some how.function) (λ text ps u. g (declarator_as (declarators_as how text) ps u)) (λ u. g (bound_as (unwrap_or how.function how.class) u)) (λ u. g (bound_as how.class u)) (λ u. g (bound_as how.import u)) t
  lexically how t = own-lexically how (declaration_of t)

  -- what trees give, however that is said of one
  module _ (f : Tree → List (Bound H)) (r : Tree → List A) (e : (t : Tree) → map g (f t) ≡ r t) where
    pub at-part : (o : Option Tree) → map g (at_part f o) ≡ at_part r o
    at-part None = refl
    at-part (Some t) = e t

    pub at-each : (ps : Parts) → map g (each_part f ps) ≡ each_part r ps
    at-each none = refl
    at-each (part t ps) = map-append g (f t) (each_part f ps) ∙ (λ i. e t i ++ at-each ps i)
    at-each (gap ps) = at-each ps

    pub at-case : (t : Tree) → map g (case_names f t) ≡ case_names r t
    at-case t = at-each (parts_drop 1 (parts_of t))

    pub retold-tree : (new old : List (BoundName H)) (t : Tree) → all_bound new ≡ all_bound old ++ f t → map (λ x. g (bound x)) new ≡ map (λ x. g (bound x)) old ++ r t
    retold-tree new old t h = retold-by new old (f t) (r t) (e t) h

    pub retold-at : (new old : List (BoundName H)) (o : Option Tree) → all_bound new ≡ all_bound old ++ at_part f o → map (λ x. g (bound x)) new ≡ map (λ x. g (bound x)) old ++ at_part r o
    retold-at new old o h = retold-by new old (at_part f o) (at_part r o) (at-part o) h

    pub retold-each : (new old : List (BoundName H)) (ps : Parts) → all_bound new ≡ all_bound old ++ each_part f ps → map (λ x. g (bound x)) new ≡ map (λ x. g (bound x)) old ++ each_part r ps
    retold-each new old ps h = retold-by new old (each_part f ps) (each_part r ps) (at-each ps) h

  pub retold-part : (how : H) (new old : List (BoundName H)) (o : Option Tree) → all_bound new ≡ all_bound old ++ at_part (bound_names (bound_as how)) o →
      map (λ x. g (bound x)) new ≡ map (λ x. g (bound x)) old ++ at_part (bound_names (λ t. g (bound_as how t))) o
  retold-part how = retold-at (bound_names (bound_as how)) (bound_names (λ t. g (bound_as how t))) (names g (bound_as how))

  pub retold-parameters : (how : H) (new old : List (BoundName H)) (ps : Parts) → all_bound new ≡ all_bound old ++ parameter_names (bound_as how) ps →
      map (λ x. g (bound x)) new ≡ map (λ x. g (bound x)) old ++ parameter_names (λ t. g (bound_as how t)) ps
  retold-parameters how new old ps h = retold-by new old (parameter_names (bound_as how) ps) (parameter_names (λ t. g (bound_as how t)) ps) (parameters g (bound_as how) ps) h
