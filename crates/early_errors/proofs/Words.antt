-- The names that a tree binds don't depend on its places.
use Rattle.std.proofs.Common.{◌≡◌, ℕ, suc, Bool, true, false, cond, List, [], ◌∷◌, ◌++◌, refl, sym, ap, ◌∙◌, length}
use Rattle.std.specs.Prelude.{◌||◌, map, filter}
use Rattle.std.specs.Str.{bytes_eq}
use Rattle.tree.specs.declared.kind.Kind.{Kind}
use Rattle.tree.specs.declared.kind.Kind.TheVariants.{Identifier, Property, FunctionExpression, ArrowFunctionExpression, ArrayPattern, ObjectPattern, AssignmentPattern, RestElement, BlockStatement, VariableDeclaration, FunctionDeclaration, ClassDeclaration, ImportDeclaration, ExportNamedDeclaration, ExportDefaultDeclaration}
use Rattle.tree.specs.Tree.{Tree, node, Parts, none, part, gap, bare, bare_parts, parts_of}
use Rattle.language.specs.FirstPart.{others}
use Rattle.language.specs.Vocabulary.{is}
use Rattle.name_tables.specs.BoundNames.{each_part, bound_names, all_bound_names, first_bound_names, last_bound_names}
use Rattle.name_tables.specs.DeclaredNames.{declaration_of, own_lexical_names}
use Rattle.early_errors.specs.Names.{Named, places, has_name, repeated, twice, shared, is_function, is_static_block, import_name, name_at, names_in, first_names, declared_names, own_vars, var_names, parts_vars, lexical_names, function_names, parameter_names, parameters_on, items_of, body_items}

abbrev pub words : List Named → List (List ℕ)
words xs = map (λ x. x.0) xs

abbrev pub has_word : List ℕ → List (List ℕ) → Bool
has_word w [] = false
has_word w (x ∷ xs) = bytes_eq w x || has_word w xs

abbrev pub repeats : List (List ℕ) → List (List ℕ) → List (List ℕ)
repeats before [] = []
repeats before (x ∷ xs) = cond (has_word x before) (x ∷ []) [] ++ repeats (x ∷ before) xs

abbrev pub both : List (List ℕ) → List (List ℕ) → List (List ℕ)
both xs ys = filter (λ w. has_word w ys) xs

pub words-append : (xs ys : List Named) → words (xs ++ ys) ≡ words xs ++ words ys
words-append [] ys = refl
words-append (x ∷ xs) ys = ap (λ l. x.0 ∷ l) (words-append xs ys)

pub has-word : (w : List ℕ) (xs : List Named) → has_name w xs ≡ has_word w (words xs)
has-word w [] = refl
has-word w (x ∷ xs) = ap (λ b. bytes_eq w x.0 || b) (has-word w xs)

one-word : (b : Bool) (x : Named) → words (cond b (x ∷ []) []) ≡ cond b (x.0 ∷ []) []
one-word true x = refl
one-word false x = refl

pub words-repeated : (bs xs : List Named) → words (repeated bs xs) ≡ repeats (words bs) (words xs)
words-repeated bs [] = refl
words-repeated bs (x ∷ xs) =
    let first = one-word (has_name x.0 bs) x ∙ ap (λ b. cond b (x.0 ∷ []) []) (has-word x.0 bs) in
    words-append (cond (has_name x.0 bs) (x ∷ []) []) (repeated (x ∷ bs) xs) ∙ (λ i. first i ++ words-repeated (x ∷ bs) xs i)

kept : (b : Bool) (x : Named) (xs : List Named) (ys : List (List ℕ)) → words xs ≡ ys → words (cond b (x ∷ xs) xs) ≡ cond b (x.0 ∷ ys) ys
kept true x xs ys e = ap (λ l. x.0 ∷ l) e
kept false x xs ys e = e

pub words-filter : (p : List ℕ → Bool) (xs : List Named) → words (filter (λ x. p x.0) xs) ≡ filter p (words xs)
words-filter p [] = refl
words-filter p (x ∷ xs) = kept (p x.0) x (filter (λ x. p x.0) xs) (filter p (words xs)) (words-filter p xs)

pub words-shared : (xs ys : List Named) → words (shared xs ys) ≡ both (words xs) (words ys)
words-shared xs ys = words-filter (λ w. has_name w ys) xs ∙ ap (λ f. filter f (words xs)) (λ i w. has-word w ys i)

-- two lists with the same names
abbrev pub Alike : List Named → List Named → Type 0
Alike xs ys = words xs ≡ words ys

pub alike-append : (xs xs' ys ys' : List Named) → Alike xs xs' → Alike ys ys' → Alike (xs ++ ys) (xs' ++ ys')
alike-append xs xs' ys ys' e f = words-append xs ys ∙ (λ i. e i ++ f i) ∙ sym (words-append xs' ys')

pub alike-twice : (xs ys : List Named) → Alike xs ys → Alike (twice xs) (twice ys)
alike-twice xs ys e = words-repeated [] xs ∙ ap (repeats []) e ∙ sym (words-repeated [] ys)

pub alike-shared : (xs xs' ys ys' : List Named) → Alike xs xs' → Alike ys ys' → Alike (shared xs ys) (shared xs' ys')
alike-shared xs xs' ys ys' e f = words-shared xs ys ∙ (λ i. both (e i) (f i)) ∙ sym (words-shared xs' ys')

pub alike-filter : (p : List ℕ → Bool) (xs ys : List Named) → Alike xs ys → Alike (filter (λ x. p x.0) xs) (filter (λ x. p x.0) ys)
alike-filter p xs ys e = words-filter p xs ∙ ap (filter p) e ∙ sym (words-filter p ys)

pub alike-cond : (b : Bool) (xs xs' ys ys' : List Named) → Alike xs xs' → Alike ys ys' → Alike (cond b xs ys) (cond b xs' ys')
alike-cond true xs xs' ys ys' e f = e
alike-cond false xs xs' ys ys' e f = f

pub as-many : (xs : List Named) → length (places xs) ≡ length (words xs)
as-many [] = refl
as-many (x ∷ xs) = ap suc (as-many xs)

-- as many places
pub alike-places : (xs ys : List Named) → Alike xs ys → length (places xs) ≡ length (places ys)
alike-places xs ys e = as-many xs ∙ ap length e ∙ sym (as-many ys)

pub alike-each : (f : Tree → List Named) → ((n : Tree) → Alike (f (bare n)) (f n)) → (ps : Parts) → Alike (each_part f (bare_parts ps)) (each_part f ps)
alike-each f h none = refl
alike-each f h (part n ps) = alike-append (f (bare n)) (f n) (each_part f (bare_parts ps)) (each_part f ps) (h n) (alike-each f h ps)
alike-each f h (gap ps) = alike-each f h ps

pub others-bare : (ps : Parts) → others (bare_parts ps) ≡ bare_parts (others ps)
others-bare none = refl
others-bare (part n ps) = refl
others-bare (gap ps) = refl

mutual
  unfolding bound_names all_bound_names first_bound_names last_bound_names

  pub names_in-bare : (n : Tree) → Alike (names_in (bare n)) (names_in n)
  names_in-bare (node Identifier w g s e ps) = refl
  names_in-bare (node ArrayPattern w g s e ps) = all_names-bare ps
  names_in-bare (node ObjectPattern w g s e ps) = all_names-bare ps
  names_in-bare (node RestElement w g s e ps) = all_names-bare ps
  names_in-bare (node AssignmentPattern w g s e ps) = first_names-bare ps
  names_in-bare (node Property w g s e ps) = last_names-bare ps
  names_in-bare (node _ w g s e ps) = refl

  pub all_names-bare : (ps : Parts) → Alike (all_bound_names name_at (bare_parts ps)) (all_bound_names name_at ps)
  all_names-bare none = refl
  all_names-bare (part n ps) = alike-append (names_in (bare n)) (names_in n) (all_bound_names name_at (bare_parts ps)) (all_bound_names name_at ps) (names_in-bare n) (all_names-bare ps)
  all_names-bare (gap ps) = all_names-bare ps

  pub first_names-bare : (ps : Parts) → Alike (first_names (bare_parts ps)) (first_names ps)
  first_names-bare none = refl
  first_names-bare (part n ps) = names_in-bare n
  first_names-bare (gap ps) = refl

  pub last_names-bare : (ps : Parts) → Alike (last_bound_names name_at (bare_parts ps)) (last_bound_names name_at ps)
  last_names-bare none = refl
  last_names-bare (part n none) = names_in-bare n
  last_names-bare (part n (part m ps)) = last_names-bare (part m ps)
  last_names-bare (part n (gap ps)) = last_names-bare ps
  last_names-bare (gap ps) = last_names-bare ps

declarator-bare : (n : Tree) → Alike (first_names (parts_of (bare n))) (first_names (parts_of n))
declarator-bare (node k w g s e ps) = first_names-bare ps

pub declared-bare : (ps : Parts) → Alike (declared_names (bare_parts ps)) (declared_names ps)
declared-bare ps = alike-each (λ n. first_names (parts_of n)) declarator-bare ps

own_vars-bare : (k : Kind) (w : List ℕ) (ps : Parts) → Alike (own_vars k w (bare_parts ps)) (own_vars k w ps)
own_vars-bare VariableDeclaration w ps = alike-cond (is w "var") (declared_names (bare_parts ps)) (declared_names ps) [] [] (declared-bare ps) refl
own_vars-bare _ w ps = refl

mutual
  unfolding var_names parts_vars

  pub var_names-bare : (n : Tree) → Alike (var_names (bare n)) (var_names n)
  var_names-bare (node k w g s e ps) =
      alike-cond (is_function k || is_static_block k) [] [] (own_vars k w (bare_parts ps) ++ parts_vars (bare_parts ps)) (own_vars k w ps ++ parts_vars ps) refl
      (alike-append (own_vars k w (bare_parts ps)) (own_vars k w ps) (parts_vars (bare_parts ps)) (parts_vars ps) (own_vars-bare k w ps) (vars-bare ps))

  pub vars-bare : (ps : Parts) → Alike (parts_vars (bare_parts ps)) (parts_vars ps)
  vars-bare none = refl
  vars-bare (part n ps) = alike-append (var_names (bare n)) (var_names n) (parts_vars (bare_parts ps)) (parts_vars ps) (var_names-bare n) (vars-bare ps)
  vars-bare (gap ps) = vars-bare ps

pub import-bare : (n : Tree) → Alike (import_name (bare n)) (import_name n)
import-bare (node k w g s e ps) = last_names-bare ps

declaration-bare : (n : Tree) → declaration_of (bare n) ≡ bare (declaration_of n)
declaration-bare (node ExportNamedDeclaration w g s e none) = refl
declaration-bare (node ExportNamedDeclaration w g s e (part n ps)) = refl
declaration-bare (node ExportNamedDeclaration w g s e (gap ps)) = refl
declaration-bare (node ExportDefaultDeclaration w g s e none) = refl
declaration-bare (node ExportDefaultDeclaration w g s e (part n ps)) = refl
declaration-bare (node ExportDefaultDeclaration w g s e (gap ps)) = refl
declaration-bare (node _ w g s e ps) = refl

abbrev own_lexical : Bool → Tree → List Named
own_lexical b n = own_lexical_names b (λ text ps. name_at) name_at name_at name_at n

own_lexical-bare : (b : Bool) (n : Tree) → Alike (own_lexical b (bare n)) (own_lexical b n)
own_lexical-bare b (node VariableDeclaration w g s e ps) = alike-cond (is w "var") [] [] (declared_names (bare_parts ps)) (declared_names ps) refl (declared-bare ps)
own_lexical-bare b (node ClassDeclaration w g s e ps) = first_names-bare ps
own_lexical-bare b (node FunctionDeclaration w g s e ps) = alike-cond b (first_names (bare_parts ps)) (first_names ps) [] [] (first_names-bare ps) refl
own_lexical-bare b (node ImportDeclaration w g s e ps) = alike-each import_name import-bare ps
own_lexical-bare b (node _ w g s e ps) = refl

pub lexical-bare : (b : Bool) (n : Tree) → Alike (lexical_names b (bare n)) (lexical_names b n)
lexical-bare b n = ap (λ m. words (own_lexical b m)) (declaration-bare n) ∙ own_lexical-bare b (declaration_of n)

pub function_names-bare : (n : Tree) → Alike (function_names (bare n)) (function_names n)
function_names-bare (node FunctionDeclaration w g s e ps) = first_names-bare ps
function_names-bare (node _ w g s e ps) = refl

pub parameters-bare : (ps : Parts) → Alike (parameter_names (bare_parts ps)) (parameter_names ps)
parameters-bare none = refl
parameters-bare (part n none) = refl
parameters-bare (part n (part m ps)) = alike-append (names_in (bare n)) (names_in n) (parameter_names (bare_parts (part m ps))) (parameter_names (part m ps)) (names_in-bare n) (parameters-bare (part m ps))
parameters-bare (part n (gap ps)) = alike-append (names_in (bare n)) (names_in n) (parameter_names (bare_parts (gap ps))) (parameter_names (gap ps)) (names_in-bare n) (parameters-bare (gap ps))
parameters-bare (gap ps) = parameters-bare ps

pub parameters_on-bare : (k : Kind) (ps : Parts) → parameters_on k (bare_parts ps) ≡ bare_parts (parameters_on k ps)
parameters_on-bare ArrowFunctionExpression ps = refl
parameters_on-bare FunctionExpression ps = others-bare ps
parameters_on-bare FunctionDeclaration ps = others-bare ps
parameters_on-bare _ ps = refl

items_of-bare : (n : Tree) → items_of (bare n) ≡ bare_parts (items_of n)
items_of-bare (node BlockStatement w g s e ps) = refl
items_of-bare (node _ w g s e ps) = refl

pub body_items-bare : (ps : Parts) → body_items (bare_parts ps) ≡ bare_parts (body_items ps)
body_items-bare none = refl
body_items-bare (part n none) = items_of-bare n
body_items-bare (part n (part m ps)) = body_items-bare (part m ps)
body_items-bare (part n (gap ps)) = body_items-bare (gap ps)
body_items-bare (gap ps) = body_items-bare ps
