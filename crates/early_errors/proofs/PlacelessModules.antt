-- Which errors of private names, imports and exports a tree has doesn't depend on its places.
use Rattle.std.proofs.Common.{◌≡◌, ℕ, suc, Bool, true, false, cond, List, [], ◌∷◌, ◌++◌, refl, sym, ap, ◌∙◌, length}
use Rattle.std.specs.Prelude.{◌&&◌, ◌||◌, not, map, filter, codes}
use Rattle.std.specs.Str.{bytes_eq}
use Rattle.tree.specs.declared.kind.Kind.TheVariants.{Program, PrivateIdentifier, ChainExpression, ImportSpecifier, ExportNamedDeclaration, ExportSpecifier, ExportAllDeclaration, ClassBody, MemberExpression, MetaProperty, UnaryExpression, VariableDeclaration}
use Rattle.tree.specs.Tree.{Tree, node, Parts, none, part, gap, bare, bare_parts, text_of, start_of}
use Rattle.language.specs.FirstPart.{lead, others}
use Rattle.language.specs.Vocabulary.{is, is_private}
use Rattle.language.specs.Strings.{literal_units}
use Rattle.name_tables.specs.BoundNames.{each_part}
use Rattle.early_errors.specs.Names.{Named, has_name, when, twice, first_names, declared_names, parts_vars, lexical_names}
use Rattle.early_errors.specs.Around.{Around}
use Rattle.early_errors.specs.PrivateNames.{Declared, declared, is_get, is_set, is_any, is_pair, of_name, second_on, named_constructor, holds_name, ends_in_private, private_member, private_operand, private_constructor, duplicate_private_name, undeclared_private_name, delete_of_private}
use Rattle.early_errors.specs.Modules.{module_name_at, last_part, each_tree, specifier_name, in_units, declaration_exports, exported_names, no_source, first_tree, locals, is_no_name, starts_of, string_of, lone_parts, first_only, import_meta_outside_module, duplicate_export, export_of_no_name, undeclared_export, lone_surrogate}
use Rattle.early_errors.proofs.Words.{words, has_word, has-word, Alike, alike-append, alike-twice, alike-places, alike-each, others-bare, first_names-bare, declared-bare, vars-bare, lexical-bare}
use Rattle.early_errors.proofs.EvenPlaces.{Even, one, once, even-append, lead-bare, text-bare, worded-bare}

-- private names
abbrev placeless : Declared → Declared
placeless x = record x { at = 0 }

abbrev all_placeless : List Declared → List Declared
all_placeless xs = map placeless xs

placeless-append : (xs ys : List Declared) → all_placeless (xs ++ ys) ≡ all_placeless xs ++ all_placeless ys
placeless-append [] ys = refl
placeless-append (x ∷ xs) ys = ap (λ l. placeless x ∷ l) (placeless-append xs ys)

element-bare : (n : Tree) → all_placeless (declared (bare n)) ≡ all_placeless (declared n)
element-bare (node k w g s e none) = refl
element-bare (node k w g s e (gap ps)) = refl
element-bare (node k w g s e (part (node k2 w2 g2 s2 e2 ps2) ps)) = pick (is_private k2)
  where
    pick : (b : Bool) → all_placeless (cond b (record { name = w2; at = 0; is_static = g.is_static; gets = is_get g.form; sets = is_set g.form } ∷ []) [])
        ≡ all_placeless (cond b (record { name = w2; at = s2; is_static = g.is_static; gets = is_get g.form; sets = is_set g.form } ∷ []) [])
    pick true = refl
    pick false = refl

elements-bare : (ps : Parts) → all_placeless (each_part declared (bare_parts ps)) ≡ all_placeless (each_part declared ps)
elements-bare none = refl
elements-bare (part n ps) =
    placeless-append (declared (bare n)) (each_part declared (bare_parts ps)) ∙ (λ i. element-bare n i ++ elements-bare ps i) ∙ sym (placeless-append (declared n) (each_part declared ps))
elements-bare (gap ps) = elements-bare ps

constructors-placeless : (xs : List Declared) → Even (named_constructor (all_placeless xs)) (named_constructor xs)
constructors-placeless [] = refl
constructors-placeless (x ∷ xs) =
    even-append (when (is x.name "constructor") (0 ∷ [])) (when (is x.name "constructor") (x.at ∷ [])) (named_constructor (all_placeless xs)) (named_constructor xs) (one (is x.name "constructor") 0 x.at) (constructors-placeless xs)

pub private_constructor-bare : (n : Tree) → Even (private_constructor (bare n)) (private_constructor n)
unfolding private_constructor
private_constructor-bare (node ClassBody w g s e ps) =
    sym (constructors-placeless (each_part declared (bare_parts ps))) ∙ ap (λ xs. length (named_constructor xs)) (elements-bare ps) ∙ constructors-placeless (each_part declared ps)
private_constructor-bare (node _ w g s e ps) = refl

of_name-placeless : (w : List ℕ) (xs : List Declared) → of_name w (all_placeless xs) ≡ all_placeless (of_name w xs)
of_name-placeless w [] = refl
of_name-placeless w (x ∷ xs) = pick (bytes_eq w x.name) (of_name-placeless w xs)
  where
    pick : (b : Bool) → of_name w (all_placeless xs) ≡ all_placeless (of_name w xs) → cond b (placeless x ∷ []) [] ++ of_name w (all_placeless xs) ≡ all_placeless (cond b (x ∷ []) [] ++ of_name w xs)
    pick true h = ap (λ l. placeless x ∷ l) h
    pick false h = h

any-placeless : (xs : List Declared) → is_any (all_placeless xs) ≡ is_any xs
any-placeless [] = refl
any-placeless (x ∷ xs) = refl

pair-placeless : (xs : List Declared) → is_pair (all_placeless xs) ≡ is_pair xs
pair-placeless [] = refl
pair-placeless (x ∷ []) = refl
pair-placeless (x ∷ y ∷ []) = refl
pair-placeless (x ∷ y ∷ z ∷ xs) = refl

second-placeless : (all before xs : List Declared) → Even (second_on (all_placeless all) (all_placeless before) (all_placeless xs)) (second_on all before xs)
second-placeless all before [] = refl
second-placeless all before (x ∷ xs) =
    let b = is_any (of_name x.name (all_placeless before)) && not (is_pair (of_name x.name (all_placeless all))) in
    let c = is_any (of_name x.name before) && not (is_pair (of_name x.name all)) in
    let same : b ≡ c = λ i. (ap is_any (of_name-placeless x.name before) ∙ any-placeless (of_name x.name before)) i && not ((ap is_pair (of_name-placeless x.name all) ∙ pair-placeless (of_name x.name all)) i) in
    even-append (when b (0 ∷ [])) (when c (x.at ∷ [])) (second_on (all_placeless all) (all_placeless (x ∷ before)) (all_placeless xs)) (second_on all (x ∷ before) xs) (once b c 0 x.at same) (second-placeless all (x ∷ before) xs)

pub private_again-bare : (n : Tree) → Even (duplicate_private_name (bare n)) (duplicate_private_name n)
unfolding duplicate_private_name
private_again-bare (node ClassBody w g s e ps) =
    let xs' = each_part declared (bare_parts ps) in
    let xs = each_part declared ps in
    sym (second-placeless xs' [] xs') ∙ ap (λ ys. length (second_on ys [] ys)) (elements-bare ps) ∙ second-placeless xs [] xs
private_again-bare (node _ w g s e ps) = refl

pub undeclared-bare : (z : Around) (n : Tree) → Even (undeclared_private_name z (bare n)) (undeclared_private_name z n)
unfolding undeclared_private_name
undeclared-bare z (node PrivateIdentifier w g s e ps) = one (not (holds_name z.privates w)) 0 s
undeclared-bare z (node _ w g s e ps) = refl

ends-bare : (n : Tree) → ends_in_private (bare n) ≡ ends_in_private n
ends-bare (node MemberExpression w g s e ps) = ap (λ q. is_private (lead q)) (others-bare ps) ∙ ap is_private (lead-bare (others ps))
ends-bare (node _ w g s e ps) = refl

private_member-bare : (n : Tree) → private_member (bare n) ≡ private_member n
private_member-bare (node ChainExpression w g s e none) = refl
private_member-bare (node ChainExpression w g s e (part n ps)) = ends-bare n
private_member-bare (node ChainExpression w g s e (gap ps)) = refl
private_member-bare (node MemberExpression w g s e ps) = ends-bare (node MemberExpression w g s e ps)
private_member-bare (node _ w g s e ps) = refl

private_operand-bare : (ps : Parts) → private_operand (bare_parts ps) ≡ private_operand ps
private_operand-bare none = refl
private_operand-bare (part n ps) = private_member-bare n
private_operand-bare (gap ps) = refl

pub delete_private-bare : (n : Tree) → Even (delete_of_private (bare n)) (delete_of_private n)
unfolding delete_of_private
delete_private-bare (node UnaryExpression w g s e ps) =
    once (is w "delete" && private_operand (bare_parts ps)) (is w "delete" && private_operand ps) 0 s (ap (λ b. is w "delete" && b) (private_operand-bare ps))
delete_private-bare (node _ w g s e ps) = refl

-- modules
pub meta-bare : (z : Around) (n : Tree) → Even (import_meta_outside_module z (bare n)) (import_meta_outside_module z n)
unfolding import_meta_outside_module
meta-bare z (node MetaProperty w g s e ps) = worded-bare (codes "import") z.in_module ps s
meta-bare z (node _ w g s e ps) = refl

abbrev all_bare : List Tree → List Tree
all_bare xs = map bare xs

bare-append : (xs ys : List Tree) → all_bare (xs ++ ys) ≡ all_bare xs ++ all_bare ys
bare-append [] ys = refl
bare-append (x ∷ xs) ys = ap (λ l. bare x ∷ l) (bare-append xs ys)

trees-bare : (f : Tree → List Tree) → ((n : Tree) → f (bare n) ≡ all_bare (f n)) → (ps : Parts) → each_part f (bare_parts ps) ≡ all_bare (each_part f ps)
trees-bare f h none = refl
trees-bare f h (part n ps) = (λ i. h n i ++ trees-bare f h ps i) ∙ sym (bare-append (f n) (each_part f ps))
trees-bare f h (gap ps) = trees-bare f h ps

last_part-bare : (ps : Parts) → last_part (bare_parts ps) ≡ all_bare (last_part ps)
last_part-bare none = refl
last_part-bare (part n none) = refl
last_part-bare (part n (part m ps)) = last_part-bare (part m ps)
last_part-bare (part n (gap ps)) = last_part-bare (gap ps)
last_part-bare (gap ps) = last_part-bare ps

module_name-bare : (n : Tree) → Alike (module_name_at (bare n) ∷ []) (module_name_at n ∷ [])
module_name-bare (node k w g s e ps) = refl

module_names-bare : (xs : List Tree) → Alike (each_tree (λ x. module_name_at x ∷ []) (all_bare xs)) (each_tree (λ x. module_name_at x ∷ []) xs)
module_names-bare [] = refl
module_names-bare (x ∷ xs) =
    alike-append (module_name_at (bare x) ∷ []) (module_name_at x ∷ []) (each_tree (λ x. module_name_at x ∷ []) (all_bare xs)) (each_tree (λ x. module_name_at x ∷ []) xs) (module_name-bare x) (module_names-bare xs)

specifier-bare : (n : Tree) → Alike (specifier_name (bare n)) (specifier_name n)
specifier-bare (node ExportSpecifier w g s e ps) = ap (λ xs. words (each_tree (λ x. module_name_at x ∷ []) xs)) (last_part-bare ps) ∙ module_names-bare (last_part ps)
specifier-bare (node _ w g s e ps) = refl

abbrev unit_words : List (List ℕ) → List (List ℕ)
unit_words ws = map (λ w. literal_units (codes "'" ++ w ++ codes "'")) ws

words-units : (xs : List Named) → words (map in_units xs) ≡ unit_words (words xs)
words-units [] = refl
words-units (x ∷ xs) = ap (λ l. (in_units x).0 ∷ l) (words-units xs)

alike-units : (xs ys : List Named) → Alike xs ys → Alike (map in_units xs) (map in_units ys)
alike-units xs ys e = words-units xs ∙ ap unit_words e ∙ sym (words-units ys)

declaration_exports-bare : (n : Tree) → Alike (declaration_exports (bare n)) (declaration_exports n)
declaration_exports-bare (node VariableDeclaration w g s e ps) = alike-units (declared_names (bare_parts ps)) (declared_names ps) (declared-bare ps)
declaration_exports-bare (node _ w g s e ps) = alike-units (first_names (bare_parts ps)) (first_names ps) (first_names-bare ps)

exported-bare : (n : Tree) → Alike (exported_names (bare n)) (exported_names n)
exported-bare (node ExportNamedDeclaration w g s e none) = refl
exported-bare (node ExportNamedDeclaration w g s e (part n ps)) = declaration_exports-bare n
exported-bare (node ExportNamedDeclaration w g s e (gap ps)) = alike-each specifier_name specifier-bare ps
exported-bare (node ExportAllDeclaration w g s e none) = refl
exported-bare (node ExportAllDeclaration w g s e (part n ps)) = module_name-bare n
exported-bare (node ExportAllDeclaration w g s e (gap ps)) = refl
exported-bare (node _ w g s e ps) = refl

pub duplicate_export-bare : (n : Tree) → Even (duplicate_export (bare n)) (duplicate_export n)
unfolding duplicate_export
duplicate_export-bare (node Program w g s e ps) =
    let xs' = each_part exported_names (bare_parts ps) in
    let xs = each_part exported_names ps in
    alike-places (twice xs') (twice xs) (alike-twice xs' xs (alike-each exported_names exported-bare ps))
duplicate_export-bare (node _ w g s e ps) = refl

source-bare : (ps : Parts) → no_source (bare_parts ps) ≡ no_source ps
source-bare none = refl
source-bare (part n ps) = source-bare ps
source-bare (gap none) = refl
source-bare (gap (part n ps)) = source-bare (part n ps)
source-bare (gap (gap ps)) = source-bare (gap ps)

first_tree-bare : (n : Tree) → first_tree (bare n) ≡ all_bare (first_tree n)
first_tree-bare (node k w g s e none) = refl
first_tree-bare (node k w g s e (part n ps)) = refl
first_tree-bare (node k w g s e (gap ps)) = refl

locals-bare : (n : Tree) → locals (bare n) ≡ all_bare (locals n)
locals-bare (node ExportNamedDeclaration w g s e none) = refl
locals-bare (node ExportNamedDeclaration w g s e (part n ps)) = refl
locals-bare (node ExportNamedDeclaration w g s e (gap ps)) = (λ i. cond (source-bare ps i) (trees-bare first_tree first_tree-bare ps i) []) ∙ pick (no_source ps)
  where
    pick : (b : Bool) → cond b (all_bare (each_part first_tree ps)) [] ≡ all_bare (cond b (each_part first_tree ps) [])
    pick true = refl
    pick false = refl
locals-bare (node _ w g s e ps) = refl

no_name-bare : (n : Tree) → is_no_name (bare n) ≡ is_no_name n
no_name-bare (node k w g s e ps) = refl

filtered-bare : (p q : Tree → Bool) → ((n : Tree) → p (bare n) ≡ q n) → (xs : List Tree) → Even (starts_of (filter p (all_bare xs))) (starts_of (filter q xs))
filtered-bare p q h [] = refl
filtered-bare p q h (x ∷ xs) =
    ap (λ b. length (starts_of (cond b (bare x ∷ filter p (all_bare xs)) (filter p (all_bare xs))))) (h x) ∙ pick (q x) (filtered-bare p q h xs)
  where
    pick : (b : Bool) → Even (starts_of (filter p (all_bare xs))) (starts_of (filter q xs)) →
        Even (starts_of (cond b (bare x ∷ filter p (all_bare xs)) (filter p (all_bare xs)))) (starts_of (cond b (x ∷ filter q xs) (filter q xs)))
    pick true e = ap suc e
    pick false e = e

pub export_no_name-bare : (n : Tree) → Even (export_of_no_name (bare n)) (export_of_no_name n)
unfolding export_of_no_name
export_no_name-bare (node ExportNamedDeclaration w g s e ps) =
    let t = node ExportNamedDeclaration w g s e ps in
    ap (λ xs. length (starts_of (filter is_no_name xs))) (locals-bare t) ∙ filtered-bare is_no_name is_no_name no_name-bare (locals t)
export_no_name-bare (node _ w g s e ps) = refl

pub undeclared_export-bare : (n : Tree) → Even (undeclared_export (bare n)) (undeclared_export n)
unfolding undeclared_export
undeclared_export-bare (node Program w g s e ps) =
    let ns' = each_part (lexical_names true) (bare_parts ps) ++ parts_vars (bare_parts ps) in
    let ns = each_part (lexical_names true) ps ++ parts_vars ps in
    let alike = alike-append (each_part (lexical_names true) (bare_parts ps)) (each_part (lexical_names true) ps) (parts_vars (bare_parts ps)) (parts_vars ps) (alike-each (lexical_names true) (lexical-bare true) ps) (vars-bare ps) in
    let known : (w : List ℕ) → has_name w ns' ≡ has_name w ns = λ w. has-word w ns' ∙ ap (has_word w) alike ∙ sym (has-word w ns) in
    ap (λ xs. length (starts_of (filter (λ x. not (is_no_name x || has_name (text_of x) ns')) xs))) (trees-bare locals locals-bare ps)
    ∙ filtered-bare (λ x. not (is_no_name x || has_name (text_of x) ns')) (λ x. not (is_no_name x || has_name (text_of x) ns))
    (λ n. (λ i. not (no_name-bare n i || has_name (text-bare n i) ns')) ∙ ap (λ b. not (is_no_name n || b)) (known (text_of n))) (each_part locals ps)
undeclared_export-bare (node _ w g s e ps) = refl

string-bare : (n : Tree) → string_of (bare n) ≡ string_of n
string-bare (node k w g s e ps) = refl

lone_parts-bare : (ps : Parts) → Even (lone_parts (bare_parts ps)) (lone_parts ps)
lone_parts-bare none = refl
lone_parts-bare (part n ps) =
    even-append (when (string_of (bare n)) (start_of (bare n) ∷ [])) (when (string_of n) (start_of n ∷ [])) (lone_parts (bare_parts ps)) (lone_parts ps)
    (once (string_of (bare n)) (string_of n) (start_of (bare n)) (start_of n) (string-bare n)) (lone_parts-bare ps)
lone_parts-bare (gap ps) = lone_parts-bare ps

first_only-bare : (ps : Parts) → first_only (bare_parts ps) ≡ bare_parts (first_only ps)
first_only-bare none = refl
first_only-bare (part n ps) = refl
first_only-bare (gap ps) = refl

pub lone-bare : (n : Tree) → Even (lone_surrogate (bare n)) (lone_surrogate n)
unfolding lone_surrogate
lone-bare (node ImportSpecifier w g s e ps) = lone_parts-bare ps
lone-bare (node ExportSpecifier w g s e ps) = lone_parts-bare ps
lone-bare (node ExportAllDeclaration w g s e ps) = ap (λ q. length (lone_parts q)) (first_only-bare ps) ∙ lone_parts-bare (first_only ps)
lone-bare (node _ w g s e ps) = refl
