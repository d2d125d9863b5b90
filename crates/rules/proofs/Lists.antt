-- Lists of names: what a test of their elements says, and one more name.
use Rattle.std.proofs.Common.{◌≡◌, ℕ, suc, ◌+◌, ◌<◌, Bool, List, [], ◌∷◌, Option, Some, None, String, Global, map, option_map, option_and_then, length, drop, get_or, refl, sym, ap, ◌∙◌, add-one, string_bytes}
use Rattle.std.specs.Prelude.{◌||◌}
use Rattle.std.specs.List.{list_any}
use Rattle.std.specs.Str.{bytes_eq}
use Rattle.std.specs.BTreeMap.{is_at}
use Rattle.std.specs.BTreeSet.{insert_key}
use Rattle.std.specs.Cmp.Lexicographic.{slice_cmp}
use Rattle.std.specs.Ordering.{match_ordering, nat_cmp}
use Rattle.std.specs.declared.cmp.Ordering.{Ordering}
use Rattle.std.specs.declared.cmp.Ordering.TheVariants.{Less, Equal, Greater}
use Rattle.std.specs.Prelude.{string_cmp}
use Rattle.std.proofs.lemmas.Map.Text.{is_eq-slice_cmp}
use Rattle.std.proofs.Math.Seq.{drop-cons}
use Rattle.toml.specs.Data.{as_str}
use Rattle.toml.specs.View.{items_view, view}
use Rattle.toml.specs.declared.value.Value.{Value}
use Rattle.rules.specs.Toml.{strings_of, with_names}

-- a look-up by order tests for the same bytes
pub any_at : (w : List ℕ) (ks : List (String Global)) → list_any (is_at (λ k. slice_cmp nat_cmp w (string_bytes k))) ks ≡ list_any (λ x. bytes_eq w x) (map string_bytes ks)
any_at w [] = refl
any_at w (k ∷ ks) = ap (λ b. b || list_any (is_at (λ x. slice_cmp nat_cmp w (string_bytes x))) ks) (is_eq-slice_cmp w (string_bytes k)) ∙ ap (λ b. bytes_eq w (string_bytes k) || b) (any_at w ks)

bytes_of_three : (o : Ordering) (a b c : List (String Global)) → map string_bytes (match_ordering o a b c) ≡ match_ordering o (map string_bytes a) (map string_bytes b) (map string_bytes c)
bytes_of_three Less a b c = refl
bytes_of_three Equal a b c = refl
bytes_of_three Greater a b c = refl

-- a test of strings, by their bytes
pub any_mapped : (test : List ℕ → Bool) (ks : List (String Global)) → list_any (λ k. test (string_bytes k)) ks ≡ list_any test (map string_bytes ks)
any_mapped test [] = refl
any_mapped test (k ∷ ks) = ap (λ b. test (string_bytes k) || b) (any_mapped test ks)

-- one more key of a set is one more name
pub bytes_inserted : (ks : List (String Global)) (k : String Global) → map string_bytes (insert_key string_cmp ks k) ≡ insert_key (slice_cmp nat_cmp) (map string_bytes ks) (string_bytes k)
bytes_inserted [] k = refl
bytes_inserted (x ∷ xs) k =
    bytes_of_three (string_cmp k x) (k ∷ x ∷ xs) (x ∷ xs) (x ∷ insert_key string_cmp xs k)
    ∙ ap (λ r. match_ordering (string_cmp k x) (string_bytes k ∷ string_bytes x ∷ map string_bytes xs) (string_bytes x ∷ map string_bytes xs) (string_bytes x ∷ r)) (bytes_inserted xs k)

one_more : (set : List (List ℕ)) (w : List ℕ) (o : Option (List (List ℕ))) → option_map (with_names set) (option_map (λ ws. w ∷ ws) o) ≡ option_map (with_names (insert_key (slice_cmp nat_cmp) set w)) o
one_more set w None = refl
one_more set w (Some ws) = refl

-- a turn of the loop over the strings of an array
pub set-turn : (vs : List Value) (i : ℕ) (v : Value) (old new : List (String Global)) (k : String Global) (total : Option (List (List ℕ))) → i < length vs → v ≡ get_or vs i v
    → as_str (view v) ≡ Some (string_bytes k) → new ≡ insert_key string_cmp old k
    → option_map (with_names (map string_bytes old)) (strings_of (items_view (drop i vs))) ≡ total → option_map (with_names (map string_bytes new)) (strings_of (items_view (drop (i + 1) vs))) ≡ total
set-turn vs i v old new k total l is e n so =
    let rest : Option (List (List ℕ)) = strings_of (items_view (drop (suc i) vs)) in
    rw (add-one i) (ap (λ ks. option_map (with_names (map string_bytes ks)) rest) n ∙ ap (λ s. option_map (with_names s) rest) (bytes_inserted old k) ∙ sym (one_more (map string_bytes old) (string_bytes k) rest)
    ∙ ap (λ o. option_map (with_names (map string_bytes old)) (option_and_then (λ w. option_map (λ ws. w ∷ ws) rest) o)) (sym e)
    ∙ ap (λ x. option_map (with_names (map string_bytes old)) (option_and_then (λ w. option_map (λ ws. w ∷ ws) rest) (as_str (view x)))) is
    ∙ ap (λ xs. option_map (with_names (map string_bytes old)) (strings_of (items_view xs))) (sym (drop-cons vs i v l)) ∙ so)
