-- The values of a node's parts, put together again from its members.
use Rattle.std.proofs.Common.{◌≡◌, ℕ, zero, suc, ◌-◌, Bool, true, false, List, [], ◌∷◌, ◌++◌, length, take, drop, map, refl, sym, ap, ap₂, ◌∙◌, arith}
use Prim.Native.String.{String}
use Rattle.std.proofs.lemmas.Bool.{false≢true}
use Rattle.serde_json.specs.Data.{Data}
use Rattle.tree.specs.declared.kind.Form.{Form}
use Rattle.tree.specs.declared.kind.Form.TheVariants.{Init, Shorthand}
use Rattle.estree_json.specs.Json.{first_or_null, odd_ones}
use Rattle.json_laws.proofs.Told.{Names, names, a_list, first_list, list_last, turns, alias, first_list_last, interleave, shown, listed, by_each, by_names}

-- as many as there are names; at least so many
abbrev pub as_many : List String → ℕ → Bool
as_many [] zero = true
as_many [] (suc n) = false
as_many (s ∷ ss) zero = false
as_many (s ∷ ss) (suc n) = as_many ss n

abbrev pub at_least : ℕ → ℕ → Bool
at_least zero n = true
at_least (suc m) zero = false
at_least (suc m) (suc n) = at_least m n

-- how many parts a node has whose members name them so
abbrev pub count_fits : Names → Form → ℕ → Bool
count_fits (names ss) form n = as_many ss n
count_fits (a_list s) form n = true
count_fits (first_list s t) form n = at_least 1 n
count_fits (list_last s t) form n = at_least 1 n
count_fits (first_list_last s t u) form n = at_least 2 n
count_fits (turns s t) form n = true
count_fits (alias s t) Shorthand n = as_many (s ∷ []) n
count_fits (alias s t) Init n = as_many (s ∷ t ∷ []) n
count_fits (alias s t) _ n = false

pub listed_all : (ds : List Data) → listed ds ≡ map shown ds
listed_all [] = refl
listed_all (d ∷ ds) = ap (λ xs. shown d ∷ xs) (listed_all ds)

each_all : (ss : List String) (ds : List Data) → as_many ss (length ds) ≡ true → by_each ss ds ≡ map shown ds
each_all [] [] h = refl
each_all [] (d ∷ ds) h = absurd (false≢true h)
each_all (s ∷ ss) [] h = absurd (false≢true h)
each_all (s ∷ ss) (d ∷ ds) h = ap (λ xs. shown d ∷ xs) (each_all ss ds h)

take_all : (ds : List Data) → take (length ds) ds ≡ ds
take_all [] = refl
take_all (d ∷ ds) = ap (λ xs. d ∷ xs) (take_all ds)

whole : (ds : List Data) → listed (take (length ds - 0) ds) ≡ map shown ds
whole ds = ap listed (ap (λ n. take n ds) (less_none (length ds)) ∙ take_all ds) ∙ listed_all ds
  where
    less_none : (n : ℕ) → n - 0 ≡ n
    less_none n = omega arith

-- all but the last, then the last
last_all : (d : Data) (ds : List Data) → map shown (take (length ds) (d ∷ ds)) ++ shown (first_or_null (drop (length ds) (d ∷ ds))) ∷ [] ≡ map shown (d ∷ ds)
last_all d [] = refl
last_all d (e ∷ ds) = ap (λ xs. shown d ∷ xs) (last_all e ds)

parted : (ds : List Data) → at_least 1 (length ds) ≡ true → listed (take (length ds - 1) ds) ++ shown (first_or_null (drop (length ds - 1) ds)) ∷ [] ≡ map shown ds
parted [] h = absurd (false≢true h)
parted (d ∷ ds) h =
    ap (λ n. listed (take n (d ∷ ds)) ++ shown (first_or_null (drop n (d ∷ ds))) ∷ []) (one_less (length ds))
    ∙ ap (λ xs. xs ++ shown (first_or_null (drop (length ds) (d ∷ ds))) ∷ []) (listed_all (take (length ds) (d ∷ ds))) ∙ last_all d ds
  where
    one_less : (n : ℕ) → suc n - 1 ≡ n
    one_less n = omega arith

odd_next : (d : Data) (ds : List Data) → odd_ones (d ∷ ds) ≡ d ∷ odd_ones (drop 1 ds)
odd_next d [] = refl
odd_next d (e ∷ ds) = refl

woven : (ds : List Data) → interleave (map shown (odd_ones ds)) (map shown (odd_ones (drop 1 ds))) ≡ map shown ds
woven [] = refl
woven (d ∷ []) = refl
woven (d ∷ e ∷ ds) = ap (λ xs. interleave (shown d ∷ map shown (odd_ones ds)) (map shown xs)) (odd_next e ds) ∙ ap (λ xs. shown d ∷ shown e ∷ xs) (woven ds)

first_more : (n : ℕ) (ds : List Data) → at_least (suc n) (length ds) ≡ true → (map shown ds ≡ shown (first_or_null ds) ∷ map shown (drop 1 ds)) × (at_least n (length (drop 1 ds)) ≡ true)
first_more n [] h = absurd (false≢true h)
first_more n (d ∷ ds) h = (refl, h)

pub names_all : (x : Names) (form : Form) (ds : List Data) → count_fits x form (length ds) ≡ true → by_names x form ds ≡ map shown ds
names_all (names ss) form ds h = each_all ss ds h
names_all (a_list s) form ds h = whole ds
names_all (first_list s t) form ds h = ap (λ xs. shown (first_or_null ds) ∷ xs) (whole (drop 1 ds)) ∙ sym (first_more 0 ds h).0
names_all (list_last s t) form ds h = parted ds h
names_all (first_list_last s t u) form ds h = let k = first_more 1 ds h in ap (λ xs. shown (first_or_null ds) ∷ xs) (parted (drop 1 ds) k.1) ∙ sym k.0
names_all (turns s t) form ds h = ap₂ interleave (listed_all (odd_ones ds)) (listed_all (odd_ones (drop 1 ds))) ∙ woven ds
names_all (alias s t) Shorthand (d ∷ []) h = refl
names_all (alias s t) Init (d ∷ e ∷ []) h = refl
names_all (alias s t) Shorthand [] h = absurd (false≢true h)
names_all (alias s t) Shorthand (d ∷ e ∷ ds) h = absurd (false≢true h)
names_all (alias s t) Init [] h = absurd (false≢true h)
names_all (alias s t) Init (d ∷ []) h = absurd (false≢true h)
names_all (alias s t) Init (d ∷ e ∷ c ∷ ds) h = absurd (false≢true h)
names_all (alias s t) _ ds h = absurd (false≢true h)
