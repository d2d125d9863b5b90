-- Names one by one, as loops over them go.
use Rattle.std.proofs.Common.{◌≡◌, ℕ, zero, suc, ◌+◌, ◌<◌, ◌≤◌, Bool, true, false, cond, List, [], ◌∷◌, ◌++◌, length, get_or, take, drop, filter, Option, refl, sym, ap, ◌∙◌, arith}
use Rattle.std.proofs.lemmas.List.{map-append, take_more, drop_more}
use Rattle.std.proofs.lemmas.List.Elements.{filter-append}
use Rattle.std.specs.Prelude.{◌||◌}
use Rattle.std.specs.Str.{bytes_eq}
use Rattle.early_errors.specs.declared.EarlyError.{EarlyError}
use Rattle.early_errors.specs.Names as names
use Rattle.early_errors.specs.Names.{places, has_name, repeated, twice, shared}
use Rattle.early_errors.specs.Early.{Error, each, number}
use Rattle.early_errors.specs.Walk.{Named, sooner, after, named, all_named, hits}
use Rattle.name_tables.proofs.Sets.{or-turned}
use Rattle.early_errors.proofs.Least.{sooner-none, sooner-twice, after-append, each-append}

-- one more name
pub one_more : (xs : List Named) (i : ℕ) (d : Named) → i < length xs → all_named (take (i + 1) xs) ≡ all_named (take i xs) ++ named (get_or xs i d) ∷ []
one_more xs i d h = ap all_named (take_more xs i d h) ∙ map-append named (take i xs) (get_or xs i d ∷ [])

-- a loop over names that finds errors for each
pub turn : (F : List names.Named → List Error) (one : names.Named → List Error) → ((ys : List names.Named) (y : names.Named) → F (ys ++ y ∷ []) ≡ F ys ++ one y) →
    (o : Option Error) (xs : List Named) (i : ℕ) (d : Named) → i < length xs → after o (F (all_named (take (i + 1) xs))) ≡ after (after o (F (all_named (take i xs)))) (one (named (get_or xs i d)))
turn F one h o xs i d l =
    ap (λ ys. after o (F ys)) (one_more xs i d l) ∙ ap (after o) (h (all_named (take i xs)) (named (get_or xs i d))) ∙ after-append o (F (all_named (take i xs))) (one (named (get_or xs i d)))

-- those that pass a test
abbrev pub passing : (names.Named → Bool) → EarlyError → List names.Named → List Error
passing p e xs = each e (places (filter p xs))

pub passing-more : (p : names.Named → Bool) (e : EarlyError) (ys : List names.Named) (y : names.Named) → passing p e (ys ++ y ∷ []) ≡ passing p e ys ++ passing p e (y ∷ [])
passing-more p e ys y =
    ap (λ zs. each e (places zs)) (filter-append p ys (y ∷ [])) ∙ ap (each e) (map-append (λ x. x.1) (filter p ys) (filter p (y ∷ []))) ∙ each-append e (places (filter p ys)) (places (filter p (y ∷ [])))

pub passing-turn : (p : names.Named → Bool) (e : EarlyError) (o : Option Error) (xs : List Named) (i : ℕ) (d : Named) → i < length xs →
    after o (passing p e (all_named (take (i + 1) xs))) ≡ after (after o (passing p e (all_named (take i xs)))) (passing p e (named (get_or xs i d) ∷ []))
passing-turn p e o xs i d l = turn (passing p e) (λ y. passing p e (y ∷ [])) (passing-more p e) o xs i d l

pub passing-one : (b : Bool) (e : EarlyError) (o : Option Error) (y : names.Named) → (p : names.Named → Bool) → p y ≡ b → after o (passing p e (y ∷ [])) ≡ cond b (after o ((number e, y.1) ∷ [])) o
passing-one true e o y p h = ap (λ b. after o (each e (places (cond b (y ∷ []) [])))) h
passing-one false e o y p h = ap (λ b. after o (each e (places (cond b (y ∷ []) [])))) h ∙ sooner-none o

-- the names so far, the last first
abbrev pub behind : List names.Named → List names.Named → List names.Named
behind before [] = before
behind before (x ∷ xs) = behind (x ∷ before) xs

pub behind-more : (before xs : List names.Named) (x : names.Named) → behind before (xs ++ x ∷ []) ≡ x ∷ behind before xs
behind-more before [] x = refl
behind-more before (y ∷ xs) x = behind-more (y ∷ before) xs x

pub repeated-more : (before xs : List names.Named) (x : names.Named) → repeated before (xs ++ x ∷ []) ≡ repeated before xs ++ cond (has_name x.0 (behind before xs)) (x ∷ []) []
repeated-more before [] x = one (has_name x.0 before)
  where
    one : (b : Bool) → cond b (x ∷ []) [] ++ [] ≡ cond b (x ∷ []) []
    one true = refl
    one false = refl
repeated-more before (y ∷ xs) x =
    longer (has_name y.0 before) (repeated (y ∷ before) (xs ++ x ∷ [])) (repeated (y ∷ before) xs) (cond (has_name x.0 (behind (y ∷ before) xs)) (x ∷ []) []) (repeated-more (y ∷ before) xs x)
  where
    longer : (b : Bool) (l m n : List names.Named) → l ≡ m ++ n → cond b (y ∷ []) [] ++ l ≡ (cond b (y ∷ []) [] ++ m) ++ n
    longer true l m n e = ap (λ l. y ∷ l) e
    longer false l m n e = e

pub has_name-more : (w : List ℕ) (xs : List names.Named) (x : names.Named) → has_name w (xs ++ x ∷ []) ≡ (bytes_eq w x.0 || has_name w xs)
has_name-more w [] x = refl
has_name-more w (y ∷ xs) x = ap (λ b. bytes_eq w y.0 || b) (has_name-more w xs x) ∙ or-turned (bytes_eq w y.0) (bytes_eq w x.0) (has_name w xs)

pub hits-append : (f : List ℕ → Option Error) (xs ys : List names.Named) → hits f (xs ++ ys) ≡ sooner (hits f xs) (hits f ys)
hits-append f [] ys = refl
hits-append f (x ∷ xs) ys = ap (sooner (f x.0)) (hits-append f xs ys) ∙ sym (sooner-twice (f x.0) (hits f xs) (hits f ys))

pub hits_turn : (f : List ℕ → Option Error) (o : Option Error) (xs : List Named) (i : ℕ) (d : Named) → i < length xs →
    sooner (sooner o (hits f (all_named (take i xs)))) (f (get_or xs i d).name.now) ≡ sooner o (hits f (all_named (take (i + 1) xs)))
hits_turn f o xs i d l =
    let x = named (get_or xs i d) in
    sooner-twice o (hits f (all_named (take i xs))) (f x.0)
    ∙ ap (λ p. sooner o (sooner (hits f (all_named (take i xs))) p)) (sym (sooner-none (f x.0)))
    ∙ ap (sooner o) (sym (ap (hits f) (one_more xs i d l) ∙ hits-append f (all_named (take i xs)) (x ∷ [])))

-- one turn of a loop that reports the names that pass a test
module _ (p : names.Named → Bool) (e : EarlyError) (o found : Option Error) (xs : List Named) (i : ℕ) (d : Named) (l : i < length xs) (so_far : found ≡ after o (passing p e (all_named (take i xs)))) where
  pub turn-passes : p (named (get_or xs i d)) ≡ true → after found ((number e, (get_or xs i d).start) ∷ []) ≡ after o (passing p e (all_named (take (i + 1) xs)))
  turn-passes h =
      ap (λ q. after q ((number e, (get_or xs i d).start) ∷ [])) so_far
      ∙ sym (passing-one true e (after o (passing p e (all_named (take i xs)))) (named (get_or xs i d)) p h)
      ∙ sym (passing-turn p e o xs i d l)

  pub turn-fails : p (named (get_or xs i d)) ≡ false → found ≡ after o (passing p e (all_named (take (i + 1) xs)))
  turn-fails h =
      so_far ∙ sym (passing-one false e (after o (passing p e (all_named (take i xs)))) (named (get_or xs i d)) p h)
      ∙ sym (passing-turn p e o xs i d l)

-- whether a name is among the names so far, in either order
has_name-behind : (w : List ℕ) (before xs : List names.Named) → has_name w (behind before xs) ≡ (has_name w xs || has_name w before)
has_name-behind w before [] = refl
has_name-behind w before (x ∷ xs) = has_name-behind w (x ∷ before) xs ∙ turned (has_name w xs) (bytes_eq w x.0) (has_name w before)
  where
    turned : (a b c : Bool) → (a || (b || c)) ≡ ((b || a) || c)
    turned true true c = refl
    turned true false c = refl
    turned false true c = refl
    turned false false c = refl

behind_is : (w : List ℕ) (xs : List names.Named) → has_name w (behind [] xs) ≡ has_name w xs
behind_is w xs = has_name-behind w [] xs ∙ or_false (has_name w xs)
  where
    or_false : (b : Bool) → (b || false) ≡ b
    or_false true = refl
    or_false false = refl

abbrev pub doubles : EarlyError → List names.Named → List Error
doubles e xs = each e (places (twice xs))

-- the loop over names that stand twice
module _ (e : EarlyError) (o found : Option Error) (xs : List Named) (i : ℕ) (d : Named) (l : i < length xs) (so_far : found ≡ after o (doubles e (all_named (take i xs)))) where
  double-turn : (b : Bool) → has_name (get_or xs i d).name.now (behind [] (all_named (take i xs))) ≡ b →
      after o (doubles e (all_named (take (i + 1) xs))) ≡ after (after o (doubles e (all_named (take i xs)))) (each e (places (cond b (named (get_or xs i d) ∷ []) [])))
  double-turn b h =
      ap (λ ys. after o (doubles e ys)) (one_more xs i d l)
      ∙ ap (λ ys. after o (each e (places ys))) (repeated-more [] (all_named (take i xs)) (named (get_or xs i d)) ∙ ap (λ c. twice (all_named (take i xs)) ++ cond c (named (get_or xs i d) ∷ []) []) h)
      ∙ ap (λ ys. after o (each e ys)) (map-append (λ x. x.1) (twice (all_named (take i xs))) (cond b (named (get_or xs i d) ∷ []) []))
      ∙ ap (after o) (each-append e (places (twice (all_named (take i xs)))) (places (cond b (named (get_or xs i d) ∷ []) [])))
      ∙ after-append o (doubles e (all_named (take i xs))) (each e (places (cond b (named (get_or xs i d) ∷ []) [])))

  pub turn-doubles : has_name (get_or xs i d).name.now (behind [] (all_named (take i xs))) ≡ true → after found ((number e, (get_or xs i d).start) ∷ []) ≡ after o (doubles e (all_named (take (i + 1) xs)))
  turn-doubles h = ap (λ q. after q ((number e, (get_or xs i d).start) ∷ [])) so_far ∙ sym (double-turn true h)

  pub turn-alone : has_name (get_or xs i d).name.now (behind [] (all_named (take i xs))) ≡ false → found ≡ after o (doubles e (all_named (take (i + 1) xs)))
  turn-alone h = so_far ∙ sym (sooner-none (after o (doubles e (all_named (take i xs))))) ∙ sym (double-turn false h)

  -- where the names so far are looked at in their order
  pub turn-again : has_name (get_or xs i d).name.now (all_named (take i xs)) ≡ true → after found ((number e, (get_or xs i d).start) ∷ []) ≡ after o (doubles e (all_named (take (i + 1) xs)))
  turn-again h = turn-doubles (behind_is (get_or xs i d).name.now (all_named (take i xs)) ∙ h)

  pub turn-first : has_name (get_or xs i d).name.now (all_named (take i xs)) ≡ false → found ≡ after o (doubles e (all_named (take (i + 1) xs)))
  turn-first h = turn-alone (behind_is (get_or xs i d).name.now (all_named (take i xs)) ∙ h)

-- whether a name is among names, looked at one by one
module _ (w : List ℕ) where
  pub among-turn : (xs : List Named) (i : ℕ) (d : Named) → i < length xs → (b : Bool) → b ≡ bytes_eq w (get_or xs i d).name.now → (b || has_name w (all_named (drop (i + 1) xs))) ≡ has_name w (all_named (drop i xs))
  among-turn xs i d l b e = ap (λ c. c || has_name w (all_named (drop (i + 1) xs))) e ∙ sym (ap (λ ys. has_name w (all_named ys)) (drop_more xs i d l))

  pub among-none : (xs : List Named) (i : ℕ) → length xs ≤ i → false ≡ has_name w (all_named (drop i xs))
  among-none [] zero l = refl
  among-none [] (suc i) l = refl
  among-none (x ∷ xs) zero l = absurd (omega (arith, l))
  among-none (x ∷ xs) (suc i) l = among-none xs i (omega (arith, l))
