-- What clashes with a `var`, by the `var` or by the name: turned round it is the same.
use Rattle.std.proofs.Common.{◌≡◌, ℕ, Bool, true, false, cond, List, [], ◌∷◌, ◌++◌, Option, Some, None, refl, sym, ap, ◌∙◌}
use Rattle.std.specs.Prelude.{◌||◌}
use Rattle.std.specs.Str.{bytes_eq}
use Rattle.std.proofs.lemmas.Slice.Eq.{bytes_eq-Decides}
use Rattle.early_errors.specs.declared.EarlyError.{EarlyError}
use Rattle.early_errors.specs.Names.{Named, places, has_name, shared}
use Rattle.early_errors.specs.Early.{Error, each, number, least}
use Rattle.name_tables.specs.Tables.{Agree}
use Rattle.early_errors.specs.Walk.{sooner, hits, clashing}
use Rattle.early_errors.proofs.Least.{sooner-none, sooner-twice, sooner-turns, sooner-same}

abbrev one : (List ℕ → Option Error) → EarlyError → Named → List ℕ → Option Error
one f e x w = cond (bytes_eq x.0 w) (sooner (f x.0) (Some (number e, x.1))) (f w)

abbrev found_if : Bool → EarlyError → Named → Option Error
found_if b e x = cond b (Some (number e, x.1)) None

-- a name more, with one `var`
one-hit : (f : List ℕ → Option Error) (e : EarlyError) (x v : Named) (b : Bool) → bytes_eq x.0 v.0 ≡ b → one f e x v.0 ≡ sooner (f v.0) (found_if b e x)
one-hit f e x v true h =
    ap (λ b. cond b (sooner (f x.0) (Some (number e, x.1))) (f v.0)) h ∙ ap (λ w. sooner (f w) (Some (number e, x.1))) ((bytes_eq-Decides x.0 v.0).0 h)
one-hit f e x v false h = ap (λ b. cond b (sooner (f x.0) (Some (number e, x.1))) (f v.0)) h ∙ sym (sooner-none (f v.0))

either : (b c : Bool) (e : EarlyError) (x : Named) → sooner (found_if b e x) (found_if c e x) ≡ found_if (b || c) e x
either true true e x = sooner-same (Some (number e, x.1))
either true false e x = refl
either false c e x = refl

four-turn : (a b c d : Option Error) → sooner (sooner a b) (sooner c d) ≡ sooner (sooner a c) (sooner b d)
four-turn a b c d = sym (sooner-twice (sooner a b) c d) ∙ ap (λ x. sooner x d) (sooner-turns a b c) ∙ sooner-twice (sooner a c) b d

-- a name more, with all `var`s
one-turned : (f : List ℕ → Option Error) (e : EarlyError) (x : Named) (vs : List Named) → hits (one f e x) vs ≡ sooner (hits f vs) (found_if (has_name x.0 vs) e x)
one-turned f e x [] = refl
one-turned f e x (v ∷ vs) =
    (λ i. sooner (one-hit f e x v (bytes_eq x.0 v.0) refl i) (one-turned f e x vs i))
    ∙ four-turn (f v.0) (found_if (bytes_eq x.0 v.0) e x) (hits f vs) (found_if (has_name x.0 vs) e x)
    ∙ ap (sooner (sooner (f v.0) (hits f vs))) (either (bytes_eq x.0 v.0) (has_name x.0 vs) e x)

least-one : (b : Bool) (e : EarlyError) (x : Named) (xs : List Named) → least (each e (places (cond b (x ∷ xs) xs))) ≡ sooner (found_if b e x) (least (each e (places xs)))
least-one true e x xs = refl
least-one false e x xs = refl

pub turned : (f : List ℕ → Option Error) (e : EarlyError) (xs vs : List Named) → hits (clashing f e xs) vs ≡ sooner (hits f vs) (least (each e (places (shared xs vs))))
turned f e [] vs = sym (sooner-none (hits f vs))
turned f e (x ∷ xs) vs =
    turned (one f e x) e xs vs ∙ ap (λ o. sooner o (least (each e (places (shared xs vs))))) (one-turned f e x vs)
    ∙ sooner-twice (hits f vs) (found_if (has_name x.0 vs) e x) (least (each e (places (shared xs vs))))
    ∙ ap (sooner (hits f vs)) (sym (least-one (has_name x.0 vs) e x (shared xs vs)))

pub hits-agree : (f g : List ℕ → Option Error) (vs : List Named) → Agree f g → hits f vs ≡ hits g vs
hits-agree f g [] h = refl
hits-agree f g (v ∷ vs) h = λ i. sooner (h v.0 i) (hits-agree f g vs h i)

-- names that clash with one list or with another
pub shared-both : (e : EarlyError) (xs ys zs : List Named) → least (each e (places (shared xs (ys ++ zs)))) ≡ sooner (least (each e (places (shared xs ys)))) (least (each e (places (shared xs zs))))
shared-both e [] ys zs = refl
shared-both e (x ∷ xs) ys zs =
    least-one (has_name x.0 (ys ++ zs)) e x (shared xs (ys ++ zs))
    ∙ (λ i. sooner ((ap (λ b. found_if b e x) (has_both x.0 ys) ∙ sym (either (has_name x.0 ys) (has_name x.0 zs) e x)) i) (shared-both e xs ys zs i))
    ∙ four-turn (found_if (has_name x.0 ys) e x) (found_if (has_name x.0 zs) e x) (least (each e (places (shared xs ys)))) (least (each e (places (shared xs zs))))
    ∙ sym (λ i. sooner (least-one (has_name x.0 ys) e x (shared xs ys) i) (least-one (has_name x.0 zs) e x (shared xs zs) i))
  where
    has_both : (w : List ℕ) (bs : List Named) → has_name w (bs ++ zs) ≡ (has_name w bs || has_name w zs)
    has_both w [] = refl
    has_both w (a ∷ bs) = or (bytes_eq w a.0) bs (has_both w bs)
      where
        or : (b : Bool) (bs : List Named) → has_name w (bs ++ zs) ≡ (has_name w bs || has_name w zs) → (b || has_name w (bs ++ zs)) ≡ ((b || has_name w bs) || has_name w zs)
        or true bs h = refl
        or false bs h = h
