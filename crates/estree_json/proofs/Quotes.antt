-- Texts without their quotes, and round their slashes.
use Rattle.std.proofs.Common.{◌≡◌, ℕ, suc, ◌<◌, List, [], ◌∷◌, ◌++◌, Bool, true, false, ◌||◌, length, drop, get_or, None, refl, sym, ap, arith, ◌==◌, lit<, take-append-drop}
use Rattle.std.proofs.lemmas.Bool.{ne_eqb}
use Rattle.std.specs.Str.Pattern.{RFindsChar, SplitsAroundMatch}
use Rattle.std.proofs.lemmas.Str.Pattern.{NoCharPasses-char, drop_at_char}
use Rattle.tokens.specs.Alphabet.{one_of}
use Rattle.estree_json.specs.Texts.{without_first, without_last, has_slash, before_slash, after_slash, literal_regex}

pub no_quote_first : (bs : List ℕ) → ((rest : List ℕ) → ¬ (bs ≡ 34 ∷ rest)) → ((rest : List ℕ) → ¬ (bs ≡ 39 ∷ rest)) → bs ≡ without_first bs
no_quote_first [] h k = refl
no_quote_first (c ∷ cs) h k =
    let d : (c == 34) ≡ false = ne_eqb c 34 (λ e. h cs (ap (λ x. x ∷ cs) e)) in
    let s : (c == 39) ≡ false = ne_eqb c 39 (λ e. k cs (ap (λ x. x ∷ cs) e)) in
    rw (d, s)

pub quote_last : (q : ℕ) (xs : List ℕ) → one_of "'\"" q ≡ true → without_last (xs ++ q ∷ []) ≡ xs
quote_last q [] h = rw h
quote_last q (x ∷ []) h = rw h
quote_last q (x ∷ y ∷ ys) h = ap (λ zs. x ∷ zs) (quote_last q (y ∷ ys) h)

pub no_quote_last : (bs : List ℕ) → ((front : List ℕ) → ¬ (bs ≡ front ++ 34 ∷ [])) → ((front : List ℕ) → ¬ (bs ≡ front ++ 39 ∷ [])) → bs ≡ without_last bs
no_quote_last [] h k = refl
no_quote_last (c ∷ []) h k =
    let d : (c == 34) ≡ false = ne_eqb c 34 (λ e. h [] (ap (λ x. x ∷ []) e)) in
    let s : (c == 39) ≡ false = ne_eqb c 39 (λ e. k [] (ap (λ x. x ∷ []) e)) in
    rw (d, s)
no_quote_last (c ∷ d ∷ ds) h k =
    ap (λ zs. c ∷ zs) (no_quote_last (d ∷ ds) (λ front e. h (c ∷ front) (ap (λ zs. c ∷ zs) e)) (λ front e. k (c ∷ front) (ap (λ zs. c ∷ zs) e)))

pub no_regex : (bs : List ℕ) → ((rest : List ℕ) → ¬ (bs ≡ 47 ∷ rest)) → None ≡ literal_regex bs
no_regex [] h = refl
no_regex (c ∷ cs) h = let d : (c == 47) ≡ false = ne_eqb c 47 (λ e. h cs (ap (λ x. x ∷ cs) e)) in rw d

pub lacks_slash : (bs : List ℕ) → ((i : ℕ) → i < length bs → ¬ (get_or bs i 0 ≡ 47)) → has_slash bs ≡ false
lacks_slash [] h = refl
lacks_slash (c ∷ cs) h =
    let d : (c == 47) ≡ false = ne_eqb c 47 (h 0 (omega arith)) in
    rw d (lacks_slash cs (λ i l. h (suc i) (omega arith)))

or_left : (a b : Bool) → (a || b) ≡ false → a ≡ false
or_left false b h = refl
or_left true b h = h

or_right : (a b : Bool) → (a || b) ≡ false → b ≡ false
or_right false b h = h
or_right true b h = absurd (cc)

or_true : (a : Bool) → (a || true) ≡ true
or_true true = refl
or_true false = refl

pub none_before : (bs : List ℕ) → has_slash bs ≡ false → [] ≡ before_slash bs
none_before [] h = refl
none_before (c ∷ cs) h = rw (or_right (c == 47) (has_slash cs) h)

pub none_behind : (bs : List ℕ) → has_slash bs ≡ false → [] ≡ after_slash bs
none_behind [] h = refl
none_behind (c ∷ cs) h = rw (or_right (c == 47) (has_slash cs) h, or_left (c == 47) (has_slash cs) h)

has_one : (front back : List ℕ) → has_slash (front ++ 47 ∷ back) ≡ true
has_one [] back = refl
has_one (c ∷ cs) back = rw (has_one cs back) (or_true (c == 47))

pub stands_before : (front back : List ℕ) → has_slash back ≡ false → front ≡ before_slash (front ++ 47 ∷ back)
stands_before [] back h = rw h
stands_before (c ∷ cs) back h = rw (has_one cs back) (ap (λ zs. c ∷ zs) (stands_before cs back h))

pub stands_behind : (front back : List ℕ) → has_slash back ≡ false → back ≡ after_slash (front ++ 47 ∷ back)
stands_behind [] back h = rw h
stands_behind (c ∷ cs) back h = rw (has_one cs back) (stands_behind cs back h)

pub no_slash : (bs : List ℕ) → RFindsChar 47 bs None → has_slash bs ≡ false
no_slash bs h = lacks_slash bs (λ k l. NoCharPasses-char 47 bs k h (lit< tt) l)

-- the two sides of the last slash
pub round_slash : (bs front back : List ℕ) → SplitsAroundMatch (RFindsChar 47) bs front back → (bs ≡ front ++ 47 ∷ back) × (has_slash back ≡ false)
round_slash bs front back (i, j, found, is_front, is_back, le, _, _) =
    let at : drop i bs ≡ 47 ∷ drop j bs = drop_at_char 47 bs i j found.1 (lit< tt) in
    let none : has_slash (drop j bs) ≡ false = lacks_slash (drop j bs) (λ k l. NoCharPasses-char 47 (drop j bs) k found.0 (lit< tt) l) in
    (rw (is_front, is_back, ← at) (sym (take-append-drop i bs)), rw is_back none)
