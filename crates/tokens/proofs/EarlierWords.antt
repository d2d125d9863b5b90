-- An earlier token is one of today, but for `&&`, `||` and `??` directly before `=`.
use Rattle.std.proofs.Common.{◌≡◌, ℕ, Bool, true, false, not, ◌&&◌, ◌||◌, List, [], ◌∷◌, ◌++◌, IsTrue, IsFalse, refl, sym, ap, ◌∙◌, subst, append_assoc, arith, inl, inr, ◌⊎◌, codes}
use Rattle.std.proofs.lemmas.Bool.Decides.{nat_tests}
use Rattle.std.proofs.lemmas.Bool.{and_parts, and_from}
use Rattle.std.proofs.lemmas.Slice.Eq.{bytes_eq-Decides}
use Prim.Native.String.{String}
use Rattle.std.specs.List.{list_any}
use Rattle.std.specs.Str.{bytes_eq}
use Rattle.tokens.specs.Alphabet.{one_of, begins_with, is_identifier_start, is_decimal_digit}
use Rattle.tokens.specs.Numbers.{Numeral, unread, next_numeral, numeral_after, is_complete, no_numeral}
use Rattle.tokens.specs.Lexical.{LexicalClass, IdentifierName, Punctuator, NumericLiteral, StringLiteral, Template, RegularExpressionLiteral, PrivateName, Keyword, End, is_one_of_words, is_at, none_longer, ends_well, is_token}
use Rattle.tokens.specs.States.{is_dead}
use Rattle.tokens.specs.Earlier.{is_new, earlier_is_at, earlier_none_longer, earlier_is_token}
use Rattle.tokens.proofs.Beginnings.{true_false}
use Rattle.tokens.proofs.Classes.{dead_stays}
use Rattle.tokens.proofs.Longest.{and_first, and_second, none_is_longer}
use Rattle.tokens.proofs.Numerals.{behind_append, dead_is, whole_kind}

-- the punctuators that go on with `=` today alone
abbrev pub longer_today : List String
longer_today = "&&" ∷ "||" ∷ "??" ∷ []

abbrev pub meets_equals : LexicalClass → List ℕ → List ℕ → Bool
meets_equals Punctuator word rest = is_one_of_words longer_today word && begins_with (one_of "=") rest
meets_equals _ word rest = false

-- what earlier_none_longer says
earlier_longer : (class : LexicalClass) (text : List ℕ) (c : ℕ) (more rest : List ℕ) → IsTrue (earlier_none_longer class text (c ∷ more ++ rest)) → IsFalse (earlier_is_at class (text ++ c ∷ more) rest)
earlier_longer class text c [] rest h = and_first _ _ h
earlier_longer class text c (d ∷ more) rest h =
    let P : List ℕ → Type 0 = λ w. IsFalse (earlier_is_at class w rest) in
    subst P (append_assoc text (c ∷ []) (d ∷ more)) (earlier_longer class (text ++ c ∷ []) d more rest (and_second _ _ h))

-- the three parts of the test
parts : (a n e : Bool) → IsTrue ((a && n) && e) → IsTrue a × IsTrue n × IsTrue e
parts a n e h = (grind (arith, nat_tests), grind (arith, nat_tests), grind (arith, nat_tests))

whole : (a n e : Bool) → IsTrue a → IsTrue n → IsTrue e → IsTrue ((a && n) && e)
whole a n e h k l = grind (arith, nat_tests)

-- what isn't new isn't there
unless_new : (a b : Bool) → IsFalse (a && not b) → (IsTrue a → IsTrue b → ⊥) → IsFalse a
unless_new true true h f = absurd (f refl refl)
unless_new true false h f = h
unless_new false b h f = refl

-- a text of today where none longer that is new stands
stays : (class : LexicalClass) (word rest : List ℕ) → IsTrue (earlier_is_token class word rest) →
    ((c : ℕ) (more behind : List ℕ) → rest ≡ c ∷ more ++ behind → IsTrue (is_at class (word ++ c ∷ more) behind) → IsTrue (is_new class (word ++ c ∷ more)) → ⊥) → IsTrue (is_token class word rest)
stays class word rest h none =
    let p = parts (earlier_is_at class word rest) (earlier_none_longer class word rest) (ends_well class rest) h in
    whole (is_at class word rest) (none_longer class word rest) (ends_well class rest) (and_parts _ _ p.0).0
    (none_is_longer class word rest (λ c more behind e.
    unless_new (is_at class (word ++ c ∷ more) behind) (is_new class (word ++ c ∷ more))
    (earlier_longer class word c more behind (subst (λ r. IsTrue (earlier_none_longer class word r)) e p.1)) (none c more behind e))) p.2

-- ---- numbers

-- a separator would follow a number, or stand in an earlier one
number_stays : (word rest : List ℕ) → IsTrue (earlier_is_token NumericLiteral word rest) → IsTrue (is_token NumericLiteral word rest)
number_stays word rest h = stays NumericLiteral word rest h goes_on
  where
    p : IsTrue (earlier_is_at NumericLiteral word rest) × IsTrue (earlier_none_longer NumericLiteral word rest) × IsTrue (ends_well NumericLiteral rest)
    p = parts (earlier_is_at NumericLiteral word rest) (earlier_none_longer NumericLiteral word rest) (ends_well NumericLiteral rest) h

    old : (a b : Bool) → IsTrue ((a && true) && not b) → (a ≡ true) × (b ≡ false)
    old a b h = (grind (arith, nat_tests), grind (arith, nat_tests))

    any_append : (test : ℕ → Bool) (v : List ℕ) (x : ℕ) → list_any test v ≡ false → test x ≡ false → list_any test (v ++ x ∷ []) ≡ false
    any_append test [] x h k = ap (λ b. b || false) k
    any_append test (c ∷ v) x h k = let q = neither (test c) (list_any test v) h in both (test c) (list_any test (v ++ x ∷ [])) q.0 (any_append test v x q.1 k)
      where
        neither : (a b : Bool) → (a || b) ≡ false → (a ≡ false) × (b ≡ false)
        neither a b h = (grind (arith, nat_tests), grind (arith, nat_tests))

        both : (a b : Bool) → a ≡ false → b ≡ false → (a || b) ≡ false
        both a b h k = grind (arith, nat_tests)

    no_separator : (c : ℕ) (x d : Bool) → IsTrue (not ((one_of "$_" c || x) || d)) → one_of "_" c ≡ false
    no_separator c x d h = grind (arith, nat_tests)

    no_start : (s d : Bool) → IsTrue (not (s || d)) → s ≡ false
    no_start s d h = grind (arith, nat_tests)

    at_least : (a b : Bool) → a ≡ true → b ≡ false → IsTrue ((a && true) && not b)
    at_least a b h k = grind (arith, nat_tests)

    decide : (dead complete start : Bool) → IsTrue (dead || complete || start) → start ≡ false → complete ≡ false → IsTrue dead
    decide dead complete start h k l = grind (arith, nat_tests)

    not_true : (a : Bool) → (IsTrue a → ⊥) → a ≡ false
    not_true true f = absurd (f refl)
    not_true false f = refl

    goes_on : (c : ℕ) (more behind : List ℕ) → rest ≡ c ∷ more ++ behind → IsTrue (is_at NumericLiteral (word ++ c ∷ more) behind) → IsTrue (is_new NumericLiteral (word ++ c ∷ more)) → ⊥
    goes_on c more behind e k l =
        let o = old (is_complete (numeral_after unread word)) (list_any (one_of "_") word) p.0 in
        let ends : IsTrue (ends_well NumericLiteral (c ∷ more ++ behind)) = subst (λ r. IsTrue (ends_well NumericLiteral r)) e p.2 in
        let sep : one_of "_" c ≡ false = no_separator c (Rattle.unicode_ident.specs.Ident.is_xid_start c) (is_decimal_digit c) ends in
        let start : is_identifier_start c ≡ false = no_start (is_identifier_start c) (is_decimal_digit c) ends in
        let one : IsFalse (earlier_is_at NumericLiteral (word ++ c ∷ []) (more ++ behind)) =
        and_first _ _ (subst (λ r. IsTrue (earlier_none_longer NumericLiteral word r)) e p.1) in
        let next : Numeral = next_numeral (numeral_after unread word) c in
        let same : numeral_after unread (word ++ c ∷ []) ≡ next = behind_append unread word (c ∷ []) in
        let open_ : is_complete next ≡ false = not_true (is_complete next) (λ z.
        true_false _ (at_least _ _ (ap is_complete same ∙ z) (any_append (one_of "_") word c o.1 sep)) one) in
        let dead : IsTrue (is_dead next) = decide (is_dead next) (is_complete next) (is_identifier_start c) (whole_kind (numeral_after unread word) c o.0) start open_ in
        let gone : numeral_after unread (word ++ c ∷ more) ≡ no_numeral = behind_append unread word (c ∷ more) ∙ ap (λ s. numeral_after s more) (dead_is next dead) ∙ dead_stays more in
        true_false _ k (ap (λ s. is_complete s && true) gone)

-- ---- punctuators

-- where a word of three characters is cut
data Cut (k : ℕ) (w : List ℕ) (x : ℕ) (xs : List ℕ) : Type 0 where
  at_first : w ≡ [] → Cut k w x xs
  at_second : w ≡ k ∷ [] → x ≡ k → xs ≡ 61 ∷ [] → Cut k w x xs
  at_third : w ≡ k ∷ k ∷ [] → x ≡ 61 → Cut k w x xs

cut : (k : ℕ) (w : List ℕ) (x : ℕ) (xs : List ℕ) → w ++ x ∷ xs ≡ k ∷ k ∷ 61 ∷ [] → Cut k w x xs
cut k [] x xs e = at_first refl
cut k (a ∷ []) x xs e = let p : a ≡ k = cc in let q : x ≡ k = cc in let r : xs ≡ 61 ∷ [] = cc in at_second (ap (λ z. z ∷ []) p) q r
cut k (a ∷ b ∷ []) x xs e = let p : a ≡ k = cc in let q : b ≡ k = cc in let r : x ≡ 61 = cc in at_third (ap (λ z. z ∷ b ∷ []) p ∙ ap (λ z. k ∷ z ∷ []) q) r
cut k (a ∷ b ∷ d ∷ []) x xs e = let z : x ∷ xs ≡ [] = cc in absurd (let y : x ∷ xs ≡ [] = z in cc)
cut k (a ∷ b ∷ d ∷ f ∷ w) x xs e = let z : f ∷ w ++ x ∷ xs ≡ [] = cc in absurd (let y : f ∷ w ++ x ∷ xs ≡ [] = z in cc)

punctuator_stays : (word rest : List ℕ) → IsTrue (earlier_is_token Punctuator word rest) → meets_equals Punctuator word rest ≡ false → IsTrue (is_token Punctuator word rest)
punctuator_stays word rest h m = stays Punctuator word rest h goes_on
  where
    p : IsTrue (earlier_is_at Punctuator word rest) × IsTrue (earlier_none_longer Punctuator word rest) × IsTrue (ends_well Punctuator rest)
    p = parts (earlier_is_at Punctuator word rest) (earlier_none_longer Punctuator word rest) (ends_well Punctuator rest) h

    -- such a word is one of the class, goes on with its character, and may not stand before `=`
    by_cut : (k : ℕ) (more behind : List ℕ) (c : ℕ) → rest ≡ c ∷ more ++ behind → IsTrue (is_one_of_words longer_today (k ∷ k ∷ [])) → ((r : List ℕ) → IsTrue (earlier_is_at Punctuator (k ∷ k ∷ []) (61 ∷ r))) →
        Cut k word c more → ⊥
    by_cut k more behind c e l two (at_first w) = true_false _ (subst (λ v. IsTrue (earlier_is_at Punctuator v rest)) w p.0) refl
    by_cut k more behind c e l two (at_second w x xs) =
        true_false _ (two behind)
        (subst (λ z. IsFalse (earlier_is_at Punctuator (k ∷ z ∷ []) (61 ∷ behind))) x
        (subst (λ z. IsFalse (earlier_is_at Punctuator (k ∷ c ∷ []) (z ++ behind))) xs
        (subst (λ v. IsFalse (earlier_is_at Punctuator (v ++ c ∷ []) (more ++ behind))) w
        (and_first _ _ (subst (λ r. IsTrue (earlier_none_longer Punctuator word r)) e p.1)))))
    by_cut k more behind c e l two (at_third w x) =
        true_false _ (and_from _ _ (subst (λ v. IsTrue (is_one_of_words longer_today v)) (sym w) l) (subst (λ r. IsTrue (begins_with (one_of "=") r)) (sym e) (subst (λ z. IsTrue (one_of "=" z)) (sym x) refl))) m

    by_word : (a b d : Bool) (w : List ℕ) → (a ≡ true → w ≡ codes "&&=") → (b ≡ true → w ≡ codes "||=") → (d ≡ true → w ≡ codes "??=") → IsTrue (a || (b || (d || false))) →
        (w ≡ codes "&&=") ⊎ ((w ≡ codes "||=") ⊎ (w ≡ codes "??="))
    by_word true b d w f g i h = inl (f refl)
    by_word false true d w f g i h = inr (inl (g refl))
    by_word false false true w f g i h = inr (inr (i refl))
    by_word false false false w f g i h = absurd (true_false _ h refl)

    goes_on : (c : ℕ) (more behind : List ℕ) → rest ≡ c ∷ more ++ behind → IsTrue (is_at Punctuator (word ++ c ∷ more) behind) → IsTrue (is_new Punctuator (word ++ c ∷ more)) → ⊥
    goes_on c more behind e k l =
        let v : List ℕ = word ++ c ∷ more in
        elim (by_word (bytes_eq v (codes "&&=")) (bytes_eq v (codes "||=")) (bytes_eq v (codes "??=")) v (λ z. (bytes_eq-Decides v (codes "&&=")).0 z) (λ z. (bytes_eq-Decides v (codes "||=")).0 z) (λ z. (bytes_eq-Decides v (codes "??=")).0 z) l) [
          | inl q ↦ by_cut 38 more behind c e refl (λ r. refl) (cut 38 word c more q)
          | inr q ↦ elim q [
            | inl q ↦ by_cut 124 more behind c e refl (λ r. refl) (cut 124 word c more q)
            | inr q ↦ by_cut 63 more behind c e refl (λ r. refl) (cut 63 word c more q)
          ]
        ]

-- ---- all classes

-- nothing is new in the other classes
nothing_new : (class : LexicalClass) (word rest : List ℕ) → IsTrue (earlier_is_token class word rest) → ((v : List ℕ) → is_new class v ≡ false) → IsTrue (is_token class word rest)
nothing_new class word rest h none = stays class word rest h (λ c more behind e k l. true_false _ l (none (word ++ c ∷ more)))

-- all of a class is new
all_new : (a n e : Bool) → IsTrue (((a && false) && n) && e) → ⊥
all_new true n e h = true_false _ h refl
all_new false n e h = true_false _ h refl

pub earlier_stays : (class : LexicalClass) (word rest : List ℕ) → IsTrue (earlier_is_token class word rest) → meets_equals class word rest ≡ false → IsTrue (is_token class word rest)
earlier_stays Punctuator word rest h m = punctuator_stays word rest h m
earlier_stays NumericLiteral word rest h m = number_stays word rest h
earlier_stays IdentifierName word rest h m = nothing_new IdentifierName word rest h (λ v. refl)
earlier_stays StringLiteral word rest h m = nothing_new StringLiteral word rest h (λ v. refl)
earlier_stays Template word rest h m = nothing_new Template word rest h (λ v. refl)
earlier_stays RegularExpressionLiteral word rest h m = nothing_new RegularExpressionLiteral word rest h (λ v. refl)
earlier_stays PrivateName word rest h m = absurd (all_new (is_at PrivateName word rest) (earlier_none_longer PrivateName word rest) (ends_well PrivateName rest) h)
earlier_stays Keyword word rest h m = absurd (all_new (is_at Keyword word rest) (earlier_none_longer Keyword word rest) (ends_well Keyword rest) h)
earlier_stays End word rest h m = nothing_new End word rest h (λ v. refl)
