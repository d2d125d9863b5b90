-- The raw value of a template's part is a template's part again, and its own raw value.
use Rattle.std.proofs.Common.{◌≡◌, ℕ, suc, ◌<◌, ◌≤◌, Bool, true, false, not, ◌&&◌, ◌||◌, List, [], ◌∷◌, ◌++◌, length, get_or, refl, sym, ap, ◌∙◌, subst, arith, ◌⊎◌, inl, inr}
use Rattle.std.specs.Prelude.{IsTrue, encode_utf8_all, ◌==◌, if◌then◌else◌}
use Rattle.std.specs.Char.{encode_utf8}
use Rattle.std.specs.Str.{chars, IsUtf8, all_scalars}
use Rattle.std.proofs.lemmas.Bool.{cases_lt, false≢true, and_parts, and_from}
use Rattle.std.proofs.lemmas.Bool.Decides.{nat_tests}
use Rattle.std.proofs.lemmas.List.{append-nil}
use Rattle.std.proofs.lemmas.Str.{encode_ascii, encodes-append, encodes-chars, length-encode, len_utf8_bounds, inside_one, chars_from_encodes, scalars-chars}
use Rattle.tokens.specs.declared.token.TokenClass.TheVariants.{Template}
use Rattle.tokens.specs.Alphabet.{one_of, is_empty, carriage_return, line_feed}
use Rattle.tokens.specs.Closers.{ends_part}
use Rattle.tokens.specs.Lexical.{is_of}
use Rattle.tokens.specs.Templates.{closes_template, is_template, line_end_turned, raw_after, raw_value}
use Rattle.tokens.proofs.Beginnings.{true_false}
use Rattle.tokens.proofs.Parts.{ends_same}
use Rattle.tokens.proofs.LiteralValues.{raw_again}
use Rattle.language.specs.Token.{table_text}
use Rattle.language.proofs.layout.WordsApart.{Word}

is_equal : (a d : ℕ) → (a == d) ≡ true → a ≡ d
is_equal a d h = grind (arith, nat_tests)

isnt : (a d : ℕ) → d < a → (a == d) ≡ false
isnt a d h = grind (arith, nat_tests)

-- a byte of no ASCII character stays
turned_high : (r : Bool) (b : ℕ) → 128 ≤ b → line_end_turned r b ≡ b ∷ []
turned_high r b h = of (b == line_feed) (b == carriage_return) r (isnt b 10 (omega arith)) (isnt b 13 (omega arith))
  where
    of : (x y r : Bool) → x ≡ false → y ≡ false → (if r && x then [] else if y then line_feed ∷ [] else b ∷ []) ≡ b ∷ []
    of true y r e f = cc
    of false true r e f = cc
    of false false true e f = refl
    of false false false e f = refl

-- so do several
pub raw_high : (bs cs : List ℕ) (r : Bool) → 0 < length bs → ((k : ℕ) → k < length bs → 128 ≤ get_or bs k 0) → raw_after r (bs ++ cs) ≡ bs ++ raw_after false cs
raw_high [] cs r some high = absurd (omega arith)
raw_high (b ∷ []) cs r some high =
    let low : 128 ≤ b = high 0 (omega arith) in
    ap (λ x. x ++ raw_after (b == carriage_return) cs) (turned_high r b low) ∙ ap (λ x. b ∷ raw_after x cs) (isnt b 13 (omega arith))
raw_high (b ∷ d ∷ bs) cs r some high =
    let low : 128 ≤ b = high 0 (omega arith) in
    ap (λ x. x ++ raw_after (b == carriage_return) (d ∷ bs ++ cs)) (turned_high r b low)
    ∙ ap (λ x. b ∷ raw_after x (d ∷ bs ++ cs)) (isnt b 13 (omega arith))
    ∙ ap (λ x. b ∷ x) (raw_high (d ∷ bs) cs false (omega arith) (λ k l. high (suc k) (omega arith)))

encode_high : (c k : ℕ) → 128 ≤ c → k < length (encode_utf8 c) → 128 ≤ get_or (encode_utf8 c) k 0
encode_high c k high l = of (cases_lt (get_or (encode_utf8 c) k 0) 128)
  where
    of : (get_or (encode_utf8 c) k 0 < 128) ⊎ (128 ≤ get_or (encode_utf8 c) k 0) → 128 ≤ get_or (encode_utf8 c) k 0
    of (inr h) = h
    of (inl h) = let same = inside_one c [] (encode_utf8 c) k (sym (append-nil (encode_utf8 c))) l h in absurd (omega arith)

turned_low : (r : Bool) (c : ℕ) → c < 128 → encode_utf8_all (line_end_turned r c) ≡ line_end_turned r c
turned_low r c low = of (r && (c == line_feed)) (c == carriage_return)
  where
    of : (x y : Bool) → encode_utf8_all (if x then [] else if y then line_feed ∷ [] else c ∷ []) ≡ (if x then [] else if y then line_feed ∷ [] else c ∷ [])
    of true y = refl
    of false true = ap (λ x. x ++ encode_utf8_all []) (encode_ascii 10 (omega arith))
    of false false = ap (λ x. x ++ encode_utf8_all []) (encode_ascii c low)

-- the raw value of characters in UTF-8 is that of their bytes
pub raw_encoded : (cs : List ℕ) (r : Bool) → encode_utf8_all (raw_after r cs) ≡ raw_after r (encode_utf8_all cs)
raw_encoded [] r = refl
raw_encoded (c ∷ cs) r = of (raw_encoded cs (c == carriage_return)) (cases_lt c 128)
  where
    of : encode_utf8_all (raw_after (c == carriage_return) cs) ≡ raw_after (c == carriage_return) (encode_utf8_all cs) → (c < 128) ⊎ (128 ≤ c) →
        encode_utf8_all (line_end_turned r c ++ raw_after (c == carriage_return) cs) ≡ raw_after r (encode_utf8 c ++ encode_utf8_all cs)
    of rest (inl low) =
        encodes-append (line_end_turned r c) (raw_after (c == carriage_return) cs)
        ∙ ap (λ x. x ++ encode_utf8_all (raw_after (c == carriage_return) cs)) (turned_low r c low)
        ∙ ap (λ x. line_end_turned r c ++ x) rest
        ∙ ap (λ x. raw_after r (x ++ encode_utf8_all cs)) (sym (encode_ascii c low))
    of rest (inr high) =
        ap (λ x. encode_utf8_all (x ++ raw_after (c == carriage_return) cs)) (turned_high r c high)
        ∙ ap (λ x. encode_utf8 c ++ x) (rest ∙ ap (λ x. raw_after x (encode_utf8_all cs)) (isnt c 13 (omega arith)))
        ∙ sym (raw_high (encode_utf8 c) (encode_utf8_all cs) r (omega (arith, length-encode c, (len_utf8_bounds c).0)) (λ k l. encode_high c k high l))

pub raw_bytes : (w : List ℕ) → IsUtf8 w → encode_utf8_all (raw_value (chars w)) ≡ raw_value w
raw_bytes w u = raw_encoded (chars w) false ∙ ap raw_value (encodes-chars w u)

-- and of characters
raw_scalars : (r : Bool) (cs : List ℕ) → all_scalars cs ≡ true → all_scalars (raw_after r cs) ≡ true
raw_scalars r [] h = refl
raw_scalars r (c ∷ cs) h = of (r && (c == line_feed)) (c == carriage_return) (and_from _ _ (and_parts _ _ h).0 refl) (raw_scalars (c == carriage_return) cs (and_parts _ _ h).1)
  where
    of : (x y : Bool) → all_scalars (c ∷ []) ≡ true → all_scalars (raw_after (c == carriage_return) cs) ≡ true → all_scalars ((if x then [] else if y then line_feed ∷ [] else c ∷ []) ++ raw_after (c == carriage_return) cs) ≡ true
    of true y s h = h
    of false true s h = h
    of false false s h = and_from _ _ (and_parts _ _ s).0 h

-- A part's end stays where it is

-- one character that turns no line end
turned_plain : (r : Bool) (c : ℕ) → (r && (c == line_feed)) ≡ false → (c == carriage_return) ≡ false → line_end_turned r c ≡ c ∷ []
turned_plain r c e f = of (r && (c == line_feed)) (c == carriage_return) e f
  where
    of : (x y : Bool) → x ≡ false → y ≡ false → (if x then [] else if y then line_feed ∷ [] else c ∷ []) ≡ c ∷ []
    of true y e f = cc
    of false true e f = cc
    of false false e f = refl

abbrev Below : List ℕ → Type 0
Below cs = (r t d : Bool) → (r ≡ true → (t ≡ false) × (d ≡ false)) → IsTrue (ends_part t d cs) → IsTrue (ends_part t d (raw_after r cs))

raw_ends : (r t d : Bool) (cs : List ℕ) → (r ≡ true → (t ≡ false) × (d ≡ false)) → IsTrue (ends_part t d cs) → IsTrue (ends_part t d (raw_after r cs))
raw_ends r t d [] f h = absurd (true_false _ h refl)
raw_ends r t d (c ∷ cs) f h = go (λ r t d f h. raw_ends r t d cs f h) (r && (c == line_feed)) (c == carriage_return) refl refl
  where
    both : (a b : Bool) → (a && b) ≡ true → (a ≡ true) × (b ≡ true)
    both true true h = (refl, refl)
    both true false h = cc
    both false b h = cc

    -- a line end is none of the delimiters
    at_feed : (t d : Bool) (xs : List ℕ) → IsTrue (ends_part t d (line_feed ∷ xs)) → IsTrue (ends_part false false xs)
    at_feed true true xs h = h
    at_feed true false xs h = h
    at_feed false true xs h = h
    at_feed false false xs h = h

    to_feed : (t d : Bool) (xs : List ℕ) → IsTrue (ends_part false false xs) → IsTrue (ends_part t d (line_feed ∷ xs))
    to_feed true true xs h = h
    to_feed true false xs h = h
    to_feed false true xs h = h
    to_feed false false xs h = h

    at_return : (t d : Bool) (xs : List ℕ) → IsTrue (ends_part t d (carriage_return ∷ xs)) → IsTrue (ends_part false false xs)
    at_return true true xs h = h
    at_return true false xs h = h
    at_return false true xs h = h
    at_return false false xs h = h

    plain : Below cs → (x : Bool) → (not t && (one_of "`" c || (d && one_of "{" c))) ≡ x → IsTrue (if x then is_empty cs else ends_part (not t && one_of "\\" c) (not t && one_of "$" c) cs) →
        IsTrue (if x then is_empty (raw_after false cs) else ends_part (not t && one_of "\\" c) (not t && one_of "$" c) (raw_after false cs))
    plain below true e h = none cs h
      where
        none : (cs : List ℕ) → IsTrue (is_empty cs) → IsTrue (is_empty (raw_after false cs))
        none [] h = refl
        none (c ∷ cs) h = absurd (true_false _ h refl)
    plain below false e h = below false (not t && one_of "\\" c) (not t && one_of "$" c) (λ k. absurd (false≢true k)) h

    go : Below cs → (x y : Bool) → (r && (c == line_feed)) ≡ x → (c == carriage_return) ≡ y → IsTrue (ends_part t d (raw_after r (c ∷ cs)))
    go below true y e g =
        let u = both r (c == line_feed) e in
        let v = f u.0 in
        let feed : c ≡ line_feed = is_equal c line_feed u.1 in
        subst (λ x. IsTrue (ends_part t d ((if x then [] else if c == carriage_return then line_feed ∷ [] else c ∷ []) ++ raw_after (c == carriage_return) cs))) (sym e)
        (subst (λ z. IsTrue (ends_part t d (raw_after (z == carriage_return) cs))) (sym feed)
        (subst (λ z. IsTrue (ends_part z d (raw_after false cs))) (sym v.0) (subst (λ z. IsTrue (ends_part false z (raw_after false cs))) (sym v.1)
        (below false false false (λ k. absurd (false≢true k)) (at_feed t d cs (subst (λ z. IsTrue (ends_part t d (z ∷ cs))) feed h))))))
    go below false true e g =
        let return : c ≡ carriage_return = is_equal c carriage_return g in
        subst (λ x. IsTrue (ends_part t d ((if x then [] else if c == carriage_return then line_feed ∷ [] else c ∷ []) ++ raw_after (c == carriage_return) cs))) (sym e)
        (subst (λ x. IsTrue (ends_part t d ((if x then line_feed ∷ [] else c ∷ []) ++ raw_after x cs))) (sym g)
        (to_feed t d (raw_after true cs) (below true false false (λ k. (refl, refl)) (at_return t d cs (subst (λ z. IsTrue (ends_part t d (z ∷ cs))) return h)))))
    go below false false e g =
        subst (λ x. IsTrue (ends_part t d (x ++ raw_after (c == carriage_return) cs))) (sym (turned_plain r c e g))
        (subst (λ x. IsTrue (ends_part t d (c ∷ raw_after x cs))) (sym g) (plain below (not t && (one_of "`" c || (d && one_of "{" c))) refl h))

raw_closes : (cs : List ℕ) → IsTrue (closes_template false cs) → IsTrue (closes_template false (raw_after false cs))
raw_closes cs h = sym (ends_same (raw_after false cs)) ∙ raw_ends false false false cs (λ k. absurd (false≢true k)) (ends_same cs ∙ h)

raw_template : (cs : List ℕ) → IsTrue (is_template cs) → IsTrue (is_template (raw_value cs))
raw_template [] h = absurd (true_false _ h refl)
raw_template (c ∷ cs) h =
    let u = both (one_of "`}" c) (closes_template false cs) h in
    subst (λ x. IsTrue (is_template (x ++ raw_after (c == carriage_return) cs))) (sym (turned_plain false c refl (no_return c u.0)))
    (subst (λ x. IsTrue (is_template (c ∷ raw_after x cs))) (sym (no_return c u.0)) (from (one_of "`}" c) (closes_template false (raw_after false cs)) u.0 (raw_closes cs u.1)))
  where
    both : (a b : Bool) → IsTrue (a && b) → IsTrue a × IsTrue b
    both a b h = (grind (arith, nat_tests), grind (arith, nat_tests))

    from : (a b : Bool) → IsTrue a → IsTrue b → IsTrue (a && b)
    from a b h k = grind (arith, nat_tests)

    no_return : (c : ℕ) → IsTrue (one_of "`}" c) → (c == carriage_return) ≡ false
    no_return c h = grind (arith, nat_tests)

-- the raw value of a part of a template, as the table has it, is such a part
pub raw_word : (w : List ℕ) → IsUtf8 w → IsTrue (is_of Template (chars w)) → Word Template (table_text Template w)
raw_word w u h =
    let e : encode_utf8_all (raw_value (chars w)) ≡ raw_value w = raw_bytes w u in
    let k : IsUtf8 (raw_value w) = (raw_value (chars w), (raw_scalars false (chars w) (scalars-chars w u), e)) in
    record {
      utf8 = k;
      is = subst (λ x. IsTrue (is_of Template x)) (chars_from_encodes (raw_value (chars w)) (raw_value w) k e) (raw_template (chars w) h);
      kept = raw_again w;
    }
