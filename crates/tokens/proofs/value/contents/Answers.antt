use Rattle.std.proofs.Common.{◌≡◌, ℕ, ◌-◌, List, [], ◌∷◌, ◌++◌, length, take, Option, Some, None, refl, sym, subst, ap, ◌∙◌, arith, append-nil, length-append}
use Rattle.std.specs.Prelude.{MatchOption}
use Rattle.std.specs.Char.{encode_utf8}
use Rattle.std.specs.Str.{chars, IsUtf8}
use Rattle.std.specs.Str.Iter.{chars_rest}
use Rattle.std.specs.declared.str.Chars.{Chars}
use Rattle.std.proofs.lemmas.Str.{chars-nil, chars_from_encodes, chars_past_char, encodes-append, encodes-chars, IsUtf8-past_char}
use Rattle.std.proofs.lemmas.List.{take_at}
use Rattle.tokens.specs.Strings.{string_contents}
use Rattle.tokens.proofs.value.contents.Goals as goal

empty : (xs : List ℕ) → length xs ≡ 0 → xs ≡ []
empty [] e = refl
empty (x ∷ xs) e = absurd (omega (arith, e))

none_before : (xs ys : List ℕ) → [] ≡ xs ++ ys → xs ≡ []
none_before [] ys e = refl
none_before (x ∷ xs) ys e = cc

-- without its last character
all_but_last : (rest inner : List ℕ) (q : Option ℕ) → IsUtf8 rest → IsUtf8 inner → MatchOption q ((length rest ≡ 0) × (inner ≡ rest)) (λ d. rest ≡ inner ++ encode_utf8 d) →
    take (length (chars rest) - 1) (chars rest) ≡ chars inner
all_but_last rest inner None u v m =
    let e : chars rest ≡ [] = ap chars (empty rest m.0) ∙ chars-nil in
    ap (λ x. take (length x - 1) x) e ∙ sym (ap chars m.1 ∙ e)
all_but_last rest inner (Some d) u v m =
    let whole : chars inner ++ d ∷ [] ≡ chars rest =
    chars_from_encodes (chars inner ++ d ∷ []) rest u (encodes-append (chars inner) (d ∷ []) ∙ (λ i. encodes-chars inner v i ++ append-nil (encode_utf8 d) i) ∙ sym m) in
    let l : length (chars inner ++ d ∷ []) - 1 ≡ length (chars inner) = let n = length-append (chars inner) (d ∷ []) in omega (arith, n) in
    ap (λ x. take (length x - 1) x) (sym whole) ∙ ap (λ k. take k (chars inner ++ d ∷ [])) l ∙ take_at (chars inner) (d ∷ []) (length (chars inner)) refl

contents : (text rest inner : List ℕ) (r q : Option ℕ) → IsUtf8 text → IsUtf8 inner → MatchOption r ((length text ≡ 0) × (rest ≡ text)) (λ c. text ≡ encode_utf8 c ++ rest) →
    MatchOption q ((length rest ≡ 0) × (inner ≡ rest)) (λ d. rest ≡ inner ++ encode_utf8 d) → chars inner ≡ string_contents (chars text)
contents text rest inner None q u v m n =
    let e : text ≡ [] = empty text m.0 in
    let g : inner ≡ [] = nothing q (m.1 ∙ e) n in
    ap chars g ∙ chars-nil ∙ ap string_contents (sym (ap chars e ∙ chars-nil))
  where
    nothing : (q : Option ℕ) → rest ≡ [] → MatchOption q ((length rest ≡ 0) × (inner ≡ rest)) (λ d. rest ≡ inner ++ encode_utf8 d) → inner ≡ []
    nothing None f n = n.1 ∙ f
    nothing (Some d) f n = none_before inner (encode_utf8 d) (sym f ∙ n)
contents text rest inner (Some c) q u v m n =
    sym (all_but_last rest inner q (IsUtf8-past_char text rest c u m) v n) ∙ ap string_contents (sym (chars_past_char text rest c u m))

-- what two steps of an iterator leave is what stands between the first and the last character
stepped : (s t u : Chars) (r q : Option ℕ) → MatchOption r ((length (chars_rest s) ≡ 0) × (t ≡ s)) (λ c. chars_rest s ≡ encode_utf8 c ++ chars_rest t) →
    MatchOption q ((length (chars_rest t) ≡ 0) × (u ≡ t)) (λ d. chars_rest t ≡ chars_rest u ++ encode_utf8 d) → IsUtf8 (chars_rest s) → IsUtf8 (chars_rest u) →
    chars (chars_rest u) ≡ string_contents (chars (chars_rest s))
stepped s t u r q m n v w = contents (chars_rest s) (chars_rest t) (chars_rest u) r q v w (front r m) (back q n)
  where
    front : (r : Option ℕ) → MatchOption r ((length (chars_rest s) ≡ 0) × (t ≡ s)) (λ c. chars_rest s ≡ encode_utf8 c ++ chars_rest t) →
        MatchOption r ((length (chars_rest s) ≡ 0) × (chars_rest t ≡ chars_rest s)) (λ c. chars_rest s ≡ encode_utf8 c ++ chars_rest t)
    front None m = (m.0, ap chars_rest m.1)
    front (Some c) m = m

    back : (q : Option ℕ) → MatchOption q ((length (chars_rest t) ≡ 0) × (u ≡ t)) (λ d. chars_rest t ≡ chars_rest u ++ encode_utf8 d) →
        MatchOption q ((length (chars_rest t) ≡ 0) × (chars_rest u ≡ chars_rest t)) (λ d. chars_rest t ≡ chars_rest u ++ encode_utf8 d)
    back None m = (m.0, ap chars_rest m.1)
    back (Some c) m = m

pub returns : goal.returns
returns c =
    ap chars c.as_str.ensures
    ∙ stepped c.chars-inner.result c.next.new.self c.next_back.new.self c.next.result c.next_back.result c.next.ensures.steps.0 c.next_back.ensures.steps (subst IsUtf8 (sym c.chars-inner.ensures.rest) c.utf8.text) (subst IsUtf8 c.as_str.ensures c.as_str.utf8)
    ∙ ap (λ x. string_contents (chars x)) c.chars-inner.ensures.rest
