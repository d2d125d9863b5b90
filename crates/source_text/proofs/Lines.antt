-- A walk over the bytes of a text finds line and column, as a walk over its characters does.
use Rattle.std.proofs.Common.{◌≡◌, ℕ, zero, suc, ◌+◌, ◌/◌, ◌%◌, ◌<◌, ◌≤◌, Bool, true, false, ◌==◌, List, [], ◌∷◌, ◌++◌, length, get_or, take, drop, if◌then◌else◌, ◌⊎◌, inl, inr, refl, sym, ap, ◌∙◌, subst, arith, append_assoc, length-append, length-take}
use Rattle.std.specs.Str.{encode_utf8_all, IsUtf8, IsCharBoundary, chars}
use lib.Utf8.{encode, encodes}
use Rattle.std.proofs.lemmas.Str.{encodes-chars, IsUtf8-take, IsUtf8-drop, chars_from_encodes}
use Rattle.std.proofs.lemmas.List.{take-append-drop}
use Rattle.std.proofs.lemmas.Bool.{cases_lt}
use Rattle.std.proofs.lemmas.Bool.Decides.{nat_tests}
use Rattle.source_text.specs.LineBytes.{continues, ends_line_at, after_byte, after_bytes}
use Rattle.source_text.specs.Lines.{ends_line, after_character, after_characters, line_column}

pub behind_one_more : (p : ℕ × ℕ) (i : ℕ) (bs : List ℕ) → i < length bs →
    after_bytes p (suc i) bs ≡ after_byte (after_bytes p i bs) (get_or bs i 0) (get_or bs (suc i) 0) (get_or bs (suc (suc i)) 0)
behind_one_more p i [] lt = absurd (omega arith)
behind_one_more p zero (b ∷ bs) lt = refl
behind_one_more p (suc i) (b ∷ bs) lt = behind_one_more (after_byte p b (get_or bs 0 0) (get_or bs 1 0)) i bs (omega arith)

-- the bytes of a character, by how many they are
abbrev next : ℕ → ℕ
next c = 128 + c % 64

encode-1 : (c : ℕ) → c < 128 → encode c ≡ c ∷ []
unfolding encode
encode-1 c h = grind (arith, nat_tests)

encode-2 : (c : ℕ) → 128 ≤ c → c < 2048 → encode c ≡ (192 + c / 64) ∷ next c ∷ []
unfolding encode
encode-2 c h k = grind (arith, nat_tests)

encode-3 : (c : ℕ) → 2048 ≤ c → c < 65536 → encode c ≡ (224 + c / 4096) ∷ next (c / 64) ∷ next c ∷ []
unfolding encode
encode-3 c h k = grind (arith, nat_tests)

encode-4 : (c : ℕ) → 65536 ≤ c → encode c ≡ (240 + c / 262144) ∷ next (c / 4096) ∷ next (c / 64) ∷ next c ∷ []
unfolding encode
encode-4 c h = grind (arith, nat_tests)

next_continues : (c : ℕ) → continues (next c) ≡ true
next_continues c = grind (arith, nat_tests)

lead_continues_not : (b : ℕ) → 192 ≤ b → continues b ≡ false
lead_continues_not b h = grind (arith, nat_tests)

-- a line feed begins the bytes of characters where it is the first of them
first_byte : (d : ℕ) (rest : List ℕ) → (get_or (encode d ++ rest) 0 0 == 10) ≡ (d == 10)
first_byte d rest =
    elim (cases_lt d 128) [
      | inl a ↦ rw (encode-1 d a) refl
      | inr a ↦ elim (cases_lt d 2048) [
        | inl b ↦ rw (encode-2 d a b) (grind (arith, nat_tests))
        | inr b ↦ elim (cases_lt d 65536) [
          | inl e ↦ rw (encode-3 d b e) (grind (arith, nat_tests))
          | inr e ↦ rw (encode-4 d e) (grind (arith, nat_tests))
        ]
      ]
    ]

-- whether a character of one, two, three or four bytes ends a line
ends-1 : (c b1 b2 : ℕ) (following : List ℕ) → c < 128 → (b1 == 10) ≡ (get_or following 0 0 == 10) → ends_line_at c b1 b2 ≡ ends_line c following
ends-1 c b1 b2 [] h e = grind (arith, nat_tests)
ends-1 c b1 b2 (d ∷ ds) h e = grind (arith, nat_tests)

ends-2 : (c : ℕ) (following : List ℕ) → 128 ≤ c → (c < 8232) ⊎ (8233 < c) → ends_line c following ≡ false
ends-2 c [] h e = grind (arith, nat_tests)
ends-2 c (d ∷ ds) h e = grind (arith, nat_tests)

not_separator : (c : ℕ) → 2048 ≤ c → c < 65536 → (c < 8232) ⊎ (8233 < c) → 224 + c / 4096 ≡ 226 → 128 + c / 64 % 64 ≡ 128 → 168 ≤ 128 + c % 64 → 128 + c % 64 ≤ 169 → ⊥
not_separator c h k (inl e) p q r t = omega arith
not_separator c h k (inr e) p q r t = omega arith

ends_not : (a b e : ℕ) → 192 ≤ a → (a ≡ 226 → b ≡ 128 → 168 ≤ e → e ≤ 169 → ⊥) → ends_line_at a b e ≡ false
ends_not a b e h ruled_out = grind (arith, nat_tests)

separator : (c : ℕ) (following : List ℕ) → (c ≡ 8232) ⊎ (c ≡ 8233) → ends_line c following ≡ true
separator c [] h = grind (arith, nat_tests)
separator c (d ∷ ds) h = grind (arith, nat_tests)

line_separator : (c : ℕ) → c ≡ 8232 → ends_line_at (224 + c / 4096) (next (c / 64)) (next c) ≡ true
line_separator c h = subst (λ x. ends_line_at (224 + x / 4096) (next (x / 64)) (next x) ≡ true) (sym h) refl

paragraph_separator : (c : ℕ) → c ≡ 8233 → ends_line_at (224 + c / 4096) (next (c / 64)) (next c) ≡ true
paragraph_separator c h = subst (λ x. ends_line_at (224 + x / 4096) (next (x / 64)) (next x) ≡ true) (sym h) refl

about_separators : (c : ℕ) → ((c < 8232) ⊎ (8233 < c)) ⊎ ((c ≡ 8232) ⊎ (c ≡ 8233))
about_separators c =
    elim (cases_lt c 8232) [
      | inl a ↦ inl (inl a)
      | inr a ↦ elim (cases_lt 8233 c) [
        | inl b ↦ inl (inr b)
        | inr b ↦ elim (cases_lt c 8233) [ inl e ↦ inr (inl (omega arith)) | inr e ↦ inr (inr (omega arith)) ]
      ]
    ]

ends-3 : (c : ℕ) (following : List ℕ) → 2048 ≤ c → c < 65536 → ends_line_at (224 + c / 4096) (next (c / 64)) (next c) ≡ ends_line c following
ends-3 c following h k =
    elim (about_separators c) [
      | inl e ↦ ends_not _ _ _ (omega arith) (not_separator c h k e) ∙ sym (ends-2 c following (omega arith) e)
      | inr (inl e) ↦ line_separator c e ∙ sym (separator c following (inl e))
      | inr (inr e) ↦ paragraph_separator c e ∙ sym (separator c following (inr e))
    ]

-- the steps over the bytes of a character
over_tail : (p : ℕ × ℕ) (c n : ℕ) (bs : List ℕ) → after_bytes p (suc n) (next c ∷ bs) ≡ after_bytes p n bs
over_tail p c n bs = ap (λ x. after_bytes (if x then p else (if ends_line_at (next c) (get_or bs 0 0) (get_or bs 1 0) then (p.0 + 1, 1) else (p.0, p.1 + 1))) n bs) (next_continues c)

over_lead : (p : ℕ × ℕ) (b n c : ℕ) (bs following : List ℕ) → continues b ≡ false → ends_line_at b (get_or bs 0 0) (get_or bs 1 0) ≡ ends_line c following →
    after_bytes p (suc n) (b ∷ bs) ≡ after_bytes (after_character p c following) n bs
over_lead p b n c bs following h e =
    ap (λ x. after_bytes (if x then p else (if ends_line_at b (get_or bs 0 0) (get_or bs 1 0) then (p.0 + 1, 1) else (p.0, p.1 + 1))) n bs) h
    ∙ ap (λ x. after_bytes (if x then (p.0 + 1, 1) else (p.0, p.1 + 1)) n bs) e

-- over a character, where the bytes of others follow
over_character : (p : ℕ × ℕ) (c n : ℕ) (bs following : List ℕ) → (get_or bs 0 0 == 10) ≡ (get_or following 0 0 == 10) →
    after_bytes p (length (encode c) + n) (encode c ++ bs) ≡ after_bytes (after_character p c following) n bs
over_character p c n bs following first =
    elim (cases_lt c 128) [
      | inl a ↦ rw (encode-1 c a) (
          let h = over_lead p c n c bs following (grind (arith, nat_tests)) (ends-1 c (get_or bs 0 0) (get_or bs 1 0) following a first) in
          let m : 1 + n ≡ suc n = omega arith in rw m h)
      | inr a ↦ elim (cases_lt c 2048) [
        | inl b ↦ rw (encode-2 c a b) (
            let h = over_lead p (192 + c / 64) (suc n) c (next c ∷ bs) following (lead_continues_not (192 + c / 64) (omega arith)) (ends_not (192 + c / 64) (next c) (get_or bs 0 0) (omega arith) (λ x _ _ _. omega arith) ∙ sym (ends-2 c following a (inl (omega arith)))) in
            let m : 2 + n ≡ suc (suc n) = omega arith in rw m (h ∙ over_tail (after_character p c following) c n bs))
        | inr b ↦ elim (cases_lt c 65536) [
          | inl e ↦ rw (encode-3 c b e) (
              let h = over_lead p (224 + c / 4096) (suc (suc n)) c (next (c / 64) ∷ next c ∷ bs) following (lead_continues_not (224 + c / 4096) (omega arith)) (ends-3 c following b e) in
              let m : 3 + n ≡ suc (suc (suc n)) = omega arith in rw m (h ∙ over_tail (after_character p c following) (c / 64) (suc n) (next c ∷ bs) ∙ over_tail (after_character p c following) c n bs))
          | inr e ↦ rw (encode-4 c e) (
              let h = over_lead p (240 + c / 262144) (suc (suc (suc n))) c (next (c / 4096) ∷ next (c / 64) ∷ next c ∷ bs) following (lead_continues_not (240 + c / 262144) (omega arith)) (ends_not (240 + c / 262144) (next (c / 4096)) (next (c / 64)) (omega arith) (λ x _ _ _. omega arith) ∙ sym (ends-2 c following a (inr (omega arith)))) in
              let m : 4 + n ≡ suc (suc (suc (suc n))) = omega arith in
              rw m (h ∙ over_tail (after_character p c following) (c / 4096) (suc (suc n)) (next (c / 64) ∷ next c ∷ bs) ∙ over_tail (after_character p c following) (c / 64) (suc n) (next c ∷ bs) ∙ over_tail (after_character p c following) c n bs))
        ]
      ]
    ]

first_bytes : (cs : List ℕ) → (get_or (encodes cs) 0 0 == 10) ≡ (get_or cs 0 0 == 10)
first_bytes [] = refl
first_bytes (d ∷ ds) = first_byte d (encodes ds)

encodes-append : (cs ds : List ℕ) → encodes (cs ++ ds) ≡ encodes cs ++ encodes ds
encodes-append [] ds = refl
encodes-append (c ∷ cs) ds = ap (λ x. encode c ++ x) (encodes-append cs ds) ∙ sym (append_assoc (encode c) (encodes cs) (encodes ds))

-- over characters
over_characters : (p : ℕ × ℕ) (cs following : List ℕ) → after_bytes p (length (encodes cs)) (encodes (cs ++ following)) ≡ after_characters p cs following
over_characters p [] following = refl
over_characters p (c ∷ cs) following =
    ap (λ n. after_bytes p n (encode c ++ encodes (cs ++ following))) (length-append (encode c) (encodes cs))
    ∙ over_character p c (length (encodes cs)) (encodes (cs ++ following)) (cs ++ following) (first_bytes (cs ++ following))
    ∙ over_characters (after_character p c (cs ++ following)) cs following

-- the characters before a place and those behind it determine line and column
pub line_column_by_characters : (text : List ℕ) (offset : ℕ) (before following : List ℕ) → IsUtf8 text → IsCharBoundary text offset →
    encode_utf8_all before ≡ take offset text → encode_utf8_all following ≡ drop offset text → line_column text offset ≡ after_characters (1, 1) before following
unfolding line_column
line_column_by_characters text offset before following u place b f =
    let p = chars_from_encodes before (take offset text) (IsUtf8-take text offset u place) b in
    let q = chars_from_encodes following (drop offset text) (IsUtf8-drop text offset u place) f in
    ap (λ x. after_characters (1, 1) x (chars (drop offset text))) (sym p) ∙ ap (λ x. after_characters (1, 1) before x) (sym q)

-- the walk over the bytes finds line and column
pub line_column_by_bytes : (text : List ℕ) (offset : ℕ) → IsUtf8 text → IsCharBoundary text offset → after_bytes (1, 1) offset text ≡ line_column text offset
unfolding line_column
line_column_by_bytes text offset u place =
    let before = chars (take offset text) in
    let following = chars (drop offset text) in
    let b : encodes before ≡ take offset text = encodes-chars _ (IsUtf8-take text offset u place) in
    let f : encodes following ≡ drop offset text = encodes-chars _ (IsUtf8-drop text offset u place) in
    let whole : encodes (before ++ following) ≡ text = encodes-append before following ∙ ap (λ x. x ++ encodes following) b ∙ ap (λ x. take offset text ++ x) f ∙ take-append-drop offset text in
    let within = place.0 in
    let n : length (encodes before) ≡ offset = ap length b ∙ simp length-take (omega arith) in
    ap (λ x. after_bytes (1, 1) x text) (sym n) ∙ ap (λ x. after_bytes (1, 1) (length (encodes before)) x) (sym whole) ∙ over_characters (1, 1) before following

-- a turn of the walk at the byte i
pub at_next : (i : ℕ) (bs : List ℕ) → i < length bs →
    after_bytes (1, 1) (i + 1) bs ≡ after_byte (after_bytes (1, 1) i bs) (get_or bs i 0) (get_or bs (i + 1) 0) (get_or bs (i + 2) 0)
at_next i bs lt =
    let one : suc i ≡ i + 1 = omega arith in
    let two : suc (suc i) ≡ i + 2 = omega arith in
    ap (λ n. after_bytes (1, 1) n bs) (sym one) ∙ behind_one_more (1, 1) i bs lt
    ∙ ap (λ n. after_byte (after_bytes (1, 1) i bs) (get_or bs i 0) (get_or bs n 0) (get_or bs (suc (suc i)) 0)) one
    ∙ ap (λ n. after_byte (after_bytes (1, 1) i bs) (get_or bs i 0) (get_or bs (i + 1) 0) (get_or bs n 0)) two

chosen : (q : ℕ × ℕ) (c e u v : Bool) → c ≡ u → e ≡ v →
    (if c then q else (if e then (q.0 + 1, 1) else (q.0, q.1 + 1))) ≡ (if u then q else (if v then (q.0 + 1, 1) else (q.0, q.1 + 1)))
chosen q c e u v h k = ap (λ x. if x then q else (if e then (q.0 + 1, 1) else (q.0, q.1 + 1))) h ∙ ap (λ x. if u then q else (if x then (q.0 + 1, 1) else (q.0, q.1 + 1))) k

-- inside a character, at one that ends a line, and at another
pub turn_inside : (q : ℕ × ℕ) (i : ℕ) (bs : List ℕ) → i < length bs → q ≡ after_bytes (1, 1) i bs → continues (get_or bs i 0) ≡ true → q ≡ after_bytes (1, 1) (i + 1) bs
turn_inside q i bs lt e h =
    let b = ends_line_at (get_or bs i 0) (get_or bs (i + 1) 0) (get_or bs (i + 2) 0) in
    sym (at_next i bs lt ∙ ap (λ x. after_byte x (get_or bs i 0) (get_or bs (i + 1) 0) (get_or bs (i + 2) 0)) (sym e) ∙ chosen q (continues (get_or bs i 0)) b true b h refl)

pub turn_at_end : (q : ℕ × ℕ) (i : ℕ) (bs : List ℕ) → i < length bs → q ≡ after_bytes (1, 1) i bs → continues (get_or bs i 0) ≡ false →
    ends_line_at (get_or bs i 0) (get_or bs (i + 1) 0) (get_or bs (i + 2) 0) ≡ true → (q.0 + 1, 1) ≡ after_bytes (1, 1) (i + 1) bs
turn_at_end q i bs lt e h k =
    sym (at_next i bs lt ∙ ap (λ x. after_byte x (get_or bs i 0) (get_or bs (i + 1) 0) (get_or bs (i + 2) 0)) (sym e)
    ∙ chosen q (continues (get_or bs i 0)) (ends_line_at (get_or bs i 0) (get_or bs (i + 1) 0) (get_or bs (i + 2) 0)) false true h k)

pub turn_on_line : (q : ℕ × ℕ) (i : ℕ) (bs : List ℕ) → i < length bs → q ≡ after_bytes (1, 1) i bs → continues (get_or bs i 0) ≡ false →
    ends_line_at (get_or bs i 0) (get_or bs (i + 1) 0) (get_or bs (i + 2) 0) ≡ false → (q.0, q.1 + 1) ≡ after_bytes (1, 1) (i + 1) bs
turn_on_line q i bs lt e h k =
    sym (at_next i bs lt ∙ ap (λ x. after_byte x (get_or bs i 0) (get_or bs (i + 1) 0) (get_or bs (i + 2) 0)) (sym e)
    ∙ chosen q (continues (get_or bs i 0)) (ends_line_at (get_or bs i 0) (get_or bs (i + 1) 0) (get_or bs (i + 2) 0)) false false h k)
