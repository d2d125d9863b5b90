-- Parts of templates: their delimiters, and their raw values as bytes.
use Rattle.std.proofs.Common.{◌≡◌, ◌≢◌, ℕ, ◌+◌, ◌<◌, ◌≤◌, suc, Bool, true, false, List, [], ◌∷◌, ◌++◌, length, get_or, refl, sym, ap, ◌∙◌, subst, arith, append_assoc, length-append, ◌⊎◌, inl, inr}
use Rattle.std.specs.Prelude.{IsTrue, encode_utf8_all, ◌==◌, ◌||◌, ◌&&◌, drop, if◌then◌else◌}
use Rattle.std.specs.Char.{encode_utf8}
use Rattle.std.specs.Str.{chars, IsUtf8}
use Rattle.std.proofs.lemmas.Bool.{and_parts, cases_lt, false≢true}
use Rattle.std.proofs.lemmas.Bool.Decides.{nat_tests}
use Rattle.std.proofs.lemmas.List.{append-nil, append_cancel_right}
use Rattle.std.proofs.lemmas.Str.{encode_ascii, encodes-append, encodes-chars, length-encode, len_utf8_bounds, inside_one}
use Rattle.tokens.specs.declared.token.TokenClass.TheVariants.{Template}
use Rattle.tokens.specs.declared.token.Goal.{Goal}
use Rattle.tokens.specs.Alphabet.{one_of, begins_with, is_empty, carriage_return, line_feed}
use Rattle.tokens.specs.Lexical.{is_of}
use Rattle.tokens.specs.Templates.{closes_template, is_template, line_end_turned, raw_after, raw_value}
use Rattle.tokens.specs.Tokens.{LexicalToken}
use Rattle.tokens.specs.Reading.{behind, Reads}
use Rattle.tokens.proofs.Classes.{token_is}
use Rattle.token_cursor.specs.CursorState.{IsAhead}
use Rattle.tree.specs.declared.kind.Kind.TheVariants.{TemplateElement}
use Rattle.tree.specs.declared.kind.Span.{Span}
use Rattle.tree.specs.Tree.{Tree, node, none, plain}
use Rattle.recursive_descent.specs.TemplateElements.{front, back, Holds, part_node}
use Rattle.token_cursor.specs.SourceText.{SourceText}
use Rattle.language.specs.Later.{has_later}
use Rattle.recursive_descent.proofs.reading.SeenClasses.{steady_class}

is_equal : (a d : ℕ) → (a == d) ≡ true → a ≡ d
is_equal a d h = grind (arith, nat_tests)

isnt : (a d : ℕ) → d < a → (a == d) ≡ false
isnt a d h = grind (arith, nat_tests)

-- a byte of no ASCII character stays
turned_high : (r : Bool) (b : ℕ) → 128 ≤ b → line_end_turned r b ≡ b ∷ []
turned_high r b h = of (b == line_feed) (b == carriage_return) r (isnt b 10 (omega arith)) (isnt b 13 (omega arith))
  where
    of : (x y r : Bool) → x ≡ false → y ≡ false → (if r && x then [] else if y then line_feed ∷ [] else b ∷ []) ≡ b ∷ []
    of true y r e f = cc
    of false true r e f = cc
    of false false true e f = refl
    of false false false e f = refl

-- so do several
pub raw_high : (bs cs : List ℕ) (r : Bool) → 0 < length bs → ((k : ℕ) → k < length bs → 128 ≤ get_or bs k 0) → raw_after r (bs ++ cs) ≡ bs ++ raw_after false cs
raw_high [] cs r some high = absurd (omega arith)
raw_high (b ∷ []) cs r some high =
    let low : 128 ≤ b = high 0 (omega arith) in
    ap (λ x. x ++ raw_after (b == carriage_return) cs) (turned_high r b low) ∙ ap (λ x. b ∷ raw_after x cs) (isnt b 13 (omega arith))
raw_high (b ∷ d ∷ bs) cs r some high =
    let low : 128 ≤ b = high 0 (omega arith) in
    ap (λ x. x ++ raw_after (b == carriage_return) (d ∷ bs ++ cs)) (turned_high r b low)
    ∙ ap (λ x. b ∷ raw_after x (d ∷ bs ++ cs)) (isnt b 13 (omega arith))
    ∙ ap (λ x. b ∷ x) (raw_high (d ∷ bs) cs false (omega arith) (λ k l. high (suc k) (omega arith)))

encode_high : (c k : ℕ) → 128 ≤ c → k < length (encode_utf8 c) → 128 ≤ get_or (encode_utf8 c) k 0
encode_high c k high l = of (cases_lt (get_or (encode_utf8 c) k 0) 128)
  where
    of : (get_or (encode_utf8 c) k 0 < 128) ⊎ (128 ≤ get_or (encode_utf8 c) k 0) → 128 ≤ get_or (encode_utf8 c) k 0
    of (inr h) = h
    of (inl h) = let same = inside_one c [] (encode_utf8 c) k (sym (append-nil (encode_utf8 c))) l h in absurd (omega arith)

turned_low : (r : Bool) (c : ℕ) → c < 128 → encode_utf8_all (line_end_turned r c) ≡ line_end_turned r c
turned_low r c low = of (r && (c == line_feed)) (c == carriage_return)
  where
    of : (x y : Bool) → encode_utf8_all (if x then [] else if y then line_feed ∷ [] else c ∷ []) ≡ (if x then [] else if y then line_feed ∷ [] else c ∷ [])
    of true y = refl
    of false true = ap (λ x. x ++ encode_utf8_all []) (encode_ascii 10 (omega arith))
    of false false = ap (λ x. x ++ encode_utf8_all []) (encode_ascii c low)

-- the raw value of characters in UTF-8 is that of their bytes
pub raw_encoded : (cs : List ℕ) (r : Bool) → encode_utf8_all (raw_after r cs) ≡ raw_after r (encode_utf8_all cs)
raw_encoded [] r = refl
raw_encoded (c ∷ cs) r = of (raw_encoded cs (c == carriage_return)) (cases_lt c 128)
  where
    of : encode_utf8_all (raw_after (c == carriage_return) cs) ≡ raw_after (c == carriage_return) (encode_utf8_all cs) → (c < 128) ⊎ (128 ≤ c) →
        encode_utf8_all (line_end_turned r c ++ raw_after (c == carriage_return) cs) ≡ raw_after r (encode_utf8 c ++ encode_utf8_all cs)
    of rest (inl low) =
        encodes-append (line_end_turned r c) (raw_after (c == carriage_return) cs)
        ∙ ap (λ x. x ++ encode_utf8_all (raw_after (c == carriage_return) cs)) (turned_low r c low)
        ∙ ap (λ x. line_end_turned r c ++ x) rest
        ∙ ap (λ x. raw_after r (x ++ encode_utf8_all cs)) (sym (encode_ascii c low))
    of rest (inr high) =
        ap (λ x. encode_utf8_all (x ++ raw_after (c == carriage_return) cs)) (turned_high r c high)
        ∙ ap (λ x. encode_utf8 c ++ x) (rest ∙ ap (λ x. raw_after x (encode_utf8_all cs)) (isnt c 13 (omega arith)))
        ∙ sym (raw_high (encode_utf8 c) (encode_utf8_all cs) r (omega (arith, length-encode c, (len_utf8_bounds c).0)) (λ k l. encode_high c k high l))

pub raw_bytes : (w : List ℕ) → IsUtf8 w → encode_utf8_all (raw_value (chars w)) ≡ raw_value w
raw_bytes w u = raw_encoded (chars w) false ∙ ap raw_value (encodes-chars w u)

-- without a carriage return nothing changes
pub raw_same : (w : List ℕ) → ((k : ℕ) → k < length w → get_or w k 0 ≢ 13) → raw_value w ≡ w
raw_same [] h = refl
raw_same (c ∷ cs) h =
    let other : (c == carriage_return) ≡ false = differs c (h 0 (omega arith)) in
    ap (λ y. (if y then line_feed ∷ [] else c ∷ []) ++ raw_after y cs) other ∙ ap (λ x. c ∷ x) (raw_same cs (λ k l. h (suc k) (omega arith)))
  where
    differs : (a : ℕ) → a ≢ 13 → (a == 13) ≡ false
    differs a h = grind (arith, nat_tests)

-- the delimiters stay as they are
raw_back : (last r : Bool) → raw_after r (back last) ≡ back last
raw_back true true = refl
raw_back true false = refl
raw_back false true = refl
raw_back false false = refl

raw_before_back : (last r : Bool) (w : List ℕ) → raw_after r (w ++ back last) ≡ raw_after r w ++ back last
raw_before_back last r [] = raw_back last r
raw_before_back last r (c ∷ w) = ap (λ x. line_end_turned r c ++ x) (raw_before_back last (c == carriage_return) w) ∙ sym (append_assoc (line_end_turned r c) (raw_after (c == carriage_return) w) (back last))

pub raw_held : (first last : Bool) (text w : List ℕ) → Holds text first last w → Holds (raw_value text) first last (raw_value w)
raw_held true last text w h = ap raw_value h ∙ ap (λ x. 96 ∷ x) (raw_before_back last false w)
raw_held false last text w h = ap raw_value h ∙ ap (λ x. 125 ∷ x) (raw_before_back last false w)

-- what is stripped
pub behind_accent : (text x : List ℕ) → text ≡ 96 ∷ x → (first : Bool) (rest : List ℕ) → text ≡ front first ++ rest → x ≡ rest
behind_accent text x h true rest e = cc
behind_accent text x h false rest e = cc

pub behind_brace : (text x : List ℕ) → ((rest : List ℕ) → text ≢ 96 ∷ rest) → ((rest : List ℕ) → text ≡ 125 ∷ rest → x ≡ rest) → (first : Bool) (rest : List ℕ) → text ≡ front first ++ rest → x ≡ rest
behind_brace text x other brace true rest e = absurd (other rest e)
behind_brace text x other brace false rest e = brace rest e

last_of : List ℕ → ℕ
last_of [] = 0
last_of (x ∷ []) = x
last_of (x ∷ y ∷ xs) = last_of (y ∷ xs)

last_behind : (xs : List ℕ) (y : ℕ) (ys : List ℕ) → last_of (xs ++ y ∷ ys) ≡ last_of (y ∷ ys)
unfolding last_of
last_behind [] y ys = refl
last_behind (x ∷ []) y ys = refl
last_behind (x ∷ z ∷ xs) y ys = last_behind (z ∷ xs) y ys

not_both : (v w : List ℕ) → v ++ 96 ∷ [] ≡ w ++ 36 ∷ 123 ∷ [] → ⊥
unfolding last_of
not_both v w h = clash (sym (last_behind v 96 []) ∙ ap last_of h ∙ last_behind w 36 (123 ∷ []))
  where
    clash : ◌≡◌ {A = ℕ} 96 123 → ⊥
    clash e = false≢true (sym (ap (λ x. x == 96) e))

pub before_accent : (text x : List ℕ) → text ≡ x ++ 96 ∷ [] → (last : Bool) (word : List ℕ) → text ≡ word ++ back last → (x ≡ word) × (true ≡ last)
before_accent text x h true word e = (append_cancel_right x word (96 ∷ []) (sym h ∙ e), refl)
before_accent text x h false word e = absurd (not_both x word (sym h ∙ e))

pub before_dollar : (text y x : List ℕ) → ((word : List ℕ) → text ≢ word ++ 96 ∷ []) → ((word : List ℕ) → text ≡ word ++ 123 ∷ [] → y ≡ word) → ((word : List ℕ) → y ≡ word ++ 36 ∷ [] → x ≡ word) → (last : Bool) (word : List ℕ) → text ≡ word ++ back last → (x ≡ word) × (false ≡ last)
before_dollar text y x other brace dollar true word e = absurd (other word e)
before_dollar text y x other brace dollar false word e = (dollar word (brace (word ++ 36 ∷ []) (e ∙ sym (append_assoc word (36 ∷ []) (123 ∷ [])))), refl)

-- what a template's token holds
record Closing (cs : List ℕ) : Type 0 where
  last : Bool
  word : List ℕ
  split : cs ≡ word ++ back last

closing : (taken : Bool) (cs : List ℕ) → closes_template taken cs ≡ true → Closing cs
closing true [] h = absurd (false≢true h)
closing false [] h = absurd (false≢true h)
closing true (c ∷ cs) h = let r = closing false cs h in record { last = r.last; word = c ∷ r.word; split = ap (λ x. c ∷ x) r.split }
closing false (c ∷ cs) h = by (λ k. closing (one_of "\\" c) cs k) (one_of "`" c) (one_of "$" c && begins_with (one_of "{") cs) refl refl h
  where
    is_one : (d : ℕ) → (c == d) ≡ true → c ≡ d
    is_one d e = grind (arith, nat_tests)

    nothing : (ds : List ℕ) → is_empty ds ≡ true → ds ≡ []
    nothing [] e = refl
    nothing (d ∷ ds) e = absurd (false≢true e)

    brace : (ds : List ℕ) → begins_with (one_of "{") ds ≡ true → is_empty (drop 1 ds) ≡ true → ds ≡ 123 ∷ []
    brace [] e f = cc
    brace (d ∷ []) e f = ap (λ x. x ∷ []) (first d e)
      where
        first : (d : ℕ) → (d == 123) ≡ true → d ≡ 123
        first d e = grind (arith, nat_tests)
    brace (d ∷ b ∷ ds) e f = cc

    by : (closes_template (one_of "\\" c) cs ≡ true → Closing cs) → (x y : Bool) → one_of "`" c ≡ x → (one_of "$" c && begins_with (one_of "{") cs) ≡ y → (if x then is_empty cs else if y then is_empty (drop 1 cs) else closes_template (one_of "\\" c) cs) ≡ true → Closing (c ∷ cs)
    by more true y e f k = record { last = true; word = []; split = ap (λ z. z ∷ cs) (is_one 96 e) ∙ ap (λ z. 96 ∷ z) (nothing cs k) }
    by more false true e f k =
        let u = and_parts (one_of "$" c) (begins_with (one_of "{") cs) f in
        record { last = false; word = []; split = ap (λ z. z ∷ cs) (is_one 36 u.0) ∙ ap (λ z. 36 ∷ z) (brace cs u.1 k) }
    by more false false e f k = let r = more k in record { last = r.last; word = c ∷ r.word; split = ap (λ x. c ∷ x) r.split }

pub record Held (text : List ℕ) : Type 0 where
  pub first : Bool
  pub last : Bool
  pub word : List ℕ
  pub holds : Holds text first last word

opened : (c : ℕ) → one_of "`}" c ≡ true → (first : Bool) × (c ∷ [] ≡ front first)
opened c h = of (c == 96) refl h
  where
    of : (x : Bool) → (c == 96) ≡ x → (x || (c == 125)) ≡ true → (first : Bool) × (c ∷ [] ≡ front first)
    of true e k = (true, ap (λ z. z ∷ []) (is_equal c 96 e))
    of false e k = (false, ap (λ z. z ∷ []) (only c k))
      where
        only : (c : ℕ) → (c == 125) ≡ true → c ≡ 125
        only c k = grind (arith, nat_tests)

front_encoded : (first : Bool) → encode_utf8_all (front first) ≡ front first
front_encoded true = ap (λ x. x ++ encode_utf8_all []) (encode_ascii 96 (omega arith))
front_encoded false = ap (λ x. x ++ encode_utf8_all []) (encode_ascii 125 (omega arith))

back_encoded : (last : Bool) → encode_utf8_all (back last) ≡ back last
back_encoded true = ap (λ x. x ++ encode_utf8_all []) (encode_ascii 96 (omega arith))
back_encoded false = ap (λ x. x ++ encode_utf8_all (123 ∷ [])) (encode_ascii 36 (omega arith)) ∙ ap (λ x. 36 ∷ (x ++ encode_utf8_all [])) (encode_ascii 123 (omega arith))

-- a template's token has delimiters
pub held : (text : SourceText) (g : Goal) (at : ℕ) (u : LexicalToken) → IsAhead g text at u → u.class ≡ Template → Held u.text
held text g at u a h = subst Held (sym (ap (λ (x : LexicalToken). x.text) a.seen)) (scanned_held a.scanned (steady_class text.language a.scanned.class Template a.scanned.text refl (sym (ap (λ (x : LexicalToken). x.class) a.seen) ∙ h)) a.read)
  where
    of : (v : LexicalToken) (cs : List ℕ) → v.text ≡ encode_utf8_all cs → is_template cs ≡ true → Held v.text
    of v [] e k = absurd (false≢true k)
    of v (c ∷ cs) e k =
        let v = and_parts (one_of "`}" c) (closes_template false cs) k in
        let o = opened c v.0 in
        let r = closing false cs v.1 in
        let split : c ∷ cs ≡ front o.0 ++ (r.word ++ back r.last) = ap (λ x. x ++ cs) o.1 ∙ ap (λ x. front o.0 ++ x) r.split in
        record {
          first = o.0;
          last = r.last;
          word = encode_utf8_all r.word;
          holds =
              e ∙ ap encode_utf8_all split
              ∙ encodes-append (front o.0) (r.word ++ back r.last)
              ∙ ap (λ x. x ++ encode_utf8_all (r.word ++ back r.last)) (front_encoded o.0)
              ∙ ap (λ x. front o.0 ++ x) (encodes-append r.word (back r.last) ∙ ap (λ x. encode_utf8_all r.word ++ x) (back_encoded r.last));
        }

    scanned_held : (v : LexicalToken) → v.class ≡ Template → Reads text.bytes g at v → Held v.text
    scanned_held v k x = of v x.word x.text (subst (λ c. IsTrue (is_of c x.word)) k (token_is v.class x.word (behind text.bytes v.stop) x.longest))

shorter_inside : (first last : Bool) (w : List ℕ) → 1 + length w < length (front first ++ (w ++ back last))
shorter_inside true true w = omega (arith, length-append w (96 ∷ []))
shorter_inside true false w = omega (arith, length-append w (36 ∷ 123 ∷ []))
shorter_inside false true w = omega (arith, length-append w (96 ∷ []))
shorter_inside false false w = omega (arith, length-append w (36 ∷ 123 ∷ []))

-- the node of a part, from what stands between the delimiters
-- the node of a part is of each language
pub part_own : {w : List ℕ} {st en : ℕ} {n : Tree} → n ≡ node TemplateElement w plain st en none → has_later n ≡ false
unfolding has_later
part_own made = ap has_later made

pub part_made : (start stop : ℕ) (text w got raw : List ℕ) (first last : Bool) (s : Span) (n : Tree) → Holds text first last w → stop ≡ start + length text → got ≡ w → (start + 1 + length got ≤ stop → s ≡ record { start = start + 1; end = start + 1 + length got }) → raw ≡ raw_value got → n ≡ node TemplateElement raw plain s.start s.end none → n ≡ part_node start w
part_made start stop text w got raw first last s n h e g place r made =
    let long : length text ≡ length (front first ++ (w ++ back last)) = ap length h in
    let same : length got ≡ length w = ap length g in
    let fits : start + 1 + length got ≤ stop = omega (arith, shorter_inside first last w) in
    made
    ∙ ap (λ x. node TemplateElement x plain s.start s.end none) r
    ∙ ap (λ (p : Span). node TemplateElement (raw_value got) plain p.start p.end none) (place fits)
    ∙ ap (part_node start) g
