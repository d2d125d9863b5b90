-- A text's own places: its tokens are determined once a goal is chosen, so that what a parser promises can be said of them.
use Rattle.std.proofs.Common.{◌≡◌, ℕ, ◌+◌, ◌<◌, Bool, true, false, List, [], ◌∷◌, ◌++◌, length, get_or, refl, sym, ap, ◌∙◌, arith, append_assoc, length-append}
use Rattle.std.specs.Prelude.{IsTrue, encode_utf8_all, ◌==◌, ◌||◌, ◌&&◌, if◌then◌else◌}
use Rattle.std.specs.Bool.{beq}
use Rattle.std.specs.Char.{encode_utf8}
use Rattle.std.specs.List.{list_all, list_any}
use Rattle.std.proofs.lemmas.Bool.Decides.{nat_tests}
use Rattle.std.proofs.lemmas.Str.{byte_from_char, char_from_byte, length-encode, len_utf8_bounds}
use Rattle.tokens.specs.declared.token.TokenClass.{TokenClass}
use Rattle.tokens.specs.declared.token.TokenClass.TheVariants.{IdentifierName, Punctuator, NumericLiteral, StringLiteral, Template, RegularExpressionLiteral, PrivateName, Keyword, End}
use Rattle.tokens.specs.Alphabet.{one_of, begins_with, is_decimal_digit, is_identifier_start, is_identifier_part, carriage_return, line_feed}
use Rattle.tokens.specs.Strings.{closes_string}
use Rattle.tokens.specs.Templates.{raw_value, raw_after}
use Rattle.tokens.specs.Lexical.{is_of, is_name}
use Rattle.tokens.specs.declared.token.Goal.{Goal}
use Rattle.tokens.specs.Goals.{allows, is_regexp, is_template_part, reads_regexps, reads_template_parts}
use Rattle.tokens.specs.Tokens.{LexicalToken, IsTokenAt, size}
use Rattle.tokens.specs.Reading.{behind, any_goal}
use Rattle.tokens.proofs.Classes.{is_special, start_plain, token_is, number_begins}
use Rattle.tokens.proofs.TokenUniqueness.{determined, gap_same, token_solid}
use Rattle.language.specs.Token.{Token, table_text, as_read}
use Rattle.language.specs.Places.{NextIn, next_in, itself}
use Rattle.language.specs.Promises.{is_free, IsDetermined}

both_ways : (a b : Bool) → (a ≡ true → b ≡ true) → (b ≡ true → a ≡ true) → a ≡ b
both_ways true true f g = refl
both_ways false false f g = refl
both_ways true false f g = sym (f refl)
both_ways false true f g = g refl

-- what a text of bytes begins with
begins_at : (d : ℕ) (bs : List ℕ) → 0 < length bs → begins_with (λ b. b == d) bs ≡ (get_or bs 0 0 == d)
begins_at d [] h = absurd (omega arith)
begins_at d (b ∷ bs) h = refl

equal_is : (a d : ℕ) → a ≡ d → (a == d) ≡ true
equal_is a d h = grind (arith, nat_tests)

is_equal : (a d : ℕ) → (a == d) ≡ true → a ≡ d
is_equal a d h = grind (arith, nat_tests)

-- a text begins with an ASCII character as its bytes do
pub begins_same : (d : ℕ) → d < 128 → (w : List ℕ) → begins_with (λ b. b == d) (encode_utf8_all w) ≡ begins_with (λ b. b == d) w
begins_same d low [] = refl
begins_same d low (c ∷ cs) =
    let bs : List ℕ = encode_utf8_all (c ∷ cs) in
    let some : 0 < length bs = omega (arith, length-append (encode_utf8 c) (encode_utf8_all cs), length-encode c, (len_utf8_bounds c).0) in
    begins_at d bs some ∙ both_ways (get_or bs 0 0 == d) (c == d)
    (λ h. let e = is_equal (get_or bs 0 0) d h in equal_is c d (char_from_byte bs (encode_utf8_all cs) c refl (let l : get_or bs 0 0 < 128 = omega arith in l) some ∙ e))
    (λ h. let e = is_equal c d h in equal_is (get_or bs 0 0) d (byte_from_char bs (encode_utf8_all cs) c refl (let l : c < 128 = omega arith in l) ∙ e))

-- and as its raw value does, but for a line end
pub turned_same : (d : ℕ) → (line_feed == d) ≡ false → (carriage_return == d) ≡ false → (w : List ℕ) → begins_with (λ b. b == d) (raw_value w) ≡ begins_with (λ b. b == d) w
turned_same d feed return [] = refl
turned_same d feed return (c ∷ cs) = go (c == carriage_return) refl
  where
    go : (b : Bool) → (c == carriage_return) ≡ b → begins_with (λ b. b == d) ((if b then line_feed ∷ [] else c ∷ []) ++ raw_after (c == carriage_return) cs) ≡ (c == d)
    go true e = feed ∙ sym (ap (λ x. x == d) (is_equal c carriage_return e) ∙ return)
    go false e = refl

-- the goal allows by the first character alone
allows_same : (g : Goal) (c : TokenClass) (v w : List ℕ) → begins_with (one_of "/") v ≡ begins_with (one_of "/") w → begins_with (one_of "}") v ≡ begins_with (one_of "}") w → allows g c v ≡ allows g c w
allows_same g c v w a b =
    ap (λ x. if x then beq (is_regexp c) (reads_regexps g) else if begins_with (one_of "}") v then beq (is_template_part c) (reads_template_parts g) else true) a
    ∙ ap (λ x. if begins_with (one_of "/") w then beq (is_regexp c) (reads_regexps g) else if x then beq (is_template_part c) (reads_template_parts g) else true) b

-- so it allows a token as it is read where it allows its characters
table_allows : (g : Goal) (c : TokenClass) (w : List ℕ) → allows g c (table_text c w) ≡ allows g c w
table_allows g Template w = allows_same g Template (raw_value w) w (turned_same 47 refl refl w) (turned_same 125 refl refl w)
table_allows g IdentifierName w = refl
table_allows g Punctuator w = refl
table_allows g NumericLiteral w = refl
table_allows g StringLiteral w = refl
table_allows g RegularExpressionLiteral w = refl
table_allows g PrivateName w = refl
table_allows g Keyword w = refl
table_allows g End w = refl

read_allows : (g : Goal) (t : LexicalToken) (w : List ℕ) → t.text ≡ encode_utf8_all w → allows g (as_read t).class (as_read t).text ≡ allows g t.class w
read_allows g t w e = table_allows g t.class t.text ∙ ap (allows g t.class) e ∙ allows_same g t.class (encode_utf8_all w) w (begins_same 47 (omega arith) w) (begins_same 125 (omega arith) w)

-- a name, a number, a string and the end begin with neither `/` nor `}`
plain_begins : (c : TokenClass) (w : List ℕ) → is_free c ≡ true → is_of c w ≡ true → (begins_with (one_of "/") w ≡ false) × (begins_with (one_of "}") w ≡ false)
plain_begins IdentifierName [] f h = cc
plain_begins IdentifierName (c ∷ cs) f h = start c (start_plain c (first_true (is_identifier_start c) (list_all is_identifier_part cs) h))
  where
    first_true : (a b : Bool) → IsTrue (a && b) → IsTrue a
    first_true a b h = grind (arith, nat_tests)

    start : (c : ℕ) → is_special c ≡ false → (one_of "/" c ≡ false) × (one_of "}" c ≡ false)
    start c h = (grind (arith, nat_tests), grind (arith, nat_tests))
plain_begins NumericLiteral [] f h = cc
plain_begins NumericLiteral (c ∷ cs) f h = start c (begins_with is_decimal_digit cs) (number_begins c cs h)
  where
    start : (c : ℕ) (x : Bool) → IsTrue (is_decimal_digit c || (one_of "." c && x)) → (one_of "/" c ≡ false) × (one_of "}" c ≡ false)
    start c x h = (grind (arith, nat_tests), grind (arith, nat_tests))
plain_begins StringLiteral [] f h = cc
plain_begins StringLiteral (c ∷ cs) f h = start c (first_true (one_of "'\"" c) (closes_string c 0 cs) h)
  where
    first_true : (a b : Bool) → IsTrue (a && b) → IsTrue a
    first_true a b h = grind (arith, nat_tests)

    start : (c : ℕ) → IsTrue (one_of "'\"" c) → (one_of "/" c ≡ false) × (one_of "}" c ≡ false)
    start c h = (grind (arith, nat_tests), grind (arith, nat_tests))
plain_begins End [] f h = (refl, refl)
plain_begins End (c ∷ cs) f h = cc
plain_begins Punctuator w f h = cc
plain_begins Template w f h = cc
plain_begins RegularExpressionLiteral w f h = cc
plain_begins PrivateName [] f h = cc
plain_begins PrivateName (c ∷ cs) f h = start c (first_true (one_of "#" c) (is_name cs) h)
  where
    first_true : (a b : Bool) → IsTrue (a && b) → IsTrue a
    first_true a b h = grind (arith, nat_tests)

    start : (c : ℕ) → IsTrue (one_of "#" c) → (one_of "/" c ≡ false) × (one_of "}" c ≡ false)
    start c h = (grind (arith, nat_tests), grind (arith, nat_tests))
plain_begins Keyword w f h = cc

free_allows : (g : Goal) (c : TokenClass) (w : List ℕ) → is_free c ≡ true → is_of c w ≡ true → allows g c w ≡ true
free_allows g c w f h = let u = plain_begins c w f h in
    ap (λ x. if x then beq (is_regexp c) (reads_regexps g) else if begins_with (one_of "}") w then beq (is_template_part c) (reads_template_parts g) else true) u.0
    ∙ ap (λ x. if x then beq (is_template_part c) (reads_template_parts g) else true) u.1

module _ {at : ℕ} {cs : List ℕ} where
  -- the same token, by another goal that allows it
  by_goal : {g : Goal} {t : LexicalToken} {rest : List ℕ} (h : Goal) (x : IsTokenAt g at cs t rest) → IsTrue (allows h t.class x.word) → IsTokenAt h at cs t rest
  by_goal h x al = record {
    gap = x.gap;
    word = x.word;
    split = x.split;
    separated = x.separated;
    no_comment = x.no_comment;
    longest = x.longest;
    allowed = al;
    text = x.text;
    start = x.start;
    stop = x.stop;
    after_break = x.after_break;
  }

  -- what separates is the same, whatever the goal
  pub same_gap : {g h : Goal} {a b : LexicalToken} {ra rb : List ℕ} (x : IsTokenAt g at cs a ra) (y : IsTokenAt h at cs b rb) → x.gap ≡ y.gap
  same_gap {a = a} {b = b} {ra = ra} {rb = rb} x y =
      gap_same x.gap y.gap (x.word ++ ra) (y.word ++ rb) x.separated y.separated (sym (append_assoc x.gap x.word ra) ∙ sym x.split ∙ y.split ∙ append_assoc y.gap y.word rb)
      (token_solid a.class x.word ra x.longest x.no_comment) (token_solid b.class y.word rb y.longest y.no_comment)

same_read : (text : List ℕ) (g : Goal) (s a b e f : Token) → NextIn text any_goal s a e → NextIn text any_goal s b f → IsTrue (allows g a.class a.text) → IsTrue (allows g b.class b.text) → (a ≡ b) × (e ≡ f)
same_read text g s a b e f (next_in {t = t} goal any x) (next_in {t = u} other any' y) h k =
    let x' = by_goal g x (sym (read_allows g t x.word x.text) ∙ h) in
    let y' = by_goal g y (sym (read_allows g u y.word y.text) ∙ k) in
    let same = (determined g s.stop (behind text s.stop) t u (behind text t.stop) (behind text u.stop) x' y').0 in
    (ap as_read same, ap as_read same)

same_start : (text : List ℕ) (s a b e f : Token) → NextIn text any_goal s a e → NextIn text any_goal s b f → a.start ≡ b.start
same_start text s a b e f (next_in goal any x) (next_in other any' y) = x.start ∙ ap (λ g. s.stop + size g) (same_gap x y) ∙ sym y.start

same_break : (text : List ℕ) (s a b e f : Token) → NextIn text any_goal s a e → NextIn text any_goal s b f → a.after_break ≡ b.after_break
same_break text s a b e f (next_in goal any x) (next_in other any' y) = x.after_break ∙ ap (list_any _) (same_gap x y) ∙ sym y.after_break

last_read : (text : List ℕ) (s t e : Token) → NextIn text any_goal s t e → itself e ≡ t
last_read text s t e (next_in goal any x) = refl

free_read : (text : List ℕ) (g : Goal) (s t e : Token) → NextIn text any_goal s t e → is_free t.class ≡ true → IsTrue (allows g t.class t.text)
free_read text g s t e (next_in {t = u} goal any x) f = read_allows g u x.word x.text ∙ free_allows g u.class x.word f (token_is u.class x.word (behind text u.stop) x.longest)

-- the tokens of a text are determined at its own places
pub text_determined : (text : List ℕ) → IsDetermined Token (NextIn text any_goal) itself
text_determined text = record { same = same_read text; last = last_read text; start = same_start text; break = same_break text; free = free_read text }
