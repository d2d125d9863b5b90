-- What may stand behind each kind of piece, and that a token stands apart from it.
use Rattle.std.proofs.Common.{◌≡◌, ℕ, ◌<◌, Bool, true, false, cond, not, ◌&&◌, ◌||◌, nat_eq, List, [], ◌∷◌, ◌++◌, refl, sym, ap, ◌∙◌, subst, arith}
use Rattle.std.specs.Prelude.{◌==◌, codes, slice_index_or}
use Rattle.std.specs.Str.{chars, bytes_eq}
use Rattle.std.proofs.lemmas.Slice.Eq.{bytes_eq-Decides}
use Rattle.std.proofs.lemmas.Bool.Decides.{nat_tests}
use Rattle.std.proofs.lemmas.Bool.{and_parts, false≢true}
use Rattle.tokens.specs.Alphabet.{is_decimal_digit}
use Rattle.tokens.specs.Lexical.{is_one_of_words}
use Rattle.tokens.specs.declared.token.TokenClass.{TokenClass}
use Rattle.tokens.specs.declared.token.TokenClass.TheVariants.{IdentifierName, Punctuator, NumericLiteral, StringLiteral, Template, RegularExpressionLiteral, End, PrivateName, Keyword}
use Rattle.language.specs.Pieces.{PieceOf, Piece, tok, may, many, ahead, unbroken, no_operand, ending, open_parameters, close_parameters, sub, absent, never, lay, space, line, feed, deeper, shallower, apart, loose}
use Rattle.language.specs.Readable.{joins_none}
use Rattle.language.specs.Printed.{Item, word, items_text}
use Rattle.language.proofs.layout.ReadItems.{Apart}
use Rattle.language.proofs.layout.WordsApart.{keyword_apart, Word, is_closer, is_sign_closer, closes, closes_word, name_apart, private_apart, sign_before_gap, chars_front}
use Rattle.language.proofs.layout.LiteralsApart.{number_apart, string_apart, template_apart, regexp_apart}
use Rattle.language.proofs.layout.PunctuatorsApart.{closed_signs, closed_sign_apart, not_apart, plus_apart, minus_apart, star_apart, dot_apart, chain_apart}
use Rattle.language.proofs.table.NeatPieces.{Touch, fresh, apart_from, broken, solid, named, valued, closed, stated, dotted, starred, signed, echoed, first_code, takes_token, takes_sign, behind_token, behind_sign, is_item_touch, goes_behind, goes_behind_sign, is_signed, leads_part}
use Rattle.language.proofs.table.FirstWords.{FrontIs, front_byte}

-- a text that begins with neither `.` nor a digit
pub record Undotted (t : List ℕ) : Type 0 where
  pub code : ℕ
  pub rest : List ℕ
  pub is : chars t ≡ code ∷ rest
  pub no_point : (code == 46) ≡ false
  pub no_digit : is_decimal_digit code ≡ false

pub undotted_code : (c : ℕ) (cs : List ℕ) → c < 128 → (c == 46) ≡ false → is_decimal_digit c ≡ false → Undotted (c ∷ cs)
undotted_code c cs h p q = record { code = c; rest = chars cs; is = chars_front c cs h; no_point = p; no_digit = q }

-- a text that begins with neither `*` nor `=`
pub record Unstarred (t : List ℕ) : Type 0 where
  pub code : ℕ
  pub rest : List ℕ
  pub is : chars t ≡ code ∷ rest
  pub no_star : (code == 42) ≡ false
  pub no_equal : (code == 61) ≡ false

pub unstarred_code : (c : ℕ) (cs : List ℕ) → c < 128 → (c == 42) ≡ false → (c == 61) ≡ false → Unstarred (c ∷ cs)
unstarred_code c cs h p q = record { code = c; rest = chars cs; is = chars_front c cs h; no_star = p; no_equal = q }

pub data SpaceFirst : List ℕ → Type 0 where
  space_first : {t : List ℕ} → SpaceFirst (32 ∷ t)

-- a space, or what begins neither with `=` nor with this byte
pub data SpaceOr (c : ℕ) : List ℕ → Type 0 where
  a_space : {t : List ℕ} → SpaceOr c (32 ∷ t)
  another_front : {t : List ℕ} → FrontIs t → (slice_index_or t 0 0 ≡ c → ⊥) → SpaceOr c t

abbrev pub BehindSign : List Piece → List ℕ → Type 0
BehindSign (lay space ∷ qs) t = SpaceFirst t
BehindSign (lay (apart c) ∷ qs) t = leads_part qs ≡ true → SpaceOr c t
BehindSign (sub x ∷ qs) t = FrontIs t
BehindSign _ t = Unit {0}

-- behind what stands before, these pieces begin with items that may stand there
abbrev pub Behind : Touch → List Piece → List Item → Type 0
Behind broken qs is = joins_none is ≡ true
Behind named qs is = closes_word (items_text is) ≡ true
Behind closed qs is = closes_word (items_text is) ≡ true
Behind valued qs is = closes (items_text is) ≡ true
Behind stated qs is = closes (items_text is) ≡ true
Behind dotted qs is = Undotted (items_text is)
Behind starred qs is = Unstarred (items_text is)
Behind signed qs is = BehindSign qs (items_text is)
Behind _ qs is = Unit {0}

-- what may stand behind a number may stand behind any word
pub closes_any : (t : List ℕ) → closes t ≡ true → closes_word t ≡ true
closes_any [] h = absurd (false≢true h)
closes_any (c ∷ cs) h = go (is_closer c) (is_sign_closer c) h
  where
    go : (a b : Bool) → a ≡ true → (a || b) ≡ true
    go true b h = refl
    go false b h = absurd (false≢true h)

-- A sign, by what it touches

one_word : (w v : List ℕ) → (bytes_eq w v || false) ≡ true → w ≡ v
one_word w v h = go (bytes_eq w v) refl h
  where
    go : (b : Bool) → bytes_eq w v ≡ b → (b || false) ≡ true → w ≡ v
    go true e h = (bytes_eq-Decides w v).0 e
    go false e h = absurd (false≢true h)

two_words : (P : List ℕ → Type 0) (w u v : List ℕ) → (bytes_eq w u || (bytes_eq w v || false)) ≡ true → P u → P v → P w
two_words P w u v h p q = go (bytes_eq w u) refl h
  where
    go : (b : Bool) → bytes_eq w u ≡ b → (b || (bytes_eq w v || false)) ≡ true → P w
    go true e h = subst P (sym ((bytes_eq-Decides w u).0 e)) p
    go false e h = subst P (sym (one_word w v h)) q

dots_apart : (w : List ℕ) (t : List ℕ) → is_one_of_words ("." ∷ "?." ∷ []) w ≡ true → Undotted t → Apart Punctuator w t
dots_apart w t h u = two_words (λ v. Apart Punctuator v t) w (codes ".") (codes "?.") h (dot_apart t u.code u.rest u.is u.no_point u.no_digit) (chain_apart t u.code u.rest u.is u.no_digit)

stars_apart : (w : List ℕ) (t : List ℕ) → is_one_of_words ("*" ∷ []) w ≡ true → Unstarred t → Apart Punctuator w t
stars_apart w t h u = subst (λ v. Apart Punctuator v t) (sym (one_word w (codes "*") h)) (star_apart t u.code u.rest u.is u.no_equal u.no_star)

differs : (t : List ℕ) (c : ℕ) → c < 128 → (f : FrontIs t) → Rattle.std.specs.Str.IsUtf8 t → (slice_index_or t 0 0 ≡ c → ⊥) → (f.code == c) ≡ false
differs t c low f u n = go (f.code == c) refl
  where
    go : (b : Bool) → (f.code == c) ≡ b → (f.code == c) ≡ false
    go false e = e
    go true e = let same : f.code ≡ c = grind (arith, nat_tests) in absurd (n (front_byte t c f.rest u (f.is ∙ ap (λ z. z ∷ f.rest) same) low))

signed_apart : (w : List ℕ) (qs : List Piece) (t : List ℕ) → Word Punctuator w → Rattle.std.specs.Str.IsUtf8 t → goes_behind_sign w qs ≡ true → BehindSign qs t → Apart Punctuator w t
signed_apart w (lay space ∷ qs) t x u h (space_first {t = y}) = sign_before_gap 32 y x refl
signed_apart w (sub s ∷ qs) t x u h f = subst (λ v. Apart Punctuator v t) (sym (one_word w (codes "!") h)) (not_apart t f.code f.rest f.is f.plain)
signed_apart w (lay (apart c) ∷ qs) t x u h f = let k = and_parts (leads_part qs) _ h in of t u (f k.0) (is_one_of_words ("+" ∷ []) w) (nat_eq c 43) (is_one_of_words ("-" ∷ []) w) (nat_eq c 45) refl refl refl refl k.1
  where
    of : (t : List ℕ) → Rattle.std.specs.Str.IsUtf8 t → SpaceOr c t → (p q i j : Bool) → is_one_of_words ("+" ∷ []) w ≡ p → nat_eq c 43 ≡ q → is_one_of_words ("-" ∷ []) w ≡ i → nat_eq c 45 ≡ j → ((p && q) || (i && j)) ≡ true → Apart Punctuator w t
    of t u (a_space {t = y}) p q i j e k l m h = sign_before_gap 32 y x refl
    of t u (another_front g n) true true i j e k l m h =
        let is : c ≡ 43 = grind (arith, nat_tests) in
        subst (λ v. Apart Punctuator v t) (sym (one_word w (codes "+") e)) (plus_apart t g.code g.rest g.is g.plain (differs t 43 (omega arith) g u (λ z. n (z ∙ sym is))))
    of t u (another_front g n) p q true true e k l m h =
        let is : c ≡ 45 = grind (arith, nat_tests) in
        subst (λ v. Apart Punctuator v t) (sym (one_word w (codes "-") l)) (minus_apart t g.code g.rest g.is g.plain (differs t 45 (omega arith) g u (λ z. n (z ∙ sym is))))
    of t u (another_front g n) true false true false e k l m h = absurd (false≢true h)
    of t u (another_front g n) true false false j e k l m h = absurd (false≢true h)
    of t u (another_front g n) false q true false e k l m h = absurd (false≢true h)
    of t u (another_front g n) false q false j e k l m h = absurd (false≢true h)
signed_apart w [] t x u h f = absurd (false≢true h)
signed_apart w (_ ∷ qs) t x u h f = absurd (false≢true h)

-- a sign before what touches it
sign_apart_from : (w : List ℕ) (qs : List Piece) (is : List Item) → Word Punctuator w → Rattle.std.specs.Str.IsUtf8 (items_text is) → goes_behind Punctuator w qs ≡ true → Behind (behind_sign w) qs is → Apart Punctuator w (items_text is)
sign_apart_from w qs is x u g b = of (is_one_of_words closed_signs w) (is_one_of_words ("." ∷ "?." ∷ []) w) (is_one_of_words ("*" ∷ []) w) refl refl refl g b
  where
    of : (p q r : Bool) → is_one_of_words closed_signs w ≡ p → is_one_of_words ("." ∷ "?." ∷ []) w ≡ q → is_one_of_words ("*" ∷ []) w ≡ r →
        (not (is_signed (cond p solid (cond q dotted (cond r starred signed)))) || goes_behind_sign w qs) ≡ true → Behind (cond p solid (cond q dotted (cond r starred signed))) qs is → Apart Punctuator w (items_text is)
    of true q r e k l g b = closed_sign_apart w (items_text is) e
    of false true r e k l g b = dots_apart w (items_text is) k b
    of false false true e k l g b = stars_apart w (items_text is) l b
    of false false false e k l g b = signed_apart w qs (items_text is) x u g b

-- a token before further pieces, which what touches it begins
pub token_apart : (c : TokenClass) (w : List ℕ) (q : Piece) (qs : List Piece) (is : List Item) → Word c w → Rattle.std.specs.Str.IsUtf8 (items_text is) → goes_behind c w (q ∷ qs) ≡ true → Behind (behind_token c w) (q ∷ qs) is → Apart c w (items_text is)
token_apart IdentifierName w q qs is x u g b = name_apart x b
token_apart Punctuator w q qs is x u g b = sign_apart_from w (q ∷ qs) is x u g b
token_apart Template w q qs is x u g b = template_apart (items_text is) x
token_apart NumericLiteral w q qs is x u g b = absurd (false≢true g)
token_apart StringLiteral w q qs is x u g b = absurd (false≢true g)
token_apart RegularExpressionLiteral w q qs is x u g b = absurd (false≢true g)
token_apart PrivateName w q qs is x u g b = absurd (false≢true g)
token_apart Keyword w q qs is x u g b = keyword_apart x b
token_apart End w q qs is x u g b = absurd (false≢true g)

-- only an expression's value leaves a space to be put behind it
pub token_unvalued : (c : TokenClass) (w : List ℕ) (q : Piece) (qs : List Piece) → goes_behind c w (q ∷ qs) ≡ true → Rattle.language.proofs.table.NeatPieces.is_valued (behind_token c w) ≡ false
token_unvalued IdentifierName w q qs g = refl
token_unvalued Template w q qs g = refl
token_unvalued NumericLiteral w q qs g = absurd (false≢true g)
token_unvalued StringLiteral w q qs g = absurd (false≢true g)
token_unvalued RegularExpressionLiteral w q qs g = absurd (false≢true g)
token_unvalued PrivateName w q qs g = refl
token_unvalued Keyword w q qs g = refl
token_unvalued End w q qs g = absurd (false≢true g)
token_unvalued Punctuator w q qs g = of (is_one_of_words closed_signs w) (is_one_of_words ("." ∷ "?." ∷ []) w) (is_one_of_words ("*" ∷ []) w)
  where
    of : (p q r : Bool) → Rattle.language.proofs.table.NeatPieces.is_valued (cond p solid (cond q dotted (cond r starred signed))) ≡ false
    of true q r = refl
    of false true r = refl
    of false false true = refl
    of false false false = refl

-- the last token of a node, before what may stand behind any word, or behind any but a number
pub last_apart : (c : TokenClass) (w : List ℕ) (t : List ℕ) → Word c w → goes_behind {R = Rattle.language.specs.Pieces.Slot} c w [] ≡ true → is_item_touch (behind_token c w) ≡ true → closes_word t ≡ true → (c ≡ NumericLiteral → closes t ≡ true) → Apart c w t
last_apart IdentifierName w t x g i h k = name_apart x h
last_apart NumericLiteral w t x g i h k = number_apart x (k refl)
last_apart StringLiteral w t x g i h k = string_apart t x
last_apart Template w t x g i h k = template_apart t x
last_apart RegularExpressionLiteral w t x g i h k = regexp_apart x h
last_apart PrivateName w t x g i h k = private_apart x h
last_apart Keyword w t x g i h k = keyword_apart x h
last_apart End w t x g i h k = absurd (false≢true g)
last_apart Punctuator w t x g i h k = of (is_one_of_words closed_signs w) (is_one_of_words ("." ∷ "?." ∷ []) w) (is_one_of_words ("*" ∷ []) w) refl i
  where
    of : (p q r : Bool) → is_one_of_words closed_signs w ≡ p → is_item_touch (cond p solid (cond q dotted (cond r starred signed))) ≡ true → Apart Punctuator w t
    of true q r e i = closed_sign_apart w t e
    of false true r e i = absurd (false≢true i)
    of false false true e i = absurd (false≢true i)
    of false false false e i = absurd (false≢true i)

-- A token behind what stands before

sign_first : (f : ℕ → Bool) (w t : List ℕ) → f 0 ≡ false → f (first_code w) ≡ true → Rattle.language.proofs.layout.WordsApart.begins f (w ++ t) ≡ true
sign_first f [] t z h = absurd (false≢true (sym z ∙ h))
sign_first f (c ∷ cs) t z h = h

pub sign_behind : (s : Touch) (w : List ℕ) (qs : List Piece) (is : List Item) → takes_sign s w ≡ true → Behind s qs (word Punctuator w ∷ is)
sign_behind fresh w qs is h = tt
sign_behind apart_from w qs is h = tt
sign_behind broken w qs is h = refl
sign_behind solid w qs is h = tt
sign_behind named w qs is h = sign_first (λ c. is_closer c || is_sign_closer c) w (items_text is) refl h
sign_behind closed w qs is h = sign_first (λ c. is_closer c || is_sign_closer c) w (items_text is) refl h
sign_behind valued w qs is h = sign_first is_closer w (items_text is) refl h
sign_behind stated w qs is h = sign_first is_closer w (items_text is) refl h
sign_behind dotted w qs is h = two_words (λ v. Undotted (v ++ items_text is)) w (codes "[") (codes "(") h (undotted_code 91 (items_text is) (omega arith) refl refl) (undotted_code 40 (items_text is) (omega arith) refl refl)
sign_behind starred w qs is h = subst (λ v. Unstarred (v ++ items_text is)) (sym (one_word w (codes "[") h)) (unstarred_code 91 (items_text is) (omega arith) refl refl)
sign_behind signed w qs is h = absurd (false≢true h)
sign_behind echoed w qs is h = tt

pub token_behind : (s : Touch) (c : TokenClass) (w : List ℕ) (qs : List Piece) (is : List Item) → takes_token s c w ≡ true → Behind s qs (word c w ∷ is)
token_behind fresh c w qs is h = tt
token_behind apart_from c w qs is h = tt
token_behind broken c w qs is h = refl
token_behind solid c w qs is h = tt
token_behind echoed c w qs is h = tt
token_behind named Punctuator w qs is h = sign_behind named w qs is h
token_behind closed Punctuator w qs is h = sign_behind closed w qs is h
token_behind valued Punctuator w qs is h = sign_behind valued w qs is h
token_behind stated Punctuator w qs is h = sign_behind stated w qs is h
token_behind dotted Punctuator w qs is h = sign_behind dotted w qs is h
token_behind starred Punctuator w qs is h = sign_behind starred w qs is h
token_behind signed Punctuator w qs is h = absurd (false≢true h)
token_behind named _ w qs is h = absurd (false≢true h)
token_behind closed _ w qs is h = absurd (false≢true h)
token_behind valued _ w qs is h = absurd (false≢true h)
token_behind stated _ w qs is h = absurd (false≢true h)
token_behind dotted _ w qs is h = absurd (false≢true h)
token_behind starred _ w qs is h = absurd (false≢true h)
token_behind signed _ w qs is h = absurd (false≢true h)
