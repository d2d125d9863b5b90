-- The first item of a node's layout is a word, but for a shorthand key, which stands before a name of its text.
use Rattle.std.proofs.Common.{◌≡◌, ℕ, ◌<◌, Bool, true, false, cond, ◌&&◌, ◌||◌, nat_eq, List, [], ◌∷◌, ◌++◌, refl, sym, ap, ◌∙◌, subst, arith, IsTrue}
use Rattle.std.specs.Prelude.{◌==◌, codes, slice_index_or}
use Rattle.std.specs.Str.{chars, IsUtf8}
use Rattle.std.proofs.Math.Utf8.{encode, encodes}
use Rattle.std.proofs.lemmas.Str.{chars-append, encodes-chars}
use Rattle.std.proofs.lemmas.Bool.Decides.{nat_tests}
use Rattle.std.proofs.lemmas.Bool.{and_parts, false≢true, true≢false}
use Rattle.tokens.specs.Alphabet.{one_of, begins_with, is_decimal_digit}
use Rattle.tokens.specs.declared.token.TokenClass.{TokenClass}
use Rattle.tokens.specs.declared.token.TokenClass.TheVariants.{IdentifierName, Punctuator, NumericLiteral, StringLiteral, Template, RegularExpressionLiteral, PrivateName, Keyword, End}
use Rattle.tokens.specs.Lexical.{is_of}
use Rattle.tokens.proofs.Beginnings.{true_false}
use Rattle.tokens.proofs.Classes.{number_begins, start_plain, is_special, token_is}
use Rattle.language.specs.Edges.{is_sign_class}
use Rattle.language.specs.Readable.{on_this_line, joins_none}
use Rattle.language.specs.Printed.{Item, word, name_ahead, items_text}
use Rattle.language.specs.Readable.{scanned}
use Rattle.language.proofs.layout.ReadItems.{Apart}
use Rattle.language.proofs.layout.WordsApart.{Word}
use Rattle.language.proofs.layout.PunctuatorsApart.{closed_sign_apart}
use Rattle.language.proofs.table.NeatPieces.{first_code}

-- a text's first character, which isn't `=`
pub record FrontIs (w : List ℕ) : Type 0 where
  pub code : ℕ
  pub rest : List ℕ
  pub is : chars w ≡ code ∷ rest
  pub plain : (code == 61) ≡ false

-- a first character below 128 is the first byte
pub front_byte : (w : List ℕ) (c : ℕ) (cs : List ℕ) → IsUtf8 w → chars w ≡ c ∷ cs → c < 128 → slice_index_or w 0 0 ≡ c
unfolding encode
front_byte w c cs u e h = ap (λ x. slice_index_or x 0 0) (sym (encodes-chars w u) ∙ ap encodes e) ∙ go (Rattle.std.specs.Prelude.nat_lt c 128) _ (let k : Rattle.std.specs.Prelude.nat_lt c 128 ≡ true = grind (arith, nat_tests) in k)
  where
    go : (b : Bool) (x : List ℕ) → b ≡ true → slice_index_or (cond b (c ∷ []) x ++ encodes cs) 0 0 ≡ c
    go true x h = refl
    go false x h = absurd (false≢true h)

-- a word's first character, by its class
front_of : (c : TokenClass) (w : List ℕ) → IsTrue (is_of c w) → (c ≡ End → ⊥) → (x : ℕ) (xs : List ℕ) → w ≡ x ∷ xs → (c ≡ Punctuator → (x == 61) ≡ false) → (x == 61) ≡ false
front_of IdentifierName [] h n x xs e k = absurd (true_false _ h refl)
front_of IdentifierName (y ∷ ys) h n x xs e k = let same : y ≡ x = cc in subst (λ z. (z == 61) ≡ false) same (plain y (start_plain y (and_parts _ _ h).0))
  where
    plain : (c : ℕ) → is_special c ≡ false → (c == 61) ≡ false
    plain c h = grind (arith, nat_tests)
front_of NumericLiteral [] h n x xs e k = absurd (true_false _ h refl)
front_of NumericLiteral (y ∷ ys) h n x xs e k = let same : y ≡ x = cc in subst (λ z. (z == 61) ≡ false) same (plain y (begins_with is_decimal_digit ys) (number_begins y ys h))
  where
    plain : (c : ℕ) (b : Bool) → IsTrue (is_decimal_digit c || (one_of "." c && b)) → (c == 61) ≡ false
    plain c b h = grind (arith, nat_tests)
front_of StringLiteral [] h n x xs e k = absurd (true_false _ h refl)
front_of StringLiteral (y ∷ ys) h n x xs e k = let same : y ≡ x = cc in subst (λ z. (z == 61) ≡ false) same (plain y (and_parts _ _ h).0)
  where
    plain : (c : ℕ) → IsTrue (one_of "'\"" c) → (c == 61) ≡ false
    plain c h = grind (arith, nat_tests)
front_of Template [] h n x xs e k = absurd (true_false _ h refl)
front_of Template (y ∷ ys) h n x xs e k = let same : y ≡ x = cc in subst (λ z. (z == 61) ≡ false) same (plain y (and_parts _ _ h).0)
  where
    plain : (c : ℕ) → IsTrue (one_of "`}" c) → (c == 61) ≡ false
    plain c h = grind (arith, nat_tests)
front_of PrivateName [] h n x xs e k = absurd (true_false _ h refl)
front_of PrivateName (y ∷ ys) h n x xs e k = let same : y ≡ x = cc in subst (λ z. (z == 61) ≡ false) same (plain y (and_parts _ _ h).0)
  where
    plain : (c : ℕ) → IsTrue (one_of "#" c) → (c == 61) ≡ false
    plain c h = grind (arith, nat_tests)
front_of Keyword w h n x xs e k = absurd (true_false _ h refl)
front_of RegularExpressionLiteral [] h n x xs e k = absurd (true_false _ h refl)
front_of RegularExpressionLiteral (y ∷ ys) h n x xs e k = let same : y ≡ x = cc in subst (λ z. (z == 61) ≡ false) same (plain y (and_parts _ _ h).0)
  where
    plain : (c : ℕ) → IsTrue (one_of "/" c) → (c == 61) ≡ false
    plain c h = grind (arith, nat_tests)
front_of Punctuator w h n x xs e k = k refl
front_of End w h n x xs e k = absurd (n refl)

-- no word but a sign begins with `*`
pub no_star_first : (c : TokenClass) (w : List ℕ) → IsTrue (is_of c w) → is_sign_class c ≡ false → (x : ℕ) (xs : List ℕ) → w ≡ x ∷ xs → (x == 42) ≡ false
no_star_first IdentifierName [] h n x xs e = absurd (true_false _ h refl)
no_star_first IdentifierName (y ∷ ys) h n x xs e = let same : y ≡ x = cc in subst (λ z. (z == 42) ≡ false) same (plain y (start_plain y (and_parts _ _ h).0))
  where
    plain : (c : ℕ) → is_special c ≡ false → (c == 42) ≡ false
    plain c h = grind (arith, nat_tests)
no_star_first NumericLiteral [] h n x xs e = absurd (true_false _ h refl)
no_star_first NumericLiteral (y ∷ ys) h n x xs e = let same : y ≡ x = cc in subst (λ z. (z == 42) ≡ false) same (plain y (begins_with is_decimal_digit ys) (number_begins y ys h))
  where
    plain : (c : ℕ) (b : Bool) → IsTrue (is_decimal_digit c || (one_of "." c && b)) → (c == 42) ≡ false
    plain c b h = grind (arith, nat_tests)
no_star_first StringLiteral [] h n x xs e = absurd (true_false _ h refl)
no_star_first StringLiteral (y ∷ ys) h n x xs e = let same : y ≡ x = cc in subst (λ z. (z == 42) ≡ false) same (plain y (and_parts _ _ h).0)
  where
    plain : (c : ℕ) → IsTrue (one_of "'\"" c) → (c == 42) ≡ false
    plain c h = grind (arith, nat_tests)
no_star_first Template [] h n x xs e = absurd (true_false _ h refl)
no_star_first Template (y ∷ ys) h n x xs e = let same : y ≡ x = cc in subst (λ z. (z == 42) ≡ false) same (plain y (and_parts _ _ h).0)
  where
    plain : (c : ℕ) → IsTrue (one_of "`}" c) → (c == 42) ≡ false
    plain c h = grind (arith, nat_tests)
no_star_first RegularExpressionLiteral [] h n x xs e = absurd (true_false _ h refl)
no_star_first RegularExpressionLiteral (y ∷ ys) h n x xs e = let same : y ≡ x = cc in subst (λ z. (z == 42) ≡ false) same (plain y (and_parts _ _ h).0)
  where
    plain : (c : ℕ) → IsTrue (one_of "/" c) → (c == 42) ≡ false
    plain c h = grind (arith, nat_tests)
no_star_first PrivateName [] h n x xs e = absurd (true_false _ h refl)
no_star_first PrivateName (y ∷ ys) h n x xs e = let same : y ≡ x = cc in subst (λ z. (z == 42) ≡ false) same (plain y (and_parts _ _ h).0)
  where
    plain : (c : ℕ) → IsTrue (one_of "#" c) → (c == 42) ≡ false
    plain c h = grind (arith, nat_tests)
no_star_first Keyword w h n x xs e = absurd (true_false _ h refl)
no_star_first End [] h n x xs e = cc
no_star_first End (y ∷ ys) h n x xs e = absurd (true_false _ h refl)
no_star_first Punctuator w h n x xs e = absurd (true≢false n)

has_front : (c : TokenClass) (w : List ℕ) → (c ≡ End → ⊥) → IsTrue (is_of c w) → w ≡ [] → ⊥
has_front IdentifierName w n h e = true_false _ (subst (λ v. IsTrue (is_of IdentifierName v)) e h) refl
has_front Punctuator w n h e = true_false _ (subst (λ v. IsTrue (is_of Punctuator v)) e h) refl
has_front NumericLiteral w n h e = true_false _ (subst (λ v. IsTrue (is_of NumericLiteral v)) e h) refl
has_front StringLiteral w n h e = true_false _ (subst (λ v. IsTrue (is_of StringLiteral v)) e h) refl
has_front Template w n h e = true_false _ (subst (λ v. IsTrue (is_of Template v)) e h) refl
has_front RegularExpressionLiteral w n h e = true_false _ (subst (λ v. IsTrue (is_of RegularExpressionLiteral v)) e h) refl
has_front PrivateName w n h e = true_false _ (subst (λ v. IsTrue (is_of PrivateName v)) e h) refl
has_front Keyword w n h e = true_false _ (subst (λ v. IsTrue (is_of Keyword v)) e h) refl
has_front End w n h e = n refl

-- a keyword is scanned as a name
scanned_end : (c : TokenClass) → scanned c ≡ End → c ≡ End
scanned_end Keyword e = cc
scanned_end _ e = e

scanned_sign : (c : TokenClass) → scanned c ≡ Punctuator → c ≡ Punctuator
scanned_sign Keyword e = cc
scanned_sign _ e = e

-- a word that isn't the end, and no sign that begins with `=`
pub word_front : {c : TokenClass} {w : List ℕ} → Word c w → (c ≡ End → ⊥) → (c ≡ Punctuator → nat_eq (first_code w) 61 ≡ false) → FrontIs w
word_front {c} {w} h n k = go (chars w) refl
  where
    differs : (x : ℕ) (xs : List ℕ) → chars w ≡ x ∷ xs → nat_eq (first_code w) 61 ≡ false → (x == 61) ≡ false
    differs x xs e f = of (x == 61) refl
      where
        of : (b : Bool) → (x == 61) ≡ b → (x == 61) ≡ false
        of false g = g
        of true g =
            let is : x ≡ 61 = grind (arith, nat_tests) in
            absurd (false≢true (sym f ∙ ap (λ z. nat_eq z 61) (front_byte w 61 xs h.utf8 (e ∙ ap (λ z. z ∷ xs) is) (omega arith))))

    go : (cs : List ℕ) → chars w ≡ cs → FrontIs w
    go [] e = absurd (has_front (scanned c) (chars w) (λ z. n (scanned_end c z)) h.is e)
    go (x ∷ xs) e = record { code = x; rest = xs; is = e; plain = front_of (scanned c) (chars w) h.is (λ z. n (scanned_end c z)) x xs e (λ p. differs x xs e (k (scanned_sign c p))) }

-- What begins with a word

pub data Starts : List Item → Type 0 where
  a_word_first : {c : TokenClass} {w : List ℕ} {is : List Item} → Word c w → FrontIs w → Starts (word c w ∷ is)
  a_name_seen : {w : List ℕ} {is : List Item} → Word IdentifierName w → FrontIs w → Starts (name_ahead w ∷ word IdentifierName w ∷ is)

pub starts_on : {xs : List Item} (ys : List Item) → Starts xs → Starts (xs ++ ys)
starts_on ys (a_word_first h f) = a_word_first h f
starts_on ys (a_name_seen h f) = a_name_seen h f

pub starts_line : {is : List Item} → Starts is → on_this_line is ≡ true
starts_line (a_word_first h f) = refl
starts_line (a_name_seen h f) = refl

pub starts_free : {is : List Item} → Starts is → joins_none is ≡ true
starts_free (a_word_first h f) = refl
starts_free (a_name_seen h f) = refl

front_on : {w : List ℕ} (rest : List ℕ) → IsUtf8 w → FrontIs w → FrontIs (w ++ rest)
front_on {w} rest u f = record { code = f.code; rest = f.rest ++ chars rest; is = chars-append w rest u ∙ ap (λ x. x ++ chars rest) f.is; plain = f.plain }

pub starts_front : {is : List Item} → Starts is → FrontIs (items_text is)
starts_front (a_word_first h f) = front_on _ h.utf8 f
starts_front (a_name_seen h f) = front_on _ h.utf8 f

-- an opening parenthesis
pub apart_word : {c : TokenClass} {w rest : List ℕ} → Apart c w rest → Word c w
apart_word {c} {w} {rest} h = record { utf8 = h.utf8; is = token_is (scanned c) (chars w) (chars rest) h.longest; kept = h.kept }

pub closed_word : (w : List ℕ) → Rattle.tokens.specs.Lexical.is_one_of_words Rattle.language.proofs.layout.PunctuatorsApart.closed_signs w ≡ true → Word Punctuator w
closed_word w h = apart_word (closed_sign_apart w [] h)

pub not_end : Punctuator ≡ End → ⊥
not_end e = true≢false (ap is_sign e)
  where
    is_sign : TokenClass → Bool
    is_sign Punctuator = true
    is_sign _ = false

pub sign_starts : (w : List ℕ) (is : List Item) → Rattle.tokens.specs.Lexical.is_one_of_words Rattle.language.proofs.layout.PunctuatorsApart.closed_signs w ≡ true → nat_eq (first_code w) 61 ≡ false → Starts (word Punctuator w ∷ is)
sign_starts w is h k = a_word_first (closed_word w h) (word_front (closed_word w h) not_end (λ e. k))
