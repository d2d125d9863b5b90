-- Words that stand apart from what follows, by its first character.
use Rattle.std.proofs.Common.{◌≡◌, ℕ, zero, suc, ◌<◌, Bool, true, false, not, ◌&&◌, ◌||◌, List, [], ◌∷◌, ◌++◌, refl, sym, ap, ◌∙◌, subst, arith, IsTrue, IsFalse, inl, inr, ◌⊎◌}
use Rattle.std.specs.Prelude.{◌==◌, if◌then◌else◌, codes}
use Rattle.std.specs.List.{list_all, list_any}
use Rattle.std.specs.Str.{chars, IsUtf8, IsAscii}
use Rattle.std.proofs.lemmas.Str.{chars-append, chars-IsAscii, IsUtf8-from_ascii}
use Rattle.std.proofs.lemmas.Bool.Decides.{nat_tests}
use Rattle.std.proofs.lemmas.Bool.{and_parts, and_from, false≢true}
use Rattle.std.specs.Char.{is_ascii_alphabetic, is_ascii_alphanumeric}
use Rattle.tokens.specs.Alphabet.{one_of, is_among, begins_with, is_identifier_start, is_identifier_part, is_decimal_digit}
use Rattle.tokens.specs.Comments.{begins_comment}
use Rattle.tokens.specs.declared.token.TokenClass.{TokenClass}
use Rattle.tokens.specs.declared.token.TokenClass.TheVariants.{IdentifierName, Punctuator, NumericLiteral, StringLiteral, PrivateName}
use Rattle.tokens.specs.Lexical.{is_of, is_at, none_longer, is_token, may_stand, is_punctuator, punctuators}
use Rattle.tokens.specs.declared.token.Goal.TheVariants.{Div}
use Rattle.tokens.specs.Goals.{allows}
use Rattle.tokens.proofs.Names.{all_stop, ascii_start, ascii_part}
use Rattle.tokens.proofs.Longest.{none_is_longer}
use Rattle.tokens.proofs.Beginnings.{true_false}
use Rattle.tokens.proofs.Classes.{words_all, start_plain, is_special}
use Rattle.language.specs.Readable.{scanned}
use Rattle.language.proofs.layout.ReadItems.{Apart, KeptText}

-- the text of a token of a class, by itself, as the table has it
pub record Word (class : TokenClass) (w : List ℕ) : Type 0 where
  pub utf8 : IsUtf8 w
  pub is : IsTrue (is_of (scanned class) (chars w))
  pub kept : KeptText class w

-- a keyword is a name
pub keyword_named : {w : List ℕ} → Word TokenClass.Keyword w → Word IdentifierName w
keyword_named x = record { utf8 = x.utf8; is = x.is; kept = refl }

-- What follows

-- what may stand behind any word: a space, a line feed, or one of `(),:;?[]` and the grave accent and `}`
abbrev pub is_closer : ℕ → Bool
is_closer c = is_among c (32 ∷ 10 ∷ 40 ∷ 41 ∷ 44 ∷ 58 ∷ 59 ∷ 63 ∷ 91 ∷ 93 ∷ 96 ∷ 125 ∷ [])

-- behind any word but a number: `.`, `+`, `-` and `*` too
abbrev pub is_sign_closer : ℕ → Bool
is_sign_closer c = is_among c (46 ∷ 43 ∷ 45 ∷ 42 ∷ [])

abbrev pub begins : (ℕ → Bool) → List ℕ → Bool
begins f [] = false
begins f (c ∷ cs) = f c

abbrev pub closes : List ℕ → Bool
closes rest = begins is_closer rest

abbrev pub closes_word : List ℕ → Bool
closes_word rest = begins (λ c. is_closer c || is_sign_closer c) rest

ascii_one : (c : ℕ) → c < 128 → IsAscii (c ∷ [])
ascii_one c h zero = h
ascii_one c h (suc i) = omega arith

-- the first character, where it is ASCII
pub chars_front : (c : ℕ) (cs : List ℕ) → c < 128 → chars (c ∷ cs) ≡ c ∷ chars cs
chars_front c cs h = chars-append (c ∷ []) cs (IsUtf8-from_ascii (c ∷ []) (ascii_one c h)) ∙ ap (λ x. x ++ chars cs) (chars-IsAscii (c ∷ []) (ascii_one c h))

pub closer_low : (c : ℕ) → (is_closer c || is_sign_closer c) ≡ true → c < 128
closer_low c h = grind (arith, nat_tests)

closer_part : (c : ℕ) → (is_closer c || is_sign_closer c) ≡ true → IsFalse (is_identifier_part c)
closer_part c h = sym (ascii_part c (let l = closer_low c h in grind (arith, nat_tests))) ∙ plain c h
  where
    plain : (c : ℕ) → (is_closer c || is_sign_closer c) ≡ true → (one_of "$_" c || is_ascii_alphanumeric c) ≡ false
    plain c h = grind (arith, nat_tests)

-- A name, and the flags of a regular expression

pub no_part : (rest : List ℕ) → closes_word rest ≡ true → IsFalse (begins_with is_identifier_part (chars rest))
no_part [] h = absurd (false≢true h)
no_part (c ∷ cs) h = subst (λ x. IsFalse (begins_with is_identifier_part x)) (sym (chars_front c cs (closer_low c h))) (closer_part c h)

name_longest : (w rest : List ℕ) → IsTrue (is_of IdentifierName w) → IsFalse (begins_with is_identifier_part rest) → IsTrue (is_token IdentifierName w rest)
name_longest [] rest h e = absurd (true_false _ h refl)
name_longest (c ∷ parts) rest h e =
    whole (is_of IdentifierName (c ∷ parts)) (none_longer IdentifierName (c ∷ parts) rest) h
    (none_is_longer IdentifierName (c ∷ parts) rest (λ d more behind q.
    at_more (is_identifier_start c) (list_all is_identifier_part (parts ++ d ∷ more)) (all_stop is_identifier_part parts more d (subst (λ x. IsFalse (begins_with is_identifier_part x)) q e))))
  where
    whole : (a n : Bool) → IsTrue a → IsTrue n → IsTrue (((a && true) && n) && true)
    whole a n h k = grind (arith, nat_tests)

    at_more : (a b : Bool) → IsFalse b → IsFalse ((a && b) && true)
    at_more a b h = grind (arith, nat_tests)

name_no_comment : (w rest : List ℕ) → IsTrue (is_of IdentifierName w) → IsTrue (not (begins_comment (w ++ rest)))
name_no_comment [] rest h = absurd (true_false _ h refl)
name_no_comment (c ∷ parts) rest h =
    slash (one_of "/" c) (begins_with (one_of "/*") (parts ++ rest)) (no_slash c (start_plain c (first (is_identifier_start c) (list_all is_identifier_part parts) h)))
  where
    first : (a b : Bool) → IsTrue (a && b) → IsTrue a
    first a b h = grind (arith, nat_tests)

    no_slash : (c : ℕ) → IsFalse (is_special c) → IsFalse (one_of "/" c)
    no_slash c h = grind (arith, nat_tests)

    slash : (a b : Bool) → IsFalse a → IsTrue (not (a && b))
    slash a b h = grind (arith, nat_tests)

-- what is neither a regular expression nor a part of a template is read by Div
pub div_allows : (w : List ℕ) → (c : TokenClass) → (c ≡ IdentifierName) ⊎ ((c ≡ NumericLiteral) ⊎ ((c ≡ StringLiteral) ⊎ (c ≡ Punctuator))) → IsTrue (allows Div c w)
div_allows w c h = of (begins_with (one_of "/") w) (begins_with (one_of "}") w) c h
  where
    plain : (a b : Bool) → IsTrue (if a then true else if b then true else true)
    plain true b = refl
    plain false true = refl
    plain false false = refl

    of : (a b : Bool) (c : TokenClass) → (c ≡ IdentifierName) ⊎ ((c ≡ NumericLiteral) ⊎ ((c ≡ StringLiteral) ⊎ (c ≡ Punctuator))) → IsTrue (if a then Rattle.std.specs.Bool.beq (Rattle.tokens.specs.Goals.is_regexp c) false else if b then Rattle.std.specs.Bool.beq (Rattle.tokens.specs.Goals.is_template_part c) false else true)
    of a b c (inl e) = subst (λ k. IsTrue (if a then Rattle.std.specs.Bool.beq (Rattle.tokens.specs.Goals.is_regexp k) false else if b then Rattle.std.specs.Bool.beq (Rattle.tokens.specs.Goals.is_template_part k) false else true)) (sym e) (plain a b)
    of a b c (inr (inl e)) = subst (λ k. IsTrue (if a then Rattle.std.specs.Bool.beq (Rattle.tokens.specs.Goals.is_regexp k) false else if b then Rattle.std.specs.Bool.beq (Rattle.tokens.specs.Goals.is_template_part k) false else true)) (sym e) (plain a b)
    of a b c (inr (inr (inl e))) = subst (λ k. IsTrue (if a then Rattle.std.specs.Bool.beq (Rattle.tokens.specs.Goals.is_regexp k) false else if b then Rattle.std.specs.Bool.beq (Rattle.tokens.specs.Goals.is_template_part k) false else true)) (sym e) (plain a b)
    of a b c (inr (inr (inr e))) = subst (λ k. IsTrue (if a then Rattle.std.specs.Bool.beq (Rattle.tokens.specs.Goals.is_regexp k) false else if b then Rattle.std.specs.Bool.beq (Rattle.tokens.specs.Goals.is_template_part k) false else true)) (sym e) (plain a b)

pub name_apart : {w rest : List ℕ} → Word IdentifierName w → closes_word rest ≡ true → Apart IdentifierName w rest
name_apart {w} {rest} h k = record {
  utf8 = h.utf8;
  longest = name_longest (chars w) (chars rest) h.is (no_part rest k);
  no_comment = name_no_comment (chars w) (chars rest) h.is;
  goal = Div;
  allowed = div_allows (chars w) IdentifierName (inl refl);
  kept = h.kept;
}

-- a keyword stands apart where its name does
pub keyword_apart : {w rest : List ℕ} → Word TokenClass.Keyword w → closes_word rest ≡ true → Apart TokenClass.Keyword w rest
keyword_apart x k =
    let a = name_apart (keyword_named x) k in
    record { utf8 = a.utf8; longest = a.longest; no_comment = a.no_comment; goal = a.goal; allowed = a.allowed; kept = x.kept }

-- Private names

private_longest : (w rest : List ℕ) → IsTrue (is_of PrivateName w) → IsFalse (begins_with is_identifier_part rest) → IsTrue (is_token PrivateName w rest)
private_longest [] rest h e = absurd (true_false _ h refl)
private_longest (c ∷ []) rest h e = absurd (true_false _ h (ends (one_of "#" c)))
  where
    ends : (a : Bool) → (a && false) ≡ false
    ends true = refl
    ends false = refl
private_longest (c ∷ x ∷ parts) rest h e =
    whole (is_of PrivateName (c ∷ x ∷ parts)) (none_longer PrivateName (c ∷ x ∷ parts) rest) h
    (none_is_longer PrivateName (c ∷ x ∷ parts) rest (λ d more behind q.
    at_more (one_of "#" c) (is_identifier_start x) (list_all is_identifier_part (parts ++ d ∷ more)) (all_stop is_identifier_part parts more d (subst (λ y. IsFalse (begins_with is_identifier_part y)) q e))))
  where
    whole : (a n : Bool) → IsTrue a → IsTrue n → IsTrue (((a && true) && n) && true)
    whole a n h k = grind (arith, nat_tests)

    at_more : (a b c : Bool) → IsFalse c → IsFalse ((a && (b && c)) && true)
    at_more a b c h = grind (arith, nat_tests)

private_no_comment : (w rest : List ℕ) → IsTrue (is_of PrivateName w) → IsTrue (not (begins_comment (w ++ rest)))
private_no_comment [] rest h = absurd (true_false _ h refl)
private_no_comment (c ∷ parts) rest h = slash (one_of "/" c) (begins_with (one_of "/*") (parts ++ rest)) (no_slash c (and_parts _ _ h).0)
  where
    no_slash : (c : ℕ) → IsTrue (one_of "#" c) → IsFalse (one_of "/" c)
    no_slash c h = grind (arith, nat_tests)

    slash : (a b : Bool) → IsFalse a → IsTrue (not (a && b))
    slash a b h = grind (arith, nat_tests)

private_allowed : (w : List ℕ) → IsTrue (allows Div PrivateName w)
private_allowed w = plain (begins_with (one_of "/") w) (begins_with (one_of "}") w)
  where
    plain : (a b : Bool) → IsTrue (if a then true else if b then true else true)
    plain true b = refl
    plain false true = refl
    plain false false = refl

pub private_apart : {w rest : List ℕ} → Word PrivateName w → closes_word rest ≡ true → Apart PrivateName w rest
private_apart {w} {rest} h k = record {
  utf8 = h.utf8;
  longest = private_longest (chars w) (chars rest) h.is (no_part rest k);
  no_comment = private_no_comment (chars w) (chars rest) h.is;
  goal = Div;
  allowed = private_allowed (chars w);
  kept = h.kept;
}

-- Punctuators

pub sign_whole : (w rest : List ℕ) → IsTrue (is_at Punctuator w rest) → ((c : ℕ) (more behind : List ℕ) → rest ≡ c ∷ more ++ behind → IsFalse (is_at Punctuator (w ++ c ∷ more) behind)) → IsTrue (is_token Punctuator w rest)
sign_whole w rest h longer = whole (is_at Punctuator w rest) (none_longer Punctuator w rest) h (none_is_longer Punctuator w rest longer)
  where
    whole : (a n : Bool) → IsTrue a → IsTrue n → IsTrue ((a && n) && true)
    whole a n h k = grind (arith, nat_tests)

pub false_of : (b : Bool) → (b ≡ true → ⊥) → b ≡ false
false_of true f = absurd (f refl)
false_of false f = refl

pub not_at : (w rest : List ℕ) → (IsTrue (is_punctuator w) → ⊥) → IsFalse (is_at Punctuator w rest)
not_at w rest f = ap (λ b. b && may_stand Punctuator w rest) (false_of (is_punctuator w) f)

-- no punctuator has a space or a line feed in it
abbrev no_space : List ℕ → Bool
no_space w = list_all (λ c. not (c == 32 || c == 10)) w

has_space : (v : List ℕ) (c : ℕ) (more : List ℕ) → (c == 32 || c == 10) ≡ true → IsTrue (no_space (v ++ c ∷ more)) → ⊥
has_space [] c more h k = false≢true (sym (ap not h) ∙ (and_parts (not (c == 32 || c == 10)) _ k).0)
has_space (d ∷ v) c more h k = has_space v c more h (and_parts (not (d == 32 || d == 10)) _ k).1

-- a punctuator before a space or a line feed
abbrev pub is_gap_code : ℕ → Bool
is_gap_code c = c == 32 || c == 10

gap_low : (c : ℕ) → is_gap_code c ≡ true → c < 128
gap_low c h = grind (arith, nat_tests)

spaced_may : (w : List ℕ) (c : ℕ) (cs : List ℕ) → is_gap_code c ≡ true → IsTrue (may_stand Punctuator w (c ∷ cs))
spaced_may w c cs h = go (Rattle.tokens.specs.Lexical.is_one_of_words ("?." ∷ "." ∷ []) w) (is_decimal_digit c) (no_digit c h)
  where
    no_digit : (c : ℕ) → is_gap_code c ≡ true → is_decimal_digit c ≡ false
    no_digit c h = grind (arith, nat_tests)

    go : (a b : Bool) → b ≡ false → IsTrue (not (a && b))
    go a b h = grind (arith, nat_tests)

spaced_no_comment : (w : List ℕ) (c : ℕ) (cs : List ℕ) → is_gap_code c ≡ true → IsTrue (is_punctuator w) → IsTrue (not (begins_comment (w ++ c ∷ cs)))
spaced_no_comment [] c cs h k = absurd (true_false _ k refl)
spaced_no_comment (a ∷ []) c cs h k = go c (one_of "/" a) h
  where
    go : (c : ℕ) (x : Bool) → is_gap_code c ≡ true → IsTrue (not (x && one_of "/*" c))
    go c x h = grind (arith, nat_tests)
spaced_no_comment (a ∷ b ∷ v) c cs h k = words_all punctuators (λ w. not (begins_comment w)) (a ∷ b ∷ v) refl k

pub sign_before_gap : {w : List ℕ} (c : ℕ) (cs : List ℕ) → Word Punctuator w → is_gap_code c ≡ true → Apart Punctuator w (c ∷ cs)
sign_before_gap {w} c cs h k = record {
  utf8 = h.utf8;
  longest = subst (λ x. IsTrue (is_token Punctuator (chars w) x)) (sym (chars_front c cs (gap_low c k)))
      (sign_whole (chars w) (c ∷ chars cs) (and_from _ _ h.is (spaced_may (chars w) c (chars cs) k))
      (λ d more behind e. not_at (chars w ++ d ∷ more) behind (λ x. has_space (chars w) d more (let same : c ≡ d = cc in subst (λ z. is_gap_code z ≡ true) same k) (words_all punctuators no_space (chars w ++ d ∷ more) refl x))));
  no_comment = subst (λ x. IsTrue (not (begins_comment (chars w ++ x)))) (sym (chars_front c cs (gap_low c k))) (spaced_no_comment (chars w) c (chars cs) k h.is);
  goal = Div;
  allowed = div_allows (chars w) Punctuator (inr (inr (inr refl)));
  kept = h.kept;
}

-- the word `from`
pub from_word : Word IdentifierName (codes "from")
from_word = record {
  utf8 = IsUtf8-from_ascii (codes "from") ascii;
  is = subst (λ x. IsTrue (is_of IdentifierName x)) (sym (chars-IsAscii (codes "from") ascii))
      (and_from _ _ (sym (ascii_start 102 refl)) (and_from _ _ (sym (ascii_part 114 refl)) (and_from _ _ (sym (ascii_part 111 refl)) (and_from _ _ (sym (ascii_part 109 refl)) refl))));
  kept = refl;
}
  where
    ascii : IsAscii (codes "from")
    ascii zero = omega arith
    ascii (suc zero) = omega arith
    ascii (suc (suc zero)) = omega arith
    ascii (suc (suc (suc zero))) = omega arith
    ascii (suc (suc (suc (suc i)))) = omega arith
