-- Signs that stand apart from what follows without a space.
use Rattle.std.proofs.Common.{◌≡◌, ℕ, zero, suc, ◌<◌, Bool, true, false, not, ◌&&◌, ◌||◌, List, [], ◌∷◌, ◌++◌, refl, sym, ap, ◌∙◌, subst, arith, IsTrue, inr}
use Prim.Native.String.{String}
use Rattle.std.specs.Prelude.{codes, ◌==◌}
use Rattle.std.specs.Str.{chars, bytes_eq, IsUtf8, IsAscii}
use Rattle.std.proofs.lemmas.Str.{chars-IsAscii, IsUtf8-from_ascii}
use Rattle.std.proofs.lemmas.Slice.Eq.{bytes_eq-Decides}
use Rattle.std.proofs.lemmas.Bool.Decides.{nat_tests}
use Rattle.std.proofs.lemmas.Bool.{and_from, false≢true}
use Rattle.tokens.specs.Alphabet.{is_decimal_digit}
use Rattle.tokens.specs.Comments.{begins_comment}
use Rattle.tokens.specs.declared.token.TokenClass.TheVariants.{Punctuator}
use Rattle.tokens.specs.declared.token.Goal.TheVariants.{Div}
use Rattle.tokens.specs.Lexical.{is_punctuator, is_one_of_words, may_stand, punctuators}
use Rattle.tokens.proofs.Classes.{words_all, all_words}
use Rattle.language.proofs.layout.ReadItems.{Apart}
use Rattle.language.proofs.layout.WordsApart.{Word, sign_whole, not_at, div_allows}

-- a list has this beginning
abbrev pub has_front : List ℕ → List ℕ → Bool
has_front [] v = true
has_front (x ∷ xs) [] = false
has_front (x ∷ xs) (y ∷ v) = (x == y) && has_front xs v

same_front : (xs more : List ℕ) → has_front xs (xs ++ more) ≡ true
same_front [] more = refl
same_front (x ∷ xs) more = and_from _ _ (same x) (same_front xs more)
  where
    same : (x : ℕ) → (x == x) ≡ true
    same x = grind (arith, nat_tests)

-- no punctuator begins with the sign and this character
abbrev pub parts_from : List ℕ → ℕ → Bool
parts_from w c = all_words (λ v. not (has_front (w ++ c ∷ []) v)) punctuators

-- a sign that is no punctuator with what follows
pub sign_apart : {w : List ℕ} (rest : List ℕ) → Word Punctuator w → ((c : ℕ) (cs : List ℕ) → chars rest ≡ c ∷ cs → parts_from (chars w) c ≡ true) →
    IsTrue (may_stand Punctuator (chars w) (chars rest)) → IsTrue (not (begins_comment (chars w ++ chars rest))) → Apart Punctuator w rest
sign_apart {w} rest h parts may comment = record {
  utf8 = h.utf8;
  longest = sign_whole (chars w) (chars rest) (and_from _ _ h.is may) (λ c more behind e. not_at (chars w ++ c ∷ more) behind (λ x. longer c more (parts c (more ++ behind) e) x));
  no_comment = comment;
  goal = Div;
  allowed = div_allows (chars w) Punctuator (inr (inr (inr refl)));
  kept = h.kept;
}
  where
    split : (xs : List ℕ) (c : ℕ) (more : List ℕ) → xs ++ c ∷ more ≡ (xs ++ c ∷ []) ++ more
    split [] c more = refl
    split (x ∷ xs) c more = ap (λ z. x ∷ z) (split xs c more)

    longer : (c : ℕ) (more : List ℕ) → parts_from (chars w) c ≡ true → IsTrue (is_punctuator (chars w ++ c ∷ more)) → ⊥
    longer c more all x =
        let y = words_all punctuators (λ v. not (has_front (chars w ++ c ∷ []) v)) (chars w ++ c ∷ more) all x in
        false≢true (sym (ap not (ap (has_front (chars w ++ c ∷ [])) (split (chars w) c more) ∙ same_front (chars w ++ c ∷ []) more)) ∙ y)

-- Signs that nothing goes on from

abbrev pub closed_signs : List String
closed_signs = "(" ∷ ")" ∷ "[" ∷ "]" ∷ "{" ∷ "}" ∷ "," ∷ ";" ∷ ":" ∷ "~" ∷ "++" ∷ "--" ∷ "..." ∷ []

data AllWords (P : List ℕ → Type 0) : List String → Type 0 where
  no_words : AllWords P []
  a_word : {s : String} {ss : List String} → P (codes s) → AllWords P ss → AllWords P (s ∷ ss)

of_words : (P : List ℕ → Type 0) {ss : List String} (w : List ℕ) → AllWords P ss → is_one_of_words ss w ≡ true → P w
of_words P w no_words h = absurd (false≢true h)
of_words P w (a_word {s = s} {ss = ss} p ps) h = go (bytes_eq w (codes s)) refl h (λ k. of_words P w ps k)
  where
    go : (b : Bool) → bytes_eq w (codes s) ≡ b → (b || is_one_of_words ss w) ≡ true → (is_one_of_words ss w ≡ true → P w) → P w
    go true e h f = subst P (sym ((bytes_eq-Decides w (codes s)).0 e)) p
    go false e h f = f h

-- what is known of a sign of ASCII characters
record Sign (w : List ℕ) : Type 0 where
  utf8 : IsUtf8 w
  chars : Rattle.std.specs.Str.chars w ≡ w
  is : IsTrue (is_punctuator w)

one_sign : (c : ℕ) → c < 128 → IsTrue (is_punctuator (c ∷ [])) → Sign (c ∷ [])
one_sign c h k = record { utf8 = IsUtf8-from_ascii (c ∷ []) ascii; chars = chars-IsAscii (c ∷ []) ascii; is = k }
  where
    ascii : IsAscii (c ∷ [])
    ascii zero = h
    ascii (suc i) = omega arith

two_signs : (c d : ℕ) → c < 128 → d < 128 → IsTrue (is_punctuator (c ∷ d ∷ [])) → Sign (c ∷ d ∷ [])
two_signs c d h l k = record { utf8 = IsUtf8-from_ascii (c ∷ d ∷ []) ascii; chars = chars-IsAscii (c ∷ d ∷ []) ascii; is = k }
  where
    ascii : IsAscii (c ∷ d ∷ [])
    ascii zero = h
    ascii (suc zero) = l
    ascii (suc (suc i)) = omega arith

three_signs : (c d e : ℕ) → c < 128 → d < 128 → e < 128 → IsTrue (is_punctuator (c ∷ d ∷ e ∷ [])) → Sign (c ∷ d ∷ e ∷ [])
three_signs c d e h l m k = record { utf8 = IsUtf8-from_ascii (c ∷ d ∷ e ∷ []) ascii; chars = chars-IsAscii (c ∷ d ∷ e ∷ []) ascii; is = k }
  where
    ascii : IsAscii (c ∷ d ∷ e ∷ [])
    ascii zero = h
    ascii (suc zero) = l
    ascii (suc (suc zero)) = m
    ascii (suc (suc (suc i))) = omega arith

word_of : {w : List ℕ} → Sign w → Word Punctuator w
word_of {w} s = record { utf8 = s.utf8; is = subst (λ x. IsTrue (is_punctuator x)) (sym s.chars) s.is; kept = refl }

abbrev Alone : List ℕ → Type 0
Alone w = (rest : List ℕ) → Apart Punctuator w rest

alone : {w : List ℕ} → Sign w → ((c : ℕ) → parts_from w c ≡ true) → ((cs : List ℕ) → IsTrue (may_stand Punctuator w cs)) → ((cs : List ℕ) → IsTrue (not (begins_comment (w ++ cs)))) → Alone w
alone {w} s parts may comment rest =
    sign_apart rest (word_of s) (λ c cs e. subst (λ x. parts_from x c ≡ true) (sym s.chars) (parts c)) (subst (λ x. IsTrue (may_stand Punctuator x (chars rest))) (sym s.chars) (may (chars rest)))
    (subst (λ x. IsTrue (not (begins_comment (x ++ chars rest)))) (sym s.chars) (comment (chars rest)))

one_alone : (c : ℕ) → c < 128 → IsTrue (is_punctuator (c ∷ [])) → ((d : ℕ) → parts_from (c ∷ []) d ≡ true) → ((cs : List ℕ) → IsTrue (may_stand Punctuator (c ∷ []) cs)) → ((cs : List ℕ) → IsTrue (not (begins_comment (c ∷ cs)))) → Alone (c ∷ [])
one_alone c h k p m n = alone (one_sign c h k) p m n

all_alone : AllWords Alone closed_signs
all_alone =
    a_word {s = "("} (one_alone 40 (omega arith) refl (λ d. refl) (λ cs. refl) (λ cs. refl)) (
    a_word {s = ")"} (one_alone 41 (omega arith) refl (λ d. refl) (λ cs. refl) (λ cs. refl)) (
    a_word {s = "["} (one_alone 91 (omega arith) refl (λ d. refl) (λ cs. refl) (λ cs. refl)) (
    a_word {s = "]"} (one_alone 93 (omega arith) refl (λ d. refl) (λ cs. refl) (λ cs. refl)) (
    a_word {s = "{"} (one_alone 123 (omega arith) refl (λ d. refl) (λ cs. refl) (λ cs. refl)) (
    a_word {s = "}"} (one_alone 125 (omega arith) refl (λ d. refl) (λ cs. refl) (λ cs. refl)) (
    a_word {s = ","} (one_alone 44 (omega arith) refl (λ d. refl) (λ cs. refl) (λ cs. refl)) (
    a_word {s = ";"} (one_alone 59 (omega arith) refl (λ d. refl) (λ cs. refl) (λ cs. refl)) (
    a_word {s = ":"} (one_alone 58 (omega arith) refl (λ d. refl) (λ cs. refl) (λ cs. refl)) (
    a_word {s = "~"} (one_alone 126 (omega arith) refl (λ d. refl) (λ cs. refl) (λ cs. refl)) (
    a_word {s = "++"} (alone (two_signs 43 43 (omega arith) (omega arith) refl) (λ d. refl) (λ cs. refl) (λ cs. refl)) (
    a_word {s = "--"} (alone (two_signs 45 45 (omega arith) (omega arith) refl) (λ d. refl) (λ cs. refl) (λ cs. refl)) (
    a_word {s = "..."} (alone (three_signs 46 46 46 (omega arith) (omega arith) (omega arith) refl) (λ d. refl) (λ cs. refl) (λ cs. refl)) no_words))))))))))))

-- such a sign stands before anything
pub closed_sign_apart : (w rest : List ℕ) → is_one_of_words closed_signs w ≡ true → Apart Punctuator w rest
closed_sign_apart w rest h = of_words Alone w all_alone h rest

-- Signs before an operand or a name, by its first character

before_front : {w : List ℕ} → Sign w → (rest : List ℕ) (c : ℕ) (cs : List ℕ) → chars rest ≡ c ∷ cs → parts_from w c ≡ true → IsTrue (may_stand Punctuator w (c ∷ cs)) → IsTrue (not (begins_comment (w ++ c ∷ cs))) → Apart Punctuator w rest
before_front {w} s rest c cs e p m n =
    sign_apart rest (word_of s) (λ d ds k. (let same : c ≡ d = head (sym e ∙ k) in subst (λ z. parts_from (chars w) z ≡ true) same (subst (λ x. parts_from x c ≡ true) (sym s.chars) p)))
    (subst (λ x. IsTrue (may_stand Punctuator x (chars rest))) (sym s.chars) (subst (λ x. IsTrue (may_stand Punctuator w x)) (sym e) m))
    (subst (λ x. IsTrue (not (begins_comment (x ++ chars rest)))) (sym s.chars) (subst (λ x. IsTrue (not (begins_comment (w ++ x)))) (sym e) n))
  where
    head : {a b : ℕ} {as' bs : List ℕ} → a ∷ as' ≡ b ∷ bs → a ≡ b
    head h = cc

pub not_apart : (rest : List ℕ) (c : ℕ) (cs : List ℕ) → chars rest ≡ c ∷ cs → (c == 61) ≡ false → Apart Punctuator (codes "!") rest
not_apart rest c cs e h = before_front (one_sign 33 (omega arith) refl) rest c cs e (parts c h) refl refl
  where
    parts : (c : ℕ) → (c == 61) ≡ false → parts_from (codes "!") c ≡ true
    parts c h = ap (λ b. not (b && true) && (not (b && true) && true)) h

pub plus_apart : (rest : List ℕ) (c : ℕ) (cs : List ℕ) → chars rest ≡ c ∷ cs → (c == 61) ≡ false → (c == 43) ≡ false → Apart Punctuator (codes "+") rest
plus_apart rest c cs e h k = before_front (one_sign 43 (omega arith) refl) rest c cs e (parts c h k) refl refl
  where
    parts : (c : ℕ) → (c == 61) ≡ false → (c == 43) ≡ false → parts_from (codes "+") c ≡ true
    parts c h k = ap (λ b. not (b && true) && (not (c == 61 && true) && true)) k ∙ ap (λ b. not (b && true) && true) h

pub minus_apart : (rest : List ℕ) (c : ℕ) (cs : List ℕ) → chars rest ≡ c ∷ cs → (c == 61) ≡ false → (c == 45) ≡ false → Apart Punctuator (codes "-") rest
minus_apart rest c cs e h k = before_front (one_sign 45 (omega arith) refl) rest c cs e (parts c h k) refl refl
  where
    parts : (c : ℕ) → (c == 61) ≡ false → (c == 45) ≡ false → parts_from (codes "-") c ≡ true
    parts c h k = ap (λ b. not (b && true) && (not (c == 61 && true) && true)) k ∙ ap (λ b. not (b && true) && true) h

pub star_apart : (rest : List ℕ) (c : ℕ) (cs : List ℕ) → chars rest ≡ c ∷ cs → (c == 61) ≡ false → (c == 42) ≡ false → Apart Punctuator (codes "*") rest
star_apart rest c cs e h k = before_front (one_sign 42 (omega arith) refl) rest c cs e (parts c h k) refl refl
  where
    parts : (c : ℕ) → (c == 61) ≡ false → (c == 42) ≡ false → parts_from (codes "*") c ≡ true
    parts c h k = ap (λ b. not (b && true) && (not (c == 61 && true) && (not (b && true) && true))) k ∙ ap (λ b. not (b && true) && true) h

pub dot_apart : (rest : List ℕ) (c : ℕ) (cs : List ℕ) → chars rest ≡ c ∷ cs → (c == 46) ≡ false → is_decimal_digit c ≡ false → Apart Punctuator (codes ".") rest
dot_apart rest c cs e h k = before_front (one_sign 46 (omega arith) refl) rest c cs e (ap (λ b. not (b && true) && true) h) (ap not k) refl

pub chain_apart : (rest : List ℕ) (c : ℕ) (cs : List ℕ) → chars rest ≡ c ∷ cs → is_decimal_digit c ≡ false → Apart Punctuator (codes "?.") rest
chain_apart rest c cs e k = before_front (two_signs 63 46 (omega arith) (omega arith) refl) rest c cs e refl (ap not k) refl

-- the two parentheses
pub open_word : Word Punctuator (codes "(")
open_word = word_of (one_sign 40 (omega arith) refl)

pub close_word : Word Punctuator (codes ")")
close_word = word_of (one_sign 41 (omega arith) refl)

-- the two braces, and a comma
pub open_brace : Word Punctuator (codes "{")
open_brace = word_of (one_sign 123 (omega arith) refl)

pub close_brace : Word Punctuator (codes "}")
close_brace = word_of (one_sign 125 (omega arith) refl)

pub comma_word : Word Punctuator (codes ",")
comma_word = word_of (one_sign 44 (omega arith) refl)
