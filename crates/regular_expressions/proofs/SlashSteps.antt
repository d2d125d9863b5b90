-- The last `/` of a literal, and the pattern before it.
use Rattle.std.proofs.Common.{◌≡◌, ℕ, ◌+◌, Bool, true, false, ◌||◌, List, [], ◌∷◌, ◌++◌, Option, Some, None, if◌then◌else◌, IfSome, IfNone, refl, sym, ap, ◌∙◌, subst, arith, append-nil}
use Rattle.std.specs.Prelude.{slice_range, option_map}
use Rattle.std.specs.List.{list_any}
use Rattle.std.specs.Str.{chars, IsUtf8}
use Rattle.std.proofs.lemmas.Bool.Decides.{nat_tests}
use Rattle.std.proofs.lemmas.List.Folds.{list_any-append}
use Rattle.tokens.specs.Alphabet.{one_of}
use Rattle.tokens.specs.Tokens.{size}
use Rattle.tokens.specs.Reading.{behind}
use Rattle.tokens.specs.Scanned.{Passed}
use Rattle.tokens.proofs.PassedCharacters.{passed_on}
use Rattle.regular_expressions.specs.Patterns.{before_slash, behind_slash, pattern_of, pattern_fault, first_fault}
use Rattle.regular_expressions.proofs.Productions.{passed_chars}

abbrev has_slash : List ℕ → Bool
has_slash w = list_any (one_of "/") w

abbrev has_flag : List ℕ → Bool
has_flag w = list_any (one_of "u") (behind_slash w)

no_slash : (c : ℕ) → ¬ (c ≡ 0x2F) → one_of "/" c ≡ false
no_slash c n = grind (arith, nat_tests)

no_flag : (c : ℕ) → ¬ (c ≡ 0x75) → one_of "u" c ≡ false
no_flag c n = grind (arith, nat_tests)

or_false : (a b : Bool) → b ≡ false → (a || (b || false)) ≡ a
or_false true b e = refl
or_false false false e = refl
or_false false true e = cc

or_true : (a : Bool) → (a || (true || false)) ≡ true
or_true true = refl
or_true false = refl

-- ---- one character more

slash_more : (w : List ℕ) → has_slash (w ++ 0x2F ∷ []) ≡ true
slash_more w = list_any-append (one_of "/") w (0x2F ∷ []) ∙ or_true (has_slash w)

other_more : (w : List ℕ) (c : ℕ) → ¬ (c ≡ 0x2F) → has_slash (w ++ c ∷ []) ≡ has_slash w
other_more w c n = list_any-append (one_of "/") w (c ∷ []) ∙ or_false (has_slash w) (one_of "/" c) (no_slash c n)

before_more : (w : List ℕ) → before_slash (w ++ 0x2F ∷ []) ≡ w
before_more [] = refl
before_more (d ∷ w) =
    ap (λ b. if b then d ∷ before_slash (w ++ 0x2F ∷ []) else []) (slash_more w) ∙ ap (λ x. d ∷ x) (before_more w)

behind_more : (w : List ℕ) → behind_slash (w ++ 0x2F ∷ []) ≡ []
behind_more [] = refl
behind_more (d ∷ w) =
    ap (λ b. if b then behind_slash (w ++ 0x2F ∷ []) else (if one_of "/" d then w ++ 0x2F ∷ [] else [])) (slash_more w) ∙ behind_more w

before_other : (w : List ℕ) (c : ℕ) → ¬ (c ≡ 0x2F) → before_slash (w ++ c ∷ []) ≡ before_slash w
before_other [] c n = refl
before_other (d ∷ w) c n =
    ap (λ b. if b then d ∷ before_slash (w ++ c ∷ []) else []) (other_more w c n) ∙ ap (λ x. if has_slash w then d ∷ x else []) (before_other w c n)

-- by whether the rest has a `/`, and whether the first character is one
after_first : (d c : ℕ) (w : List ℕ) (a b : Bool) → has_slash w ≡ a → one_of "/" d ≡ b → has_slash (d ∷ w) ≡ true → (a ≡ true → behind_slash (w ++ c ∷ []) ≡ behind_slash w ++ c ∷ []) →
    (if a then behind_slash (w ++ c ∷ []) else (if b then w ++ c ∷ [] else [])) ≡ (if a then behind_slash w else (if b then w else [])) ++ c ∷ []
after_first d c w true b e f h i = i refl
after_first d c w false true e f h i = refl
after_first d c w false false e f h i = absurd (none (ap (λ x. x || has_slash w) f ∙ e) h) where
  none : has_slash (d ∷ w) ≡ false → has_slash (d ∷ w) ≡ true → ⊥
  none e f = cc

behind_other : (w : List ℕ) (c : ℕ) → ¬ (c ≡ 0x2F) → has_slash w ≡ true → behind_slash (w ++ c ∷ []) ≡ behind_slash w ++ c ∷ []
behind_other [] c n h = cc
behind_other (d ∷ w) c n h =
    ap (λ b. if b then behind_slash (w ++ c ∷ []) else (if one_of "/" d then w ++ c ∷ [] else [])) (other_more w c n)
    ∙ after_first d c w (has_slash w) (one_of "/" d) refl refl h (λ e. behind_other w c n e)

no_before : (w : List ℕ) → has_slash w ≡ false → before_slash w ≡ []
no_before [] e = refl
no_before (d ∷ w) e = by_rest (one_of "/" d) (has_slash w) e where
  by_rest : (a b : Bool) → (a || b) ≡ false → (if b then d ∷ before_slash w else []) ≡ []
  by_rest true b e = cc
  by_rest false true e = cc
  by_rest false false e = refl

-- ---- the characters so far

pub record InLiteral (text : List ℕ) (from stop : ℕ) (slash : Option ℕ) (has_u : Bool) : Type 0 where
  pub word : List ℕ
  pub passed : Passed text from stop word
  pub seen : IfSome slash (λ at. has_slash word ≡ true)
  pub pattern : IfSome slash (λ at. Passed text from at (before_slash word))
  pub flags : IfSome slash (λ at. has_u ≡ has_flag word)
  pub none : IfNone slash (has_slash word ≡ false)

pub literal_slash : (text : List ℕ) (from stop more : ℕ) (slash : Option ℕ) (has_u : Bool) → InLiteral text from stop slash has_u → Passed text stop more (0x2F ∷ []) →
    InLiteral text from more (Some stop) false
literal_slash text from stop more slash has_u h p = record {
  word = h.word ++ 0x2F ∷ [];
  passed = passed_on text from stop more h.word (0x2F ∷ []) h.passed p;
  seen = slash_more h.word;
  pattern = subst (λ w. Passed text from stop w) (sym (before_more h.word)) h.passed;
  flags = sym (ap (λ w. list_any (one_of "u") w) (behind_more h.word));
  none = tt;
}

-- another character, by what it makes of the flags
literal_other : (text : List ℕ) (from stop more c : ℕ) (slash : Option ℕ) (has_u next : Bool) → InLiteral text from stop slash has_u → Passed text stop more (c ∷ []) → ¬ (c ≡ 0x2F) →
    next ≡ (has_u || (one_of "u" c || false)) → InLiteral text from more slash next
literal_other text from stop more c None has_u next h p n e = record {
  word = h.word ++ c ∷ [];
  passed = passed_on text from stop more h.word (c ∷ []) h.passed p;
  seen = tt;
  pattern = tt;
  flags = tt;
  none = other_more h.word c n ∙ h.none;
}
literal_other text from stop more c (Some at) has_u next h p n e = record {
  word = h.word ++ c ∷ [];
  passed = passed_on text from stop more h.word (c ∷ []) h.passed p;
  seen = other_more h.word c n ∙ h.seen;
  pattern = subst (λ w. Passed text from at w) (sym (before_other h.word c n)) h.pattern;
  flags = e ∙ ap (λ b. b || (one_of "u" c || false)) h.flags ∙ sym (list_any-append (one_of "u") (behind_slash h.word) (c ∷ []))
      ∙ sym (ap (λ w. list_any (one_of "u") w) (behind_other h.word c n h.seen));
  none = tt;
}

pub literal_flag : (text : List ℕ) (from stop more : ℕ) (slash : Option ℕ) (has_u : Bool) → InLiteral text from stop slash has_u → Passed text stop more (0x75 ∷ []) →
    InLiteral text from more slash true
literal_flag text from stop more slash has_u h p = literal_other text from stop more 0x75 slash has_u true h p (omega arith) (sym (or_true has_u))

pub literal_goes_on : (text : List ℕ) (from stop more c : ℕ) (slash : Option ℕ) (has_u : Bool) → InLiteral text from stop slash has_u → Passed text stop more (c ∷ []) →
    ¬ (c ≡ 0x2F) → ¬ (c ≡ 0x75) → InLiteral text from more slash has_u
literal_goes_on text from stop more c slash has_u h p n m =
    literal_other text from stop more c slash has_u has_u h p n (sym (or_false has_u (one_of "u" c) (no_flag c m)))

-- ---- the whole of them

whole : (text : List ℕ) (from stop : ℕ) (slash : Option ℕ) (has_u : Bool) (h : InLiteral text from stop slash has_u) → behind text stop ≡ [] → h.word ≡ behind text from
whole text from stop slash has_u h e = sym (h.passed.split ∙ ap (λ x. h.word ++ x) e ∙ append-nil h.word)

pub literal_none : (text : List ℕ) (from stop : ℕ) (has_u : Bool) → InLiteral text from stop None has_u → behind text stop ≡ [] → before_slash (behind text from) ≡ []
literal_none text from stop has_u h e = sym (ap before_slash (whole text from stop None has_u h e)) ∙ no_before h.word h.none

-- ---- the fault of a literal, by that of its pattern

in_literal : (text : List ℕ) (first c : ℕ) (f : Option ℕ) → Passed text 0 first (c ∷ []) →
    f ≡ pattern_fault (has_flag (behind text first)) (before_slash (behind text first)) → option_map (λ place. first + place) f ≡ first_fault (chars text)
in_literal text first c f p e =
    let r = p.reaches in
    let n : first ≡ size (c ∷ []) = omega arith in
    ap (λ k. option_map (λ place. k + place) f) n ∙ ap (λ o. option_map (λ place. size (c ∷ []) + place) o) e ∙ sym (ap first_fault p.split)

pub literal_fault : (text : List ℕ) (first at c : ℕ) (has_u : Bool) (f : Option ℕ) → IsUtf8 text → Passed text 0 first (c ∷ []) → Passed text first at (before_slash (behind text first)) →
    has_u ≡ list_any (one_of "u") (behind_slash (behind text first)) → f ≡ pattern_fault has_u (chars (slice_range text first at)) → option_map (λ place. first + place) f ≡ first_fault (chars text)
literal_fault text first at c has_u f u p q e g =
    in_literal text first c f p
    (g ∙ ap (λ b. pattern_fault b (chars (slice_range text first at))) e ∙ ap (pattern_fault (has_flag (behind text first))) (passed_chars text first at (before_slash (behind text first)) u p.place q))

-- ---- the pattern of a literal

pub literal_pattern : (text : List ℕ) (first at c : ℕ) → IsUtf8 text → Passed text 0 first (c ∷ []) → Passed text first at (before_slash (behind text first)) →
    chars (slice_range text first at) ≡ pattern_of (chars text)
literal_pattern text first at c u p q = passed_chars text first at (before_slash (behind text first)) u p.place q ∙ sym (ap pattern_of p.split)
