-- Parts of templates: where the first ends, and nothing but it can stand there.
use Rattle.std.proofs.Common.{◌≡◌, ℕ, Bool, true, false, not, ◌&&◌, ◌||◌, List, [], ◌∷◌, ◌++◌, IsTrue, IsFalse, drop, refl, sym, ap, ◌∙◌, append_assoc, arith, if◌then◌else◌}
use Rattle.std.proofs.lemmas.Bool.Decides.{nat_tests}
use Rattle.tokens.specs.Alphabet.{one_of, begins_with, is_empty}
use Rattle.tokens.specs.Closers.{ends_part}
use Rattle.tokens.specs.Templates.{closes_template}
use Rattle.tokens.specs.Lexical.{Template, none_longer, is_token}
use Rattle.tokens.specs.Reading.{behind}
use Rattle.tokens.specs.Scanned.{Passed, IsPartRest, NoPartRest, IsWordAt, NoWordAt}
use Rattle.source_text.specs.Source.{IsPlace}
use Rattle.tokens.proofs.PassedCharacters.{passed_none, passed_on}
use Rattle.tokens.proofs.Beginnings.{true_false}
use Rattle.tokens.proofs.Longest.{none_is_longer}
use Rattle.tokens.proofs.TriviaSteps.{no_front, nil_only, right_nil}

-- the automaton ends where the definition says, from each of its states
abbrev after_dollar : List ℕ → Bool
after_dollar cs = if begins_with (one_of "{") cs then is_empty (drop 1 cs) else closes_template false cs

record Same (cs : List ℕ) : Type 0 where
  plain : ends_part false false cs ≡ closes_template false cs
  taken : ends_part true false cs ≡ closes_template true cs
  dollar : ends_part false true cs ≡ after_dollar cs

same_ends : (cs : List ℕ) → Same cs
same_ends [] = record { plain = refl; taken = refl; dollar = refl }
same_ends (c ∷ cs) = let r = same_ends cs in
    record {
      plain = from_plain (one_of "`" c) (one_of "$" c) (one_of "\\" c) (one_bs c) r.plain r.taken r.dollar;
      taken = r.plain;
      dollar = from_dollar (one_of "`" c) (one_of "{" c) (one_of "$" c) (one_of "\\" c) (one_bs c) (not_accent c) (not_other c) (not_back c) r.plain r.taken r.dollar;
    } where
      one_bs : (c : ℕ) → one_of "$" c ≡ true → one_of "\\" c ≡ false
      one_bs c h = grind (arith, nat_tests)

      not_accent : (c : ℕ) → one_of "{" c ≡ true → one_of "`" c ≡ false
      not_accent c h = grind (arith, nat_tests)

      not_other : (c : ℕ) → one_of "{" c ≡ true → one_of "$" c ≡ false
      not_other c h = grind (arith, nat_tests)

      not_back : (c : ℕ) → one_of "{" c ≡ true → one_of "\\" c ≡ false
      not_back c h = grind (arith, nat_tests)

      from_plain : (a d b : Bool) → (d ≡ true → b ≡ false) → ends_part false false cs ≡ closes_template false cs → ends_part true false cs ≡ closes_template true cs →
          ends_part false true cs ≡ after_dollar cs →
          (if true && (a || (false && one_of "{" c)) then is_empty cs else ends_part (true && b) (true && d) cs) ≡
          (if a then is_empty cs else if d && begins_with (one_of "{") cs then is_empty (drop 1 cs) else closes_template b cs)
      from_plain true d b f p t q = refl
      from_plain false true true f p t q = let z = f refl in cc
      from_plain false true false f p t q = q
      from_plain false false true f p t q = t
      from_plain false false false f p t q = p

      from_dollar : (a e d b : Bool) → (d ≡ true → b ≡ false) → (e ≡ true → a ≡ false) → (e ≡ true → d ≡ false) → (e ≡ true → b ≡ false) →
          ends_part false false cs ≡ closes_template false cs → ends_part true false cs ≡ closes_template true cs → ends_part false true cs ≡ after_dollar cs →
          (if true && (a || (true && e)) then is_empty cs else ends_part (true && b) (true && d) cs) ≡
          (if e then is_empty cs else if a then is_empty cs else if d && begins_with (one_of "{") cs then is_empty (drop 1 cs) else closes_template b cs)
      from_dollar true true d b f g h k p t q = refl
      from_dollar true false d b f g h k p t q = refl
      from_dollar false true d b f g h k p t q = refl
      from_dollar false false true true f g h k p t q = let z = f refl in cc
      from_dollar false false true false f g h k p t q = q
      from_dollar false false false true f g h k p t q = t
      from_dollar false false false false f g h k p t q = p

pub ends_same : (cs : List ℕ) → ends_part false false cs ≡ closes_template false cs
ends_same cs = let r = same_ends cs in r.plain

pub part_once : (taken dollar : Bool) (w m : List ℕ) → IsTrue (ends_part taken dollar w) → IsTrue (ends_part taken dollar (w ++ m)) → m ≡ []
part_once t d [] m h k = absurd (true_false _ h refl)
part_once t d (c ∷ w) m h k =
    by_test (not t && (one_of "`" c || (d && one_of "{" c))) (ends_part (not t && one_of "\\" c) (not t && one_of "$" c) w) (ends_part (not t && one_of "\\" c) (not t && one_of "$" c) (w ++ m)) h k
    (λ a b. part_once (not t && one_of "\\" c) (not t && one_of "$" c) w m a b) where
      by_test : (t a b : Bool) → IsTrue (if t then is_empty w else a) → IsTrue (if t then is_empty (w ++ m) else b) → (IsTrue a → IsTrue b → m ≡ []) → m ≡ []
      by_test true a b h k f = right_nil w m (nil_only w h) (nil_only (w ++ m) k)
      by_test false a b h k f = f h k

-- ---- the turns of the loop

pub record InPart (text : List ℕ) (at stop : ℕ) (taken dollar : Bool) : Type 0 where
  pub word : List ℕ
  pub passed : Passed text at stop word
  pub unclosed : (more : List ℕ) → ends_part false false (word ++ more) ≡ ends_part taken dollar more

pub part_starts : (text : List ℕ) (at : ℕ) → IsPlace text at → InPart text at at false false
part_starts text at p = record { word = []; passed = passed_none text at p; unclosed = λ more. refl }

pub part_goes_on : (text : List ℕ) (at stop more c : ℕ) (taken dollar : Bool) → InPart text at stop taken dollar → Passed text stop more (c ∷ []) →
    (not taken && (one_of "`" c || (dollar && one_of "{" c))) ≡ false → InPart text at more (not taken && one_of "\\" c) (not taken && one_of "$" c)
part_goes_on text at stop more c taken dollar h p t =
    record {
      word = h.word ++ c ∷ [];
      passed = passed_on text at stop more h.word (c ∷ []) h.passed p;
      unclosed = λ m. ap (ends_part false false) (append_assoc h.word (c ∷ []) m) ∙ h.unclosed (c ∷ m)
          ∙ ap (λ b. if b then is_empty m else ends_part (not taken && one_of "\\" c) (not taken && one_of "$" c) m) t;
    }

pub part_closes : (text : List ℕ) (at stop more c : ℕ) (taken dollar : Bool) → InPart text at stop taken dollar → Passed text stop more (c ∷ []) →
    (not taken && (one_of "`" c || (dollar && one_of "{" c))) ≡ true → IsPartRest text at more
part_closes text at stop more c taken dollar h p t =
    record {
      word = h.word ++ c ∷ [];
      passed = passed_on text at stop more h.word (c ∷ []) h.passed p;
      ends = h.unclosed (c ∷ []) ∙ ap (λ b. if b then true else ends_part (not taken && one_of "\\" c) (not taken && one_of "$" c) []) t;
    }

pub part_lacks : (text : List ℕ) (at stop : ℕ) (taken dollar : Bool) → InPart text at stop taken dollar → behind text stop ≡ [] → NoPartRest text at
part_lacks text at stop taken dollar h e = λ w rest q k.
    no_front (ends_part false false) (ends_part taken dollar) h.word [] (tail taken) h.unclosed (part_once false false) (can taken dollar)
    (λ m r d g. none m r d g) w rest (sym (h.passed.split ∙ ap (λ x. h.word ++ x) e) ∙ q) k where
      tail : Bool → List ℕ
      tail true = 0x61 ∷ 0x60 ∷ []
      tail false = 0x60 ∷ []

      can : (t d : Bool) → IsTrue (ends_part t d (tail t))
      can true d = refl
      can false d = refl

      none : (m r : List ℕ) → [] ≡ m ++ r → IsTrue (ends_part taken dollar m) → ⊥
      none [] r d g = true_false _ g refl
      none (c ∷ m) r d g = cc

-- ---- with the first character

pub part_word : (text : List ℕ) (at start stop c : ℕ) → Passed text at start (c ∷ []) → one_of "`}" c ≡ true → IsPartRest text start stop → IsWordAt Template text at stop
part_word text at start stop c p o r =
    record {
      word = c ∷ r.word;
      passed = passed_on text at start stop (c ∷ []) r.word p r.passed;
      longest = all (one_of "`}" c) (closes_template false r.word) (none_longer Template (c ∷ r.word) (behind text stop)) o (sym (ends_same r.word) ∙ r.ends)
          (none_is_longer Template (c ∷ r.word) (behind text stop) (λ d more rest q. none d more));
    } where
      all : (a b n : Bool) → a ≡ true → b ≡ true → IsTrue n → IsTrue ((((a && b) && true) && n) && true)
      all a b n h k l = grind (arith, nat_tests)

      no : (a b : Bool) → b ≡ false → IsFalse ((a && b) && true)
      no a b h = grind (arith, nat_tests)

      never : (b : Bool) (d : ℕ) (more : List ℕ) → ends_part false false (r.word ++ d ∷ more) ≡ b → b ≡ false
      never true d more e = let z : d ∷ more ≡ [] = part_once false false r.word (d ∷ more) r.ends e in cc
      never false d more e = refl

      none : (d : ℕ) (more : List ℕ) → IsFalse ((one_of "`}" c && closes_template false (r.word ++ d ∷ more)) && true)
      none d more = no (one_of "`}" c) (closes_template false (r.word ++ d ∷ more)) (sym (ends_same (r.word ++ d ∷ more)) ∙ never (ends_part false false (r.word ++ d ∷ more)) d more refl)

template_first : (c : ℕ) (w r : List ℕ) → IsTrue (is_token Template (c ∷ w) r) → (one_of "`}" c ≡ true) × IsTrue (closes_template false w)
template_first c w r h = (first (one_of "`}" c) (closes_template false w) (none_longer Template (c ∷ w) r) h, second (one_of "`}" c) (closes_template false w) (none_longer Template (c ∷ w) r) h) where
  first : (a b n : Bool) → IsTrue ((((a && b) && true) && n) && true) → a ≡ true
  first a b n h = grind (arith, nat_tests)

  second : (a b n : Bool) → IsTrue ((((a && b) && true) && n) && true) → IsTrue b
  second a b n h = grind (arith, nat_tests)

no_empty : (r : List ℕ) → IsTrue (is_token Template [] r) → ⊥
no_empty r h = nothing (none_longer Template [] r) h where
  nothing : (n : Bool) → IsTrue ((false && n) && true) → ⊥
  nothing n h = grind (arith, nat_tests)

pub no_part : (text : List ℕ) (at start c : ℕ) → Passed text at start (c ∷ []) → NoPartRest text start → NoWordAt Template text at
no_part text at start c p none = λ w r e h. here w r (sym p.split ∙ e) h where
  here : (w r : List ℕ) → c ∷ behind text start ≡ w ++ r → IsTrue (is_token Template w r) → ⊥
  here [] r e h = no_empty r h
  here (d ∷ w) r e h = let z : behind text start ≡ w ++ r = cc in none w r z (ends_same w ∙ (template_first d w r h).1)
