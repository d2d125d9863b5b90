-- Regular expressions: what is read greedily is the longest, and nothing but it can stand there.
use Rattle.std.proofs.Common.{◌≡◌, ℕ, Bool, true, false, not, ◌&&◌, List, [], ◌∷◌, ◌++◌, IsTrue, IsFalse, refl, sym, ap, ◌∙◌, subst, arith, if◌then◌else◌}
use Rattle.std.proofs.lemmas.Bool.Decides.{nat_tests}
use Rattle.tokens.specs.Alphabet.{is_identifier_part}
use Rattle.tokens.specs.RegularExpressions.{RegularExpression, opened, body, brackets, flags, body_backslash, brackets_backslash, no_expression, next_expression, has_flags, expression_after}
use Rattle.tokens.specs.Lexical.{LexicalClass, is_at, none_longer, is_token}
use Rattle.tokens.specs.States.{is_over}
use Rattle.tokens.specs.Reading.{behind}
use Rattle.tokens.specs.Scanned.{Passed, IsFlagsAt, NoFlagsAt}
use Rattle.source_text.specs.Source.{IsPlace}
use Rattle.tokens.proofs.PassedCharacters.{passed_none, passed_on}
use Rattle.tokens.proofs.Beginnings.{true_false}
use Rattle.tokens.proofs.Longest.{none_is_longer}
use Rattle.tokens.proofs.Automata.{only_greedy}

pub expression_append : (s : RegularExpression) (v w : List ℕ) → expression_after s (v ++ w) ≡ expression_after (expression_after s v) w
expression_append s [] w = refl
expression_append s (c ∷ v) w = expression_append (next_expression s c) v w

over_is : (s : RegularExpression) → IsTrue (is_over s) → s ≡ no_expression
over_is no_expression h = refl
over_is opened h = absurd (true_false _ h refl)
over_is body h = absurd (true_false _ h refl)
over_is brackets h = absurd (true_false _ h refl)
over_is flags h = absurd (true_false _ h refl)
over_is body_backslash h = absurd (true_false _ h refl)
over_is brackets_backslash h = absurd (true_false _ h refl)

over_stays : (w : List ℕ) → expression_after no_expression w ≡ no_expression
over_stays [] = refl
over_stays (c ∷ w) = over_stays w

over_on : (s : RegularExpression) (w : List ℕ) → IsTrue (is_over s) → IsTrue (is_over (expression_after s w))
over_on s w h = subst (λ x. IsTrue (is_over (expression_after x w))) (sym (over_is s h)) (ap is_over (over_stays w))

flags_is : (s : RegularExpression) → IsTrue (has_flags s) → s ≡ flags
flags_is flags h = refl
flags_is no_expression h = absurd (true_false _ h refl)
flags_is opened h = absurd (true_false _ h refl)
flags_is body h = absurd (true_false _ h refl)
flags_is brackets h = absurd (true_false _ h refl)
flags_is body_backslash h = absurd (true_false _ h refl)
flags_is brackets_backslash h = absurd (true_false _ h refl)

-- a regular expression behind its `/`
abbrev IsRest : List ℕ → List ℕ → Type 0
IsRest w r = IsTrue (is_token LexicalClass.RegularExpressionLiteral (0x2F ∷ w) r)

rest_flags : (w r : List ℕ) → IsRest w r → IsTrue (has_flags (expression_after opened w))
rest_flags w r h = first (has_flags (expression_after opened w)) (none_longer LexicalClass.RegularExpressionLiteral (0x2F ∷ w) r) h where
  first : (a n : Bool) → IsTrue (((a && true) && n) && true) → IsTrue a
  first a n h = grind (arith, nat_tests)

rest_alive : (w r : List ℕ) → IsRest w r → IsFalse (is_over (expression_after opened w))
rest_alive w r h = ap is_over (flags_is _ (rest_flags w r h))

rest_stuck : (w : List ℕ) (x : ℕ) (r : List ℕ) → IsRest w (x ∷ r) → IsTrue (is_over (expression_after opened (w ++ x ∷ [])))
rest_stuck w x r h = by_part (is_identifier_part x) refl (expression_append opened w (x ∷ []) ∙ ap (λ s. next_expression s x) (flags_is _ (rest_flags w (x ∷ r) h))) where
  longer : (a l n : Bool) → IsTrue l → IsTrue (((a && true) && (not (l && true) && n)) && true) → ⊥
  longer a l n e h = grind (arith, nat_tests)

  by_part : (a : Bool) → is_identifier_part x ≡ a → expression_after opened (w ++ x ∷ []) ≡ (if is_identifier_part x then flags else no_expression) →
      IsTrue (is_over (expression_after opened (w ++ x ∷ [])))
  by_part false e q = ap is_over (q ∙ ap (λ b. if b then flags else no_expression) e)
  by_part true e q =
      absurd (longer (has_flags (expression_after opened w)) (has_flags (expression_after opened (w ++ x ∷ []))) (none_longer LexicalClass.RegularExpressionLiteral (0x2F ∷ w ++ x ∷ []) r)
      (ap has_flags (q ∙ ap (λ b. if b then flags else no_expression) e)) h)

pub record InExpression (text : List ℕ) (at stop : ℕ) (part : RegularExpression) : Type 0 where
  pub word : List ℕ
  pub passed : Passed text at stop word
  pub read : expression_after opened word ≡ part
  pub alive : IsFalse (is_over part)

pub expression_starts : (text : List ℕ) (at : ℕ) → IsPlace text at → InExpression text at at opened
expression_starts text at p = record { word = []; passed = passed_none text at p; read = refl; alive = refl }

pub expression_goes_on : (text : List ℕ) (at stop more c : ℕ) (part new : RegularExpression) → InExpression text at stop part → Passed text stop more (c ∷ []) →
    new ≡ next_expression part c → is_over new ≡ false → InExpression text at more new
expression_goes_on text at stop more c part new h p e a =
    record {
      word = h.word ++ c ∷ [];
      passed = passed_on text at stop more h.word (c ∷ []) h.passed p;
      read = expression_append opened h.word (c ∷ []) ∙ ap (λ s. next_expression s c) h.read ∙ sym e;
      alive = a;
    }

whole : (w rest : List ℕ) → IsTrue (has_flags (expression_after opened w)) → IsTrue (none_longer LexicalClass.RegularExpressionLiteral (0x2F ∷ w) rest) → IsRest w rest
whole w rest a b = all (has_flags (expression_after opened w)) (none_longer LexicalClass.RegularExpressionLiteral (0x2F ∷ w) rest) a b where
  all : (a n : Bool) → IsTrue a → IsTrue n → IsTrue (((a && true) && n) && true)
  all a n h k = grind (arith, nat_tests)

pub expression_found : (text : List ℕ) (at stop more c : ℕ) (part : RegularExpression) → InExpression text at stop part → Passed text stop more (c ∷ []) →
    is_over (next_expression part c) ≡ true → has_flags part ≡ true → IsFlagsAt text at stop
expression_found text at stop more c part h p d k =
    record {
      word = h.word;
      passed = h.passed;
      longest = subst (λ x. IsRest h.word x) (sym p.split)
          (whole h.word (c ∷ behind text more) (ap has_flags h.read ∙ k) (none_is_longer LexicalClass.RegularExpressionLiteral (0x2F ∷ h.word) (c ∷ behind text more) none));
    } where
      no : (a : Bool) → a ≡ false → IsFalse (a && true)
      no a e = grind (arith, nat_tests)

      none : (x : ℕ) (xs r : List ℕ) → c ∷ behind text more ≡ x ∷ xs ++ r → IsFalse (is_at LexicalClass.RegularExpressionLiteral (0x2F ∷ h.word ++ x ∷ xs) r)
      none x xs r e =
          let q : c ≡ x = cc in
          let s : expression_after opened (h.word ++ x ∷ xs) ≡ expression_after (next_expression part c) xs =
          expression_append opened h.word (x ∷ xs) ∙ ap (λ s. expression_after (next_expression s x) xs) h.read ∙ ap (λ y. expression_after (next_expression part y) xs) (sym q) in
          let z : expression_after (next_expression part c) xs ≡ no_expression = ap (λ s. expression_after s xs) (over_is _ d) ∙ over_stays xs in
          no _ (ap has_flags (s ∙ z))

pub expression_found_end : (text : List ℕ) (at stop : ℕ) (part : RegularExpression) → InExpression text at stop part → behind text stop ≡ [] → has_flags part ≡ true → IsFlagsAt text at stop
expression_found_end text at stop part h e k =
    record { word = h.word; passed = h.passed; longest = subst (λ x. IsRest h.word x) (sym e) (whole h.word [] (ap has_flags h.read ∙ k) refl) }

only_rest : (text : List ℕ) (at stop : ℕ) (part : RegularExpression) (h : InExpression text at stop part) →
    ((x : ℕ) (r : List ℕ) → behind text stop ≡ x ∷ r → IsTrue (is_over (next_expression part x))) → (w r : List ℕ) → behind text at ≡ w ++ r → IsRest w r → IsRest h.word (behind text stop)
only_rest text at stop part h stops w r e k =
    only_greedy expression_after is_over IsRest opened expression_append over_on rest_alive rest_stuck
    h.word (behind text stop) (subst (λ s. IsFalse (is_over s)) (sym h.read) h.alive)
    (λ x rest q. subst (λ s. IsTrue (is_over s)) (sym (expression_append opened h.word (x ∷ []) ∙ ap (λ s. next_expression s x) h.read)) (stops x rest q)) w r (sym h.passed.split ∙ e) k

pub no_expression_here : (text : List ℕ) (at stop more c : ℕ) (part : RegularExpression) → InExpression text at stop part → Passed text stop more (c ∷ []) →
    is_over (next_expression part c) ≡ true → has_flags part ≡ false → NoFlagsAt text at
no_expression_here text at stop more c part h p d b = λ w r e k.
    let t = only_rest text at stop part h (λ x rest q. let z : x ≡ c = (let u = sym q ∙ p.split in cc) in subst (λ y. IsTrue (is_over (next_expression part y))) (sym z) d) w r e k in
    true_false _ (rest_flags h.word (behind text stop) t) (ap has_flags h.read ∙ b)

pub no_expression_end : (text : List ℕ) (at stop : ℕ) (part : RegularExpression) → InExpression text at stop part → behind text stop ≡ [] → has_flags part ≡ false → NoFlagsAt text at
no_expression_end text at stop part h q b = λ w r e k.
    let t = only_rest text at stop part h (λ x rest z. (let u = sym q ∙ z in cc)) w r e k in
    true_false _ (rest_flags h.word (behind text stop) t) (ap has_flags h.read ∙ b)

-- ---- with the `/` before it
