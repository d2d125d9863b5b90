-- The line of `#!` at the beginning of a text.
use Rattle.std.proofs.Common.{◌≡◌, ℕ, Bool, true, false, not, ◌&&◌, List, [], ◌∷◌, ◌++◌, IsTrue, IsFalse, refl, sym, ap, ◌∙◌, arith}
use Rattle.std.specs.Prelude.{cond}
use Rattle.std.specs.List.{list_all}
use Rattle.std.specs.Str.{chars}
use Rattle.source_text.specs.Lines.{is_line_terminator}
use Rattle.tokens.specs.Alphabet.{one_of, begins_with}
use Rattle.tokens.specs.Comments.{first_line, hashbang}
use Rattle.tokens.specs.Tokens.{size}
use Rattle.tokens.specs.Reading.{behind}
use Rattle.tokens.specs.Scanned.{Passed, IsRun}
use Rattle.tokens.proofs.PassedCharacters.{passed_on}
use Rattle.tokens.proofs.Beginnings.{true_false}

abbrev in_line : ℕ → Bool
in_line c = not (is_line_terminator c)

-- a run of characters that end no line, where none follows
line_of_run : (w rest : List ℕ) → IsTrue (list_all in_line w) → IsFalse (begins_with in_line rest) → first_line (w ++ rest) ≡ w
line_of_run [] [] h k = refl
line_of_run [] (c ∷ rest) h k = stops (is_line_terminator c) (first_line rest) k where
  stops : (a : Bool) (cs : List ℕ) → IsFalse (not a) → cond a [] (c ∷ cs) ≡ []
  stops true cs k = refl
  stops false cs k = absurd (true_false _ refl k)
line_of_run (c ∷ w) rest h k = goes_on (is_line_terminator c) (list_all in_line w) h (λ t. line_of_run w rest t k) where
  goes_on : (a b : Bool) → IsTrue (not a && b) → (IsTrue b → first_line (w ++ rest) ≡ w) → cond a [] (c ∷ first_line (w ++ rest)) ≡ c ∷ w
  goes_on true b h f = absurd (true_false _ h refl)
  goes_on false b h f = ap (λ x. c ∷ x) (f h)

-- the text begins otherwise
pub nothing_there : (text : List ℕ) → behind text 0 ≡ [] → 0 ≡ size (hashbang (chars text))
nothing_there text e = ap (λ x. size (hashbang x)) (sym e)

pub one_alone : (text : List ℕ) (start c : ℕ) → Passed text 0 start (c ∷ []) → behind text start ≡ [] → 0 ≡ size (hashbang (chars text))
one_alone text start c p e = ap (λ x. size (hashbang x)) (sym (p.split ∙ ap (λ x. c ∷ x) e))

pub other_first : (text : List ℕ) (start c : ℕ) → Passed text 0 start (c ∷ []) → one_of "#" c ≡ false → 0 ≡ size (hashbang (chars text))
other_first text start c p t = ap size (sym (ap hashbang p.split ∙ by_rest (behind text start))) where
  by_rest : (rest : List ℕ) → hashbang (c ∷ rest) ≡ []
  by_rest [] = refl
  by_rest (d ∷ rest) = ap (λ b. cond (b && one_of "!" d) (c ∷ d ∷ first_line rest) []) t

pub other_second : (text : List ℕ) (start more c d : ℕ) → Passed text 0 start (c ∷ []) → Passed text start more (d ∷ []) → one_of "!" d ≡ false → 0 ≡ size (hashbang (chars text))
other_second text start more c d p q t = ap size (sym (ap hashbang (p.split ∙ ap (λ x. c ∷ x) q.split) ∙ by_first (one_of "#" c) (one_of "!" d) t)) where
  by_first : (a b : Bool) → b ≡ false → cond (a && b) (c ∷ d ∷ first_line (behind text more)) [] ≡ []
  by_first true false e = refl
  by_first false b e = refl
  by_first true true e = cc

-- it begins with the line
pub line_there : (text : List ℕ) (start more stop c d : ℕ) → Passed text 0 start (c ∷ []) → Passed text start more (d ∷ []) → c ≡ 35 → d ≡ 33 → IsRun in_line text more stop →
    stop ≡ size (hashbang (chars text))
line_there text start more stop c d p q e f r =
    let both = passed_on text 0 start more (c ∷ []) (d ∷ []) p q in
    let whole = passed_on text 0 more stop (c ∷ d ∷ []) r.run.word both r.run.passed in
    let line : hashbang (chars text) ≡ c ∷ d ∷ r.run.word =
    ap hashbang whole.split ∙ begun c d e f ∙ ap (λ x. c ∷ d ∷ x) (line_of_run r.run.word (behind text stop) r.run.all r.ends) in
    omega (arith, whole.reaches, ap size line)
  where
    begun : (c d : ℕ) → c ≡ 35 → d ≡ 33 → hashbang (c ∷ d ∷ r.run.word ++ behind text stop) ≡ c ∷ d ∷ first_line (r.run.word ++ behind text stop)
    begun c d e f = ap (λ x. cond (one_of "#" x && one_of "!" d) (c ∷ d ∷ first_line (r.run.word ++ behind text stop)) []) e
        ∙ ap (λ x. cond (one_of "!" x) (c ∷ d ∷ first_line (r.run.word ++ behind text stop)) []) f
