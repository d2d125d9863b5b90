-- The words of a text, character by character.
use Rattle.std.proofs.Common.{◌≡◌, ℕ, Bool, true, false, cond, List, [], ◌∷◌, ◌++◌, refl, sym, ap, ◌∙◌}
use Rattle.tokens.specs.Reading.{behind}
use Rattle.tokens.specs.Scanned.{Passed}
use Rattle.name_tables.proofs.EachPart.{appended}
use Rattle.suppressions.specs.Words.{is_gap, word, words_from}

by-gap : (b : Bool) (text : List ℕ) (from at stop : ℕ) (cs : List ℕ) → cond b (word text from at ++ words_from text stop stop cs) (words_from text from stop cs) ≡ cond b (word text from at) [] ++ words_from text (cond b stop from) stop cs
by-gap true text from at stop cs = refl
by-gap false text from at stop cs = refl

module _ (text : List ℕ) (from at : ℕ) (old total : List (List ℕ)) (so : old ++ words_from text from at (behind text at) ≡ total) where
  pub word-turn : (stop c begin : ℕ) (new : List (List ℕ)) → Passed text at stop (c ∷ []) → new ≡ old ++ cond (is_gap c) (word text from at) [] → begin ≡ cond (is_gap c) stop from →
      new ++ words_from text begin stop (behind text stop) ≡ total
  word-turn stop c begin new p n b =
      appended old (cond (is_gap c) (word text from at) []) (words_from text from at (behind text at)) (words_from text begin stop (behind text stop)) new total n
      (ap (words_from text from at) p.split
      ∙ (ap (λ s. cond (is_gap c) (word text from at ++ words_from text s s (behind text stop)) (words_from text from s (behind text stop))) (sym p.reaches)
      ∙ (by-gap (is_gap c) text from at stop (behind text stop)
      ∙ ap (λ f. cond (is_gap c) (word text from at) [] ++ words_from text f stop (behind text stop)) (sym b))))
      so

  pub word-end : (new : List (List ℕ)) → behind text at ≡ [] → new ≡ old ++ word text from at → new ≡ total
  word-end new e n = n ∙ (ap (λ cs. old ++ words_from text from at cs) (sym e) ∙ so)
