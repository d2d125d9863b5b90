-- The comments of a text, character by character, and those of a script, node by node.
use Rattle.std.proofs.Common.{◌≡◌, ℕ, ◌+◌, ◌≤◌, List, [], ◌∷◌, ◌++◌, length, drop, Some, arith, sym, ap, ◌∙◌}
use Rattle.std.specs.List.{slice_get}
use Rattle.std.specs.Str.{chars}
use Rattle.tokens.specs.Reading.{behind}
use Rattle.tokens.specs.Scanned.{Passed}
use Rattle.tokens.specs.Tokens.{size}
use Rattle.tree.specs.declared.kind.Span.{Span}
use Rattle.tree.specs.Tree.{Tree}
use Rattle.name_tables.proofs.EachPart.{appended}
use Rattle.text_rules.specs.declared.spot.Spot.{Spot}
use Rattle.text_rules.specs.declared.spot.Spot.TheVariants.{Outside}
use Rattle.text_rules.specs.Found.{passed}
use Rattle.text_rules.specs.Spots.{spot_after}
use Rattle.text_rules.proofs.Turns.{from-element, from-end}
use Rattle.suppressions.specs.Comments.{begun_after, comments_between, comments_from, comments_outside, comments_up_to, end_at, ended, last_end}

pub comment-init : (text : List ℕ) (from : ℕ) (old : List Span) → old ++ comments_from Outside from (from + 0) (behind text 0) ≡ old ++ comments_from Outside from from (chars text)
comment-init text from old = let place : from + 0 ≡ from = omega arith in ap (λ n. old ++ comments_from Outside from n (behind text 0)) place

module _ (text : List ℕ) (from at : ℕ) (spot : Spot) (begun : ℕ) (old total : List Span) (so : old ++ comments_from spot begun (from + at) (behind text at) ≡ total) where
  pub comment-turn : (stop c : ℕ) (new : List Span) (next : Spot) (begun-next : ℕ) → Passed text at stop (c ∷ []) → new ≡ old ++ ended begun (end_at spot c (from + at) (from + stop)) →
      next ≡ spot_after spot c → begun-next ≡ begun_after spot begun (from + at) → new ++ comments_from next begun-next (from + stop) (behind text stop) ≡ total
  comment-turn stop c new next begun-next p n s b =
      let place : from + at + size (c ∷ []) ≡ from + stop = omega (arith, p.reaches) in
      appended old (ended begun (end_at spot c (from + at) (from + stop))) (comments_from spot begun (from + at) (behind text at)) (comments_from next begun-next (from + stop) (behind text stop)) new total n
      (ap (comments_from spot begun (from + at)) p.split
      ∙ (ap (λ n. ended begun (end_at spot c (from + at) n) ++ comments_from (spot_after spot c) (begun_after spot begun (from + at)) n (behind text stop)) place
      ∙ (ap (λ s. ended begun (end_at spot c (from + at) (from + stop)) ++ comments_from s (begun_after spot begun (from + at)) (from + stop) (behind text stop)) (sym s)
      ∙ ap (λ b. ended begun (end_at spot c (from + at) (from + stop)) ++ comments_from next b (from + stop) (behind text stop)) (sym b))))
      so

  pub comment-end : (new : List Span) → behind text at ≡ [] → new ≡ old ++ ended begun (last_end spot (from + at)) → new ≡ total
  comment-end new e n = n ∙ (ap (λ cs. old ++ comments_from spot begun (from + at) cs) (sym e) ∙ so)

module _ (text : List ℕ) (trees : List Tree) (i from : ℕ) (old total : List Span) (so : old ++ comments_outside text from (drop i trees) ≡ total) where
  pub outside-turn : (tree : Tree) (place : ℕ) (new : List Span) → slice_get trees i ≡ Some tree → place ≡ passed from tree → new ≡ old ++ comments_up_to text from tree →
      new ++ comments_outside text place (drop (i + 1) trees) ≡ total
  outside-turn tree place new e p n =
      appended old (comments_up_to text from tree) (comments_outside text from (drop i trees)) (comments_outside text place (drop (i + 1) trees)) new total n
      (ap (comments_outside text from) (from-element trees i tree e) ∙ ap (λ q. comments_up_to text from tree ++ comments_outside text q (drop (i + 1) trees)) (sym p))
      so

  pub outside-end : (new : List Span) → length trees ≤ i → new ≡ old ++ comments_between text from (length text) → new ≡ total
  outside-end new l n = n ∙ (ap (λ ts. old ++ comments_outside text from ts) (sym (from-end trees i l)) ∙ so)
