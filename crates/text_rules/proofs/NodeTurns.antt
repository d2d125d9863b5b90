-- What is reported of nodes and by rules, one by one.
use Rattle.std.proofs.Common.{◌≡◌, ℕ, ◌+◌, ◌≤◌, List, ◌++◌, length, drop, Some, sym, ap, ◌∙◌}
use Rattle.std.specs.List.{slice_get}
use Rattle.tree.specs.Tree.{Tree}
use Rattle.rule_words.specs.Reports.{Report}
use Rattle.text_rules.specs.declared.text_rule.TextRule.{TextRule}
use Rattle.text_rules.specs.Found.{each, outside, passed, up_to}
use Rattle.text_rules.specs.Rows.{between}
use Rattle.text_rules.proofs.Turns.{from-element, from-end, last, turn}

module _ {X : Type 0} (f : X → List Report) (xs : List X) (i : ℕ) (old total : List Report) (so : old ++ each f (drop i xs) ≡ total) where
  pub each-turn : (x : X) (new : List Report) → slice_get xs i ≡ Some x → new ≡ old ++ f x → new ++ each f (drop (i + 1) xs) ≡ total
  each-turn x new e n = turn old (f x) (each f (drop (i + 1) xs)) (each f (drop i xs)) new total n (ap (each f) (from-element xs i x e)) so

  pub each-end : length xs ≤ i → old ≡ total
  each-end l = last old (each f (drop i xs)) total (ap (each f) (from-end xs i l)) so

module _ (source : List ℕ) (rule : TextRule) (trees : List Tree) (i from : ℕ) (old total : List Report) (so : old ++ outside source rule from (drop i trees) ≡ total) where
  pub outside-turn : (tree : Tree) (place : ℕ) (new : List Report) → slice_get trees i ≡ Some tree → place ≡ passed from tree → new ≡ old ++ up_to source rule from tree →
      new ++ outside source rule place (drop (i + 1) trees) ≡ total
  outside-turn tree place new e p n =
      turn old (up_to source rule from tree) (outside source rule place (drop (i + 1) trees)) (outside source rule from (drop i trees)) new total n
      (ap (outside source rule from) (from-element trees i tree e) ∙ ap (λ q. up_to source rule from tree ++ outside source rule q (drop (i + 1) trees)) (sym p))
      so

  pub outside-end : (new : List Report) → length trees ≤ i → new ≡ old ++ between source rule from (length source) → new ≡ total
  outside-end new l n = n ∙ (ap (λ ts. old ++ outside source rule from ts) (sym (from-end trees i l)) ∙ so)
