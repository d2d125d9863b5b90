-- Rules in one call find what each of them finds, rule after rule.
use Rattle.std.proofs.Common.{◌≡◌, ℕ, List, [], ◌∷◌, ◌++◌, refl, ap, subst, IsPermutation}
use Rattle.std.proofs.lemmas.List.Sorted.{IsPermutation-refl}
use Rattle.tree.specs.Tree.{Tree}
use Rattle.text_rules.specs.declared.text_rule.TextRule.{TextRule}
use Rattle.text_rules.specs.Found.{found_by_rule, found_by_rules}
use Rattle.text_rules.specs.Laws.{FindTogether, each_alone}

same : (source : List ℕ) (rules : List TextRule) (t : Tree) → each_alone source rules t ≡ found_by_rules source rules t
same source [] t = refl
same source (r ∷ rs) t = ap (λ l. found_by_rule source r t ++ l) (same source rs t)

pub together : FindTogether
together source rules t = subst (IsPermutation (each_alone source rules t)) (same source rules t) (IsPermutation-refl _)
