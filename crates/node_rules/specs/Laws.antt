-- Laws of rules on nodes.
use Rattle.std.specs.Prelude.{◌≡◌, ℕ, List, [], ◌∷◌, ◌++◌}
use Rattle.std.specs.List.Sorted.{IsPermutation}
use Rattle.tree.specs.Tree.{Tree}
use Rattle.rule_words.specs.Reports.{Report}
use Rattle.node_rules.specs.declared.node_rule.NodeRule.{NodeRule}
use Rattle.node_rules.specs.declared.node_rule.NodeOptions.{NodeOptions}
use Rattle.node_rules.specs.Found.{found_by_rule, found_by_rules}

-- what each of the rules finds, rule after rule
abbrev pub each_alone : NodeOptions → List ℕ → List NodeRule → Tree → List Report
each_alone options source [] tree = []
each_alone options source (rule ∷ rules) tree = found_by_rule options source rule tree ++ each_alone options source rules tree

-- rules in one walk find what each of them finds alone, in another order
abbrev pub FindTogether : Type 0
FindTogether = (options : NodeOptions) (source : List ℕ) (rules : List NodeRule) (tree : Tree) → IsPermutation (each_alone options source rules tree) (found_by_rules options source rules tree)
