-- Laws of rules that look at what stands between tokens.
use Rattle.std.specs.Prelude.{◌≡◌, ℕ, cond, List, [], ◌∷◌, ◌++◌, IsTrue}
use Rattle.std.specs.List.Sorted.{IsPermutation}
use Rattle.tokens.specs.Comments.{is_comment}
use Rattle.tree.specs.Tree.{Tree}
use Rattle.rule_words.specs.Reports.{Report}
use Rattle.text_rules.specs.declared.spot.Spot.{Spot}
use Rattle.text_rules.specs.declared.spot.Spot.TheVariants.{Outside}
use Rattle.text_rules.specs.declared.text_rule.TextRule.{TextRule}
use Rattle.text_rules.specs.Found.{found_by_rule, found_by_rules}
use Rattle.text_rules.specs.Spots.{is_token, spot_after}

-- what each of the rules finds, rule after rule
abbrev pub each_alone : List ℕ → List TextRule → Tree → List Report
each_alone source [] tree = []
each_alone source (rule ∷ rules) tree = found_by_rule source rule tree ++ each_alone source rules tree

-- rules in one call find what each of them finds alone
abbrev pub FindTogether : Type 0
FindTogether = (source : List ℕ) (rules : List TextRule) (tree : Tree) → IsPermutation (each_alone source rules tree) (found_by_rules source rules tree)

-- the characters of tokens among these, `/` aside
abbrev pub token_characters : Spot → List ℕ → List ℕ
token_characters spot [] = []
token_characters spot (c ∷ cs) = cond (is_token spot c) (c ∷ token_characters (spot_after spot c) cs) (token_characters (spot_after spot c) cs)

-- a comment (11.4) has none, and what follows it is read as if it weren't there
abbrev pub PassComments : Type 0
PassComments = (body rest : List ℕ) → IsTrue (is_comment body rest) → token_characters Outside (body ++ rest) ≡ token_characters Outside rest
