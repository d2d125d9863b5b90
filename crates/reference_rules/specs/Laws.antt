-- Laws of rules on names.
use Rattle.std.specs.Prelude.{List, [], ◌∷◌, ◌++◌}
use Rattle.std.specs.List.Sorted.{IsPermutation}
use Rattle.scopes.specs.Found.{Found}
use Rattle.rule_words.specs.Reports.{Report}
use Rattle.reference_rules.specs.declared.reference_rule.Profile.{Profile}
use Rattle.reference_rules.specs.declared.reference_rule.ReferenceRule.{ReferenceRule}
use Rattle.reference_rules.specs.Found.{found_by_rule, found_by_rules}

-- what each of the rules finds, rule after rule
abbrev pub each_alone : Profile → List ReferenceRule → Found → List Report
each_alone profile [] found = []
each_alone profile (rule ∷ rules) found = found_by_rule profile rule found ++ each_alone profile rules found

-- rules in one pass find what each of them finds alone, in another order
abbrev pub FindTogether : Type 0
FindTogether = (profile : Profile) (rules : List ReferenceRule) (found : Found) → IsPermutation (each_alone profile rules found) (found_by_rules profile rules found)
