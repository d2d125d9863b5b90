use Rattle.shipped_rules.proofs.RuleLists.{without_others}
use Rattle.shipped_rules.proofs.run_with_rules.Goals as goal

-- the rules of the command, and no others
pub returns-clause-answer : goal.returns-clause-answer
returns-clause-answer g c = without_others _ _ _ _ c.rules_of-names.result.now c.rules_of-names.ensures c.run.ensures.answer
