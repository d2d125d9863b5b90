use Rattle.std.proofs.Common.{◌++◌, drop, IsPermutation}
use Rattle.rules.specs.NodeRules.{found_on_nodes}
use Rattle.rules.specs.Run.{all_found}
use Rattle.rules.specs.RuleViews.{seen}
use Rattle.rules.proofs.run.gather.Given as goal

abbrev pub invariant-loop-rule : goal.invariant-loop-rule
invariant-loop-rule g l =
    IsPermutation (all_found (λ b. (goal.Rule-dyn g (b.vtable, b.value)).called b.value) (λ b. (goal.Rule-dyn g (b.vtable, b.value)).finds b.value) l.rules (seen l.view))
    (l.found.items ++ (found_on_nodes l.together.items (seen l.view) ++ all_found (λ b. (goal.Rule-dyn g (b.vtable, b.value)).called b.value) (λ b. (goal.Rule-dyn g (b.vtable, b.value)).finds b.value) (drop l.rule-index l.rules) (seen l.view)))
