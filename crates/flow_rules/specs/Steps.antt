-- What a part, which may be missing, changes for the parts behind it, and what is said of it.
use Rattle.std.specs.Prelude.{List, [], Option, Some, None}
use Rattle.tree.specs.Tree.{Tree}
use Rattle.rule_words.specs.Reports.{Report}
use Rattle.flow_rules.specs.declared.around.Around.{Around}
use Rattle.flow_rules.specs.declared.flow.Flow.{Flow}
use Rattle.flow_rules.specs.declared.flow.Sums.{Sums}
use Rattle.flow_rules.specs.Arounds.{behind, behind_gap}
use Rattle.flow_rules.specs.Flows.{flow_of, with_part}
use Rattle.flow_rules.specs.Over.{over_nodes}

abbrev pub around_behind : Around → Option Tree → Around
around_behind z None = behind_gap z
around_behind z (Some tree) = behind z (flow_of tree) tree

abbrev pub sums_behind : Around → Sums → Option Tree → Sums
sums_behind z sums None = sums
sums_behind z sums (Some tree) = with_part sums z.place (flow_of tree) tree

abbrev pub over_part : (Around → Flow → Tree → List Report) → Around → Option Tree → List Report
over_part f z None = []
over_part f z (Some tree) = over_nodes f z tree
