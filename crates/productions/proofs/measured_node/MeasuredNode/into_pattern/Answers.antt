use Rattle.std.proofs.Common.{◌≡◌, ap, sym, ◌∙◌}
use Rattle.tree.specs.Tree.{Tree, none, part, only}
use Rattle.tree.specs.Patterns.{pattern_parts, pattern_tree}
use Rattle.productions.specs.Summaries.{pattern_summary, summary_of}
use Rattle.productions.proofs.PatternSummaries.{summary_of-pattern}
use Rattle.productions.proofs.measured_node.MeasuredNode.into_pattern.Goals as goal

-- the pattern is one part, and is summed up by what it covers
pub invariant_of-result-2 : goal.invariant_of-result-2
invariant_of-result-2 c =
    let t : Tree = only c.self.inside.shown.parts in
    let one = c.of.ensures ∙ ap (pattern_parts 0) c.self.invariant.0 in
    let same : only c.of.result.parts ≡ pattern_tree t = ap only one in
    (one ∙ sym (ap (λ (u : Tree). part u none) same), c.of_pattern.ensures ∙ ap pattern_summary c.self.invariant.1 ∙ sym (ap summary_of same ∙ summary_of-pattern t))
