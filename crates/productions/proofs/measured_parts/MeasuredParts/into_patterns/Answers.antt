use Rattle.std.proofs.Common.{ap, sym, ◌∙◌}
use Rattle.std.specs.Prelude.{option_map}
use Rattle.tree.specs.Tree.{part_count, parts_height}
use Rattle.productions.specs.Summaries.{last_summary, pattern_summary}
use Rattle.productions.proofs.PatternSummaries.{same_count, same_parts_height, last_summary-patterns}
use Rattle.productions.proofs.measured_parts.MeasuredParts.into_patterns.Goals as goal

-- patterns are as many and as high
pub invariant_of-result : goal.invariant_of-result
invariant_of-result c =
    let ps = c.self.inside.shown.parts in (
      c.self.invariant.0 ∙ sym (ap part_count c.of.ensures ∙ same_count ps),
      c.self.invariant.1 ∙ sym (ap parts_height c.of.ensures ∙ same_parts_height 0 ps),
      c.summary_of_pattern.ensures ∙ ap (option_map pattern_summary) c.self.invariant.2 ∙ sym (ap last_summary c.of.ensures ∙ last_summary-patterns ps),
    )
