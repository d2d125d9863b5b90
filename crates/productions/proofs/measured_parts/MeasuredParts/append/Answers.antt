use Rattle.std.proofs.Common.{ap, sym, ◌∙◌, arith}
use Rattle.productions.specs.Summaries.{last_summary}
use Rattle.productions.proofs.Growing.{growing, last-join, last-join_none}
use Rattle.productions.proofs.measured_parts.MeasuredParts.append.Goals as goal

-- the last is that of those behind
pub invariant_of-self : goal.invariant_of-self
invariant_of-self c =
    let ps = c.self.inside.shown.parts in
    let qs = c.further.inside.shown.parts in (
      grind (arith, growing),
      grind (arith, growing),
      c.further.invariant.2 ∙ sym (ap last_summary c.of-self-inside.ensures ∙ last-join ps qs (λ z. omega arith)),
    )

-- unless there are none
pub invariant_of-self-else-further-ne0 : goal.invariant_of-self-else-further-ne0
invariant_of-self-else-further-ne0 c =
    let ps = c.self.inside.shown.parts in
    let qs = c.further.inside.shown.parts in (
      grind (arith, growing),
      grind (arith, growing),
      c.self.invariant.2 ∙ sym (ap last_summary c.of-self-inside.ensures ∙ last-join_none ps qs (omega arith)),
    )
