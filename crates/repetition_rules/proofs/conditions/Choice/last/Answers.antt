use Rattle.std.proofs.Common.{map, string_bytes, sym, ap, ◌∙◌}
use Rattle.repetition_rules.specs.Chains.{last_of}
use Rattle.repetition_rules.proofs.Covering.{last-behind}
use Rattle.repetition_rules.proofs.conditions.Choice.last.Goals as goal

pub returns : goal.returns
returns c = c.as_str.ensures.value ∙ sym (last-behind (map string_bytes c.self.inside.others.items) (string_bytes c.self.inside.last)) ∙ ap last_of c.self.view_is
