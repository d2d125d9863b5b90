use Rattle.std.proofs.Common.{sym, ◌∙◌}
use Rattle.name_tables.specs.Sets.{contains}
use Rattle.repetition_rules.specs.Chains.{asked_before}
use Rattle.repetition_rules.proofs.Covering.{covered-by-tests, not-covered}
use Rattle.repetition_rules.proofs.else_if.is_covered.Goals as goal

pub returns-then-has_any_of : goal.returns-then-has_any_of
returns-then-has_any_of c = c.has_cover.ensures ∙ sym (covered-by-tests c.args.before.now c.args.choice.now)

pub returns-else-has_any_of : goal.returns-else-has_any_of
returns-else-has_any_of c =
    c.if-has_any_of.false
    ∙ not-covered (contains c.args.lasts.now) (asked_before c.args.before.now) c.args.choice.now c.requires.full c.requires.knows (sym c.has_any_of.ensures ∙ c.if-has_any_of.false)
