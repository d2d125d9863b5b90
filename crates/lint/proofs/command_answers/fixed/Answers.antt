use Rattle.std.proofs.Common.{sym, subst}
use Rattle.paren_planner.specs.Plans.{AreWraps}
use Rattle.lint.proofs.FixAnswers.{fixed_answer}
use Rattle.lint.proofs.PlannedScripts.{script_derived}
use Rattle.lint.proofs.command_answers.fixed.Goals as goal

pub wraps_by_pairs-requires : goal.wraps_by_pairs-requires
wraps_by_pairs-requires c = script_derived _ _ _ _ (sym c.program.ensures) (sym c.grouping_pairs.ensures) c.requires.script

pub returns-in-Ok-clause-answer : goal.returns-in-Ok-clause-answer
returns-in-Ok-clause-answer c = λ language reading. fixed_answer language c.args.source.now c.args.parsed c.in-Ok.wraps reading

pub returns-in-Ok-clause-writable : goal.returns-in-Ok-clause-writable
returns-in-Ok-clause-writable c =
    let wrapped : AreWraps c.args.parsed.program c.in-Ok.wraps.flags.items = subst (λ m. AreWraps m c.in-Ok.wraps.flags.items) c.program.ensures c.in-Ok.ensures in
    (c.requires.script, wrapped)
