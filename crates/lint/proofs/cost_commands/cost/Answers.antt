use Rattle.std.proofs.Common.{◌≤◌, sym, subst}
use Rattle.std.specs.Prelude.{IsSome}
use Rattle.language.specs.Pieces.{script}
use Rattle.language.specs.RowPositions.{rows}
use Rattle.language.specs.Cost.{least}
use Rattle.paren_planner.specs.Plans.{IsPlan}
use Rattle.plan_laws.proofs.PlanForms.{plan_short}
use Rattle.lint.proofs.PlannedScripts.{script_spelled, script_few}
use Rattle.lint.proofs.VerifyAnswers.{planned}
use Rattle.lint.proofs.cost_commands.cost.Goals as goal

pub plan-requires-clause-spelled : goal.plan-requires-clause-spelled
plan-requires-clause-spelled c = subst (λ m. IsSome (least m script)) (sym c.program.ensures) (script_spelled c.args.parsed.program c.args.parsed.pairs.items c.requires.script)

pub plan-requires-clause-few : goal.plan-requires-clause-few
plan-requires-clause-few c = subst (λ m. rows m script ≤ 16777216) (sym c.program.ensures) (script_few c.args.parsed.program c.args.parsed.pairs.items c.requires.script)

pub returns-in-Ok-clause-answer : goal.returns-in-Ok-clause-answer
returns-in-Ok-clause-answer c = λ language text reading.
    let plan : IsPlan c.args.parsed.program c.in-Ok.plan = subst (λ m. IsPlan m c.in-Ok.plan) c.program.ensures c.in-Ok.ensures in
    planned language text c.args.parsed.program c.args.parsed.pairs.items c.args.parsed c.in-Ok.plan reading plan

pub returns-in-Ok-clause-writable : goal.returns-in-Ok-clause-writable
returns-in-Ok-clause-writable c =
    let plan : IsPlan c.args.parsed.program c.in-Ok.plan = subst (λ m. IsPlan m c.in-Ok.plan) c.program.ensures c.in-Ok.ensures in
    plan_short c.args.parsed.program c.in-Ok.plan (script_few c.args.parsed.program c.args.parsed.pairs.items c.requires.script) plan
