use Rattle.std.proofs.Common.{◌∙◌, ap, sym, refl, Some}
use Rattle.paren_planner.proofs.MadeRows.{made_true}
use Rattle.language.specs.Pieces.{script}
use Rattle.wrap_flags.specs.Flags.{is_flagged}
use Rattle.paren_planner.proofs.Forwards.{script_flags}
use Rattle.paren_planner.proofs.WrappedRows.{flagged_wrapped}
use Rattle.paren_planner.proofs.Plans.{is_plan}
use Rattle.paren_planner.proofs.planner.planned.Goals as goal

pub returns : goal.returns
returns c =
    is_plan c.args.program.now _ (c.set_total.ensures.rows ∙ c.requires.rows) c.requires.few (ap (λ m. Some m) c.set_total.ensures.total ∙ c.requires.total)
    (λ x. ap (λ u. is_flagged u x) (c.in_ok-wraps.ensures ∙ script_flags _ c.args.program.now _ c.requires.steps (c.set_total.ensures.rows ∙ c.requires.rows ∙ sym (made_true c.requires.steps refl)) c.requires.few) ∙ flagged_wrapped c.args.program.now script x)
