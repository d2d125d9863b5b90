use Rattle.std.proofs.Common.{◌∙◌, ap}
use Rattle.language.specs.Pieces.{script}
use Rattle.wrap_flags.specs.Flags.{is_flagged}
use Rattle.paren_planner.proofs.Results.{if_ok}
use Rattle.paren_planner.proofs.Forwards.{script_flags}
use Rattle.paren_planner.proofs.WrappedRows.{flagged_wrapped}
use Rattle.paren_planner.proofs.wraps.weighed_wraps.Goals as goal

pub returns : goal.returns
returns c =
    let n = c.args.program.now in
    if_ok c.wrap_pass.result _ _ (λ w h x. ap (λ u. is_flagged u x) (h ∙ script_flags _ n _ c.requires.made.are c.requires.made.rows c.requires.few) ∙ flagged_wrapped n script x) c.wrap_pass.ensures
