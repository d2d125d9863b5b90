use Rattle.std.proofs.Common.{◌≡◌, map, ap, ◌∙◌}
use Rattle.suppressions.specs.Deciding.{turned_off}
use Rattle.suppressions.specs.Left.{left_of}
use Rattle.suppressions.proofs.LeftTurns.{left-after}
use Rattle.suppressions.proofs.told.left_in.Goals as goal

pub returns-clause-left : goal.returns-clause-left
returns-clause-left c =
    let off = turned_off c.args.reach c.args.script.source.now in
    let ss = c.in_ok-suppressions.suppressions.items in
    let offs : c.in_ok-offs.offs.items ≡ map (turned_off c.args.reach c.args.script.source.now c.in_ok-suppressions.suppressions.items) c.args.reports.items =
    c.in_ok-offs.ensures ∙ (ap (λ s. map (off s) c.deref-2.result.now) c.deref.ensures.value ∙ ap (map (off ss)) c.deref-2.ensures.value) in
    left-after c.args.reach c.args.script.terms.takes_eslint c.args.script.source.now c.args.script.program.now ss c.in_ok-offs.offs.items c.args.reports.items c.in_ok-left.left.items
    c.in_ok-suppressions.ensures offs (c.in_ok-left.ensures ∙ ap (λ os. left_of os c.args.reports.items) c.deref-3.ensures.value)
