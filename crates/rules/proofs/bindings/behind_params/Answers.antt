use Rattle.std.proofs.Common.{◌+◌, sym, subst, ◌∙◌}
use Rattle.rules.specs.Used.{is_marked}
use Rattle.rules.proofs.BehindParams.{IsBehind, behind-begin, behind-end, behind-other, behind-read}
use Rattle.rules.proofs.bindings.behind_params.Goals as goal
use Rattle.rules.proofs.bindings.behind_params.Goals.{then-is_read_param, else-is_read_param}

pub loop-index-init : goal.loop-index-init
loop-index-init c = behind-begin (is_marked c.args.used.now) c.args.scope c.args.bindings.now

pub loop-index-preserved : goal.loop-index-preserved
loop-index-preserved c =
    let used = is_marked c.args.used.now in
    let xs = c.args.bindings.now in
    let i = c.loop-index.index in
    let so = IsBehind used c.args.scope xs (i + 1) in
    elim c.if-is_read_param.branch [
      | then-is_read_param w ↦ subst so (sym w.behind-is) (behind-read used c.args.scope xs i c.loop-index.behind _ c.loop-index-test.true (sym c.is_read_param.ensures ∙ w.if-is_read_param.true) c.loop-index.invariant)
      | else-is_read_param w ↦ subst so (sym w.behind-is) (behind-other used c.args.scope xs i c.loop-index.behind _ c.loop-index-test.true (sym c.is_read_param.ensures ∙ w.if-is_read_param.false) c.loop-index.invariant)
    ]

pub returns : goal.returns
returns c looks i within = behind-end (is_marked c.args.used.now) c.args.scope c.args.bindings.now c.loop-index.index c.loop-index.behind c.loop-index-test.false c.loop-index.invariant i within
