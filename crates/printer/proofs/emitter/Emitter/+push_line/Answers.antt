use Rattle.std.proofs.Common.{◌≤◌, arith}
use Rattle.printer.proofs.WrittenTexts.{writes_then, writes_as, indent-more}
use Rattle.printer.proofs.emitter.Emitter.+push_line.Goals as goal

pub returns : goal.returns
returns g t c =
    let deep = c.if-depth-lt-LEVELS.false in
    let far : 8 ≤ c.args.depth = omega (arith, deep) in
    writes_as _ _ _ _ (indent-more c.args.depth far) (writes_then _ _ _ _ _ c.push_line.ensures c.push-2.ensures.written)
