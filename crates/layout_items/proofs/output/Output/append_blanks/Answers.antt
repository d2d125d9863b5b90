use Rattle.std.proofs.Common.{◌≡◌, replicate, arith}
use Rattle.layout_items.proofs.Appending.{passed_on, stops_among, one_more}
use Rattle.layout_items.proofs.output.Output.append_blanks.Goals as goal

pub returns-in_err-append : goal.returns-in_err-append
returns-in_err-append c b h =
    let old = c.args.self.now in
    let e = c.in_err-append.field-0.0 in
    passed_on c.from_residual.result e old c.append.new.self (replicate c.args.count b) c.from_residual.ensures.1
    (stops_among e old c.loop.self c.append.new.self c.append.new.self c.args.count c.loop.counter b (c.loop.invariant b h) (rw h at c.in_err-append.ensures) c.loop-test.true)

pub loop-preserved : goal.loop-preserved
loop-preserved c b h = one_more c.args.self.now c.loop.self c.append.new.self c.loop.counter b (c.loop.invariant b h) (rw h at c.in_ok-append.ensures)

pub returns : goal.returns
returns c b h =
    let e : c.args.count ≡ c.loop.counter = omega (arith, c.loop-test.false, c.loop.auto.counter-end) in
    rw e (c.loop.invariant b h)
