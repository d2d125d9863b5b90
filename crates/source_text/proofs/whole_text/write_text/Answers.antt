use Rattle.std.proofs.Common.{◌-◌, ◌≤◌, length, take, drop, arith, rules, length-take, length-drop}
use Rattle.source_text.proofs.Pieces.{written_more}
use Rattle.source_text.proofs.whole_text.write_text.Goals as goal

pub loop-at-preserved : goal.loop-at-preserved
loop-at-preserved g c =
    let t = c.args.text.now in
    let m = c.if-text-at-lt-MAX_PIECE.end - c.loop-at.at in
    let put = c.in_ok-count.ensures in
    let n = c.in_ok-count.count in
    let low : n ≤ length (take m (drop c.loop-at.at t)) = put.0 in
    let here : n ≤ m = omega (arith, length-take m (drop c.loop-at.at t), low) in
    record {
      within = omega (arith, length-take m (drop c.loop-at.at t), length-drop c.loop-at.at t, low, c.loop-at.invariant.within);
      taken = written_more _ _ _ t c.loop-at.at m n here c.loop-at.invariant.taken put.2;
      sound = put.3;
    }

pub put-requires : goal.put-requires
put-requires g c = search rules
