use Rattle.std.proofs.Math.ListN.{drop_of_length-le}
use Rattle.mending.proofs.SpliceSteps.{left_none, rest_same}
use Rattle.mending.proofs.splice.is_spliced.Goals as goal

pub returns : goal.returns
returns c = λ same.
    let text = c.args.text.now in
    let edits = c.args.edits.now in
    let next = c.args.next.now in
    let at = c.loop-edit.at in
    let to = c.loop-edit.to in
    left_none text edits next c.loop-edit.edit-index at to (drop_of_length-le edits c.loop-edit-test.false) c.loop-edit.invariant.0 (rest_same text next at to (c.are_same.ensures same)) c.loop-edit.invariant.2
