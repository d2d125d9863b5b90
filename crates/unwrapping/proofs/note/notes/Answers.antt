use Rattle.std.proofs.Common.{◌+◌, List, [], ◌∷◌, take, sym, subst, append-nil, arith}
use Rattle.tree.specs.Node.{node_tree}
use Rattle.tree.specs.Flat.{post_order}
use Rattle.unwrapping.specs.declared.note.Note.{Note}
use Rattle.unwrapping.specs.Readings.{AreNoted}
use Rattle.unwrapping.proofs.NoteSteps.{noted_more, noted_all}
use Rattle.unwrapping.proofs.note.notes.Goals as goal

pub loop-number-preserved-in_default : goal.loop-number-preserved-in_default
loop-number-preserved-in_default c =
    let n = c.args.program.now in
    subst (λ (ns : List Note). AreNoted (take (c.loop-number.number + 1) (post_order n)) 0 ns) (append-nil c.loop-number.notes.items)
    (noted_more n c.loop-number.number (node_tree c.node.result) c.loop-number.notes.items [] c.node.ensures.tree c.loop-number.invariant c.in_default.ensures.none)

pub loop-number-preserved : goal.loop-number-preserved
loop-number-preserved c =
    let n = c.args.program.now in
    subst (λ (ns : List Note). AreNoted (take (c.loop-number.number + 1) (post_order n)) 0 ns) (sym c.in_ok-push.ensures.items)
    (noted_more n c.loop-number.number (node_tree c.node.result) c.loop-number.notes.items (c.in-Some.note ∷ []) c.node.ensures.tree c.loop-number.invariant c.in-Some.ensures.some)

pub returns : goal.returns
returns c = noted_all c.args.program.now c.loop-number.number c.loop-number.notes.items (omega (arith, c.node_count-number-end.ensures, c.loop-number-test.false)) c.loop-number.invariant
