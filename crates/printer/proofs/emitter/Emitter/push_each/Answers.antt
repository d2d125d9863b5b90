use Rattle.tree.specs.Tree.{text_of}
use Rattle.tree.specs.Node.{node_tree}
use Rattle.printer.proofs.WrittenTexts.{writes_then, writes_as, pieces_text-next}
use Rattle.printer.proofs.emitter.Emitter.push_each.Goals as goal

pub loop-piece-preserved : goal.loop-piece-preserved
loop-piece-preserved g c = writes_as _ _ _ _ (pieces_text-next (text_of (node_tree c.args.framed.node)) c.args.framed.depth c.args.previous_is_bare c.args.pieces.now c.loop-piece.piece-index _ c.loop-piece-test.true) (writes_then _ _ _ _ _ c.loop-piece.invariant c.push_piece.ensures)
