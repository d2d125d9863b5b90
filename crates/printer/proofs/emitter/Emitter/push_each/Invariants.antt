use Rattle.std.proofs.Common.{take}
use Rattle.tree.specs.Tree.{text_of}
use Rattle.tree.specs.Node.{node_tree}
use Rattle.printer.specs.Sheets.{Writes, seen, pieces_text}
use Rattle.printer.proofs.emitter.Emitter.push_each.Given as goal

abbrev pub invariant-loop-piece : goal.invariant-loop-piece
invariant-loop-piece g l = Writes (seen (g.O.TextSink.stands l.fn.out l.fn.self.room) l.fn.self) (seen (g.O.TextSink.stands l.out l.self.room) l.self) (pieces_text (text_of (node_tree l.fn.framed.node)) l.fn.framed.depth l.fn.previous_is_bare (take l.piece-index l.fn.pieces))
