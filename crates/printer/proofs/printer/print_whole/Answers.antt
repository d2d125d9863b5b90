use Rattle.std.proofs.Common.{refl, ◌≡◌, ◌≤◌, ◌+◌, ◌++◌, true, [], sym, ap, subst, arith, append-nil}
use Rattle.tree.specs.Tree.{height}
use Rattle.tree.specs.Node.{node_tree}
use Rattle.tree.specs.declared.node_use.NodeUse.TheVariants.{NotEvaluated}
use Rattle.language.specs.Pieces.{script}
use Rattle.language.specs.Layout.{layout}
use Rattle.language.specs.LayoutFits.{fits}
use Rattle.printer.specs.Fits.{wrapped_by}
use Rattle.spelling_table.specs.declared.position.Position.TheVariants.{Script}
use Rattle.printer.specs.Sheets.{seen}
use Rattle.printer.specs.Standings.{Puts, Stands, Adds}
use Rattle.printer.proofs.Heights.{height_within}
use Rattle.printer.proofs.Nodes.{whole_text}
use Rattle.printer.proofs.Standings.{adds_then, adds_from}
use Rattle.printer.proofs.printer.print_whole.Goals as goal

pub print_node-requires : goal.print_node-requires
print_node-requires g c =
    let within = height_within c.args.program.now in
    let counted = c.node_count.ensures in
    let few = c.node_count.type_inv in
    subst (λ n. 0 + height n ≤ 18446744073709551615) (sym c.finished_root.ensures.tree) (omega (arith, within, counted, few))

pub returns-clause-laid : goal.returns-clause-laid
returns-clause-laid g c =
    let W = wrapped_by c.args.wraps.now.flags.items in
    let a = seen (g.O.TextSink.stands c.args.out.now c.new-emitter.result.room) c.new-emitter.result in
    let b = seen (g.O.TextSink.stands c.print_node.new.out c.print_node.new.emitter.room) c.print_node.new.emitter in
    subst (λ n. fits W n script 1 ≡ true → Puts (g.O.TextSink.stands c.args.out.now []) (g.O.TextSink.stands c.finish.new.out []) (layout W n script 1 0)) c.finished_root.ensures.tree
    (λ k before sofar h.
    let t = layout W (node_tree c.finished_root.result) script 1 0 in
    let p = whole_text {a = a} {b = b} c.args.wraps.now.flags.items (node_tree c.finished_root.result) c.new-emitter.ensures.apart c.new-emitter.ensures.wraps (λ V r u f. c.print_node.ensures.laid V r Script NotEvaluated c.finished_root.ensures.rows refl refl u f) k in
    subst (Stands before (g.O.TextSink.stands c.finish.new.out [])) (append-nil (sofar ++ t))
    (c.finish.ensures.done before (sofar ++ t) (p before sofar (subst (λ r. Stands before (g.O.TextSink.stands c.args.out.now r) sofar) (sym c.new-emitter.ensures.room) h))))

pub returns-clause-adds : goal.returns-clause-adds
returns-clause-adds g c =
    let finished : Adds (g.O.TextSink.stands c.print_node.new.out c.print_node.new.emitter.room) (g.O.TextSink.stands c.finish.new.out []) = record { text = []; puts = c.finish.ensures.done } in
    adds_from (ap (λ r. g.O.TextSink.stands c.args.out.now r) c.new-emitter.ensures.room) (adds_then c.print_node.ensures.adds finished)
