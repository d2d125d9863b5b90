use Rattle.std.proofs.Common.{◌∙◌, ◌<◌, ◌∷◌, suc, sym, ap, arith, add-one}
use Rattle.tree.specs.Node.{node_tree, list_parts}
use Rattle.spelling_table.specs.Outlines.{slot_of, parts_after}
use Rattle.spellings.specs.Remaining.{slots_left}
use Rattle.spellings.proofs.PartsAfter.{over_left, part_left, left-behind, steady_left, steady_part}
use Rattle.spellings.proofs.Given.{refused, stepped}
use Rattle.spellings.proofs.Cursors.{some-within}
use Rattle.spellings.proofs.slot_cursor.SlotCursor.take_of_list.Goals as goal

pub returns-then-is_over-clause-taken : goal.returns-then-is_over-clause-taken
returns-then-is_over-clause-taken c = over_left c.args.self.now.tail _ (sym c.is_over.ensures ∙ c.if-is_over.true)

pub overflow_sub-count : goal.overflow_sub-count
overflow_sub-count c = omega (arith, c.len-count.ensures, some-within (list_parts c.args.parts) c.args.index (node_tree c.args.part) c.requires.here)

pub overflow_sub-count-2 : goal.overflow_sub-count-2
overflow_sub-count-2 c = omega (arith, c.len-count.ensures, some-within (list_parts c.args.parts) c.args.index (node_tree c.args.part) c.requires.here)

pub overflow_add-self : goal.overflow_add-self
overflow_add-self c = omega (arith, c.len-count.ensures, some-within (list_parts c.args.parts) c.args.index (node_tree c.args.part) c.requires.here)

pub overflow_add-self-2 : goal.overflow_add-self-2
overflow_add-self-2 c = omega (arith, c.len-count.ensures, some-within (list_parts c.args.parts) c.args.index (node_tree c.args.part) c.requires.here)

pub returns-in-Some-clause-taken : goal.returns-in-Some-clause-taken
returns-in-Some-clause-taken c =
    let ps = list_parts c.args.parts in
    let u = node_tree c.args.part in
    c.requires.next ∙ steady_left c.args.self.now.tail ps c.args.index u c.in-Some.slot c.requires.here (sym c.is_over.ensures ∙ c.if-is_over.false)
    (steady_part c.args.self.now.tail c.kind.result u (parts_after (suc c.args.index) ps) c.in-Some.slot c.kind.ensures c.in-Some.ensures)

pub returns-in_default-slot_of_part-clause-taken : goal.returns-in_default-slot_of_part-clause-taken
returns-in_default-slot_of_part-clause-taken c =
    let ps = list_parts c.args.parts in
    let i = c.args.index in
    let within : i < c.len-count.result = omega (arith, c.len-count.ensures, some-within ps i (node_tree c.args.part) c.requires.here) in
    c.requires.next ∙ part_left c.args.self.now.tail ps i (node_tree c.args.part) c.requires.here (sym c.is_over.ensures ∙ c.if-is_over.false)
    ∙ refused (λ v. slots_left v (parts_after (suc i) ps)) _ (c.in_default-slot_of_part.ensures (parts_after (suc i) ps) (left-behind ps c.len-count.result i c.len-count.ensures within))

pub returns-clause-taken : goal.returns-clause-taken
returns-clause-taken c =
    let ps = list_parts c.args.parts in
    let i = c.args.index in
    let within : i < c.len-count.result = omega (arith, c.len-count.ensures, some-within ps i (node_tree c.args.part) c.requires.here) in
    c.requires.next ∙ part_left c.args.self.now.tail ps i (node_tree c.args.part) c.requires.here (sym c.is_over.ensures ∙ c.if-is_over.false)
    ∙ stepped (λ v. slots_left v (parts_after (suc i) ps)) _ (c.in-Some-slot_of_part.slot, c.in-Some-slot_of_part.tail) (c.in-Some-slot_of_part.ensures (parts_after (suc i) ps) (left-behind ps c.len-count.result i c.len-count.ensures within))
    ∙ ap (λ j. slot_of c.in-Some-slot_of_part.slot ∷ slots_left c.in-Some-slot_of_part.tail (parts_after j ps)) (sym (add-one i))
