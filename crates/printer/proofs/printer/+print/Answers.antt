use Rattle.std.proofs.Common.{◌≡◌, ◌≤◌, suc, ◌+◌, ◌-◌, true, false, not, nat_eq, [], ◌++◌, length, drop, get_or, refl, sym, ap, ap₂, ◌∙◌, subst, arith}
use Rattle.std.specs.Prelude.{option_map, is_some, is_none as is_missing}
use Rattle.tree.specs.Tree.{parts_of, text_of, kind_of, flags_of, part_count}
use Rattle.tree.specs.Node.{node_tree}
use Rattle.language.specs.Grammar.{ways}
use Rattle.spelling_table.specs.Outlines.{role_of, whole_at, parts_after}
use Rattle.language.specs.RowPositions.{has_row, first_roles}
use Rattle.printer.specs.Shapes.{shape_on}
use Rattle.tree.proofs.PartRows.{has_its_row}
use Rattle.printer.specs.Sites.{site_in, site_at, is_word}
use Rattle.tree.specs.HeldRows.{use_below}
use Rattle.printer.proofs.SiteLemmas.{row_plain, site_shape, site_word, parts_stand, whole_agrees, row_told}
use Rattle.printer.specs.Bits.{marks_of, bits_of, chain_of, fused, before_bits, after_bits}
use Rattle.printer.proofs.FusedTokens.{map_length, map_at, written_bits}
use Rattle.printer.specs.Printed.{marks_in, front_marks, chain_marks, shape_marks, signed_marks}
use Rattle.printer.proofs.Items.{missing_part, gone_nothing, gone_then, stepped, stepped_chain, fronts_done, chain_done, fronts-next, chain-next, turn, trail, framed, site_there, part_turn, part_missing}
use Rattle.language.specs.Layout.{first_way}
use Rattle.printer.specs.Sheets.{Writes, seen}
use Rattle.printer.proofs.Nodes.{NextRow, printed_rowless, printed_row, printed_inside, printed_signed}
use Rattle.printer.proofs.Standings.{adds_then, adds_from, adds_to}
use Rattle.printer.proofs.WrittenTexts.{writes_adds}
use Rattle.printer.proofs.Words.{word_direct}
use Rattle.printer.proofs.Whole.{one_part, marks_framed, marks_signed, direct_by, spelled_parts, sign_text}
use Rattle.printer.proofs.printer.+print.Goals as goal

pub print_parts-returns-in-Some-clause-laid : goal.print_parts-returns-in-Some-clause-laid
print_parts-returns-in-Some-clause-laid g t c = λ W r p st held so e z k.
    let n = node_tree c.args.node in
    let sign = c.in-Some.sign in
    let q = spelled_parts W (parts_of n) (ways (role_of p) n) r k in
    let m = marks_signed W p n sign c.in-Some.ensures q.0 q.1 in
    direct_by W (signed_marks (text_of n) sign) m refl q.1
    (c.print_sign_operator.ensures.laid W st held (first_roles (ways (role_of p) n)) r z q.2 (parts_stand W p n r st (signed_marks (text_of n) sign) so k q.1 m) (sign_text n sign c.in-Some.ensures) (one_part (first_way (ways (role_of p) n)) (parts_of n) (text_of n) sign q.1 m))

pub print_parts-returns-in-None-clause-laid : goal.print_parts-returns-in-None-clause-laid
print_parts-returns-in-None-clause-laid g t c = λ W r p st held so e z k.
    let n = node_tree c.args.node in
    let s = shape_on c.args.site (kind_of n) (text_of n) (flags_of n) (parts_of n) in
    let f = c.frame_of-frame.ensures in
    let q = spelled_parts W (parts_of n) (ways (role_of p) n) r k in
    let M = shape_marks (text_of n) (record { front = s.front; opener = s.opener; chain = chain_of c.frame_of-frame.result.now.series; closer = s.closer; sites = c.frame_of-frame.result.now.sites }) (parts_of n) in
    let m : marks_of (first_way (ways (role_of p) n)) ≡ M =
    marks_framed W p n r c.in-None.ensures q.0 q.1 ∙ ap (λ x. shape_marks (text_of n) x (parts_of n)) (site_shape p (kind_of n) (text_of n) (flags_of n) (parts_of n) ∙ ap (λ x. shape_on x (kind_of n) (text_of n) (flags_of n) (parts_of n)) e)
    ∙ sym (ap (λ x. shape_marks (text_of n) (record { front = s.front; opener = s.opener; chain = x.chain; closer = s.closer; sites = x.sites }) (parts_of n)) f) in
    direct_by W M m refl q.1
    (c.print_framed.ensures.laid W st held s.front s.opener s.closer (ap (λ x. x.front) f) (ap (λ x. x.opener) f) (ap (λ x. x.closer) f) (first_roles (ways (role_of p) n)) r z q.2 (parts_stand W p n r st M so k q.1 m))

pub print_direct-returns-then-is_own_text-clause-laid : goal.print_direct-returns-then-is_own_text-clause-laid
print_direct-returns-then-is_own_text-clause-laid g t c = λ W r p st held so e z k.
    let n = node_tree c.args.node in
    word_direct W p n r c.args.depth (site_word p (kind_of n) (parts_of n) ∙ ap (λ s. is_word s (kind_of n) (parts_of n)) e ∙ sym c.is_own_text.ensures ∙ c.if-is_own_text.true) z k
    (subst (λ w. Writes (seen (g.O.TextSink.stands c.args.out.now c.args.emitter.now.room) c.args.emitter.now) (seen (g.O.TextSink.stands c.push.new.out c.push.new.self.room) c.push.new.self) w) c.text.ensures c.push.ensures.written)

pub print_direct-returns-clause-laid : goal.print_direct-returns-clause-laid
print_direct-returns-clause-laid g t c = λ W r p st held so e z k. c.print_parts.ensures.laid W r p st held so e z k

pub print_direct-returns-then-is_own_text-clause-adds : goal.print_direct-returns-then-is_own_text-clause-adds
print_direct-returns-then-is_own_text-clause-adds g t c = writes_adds c.push.ensures.written

pub print_framed-returns-clause-laid : goal.print_framed-returns-clause-laid
print_framed-returns-clause-laid g t c = λ W st held fs os cs ef eo ec xs r h k so.
    let n = node_tree c.args.framed.node in
    let front = c.args.framed.frame.now.front.now in
    let same : length fs ≡ length front = sym (map_length (λ p. bits_of p.now) fused front fs ef) in
    framed W st n (text_of n) (text_of n) refl c.args.framed.frame.now.sites fs os cs (chain_of c.args.framed.frame.now.series) (parts_of n) xs (length front) c.inner_depth-inside.result (sym same) c.inner_depth-inside.ensures.inner h k so
    (λ ms ys q a b s. c.print_front.ensures.laid W st held fs ef ms ys q a b s) (written_bits _ _ _ c.args.framed.frame.now.opener.now os eo c.push_all.ensures)
    (λ ms ys q a b s. c.print_list.ensures.laid W st held ms ys q a b s) (written_bits _ _ _ c.args.framed.frame.now.closer.now cs ec c.push_all-2.ensures)

pub print_front-loop-index-preserved : goal.print_front-loop-index-preserved
print_front-loop-index-preserved g t c = record {
  laid = λ W st held fs e ms xs r h k so.
      let n = node_tree c.args.framed.node in
      let front = c.args.framed.frame.now.front.now in
      let p = c.args.framed.frame.now.sites in
      let i = c.loop-index.index in
      let same : length fs ≡ length front = sym (map_length (λ p. bits_of p.now) fused front fs e) in
      let bound = c.loop-index-test.true in
      let ns = front_marks (text_of n) p (i + 1) (drop (i + 1) fs) (parts_after (i + 1) (parts_of n)) ms in
      stepped W st n (parts_of n) i
      (turn W st n (get_or fs i []) (text_of n) refl (fronts-next (text_of n) p fs (parts_of n) i ms (omega (arith, same, bound))) (c.loop-index.invariant.laid W st held fs e ms xs r h k so)
      (written_bits _ _ _ _ (get_or fs i []) (map_at (λ p. bits_of p.now) fused front fs i _ [] e bound) c.push_all.ensures) (λ ys q u v s. c.print_part.ensures.laid W st held ns ys q u v s));
  adds = adds_then c.loop-index.invariant.adds (adds_then (writes_adds c.push_all.ensures) c.print_part.ensures.adds);
}

pub print_front-returns-clause-laid : goal.print_front-returns-clause-laid
print_front-returns-clause-laid g t c = λ W st held fs e ms xs r h k so.
    let n = node_tree c.args.framed.node in
    let front = c.args.framed.frame.now.front.now in
    let i = c.loop-index.index in
    let same : length fs ≡ length front = sym (map_length (λ p. bits_of p.now) fused front fs e) in
    let past : i ≡ length front = omega (arith, c.loop-index.auto.index-end, c.loop-index-test.false) in
    fronts_done W st n (text_of n) c.args.framed.frame.now.sites fs (parts_of n) i (length front) ms (past ∙ sym same) past (c.loop-index.invariant.laid W st held fs e ms xs r h k so)

pub print_item-returns-clause-laid : goal.print_item-returns-clause-laid
print_item-returns-clause-laid g t c = λ W st held ms xs r h k so.
    let P = parts_of (node_tree c.args.framed.node) in
    let w = text_of (node_tree c.args.framed.node) in
    let s = chain_of c.args.framed.frame.now.series in
    let i = c.args.index in
    let p = c.args.framed.frame.now.sites in
    let rest = chain_marks w p s (suc i) (parts_after (suc i) P) ++ ms in
    let o = option_map node_tree c.part.result in
    let bits = before_bits s (nat_eq ((part_count P - i) - 1) 0) in
    let here_before : bits_of c.before-2.result.now ≡ fused bits = c.before-2.ensures ∙ ap (λ m. fused (before_bits s (nat_eq ((m - i) - 1) 0))) c.part_count.ensures in
    let behind = after_bits s (is_missing o) (nat_eq ((part_count P - i) - 1) 0) (nat_eq ((part_count P - i) - 1) 1) in
    let here_after : bits_of c.after.result.now ≡ fused behind =
    c.after.ensures ∙ (λ j. fused (after_bits s (missing_part node_tree c.part.result c.is_none-is_gap.result c.is_none-is_gap.ensures j) (nat_eq ((c.part_count.ensures j - i) - 1) 0) (nat_eq ((c.part_count.ensures j - i) - 1) 1))) in
    trail W st (node_tree c.args.framed.node) behind w refl refl
    (turn W st (node_tree c.args.framed.node) bits w refl
    (chain-next w p s P i o ms c.part.ensures c.requires.index)
    (gone_nothing W st (node_tree c.args.framed.node) xs r h k so) (written_bits _ _ _ c.before-2.result.now bits here_before c.push_all.ensures) (λ ys q u z s. c.print_part.ensures.laid W st held (marks_in w behind ++ rest) ys q u z s))
    (written_bits _ _ _ c.after.result.now behind here_after c.push_all-2.ensures)

pub print_list-loop-index-preserved : goal.print_list-loop-index-preserved
print_list-loop-index-preserved g t c = record {
  laid = λ W st held ms xs r h k so.
      let P = parts_of (node_tree c.args.framed.node) in
      let w = text_of (node_tree c.args.framed.node) in
      let s = chain_of c.args.framed.frame.now.series in
      stepped_chain W st (node_tree c.args.framed.node) w c.args.framed.frame.now.sites s P c.loop-index.index ms (gone_then W st (node_tree c.args.framed.node) (c.loop-index.invariant.laid W st held ms xs r h k so) (λ ys q a b u. c.print_item.ensures.laid W st held ms ys q a b u));
  adds = adds_then c.loop-index.invariant.adds c.print_item.ensures.adds;
}

pub print_list-returns-clause-laid : goal.print_list-returns-clause-laid
print_list-returns-clause-laid g t c = λ W st held ms xs r h k so.
    let P = parts_of (node_tree c.args.framed.node) in
    let w = text_of (node_tree c.args.framed.node) in
    let s = chain_of c.args.framed.frame.now.series in
    let past : part_count P ≤ c.loop-index.index = omega (arith, c.part_count-count.ensures, c.loop-index-test.false) in
    chain_done W st (node_tree c.args.framed.node) w c.args.framed.frame.now.sites s P c.loop-index.index ms past (c.loop-index.invariant.laid W st held ms xs r h k so)

pub print_part-returns-in_default-clause-laid : goal.print_part-returns-in_default-clause-laid
print_part-returns-in_default-clause-laid g t c = λ W st held ms xs r h k so.
    let P = parts_of (node_tree c.args.framed.node) in
    part_missing W st (node_tree c.args.framed.node) P c.args.index r xs (site_at c.args.framed.frame.now.sites c.args.index (parts_after c.args.index P)) c.in_default.ensures.tree h k so

pub print_part-returns-clause-laid : goal.print_part-returns-clause-laid
print_part-returns-clause-laid g t c = λ W st held ms xs r h k so.
    let P = parts_of (node_tree c.args.framed.node) in
    let n = node_tree c.args.framed.node in
    let m = node_tree c.in-Some.part in
    part_turn W st n P c.args.index r m xs c.site_of_part-site.result (site_at c.args.framed.frame.now.sites c.args.index (parts_after c.args.index P)) _ refl c.in-Some.ensures.tree h (ap not (sym c.is_wrapped.ensures)) k so
    (c.site_of_part-site.ensures ∙ ap₂ (site_in c.args.framed.frame.now.sites c.args.index) c.kind.ensures c.is_last.ensures ∙ site_there W st n c.args.framed.frame.now.sites P c.args.index m c.in-Some.ensures.tree)
    (λ p a e f. c.print_node.ensures.laid W r p (use_below st n c.args.index m) (c.in-Some.ensures.rows st held) a e h f)

pub print_node-returns-then-is_some-clause-laid : goal.print_node-returns-then-is_some-clause-laid
print_node-returns-then-is_some-clause-laid g t c = λ W r p st held so e h k.
    let there : nat_eq (has_row (role_of p)) 1 ≡ true =
    sym (row_told W (node_tree c.args.node) (role_of p) r st so k) ∙ sym (has_its_row st c.args.node held) ∙ ap is_some (sym c.row.ensures) ∙ sym c.is_some.ensures ∙ c.if-is_some.true in
    c.print_row.ensures.laid W r p st held so there h k

pub print_node-returns-clause-laid : goal.print_node-returns-clause-laid
print_node-returns-clause-laid g t c = λ W r p st held so e h k.
    let missing : nat_eq (has_row (role_of p)) 1 ≡ false =
    sym (row_told W (node_tree c.args.node) (role_of p) r st so k) ∙ sym (has_its_row st c.args.node held) ∙ ap is_some (sym c.row.ensures) ∙ sym c.is_some.ensures ∙ c.if-is_some.false in
    printed_rowless W p (node_tree c.args.node) r c.args.depth missing h k (λ q u v. c.print_direct.ensures.laid W q p st held so e u v)

pub print_row-returns-then-not-next_row-clause-laid : goal.print_row-returns-then-not-next_row-clause-laid
print_row-returns-then-not-next_row-clause-laid g t c = λ W r p st held so e h k.
    let x : NextRow (seen (g.O.TextSink.stands c.args.out.now c.args.emitter.now.room) c.args.emitter.now) (seen (g.O.TextSink.stands c.args.out.now c.next_row.new.self.room) c.next_row.new.self) false = record { flag = sym c.if-not-next_row.true ∙ c.next_row.ensures.flag; others = c.next_row.ensures.others; out = ap (λ r. g.O.TextSink.stands c.args.out.now r) c.next_row.ensures.room; apart = c.next_row.ensures.apart } in
    printed_row W p (node_tree c.args.node) r c.args.depth x h e k (λ q u v. c.print_direct.ensures.laid W q p st held so (row_plain (role_of p) e) u v)

pub print_row-returns-clause-laid : goal.print_row-returns-clause-laid
print_row-returns-clause-laid g t c = λ W r p st held so e h k.
    let x : NextRow (seen (g.O.TextSink.stands c.args.out.now c.args.emitter.now.room) c.args.emitter.now) (seen (g.O.TextSink.stands c.args.out.now c.next_row.new.self.room) c.next_row.new.self) true = record { flag = sym c.if-not-next_row.false ∙ c.next_row.ensures.flag; others = c.next_row.ensures.others; out = ap (λ r. g.O.TextSink.stands c.args.out.now r) c.next_row.ensures.room; apart = c.next_row.ensures.apart } in
    printed_inside W p (node_tree c.args.node) r c.args.depth x h e k c.push.ensures.written (λ q u v. c.print_direct-2.ensures.laid W q whole_at st held (whole_agrees st (role_of p) _ e so) refl u v) c.push-2.ensures.written

pub print_sign_operator-returns-clause-laid : goal.print_sign_operator-returns-clause-laid
print_sign_operator-returns-clause-laid g t c = λ W st held xs r h k so u v.
    let n = node_tree c.args.node in
    printed_signed W st n (text_of n) c.args.sign (parts_of n) r u v
    (subst (λ w. Writes (seen (g.O.TextSink.stands c.args.out.now c.args.emitter.now.room) c.args.emitter.now) (seen (g.O.TextSink.stands c.push.new.out c.push.new.self.room) c.push.new.self) w) c.text.ensures c.push.ensures.written)
    (λ z. c.push.ensures.parted (λ y. z (sym c.text.ensures ∙ y)))
    (ap (λ r. g.O.TextSink.stands c.push.new.out r) c.keep_apart.ensures.room) c.keep_apart.ensures.apart c.keep_apart.ensures.wraps h
    (λ q. c.print_part.ensures.laid W st held [] xs r q k so)
    (ap (λ r. g.O.TextSink.stands c.print_part.new.out r) c.join.ensures.room) c.join.ensures.apart c.join.ensures.wraps

pub print_row-returns-clause-adds : goal.print_row-returns-clause-adds
print_row-returns-clause-adds g t c = adds_from (ap (λ r. g.O.TextSink.stands c.args.out.now r) c.next_row.ensures.room) (adds_then (writes_adds c.push.ensures.written) (adds_then c.print_direct-2.ensures.adds (writes_adds c.push-2.ensures.written)))

pub print_row-returns-then-not-next_row-clause-adds : goal.print_row-returns-then-not-next_row-clause-adds
print_row-returns-then-not-next_row-clause-adds g t c = adds_from (ap (λ r. g.O.TextSink.stands c.args.out.now r) c.next_row.ensures.room) c.print_direct.ensures.adds

pub print_sign_operator-returns-clause-adds : goal.print_sign_operator-returns-clause-adds
print_sign_operator-returns-clause-adds g t c = adds_then (writes_adds c.push.ensures.written) (adds_from (ap (λ r. g.O.TextSink.stands c.push.new.out r) c.keep_apart.ensures.room) (adds_to (ap (λ r. g.O.TextSink.stands c.print_part.new.out r) c.join.ensures.room) c.print_part.ensures.adds))

pub print_framed-returns-clause-adds : goal.print_framed-returns-clause-adds
print_framed-returns-clause-adds g t c = adds_then c.print_front.ensures.adds (adds_then (writes_adds c.push_all.ensures) (adds_then c.print_list.ensures.adds (writes_adds c.push_all-2.ensures)))

pub print_item-returns-clause-adds : goal.print_item-returns-clause-adds
print_item-returns-clause-adds g t c = adds_then (writes_adds c.push_all.ensures) (adds_then c.print_part.ensures.adds (writes_adds c.push_all-2.ensures))
