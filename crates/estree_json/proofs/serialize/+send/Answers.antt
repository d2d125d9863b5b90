use Rattle.std.proofs.Common.{◌≡◌, ◌-◌, ◌<◌, max, None, length, drop, take, nat_eq, codes, rules, sym, ap, ◌∙◌, arith, subst}
use Rattle.serde.specs.Event.{Log}
use Rattle.serde_json.specs.Data.{array, null}
use Rattle.serde_json.specs.View.{items_of}
use Rattle.tree.specs.Tree.{parts_of, part_at, part_count, text_of}
use Rattle.tree.specs.Node.{node_tree}
use Rattle.tree.proofs.KindsEqual.{kinds_equal}
use Rattle.tree.proofs.PartWalk.{part_smaller}
use Rattle.tree.specs.declared.kind.Kind.TheVariants.{Identifier}
use Rattle.estree_json.specs.Texts.{literal_value, literal_regex, template_value}
use Rattle.estree_json.specs.Json.{first_or_null, odd_ones, node_json, parts_json}
use Rattle.estree_json.specs.Table.{from, by_lines, subject_of}
use Rattle.estree_json.specs.Sent.{Sends, SendsItems, SendsMembers}
use Rattle.estree_json.proofs.Sent.{option_as, value_as, member_as, list_sent, between_next, turns_next, turns_skip, line_more, node_sent}
use Rattle.estree_json.proofs.Lists.{from_is_drop, count_json, part_found, part_missing, between, between_none, between_count, in_turns, turns_none, turns_count, list_same, behind_same}
use Rattle.estree_json.proofs.serialize.+send.Goals as goal
use Rattle.estree_json.proofs.serialize.+send.Goals.{every_other_member-then-takes+in_ok-serialize_part, every_other_member-else-takes}

pub list_member-loop-index-preserved : goal.list_member-loop-index-preserved
list_member-loop-index-preserved g t c =
    let log = g.S.Serializer.written in
    let vs = parts_json (parts_of (node_tree c.args.estree.node)) in
    let long : length vs ≡ part_count (parts_of (node_tree c.args.estree.node)) = count_json (parts_of (node_tree c.args.estree.node)) in
    between_next c.loop-index.index c.args.parts.end vs (log c.loop-index.out) (log c.serialize_part.new.out) (SendsItems (items_of (between c.args.parts.start c.args.parts.end vs)) (log c.begin_array.new.out))
    c.loop-index-test.true (omega (arith, long, c.requires)) c.in_ok-serialize_part.ensures c.loop-index.invariant

pub list_member-returns : goal.list_member-returns
list_member-returns g t c =
    let log = g.S.Serializer.written in
    let vs = parts_json (parts_of (node_tree c.args.estree.node)) in
    list_sent c.end_array.result c.args.name.now (between c.args.parts.start c.args.parts.end vs) (between c.loop-index.index c.args.parts.end vs) c.saturating_sub.result (log c.args.out.now) (log c.serialize_key.new.out) (log c.begin_array.new.out) (log c.loop-index.out) (log c.end_array.new.out)
    (between_count c.saturating_sub.result c.args.parts.start c.args.parts.end (parts_of (node_tree c.args.estree.node)) c.saturating_sub.ensures (omega (arith, c.requires))) c.in_ok-serialize_key.ensures c.in_ok-begin_array.ensures c.loop-index.invariant
    (between_none c.loop-index.index c.args.parts.end vs c.loop-index-test.false) c.end_array.ensures

pub every_other_member-loop-index-preserved : goal.every_other_member-loop-index-preserved
every_other_member-loop-index-preserved g t c =
    let log = g.S.Serializer.written in
    let vs = parts_json (parts_of (node_tree c.args.estree.node)) in
    let long : length vs ≡ part_count (parts_of (node_tree c.args.estree.node)) = count_json (parts_of (node_tree c.args.estree.node)) in
    let here : c.loop-index.index < length vs = omega (arith, long, c.part_count-count.ensures, c.loop-index-test.true) in
    let all : Log → Type 0 = SendsItems (items_of (odd_ones (drop c.args.from vs))) (log c.begin_array.new.out) in
    elim c.if-takes.branch [
      | every_other_member-then-takes+in_ok-serialize_part w ↦
          turns_next c.loop-index.takes c.loop-index.index vs (log c.loop-index.out) (log c.if-takes.out) all w.if-takes.true here (subst (λ o. Sends (first_or_null (from c.loop-index.index vs)) (log c.loop-index.out) (log o)) (sym w.out-is) w.in_ok-serialize_part.ensures) c.loop-index.invariant
      | every_other_member-else-takes w ↦
          turns_skip c.loop-index.takes c.loop-index.index vs (log c.if-takes.out) all w.if-takes.false here (subst (λ o. (end : Log) → SendsItems (items_of (in_turns c.loop-index.takes (drop c.loop-index.index vs))) (log o) end → all end) (sym w.out-is) c.loop-index.invariant)
    ]

pub every_other_member-returns : goal.every_other_member-returns
every_other_member-returns g t c =
    let log = g.S.Serializer.written in
    let vs = parts_json (parts_of (node_tree c.args.estree.node)) in
    let long : part_count (parts_of (node_tree c.args.estree.node)) ≡ length vs = sym (count_json (parts_of (node_tree c.args.estree.node))) in
    list_sent c.end_array.result c.args.name.now (odd_ones (drop c.args.from vs)) (in_turns c.loop-index.takes (drop c.loop-index.index vs)) c.div_ceil.result (log c.args.out.now) (log c.serialize_key.new.out) (log c.begin_array.new.out) (log c.loop-index.out) (log c.end_array.new.out)
    (turns_count c.div_ceil.result c.args.from c.saturating_sub.result (parts_of (node_tree c.args.estree.node)) c.div_ceil.ensures (omega (arith, c.saturating_sub.ensures, c.part_count-count.ensures))) c.in_ok-serialize_key.ensures c.in_ok-begin_array.ensures c.loop-index.invariant
    (turns_none c.loop-index.takes c.loop-index.index vs (omega (arith, long, c.part_count-count.ensures, c.loop-index-test.false))) c.end_array.ensures

pub serialize_member-returns-in-List : goal.serialize_member-returns-in-List
serialize_member-returns-in-List g t c =
    let log = g.S.Serializer.written in
    let ps = parts_of (node_tree c.args.estree.node) in
    let vs = parts_json ps in
    let s = c.in-List.from in
    rw c.in-List.is (member_as c.list_member.result c.in-List.name.now (array (items_of (take (c.saturating_sub-to.result - s) (drop s vs)))) (array (items_of (take (length (from s vs) - c.in-List.behind) (from s vs)))) (log c.args.out.now) (log c.list_member.new.out)
    (list_same s c.in-List.behind c.saturating_sub-to.result c.part_count.result vs (c.part_count.ensures ∙ sym (count_json ps)) c.saturating_sub-to.ensures) c.list_member.ensures)

pub serialize_member-returns-in-PartFromEnd : goal.serialize_member-returns-in-PartFromEnd
serialize_member-returns-in-PartFromEnd g t c =
    let log = g.S.Serializer.written in
    let ps = parts_of (node_tree c.args.estree.node) in
    let vs = parts_json ps in
    let s = c.in-PartFromEnd.from in
    let at : c.max.result ≡ max (c.part_count-in-PartFromEnd.result - c.in-PartFromEnd.behind) s = omega (arith, c.max.ensures, c.saturating_sub-index.ensures) in
    rw c.in-PartFromEnd.is (member_as c.part_member-in-PartFromEnd.result c.in-PartFromEnd.name.now (first_or_null (from c.max.result vs)) (first_or_null (drop (length (from s vs) - c.in-PartFromEnd.behind) (from s vs))) (log c.args.out.now) (log c.part_member-in-PartFromEnd.new.out)
    (behind_same s c.in-PartFromEnd.behind c.max.result c.part_count-in-PartFromEnd.result vs (c.part_count-in-PartFromEnd.ensures ∙ sym (count_json ps)) at) c.part_member-in-PartFromEnd.ensures)

pub serialize_member-returns-in-EveryOther : goal.serialize_member-returns-in-EveryOther
serialize_member-returns-in-EveryOther g t c =
    let log = g.S.Serializer.written in
    let vs = parts_json (parts_of (node_tree c.args.estree.node)) in
    let s = c.in-EveryOther.from in
    rw c.in-EveryOther.is (member_as c.every_other_member.result c.in-EveryOther.name.now (array (items_of (odd_ones (drop s vs)))) (array (items_of (odd_ones (from s vs)))) (log c.args.out.now) (log c.every_other_member.new.out)
    (ap (λ ds. array (items_of (odd_ones ds))) (sym (from_is_drop s vs))) c.every_other_member.ensures)

pub serialize_member-returns-in-LiteralValue : goal.serialize_member-returns-in-LiteralValue
serialize_member-returns-in-LiteralValue g t c =
    let log = g.S.Serializer.written in
    rw c.in-LiteralValue.is (option_as c.literal_member.result (codes "value") (literal_value c.text-in-LiteralValue.result.now) (literal_value (text_of (node_tree c.args.estree.node))) (log c.args.out.now) (log c.literal_member.new.out) (ap literal_value c.text-in-LiteralValue.ensures) c.literal_member.ensures)

pub serialize_member-returns-in-LiteralRegex : goal.serialize_member-returns-in-LiteralRegex
serialize_member-returns-in-LiteralRegex g t c =
    let log = g.S.Serializer.written in
    rw c.in-LiteralRegex.is (option_as c.regex_member.result (codes "regex") (literal_regex c.text-in-LiteralRegex.result.now) (literal_regex (text_of (node_tree c.args.estree.node))) (log c.args.out.now) (log c.regex_member.new.out) (ap literal_regex c.text-in-LiteralRegex.ensures) c.regex_member.ensures)

pub serialize_member-returns-in-TemplateValue : goal.serialize_member-returns-in-TemplateValue
serialize_member-returns-in-TemplateValue g t c =
    let log = g.S.Serializer.written in
    rw c.in-TemplateValue.is (member_as c.template_member.result (codes "value") (template_value c.text-in-TemplateValue.result.now) (template_value (text_of (node_tree c.args.estree.node))) (log c.args.out.now) (log c.template_member.new.out) (ap template_value c.text-in-TemplateValue.ensures) c.template_member.ensures)

pub serialize_node-serialize_identifier-requires : goal.serialize_node-serialize_identifier-requires
serialize_node-serialize_identifier-requires g t c = sym c.kind.ensures ∙ (kinds_equal c.kind.result Identifier).0 (sym c.eq.ensures ∙ c.if-eq.true)

pub serialize_node-returns-then-eq : goal.serialize_node-returns-then-eq
serialize_node-returns-then-eq g t c = c.serialize_identifier.ensures c.args.estree.is_last

pub serialize_node-loop-line-preserved : goal.serialize_node-loop-line-preserved
serialize_node-loop-line-preserved g t c =
    let log = g.S.Serializer.written in
    let x = subject_of c.args.estree.is_last (node_tree c.args.estree.node) in
    let ls = c.member_table-line-items.result.now in
    line_more x ls c.loop-line.line-index _ (log c.loop-line.out) (log c.serialize_member.new.out) (SendsMembers (by_lines x ls) (log c.begin_object.new.out)) c.loop-line-test.true c.in_ok-serialize_member.ensures c.loop-line.invariant

pub serialize_node-returns : goal.serialize_node-returns
serialize_node-returns g t c =
    let log = g.S.Serializer.written in
    node_sent c.end_object.result c.args.estree.is_last (node_tree c.args.estree.node) c.kind-2.result c.member_table-line-items.result.now c.loop-line.line-index (log c.args.out.now) (log c.begin_object.new.out) (log c.loop-line.out) (log c.end_object.new.out)
    c.kind-2.ensures c.member_table-line-items.ensures.in_order c.in_ok-begin_object.ensures c.loop-line.invariant c.loop-line-test.false c.end_object.ensures

pub serialize_part-serialize_node-requires : goal.serialize_part-serialize_node-requires
serialize_part-serialize_node-requires g t c κs within =
    let smaller = part_smaller (node_tree c.args.estree.node) (node_tree c.in-Some.node) c.args.index c.in-Some.ensures in
    (omega (arith, smaller, c.decreases), within)

pub serialize_part-returns-in-Some : goal.serialize_part-returns-in-Some
serialize_part-returns-in-Some g t c =
    let log = g.S.Serializer.written in
    let n = node_tree c.args.estree.node in
    let u = node_tree c.in-Some.node in
    let before : c.saturating_sub.result ≡ part_count (parts_of n) - 1 = omega (arith, c.saturating_sub.ensures, c.part_count.ensures) in
    let last : nat_eq c.saturating_sub.result c.args.index ≡ nat_eq (part_count (parts_of n) - 1) c.args.index = ap (λ k. nat_eq k c.args.index) before in
    value_as c.serialize_node.result (node_json (nat_eq c.saturating_sub.result c.args.index) u) (first_or_null (from c.args.index (parts_json (parts_of n)))) (log c.args.out.now) (log c.serialize_node.new.out)
    (part_found n u c.args.index (nat_eq c.saturating_sub.result c.args.index) c.in-Some.ensures last) c.serialize_node.ensures

pub serialize_part-returns-in-None : goal.serialize_part-returns-in-None
serialize_part-returns-in-None g t c =
    let log = g.S.Serializer.written in
    let n = node_tree c.args.estree.node in
    let gone : None ≡ part_at (parts_of n) c.args.index = search rules in
    value_as c.serialize_null.result null (first_or_null (from c.args.index (parts_json (parts_of n)))) (log c.args.out.now) (log c.serialize_null.new.out) (part_missing n c.args.index gone) c.serialize_null.ensures
