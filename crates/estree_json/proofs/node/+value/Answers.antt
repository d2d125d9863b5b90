use Rattle.std.proofs.Common.{◌≡◌, ◌+◌, ◌-◌, ◌<◌, max, Some, None, ◌++◌, length, drop, map, not, nat_eq, rules, sym, ap, ◌∙◌, arith}
use Rattle.serde_json.specs.Data.{array}
use Rattle.serde_json.specs.View.{view, items_of, members_view}
use Rattle.serde_json.proofs.Views.{view-Object}
use Rattle.tree.specs.Tree.{parts_of, part_at, part_count}
use Rattle.tree.specs.Node.{node_tree}
use Rattle.tree.proofs.PartWalk.{part_smaller}
use Rattle.estree_json.specs.Texts.{literal_value, literal_regex}
use Rattle.estree_json.specs.Json.{first_or_null, odd_ones, node_json, parts_json}
use Rattle.estree_json.specs.Table.{from, key_of, value_of, subject_of}
use Rattle.estree_json.proofs.Lists.{from_is_drop, count_json, part_found, part_missing, between, between_more, between_none, in_turns, turns_none, list_same, behind_same}
use Rattle.estree_json.proofs.Objects.{view_null, data_as, option_as, put_as, put_nothing, one_more, array_found, turn_taken, turn_passed, put_more, node_made}
use Rattle.estree_json.proofs.node.+value.Goals as goal
use Rattle.estree_json.proofs.node.+value.Goals.{every_other_value-then-takes+in_ok-value+in_ok-push, every_other_value-else-takes}

pub list_value-loop-index-preserved : goal.list_value-loop-index-preserved
list_value-loop-index-preserved t c =
    let vs = parts_json (parts_of (node_tree c.args.node)) in
    let long : length vs ≡ part_count (parts_of (node_tree c.args.node)) = count_json (parts_of (node_tree c.args.node)) in
    one_more c.loop-index.items.items _ _ (first_or_null (from c.loop-index.index vs)) (between (c.loop-index.index + 1) c.args.to vs) (between c.loop-index.index c.args.to vs) _ c.in_ok-push.ensures.items c.in_ok-value.ensures
    (between_more c.loop-index.index c.args.to vs c.loop-index-test.true (omega (arith, long, c.requires))) c.loop-index.invariant

pub list_value-returns : goal.list_value-returns
list_value-returns t c =
    let vs = parts_json (parts_of (node_tree c.args.node)) in
    array_found c.loop-index.items (between c.loop-index.index c.args.to vs) (between c.args.from c.args.to vs) (between_none c.loop-index.index c.args.to vs c.loop-index-test.false)
    (c.loop-index.invariant ∙ ap (λ es. map view es ++ between c.args.from c.args.to vs) c.in_ok-items.ensures.items)

pub every_other_value-loop-index-preserved : goal.every_other_value-loop-index-preserved
every_other_value-loop-index-preserved t c =
    let vs = parts_json (parts_of (node_tree c.args.node)) in
    let long : length vs ≡ part_count (parts_of (node_tree c.args.node)) = count_json (parts_of (node_tree c.args.node)) in
    let here : c.loop-index.index < length vs = omega (arith, long, c.part_count-index-end.ensures, c.loop-index-test.true) in
    elim c.if-takes.branch [
      | every_other_value-then-takes+in_ok-value+in_ok-push w ↦
          ap (λ v. map view v.items ++ in_turns (not c.loop-index.takes) (drop (c.loop-index.index + 1) vs)) w.items-is
          ∙ turn_taken c.loop-index.takes c.loop-index.index vs c.loop-index.items.items _ _ _ w.if-takes.true here w.in_ok-push.ensures.items w.in_ok-value.ensures c.loop-index.invariant
      | every_other_value-else-takes w ↦
          ap (λ v. map view v.items ++ in_turns (not c.loop-index.takes) (drop (c.loop-index.index + 1) vs)) w.items-is
          ∙ turn_passed c.loop-index.takes c.loop-index.index vs c.loop-index.items.items _ w.if-takes.false here c.loop-index.invariant
    ]

pub every_other_value-returns : goal.every_other_value-returns
every_other_value-returns t c =
    let vs = parts_json (parts_of (node_tree c.args.node)) in
    let long : length vs ≡ part_count (parts_of (node_tree c.args.node)) = count_json (parts_of (node_tree c.args.node)) in
    array_found c.loop-index.items (in_turns c.loop-index.takes (drop c.loop-index.index vs)) (odd_ones (drop c.args.from vs)) (turns_none c.loop-index.takes c.loop-index.index vs (omega (arith, long, c.part_count-index-end.ensures, c.loop-index-test.false)))
    (c.loop-index.invariant ∙ ap (λ es. map view es ++ odd_ones (drop c.args.from vs)) c.new-items.ensures.items)

pub member_value-returns-in-List : goal.member_value-returns-in-List
member_value-returns-in-List t c =
    let ps = parts_of (node_tree c.args.node) in
    let vs = parts_json ps in
    let s = c.in-List.from in
    rw c.in-List.is (option_as c.list_value.result _ _ (ap Some (list_same s c.in-List.behind c.saturating_sub-to.result c.part_count.result vs (c.part_count.ensures ∙ sym (count_json ps)) c.saturating_sub-to.ensures)) c.list_value.ensures)

pub member_value-returns-in_ok-part_value-in-PartFromEnd : goal.member_value-returns-in_ok-part_value-in-PartFromEnd
member_value-returns-in_ok-part_value-in-PartFromEnd t c =
    let ps = parts_of (node_tree c.args.node) in
    let vs = parts_json ps in
    let s = c.in-PartFromEnd.from in
    let at : c.max.result ≡ max (c.part_count-in-PartFromEnd.result - c.in-PartFromEnd.behind) s = omega (arith, c.max.ensures, c.saturating_sub-index.ensures) in
    rw c.in-PartFromEnd.is (ap Some (c.in_ok-part_value-in-PartFromEnd.ensures ∙ behind_same s c.in-PartFromEnd.behind c.max.result c.part_count-in-PartFromEnd.result vs (c.part_count-in-PartFromEnd.ensures ∙ sym (count_json ps)) at))

pub member_value-returns-in-EveryOther : goal.member_value-returns-in-EveryOther
member_value-returns-in-EveryOther t c =
    let vs = parts_json (parts_of (node_tree c.args.node)) in
    let s = c.in-EveryOther.from in
    rw c.in-EveryOther.is (option_as c.every_other_value.result _ _ (ap (λ ds. Some (array (items_of (odd_ones ds)))) (sym (from_is_drop s vs))) c.every_other_value.ensures)

pub member_value-returns-in-LiteralValue : goal.member_value-returns-in-LiteralValue
member_value-returns-in-LiteralValue t c = rw c.in-LiteralValue.is (option_as c.literal_value.result _ _ (ap literal_value c.text-in-LiteralValue.ensures) c.literal_value.ensures)

pub member_value-returns-in-LiteralRegex : goal.member_value-returns-in-LiteralRegex
member_value-returns-in-LiteralRegex t c = rw c.in-LiteralRegex.is (option_as c.literal_regex.result _ _ (ap literal_regex c.text-in-LiteralRegex.ensures) c.literal_regex.ensures)

pub put_member-returns-in-Some : goal.put_member-returns-in-Some
put_member-returns-in-Some t c =
    let x = subject_of c.args.is_last (node_tree c.args.node) in
    let said : Some (view c.in-Some.value) ≡ value_of x c.args.line.now = search rules in
    put_as c.put.result _ (key_of c.args.line.now) (view c.in-Some.value) (value_of x c.args.line.now) _ _ c.key.ensures said c.put.ensures.ok

pub put_member-returns-in-None : goal.put_member-returns-in-None
put_member-returns-in-None t c =
    let x = subject_of c.args.is_last (node_tree c.args.node) in
    let said : None ≡ value_of x c.args.line.now = search rules in
    put_nothing (key_of c.args.line.now) (value_of x c.args.line.now) _ said

pub node_value-loop-line-preserved : goal.node_value-loop-line-preserved
node_value-loop-line-preserved t c =
    let x = subject_of c.args.is_last (node_tree c.args.node) in
    put_more x c.member_table-line-items.result.now c.loop-line.line-index _ _ _ _ c.loop-line-test.true c.in_ok-put_member.ensures c.loop-line.invariant

pub node_value-returns : goal.node_value-returns
node_value-returns t c =
    node_made c.args.is_last (node_tree c.args.node) c.kind.result c.member_table-line-items.result.now c.loop-line.line-index (members_view c.new-members.result.entries) (members_view c.loop-line.members.entries) _
    c.kind.ensures c.member_table-line-items.ensures.put (ap members_view c.new-members.ensures.empty) c.loop-line-test.false c.loop-line.invariant (view-Object c.loop-line.members)

pub part_value-node_value-requires : goal.part_value-node_value-requires
part_value-node_value-requires t c =
    let smaller = part_smaller (node_tree c.args.node) (node_tree c.in-Some.part) c.args.index c.in-Some.ensures in
    (omega (arith, smaller, c.decreases), tt)

pub part_value-returns-in-Some : goal.part_value-returns-in-Some
part_value-returns-in-Some t c =
    let n = node_tree c.args.node in
    let u = node_tree c.in-Some.part in
    let last : nat_eq c.saturating_sub.result c.args.index ≡ nat_eq (part_count (parts_of n) - 1) c.args.index = ap (λ k. nat_eq k c.args.index) (c.saturating_sub.ensures ∙ ap (λ k. k - 1) c.part_count.ensures) in
    data_as c.node_value.result (node_json (nat_eq c.saturating_sub.result c.args.index) u) (first_or_null (from c.args.index (parts_json (parts_of n)))) (part_found n u c.args.index (nat_eq c.saturating_sub.result c.args.index) c.in-Some.ensures last) c.node_value.ensures

pub part_value-returns-in-None : goal.part_value-returns-in-None
part_value-returns-in-None t c =
    let n = node_tree c.args.node in
    let gone : None ≡ part_at (parts_of n) c.args.index = search rules in
    view_null ∙ part_missing n c.args.index gone
