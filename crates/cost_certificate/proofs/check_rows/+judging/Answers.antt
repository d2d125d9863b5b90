use Rattle.std.proofs.Common.{◌≡◌, ◌∙◌, ℕ, ◌+◌, ◌<◌, ◌++◌, true, [], sym, ap, subst, refl, arith, rules, suc, Some}
use Rattle.tree.specs.Node.{node_tree, list_parts}
use Rattle.tree.specs.Tree.{Parts, Tree, parts_of, part_at, part_count, node_total}
use Rattle.tree.proofs.PartWalk.{part_smaller, parts_drop-some, parts_drop-gap, parts_drop-past}
use Rattle.language.specs.declared.Rank.TheVariants.{Primary}
use Rattle.language.specs.Grammar.{ways}
use Rattle.language.specs.Expressions.{first_has_optional}
use Rattle.language.specs.RowPositions.{first_roles, widest, rows, parts_rows}
use Rattle.spelling_table.specs.Outlines.{role_of, slot_of}
use Rattle.spellings.specs.Remaining.{left}
use Rattle.spellings.specs.Cursors.{left_by}
use Rattle.spelling_table.specs.Productions.{outline_of}
use Rattle.spellings.specs.Spelled.{settled_roles}
use Rattle.spellings.specs.Wherever.{with_own, spelled_by, chain_above}
use Rattle.cost_table.specs.Costs.{sums, same_everywhere}
use Rattle.cost_table.specs.Tables.{table_of}
use Rattle.cost_table.specs.Packed.{free_node}
use Rattle.cost_table.specs.Weighed.{settled_at}
use Rattle.cost_table.proofs.Sums.{zero-sums, zero-zero}
use Rattle.cost_table.proofs.NodeRowNumbers.{chained_at}
use Rattle.language.specs.Claims.{parts_bound}
use Rattle.cost_certificate.specs.Walked.{wide_nodes, parts_wide_nodes, bounds_over, inside_of, weight_of, IsFreeLeaf, IsPassed, IsInside, IsBounded}
use Rattle.cost_certificate.proofs.CheckedRows.{passed_on, passed_same}
use Rattle.cost_certificate.proofs.WeighedNodes.{inside_fitted, bounded_hidden, bounded_free, passed_free}
use Rattle.cost_certificate.proofs.FreeLeaves.{leaf_adds_nothing}
use Rattle.cost_certificate.proofs.Bounds.{wide-length, rows_of, own_rows, nodes_inside, nodes_own, bounds_turn, bounds_skip, bounds_stop, bounds_finish, nodes_turn, nodes_skip, nodes_stop, nodes_finish, few_turn, few_skip, inside_none, nodes_some, rows_some, nodes_none}
use Rattle.cost_certificate.proofs.check_rows.+judging.Goals as goal

at_place : (ps qs : Parts) (i : ℕ) (u : Tree) → ps ≡ qs → Some u ≡ part_at ps i → Some u ≡ part_at qs i
at_place ps qs i u e h = h ∙ ap (λ rs. part_at rs i) e

pub check_inside-returns-in_default-clause-bounds : goal.check_inside-returns-in_default-clause-bounds
check_inside-returns-in_default-clause-bounds t c =
    inside_none (table_of c.args.table.now.rows.items c.args.table.now.total) (role_of c.args.position) (role_of c.widest-own.result) (node_tree c.args.node) (suc c.args.index) c.same.result c.widest-own.ensures c.in_default.ensures.ways c.same.ensures

pub check_inside-returns-in_default-clause-passed : goal.check_inside-returns-in_default-clause-passed
check_inside-returns-in_default-clause-passed t c =
    let T = table_of c.args.table.now.rows.items c.args.table.now.total in
    passed_same T [] _ c.args.index c.passed_none.result (nodes_none (role_of c.args.position) (role_of c.widest-own.result) (node_tree c.args.node) c.widest-own.ensures c.in_default.ensures.ways) (c.passed_none.ensures.passed T)

pub check_inside-check_parts-summed-requires : goal.check_inside-check_parts-summed-requires
check_inside-check_parts-summed-requires t c =
    let few = c.requires.few in
    let counts = rows_some (role_of c.args.position) (role_of c.widest-own.result) (node_tree c.args.node) (spelled_by c.args.node c.widest-own.result c.in-Some.production) c.widest-own.ensures c.in-Some.ensures.ways in
    (search rules, (c.in-Some.ensures.chain, omega (arith, few, counts)))

pub check_inside-returns-clause-bounds : goal.check_inside-returns-clause-bounds
check_inside-returns-clause-bounds t c =
    let T = table_of c.args.table.now.rows.items c.args.table.now.total in
    let a = role_of c.args.position in
    let n = node_tree c.args.node in
    let w = c.weigh_inside.result in
    subst (λ b. IsInside T a n (suc c.args.index) (inside_of b w)) c.widest-own.ensures
    (inside_fitted T a (role_of c.widest-own.result) n (suc c.args.index) (spelled_by c.args.node c.widest-own.result c.in-Some.production) c.check_parts-summed.result.sums (inside_of (role_of c.widest-own.result) w) c.widest-own.ensures c.in-Some.ensures.ways
    c.check_parts-summed.ensures.sums c.weigh_inside.ensures)

pub check_inside-returns-clause-passed : goal.check_inside-returns-clause-passed
check_inside-returns-clause-passed t c =
    passed_same (table_of c.args.table.now.rows.items c.args.table.now.total) _ _ c.args.index c.check_parts-summed.result.passed
    (nodes_some (role_of c.args.position) (role_of c.widest-own.result) (node_tree c.args.node) (spelled_by c.args.node c.widest-own.result c.in-Some.production) c.widest-own.ensures c.in-Some.ensures.ways) c.check_parts-summed.ensures.passed

pub check_node-check_inside-requires : goal.check_node-check_inside-requires
check_node-check_inside-requires t c =
    let few = c.requires.few in
    let counts = rows_of (node_tree c.args.node) (role_of c.args.position) in
    (search rules, (c.requires.chain, omega (arith, few, counts)))

pub check_node-returns-then-not-has_row-clause-bounds : goal.check_node-returns-then-not-has_row-clause-bounds
check_node-returns-then-not-has_row-clause-bounds t c =
    bounded_hidden (table_of c.args.table.now.rows.items c.args.table.now.total) (role_of c.args.position) (node_tree c.args.node) (suc c.args.index) c.check_inside.result.weighed (sym c.has_row.ensures ∙ c.if-not-has_row.true) c.check_inside.ensures.bounds

pub check_node-returns-then-not-has_row-clause-passed : goal.check_node-returns-then-not-has_row-clause-passed
check_node-returns-then-not-has_row-clause-passed t c =
    passed_same (table_of c.args.table.now.rows.items c.args.table.now.total) _ _ c.args.index c.check_inside.result.passed (nodes_inside (node_tree c.args.node) (role_of c.args.position) (sym c.has_row.ensures ∙ c.if-not-has_row.true)) c.check_inside.ensures.passed

pub check_node-check_inside-inside-requires : goal.check_node-check_inside-inside-requires
check_node-check_inside-inside-requires t c =
    let few = c.requires.few in
    let counts = own_rows (node_tree c.args.node) (role_of c.args.position) (sym c.has_row.ensures ∙ c.if-not-has_row.false) in
    (search rules, (c.requires.chain, omega (arith, few, counts)))

pub check_node-check_row-requires : goal.check_node-check_row-requires
check_node-check_row-requires t c =
    let few = c.requires.few in
    let counts = own_rows (node_tree c.args.node) (role_of c.args.position) (sym c.has_row.ensures ∙ c.if-not-has_row.false) in
    omega (arith, few, counts)

pub check_node-returns-then-is_free_row-clause-bounds : goal.check_node-returns-then-is_free_row-clause-bounds
check_node-returns-then-is_free_row-clause-bounds t c =
    bounded_free (table_of c.args.table.now.rows.items c.args.table.now.total) (role_of c.args.position) (node_tree c.args.node) c.args.index c.in-Free.rank c.kind.result c.check_inside-inside.result.weighed (sym c.has_row.ensures ∙ c.if-not-has_row.false)
    c.check_inside-inside.ensures.bounds c.in-Free.is (c.is_free_row.ensures c.if-is_free_row.true)

pub check_node-returns-then-is_free_row-clause-passed : goal.check_node-returns-then-is_free_row-clause-passed
check_node-returns-then-is_free_row-clause-passed t c =
    let T = table_of c.args.table.now.rows.items c.args.table.now.total in
    let a = role_of c.args.position in
    let n = node_tree c.args.node in
    let row = sym c.has_row.ensures ∙ c.if-not-has_row.false in
    passed_same T _ _ c.args.index c.check_inside-inside.result.passed (nodes_own n a row)
    (passed_free T a n c.args.index c.in-Free.rank c.kind.result c.check_inside-inside.result.weighed (parts_wide_nodes (parts_of n) (first_roles (ways (widest a) n))) c.check_inside-inside.result.passed row
    c.check_inside-inside.ensures.bounds c.in-Free.is (c.is_free_row.ensures c.if-is_free_row.true) c.kind.ensures c.check_inside-inside.ensures.passed)

pub check_node-returns-clause-bounds : goal.check_node-returns-clause-bounds
check_node-returns-clause-bounds t c = c.check_row.ensures.bounds (role_of c.args.position) (sym c.has_row.ensures ∙ c.if-not-has_row.false) c.check_inside-inside.ensures.bounds

pub check_node-returns-clause-passed : goal.check_node-returns-clause-passed
check_node-returns-clause-passed t c =
    let a = role_of c.args.position in
    let n = node_tree c.args.node in
    let row = sym c.has_row.ensures ∙ c.if-not-has_row.false in
    passed_same (table_of c.args.table.now.rows.items c.args.table.now.total) _ _ c.args.index c.check_row.result.passed (nodes_own n a row)
    (c.check_row.ensures.passed a (parts_wide_nodes (parts_of n) (first_roles (ways (widest a) n))) row c.check_inside-inside.ensures.bounds c.check_inside-inside.ensures.passed)

pub check_parts-loop-place-init : goal.check_parts-loop-place-init
check_parts-loop-place-init t c =
    let ps = parts_of (node_tree c.args.node) in
    let a = role_of c.args.own in
    let T = table_of c.args.table.now.rows.items c.args.table.now.total in
    let few = c.requires.few in
    let same = c.passed_none-passed.ensures.next in
    let xs = left (spelled_by c.args.node c.args.own c.args.production).slots in
    let ss = left_by c.new-slots.result (list_parts c.parts-parts.result) in
    let e : ss ≡ xs = (λ j. left_by (c.new-slots.ensures j) (c.parts-parts.ensures j)) in
    let counts = ap (λ us. parts_rows ps (settled_roles a us)) e in
    record {
      added = ap (λ us. sums c.same-sums.result (bounds_over T ps a us (suc c.passed_none-passed.result.next))) e
          ∙ ap (λ k. sums c.same-sums.result (bounds_over T ps a xs (suc k))) same
          ∙ ap (λ s. sums s (bounds_over T ps a xs (suc c.args.index))) c.same-sums.ensures
          ∙ zero-sums (λ y i f. parts_bound T ps (settled_roles (with_own y i f a) xs) (suc c.args.index));
      whole = ap (λ s. sums s (same_everywhere (Some 0))) c.same-sums.ensures ∙ zero-zero ∙ sym c.same-sums.ensures;
      few = omega (arith, few, same, counts);
      passed = record { nodes = []; stand = ap (λ us. parts_wide_nodes ps (settled_roles a us)) e; passed = c.passed_none-passed.ensures.passed T };
    }

pub check_parts-loop-place-preserved-in_default : goal.check_parts-loop-place-preserved-in_default
check_parts-loop-place-preserved-in_default t c =
    let ps = parts_of (node_tree c.args.node) in
    let a = role_of c.args.own in
    let T = table_of c.args.table.now.rows.items c.args.table.now.total in
    let here : c.loop-place.place < part_count ps = omega (arith, c.len-place-end.ensures, ap part_count c.parts-parts.ensures, c.loop-place-test.true) in
    let p = parts_drop-gap ps c.loop-place.place (c.in_default.ensures ∙ ap (λ qs. part_at qs c.loop-place.place) c.parts-parts.ensures) here in
    let few = c.loop-place.invariant.few in
    let same = few_skip _ _ a (left_by c.loop-place.slots (list_parts c.parts-parts.result)) p in
    let b = c.loop-place.invariant.passed in
    record {
      added = bounds_skip T _ _ _ _ a (left_by c.loop-place.slots (list_parts c.parts-parts.result)) (suc c.loop-place.passed.next) c.loop-place.invariant.added p;
      whole = c.loop-place.invariant.whole;
      few = omega (arith, few, same);
      passed = record { nodes = b.nodes; stand = nodes_skip b.nodes _ _ _ a (left_by c.loop-place.slots (list_parts c.parts-parts.result)) b.stand p; passed = b.passed };
    }

pub check_parts-returns-in_default-take-clause-sums : goal.check_parts-returns-in_default-take-clause-sums
check_parts-returns-in_default-take-clause-sums t c =
    let ps = parts_of (node_tree c.args.node) in
    let T = table_of c.args.table.now.rows.items c.args.table.now.total in
    c.same.ensures ∙ bounds_stop T _ _ _ _ (node_tree c.in-Some.part) (role_of c.args.own) (left_by c.loop-place.slots (list_parts c.parts-parts.result)) (suc c.loop-place.passed.next) c.loop-place.invariant.added
    (parts_drop-some ps c.loop-place.place (node_tree c.in-Some.part) (at_place _ _ c.loop-place.place (node_tree c.in-Some.part) c.parts-parts.ensures c.in-Some.ensures)) c.in_default-take.ensures

pub check_parts-returns-in_default-take-clause-passed : goal.check_parts-returns-in_default-take-clause-passed
check_parts-returns-in_default-take-clause-passed t c =
    let ps = parts_of (node_tree c.args.node) in
    let T = table_of c.args.table.now.rows.items c.args.table.now.total in
    let b = c.loop-place.invariant.passed in
    passed_same T b.nodes _ c.args.index c.loop-place.passed
    (nodes_stop b.nodes _ _ _ (node_tree c.in-Some.part) (role_of c.args.own) (left_by c.loop-place.slots (list_parts c.parts-parts.result)) b.stand
    (parts_drop-some ps c.loop-place.place (node_tree c.in-Some.part) (at_place _ _ c.loop-place.place (node_tree c.in-Some.part) c.parts-parts.ensures c.in-Some.ensures)) c.in_default-take.ensures) b.passed

pub check_parts-check_node-judged-requires : goal.check_parts-check_node-judged-requires
check_parts-check_node-judged-requires t c =
    let n = node_tree c.args.node in
    let u = node_tree c.in-Some.part in
    let ps = parts_of n in
    let a = role_of c.args.own in
    let x = slot_of c.in-Some-take.slot in
    let smaller : node_total u < node_total n = part_smaller n u c.loop-place.place (at_place _ _ c.loop-place.place (node_tree c.in-Some.part) c.parts-parts.ensures c.in-Some.ensures) in
    let p = parts_drop-some ps c.loop-place.place u (at_place _ _ c.loop-place.place (node_tree c.in-Some.part) c.parts-parts.ensures c.in-Some.ensures) in
    let e = c.in-Some-take.ensures in
    let few = c.loop-place.invariant.few in
    let counts = few_turn _ _ u a x (left_by c.loop-place.slots (list_parts c.parts-parts.result)) (left_by c.take.new.self (list_parts c.parts-parts.result)) p e in
    let there = ap (rows u) c.resolve_slot-position.ensures in
    let above : c.holds_chain-is_chain.result ≡ true → first_has_optional ps ≡ true = λ h. c.requires.chain (ap (λ k. chain_above c.args.own k (outline_of c.args.production).front) (sym c.kind.ensures) ∙ sym c.holds_chain-is_chain.ensures ∙ h) in
    (search rules, (chained_at n u c.loop-place.place c.holds_chain-is_chain.result c.leads_chain-in_chain.result above (at_place _ _ c.loop-place.place (node_tree c.in-Some.part) c.parts-parts.ensures c.in-Some.ensures) c.leads_chain-in_chain.ensures, omega (arith, few, counts, there)))

pub check_parts-loop-place-preserved : goal.check_parts-loop-place-preserved
check_parts-loop-place-preserved t c =
    let ps = parts_of (node_tree c.args.node) in
    let a = role_of c.args.own in
    let T = table_of c.args.table.now.rows.items c.args.table.now.total in
    let u = node_tree c.in-Some.part in
    let x = slot_of c.in-Some-take.slot in
    let w = weight_of c.check_node-judged.result.weighed in
    let p = parts_drop-some ps c.loop-place.place u (at_place _ _ c.loop-place.place (node_tree c.in-Some.part) c.parts-parts.ensures c.in-Some.ensures) in
    let e = c.in-Some-take.ensures in
    let r = suc c.loop-place.passed.next in
    let q : IsBounded T (settled_at a x) u r w = subst (λ b. IsBounded T b u r w) c.resolve_slot-position.ensures c.check_node-judged.ensures.bounds in
    let behind : IsPassed T (wide_nodes u (settled_at a x)) c.loop-place.passed.next c.check_node-judged.result.passed = subst (λ b. IsPassed T (wide_nodes u b) c.loop-place.passed.next c.check_node-judged.result.passed) c.resolve_slot-position.ensures c.check_node-judged.ensures.passed in
    let far = behind.next in
    let long = wide-length u (settled_at a x) in
    let to = c.joined-passed.ensures.next in
    let next : c.joined-passed.result.next ≡ c.loop-place.passed.next + rows u (settled_at a x) = omega (arith, far, long, to) in
    let few = c.loop-place.invariant.few in
    let counts = few_turn _ _ u a x (left_by c.loop-place.slots (list_parts c.parts-parts.result)) (left_by c.take.new.self (list_parts c.parts-parts.result)) p e in
    let b = c.loop-place.invariant.passed in
    record {
      added = bounds_turn T _ _ _ _ _ u a x (left_by c.loop-place.slots (list_parts c.parts-parts.result)) (left_by c.take.new.self (list_parts c.parts-parts.result)) w c.loop-place.passed.next c.joined-passed.result.next c.loop-place.invariant.added p e q c.with_part-sums.ensures next;
      whole = Rattle.cost_table.proofs.NodeRowNumbers.whole_turn _ _ _ c.with_part-sums.ensures;
      few = omega (arith, few, counts, next);
      passed = record {
        nodes = b.nodes ++ wide_nodes u (settled_at a x);
        stand = nodes_turn b.nodes (wide_nodes u (settled_at a x)) _ _ _ u a x (left_by c.loop-place.slots (list_parts c.parts-parts.result)) (left_by c.take.new.self (list_parts c.parts-parts.result)) b.stand p e refl;
        passed = c.joined-passed.ensures.passed T b.nodes (wide_nodes u (settled_at a x)) c.args.index b.passed behind;
      };
    }

pub check_parts-behind_free_leaf-requires : goal.check_parts-behind_free_leaf-requires
check_parts-behind_free_leaf-requires t c = let few = c.loop-place.invariant.few in omega (arith, few)

pub check_parts-loop-place-preserved-in-Some-behind_free_leaf : goal.check_parts-loop-place-preserved-in-Some-behind_free_leaf
check_parts-loop-place-preserved-in-Some-behind_free_leaf t c =
    let ps = parts_of (node_tree c.args.node) in
    let a = role_of c.args.own in
    let T = table_of c.args.table.now.rows.items c.args.table.now.total in
    let u = node_tree c.in-Some.part in
    let x = slot_of c.in-Some-take.slot in
    let from = c.loop-place.passed.next in
    let to = c.in-Some-behind_free_leaf.next in
    let p = parts_drop-some ps c.loop-place.place u (at_place _ _ c.loop-place.place (node_tree c.in-Some.part) c.parts-parts.ensures c.in-Some.ensures) in
    let e = c.in-Some-take.ensures in
    let free : IsFreeLeaf T (settled_at a x) u from to = subst (λ b. IsFreeLeaf T b u from to) c.resolve_slot-position.ensures c.in-Some-behind_free_leaf.ensures in
    let far = free.passed.next in
    let long = wide-length u (settled_at a x) in
    let next : to ≡ from + rows u (settled_at a x) = omega (arith, far, long) in
    let few = c.loop-place.invariant.few in
    let counts = few_turn _ _ u a x (left_by c.loop-place.slots (list_parts c.parts-parts.result)) (left_by c.take.new.self (list_parts c.parts-parts.result)) p e in
    let b = c.loop-place.invariant.passed in
    record {
      added = bounds_turn T _ _ _ _ _ u a x (left_by c.loop-place.slots (list_parts c.parts-parts.result)) (left_by c.take.new.self (list_parts c.parts-parts.result)) (free_node Primary) from to c.loop-place.invariant.added p e free.bounds
          (leaf_adds_nothing c.loop-place.sums x a c.loop-place.invariant.whole free.stands) next;
      whole = c.loop-place.invariant.whole;
      few = omega (arith, few, counts, next);
      passed = record {
        nodes = b.nodes ++ wide_nodes u (settled_at a x);
        stand = nodes_turn b.nodes (wide_nodes u (settled_at a x)) _ _ _ u a x (left_by c.loop-place.slots (list_parts c.parts-parts.result)) (left_by c.take.new.self (list_parts c.parts-parts.result)) b.stand p e refl;
        passed = passed_on T b.nodes (wide_nodes u (settled_at a x)) c.args.index to c.loop-place.passed b.passed free.passed;
      };
    }

pub check_parts-returns-clause-sums : goal.check_parts-returns-clause-sums
check_parts-returns-clause-sums t c =
    let T = table_of c.args.table.now.rows.items c.args.table.now.total in
    bounds_finish T _ _ _ (role_of c.args.own) (left_by c.loop-place.slots (list_parts c.parts-parts.result)) (suc c.loop-place.passed.next) c.loop-place.invariant.added
    (parts_drop-past (parts_of (node_tree c.args.node)) c.loop-place.place (omega (arith, c.len-place-end.ensures, ap part_count c.parts-parts.ensures, c.loop-place-test.false))) c.loop-place.invariant.whole

pub check_parts-returns-clause-passed : goal.check_parts-returns-clause-passed
check_parts-returns-clause-passed t c =
    let T = table_of c.args.table.now.rows.items c.args.table.now.total in
    let b = c.loop-place.invariant.passed in
    passed_same T b.nodes _ c.args.index c.loop-place.passed
    (nodes_finish b.nodes _ _ (role_of c.args.own) (left_by c.loop-place.slots (list_parts c.parts-parts.result)) b.stand (parts_drop-past (parts_of (node_tree c.args.node)) c.loop-place.place (omega (arith, c.len-place-end.ensures, ap part_count c.parts-parts.ensures, c.loop-place-test.false)))) b.passed
