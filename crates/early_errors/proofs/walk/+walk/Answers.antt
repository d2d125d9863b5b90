use Rattle.std.proofs.Common.{rules, ◌≡◌, ◌-◌, ◌<◌, ◌≤◌, ◌++◌, cond, nat_eq, [], Some, refl, sym, ap, subst, ◌∙◌}
use Rattle.std.specs.Prelude.{◌||◌}
use Rattle.tree.specs.Tree.{kind_of, parts_of}
use Rattle.tree.specs.Node.{node_tree, list_parts}
use Rattle.tree.proofs.PartWalk.{part_steps, parts_drop-some, parts_drop-gap, parts_drop-past}
use Rattle.std.specs.Prelude.{IfSome}
use Rattle.early_errors.specs.Around.{labels_loop, own_label, private_keys, settled}
use Rattle.early_errors.specs.Early.{errors_within}
use Rattle.early_errors.specs.Names.{var_names}
use Rattle.early_errors.specs.Passed.{IsWhere}
use Rattle.early_errors.specs.Owns.{Beside, found_of_scope, inside_of, makes_scope, names_of_scope, round, scope_error, scope_kind, unlabelled}
use Rattle.early_errors.specs.PrivateUses.{undone_privates}
use Rattle.early_errors.specs.Walk.{after, all_named, clashing, hits, look, sooner, undone, saved_name, saved_value}
use Rattle.early_errors.specs.Walks.{range_errors, range_vars}
use Rattle.early_errors.proofs.Insides.{class_facts, function_facts, method_facts, plain_facts, label_facts, scope_facts, is_labelled, is_scope, is_static_block, no_own_label, one_label}
use Rattle.early_errors.proofs.Known.{restored_as, known_class, known_labelled, known_none, known_still, known_unlabelled}
use Rattle.early_errors.proofs.Settled.{settled_arguments, settled_errors, settled_within}
use Rattle.early_errors.proofs.JoinedHits.{from_start, part-turn, part-given, part-missing, first-round, other-round, parts-found, function-found, two-goes, scope-found, scope_hits, none-clash}
use Rattle.early_errors.proofs.StaticBlocks.{block-found}
use Rattle.early_errors.proofs.VarFree.{is_free}
use Rattle.early_errors.proofs.Silent.{quiet_found}
use Rattle.early_errors.proofs.Ahead.{ahead-part, ahead-gap, ahead-end, open_found, declared_found}
use Rattle.early_errors.proofs.ScopeErrors.{split_given}
use Rattle.name_tables.proofs.Results.{on_ok}
use Rattle.name_tables.proofs.Undone.{undone-agrees}
use Rattle.early_errors.proofs.walk.+walk.Goals as goal
use Rattle.early_errors.proofs.walk.+walk.Goals.{walk_parts-in-Some+in_ok-walk_node, walk_parts-then-index-eq0, walk_parts-else-index-eq0, walk_parts-in_default, walk_passed-in-Nowhere, walk_passed-in-InParts+in_ok-walk_passed-in-InParts, walk_passed-in-Anywhere+in_ok-walk_special-in-Anywhere}

pub walk_function-returns-clause-found : goal.walk_function-returns-clause-found
walk_function-returns-clause-found t c =
    on_ok c.walk_parts-done.result
    (λ h o r k e.
    let t = node_tree c.args.node in
    let z = round c.args.around r in
    let f = function_facts t z r c.requires.inside in
    function-found o c.args.walk.now.found (look c.args.walk.now.vars) z (round c.contexts_of.result.first (unlabelled r)) (round c.contexts_of.result.others (unlabelled r)) t (c.part_count.result - 0) (c.requires.settled r)
    (from_start c.part_count.result ∙ c.part_count.ensures) (ap (round c.contexts_of.result.first) (sym f.0.0) ∙ c.contexts_of.ensures.first r) (ap (round c.contexts_of.result.others) (sym f.0.1.0) ∙ c.contexts_of.ensures.others r)
    (look c.take-vars.new.self) c.walk_parts-done.new.walk.found f.0.1.1.1 f.0.1.1.0 f.1 c.take-vars.ensures.after e
    (h (unlabelled r) (known_unlabelled (look c.args.walk.now.labels) (look c.take-labels.new.self) (look c.args.walk.now.privates) c.args.walk.now.language r c.take-labels.ensures.after k)))
    c.walk_parts-done.ensures.found

pub walk_label-returns-in_default-clause-found : goal.walk_label-returns-in_default-clause-found
walk_label-returns-in_default-clause-found t c =
    on_ok c.walk_parts.result
    (λ h o r k e.
    let t = node_tree c.args.node in
    let z = round c.args.around r in
    let f = label_facts t z r c.requires.inside in
    let same = no_own_label (parts_of t) r.labels c.in_default.ensures in
    let first = c.contexts_of-rounds.result.first in
    let others = c.contexts_of-rounds.result.others in
    parts-found o c.args.walk.now.found (look c.args.walk.now.vars) z (round first r) (round others r) t (c.part_count.result - 0) (c.requires.settled r)
    (from_start c.part_count.result ∙ c.part_count.ensures) (ap (round first) (sym f.0) ∙ c.contexts_of-rounds.ensures.first r)
    (ap (round others) (sym (f.1.0 ∙ (λ i. record r { labels = same i }))) ∙ c.contexts_of-rounds.ensures.others r)
    (look c.args.walk.now.vars) c.walk_parts.new.walk.found f.1.1.1 f.1.1.0 (λ w. refl) e (h r k))
    c.walk_parts.ensures.found

pub walk_label-known_loop-rounds-requires : goal.walk_label-known_loop-rounds-requires
walk_label-known_loop-rounds-requires t c = c.label_is_loop-is_loop.ensures (is_labelled (node_tree c.args.node) c.requires.inside)

pub walk_label-returns-clause-found : goal.walk_label-returns-clause-found
walk_label-returns-clause-found t c =
    on_ok c.walk_parts-done.result
    (λ h o r k e.
    let t = node_tree c.args.node in
    let z = round c.args.around r in
    let f = label_facts t z r c.requires.inside in
    let inner : Beside = record r { labels = own_label (parts_of t) r.labels } in
    let first = c.contexts_of-rounds.result.first in
    let others = c.contexts_of-rounds.result.others in
    let before = c.walk_parts-2.new.walk in
    let still = known_still (look c.args.walk.now.labels) (look before.labels) (look c.args.walk.now.privates) (look before.privates) c.args.walk.now.language before.language r c.in_ok-walk_parts.ensures.labels c.in_ok-walk_parts.ensures.privates c.in_ok-walk_parts.ensures.language k in
    parts-found o c.args.walk.now.found (look c.args.walk.now.vars) z (round first r) (round others inner) t c.part_count-2.result (c.requires.settled r)
    c.part_count-2.ensures (ap (round first) (sym f.0) ∙ c.contexts_of-rounds.ensures.first r) (ap (round others) (sym f.1.0) ∙ c.contexts_of-rounds.ensures.others r)
    (look c.args.walk.now.vars) c.walk_parts-done.new.walk.found f.1.1.1 f.1.1.0 (λ w. refl) e
    (two-goes (look c.args.walk.now.vars) (look c.args.walk.now.vars) (look before.vars) c.args.walk.now.found before.found c.walk_parts-done.new.walk.found
    (round others r) (round first inner) (round first r) (round others inner) (parts_of t) c.part_count-2.result c.part_count-2.ensures (λ w. refl) c.in_ok-walk_parts.ensures.vars
    (c.in_ok-walk_parts.ensures.found r k)
    (h inner
    (known_labelled (look before.labels) (look c.replace.new.self) (look before.privates) before.language r (parts_of t)
    (one_label (look before.labels) (look c.replace.new.self) r.labels (parts_of t) (node_tree c.in-Some.label) c.text-name.result.now c.label_is_loop-is_loop.result c.either-after.result c.value-before.result c.in-Some.ensures c.text-name.ensures
    (c.label_is_loop-is_loop.ensures (is_labelled t c.requires.inside)) (c.value-before.ensures ∙ sym (c.in_ok-walk_parts.ensures.labels c.text-name.result.now)) (c.either-after.ensures ∙ ap (λ b. c.label_is_loop-is_loop.result || b) c.is_true.ensures) still.labelled c.in_ok-replace.ensures.after) still))))
    c.walk_parts-done.ensures.found

pub walk_label-returns-clause-labels : goal.walk_label-returns-clause-labels
walk_label-returns-clause-labels t c =
    on_ok c.walk_parts-done.result
    (λ h. restored_as (look c.args.walk.now.labels) (look c.walk_parts-2.new.walk.labels) (look c.replace.new.self) (look c.walk_parts-done.new.walk.labels) (look c.replace-2.new.self) c.text-name.result.now c.value-before.result (Some c.either-after.result)
    c.in_ok-walk_parts.ensures.labels c.value-before.ensures c.in_ok-replace.ensures.after h c.in_ok-replace-2.ensures.after)
    c.walk_parts-done.ensures.labels

pub walk_method-returns-clause-found : goal.walk_method-returns-clause-found
walk_method-returns-clause-found t c =
    on_ok c.walk_parts-done.result
    (λ h o r k e.
    let t = node_tree c.args.node in
    let z = round c.args.around r in
    let f = method_facts t z r c.requires.inside in
    let first = c.contexts_of-rounds.result.first in
    let others = c.contexts_of-rounds.result.others in
    let before = c.walk_parts.new.walk in
    let still = known_still (look c.args.walk.now.labels) (look before.labels) (look c.args.walk.now.privates) (look before.privates) c.args.walk.now.language before.language r c.in_ok-walk_parts.ensures.labels c.in_ok-walk_parts.ensures.privates c.in_ok-walk_parts.ensures.language k in
    parts-found o c.args.walk.now.found (look c.args.walk.now.vars) z (round first r) (round others (unlabelled r)) t c.part_count.result (c.requires.settled r)
    c.part_count.ensures (ap (round first) (sym f.0) ∙ c.contexts_of-rounds.ensures.first r) (ap (round others) (sym f.1.0) ∙ c.contexts_of-rounds.ensures.others r)
    (look c.args.walk.now.vars) c.walk_parts-done.new.walk.found f.1.1.1 f.1.1.0 (λ w. refl) e
    (two-goes (look c.args.walk.now.vars) (look c.args.walk.now.vars) (look before.vars) c.args.walk.now.found before.found c.walk_parts-done.new.walk.found
    (round others r) (round first (unlabelled r)) (round first r) (round others (unlabelled r)) (parts_of t) c.part_count.result c.part_count.ensures (λ w. refl) c.in_ok-walk_parts.ensures.vars
    (c.in_ok-walk_parts.ensures.found r k) (h (unlabelled r) (known_unlabelled (look before.labels) (look c.take-labels.new.self) (look before.privates) before.language r c.take-labels.ensures.after still))))
    c.walk_parts-done.ensures.found

pub walk_method-returns-clause-vars : goal.walk_method-returns-clause-vars
walk_method-returns-clause-vars t c = on_ok c.walk_parts-done.result (λ h w. h w ∙ c.in_ok-walk_parts.ensures.vars w) c.walk_parts-done.ensures.vars

pub walk_special-returns-in-Function-clause-found : goal.walk_special-returns-in-Function-clause-found
walk_special-returns-in-Function-clause-found t c = on_ok c.walk_function.result (λ h r k. h c.args.walk.now.found r k (c.in_ok-walk.ensures r k)) c.walk_function.ensures.found

pub walk_special-returns-in-Method-clause-found : goal.walk_special-returns-in-Method-clause-found
walk_special-returns-in-Method-clause-found t c = on_ok c.walk_method.result (λ h r k. h c.args.walk.now.found r k (c.in_ok-walk.ensures r k)) c.walk_method.ensures.found

pub walk_special-returns-in-Label-clause-found : goal.walk_special-returns-in-Label-clause-found
walk_special-returns-in-Label-clause-found t c = on_ok c.walk_label.result (λ h r k. h c.args.walk.now.found r k (c.in_ok-walk.ensures r k)) c.walk_label.ensures.found

pub walk_special-returns-in-Scope-clause-found : goal.walk_special-returns-in-Scope-clause-found
walk_special-returns-in-Scope-clause-found t c = on_ok c.walk_scope.result (λ h r k. h c.args.walk.now.found r k (c.in_ok-walk.ensures r k)) c.walk_scope.ensures.found

pub walk_special-returns-in-Plain-clause-found : goal.walk_special-returns-in-Plain-clause-found
walk_special-returns-in-Plain-clause-found t c =
    on_ok c.walk_parts.result
    (λ h r k.
    let t = node_tree c.args.node in
    let z = round c.args.around r in
    let kind = (λ i. inside_of (sym c.kind.ensures i) (sym c.flags.ensures i).form) ∙ sym c.inside_of.ensures ∙ c.in-Plain.is in
    let f = plain_facts t z r kind in
    parts-found c.args.walk.now.found c.in_ok-walk.field-0 (look c.args.walk.now.vars) z (round c.contexts_of.result.first r) (round c.contexts_of.result.others r) t (c.part_count.result - 0) (c.requires.settled r)
    (from_start c.part_count.result ∙ c.part_count.ensures) (ap (round c.contexts_of.result.first) (sym f.0) ∙ c.contexts_of.ensures.first r) (ap (round c.contexts_of.result.others) (sym f.1.0) ∙ c.contexts_of.ensures.others r)
    (look c.args.walk.now.vars) c.walk_parts.new.walk.found f.1.1.1 f.1.1.0 (λ w. refl) (c.in_ok-walk.ensures r k)
    (h r k))
    c.walk_parts.ensures.found

pub walk_special-returns-in-Declaration-clause-found : goal.walk_special-returns-in-Declaration-clause-found
walk_special-returns-in-Declaration-clause-found t c =
    on_ok c.walk_passed.result
    (λ h r k.
    let t = node_tree c.args.node in
    let kind = (λ i. inside_of (sym c.kind.ensures i) (sym c.flags.ensures i).form) ∙ sym c.inside_of.ensures ∙ c.in-Declaration.is in
    declared_found (look c.args.walk.now.vars) (round c.within-inner.result r) (round c.args.around r) t c.args.walk.now.found c.in_ok-walk.field-0 c.walk_passed.new.walk.found kind (c.requires.settled r) (c.within-inner.ensures.around r) (c.in_ok-walk.ensures r k) (h r k))
    c.walk_passed.ensures.found

pub walk_parts-loop-index-preserved : goal.walk_parts-loop-index-preserved
walk_parts-loop-index-preserved t c =
    let ps = parts_of (node_tree c.args.node) in
    let first = c.args.rounds.first in
    let others = c.args.rounds.others in
    let V = look c.args.walk.now.vars in
    let i = c.loop-index.index in
    elim c.match-part.branch [
      | walk_parts-in-Some+in_ok-walk_node w ↦ record {
        found = λ r k.
            let round-is : round w.if-index-eq0.around r ≡ cond (nat_eq i 0) (round first r) (round others r) =
            elim w.if-index-eq0.branch [ walk_parts-then-index-eq0 w' ↦ first-round first others w.if-index-eq0.around i r w'.if-index-eq0.true w'.around-is | walk_parts-else-index-eq0 w' ↦ other-round first others w.if-index-eq0.around i r w'.if-index-eq0.false w'.around-is ] in
            part-turn V (round first r) (round others r) ps i c.args.to c.loop-index-test.true _ c.loop-index.walk.found c.match-part.walk.found
            (part-given V (look c.loop-index.walk.vars) (round w.if-index-eq0.around r) (round first r) (round others r) ps i (node_tree w.in-Some.part) c.loop-index.walk.found c.match-part.walk.found c.loop-index.invariant.vars w.in-Some.ensures round-is
            (ap (λ x. x.found) w.walk-is ∙ w.in_ok-walk_node.ensures.found r (known_still (look c.args.walk.now.labels) (look c.loop-index.walk.labels) (look c.args.walk.now.privates) (look c.loop-index.walk.privates) c.args.walk.now.language c.loop-index.walk.language r c.loop-index.invariant.labels c.loop-index.invariant.privates c.loop-index.invariant.language k)))
            (c.loop-index.invariant.found r k);
        vars = λ v. ap (λ x. look x.vars v) w.walk-is ∙ w.in_ok-walk_node.ensures.vars v ∙ c.loop-index.invariant.vars v;
        labels = λ v. ap (λ x. look x.labels v) w.walk-is ∙ w.in_ok-walk_node.ensures.labels v ∙ c.loop-index.invariant.labels v;
        privates = λ v. ap (λ x. look x.privates v) w.walk-is ∙ w.in_ok-walk_node.ensures.privates v ∙ c.loop-index.invariant.privates v;
        language = ap (λ x. x.language) w.walk-is ∙ w.in_ok-walk_node.ensures.language ∙ c.loop-index.invariant.language;
      }
      | walk_parts-in_default w ↦ record {
        found = λ r k.
            part-turn V (round first r) (round others r) ps i c.args.to c.loop-index-test.true _ c.loop-index.walk.found c.match-part.walk.found
            (part-missing V (round first r) (round others r) ps i c.loop-index.walk.found c.match-part.walk.found w.in_default.ensures (ap (λ x. x.found) w.walk-is))
            (c.loop-index.invariant.found r k);
        vars = λ v. ap (λ x. look x.vars v) w.walk-is ∙ c.loop-index.invariant.vars v;
        labels = λ v. ap (λ x. look x.labels v) w.walk-is ∙ c.loop-index.invariant.labels v;
        privates = λ v. ap (λ x. look x.privates v) w.walk-is ∙ c.loop-index.invariant.privates v;
        language = ap (λ x. x.language) w.walk-is ∙ c.loop-index.invariant.language;
      }
    ]

pub walk_node-returns-in-InParts-clause-found : goal.walk_node-returns-in-InParts-clause-found
walk_node-returns-in-InParts-clause-found t c =
    on_ok c.walk_passed.result
    (λ h r k.
    let t = node_tree c.args.node in
    let z = round c.args.around r in
    let y = round c.settled-around.result r in
    let q = c.args.walk.now.found in
    open_found (look c.args.walk.now.vars) c.settled-around.result.no_arguments (round c.within-inner.result r) y t q c.walk_passed.new.walk.found (subst (λ x. IsWhere c.settled-around.result.no_arguments x t) c.in-InParts.is c.error_places.ensures)
    refl (ap (settled y) (sym c.kind.ensures) ∙ c.settled-around.ensures.again r) (c.within-inner.ensures.around r) (h r k)
    ∙ ap (λ l. sooner (after q l) (hits (look c.args.walk.now.vars) (var_names t))) (ap (λ y. errors_within y t) (c.settled-around.ensures.round r ∙ ap (settled z) c.kind.ensures) ∙ sym (settled_errors z t)))
    c.walk_passed.ensures.found

pub walk_passed-loop-index-preserved-in_default : goal.walk_passed-loop-index-preserved-in_default
walk_passed-loop-index-preserved-in_default t c =
    let ps = list_parts c.parts-parts.result in
    let i = c.loop-index.index in
    record {
      found = λ r k.
          ahead-gap (look c.args.walk.now.vars) (round c.args.around.now r) c.loop-index.walk.found c.loop-index.walk.found _ _ _ (parts_drop-gap ps i c.in_default.ensures (subst (λ n. i < n) c.len-index-end.ensures c.loop-index-test.true))
          refl (c.loop-index.invariant.found r k);
      vars = c.loop-index.invariant.vars;
      labels = c.loop-index.invariant.labels;
      privates = c.loop-index.invariant.privates;
      language = c.loop-index.invariant.language;
    }

pub walk_passed-loop-index-preserved : goal.walk_passed-loop-index-preserved
walk_passed-loop-index-preserved t c =
    let ps = list_parts c.parts-parts.result in
    let u = node_tree c.in-Some.part in
    let a = c.args.around.now in
    let V = look c.args.walk.now.vars in
    let W = look c.loop-index.walk.vars in
    let i = c.loop-index.index in
    let q = c.loop-index.walk.found in
    let s = c.match-error_places.walk.found in
    let inv = c.loop-index.invariant in
    let at = parts_drop-some ps i u c.in-Some.ensures in
    elim c.match-error_places.branch [
      | walk_passed-in-Nowhere w ↦ record {
        found = λ r k.
            ahead-part V W (round a r) q s _ _ _ u inv.vars at (quiet_found W a.no_arguments (round a r) u q s (subst (λ x. IsWhere a.no_arguments x u) w.in-Nowhere.is c.error_places.ensures) refl (ap (λ x. x.found) w.walk-is)) (inv.found r k);
        vars = λ v. ap (λ x. look x.vars v) w.walk-is ∙ inv.vars v;
        labels = λ v. ap (λ x. look x.labels v) w.walk-is ∙ inv.labels v;
        privates = λ v. ap (λ x. look x.privates v) w.walk-is ∙ inv.privates v;
        language = ap (λ x. x.language) w.walk-is ∙ inv.language;
      }
      | walk_passed-in-InParts+in_ok-walk_passed-in-InParts w ↦ record {
        found = λ r k.
            ahead-part V W (round a r) q s _ _ _ u inv.vars at
            (open_found W a.no_arguments (round a r) (round a r) u q s (subst (λ x. IsWhere a.no_arguments x u) w.in-InParts.is c.error_places.ensures) refl (settled_within (round a r) (kind_of u) (c.requires.handed_on r)) (sym (c.requires.handed_on r))
            (ap (λ x. x.found) w.walk-is ∙ w.in_ok-walk_passed-in-InParts.ensures.found r (known_still (look c.args.walk.now.labels) (look c.loop-index.walk.labels) (look c.args.walk.now.privates) (look c.loop-index.walk.privates) c.args.walk.now.language c.loop-index.walk.language r inv.labels inv.privates inv.language k)))
            (inv.found r k);
        vars = λ v. ap (λ x. look x.vars v) w.walk-is ∙ w.in_ok-walk_passed-in-InParts.ensures.vars v ∙ inv.vars v;
        labels = λ v. ap (λ x. look x.labels v) w.walk-is ∙ w.in_ok-walk_passed-in-InParts.ensures.labels v ∙ inv.labels v;
        privates = λ v. ap (λ x. look x.privates v) w.walk-is ∙ w.in_ok-walk_passed-in-InParts.ensures.privates v ∙ inv.privates v;
        language = ap (λ x. x.language) w.walk-is ∙ w.in_ok-walk_passed-in-InParts.ensures.language ∙ inv.language;
      }
      | walk_passed-in-Anywhere+in_ok-walk_special-in-Anywhere w ↦ record {
        found = λ r k.
            ahead-part V W (round a r) q s _ _ _ u inv.vars at (ap (λ x. x.found) w.walk-is ∙ w.in_ok-walk_special-in-Anywhere.ensures.found r (known_still (look c.args.walk.now.labels) (look c.loop-index.walk.labels) (look c.args.walk.now.privates) (look c.loop-index.walk.privates) c.args.walk.now.language c.loop-index.walk.language r inv.labels inv.privates inv.language k)) (inv.found r k);
        vars = λ v. ap (λ x. look x.vars v) w.walk-is ∙ w.in_ok-walk_special-in-Anywhere.ensures.vars v ∙ inv.vars v;
        labels = λ v. ap (λ x. look x.labels v) w.walk-is ∙ w.in_ok-walk_special-in-Anywhere.ensures.labels v ∙ inv.labels v;
        privates = λ v. ap (λ x. look x.privates v) w.walk-is ∙ w.in_ok-walk_special-in-Anywhere.ensures.privates v ∙ inv.privates v;
        language = ap (λ x. x.language) w.walk-is ∙ w.in_ok-walk_special-in-Anywhere.ensures.language ∙ inv.language;
      }
    ]

pub walk_passed-returns-clause-found : goal.walk_passed-returns-clause-found
walk_passed-returns-clause-found t c = λ r k.
    let ps = list_parts c.parts-parts.result in
    let i = c.loop-index.index in
    ahead-end (look c.args.walk.now.vars) (round c.args.around.now r) c.loop-index.walk.found _ _ (parts_drop-past ps i (subst (λ n. n ≤ i) c.len-index-end.ensures c.loop-index-test.false)) (c.loop-index.invariant.found r k)

pub walk_in_scope-returns-then-has_no_var-clause-found : goal.walk_in_scope-returns-then-has_no_var-clause-found
walk_in_scope-returns-then-has_no_var-clause-found t c =
    on_ok c.walk_parts-then-has_no_var.result
    (λ h o r k e.
    let t = node_tree c.args.node in
    let z = round c.args.around r in
    let V = look c.args.walk.now.vars in
    let f = scope_facts t r c.requires.inside (λ e. known_none (look c.args.walk.now.labels) r k.labelled (c.requires.unlabelled e)) in
    let vars = scope_hits V t c.requires.inside c.requires.alone in
    let first = c.contexts_of-rounds.result.first in
    let others = c.contexts_of-rounds.result.others in
    let kind = c.scope_kind-kind.result in
    let from = c.place_of_scope-from.result in
    let error = scope_error kind in
    let names = all_named c.as_slice-declared.result.now in
    let before = c.walk_parts.new.walk in
    let found = found_of_scope kind (parts_of t) names in
    let still = known_still (look c.args.walk.now.labels) (look before.labels) (look c.args.walk.now.privates) (look before.privates) c.args.walk.now.language before.language r c.in_ok-walk_parts.ensures.labels c.in_ok-walk_parts.ensures.privates c.in_ok-walk_parts.ensures.language k in
    let named = ap all_named c.as_slice-declared.ensures.value ∙ c.in_ok-push_scope.ensures ∙ ap (λ l. all_named l ++ names_of_scope kind (parts_of t)) c.requires.names in
    let inner = look before.vars in
    let clashes = clashing inner error names in
    let free : range_vars (parts_of t) from (c.part_count-to.result - from) ≡ [] = ap (λ n. range_vars (parts_of t) from (n - from)) c.part_count-to.ensures ∙ is_free c.has_no_var.result c.if-has_no_var.true c.has_no_var.ensures in
    scope-found o c.args.walk.now.found V z (round first r) (round others r) t c.part_count-to.result from (c.requires.settled r) c.part_count-to.ensures error names found
    (ap (round first) (sym f.0) ∙ c.contexts_of-rounds.ensures.first r) (ap (round others) (sym f.1.0) ∙ c.contexts_of-rounds.ensures.others r)
    V (look before.vars) clashes c.in_ok-walk.field-0 before.found c.walk_parts-then-has_no_var.new.walk.found
    (split_given z t kind names error from c.part_count-to.result c.requires.inside (c.scope_kind-kind.ensures ∙ (λ i. scope_kind (c.kind.ensures i) (k.in_module i) c.args.around.is_body)) named
    refl c.place_of_scope-from.ensures c.part_count-to.ensures)
    vars f.1.1 (λ w. refl) c.in_ok-walk_parts.ensures.vars (λ w. refl) e c.in_ok-walk.ensures
    (c.in_ok-walk_parts.ensures.found r k ∙ ap (λ n. sooner (after c.in_ok-walk.field-0 (range_errors (round first r) (round others r) (parts_of t) 0 n)) (hits V (range_vars (parts_of t) 0 n))) (from_start from))
    (none-clash inner clashes _ _ _ _ free (h r still)))
    c.walk_parts-then-has_no_var.ensures.found

pub walk_in_scope-returns-then-has_no_var-clause-vars : goal.walk_in_scope-returns-then-has_no_var-clause-vars
walk_in_scope-returns-then-has_no_var-clause-vars t c = on_ok c.walk_parts-then-has_no_var.result (λ h w. h w ∙ c.in_ok-walk_parts.ensures.vars w) c.walk_parts-then-has_no_var.ensures.vars

pub walk_in_scope-returns-clause-found : goal.walk_in_scope-returns-clause-found
walk_in_scope-returns-clause-found t c =
    on_ok c.close_scope.result
    (λ h o r k e.
    let t = node_tree c.args.node in
    let z = round c.args.around r in
    let V = look c.args.walk.now.vars in
    let f = scope_facts t r c.requires.inside (λ e. known_none (look c.args.walk.now.labels) r k.labelled (c.requires.unlabelled e)) in
    let vars = scope_hits V t c.requires.inside c.requires.alone in
    let first = c.contexts_of-rounds.result.first in
    let others = c.contexts_of-rounds.result.others in
    let kind = c.scope_kind-kind.result in
    let from = c.place_of_scope-from.result in
    let error = c.scope_error.result in
    let names = all_named c.as_slice-declared.result.now in
    let before = c.walk_parts.new.walk in
    let found = found_of_scope kind (parts_of t) names in
    let still = known_still (look c.args.walk.now.labels) (look before.labels) (look c.args.walk.now.privates) (look before.privates) c.args.walk.now.language before.language r c.in_ok-walk_parts.ensures.labels c.in_ok-walk_parts.ensures.privates c.in_ok-walk_parts.ensures.language k in
    let named = ap all_named c.as_slice-declared.ensures.value ∙ c.in_ok-push_scope.ensures ∙ ap (λ l. all_named l ++ names_of_scope kind (parts_of t)) c.requires.names in
    scope-found o c.args.walk.now.found V z (round first r) (round others r) t c.part_count-to.result from (c.requires.settled r) c.part_count-to.ensures error names found
    (ap (round first) (sym f.0) ∙ c.contexts_of-rounds.ensures.first r) (ap (round others) (sym f.1.0) ∙ c.contexts_of-rounds.ensures.others r)
    V (look before.vars) (look c.open_scope.new.clashes) c.in_ok-walk.field-0 before.found c.walk_parts-2.new.walk.found
    (split_given z t kind names error from c.part_count-to.result c.requires.inside (c.scope_kind-kind.ensures ∙ (λ i. scope_kind (c.kind.ensures i) (k.in_module i) c.args.around.is_body)) named
    c.scope_error.ensures c.place_of_scope-from.ensures c.part_count-to.ensures)
    vars f.1.1 (λ w. refl) c.in_ok-walk_parts.ensures.vars c.in_ok-open_scope.ensures.entered e c.in_ok-walk.ensures
    (c.in_ok-walk_parts.ensures.found r k ∙ ap (λ n. sooner (after c.in_ok-walk.field-0 (range_errors (round first r) (round others r) (parts_of t) 0 n)) (hits V (range_vars (parts_of t) 0 n))) (from_start from))
    (c.in_ok-walk_parts-2.ensures.found r still))
    c.close_scope.ensures

pub walk_in_scope-returns-clause-vars : goal.walk_in_scope-returns-clause-vars
walk_in_scope-returns-clause-vars t c =
    on_ok c.close_scope.result
    (λ h w. h w ∙ undone-agrees saved_name saved_value (look c.walk_parts-2.new.walk.vars) (look c.open_scope.new.clashes) c.open_scope.new.saved.items c.in_ok-walk_parts-2.ensures.vars w ∙ c.in_ok-open_scope.ensures.kept w ∙ ap (λ l. undone (look c.walk_parts.new.walk.vars) l w) c.requires.saved ∙ c.in_ok-walk_parts.ensures.vars w)
    c.close_scope.ensures

pub walk_label-returns-clause-vars : goal.walk_label-returns-clause-vars
walk_label-returns-clause-vars t c = on_ok c.walk_parts-done.result (λ h w. h w ∙ c.in_ok-walk_parts.ensures.vars w) c.walk_parts-done.ensures.vars

pub walk_label-returns-clause-privates : goal.walk_label-returns-clause-privates
walk_label-returns-clause-privates t c = on_ok c.walk_parts-done.result (λ h w. h w ∙ c.in_ok-walk_parts.ensures.privates w) c.walk_parts-done.ensures.privates

pub walk_method-returns-clause-privates : goal.walk_method-returns-clause-privates
walk_method-returns-clause-privates t c = on_ok c.walk_parts-done.result (λ h w. h w ∙ c.in_ok-walk_parts.ensures.privates w) c.walk_parts-done.ensures.privates

pub walk_label-returns-clause-language : goal.walk_label-returns-clause-language
walk_label-returns-clause-language t c = on_ok c.walk_parts-done.result (λ h. h ∙ c.in_ok-walk_parts.ensures.language) c.walk_parts-done.ensures.language

pub walk_method-returns-clause-language : goal.walk_method-returns-clause-language
walk_method-returns-clause-language t c = on_ok c.walk_parts-done.result (λ h. h ∙ c.in_ok-walk_parts.ensures.language) c.walk_parts-done.ensures.language

pub walk_special-returns-in-ClassBody-clause-found : goal.walk_special-returns-in-ClassBody-clause-found
walk_special-returns-in-ClassBody-clause-found t c = on_ok c.walk_class_body.result (λ h r k. h c.args.walk.now.found r k (c.in_ok-walk.ensures r k)) c.walk_class_body.ensures.found

pub walk_special-returns-in-StaticBlock-clause-found : goal.walk_special-returns-in-StaticBlock-clause-found
walk_special-returns-in-StaticBlock-clause-found t c = on_ok c.walk_static_block.result (λ h r k. h c.args.walk.now.found r k (c.in_ok-walk.ensures r k)) c.walk_static_block.ensures.found

pub walk_node-returns-in-Nowhere-clause-found : goal.walk_node-returns-in-Nowhere-clause-found
walk_node-returns-in-Nowhere-clause-found t c = λ r k.
    let z = round c.args.around r in
    let y = round c.settled-around.result r in
    quiet_found (look c.args.walk.now.vars) c.settled-around.result.no_arguments z (node_tree c.args.node) c.args.walk.now.found c.args.walk.now.found (subst (λ x. IsWhere c.settled-around.result.no_arguments x (node_tree c.args.node)) c.in-Nowhere.is c.error_places.ensures)
    (sym (ap (λ x. x.no_arguments) (c.settled-around.ensures.round r) ∙ settled_arguments z c.kind.result)) refl

pub walk_node-returns-in-Anywhere-clause-found : goal.walk_node-returns-in-Anywhere-clause-found
walk_node-returns-in-Anywhere-clause-found t c =
    on_ok c.walk_special.result
    (λ h r k.
    let t = node_tree c.args.node in
    let z = round c.args.around r in
    h r k
    ∙ ap (λ l. sooner (after c.args.walk.now.found l) (hits (look c.args.walk.now.vars) (var_names t))) (ap (λ y. errors_within y t) (c.settled-around.ensures.round r ∙ ap (settled z) c.kind.ensures) ∙ sym (settled_errors z t)))
    c.walk_special.ensures.found

pub walk_in_scope-returns-then-has_no_var-clause-privates : goal.walk_in_scope-returns-then-has_no_var-clause-privates
walk_in_scope-returns-then-has_no_var-clause-privates t c = on_ok c.walk_parts-then-has_no_var.result (λ h w. h w ∙ c.in_ok-walk_parts.ensures.privates w) c.walk_parts-then-has_no_var.ensures.privates

pub walk_in_class-returns-clause-found : goal.walk_in_class-returns-clause-found
walk_in_class-returns-clause-found t c =
    on_ok c.close_class.result
    (λ h o r k e.
    let t = node_tree c.args.node in
    let z = round c.args.around r in
    let f = class_facts t z r c.requires.inside in
    let inner : Beside = record r { privates = private_keys (parts_of t) ++ r.privates } in
    let first = c.contexts_of.result.first in
    let others = c.contexts_of.result.others in
    parts-found o c.args.walk.now.found (look c.args.walk.now.vars) z (round first inner) (round others inner) t (c.part_count.result - 0) (c.requires.settled r)
    (from_start c.part_count.result ∙ c.part_count.ensures) (ap (round first) (sym f.0) ∙ c.contexts_of.ensures.first r) (ap (round others) (sym f.1.0) ∙ c.contexts_of.ensures.others r)
    (look c.args.walk.now.vars) c.walk_parts.new.walk.found f.1.1.1 f.1.1.0 (λ w. refl) e
    (c.in_ok-walk_parts.ensures.found inner
    (known_class (look c.args.walk.now.labels) (look c.args.walk.now.privates) (look c.open_class.new.privates) c.args.walk.now.language r (private_keys (parts_of t)) (c.in_ok-open_class.ensures.entered r.privates k.private) k)))
    c.close_class.ensures

pub walk_in_class-returns-clause-privates : goal.walk_in_class-returns-clause-privates
walk_in_class-returns-clause-privates t c =
    on_ok c.close_class.result
    (λ h w. h w ∙ undone-agrees (λ x. x.name.now) (λ x. x.value) (look c.walk_parts.new.walk.privates) (look c.open_class.new.privates) c.open_class.new.saved.items c.in_ok-walk_parts.ensures.privates w ∙ c.in_ok-open_class.ensures.kept w
    ∙ ap (λ l. undone_privates (look c.args.walk.now.privates) l w) c.requires.saved)
    c.close_class.ensures

pub walk_static_block-returns-clause-found : goal.walk_static_block-returns-clause-found
walk_static_block-returns-clause-found t c =
    on_ok c.walk_scope-done.result
    (λ h o r k e.
    let t = node_tree c.args.node in
    block-found c.args.around r t (look c.args.walk.now.vars) (look c.take-vars.new.self) o c.args.walk.now.found c.walk_scope-done.new.walk.found (is_static_block t c.requires.inside) c.requires.settled e
    (h o (unlabelled r) (known_unlabelled (look c.args.walk.now.labels) (look c.take-labels.new.self) (look c.args.walk.now.privates) c.args.walk.now.language r c.take-labels.ensures.after k)))
    c.walk_scope-done.ensures.found

pub walk_special-walk_scope-requires : goal.walk_special-walk_scope-requires
walk_special-walk_scope-requires t c =
    let s = is_scope (node_tree c.args.node) ((λ i. inside_of (sym c.kind.ensures i) (sym c.flags.ensures i).form) ∙ sym c.inside_of.ensures ∙ c.in-Scope.is) in
    (search (rules, part_steps), (s.0, ((λ e. absurd (s.1 e)), ((λ e. absurd (s.1 e)), (c.requires.fits, c.requires.settled)))))

pub walk_node-walk_special-requires : goal.walk_node-walk_special-requires
walk_node-walk_special-requires t c = (
  search (rules, part_steps),
  (
    subst (λ l. IfSome l (λ b. b ≡ labels_loop (node_tree c.args.node))) (sym c.settled-around.ensures.labels) c.requires,
    (λ r. ap (settled (round c.settled-around.result r)) (sym c.kind.ensures) ∙ c.settled-around.ensures.again r),
  ),
)

pub walk_passed-walk_special-requires : goal.walk_passed-walk_special-requires
walk_passed-walk_special-requires t c = (
  search (rules, part_steps),
  (
    subst (λ l. IfSome l (λ b. b ≡ labels_loop (node_tree c.in-Some.part))) (sym c.requires.unknown) tt,
    (λ r. settled_within (round c.args.around.now r) (kind_of (node_tree c.in-Some.part)) (c.requires.handed_on r)),
  ),
)

pub walk_static_block-walk_scope-done-requires : goal.walk_static_block-walk_scope-done-requires
walk_static_block-walk_scope-done-requires t c = (
  search (rules, part_steps),
  (ap makes_scope (is_static_block (node_tree c.args.node) c.requires.inside), ((λ e. c.take-labels.ensures.after), ((λ e. c.take-vars.ensures.after), (c.requires.fits, c.requires.settled)))),
)

pub walk_node-walk_passed-requires : goal.walk_node-walk_passed-requires
walk_node-walk_passed-requires t c = (search (rules, part_steps), (c.within-inner.ensures.handed_on, c.within-inner.ensures.unknown))
