use Rattle.std.proofs.Common.{◌<◌, ◌≤◌, subst, refl, ◌∙◌}
use Rattle.tree.specs.Node.{node_tree}
use Rattle.tree.specs.Tree.{parts_of}
use Rattle.early_errors.specs.Walk.{look}
use Rattle.early_errors.proofs.Privates.{class_begins, class_turn, class_ends}
use Rattle.early_errors.proofs.private_names.open_class.Goals as goal

pub loop-index-init : goal.loop-index-init
loop-index-init c = record { entered = λ ws d. class_begins (look c.args.privates.now) (parts_of (node_tree c.args.body)) ws d; kept = λ w. refl }

pub loop-index-preserved : goal.loop-index-preserved
loop-index-preserved c =
    let ps = parts_of (node_tree c.args.body) in
    let i = c.loop-index.index in
    record {
      entered = λ ws d.
          class_turn (look c.loop-index.privates) (look c.open_element.new.privates) i _ ps ws (subst (λ n. i < n) c.part_count-index-end.ensures c.loop-index-test.true) c.part.ensures c.in_ok-open_element.ensures.entered (c.loop-index.invariant.entered ws d);
      kept = λ w. c.in_ok-open_element.ensures.kept w ∙ c.loop-index.invariant.kept w;
    }

pub returns-clause-entered : goal.returns-clause-entered
returns-clause-entered c = λ ws d. class_ends (look c.loop-index.privates) c.loop-index.index (parts_of (node_tree c.args.body)) ws (subst (λ n. n ≤ c.loop-index.index) c.part_count-index-end.ensures c.loop-index-test.false) (c.loop-index.invariant.entered ws d)
