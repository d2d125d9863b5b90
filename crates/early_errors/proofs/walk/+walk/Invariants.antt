use Rattle.std.proofs.Common.{◌≡◌, ◌+◌, ◌-◌, ◌*◌}
use Rattle.tree.specs.Tree.{node_total, parts_of}
use Rattle.tree.specs.Node.{node_tree, list_parts}
use Rattle.tree.proofs.PartWalk.{parts_drop}
use Rattle.early_errors.specs.Knowing.{KnownIn}
use Rattle.early_errors.specs.Owns.{Beside, round}
use Rattle.name_tables.specs.Tables.{Agree}
use Rattle.early_errors.specs.Walk.{after, hits, look, sooner}
use Rattle.early_errors.specs.Walks.{range_errors, range_vars}
use Rattle.early_errors.proofs.Ahead.{ahead}
use Rattle.early_errors.proofs.walk.+walk.Given as goal

abbrev pub decreases-walk_function : goal.decreases-walk_function
decreases-walk_function l = 8 * node_total (node_tree l.node) + 2

abbrev pub decreases-walk_in_scope : goal.decreases-walk_in_scope
decreases-walk_in_scope l = 8 * node_total (node_tree l.node) + 1

abbrev pub decreases-walk_label : goal.decreases-walk_label
decreases-walk_label l = 8 * node_total (node_tree l.node) + 2

abbrev pub decreases-walk_method : goal.decreases-walk_method
decreases-walk_method l = 8 * node_total (node_tree l.node) + 2

abbrev pub decreases-walk_class_body : goal.decreases-walk_class_body
decreases-walk_class_body l = 8 * node_total (node_tree l.node) + 2

abbrev pub decreases-walk_in_class : goal.decreases-walk_in_class
decreases-walk_in_class l = 8 * node_total (node_tree l.node) + 1

abbrev pub decreases-walk_static_block : goal.decreases-walk_static_block
decreases-walk_static_block l = 8 * node_total (node_tree l.node) + 3

abbrev pub decreases-walk_node : goal.decreases-walk_node
decreases-walk_node l = 8 * node_total (node_tree l.node) + 5

abbrev pub decreases-walk_special : goal.decreases-walk_special
decreases-walk_special l = 8 * node_total (node_tree l.node) + 4

abbrev pub decreases-walk_passed : goal.decreases-walk_passed
decreases-walk_passed l = 8 * node_total (node_tree l.node)

abbrev pub decreases-walk_parts : goal.decreases-walk_parts
decreases-walk_parts l = 8 * node_total (node_tree l.node)

abbrev pub decreases-walk_scope : goal.decreases-walk_scope
decreases-walk_scope l = 8 * node_total (node_tree l.node) + 2

abbrev pub invariant-walk_parts-loop-index : goal.invariant-walk_parts-loop-index
invariant-walk_parts-loop-index l = record {
  found : (r : Beside) → KnownIn l.fn.walk r →
      sooner (after l.walk.found (range_errors (round l.rounds.first r) (round l.rounds.others r) (parts_of (node_tree l.node)) l.index (l.to - l.index))) (hits (look l.fn.walk.vars) (range_vars (parts_of (node_tree l.node)) l.index (l.to - l.index)))
      ≡ sooner (after l.fn.walk.found (range_errors (round l.rounds.first r) (round l.rounds.others r) (parts_of (node_tree l.node)) l.from (l.to - l.from))) (hits (look l.fn.walk.vars) (range_vars (parts_of (node_tree l.node)) l.from (l.to - l.from)));
  vars : Agree (look l.walk.vars) (look l.fn.walk.vars);
  labels : Agree (look l.walk.labels) (look l.fn.walk.labels);
  privates : Agree (look l.walk.privates) (look l.fn.walk.privates);
  language : l.walk.language ≡ l.fn.walk.language;
}

abbrev pub invariant-walk_passed-loop-index : goal.invariant-walk_passed-loop-index
invariant-walk_passed-loop-index l = record {
  found : (r : Beside) → KnownIn l.fn.walk r →
      ahead (look l.fn.walk.vars) (round l.around r) l.walk.found (parts_drop l.index (list_parts l.parts)) ≡ ahead (look l.fn.walk.vars) (round l.around r) l.fn.walk.found (parts_of (node_tree l.node));
  vars : Agree (look l.walk.vars) (look l.fn.walk.vars);
  labels : Agree (look l.walk.labels) (look l.fn.walk.labels);
  privates : Agree (look l.walk.privates) (look l.fn.walk.privates);
  language : l.walk.language ≡ l.fn.walk.language;
}
