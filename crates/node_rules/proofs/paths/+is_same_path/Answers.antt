use Rattle.std.proofs.Common.{sym, ◌∙◌}
use Rattle.tree.specs.Node.{node_tree}
use Rattle.node_rules.proofs.PathLemmas.{path-leaf, path-key, path-down, path-no-first, path-no-second}
use Rattle.node_rules.proofs.paths.+is_same_path.Goals as goal

pub returns-then-not-are_members : goal.returns-then-not-are_members
returns-then-not-are_members t c = c.is_same_leaf.ensures ∙ path-leaf (node_tree c.args.one) (node_tree c.args.other) (sym c.are_members.ensures ∙ c.if-not-are_members.true)

pub returns-then-not-is_same_key : goal.returns-then-not-is_same_key
returns-then-not-is_same_key t c = path-key (node_tree c.args.one) (node_tree c.args.other) (sym c.are_members.ensures ∙ c.if-not-are_members.false) (sym c.is_same_key.ensures ∙ c.if-not-is_same_key.true)

pub returns-in_default : goal.returns-in_default
returns-in_default t c = path-no-first (node_tree c.args.one) (node_tree c.args.other) (sym c.are_members.ensures ∙ c.if-not-are_members.false) (sym c.is_same_key.ensures ∙ c.if-not-is_same_key.false) c.in_default.ensures

pub returns-in_default-part : goal.returns-in_default-part
returns-in_default-part t c = path-no-second (node_tree c.args.one) (node_tree c.args.other) (node_tree c.in-Some.first) (sym c.are_members.ensures ∙ c.if-not-are_members.false) (sym c.is_same_key.ensures ∙ c.if-not-is_same_key.false) c.in-Some.ensures c.in_default-part.ensures

pub returns : goal.returns
returns t c =
    c.is_same_path.ensures
    ∙ path-down (node_tree c.args.one) (node_tree c.args.other) (node_tree c.in-Some.first) (node_tree c.in-Some-part.second) (sym c.are_members.ensures ∙ c.if-not-are_members.false) (sym c.is_same_key.ensures ∙ c.if-not-is_same_key.false) c.in-Some.ensures c.in-Some-part.ensures
