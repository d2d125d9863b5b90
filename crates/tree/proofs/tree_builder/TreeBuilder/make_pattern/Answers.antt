use Rattle.std.proofs.Common.{sym, ◌∙◌, refl}
use Rattle.tree.specs.Tree.{part, none}
use Rattle.tree.specs.Patterns.{pattern_tree}
use Rattle.tree.proofs.Shapes.{push-join}
use Rattle.tree.proofs.tree_builder.TreeBuilder.make_pattern.Goals as goal

pub returns : goal.returns
returns c = λ base t h. c.make_patterns.ensures base (part t none) (h ∙ push-join base t) refl ∙ sym (push-join base (pattern_tree t))
