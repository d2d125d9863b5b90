use Rattle.std.proofs.Common.{◌≡◌, ◌∙◌, true, sym}
use Rattle.tree.specs.Node.{node_tree}
use Rattle.tree.specs.Tree.{kind_of, text_of, flags_of}
use Rattle.spellings.specs.Spelled.{has_no_flags}
use Rattle.spellings.specs.Leaves.{leaf_at}
use Rattle.spellings.proofs.LeafOutlines.{spelled_leaf}
use Rattle.spellings.proofs.spelled_node.is_leaf.Goals as goal

pub returns-clause-spelled : goal.returns-clause-spelled
returns-clause-spelled c = λ h.
    let n = node_tree c.args.node in
    let named : leaf_at c.args.position (kind_of n) (text_of n) ≡ true = sym (c.is_leaf_text.ensures ∙ (λ i. leaf_at c.args.position (c.kind.ensures i) (c.text.ensures i))) ∙ c.if-not-is_leaf_text.false in
    let plain : has_no_flags (flags_of n) ≡ true = sym (c.has_no_flags.ensures ∙ (λ i. has_no_flags (c.flags.ensures i))) ∙ c.if-not-has_no_flags.false in
    spelled_leaf c.args.node c.args.position named plain
