use Rattle.std.proofs.Common.{false, sym, ap, subst, ◌∙◌, arith}
use Rattle.tree.specs.Node.{node_tree}
use Rattle.early_errors.specs.Passed.{is_super_at}
use Rattle.early_errors.specs.Walks.{IsSilent}
use Rattle.early_errors.proofs.VarFree.{is_free}
use Rattle.early_errors.proofs.PartsByKind.{open_member, quiet_open}
use Rattle.early_errors.proofs.skipping.where_in_member.Goals as goal

pub returns-then-part_count-gt2 : goal.returns-then-part_count-gt2
returns-then-part_count-gt2 c = open_member (node_tree c.args.node) c.requires (ap is_super_at (sym c.part-head.ensures) ∙ sym c.has_super.ensures ∙ c.if-has_super.false)

pub returns-then-is_silent-2 : goal.returns-then-is_silent-2
returns-then-is_silent-2 c =
    let t = node_tree c.args.node in
    quiet_open false t (open_member t c.requires (ap is_super_at (sym c.part-head.ensures) ∙ sym c.has_super.ensures ∙ c.if-has_super.false)) (omega (arith, c.part_count.ensures, c.if-part_count-gt2.false))
    (subst (IsSilent false) c.part-head.ensures (is_free c.is_silent.result c.if-is_silent.true c.is_silent.ensures))
    (subst (IsSilent false) c.part.ensures (is_free c.is_silent-then-is_silent.result c.if-is_silent-2.true c.is_silent-then-is_silent.ensures))

pub returns : goal.returns
returns c = open_member (node_tree c.args.node) c.requires (ap is_super_at (sym c.part-head.ensures) ∙ sym c.has_super.ensures ∙ c.if-has_super.false)
