use Rattle.std.proofs.Common.{Some, None, cond, sym, ap, ◌∙◌}
use Rattle.tree.specs.Node.{node_tree}
use Rattle.early_errors.specs.Owns.{block_at, is_block}
use Rattle.early_errors.proofs.scopes.body_of.Goals as goal

pub returns-then-is_block : goal.returns-then-is_block
returns-then-is_block c =
    let t = node_tree c.in-Some.body in
    sym (ap block_at (sym c.in-Some.ensures) ∙ ap (λ b. cond b (Some t) None) (ap is_block (sym c.kind.ensures) ∙ sym c.is_block.ensures ∙ c.if-is_block.true))
