use Rattle.std.proofs.Common.{◌≡◌, Bool, false, not, ◌&&◌, refl, sym, ap, ◌∙◌, arith, rules}
use Rattle.tree.specs.Tree.{push, join}
use Rattle.tree.proofs.Joined.{join-one}
use Rattle.parser_tables.specs.declared.operand.Operand.{Operand}
use Rattle.parser_tables.specs.Items.{are_some}
use Rattle.parser_tables.proofs.GroupSizes.{some_hole}
use Rattle.parser_tables.proofs.expression_starts.finish_group.Goals as goal

pub returns-in-None-clause-made : goal.returns-in-None-clause-made
returns-in-None-clause-made c =
    let h : are_some c.args.list.nodes ≡ false = some_hole c.args.list.nodes (omega arith) c.in-None.ensures.none in
    (refl, ap (λ (b : Bool). b && (not c.args.list.seen.has_comma && c.args.list.seen.shape.is_expression)) h)

pub returns-in-Some-clause-made : goal.returns-in-Some-clause-made
returns-in-Some-clause-made c = search rules

-- the only part waits as it did
pub returns-in-Some-clause-waits : goal.returns-in-Some-clause-waits
returns-in-Some-clause-waits c base h =
    h ∙ ap (join base) c.in-Some.ensures.only ∙ join-one base c.in-Some.node ∙ ap (λ (p : Operand). push base p.cover.node) (sym c.group_operand-in-Some.ensures)
