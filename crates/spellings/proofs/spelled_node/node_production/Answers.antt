use Rattle.std.proofs.Common.{sym, ◌∙◌, refl}
use Rattle.tree.specs.Node.{node_tree}
use Rattle.spellings.specs.Wherever.{spelled_by}
use Rattle.spelling_table.specs.Productions.{outline_of}
use Rattle.spellings.proofs.Wherever.{nowhere_without_outline, nowhere_unless_lean, nowhere_unless_over, spelled_wherever, chain_known}
use Rattle.spellings.proofs.spelled_node.node_production.Goals as goal

pub returns-in_default-clause-ways : goal.returns-in_default-clause-ways
returns-in_default-clause-ways c = nowhere_without_outline c.args.position (node_tree c.args.node) (sym c.in_default.ensures)

pub returns-then-not-is_lean_node-clause-ways : goal.returns-then-not-is_lean_node-clause-ways
returns-then-not-is_lean_node-clause-ways c = nowhere_unless_lean c.args.position (node_tree c.args.node) (sym c.is_lean_node.ensures ∙ c.if-not-is_lean_node.true)

pub returns-then-not-goes_over-clause-ways : goal.returns-then-not-goes_over-clause-ways
returns-then-not-goes_over-clause-ways c = nowhere_unless_over c.args.position (node_tree c.args.node) (outline_of c.in-Some.production) (sym c.in-Some.ensures) (sym c.goes_over.ensures ∙ c.if-not-goes_over.true)

pub returns-clause-ways : goal.returns-clause-ways
returns-clause-ways c = spelled_wherever c.args.position (node_tree c.args.node)
    (spelled_by c.args.node c.args.position c.in-Some.production) (sym c.in-Some.ensures) (sym c.is_lean_node.ensures ∙ c.if-not-is_lean_node.false) (sym c.goes_over.ensures ∙ c.if-not-goes_over.false) refl

pub returns-clause-chain : goal.returns-clause-chain
returns-clause-chain c = λ h. chain_known c.args.position (node_tree c.args.node) (outline_of c.in-Some.production) (sym c.in-Some.ensures) h
