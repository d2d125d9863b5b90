use Rattle.std.proofs.Common.{◌∙◌, ap}
use Rattle.std.specs.Prelude.{not, nat_lt}
use Rattle.tree.specs.Node.{node_tree}
use Rattle.tree.specs.Tree.{text_of, flags_of, parts_of}
use Rattle.tree.specs.declared.kind.Kind.TheVariants as kind
use Rattle.language.specs.declared.Rank.TheVariants.{Expression, Assignment, Unary, Update, LeftHandSide, Call, Member, Primary}
use Rattle.language.specs.FirstPart.{lead}
use Rattle.language.specs.Vocabulary.{is_reserved, is_prefix, operator_of}
use Rattle.grammar.specs.Ranks.{rank_if, is_spelled_literal, private_or_binary, logical_symbol}
use Rattle.grammar.proofs.ChainParts.{chained_first}
use Rattle.grammar.proofs.ExpressionRanks.{stands, has_others, as_plain}
use Rattle.grammar.proofs.ranks.rank_of.Goals as goal

pub returns-in-Identifier : goal.returns-in-Identifier
returns-in-Identifier c = c.rank_if.ensures ∙ (ap (λ b. rank_if (not b) Primary) (c.is_reserved.ensures ∙ ap is_reserved c.text-text.ensures) ∙ stands kind.Identifier (node_tree c.args.node) c.in-Identifier.ensures)

pub returns-in-Literal : goal.returns-in-Literal
returns-in-Literal c = c.rank_if-in-Literal.ensures ∙ (ap (λ b. rank_if b Primary) (c.is_literal.ensures ∙ ap is_spelled_literal c.text-text.ensures) ∙ stands kind.Literal (node_tree c.args.node) c.in-Literal.ensures)

pub returns-in-MemberExpression : goal.returns-in-MemberExpression
returns-in-MemberExpression c = c.rank_if-in-MemberExpression.ensures ∙ (ap (λ g. rank_if (not g.optional) Member) c.flags.ensures ∙ stands kind.MemberExpression (node_tree c.args.node) c.in-MemberExpression.ensures)

pub returns-in-MetaProperty : goal.returns-in-MetaProperty
returns-in-MetaProperty c = c.rank_if-in-MetaProperty.ensures ∙ (ap (λ b. rank_if b Member) c.is_meta_property.ensures ∙ stands kind.MetaProperty (node_tree c.args.node) c.in-MetaProperty.ensures)

pub returns-in-CallExpression : goal.returns-in-CallExpression
returns-in-CallExpression c = c.rank_if-in-CallExpression.ensures ∙ (ap (λ g. rank_if (not g.optional) Call) c.flags-in-CallExpression.ensures ∙ stands kind.CallExpression (node_tree c.args.node) c.in-CallExpression.ensures)

pub returns-in-ChainExpression : goal.returns-in-ChainExpression
returns-in-ChainExpression c = c.rank_if-in-ChainExpression.ensures ∙ (ap (λ b. rank_if b LeftHandSide) (c.has_optional.ensures ∙ chained_first (parts_of (node_tree c.args.node)) _ c.part.ensures) ∙ stands kind.ChainExpression (node_tree c.args.node) c.in-ChainExpression.ensures)

pub returns-in-UpdateExpression : goal.returns-in-UpdateExpression
returns-in-UpdateExpression c = c.rank_if-in-UpdateExpression.ensures ∙ (ap (λ b. rank_if b Update) c.is_update.ensures ∙ stands kind.UpdateExpression (node_tree c.args.node) c.in-UpdateExpression.ensures)

pub returns-in-UnaryExpression : goal.returns-in-UnaryExpression
returns-in-UnaryExpression c = c.rank_if-in-UnaryExpression.ensures ∙ (ap (λ b. rank_if b Unary) (c.is_prefix_operator.ensures ∙ ap is_prefix c.text-text.ensures) ∙ stands kind.UnaryExpression (node_tree c.args.node) c.in-UnaryExpression.ensures)

pub returns-in-BinaryExpression : goal.returns-in-BinaryExpression
returns-in-BinaryExpression c = c.binary_or_private.ensures ∙ (ap (private_or_binary (lead (parts_of (node_tree c.args.node)))) c.text-text.ensures ∙ stands kind.BinaryExpression (node_tree c.args.node) c.in-BinaryExpression.ensures)

pub returns-in-LogicalExpression : goal.returns-in-LogicalExpression
returns-in-LogicalExpression c = c.logical_rank.ensures ∙ (ap (λ w. logical_symbol (operator_of w)) c.text-text.ensures ∙ stands kind.LogicalExpression (node_tree c.args.node) c.in-LogicalExpression.ensures)

pub returns-in-AssignmentExpression : goal.returns-in-AssignmentExpression
returns-in-AssignmentExpression c = c.rank_if-in-AssignmentExpression.ensures ∙ (ap (λ b. rank_if b Assignment) c.can_assign.ensures ∙ stands kind.AssignmentExpression (node_tree c.args.node) c.in-AssignmentExpression.ensures)

pub returns-in-SequenceExpression : goal.returns-in-SequenceExpression
returns-in-SequenceExpression c = c.rank_if-in-SequenceExpression.ensures ∙ (ap (λ b. rank_if b Expression) (ap (nat_lt 1) c.part_count.ensures ∙ has_others (parts_of (node_tree c.args.node))) ∙ stands kind.SequenceExpression (node_tree c.args.node) c.in-SequenceExpression.ensures)

pub returns-in-YieldExpression : goal.returns-in-YieldExpression
returns-in-YieldExpression c = c.rank_if-in-YieldExpression.ensures ∙ (ap (λ b. rank_if b Assignment) c.is_yield.ensures ∙ stands kind.YieldExpression (node_tree c.args.node) c.in-YieldExpression.ensures)

pub returns-in_default : goal.returns-in_default
returns-in_default c =
    let n = node_tree c.args.node in
    let d = c.in_default in
    c.plain_rank.ensures ∙ (as_plain c.kind-kind.result (text_of n) (flags_of n) (parts_of n) (d.not-Identifier, (d.not-Literal, (d.not-MemberExpression, (d.not-MetaProperty, (d.not-CallExpression, (d.not-ChainExpression, (d.not-UpdateExpression, (d.not-UnaryExpression, (d.not-BinaryExpression, (d.not-LogicalExpression, (d.not-AssignmentExpression, (d.not-SequenceExpression, (d.not-YieldExpression, tt))))))))))))) ∙ stands c.kind-kind.result n c.kind-kind.ensures)
