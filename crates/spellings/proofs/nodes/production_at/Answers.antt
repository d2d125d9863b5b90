use Rattle.std.proofs.Common.{◌≡◌, ◌∙◌, sym, ap}
use Rattle.tree.specs.Node.{node_tree}
use Rattle.tree.specs.Tree.{Tree}
use Rattle.language.specs.Vocabulary.{is_super, is_private}
use Rattle.spelling_table.specs.declared.position.Position.{Position}
use Rattle.spellings.specs.Others.{leaf_if, is_chunk, name_outline, key_outline, quoted_outline, quasi_outline, spread_outline, pattern_outline, class_body_outline}
use Rattle.spellings.specs.Statements.{block_outline, body_outline, script_outline}
use Rattle.spellings.specs.Positions.{outline_at}
use Rattle.spellings.proofs.nodes.production_at.Goals as goal

-- the position is the one that was matched
there : (n : Tree) (p q : Position) → p ≡ q → outline_at q n ≡ outline_at p n
there n p q h = ap (λ a. outline_at a n) (sym h)

pub returns-in-Expression : goal.returns-in-Expression
returns-in-Expression c = c.expression_production.ensures ∙ there (node_tree c.args.node) _ _ c.in-Expression.is

pub returns-in-ChainPart : goal.returns-in-ChainPart
returns-in-ChainPart c = c.chain_part_production.ensures ∙ there (node_tree c.args.node) _ _ c.in-ChainPart.is

pub returns-in-PatternProperty : goal.returns-in-PatternProperty
returns-in-PatternProperty c = c.pattern_property_at.ensures ∙ there (node_tree c.args.node) _ _ c.in-PatternProperty.is

pub returns-in-Element : goal.returns-in-Element
returns-in-Element c = c.element_at.ensures ∙ there (node_tree c.args.node) _ _ c.in-Element.is

pub returns-in-Rest : goal.returns-in-Rest
returns-in-Rest c = c.rest_at.ensures ∙ there (node_tree c.args.node) _ _ c.in-Rest.is

pub returns-in-Method : goal.returns-in-Method
returns-in-Method c = c.method_production.ensures ∙ there (node_tree c.args.node) _ _ c.in-Method.is

pub returns-in-Statement : goal.returns-in-Statement
returns-in-Statement c = c.statement_production.ensures ∙ there (node_tree c.args.node) _ _ c.in-Statement.is

pub returns-in-StatementListItem : goal.returns-in-StatementListItem
returns-in-StatementListItem c = c.item_production.ensures ∙ there (node_tree c.args.node) _ _ c.in-StatementListItem.is

pub returns-in-PrologueItem : goal.returns-in-PrologueItem
returns-in-PrologueItem c = c.prologue_item_production.ensures ∙ there (node_tree c.args.node) _ _ c.in-PrologueItem.is

pub returns-in-ForDeclaration : goal.returns-in-ForDeclaration
returns-in-ForDeclaration c = c.for_declaration_production.ensures ∙ there (node_tree c.args.node) _ _ c.in-ForDeclaration.is

pub returns-in-Declarator : goal.returns-in-Declarator
returns-in-Declarator c = c.declarator_production.ensures ∙ there (node_tree c.args.node) _ _ c.in-Declarator.is

pub returns-in-SwitchCase : goal.returns-in-SwitchCase
returns-in-SwitchCase c = c.case_production.ensures ∙ there (node_tree c.args.node) _ _ c.in-SwitchCase.is

pub returns-in-CatchClause : goal.returns-in-CatchClause
returns-in-CatchClause c = c.catch_clause_production.ensures ∙ there (node_tree c.args.node) _ _ c.in-CatchClause.is

pub returns-in-Member : goal.returns-in-Member
returns-in-Member c = c.member_production.ensures ∙ there (node_tree c.args.node) _ _ c.in-Member.is

pub returns-in-Name : goal.returns-in-Name
returns-in-Name c = c.name_production.ensures ∙ (λ i. name_outline (c.kind-kind.ensures i) (c.text.ensures i)) ∙ there (node_tree c.args.node) _ _ c.in-Name.is

pub returns-in-PropertyName : goal.returns-in-PropertyName
returns-in-PropertyName c = c.key_production.ensures ∙ (λ i. key_outline (c.kind-kind.ensures i) (c.text-in-PropertyName.ensures i)) ∙ there (node_tree c.args.node) _ _ c.in-PropertyName.is

pub returns-in-DirectiveString : goal.returns-in-DirectiveString
returns-in-DirectiveString c = c.directive_string_production.ensures ∙ (λ i. quoted_outline (c.kind-kind.ensures i) (c.text-in-DirectiveString.ensures i)) ∙ there (node_tree c.args.node) _ _ c.in-DirectiveString.is

pub returns-in-Super : goal.returns-in-Super
returns-in-Super c = c.leaf_if-in-Super.ensures ∙ ap leaf_if (c.is_super.ensures ∙ ap is_super c.kind-kind.ensures) ∙ there (node_tree c.args.node) _ _ c.in-Super.is

pub returns-in-TemplateElement : goal.returns-in-TemplateElement
returns-in-TemplateElement c = c.leaf_if-in-TemplateElement.ensures ∙ ap leaf_if (c.is_chunk.ensures ∙ ap is_chunk c.kind-kind.ensures) ∙ there (node_tree c.args.node) _ _ c.in-TemplateElement.is

pub returns-in-TaggedQuasi : goal.returns-in-TaggedQuasi
returns-in-TaggedQuasi c = c.quasi_production.ensures ∙ ap quasi_outline c.kind-kind.ensures ∙ there (node_tree c.args.node) _ _ c.in-TaggedQuasi.is

pub returns-in-Spread : goal.returns-in-Spread
returns-in-Spread c = c.spread_production.ensures ∙ ap spread_outline c.kind-kind.ensures ∙ there (node_tree c.args.node) _ _ c.in-Spread.is

pub returns-in-Property : goal.returns-in-Property
returns-in-Property c = c.property_production.ensures ∙ there (node_tree c.args.node) _ _ c.in-Property.is

pub returns-in-Pattern : goal.returns-in-Pattern
returns-in-Pattern c = c.pattern_production.ensures ∙ ap (pattern_outline c.in-Pattern.binds) c.kind-kind.ensures ∙ there (node_tree c.args.node) _ _ c.in-Pattern.is

pub returns-in-Body : goal.returns-in-Body
returns-in-Body c = c.body_production.ensures ∙ ap body_outline c.kind-kind.ensures ∙ there (node_tree c.args.node) _ _ c.in-Body.is

pub returns-in-Block : goal.returns-in-Block
returns-in-Block c = c.block_production.ensures ∙ ap (block_outline c.in-Block.returns) c.kind-kind.ensures ∙ there (node_tree c.args.node) _ _ c.in-Block.is

pub returns-in-ClassBody : goal.returns-in-ClassBody
returns-in-ClassBody c = c.class_body_production.ensures ∙ ap class_body_outline c.kind-kind.ensures ∙ there (node_tree c.args.node) _ _ c.in-ClassBody.is

pub returns-in-Script : goal.returns-in-Script
returns-in-Script c = c.script_production.ensures ∙ (λ i. script_outline (c.kind-kind.ensures i) (c.text-in-Script.ensures i)) ∙ there (node_tree c.args.node) _ _ c.in-Script.is

pub returns-in-PrivateName : goal.returns-in-PrivateName
returns-in-PrivateName c = c.leaf_if-in-PrivateName.ensures ∙ ap leaf_if (c.is_private.ensures ∙ ap is_private c.kind-kind.ensures) ∙ there (node_tree c.args.node) _ _ c.in-PrivateName.is

pub returns-in-ModuleItem : goal.returns-in-ModuleItem
returns-in-ModuleItem c = c.module_item_production.ensures ∙ there (node_tree c.args.node) _ _ c.in-ModuleItem.is

pub returns-in-Specifier : goal.returns-in-Specifier
returns-in-Specifier c = c.specifier_production.ensures ∙ there (node_tree c.args.node) _ _ c.in-Specifier.is

pub returns-in-DefaultItem : goal.returns-in-DefaultItem
returns-in-DefaultItem c = c.default_item_production.ensures ∙ there (node_tree c.args.node) _ _ c.in-DefaultItem.is
