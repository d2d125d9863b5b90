-- Nodes of which no rule says anything, with all that stands in them.
use Rattle.std.specs.Prelude.{Bool, true, false, not, ◌&&◌, ◌||◌}
use Rattle.tree.specs.declared.kind.Kind.{Kind}
use Rattle.tree.specs.declared.kind.Kind.TheVariants.{ArrayExpression, ArrayPattern, AssignmentExpression, AssignmentPattern, AwaitExpression, BinaryExpression, CallExpression, ChainExpression, ConditionalExpression, EmptyStatement, ExpressionStatement, Identifier, ImportExpression, Literal, LogicalExpression, MemberExpression, MetaProperty, NewExpression, ObjectExpression, ObjectPattern, PrivateIdentifier, Property, RestElement, SequenceExpression, SpreadElement, TaggedTemplateExpression, TemplateElement, TemplateLiteral, ThisExpression, UnaryExpression, UpdateExpression, VariableDeclaration, VariableDeclarator, YieldExpression}
use Rattle.tree.specs.Tree.{Tree, node, Parts, none, part, gap, kind_of}
use Rattle.flow_rules.specs.declared.around.Around.{Around}
use Rattle.flow_rules.specs.declared.flow.Flow.{Flow}
use Rattle.flow_rules.specs.Arounds.{is_third}
use Rattle.flow_rules.specs.Flows.{no_leaving}
use Rattle.flow_rules.specs.KindSets.{is_return}
use Rattle.flow_rules.specs.Rows.{is_body, is_derived}

-- calls, members and operations
abbrev pub is_operation : Kind → Bool
is_operation MemberExpression = true
is_operation CallExpression = true
is_operation NewExpression = true
is_operation MetaProperty = true
is_operation ImportExpression = true
is_operation ChainExpression = true
is_operation TaggedTemplateExpression = true
is_operation UpdateExpression = true
is_operation UnaryExpression = true
is_operation AwaitExpression = true
is_operation BinaryExpression = true
is_operation LogicalExpression = true
is_operation ConditionalExpression = true
is_operation AssignmentExpression = true
is_operation SequenceExpression = true
is_operation YieldExpression = true
is_operation _ = false

-- other expressions, but functions, classes and `super`; patterns; and statements that are made of these alone
abbrev pub is_piece : Kind → Bool
is_piece Identifier = true
is_piece PrivateIdentifier = true
is_piece Literal = true
is_piece ThisExpression = true
is_piece ArrayExpression = true
is_piece ObjectExpression = true
is_piece Property = true
is_piece SpreadElement = true
is_piece TemplateLiteral = true
is_piece TemplateElement = true
is_piece ArrayPattern = true
is_piece ObjectPattern = true
is_piece AssignmentPattern = true
is_piece RestElement = true
is_piece ExpressionStatement = true
is_piece EmptyStatement = true
is_piece VariableDeclaration = true
is_piece VariableDeclarator = true
is_piece _ = false

abbrev pub is_plain_kind : Kind → Bool
is_plain_kind kind = is_piece kind || is_operation kind

unfoldable mutual
  -- a node is plain, and all nodes below it are
  pub is_plain : Tree → Bool
  is_plain (node kind text flags from to parts) = is_plain_kind kind && are_plain parts

  pub are_plain : Parts → Bool
  are_plain none = true
  are_plain (part tree rest) = is_plain tree && are_plain rest
  are_plain (gap rest) = are_plain rest

-- `this` would be read too early
abbrev pub is_watched : Around → Bool
is_watched z = is_derived z.round.home && not z.has_super

-- nothing that stands round a node makes a rule look at it
abbrev pub is_calm : Around → Bool
is_calm z = (not z.stopped && not z.falls) && (not (z.chained && is_third z.place) && not (is_watched z))

-- it completes normally, and nothing leaves it
abbrev pub plain_flow : Flow
plain_flow = record { normal = true; leaving = no_leaving }

-- no rule says anything of the node itself
abbrev pub is_silent : Around → Flow → Tree → Bool
is_silent z flow tree = (flow.normal && is_calm z) && (not (is_return (kind_of tree)) && not (is_body z tree))
