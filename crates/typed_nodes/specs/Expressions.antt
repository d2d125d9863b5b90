-- Expressions: which part is which field.
use Rattle.std.specs.Prelude.{ℕ, Bool, List, Option, Some, None, option_map, if◌then◌else◌}
use Rattle.tree.specs.Tree.{Tree, Parts, kind_of, text_of, flags_of, parts_of}
use Rattle.tree.specs.Uses.{is_generator}
use Rattle.tree.specs.Node.{node_tree, list_parts}
use Rattle.tree.specs.Fields.{field, list_from, with_one, with_two, with_three}
use Rattle.typed_nodes.specs.Arity.{is_whole}
use Rattle.typed_nodes.specs.Functions.{FunctionView, ClassView, function_of, function_seen, class_of, class_seen}
use Rattle.tree.specs.declared.kind.Kind.{Kind}
use Rattle.tree.specs.declared.kind.Kind.TheVariants as kind
use Rattle.typed_nodes.specs.declared.expression.Expression.{Expression}
use Rattle.typed_nodes.specs.declared.expression.Expression.TheVariants as e

pub data ExpressionView : Type 0 where
  identifier : (name : List ℕ) → ExpressionView
  literal : (raw : List ℕ) → ExpressionView
  this_expression : ExpressionView
  array_expression : (elements : Parts) → ExpressionView
  object_expression : (properties : Parts) → ExpressionView
  function_expression : FunctionView → ExpressionView
  arrow_function : FunctionView → ExpressionView
  class_expression : ClassView → ExpressionView
  template_literal : (turns : Parts) → ExpressionView
  tagged_template : (tag quasi : Tree) → ExpressionView
  member_expression : (object property : Tree) (computed optional : Bool) → ExpressionView
  call_expression : (callee : Tree) (arguments : Parts) (optional : Bool) → ExpressionView
  new_expression : (callee : Tree) (arguments : Parts) → ExpressionView
  meta_property : (meta property : Tree) → ExpressionView
  import_expression : (source : Tree) → ExpressionView
  chain_expression : (expression : Tree) → ExpressionView
  update_expression : (operator : List ℕ) (prefix : Bool) (argument : Tree) → ExpressionView
  unary_expression : (operator : List ℕ) (argument : Tree) → ExpressionView
  await_expression : (argument : Tree) → ExpressionView
  binary_expression : (operator : List ℕ) (left right : Tree) → ExpressionView
  logical_expression : (operator : List ℕ) (left right : Tree) → ExpressionView
  conditional_expression : (test consequent alternate : Tree) → ExpressionView
  assignment_expression : (operator : List ℕ) (left right : Tree) → ExpressionView
  sequence_expression : (expressions : Parts) → ExpressionView
  yield_expression : (argument : Option Tree) (delegate : Bool) → ExpressionView

-- operations with two operands
abbrev pub operands_by : Kind → Tree → Option ExpressionView
operands_by kind.BinaryExpression t = with_two (field 0 t) (field 1 t) (binary_expression (text_of t))
operands_by kind.LogicalExpression t = with_two (field 0 t) (field 1 t) (logical_expression (text_of t))
operands_by kind.AssignmentExpression t = with_two (field 0 t) (field 1 t) (assignment_expression (text_of t))
operands_by _ t = None

-- the other operations
abbrev pub operation_by : Kind → Tree → Option ExpressionView
operation_by kind.UpdateExpression t = with_one (field 0 t) (update_expression (text_of t) (flags_of t).prefix)
operation_by kind.UnaryExpression t = with_one (field 0 t) (unary_expression (text_of t))
operation_by kind.AwaitExpression t = with_one (field 0 t) await_expression
operation_by kind.ConditionalExpression t = with_three (field 0 t) (field 1 t) (field 2 t) conditional_expression
operation_by k t = operands_by k t

-- members and calls
abbrev pub member_by : Kind → Tree → Option ExpressionView
member_by kind.TaggedTemplateExpression t = with_two (field 0 t) (field 1 t) tagged_template
member_by kind.MemberExpression t = with_two (field 0 t) (field 1 t) (λ object property. member_expression object property (flags_of t).computed (flags_of t).optional)
member_by kind.CallExpression t = with_one (field 0 t) (λ callee. call_expression callee (list_from 1 t) (flags_of t).optional)
member_by kind.NewExpression t = with_one (field 0 t) (λ callee. new_expression callee (list_from 1 t))
member_by kind.MetaProperty t = with_two (field 0 t) (field 1 t) meta_property
member_by kind.ImportExpression t = with_one (field 0 t) import_expression
member_by kind.ChainExpression t = with_one (field 0 t) chain_expression
member_by k t = operation_by k t

-- of these, what has two parts or more
abbrev pub paired_by : Kind → Tree → Option ExpressionView
paired_by kind.TaggedTemplateExpression t = member_by kind.TaggedTemplateExpression t
paired_by kind.MemberExpression t = member_by kind.MemberExpression t
paired_by kind.MetaProperty t = member_by kind.MetaProperty t
paired_by kind.ConditionalExpression t = operation_by kind.ConditionalExpression t
paired_by k t = operands_by k t

-- names, literals, functions and lists; all else is in the tables above
abbrev pub expression_by : Kind → Tree → Option ExpressionView
expression_by kind.Identifier t = Some (identifier (text_of t))
expression_by kind.Literal t = Some (literal (text_of t))
expression_by kind.ThisExpression t = Some this_expression
expression_by kind.ArrayExpression t = Some (array_expression (parts_of t))
expression_by kind.ObjectExpression t = Some (object_expression (parts_of t))
expression_by kind.FunctionExpression t = option_map function_expression (function_of t)
expression_by kind.ArrowFunctionExpression t = option_map arrow_function (function_of t)
expression_by kind.ClassExpression t = option_map class_expression (class_of t)
expression_by kind.TemplateLiteral t = Some (template_literal (parts_of t))
expression_by kind.SequenceExpression t = Some (sequence_expression (parts_of t))
expression_by kind.YieldExpression t = Some (yield_expression (field 0 t) (is_generator (flags_of t).form))
expression_by k t = member_by k t

-- the tree as an expression
abbrev pub expression_of : Tree → Option ExpressionView
expression_of t = if is_whole t then expression_by (kind_of t) t else None

-- what a view shows
abbrev pub expression_seen : Expression → ExpressionView
expression_seen (e.Identifier name) = identifier name.now
expression_seen (e.Literal raw) = literal raw.now
expression_seen e.This = this_expression
expression_seen (e.Array elements) = array_expression (list_parts elements)
expression_seen (e.Object properties) = object_expression (list_parts properties)
expression_seen (e.Function function) = function_expression (function_seen function)
expression_seen (e.ArrowFunction function) = arrow_function (function_seen function)
expression_seen (e.Class class) = class_expression (class_seen class)
expression_seen (e.TemplateLiteral turns) = template_literal (list_parts turns)
expression_seen (e.TaggedTemplate tag quasi) = tagged_template (node_tree tag) (node_tree quasi)
expression_seen (e.Member object property computed optional) = member_expression (node_tree object) (node_tree property) computed optional
expression_seen (e.Call callee arguments optional) = call_expression (node_tree callee) (list_parts arguments) optional
expression_seen (e.New callee arguments) = new_expression (node_tree callee) (list_parts arguments)
expression_seen (e.MetaProperty meta property) = meta_property (node_tree meta) (node_tree property)
expression_seen (e.Import source) = import_expression (node_tree source)
expression_seen (e.Chain expression) = chain_expression (node_tree expression)
expression_seen (e.Update operator prefix argument) = update_expression operator.now prefix (node_tree argument)
expression_seen (e.Unary operator argument) = unary_expression operator.now (node_tree argument)
expression_seen (e.Await argument) = await_expression (node_tree argument)
expression_seen (e.Binary operator left right) = binary_expression operator.now (node_tree left) (node_tree right)
expression_seen (e.Logical operator left right) = logical_expression operator.now (node_tree left) (node_tree right)
expression_seen (e.Conditional test consequent alternate) = conditional_expression (node_tree test) (node_tree consequent) (node_tree alternate)
expression_seen (e.Assignment operator left right) = assignment_expression operator.now (node_tree left) (node_tree right)
expression_seen (e.Sequence expressions) = sequence_expression (list_parts expressions)
expression_seen (e.Yield argument delegate) = yield_expression (option_map node_tree argument) delegate
