-- How many nodes there are in what a view of a node has. All calls go down by them.
use Rattle.std.specs.Prelude.{ℕ, ◌+◌, Option, None, Some, option_map}
use Rattle.tree.specs.Tree.{Tree, node_total, parts_total}
use Rattle.tree.specs.Node.{node_tree, list_parts}
use Rattle.tree.specs.declared.node.Node.{Node}
use Rattle.tree.specs.declared.node_list.NodeList.{NodeList}
use Rattle.typed_nodes.specs.declared.expression.Expression.{Expression}
use Rattle.typed_nodes.specs.declared.function.Function.{Function}
use Rattle.typed_nodes.specs.declared.function.Class.{Class}
use Rattle.typed_nodes.specs.declared.module.ModuleItem.{ModuleItem}
use Rattle.typed_nodes.specs.declared.pattern.Pattern.{Pattern}
use Rattle.typed_nodes.specs.declared.statement.Statement.{Statement}
use Rattle.typed_nodes.specs.Expressions.{ExpressionView, template_literal, tagged_template, new_expression, import_expression, chain_expression, update_expression, unary_expression, await_expression, assignment_expression, yield_expression, expression_seen}
use Rattle.typed_nodes.specs.Functions.{FunctionView, function, ClassView, class_of_body, function_seen, class_seen}
use Rattle.typed_nodes.specs.Modules.{ModuleItemView, export_named, export_default, module_item_seen}
use Rattle.typed_nodes.specs.Patterns.{PatternView, array_pattern, object_pattern, assignment_pattern, rest_element, pattern_seen}
use Rattle.typed_nodes.specs.Statements.{StatementView, expression_statement, block_statement, return_statement, throw_statement, labeled_statement, if_statement, switch_statement, try_statement, while_statement, do_while_statement, for_statement, for_in_statement, for_of_statement, variable_declaration, function_declaration, class_declaration, statement_seen}

-- Trees

abbrev pub option_total : Option Tree → ℕ
option_total None = 0
option_total (Some t) = node_total t

abbrev pub function_total : FunctionView → ℕ
function_total (function id params body is_arrow expression generator is_async) = parts_total params + node_total body

abbrev pub class_total : ClassView → ℕ
class_total (class_of_body id super_class body) = option_total super_class + node_total body

-- of a statement, without its labels
abbrev pub statement_total : StatementView → ℕ
statement_total (expression_statement e directive) = node_total e
statement_total (block_statement body) = parts_total body
statement_total (return_statement argument) = option_total argument
statement_total (throw_statement argument) = node_total argument
statement_total (labeled_statement label body) = node_total body
statement_total (if_statement test consequent alternate) = node_total test + node_total consequent + option_total alternate
statement_total (switch_statement discriminant cases) = node_total discriminant + parts_total cases
statement_total (try_statement block handler finalizer) = node_total block + option_total handler + option_total finalizer
statement_total (while_statement test body) = node_total test + node_total body
statement_total (do_while_statement body test) = node_total body + node_total test
statement_total (for_statement init test update body) = option_total init + option_total test + option_total update + node_total body
statement_total (for_in_statement left right body) = node_total left + node_total right + node_total body
statement_total (for_of_statement left right body is_await) = node_total left + node_total right + node_total body
statement_total (variable_declaration word declarations) = parts_total declarations
statement_total (function_declaration f) = function_total f
statement_total (class_declaration c) = class_total c
statement_total v = 0

-- of an expression that is laid out by its view; of the others it counts nothing
abbrev pub expression_total : ExpressionView → ℕ
expression_total (template_literal turns) = parts_total turns
expression_total (tagged_template tag quasi) = node_total tag + node_total quasi
expression_total (new_expression callee arguments) = node_total callee + parts_total arguments
expression_total (import_expression source) = node_total source
expression_total (chain_expression e) = node_total e
expression_total (update_expression operator prefix argument) = node_total argument
expression_total (unary_expression operator argument) = node_total argument
expression_total (await_expression argument) = node_total argument
expression_total (assignment_expression operator left right) = node_total left + node_total right
expression_total (yield_expression argument delegate) = option_total argument
expression_total v = 0

-- of a pattern, without those of a target
abbrev pub pattern_total : PatternView → ℕ
pattern_total (array_pattern elements) = parts_total elements
pattern_total (object_pattern properties) = parts_total properties
pattern_total (assignment_pattern left right) = node_total left + node_total right
pattern_total (rest_element argument) = node_total argument
pattern_total v = 0

-- of what an export declares
abbrev pub module_total : ModuleItemView → ℕ
module_total (export_named declaration specifiers source) = option_total declaration
module_total (export_default declaration) = node_total declaration
module_total v = 0

-- Nodes, lists of nodes, and views

abbrev pub size : Node → ℕ
size n = node_total (node_tree n)

abbrev pub optional_size : Option Node → ℕ
optional_size o = option_total (option_map node_tree o)

abbrev pub list_size : NodeList → ℕ
list_size l = parts_total (list_parts l)

abbrev pub function_size : Function → ℕ
function_size f = function_total (function_seen f)

abbrev pub class_size : Class → ℕ
class_size c = class_total (class_seen c)

abbrev pub statement_size : Statement → ℕ
statement_size s = statement_total (statement_seen s)

abbrev pub expression_size : Expression → ℕ
expression_size e = expression_total (expression_seen e)

abbrev pub pattern_size : Pattern → ℕ
pattern_size p = pattern_total (pattern_seen p)

abbrev pub module_size : ModuleItem → ℕ
module_size m = module_total (module_item_seen m)
