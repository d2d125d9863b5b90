-- Statements and declarations: which part is which field.
use Rattle.std.specs.Prelude.{ℕ, Bool, List, Option, Some, None, option_map, if◌then◌else◌}
use Rattle.tree.specs.Tree.{Tree, Parts, kind_of, text_of, flags_of, parts_of}
use Rattle.tree.specs.Uses.{is_async}
use Rattle.tree.specs.Node.{node_tree, list_parts}
use Rattle.tree.specs.Fields.{field, list_from, with_one, with_two, with_three}
use Rattle.typed_nodes.specs.Arity.{is_whole}
use Rattle.typed_nodes.specs.Functions.{FunctionView, ClassView, function_of, function_seen, class_of, class_seen}
use Rattle.tree.specs.declared.kind.Kind.{Kind}
use Rattle.tree.specs.declared.kind.Kind.TheVariants as kind
use Rattle.typed_nodes.specs.declared.statement.Statement.{Statement}
use Rattle.typed_nodes.specs.declared.statement.Statement.TheVariants as s

pub data StatementView : Type 0 where
  expression_statement : (expression : Tree) (directive : Bool) → StatementView
  block_statement : (body : Parts) → StatementView
  empty_statement : StatementView
  debugger_statement : StatementView
  return_statement : (argument : Option Tree) → StatementView
  throw_statement : (argument : Tree) → StatementView
  break_statement : (label : Option Tree) → StatementView
  continue_statement : (label : Option Tree) → StatementView
  labeled_statement : (label body : Tree) → StatementView
  if_statement : (test consequent : Tree) (alternate : Option Tree) → StatementView
  switch_statement : (discriminant : Tree) (cases : Parts) → StatementView
  try_statement : (block : Tree) (handler finalizer : Option Tree) → StatementView
  while_statement : (test body : Tree) → StatementView
  do_while_statement : (body test : Tree) → StatementView
  for_statement : (init test update : Option Tree) (body : Tree) → StatementView
  for_in_statement : (left right body : Tree) → StatementView
  for_of_statement : (left right body : Tree) (is_await : Bool) → StatementView
  variable_declaration : (word : List ℕ) (declarations : Parts) → StatementView
  function_declaration : FunctionView → StatementView
  class_declaration : ClassView → StatementView

-- a `try` has a handler or a finalizer
abbrev pub try_of : Tree → Option Tree → Option Tree → Option StatementView
try_of block None None = None
try_of block None (Some f) = Some (try_statement block None (Some f))
try_of block (Some h) o = Some (try_statement block (Some h) o)

abbrev pub try_by : Option Tree → Option Tree → Option Tree → Option StatementView
try_by None handler finalizer = None
try_by (Some block) handler finalizer = try_of block handler finalizer

-- loops, declarations of variables, functions and classes
abbrev pub loop_by : Kind → Tree → Option StatementView
loop_by kind.WhileStatement t = with_two (field 0 t) (field 1 t) while_statement
loop_by kind.DoWhileStatement t = with_two (field 0 t) (field 1 t) do_while_statement
loop_by kind.ForStatement t = with_one (field 3 t) (for_statement (field 0 t) (field 1 t) (field 2 t))
loop_by kind.ForInStatement t = with_three (field 0 t) (field 1 t) (field 2 t) for_in_statement
loop_by kind.ForOfStatement t = with_three (field 0 t) (field 1 t) (field 2 t) (λ left right body. for_of_statement left right body (is_async (flags_of t).form))
loop_by kind.VariableDeclaration t = Some (variable_declaration (text_of t) (parts_of t))
loop_by kind.FunctionDeclaration t = option_map function_declaration (function_of t)
loop_by kind.ClassDeclaration t = option_map class_declaration (class_of t)
loop_by _ t = None

-- what chooses or leaves; all else that isn't simple is in the table above
abbrev pub choice_by : Kind → Tree → Option StatementView
choice_by kind.ThrowStatement t = with_one (field 0 t) throw_statement
choice_by kind.LabeledStatement t = with_two (field 0 t) (field 1 t) labeled_statement
choice_by kind.IfStatement t = with_two (field 0 t) (field 1 t) (λ test consequent. if_statement test consequent (field 2 t))
choice_by kind.SwitchStatement t = with_one (field 0 t) (λ discriminant. switch_statement discriminant (list_from 1 t))
choice_by kind.TryStatement t = try_by (field 0 t) (field 1 t) (field 2 t)
choice_by k t = loop_by k t

-- simple statements; all else is in the tables above
abbrev pub statement_by : Kind → Tree → Option StatementView
statement_by kind.ExpressionStatement t = with_one (field 0 t) (λ expression. expression_statement expression (flags_of t).directive)
statement_by kind.BlockStatement t = Some (block_statement (parts_of t))
statement_by kind.EmptyStatement t = Some empty_statement
statement_by kind.DebuggerStatement t = Some debugger_statement
statement_by kind.ReturnStatement t = Some (return_statement (field 0 t))
statement_by kind.BreakStatement t = Some (break_statement (field 0 t))
statement_by kind.ContinueStatement t = Some (continue_statement (field 0 t))
statement_by k t = choice_by k t

-- of these, loops with in and of
abbrev pub for_each_by : Kind → Tree → Option StatementView
for_each_by kind.ForInStatement t = loop_by kind.ForInStatement t
for_each_by kind.ForOfStatement t = loop_by kind.ForOfStatement t
for_each_by _ t = None

-- what has two parts or more that must be there
abbrev pub paired_by : Kind → Tree → Option StatementView
paired_by kind.LabeledStatement t = choice_by kind.LabeledStatement t
paired_by kind.IfStatement t = choice_by kind.IfStatement t
paired_by kind.WhileStatement t = loop_by kind.WhileStatement t
paired_by kind.DoWhileStatement t = loop_by kind.DoWhileStatement t
paired_by k t = for_each_by k t

-- what has a first part that must be there
abbrev pub headed_by : Kind → Tree → Option StatementView
headed_by kind.ExpressionStatement t = statement_by kind.ExpressionStatement t
headed_by kind.ThrowStatement t = choice_by kind.ThrowStatement t
headed_by kind.SwitchStatement t = choice_by kind.SwitchStatement t
headed_by kind.TryStatement t = choice_by kind.TryStatement t
headed_by k t = paired_by k t

-- the tree as a statement or a declaration
abbrev pub statement_of : Tree → Option StatementView
statement_of t = if is_whole t then statement_by (kind_of t) t else None

-- what a view shows
abbrev pub statement_seen : Statement → StatementView
statement_seen (s.Expression expression directive) = expression_statement (node_tree expression) directive
statement_seen (s.Block body) = block_statement (list_parts body)
statement_seen s.Empty = empty_statement
statement_seen s.Debugger = debugger_statement
statement_seen (s.Return argument) = return_statement (option_map node_tree argument)
statement_seen (s.Throw argument) = throw_statement (node_tree argument)
statement_seen (s.Break label) = break_statement (option_map node_tree label)
statement_seen (s.Continue label) = continue_statement (option_map node_tree label)
statement_seen (s.Labeled label body) = labeled_statement (node_tree label) (node_tree body)
statement_seen (s.If test consequent alternate) = if_statement (node_tree test) (node_tree consequent) (option_map node_tree alternate)
statement_seen (s.Switch discriminant cases) = switch_statement (node_tree discriminant) (list_parts cases)
statement_seen (s.Try block handler finalizer) = try_statement (node_tree block) (option_map node_tree handler) (option_map node_tree finalizer)
statement_seen (s.While test body) = while_statement (node_tree test) (node_tree body)
statement_seen (s.DoWhile body test) = do_while_statement (node_tree body) (node_tree test)
statement_seen (s.For init test update body) = for_statement (option_map node_tree init) (option_map node_tree test) (option_map node_tree update) (node_tree body)
statement_seen (s.ForIn left right body) = for_in_statement (node_tree left) (node_tree right) (node_tree body)
statement_seen (s.ForOf left right body is_await) = for_of_statement (node_tree left) (node_tree right) (node_tree body) is_await
statement_seen (s.VariableDeclaration kind declarations) = variable_declaration kind.now (list_parts declarations)
statement_seen (s.FunctionDeclaration function) = function_declaration (function_seen function)
statement_seen (s.ClassDeclaration class) = class_declaration (class_seen class)
