-- What a view of a node has has fewer nodes than the node.
use Rattle.std.proofs.Common.{◌≡◌, ℕ, ◌+◌, ◌<◌, Bool, true, false, Option, Some, None, option_map, if◌then◌else◌, refl, sym, arith, ap}
use Rattle.std.specs.Prelude.{IfSome}
use Rattle.std.proofs.lemmas.Option.{none-some}
use Rattle.tree.specs.Tree.{Tree, node, kind_of, text_of, flags_of, parts_of, node_total}
use Rattle.tree.specs.Fields.{field, list_from, last_part, before_last}
use Rattle.tree.specs.Uses.{is_generator, is_async}
use Rattle.tree.specs.declared.kind.Kind.{Kind}
use Rattle.tree.specs.declared.kind.Kind.TheVariants as kind
use Rattle.typed_nodes.specs.Arity.{is_whole}
use Rattle.typed_nodes.specs.Functions.{FunctionView, function, ClassView, class_of_body, function_by, function_of, class_by, class_of}
use Rattle.typed_nodes.specs.Expressions as e
use Rattle.typed_nodes.specs.Expressions.{ExpressionView, expression_by, expression_of}
use Rattle.typed_nodes.specs.Statements as s
use Rattle.typed_nodes.specs.Statements.{StatementView, try_by, statement_by, statement_of}
use Rattle.typed_nodes.specs.Patterns as p
use Rattle.typed_nodes.specs.Patterns.{PatternView, pattern_by, pattern_of}
use Rattle.typed_nodes.specs.Modules as m
use Rattle.typed_nodes.specs.Modules.{ModuleItemView, module_item_by, module_item_of}
use Rattle.node_parts.specs.Sizes.{option_total, function_total, class_total, statement_total, expression_total, pattern_total, module_total}
use Rattle.node_parts.proofs.SmallerFields.{four_fields, parts_smaller, first_and_list, list_and_last, one_smaller, two_smaller, three_smaller, some_smaller}

-- a node of its kind's length
pub if_whole : {A : Type 0} (b : Bool) (o : Option A) (v : A) → Some v ≡ (if b then o else None) → Some v ≡ o
if_whole true o v h = h
if_whole false o v h = absurd (none-some v (sym h))

pub map_smaller : {A B : Type 0} (total : B → ℕ) (n : ℕ) (o : Option A) (f : A → B) (v : B) → Some v ≡ option_map f o → ((a : A) → Some a ≡ o → total (f a) < n) → total v < n
map_smaller total n None f v h less = absurd (none-some v (sym h))
map_smaller total n (Some a) f v h less = some_smaller total n (f a) v h (less a refl)

-- what is seen of a result
pub if_seen : {A B : Type 0} (seen : A → B) (is_so : B → Type 0) (r : Option A) (o : Option B) → option_map seen r ≡ o → ((v : B) → Some v ≡ o → is_so v) → IfSome r (λ a. is_so (seen a))
if_seen seen is_so None o h so = tt
if_seen seen is_so (Some a) o h so = so (seen a) h

has_nodes : (t : Tree) → 0 < node_total t
has_nodes (node k w g s e ps) = omega arith

-- Functions and classes

pub function_smaller_by : (k : Kind) (t : Tree) (v : FunctionView) → Some v ≡ function_by k t → function_total v < node_total t
function_smaller_by kind.FunctionDeclaration t v h = one_smaller function_total (node_total t) (last_part (list_from 1 t)) (λ body. function (field 0 t) (before_last (list_from 1 t)) body false false (is_generator (flags_of t).form) (is_async (flags_of t).form)) v h (λ a e. omega (arith, ap option_total e, list_and_last (list_from 1 t), first_and_list t))
function_smaller_by kind.FunctionExpression t v h = one_smaller function_total (node_total t) (last_part (list_from 1 t)) (λ body. function (field 0 t) (before_last (list_from 1 t)) body false false (is_generator (flags_of t).form) (is_async (flags_of t).form)) v h (λ a e. omega (arith, ap option_total e, list_and_last (list_from 1 t), first_and_list t))
function_smaller_by kind.ArrowFunctionExpression t v h = one_smaller function_total (node_total t) (last_part (parts_of t)) (λ body. function None (before_last (parts_of t)) body true (flags_of t).expression (is_generator (flags_of t).form) (is_async (flags_of t).form)) v h (λ a e. omega (arith, ap option_total e, list_and_last (parts_of t), parts_smaller t))
function_smaller_by _ t v h = absurd (none-some v (sym h))

pub function_smaller : (t : Tree) (v : FunctionView) → Some v ≡ function_of t → function_total v < node_total t
function_smaller t v h = function_smaller_by (kind_of t) t v (if_whole (is_whole t) (function_by (kind_of t) t) v h)

class_smaller_by : (k : Kind) (t : Tree) (v : ClassView) → Some v ≡ class_by k t → class_total v < node_total t
class_smaller_by kind.ClassDeclaration t v h = one_smaller class_total (node_total t) (field 2 t) (λ body. class_of_body (field 0 t) (field 1 t) body) v h (λ a e. omega (arith, ap option_total e, four_fields t))
class_smaller_by kind.ClassExpression t v h = one_smaller class_total (node_total t) (field 2 t) (λ body. class_of_body (field 0 t) (field 1 t) body) v h (λ a e. omega (arith, ap option_total e, four_fields t))
class_smaller_by _ t v h = absurd (none-some v (sym h))

pub class_smaller : (t : Tree) (v : ClassView) → Some v ≡ class_of t → class_total v < node_total t
class_smaller t v h = class_smaller_by (kind_of t) t v (if_whole (is_whole t) (class_by (kind_of t) t) v h)

-- Statements

try_smaller : (n : ℕ) (a b c : Option Tree) (v : StatementView) → Some v ≡ try_by a b c → option_total a + option_total b + option_total c < n → statement_total v < n
try_smaller n None b c v h l = absurd (none-some v (sym h))
try_smaller n (Some a) None None v h l = absurd (none-some v (sym h))
try_smaller n (Some a) None (Some c) v h l = some_smaller statement_total n (s.try_statement a None (Some c)) v h l
try_smaller n (Some a) (Some b) c v h l = some_smaller statement_total n (s.try_statement a (Some b) c) v h l

statement_smaller_by : (k : Kind) (t : Tree) (v : StatementView) → Some v ≡ statement_by k t → statement_total v < node_total t
statement_smaller_by kind.ExpressionStatement t v h = one_smaller statement_total (node_total t) (field 0 t) (λ expression. s.expression_statement expression (flags_of t).directive) v h (λ a e. omega (arith, ap option_total e, four_fields t))
statement_smaller_by kind.BlockStatement t v h = some_smaller statement_total (node_total t) (s.block_statement (parts_of t)) v h (parts_smaller t)
statement_smaller_by kind.EmptyStatement t v h = some_smaller statement_total (node_total t) s.empty_statement v h (has_nodes t)
statement_smaller_by kind.DebuggerStatement t v h = some_smaller statement_total (node_total t) s.debugger_statement v h (has_nodes t)
statement_smaller_by kind.ReturnStatement t v h = some_smaller statement_total (node_total t) (s.return_statement (field 0 t)) v h (omega (arith, four_fields t))
statement_smaller_by kind.BreakStatement t v h = some_smaller statement_total (node_total t) (s.break_statement (field 0 t)) v h (has_nodes t)
statement_smaller_by kind.ContinueStatement t v h = some_smaller statement_total (node_total t) (s.continue_statement (field 0 t)) v h (has_nodes t)
statement_smaller_by kind.ThrowStatement t v h = one_smaller statement_total (node_total t) (field 0 t) s.throw_statement v h (λ a e. omega (arith, ap option_total e, four_fields t))
statement_smaller_by kind.LabeledStatement t v h = two_smaller statement_total (node_total t) (field 0 t) (field 1 t) s.labeled_statement v h (λ a b e i. omega (arith, ap option_total e, ap option_total i, four_fields t))
statement_smaller_by kind.IfStatement t v h = two_smaller statement_total (node_total t) (field 0 t) (field 1 t) (λ test consequent. s.if_statement test consequent (field 2 t)) v h (λ a b e i. omega (arith, ap option_total e, ap option_total i, four_fields t))
statement_smaller_by kind.SwitchStatement t v h = one_smaller statement_total (node_total t) (field 0 t) (λ discriminant. s.switch_statement discriminant (list_from 1 t)) v h (λ a e. omega (arith, ap option_total e, first_and_list t))
statement_smaller_by kind.TryStatement t v h = try_smaller (node_total t) (field 0 t) (field 1 t) (field 2 t) v h (omega (arith, four_fields t))
statement_smaller_by kind.WhileStatement t v h = two_smaller statement_total (node_total t) (field 0 t) (field 1 t) s.while_statement v h (λ a b e i. omega (arith, ap option_total e, ap option_total i, four_fields t))
statement_smaller_by kind.DoWhileStatement t v h = two_smaller statement_total (node_total t) (field 0 t) (field 1 t) s.do_while_statement v h (λ a b e i. omega (arith, ap option_total e, ap option_total i, four_fields t))
statement_smaller_by kind.ForStatement t v h = one_smaller statement_total (node_total t) (field 3 t) (s.for_statement (field 0 t) (field 1 t) (field 2 t)) v h (λ a e. omega (arith, ap option_total e, four_fields t))
statement_smaller_by kind.ForInStatement t v h = three_smaller statement_total (node_total t) (field 0 t) (field 1 t) (field 2 t) s.for_in_statement v h (λ a b c e i j. omega (arith, ap option_total e, ap option_total i, ap option_total j, four_fields t))
statement_smaller_by kind.ForOfStatement t v h = three_smaller statement_total (node_total t) (field 0 t) (field 1 t) (field 2 t) (λ left right body. s.for_of_statement left right body (is_async (flags_of t).form)) v h (λ a b c e i j. omega (arith, ap option_total e, ap option_total i, ap option_total j, four_fields t))
statement_smaller_by kind.VariableDeclaration t v h = some_smaller statement_total (node_total t) (s.variable_declaration (text_of t) (parts_of t)) v h (parts_smaller t)
statement_smaller_by kind.FunctionDeclaration t v h = map_smaller statement_total (node_total t) (function_of t) s.function_declaration v h (function_smaller t)
statement_smaller_by kind.ClassDeclaration t v h = map_smaller statement_total (node_total t) (class_of t) s.class_declaration v h (class_smaller t)
statement_smaller_by _ t v h = absurd (none-some v (sym h))

pub statement_smaller : (t : Tree) (v : StatementView) → Some v ≡ statement_of t → statement_total v < node_total t
statement_smaller t v h = statement_smaller_by (kind_of t) t v (if_whole (is_whole t) (statement_by (kind_of t) t) v h)

-- Expressions

expression_smaller_by : (k : Kind) (t : Tree) (v : ExpressionView) → Some v ≡ expression_by k t → expression_total v < node_total t
expression_smaller_by kind.Identifier t v h = some_smaller expression_total (node_total t) (e.identifier (text_of t)) v h (has_nodes t)
expression_smaller_by kind.Literal t v h = some_smaller expression_total (node_total t) (e.literal (text_of t)) v h (has_nodes t)
expression_smaller_by kind.ThisExpression t v h = some_smaller expression_total (node_total t) e.this_expression v h (has_nodes t)
expression_smaller_by kind.ArrayExpression t v h = some_smaller expression_total (node_total t) (e.array_expression (parts_of t)) v h (has_nodes t)
expression_smaller_by kind.ObjectExpression t v h = some_smaller expression_total (node_total t) (e.object_expression (parts_of t)) v h (has_nodes t)
expression_smaller_by kind.FunctionExpression t v h = map_smaller expression_total (node_total t) (function_of t) e.function_expression v h (λ a i. has_nodes t)
expression_smaller_by kind.ArrowFunctionExpression t v h = map_smaller expression_total (node_total t) (function_of t) e.arrow_function v h (λ a i. has_nodes t)
expression_smaller_by kind.ClassExpression t v h = map_smaller expression_total (node_total t) (class_of t) e.class_expression v h (λ a i. has_nodes t)
expression_smaller_by kind.TemplateLiteral t v h = some_smaller expression_total (node_total t) (e.template_literal (parts_of t)) v h (parts_smaller t)
expression_smaller_by kind.SequenceExpression t v h = some_smaller expression_total (node_total t) (e.sequence_expression (parts_of t)) v h (has_nodes t)
expression_smaller_by kind.YieldExpression t v h = some_smaller expression_total (node_total t) (e.yield_expression (field 0 t) (is_generator (flags_of t).form)) v h (omega (arith, four_fields t))
expression_smaller_by kind.TaggedTemplateExpression t v h = two_smaller expression_total (node_total t) (field 0 t) (field 1 t) e.tagged_template v h (λ a b e i. omega (arith, ap option_total e, ap option_total i, four_fields t))
expression_smaller_by kind.MemberExpression t v h = two_smaller expression_total (node_total t) (field 0 t) (field 1 t) (λ object property. e.member_expression object property (flags_of t).computed (flags_of t).optional) v h (λ a b i j. has_nodes t)
expression_smaller_by kind.CallExpression t v h = one_smaller expression_total (node_total t) (field 0 t) (λ callee. e.call_expression callee (list_from 1 t) (flags_of t).optional) v h (λ a i. has_nodes t)
expression_smaller_by kind.NewExpression t v h = one_smaller expression_total (node_total t) (field 0 t) (λ callee. e.new_expression callee (list_from 1 t)) v h (λ a e. omega (arith, ap option_total e, first_and_list t))
expression_smaller_by kind.MetaProperty t v h = two_smaller expression_total (node_total t) (field 0 t) (field 1 t) e.meta_property v h (λ a b i j. has_nodes t)
expression_smaller_by kind.ImportExpression t v h = one_smaller expression_total (node_total t) (field 0 t) e.import_expression v h (λ a e. omega (arith, ap option_total e, four_fields t))
expression_smaller_by kind.ChainExpression t v h = one_smaller expression_total (node_total t) (field 0 t) e.chain_expression v h (λ a e. omega (arith, ap option_total e, four_fields t))
expression_smaller_by kind.UpdateExpression t v h = one_smaller expression_total (node_total t) (field 0 t) (e.update_expression (text_of t) (flags_of t).prefix) v h (λ a e. omega (arith, ap option_total e, four_fields t))
expression_smaller_by kind.UnaryExpression t v h = one_smaller expression_total (node_total t) (field 0 t) (e.unary_expression (text_of t)) v h (λ a e. omega (arith, ap option_total e, four_fields t))
expression_smaller_by kind.AwaitExpression t v h = one_smaller expression_total (node_total t) (field 0 t) e.await_expression v h (λ a e. omega (arith, ap option_total e, four_fields t))
expression_smaller_by kind.ConditionalExpression t v h = three_smaller expression_total (node_total t) (field 0 t) (field 1 t) (field 2 t) e.conditional_expression v h (λ a b c i j k. has_nodes t)
expression_smaller_by kind.BinaryExpression t v h = two_smaller expression_total (node_total t) (field 0 t) (field 1 t) (e.binary_expression (text_of t)) v h (λ a b i j. has_nodes t)
expression_smaller_by kind.LogicalExpression t v h = two_smaller expression_total (node_total t) (field 0 t) (field 1 t) (e.logical_expression (text_of t)) v h (λ a b i j. has_nodes t)
expression_smaller_by kind.AssignmentExpression t v h = two_smaller expression_total (node_total t) (field 0 t) (field 1 t) (e.assignment_expression (text_of t)) v h (λ a b e i. omega (arith, ap option_total e, ap option_total i, four_fields t))
expression_smaller_by _ t v h = absurd (none-some v (sym h))

pub expression_smaller : (t : Tree) (v : ExpressionView) → Some v ≡ expression_of t → expression_total v < node_total t
expression_smaller t v h = expression_smaller_by (kind_of t) t v (if_whole (is_whole t) (expression_by (kind_of t) t) v h)

-- Patterns

pattern_smaller_by : (k : Kind) (t : Tree) (v : PatternView) → Some v ≡ pattern_by k t → pattern_total v < node_total t
pattern_smaller_by kind.Identifier t v h = some_smaller pattern_total (node_total t) (p.named (text_of t)) v h (has_nodes t)
pattern_smaller_by kind.MemberExpression t v h = two_smaller pattern_total (node_total t) (field 0 t) (field 1 t) (λ object property. p.member_target object property (flags_of t).computed) v h (λ a b i j. has_nodes t)
pattern_smaller_by kind.ArrayPattern t v h = some_smaller pattern_total (node_total t) (p.array_pattern (parts_of t)) v h (parts_smaller t)
pattern_smaller_by kind.ObjectPattern t v h = some_smaller pattern_total (node_total t) (p.object_pattern (parts_of t)) v h (parts_smaller t)
pattern_smaller_by kind.AssignmentPattern t v h = two_smaller pattern_total (node_total t) (field 0 t) (field 1 t) p.assignment_pattern v h (λ a b e i. omega (arith, ap option_total e, ap option_total i, four_fields t))
pattern_smaller_by kind.RestElement t v h = one_smaller pattern_total (node_total t) (field 0 t) p.rest_element v h (λ a e. omega (arith, ap option_total e, four_fields t))
pattern_smaller_by _ t v h = absurd (none-some v (sym h))

pub pattern_smaller : (t : Tree) (v : PatternView) → Some v ≡ pattern_of t → pattern_total v < node_total t
pattern_smaller t v h = pattern_smaller_by (kind_of t) t v (if_whole (is_whole t) (pattern_by (kind_of t) t) v h)

-- Exports

module_smaller_by : (k : Kind) (t : Tree) (v : ModuleItemView) → Some v ≡ module_item_by k t → module_total v < node_total t
module_smaller_by kind.ImportDeclaration t v h = one_smaller module_total (node_total t) (last_part (parts_of t)) (m.import_declaration (before_last (parts_of t))) v h (λ a i. has_nodes t)
module_smaller_by kind.ExportNamedDeclaration t v h = some_smaller module_total (node_total t) (m.export_named (field 0 t) (before_last (list_from 1 t)) (last_part (list_from 1 t))) v h (omega (arith, four_fields t))
module_smaller_by kind.ExportDefaultDeclaration t v h = one_smaller module_total (node_total t) (field 0 t) m.export_default v h (λ a e. omega (arith, ap option_total e, four_fields t))
module_smaller_by kind.ExportAllDeclaration t v h = one_smaller module_total (node_total t) (field 1 t) (m.export_all (field 0 t)) v h (λ a i. has_nodes t)
module_smaller_by _ t v h = absurd (none-some v (sym h))

pub module_smaller : (t : Tree) (v : ModuleItemView) → Some v ≡ module_item_of t → module_total v < node_total t
module_smaller t v h = module_smaller_by (kind_of t) t v (if_whole (is_whole t) (module_item_by (kind_of t) t) v h)
