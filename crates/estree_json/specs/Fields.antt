-- The fields of each type of node, as ESTree has them for es5 to es2022, parts in source order.
use Rattle.std.specs.Prelude.{ℕ, Bool, true, false, List, [], ◌∷◌, bytes_eq, Option, Some, None, codes, if◌then◌else◌}
use Prim.Native.String.{String}
use Rattle.serde_json.specs.Data.{Data, null, boolean, string}
use Rattle.tree.specs.declared.kind.Kind.{Kind}
use Rattle.tree.specs.declared.kind.Kind.TheVariants as k
use Rattle.tree.specs.declared.kind.Flags.{Flags}
use Rattle.tree.specs.declared.kind.Form.{Form}
use Rattle.tree.specs.declared.kind.Form.TheVariants.{Get, Set, Constructor, Method, Shorthand}
use Rattle.tree.specs.Tree.{Parts, none, gap, text_of}
use Rattle.tree.specs.Tree as tree
use Rattle.tree.specs.Uses.{is_generator, is_async}
use Rattle.estree_json.specs.Texts.{literal_value, literal_regex, unquoted, template_value}

pub data Field : Type 0 where
  -- the next part, null where it is missing
  part : String → Field
  -- an array of the next parts, all but the last so many
  list : String → ℕ → Field
  -- the next part and the last one, which are the same where there is one
  ends : String → String → Field
  -- two arrays of the next parts in turns
  turns : String → String → Field
  -- a value
  says : String → Data → Field
  -- a value, or no field
  may : String → Option Data → Field

-- what fields depend on beside the kind: text and flags, and the text of the first part
pub record Label : Type 0 where
  pub text : List ℕ
  pub flags : Flags
  pub first_text : List ℕ

-- the text of the first part
abbrev pub first_text : Parts → List ℕ
first_text none = []
first_text (tree.part t ps) = text_of t
first_text (gap ps) = []

-- `kind` of a property and of a method
abbrev pub property_kind : Form → List ℕ
property_kind Get = codes "get"
property_kind Set = codes "set"
property_kind _ = codes "init"

abbrev pub method_kind : Form → List ℕ
method_kind Get = codes "get"
method_kind Set = codes "set"
method_kind Constructor = codes "constructor"
method_kind _ = codes "method"

abbrev pub is_method : Form → Bool
is_method Method = true
is_method _ = false

abbrev pub is_shorthand : Form → Bool
is_shorthand Shorthand = true
is_shorthand _ = false

-- `sourceType`, by the text of the Program
abbrev pub source_type : List ℕ → List ℕ
source_type text = if bytes_eq text (codes "module") then codes "module" else codes "script"

-- the characters of a directive
abbrev pub directive : Label → Option Data
directive l = if l.flags.directive then Some (string (unquoted l.first_text)) else None

-- Statements and the parts of them. No fields: ThisExpression, Super, EmptyStatement, DebuggerStatement, which stand in no table.
abbrev pub statement_fields : Kind → Label → List Field
statement_fields k.Program l = list "body" 0 ∷ says "sourceType" (string (source_type l.text)) ∷ []
statement_fields k.ExpressionStatement l = part "expression" ∷ may "directive" (directive l) ∷ []
statement_fields k.BlockStatement l = list "body" 0 ∷ []
statement_fields k.ReturnStatement l = part "argument" ∷ []
statement_fields k.ThrowStatement l = part "argument" ∷ []
statement_fields k.BreakStatement l = part "label" ∷ []
statement_fields k.ContinueStatement l = part "label" ∷ []
statement_fields k.LabeledStatement l = part "label" ∷ part "body" ∷ []
statement_fields k.IfStatement l = part "test" ∷ part "consequent" ∷ part "alternate" ∷ []
statement_fields k.SwitchStatement l = part "discriminant" ∷ list "cases" 0 ∷ []
statement_fields k.SwitchCase l = part "test" ∷ list "consequent" 0 ∷ []
statement_fields k.TryStatement l = part "block" ∷ part "handler" ∷ part "finalizer" ∷ []
statement_fields k.CatchClause l = part "param" ∷ part "body" ∷ []
statement_fields k.WhileStatement l = part "test" ∷ part "body" ∷ []
statement_fields k.DoWhileStatement l = part "body" ∷ part "test" ∷ []
statement_fields k.ForStatement l = part "init" ∷ part "test" ∷ part "update" ∷ part "body" ∷ []
statement_fields k.ForInStatement l = part "left" ∷ part "right" ∷ part "body" ∷ []
statement_fields k.ForOfStatement l = part "left" ∷ part "right" ∷ part "body" ∷ says "await" (boolean (is_async l.flags.form)) ∷ []
statement_fields k.VariableDeclaration l = list "declarations" 0 ∷ says "kind" (string l.text) ∷ []
statement_fields k.VariableDeclarator l = part "id" ∷ part "init" ∷ []
statement_fields k.ImportDeclaration l = list "specifiers" 1 ∷ part "source" ∷ []
statement_fields k.ImportSpecifier l = ends "imported" "local" ∷ []
statement_fields k.ImportDefaultSpecifier l = part "local" ∷ []
statement_fields k.ImportNamespaceSpecifier l = part "local" ∷ []
statement_fields k.ExportNamedDeclaration l = part "declaration" ∷ list "specifiers" 1 ∷ part "source" ∷ []
statement_fields k.ExportDefaultDeclaration l = part "declaration" ∷ []
statement_fields k.ExportAllDeclaration l = part "exported" ∷ part "source" ∷ []
statement_fields k.ExportSpecifier l = ends "local" "exported" ∷ []
statement_fields kind l = []

-- Expressions and patterns. What is none is in the table above
abbrev pub expression_fields : Kind → Label → List Field
expression_fields k.ArrayExpression l = list "elements" 0 ∷ []
expression_fields k.ArrayPattern l = list "elements" 0 ∷ []
expression_fields k.ObjectExpression l = list "properties" 0 ∷ []
expression_fields k.ObjectPattern l = list "properties" 0 ∷ []
expression_fields k.SpreadElement l = part "argument" ∷ []
expression_fields k.RestElement l = part "argument" ∷ []
expression_fields k.AssignmentPattern l = part "left" ∷ part "right" ∷ []
expression_fields k.SequenceExpression l = list "expressions" 0 ∷ []
expression_fields k.ConditionalExpression l = part "test" ∷ part "consequent" ∷ part "alternate" ∷ []
expression_fields k.UnaryExpression l = part "argument" ∷ says "operator" (string l.text) ∷ says "prefix" (boolean true) ∷ []
expression_fields k.UpdateExpression l = part "argument" ∷ says "operator" (string l.text) ∷ says "prefix" (boolean l.flags.prefix) ∷ []
expression_fields k.AwaitExpression l = part "argument" ∷ []
expression_fields k.YieldExpression l = part "argument" ∷ says "delegate" (boolean (is_generator l.flags.form)) ∷ []
expression_fields k.BinaryExpression l = part "left" ∷ part "right" ∷ says "operator" (string l.text) ∷ []
expression_fields k.LogicalExpression l = part "left" ∷ part "right" ∷ says "operator" (string l.text) ∷ []
expression_fields k.AssignmentExpression l = part "left" ∷ part "right" ∷ says "operator" (string l.text) ∷ []
expression_fields k.ChainExpression l = part "expression" ∷ []
expression_fields k.CallExpression l = part "callee" ∷ list "arguments" 0 ∷ says "optional" (boolean l.flags.optional) ∷ []
expression_fields k.NewExpression l = part "callee" ∷ list "arguments" 0 ∷ []
expression_fields k.ImportExpression l = part "source" ∷ []
expression_fields k.MemberExpression l =
    part "object" ∷ part "property" ∷
    says "computed" (boolean l.flags.computed) ∷ says "optional" (boolean l.flags.optional) ∷ []
expression_fields k.MetaProperty l = part "meta" ∷ part "property" ∷ []
expression_fields k.TaggedTemplateExpression l = part "tag" ∷ part "quasi" ∷ []
expression_fields kind l = statement_fields kind l

-- Functions, classes and properties. What is none is in the table above
abbrev pub function_fields : Kind → Label → List Field
function_fields k.FunctionDeclaration l =
    part "id" ∷ list "params" 1 ∷
    part "body" ∷ says "generator" (boolean (is_generator l.flags.form)) ∷ says "async" (boolean (is_async l.flags.form)) ∷ []
function_fields k.FunctionExpression l =
    part "id" ∷ list "params" 1 ∷
    part "body" ∷ says "generator" (boolean (is_generator l.flags.form)) ∷ says "async" (boolean (is_async l.flags.form)) ∷ []
function_fields k.ArrowFunctionExpression l =
    says "id" null ∷ list "params" 1 ∷ part "body" ∷
    says "expression" (boolean l.flags.expression) ∷ says "generator" (boolean (is_generator l.flags.form)) ∷ says "async" (boolean (is_async l.flags.form)) ∷ []
function_fields k.ClassDeclaration l = part "id" ∷ part "superClass" ∷ part "body" ∷ []
function_fields k.ClassExpression l = part "id" ∷ part "superClass" ∷ part "body" ∷ []
function_fields k.ClassBody l = list "body" 0 ∷ []
function_fields k.StaticBlock l = list "body" 0 ∷ []
function_fields k.PropertyDefinition l = part "key" ∷ part "value" ∷ says "computed" (boolean l.flags.computed) ∷ says "static" (boolean l.flags.is_static) ∷ []
function_fields k.MethodDefinition l =
    part "key" ∷ part "value" ∷
    says "kind" (string (method_kind l.flags.form)) ∷ says "computed" (boolean l.flags.computed) ∷ says "static" (boolean l.flags.is_static) ∷ []
function_fields k.Property l =
    part "key" ∷ part "value" ∷ says "kind" (string (property_kind l.flags.form)) ∷
    says "method" (boolean (is_method l.flags.form)) ∷ says "shorthand" (boolean (is_shorthand l.flags.form)) ∷ says "computed" (boolean l.flags.computed) ∷ []
function_fields kind l = expression_fields kind l

-- The fields of a node; the flag says that it is the last part of the node that it is in. Names, literals and templates stand here, all
-- else is in the tables above
abbrev pub fields : Bool → Kind → Label → List Field
fields is_last k.Identifier l = says "name" (string l.text) ∷ []
fields is_last k.PrivateIdentifier l = says "name" (string l.text) ∷ []
fields is_last k.Literal l = says "raw" (string l.text) ∷ may "value" (literal_value l.text) ∷ may "regex" (literal_regex l.text) ∷ []
fields is_last k.TemplateLiteral l = turns "quasis" "expressions" ∷ []
fields is_last k.TemplateElement l = says "value" (template_value l.text) ∷ says "tail" (boolean is_last) ∷ []
fields is_last kind l = function_fields kind l
