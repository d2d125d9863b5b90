-- What the JSON of a node tells, places aside, of its kind, text, flags and parts.
use Rattle.std.proofs.Common.{◌≡◌, ℕ, Bool, true, false, cond, ◌-◌, List, [], ◌∷◌, ◌++◌, length, take, drop, Option, Some, None, refl, sym, ap, ◌∙◌}
use Rattle.std.specs.Prelude.{bytes_eq, codes, if◌then◌else◌}
use Prim.Native.String.{String}
use Rattle.std.proofs.lemmas.Bool.{false≢true}
use Rattle.serde_json.specs.Data.{Data, null, boolean, string, array, object, Items, no_items, item, Members, no_members, member}
use Rattle.serde_json.specs.View.{items_of}
use Rattle.tree.specs.declared.kind.Kind.{Kind}
use Rattle.tree.specs.declared.kind.Kind.TheVariants as kind
use Rattle.tree.specs.declared.kind.Flags.{Flags}
use Rattle.tree.specs.declared.kind.Form.{Form}
use Rattle.tree.specs.declared.kind.Form.TheVariants.{Init, Get, Set, Method, Shorthand, Constructor, Generator, Async, AsyncGenerator}
use Rattle.tree.specs.Tree.{node, Parts, plain}
use Rattle.tree.specs.Kinds.{type_name}
use Rattle.tree.specs.Uses.{has_text, used_flags, is_function_form, is_generator, is_async}
use Rattle.estree_json.specs.Fields as f
use Rattle.estree_json.specs.Fields.{directive, first_text}
use Rattle.estree_json.specs.Texts.{unquoted, literal_value, literal_regex, with_cooked, cooked_of_units}
use Rattle.estree_json.specs.Json.{first_or_null, odd_ones, with_value, with_part, with_list, with_ends, with_turns, with_option, with_fields, begun, label_of, node_json, parts_json}
use Rattle.json_laws.specs.Placeless.{without_places, items_without, is_specifier}

-- ---- the values of an object's members

abbrev find : List ℕ → Members → Data
find key no_members = null
find key (member l d ms) = cond (bytes_eq key l) d (find key ms)

abbrev pub field : String → Data → Data
field name (object ms) = find (codes name) ms
field name _ = null

abbrev text_in : Data → List ℕ
text_in (string w) = w
text_in _ = []

abbrev holds_in : Data → Bool
holds_in (boolean b) = b
holds_in _ = false

abbrev is_text : Data → Bool
is_text (string w) = true
is_text _ = false

abbrev back : Items → List Data
back no_items = []
back (item d ds) = d ∷ back ds

abbrev list_in : Data → List Data
list_in (array ds) = back ds
list_in _ = []

-- ---- parts

-- how the members of a kind name a node's parts: each by itself; or an array of all, of those behind the first, before the last, or between the two; or
-- two arrays in turns; or two names of one or two parts
pub data Names : Type 0 where
  names : List String → Names
  a_list : String → Names
  first_list list_last turns alias : String → String → Names
  first_list_last : String → String → String → Names

abbrev pub parts_table : Kind → Names
parts_table kind.Program = a_list "body"
parts_table kind.ArrayExpression = a_list "elements"
parts_table kind.ObjectExpression = a_list "properties"
parts_table kind.Property = names ("key" ∷ "value" ∷ [])
parts_table kind.SpreadElement = names ("argument" ∷ [])
parts_table kind.FunctionExpression = first_list_last "id" "params" "body"
parts_table kind.ArrowFunctionExpression = list_last "params" "body"
parts_table kind.ClassExpression = names ("id" ∷ "superClass" ∷ "body" ∷ [])
parts_table kind.ClassBody = a_list "body"
parts_table kind.MethodDefinition = names ("key" ∷ "value" ∷ [])
parts_table kind.PropertyDefinition = names ("key" ∷ "value" ∷ [])
parts_table kind.StaticBlock = a_list "body"
parts_table kind.TemplateLiteral = turns "quasis" "expressions"
parts_table kind.TaggedTemplateExpression = names ("tag" ∷ "quasi" ∷ [])
parts_table kind.MemberExpression = names ("object" ∷ "property" ∷ [])
parts_table kind.CallExpression = first_list "callee" "arguments"
parts_table kind.NewExpression = first_list "callee" "arguments"
parts_table kind.MetaProperty = names ("meta" ∷ "property" ∷ [])
parts_table kind.ImportExpression = names ("source" ∷ [])
parts_table kind.ChainExpression = names ("expression" ∷ [])
parts_table kind.UpdateExpression = names ("argument" ∷ [])
parts_table kind.UnaryExpression = names ("argument" ∷ [])
parts_table kind.AwaitExpression = names ("argument" ∷ [])
parts_table kind.BinaryExpression = names ("left" ∷ "right" ∷ [])
parts_table kind.LogicalExpression = names ("left" ∷ "right" ∷ [])
parts_table kind.ConditionalExpression = names ("test" ∷ "consequent" ∷ "alternate" ∷ [])
parts_table kind.AssignmentExpression = names ("left" ∷ "right" ∷ [])
parts_table kind.SequenceExpression = a_list "expressions"
parts_table kind.YieldExpression = names ("argument" ∷ [])
parts_table kind.ArrayPattern = a_list "elements"
parts_table kind.ObjectPattern = a_list "properties"
parts_table kind.AssignmentPattern = names ("left" ∷ "right" ∷ [])
parts_table kind.RestElement = names ("argument" ∷ [])
parts_table kind.ExpressionStatement = names ("expression" ∷ [])
parts_table kind.BlockStatement = a_list "body"
parts_table kind.ReturnStatement = names ("argument" ∷ [])
parts_table kind.ThrowStatement = names ("argument" ∷ [])
parts_table kind.BreakStatement = names ("label" ∷ [])
parts_table kind.ContinueStatement = names ("label" ∷ [])
parts_table kind.LabeledStatement = names ("label" ∷ "body" ∷ [])
parts_table kind.IfStatement = names ("test" ∷ "consequent" ∷ "alternate" ∷ [])
parts_table kind.SwitchStatement = first_list "discriminant" "cases"
parts_table kind.SwitchCase = first_list "test" "consequent"
parts_table kind.TryStatement = names ("block" ∷ "handler" ∷ "finalizer" ∷ [])
parts_table kind.CatchClause = names ("param" ∷ "body" ∷ [])
parts_table kind.WhileStatement = names ("test" ∷ "body" ∷ [])
parts_table kind.DoWhileStatement = names ("body" ∷ "test" ∷ [])
parts_table kind.ForStatement = names ("init" ∷ "test" ∷ "update" ∷ "body" ∷ [])
parts_table kind.ForInStatement = names ("left" ∷ "right" ∷ "body" ∷ [])
parts_table kind.ForOfStatement = names ("left" ∷ "right" ∷ "body" ∷ [])
parts_table kind.VariableDeclaration = a_list "declarations"
parts_table kind.VariableDeclarator = names ("id" ∷ "init" ∷ [])
parts_table kind.FunctionDeclaration = first_list_last "id" "params" "body"
parts_table kind.ClassDeclaration = names ("id" ∷ "superClass" ∷ "body" ∷ [])
parts_table kind.ImportDeclaration = list_last "specifiers" "source"
parts_table kind.ImportSpecifier = alias "imported" "local"
parts_table kind.ImportDefaultSpecifier = names ("local" ∷ [])
parts_table kind.ImportNamespaceSpecifier = names ("local" ∷ [])
parts_table kind.ExportNamedDeclaration = first_list_last "declaration" "specifiers" "source"
parts_table kind.ExportSpecifier = alias "local" "exported"
parts_table kind.ExportDefaultDeclaration = names ("declaration" ∷ [])
parts_table kind.ExportAllDeclaration = names ("exported" ∷ "source" ∷ [])
parts_table _ = names []

-- the first of one list, the first of the other, and so on
abbrev pub interleave : List Data → List Data → List Data
interleave [] es = []
interleave (d ∷ ds) [] = d ∷ []
interleave (d ∷ ds) (e ∷ es) = d ∷ e ∷ interleave ds es

abbrev told_each : List String → Data → List Data
told_each [] d = []
told_each (s ∷ ss) d = field s d ∷ told_each ss d

-- the values of a node's parts, from its own
abbrev pub told_parts : Names → Form → Data → List Data
told_parts (names ss) form d = told_each ss d
told_parts (a_list s) form d = list_in (field s d)
told_parts (first_list s t) form d = field s d ∷ list_in (field t d)
told_parts (list_last s t) form d = list_in (field s d) ++ field t d ∷ []
told_parts (first_list_last s t u) form d = field s d ∷ (list_in (field t d) ++ field u d ∷ [])
told_parts (turns s t) form d = interleave (list_in (field s d)) (list_in (field t d))
told_parts (alias s t) Shorthand d = field s d ∷ []
told_parts (alias s t) _ d = field s d ∷ field t d ∷ []

abbrev pub shown : Data → Data
shown d = without_places d

-- an array's values, as they are read back
abbrev pub listed : List Data → List Data
listed ds = back (items_without (items_of ds))

abbrev pub by_each : List String → List Data → List Data
by_each [] ds = []
by_each (s ∷ ss) ds = shown (first_or_null ds) ∷ by_each ss (drop 1 ds)

-- and from the values that were sent
abbrev pub by_names : Names → Form → List Data → List Data
by_names (names ss) form ds = by_each ss ds
by_names (a_list s) form ds = listed (take (length ds - 0) ds)
by_names (first_list s t) form ds = shown (first_or_null ds) ∷ listed (take (length (drop 1 ds) - 0) (drop 1 ds))
by_names (list_last s t) form ds = listed (take (length ds - 1) ds) ++ shown (first_or_null (drop (length ds - 1) ds)) ∷ []
by_names (first_list_last s t u) form ds =
    shown (first_or_null ds) ∷ (listed (take (length (drop 1 ds) - 1) (drop 1 ds)) ++ shown (first_or_null (drop (length (drop 1 ds) - 1) (drop 1 ds))) ∷ [])
by_names (turns s t) form ds = interleave (listed (odd_ones ds)) (listed (odd_ones (drop 1 ds)))
by_names (alias s t) Shorthand ds = shown (first_or_null ds) ∷ []
by_names (alias s t) _ ds = shown (first_or_null ds) ∷ shown (first_or_null (drop (length ds - 1) ds)) ∷ []

unfoldable pub computing : ℕ
unfolding node_json with_value with_part with_list with_ends with_turns with_option
computing = 0

-- a statement, whatever its directive
abbrev statement_shown : Option Data → ℕ → ℕ → List Data → Data
statement_shown o s e ds = shown (object (with_fields (f.part "expression" ∷ f.may "directive" o ∷ []) (begun kind.ExpressionStatement s e ds)).members)

statement_part : (o : Option Data) (s e : ℕ) (ds : List Data) → field "expression" (statement_shown o s e ds) ≡ shown (first_or_null ds)
unfolding computing
statement_part None s e ds = refl
statement_part (Some d) s e ds = refl

statement_type : (o : Option Data) (s e : ℕ) (ds : List Data) → field "type" (statement_shown o s e ds) ≡ string (type_name kind.ExpressionStatement)
unfolding computing
statement_type None s e ds = refl
statement_type (Some d) s e ds = refl

specifier_told : (form : Form) (s t : String) (d : Data) (ds : List Data) → field s d ≡ shown (first_or_null ds) → field t d ≡ shown (first_or_null (drop (length ds - 1) ds)) →
    told_parts (alias s t) form d ≡ by_names (alias s t) form ds
specifier_told Shorthand s t d ds h k = λ i. h i ∷ []
specifier_told _ s t d ds h k = λ i. h i ∷ k i ∷ []

pub parts_told : (b : Bool) (k : Kind) (w : List ℕ) (g : Flags) (s e : ℕ) (ps : Parts) →
    told_parts (parts_table k) g.form (shown (node_json b (node k w g s e ps))) ≡ by_names (parts_table k) g.form (parts_json ps)
unfolding computing
parts_told b kind.ExpressionStatement w g s e ps = ap (λ d. d ∷ []) (statement_part (directive (label_of (node kind.ExpressionStatement w g s e ps))) s e (parts_json ps))
parts_told b kind.ImportSpecifier w g s e ps = specifier_told g.form "imported" "local" (shown (node_json b (node kind.ImportSpecifier w g s e ps))) (parts_json ps) refl refl
parts_told b kind.ExportSpecifier w g s e ps = specifier_told g.form "local" "exported" (shown (node_json b (node kind.ExportSpecifier w g s e ps))) (parts_json ps) refl refl
parts_told b _ w g s e ps = refl

-- ---- the kind

literal_type : (o p : Option Data) (w : List ℕ) (s e : ℕ) (ds : List Data) →
    field "type" (shown (object (with_fields (f.says "raw" (string w) ∷ f.may "value" o ∷ f.may "regex" p ∷ []) (begun kind.Literal s e ds)).members)) ≡ string (type_name kind.Literal)
unfolding computing
literal_type None None w s e ds = refl
literal_type None (Some d) w s e ds = refl
literal_type (Some d) None w s e ds = refl
literal_type (Some c) (Some d) w s e ds = refl

pub type_told : (b : Bool) (k : Kind) (w : List ℕ) (g : Flags) (s e : ℕ) (ps : Parts) → field "type" (shown (node_json b (node k w g s e ps))) ≡ string (type_name k)
unfolding computing
type_told b kind.ExpressionStatement w g s e ps = statement_type (directive (label_of (node kind.ExpressionStatement w g s e ps))) s e (parts_json ps)
type_told b kind.Literal w g s e ps = literal_type (literal_value w) (literal_regex w) w s e (parts_json ps)
type_told b _ w g s e ps = refl

abbrev all_kinds : List Kind
all_kinds =
    kind.Program ∷ kind.Identifier ∷ kind.PrivateIdentifier ∷ kind.Literal ∷ kind.ThisExpression ∷ kind.Super ∷ kind.ArrayExpression ∷
    kind.ObjectExpression ∷ kind.Property ∷ kind.SpreadElement ∷ kind.FunctionExpression ∷ kind.ArrowFunctionExpression ∷ kind.ClassExpression ∷
    kind.ClassBody ∷ kind.MethodDefinition ∷ kind.PropertyDefinition ∷ kind.StaticBlock ∷ kind.TemplateLiteral ∷ kind.TemplateElement ∷
    kind.TaggedTemplateExpression ∷ kind.MemberExpression ∷ kind.CallExpression ∷ kind.NewExpression ∷ kind.MetaProperty ∷ kind.ImportExpression
    ∷ kind.ChainExpression ∷ kind.UpdateExpression ∷ kind.UnaryExpression ∷ kind.AwaitExpression ∷ kind.BinaryExpression ∷
    kind.LogicalExpression ∷ kind.ConditionalExpression ∷ kind.AssignmentExpression ∷ kind.SequenceExpression ∷ kind.YieldExpression ∷
    kind.ArrayPattern ∷ kind.ObjectPattern ∷ kind.AssignmentPattern ∷ kind.RestElement ∷ kind.ExpressionStatement ∷ kind.BlockStatement ∷
    kind.EmptyStatement ∷ kind.DebuggerStatement ∷ kind.ReturnStatement ∷ kind.ThrowStatement ∷ kind.BreakStatement ∷ kind.ContinueStatement ∷
    kind.LabeledStatement ∷ kind.IfStatement ∷ kind.SwitchStatement ∷ kind.SwitchCase ∷ kind.TryStatement ∷ kind.CatchClause ∷
    kind.WhileStatement ∷ kind.DoWhileStatement ∷ kind.ForStatement ∷ kind.ForInStatement ∷ kind.ForOfStatement ∷ kind.VariableDeclaration ∷
    kind.VariableDeclarator ∷ kind.FunctionDeclaration ∷ kind.ClassDeclaration ∷ kind.ImportDeclaration ∷ kind.ImportSpecifier ∷
    kind.ImportDefaultSpecifier ∷ kind.ImportNamespaceSpecifier ∷ kind.ExportNamedDeclaration ∷ kind.ExportSpecifier ∷
    kind.ExportDefaultDeclaration ∷ kind.ExportAllDeclaration ∷ []

abbrev among_kinds : List ℕ → List Kind → Option Kind
among_kinds w [] = None
among_kinds w (k ∷ ks) = cond (bytes_eq w (type_name k)) (Some k) (among_kinds w ks)

named_back : (k : Kind) → among_kinds (type_name k) all_kinds ≡ Some k
named_back kind.Program = refl
named_back _ = refl

some_kind : (j k : Kind) → Some j ≡ Some k → j ≡ k
some_kind j k h = cc

pub same_kind : (j k : Kind) → string (type_name j) ≡ string (type_name k) → j ≡ k
same_kind j k h = some_kind j k (sym (named_back j) ∙ ap (λ d. among_kinds (text_in d) all_kinds) h ∙ named_back k)

-- ---- the text

-- a Program's text isn't told
abbrev pub says_text : Kind → Bool
says_text kind.Program = false
says_text k = has_text k

abbrev pub told_text : Kind → Data → List ℕ
told_text kind.Identifier d = text_in (field "name" d)
told_text kind.PrivateIdentifier d = text_in (field "name" d)
told_text kind.Literal d = text_in (field "raw" d)
told_text kind.TemplateElement d = text_in (field "raw" (field "value" d))
told_text kind.UpdateExpression d = text_in (field "operator" d)
told_text kind.UnaryExpression d = text_in (field "operator" d)
told_text kind.BinaryExpression d = text_in (field "operator" d)
told_text kind.LogicalExpression d = text_in (field "operator" d)
told_text kind.AssignmentExpression d = text_in (field "operator" d)
told_text kind.VariableDeclaration d = text_in (field "kind" d)
told_text _ d = []

literal_text : (o p : Option Data) (w : List ℕ) (s e : ℕ) (ds : List Data) →
    text_in (field "raw" (shown (object (with_fields (f.says "raw" (string w) ∷ f.may "value" o ∷ f.may "regex" p ∷ []) (begun kind.Literal s e ds)).members))) ≡ w
unfolding computing
literal_text None None w s e ds = refl
literal_text None (Some d) w s e ds = refl
literal_text (Some d) None w s e ds = refl
literal_text (Some c) (Some d) w s e ds = refl

template_text : (o : Option Data) (w : List ℕ) → text_in (field "raw" (shown (object (with_cooked o (member (codes "raw") (string w) no_members))))) ≡ w
template_text None w = refl
template_text (Some d) w = refl

pub text_told : (b : Bool) (k : Kind) (w : List ℕ) (g : Flags) (s e : ℕ) (ps : Parts) → told_text k (shown (node_json b (node k w g s e ps))) ≡ cond (says_text k) w []
unfolding computing
text_told b kind.Literal w g s e ps = literal_text (literal_value w) (literal_regex w) w s e (parts_json ps)
text_told b kind.TemplateElement w g s e ps = template_text (cooked_of_units (Rattle.tokens.specs.Templates.cooked_value (Rattle.std.specs.Str.chars w))) w
text_told b _ w g s e ps = refl

-- ---- the flags

abbrev property_form : Data → Data → Data → Form
property_form sort method shorthand =
    cond (holds_in method) Method (cond (holds_in shorthand) Shorthand (cond (bytes_eq (text_in sort) (codes "get")) Get (cond (bytes_eq (text_in sort) (codes "set")) Set Init)))

abbrev method_form : Data → Form
method_form sort =
    cond (bytes_eq (text_in sort) (codes "get")) Get (cond (bytes_eq (text_in sort) (codes "set")) Set (cond (bytes_eq (text_in sort) (codes "constructor")) Constructor Method))

abbrev function_form : Data → Data → Form
function_form generator async = cond (holds_in generator) (cond (holds_in async) AsyncGenerator Generator) (cond (holds_in async) Async Init)

-- the flags that a kind uses; of a specifier the form isn't told
abbrev pub told_flags : Kind → Form → Data → Flags
told_flags kind.Property form d = record plain { computed = holds_in (field "computed" d); form = property_form (field "kind" d) (field "method" d) (field "shorthand" d) }
told_flags kind.MethodDefinition form d = record plain { computed = holds_in (field "computed" d); is_static = holds_in (field "static" d); form = method_form (field "kind" d) }
told_flags kind.MemberExpression form d = record plain { computed = holds_in (field "computed" d); optional = holds_in (field "optional" d) }
told_flags kind.CallExpression form d = record plain { optional = holds_in (field "optional" d) }
told_flags kind.UpdateExpression form d = record plain { prefix = holds_in (field "prefix" d) }
told_flags kind.FunctionExpression form d = record plain { form = function_form (field "generator" d) (field "async" d) }
told_flags kind.FunctionDeclaration form d = record plain { form = function_form (field "generator" d) (field "async" d) }
told_flags kind.ArrowFunctionExpression form d = record plain { expression = holds_in (field "expression" d); form = function_form (field "generator" d) (field "async" d) }
told_flags kind.ExpressionStatement form d = record plain { directive = is_text (field "directive" d) }
told_flags kind.PropertyDefinition form d = record plain { computed = holds_in (field "computed" d); is_static = holds_in (field "static" d) }
told_flags kind.YieldExpression form d = record plain { form = cond (holds_in (field "delegate" d)) Generator Init }
told_flags kind.ForOfStatement form d = record plain { form = cond (holds_in (field "await" d)) Async Init }
told_flags kind.ImportSpecifier form d = record plain { form = form }
told_flags kind.ExportSpecifier form d = record plain { form = form }
told_flags _ form d = plain

abbrev is_property_form : Form → Bool
is_property_form Constructor = false
is_property_form Generator = false
is_property_form Async = false
is_property_form AsyncGenerator = false
is_property_form _ = true

abbrev pub is_method_form : Form → Bool
is_method_form Get = true
is_method_form Set = true
is_method_form Method = true
is_method_form Constructor = true
is_method_form _ = false

abbrev is_init_or : Form → Form → Bool
is_init_or Generator Generator = true
is_init_or Async Async = true
is_init_or form Init = true
is_init_or form _ = false

-- the forms that the nodes of a kind may have
abbrev pub form_fits : Kind → Form → Bool
form_fits kind.Property form = is_property_form form
form_fits kind.MethodDefinition form = is_method_form form
form_fits kind.FunctionExpression form = is_function_form form
form_fits kind.FunctionDeclaration form = is_function_form form
form_fits kind.ArrowFunctionExpression form = is_function_form form
form_fits kind.YieldExpression form = is_init_or Generator form
form_fits kind.ForOfStatement form = is_init_or Async form
form_fits _ form = true

property_back : (form : Form) → is_property_form form ≡ true → property_form (string (f.property_kind form)) (boolean (f.is_method form)) (boolean (f.is_shorthand form)) ≡ form
property_back Init h = refl
property_back Get h = refl
property_back Set h = refl
property_back Method h = refl
property_back Shorthand h = refl
property_back _ h = absurd (false≢true h)

method_back : (form : Form) → is_method_form form ≡ true → method_form (string (f.method_kind form)) ≡ form
method_back Get h = refl
method_back Set h = refl
method_back Method h = refl
method_back Constructor h = refl
method_back _ h = absurd (false≢true h)

function_back : (form : Form) → is_function_form form ≡ true → function_form (boolean (is_generator form)) (boolean (is_async form)) ≡ form
function_back Init h = refl
function_back Generator h = refl
function_back Async h = refl
function_back AsyncGenerator h = refl
function_back _ h = absurd (false≢true h)

yield_back : (form : Form) → is_init_or Generator form ≡ true → cond (is_generator form) Generator Init ≡ form
yield_back Init h = refl
yield_back Generator h = refl
yield_back _ h = absurd (false≢true h)

loop_back : (form : Form) → is_init_or Async form ≡ true → cond (is_async form) Async Init ≡ form
loop_back Init h = refl
loop_back Async h = refl
loop_back _ h = absurd (false≢true h)

directive_back : (b : Bool) (w : List ℕ) (s e : ℕ) (ds : List Data) → is_text (field "directive" (statement_shown (if b then Some (string w) else None) s e ds)) ≡ b
unfolding computing
directive_back true w s e ds = refl
directive_back false w s e ds = refl

pub flags_told : (b : Bool) (k : Kind) (w : List ℕ) (g : Flags) (s e : ℕ) (ps : Parts) → form_fits k g.form ≡ true → told_flags k g.form (shown (node_json b (node k w g s e ps))) ≡ used_flags k g
unfolding computing
flags_told b kind.Property w g s e ps h = ap (λ x. record plain { computed = g.computed; form = x }) (property_back g.form h)
flags_told b kind.MethodDefinition w g s e ps h = ap (λ x. record plain { computed = g.computed; is_static = g.is_static; form = x }) (method_back g.form h)
flags_told b kind.FunctionExpression w g s e ps h = ap (λ x. record plain { form = x }) (function_back g.form h)
flags_told b kind.FunctionDeclaration w g s e ps h = ap (λ x. record plain { form = x }) (function_back g.form h)
flags_told b kind.ArrowFunctionExpression w g s e ps h = ap (λ x. record plain { expression = g.expression; form = x }) (function_back g.form h)
flags_told b kind.YieldExpression w g s e ps h = ap (λ x. record plain { form = x }) (yield_back g.form h)
flags_told b kind.ForOfStatement w g s e ps h = ap (λ x. record plain { form = x }) (loop_back g.form h)
flags_told b kind.ExpressionStatement w g s e ps h = ap (λ x. record plain { directive = x }) (directive_back g.directive (unquoted (first_text ps)) s e (parts_json ps))
flags_told b _ w g s e ps h = refl

-- only of a specifier the form is taken from elsewhere
pub told_by_form : (k : Kind) (x y : Form) (d : Data) → (is_specifier k ≡ true → x ≡ y) → told_flags k x d ≡ told_flags k y d
told_by_form kind.ImportSpecifier x y d h = ap (λ z. record plain { form = z }) (h refl)
told_by_form kind.ExportSpecifier x y d h = ap (λ z. record plain { form = z }) (h refl)
told_by_form _ x y d h = refl
