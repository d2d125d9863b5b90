-- What stands round the parts of a node, by its kind.
use Rattle.std.specs.Prelude.{ℕ, suc, Option, Some, None, ◌-◌, Bool, true, false, not, cond, List, [], ◌∷◌, codes, is_some}
use Prim.Native.String.{String}
use Rattle.tree.specs.declared.kind.Kind.{Kind}
use Rattle.tree.specs.declared.kind.Kind.TheVariants as kind
use Rattle.tree.specs.declared.kind.Form.{Form}
use Rattle.tree.specs.declared.kind.Form.TheVariants as form
use Rattle.tree.specs.declared.kind.Flags.{Flags}
use Rattle.tree.specs.Tree.{Parts, none, part, gap, kind_of, text_of, part_at, part_count}
use Rattle.language.specs.Vocabulary.{literal_class, is_open_number, is_identifier, is_word_operator, among}
use Rattle.language.specs.Expressions.{value_form}
use Rattle.language.specs.FirstPart.{lead, others}
use Rattle.tree.specs.Uses.{is_async}
use Rattle.printer.specs.declared.fragments.SignOperator.{SignOperator}
use Rattle.printer.specs.declared.fragments.SignOperator.TheVariants.{Plus, Minus}
use Rattle.language.specs.Pieces.{is_none}
use Rattle.spelling_table.specs.Outlines.{parts_after}
use Rattle.printer.specs.declared.site.Site.{Site}
use Rattle.printer.specs.declared.site.Site.TheVariants as site
use Rattle.printer.specs.declared.part_sites.PartSites.TheVariants.{AllPlain, ShorthandPair, KeyAndMethod, LoopHead, TemplateParts}
use Rattle.printer.specs.Bits.{Bit, token, own_text, newline, loosely, chunk, hashed, Chain, nothing, joined, commas, lines, feeds, parameters, Shape, asking, fronted, listed}

abbrev pub spelled : String → Bit
spelled s = token (codes s)

abbrev pub gapped : Bit
gapped = token (codes " ")

abbrev pub close_space : List Bit
close_space = spelled ")" ∷ gapped ∷ []

abbrev pub colon_space : List Bit
colon_space = spelled ":" ∷ gapped ∷ []

abbrev pub infix_bits : List Bit
infix_bits = gapped ∷ own_text ∷ gapped ∷ []

abbrev pub between : String → List Bit
between s = gapped ∷ spelled s ∷ gapped ∷ []

abbrev pub after_word : String → List Bit
after_word s = spelled s ∷ gapped ∷ []

abbrev pub headed : String → List Bit
headed s = spelled s ∷ gapped ∷ spelled "(" ∷ []

abbrev pub statement_end : List Bit
statement_end = spelled ";" ∷ []

abbrev pub function_list_shape : List (List Bit) → Shape
function_list_shape fs = record { front = fs; opener = spelled "(" ∷ []; chain = parameters close_space; closer = []; sites = AllPlain }

abbrev pub call_list_shape : List (List Bit) → List Bit → Shape
call_list_shape fs o = record { front = fs; opener = o; chain = commas; closer = spelled ")" ∷ []; sites = AllPlain }

-- a part stands at this place
abbrev pub has_part : Parts → ℕ → Bool
has_part ps i = is_some (part_at ps i)

-- Statements

abbrev pub for_shape : Bool → Bool → Shape
for_shape t u = asking LoopHead (headed "for" ∷ cond t (spelled ";" ∷ gapped ∷ []) statement_end ∷ cond u (spelled ";" ∷ gapped ∷ []) statement_end ∷ close_space ∷ []) []

abbrev pub do_shape : Shape
do_shape = fronted (after_word "do" ∷ (gapped ∷ spelled "while" ∷ gapped ∷ spelled "(" ∷ []) ∷ []) (spelled ")" ∷ spelled ";" ∷ [])

abbrev pub if_shape : Bool → Shape
if_shape b = fronted (headed "if" ∷ close_space ∷ cond b (between "else") [] ∷ []) []

abbrev pub try_shape : Bool → Bool → Shape
try_shape true true = fronted (after_word "try" ∷ (gapped ∷ []) ∷ between "finally" ∷ []) []
try_shape true false = fronted (after_word "try" ∷ (gapped ∷ []) ∷ [] ∷ []) []
try_shape false b = fronted (after_word "try" ∷ [] ∷ between "finally" ∷ []) []

-- a word, with a part behind it or none
abbrev pub word_shape : String → Bool → Shape
word_shape s b = fronted (cond b (after_word s) (spelled s ∷ []) ∷ []) statement_end

-- `yield`, by its form and whether it has an operand
abbrev pub yield_shape : Form → Bool → Shape
yield_shape form.Generator b = fronted ((spelled "yield" ∷ spelled "*" ∷ gapped ∷ []) ∷ []) []
yield_shape _ true = fronted (after_word "yield" ∷ []) []
yield_shape _ false = fronted ((spelled "yield" ∷ []) ∷ []) []

-- a for-of, by whether it awaits
abbrev pub for_of_shape : Bool → Shape
for_of_shape b = asking LoopHead ((spelled "for" ∷ gapped ∷ cond b (spelled "await" ∷ gapped ∷ spelled "(" ∷ []) (spelled "(" ∷ [])) ∷ between "of" ∷ close_space ∷ []) []

abbrev pub declarator_shape : Bool → Shape
declarator_shape b = fronted ([] ∷ cond b (between "=") [] ∷ []) []

abbrev pub head_shape : Shape
head_shape = listed (own_text ∷ gapped ∷ []) commas []

-- Lists of statements

-- parts on lines of their own, in braces; `filled` says that there is one
abbrev pub braced_shape : List (List Bit) → List Bit → Bool → Shape
braced_shape fs o true = record { front = fs; opener = o; chain = lines; closer = newline ∷ spelled "}" ∷ []; sites = AllPlain }
braced_shape fs o false = record { front = fs; opener = o; chain = nothing; closer = spelled "}" ∷ []; sites = AllPlain }

abbrev pub case_shape : Bool → Shape
case_shape true = record { front = after_word "case" ∷ []; opener = spelled ":" ∷ []; chain = lines; closer = []; sites = AllPlain }
case_shape false = record { front = [] ∷ []; opener = spelled "default" ∷ spelled ":" ∷ []; chain = lines; closer = []; sites = AllPlain }

abbrev pub catch_shape : Bool → Shape
catch_shape true = fronted (headed "catch" ∷ close_space ∷ []) []
catch_shape false = fronted ([] ∷ after_word "catch" ∷ []) []

-- Functions, classes, properties and members

abbrev pub method_shape : Shape
method_shape = function_list_shape ([] ∷ [])

-- an arrow with one parameter, which is a name
abbrev pub is_single : Parts → Bool
is_single (part n (part b none)) = is_identifier (kind_of n)
is_single _ = false

-- the words of a function, by its form
abbrev pub function_bits : Form → List Bit
function_bits form.Generator = spelled "function" ∷ spelled "*" ∷ gapped ∷ []
function_bits form.Async = spelled "async" ∷ gapped ∷ spelled "function" ∷ gapped ∷ []
function_bits form.AsyncGenerator = spelled "async" ∷ gapped ∷ spelled "function" ∷ spelled "*" ∷ gapped ∷ []
function_bits _ = after_word "function"

-- by whether it is async, and whether its one parameter is a name
abbrev pub arrow_shape : Bool → Bool → Shape
arrow_shape x true = fronted (cond x (after_word "async") [] ∷ between "=>" ∷ []) []
arrow_shape x false = listed (cond x (spelled "async" ∷ gapped ∷ spelled "(" ∷ []) (spelled "(" ∷ [])) (parameters (spelled ")" ∷ between "=>")) []

abbrev pub class_shape : Bool → Bool → Shape
class_shape true true = fronted (after_word "class" ∷ between "extends" ∷ (gapped ∷ []) ∷ []) []
class_shape true false = fronted (after_word "class" ∷ (gapped ∷ []) ∷ [] ∷ []) []
class_shape false true = fronted (after_word "class" ∷ after_word "extends" ∷ (gapped ∷ []) ∷ []) []
class_shape false false = fronted (after_word "class" ∷ [] ∷ [] ∷ []) []

-- the key of a method, computed or not
abbrev pub method_key : List Bit → List Bit → Bool → Shape
method_key plain bracketed b = asking KeyAndMethod (cond b (bracketed ∷ (spelled "]" ∷ []) ∷ []) (plain ∷ [] ∷ [])) []

abbrev pub value_shape : Bool → Shape
value_shape b = fronted (cond b ((spelled "[" ∷ []) ∷ (spelled "]" ∷ colon_space) ∷ []) ([] ∷ colon_space ∷ [])) []

abbrev pub getter_shape : Bool → Shape
getter_shape b = method_key (after_word "get") (spelled "get" ∷ gapped ∷ spelled "[" ∷ []) b

abbrev pub setter_shape : Bool → Shape
setter_shape b = method_key (after_word "set") (spelled "set" ∷ gapped ∷ spelled "[" ∷ []) b

abbrev pub plain_shape : Bool → Shape
plain_shape b = method_key [] (spelled "[" ∷ []) b

abbrev pub generator_shape : Bool → Shape
generator_shape b = method_key (spelled "*" ∷ []) (spelled "*" ∷ spelled "[" ∷ []) b

abbrev pub async_shape : Bool → Shape
async_shape b = method_key (after_word "async") (spelled "async" ∷ gapped ∷ spelled "[" ∷ []) b

abbrev pub async_generator_shape : Bool → Shape
async_generator_shape b = method_key (spelled "async" ∷ gapped ∷ spelled "*" ∷ []) (spelled "async" ∷ gapped ∷ spelled "*" ∷ spelled "[" ∷ []) b

-- a method, by the form of its function
abbrev pub method_form_shape : Form → Bool → Shape
method_form_shape form.Generator b = generator_shape b
method_form_shape form.Async b = async_shape b
method_form_shape form.AsyncGenerator b = async_generator_shape b
method_form_shape _ b = plain_shape b

abbrev pub static_form_shape : Form → Bool → Shape
static_form_shape form.Generator b = method_key (spelled "static" ∷ gapped ∷ spelled "*" ∷ []) (spelled "static" ∷ gapped ∷ spelled "*" ∷ spelled "[" ∷ []) b
static_form_shape form.Async b = method_key (spelled "static" ∷ gapped ∷ after_word "async") (spelled "static" ∷ gapped ∷ spelled "async" ∷ gapped ∷ spelled "[" ∷ []) b
static_form_shape form.AsyncGenerator b = method_key (spelled "static" ∷ gapped ∷ spelled "async" ∷ gapped ∷ spelled "*" ∷ []) (spelled "static" ∷ gapped ∷ spelled "async" ∷ gapped ∷ spelled "*" ∷ spelled "[" ∷ []) b
static_form_shape _ b = method_key (after_word "static") (spelled "static" ∷ gapped ∷ spelled "[" ∷ []) b

-- a static member, by its form and that of its function
abbrev pub static_shape : Form → Form → Bool → Shape
static_shape form.Get x b = method_key (spelled "static" ∷ gapped ∷ after_word "get") (spelled "static" ∷ gapped ∷ spelled "get" ∷ gapped ∷ spelled "[" ∷ []) b
static_shape form.Set x b = method_key (spelled "static" ∷ gapped ∷ after_word "set") (spelled "static" ∷ gapped ∷ spelled "set" ∷ gapped ∷ spelled "[" ∷ []) b
static_shape _ x b = static_form_shape x b

-- a property, by its form and that of its value
abbrev pub property_shape : Form → Form → Bool → Shape
property_shape form.Get x b = getter_shape b
property_shape form.Set x b = setter_shape b
property_shape form.Method x b = method_form_shape x b
property_shape form.Constructor x b = plain_shape b
property_shape form.Shorthand x b = asking ShorthandPair ([] ∷ [] ∷ []) []
property_shape _ x b = value_shape b

abbrev pub own_member_shape : Form → Form → Bool → Shape
own_member_shape form.Get x b = getter_shape b
own_member_shape form.Set x b = setter_shape b
own_member_shape _ x b = method_form_shape x b

abbrev pub class_member_shape : Bool → Form → Form → Bool → Shape
class_member_shape true x y b = static_shape x y b
class_member_shape false x y b = own_member_shape x y b

-- a field: before its key, by whether it is static and computed
abbrev pub field_front : Bool → Bool → List Bit
field_front false false = []
field_front false true = spelled "[" ∷ []
field_front true false = after_word "static"
field_front true true = spelled "static" ∷ gapped ∷ spelled "[" ∷ []

-- behind its key, by whether that is computed, and whether a value follows
abbrev pub behind_field : Bool → Bool → List Bit
behind_field c v = cond c (spelled "]" ∷ cond v (between "=") []) (cond v (between "=") [])

abbrev pub field_shape : Bool → Bool → Bool → Shape
field_shape s c v = fronted (field_front s c ∷ behind_field c v ∷ []) statement_end

-- Imports and exports

abbrev pub names_from : Chain
names_from = parameters (spelled "}" ∷ between "from")

abbrev pub default_import_shape : Kind → Shape
default_import_shape kind.ImportSpecifier = record { front = after_word "import" ∷ []; opener = spelled "," ∷ gapped ∷ spelled "{" ∷ []; chain = names_from; closer = statement_end; sites = AllPlain }
default_import_shape kind.ImportNamespaceSpecifier = fronted (after_word "import" ∷ (spelled "," ∷ gapped ∷ []) ∷ between "from" ∷ []) statement_end
default_import_shape _ = fronted (after_word "import" ∷ between "from" ∷ []) statement_end

-- an import, by the kinds of its first two parts
abbrev pub import_shape : Kind → Kind → Shape
import_shape kind.ImportDefaultSpecifier j = default_import_shape j
import_shape kind.ImportNamespaceSpecifier j = fronted (after_word "import" ∷ between "from" ∷ []) statement_end
import_shape kind.ImportSpecifier j = listed (spelled "import" ∷ gapped ∷ spelled "{" ∷ []) names_from statement_end
import_shape k j = fronted (after_word "import" ∷ []) statement_end

-- one name, or two
abbrev pub alias_shape : Bool → Shape
alias_shape true = fronted ([] ∷ between "as" ∷ []) []
alias_shape false = fronted ([] ∷ []) []

-- an export, by whether it has a declaration, and a source
abbrev pub export_shape : Bool → Bool → Shape
export_shape true b = fronted (after_word "export" ∷ [] ∷ []) []
export_shape false b = record { front = after_word "export" ∷ []; opener = spelled "{" ∷ []; chain = cond b names_from (parameters (spelled "}" ∷ [])); closer = statement_end; sites = AllPlain }

abbrev pub is_default_declaration : Kind → Bool
is_default_declaration kind.FunctionDeclaration = true
is_default_declaration kind.ClassDeclaration = true
is_default_declaration _ = false

abbrev pub default_shape : Bool → Shape
default_shape b = fronted ((spelled "export" ∷ gapped ∷ spelled "default" ∷ gapped ∷ []) ∷ []) (cond b [] statement_end)

abbrev pub export_all_shape : Bool → Shape
export_all_shape true = fronted ((spelled "export" ∷ gapped ∷ spelled "*" ∷ gapped ∷ spelled "as" ∷ gapped ∷ []) ∷ between "from" ∷ []) statement_end
export_all_shape false = fronted (after_word "export" ∷ (spelled "*" ∷ between "from") ∷ []) statement_end

-- Expressions

abbrev pub update_shape : Bool → Shape
update_shape true = fronted ((own_text ∷ []) ∷ []) []
update_shape false = fronted ([] ∷ []) (own_text ∷ [])

abbrev pub unary_shape : List ℕ → Shape
unary_shape w = fronted (cond (is_word_operator w) (own_text ∷ gapped ∷ []) (own_text ∷ []) ∷ []) []

abbrev pub is_open_literal : Kind → List ℕ → Bool
is_open_literal kind.Literal w = is_open_number (literal_class w) w
is_open_literal _ w = false

abbrev pub after_open_number : Parts → Bool
after_open_number none = false
after_open_number (part n ps) = is_open_literal (kind_of n) (text_of n)
after_open_number (gap ps) = false

-- by whether it is optional, computed, and stands behind such a number
abbrev pub member_shape : Bool → Bool → Bool → Shape
member_shape false true b = fronted ([] ∷ (spelled "[" ∷ []) ∷ []) (spelled "]" ∷ [])
member_shape true true b = fronted ([] ∷ (spelled "?." ∷ spelled "[" ∷ []) ∷ []) (spelled "]" ∷ [])
member_shape true false b = fronted ([] ∷ (spelled "?." ∷ []) ∷ []) []
member_shape false false true = fronted ([] ∷ (loosely ∷ spelled "." ∷ []) ∷ []) []
member_shape false false false = fronted ([] ∷ (spelled "." ∷ []) ∷ []) []

abbrev pub call_shape : Bool → Shape
call_shape true = call_list_shape ([] ∷ []) (spelled "?." ∷ spelled "(" ∷ [])
call_shape false = call_list_shape ([] ∷ []) (spelled "(" ∷ [])

-- at a plain site, by the kind
abbrev pub shape_by_kind : Kind → List ℕ → Flags → Parts → Shape
shape_by_kind kind.Identifier w g ps = fronted [] (own_text ∷ [])
shape_by_kind kind.Literal w g ps = fronted [] (own_text ∷ [])
shape_by_kind kind.TemplateElement w g ps = fronted [] (own_text ∷ [])
shape_by_kind kind.ThisExpression w g ps = fronted [] (spelled "this" ∷ [])
shape_by_kind kind.Super w g ps = fronted [] (spelled "super" ∷ [])
shape_by_kind kind.ArrayExpression w g ps = listed (spelled "[" ∷ []) commas (spelled "]" ∷ [])
shape_by_kind kind.ArrayPattern w g ps = listed (spelled "[" ∷ []) commas (spelled "]" ∷ [])
shape_by_kind kind.ObjectExpression w g ps = listed (spelled "{" ∷ []) commas (spelled "}" ∷ [])
shape_by_kind kind.ObjectPattern w g ps = listed (spelled "{" ∷ []) commas (spelled "}" ∷ [])
shape_by_kind kind.TemplateLiteral w g ps = record { front = []; opener = []; chain = joined; closer = []; sites = TemplateParts }
shape_by_kind kind.SpreadElement w g ps = fronted ((spelled "..." ∷ []) ∷ []) []
shape_by_kind kind.RestElement w g ps = fronted ((spelled "..." ∷ []) ∷ []) []
shape_by_kind kind.AssignmentPattern w g ps = fronted ([] ∷ between "=" ∷ []) []
shape_by_kind kind.TaggedTemplateExpression w g ps = fronted ([] ∷ [] ∷ []) []
shape_by_kind kind.ChainExpression w g ps = fronted ([] ∷ []) []
shape_by_kind kind.ImportExpression w g ps = fronted ((spelled "import" ∷ spelled "(" ∷ []) ∷ []) (spelled ")" ∷ [])
shape_by_kind kind.MetaProperty w g ps = fronted ([] ∷ (spelled "." ∷ []) ∷ []) []
shape_by_kind kind.UpdateExpression w g ps = update_shape g.prefix
shape_by_kind kind.UnaryExpression w g ps = unary_shape w
shape_by_kind kind.BinaryExpression w g ps = fronted ([] ∷ infix_bits ∷ []) []
shape_by_kind kind.LogicalExpression w g ps = fronted ([] ∷ infix_bits ∷ []) []
shape_by_kind kind.AssignmentExpression w g ps = fronted ([] ∷ infix_bits ∷ []) []
shape_by_kind kind.ConditionalExpression w g ps = fronted ([] ∷ between "?" ∷ between ":" ∷ []) []
shape_by_kind kind.SequenceExpression w g ps = listed [] commas []
shape_by_kind kind.MemberExpression w g ps = member_shape g.optional g.computed (after_open_number ps)
shape_by_kind kind.CallExpression w g ps = call_shape g.optional
shape_by_kind kind.NewExpression w g ps = call_list_shape (after_word "new" ∷ []) (spelled "(" ∷ [])
shape_by_kind kind.FunctionExpression w g ps = function_list_shape (function_bits g.form ∷ [])
shape_by_kind kind.FunctionDeclaration w g ps = function_list_shape (function_bits g.form ∷ [])
shape_by_kind kind.ArrowFunctionExpression w g ps = arrow_shape (is_async g.form) (is_single ps)
shape_by_kind kind.PrivateIdentifier w g ps = fronted [] (hashed ∷ [])
shape_by_kind kind.AwaitExpression w g ps = fronted (after_word "await" ∷ []) []
shape_by_kind kind.YieldExpression w g ps = yield_shape g.form (has_part ps 0)
shape_by_kind kind.PropertyDefinition w g ps = field_shape g.is_static g.computed (has_part ps 1)
shape_by_kind kind.StaticBlock w g ps = braced_shape [] (spelled "static" ∷ gapped ∷ spelled "{" ∷ []) (not (is_none (parts_after 0 ps)))
shape_by_kind kind.ImportDeclaration w g ps = import_shape (lead ps) (lead (others ps))
shape_by_kind kind.ImportDefaultSpecifier w g ps = alias_shape false
shape_by_kind kind.ImportNamespaceSpecifier w g ps = fronted ((spelled "*" ∷ gapped ∷ spelled "as" ∷ gapped ∷ []) ∷ []) []
shape_by_kind kind.ImportSpecifier w g ps = alias_shape (has_part ps 1)
shape_by_kind kind.ExportSpecifier w g ps = alias_shape (has_part ps 1)
shape_by_kind kind.ExportNamedDeclaration w g ps = export_shape (has_part ps 0) (has_part ps (part_count ps - 1))
shape_by_kind kind.ExportDefaultDeclaration w g ps = default_shape (is_default_declaration (lead ps))
shape_by_kind kind.ExportAllDeclaration w g ps = export_all_shape (has_part ps 0)
shape_by_kind kind.ClassExpression w g ps = class_shape (has_part ps 0) (has_part ps 1)
shape_by_kind kind.ClassDeclaration w g ps = class_shape (has_part ps 0) (has_part ps 1)
shape_by_kind kind.Property w g ps = property_shape g.form (value_form ps) g.computed
shape_by_kind kind.MethodDefinition w g ps = class_member_shape g.is_static g.form (value_form ps) g.computed
shape_by_kind kind.Program w g ps = listed [] feeds (token [] ∷ [])
shape_by_kind kind.BlockStatement w g ps = braced_shape [] (spelled "{" ∷ []) (not (is_none (parts_after 0 ps)))
shape_by_kind kind.ClassBody w g ps = braced_shape [] (spelled "{" ∷ []) (not (is_none (parts_after 0 ps)))
shape_by_kind kind.SwitchStatement w g ps = braced_shape (headed "switch" ∷ []) (spelled ")" ∷ gapped ∷ spelled "{" ∷ []) (not (is_none (parts_after 1 ps)))
shape_by_kind kind.SwitchCase w g ps = case_shape (has_part ps 0)
shape_by_kind kind.CatchClause w g ps = catch_shape (has_part ps 0)
shape_by_kind kind.VariableDeclaration w g ps = listed (own_text ∷ gapped ∷ []) commas statement_end
shape_by_kind kind.VariableDeclarator w g ps = declarator_shape (has_part ps 1)
shape_by_kind kind.ExpressionStatement w g ps = fronted ([] ∷ []) statement_end
shape_by_kind kind.EmptyStatement w g ps = fronted [] statement_end
shape_by_kind kind.DebuggerStatement w g ps = fronted [] (spelled "debugger" ∷ spelled ";" ∷ [])
shape_by_kind kind.ReturnStatement w g ps = word_shape "return" (has_part ps 0)
shape_by_kind kind.BreakStatement w g ps = word_shape "break" (has_part ps 0)
shape_by_kind kind.ContinueStatement w g ps = word_shape "continue" (has_part ps 0)
shape_by_kind kind.ThrowStatement w g ps = fronted (after_word "throw" ∷ []) statement_end
shape_by_kind kind.IfStatement w g ps = if_shape (has_part ps 2)
shape_by_kind kind.LabeledStatement w g ps = fronted ([] ∷ colon_space ∷ []) []
shape_by_kind kind.TryStatement w g ps = try_shape (has_part ps 1) (has_part ps 2)
shape_by_kind kind.WhileStatement w g ps = fronted (headed "while" ∷ close_space ∷ []) []
shape_by_kind kind.DoWhileStatement w g ps = do_shape
shape_by_kind kind.ForInStatement w g ps = asking LoopHead (headed "for" ∷ between "in" ∷ close_space ∷ []) []
shape_by_kind kind.ForOfStatement w g ps = for_of_shape (is_async g.form)
shape_by_kind kind.ForStatement w g ps = for_shape (has_part ps 1) (has_part ps 2)

-- at a site
abbrev pub shape_on : Site → Kind → List ℕ → Flags → Parts → Shape
shape_on site.ShorthandKey k w g ps = fronted [] []
shape_on site.OnlyTemplateElement k w g ps = fronted [] (chunk true true ∷ [])
shape_on site.FirstTemplateElement k w g ps = fronted [] (chunk true false ∷ [])
shape_on site.LastTemplateElement k w g ps = fronted [] (chunk false true ∷ [])
shape_on site.InnerTemplateElement k w g ps = fronted [] (chunk false false ∷ [])
shape_on site.Method k w g ps = method_shape
shape_on site.ForDeclaration k w g ps = head_shape
shape_on site.Plain k w g ps = shape_by_kind k w g ps

-- a prefix that may not touch its own sign
abbrev pub sign_of_text : List ℕ → Option SignOperator
sign_of_text w = cond (among w ("+" ∷ "++" ∷ [])) (Some Plus) (cond (among w ("-" ∷ "--" ∷ [])) (Some Minus) None)

abbrev pub sign_at : Kind → List ℕ → Flags → Option SignOperator
sign_at kind.UnaryExpression w g = sign_of_text w
sign_at kind.UpdateExpression w g = cond g.prefix (sign_of_text w) None
sign_at _ w g = None

-- how deep the parts of a list stand
abbrev pub inner : Chain → ℕ → ℕ
inner lines d = suc d
inner _ d = d
