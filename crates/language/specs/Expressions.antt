-- Expressions, patterns, functions and classes: ways to spell each node directly (ECMA-262 12.1 to 12.16, 13.3.3, 14.1 to
-- 14.3, 14.6). Own In and start are left open.
use Rattle.std.specs.Prelude.{ℕ, Bool, true, false, not, cond, ◌&&◌, ◌||◌, List, [], ◌∷◌, ◌++◌, codes}
use Prim.Native.String.{String}
use Rattle.tree.specs.declared.kind.Kind.{Kind}
use Rattle.tree.specs.declared.kind.Kind.TheVariants.{Identifier, Literal, ThisExpression, ArrayExpression, ObjectExpression, Property, SpreadElement, FunctionExpression, ArrowFunctionExpression, ClassExpression, TemplateLiteral, TaggedTemplateExpression, MemberExpression, CallExpression, NewExpression, MetaProperty, ImportExpression, ChainExpression, UpdateExpression, UnaryExpression, AwaitExpression, BinaryExpression, LogicalExpression, ConditionalExpression, AssignmentExpression, SequenceExpression, YieldExpression, AssignmentPattern, RestElement}
use Rattle.language.specs.declared.Rank.{Rank}
use Rattle.language.specs.declared.Rank.TheVariants.{Expression, Assignment, Conditional, ShortCircuit, Relational, Shift, Exponentiation, Unary, Update, LeftHandSide, New, Call, Member, Primary}
use Rattle.language.specs.declared.Start.TheVariants.{Any, NoBrace}
use Rattle.tokens.specs.declared.token.TokenClass.TheVariants.{IdentifierName, Keyword}
use Rattle.tokens.specs.declared.token.TokenClass.{TokenClass}
use Rattle.tree.specs.declared.kind.Flags.{Flags}
use Rattle.tree.specs.declared.kind.Form.{Form}
use Rattle.tree.specs.declared.kind.Form.TheVariants.{Init, Get, Set, Method, Shorthand, Generator, Async, AsyncGenerator}
pub use Rattle.tree.specs.Kinds.{is_chain_part}
use Rattle.tree.specs.Tree.{Tree, node, Parts, none, part, gap, kind_of, text_of, flags_of}
use Rattle.language.specs.FirstPart.{lead as lead_kind, others}
use Rattle.language.specs.Vocabulary.{is, among, Operator, op_binary, op_power, operator_of, is_assignment, is_word_operator, is_prefix, is_update_operator, is_reserved, literal_class, is_name, is_open_number, is_target, is_pattern, is_identifier, is_private, is_rest, is_super}
use Rattle.language.specs.Pieces.{expr, name, word, private_name, key, shorthand_key, base, directive_string, template_element, spread, property, pattern_property, element, rest, method, body, class_body, apart, loose, Piece, left, lead, tail, callee, lead_chain, lead_pattern, put, put_at, at_in, tok, unbroken, no_operand, open_parameters, close_parameters, sub, absent, never, lay, Spelling, at, only, sign, term, sp, nothing, is_none, listed, elements, argument, with_default, parameters, tagged_quasi}

abbrev pub assignment : Piece
assignment = put (expr Assignment true Any)

abbrev pub in_brackets : List Piece
in_brackets = sign "[" ∷ put (expr Expression true Any) ∷ sign "]" ∷ []

abbrev pub arguments : Parts → List Piece
arguments parts = (sign "(" ∷ listed argument parts) ++ sign ")" ∷ []

-- a name or a string of an import or export
abbrev pub module_name : Tree → Piece
module_name tree = put (cond (is_identifier (kind_of tree)) word directive_string)

-- a piece where there is a first part, and its absence
abbrev pub given : Parts → List Piece → List Piece
given none pieces = nothing
given (part tree ps) pieces = pieces
given (gap ps) pieces = absent ∷ []

-- behind a dot: a private name, or any name
abbrev pub property_name : Kind → Piece
property_name kind = put (cond (is_private kind) private_name word)

-- behind the object of a member: the property, of this kind
abbrev pub selector : Flags → Kind → List Piece
selector flags kind = cond flags.computed in_brackets (sign "." ∷ property_name kind ∷ [])

-- the space between a number and `.`
abbrev pub after_number : Parts → Flags → List Piece
after_number none flags = []
after_number (gap ps) flags = []
after_number (part tree ps) flags = cond (not flags.computed && (is_open_literal (kind_of tree) (text_of tree))) (lay loose ∷ []) []
  where
    is_open_literal : Kind → List ℕ → Bool
    is_open_literal Literal w = is_open_number (literal_class w) w
    is_open_literal _ w = false

abbrev mutual
  -- a `?.` stands in this part of a chain or in one below it
  pub has_optional : Tree → Bool
  has_optional (node kind text flags from to parts) = is_chain_part kind && (flags.optional || first_has_optional parts)

  pub first_has_optional : Parts → Bool
  first_has_optional none = false
  first_has_optional (part tree ps) = has_optional tree
  first_has_optional (gap ps) = false

-- a part of a chain: what stands behind that which is below it
abbrev pub member_link : Flags → Kind → List Piece
member_link flags kind = cond flags.optional (sign "?." ∷ cond flags.computed in_brackets (property_name kind ∷ [])) (selector flags kind)

abbrev pub call_link : Flags → Parts → List Piece
call_link flags parts = cond flags.optional (sign "?." ∷ []) [] ++ arguments (others parts)

-- below it stands a further part, or the base
abbrev pub chain_element : Bool → Parts → List Piece → List Spelling
chain_element optional parts pieces = cond (first_has_optional parts) (only (sub lead_chain ∷ pieces)) (cond optional (only (sub (lead Call) ∷ pieces)) [])

abbrev pub chain_parts : Kind → Flags → Parts → List Spelling
chain_parts MemberExpression flags parts = chain_element flags.optional parts (member_link flags (lead_kind (others parts)))
chain_parts CallExpression flags parts = chain_element flags.optional parts (call_link flags parts)
chain_parts _ flags parts = []

-- the parts of a template, from the first or from a later one
abbrev pub template_elements : Bool → Parts → List Piece
template_elements b none = nothing
template_elements b (gap ps) = nothing
template_elements b (part tree none) = put (template_element b true) ∷ []
template_elements b (part tree (gap ps)) = nothing
template_elements b (part tree (part e ps)) = put (template_element b false) ∷ put (expr Expression true Any) ∷ template_elements false ps

-- a key between these pieces
abbrev pub keyed : List Piece → Bool → List Piece → List Spelling
keyed before computed after = cond computed (only (before ++ sign "[" ∷ assignment ∷ sign "]" ∷ after)) (only (before ++ put key ∷ after))

-- the word `async`, behind which no line ends
abbrev pub async_word : List Piece
async_word = term "async" ∷ unbroken ∷ sp ∷ []

-- before a method's key, by the form of its function (14.4 and 14.6; 15.5 to 15.8 of the 13th edition)
abbrev pub method_words : Form → List Piece
method_words Init = []
method_words Generator = sign "*" ∷ []
method_words Async = async_word
method_words AsyncGenerator = async_word ++ sign "*" ∷ []
method_words _ = nothing

-- the position of a method's function, by the function's form: that of a plain one is `Method`
abbrev pub method_of : Form → Form
method_of Init = Method
method_of form = form

-- the form of the second part, a method's function
abbrev pub value_form : Parts → Form
value_form (part k (part v ps)) = (flags_of v).form
value_form _ = Init

-- the property of an object that is no spread, by its form and that of its value
abbrev pub properties : Bool → Form → Form → List Spelling
properties computed Init x = keyed [] computed (sign ":" ∷ sp ∷ assignment ∷ [])
properties computed Method x = keyed (method_words x) computed (put (method (method_of x)) ∷ [])
properties computed Get x = keyed (term "get" ∷ sp ∷ []) computed (put (method Get) ∷ [])
properties computed Set x = keyed (term "set" ∷ sp ∷ []) computed (put (method Set) ∷ [])
properties computed Shorthand x = cond computed [] (only (put shorthand_key ∷ put name ∷ []))
properties computed _ x = []

abbrev pub object_part : Tree → Piece
object_part tree = is_spread_part (kind_of tree)
  where
    is_spread_part : Kind → Piece
    is_spread_part SpreadElement = put spread
    is_spread_part Property = put property
    is_spread_part _ = never

-- of an object pattern's property without key of its own, by its value
abbrev pub shorthand_pattern : Kind → List Spelling
shorthand_pattern Identifier = only (put shorthand_key ∷ put name ∷ [])
shorthand_pattern AssignmentPattern = only (put shorthand_key ∷ put (element true) ∷ [])
shorthand_pattern _ = []

-- of an object pattern's property: the key, and the value, of this kind
abbrev pub pattern_properties : Bool → Bool → Form → Kind → List Spelling
pattern_properties b computed Init kind = keyed [] computed (sign ":" ∷ sp ∷ put_at (with_default b kind) ∷ [])
pattern_properties b computed Shorthand kind = cond computed [] (shorthand_pattern kind)
pattern_properties b computed _ kind = []

abbrev pub object_pattern_part : Bool → Tree → Piece
object_pattern_part b tree = of_kind (kind_of tree)
  where
    of_kind : Kind → Piece
    of_kind RestElement = put (rest b true)
    of_kind Property = put (pattern_property b)
    of_kind _ = never

-- the name of a function or class, if it has one
abbrev pub named : Parts → List Piece
named parts = given parts (put name ∷ [])

-- the words of a function, by its form
abbrev pub function_words : Form → List Piece
function_words Init = term "function" ∷ []
function_words Generator = term "function" ∷ sign "*" ∷ []
function_words Async = async_word ++ term "function" ∷ []
function_words AsyncGenerator = async_word ++ term "function" ∷ sign "*" ∷ []
function_words _ = nothing

abbrev pub function_pieces : Form → Parts → List Piece
function_pieces form parts = function_words form ++ (sp ∷ named parts) ++ sign "(" ∷ parameters (sign ")" ∷ sp ∷ put body ∷ []) (others parts)

abbrev pub class_pieces : Parts → List Piece
class_pieces parts = (term "class" ∷ sp ∷ named_with_space parts) ++ heritage (others parts) ++ put class_body ∷ []
  where
    named_with_space : Parts → List Piece
    named_with_space qs = given qs (put name ∷ sp ∷ [])

    heritage : Parts → List Piece
    heritage qs = given qs (term "extends" ∷ sp ∷ put (expr LeftHandSide true Any) ∷ sp ∷ [])

-- the function of a method, getter or setter
abbrev pub methods : Form → Parts → List Spelling
methods Get (gap (part b none)) = only (absent ∷ sign "(" ∷ sign ")" ∷ sp ∷ put body ∷ [])
methods Get _ = []
methods Set (gap (part tree (part b none))) = cond (is_rest (kind_of tree)) [] (only (absent ∷ sign "(" ∷ put_at (with_default true (kind_of tree)) ∷ sign ")" ∷ sp ∷ put body ∷ []))
methods Set _ = []
methods _ (gap ps) = only (absent ∷ sign "(" ∷ parameters (sign ")" ∷ sp ∷ put body ∷ []) ps)
methods _ _ = []

-- what follows an arrow's parameters, the last of its parts
abbrev pub arrow_end : Flags → List Piece
arrow_end flags = unbroken ∷ sp ∷ sign "=>" ∷ sp ∷ cond flags.expression (sub (tail Assignment NoBrace)) (put body) ∷ []

-- before an arrow's parameters, by its form
abbrev pub arrow_words : Form → List Piece
arrow_words Init = []
arrow_words Async = async_word
arrow_words _ = nothing

-- the parentheses round an arrow's parameters. Those of an async arrow aren't told from the arguments of a call of `async` before what
-- follows them, and as those they don't count as open
abbrev pub arrow_opening : Form → Piece
arrow_opening Async = sign "("
arrow_opening _ = open_parameters

abbrev pub arrow_closing : Form → Piece
arrow_closing Async = sign ")"
arrow_closing _ = close_parameters

abbrev pub op_arrow : Flags → Parts → List Spelling
op_arrow flags parts = single parts ++ at Assignment (arrow_words flags.form ++ arrow_opening flags.form ∷ parameters (arrow_closing flags.form ∷ arrow_end flags) parts) ∷ []
  where
    single : Parts → List Spelling
    single (part n (part b none)) = cond (is_identifier (kind_of n)) (at Assignment (arrow_words flags.form ++ put name ∷ arrow_end flags) ∷ []) []
    single _ = []

abbrev pub infix_pieces : List ℕ → List Piece
infix_pieces text = sp ∷ tok (cond (is_word_operator text) TokenClass.IdentifierName TokenClass.Punctuator) text ∷ sp ∷ []

-- the node's own symbol is that of its left side
abbrev pub joined : List ℕ → Rank → Rank → Spelling
joined text z q = at_in (is text "in") z (sub (left z) ∷ infix_pieces text ++ sub (tail q Any) ∷ [])

-- `#x in a` (13.10 of the 13th edition): the left side is no expression
abbrev pub private_in : Spelling
private_in = at_in true Relational (put private_name ∷ infix_pieces (codes "in") ++ sub (tail Shift Any) ∷ [])

abbrev pub binary_ways : List ℕ → Operator → List Spelling
binary_ways text (op_binary false z q) = joined text z q ∷ []
binary_ways text op_power = at Exponentiation (sub (lead Update) ∷ infix_pieces text ++ put (expr Exponentiation true Any) ∷ []) ∷ []
binary_ways text _ = []

abbrev pub logical_ways : List ℕ → Operator → List Spelling
logical_ways text (op_binary true z q) = joined text z q ∷ []
logical_ways text _ = []

-- `yield`, with an operand or none, and `yield*` (15.5 of the 13th edition)
abbrev pub yields : Form → Parts → List Spelling
yields Init (gap none) = at Assignment (term "yield" ∷ absent ∷ no_operand ∷ []) ∷ []
yields Init (part n none) = at Assignment (term "yield" ∷ sp ∷ unbroken ∷ sub (tail Assignment Any) ∷ []) ∷ []
yields Generator (part n none) = at Assignment (term "yield" ∷ unbroken ∷ sign "*" ∷ sp ∷ sub (tail Assignment Any) ∷ []) ∷ []
yields _ parts = []

-- the second and later parts of a sequence
abbrev pub sequence : Parts → List Piece
sequence none = []
sequence (part tree ps) = sign "," ∷ sp ∷ sub (tail Assignment Any) ∷ sequence ps
sequence (gap ps) = nothing

abbrev pub lead_is : Parts → String → Bool
lead_is none s = false
lead_is (gap ps) s = false
lead_is (part tree ps) s = is (text_of tree) s

unfoldable pub expressions : Kind → List ℕ → Flags → Parts → List Spelling
expressions Identifier text flags parts = cond (is_reserved text) [] (at Primary (tok IdentifierName text ∷ []) ∷ [])
expressions Literal text flags parts = cond (is_name (literal_class text) && not (among text ("true" ∷ "false" ∷ "null" ∷ []))) [] (at Primary (tok (literal_class text) text ∷ []) ∷ [])
expressions ThisExpression text flags parts = at Primary (term "this" ∷ []) ∷ []
expressions ArrayExpression text flags parts = at Primary ((sign "[" ∷ elements argument parts) ++ sign "]" ∷ []) ∷ []
expressions ObjectExpression text flags parts = at Primary ((sign "{" ∷ listed object_part parts) ++ sign "}" ∷ []) ∷ []
expressions FunctionExpression text flags parts = at Primary (function_pieces flags.form parts) ∷ []
expressions ClassExpression text flags parts = at Primary (class_pieces parts) ∷ []
expressions TemplateLiteral text flags parts = at Primary (template_elements true parts) ∷ []
expressions ArrowFunctionExpression text flags parts = op_arrow flags parts
expressions TaggedTemplateExpression text flags parts = at Member (sub callee ∷ put tagged_quasi ∷ []) ∷ []
expressions MemberExpression text flags parts =
    cond flags.optional [] (
    cond (is_super (lead_kind parts)) (at Member (put base ∷ selector flags Identifier) ∷ []) (
    at Member (sub callee ∷ after_number parts flags ++ selector flags (lead_kind (others parts))) ∷ []))
expressions CallExpression text flags parts =
    cond flags.optional [] (
    cond (is_super (lead_kind parts)) (at Call (put base ∷ arguments (others parts)) ∷ []) (
    at Call (sub (lead Call) ∷ arguments (others parts)) ∷ []))
expressions NewExpression text flags parts =
    at Member (term "new" ∷ sp ∷ put (expr Member true Any) ∷ arguments (others parts)) ∷
    cond (is_none (others parts)) (at New (term "new" ∷ sp ∷ put (expr New true Any) ∷ []) ∷ []) []
expressions MetaProperty text flags parts =
    cond (lead_is parts "new" && lead_is (others parts) "target") (at Member (put word ∷ sign "." ∷ put word ∷ []) ∷ []) (
    cond (lead_is parts "import" && lead_is (others parts) "meta") (at Member (put word ∷ sign "." ∷ put word ∷ []) ∷ []) [])
expressions ImportExpression text flags parts = at Call (term "import" ∷ sign "(" ∷ assignment ∷ sign ")" ∷ []) ∷ []
expressions ChainExpression text flags parts = cond (first_has_optional parts) (at LeftHandSide (sub lead_chain ∷ []) ∷ []) []
expressions UpdateExpression text flags parts =
    cond (not (is_update_operator text && is_target (lead_kind parts))) [] (
    cond flags.prefix
    (at Update (tok TokenClass.Punctuator text ∷ lay (apart (cond (is text "++") 43 45)) ∷ put (expr LeftHandSide true Any) ∷ []) ∷ [])
    (at Update (sub (lead LeftHandSide) ∷ unbroken ∷ tok TokenClass.Punctuator text ∷ []) ∷ []))
expressions UnaryExpression text flags parts =
    cond (not (is_prefix text)) [] (
    cond (is_word_operator text)
    (at Unary (tok IdentifierName text ∷ sp ∷ put (expr Unary true Any) ∷ []) ∷ [])
    (at Unary (tok TokenClass.Punctuator text ∷ cond (is text "+") (lay (apart 43) ∷ []) (cond (is text "-") (lay (apart 45) ∷ []) []) ++ put (expr Unary true Any) ∷ []) ∷ []))
expressions AwaitExpression text flags parts = at Unary (tok Keyword (codes "await") ∷ sp ∷ put (expr Unary true Any) ∷ []) ∷ []
expressions YieldExpression text flags parts = yields flags.form parts
expressions BinaryExpression text flags parts = cond (is_private (lead_kind parts)) (cond (is text "in") (private_in ∷ []) []) (binary_ways text (operator_of text))
expressions LogicalExpression text flags parts = logical_ways text (operator_of text)
expressions ConditionalExpression text flags parts =
    at Conditional (sub (left ShortCircuit) ∷ sp ∷ sign "?" ∷ sp ∷ assignment ∷ sp ∷ sign ":" ∷ sp ∷ sub (tail Assignment Any) ∷ []) ∷ []
expressions AssignmentExpression text flags parts =
    cond (not (is_assignment text)) [] (
    cond (is_target (lead_kind parts)) (at Assignment (sub (lead LeftHandSide) ∷ infix_pieces text ++ sub (tail Assignment Any) ∷ []) ∷ []) (
    cond (is text "=" && is_pattern (lead_kind parts)) (at Assignment (sub lead_pattern ∷ infix_pieces text ++ sub (tail Assignment Any) ∷ []) ∷ []) []))
expressions SequenceExpression text flags parts = cond (is_none (others parts)) [] (at Expression (sub (left Assignment) ∷ sequence (others parts)) ∷ [])
expressions _ text flags parts = []
