-- The grammar as data: its productions, and the form of each. A form says which pieces spell a node, by the node's text, flags and
-- parts; a shape says what may stand there, whatever they are.
use Rattle.std.specs.Prelude.{ℕ, zero, suc, Bool, true, false, cond, List, [], ◌∷◌, ◌++◌, Option, Some, None, codes}
use Prim.Native.String.{String}
use Rattle.tree.specs.declared.kind.Flags.{Flags}
use Rattle.tree.specs.declared.kind.Form.{Form as FunctionForm}
use Rattle.tree.specs.declared.kind.Form.TheVariants as method_form
use Rattle.tree.specs.Tree.{Tree, Parts, part}
use Rattle.tokens.specs.declared.token.TokenClass.TheVariants as token
use Rattle.language.specs.declared.Rank.{Rank}
use Rattle.language.specs.declared.Rank.TheVariants as rank
use Rattle.language.specs.declared.Start.TheVariants.{Any, NoBrace, Statement}
use Rattle.language.specs.declared.Edge.TheVariants.{Closed, Other}
use Rattle.language.specs.FirstPart.{lead as lead_kind, others}
use Rattle.language.specs.Vocabulary.{is, is_private, is_word_operator, literal_class}
use Rattle.language.specs.Edges.{edge, last_edge}
use Rattle.language.specs.Pieces.{Role, expr, name, word, private_name, key, shorthand_key, base, directive_string, tagged_quasi, element, method, body, statement, item, block, head, declarator, switch_case, handler, class_body, specifier, bound, with_default, apart, line, feed, deeper, shallower, of_do, behind, behind_value, behind_key, left, lead, tail, callee, lead_chain, lead_pattern, Piece, tok, many, ahead, unbroken, no_operand, ending, sub, absent, never, lay, Spelling, put, put_at, sign, term, sp, is_none, listed, elements, argument, pattern_element, parameters}
use Rattle.language.specs.Expressions.{assignment, in_brackets, module_name, given, after_number, selector, member_link, method_words, method_of, function_words, arrow_words, arrow_opening, arrow_closing, template_elements, object_part, object_pattern_part, arrow_end, sequence}
use Rattle.language.specs.Statements.{whole, lines, prologue, declarators, is_declaration, for_left, for_words, member_lines, key_word, from_source, braces, named_imports, export_list, exported_declaration, exported_default, module_prologue}

-- what decides between two lists of pieces
pub data Test : Type 0 where
  is_computed is_optional is_static has_expression : Test
  -- no part stands from this place on
  no_part : ℕ → Test

-- a piece that is made of the node's own text
pub data OwnText : Type 0 where
  a_name a_literal a_string a_sign an_infix a_name_ahead a_step_space : OwnText
  a_template : Bool → Bool → OwnText
  a_private_name : OwnText

-- a part of a list
pub data PartSort : Type 0 where
  an_argument a_property : PartSort
  a_pattern_property a_pattern_element : Bool → PartSort

pub data Item : Type 0 where
  -- this piece, whatever the node
  one : Piece → Item
  own : OwnText → Item
  -- these pieces, whatever the node
  these : List Piece → Item
  choose : Test → List Piece → List Piece → Item
  -- if there is a part at this place: these pieces, else a gap
  if_part : ℕ → List Piece → Item
  -- the space between a number and `.`, and behind a sign before the same sign; what goes on in a chain; the end of a statement, by its right edge
  number_space sign_space link edge_ending : Item
  -- the part at this place, at a position by its kind: what is bound or assigned, perhaps with a default; the left side of a for-in
  bound_part default_part : Bool → ℕ → Item
  for_left_part for_first_part : Item
  -- what selects a property; the key of a member; the end of a field, behind its value or its key
  selector_part class_key value_ending key_ending : Item
  -- of an import or export: the name at this place; the declaration; what is exported by default; the names, from this place on
  module_name_part : ℕ → Item
  exported_part default_export : Item
  import_list export_list_from : ℕ → Item
  -- lists of parts, from this place on
  list list_with_holes : PartSort → ℕ → Item
  parameter_list : List Piece → ℕ → Item
  arrow_parameters : Item
  template_list sequence_list member_list : Item
  line_list : Role → ℕ → Item
  declarator_list : Role → Item
  -- directives, then statements
  item_list : Bool → Bool → List Piece → List Piece → Item
  module_item_list : Item

-- the parts from a place on
abbrev pub parts_from : ℕ → Parts → Parts
parts_from zero parts = parts
parts_from (suc n) parts = parts_from n (others parts)

abbrev pub holds : Test → List ℕ → Flags → Parts → Bool
holds is_computed text flags parts = flags.computed
holds is_optional text flags parts = flags.optional
holds is_static text flags parts = flags.is_static
holds has_expression text flags parts = flags.expression
holds (no_part n) text flags parts = is_none (parts_from n parts)

abbrev pub own_piece : OwnText → List ℕ → Piece
own_piece a_name text = tok token.IdentifierName text
own_piece a_literal text = tok (literal_class text) text
own_piece a_string text = tok token.StringLiteral text
own_piece a_sign text = tok token.Punctuator text
own_piece an_infix text = tok (cond (is_word_operator text) token.IdentifierName token.Punctuator) text
own_piece a_name_ahead text = ahead text
own_piece a_step_space text = lay (apart (cond (is text "++") 43 45))
own_piece a_private_name text = tok token.PrivateName (codes "#" ++ text)
own_piece (a_template first last) text = tok token.Template (codes (cond first "`" "}") ++ text ++ codes (cond last "`" "${"))

-- the part at the beginning, if there is one
abbrev pub of_first : (Tree → Piece) → Parts → Piece
of_first f (part tree ps) = f tree
of_first f _ = never

abbrev pub key_pieces : Flags → Parts → List Piece
key_pieces flags parts = cond flags.computed (sign "[" ∷ assignment ∷ sign "]" ∷ []) (put (cond (is_private (lead_kind parts)) private_name key) ∷ [])

abbrev pub part_piece : PartSort → Tree → Piece
part_piece an_argument = argument
part_piece a_property = object_part
part_piece (a_pattern_property b) = object_pattern_part b
part_piece (a_pattern_element b) = pattern_element b

abbrev pub item_pieces : Item → List ℕ → Flags → Parts → List Piece
item_pieces (one piece) text flags parts = piece ∷ []
item_pieces (own o) text flags parts = own_piece o text ∷ []
item_pieces (these pieces) text flags parts = pieces
item_pieces (choose t first second) text flags parts = cond (holds t text flags parts) first second
item_pieces (if_part n pieces) text flags parts = given (parts_from n parts) pieces
item_pieces number_space text flags parts = after_number parts flags
item_pieces sign_space text flags parts = cond (is text "+") (lay (apart 43) ∷ []) (cond (is text "-") (lay (apart 45) ∷ []) [])
item_pieces link text flags parts = member_link flags (lead_kind (others parts))
item_pieces edge_ending text flags parts = ending (behind (last_edge parts)) ∷ []
item_pieces (bound_part b n) text flags parts = put_at (bound b (lead_kind (parts_from n parts))) ∷ []
item_pieces (default_part b n) text flags parts = put_at (with_default b (lead_kind (parts_from n parts))) ∷ []
item_pieces for_left_part text flags parts = for_left parts ∷ []
item_pieces for_first_part text flags parts = given parts (put (cond (is_declaration (lead_kind parts)) (head true) (expr rank.Expression false Any)) ∷ [])
item_pieces selector_part text flags parts = selector flags (lead_kind (others parts))
item_pieces class_key text flags parts = key_pieces flags parts
item_pieces value_ending text flags parts = of_first (λ n. ending (behind_value (edge n))) (others parts) ∷ []
item_pieces key_ending text flags parts = of_first (λ n. ending (behind_key (key_word flags.computed n) flags.is_static)) parts ∷ []
item_pieces (module_name_part n) text flags parts = of_first module_name (parts_from n parts) ∷ []
item_pieces exported_part text flags parts = exported_declaration (lead_kind parts) ∷ []
item_pieces default_export text flags (part n ps) = exported_default n
item_pieces default_export text flags _ = never ∷ []
item_pieces (import_list n) text flags parts = named_imports (parts_from n parts)
item_pieces (export_list_from n) text flags parts = export_list (parts_from n parts)
item_pieces (list s n) text flags parts = listed (part_piece s) (parts_from n parts)
item_pieces (list_with_holes s n) text flags parts = elements (part_piece s) (parts_from n parts)
item_pieces (parameter_list after n) text flags parts = parameters after (parts_from n parts)
item_pieces arrow_parameters text flags parts = parameters (arrow_closing flags.form ∷ arrow_end flags) parts
item_pieces template_list text flags parts = template_elements true parts
item_pieces sequence_list text flags parts = sequence (others parts)
item_pieces member_list text flags parts = member_lines parts
item_pieces (line_list role n) text flags parts = lines role (parts_from n parts)
item_pieces (declarator_list role) text flags parts = declarators role parts
item_pieces (item_list r b before after) text flags parts = prologue r b before after parts
item_pieces module_item_list text flags parts = module_prologue true parts

abbrev pub pieces_of : List Item → List ℕ → Flags → Parts → List Piece
pieces_of [] text flags parts = []
pieces_of (x ∷ []) text flags parts = item_pieces x text flags parts
pieces_of (x ∷ y ∷ xs) text flags parts = item_pieces x text flags parts ++ pieces_of (y ∷ xs) text flags parts

-- the symbol, the text with which it needs In, and the items
pub record Form : Type 0 where
  pub rank : Rank
  pub needs_in : Option String
  pub items : List Item

abbrev pub needs : Option String → List ℕ → Bool
needs None text = false
needs (Some s) text = is text s

abbrev pub spelling_of : Form → List ℕ → Flags → Parts → Spelling
spelling_of form text flags parts = record { rank = form.rank; needs_in = needs form.needs_in text; pieces = pieces_of form.items text flags parts }

pub data Production : Type 0 where
  -- expressions, and tokens of their own
  identifier literal this array object class template tagged super_member member_access super_call call new_with new_without new_target import_meta import_call chain prefix postfix unary_word unary_sign await private_left power conditional assign assign_pattern yield_alone yield_operand yield_from several : Production
  function short_arrow arrow : FunctionForm → Production
  binary : Rank → Rank → Production
  -- parts of chains, behind a further part or behind the base
  chain_member chain_first_member chain_call chain_first_call : Production
  key_name private_key super directive_text spread_argument : Production
  template_part : Bool → Bool → Production
  -- properties, patterns, the functions of methods, members
  property_value property_get property_set shorthand shorthand_default : Production
  property_method member_method : FunctionForm → Production
  pattern_value array_pattern object_pattern default : Bool → Production
  rest_of : Bool → Production
  getter setter method_function function_body : Production
  member_get member_set field initialised_field static_block class_members : Production
  -- statements
  block_of : Bool → Production
  variables empty expression_statement directive string_statement break continue return throw debugger : Production
  if_alone if_else do_while while for_loop for_in labeled switch try_catch try_both try_finally : Bool → Production
  for_of : FunctionForm → Bool → Production
  variables_of_head : Bool → Production
  initialised : Bool → Production
  bare_declarator : Production
  switch_test switch_default catch_bound catch_bare : Bool → Production
  script module_script : Production
  -- imports and exports
  import_alone import_nothing import_space import_names import_default import_default_nothing import_default_space import_default_names : Production
  export_declaration export_names export_default export_all export_space : Production
  one_name all_names one_module_name name_as_name name_as_module_name : Production

abbrev pub at_rank : Rank → List Item → Form
at_rank rank items = record { rank = rank; needs_in = None; items = items }

abbrev pub plainly : List Item → Form
plainly items = at_rank rank.Primary items

-- these characters as a punctuator, and as a word
abbrev pub punctuator : String → Item
punctuator text = one (sign text)

abbrev pub keyword : String → Item
keyword text = one (term text)

abbrev pub gap : Item
gap = one sp

abbrev pub at_role : Role → Item
at_role role = one (put role)

abbrev pub operand : Item
operand = one assignment

abbrev pub key_item : Item
key_item = choose is_computed (sign "[" ∷ assignment ∷ sign "]" ∷ []) (put key ∷ [])

abbrev pub super_selector_item : Item
super_selector_item = choose is_computed in_brackets (sign "." ∷ put word ∷ [])

abbrev pub static_item : Item
static_item = choose is_static (term "static" ∷ sp ∷ []) []

-- `{`, these items on lines of their own, `}`
abbrev pub braced_items : ℕ → List Item → List Item
braced_items n items = punctuator "{" ∷ choose (no_part n) [] (lay deeper ∷ []) ∷ items ++ choose (no_part n) [] (lay shallower ∷ lay line ∷ []) ∷ punctuator "}" ∷ []

abbrev pub argument_items : List Item
argument_items = punctuator "(" ∷ list an_argument 1 ∷ punctuator ")" ∷ []

abbrev pub test_items : List Item
test_items = punctuator "(" ∷ one whole ∷ punctuator ")" ∷ []

abbrev pub body_pieces : List Piece
body_pieces = sign ")" ∷ sp ∷ put body ∷ []

abbrev pub form : Production → Form
form identifier = plainly (own a_name ∷ [])
form literal = plainly (own a_literal ∷ [])
form this = plainly (keyword "this" ∷ [])
form array = plainly (punctuator "[" ∷ list_with_holes an_argument 0 ∷ punctuator "]" ∷ [])
form object = plainly (punctuator "{" ∷ list a_property 0 ∷ punctuator "}" ∷ [])
form (function x) = plainly (these (function_words x) ∷ gap ∷ if_part 0 (put name ∷ []) ∷ punctuator "(" ∷ parameter_list body_pieces 1 ∷ [])
form class = plainly (keyword "class" ∷ gap ∷ if_part 0 (put name ∷ sp ∷ []) ∷ if_part 1 (term "extends" ∷ sp ∷ put (expr rank.LeftHandSide true Any) ∷ sp ∷ []) ∷ at_role class_body ∷ [])
form template = plainly (template_list ∷ [])
form (short_arrow x) = at_rank rank.Assignment (these (arrow_words x) ∷ at_role name ∷ one unbroken ∷ gap ∷ punctuator "=>" ∷ gap ∷ choose has_expression (sub (tail rank.Assignment NoBrace) ∷ []) (put body ∷ []) ∷ [])
form (arrow x) = at_rank rank.Assignment (these (arrow_words x) ∷ one (arrow_opening x) ∷ arrow_parameters ∷ [])
form tagged = at_rank rank.Member (one (sub callee) ∷ at_role tagged_quasi ∷ [])
form super_member = at_rank rank.Member (at_role base ∷ super_selector_item ∷ [])
form member_access = at_rank rank.Member (one (sub callee) ∷ number_space ∷ selector_part ∷ [])
form super_call = at_rank rank.Call (at_role base ∷ argument_items)
form call = at_rank rank.Call (one (sub (lead rank.Call)) ∷ argument_items)
form new_with = at_rank rank.Member (keyword "new" ∷ gap ∷ at_role (expr rank.Member true Any) ∷ argument_items)
form new_without = at_rank rank.New (keyword "new" ∷ gap ∷ at_role (expr rank.New true Any) ∷ [])
form new_target = at_rank rank.Member (at_role word ∷ punctuator "." ∷ at_role word ∷ [])
form import_meta = at_rank rank.Member (at_role word ∷ punctuator "." ∷ at_role word ∷ [])
form import_call = at_rank rank.Call (keyword "import" ∷ punctuator "(" ∷ operand ∷ punctuator ")" ∷ [])
form chain = at_rank rank.LeftHandSide (one (sub lead_chain) ∷ [])
form prefix = at_rank rank.Update (own a_sign ∷ own a_step_space ∷ at_role (expr rank.LeftHandSide true Any) ∷ [])
form postfix = at_rank rank.Update (one (sub (lead rank.LeftHandSide)) ∷ one unbroken ∷ own a_sign ∷ [])
form unary_word = at_rank rank.Unary (own a_name ∷ gap ∷ at_role (expr rank.Unary true Any) ∷ [])
form unary_sign = at_rank rank.Unary (own a_sign ∷ sign_space ∷ at_role (expr rank.Unary true Any) ∷ [])
form await = at_rank rank.Unary (one (tok token.Keyword (codes "await")) ∷ gap ∷ at_role (expr rank.Unary true Any) ∷ [])
form private_left = record { rank = rank.Relational; needs_in = Some "in"; items = at_role private_name ∷ gap ∷ own an_infix ∷ gap ∷ one (sub (tail rank.Shift Any)) ∷ [] }
form power = at_rank rank.Exponentiation (one (sub (lead rank.Update)) ∷ gap ∷ own an_infix ∷ gap ∷ at_role (expr rank.Exponentiation true Any) ∷ [])
form conditional = at_rank rank.Conditional (one (sub (left rank.ShortCircuit)) ∷ gap ∷ punctuator "?" ∷ gap ∷ operand ∷ gap ∷ punctuator ":" ∷ gap ∷ one (sub (tail rank.Assignment Any)) ∷ [])
form assign = at_rank rank.Assignment (one (sub (lead rank.LeftHandSide)) ∷ gap ∷ own an_infix ∷ gap ∷ one (sub (tail rank.Assignment Any)) ∷ [])
form assign_pattern = at_rank rank.Assignment (one (sub lead_pattern) ∷ gap ∷ own an_infix ∷ gap ∷ one (sub (tail rank.Assignment Any)) ∷ [])
form yield_alone = at_rank rank.Assignment (keyword "yield" ∷ one absent ∷ one no_operand ∷ [])
form yield_operand = at_rank rank.Assignment (keyword "yield" ∷ gap ∷ one unbroken ∷ one (sub (tail rank.Assignment Any)) ∷ [])
form yield_from = at_rank rank.Assignment (keyword "yield" ∷ one unbroken ∷ punctuator "*" ∷ gap ∷ one (sub (tail rank.Assignment Any)) ∷ [])
form several = at_rank rank.Expression (one (sub (left rank.Assignment)) ∷ sequence_list ∷ [])
form (binary z q) = record { rank = z; needs_in = Some "in"; items = one (sub (left z)) ∷ gap ∷ own an_infix ∷ gap ∷ one (sub (tail q Any)) ∷ [] }
form chain_member = plainly (one (sub lead_chain) ∷ link ∷ [])
form chain_first_member = plainly (one (sub (lead rank.Call)) ∷ link ∷ [])
form chain_call = plainly (one (sub lead_chain) ∷ choose is_optional (sign "?." ∷ []) [] ∷ argument_items)
form chain_first_call = plainly (one (sub (lead rank.Call)) ∷ choose is_optional (sign "?." ∷ []) [] ∷ argument_items)
form private_key = plainly (own a_private_name ∷ [])
form key_name = plainly (own a_name_ahead ∷ [])
form super = plainly (keyword "super" ∷ [])
form directive_text = plainly (own a_string ∷ [])
form spread_argument = plainly (punctuator "..." ∷ operand ∷ [])
form (template_part first last) = plainly (own (a_template first last) ∷ [])
form property_value = plainly (key_item ∷ punctuator ":" ∷ gap ∷ operand ∷ [])
form (property_method x) = plainly (these (method_words x) ∷ key_item ∷ at_role (method (method_of x)) ∷ [])
form property_get = plainly (keyword "get" ∷ gap ∷ key_item ∷ at_role (method method_form.Get) ∷ [])
form property_set = plainly (keyword "set" ∷ gap ∷ key_item ∷ at_role (method method_form.Set) ∷ [])
form shorthand = plainly (at_role shorthand_key ∷ at_role name ∷ [])
form shorthand_default = plainly (at_role shorthand_key ∷ at_role (element true) ∷ [])
form (pattern_value b) = plainly (key_item ∷ punctuator ":" ∷ gap ∷ default_part b 1 ∷ [])
form (array_pattern b) = plainly (punctuator "[" ∷ list_with_holes (a_pattern_element b) 0 ∷ punctuator "]" ∷ [])
form (object_pattern b) = plainly (punctuator "{" ∷ list (a_pattern_property b) 0 ∷ punctuator "}" ∷ [])
form (default b) = plainly (bound_part b 0 ∷ gap ∷ punctuator "=" ∷ gap ∷ operand ∷ [])
form (rest_of b) = plainly (punctuator "..." ∷ bound_part b 0 ∷ [])
form getter = plainly (one absent ∷ punctuator "(" ∷ punctuator ")" ∷ gap ∷ at_role body ∷ [])
form setter = plainly (one absent ∷ punctuator "(" ∷ default_part true 1 ∷ punctuator ")" ∷ gap ∷ at_role body ∷ [])
form method_function = plainly (one absent ∷ punctuator "(" ∷ parameter_list body_pieces 1 ∷ [])
form function_body = plainly (braced_items 0 (item_list true true (lay line ∷ []) [] ∷ []))
form member_get = plainly (static_item ∷ keyword "get" ∷ gap ∷ class_key ∷ at_role (method method_form.Get) ∷ [])
form member_set = plainly (static_item ∷ keyword "set" ∷ gap ∷ class_key ∷ at_role (method method_form.Set) ∷ [])
form (member_method x) = plainly (static_item ∷ these (method_words x) ∷ class_key ∷ at_role (method (method_of x)) ∷ [])
form field = plainly (static_item ∷ class_key ∷ one absent ∷ key_ending ∷ [])
form initialised_field = plainly (static_item ∷ class_key ∷ gap ∷ punctuator "=" ∷ gap ∷ operand ∷ value_ending ∷ [])
form static_block = plainly (keyword "static" ∷ gap ∷ braced_items 0 (line_list (item false) 0 ∷ []))
form class_members = plainly (braced_items 0 (one (many (codes ";")) ∷ member_list ∷ []))
form (block_of r) = plainly (braced_items 0 (line_list (item r) 0 ∷ []))
form variables = plainly (own a_name ∷ gap ∷ declarator_list (declarator true true) ∷ edge_ending ∷ [])
form empty = plainly (punctuator ";" ∷ [])
form expression_statement = plainly (at_role (expr rank.Expression true Statement) ∷ edge_ending ∷ [])
form directive = plainly (at_role directive_string ∷ one (ending (behind Other)) ∷ [])
form string_statement = plainly (at_role (expr rank.Grouped true Any) ∷ edge_ending ∷ [])
form break = plainly (keyword "break" ∷ if_part 0 (sp ∷ unbroken ∷ put name ∷ []) ∷ one (ending (behind Closed)) ∷ [])
form continue = plainly (keyword "continue" ∷ if_part 0 (sp ∷ unbroken ∷ put name ∷ []) ∷ one (ending (behind Closed)) ∷ [])
form return = plainly (keyword "return" ∷ if_part 0 (sp ∷ unbroken ∷ whole ∷ []) ∷ edge_ending ∷ [])
form throw = plainly (keyword "throw" ∷ gap ∷ one unbroken ∷ one whole ∷ edge_ending ∷ [])
form debugger = plainly (keyword "debugger" ∷ one (ending (behind Closed)) ∷ [])
form (if_alone r) = plainly (keyword "if" ∷ gap ∷ test_items ++ gap ∷ at_role (statement r) ∷ one absent ∷ [])
form (if_else r) = plainly (keyword "if" ∷ gap ∷ test_items ++ gap ∷ at_role (statement r) ∷ gap ∷ keyword "else" ∷ gap ∷ at_role (statement r) ∷ [])
form (do_while r) = plainly (keyword "do" ∷ gap ∷ at_role (statement r) ∷ gap ∷ keyword "while" ∷ gap ∷ test_items ++ one (ending of_do) ∷ [])
form (while r) = plainly (keyword "while" ∷ gap ∷ test_items ++ gap ∷ at_role (statement r) ∷ [])
form (for_loop r) = plainly (keyword "for" ∷ gap ∷ punctuator "(" ∷ for_first_part ∷ punctuator ";" ∷ if_part 1 (sp ∷ whole ∷ []) ∷ punctuator ";" ∷ if_part 2 (sp ∷ whole ∷ []) ∷ punctuator ")" ∷ gap ∷ at_role (statement r) ∷ [])
form (for_in r) = plainly (keyword "for" ∷ gap ∷ punctuator "(" ∷ for_left_part ∷ gap ∷ keyword "in" ∷ gap ∷ one whole ∷ punctuator ")" ∷ gap ∷ at_role (statement r) ∷ [])
form (for_of x r) = plainly (keyword "for" ∷ gap ∷ these (for_words x) ∷ punctuator "(" ∷ for_left_part ∷ gap ∷ keyword "of" ∷ gap ∷ operand ∷ punctuator ")" ∷ gap ∷ at_role (statement r) ∷ [])
form (labeled r) = plainly (at_role name ∷ punctuator ":" ∷ gap ∷ at_role (statement r) ∷ [])
form (switch r) = plainly (keyword "switch" ∷ gap ∷ test_items ++ gap ∷ braced_items 1 (line_list (switch_case r) 1 ∷ []))
form (try_catch r) = plainly (keyword "try" ∷ gap ∷ at_role (block r) ∷ gap ∷ at_role (handler r) ∷ one absent ∷ [])
form (try_both r) = plainly (keyword "try" ∷ gap ∷ at_role (block r) ∷ gap ∷ at_role (handler r) ∷ gap ∷ keyword "finally" ∷ gap ∷ at_role (block r) ∷ [])
form (try_finally r) = plainly (keyword "try" ∷ gap ∷ at_role (block r) ∷ one absent ∷ gap ∷ keyword "finally" ∷ gap ∷ at_role (block r) ∷ [])
form (variables_of_head b) = plainly (own a_name ∷ gap ∷ declarator_list (declarator false b) ∷ [])
form (initialised i) = plainly (bound_part true 0 ∷ gap ∷ punctuator "=" ∷ gap ∷ at_role (expr rank.Assignment i Any) ∷ [])
form bare_declarator = plainly (bound_part true 0 ∷ one absent ∷ [])
form (switch_test r) = plainly (keyword "case" ∷ gap ∷ one whole ∷ punctuator ":" ∷ one (lay deeper) ∷ line_list (item r) 1 ∷ one (lay shallower) ∷ [])
form (switch_default r) = plainly (one absent ∷ keyword "default" ∷ punctuator ":" ∷ one (lay deeper) ∷ line_list (item r) 1 ∷ one (lay shallower) ∷ [])
form (catch_bound r) = plainly (keyword "catch" ∷ gap ∷ punctuator "(" ∷ bound_part true 0 ∷ punctuator ")" ∷ gap ∷ at_role (block r) ∷ [])
form (catch_bare r) = plainly (one absent ∷ keyword "catch" ∷ gap ∷ at_role (block r) ∷ [])
form script = plainly (item_list false true [] (lay feed ∷ []) ∷ one (tok token.End []) ∷ [])
form module_script = plainly (module_item_list ∷ one (tok token.End []) ∷ [])
form import_alone = plainly (keyword "import" ∷ gap ∷ at_role directive_string ∷ one (ending (behind Closed)) ∷ [])
form import_nothing = plainly (keyword "import" ∷ gap ∷ these braces ∷ these from_source ∷ [])
form import_space = plainly (keyword "import" ∷ gap ∷ at_role specifier ∷ these from_source ∷ [])
form import_names = plainly (keyword "import" ∷ gap ∷ import_list 0 ∷ [])
form import_default = plainly (keyword "import" ∷ gap ∷ at_role specifier ∷ these from_source ∷ [])
form import_default_nothing = plainly (keyword "import" ∷ gap ∷ at_role specifier ∷ punctuator "," ∷ gap ∷ these braces ∷ these from_source ∷ [])
form import_default_space = plainly (keyword "import" ∷ gap ∷ at_role specifier ∷ punctuator "," ∷ gap ∷ at_role specifier ∷ these from_source ∷ [])
form import_default_names = plainly (keyword "import" ∷ gap ∷ at_role specifier ∷ punctuator "," ∷ gap ∷ import_list 1 ∷ [])
form export_declaration = plainly (keyword "export" ∷ gap ∷ exported_part ∷ one absent ∷ [])
form export_names = plainly (keyword "export" ∷ gap ∷ one absent ∷ punctuator "{" ∷ export_list_from 1 ∷ [])
form export_default = plainly (keyword "export" ∷ gap ∷ keyword "default" ∷ gap ∷ default_export ∷ [])
form export_all = plainly (keyword "export" ∷ gap ∷ one absent ∷ punctuator "*" ∷ these from_source ∷ [])
form export_space = plainly (keyword "export" ∷ gap ∷ punctuator "*" ∷ gap ∷ keyword "as" ∷ gap ∷ module_name_part 0 ∷ these from_source ∷ [])
form one_name = plainly (at_role name ∷ [])
form all_names = plainly (punctuator "*" ∷ gap ∷ keyword "as" ∷ gap ∷ at_role name ∷ [])
form one_module_name = plainly (module_name_part 0 ∷ [])
form name_as_name = plainly (module_name_part 0 ∷ gap ∷ keyword "as" ∷ gap ∷ at_role name ∷ [])
form name_as_module_name = plainly (module_name_part 0 ∷ gap ∷ keyword "as" ∷ gap ∷ module_name_part 1 ∷ [])
