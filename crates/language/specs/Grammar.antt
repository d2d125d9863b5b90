-- The table of the grammar: of each node at each position, the ways to spell it directly, without parentheses round it. The
-- first is the one that is printed and counted.
use Rattle.std.specs.Prelude.{ℕ, Bool, true, false, not, cond, ◌&&◌, ◌||◌, List, [], ◌∷◌, ◌++◌, Option, Some, None, filter, map, codes}
use Rattle.tree.specs.declared.kind.Kind.{Kind}
use Rattle.tree.specs.declared.kind.Kind.TheVariants.{Program, Identifier, PrivateIdentifier, Literal, Super, Property, SpreadElement, FunctionExpression, TemplateLiteral, TemplateElement, ArrayPattern, ObjectPattern, AssignmentPattern, RestElement, BlockStatement, ClassBody}
use Rattle.language.specs.declared.Rank.{Rank}
use Rattle.language.specs.declared.Rank.TheVariants.{Expression, ShortCircuit, Coalesce}
use Rattle.language.specs.declared.Start.{Start}
use Rattle.language.specs.declared.Start.TheVariants.{Any, Statement}
use Rattle.tokens.specs.declared.token.TokenClass.{TokenClass}
use Rattle.tokens.specs.declared.token.TokenClass.TheVariants.{IdentifierName, PrivateName, Punctuator, StringLiteral, Template, End}
use Rattle.tree.specs.declared.kind.Form.{Form}
use Rattle.tree.specs.declared.kind.Form.TheVariants.{Generator, Async, AsyncGenerator}
use Rattle.tree.specs.Tree.{Tree, node, Parts, bare}
use Rattle.tree.specs.Uses.{implies, is_init, is_empty, is_lean}
use Rattle.language.specs.FirstPart.{lead, others}
use Rattle.language.specs.Vocabulary.{is, among, takes, is_reserved, literal_class, is_string, is_name}
use Rattle.language.specs.Pieces.{Role, unbroken, space, expr, chain_part, name, word, private_name, key, shorthand_key, base, directive_string, tagged_quasi, template_element, spread, property, pattern, pattern_property, element, rest, method, body, statement, item, opening, block, head, declarator, switch_case, handler, class_body, member, module_item, specifier, default_item, script, Piece, tok, many, ahead, PieceOf, settle_piece, never, lay, feed, line, Spelling, only, only_at, put_at, sign, sp, bound, listed, elements, pattern_element}
use Rattle.language.specs.Expressions.{value_form, expressions, chain_parts, template_elements, properties, pattern_properties, object_pattern_part, methods, assignment}
use Rattle.language.specs.Statements.{statements, items, openings, braced, lines, prologue, heads, declarator_ways, cases, handlers, class_members, member_lines, module_items, specifiers, default_items, module_prologue}

-- tokens of its own, at a place without a row
abbrev pub keys : Kind → List ℕ → List Spelling
keys Identifier text = only (tok IdentifierName text ∷ [])
keys Literal text = cond (is_name (literal_class text) || is_slash (literal_class text)) [] (only (tok (literal_class text) text ∷ []))
  where
    is_slash : TokenClass → Bool
    is_slash TokenClass.RegularExpressionLiteral = true
    is_slash _ = false
keys _ text = []

abbrev pub names : Kind → List ℕ → List Spelling
names Identifier text = cond (is_reserved text) [] (only (tok IdentifierName text ∷ []))
names _ text = []

abbrev pub words : Kind → List ℕ → List Spelling
words Identifier text = only (tok IdentifierName text ∷ [])
words _ text = []

-- PrivateIdentifier (12.6 of the 13th edition)
abbrev pub private_names : Kind → List ℕ → List Spelling
private_names PrivateIdentifier text = only (tok PrivateName (codes "#" ++ text) ∷ [])
private_names _ text = []

abbrev pub shorthand_keys : Kind → List ℕ → List Spelling
shorthand_keys Identifier text = only (ahead text ∷ [])
shorthand_keys _ text = []

abbrev pub bases : Kind → List Spelling
bases Super = only (tok IdentifierName (codes "super") ∷ [])
bases _ = []

abbrev pub directive_strings : Kind → List ℕ → List Spelling
directive_strings Literal text = cond (is_string (literal_class text)) (only (tok StringLiteral text ∷ [])) []
directive_strings _ text = []

abbrev pub tagged_quasis : Kind → Parts → List Spelling
tagged_quasis TemplateLiteral parts = only (template_elements true parts)
tagged_quasis _ parts = []

abbrev pub template_parts : Bool → Bool → Kind → List ℕ → List Spelling
template_parts first last TemplateElement text = only (tok Template (codes (cond first "`" "}") ++ text ++ codes (cond last "`" "${")) ∷ [])
template_parts first last _ text = []

abbrev pub patterns : Bool → Kind → Parts → List Spelling
patterns b ArrayPattern parts = only ((sign "[" ∷ elements (pattern_element b) parts) ++ sign "]" ∷ [])
patterns b ObjectPattern parts = only ((sign "{" ∷ listed (object_pattern_part b) parts) ++ sign "}" ∷ [])
patterns b _ parts = []

abbrev pub elements_with_default : Bool → Kind → Parts → List Spelling
elements_with_default b AssignmentPattern parts = only_at (bound b (lead parts)) (sp ∷ sign "=" ∷ sp ∷ assignment ∷ [])
elements_with_default b _ parts = []

abbrev pub rests : Bool → Bool → Kind → Parts → List Spelling
rests b of_object RestElement parts = cond (of_object && is_a_pattern (lead parts)) [] (only (sign "..." ∷ put_at (bound b (lead parts)) ∷ []))
  where
    is_a_pattern : Kind → Bool
    is_a_pattern ArrayPattern = true
    is_a_pattern ObjectPattern = true
    is_a_pattern _ = false
rests b of_object _ parts = []

-- whether the function at a method's position may have the form
abbrev pub is_function_at : Form → Form → Bool
is_function_at Generator Generator = true
is_function_at Generator _ = false
is_function_at Async Async = true
is_function_at Async _ = false
is_function_at AsyncGenerator AsyncGenerator = true
is_function_at AsyncGenerator _ = false
is_function_at _ form = is_init form

-- the Program, by its text
abbrev pub programs : List ℕ → Parts → List Spelling
programs text parts =
    cond (is_empty text || is text "2022") (only (prologue false true [] (lay feed ∷ []) parts ++ tok End [] ∷ [])) (
    cond (is text "module") (only (module_prologue true parts ++ tok End [] ∷ [])) [])

unfoldable pub spellings : Role → Tree → List Spelling
spellings (expr rank has_in start) (node kind text flags from to parts) = expressions kind text flags parts
spellings (chain_part f) (node kind text flags from to parts) = chain_parts kind flags parts
spellings name (node kind text flags from to parts) = names kind text
spellings word (node kind text flags from to parts) = words kind text
spellings private_name (node kind text flags from to parts) = private_names kind text
spellings key (node kind text flags from to parts) = keys kind text
spellings shorthand_key (node kind text flags from to parts) = shorthand_keys kind text
spellings base (node kind text flags from to parts) = bases kind
spellings directive_string (node kind text flags from to parts) = directive_strings kind text
spellings tagged_quasi (node kind text flags from to parts) = tagged_quasis kind parts
spellings (template_element first last) (node kind text flags from to parts) = template_parts first last kind text
spellings spread (node SpreadElement text flags from to parts) = only (sign "..." ∷ assignment ∷ [])
spellings spread (node _ text flags from to parts) = []
spellings property (node Property text flags from to parts) = properties flags.computed flags.form (value_form parts)
spellings property (node _ text flags from to parts) = []
spellings (pattern b f) (node kind text flags from to parts) = patterns b kind parts
spellings (pattern_property b) (node Property text flags from to parts) = pattern_properties b flags.computed flags.form (lead (others parts))
spellings (pattern_property b) (node _ text flags from to parts) = []
spellings (element b) (node kind text flags from to parts) = elements_with_default b kind parts
spellings (rest b o) (node kind text flags from to parts) = rests b o kind parts
spellings (method x) (node FunctionExpression text flags from to parts) = cond (is_function_at x flags.form) (methods x parts) []
spellings (method x) (node _ text flags from to parts) = []
spellings body (node BlockStatement text flags from to parts) = only (braced parts (prologue true true (lay line ∷ []) [] parts))
spellings body (node _ text flags from to parts) = []
spellings (statement r) (node kind text flags from to parts) = statements r kind text flags parts
spellings (item r) (node kind text flags from to parts) = items r kind text flags parts
spellings (opening r) (node kind text flags from to parts) = openings r kind text flags parts
spellings (block r) (node BlockStatement text flags from to parts) = only (braced parts (lines (item r) parts))
spellings (block r) (node _ text flags from to parts) = []
spellings (head b) (node kind text flags from to parts) = heads b kind text parts
spellings (declarator i b) (node kind text flags from to parts) = declarator_ways i b kind parts
spellings (switch_case r) (node kind text flags from to parts) = cases r kind parts
spellings (handler r) (node kind text flags from to parts) = handlers r kind parts
spellings class_body (node ClassBody text flags from to parts) = only (braced parts (many (codes ";") ∷ member_lines parts))
spellings class_body (node _ text flags from to parts) = []
spellings member (node kind text flags from to parts) = class_members kind flags parts
spellings module_item (node kind text flags from to parts) = module_items kind parts
spellings specifier (node kind text flags from to parts) = specifiers kind flags.form parts
spellings default_item (node kind text flags from to parts) = default_items kind flags.form parts
spellings script (node Program text flags from to parts) = programs text parts
spellings script (node _ text flags from to parts) = []

-- the standard's symbol: the left side of `??` has one of its own here
abbrev pub production_rank : Rank → Rank
production_rank Coalesce = ShortCircuit
production_rank rank = rank

-- the tightest symbol at which an expression's node can be spelled directly: that of its first way
abbrev pub rank_of : Tree → Option Rank
rank_of tree = first_rank (spellings (expr Expression true Any) tree)
  where
    first_rank : List Spelling → Option Rank
    first_rank [] = None
    first_rank (x ∷ xs) = Some (production_rank x.rank)

-- the first token may stand at this start; behind `async` the second counts
abbrev pub starts : Start → List Piece → Bool
starts Any pieces = true
starts start (tok Punctuator w ∷ qs) = not (is w "{")
starts Statement (tok IdentifierName w ∷ unbroken ∷ lay space ∷ tok IdentifierName v ∷ qs) = not (is v "function")
starts Statement (tok IdentifierName w ∷ qs) = not (among w ("function" ∷ "class" ∷ []))
starts start pieces = true

abbrev pub fits_position : Role → Spelling → Bool
fits_position (expr y has_in start) x = takes y x.rank && (implies x.needs_in has_in && starts start x.pieces)
fits_position (pattern b f) x = starts f x.pieces
fits_position _ x = true

abbrev pub can_run : List Piece → Bool
can_run [] = true
can_run (never ∷ qs) = false
can_run (q ∷ qs) = can_run qs

abbrev pub own_rank : Role → Rank
own_rank (expr rank has_in start) = rank
own_rank _ = Expression

abbrev pub own_in : Role → Bool
own_in (expr rank has_in start) = has_in
own_in _ = true

abbrev pub own_start : Role → Start
own_start (expr rank has_in start) = start
own_start (chain_part f) = f
own_start (pattern b f) = f
own_start _ = Any

-- the ways to spell a node whose places are left out
unfoldable pub ways_bare : Role → Tree → List (List (PieceOf Role))
ways_bare role tree = cond (is_lean tree) (map (λ x. map (settle_piece (own_rank role) (own_in role) (own_start role)) x.pieces) (filter (λ x. fits_position role x && can_run x.pieces) (spellings role tree))) []

-- the ways to spell the node directly at the position; they don't depend on places
unfoldable pub ways : Role → Tree → List (List (PieceOf Role))
ways role tree = ways_bare role (bare tree)
