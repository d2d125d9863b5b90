-- The table of levels, of all nodes at all positions.
use Rattle.std.proofs.Common.{◌≡◌, ℕ, suc, ◌+◌, ◌≤◌, Bool, true, false, cond, List, [], ◌∷◌, ◌++◌, refl, ap, ◌∙◌, arith}
use Rattle.std.specs.Prelude.{Option, Some, None, codes, ◌&&◌}
use Rattle.tree.specs.declared.kind.Kind.{Kind}
use Rattle.tree.specs.declared.kind.Kind.TheVariants.{Program, ImportDeclaration, ImportSpecifier, ImportDefaultSpecifier, ImportNamespaceSpecifier, ExportNamedDeclaration, ExportSpecifier, ExportDefaultDeclaration, ExportAllDeclaration, PrivateIdentifier, PropertyDefinition, StaticBlock, Identifier, Literal, Super, Property, SpreadElement, FunctionExpression, TemplateLiteral, TemplateElement, ArrayPattern, ObjectPattern, AssignmentPattern, RestElement, ClassBody, MethodDefinition, ExpressionStatement, BlockStatement, ReturnStatement, BreakStatement, ContinueStatement, IfStatement, SwitchStatement, SwitchCase, TryStatement, CatchClause, ForStatement, ForInStatement, ForOfStatement, VariableDeclaration, VariableDeclarator, FunctionDeclaration, ClassDeclaration}
use Rattle.tree.specs.declared.kind.Flags.{Flags}
use Rattle.tree.specs.declared.kind.Form.{Form}
use Rattle.tree.specs.declared.kind.Form.TheVariants.{Init, Get, Set, Method, Shorthand, Constructor, Generator, Async, AsyncGenerator}
use Rattle.tree.specs.Tree.{Tree, node, Parts, none, part, gap, bare, kind_of}
use Rattle.tree.specs.Uses.{is_lean}
use Rattle.tokens.specs.declared.token.TokenClass.TheVariants.{End}
use Rattle.language.specs.declared.Start.TheVariants.{Any}
use Rattle.language.specs.declared.Rank.TheVariants.{Assignment}
use Rattle.language.specs.FirstPart.{lead, others}
use Rattle.language.specs.Vocabulary.{is_pattern, is_identifier, is_private}
use Rattle.language.specs.Pieces.{Role, expr, chain_part, name, word, private_name, module_item, specifier, default_item, sub, may, ahead, unbroken, no_operand, ending, behind_key, behind_value, open_parameters, close_parameters, never, only, put, key, shorthand_key, base, directive_string, tagged_quasi, template_element, spread, property, pattern, pattern_property, element, rest, method, body, statement, item, opening, block, head, declarator, switch_case, handler, class_body, member, script, Piece, PieceOf, tok, many, absent, lay, feed, deeper, shallower, line, only_at, bound, sign, term, sp, is_none, listed, elements, pattern_element}
use Rattle.language.specs.Expressions.{assignment, keyed, method_words, method_of, value_form, properties, shorthand_pattern, pattern_properties, object_pattern_part, methods}
use Rattle.language.specs.Statements.{statements, items, openings, braced, prologue, is_directive, members, member_lines, for_words, for_left, class_keyed, static_word, fields, key_word, imports, specifiers, default_items, module_items, module_prologue, is_module_item}
use Rattle.language.specs.Edges.{edge}
use Rattle.language.specs.Grammar.{ways, ways_bare, spellings}
use Rattle.language.specs.Derivation.{Among}
use Rattle.language.proofs.lower_bound.Domination.{ways_of}
use Rattle.unambiguity_laws.proofs.heights.Levels.{level, slot_level, gain, gain-append, owing, debt, Paid, at_end, exact, ample, ample_more, Paid-sole, Paid-cond, Paid-if, Paid-unless, among_paid}
use Rattle.unambiguity_laws.proofs.heights.LevelsOfExpressions.{gain-closed, literal_gain, chunks_gain, function_gain, class_gain, expression_paid, spine_paid}

statement_paid : (r : Bool) (k : Kind) (w : List ℕ) (g : Flags) (ps : Parts) → Paid 1 (statements r k w g ps)
unfolding statements
statement_paid r BlockStatement w g ps = ample (omega arith)
statement_paid r VariableDeclaration w g ps = Paid-if _ _ (ample (omega arith))
statement_paid r ExpressionStatement w g ps = Paid-unless _ _ (exact (omega arith))
statement_paid r IfStatement w g none = at_end
statement_paid r IfStatement w g (gap ps) = at_end
statement_paid r IfStatement w g (part t none) = at_end
statement_paid r IfStatement w g (part t (gap ps)) = at_end
statement_paid r IfStatement w g (part t (part c none)) = at_end
statement_paid r IfStatement w g (part t (part c (gap none))) = ample (omega arith)
statement_paid r IfStatement w g (part t (part c (gap (part n ps)))) = at_end
statement_paid r IfStatement w g (part t (part c (gap (gap ps)))) = at_end
statement_paid r IfStatement w g (part t (part c (part a none))) = Paid-unless _ _ (ample (omega arith))
statement_paid r IfStatement w g (part t (part c (part a (part n ps)))) = at_end
statement_paid r IfStatement w g (part t (part c (part a (gap ps)))) = at_end
statement_paid r ForStatement w g ps = ample (omega arith)
statement_paid r ForInStatement w g ps = ample (omega arith)
statement_paid r ForOfStatement w g ps = ample (let e = gain-closed 2 (for_words g.form) (sign "(" ∷ for_left ps ∷ sp ∷ term "of" ∷ sp ∷ put (expr Assignment true Any) ∷ sign ")" ∷ sp ∷ put (statement r) ∷ []) (omega arith) in omega (arith, e))
statement_paid r ContinueStatement w g ps = ample (omega arith)
statement_paid r BreakStatement w g ps = ample (omega arith)
statement_paid r ReturnStatement w g ps = Paid-if _ _ (ample (omega arith))
statement_paid r SwitchStatement w g ps = Paid-if _ _ (ample (omega arith))
statement_paid r TryStatement w g (part b (part h (gap none))) = ample (omega arith)
statement_paid r TryStatement w g (part b (part h (part f none))) = ample (omega arith)
statement_paid r TryStatement w g (part b (gap (part f none))) = ample (omega arith)
statement_paid r TryStatement w g _ = at_end
statement_paid r k w g ps = Paid-sole (statements r k w g ps) refl

item_paid : (r : Bool) (k : Kind) (w : List ℕ) (g : Flags) (ps : Parts) → Paid 1 (items r k w g ps)
unfolding items
item_paid r FunctionDeclaration w g (part n ps) = ample (let e = function_gain g.form (part n ps) in omega (arith, e))
item_paid r FunctionDeclaration w g _ = at_end
item_paid r ClassDeclaration w g (part n ps) = ample (omega arith)
item_paid r ClassDeclaration w g _ = at_end
item_paid r VariableDeclaration w g ps = Paid-if _ _ (ample (omega arith))
item_paid r k w g ps = statement_paid r k w g ps

opening_paid : (r : Bool) (k : Kind) (w : List ℕ) (g : Flags) (ps : Parts) → Paid 1 (openings r k w g ps)
unfolding openings
opening_paid r ExpressionStatement w g ps = Paid-cond _ _ _ (Paid-if _ _ (exact (omega arith))) (Paid-cond _ _ _ (exact (omega arith)) (exact (omega arith)))
opening_paid r k w g ps = item_paid r k w g ps

method_paid : (x : Form) (ps : Parts) → Paid 1 (methods x ps)
method_paid Get (gap (part b none)) = ample (omega arith)
method_paid Get _ = at_end
method_paid Set (gap (part n (part b none))) = Paid-unless _ _ (ample (omega arith))
method_paid Set _ = at_end
method_paid _ (gap ps) = ample (omega arith)
method_paid _ _ = at_end

-- a key between these pieces gives what they give, and more
keyed_paid : {l : ℕ} (before : List Piece) (c : Bool) (after : List Piece) → l ≤ gain slot_level before → debt slot_level (before ++ put key ∷ after) ≡ 0 → Paid l (keyed before c after)
keyed_paid {l} before true after h k = ample (let e = gain-append before (sign "[" ∷ assignment ∷ sign "]" ∷ after) in omega (arith, e, h))
keyed_paid {l} before false after h k = exact (let e = gain-append before (put key ∷ after) in omega (arith, e, h, k))

words_owe : (x y : Form) → debt slot_level (method_words x ++ put key ∷ put (method (method_of y)) ∷ []) ≡ 0
words_owe Init y = refl
words_owe Generator y = refl
words_owe Async y = refl
words_owe AsyncGenerator y = refl
words_owe _ y = refl

property_paid : (c : Bool) (x y : Form) → Paid 0 (properties c x y)
property_paid c Init y = keyed_paid [] c _ (omega arith) refl
property_paid c Method y = keyed_paid (method_words y) c _ (omega arith) (words_owe y y)
property_paid c Get y = keyed_paid (term "get" ∷ sp ∷ []) c _ (omega arith) refl
property_paid c Set y = keyed_paid (term "set" ∷ sp ∷ []) c _ (omega arith) refl
property_paid c Shorthand y = Paid-unless _ _ (exact (omega arith))
property_paid c Constructor y = at_end
property_paid c Generator y = at_end
property_paid c Async y = at_end
property_paid c AsyncGenerator y = at_end

shorthand_paid : (k : Kind) → Paid 0 (shorthand_pattern k)
shorthand_paid Identifier = exact (omega arith)
shorthand_paid AssignmentPattern = exact (omega arith)
shorthand_paid _ = at_end

pattern_property_paid : (b c : Bool) (x : Form) (k : Kind) → Paid 0 (pattern_properties b c x k)
pattern_property_paid b c Init k = Paid-cond c _ _ (ample (omega arith)) (ample (omega arith))
pattern_property_paid b c Shorthand k = Paid-unless _ _ (shorthand_paid k)
pattern_property_paid b c _ k = at_end

-- a member's key between these pieces
class_keyed_paid : (before : List Piece) (c : Bool) (k : Kind) (after : List Piece) → debt slot_level (before ++ after) ≡ 0 → Paid 1 (class_keyed before c k after)
class_keyed_paid before true k after h = ample (let e = gain-append before (sign "[" ∷ assignment ∷ sign "]" ∷ after) in omega (arith, e))
class_keyed_paid before false k after h = of (is_private k)
  where
    same_debt : (b : Bool) (qs : List Piece) → debt slot_level (qs ++ put (cond b private_name key) ∷ after) ≡ debt slot_level (qs ++ after)
    same_debt true [] = refl
    same_debt false [] = refl
    same_debt b (tok c w ∷ qs) = same_debt b qs
    same_debt b (may w ∷ qs) = same_debt b qs
    same_debt b (many w ∷ qs) = same_debt b qs
    same_debt b (ahead w ∷ qs) = same_debt b qs
    same_debt b (unbroken ∷ qs) = same_debt b qs
    same_debt b (no_operand ∷ qs) = same_debt b qs
    same_debt b (ending x ∷ qs) = same_debt b qs
    same_debt b (open_parameters ∷ qs) = same_debt b qs
    same_debt b (close_parameters ∷ qs) = same_debt b qs
    same_debt b (sub x ∷ qs) = ap (owing (slot_level x)) (same_debt b qs)
    same_debt b (absent ∷ qs) = same_debt b qs
    same_debt b (never ∷ qs) = same_debt b qs
    same_debt b (lay x ∷ qs) = same_debt b qs

    key_gain : (b : Bool) → gain slot_level (put (cond b private_name key) ∷ after) ≡ 1 + gain slot_level after
    key_gain true = refl
    key_gain false = refl

    of : (b : Bool) → Paid 1 (only (before ++ put (cond b private_name key) ∷ after))
    of b = let e = gain-append before (put (cond b private_name key) ∷ after) in let k = key_gain b in let d = same_debt b before in exact (omega (arith, e, k, d, h))

static_owes : (b : Bool) (qs : List Piece) → debt slot_level (static_word b ++ qs) ≡ debt slot_level qs
static_owes true qs = refl
static_owes false qs = refl

member_words_owe : (b : Bool) (y z : Form) → debt slot_level ((static_word b ++ method_words y) ++ put (method (method_of z)) ∷ []) ≡ 0
member_words_owe true Init z = refl
member_words_owe true Generator z = refl
member_words_owe true Async z = refl
member_words_owe true AsyncGenerator z = refl
member_words_owe true _ z = refl
member_words_owe false Init z = refl
member_words_owe false Generator z = refl
member_words_owe false Async z = refl
member_words_owe false AsyncGenerator z = refl
member_words_owe false _ z = refl

-- a method
member_paid : (b c : Bool) (x y : Form) (k : Kind) → Paid 1 (members (static_word b) c x y k)
member_paid true c Get y k = class_keyed_paid (static_word true ++ term "get" ∷ sp ∷ []) c k (put (method Get) ∷ []) refl
member_paid false c Get y k = class_keyed_paid (static_word false ++ term "get" ∷ sp ∷ []) c k (put (method Get) ∷ []) refl
member_paid true c Set y k = class_keyed_paid (static_word true ++ term "set" ∷ sp ∷ []) c k (put (method Set) ∷ []) refl
member_paid false c Set y k = class_keyed_paid (static_word false ++ term "set" ∷ sp ∷ []) c k (put (method Set) ∷ []) refl
member_paid b c x y k = class_keyed_paid (static_word b ++ method_words y) c k (put (method (method_of y)) ∷ []) (member_words_owe b y y)

field_paid : (g : Flags) (ps : Parts) → Paid 1 (fields g ps)
field_paid g (part n (gap none)) = class_keyed_paid (static_word g.is_static) g.computed (kind_of n) (absent ∷ ending (behind_key (key_word g.computed n) g.is_static) ∷ []) (static_owes g.is_static _)
field_paid g (part n (part v none)) = class_keyed_paid (static_word g.is_static) g.computed (kind_of n) (sp ∷ sign "=" ∷ sp ∷ assignment ∷ ending (behind_value (edge v)) ∷ []) (static_owes g.is_static _)
field_paid g none = at_end
field_paid g (gap ps) = at_end
field_paid g (part n none) = at_end
field_paid g (part n (gap (part v ps))) = at_end
field_paid g (part n (gap (gap ps))) = at_end
field_paid g (part n (part v (part x ps))) = at_end
field_paid g (part n (part v (gap ps))) = at_end

-- what binds a name or is one, and no more
bound_paid : (k : Kind) → Paid 1 (only_at (bound true k) (absent ∷ []))
bound_paid k = of (is_pattern k) (is_identifier k)
  where
    of : (x y : Bool) → Paid 1 (only_at (cond x (Some (pattern true Any)) (cond y (Some name) None)) (absent ∷ []))
    of true y = exact (omega arith)
    of false true = exact (omega arith)
    of false false = at_end

-- a target or what binds, then further pieces
default_paid : {l : ℕ} (a : Option Role) (qs : List Piece) → suc l ≤ gain slot_level qs → Paid l (only_at a qs)
default_paid (Some a) qs h = ample (omega (arith, h))
default_paid None qs h = at_end

-- a class body has both braces
class_body_gain : (ps : Parts) → 3 ≤ gain slot_level (braced ps (many (codes ";") ∷ member_lines ps))
class_body_gain ps = of (cond (is_none ps) [] (lay deeper ∷ [])) (many (codes ";") ∷ member_lines ps) (cond (is_none ps) [] (lay shallower ∷ lay line ∷ []))
  where
    of : (xs qs ys : List Piece) → 3 ≤ gain slot_level (sign "{" ∷ xs ++ qs ++ ys ++ sign "}" ∷ [])
    of xs qs ys = let e = gain-closed 2 (xs ++ qs ++ ys) (sign "}" ∷ []) (omega arith) in omega (arith, e)

-- the items of a script owe nothing
script_debt : (b : Bool) (ps : Parts) → debt slot_level (prologue false b [] (lay feed ∷ []) ps ++ tok End [] ∷ []) ≡ 0
script_debt b none = refl
script_debt b (gap ps) = refl
script_debt true (part m ps) = script_debt (is_directive m) ps
script_debt false (part m ps) = script_debt false ps

-- nor do those of a module
item_debt : (x y : Bool) (qs : List Piece) → debt slot_level (put (cond x module_item (cond y (opening false) (item false))) ∷ lay feed ∷ qs) ≡ debt slot_level qs
item_debt true y qs = refl
item_debt false true qs = refl
item_debt false false qs = refl

module_debt : (b : Bool) (ps : Parts) → debt slot_level (module_prologue b ps ++ tok End [] ∷ []) ≡ 0
module_debt b none = refl
module_debt b (gap ps) = refl
module_debt b (part m ps) = item_debt (is_module_item (kind_of m)) b (module_prologue (b && is_directive m) ps ++ tok End [] ∷ []) ∙ module_debt (b && is_directive m) ps

script_paid : (ps : Parts) → Paid 0 (only (prologue false true [] (lay feed ∷ []) ps ++ tok End [] ∷ []))
script_paid ps = exact (let d = script_debt true ps in omega (arith, d))

module_paid : (ps : Parts) → Paid 0 (only (module_prologue true ps ++ tok End [] ∷ []))
module_paid ps = exact (let d = module_debt true ps in omega (arith, d))

-- what only modules have
either_paid : (b : Bool) → Paid 1 (only (put (cond b word directive_string) ∷ []))
either_paid true = exact (omega arith)
either_paid false = exact (omega arith)

specifier_paid : (k : Kind) (x : Form) (ps : Parts) → Paid 1 (specifiers k x ps)
specifier_paid ImportDefaultSpecifier x (part n none) = exact (omega arith)
specifier_paid ImportNamespaceSpecifier x (part n none) = ample (omega arith)
specifier_paid ImportSpecifier Shorthand (part n none) = exact (omega arith)
specifier_paid ImportSpecifier Init (part m (part n none)) = ample (omega arith)
specifier_paid ExportSpecifier Shorthand (part n none) = either_paid (is_identifier (kind_of n))
specifier_paid ExportSpecifier Init (part m (part n none)) = ample (omega arith)
specifier_paid k x ps = Paid-sole (specifiers k x ps) refl

import_paid : (k : Kind) (ps : Parts) → Paid 1 (imports k ps)
import_paid Literal (part s none) = ample_more (omega arith) (ample (omega arith))
import_paid ImportNamespaceSpecifier (part n (part s none)) = ample (omega arith)
import_paid ImportSpecifier ps = ample (omega arith)
import_paid ImportDefaultSpecifier (part n (part (node ImportNamespaceSpecifier w g s e qs) (part m none))) = ample (omega arith)
import_paid ImportDefaultSpecifier (part n (part (node ImportSpecifier w g s e qs) ps)) = ample (omega arith)
import_paid ImportDefaultSpecifier (part n (part (node Literal w g s e qs) none)) = ample_more (omega arith) (ample (omega arith))
import_paid k ps = Paid-sole (imports k ps) refl

module_item_paid : (k : Kind) (ps : Parts) → Paid 1 (module_items k ps)
module_item_paid ImportDeclaration ps = import_paid (lead ps) ps
module_item_paid ExportNamedDeclaration (part d (gap none)) = ample (omega arith)
module_item_paid ExportNamedDeclaration (gap ps) = ample (omega arith)
module_item_paid ExportDefaultDeclaration (part d none) = ample (omega arith)
module_item_paid ExportAllDeclaration (gap (part s none)) = ample (omega arith)
module_item_paid ExportAllDeclaration (part n (part s none)) = ample (omega arith)
module_item_paid k ps = Paid-sole (module_items k ps) refl

default_paid_item : (k : Kind) (x : Form) (ps : Parts) → Paid 1 (default_items k x ps)
default_paid_item FunctionDeclaration x ps = ample (let e = function_gain x ps in omega (arith, e))
default_paid_item ClassDeclaration x ps = ample (let e = class_gain ps in omega (arith, e))
default_paid_item k x ps = Paid-sole (default_items k x ps) refl

level_table : (a : Role) (n : Tree) → Paid (level a) (spellings a n)
unfolding spellings
level_table (expr y i f) (node k w g s e ps) = expression_paid k w g ps
level_table (chain_part f) (node k w g s e ps) = spine_paid k g ps
level_table name (node Identifier w g s e ps) = Paid-unless _ _ (exact (omega arith))
level_table name (node _ w g s e ps) = at_end
level_table word (node Identifier w g s e ps) = exact (omega arith)
level_table word (node _ w g s e ps) = at_end
level_table private_name (node PrivateIdentifier w g s e ps) = exact (omega arith)
level_table private_name (node _ w g s e ps) = at_end
level_table key (node Identifier w g s e ps) = exact (omega arith)
level_table key (node Literal w g s e ps) = Paid-unless _ _ (exact (let t = literal_gain w in omega (arith, t)))
level_table key (node _ w g s e ps) = at_end
level_table shorthand_key (node Identifier w g s e ps) = exact (omega arith)
level_table shorthand_key (node _ w g s e ps) = at_end
level_table base (node Super w g s e ps) = exact (omega arith)
level_table base (node _ w g s e ps) = at_end
level_table directive_string (node Literal w g s e ps) = Paid-if _ _ (exact (omega arith))
level_table directive_string (node _ w g s e ps) = at_end
level_table tagged_quasi (node TemplateLiteral w g s e ps) = ample (chunks_gain true ps)
level_table tagged_quasi (node _ w g s e ps) = at_end
level_table (template_element x y) (node TemplateElement w g s e ps) = exact (omega arith)
level_table (template_element x y) (node _ w g s e ps) = at_end
level_table spread (node SpreadElement w g s e ps) = exact (omega arith)
level_table spread (node _ w g s e ps) = at_end
level_table property (node Property w g s e ps) = property_paid g.computed g.form (value_form ps)
level_table property (node _ w g s e ps) = at_end
level_table (pattern b f) (node ArrayPattern w g s e ps) = ample (let e = gain-closed 2 (elements (pattern_element b) ps) (sign "]" ∷ []) (omega arith) in omega (arith, e))
level_table (pattern b f) (node ObjectPattern w g s e ps) = ample (let e = gain-closed 2 (listed (object_pattern_part b) ps) (sign "}" ∷ []) (omega arith) in omega (arith, e))
level_table (pattern b f) (node _ w g s e ps) = at_end
level_table (pattern_property b) (node Property w g s e ps) = pattern_property_paid b g.computed g.form (lead (others ps))
level_table (pattern_property b) (node _ w g s e ps) = at_end
level_table (element b) (node AssignmentPattern w g s e ps) = default_paid (bound b (lead ps)) _ (omega arith)
level_table (element b) (node _ w g s e ps) = at_end
level_table (rest b o) (node RestElement w g s e ps) = Paid-unless _ _ (ample (omega arith))
level_table (rest b o) (node _ w g s e ps) = at_end
level_table (method x) (node FunctionExpression w g s e ps) = Paid-if _ _ (method_paid x ps)
level_table (method x) (node _ w g s e ps) = at_end
level_table body (node BlockStatement w g s e ps) = ample (omega arith)
level_table body (node _ w g s e ps) = at_end
level_table (statement r) (node k w g s e ps) = statement_paid r k w g ps
level_table (item r) (node k w g s e ps) = item_paid r k w g ps
level_table (opening r) (node k w g s e ps) = opening_paid r k w g ps
level_table (block r) (node BlockStatement w g s e ps) = ample (omega arith)
level_table (block r) (node _ w g s e ps) = at_end
level_table (head b) (node VariableDeclaration w g s e ps) = Paid-if _ _ (ample (omega arith))
level_table (head b) (node _ w g s e ps) = at_end
level_table (declarator i b) (node VariableDeclarator w g s e (part n (part x none))) = Paid-if _ _ (default_paid (bound true (kind_of n)) _ (omega arith))
level_table (declarator i b) (node VariableDeclarator w g s e (part n (gap none))) = Paid-unless _ _ (bound_paid (kind_of n))
level_table (declarator i b) (node _ w g s e ps) = at_end
level_table (switch_case r) (node SwitchCase w g s e (part t ps)) = ample (omega arith)
level_table (switch_case r) (node SwitchCase w g s e (gap ps)) = ample (omega arith)
level_table (switch_case r) (node _ w g s e ps) = at_end
level_table (handler r) (node CatchClause w g s e (part p ps)) = ample (omega arith)
level_table (handler r) (node CatchClause w g s e (gap ps)) = ample (omega arith)
level_table (handler r) (node _ w g s e ps) = at_end
level_table class_body (node ClassBody w g s e ps) = ample (class_body_gain ps)
level_table class_body (node _ w g s e ps) = at_end
level_table member (node MethodDefinition w g s e ps) = Paid-if _ _ (member_paid g.is_static g.computed g.form (value_form ps) (lead ps))
level_table member (node PropertyDefinition w g s e ps) = field_paid g ps
level_table member (node StaticBlock w g s e ps) = ample (omega arith)
level_table member (node _ w g s e ps) = at_end
level_table script (node Program w g s e ps) = Paid-cond _ _ _ (script_paid ps) (Paid-if _ _ (module_paid ps))
level_table module_item (node k w g s e ps) = module_item_paid k ps
level_table specifier (node k w g s e ps) = specifier_paid k g.form ps
level_table default_item (node k w g s e ps) = default_paid_item k g.form ps
level_table script (node _ w g s e ps) = at_end

-- what the pieces of a way give pays for the node's level and for what its parts owe
pub way_paid : (a : Role) (n : Tree) (qs : List (PieceOf Role)) → Among qs (ways a n) → level a + debt level qs ≤ gain level qs
unfolding ways ways_bare
way_paid a n qs h = of (is_lean (bare n)) h
  where
    of : (t : Bool) → Among qs (cond t (ways_of a (spellings a (bare n))) []) → level a + debt level qs ≤ gain level qs
    of true k = among_paid a (spellings a (bare n)) qs (level_table a (bare n)) k
    of false k = elim k [ ]
