-- The table of levels, of expressions and parts of chains.
use Rattle.tokens.specs.declared.token.TokenClass.{TokenClass}
use Rattle.std.proofs.Common.{◌≡◌, ℕ, ◌≤◌, Bool, true, false, cond, List, [], ◌∷◌, ◌++◌, refl, arith}
use Rattle.std.specs.Prelude.{◌&&◌, ◌||◌, nat_eq, nat_le, slice_index_or}
use Rattle.tree.specs.declared.kind.Kind.{Kind}
use Rattle.tree.specs.declared.kind.Kind.TheVariants.{Identifier, Literal, ArrayExpression, ObjectExpression, FunctionExpression, ArrowFunctionExpression, ClassExpression, TemplateLiteral, MemberExpression, CallExpression, NewExpression, MetaProperty, ChainExpression, UpdateExpression, UnaryExpression, BinaryExpression, LogicalExpression, AssignmentExpression, SequenceExpression, AwaitExpression, YieldExpression}
use Rattle.tree.specs.declared.kind.Flags.{Flags}
use Rattle.tree.specs.declared.kind.Form.{Form}
use Rattle.tree.specs.declared.kind.Form.TheVariants.{Init, Generator, Async}
use Rattle.tree.specs.Tree.{node, Parts, none, part, gap, kind_of}
use Rattle.tokens.specs.declared.token.TokenClass.TheVariants.{IdentifierName, NumericLiteral, StringLiteral, RegularExpressionLiteral}
use Rattle.language.specs.declared.Rank.TheVariants.{Expression, Assignment, LeftHandSide, Member, Unary}
use Rattle.language.specs.declared.Start.TheVariants.{Any}
use Rattle.language.specs.FirstPart.{lead, others}
use Rattle.language.specs.Vocabulary.{is, is_private, is_target, is_pattern, literal_class, Operator, op_binary, op_power, operator_of}
use Rattle.language.specs.Pieces.{term, tok, name, private_name, expr, word, body, left, tail, callee, lead_chain, lead_pattern, Piece, sub, lay, apart, Spelling, only, at, sign, sp, put, is_none, parameters, pattern_element, separator, listed, elements, argument}
use Rattle.language.specs.Pieces as piece
use Rattle.language.specs.Expressions.{expressions, op_arrow, arrow_end, binary_ways, logical_ways, selector, after_number, member_link, call_link, arguments, chain_element, chain_parts, first_has_optional, template_elements, in_brackets, sequence, infix_pieces, object_part, named, class_pieces, function_pieces, function_words, arrow_words, arrow_opening, arrow_closing, property_name, yields, private_in}
use Rattle.unambiguity_laws.proofs.heights.Levels.{slot_level, token_gain, gain, gain-append, Paid, at_end, exact, ample, ample_more, Paid-sole, Paid-cond, Paid-if, Paid-unless}

-- what a list gives, and the token behind it
pub gain-closed : (m : ℕ) (xs ys : List Piece) → m ≤ gain slot_level ys → m ≤ gain slot_level (xs ++ ys)
gain-closed m xs ys h = let e = gain-append xs ys in omega (arith, e, h)

class_of : (a b c : Bool) → token_gain (cond a StringLiteral (cond b RegularExpressionLiteral (cond c NumericLiteral IdentifierName))) ≡ 2
class_of true b c = refl
class_of false true c = refl
class_of false false true = refl
class_of false false false = refl

-- a literal is no template and no end
pub literal_gain : (w : List ℕ) → token_gain (literal_class w) ≡ 2
literal_gain w = let c = slice_index_or w 0 0 in class_of (nat_eq c 34 || nat_eq c 39) (nat_eq c 47) (nat_eq c 46 || (nat_le 48 c && nat_le c 57))

-- a property's name is a word or a private one
name_gain : (k : Kind) → gain slot_level (property_name k ∷ []) ≡ 1
name_gain k = of (is_private k)
  where
    of : (b : Bool) → gain slot_level (put (cond b private_name word) ∷ []) ≡ 1
    of true = refl
    of false = refl

selector_gain : (g : Flags) (k : Kind) → 3 ≤ gain slot_level (selector g k)
selector_gain g k = of g.computed
  where
    of : (b : Bool) → 3 ≤ gain slot_level (cond b in_brackets (sign "." ∷ property_name k ∷ []))
    of true = omega arith
    of false = let x = name_gain k in omega (arith, x)

arguments_gain : (ps : Parts) → 4 ≤ gain slot_level (arguments ps)
arguments_gain ps = let e = gain-closed 2 (listed argument ps) (sign ")" ∷ []) (omega arith) in omega (arith, e)

member_link_gain : (g : Flags) (k : Kind) → 3 ≤ gain slot_level (member_link g k)
member_link_gain g k = of g.optional
  where
    either : (b : Bool) → 1 ≤ gain slot_level (cond b in_brackets (property_name k ∷ []))
    either true = omega arith
    either false = let x = name_gain k in omega (arith, x)

    of : (b : Bool) → 3 ≤ gain slot_level (cond b (sign "?." ∷ cond g.computed in_brackets (property_name k ∷ [])) (selector g k))
    of true = let x = either g.computed in omega (arith, x)
    of false = selector_gain g k

call_link_gain : (g : Flags) (ps : Parts) → 3 ≤ gain slot_level (call_link g ps)
call_link_gain g ps =
    let a = arguments_gain (others ps) in
    gain-closed 3 (cond g.optional (sign "?." ∷ []) []) (arguments (others ps)) (omega (arith, a))

pub chunks_gain : (b : Bool) (ps : Parts) → 3 ≤ gain slot_level (template_elements b ps)
chunks_gain b none = omega arith
chunks_gain b (gap ps) = omega arith
chunks_gain b (part q none) = omega arith
chunks_gain b (part q (gap ps)) = omega arith
chunks_gain b (part q (part e ps)) = omega arith

-- parameters give what stands behind them
parameters_gain : (m : ℕ) (after : List Piece) (ps : Parts) → m ≤ gain slot_level after → m ≤ 9 → m ≤ gain slot_level (parameters after ps)
parameters_gain m after none h k = k
parameters_gain m after (gap ps) h k = k
parameters_gain m after (part n none) h k = h
parameters_gain m after (part n (gap ps)) h k = k
parameters_gain m after (part n (part b ps)) h k = gain-closed m (pattern_element true n ∷ separator (kind_of n) (is_none ps)) (parameters after (part b ps)) (parameters_gain m after (part b ps) h k)

arrow_gain : (g : Flags) (ps : Parts) → 3 ≤ gain slot_level (arrow_words g.form ++ arrow_opening g.form ∷ parameters (arrow_closing g.form ∷ arrow_end g) ps)
arrow_gain g ps =
    let h = parameters_gain 2 (arrow_closing g.form ∷ arrow_end g) ps (closing g.form) (omega arith) in
    gain-closed 3 (arrow_words g.form) (arrow_opening g.form ∷ parameters (arrow_closing g.form ∷ arrow_end g) ps) (opening g.form (parameters (arrow_closing g.form ∷ arrow_end g) ps) h)
  where
    closing : (x : Form) → 2 ≤ gain slot_level (arrow_closing x ∷ arrow_end g)
    closing Async = omega arith
    closing _ = omega arith

    opening : (x : Form) (qs : List Piece) → 2 ≤ gain slot_level qs → 3 ≤ gain slot_level (arrow_opening x ∷ qs)
    opening Async qs h = omega (arith, h)
    opening _ qs h = omega (arith, h)

short_gain : (g : Flags) → 3 ≤ gain slot_level (arrow_words g.form ++ put name ∷ arrow_end g)
short_gain g = gain-closed 3 (arrow_words g.form) (put name ∷ arrow_end g) (omega arith)

arrows_paid : (g : Flags) (ps : Parts) → Paid 2 (op_arrow g ps)
arrows_paid g none = ample (arrow_gain g none)
arrows_paid g (gap ps) = ample (arrow_gain g (gap ps))
arrows_paid g (part n none) = ample (arrow_gain g (part n none))
arrows_paid g (part n (gap ps)) = ample (arrow_gain g (part n (gap ps)))
arrows_paid g (part n (part b (part m ps))) = ample (arrow_gain g (part n (part b (part m ps))))
arrows_paid g (part n (part b (gap ps))) = ample (arrow_gain g (part n (part b (gap ps))))
arrows_paid g (part (node Identifier w h s e qs) (part b none)) = ample_more (short_gain g) (ample (arrow_gain g (part (node Identifier w h s e qs) (part b none))))
arrows_paid g (part (node k w h s e qs) (part b none)) = ample (arrow_gain g (part (node k w h s e qs) (part b none)))

binary_paid : (w : List ℕ) (o : Operator) → Paid 2 (binary_ways w o)
binary_paid w (op_binary true z q) = at_end
binary_paid w (op_binary false z q) = exact (omega arith)
binary_paid w op_power = exact (omega arith)
binary_paid w _ = at_end

logical_paid : (w : List ℕ) (o : Operator) → Paid 2 (logical_ways w o)
logical_paid w (op_binary false z q) = at_end
logical_paid w (op_binary true z q) = exact (omega arith)
logical_paid w _ = at_end

sequence_paid : (ps : Parts) → Paid 2 (cond (is_none ps) [] (at Expression (sub (left Assignment) ∷ sequence ps) ∷ []))
sequence_paid none = at_end
sequence_paid (part n ps) = ample (omega arith)
sequence_paid (gap ps) = ample (omega arith)

selected_gain : (g : Flags) (k : Kind) (ps : Parts) → 3 ≤ gain slot_level (sub callee ∷ after_number ps g ++ selector g k)
selected_gain g k ps =
    let e = gain-append (after_number ps g) (selector g k) in
    let s = selector_gain g k in
    omega (arith, e, s)

-- a function has its parentheses and its body
pub function_gain : (x : Form) (ps : Parts) → 3 ≤ gain slot_level (function_pieces x ps)
function_gain x ps =
    let h = parameters_gain 2 (sign ")" ∷ sp ∷ put body ∷ []) (others ps) (omega arith) (omega arith) in
    gain-closed 3 (function_words x ++ (sp ∷ named ps)) (sign "(" ∷ parameters (sign ")" ∷ sp ∷ put body ∷ []) (others ps)) (omega (arith, h))

pub class_gain : (ps : Parts) → 3 ≤ gain slot_level (class_pieces ps)
class_gain none = omega arith
class_gain (gap none) = omega arith
class_gain (gap (part n ps)) = omega arith
class_gain (gap (gap ps)) = omega arith
class_gain (part m none) = omega arith
class_gain (part m (part n ps)) = omega arith
class_gain (part m (gap ps)) = omega arith

assigned_paid : (w : List ℕ) (a b : Bool) → Paid 2 (cond a (at Assignment (sub (piece.lead LeftHandSide) ∷ infix_pieces w ++ sub (tail Assignment Any) ∷ []) ∷ []) (cond b (at Assignment (sub lead_pattern ∷ infix_pieces w ++ sub (tail Assignment Any) ∷ []) ∷ []) []))
assigned_paid w true b = exact (omega arith)
assigned_paid w false true = exact (omega arith)
assigned_paid w false false = at_end

yield_paid : (x : Form) (ps : Parts) → Paid 2 (yields x ps)
yield_paid Init (gap none) = exact (omega arith)
yield_paid Init (part n none) = ample (omega arith)
yield_paid Generator (part n none) = ample (omega arith)
yield_paid x ps = Paid-sole (yields x ps) refl

private_paid : (b c : Bool) (ys : List Spelling) → Paid 2 ys → Paid 2 (cond b (cond c (private_in ∷ []) []) ys)
private_paid true true ys h = ample (omega arith)
private_paid true false ys h = at_end
private_paid false c ys h = h

pub expression_paid : (k : Kind) (w : List ℕ) (g : Flags) (ps : Parts) → Paid 2 (expressions k w g ps)
unfolding expressions
expression_paid Identifier w g ps = Paid-unless _ _ (exact (omega arith))
expression_paid Literal w g ps = Paid-unless _ _ (exact (let t = literal_gain w in omega (arith, t)))
expression_paid ArrayExpression w g ps = ample (let e = gain-closed 2 (elements argument ps) (sign "]" ∷ []) (omega arith) in omega (arith, e))
expression_paid ObjectExpression w g ps = ample (let e = gain-closed 2 (listed object_part ps) (sign "}" ∷ []) (omega arith) in omega (arith, e))
expression_paid FunctionExpression w g ps = ample (function_gain g.form ps)
expression_paid ClassExpression w g ps = ample (class_gain ps)
expression_paid TemplateLiteral w g ps = ample (chunks_gain true ps)
expression_paid ArrowFunctionExpression w g ps = arrows_paid g ps
expression_paid MemberExpression w g ps =
    Paid-unless _ _ (Paid-cond _ _ _ (ample (let s = selector_gain g Identifier in omega (arith, s))) (ample (selected_gain g (lead (others ps)) ps)))
expression_paid CallExpression w g ps =
    Paid-unless _ _ (Paid-cond _ _ _ (ample (omega arith)) (ample (omega arith)))
expression_paid NewExpression w g ps = ample_more (omega arith) (Paid-if _ _ (exact (omega arith)))
expression_paid MetaProperty w g ps = Paid-cond _ (at Member (put word ∷ sign "." ∷ put word ∷ []) ∷ []) _ (exact (omega arith)) (Paid-if _ (at Member (put word ∷ sign "." ∷ put word ∷ []) ∷ []) (exact (omega arith)))
expression_paid ChainExpression w g ps = Paid-if _ _ (exact (omega arith))
expression_paid UpdateExpression w g ps = Paid-unless _ _ (Paid-cond _ _ _ (exact (omega arith)) (exact (omega arith)))
expression_paid UnaryExpression w g ps = Paid-unless _ _ (Paid-cond _ _ _ (exact {x = at Unary (tok TokenClass.IdentifierName w ∷ sp ∷ put (expr Unary true Any) ∷ [])} (omega arith))
    (ample {x = at Unary (tok TokenClass.Punctuator w ∷ cond (is w "+") (lay (apart 43) ∷ []) (cond (is w "-") (lay (apart 45) ∷ []) []) ++ put (expr Unary true Any) ∷ [])} (let e = gain-closed 1 (cond (is w "+") (lay (apart 43) ∷ []) (cond (is w "-") (lay (apart 45) ∷ []) [])) (put (expr Unary true Any) ∷ []) (omega arith) in omega (arith, e))))
expression_paid AwaitExpression w g ps = exact (omega arith)
expression_paid YieldExpression w g ps = yield_paid g.form ps
expression_paid BinaryExpression w g ps = private_paid (is_private (lead ps)) (is w "in") _ (binary_paid w (operator_of w))
expression_paid LogicalExpression w g ps = logical_paid w (operator_of w)
expression_paid AssignmentExpression w g ps = Paid-unless _ _ (assigned_paid w (is_target (lead ps)) (is w "=" && is_pattern (lead ps)))
expression_paid SequenceExpression w g ps = sequence_paid (others ps)
expression_paid k w g ps = Paid-sole (expressions k w g ps) refl

linked_paid : (o : Bool) (ps : Parts) (qs : List Piece) → 3 ≤ gain slot_level qs → Paid 3 (chain_element o ps qs)
linked_paid o ps qs h = Paid-cond (first_has_optional ps) _ _ (ample (omega (arith, h))) (Paid-if o _ (ample (omega (arith, h))))

pub spine_paid : (k : Kind) (g : Flags) (ps : Parts) → Paid 3 (chain_parts k g ps)
spine_paid MemberExpression g ps = linked_paid g.optional ps (member_link g (lead (others ps))) (member_link_gain g (lead (others ps)))
spine_paid CallExpression g ps = linked_paid g.optional ps (call_link g ps) (call_link_gain g ps)
spine_paid _ g ps = at_end
