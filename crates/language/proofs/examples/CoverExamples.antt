-- Examples: covers and the patterns that they are, what has no pattern, and the texts round them (ECMA-262 12.2.6, 12.2.10, 12.15.5, 14.2).
use Rattle.std.specs.Prelude.{◌≡◌, refl, [], ◌∷◌, Some, None, true, false}
use Rattle.tree.specs.declared.kind.Kind.TheVariants.{ArrayExpression, ArrayPattern, ArrowFunctionExpression, AssignmentExpression, AssignmentPattern, CallExpression, ChainExpression, FunctionExpression, BlockStatement, MemberExpression, ObjectExpression, ObjectPattern, Property, RestElement, SequenceExpression, SpreadElement}
use Rattle.tree.specs.declared.kind.Form.TheVariants.{Shorthand, Get}
use Rattle.tree.specs.Tree.{Tree, gap, none, part}
use Rattle.language.specs.Covers.{pattern_of, shaped, as_expression, as_pattern}
use Rattle.language.proofs.examples.Sources.{tokens}
use Rattle.language.proofs.examples.Trees.{computing, formed, found, id, lit, n, once, one, optional, pair, program, short, st, t, three, two}

-- `{a = 1}` as a cover, and its pattern
abbrev initialized : Tree
initialized = n ObjectExpression 1 8 (one (formed Shorthand (n Property 2 7 (two (id "a" 2) (t AssignmentExpression "=" 2 7 (two (id "a" 2) (lit "1" 6)))))))

abbrev defaulted : Tree
defaulted = n ObjectPattern 1 8 (one (formed Shorthand (n Property 2 7 (two (id "a" 2) (n AssignmentPattern 2 7 (two (id "a" 2) (lit "1" 6)))))))

pub initialized_covers : pattern_of initialized ≡ Some defaulted
unfolding pattern_of
initialized_covers = refl

-- it is no expression
pub initialized_name : found (tokens "({a = 1});") (program 10 (one (st 0 10 initialized))) ≡ []
unfolding computing
initialized_name = refl

-- but a parameter, and a target
pub initialized_parameter : found (tokens "({a = 1}) => a;") (program 15 (one (st 0 15 (short (n ArrowFunctionExpression 0 14 (two defaulted (id "a" 13))))))) ≡ once []
unfolding computing
initialized_parameter = refl

pub initialized_target : found (tokens "({a = 1} = b);") (program 14 (one (st 0 14 (t AssignmentExpression "=" 1 12 (two defaulted (id "b" 11)))))) ≡ once (pair 0 12 ∷ [])
unfolding computing
initialized_target = refl

-- `[a,, b = 1, ...c]` with a hole, a default and a rest
pub array_covers : pattern_of (n ArrayExpression 0 17 (part (id "a" 1) (gap (two (t AssignmentExpression "=" 5 10 (two (id "b" 5) (lit "1" 9))) (n SpreadElement 12 16 (one (id "c" 15))))))) ≡
    Some (n ArrayPattern 0 17 (part (id "a" 1) (gap (two (n AssignmentPattern 5 10 (two (id "b" 5) (lit "1" 9))) (n RestElement 12 16 (one (id "c" 15)))))))
unfolding pattern_of
array_covers = refl

-- the target of a default is a pattern already
pub pattern_with_default_covers : pattern_of (n ArrayExpression 0 9 (one (t AssignmentExpression "=" 1 8 (two (n ArrayPattern 1 4 (one (id "a" 2))) (id "b" 7))))) ≡ Some (n ArrayPattern 0 9 (one (n AssignmentPattern 1 8 (two (n ArrayPattern 1 4 (one (id "a" 2))) (id "b" 7)))))
unfolding pattern_of
pattern_with_default_covers = refl

-- `{a: [b], ...c.d}`
pub nested_covers : pattern_of (n ObjectExpression 1 17 (two (n Property 2 8 (two (id "a" 2) (n ArrayExpression 5 8 (one (id "b" 6))))) (n SpreadElement 10 16 (one (n MemberExpression 13 16 (two (id "c" 13) (id "d" 15))))))) ≡
    Some (n ObjectPattern 1 17 (two (n Property 2 8 (two (id "a" 2) (n ArrayPattern 5 8 (one (id "b" 6))))) (n RestElement 10 16 (one (n MemberExpression 13 16 (two (id "c" 13) (id "d" 15)))))))
unfolding pattern_of
nested_covers = refl

-- no pattern: a call, a part of an optional chain, a rest with a default, another assignment, an accessor, a sequence
pub call_covers_none : pattern_of (n CallExpression 0 3 (one (id "f" 0))) ≡ None
unfolding pattern_of
call_covers_none = refl

pub chain_covers_none : pattern_of (n ChainExpression 1 5 (one (optional (n MemberExpression 1 5 (two (id "a" 1) (id "b" 4)))))) ≡ None
unfolding pattern_of
chain_covers_none = refl

pub rest_with_default_covers_none : pattern_of (n ArrayExpression 0 10 (one (n SpreadElement 1 9 (one (t AssignmentExpression "=" 4 9 (two (id "a" 4) (lit "1" 8))))))) ≡ None
unfolding pattern_of
rest_with_default_covers_none = refl

pub other_assignment_covers_none : pattern_of (n ArrayExpression 0 8 (one (t AssignmentExpression "+=" 1 7 (two (id "a" 1) (lit "1" 6))))) ≡ None
unfolding pattern_of
other_assignment_covers_none = refl

pub accessor_covers_none : pattern_of (n ObjectExpression 1 14 (one (formed Get (n Property 2 12 (two (id "a" 6) (n FunctionExpression 7 12 (part (n BlockStatement 10 12 none) none))))))) ≡ None
unfolding pattern_of
accessor_covers_none = refl

-- `(a, ...b) => c` with a rest, which is in no sequence
pub rest_of_arrow : found (tokens "(a, ...b) => c;") (program 15 (one (st 0 15 (short (n ArrowFunctionExpression 0 14 (three (id "a" 1) (n RestElement 4 8 (one (id "b" 7))) (id "c" 13))))))) ≡ once []
unfolding computing
rest_of_arrow = refl

pub rest_in_group : found (tokens "(a, ...b);") (program 10 (one (st 0 10 (n SequenceExpression 1 8 (two (id "a" 1) (n SpreadElement 4 8 (one (id "b" 7)))))))) ≡ []
unfolding computing
rest_in_group = refl

-- groups in targets and round parameters: what the shape says, and the tree doesn't
pub grouped_name : shaped true true false as_expression ≡ true
grouped_name = refl

pub grouped_name_binds : shaped true true false (as_pattern true) ≡ false
grouped_name_binds = refl
