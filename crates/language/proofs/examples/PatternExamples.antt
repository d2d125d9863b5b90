-- Examples: patterns that tokens spell, with these pairs and in this one way; and trees that they do not spell.
use Rattle.std.specs.Prelude.{◌≡◌, refl, [], ◌∷◌}
use Rattle.tree.specs.declared.kind.Kind.TheVariants.{ArrayExpression, ArrayPattern, ArrowFunctionExpression, AssignmentExpression, AssignmentPattern, BlockStatement, CallExpression, CatchClause, ChainExpression, EmptyStatement, ForInStatement, ForOfStatement, MemberExpression, ObjectExpression, ObjectPattern, Property, RestElement, SequenceExpression, SpreadElement, TryStatement, VariableDeclaration, VariableDeclarator}
use Rattle.tree.specs.declared.kind.Form.TheVariants.{Shorthand}
use Rattle.tree.specs.Tree.{gap, none, part}
use Rattle.language.proofs.examples.Sources.{tokens}
use Rattle.language.proofs.examples.Trees.{computed, computing, formed, found, id, lit, n, once, one, optional, pair, program, short, st, t, three, two}

pub default_in_target : found (tokens "({a = 1} = b);") (program 14 (one (st 0 14 (t AssignmentExpression "=" 1 12 (two (n ObjectPattern 1 8 (one (formed Shorthand (n Property 2 7 (two (id "a" 2) (n AssignmentPattern 2 7 (two (id "a" 2) (lit "1" 6)))))))) (id "b" 11)))))) ≡ once (pair 0 12 ∷ [])
unfolding computing
default_in_target = refl

pub comma_in_target : found (tokens "({a,} = b);") (program 11 (one (st 0 11 (t AssignmentExpression "=" 1 9 (two (n ObjectPattern 1 5 (one (formed Shorthand (n Property 2 3 (two (id "a" 2) (id "a" 2)))))) (id "b" 8)))))) ≡ once (pair 0 9 ∷ [])
unfolding computing
comma_in_target = refl

pub grouped_name_in_target : found (tokens "[(a)] = b;") (program 10 (one (st 0 10 (t AssignmentExpression "=" 0 9 (two (n ArrayPattern 0 5 (one (id "a" 2))) (id "b" 8)))))) ≡ once (pair 1 3 ∷ [])
unfolding computing
grouped_name_in_target = refl

pub grouped_value_in_target : found (tokens "({a: (b)} = c);") (program 15 (one (st 0 15 (t AssignmentExpression "=" 1 13 (two (n ObjectPattern 1 9 (one (n Property 2 8 (two (id "a" 2) (id "b" 6))))) (id "c" 12)))))) ≡ once (pair 0 13 ∷ pair 5 7 ∷ [])
unfolding computing
grouped_value_in_target = refl

pub default_in_parameter : found (tokens "({a = 1}) => a;") (program 15 (one (st 0 15 (short (n ArrowFunctionExpression 0 14 (two (n ObjectPattern 1 8 (one (formed Shorthand (n Property 2 7 (two (id "a" 2) (n AssignmentPattern 2 7 (two (id "a" 2) (lit "1" 6)))))))) (id "a" 13))))))) ≡ once []
unfolding computing
default_in_parameter = refl

pub holes_and_rest : found (tokens "[a,, b = 1, ...c] = d;") (program 22 (one (st 0 22 (t AssignmentExpression "=" 0 21 (two (n ArrayPattern 0 17 (part (id "a" 1) (gap (two (n AssignmentPattern 5 10 (two (id "b" 5) (lit "1" 9))) (n RestElement 12 16 (one (id "c" 15))))))) (id "d" 20)))))) ≡ once []
unfolding computing
holes_and_rest = refl

pub rest_of_pattern : found (tokens "[...[a, b.c]] = d;") (program 18 (one (st 0 18 (t AssignmentExpression "=" 0 17 (two (n ArrayPattern 0 13 (one (n RestElement 1 12 (one (n ArrayPattern 4 12 (two (id "a" 5) (n MemberExpression 8 11 (two (id "b" 8) (id "c" 10))))))))) (id "d" 16)))))) ≡ once []
unfolding computing
rest_of_pattern = refl

pub grouped_member_in_target : found (tokens "[(a.b), ...(c[d])] = e;") (program 23 (one (st 0 23 (t AssignmentExpression "=" 0 22 (two (n ArrayPattern 0 18 (two (n MemberExpression 2 5 (two (id "a" 2) (id "b" 4))) (n RestElement 8 17 (one (computed (n MemberExpression 12 16 (two (id "c" 12) (id "d" 14)))))))) (id "e" 21)))))) ≡ once (pair 1 5 ∷ pair 11 16 ∷ [])
unfolding computing
grouped_member_in_target = refl

pub nested_target : found (tokens "({a: [b], ...c.d} = e);") (program 23 (one (st 0 23 (t AssignmentExpression "=" 1 21 (two (n ObjectPattern 1 17 (two (n Property 2 8 (two (id "a" 2) (n ArrayPattern 5 8 (one (id "b" 6))))) (n RestElement 10 16 (one (n MemberExpression 13 16 (two (id "c" 13) (id "d" 15))))))) (id "e" 20)))))) ≡ once (pair 0 21 ∷ [])
unfolding computing
nested_target = refl

pub computed_key : found (tokens "({[a]: b = 1, \"c\": d} = e);") (program 27 (one (st 0 27 (t AssignmentExpression "=" 1 25 (two (n ObjectPattern 1 21 (two (computed (n Property 2 12 (two (id "a" 3) (n AssignmentPattern 7 12 (two (id "b" 7) (lit "1" 11)))))) (n Property 14 20 (two (lit "\"c\"" 14) (id "d" 19))))) (id "e" 24)))))) ≡ once (pair 0 25 ∷ [])
unfolding computing
computed_key = refl

pub bound_array : found (tokens "let [a,, b = 1, ...[c]] = d;") (program 28 (one (t VariableDeclaration "let" 0 28 (one (n VariableDeclarator 4 27 (two (n ArrayPattern 4 23 (part (id "a" 5) (gap (two (n AssignmentPattern 9 14 (two (id "b" 9) (lit "1" 13))) (n RestElement 16 22 (one (n ArrayPattern 19 22 (one (id "c" 20))))))))) (id "d" 26))))))) ≡ once []
unfolding computing
bound_array = refl

pub bound_object : found (tokens "const {a, b: c, [d]: {e} = f, ...g} = h;") (program 40 (one (t VariableDeclaration "const" 0 40 (one (n VariableDeclarator 6 39 (two (n ObjectPattern 6 35 (part (formed Shorthand (n Property 7 8 (two (id "a" 7) (id "a" 7)))) (three (n Property 10 14 (two (id "b" 10) (id "c" 13))) (computed (n Property 16 28 (two (id "d" 17) (n AssignmentPattern 21 28 (two (n ObjectPattern 21 24 (one (formed Shorthand (n Property 22 23 (two (id "e" 22) (id "e" 22)))))) (id "f" 27)))))) (n RestElement 30 34 (one (id "g" 33)))))) (id "h" 38))))))) ≡ once []
unfolding computing
bound_object = refl

pub several_declarators : found (tokens "var [a] = b, {c} = d, e;") (program 24 (one (t VariableDeclaration "var" 0 24 (three (n VariableDeclarator 4 11 (two (n ArrayPattern 4 7 (one (id "a" 5))) (id "b" 10))) (n VariableDeclarator 13 20 (two (n ObjectPattern 13 16 (one (formed Shorthand (n Property 14 15 (two (id "c" 14) (id "c" 14)))))) (id "d" 19))) (n VariableDeclarator 22 23 (part (id "e" 22) (gap none))))))) ≡ once []
unfolding computing
several_declarators = refl

pub head_of_loop : found (tokens "for ([a, b] of c);") (program 18 (one (n ForOfStatement 0 18 (three (n ArrayPattern 5 11 (two (id "a" 6) (id "b" 9))) (id "c" 15) (n EmptyStatement 17 18 none))))) ≡ once []
unfolding computing
head_of_loop = refl

pub bound_in_head : found (tokens "for (let {a = 1} in b);") (program 23 (one (n ForInStatement 0 23 (three (t VariableDeclaration "let" 5 16 (one (n VariableDeclarator 9 16 (part (n ObjectPattern 9 16 (one (formed Shorthand (n Property 10 15 (two (id "a" 10) (n AssignmentPattern 10 15 (two (id "a" 10) (lit "1" 14)))))))) (gap none))))) (id "b" 20) (n EmptyStatement 22 23 none))))) ≡ once []
unfolding computing
bound_in_head = refl

pub bound_in_catch : found (tokens "try {} catch ([a]) {}") (program 21 (one (n TryStatement 0 21 (part (n BlockStatement 4 6 none) (part (n CatchClause 7 21 (two (n ArrayPattern 14 17 (one (id "a" 15))) (n BlockStatement 19 21 none))) (gap none)))))) ≡ once []
unfolding computing
bound_in_catch = refl

pub nested_assignment : found (tokens "[a = b = (c, d)] = e;") (program 21 (one (st 0 21 (t AssignmentExpression "=" 0 20 (two (n ArrayPattern 0 16 (one (n AssignmentPattern 1 15 (two (id "a" 1) (t AssignmentExpression "=" 5 15 (two (id "b" 5) (n SequenceExpression 10 14 (two (id "c" 10) (id "d" 13))))))))) (id "e" 19)))))) ≡ once (pair 9 14 ∷ [])
unfolding computing
nested_assignment = refl

pub empty_patterns : found (tokens "[] = {} = a;") (program 12 (one (st 0 12 (t AssignmentExpression "=" 0 11 (two (n ArrayPattern 0 2 none) (t AssignmentExpression "=" 5 11 (two (n ObjectPattern 5 7 none) (id "a" 10)))))))) ≡ once []
unfolding computing
empty_patterns = refl

-- Groups, rests, commas and defaults where none may stand.

-- a default in an object that is no pattern
pub default_in_expression : found (tokens "({a = 1});") (program 10 (one (st 0 10 (n ObjectExpression 1 8 (one (formed Shorthand (n Property 2 7 (two (id "a" 2) (n AssignmentPattern 2 7 (two (id "a" 2) (lit "1" 6))))))))))) ≡ []
unfolding computing
default_in_expression = refl

-- a group round a parameter
pub grouped_parameter : found (tokens "((a)) => b;") (program 11 (one (st 0 11 (short (n ArrowFunctionExpression 0 10 (two (id "a" 2) (id "b" 9))))))) ≡ []
unfolding computing
grouped_parameter = refl

-- a group round a pattern in a pattern
pub grouped_pattern_in_pattern : found (tokens "[({a})] = b;") (program 12 (one (st 0 12 (t AssignmentExpression "=" 0 11 (two (n ArrayPattern 0 7 (one (n ObjectPattern 2 5 (one (formed Shorthand (n Property 3 4 (two (id "a" 3) (id "a" 3)))))))) (id "b" 10)))))) ≡ []
unfolding computing
grouped_pattern_in_pattern = refl

-- a group round the pattern
pub grouped_pattern : found (tokens "({a}) = b") (program 9 (one (st 0 9 (t AssignmentExpression "=" 0 9 (two (n ObjectPattern 1 4 (one (formed Shorthand (n Property 2 3 (two (id "a" 2) (id "a" 2)))))) (id "b" 8)))))) ≡ []
unfolding computing
grouped_pattern = refl

-- a pattern at the start of a statement
pub pattern_without_a_group : found (tokens "{a} = b;") (program 8 (one (st 0 8 (t AssignmentExpression "=" 0 7 (two (n ObjectPattern 0 3 (one (formed Shorthand (n Property 1 2 (two (id "a" 1) (id "a" 1)))))) (id "b" 6)))))) ≡ []
unfolding computing
pattern_without_a_group = refl

-- a pattern before another operator than `=`
pub pattern_with_operator : found (tokens "[a] += b;") (program 9 (one (st 0 9 (t AssignmentExpression "+=" 0 8 (two (n ArrayPattern 0 3 (one (id "a" 1))) (id "b" 7)))))) ≡ []
unfolding computing
pattern_with_operator = refl

-- an array before another operator than `=`
pub array_with_operator : found (tokens "[a] += b;") (program 9 (one (st 0 9 (t AssignmentExpression "+=" 0 8 (two (n ArrayExpression 0 3 (one (id "a" 1))) (id "b" 7)))))) ≡ []
unfolding computing
array_with_operator = refl

-- a comma behind a rest
pub comma_behind_rest : found (tokens "[...a,] = b") (program 11 (one (st 0 11 (t AssignmentExpression "=" 0 11 (two (n ArrayPattern 0 7 (one (n RestElement 1 5 (one (id "a" 4))))) (id "b" 10)))))) ≡ []
unfolding computing
comma_behind_rest = refl

-- an element behind a rest
pub element_behind_rest : found (tokens "[...a, b = 1] = c") (program 17 (one (st 0 17 (t AssignmentExpression "=" 0 17 (two (n ArrayPattern 0 13 (two (n RestElement 1 5 (one (id "a" 4))) (n AssignmentPattern 7 12 (two (id "b" 7) (lit "1" 11))))) (id "c" 16)))))) ≡ []
unfolding computing
element_behind_rest = refl

-- a comma behind a rest that binds
pub comma_behind_bound_rest : found (tokens "let [...a,] = b") (program 15 (one (t VariableDeclaration "let" 0 15 (one (n VariableDeclarator 4 15 (two (n ArrayPattern 4 11 (one (n RestElement 5 9 (one (id "a" 8))))) (id "b" 14))))))) ≡ []
unfolding computing
comma_behind_bound_rest = refl

-- a rest with a default
pub rest_with_default : found (tokens "[...a = 1] = b") (program 14 (one (st 0 14 (t AssignmentExpression "=" 0 14 (two (n ArrayPattern 0 10 (one (n RestElement 1 9 (one (n AssignmentPattern 4 9 (two (id "a" 4) (lit "1" 8))))))) (id "b" 13)))))) ≡ []
unfolding computing
rest_with_default = refl

-- a pattern as the rest of an object
pub pattern_as_object_rest : found (tokens "({...{a}} = b)") (program 14 (one (st 0 14 (t AssignmentExpression "=" 1 13 (two (n ObjectPattern 1 9 (one (n RestElement 2 8 (one (n ObjectPattern 5 8 (one (formed Shorthand (n Property 6 7 (two (id "a" 6) (id "a" 6)))))))))) (id "b" 12)))))) ≡ []
unfolding computing
pattern_as_object_rest = refl

-- a pattern as the rest of an object that binds
pub pattern_as_bound_rest : found (tokens "let {...[a]} = b") (program 16 (one (t VariableDeclaration "let" 0 16 (one (n VariableDeclarator 4 16 (two (n ObjectPattern 4 12 (one (n RestElement 5 11 (one (n ArrayPattern 8 11 (one (id "a" 9))))))) (id "b" 15))))))) ≡ []
unfolding computing
pattern_as_bound_rest = refl

-- a member where a name is bound
pub member_bound : found (tokens "let [a.b] = c") (program 13 (one (t VariableDeclaration "let" 0 13 (one (n VariableDeclarator 4 13 (two (n ArrayPattern 4 9 (one (n MemberExpression 5 8 (two (id "a" 5) (id "b" 7))))) (id "c" 12))))))) ≡ []
unfolding computing
member_bound = refl

-- a group where a name is bound
pub group_bound : found (tokens "let [(a)] = c") (program 13 (one (t VariableDeclaration "let" 0 13 (one (n VariableDeclarator 4 13 (two (n ArrayPattern 4 9 (one (id "a" 6))) (id "c" 12))))))) ≡ []
unfolding computing
group_bound = refl

-- a chain in a pattern
pub chain_in_pattern : found (tokens "[a?.b] = c") (program 10 (one (st 0 10 (t AssignmentExpression "=" 0 10 (two (n ArrayPattern 0 6 (one (n ChainExpression 1 5 (one (optional (n MemberExpression 1 5 (two (id "a" 1) (id "b" 4)))))))) (id "c" 9)))))) ≡ []
unfolding computing
chain_in_pattern = refl

-- a call in a pattern
pub call_in_pattern : found (tokens "[f()] = c") (program 9 (one (st 0 9 (t AssignmentExpression "=" 0 9 (two (n ArrayPattern 0 5 (one (n CallExpression 1 4 (one (id "f" 1))))) (id "c" 8)))))) ≡ []
unfolding computing
call_in_pattern = refl

-- a reserved word where a name is bound
pub reserved_word_bound : found (tokens "var if;") (program 7 (one (t VariableDeclaration "var" 0 7 (one (n VariableDeclarator 4 6 (part (id "if" 4) (gap none))))))) ≡ []
unfolding computing
reserved_word_bound = refl

-- a pattern without a value
pub pattern_without_value : found (tokens "let [a];") (program 8 (one (t VariableDeclaration "let" 0 8 (one (n VariableDeclarator 4 7 (part (n ArrayPattern 4 7 (one (id "a" 5))) (gap none))))))) ≡ []
unfolding computing
pattern_without_value = refl

-- a default behind `catch`
pub catch_with_default : found (tokens "try {} catch (a = 1) {}") (program 23 (one (n TryStatement 0 23 (part (n BlockStatement 4 6 none) (part (n CatchClause 7 23 (two (n AssignmentPattern 14 19 (two (id "a" 14) (lit "1" 18))) (n BlockStatement 21 23 none))) (gap none)))))) ≡ []
unfolding computing
catch_with_default = refl

-- Trees that differ in one thing.

-- an array in place of the pattern
pub array_for_pattern : found (tokens "[a] = b;") (program 8 (one (st 0 8 (t AssignmentExpression "=" 0 7 (two (n ArrayExpression 0 3 (one (id "a" 1))) (id "b" 6)))))) ≡ []
unfolding computing
array_for_pattern = refl

-- a pattern in place of the array
pub pattern_for_array : found (tokens "a = [b];") (program 8 (one (st 0 8 (t AssignmentExpression "=" 0 7 (two (id "a" 0) (n ArrayPattern 4 7 (one (id "b" 5)))))))) ≡ []
unfolding computing
pattern_for_array = refl

-- a shorthand property without its flag
pub shorthand_without_its_flag : found (tokens "({a} = b);") (program 10 (one (st 0 10 (t AssignmentExpression "=" 1 8 (two (n ObjectPattern 1 4 (one (n Property 2 3 (two (id "a" 2) (id "a" 2))))) (id "b" 7)))))) ≡ []
unfolding computing
shorthand_without_its_flag = refl

-- its key another name
pub shorthand_of_another_name : found (tokens "({a} = b);") (program 10 (one (st 0 10 (t AssignmentExpression "=" 1 8 (two (n ObjectPattern 1 4 (one (formed Shorthand (n Property 2 3 (two (id "c" 2) (id "a" 2)))))) (id "b" 7)))))) ≡ []
unfolding computing
shorthand_of_another_name = refl

-- its key off by one
pub shorthand_off_by_one : found (tokens "({a} = b);") (program 10 (one (st 0 10 (t AssignmentExpression "=" 1 8 (two (n ObjectPattern 1 4 (one (formed Shorthand (n Property 2 3 (two (id "a" 3) (id "a" 2)))))) (id "b" 7)))))) ≡ []
unfolding computing
shorthand_off_by_one = refl

-- the default missing
pub default_missing : found (tokens "[a = 1] = b;") (program 12 (one (st 0 12 (t AssignmentExpression "=" 0 11 (two (n ArrayPattern 0 7 (one (id "a" 1))) (id "b" 10)))))) ≡ []
unfolding computing
default_missing = refl

-- the default as an assignment
pub default_as_assignment : found (tokens "[a = 1] = b;") (program 12 (one (st 0 12 (t AssignmentExpression "=" 0 11 (two (n ArrayPattern 0 7 (one (t AssignmentExpression "=" 1 6 (two (id "a" 1) (lit "1" 5))))) (id "b" 10)))))) ≡ []
unfolding computing
default_as_assignment = refl

-- a hole missing
pub hole_in_pattern_missing : found (tokens "[, a] = b;") (program 10 (one (st 0 10 (t AssignmentExpression "=" 0 9 (two (n ArrayPattern 0 5 (one (id "a" 3))) (id "b" 8)))))) ≡ []
unfolding computing
hole_in_pattern_missing = refl

-- the rest missing
pub rest_missing : found (tokens "[a, ...b] = c;") (program 14 (one (st 0 14 (t AssignmentExpression "=" 0 13 (two (n ArrayPattern 0 9 (one (id "a" 1))) (id "c" 12)))))) ≡ []
unfolding computing
rest_missing = refl

-- a spread for the rest
pub spread_for_rest : found (tokens "[...a] = b;") (program 11 (one (st 0 11 (t AssignmentExpression "=" 0 10 (two (n ArrayPattern 0 6 (one (n SpreadElement 1 5 (one (id "a" 4))))) (id "b" 9)))))) ≡ []
unfolding computing
spread_for_rest = refl

-- the declarator with the place of its declaration
pub declarator_off_by_one : found (tokens "let [a] = b;") (program 12 (one (t VariableDeclaration "let" 0 12 (one (n VariableDeclarator 0 11 (two (n ArrayPattern 4 7 (one (id "a" 5))) (id "b" 10))))))) ≡ []
unfolding computing
declarator_off_by_one = refl

-- the value missing
pub value_missing : found (tokens "let {a} = b;") (program 12 (one (t VariableDeclaration "let" 0 12 (one (n VariableDeclarator 4 11 (part (n ObjectPattern 4 7 (one (formed Shorthand (n Property 5 6 (two (id "a" 5) (id "a" 5)))))) (gap none))))))) ≡ []
unfolding computing
value_missing = refl
