-- Examples: functions that tokens spell, with these pairs and in this one way; and trees that they do not spell.
use Rattle.std.specs.Prelude.{◌≡◌, refl, [], ◌∷◌}
use Rattle.tree.specs.declared.kind.Kind.TheVariants.{ArrayPattern, ArrowFunctionExpression, AssignmentExpression, AssignmentPattern, BinaryExpression, BlockStatement, CallExpression, ConditionalExpression, ExpressionStatement, FunctionDeclaration, FunctionExpression, MemberExpression, MetaProperty, NewExpression, ObjectExpression, ObjectPattern, Property, RestElement, ReturnStatement, SequenceExpression, Super}
use Rattle.tree.specs.declared.kind.Form.TheVariants.{Get, Method, Set, Shorthand}
use Rattle.tree.specs.Tree.{gap, none, part}
use Rattle.language.proofs.examples.Sources.{tokens}
use Rattle.language.proofs.examples.Trees.{computed, computing, directive, formed, found, id, lit, n, once, one, pair, program, short, st, t, three, two}

pub one_parameter_in_parentheses : found (tokens "(a) => b;") (program 9 (one (st 0 9 (short (n ArrowFunctionExpression 0 8 (two (id "a" 1) (id "b" 7))))))) ≡ once []
unfolding computing
one_parameter_in_parentheses = refl

pub comma_behind_parameter : found (tokens "(a,) => a;") (program 10 (one (st 0 10 (short (n ArrowFunctionExpression 0 9 (two (id "a" 1) (id "a" 8))))))) ≡ once []
unfolding computing
comma_behind_parameter = refl

pub one_parameter : found (tokens "a => b;") (program 7 (one (st 0 7 (short (n ArrowFunctionExpression 0 6 (two (id "a" 0) (id "b" 5))))))) ≡ once []
unfolding computing
one_parameter = refl

pub member_as_body : found (tokens "x => ({}).a;") (program 12 (one (st 0 12 (short (n ArrowFunctionExpression 0 11 (two (id "x" 0) (n MemberExpression 5 11 (two (n ObjectExpression 6 8 none) (id "a" 10))))))))) ≡ once (pair 5 8 ∷ [])
unfolding computing
member_as_body = refl

pub member_as_body_behind_a_comma : found (tokens "(x,) => ({}).a") (program 14 (one (st 0 14 (short (n ArrowFunctionExpression 0 14 (two (id "x" 1) (n MemberExpression 8 14 (two (n ObjectExpression 9 11 none) (id "a" 13))))))))) ≡ once (pair 8 11 ∷ [])
unfolding computing
member_as_body_behind_a_comma = refl

pub group_as_body : found (tokens "(x) => ({}.a)") (program 13 (one (st 0 13 (short (n ArrowFunctionExpression 0 13 (two (id "x" 1) (n MemberExpression 8 12 (two (n ObjectExpression 8 10 none) (id "a" 11))))))))) ≡ once (pair 7 12 ∷ [])
unfolding computing
group_as_body = refl

pub object_as_body : found (tokens "x => ({})") (program 9 (one (st 0 9 (short (n ArrowFunctionExpression 0 9 (two (id "x" 0) (n ObjectExpression 6 8 none))))))) ≡ once (pair 5 8 ∷ [])
unfolding computing
object_as_body = refl

pub no_parameters : found (tokens "() => {};") (program 9 (one (st 0 9 (n ArrowFunctionExpression 0 8 (one (n BlockStatement 6 8 none)))))) ≡ once []
unfolding computing
no_parameters = refl

pub arrow_of_arrow : found (tokens "x => (y => z)") (program 13 (one (st 0 13 (short (n ArrowFunctionExpression 0 13 (two (id "x" 0) (short (n ArrowFunctionExpression 6 12 (two (id "y" 6) (id "z" 11)))))))))) ≡ once (pair 5 12 ∷ [])
unfolding computing
arrow_of_arrow = refl

pub arrow_in_conditional : found (tokens "a ? (b, c) : (d => e)") (program 21 (one (st 0 21 (n ConditionalExpression 0 21 (three (id "a" 0) (n SequenceExpression 5 9 (two (id "b" 5) (id "c" 8))) (short (n ArrowFunctionExpression 14 20 (two (id "d" 14) (id "e" 19))))))))) ≡ once (pair 4 9 ∷ pair 13 20 ∷ [])
unfolding computing
arrow_in_conditional = refl

pub arrow_as_middle : found (tokens "a ? (b) : c => d;") (program 17 (one (st 0 17 (n ConditionalExpression 0 16 (three (id "a" 0) (id "b" 5) (short (n ArrowFunctionExpression 10 16 (two (id "c" 10) (id "d" 15))))))))) ≡ once (pair 4 6 ∷ [])
unfolding computing
arrow_as_middle = refl

pub arrow_called : found (tokens "(() => {})();") (program 13 (one (st 0 13 (n CallExpression 0 12 (one (n ArrowFunctionExpression 1 9 (one (n BlockStatement 7 9 none)))))))) ≡ once (pair 0 9 ∷ [])
unfolding computing
arrow_called = refl

pub all_kinds_of_parameters : found (tokens "function f(a, [b], {c}, d = 1, ...e) { return a; }") (program 50 (one (n FunctionDeclaration 0 50 (part (id "f" 9) (part (id "a" 11) (part (n ArrayPattern 14 17 (one (id "b" 15))) (part (n ObjectPattern 19 22 (one (formed Shorthand (n Property 20 21 (two (id "c" 20) (id "c" 20)))))) (three (n AssignmentPattern 24 29 (two (id "d" 24) (lit "1" 28))) (n RestElement 31 35 (one (id "e" 34))) (n BlockStatement 37 50 (one (n ReturnStatement 39 48 (one (id "a" 46))))))))))))) ≡ once []
unfolding computing
all_kinds_of_parameters = refl

pub comma_behind_parameters : found (tokens "function f(a, b,) {}") (program 20 (one (n FunctionDeclaration 0 20 (part (id "f" 9) (three (id "a" 11) (id "b" 14) (n BlockStatement 18 20 none)))))) ≡ once []
unfolding computing
comma_behind_parameters = refl

pub function_called : found (tokens "(function () {})()") (program 18 (one (st 0 18 (n CallExpression 0 18 (one (n FunctionExpression 1 15 (gap (one (n BlockStatement 13 15 none))))))))) ≡ once (pair 0 15 ∷ [])
unfolding computing
function_called = refl

pub named_function : found (tokens "(function f() { f; });") (program 22 (one (st 0 22 (n FunctionExpression 1 20 (two (id "f" 10) (n BlockStatement 14 20 (one (st 16 18 (id "f" 16))))))))) ≡ once (pair 0 20 ∷ [])
unfolding computing
named_function = refl

pub functions_of_objects : found (tokens "({m() {a}, get b() {}, set c(d) {}});") (program 37 (one (st 0 37 (n ObjectExpression 1 35 (three (formed Method (n Property 2 9 (two (id "m" 2) (n FunctionExpression 3 9 (gap (one (n BlockStatement 6 9 (one (st 7 8 (id "a" 7)))))))))) (formed Get (n Property 11 21 (two (id "b" 15) (n FunctionExpression 16 21 (gap (one (n BlockStatement 19 21 none))))))) (formed Set (n Property 23 34 (two (id "c" 27) (n FunctionExpression 28 34 (gap (two (id "d" 29) (n BlockStatement 32 34 none)))))))))))) ≡ once (pair 0 35 ∷ [])
unfolding computing
functions_of_objects = refl

pub setter_with_pattern : found (tokens "({set a([b] = c) {}, get [d]() {}});") (program 36 (one (st 0 36 (n ObjectExpression 1 34 (two (formed Set (n Property 2 19 (two (id "a" 6) (n FunctionExpression 7 19 (gap (two (n AssignmentPattern 8 15 (two (n ArrayPattern 8 11 (one (id "b" 9))) (id "c" 14))) (n BlockStatement 17 19 none))))))) (formed Get (computed (n Property 21 33 (two (id "d" 26) (n FunctionExpression 28 33 (gap (one (n BlockStatement 31 33 none))))))))))))) ≡ once (pair 0 34 ∷ [])
unfolding computing
setter_with_pattern = refl

pub method_as_value : found (tokens "x = {m() {a}}") (program 13 (one (st 0 13 (t AssignmentExpression "=" 0 13 (two (id "x" 0) (n ObjectExpression 4 13 (one (formed Method (n Property 5 12 (two (id "m" 5) (n FunctionExpression 6 12 (gap (one (n BlockStatement 9 12 (one (st 10 11 (id "a" 10))))))))))))))))) ≡ once []
unfolding computing
method_as_value = refl

pub directives_of_a_body : found (tokens "function f() { \"use strict\"; (\"a\"); \"b\" }") (program 41 (one (n FunctionDeclaration 0 41 (two (id "f" 9) (n BlockStatement 13 41 (three (directive (n ExpressionStatement 15 28 (one (lit "\"use strict\"" 15)))) (st 29 35 (lit "\"a\"" 30)) (st 36 39 (lit "\"b\"" 36)))))))) ≡ once (pair 29 33 ∷ [])
unfolding computing
directives_of_a_body = refl

pub new_target : found (tokens "function f() { new.target }") (program 27 (one (n FunctionDeclaration 0 27 (two (id "f" 9) (n BlockStatement 13 27 (one (st 15 25 (n MetaProperty 15 25 (two (id "new" 15) (id "target" 19)))))))))) ≡ once []
unfolding computing
new_target = refl

pub super_member : found (tokens "({ m() { super.a } })") (program 21 (one (st 0 21 (n ObjectExpression 1 20 (one (formed Method (n Property 3 18 (two (id "m" 3) (n FunctionExpression 4 18 (gap (one (n BlockStatement 7 18 (one (st 9 16 (n MemberExpression 9 16 (two (n Super 9 14 none) (id "a" 15))))))))))))))))) ≡ once (pair 0 20 ∷ [])
unfolding computing
super_member = refl

pub super_behind_new : found (tokens "({ m() { new super.a() } })") (program 27 (one (st 0 27 (n ObjectExpression 1 26 (one (formed Method (n Property 3 24 (two (id "m" 3) (n FunctionExpression 4 24 (gap (one (n BlockStatement 7 24 (one (st 9 22 (n NewExpression 9 22 (one (n MemberExpression 13 20 (two (n Super 13 18 none) (id "a" 19))))))))))))))))))) ≡ once (pair 0 26 ∷ [])
unfolding computing
super_behind_new = refl

pub return_and_a_break : found (tokens "() => { return\na }") (program 18 (one (st 0 18 (n ArrowFunctionExpression 0 18 (one (n BlockStatement 6 18 (two (n ReturnStatement 8 14 (gap none)) (st 15 16 (id "a" 15))))))))) ≡ once []
unfolding computing
return_and_a_break = refl

pub async_as_parameter : found (tokens "async => await") (program 14 (one (st 0 14 (short (n ArrowFunctionExpression 0 14 (two (id "async" 0) (id "await" 9))))))) ≡ once []
unfolding computing
async_as_parameter = refl

-- Parameters and bodies that are none.

-- a line break before `=>`
pub arrow_behind_a_break : found (tokens "x\n=> y;") (program 7 (one (st 0 7 (short (n ArrowFunctionExpression 0 6 (two (id "x" 0) (id "y" 5))))))) ≡ []
unfolding computing
arrow_behind_a_break = refl

-- a group round a parameter
pub grouped_parameter : found (tokens "((a)) => b;") (program 11 (one (st 0 11 (short (n ArrowFunctionExpression 0 10 (two (id "a" 2) (id "b" 9))))))) ≡ []
unfolding computing
grouped_parameter = refl

-- a generator
pub generator : found (tokens "function* f() {}") (program 16 (one (n FunctionDeclaration 0 16 (two (id "f" 10) (n BlockStatement 14 16 none))))) ≡ []
unfolding computing
generator = refl

-- a rest as the parameter of a setter
pub setter_with_a_rest : found (tokens "({set a(...b) {}});") (program 19 (one (st 0 19 (n ObjectExpression 1 17 (one (formed Set (n Property 2 16 (two (id "a" 6) (n FunctionExpression 7 16 (gap (two (n RestElement 8 12 (one (id "b" 11))) (n BlockStatement 14 16 none)))))))))))) ≡ []
unfolding computing
setter_with_a_rest = refl

-- a comma behind the parameter of a setter
pub setter_with_a_comma : found (tokens "({set a(b,) {}});") (program 17 (one (st 0 17 (n ObjectExpression 1 15 (one (formed Set (n Property 2 14 (two (id "a" 6) (n FunctionExpression 7 14 (gap (two (id "b" 8) (n BlockStatement 12 14 none)))))))))))) ≡ []
unfolding computing
setter_with_a_comma = refl

-- a second parameter of a setter
pub setter_with_two : found (tokens "({set a(b, c) {}});") (program 19 (one (st 0 19 (n ObjectExpression 1 17 (one (formed Set (n Property 2 16 (two (id "a" 6) (n FunctionExpression 7 16 (gap (three (id "b" 8) (id "c" 11) (n BlockStatement 14 16 none)))))))))))) ≡ []
unfolding computing
setter_with_two = refl

-- a parameter of a getter
pub getter_with_a_parameter : found (tokens "({get a(b) {}});") (program 16 (one (st 0 16 (n ObjectExpression 1 14 (one (formed Get (n Property 2 13 (two (id "a" 6) (n FunctionExpression 7 13 (gap (two (id "b" 8) (n BlockStatement 11 13 none)))))))))))) ≡ []
unfolding computing
getter_with_a_parameter = refl

-- a comma behind a rest
pub comma_behind_rest : found (tokens "(...a,) => b;") (program 13 (one (st 0 13 (short (n ArrowFunctionExpression 0 12 (two (n RestElement 1 5 (one (id "a" 4))) (id "b" 11))))))) ≡ []
unfolding computing
comma_behind_rest = refl

-- a parameter behind a rest
pub parameter_behind_rest : found (tokens "function f(...a, b) {}") (program 22 (one (n FunctionDeclaration 0 22 (part (id "f" 9) (three (n RestElement 11 15 (one (id "a" 14))) (id "b" 17) (n BlockStatement 20 22 none)))))) ≡ []
unfolding computing
parameter_behind_rest = refl

-- an arrow as the test of a conditional
pub arrow_as_test : found (tokens "() => {} ? a : b") (program 16 (one (st 0 16 (n ConditionalExpression 0 16 (three (n ArrowFunctionExpression 0 8 (one (n BlockStatement 6 8 none))) (id "a" 11) (id "b" 15)))))) ≡ []
unfolding computing
arrow_as_test = refl

-- an arrow as the base of a power
pub arrow_as_base : found (tokens "a=>{}**b") (program 8 (one (st 0 8 (t BinaryExpression "**" 0 8 (two (n ArrowFunctionExpression 0 5 (two (id "a" 0) (n BlockStatement 3 5 none))) (id "b" 7)))))) ≡ []
unfolding computing
arrow_as_base = refl

-- an object as the body without its group
pub brace_as_body : found (tokens "x => {}") (program 7 (one (st 0 7 (short (n ArrowFunctionExpression 0 7 (two (id "x" 0) (n ObjectExpression 5 7 none))))))) ≡ []
unfolding computing
brace_as_body = refl

-- a member of an object as the body, without its group
pub member_of_object_as_body : found (tokens "x => {}.a") (program 9 (one (st 0 9 (short (n ArrowFunctionExpression 0 9 (two (id "x" 0) (n MemberExpression 5 9 (two (n ObjectExpression 5 7 none) (id "a" 8))))))))) ≡ []
unfolding computing
member_of_object_as_body = refl

-- a function expression as a statement
pub function_as_statement : found (tokens "function () {}") (program 14 (one (st 0 14 (n FunctionExpression 0 14 (gap (one (n BlockStatement 12 14 none))))))) ≡ []
unfolding computing
function_as_statement = refl

-- a declaration without a name
pub declaration_without_name : found (tokens "function () {}") (program 14 (one (n FunctionDeclaration 0 14 (gap (one (n BlockStatement 12 14 none)))))) ≡ []
unfolding computing
declaration_without_name = refl

-- Trees that differ in one thing.

-- an arrow without the flag of its expression
pub block_for_expression : found (tokens "a => b;") (program 7 (one (st 0 7 (n ArrowFunctionExpression 0 6 (two (id "a" 0) (id "b" 5)))))) ≡ []
unfolding computing
block_for_expression = refl

-- that flag at a block
pub flag_with_block : found (tokens "a => {};") (program 8 (one (st 0 8 (short (n ArrowFunctionExpression 0 7 (two (id "a" 0) (n BlockStatement 5 7 none))))))) ≡ []
unfolding computing
flag_with_block = refl

-- a parameter missing
pub parameter_missing : found (tokens "(a, b) => c;") (program 12 (one (st 0 12 (short (n ArrowFunctionExpression 0 11 (two (id "b" 4) (id "c" 10))))))) ≡ []
unfolding computing
parameter_missing = refl

-- the parameters turned about
pub parameters_turned : found (tokens "(a, b) => c;") (program 12 (one (st 0 12 (short (n ArrowFunctionExpression 0 11 (three (id "b" 4) (id "a" 1) (id "c" 10))))))) ≡ []
unfolding computing
parameters_turned = refl

-- the body missing
pub body_missing : found (tokens "a => b;") (program 7 (one (st 0 7 (short (n ArrowFunctionExpression 0 6 (one (id "a" 0))))))) ≡ []
unfolding computing
body_missing = refl

-- a sequence for the parameters
pub sequence_for_parameters : found (tokens "(a, b) => c;") (program 12 (one (st 0 12 (short (n ArrowFunctionExpression 0 11 (two (n SequenceExpression 1 5 (two (id "a" 1) (id "b" 4))) (id "c" 10))))))) ≡ []
unfolding computing
sequence_for_parameters = refl

-- an arrow that begins behind its parenthesis
pub pair_for_parameters : found (tokens "(a) => b;") (program 9 (one (st 0 9 (short (n ArrowFunctionExpression 1 8 (two (id "a" 1) (id "b" 7))))))) ≡ []
unfolding computing
pair_for_parameters = refl

-- a function expression for a declaration
pub expression_for_declaration : found (tokens "function f() {}") (program 15 (one (n FunctionExpression 0 15 (two (id "f" 9) (n BlockStatement 13 15 none))))) ≡ []
unfolding computing
expression_for_declaration = refl

-- the name missing
pub name_missing : found (tokens "(function f() {});") (program 18 (one (st 0 18 (n FunctionExpression 1 16 (gap (one (n BlockStatement 14 16 none))))))) ≡ []
unfolding computing
name_missing = refl

-- a method for a getter
pub method_for_getter : found (tokens "({get a() {}});") (program 15 (one (st 0 15 (n ObjectExpression 1 13 (one (formed Method (n Property 2 12 (two (id "a" 6) (n FunctionExpression 7 12 (gap (one (n BlockStatement 10 12 none)))))))))))) ≡ []
unfolding computing
method_for_getter = refl

-- a getter for a setter
pub getter_for_setter : found (tokens "({set a(b) {}});") (program 16 (one (st 0 16 (n ObjectExpression 1 14 (one (formed Get (n Property 2 13 (two (id "a" 6) (n FunctionExpression 7 13 (gap (two (id "b" 8) (n BlockStatement 11 13 none)))))))))))) ≡ []
unfolding computing
getter_for_setter = refl

-- a value for a method
pub value_for_method : found (tokens "({a() {}});") (program 11 (one (st 0 11 (n ObjectExpression 1 9 (one (n Property 2 8 (two (id "a" 2) (n FunctionExpression 3 8 (gap (one (n BlockStatement 6 8 none))))))))))) ≡ []
unfolding computing
value_for_method = refl

-- the function of a method from its key on
pub method_off_by_one : found (tokens "({a() {}});") (program 11 (one (st 0 11 (n ObjectExpression 1 9 (one (formed Method (n Property 2 8 (two (id "a" 2) (n FunctionExpression 2 8 (gap (one (n BlockStatement 6 8 none)))))))))))) ≡ []
unfolding computing
method_off_by_one = refl

-- a value on the line behind `return`
pub return_behind_a_break : found (tokens "() => { return\na }") (program 18 (one (st 0 18 (n ArrowFunctionExpression 0 18 (one (n BlockStatement 6 18 (one (n ReturnStatement 8 16 (one (id "a" 15)))))))))) ≡ []
unfolding computing
return_behind_a_break = refl

-- a directive of a body without its flag
pub directive_of_a_body : found (tokens "function f() { \"a\"; }") (program 21 (one (n FunctionDeclaration 0 21 (two (id "f" 9) (n BlockStatement 13 21 (one (st 15 19 (lit "\"a\"" 15)))))))) ≡ []
unfolding computing
directive_of_a_body = refl
