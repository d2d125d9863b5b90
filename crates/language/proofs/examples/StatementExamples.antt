-- Examples: statements that tokens spell, with these pairs and in this one way; and trees that they do not spell.
use Rattle.std.specs.Prelude.{◌≡◌, refl, [], ◌∷◌}
use Rattle.tree.specs.declared.kind.Kind.TheVariants.{ArrowFunctionExpression, AssignmentExpression, BinaryExpression, BlockStatement, BreakStatement, CallExpression, CatchClause, ClassBody, ClassDeclaration, ConditionalExpression, ContinueStatement, DebuggerStatement, DoWhileStatement, EmptyStatement, ExpressionStatement, ForInStatement, ForOfStatement, ForStatement, FunctionDeclaration, IfStatement, LabeledStatement, LogicalExpression, MemberExpression, Program, ReturnStatement, SequenceExpression, SwitchCase, SwitchStatement, TemplateElement, TemplateLiteral, ThrowStatement, TryStatement, UpdateExpression, VariableDeclaration, VariableDeclarator, WhileStatement}
use Rattle.tree.specs.Tree.{gap, none, part}
use Rattle.language.proofs.examples.Sources.{tokens, tokens_with_regexps}
use Rattle.language.proofs.examples.Trees.{before, computing, directive, found, id, lit, n, once, one, pair, program, st, t, three, two}

pub empty_script : found (tokens "") (program 0 none) ≡ once []
unfolding computing
empty_script = refl

pub name : found (tokens "a;") (program 2 (one (st 0 2 (id "a" 0)))) ≡ once []
unfolding computing
name = refl

pub update_of_the_next_line : found (tokens "a\n++\nb") (program 6 (two (st 0 1 (id "a" 0)) (st 2 6 (before (t UpdateExpression "++" 2 6 (one (id "b" 5))))))) ≡ once []
unfolding computing
update_of_the_next_line = refl

pub sum_behind_a_break : found (tokens "a++\n+b") (program 6 (one (st 0 6 (t BinaryExpression "+" 0 6 (two (t UpdateExpression "++" 0 3 (one (id "a" 0))) (id "b" 5)))))) ≡ once []
unfolding computing
sum_behind_a_break = refl

pub call_of_grouped_update : found (tokens "(a++)\n(b)") (program 9 (one (st 0 9 (n CallExpression 0 9 (two (t UpdateExpression "++" 1 4 (one (id "a" 1))) (id "b" 7)))))) ≡ once (pair 0 4 ∷ [])
unfolding computing
call_of_grouped_update = refl

pub group_behind_update : found (tokens "a++\n(b)") (program 7 (two (st 0 3 (t UpdateExpression "++" 0 3 (one (id "a" 0)))) (st 4 7 (id "b" 5)))) ≡ once (pair 4 6 ∷ [])
unfolding computing
group_behind_update = refl

pub group_behind_arrow : found (tokens "a = () => {}\n(b)") (program 16 (two (st 0 12 (t AssignmentExpression "=" 0 12 (two (id "a" 0) (n ArrowFunctionExpression 4 12 (one (n BlockStatement 10 12 none)))))) (st 13 16 (id "b" 14)))) ≡ once (pair 13 15 ∷ [])
unfolding computing
group_behind_arrow = refl

pub expression_behind_variable : found (tokens_with_regexps "var a\n/=x/") (program 10 (two (t VariableDeclaration "var" 0 5 (one (n VariableDeclarator 4 5 (part (id "a" 4) (gap none))))) (st 6 10 (lit "/=x/" 6)))) ≡ once []
unfolding computing
expression_behind_variable = refl

pub expression_behind_arrow : found (tokens_with_regexps "a = () => {}\n/=x/") (program 17 (two (st 0 12 (t AssignmentExpression "=" 0 12 (two (id "a" 0) (n ArrowFunctionExpression 4 12 (one (n BlockStatement 10 12 none)))))) (st 13 17 (lit "/=x/" 13)))) ≡ once []
unfolding computing
expression_behind_arrow = refl

pub expression_behind_conditional : found (tokens_with_regexps "a ? b : () => {}\n/=x/") (program 21 (two (st 0 16 (n ConditionalExpression 0 16 (three (id "a" 0) (id "b" 4) (n ArrowFunctionExpression 8 16 (one (n BlockStatement 14 16 none)))))) (st 17 21 (lit "/=x/" 17)))) ≡ once []
unfolding computing
expression_behind_conditional = refl

pub no_end_behind_do : found (tokens "do a; while (b) c") (program 17 (two (n DoWhileStatement 0 15 (two (st 3 5 (id "a" 3)) (id "b" 13))) (st 16 17 (id "c" 16)))) ≡ once []
unfolding computing
no_end_behind_do = refl

pub do_over_two_lines : found (tokens "do a\nwhile (b)") (program 14 (one (n DoWhileStatement 0 14 (two (st 3 4 (id "a" 3)) (id "b" 12))))) ≡ once []
unfolding computing
do_over_two_lines = refl

pub async_is_a_name : found (tokens "async\nfunction f() {}") (program 21 (two (st 0 5 (id "async" 0)) (n FunctionDeclaration 6 21 (two (id "f" 15) (n BlockStatement 19 21 none))))) ≡ once []
unfolding computing
async_is_a_name = refl

pub loop_over_async : found (tokens "for (async of a);") (program 17 (one (n ForOfStatement 0 17 (three (id "async" 5) (id "a" 14) (n EmptyStatement 16 17 none))))) ≡ once []
unfolding computing
loop_over_async = refl

pub loop_in_sequence : found (tokens "for (x in a, b);") (program 16 (one (n ForInStatement 0 16 (three (id "x" 5) (n SequenceExpression 10 14 (two (id "a" 10) (id "b" 13))) (n EmptyStatement 15 16 none))))) ≡ once []
unfolding computing
loop_in_sequence = refl

pub grouped_in : found (tokens "for ((a in b);;);") (program 17 (one (n ForStatement 0 17 (part (t BinaryExpression "in" 6 12 (two (id "a" 6) (id "b" 11))) (gap (gap (one (n EmptyStatement 16 17 none)))))))) ≡ once (pair 5 12 ∷ [])
unfolding computing
grouped_in = refl

pub in_of_the_middle : found (tokens "for (a ? b in c : d;;);") (program 23 (one (n ForStatement 0 23 (part (n ConditionalExpression 5 19 (three (id "a" 5) (t BinaryExpression "in" 9 15 (two (id "b" 9) (id "c" 14))) (id "d" 18))) (gap (gap (one (n EmptyStatement 22 23 none)))))))) ≡ once []
unfolding computing
in_of_the_middle = refl

pub in_of_both_sides : found (tokens "for (x = (a in b) && (c in d);;);") (program 33 (one (n ForStatement 0 33 (part (t AssignmentExpression "=" 5 29 (two (id "x" 5) (t LogicalExpression "&&" 9 29 (two (t BinaryExpression "in" 10 16 (two (id "a" 10) (id "b" 15))) (t BinaryExpression "in" 22 28 (two (id "c" 22) (id "d" 27))))))) (gap (gap (one (n EmptyStatement 32 33 none)))))))) ≡ once (pair 9 16 ∷ pair 21 28 ∷ [])
unfolding computing
in_of_both_sides = refl

pub else_of_the_inner_if : found (tokens "if (a) if (b) c; else d") (program 23 (one (n IfStatement 0 23 (part (id "a" 4) (part (n IfStatement 7 23 (three (id "b" 11) (st 14 16 (id "c" 14)) (st 22 23 (id "d" 22)))) (gap none)))))) ≡ once []
unfolding computing
else_of_the_inner_if = refl

pub blocks : found (tokens "if(a){b}else c") (program 14 (one (n IfStatement 0 14 (three (id "a" 3) (n BlockStatement 5 8 (one (st 6 7 (id "b" 6)))) (st 13 14 (id "c" 13)))))) ≡ once []
unfolding computing
blocks = refl

pub else_if : found (tokens "if(a);else if(b)c") (program 17 (one (n IfStatement 0 17 (three (id "a" 3) (n EmptyStatement 5 6 none) (n IfStatement 11 17 (part (id "b" 14) (part (st 16 17 (id "c" 16)) (gap none)))))))) ≡ once []
unfolding computing
else_if = refl

pub regexp_as_body : found (tokens_with_regexps "if (a) /b/.c()") (program 14 (one (n IfStatement 0 14 (part (id "a" 4) (part (st 7 14 (n CallExpression 7 14 (one (n MemberExpression 7 12 (two (lit "/b/" 7) (id "c" 11)))))) (gap none)))))) ≡ once []
unfolding computing
regexp_as_body = refl

pub cases : found (tokens "switch (a) { case 1: b; default: }") (program 34 (one (n SwitchStatement 0 34 (three (id "a" 8) (n SwitchCase 13 23 (two (lit "1" 18) (st 21 23 (id "b" 21)))) (n SwitchCase 24 32 (gap none)))))) ≡ once []
unfolding computing
cases = refl

pub jumps : found (tokens "a: while (b) { if (c) continue a; break }") (program 41 (one (n LabeledStatement 0 41 (two (id "a" 0) (n WhileStatement 3 41 (two (id "b" 10) (n BlockStatement 13 41 (two (n IfStatement 15 33 (part (id "c" 19) (part (n ContinueStatement 22 33 (one (id "a" 31))) (gap none)))) (n BreakStatement 34 39 (gap none)))))))))) ≡ once []
unfolding computing
jumps = refl

pub try_and_finally : found (tokens "try { throw a } catch { } finally { debugger }") (program 46 (one (n TryStatement 0 46 (three (n BlockStatement 4 15 (one (n ThrowStatement 6 13 (one (id "a" 12))))) (n CatchClause 16 25 (gap (one (n BlockStatement 22 25 none)))) (n BlockStatement 34 46 (one (n DebuggerStatement 36 44 none))))))) ≡ once []
unfolding computing
try_and_finally = refl

pub loops : found (tokens "for (let i = 0, j; i < j; i++) for (;;) ;") (program 41 (one (n ForStatement 0 41 (part (t VariableDeclaration "let" 5 17 (two (n VariableDeclarator 9 14 (two (id "i" 9) (lit "0" 13))) (n VariableDeclarator 16 17 (part (id "j" 16) (gap none))))) (three (t BinaryExpression "<" 19 24 (two (id "i" 19) (id "j" 23))) (t UpdateExpression "++" 26 29 (one (id "i" 26))) (n ForStatement 31 41 (gap (gap (gap (one (n EmptyStatement 40 41 none))))))))))) ≡ once []
unfolding computing
loops = refl

pub declarations : found (tokens "{ let a = 1; const b = 2, c = 3; var d }") (program 40 (one (n BlockStatement 0 40 (three (t VariableDeclaration "let" 2 12 (one (n VariableDeclarator 6 11 (two (id "a" 6) (lit "1" 10))))) (t VariableDeclaration "const" 13 32 (two (n VariableDeclarator 19 24 (two (id "b" 19) (lit "2" 23))) (n VariableDeclarator 26 31 (two (id "c" 26) (lit "3" 30))))) (t VariableDeclaration "var" 33 38 (one (n VariableDeclarator 37 38 (part (id "d" 37) (gap none))))))))) ≡ once []
unfolding computing
declarations = refl

pub directives : found (tokens "\"use strict\"; 'a'; (\"b\"); \"c\"") (program 29 (part (directive (n ExpressionStatement 0 13 (one (lit "\"use strict\"" 0)))) (three (directive (n ExpressionStatement 14 18 (one (lit "'a'" 14)))) (st 19 25 (lit "\"b\"" 20)) (st 26 29 (lit "\"c\"" 26))))) ≡ once (pair 19 23 ∷ [])
unfolding computing
directives = refl

pub grouped_directive : found (tokens "(\"use strict\"); ('x')") (program 21 (two (st 0 15 (lit "\"use strict\"" 1)) (st 16 21 (lit "'x'" 17)))) ≡ once (pair 0 13 ∷ pair 16 20 ∷ [])
unfolding computing
grouped_directive = refl

-- The beginnings of `if (a) b; else c` that are scripts.

pub beginning_of_one : found (tokens "i") (program 1 (one (st 0 1 (id "i" 0)))) ≡ once []
unfolding computing
beginning_of_one = refl

pub beginning_of_eight : found (tokens "if (a) b") (program 8 (one (n IfStatement 0 8 (part (id "a" 4) (part (st 7 8 (id "b" 7)) (gap none)))))) ≡ once []
unfolding computing
beginning_of_eight = refl

pub beginning_of_nine : found (tokens "if (a) b;") (program 9 (one (n IfStatement 0 9 (part (id "a" 4) (part (st 7 9 (id "b" 7)) (gap none)))))) ≡ once []
unfolding computing
beginning_of_nine = refl

pub beginning_of_ten : found (tokens "if (a) b; ") (program 10 (one (n IfStatement 0 9 (part (id "a" 4) (part (st 7 9 (id "b" 7)) (gap none)))))) ≡ once []
unfolding computing
beginning_of_ten = refl

pub beginning_of_eleven : found (tokens "if (a) b; e") (program 11 (two (n IfStatement 0 9 (part (id "a" 4) (part (st 7 9 (id "b" 7)) (gap none)))) (st 10 11 (id "e" 10)))) ≡ once []
unfolding computing
beginning_of_eleven = refl

pub beginning_of_twelve : found (tokens "if (a) b; el") (program 12 (two (n IfStatement 0 9 (part (id "a" 4) (part (st 7 9 (id "b" 7)) (gap none)))) (st 10 12 (id "el" 10)))) ≡ once []
unfolding computing
beginning_of_twelve = refl

pub beginning_of_thirteen : found (tokens "if (a) b; els") (program 13 (two (n IfStatement 0 9 (part (id "a" 4) (part (st 7 9 (id "b" 7)) (gap none)))) (st 10 13 (id "els" 10)))) ≡ once []
unfolding computing
beginning_of_thirteen = refl

pub beginning_of_sixteen : found (tokens "if (a) b; else c") (program 16 (one (n IfStatement 0 16 (three (id "a" 4) (st 7 9 (id "b" 7)) (st 15 16 (id "c" 15)))))) ≡ once []
unfolding computing
beginning_of_sixteen = refl

-- And those that are none: the tree of the whole `if` with what is missing left out.

-- no statement behind the test
pub beginning_of_seven : found (tokens "if (a) ") (program 7 (one (n IfStatement 0 7 (part (id "a" 4) (part (n EmptyStatement 7 7 none) (gap none)))))) ≡ []
unfolding computing
beginning_of_seven = refl

-- no statement behind the test
pub beginning_of_six : found (tokens "if (a)") (program 6 (one (n IfStatement 0 6 (part (id "a" 4) (gap (gap none)))))) ≡ []
unfolding computing
beginning_of_six = refl

-- no statement behind `else`
pub beginning_of_fourteen : found (tokens "if (a) b; else") (program 14 (one (n IfStatement 0 14 (part (id "a" 4) (part (st 7 9 (id "b" 7)) (gap none)))))) ≡ []
unfolding computing
beginning_of_fourteen = refl

-- an empty statement that has no `;`
pub beginning_of_fifteen : found (tokens "if (a) b; else ") (program 15 (one (n IfStatement 0 14 (three (id "a" 4) (st 7 9 (id "b" 7)) (n EmptyStatement 14 14 none))))) ≡ []
unfolding computing
beginning_of_fifteen = refl

-- Where no `;` may miss, and where a statement may not stand.

-- no statement ends before a `/`
pub member_of_regexp : found (tokens_with_regexps "a = b\n/c/.d") (program 11 (two (st 0 5 (t AssignmentExpression "=" 0 5 (two (id "a" 0) (id "b" 4)))) (st 6 11 (n MemberExpression 6 11 (two (lit "/c/" 6) (id "d" 10)))))) ≡ []
unfolding computing
member_of_regexp = refl

-- `/=` goes on with what stands on the line before
pub division_assigned : found (tokens_with_regexps "a\n/=x/") (program 6 (two (st 0 1 (id "a" 0)) (st 2 6 (lit "/=x/" 2)))) ≡ []
unfolding computing
division_assigned = refl

-- `/=` behind `a++` begins a line of its own
pub division_behind_update : found (tokens_with_regexps "a++\n/=x/") (program 8 (two (st 0 3 (t UpdateExpression "++" 0 3 (one (id "a" 0)))) (st 4 8 (lit "/=x/" 4)))) ≡ []
unfolding computing
division_behind_update = refl

-- `/=` behind a sum begins a line of its own
pub division_behind_sum : found (tokens_with_regexps "a + b\n/=x/") (program 10 (two (st 0 5 (t BinaryExpression "+" 0 5 (two (id "a" 0) (id "b" 4)))) (st 6 10 (lit "/=x/" 6)))) ≡ []
unfolding computing
division_behind_sum = refl

-- no `;` between `a` and `while` on one line
pub body_of_do_without_end : found (tokens "do a while (b)") (program 14 (one (n DoWhileStatement 0 14 (two (st 3 4 (id "a" 3)) (id "b" 12))))) ≡ []
unfolding computing
body_of_do_without_end = refl

-- no body
pub if_without_body : found (tokens "if (a)") (program 6 (one (n IfStatement 0 6 (part (id "a" 4) (part (n EmptyStatement 6 6 none) (gap none)))))) ≡ []
unfolding computing
if_without_body = refl

-- nothing on the line of `throw`
pub throw_behind_a_break : found (tokens "throw\na") (program 7 (one (n ThrowStatement 0 7 (one (id "a" 6))))) ≡ []
unfolding computing
throw_behind_a_break = refl

-- one `;` in the head
pub head_with_one_mark : found (tokens "for (a;b);") (program 10 (one (n ForStatement 0 10 (part (id "a" 5) (part (id "b" 7) (gap (one (n EmptyStatement 9 10 none)))))))) ≡ []
unfolding computing
head_with_one_mark = refl

-- two statements on one line
pub async_function : found (tokens "async function f() {}") (program 21 (two (st 0 5 (id "async" 0)) (n FunctionDeclaration 6 21 (two (id "f" 15) (n BlockStatement 19 21 none))))) ≡ []
unfolding computing
async_function = refl

-- `in` in the head without a group
pub in_without_group : found (tokens "for (a in b;;);") (program 15 (one (n ForStatement 0 15 (part (t BinaryExpression "in" 5 11 (two (id "a" 5) (id "b" 10))) (gap (gap (one (n EmptyStatement 14 15 none)))))))) ≡ []
unfolding computing
in_without_group = refl

-- `in` at the end of a conditional there
pub in_of_the_end : found (tokens "for (a ? b : c in d;;);") (program 23 (one (n ForStatement 0 23 (part (n ConditionalExpression 5 19 (three (id "a" 5) (id "b" 9) (t BinaryExpression "in" 13 19 (two (id "c" 13) (id "d" 18))))) (gap (gap (one (n EmptyStatement 22 23 none)))))))) ≡ []
unfolding computing
in_of_the_end = refl

-- `in` in the value of a declarator there
pub in_of_a_declarator : found (tokens "for (var a = b in c;;);") (program 23 (one (n ForStatement 0 23 (part (t VariableDeclaration "var" 5 19 (one (n VariableDeclarator 9 19 (two (id "a" 9) (t BinaryExpression "in" 13 19 (two (id "b" 13) (id "c" 18))))))) (gap (gap (one (n EmptyStatement 22 23 none)))))))) ≡ []
unfolding computing
in_of_a_declarator = refl

-- two statements where a template is tagged
pub template_on_the_next_line : found (tokens "a\n`b`") (program 5 (two (st 0 1 (id "a" 0)) (st 2 5 (n TemplateLiteral 2 5 (one (t TemplateElement "b" 3 4 none)))))) ≡ []
unfolding computing
template_on_the_next_line = refl

-- a directive in a group
pub directive_in_a_group : found (tokens "(\"use strict\");") (program 15 (one (directive (n ExpressionStatement 0 15 (one (lit "\"use strict\"" 1)))))) ≡ []
unfolding computing
directive_in_a_group = refl

-- a comma behind `of`
pub of_with_a_comma : found (tokens "for (a of b, c);") (program 16 (one (n ForOfStatement 0 16 (three (id "a" 5) (n SequenceExpression 10 14 (two (id "b" 10) (id "c" 13))) (n EmptyStatement 15 16 none))))) ≡ []
unfolding computing
of_with_a_comma = refl

-- a value in the head of a for-in
pub for_in_with_value : found (tokens "for (var i = 0 in a);") (program 21 (one (n ForInStatement 0 21 (three (t VariableDeclaration "var" 5 14 (one (n VariableDeclarator 9 14 (two (id "i" 9) (lit "0" 13))))) (id "a" 18) (n EmptyStatement 20 21 none))))) ≡ []
unfolding computing
for_in_with_value = refl

-- a `let` as the body
pub let_as_body : found (tokens "if (a) let b;") (program 13 (one (n IfStatement 0 13 (part (id "a" 4) (part (t VariableDeclaration "let" 7 13 (one (n VariableDeclarator 11 12 (part (id "b" 11) (gap none))))) (gap none)))))) ≡ []
unfolding computing
let_as_body = refl

-- a class as the body
pub class_as_body : found (tokens "if (a) class B {}") (program 17 (one (n IfStatement 0 17 (part (id "a" 4) (part (n ClassDeclaration 7 17 (part (id "B" 13) (gap (one (n ClassBody 15 17 none))))) (gap none)))))) ≡ []
unfolding computing
class_as_body = refl

-- a function behind a label
pub labelled_function : found (tokens "x: function f() {}") (program 18 (one (n LabeledStatement 0 18 (two (id "x" 0) (n FunctionDeclaration 3 18 (two (id "f" 12) (n BlockStatement 16 18 none))))))) ≡ []
unfolding computing
labelled_function = refl

-- a `return` outside functions
pub return_outside : found (tokens "return a") (program 8 (one (n ReturnStatement 0 8 (one (id "a" 7))))) ≡ []
unfolding computing
return_outside = refl

-- the `else` as the outer one's
pub else_of_the_outer_if : found (tokens "if (a) if (b) c; else d") (program 23 (one (n IfStatement 0 23 (three (id "a" 4) (n IfStatement 7 16 (part (id "b" 11) (part (st 14 16 (id "c" 14)) (gap none)))) (st 22 23 (id "d" 22)))))) ≡ []
unfolding computing
else_of_the_outer_if = refl

-- two defaults
pub two_defaults : found (tokens "switch (a) { default: default: }") (program 32 (one (n SwitchStatement 0 32 (three (id "a" 8) (n SwitchCase 13 21 (gap none)) (n SwitchCase 22 30 (gap none)))))) ≡ []
unfolding computing
two_defaults = refl

-- a `try` alone
pub try_alone : found (tokens "try {}") (program 6 (one (n TryStatement 0 6 (part (n BlockStatement 4 6 none) (gap (gap none)))))) ≡ []
unfolding computing
try_alone = refl

-- `++` behind a line break
pub update_before_a_break : found (tokens "a\n++\nb") (program 6 (two (st 0 4 (t UpdateExpression "++" 0 4 (one (id "a" 0)))) (st 5 6 (id "b" 5)))) ≡ []
unfolding computing
update_before_a_break = refl

-- two statements where a call goes on
pub call_as_statements : found (tokens "a\n(b)") (program 5 (two (st 0 1 (id "a" 0)) (st 2 5 (id "b" 3)))) ≡ []
unfolding computing
call_as_statements = refl

-- two statements where an arrow in a group is called
pub grouped_arrow_goes_on : found (tokens "a = (() => {})\n(b)") (program 18 (two (st 0 14 (t AssignmentExpression "=" 0 14 (two (id "a" 0) (n ArrowFunctionExpression 5 13 (one (n BlockStatement 11 13 none)))))) (st 15 18 (id "b" 16)))) ≡ []
unfolding computing
grouped_arrow_goes_on = refl

-- two statements where an update in a group is called
pub grouped_update_goes_on : found (tokens "(a++)\n(b)") (program 9 (two (st 0 5 (t UpdateExpression "++" 1 4 (one (id "a" 1)))) (st 6 9 (id "b" 7)))) ≡ []
unfolding computing
grouped_update_goes_on = refl

-- no line break behind an arrow
pub group_behind_arrow_on_its_line : found (tokens "a = () => {}(b)") (program 15 (two (st 0 12 (t AssignmentExpression "=" 0 12 (two (id "a" 0) (n ArrowFunctionExpression 4 12 (one (n BlockStatement 10 12 none)))))) (st 12 15 (id "b" 13)))) ≡ []
unfolding computing
group_behind_arrow_on_its_line = refl

-- `++` behind a line break, and then nothing
pub update_behind_a_break : found (tokens "a\n++;b") (program 6 (two (st 0 5 (t UpdateExpression "++" 0 4 (one (id "a" 0)))) (st 5 6 (id "b" 5)))) ≡ []
unfolding computing
update_behind_a_break = refl

-- two statements behind `++b`, which a `(` goes on
pub call_behind_update : found (tokens "++b\n('x')") (program 9 (two (st 0 3 (before (t UpdateExpression "++" 0 3 (one (id "b" 2))))) (st 4 9 (lit "'x'" 5)))) ≡ []
unfolding computing
call_behind_update = refl

-- nothing in the parentheses behind `catch`
pub catch_with_nothing : found (tokens "try {} catch () {}") (program 18 (one (n TryStatement 0 18 (part (n BlockStatement 4 6 none) (part (n CatchClause 7 18 (gap (one (n BlockStatement 16 18 none)))) (gap none)))))) ≡ []
unfolding computing
catch_with_nothing = refl

-- no right side
pub sum_without_side : found (tokens "a + ;") (program 5 (one (st 0 5 (t BinaryExpression "+" 0 3 (one (id "a" 0)))))) ≡ []
unfolding computing
sum_without_side = refl

-- an open group
pub open_group : found (tokens "(a;") (program 3 (one (st 1 3 (id "a" 1)))) ≡ []
unfolding computing
open_group = refl

-- `if` as a name
pub if_alone : found (tokens "if;") (program 3 (one (st 0 3 (id "if" 0)))) ≡ []
unfolding computing
if_alone = refl

-- Trees that differ in one thing.

-- a directive without its flag
pub directive_without_its_flag : found (tokens "\"use strict\";") (program 13 (one (st 0 13 (lit "\"use strict\"" 0)))) ≡ []
unfolding computing
directive_without_its_flag = refl

-- the flag at an expression
pub flag_without_directive : found (tokens "\"a\"; b;") (program 7 (two (directive (n ExpressionStatement 0 4 (one (lit "\"a\"" 0)))) (directive (n ExpressionStatement 5 7 (one (id "b" 5)))))) ≡ []
unfolding computing
flag_without_directive = refl

-- a statement missing
pub statement_missing : found (tokens "a; b;") (program 5 (one (st 0 2 (id "a" 0)))) ≡ []
unfolding computing
statement_missing = refl

-- an empty statement as `else`
pub empty_for_nothing : found (tokens "if (a) b;") (program 9 (one (n IfStatement 0 9 (three (id "a" 4) (st 7 9 (id "b" 7)) (n EmptyStatement 9 9 none))))) ≡ []
unfolding computing
empty_for_nothing = refl

-- a gap missing in a head
pub gap_missing : found (tokens "for (;;);") (program 9 (one (n ForStatement 0 9 (gap (gap (one (n EmptyStatement 8 9 none))))))) ≡ []
unfolding computing
gap_missing = refl

-- another word of a declaration
pub let_for_const : found (tokens "const a = 1;") (program 12 (one (t VariableDeclaration "let" 0 12 (one (n VariableDeclarator 6 11 (two (id "a" 6) (lit "1" 10))))))) ≡ []
unfolding computing
let_for_const = refl

-- the parts of a `while` turned about
pub body_before_test : found (tokens "while (a) b;") (program 12 (one (n WhileStatement 0 12 (two (st 10 12 (id "b" 10)) (id "a" 7))))) ≡ []
unfolding computing
body_before_test = refl

-- a for-in for a for-of
pub of_for_in : found (tokens "for (a of b);") (program 13 (one (n ForInStatement 0 13 (three (id "a" 5) (id "b" 10) (n EmptyStatement 12 13 none))))) ≡ []
unfolding computing
of_for_in = refl

-- the label missing
pub label_missing : found (tokens "a: for (;;) break a;") (program 20 (one (n LabeledStatement 0 20 (two (id "a" 0) (n ForStatement 3 20 (gap (gap (gap (one (n BreakStatement 12 20 (gap none))))))))))) ≡ []
unfolding computing
label_missing = refl

-- a statement without its `;`
pub end_off_by_one : found (tokens "a;") (program 2 (one (st 0 1 (id "a" 0)))) ≡ []
unfolding computing
end_off_by_one = refl

-- a script from its first token on
pub script_off_by_one : found (tokens " a; ") (n Program 1 4 (one (st 1 3 (id "a" 1)))) ≡ []
unfolding computing
script_off_by_one = refl

-- a block behind its brace
pub block_off_by_one : found (tokens "{ a }") (program 5 (one (n BlockStatement 1 5 (one (st 2 3 (id "a" 2)))))) ≡ []
unfolding computing
block_off_by_one = refl
