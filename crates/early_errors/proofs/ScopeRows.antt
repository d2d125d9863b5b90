-- Examples: names that clash in scopes, catch clauses and `for` heads.
use Rattle.std.specs.Prelude.{◌≡◌, refl, [], ◌∷◌, Some}
use Rattle.tree.specs.declared.kind.Kind.TheVariants.{ArrayPattern, ArrowFunctionExpression, AssignmentExpression, BlockStatement, CatchClause, ClassBody, ClassDeclaration, EmptyStatement, ExpressionStatement, ForInStatement, ForOfStatement, ForStatement, FunctionDeclaration, FunctionExpression, Literal, ObjectExpression, ObjectPattern, Program, Property, SwitchCase, SwitchStatement, ThrowStatement, TryStatement, VariableDeclaration, VariableDeclarator}
use Rattle.tree.specs.declared.kind.Form.TheVariants.{Method, Shorthand}
use Rattle.tree.specs.Tree.{Tree, gap, none, part}
use Rattle.early_errors.specs.Early.{errors, least_error}
use Rattle.language.proofs.examples.Trees.{formed, id, n, one, t, three, two}
use Rattle.early_errors.proofs.Trees.{computing}

-- `let a; let a`
pub let_twice : errors (n Program 0 12 (two (t VariableDeclaration "let" 0 6 (one (n VariableDeclarator 4 5 (part (id "a" 4) (gap none))))) (t VariableDeclaration "let" 7 12 (one (n VariableDeclarator 11 12 (part (id "a" 11) (gap none))))))) ≡ (3, 11) ∷ []
unfolding computing
let_twice = refl

-- `let a; { let a }`
pub let_and_inner_let : errors (n Program 0 16 (two (t VariableDeclaration "let" 0 6 (one (n VariableDeclarator 4 5 (part (id "a" 4) (gap none))))) (n BlockStatement 7 16 (one (t VariableDeclaration "let" 9 14 (one (n VariableDeclarator 13 14 (part (id "a" 13) (gap none))))))))) ≡ []
unfolding computing
let_and_inner_let = refl

-- `let a, a`: once by the declaration, once by the Program
abbrev pub let_twice_in_one_tree : Tree
let_twice_in_one_tree = n Program 0 8 (one (t VariableDeclaration "let" 0 8 (two (n VariableDeclarator 4 5 (part (id "a" 4) (gap none))) (n VariableDeclarator 7 8 (part (id "a" 7) (gap none))))))

pub let_twice_in_one : errors let_twice_in_one_tree ≡ (3, 7) ∷ (3, 7) ∷ []
unfolding computing
let_twice_in_one = refl

pub let_twice_in_one_least : least_error let_twice_in_one_tree ≡ Some (3, 7)
unfolding computing
let_twice_in_one_least = refl

-- `for (let a, a;;);`
pub let_twice_in_head : errors (n Program 0 17 (one (n ForStatement 0 17 (part (t VariableDeclaration "let" 5 13 (two (n VariableDeclarator 9 10 (part (id "a" 9) (gap none))) (n VariableDeclarator 12 13 (part (id "a" 12) (gap none))))) (gap (gap (one (n EmptyStatement 16 17 none)))))))) ≡ (3, 12) ∷ []
unfolding computing
let_twice_in_head = refl

-- `let [, a, , b] = c, d; { let {a, b: [a]} = c }`
abbrev pub let_twice_in_pattern_tree : Tree
let_twice_in_pattern_tree = n Program 0 46 (two (t VariableDeclaration "let" 0 22 (two (n VariableDeclarator 4 18 (two (n ArrayPattern 4 14 (gap (part (id "a" 7) (gap (one (id "b" 12)))))) (id "c" 17))) (n VariableDeclarator 20 21 (part (id "d" 20) (gap none))))) (n BlockStatement 23 46 (one (t VariableDeclaration "let" 25 44 (one (n VariableDeclarator 29 44 (two (n ObjectPattern 29 40 (two (formed Shorthand (n Property 30 31 (two (id "a" 30) (id "a" 30)))) (n Property 33 39 (two (id "b" 33) (n ArrayPattern 36 39 (one (id "a" 37))))))) (id "c" 43))))))))

pub let_twice_in_pattern : errors let_twice_in_pattern_tree ≡ (3, 37) ∷ (3, 37) ∷ []
unfolding computing
let_twice_in_pattern = refl

pub let_twice_in_pattern_least : least_error let_twice_in_pattern_tree ≡ Some (3, 37)
unfolding computing
let_twice_in_pattern_least = refl

-- `var a; var a`
pub var_twice : errors (n Program 0 12 (two (t VariableDeclaration "var" 0 6 (one (n VariableDeclarator 4 5 (part (id "a" 4) (gap none))))) (t VariableDeclaration "var" 7 12 (one (n VariableDeclarator 11 12 (part (id "a" 11) (gap none))))))) ≡ []
unfolding computing
var_twice = refl

-- `class a {} let a`
pub class_and_let : errors (n Program 0 16 (two (n ClassDeclaration 0 10 (part (id "a" 6) (gap (one (n ClassBody 8 10 none))))) (t VariableDeclaration "let" 11 16 (one (n VariableDeclarator 15 16 (part (id "a" 15) (gap none))))))) ≡ (3, 15) ∷ []
unfolding computing
class_and_let = refl

-- `function a() {} function a() {}`
pub functions_at_top : errors (n Program 0 31 (two (n FunctionDeclaration 0 15 (two (id "a" 9) (n BlockStatement 13 15 none))) (n FunctionDeclaration 16 31 (two (id "a" 25) (n BlockStatement 29 31 none))))) ≡ []
unfolding computing
functions_at_top = refl

-- `{ function a() {} function a() {} }`
pub functions_in_block : errors (n Program 0 35 (one (n BlockStatement 0 35 (two (n FunctionDeclaration 2 17 (two (id "a" 11) (n BlockStatement 15 17 none))) (n FunctionDeclaration 18 33 (two (id "a" 27) (n BlockStatement 31 33 none))))))) ≡ (3, 27) ∷ []
unfolding computing
functions_in_block = refl

-- `() => { function a() {} function a() {} }`
pub functions_in_body : errors (n Program 0 41 (one (n ExpressionStatement 0 41 (one (n ArrowFunctionExpression 0 41 (one (n BlockStatement 6 41 (two (n FunctionDeclaration 8 23 (two (id "a" 17) (n BlockStatement 21 23 none))) (n FunctionDeclaration 24 39 (two (id "a" 33) (n BlockStatement 37 39 none))))))))))) ≡ []
unfolding computing
functions_in_body = refl

-- `function f() { function a() {} function a() {} }`
pub functions_in_function : errors (n Program 0 48 (one (n FunctionDeclaration 0 48 (two (id "f" 9) (n BlockStatement 13 48 (two (n FunctionDeclaration 15 30 (two (id "a" 24) (n BlockStatement 28 30 none))) (n FunctionDeclaration 31 46 (two (id "a" 40) (n BlockStatement 44 46 none))))))))) ≡ []
unfolding computing
functions_in_function = refl

-- `({m() { function a() {} var a }})`
pub functions_in_method : errors (n Program 0 33 (one (n ExpressionStatement 0 33 (one (n ObjectExpression 1 32 (one (formed Method (n Property 2 31 (two (id "m" 2) (n FunctionExpression 3 31 (gap (one (n BlockStatement 6 31 (two (n FunctionDeclaration 8 23 (two (id "a" 17) (n BlockStatement 21 23 none))) (t VariableDeclaration "var" 24 29 (one (n VariableDeclarator 28 29 (part (id "a" 28) (gap none))))))))))))))))))) ≡ []
unfolding computing
functions_in_method = refl

-- `switch (b) { case 1: let a; case 2: let a }`
pub let_in_two_cases : errors (n Program 0 43 (one (n SwitchStatement 0 43 (three (id "b" 8) (n SwitchCase 13 27 (two (t Literal "1" 18 19 none) (t VariableDeclaration "let" 21 27 (one (n VariableDeclarator 25 26 (part (id "a" 25) (gap none))))))) (n SwitchCase 28 41 (two (t Literal "2" 33 34 none) (t VariableDeclaration "let" 36 41 (one (n VariableDeclarator 40 41 (part (id "a" 40) (gap none))))))))))) ≡ (3, 40) ∷ []
unfolding computing
let_in_two_cases = refl

-- `let a; { var a }`
pub let_and_inner_var : errors (n Program 0 16 (two (t VariableDeclaration "let" 0 6 (one (n VariableDeclarator 4 5 (part (id "a" 4) (gap none))))) (n BlockStatement 7 16 (one (t VariableDeclaration "var" 9 14 (one (n VariableDeclarator 13 14 (part (id "a" 13) (gap none))))))))) ≡ (4, 4) ∷ []
unfolding computing
let_and_inner_var = refl

-- `let a; () => { var a }`
pub let_and_var_of_function : errors (n Program 0 22 (two (t VariableDeclaration "let" 0 6 (one (n VariableDeclarator 4 5 (part (id "a" 4) (gap none))))) (n ExpressionStatement 7 22 (one (n ArrowFunctionExpression 7 22 (one (n BlockStatement 13 22 (one (t VariableDeclaration "var" 15 20 (one (n VariableDeclarator 19 20 (part (id "a" 19) (gap none))))))))))))) ≡ []
unfolding computing
let_and_var_of_function = refl

-- `{ let a; function f() { var a } }`
pub let_and_var_of_declared : errors (n Program 0 33 (one (n BlockStatement 0 33 (two (t VariableDeclaration "let" 2 8 (one (n VariableDeclarator 6 7 (part (id "a" 6) (gap none))))) (n FunctionDeclaration 9 31 (two (id "f" 18) (n BlockStatement 22 31 (one (t VariableDeclaration "var" 24 29 (one (n VariableDeclarator 28 29 (part (id "a" 28) (gap none))))))))))))) ≡ []
unfolding computing
let_and_var_of_declared = refl

-- `let a; (function () { var a })`
pub let_and_var_of_expression : errors (n Program 0 30 (two (t VariableDeclaration "let" 0 6 (one (n VariableDeclarator 4 5 (part (id "a" 4) (gap none))))) (n ExpressionStatement 7 30 (one (n FunctionExpression 8 29 (gap (one (n BlockStatement 20 29 (one (t VariableDeclaration "var" 22 27 (one (n VariableDeclarator 26 27 (part (id "a" 26) (gap none)))))))))))))) ≡ []
unfolding computing
let_and_var_of_expression = refl

-- `let a; function a() {}`
pub let_and_function : errors (n Program 0 22 (two (t VariableDeclaration "let" 0 6 (one (n VariableDeclarator 4 5 (part (id "a" 4) (gap none))))) (n FunctionDeclaration 7 22 (two (id "a" 16) (n BlockStatement 20 22 none))))) ≡ (4, 4) ∷ []
unfolding computing
let_and_function = refl

-- `function f() { { var a } let a }`
pub let_in_body_and_var : errors (n Program 0 32 (one (n FunctionDeclaration 0 32 (two (id "f" 9) (n BlockStatement 13 32 (two (n BlockStatement 15 24 (one (t VariableDeclaration "var" 17 22 (one (n VariableDeclarator 21 22 (part (id "a" 21) (gap none))))))) (t VariableDeclaration "let" 25 30 (one (n VariableDeclarator 29 30 (part (id "a" 29) (gap none))))))))))) ≡ (4, 29) ∷ []
unfolding computing
let_in_body_and_var = refl

-- `switch (b) { case 1: var a; default: let a }`
pub let_in_switch_and_var : errors (n Program 0 44 (one (n SwitchStatement 0 44 (three (id "b" 8) (n SwitchCase 13 27 (two (t Literal "1" 18 19 none) (t VariableDeclaration "var" 21 27 (one (n VariableDeclarator 25 26 (part (id "a" 25) (gap none))))))) (n SwitchCase 28 42 (gap (one (t VariableDeclaration "let" 37 42 (one (n VariableDeclarator 41 42 (part (id "a" 41) (gap none)))))))))))) ≡ (4, 41) ∷ []
unfolding computing
let_in_switch_and_var = refl

-- `let a; eval = 1; { var a }`: the least comes first in the text
abbrev pub two_faults_tree : Tree
two_faults_tree = n Program 0 26 (three (t VariableDeclaration "let" 0 6 (one (n VariableDeclarator 4 5 (part (id "a" 4) (gap none))))) (n ExpressionStatement 7 16 (one (t AssignmentExpression "=" 7 15 (two (id "eval" 7) (t Literal "1" 14 15 none))))) (n BlockStatement 17 26 (one (t VariableDeclaration "var" 19 24 (one (n VariableDeclarator 23 24 (part (id "a" 23) (gap none))))))))

pub two_faults : errors two_faults_tree ≡ (4, 4) ∷ (1, 7) ∷ []
unfolding computing
two_faults = refl

pub two_faults_least : least_error two_faults_tree ≡ Some (4, 4)
unfolding computing
two_faults_least = refl

-- `{ let a; var a } let b; let b`: the Program's own error stands first in the list
abbrev pub least_is_inner_tree : Tree
least_is_inner_tree = n Program 0 29 (three (n BlockStatement 0 16 (two (t VariableDeclaration "let" 2 8 (one (n VariableDeclarator 6 7 (part (id "a" 6) (gap none))))) (t VariableDeclaration "var" 9 14 (one (n VariableDeclarator 13 14 (part (id "a" 13) (gap none))))))) (t VariableDeclaration "let" 17 23 (one (n VariableDeclarator 21 22 (part (id "b" 21) (gap none))))) (t VariableDeclaration "let" 24 29 (one (n VariableDeclarator 28 29 (part (id "b" 28) (gap none))))))

pub least_is_inner : errors least_is_inner_tree ≡ (3, 28) ∷ (4, 6) ∷ []
unfolding computing
least_is_inner = refl

pub least_is_inner_least : least_error least_is_inner_tree ≡ Some (4, 6)
unfolding computing
least_is_inner_least = refl

-- `let a; let a; { var a }`
abbrev pub each_occurrence_tree : Tree
each_occurrence_tree = n Program 0 23 (three (t VariableDeclaration "let" 0 6 (one (n VariableDeclarator 4 5 (part (id "a" 4) (gap none))))) (t VariableDeclaration "let" 7 13 (one (n VariableDeclarator 11 12 (part (id "a" 11) (gap none))))) (n BlockStatement 14 23 (one (t VariableDeclaration "var" 16 21 (one (n VariableDeclarator 20 21 (part (id "a" 20) (gap none))))))))

pub each_occurrence : errors each_occurrence_tree ≡ (3, 11) ∷ (4, 4) ∷ (4, 11) ∷ []
unfolding computing
each_occurrence = refl

pub each_occurrence_least : least_error each_occurrence_tree ≡ Some (4, 4)
unfolding computing
each_occurrence_least = refl

-- `const a`
pub const_bare : errors (n Program 0 7 (one (t VariableDeclaration "const" 0 7 (one (n VariableDeclarator 6 7 (part (id "a" 6) (gap none))))))) ≡ (5, 6) ∷ []
unfolding computing
const_bare = refl

-- `const a = 1, b = a`
pub const_given : errors (n Program 0 18 (one (t VariableDeclaration "const" 0 18 (two (n VariableDeclarator 6 11 (two (id "a" 6) (t Literal "1" 10 11 none))) (n VariableDeclarator 13 18 (two (id "b" 13) (id "a" 17))))))) ≡ []
unfolding computing
const_given = refl

-- `for (const a;;);`
pub const_bare_in_head : errors (n Program 0 16 (one (n ForStatement 0 16 (part (t VariableDeclaration "const" 5 12 (one (n VariableDeclarator 11 12 (part (id "a" 11) (gap none))))) (gap (gap (one (n EmptyStatement 15 16 none)))))))) ≡ (5, 11) ∷ []
unfolding computing
const_bare_in_head = refl

-- `for (const a of b);`
pub const_of : errors (n Program 0 19 (one (n ForOfStatement 0 19 (three (t VariableDeclaration "const" 5 12 (one (n VariableDeclarator 11 12 (part (id "a" 11) (gap none))))) (id "b" 16) (n EmptyStatement 18 19 none))))) ≡ []
unfolding computing
const_of = refl

-- `for (const a in b);`
pub const_in : errors (n Program 0 19 (one (n ForInStatement 0 19 (three (t VariableDeclaration "const" 5 12 (one (n VariableDeclarator 11 12 (part (id "a" 11) (gap none))))) (id "b" 16) (n EmptyStatement 18 19 none))))) ≡ []
unfolding computing
const_in = refl

-- `let a`
pub let_bare : errors (n Program 0 5 (one (t VariableDeclaration "let" 0 5 (one (n VariableDeclarator 4 5 (part (id "a" 4) (gap none))))))) ≡ []
unfolding computing
let_bare = refl

-- `try {} catch (e) { var e }`
pub caught_and_var : errors (n Program 0 26 (one (n TryStatement 0 26 (part (n BlockStatement 4 6 none) (part (n CatchClause 7 26 (two (id "e" 14) (n BlockStatement 17 26 (one (t VariableDeclaration "var" 19 24 (one (n VariableDeclarator 23 24 (part (id "e" 23) (gap none))))))))) (gap none)))))) ≡ (12, 14) ∷ []
unfolding computing
caught_and_var = refl

-- `try {} catch (e) { let e }`
pub caught_and_let : errors (n Program 0 26 (one (n TryStatement 0 26 (part (n BlockStatement 4 6 none) (part (n CatchClause 7 26 (two (id "e" 14) (n BlockStatement 17 26 (one (t VariableDeclaration "let" 19 24 (one (n VariableDeclarator 23 24 (part (id "e" 23) (gap none))))))))) (gap none)))))) ≡ (12, 14) ∷ []
unfolding computing
caught_and_let = refl

-- `try {} catch (e) { { let e } }`
pub caught_and_inner_let : errors (n Program 0 30 (one (n TryStatement 0 30 (part (n BlockStatement 4 6 none) (part (n CatchClause 7 30 (two (id "e" 14) (n BlockStatement 17 30 (one (n BlockStatement 19 28 (one (t VariableDeclaration "let" 21 26 (one (n VariableDeclarator 25 26 (part (id "e" 25) (gap none))))))))))) (gap none)))))) ≡ []
unfolding computing
caught_and_inner_let = refl

-- `try {} catch ([a, a]) {}`
pub caught_twice : errors (n Program 0 24 (one (n TryStatement 0 24 (part (n BlockStatement 4 6 none) (part (n CatchClause 7 24 (two (n ArrayPattern 14 20 (two (id "a" 15) (id "a" 18))) (n BlockStatement 22 24 none))) (gap none)))))) ≡ (12, 18) ∷ []
unfolding computing
caught_twice = refl

-- `try {} catch (e) { throw e }`
pub caught_and_thrown : errors (n Program 0 28 (one (n TryStatement 0 28 (part (n BlockStatement 4 6 none) (part (n CatchClause 7 28 (two (id "e" 14) (n BlockStatement 17 28 (one (n ThrowStatement 19 26 (one (id "e" 25))))))) (gap none)))))) ≡ []
unfolding computing
caught_and_thrown = refl

-- `for (let a of b) { var a }`
pub head_of_and_var : errors (n Program 0 26 (one (n ForOfStatement 0 26 (three (t VariableDeclaration "let" 5 10 (one (n VariableDeclarator 9 10 (part (id "a" 9) (gap none))))) (id "b" 14) (n BlockStatement 17 26 (one (t VariableDeclaration "var" 19 24 (one (n VariableDeclarator 23 24 (part (id "a" 23) (gap none))))))))))) ≡ (13, 9) ∷ []
unfolding computing
head_of_and_var = refl

-- `for (const a in b) var a`
pub head_in_and_var : errors (n Program 0 24 (one (n ForInStatement 0 24 (three (t VariableDeclaration "const" 5 12 (one (n VariableDeclarator 11 12 (part (id "a" 11) (gap none))))) (id "b" 16) (t VariableDeclaration "var" 19 24 (one (n VariableDeclarator 23 24 (part (id "a" 23) (gap none))))))))) ≡ (13, 11) ∷ []
unfolding computing
head_in_and_var = refl

-- `for (let a;;) { var a }`
pub head_and_var : errors (n Program 0 23 (one (n ForStatement 0 23 (part (t VariableDeclaration "let" 5 10 (one (n VariableDeclarator 9 10 (part (id "a" 9) (gap none))))) (gap (gap (one (n BlockStatement 14 23 (one (t VariableDeclaration "var" 16 21 (one (n VariableDeclarator 20 21 (part (id "a" 20) (gap none)))))))))))))) ≡ (13, 9) ∷ []
unfolding computing
head_and_var = refl

-- `for (let a of b) { let a }`
pub head_and_inner_let : errors (n Program 0 26 (one (n ForOfStatement 0 26 (three (t VariableDeclaration "let" 5 10 (one (n VariableDeclarator 9 10 (part (id "a" 9) (gap none))))) (id "b" 14) (n BlockStatement 17 26 (one (t VariableDeclaration "let" 19 24 (one (n VariableDeclarator 23 24 (part (id "a" 23) (gap none))))))))))) ≡ []
unfolding computing
head_and_inner_let = refl

-- `for (var a of b) { var a }`
pub var_head_and_var : errors (n Program 0 26 (one (n ForOfStatement 0 26 (three (t VariableDeclaration "var" 5 10 (one (n VariableDeclarator 9 10 (part (id "a" 9) (gap none))))) (id "b" 14) (n BlockStatement 17 26 (one (t VariableDeclaration "var" 19 24 (one (n VariableDeclarator 23 24 (part (id "a" 23) (gap none))))))))))) ≡ []
unfolding computing
var_head_and_var = refl

-- `function f() { let a; function a() {} }`
pub let_and_function_of_body : errors (n Program 0 39 (one (n FunctionDeclaration 0 39 (two (id "f" 9) (n BlockStatement 13 39 (two (t VariableDeclaration "let" 15 21 (one (n VariableDeclarator 19 20 (part (id "a" 19) (gap none))))) (n FunctionDeclaration 22 37 (two (id "a" 31) (n BlockStatement 35 37 none))))))))) ≡ (4, 19) ∷ []
unfolding computing
let_and_function_of_body = refl
