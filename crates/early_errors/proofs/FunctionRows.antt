-- Examples: parameters.
use Rattle.std.specs.Prelude.{◌≡◌, refl, [], ◌∷◌}
use Rattle.tree.specs.declared.kind.Kind.TheVariants.{ArrayPattern, ArrowFunctionExpression, AssignmentPattern, BlockStatement, ClassBody, ClassDeclaration, ExpressionStatement, FunctionDeclaration, FunctionExpression, Literal, ObjectExpression, Program, Property, RestElement, VariableDeclaration, VariableDeclarator}
use Rattle.tree.specs.declared.kind.Form.TheVariants.{Method}
use Rattle.tree.specs.Tree.{gap, none, part}
use Rattle.early_errors.specs.Early.{errors}
use Rattle.language.proofs.examples.Trees.{directive, formed, id, n, one, short, t, three, two}
use Rattle.early_errors.proofs.Trees.{computing}

-- `(a, a) => a`
pub parameter_twice : errors (n Program 0 11 (one (n ExpressionStatement 0 11 (one (short (n ArrowFunctionExpression 0 11 (three (id "a" 1) (id "a" 4) (id "a" 10)))))))) ≡ (6, 4) ∷ []
unfolding computing
parameter_twice = refl

-- `(a, b) => a`
pub parameters : errors (n Program 0 11 (one (n ExpressionStatement 0 11 (one (short (n ArrowFunctionExpression 0 11 (three (id "a" 1) (id "b" 4) (id "a" 10)))))))) ≡ []
unfolding computing
parameters = refl

-- `function f(a, [b, a]) {}`
pub parameter_twice_in_pattern : errors (n Program 0 24 (one (n FunctionDeclaration 0 24 (part (id "f" 9) (three (id "a" 11) (n ArrayPattern 14 20 (two (id "b" 15) (id "a" 18))) (n BlockStatement 22 24 none)))))) ≡ (6, 18) ∷ []
unfolding computing
parameter_twice_in_pattern = refl

-- `({m(a, a) {}})`
pub parameter_twice_in_method : errors (n Program 0 14 (one (n ExpressionStatement 0 14 (one (n ObjectExpression 1 13 (one (formed Method (n Property 2 12 (two (id "m" 2) (n FunctionExpression 3 12 (gap (three (id "a" 4) (id "a" 7) (n BlockStatement 10 12 none))))))))))))) ≡ (6, 7) ∷ []
unfolding computing
parameter_twice_in_method = refl

-- `a => a => a`
pub parameter_of_inner : errors (n Program 0 11 (one (n ExpressionStatement 0 11 (one (short (n ArrowFunctionExpression 0 11 (two (id "a" 0) (short (n ArrowFunctionExpression 5 11 (two (id "a" 5) (id "a" 10))))))))))) ≡ []
unfolding computing
parameter_of_inner = refl

-- `function f(a) { let a }`
pub parameter_and_let : errors (n Program 0 23 (one (n FunctionDeclaration 0 23 (three (id "f" 9) (id "a" 11) (n BlockStatement 14 23 (one (t VariableDeclaration "let" 16 21 (one (n VariableDeclarator 20 21 (part (id "a" 20) (gap none))))))))))) ≡ (7, 20) ∷ []
unfolding computing
parameter_and_let = refl

-- `a => { class a {} }`
pub parameter_and_class : errors (n Program 0 19 (one (n ExpressionStatement 0 19 (one (n ArrowFunctionExpression 0 19 (two (id "a" 0) (n BlockStatement 5 19 (one (n ClassDeclaration 7 17 (part (id "a" 13) (gap (one (n ClassBody 15 17 none))))))))))))) ≡ (7, 13) ∷ []
unfolding computing
parameter_and_class = refl

-- `function f(a) { { let a } }`
pub parameter_and_inner_let : errors (n Program 0 27 (one (n FunctionDeclaration 0 27 (three (id "f" 9) (id "a" 11) (n BlockStatement 14 27 (one (n BlockStatement 16 25 (one (t VariableDeclaration "let" 18 23 (one (n VariableDeclarator 22 23 (part (id "a" 22) (gap none))))))))))))) ≡ []
unfolding computing
parameter_and_inner_let = refl

-- `function f(a) { var a }`
pub parameter_and_var : errors (n Program 0 23 (one (n FunctionDeclaration 0 23 (three (id "f" 9) (id "a" 11) (n BlockStatement 14 23 (one (t VariableDeclaration "var" 16 21 (one (n VariableDeclarator 20 21 (part (id "a" 20) (gap none))))))))))) ≡ []
unfolding computing
parameter_and_var = refl

-- `function f(a) { function a() {} }`
pub parameter_and_function : errors (n Program 0 33 (one (n FunctionDeclaration 0 33 (three (id "f" 9) (id "a" 11) (n BlockStatement 14 33 (one (n FunctionDeclaration 16 31 (two (id "a" 25) (n BlockStatement 29 31 none))))))))) ≡ []
unfolding computing
parameter_and_function = refl

-- `function f(a = 1) { "use strict"; }`
pub strict_behind_default : errors (n Program 0 35 (one (n FunctionDeclaration 0 35 (three (id "f" 9) (n AssignmentPattern 11 16 (two (id "a" 11) (t Literal "1" 15 16 none))) (n BlockStatement 18 35 (one (directive (n ExpressionStatement 20 33 (one (t Literal "\"use strict\"" 20 32 none)))))))))) ≡ (8, 20) ∷ []
unfolding computing
strict_behind_default = refl

-- `([a]) => { 'b'; 'use strict' }`
pub strict_behind_pattern : errors (n Program 0 30 (one (n ExpressionStatement 0 30 (one (n ArrowFunctionExpression 0 30 (two (n ArrayPattern 1 4 (one (id "a" 2))) (n BlockStatement 9 30 (two (directive (n ExpressionStatement 11 15 (one (t Literal "'b'" 11 14 none)))) (directive (n ExpressionStatement 16 28 (one (t Literal "'use strict'" 16 28 none)))))))))))) ≡ (8, 16) ∷ []
unfolding computing
strict_behind_pattern = refl

-- `({m(...a) { 'use strict' }})`
pub strict_behind_rest : errors (n Program 0 28 (one (n ExpressionStatement 0 28 (one (n ObjectExpression 1 27 (one (formed Method (n Property 2 26 (two (id "m" 2) (n FunctionExpression 3 26 (gap (two (n RestElement 4 8 (one (id "a" 7))) (n BlockStatement 10 26 (one (directive (n ExpressionStatement 12 24 (one (t Literal "'use strict'" 12 24 none)))))))))))))))))) ≡ (8, 12) ∷ []
unfolding computing
strict_behind_rest = refl

-- `function f(a) { 'use strict' }`
pub strict_behind_name : errors (n Program 0 30 (one (n FunctionDeclaration 0 30 (three (id "f" 9) (id "a" 11) (n BlockStatement 14 30 (one (directive (n ExpressionStatement 16 28 (one (t Literal "'use strict'" 16 28 none)))))))))) ≡ []
unfolding computing
strict_behind_name = refl

-- `function f(a = 1) { ("use strict"); }`: no directive
pub strict_grouped : errors (n Program 0 37 (one (n FunctionDeclaration 0 37 (three (id "f" 9) (n AssignmentPattern 11 16 (two (id "a" 11) (t Literal "1" 15 16 none))) (n BlockStatement 18 37 (one (n ExpressionStatement 20 35 (one (t Literal "\"use strict\"" 21 33 none))))))))) ≡ []
unfolding computing
strict_grouped = refl

-- `function f(a = 1) { 'use\x20strict' }`
pub strict_with_escape : errors (n Program 0 37 (one (n FunctionDeclaration 0 37 (three (id "f" 9) (n AssignmentPattern 11 16 (two (id "a" 11) (t Literal "1" 15 16 none))) (n BlockStatement 18 37 (one (directive (n ExpressionStatement 20 35 (one (t Literal "'use\\x20strict'" 20 35 none)))))))))) ≡ []
unfolding computing
strict_with_escape = refl

-- `(function a(a) {})`
pub parameter_of_its_function : errors (n Program 0 18 (one (n ExpressionStatement 0 18 (one (n FunctionExpression 1 17 (three (id "a" 10) (id "a" 12) (n BlockStatement 15 17 none))))))) ≡ []
unfolding computing
parameter_of_its_function = refl
