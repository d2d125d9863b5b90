-- Examples: `eval` and `arguments`, and `delete`.
use Rattle.std.specs.Prelude.{◌≡◌, refl, [], ◌∷◌, Some}
use Rattle.tree.specs.declared.kind.Kind.TheVariants.{ArrayPattern, ArrowFunctionExpression, AssignmentExpression, AssignmentPattern, BlockStatement, CatchClause, ClassBody, ClassDeclaration, ClassExpression, EmptyStatement, ExpressionStatement, ForInStatement, ForOfStatement, FunctionDeclaration, FunctionExpression, LabeledStatement, Literal, MemberExpression, ObjectPattern, Program, Property, RestElement, TryStatement, UnaryExpression, UpdateExpression, VariableDeclaration, VariableDeclarator}
use Rattle.tree.specs.declared.kind.Form.TheVariants.{Shorthand}
use Rattle.tree.specs.Tree.{Tree, gap, none, part}
use Rattle.early_errors.specs.Early.{errors, least_error}
use Rattle.language.proofs.examples.Trees.{formed, id, n, one, short, t, three, two}
use Rattle.early_errors.proofs.Trees.{computing}

-- `eval = 1`
pub eval_assigned : errors (n Program 0 8 (one (n ExpressionStatement 0 8 (one (t AssignmentExpression "=" 0 8 (two (id "eval" 0) (t Literal "1" 7 8 none))))))) ≡ (1, 0) ∷ []
unfolding computing
eval_assigned = refl

-- `a = eval`
pub eval_read : errors (n Program 0 8 (one (n ExpressionStatement 0 8 (one (t AssignmentExpression "=" 0 8 (two (id "a" 0) (id "eval" 4))))))) ≡ []
unfolding computing
eval_read = refl

-- `eval.a = 1`
pub eval_member_assigned : errors (n Program 0 10 (one (n ExpressionStatement 0 10 (one (t AssignmentExpression "=" 0 10 (two (n MemberExpression 0 6 (two (id "eval" 0) (id "a" 5))) (t Literal "1" 9 10 none))))))) ≡ []
unfolding computing
eval_member_assigned = refl

-- `eval: a`
pub eval_label : errors (n Program 0 7 (one (n LabeledStatement 0 7 (two (id "eval" 0) (n ExpressionStatement 6 7 (one (id "a" 6))))))) ≡ []
unfolding computing
eval_label = refl

-- `[arguments] = a`
pub arguments_in_pattern : errors (n Program 0 15 (one (n ExpressionStatement 0 15 (one (t AssignmentExpression "=" 0 15 (two (n ArrayPattern 0 11 (one (id "arguments" 1))) (id "a" 14))))))) ≡ (1, 1) ∷ []
unfolding computing
arguments_in_pattern = refl

-- `({a, ...eval} = b)`
pub eval_as_rest : errors (n Program 0 18 (one (n ExpressionStatement 0 18 (one (t AssignmentExpression "=" 1 17 (two (n ObjectPattern 1 13 (two (formed Shorthand (n Property 2 3 (two (id "a" 2) (id "a" 2)))) (n RestElement 5 12 (one (id "eval" 8))))) (id "b" 16))))))) ≡ (1, 8) ∷ []
unfolding computing
eval_as_rest = refl

-- `[eval = 1] = a`
pub eval_with_default : errors (n Program 0 14 (one (n ExpressionStatement 0 14 (one (t AssignmentExpression "=" 0 14 (two (n ArrayPattern 0 10 (one (n AssignmentPattern 1 9 (two (id "eval" 1) (t Literal "1" 8 9 none))))) (id "a" 13))))))) ≡ (1, 1) ∷ []
unfolding computing
eval_with_default = refl

-- `({eval = 1} = a)`
pub eval_in_shorthand : errors (n Program 0 16 (one (n ExpressionStatement 0 16 (one (t AssignmentExpression "=" 1 15 (two (n ObjectPattern 1 11 (one (formed Shorthand (n Property 2 10 (two (id "eval" 2) (n AssignmentPattern 2 10 (two (id "eval" 2) (t Literal "1" 9 10 none)))))))) (id "a" 14))))))) ≡ (1, 2) ∷ []
unfolding computing
eval_in_shorthand = refl

-- `({a: eval} = b)`
pub eval_as_value : errors (n Program 0 15 (one (n ExpressionStatement 0 15 (one (t AssignmentExpression "=" 1 14 (two (n ObjectPattern 1 10 (one (n Property 2 9 (two (id "a" 2) (id "eval" 5))))) (id "b" 13))))))) ≡ (1, 5) ∷ []
unfolding computing
eval_as_value = refl

-- `({eval: a} = b)`
pub eval_as_key : errors (n Program 0 15 (one (n ExpressionStatement 0 15 (one (t AssignmentExpression "=" 1 14 (two (n ObjectPattern 1 10 (one (n Property 2 9 (two (id "eval" 2) (id "a" 8))))) (id "b" 13))))))) ≡ []
unfolding computing
eval_as_key = refl

-- `eval++`
pub eval_counted : errors (n Program 0 6 (one (n ExpressionStatement 0 6 (one (t UpdateExpression "++" 0 6 (one (id "eval" 0))))))) ≡ (1, 0) ∷ []
unfolding computing
eval_counted = refl

-- `for (arguments of a);`
pub arguments_as_head : errors (n Program 0 21 (one (n ForOfStatement 0 21 (three (id "arguments" 5) (id "a" 18) (n EmptyStatement 20 21 none))))) ≡ (1, 5) ∷ []
unfolding computing
arguments_as_head = refl

-- `for (eval in a);`
pub eval_as_head : errors (n Program 0 16 (one (n ForInStatement 0 16 (three (id "eval" 5) (id "a" 13) (n EmptyStatement 15 16 none))))) ≡ (1, 5) ∷ []
unfolding computing
eval_as_head = refl

-- `function f(eval) {}`
pub eval_parameter : errors (n Program 0 19 (one (n FunctionDeclaration 0 19 (three (id "f" 9) (id "eval" 11) (n BlockStatement 17 19 none))))) ≡ (1, 11) ∷ []
unfolding computing
eval_parameter = refl

-- `function arguments() {}`
pub arguments_function : errors (n Program 0 23 (one (n FunctionDeclaration 0 23 (two (id "arguments" 9) (n BlockStatement 21 23 none))))) ≡ (1, 9) ∷ []
unfolding computing
arguments_function = refl

-- `(function eval(a, arguments) {})`
abbrev pub eval_function_tree : Tree
eval_function_tree = n Program 0 32 (one (n ExpressionStatement 0 32 (one (n FunctionExpression 1 31 (part (id "eval" 10) (three (id "a" 15) (id "arguments" 18) (n BlockStatement 29 31 none)))))))

pub eval_function : errors eval_function_tree ≡ (1, 10) ∷ (1, 18) ∷ []
unfolding computing
eval_function = refl

pub eval_function_least : least_error eval_function_tree ≡ Some (1, 10)
unfolding computing
eval_function_least = refl

-- `eval => a`
pub eval_arrow : errors (n Program 0 9 (one (n ExpressionStatement 0 9 (one (short (n ArrowFunctionExpression 0 9 (two (id "eval" 0) (id "a" 8)))))))) ≡ (1, 0) ∷ []
unfolding computing
eval_arrow = refl

-- `class arguments {}`
pub arguments_class : errors (n Program 0 18 (one (n ClassDeclaration 0 18 (part (id "arguments" 6) (gap (one (n ClassBody 16 18 none))))))) ≡ (1, 6) ∷ []
unfolding computing
arguments_class = refl

-- `(class eval {})`
pub eval_class : errors (n Program 0 15 (one (n ExpressionStatement 0 15 (one (n ClassExpression 1 14 (part (id "eval" 7) (gap (one (n ClassBody 12 14 none))))))))) ≡ (1, 7) ∷ []
unfolding computing
eval_class = refl

-- `try {} catch (eval) {}`
pub eval_caught : errors (n Program 0 22 (one (n TryStatement 0 22 (part (n BlockStatement 4 6 none) (part (n CatchClause 7 22 (two (id "eval" 14) (n BlockStatement 20 22 none))) (gap none)))))) ≡ (1, 14) ∷ []
unfolding computing
eval_caught = refl

-- `let eval; var eval`
abbrev pub eval_declared_twice_tree : Tree
eval_declared_twice_tree = n Program 0 18 (two (t VariableDeclaration "let" 0 9 (one (n VariableDeclarator 4 8 (part (id "eval" 4) (gap none))))) (t VariableDeclaration "var" 10 18 (one (n VariableDeclarator 14 18 (part (id "eval" 14) (gap none))))))

pub eval_declared_twice : errors eval_declared_twice_tree ≡ (4, 4) ∷ (1, 4) ∷ (1, 14) ∷ []
unfolding computing
eval_declared_twice = refl

pub eval_declared_twice_least : least_error eval_declared_twice_tree ≡ Some (1, 4)
unfolding computing
eval_declared_twice_least = refl

-- `delete ((x));`
pub delete_grouped : errors (n Program 0 13 (one (n ExpressionStatement 0 13 (one (t UnaryExpression "delete" 0 12 (one (id "x" 9))))))) ≡ (2, 0) ∷ []
unfolding computing
delete_grouped = refl

-- `delete (a)`
pub delete_name : errors (n Program 0 10 (one (n ExpressionStatement 0 10 (one (t UnaryExpression "delete" 0 10 (one (id "a" 8))))))) ≡ (2, 0) ∷ []
unfolding computing
delete_name = refl

-- `delete a.b`
pub delete_member : errors (n Program 0 10 (one (n ExpressionStatement 0 10 (one (t UnaryExpression "delete" 0 10 (one (n MemberExpression 7 10 (two (id "a" 7) (id "b" 9))))))))) ≡ []
unfolding computing
delete_member = refl

-- `typeof a`
pub typeof_name : errors (n Program 0 8 (one (n ExpressionStatement 0 8 (one (t UnaryExpression "typeof" 0 8 (one (id "a" 7))))))) ≡ []
unfolding computing
typeof_name = refl
