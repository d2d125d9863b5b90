-- Examples: scopes, what they declare, and what references mean.
use Rattle.std.specs.Prelude.{◌≡◌, refl, [], ◌∷◌, Some, None, codes}
use Rattle.tree.specs.declared.kind.Kind.TheVariants.{ArrayExpression, ArrayPattern, ArrowFunctionExpression, AssignmentExpression, AssignmentPattern, BinaryExpression, BlockStatement, BreakStatement, CatchClause, ClassBody, ClassDeclaration, ClassExpression, ForInStatement, ForOfStatement, ForStatement, FunctionDeclaration, FunctionExpression, LabeledStatement, MemberExpression, MetaProperty, MethodDefinition, ObjectExpression, ObjectPattern, Property, SwitchCase, SwitchStatement, TryStatement, UnaryExpression, UpdateExpression, VariableDeclaration, VariableDeclarator}
use Rattle.tree.specs.declared.kind.Form.TheVariants.{Method, Shorthand}
use Rattle.tree.specs.Tree.{Tree, gap, none, part}
use Rattle.scopes.specs.declared.kind.BindingKind.TheVariants.{Catch, Class, ClassName, Const, Function, FunctionName, Let, Param, Var}
use Rattle.scopes.specs.declared.identifier_use.IdentifierUse.TheVariants.{Typeof, ReadWrite, Read, Write}
use Rattle.language.proofs.examples.Trees.{computed, formed, id, lit, n, one, program, short, st, t, three, two}
use Rattle.scopes.proofs.Trees.{computing, scopes_shown, references_shown}

-- `var a = b == 1;`
abbrev var_read_tree : Tree
var_read_tree = program 15 (one (t VariableDeclaration "var" 0 15 (one (n VariableDeclarator 4 14 (two (id "a" 4) (t BinaryExpression "==" 8 14 (two (id "b" 8) (lit "1" 13))))))))

pub var_read_scopes : scopes_shown var_read_tree ≡ (None, (codes "a", Var, 4) ∷ []) ∷ []
unfolding computing
var_read_scopes = refl

pub var_read_references : references_shown var_read_tree ≡ (8, 0, Read, None) ∷ []
unfolding computing
var_read_references = refl

-- `let x = (1); x; { let x = 2; x = 3; }`
abbrev inner_let_tree : Tree
inner_let_tree = program 37 (three (t VariableDeclaration "let" 0 12 (one (n VariableDeclarator 4 11 (two (id "x" 4) (lit "1" 9))))) (st 13 15 (id "x" 13)) (n BlockStatement 16 37 (two (t VariableDeclaration "let" 18 28 (one (n VariableDeclarator 22 27 (two (id "x" 22) (lit "2" 26))))) (st 29 35 (t AssignmentExpression "=" 29 34 (two (id "x" 29) (lit "3" 33)))))))

pub inner_let_scopes : scopes_shown inner_let_tree ≡ (None, (codes "x", Let, 4) ∷ []) ∷ (Some 0, (codes "x", Let, 22) ∷ []) ∷ []
unfolding computing
inner_let_scopes = refl

pub inner_let_references : references_shown inner_let_tree ≡ (13, 0, Read, Some (0, 0)) ∷ (29, 1, Write, Some (1, 0)) ∷ []
unfolding computing
inner_let_references = refl

-- `(function f() { f; });`
abbrev named_function_tree : Tree
named_function_tree = program 22 (one (st 0 22 (n FunctionExpression 1 20 (two (id "f" 10) (n BlockStatement 14 20 (one (st 16 18 (id "f" 16))))))))

pub named_function_scopes : scopes_shown named_function_tree ≡ (None, []) ∷ (Some 0, (codes "f", FunctionName, 10) ∷ []) ∷ (Some 1, []) ∷ []
unfolding computing
named_function_scopes = refl

pub named_function_references : references_shown named_function_tree ≡ (16, 2, Read, Some (1, 0)) ∷ []
unfolding computing
named_function_references = refl

-- `typeof a; typeof b.c;`
abbrev of_typeof_tree : Tree
of_typeof_tree = program 21 (two (st 0 9 (t UnaryExpression "typeof" 0 8 (one (id "a" 7)))) (st 10 21 (t UnaryExpression "typeof" 10 20 (one (n MemberExpression 17 20 (two (id "b" 17) (id "c" 19)))))))

pub of_typeof_scopes : scopes_shown of_typeof_tree ≡ (None, []) ∷ []
unfolding computing
of_typeof_scopes = refl

pub of_typeof_references : references_shown of_typeof_tree ≡ (7, 0, Typeof, None) ∷ (17, 0, Read, None) ∷ []
unfolding computing
of_typeof_references = refl

-- `let _a = 1; for (const b of []) { }`
abbrev heads_tree : Tree
heads_tree = program 35 (two (t VariableDeclaration "let" 0 11 (one (n VariableDeclarator 4 10 (two (id "_a" 4) (lit "1" 9))))) (n ForOfStatement 12 35 (three (t VariableDeclaration "const" 17 24 (one (n VariableDeclarator 23 24 (part (id "b" 23) (gap none))))) (n ArrayExpression 28 30 none) (n BlockStatement 32 35 none))))

pub heads_scopes : scopes_shown heads_tree ≡ (None, (codes "_a", Let, 4) ∷ []) ∷ (Some 0, (codes "b", Const, 23) ∷ []) ∷ (Some 1, []) ∷ []
unfolding computing
heads_scopes = refl

pub heads_references : references_shown heads_tree ≡ []
unfolding computing
heads_references = refl

-- `function f(a = () => b, b) { var b }`
abbrev defaults_tree : Tree
defaults_tree = program 36 (one (n FunctionDeclaration 0 36 (part (id "f" 9) (three (n AssignmentPattern 11 22 (two (id "a" 11) (short (n ArrowFunctionExpression 15 22 (one (id "b" 21)))))) (id "b" 24) (n BlockStatement 27 36 (one (t VariableDeclaration "var" 29 34 (one (n VariableDeclarator 33 34 (part (id "b" 33) (gap none)))))))))))

pub defaults_scopes : scopes_shown defaults_tree ≡ (None, (codes "f", Function, 9) ∷ []) ∷ (Some 0, (codes "a", Param, 11) ∷ (codes "b", Param, 24) ∷ []) ∷ (Some 1, []) ∷ []
unfolding computing
defaults_scopes = refl

pub defaults_references : references_shown defaults_tree ≡ (21, 2, Read, Some (1, 1)) ∷ []
unfolding computing
defaults_references = refl

-- `switch (() => a) { case 1: let a; a }`
abbrev switch_head_tree : Tree
switch_head_tree = program 37 (one (n SwitchStatement 0 37 (two (short (n ArrowFunctionExpression 8 15 (one (id "a" 14)))) (n SwitchCase 19 35 (three (lit "1" 24) (t VariableDeclaration "let" 27 33 (one (n VariableDeclarator 31 32 (part (id "a" 31) (gap none))))) (st 34 35 (id "a" 34)))))))

pub switch_head_scopes : scopes_shown switch_head_tree ≡ (None, []) ∷ (Some 0, []) ∷ (Some 0, (codes "a", Let, 31) ∷ []) ∷ []
unfolding computing
switch_head_scopes = refl

pub switch_head_references : references_shown switch_head_tree ≡ (14, 1, Read, None) ∷ (34, 2, Read, Some (2, 0)) ∷ []
unfolding computing
switch_head_references = refl

-- `class A extends A { m() { A } }`
abbrev class_name_tree : Tree
class_name_tree = program 31 (one (n ClassDeclaration 0 31 (three (id "A" 6) (id "A" 16) (n ClassBody 18 31 (one (formed Method (n MethodDefinition 20 29 (two (id "m" 20) (n FunctionExpression 21 29 (gap (one (n BlockStatement 24 29 (one (st 26 27 (id "A" 26)))))))))))))))

pub class_name_scopes : scopes_shown class_name_tree ≡ (None, (codes "A", Class, 6) ∷ []) ∷ (Some 0, (codes "A", ClassName, 6) ∷ []) ∷ (Some 1, []) ∷ []
unfolding computing
class_name_scopes = refl

pub class_name_references : references_shown class_name_tree ≡ (16, 1, Read, Some (1, 0)) ∷ (26, 2, Read, Some (1, 0)) ∷ []
unfolding computing
class_name_references = refl

-- `(class A extends A {})`
abbrev class_expression_tree : Tree
class_expression_tree = program 22 (one (st 0 22 (n ClassExpression 1 21 (three (id "A" 7) (id "A" 17) (n ClassBody 19 21 none)))))

pub class_expression_scopes : scopes_shown class_expression_tree ≡ (None, []) ∷ (Some 0, (codes "A", ClassName, 7) ∷ []) ∷ []
unfolding computing
class_expression_scopes = refl

pub class_expression_references : references_shown class_expression_tree ≡ (17, 1, Read, Some (1, 0)) ∷ []
unfolding computing
class_expression_references = refl

-- `try {} catch (e) { let f = e; }`
abbrev catch_parameter_tree : Tree
catch_parameter_tree = program 31 (one (n TryStatement 0 31 (part (n BlockStatement 4 6 none) (part (n CatchClause 7 31 (two (id "e" 14) (n BlockStatement 17 31 (one (t VariableDeclaration "let" 19 29 (one (n VariableDeclarator 23 28 (two (id "f" 23) (id "e" 27))))))))) (gap none)))))

pub catch_parameter_scopes : scopes_shown catch_parameter_tree ≡ (None, []) ∷ (Some 0, []) ∷ (Some 0, (codes "e", Catch, 14) ∷ []) ∷ (Some 2, (codes "f", Let, 23) ∷ []) ∷ []
unfolding computing
catch_parameter_scopes = refl

pub catch_parameter_references : references_shown catch_parameter_tree ≡ (27, 3, Read, Some (2, 0)) ∷ []
unfolding computing
catch_parameter_references = refl

-- `for (let i = 0; i; i++) { let i; }`
abbrev plain_for_tree : Tree
plain_for_tree = program 34 (one (n ForStatement 0 34 (part (t VariableDeclaration "let" 5 14 (one (n VariableDeclarator 9 14 (two (id "i" 9) (lit "0" 13))))) (three (id "i" 16) (t UpdateExpression "++" 19 22 (one (id "i" 19))) (n BlockStatement 24 34 (one (t VariableDeclaration "let" 26 32 (one (n VariableDeclarator 30 31 (part (id "i" 30) (gap none)))))))))))

pub plain_for_scopes : scopes_shown plain_for_tree ≡ (None, []) ∷ (Some 0, (codes "i", Let, 9) ∷ []) ∷ (Some 1, (codes "i", Let, 30) ∷ []) ∷ []
unfolding computing
plain_for_scopes = refl

pub plain_for_references : references_shown plain_for_tree ≡ (16, 1, Read, Some (1, 0)) ∷ (19, 1, ReadWrite, Some (1, 0)) ∷ []
unfolding computing
plain_for_references = refl

-- `for (x of y) z;`
abbrev for_of_target_tree : Tree
for_of_target_tree = program 15 (one (n ForOfStatement 0 15 (three (id "x" 5) (id "y" 10) (st 13 15 (id "z" 13)))))

pub for_of_target_scopes : scopes_shown for_of_target_tree ≡ (None, []) ∷ []
unfolding computing
for_of_target_scopes = refl

pub for_of_target_references : references_shown for_of_target_tree ≡ (5, 0, Write, None) ∷ (10, 0, Read, None) ∷ (13, 0, Read, None) ∷ []
unfolding computing
for_of_target_references = refl

-- `for (let i in i) i;`
abbrev for_in_head_tree : Tree
for_in_head_tree = program 19 (one (n ForInStatement 0 19 (three (t VariableDeclaration "let" 5 10 (one (n VariableDeclarator 9 10 (part (id "i" 9) (gap none))))) (id "i" 14) (st 17 19 (id "i" 17)))))

pub for_in_head_scopes : scopes_shown for_in_head_tree ≡ (None, []) ∷ (Some 0, (codes "i", Let, 9) ∷ []) ∷ []
unfolding computing
for_in_head_scopes = refl

pub for_in_head_references : references_shown for_in_head_tree ≡ (14, 1, Read, Some (1, 0)) ∷ (17, 1, Read, Some (1, 0)) ∷ []
unfolding computing
for_in_head_references = refl

-- `[a, b.c, {d}] = e`
abbrev patterns_tree : Tree
patterns_tree = program 17 (one (st 0 17 (t AssignmentExpression "=" 0 17 (two (n ArrayPattern 0 13 (three (id "a" 1) (n MemberExpression 4 7 (two (id "b" 4) (id "c" 6))) (n ObjectPattern 9 12 (one (formed Shorthand (n Property 10 11 (two (id "d" 10) (id "d" 10)))))))) (id "e" 16)))))

pub patterns_scopes : scopes_shown patterns_tree ≡ (None, []) ∷ []
unfolding computing
patterns_scopes = refl

pub patterns_references : references_shown patterns_tree ≡ (1, 0, Write, None) ∷ (4, 0, Read, None) ∷ (10, 0, Write, None) ∷ (16, 0, Read, None) ∷ []
unfolding computing
patterns_references = refl

-- `({a, b: a, [a]: a}); ({a = a} = a)`
abbrev shorthand_tree : Tree
shorthand_tree = program 34 (two (st 0 20 (n ObjectExpression 1 18 (three (formed Shorthand (n Property 2 3 (two (id "a" 2) (id "a" 2)))) (n Property 5 9 (two (id "b" 5) (id "a" 8))) (computed (n Property 11 17 (two (id "a" 12) (id "a" 16))))))) (st 21 34 (t AssignmentExpression "=" 22 33 (two (n ObjectPattern 22 29 (one (formed Shorthand (n Property 23 28 (two (id "a" 23) (n AssignmentPattern 23 28 (two (id "a" 23) (id "a" 27)))))))) (id "a" 32)))))

pub shorthand_scopes : scopes_shown shorthand_tree ≡ (None, []) ∷ []
unfolding computing
shorthand_scopes = refl

pub shorthand_references : references_shown shorthand_tree ≡ (2, 0, Read, None) ∷ (8, 0, Read, None) ∷ (12, 0, Read, None) ∷ (16, 0, Read, None) ∷ (23, 0, Write, None) ∷ (27, 0, Read, None) ∷ (32, 0, Read, None) ∷ []
unfolding computing
shorthand_references = refl

-- `arguments; function f(a = arguments) { () => arguments }`
abbrev own_arguments_tree : Tree
own_arguments_tree = program 56 (two (st 0 10 (id "arguments" 0)) (n FunctionDeclaration 11 56 (three (id "f" 20) (n AssignmentPattern 22 35 (two (id "a" 22) (id "arguments" 26))) (n BlockStatement 37 56 (one (st 39 54 (short (n ArrowFunctionExpression 39 54 (one (id "arguments" 45))))))))))

pub own_arguments_scopes : scopes_shown own_arguments_tree ≡ (None, (codes "f", Function, 20) ∷ []) ∷ (Some 0, (codes "a", Param, 22) ∷ []) ∷ (Some 1, []) ∷ []
unfolding computing
own_arguments_scopes = refl

pub own_arguments_references : references_shown own_arguments_tree ≡ (0, 0, Read, None) ∷ []
unfolding computing
own_arguments_references = refl

-- `({[arguments]: 1, m() { arguments }})`
abbrev method_key_tree : Tree
method_key_tree = program 37 (one (st 0 37 (n ObjectExpression 1 36 (two (computed (n Property 2 16 (two (id "arguments" 3) (lit "1" 15)))) (formed Method (n Property 18 35 (two (id "m" 18) (n FunctionExpression 19 35 (gap (one (n BlockStatement 22 35 (one (st 24 33 (id "arguments" 24))))))))))))))

pub method_key_scopes : scopes_shown method_key_tree ≡ (None, []) ∷ (Some 0, []) ∷ []
unfolding computing
method_key_scopes = refl

pub method_key_references : references_shown method_key_tree ≡ (3, 0, Read, None) ∷ []
unfolding computing
method_key_references = refl

-- `a: for (;;) { break a }`
abbrev labels_tree : Tree
labels_tree = program 23 (one (n LabeledStatement 0 23 (two (id "a" 0) (n ForStatement 3 23 (gap (gap (gap (one (n BlockStatement 12 23 (one (n BreakStatement 14 21 (one (id "a" 20)))))))))))))

pub labels_scopes : scopes_shown labels_tree ≡ (None, []) ∷ (Some 0, []) ∷ []
unfolding computing
labels_scopes = refl

pub labels_references : references_shown labels_tree ≡ []
unfolding computing
labels_references = refl

-- `a += b; a++; a = b`
abbrev compound_tree : Tree
compound_tree = program 18 (three (st 0 7 (t AssignmentExpression "+=" 0 6 (two (id "a" 0) (id "b" 5)))) (st 8 12 (t UpdateExpression "++" 8 11 (one (id "a" 8)))) (st 13 18 (t AssignmentExpression "=" 13 18 (two (id "a" 13) (id "b" 17)))))

pub compound_scopes : scopes_shown compound_tree ≡ (None, []) ∷ []
unfolding computing
compound_scopes = refl

pub compound_references : references_shown compound_tree ≡ (0, 0, ReadWrite, None) ∷ (5, 0, Read, None) ∷ (8, 0, ReadWrite, None) ∷ (13, 0, Write, None) ∷ (17, 0, Read, None) ∷ []
unfolding computing
compound_references = refl

-- `{ { var a } let a; a } a`
abbrev var_depth_tree : Tree
var_depth_tree = program 24 (two (n BlockStatement 0 22 (three (n BlockStatement 2 11 (one (t VariableDeclaration "var" 4 9 (one (n VariableDeclarator 8 9 (part (id "a" 8) (gap none))))))) (t VariableDeclaration "let" 12 18 (one (n VariableDeclarator 16 17 (part (id "a" 16) (gap none))))) (st 19 20 (id "a" 19)))) (st 23 24 (id "a" 23)))

pub var_depth_scopes : scopes_shown var_depth_tree ≡ (None, (codes "a", Var, 8) ∷ []) ∷ (Some 0, (codes "a", Let, 16) ∷ []) ∷ (Some 1, []) ∷ []
unfolding computing
var_depth_scopes = refl

pub var_depth_references : references_shown var_depth_tree ≡ (19, 1, Read, Some (1, 0)) ∷ (23, 0, Read, Some (0, 0)) ∷ []
unfolding computing
var_depth_references = refl

-- `var a; function a() {}`
abbrev function_twice_tree : Tree
function_twice_tree = program 22 (two (t VariableDeclaration "var" 0 6 (one (n VariableDeclarator 4 5 (part (id "a" 4) (gap none))))) (n FunctionDeclaration 7 22 (two (id "a" 16) (n BlockStatement 20 22 none))))

pub function_twice_scopes : scopes_shown function_twice_tree ≡ (None, (codes "a", Var, 4) ∷ []) ∷ (Some 0, []) ∷ []
unfolding computing
function_twice_scopes = refl

pub function_twice_references : references_shown function_twice_tree ≡ []
unfolding computing
function_twice_references = refl

-- `{ function f() {} f } f`
abbrev in_block_tree : Tree
in_block_tree = program 23 (two (n BlockStatement 0 21 (two (n FunctionDeclaration 2 17 (two (id "f" 11) (n BlockStatement 15 17 none))) (st 18 19 (id "f" 18)))) (st 22 23 (id "f" 22)))

pub in_block_scopes : scopes_shown in_block_tree ≡ (None, []) ∷ (Some 0, (codes "f", Function, 11) ∷ []) ∷ (Some 1, []) ∷ []
unfolding computing
in_block_scopes = refl

pub in_block_references : references_shown in_block_tree ≡ (18, 1, Read, Some (1, 0)) ∷ (22, 0, Read, None) ∷ []
unfolding computing
in_block_references = refl

-- `(function f(f) { f })`
abbrev self_and_param_tree : Tree
self_and_param_tree = program 21 (one (st 0 21 (n FunctionExpression 1 20 (three (id "f" 10) (id "f" 12) (n BlockStatement 15 20 (one (st 17 18 (id "f" 17))))))))

pub self_and_param_scopes : scopes_shown self_and_param_tree ≡ (None, []) ∷ (Some 0, (codes "f", FunctionName, 10) ∷ []) ∷ (Some 1, (codes "f", Param, 12) ∷ []) ∷ []
unfolding computing
self_and_param_scopes = refl

pub self_and_param_references : references_shown self_and_param_tree ≡ (17, 2, Read, Some (2, 0)) ∷ []
unfolding computing
self_and_param_references = refl

-- `x => x`
abbrev arrow_body_tree : Tree
arrow_body_tree = program 6 (one (st 0 6 (short (n ArrowFunctionExpression 0 6 (two (id "x" 0) (id "x" 5))))))

pub arrow_body_scopes : scopes_shown arrow_body_tree ≡ (None, []) ∷ (Some 0, (codes "x", Param, 0) ∷ []) ∷ []
unfolding computing
arrow_body_scopes = refl

pub arrow_body_references : references_shown arrow_body_tree ≡ (5, 1, Read, Some (1, 0)) ∷ []
unfolding computing
arrow_body_references = refl

-- `function f() { new.target }`
abbrev meta_tree : Tree
meta_tree = program 27 (one (n FunctionDeclaration 0 27 (two (id "f" 9) (n BlockStatement 13 27 (one (st 15 25 (n MetaProperty 15 25 (two (id "new" 15) (id "target" 19)))))))))

pub meta_scopes : scopes_shown meta_tree ≡ (None, (codes "f", Function, 9) ∷ []) ∷ (Some 0, []) ∷ []
unfolding computing
meta_scopes = refl

pub meta_references : references_shown meta_tree ≡ []
unfolding computing
meta_references = refl

-- `a &&= b; c ||= d; e ??= f`
abbrev logical_assignment_tree : Tree
logical_assignment_tree = program 25 (three (st 0 8 (t AssignmentExpression "&&=" 0 7 (two (id "a" 0) (id "b" 6)))) (st 9 17 (t AssignmentExpression "||=" 9 16 (two (id "c" 9) (id "d" 15)))) (st 18 25 (t AssignmentExpression "??=" 18 25 (two (id "e" 18) (id "f" 24)))))

pub logical_assignment_scopes : scopes_shown logical_assignment_tree ≡ (None, []) ∷ []
unfolding computing
logical_assignment_scopes = refl

pub logical_assignment_references : references_shown logical_assignment_tree ≡ (0, 0, ReadWrite, None) ∷ (6, 0, Read, None) ∷ (9, 0, ReadWrite, None) ∷ (15, 0, Read, None) ∷ (18, 0, ReadWrite, None) ∷ (24, 0, Read, None) ∷ []
unfolding computing
logical_assignment_references = refl

-- `switch (a) { case 1: let a; function f() {} case a: f }`
abbrev cases_tree : Tree
cases_tree = program 55 (one (n SwitchStatement 0 55 (three (id "a" 8) (n SwitchCase 13 43 (three (lit "1" 18) (t VariableDeclaration "let" 21 27 (one (n VariableDeclarator 25 26 (part (id "a" 25) (gap none))))) (n FunctionDeclaration 28 43 (two (id "f" 37) (n BlockStatement 41 43 none))))) (n SwitchCase 44 53 (two (id "a" 49) (st 52 53 (id "f" 52)))))))

pub cases_scopes : scopes_shown cases_tree ≡ (None, []) ∷ (Some 0, (codes "a", Let, 25) ∷ (codes "f", Function, 37) ∷ []) ∷ (Some 1, []) ∷ []
unfolding computing
cases_scopes = refl

pub cases_references : references_shown cases_tree ≡ (8, 0, Read, None) ∷ (49, 1, Read, Some (1, 0)) ∷ (52, 1, Read, Some (1, 1)) ∷ []
unfolding computing
cases_references = refl

-- `for (let i of i) { () => i; }`
abbrev captured_tree : Tree
captured_tree = program 29 (one (n ForOfStatement 0 29 (three (t VariableDeclaration "let" 5 10 (one (n VariableDeclarator 9 10 (part (id "i" 9) (gap none))))) (id "i" 14) (n BlockStatement 17 29 (one (st 19 27 (short (n ArrowFunctionExpression 19 26 (one (id "i" 25))))))))))

pub captured_scopes : scopes_shown captured_tree ≡ (None, []) ∷ (Some 0, (codes "i", Let, 9) ∷ []) ∷ (Some 1, []) ∷ (Some 2, []) ∷ []
unfolding computing
captured_scopes = refl

pub captured_references : references_shown captured_tree ≡ (14, 1, Read, Some (1, 0)) ∷ (25, 3, Read, Some (1, 0)) ∷ []
unfolding computing
captured_references = refl

-- `({a}); [b = a, {a: c}] = []; function f({a, b = a}) {}`
abbrev shorthands_tree : Tree
shorthands_tree = program 54 (three (st 0 6 (n ObjectExpression 1 4 (one (formed Shorthand (n Property 2 3 (two (id "a" 2) (id "a" 2))))))) (st 7 28 (t AssignmentExpression "=" 7 27 (two (n ArrayPattern 7 22 (two (n AssignmentPattern 8 13 (two (id "b" 8) (id "a" 12))) (n ObjectPattern 15 21 (one (n Property 16 20 (two (id "a" 16) (id "c" 19))))))) (n ArrayExpression 25 27 none)))) (n FunctionDeclaration 29 54 (three (id "f" 38) (n ObjectPattern 40 50 (two (formed Shorthand (n Property 41 42 (two (id "a" 41) (id "a" 41)))) (formed Shorthand (n Property 44 49 (two (id "b" 44) (n AssignmentPattern 44 49 (two (id "b" 44) (id "a" 48)))))))) (n BlockStatement 52 54 none))))

pub shorthands_scopes : scopes_shown shorthands_tree ≡ (None, (codes "f", Function, 38) ∷ []) ∷ (Some 0, (codes "a", Param, 41) ∷ (codes "b", Param, 44) ∷ []) ∷ []
unfolding computing
shorthands_scopes = refl

pub shorthands_references : references_shown shorthands_tree ≡ (2, 0, Read, None) ∷ (8, 0, Write, None) ∷ (12, 0, Read, None) ∷ (19, 0, Write, None) ∷ (48, 1, Read, Some (1, 0)) ∷ []
unfolding computing
shorthands_references = refl
