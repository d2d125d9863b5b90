-- Examples: `super` and `new.target`.
use Rattle.std.specs.Prelude.{◌≡◌, refl, [], ◌∷◌}
use Rattle.tree.specs.declared.kind.Kind.TheVariants.{ArrowFunctionExpression, AssignmentPattern, BlockStatement, CallExpression, ClassBody, ClassDeclaration, ClassExpression, ExpressionStatement, FunctionDeclaration, FunctionExpression, MemberExpression, MetaProperty, MethodDefinition, ObjectExpression, Program, Property, ReturnStatement, Super}
use Rattle.tree.specs.declared.kind.Form.TheVariants.{Constructor, Get, Method, Set}
use Rattle.tree.specs.Tree.{gap, none, part}
use Rattle.early_errors.specs.Early.{errors}
use Rattle.language.proofs.examples.Trees.{computed, formed, id, n, one, short, static_one, three, two}
use Rattle.early_errors.proofs.Trees.{computing}

-- `super.a`
pub super_property : errors (n Program 0 7 (one (n ExpressionStatement 0 7 (one (n MemberExpression 0 7 (two (n Super 0 5 none) (id "a" 6))))))) ≡ (14, 0) ∷ []
unfolding computing
super_property = refl

-- `({ m() { super.a } })`
pub super_property_in_method : errors (n Program 0 21 (one (n ExpressionStatement 0 21 (one (n ObjectExpression 1 20 (one (formed Method (n Property 3 18 (two (id "m" 3) (n FunctionExpression 4 18 (gap (one (n BlockStatement 7 18 (one (n ExpressionStatement 9 16 (one (n MemberExpression 9 16 (two (n Super 9 14 none) (id "a" 15))))))))))))))))))) ≡ []
unfolding computing
super_property_in_method = refl

-- `({ get a() { return super[b] } })`
pub super_property_in_getter : errors (n Program 0 33 (one (n ExpressionStatement 0 33 (one (n ObjectExpression 1 32 (one (formed Get (n Property 3 30 (two (id "a" 7) (n FunctionExpression 8 30 (gap (one (n BlockStatement 11 30 (one (n ReturnStatement 13 28 (one (computed (n MemberExpression 20 28 (two (n Super 20 25 none) (id "b" 26)))))))))))))))))))) ≡ []
unfolding computing
super_property_in_getter = refl

-- `({ m() { () => super.a } })`
pub super_property_in_arrow : errors (n Program 0 27 (one (n ExpressionStatement 0 27 (one (n ObjectExpression 1 26 (one (formed Method (n Property 3 24 (two (id "m" 3) (n FunctionExpression 4 24 (gap (one (n BlockStatement 7 24 (one (n ExpressionStatement 9 22 (one (short (n ArrowFunctionExpression 9 22 (one (n MemberExpression 15 22 (two (n Super 15 20 none) (id "a" 21)))))))))))))))))))))) ≡ []
unfolding computing
super_property_in_arrow = refl

-- `({ m(a = super.b) {} })`
pub super_property_in_parameter : errors (n Program 0 23 (one (n ExpressionStatement 0 23 (one (n ObjectExpression 1 22 (one (formed Method (n Property 3 20 (two (id "m" 3) (n FunctionExpression 4 20 (gap (two (n AssignmentPattern 5 16 (two (id "a" 5) (n MemberExpression 9 16 (two (n Super 9 14 none) (id "b" 15))))) (n BlockStatement 18 20 none))))))))))))) ≡ []
unfolding computing
super_property_in_parameter = refl

-- `({ m() { (function () { super.a }) } })`
pub super_property_in_function : errors (n Program 0 39 (one (n ExpressionStatement 0 39 (one (n ObjectExpression 1 38 (one (formed Method (n Property 3 36 (two (id "m" 3) (n FunctionExpression 4 36 (gap (one (n BlockStatement 7 36 (one (n ExpressionStatement 9 34 (one (n FunctionExpression 10 33 (gap (one (n BlockStatement 22 33 (one (n ExpressionStatement 24 31 (one (n MemberExpression 24 31 (two (n Super 24 29 none) (id "a" 30)))))))))))))))))))))))))) ≡ (14, 24) ∷ []
unfolding computing
super_property_in_function = refl

-- `({ m: function () { super.a } })`
pub super_property_in_value : errors (n Program 0 32 (one (n ExpressionStatement 0 32 (one (n ObjectExpression 1 31 (one (n Property 3 29 (two (id "m" 3) (n FunctionExpression 6 29 (gap (one (n BlockStatement 18 29 (one (n ExpressionStatement 20 27 (one (n MemberExpression 20 27 (two (n Super 20 25 none) (id "a" 26)))))))))))))))))) ≡ (14, 20) ∷ []
unfolding computing
super_property_in_value = refl

-- `class A { [super.a]() {} }`
pub super_property_in_key : errors (n Program 0 26 (one (n ClassDeclaration 0 26 (part (id "A" 6) (gap (one (n ClassBody 8 26 (one (formed Method (computed (n MethodDefinition 10 24 (two (n MemberExpression 11 18 (two (n Super 11 16 none) (id "a" 17))) (n FunctionExpression 19 24 (gap (one (n BlockStatement 22 24 none)))))))))))))))) ≡ (14, 11) ∷ []
unfolding computing
super_property_in_key = refl

-- `({ get [super.a]() {} })`
pub super_property_in_getter_key : errors (n Program 0 24 (one (n ExpressionStatement 0 24 (one (n ObjectExpression 1 23 (one (formed Get (computed (n Property 3 21 (two (n MemberExpression 8 15 (two (n Super 8 13 none) (id "a" 14))) (n FunctionExpression 16 21 (gap (one (n BlockStatement 19 21 none)))))))))))))) ≡ (14, 8) ∷ []
unfolding computing
super_property_in_getter_key = refl

-- `class A extends super.b { }`
pub super_property_in_heritage : errors (n Program 0 27 (one (n ClassDeclaration 0 27 (three (id "A" 6) (n MemberExpression 16 23 (two (n Super 16 21 none) (id "b" 22))) (n ClassBody 24 27 none))))) ≡ (14, 16) ∷ []
unfolding computing
super_property_in_heritage = refl

-- `class A { static m() { super.a } }`
pub super_property_in_static : errors (n Program 0 34 (one (n ClassDeclaration 0 34 (part (id "A" 6) (gap (one (n ClassBody 8 34 (one (formed Method (static_one (n MethodDefinition 10 32 (two (id "m" 17) (n FunctionExpression 18 32 (gap (one (n BlockStatement 21 32 (one (n ExpressionStatement 23 30 (one (n MemberExpression 23 30 (two (n Super 23 28 none) (id "a" 29)))))))))))))))))))))) ≡ []
unfolding computing
super_property_in_static = refl

-- `class A { constructor() { super() } }`
pub super_call_without_heritage : errors (n Program 0 37 (one (n ClassDeclaration 0 37 (part (id "A" 6) (gap (one (n ClassBody 8 37 (one (formed Constructor (n MethodDefinition 10 35 (two (id "constructor" 10) (n FunctionExpression 21 35 (gap (one (n BlockStatement 24 35 (one (n ExpressionStatement 26 33 (one (n CallExpression 26 33 (one (n Super 26 31 none))))))))))))))))))))) ≡ (15, 26) ∷ []
unfolding computing
super_call_without_heritage = refl

-- `class A extends B { constructor() { super() } }`
pub super_call : errors (n Program 0 47 (one (n ClassDeclaration 0 47 (three (id "A" 6) (id "B" 16) (n ClassBody 18 47 (one (formed Constructor (n MethodDefinition 20 45 (two (id "constructor" 20) (n FunctionExpression 31 45 (gap (one (n BlockStatement 34 45 (one (n ExpressionStatement 36 43 (one (n CallExpression 36 43 (one (n Super 36 41 none))))))))))))))))))) ≡ []
unfolding computing
super_call = refl

-- `(class extends B { constructor() { super() } })`
pub super_call_in_expression : errors (n Program 0 47 (one (n ExpressionStatement 0 47 (one (n ClassExpression 1 46 (gap (two (id "B" 15) (n ClassBody 17 46 (one (formed Constructor (n MethodDefinition 19 44 (two (id "constructor" 19) (n FunctionExpression 30 44 (gap (one (n BlockStatement 33 44 (one (n ExpressionStatement 35 42 (one (n CallExpression 35 42 (one (n Super 35 40 none)))))))))))))))))))))) ≡ []
unfolding computing
super_call_in_expression = refl

-- `class A extends B { constructor() { (class { constructor() { super() } }) } }`
pub super_call_in_inner_class : errors (n Program 0 77 (one (n ClassDeclaration 0 77 (three (id "A" 6) (id "B" 16) (n ClassBody 18 77 (one (formed Constructor (n MethodDefinition 20 75 (two (id "constructor" 20) (n FunctionExpression 31 75 (gap (one (n BlockStatement 34 75 (one (n ExpressionStatement 36 73 (one (n ClassExpression 37 72 (gap (gap (one (n ClassBody 43 72 (one (formed Constructor (n MethodDefinition 45 70 (two (id "constructor" 45) (n FunctionExpression 56 70 (gap (one (n BlockStatement 59 70 (one (n ExpressionStatement 61 68 (one (n CallExpression 61 68 (one (n Super 61 66 none))))))))))))))))))))))))))))))))))) ≡ (15, 61) ∷ []
unfolding computing
super_call_in_inner_class = refl

-- `class A extends B { constructor() { () => super() } }`
pub super_call_in_arrow : errors (n Program 0 53 (one (n ClassDeclaration 0 53 (three (id "A" 6) (id "B" 16) (n ClassBody 18 53 (one (formed Constructor (n MethodDefinition 20 51 (two (id "constructor" 20) (n FunctionExpression 31 51 (gap (one (n BlockStatement 34 51 (one (n ExpressionStatement 36 49 (one (short (n ArrowFunctionExpression 36 49 (one (n CallExpression 42 49 (one (n Super 42 47 none)))))))))))))))))))))) ≡ []
unfolding computing
super_call_in_arrow = refl

-- `class A extends B { m() { super() } }`
pub super_call_in_method : errors (n Program 0 37 (one (n ClassDeclaration 0 37 (three (id "A" 6) (id "B" 16) (n ClassBody 18 37 (one (formed Method (n MethodDefinition 20 35 (two (id "m" 20) (n FunctionExpression 21 35 (gap (one (n BlockStatement 24 35 (one (n ExpressionStatement 26 33 (one (n CallExpression 26 33 (one (n Super 26 31 none))))))))))))))))))) ≡ (15, 26) ∷ []
unfolding computing
super_call_in_method = refl

-- `class A extends B { constructor() { (function () { super() }) } }`
pub super_call_in_function : errors (n Program 0 65 (one (n ClassDeclaration 0 65 (three (id "A" 6) (id "B" 16) (n ClassBody 18 65 (one (formed Constructor (n MethodDefinition 20 63 (two (id "constructor" 20) (n FunctionExpression 31 63 (gap (one (n BlockStatement 34 63 (one (n ExpressionStatement 36 61 (one (n FunctionExpression 37 60 (gap (one (n BlockStatement 49 60 (one (n ExpressionStatement 51 58 (one (n CallExpression 51 58 (one (n Super 51 56 none)))))))))))))))))))))))))) ≡ (15, 51) ∷ []
unfolding computing
super_call_in_function = refl

-- `super(a)`
pub super_call_alone : errors (n Program 0 8 (one (n ExpressionStatement 0 8 (one (n CallExpression 0 8 (two (n Super 0 5 none) (id "a" 6))))))) ≡ (15, 0) ∷ []
unfolding computing
super_call_alone = refl

-- `({ constructor() { super() } })`
pub super_call_of_object : errors (n Program 0 31 (one (n ExpressionStatement 0 31 (one (n ObjectExpression 1 30 (one (formed Method (n Property 3 28 (two (id "constructor" 3) (n FunctionExpression 14 28 (gap (one (n BlockStatement 17 28 (one (n ExpressionStatement 19 26 (one (n CallExpression 19 26 (one (n Super 19 24 none))))))))))))))))))) ≡ (15, 19) ∷ []
unfolding computing
super_call_of_object = refl

-- `() => new.target`
pub target_in_arrow : errors (n Program 0 16 (one (n ExpressionStatement 0 16 (one (short (n ArrowFunctionExpression 0 16 (one (n MetaProperty 6 16 (two (id "new" 6) (id "target" 10)))))))))) ≡ (16, 6) ∷ []
unfolding computing
target_in_arrow = refl

-- `function f() { new.target }`
pub target_in_function : errors (n Program 0 27 (one (n FunctionDeclaration 0 27 (two (id "f" 9) (n BlockStatement 13 27 (one (n ExpressionStatement 15 25 (one (n MetaProperty 15 25 (two (id "new" 15) (id "target" 19))))))))))) ≡ []
unfolding computing
target_in_function = refl

-- `function f() { () => new.target }`
pub target_in_arrow_of_function : errors (n Program 0 33 (one (n FunctionDeclaration 0 33 (two (id "f" 9) (n BlockStatement 13 33 (one (n ExpressionStatement 15 31 (one (short (n ArrowFunctionExpression 15 31 (one (n MetaProperty 21 31 (two (id "new" 21) (id "target" 25)))))))))))))) ≡ []
unfolding computing
target_in_arrow_of_function = refl

-- `({ [new.target]() {} })`
pub target_in_key : errors (n Program 0 23 (one (n ExpressionStatement 0 23 (one (n ObjectExpression 1 22 (one (formed Method (computed (n Property 3 20 (two (n MetaProperty 4 14 (two (id "new" 4) (id "target" 8))) (n FunctionExpression 15 20 (gap (one (n BlockStatement 18 20 none)))))))))))))) ≡ (16, 4) ∷ []
unfolding computing
target_in_key = refl

-- `({ set a(b) { new.target } })`
pub target_in_setter : errors (n Program 0 29 (one (n ExpressionStatement 0 29 (one (n ObjectExpression 1 28 (one (formed Set (n Property 3 26 (two (id "a" 7) (n FunctionExpression 8 26 (gap (two (id "b" 9) (n BlockStatement 12 26 (one (n ExpressionStatement 14 24 (one (n MetaProperty 14 24 (two (id "new" 14) (id "target" 18))))))))))))))))))) ≡ []
unfolding computing
target_in_setter = refl
