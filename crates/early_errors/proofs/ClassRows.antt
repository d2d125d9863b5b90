-- Examples: the members of classes.
use Rattle.std.specs.Prelude.{◌≡◌, refl, [], ◌∷◌, Some}
use Rattle.tree.specs.declared.kind.Kind.TheVariants.{BlockStatement, ClassBody, ClassDeclaration, ClassExpression, ExpressionStatement, FunctionExpression, Literal, MethodDefinition, ObjectExpression, Program, Property}
use Rattle.tree.specs.declared.kind.Form.TheVariants.{Constructor, Get, Method, Set}
use Rattle.tree.specs.Tree.{Tree, gap, none, part}
use Rattle.early_errors.specs.Early.{errors, least_error}
use Rattle.language.proofs.examples.Trees.{computed, formed, id, n, one, static_one, t, three, two}
use Rattle.early_errors.proofs.Trees.{computing}

-- `class A { constructor() {} constructor() {} }`
pub two_constructors : errors (n Program 0 45 (one (n ClassDeclaration 0 45 (part (id "A" 6) (gap (one (n ClassBody 8 45 (two (formed Constructor (n MethodDefinition 10 26 (two (id "constructor" 10) (n FunctionExpression 21 26 (gap (one (n BlockStatement 24 26 none))))))) (formed Constructor (n MethodDefinition 27 43 (two (id "constructor" 27) (n FunctionExpression 38 43 (gap (one (n BlockStatement 41 43 none))))))))))))))) ≡ (17, 27) ∷ []
unfolding computing
two_constructors = refl

-- `class A { constructor() {} 'constructor'() {} }`
pub quoted_constructor : errors (n Program 0 47 (one (n ClassDeclaration 0 47 (part (id "A" 6) (gap (one (n ClassBody 8 47 (two (formed Constructor (n MethodDefinition 10 26 (two (id "constructor" 10) (n FunctionExpression 21 26 (gap (one (n BlockStatement 24 26 none))))))) (formed Constructor (n MethodDefinition 27 45 (two (t Literal "'constructor'" 27 40 none) (n FunctionExpression 40 45 (gap (one (n BlockStatement 43 45 none))))))))))))))) ≡ (17, 27) ∷ []
unfolding computing
quoted_constructor = refl

-- `class A { constructor() {} constructor() {} constructor() {} }`
abbrev pub three_constructors_tree : Tree
three_constructors_tree = n Program 0 62 (one (n ClassDeclaration 0 62 (part (id "A" 6) (gap (one (n ClassBody 8 62 (three (formed Constructor (n MethodDefinition 10 26 (two (id "constructor" 10) (n FunctionExpression 21 26 (gap (one (n BlockStatement 24 26 none))))))) (formed Constructor (n MethodDefinition 27 43 (two (id "constructor" 27) (n FunctionExpression 38 43 (gap (one (n BlockStatement 41 43 none))))))) (formed Constructor (n MethodDefinition 44 60 (two (id "constructor" 44) (n FunctionExpression 55 60 (gap (one (n BlockStatement 58 60 none))))))))))))))

pub three_constructors : errors three_constructors_tree ≡ (17, 27) ∷ (17, 44) ∷ []
unfolding computing
three_constructors = refl

pub three_constructors_least : least_error three_constructors_tree ≡ Some (17, 27)
unfolding computing
three_constructors_least = refl

-- `class A { static constructor() {} static constructor() {} }`
pub static_constructors : errors (n Program 0 59 (one (n ClassDeclaration 0 59 (part (id "A" 6) (gap (one (n ClassBody 8 59 (two (formed Method (static_one (n MethodDefinition 10 33 (two (id "constructor" 17) (n FunctionExpression 28 33 (gap (one (n BlockStatement 31 33 none)))))))) (formed Method (static_one (n MethodDefinition 34 57 (two (id "constructor" 41) (n FunctionExpression 52 57 (gap (one (n BlockStatement 55 57 none)))))))))))))))) ≡ []
unfolding computing
static_constructors = refl

-- `class A { constructor() {} ['constructor']() {} }`
pub computed_constructor : errors (n Program 0 49 (one (n ClassDeclaration 0 49 (part (id "A" 6) (gap (one (n ClassBody 8 49 (two (formed Constructor (n MethodDefinition 10 26 (two (id "constructor" 10) (n FunctionExpression 21 26 (gap (one (n BlockStatement 24 26 none))))))) (formed Method (computed (n MethodDefinition 27 47 (two (t Literal "'constructor'" 28 41 none) (n FunctionExpression 42 47 (gap (one (n BlockStatement 45 47 none)))))))))))))))) ≡ []
unfolding computing
computed_constructor = refl

-- `class A { constructor() { (class { constructor() {} }) } }`
pub constructors_of_two : errors (n Program 0 58 (one (n ClassDeclaration 0 58 (part (id "A" 6) (gap (one (n ClassBody 8 58 (one (formed Constructor (n MethodDefinition 10 56 (two (id "constructor" 10) (n FunctionExpression 21 56 (gap (one (n BlockStatement 24 56 (one (n ExpressionStatement 26 54 (one (n ClassExpression 27 53 (gap (gap (one (n ClassBody 33 53 (one (formed Constructor (n MethodDefinition 35 51 (two (id "constructor" 35) (n FunctionExpression 46 51 (gap (one (n BlockStatement 49 51 none))))))))))))))))))))))))))))))) ≡ []
unfolding computing
constructors_of_two = refl

-- `({ constructor() {}, constructor() {} })`
pub constructors_of_object : errors (n Program 0 40 (one (n ExpressionStatement 0 40 (one (n ObjectExpression 1 39 (two (formed Method (n Property 3 19 (two (id "constructor" 3) (n FunctionExpression 14 19 (gap (one (n BlockStatement 17 19 none))))))) (formed Method (n Property 21 37 (two (id "constructor" 21) (n FunctionExpression 32 37 (gap (one (n BlockStatement 35 37 none))))))))))))) ≡ []
unfolding computing
constructors_of_object = refl

-- `class A { get constructor() {} }`
pub getter_constructor : errors (n Program 0 32 (one (n ClassDeclaration 0 32 (part (id "A" 6) (gap (one (n ClassBody 8 32 (one (formed Get (n MethodDefinition 10 30 (two (id "constructor" 14) (n FunctionExpression 25 30 (gap (one (n BlockStatement 28 30 none))))))))))))))) ≡ (18, 14) ∷ []
unfolding computing
getter_constructor = refl

-- `class A { set "constructor"(a) {} }`
pub quoted_setter_constructor : errors (n Program 0 35 (one (n ClassDeclaration 0 35 (part (id "A" 6) (gap (one (n ClassBody 8 35 (one (formed Set (n MethodDefinition 10 33 (two (t Literal "\"constructor\"" 14 27 none) (n FunctionExpression 27 33 (gap (two (id "a" 28) (n BlockStatement 31 33 none))))))))))))))) ≡ (18, 14) ∷ []
unfolding computing
quoted_setter_constructor = refl

-- `class A { get '\x63onstructor'() {} }`
pub escaped_getter_constructor : errors (n Program 0 37 (one (n ClassDeclaration 0 37 (part (id "A" 6) (gap (one (n ClassBody 8 37 (one (formed Get (n MethodDefinition 10 35 (two (t Literal "'\\x63onstructor'" 14 30 none) (n FunctionExpression 30 35 (gap (one (n BlockStatement 33 35 none))))))))))))))) ≡ (18, 14) ∷ []
unfolding computing
escaped_getter_constructor = refl

-- `class A { static 'proto\x74ype'() {} }`
pub escaped_prototype : errors (n Program 0 38 (one (n ClassDeclaration 0 38 (part (id "A" 6) (gap (one (n ClassBody 8 38 (one (formed Method (static_one (n MethodDefinition 10 36 (two (t Literal "'proto\\x74ype'" 17 31 none) (n FunctionExpression 31 36 (gap (one (n BlockStatement 34 36 none)))))))))))))))) ≡ (19, 17) ∷ []
unfolding computing
escaped_prototype = refl

-- `class A { static get constructor() {} }`
pub static_getter_constructor : errors (n Program 0 39 (one (n ClassDeclaration 0 39 (part (id "A" 6) (gap (one (n ClassBody 8 39 (one (formed Get (static_one (n MethodDefinition 10 37 (two (id "constructor" 21) (n FunctionExpression 32 37 (gap (one (n BlockStatement 35 37 none)))))))))))))))) ≡ []
unfolding computing
static_getter_constructor = refl

-- `class A { get ['constructor']() {} }`
pub computed_getter_constructor : errors (n Program 0 36 (one (n ClassDeclaration 0 36 (part (id "A" 6) (gap (one (n ClassBody 8 36 (one (formed Get (computed (n MethodDefinition 10 34 (two (t Literal "'constructor'" 15 28 none) (n FunctionExpression 29 34 (gap (one (n BlockStatement 32 34 none)))))))))))))))) ≡ []
unfolding computing
computed_getter_constructor = refl

-- `({ get constructor() {} })`
pub getter_of_object : errors (n Program 0 26 (one (n ExpressionStatement 0 26 (one (n ObjectExpression 1 25 (one (formed Get (n Property 3 23 (two (id "constructor" 7) (n FunctionExpression 18 23 (gap (one (n BlockStatement 21 23 none))))))))))))) ≡ []
unfolding computing
getter_of_object = refl

-- `class A { static prototype() {} }`
pub static_prototype_method : errors (n Program 0 33 (one (n ClassDeclaration 0 33 (part (id "A" 6) (gap (one (n ClassBody 8 33 (one (formed Method (static_one (n MethodDefinition 10 31 (two (id "prototype" 17) (n FunctionExpression 26 31 (gap (one (n BlockStatement 29 31 none)))))))))))))))) ≡ (19, 17) ∷ []
unfolding computing
static_prototype_method = refl

-- `class A { static get 'prototype'() {} }`
pub static_prototype_getter : errors (n Program 0 39 (one (n ClassDeclaration 0 39 (part (id "A" 6) (gap (one (n ClassBody 8 39 (one (formed Get (static_one (n MethodDefinition 10 37 (two (t Literal "'prototype'" 21 32 none) (n FunctionExpression 32 37 (gap (one (n BlockStatement 35 37 none)))))))))))))))) ≡ (19, 21) ∷ []
unfolding computing
static_prototype_getter = refl

-- `class A { prototype() {} }`
pub own_prototype : errors (n Program 0 26 (one (n ClassDeclaration 0 26 (part (id "A" 6) (gap (one (n ClassBody 8 26 (one (formed Method (n MethodDefinition 10 24 (two (id "prototype" 10) (n FunctionExpression 19 24 (gap (one (n BlockStatement 22 24 none))))))))))))))) ≡ []
unfolding computing
own_prototype = refl

-- `class A { static ['prototype']() {} }`
pub computed_prototype : errors (n Program 0 37 (one (n ClassDeclaration 0 37 (part (id "A" 6) (gap (one (n ClassBody 8 37 (one (formed Method (static_one (computed (n MethodDefinition 10 35 (two (t Literal "'prototype'" 18 29 none) (n FunctionExpression 30 35 (gap (one (n BlockStatement 33 35 none))))))))))))))))) ≡ []
unfolding computing
computed_prototype = refl
