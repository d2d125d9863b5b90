-- Examples: classes that tokens spell, with these pairs and in this one way; and trees that they do not spell.
use Rattle.std.specs.Prelude.{◌≡◌, refl, [], ◌∷◌}
use Rattle.tree.specs.declared.kind.Kind.TheVariants.{ArrowFunctionExpression, AssignmentExpression, BlockStatement, CallExpression, ChainExpression, ClassBody, ClassDeclaration, ClassExpression, FunctionExpression, MemberExpression, MethodDefinition, SequenceExpression, Super, UpdateExpression}
use Rattle.tree.specs.declared.kind.Form.TheVariants.{Constructor, Get, Method, Set}
use Rattle.tree.specs.Tree.{gap, none, part}
use Rattle.language.proofs.examples.Sources.{tokens}
use Rattle.language.proofs.examples.Trees.{computed, computing, formed, found, id, lit, n, once, one, optional, pair, program, st, static_one, t, three, two}

pub words_as_methods : found (tokens "class A { get() {} set() {} static() {} }") (program 41 (one (n ClassDeclaration 0 41 (part (id "A" 6) (gap (one (n ClassBody 8 41 (three (formed Method (n MethodDefinition 10 18 (two (id "get" 10) (n FunctionExpression 13 18 (gap (one (n BlockStatement 16 18 none))))))) (formed Method (n MethodDefinition 19 27 (two (id "set" 19) (n FunctionExpression 22 27 (gap (one (n BlockStatement 25 27 none))))))) (formed Method (n MethodDefinition 28 39 (two (id "static" 28) (n FunctionExpression 34 39 (gap (one (n BlockStatement 37 39 none))))))))))))))) ≡ once []
unfolding computing
words_as_methods = refl

pub getter_and_semicolon : found (tokens "class A { static get b() {} ; c() {} }") (program 38 (one (n ClassDeclaration 0 38 (part (id "A" 6) (gap (one (n ClassBody 8 38 (two (formed Get (static_one (n MethodDefinition 10 27 (two (id "b" 21) (n FunctionExpression 22 27 (gap (one (n BlockStatement 25 27 none)))))))) (formed Method (n MethodDefinition 30 36 (two (id "c" 30) (n FunctionExpression 31 36 (gap (one (n BlockStatement 34 36 none))))))))))))))) ≡ once []
unfolding computing
getter_and_semicolon = refl

pub heritage : found (tokens "class A extends B {}") (program 20 (one (n ClassDeclaration 0 20 (three (id "A" 6) (id "B" 16) (n ClassBody 18 20 none))))) ≡ once []
unfolding computing
heritage = refl

pub class_in_a_group : found (tokens "(class {});") (program 11 (one (st 0 11 (n ClassExpression 1 9 (gap (gap (one (n ClassBody 7 9 none)))))))) ≡ once (pair 0 9 ∷ [])
unfolding computing
class_in_a_group = refl

pub named_class_as_value : found (tokens "a = class A {}") (program 14 (one (st 0 14 (t AssignmentExpression "=" 0 14 (two (id "a" 0) (n ClassExpression 4 14 (part (id "A" 10) (gap (one (n ClassBody 12 14 none)))))))))) ≡ once []
unfolding computing
named_class_as_value = refl

pub heritage_in_a_group : found (tokens "(class extends (a, b) {});") (program 26 (one (st 0 26 (n ClassExpression 1 24 (gap (two (n SequenceExpression 16 20 (two (id "a" 16) (id "b" 19))) (n ClassBody 22 24 none))))))) ≡ once (pair 0 24 ∷ pair 15 20 ∷ [])
unfolding computing
heritage_in_a_group = refl

pub call_as_heritage : found (tokens "class A extends b.c(d)[e] {}") (program 28 (one (n ClassDeclaration 0 28 (three (id "A" 6) (computed (n MemberExpression 16 25 (two (n CallExpression 16 22 (two (n MemberExpression 16 19 (two (id "b" 16) (id "c" 18))) (id "d" 20))) (id "e" 23)))) (n ClassBody 26 28 none))))) ≡ once []
unfolding computing
call_as_heritage = refl

pub chain_as_heritage : found (tokens "class A extends b?.c {}") (program 23 (one (n ClassDeclaration 0 23 (three (id "A" 6) (n ChainExpression 16 20 (one (optional (n MemberExpression 16 20 (two (id "b" 16) (id "c" 19)))))) (n ClassBody 21 23 none))))) ≡ once []
unfolding computing
chain_as_heritage = refl

pub constructor : found (tokens "class A { constructor() {} }") (program 28 (one (n ClassDeclaration 0 28 (part (id "A" 6) (gap (one (n ClassBody 8 28 (one (formed Constructor (n MethodDefinition 10 26 (two (id "constructor" 10) (n FunctionExpression 21 26 (gap (one (n BlockStatement 24 26 none))))))))))))))) ≡ once []
unfolding computing
constructor = refl

pub super_call : found (tokens "class A extends B { constructor() { super(a); } }") (program 49 (one (n ClassDeclaration 0 49 (three (id "A" 6) (id "B" 16) (n ClassBody 18 49 (one (formed Constructor (n MethodDefinition 20 47 (two (id "constructor" 20) (n FunctionExpression 31 47 (gap (one (n BlockStatement 34 47 (one (st 36 45 (n CallExpression 36 44 (two (n Super 36 41 none) (id "a" 42)))))))))))))))))) ≡ once []
unfolding computing
super_call = refl

pub keys : found (tokens "class A { [a]() {} 'b'() {} 1() {} set c(d) {} }") (program 48 (one (n ClassDeclaration 0 48 (part (id "A" 6) (gap (one (n ClassBody 8 48 (part (formed Method (computed (n MethodDefinition 10 18 (two (id "a" 11) (n FunctionExpression 13 18 (gap (one (n BlockStatement 16 18 none)))))))) (three (formed Method (n MethodDefinition 19 27 (two (lit "'b'" 19) (n FunctionExpression 22 27 (gap (one (n BlockStatement 25 27 none))))))) (formed Method (n MethodDefinition 28 34 (two (lit "1" 28) (n FunctionExpression 29 34 (gap (one (n BlockStatement 32 34 none))))))) (formed Set (n MethodDefinition 35 46 (two (id "c" 39) (n FunctionExpression 40 46 (gap (two (id "d" 41) (n BlockStatement 44 46 none)))))))))))))))) ≡ once []
unfolding computing
keys = refl

pub static_constructor : found (tokens "class A { static constructor() {} }") (program 35 (one (n ClassDeclaration 0 35 (part (id "A" 6) (gap (one (n ClassBody 8 35 (one (formed Method (static_one (n MethodDefinition 10 33 (two (id "constructor" 17) (n FunctionExpression 28 33 (gap (one (n BlockStatement 31 33 none)))))))))))))))) ≡ once []
unfolding computing
static_constructor = refl

pub computed_constructor : found (tokens "class A { [\"constructor\"]() {} }") (program 32 (one (n ClassDeclaration 0 32 (part (id "A" 6) (gap (one (n ClassBody 8 32 (one (formed Method (computed (n MethodDefinition 10 30 (two (lit "\"constructor\"" 11) (n FunctionExpression 25 30 (gap (one (n BlockStatement 28 30 none)))))))))))))))) ≡ once []
unfolding computing
computed_constructor = refl

pub escaped_constructor : found (tokens "class A { '\\x63onstructor'() {} }") (program 33 (one (n ClassDeclaration 0 33 (part (id "A" 6) (gap (one (n ClassBody 8 33 (one (formed Constructor (n MethodDefinition 10 31 (two (lit "'\\x63onstructor'" 10) (n FunctionExpression 26 31 (gap (one (n BlockStatement 29 31 none))))))))))))))) ≡ once []
unfolding computing
escaped_constructor = refl

pub semicolons : found (tokens "class A { ;; a() {} ;; }") (program 24 (one (n ClassDeclaration 0 24 (part (id "A" 6) (gap (one (n ClassBody 8 24 (one (formed Method (n MethodDefinition 13 19 (two (id "a" 13) (n FunctionExpression 14 19 (gap (one (n BlockStatement 17 19 none))))))))))))))) ≡ once []
unfolding computing
semicolons = refl

pub getter_named_get : found (tokens "class A { get get() {} static static() {} }") (program 43 (one (n ClassDeclaration 0 43 (part (id "A" 6) (gap (one (n ClassBody 8 43 (two (formed Get (n MethodDefinition 10 22 (two (id "get" 14) (n FunctionExpression 17 22 (gap (one (n BlockStatement 20 22 none))))))) (formed Method (static_one (n MethodDefinition 23 41 (two (id "static" 30) (n FunctionExpression 36 41 (gap (one (n BlockStatement 39 41 none)))))))))))))))) ≡ once []
unfolding computing
getter_named_get = refl

pub class_in_a_class : found (tokens "class A extends class {} { a() { class B {} } }") (program 47 (one (n ClassDeclaration 0 47 (three (id "A" 6) (n ClassExpression 16 24 (gap (gap (one (n ClassBody 22 24 none))))) (n ClassBody 25 47 (one (formed Method (n MethodDefinition 27 45 (two (id "a" 27) (n FunctionExpression 28 45 (gap (one (n BlockStatement 31 45 (one (n ClassDeclaration 33 43 (part (id "B" 39) (gap (one (n ClassBody 41 43 none))))))))))))))))))) ≡ once []
unfolding computing
class_in_a_class = refl

-- Classes that are none.

-- a field
pub field : found (tokens "class A { a = 1 }") (program 17 (one (n ClassDeclaration 0 17 (part (id "A" 6) (gap (one (n ClassBody 8 17 (one (n MethodDefinition 10 15 (two (id "a" 10) (lit "1" 14))))))))))) ≡ []
unfolding computing
field = refl

-- a comma behind `extends`
pub two_heritages : found (tokens "class A extends B, C {}") (program 23 (one (n ClassDeclaration 0 23 (three (id "A" 6) (n SequenceExpression 16 20 (two (id "B" 16) (id "C" 19))) (n ClassBody 21 23 none))))) ≡ []
unfolding computing
two_heritages = refl

-- what `++` makes behind `extends`
pub update_as_heritage : found (tokens "class A extends b++ {}") (program 22 (one (n ClassDeclaration 0 22 (three (id "A" 6) (t UpdateExpression "++" 16 19 (one (id "b" 16))) (n ClassBody 20 22 none))))) ≡ []
unfolding computing
update_as_heritage = refl

-- an arrow behind `extends`
pub arrow_as_heritage : found (tokens "class A extends () => {} {}") (program 27 (one (n ClassDeclaration 0 27 (three (id "A" 6) (n ArrowFunctionExpression 16 24 (one (n BlockStatement 22 24 none))) (n ClassBody 25 27 none))))) ≡ []
unfolding computing
arrow_as_heritage = refl

-- a declaration without a name
pub declaration_without_name : found (tokens "class {}") (program 8 (one (n ClassDeclaration 0 8 (gap (gap (one (n ClassBody 6 8 none))))))) ≡ []
unfolding computing
declaration_without_name = refl

-- a class expression as a statement
pub class_as_statement : found (tokens "class A {}") (program 10 (one (st 0 10 (n ClassExpression 0 10 (part (id "A" 6) (gap (one (n ClassBody 8 10 none)))))))) ≡ []
unfolding computing
class_as_statement = refl

-- a parameter of a getter
pub getter_with_a_parameter : found (tokens "class A { get a(b) {} }") (program 23 (one (n ClassDeclaration 0 23 (part (id "A" 6) (gap (one (n ClassBody 8 23 (one (formed Get (n MethodDefinition 10 21 (two (id "a" 14) (n FunctionExpression 15 21 (gap (two (id "b" 16) (n BlockStatement 19 21 none))))))))))))))) ≡ []
unfolding computing
getter_with_a_parameter = refl

-- a comma between methods
pub comma_between : found (tokens "class A { a() {}, b() {} }") (program 26 (one (n ClassDeclaration 0 26 (part (id "A" 6) (gap (one (n ClassBody 8 26 (two (formed Method (n MethodDefinition 10 16 (two (id "a" 10) (n FunctionExpression 11 16 (gap (one (n BlockStatement 14 16 none))))))) (formed Method (n MethodDefinition 18 24 (two (id "b" 18) (n FunctionExpression 19 24 (gap (one (n BlockStatement 22 24 none))))))))))))))) ≡ []
unfolding computing
comma_between = refl

-- a generator
pub generator_method : found (tokens "class A { *a() {} }") (program 19 (one (n ClassDeclaration 0 19 (part (id "A" 6) (gap (one (n ClassBody 8 19 (one (formed Method (n MethodDefinition 11 17 (two (id "a" 11) (n FunctionExpression 12 17 (gap (one (n BlockStatement 15 17 none))))))))))))))) ≡ []
unfolding computing
generator_method = refl

-- `super` alone
pub super_alone : found (tokens "super") (program 5 (one (st 0 5 (n Super 0 5 none)))) ≡ []
unfolding computing
super_alone = refl

-- `static` before a block
pub static_block : found (tokens "class A { static {} }") (program 21 (one (n ClassDeclaration 0 21 (part (id "A" 6) (gap (one (n ClassBody 8 21 (one (formed Method (n MethodDefinition 10 19 (two (id "static" 10) (n FunctionExpression 17 19 (gap (one (n BlockStatement 17 19 none))))))))))))))) ≡ []
unfolding computing
static_block = refl

-- Trees that differ in one thing.

-- the constructor as a method
pub constructor_as_method : found (tokens "class A { constructor() {} }") (program 28 (one (n ClassDeclaration 0 28 (part (id "A" 6) (gap (one (n ClassBody 8 28 (one (formed Method (n MethodDefinition 10 26 (two (id "constructor" 10) (n FunctionExpression 21 26 (gap (one (n BlockStatement 24 26 none))))))))))))))) ≡ []
unfolding computing
constructor_as_method = refl

-- a method as the constructor
pub method_as_constructor : found (tokens "class A { a() {} }") (program 18 (one (n ClassDeclaration 0 18 (part (id "A" 6) (gap (one (n ClassBody 8 18 (one (formed Constructor (n MethodDefinition 10 16 (two (id "a" 10) (n FunctionExpression 11 16 (gap (one (n BlockStatement 14 16 none))))))))))))))) ≡ []
unfolding computing
method_as_constructor = refl

-- a constructor with an escape as a method
pub escaped_method : found (tokens "class A { '\\x63onstructor'() {} }") (program 33 (one (n ClassDeclaration 0 33 (part (id "A" 6) (gap (one (n ClassBody 8 33 (one (formed Method (n MethodDefinition 10 31 (two (lit "'\\x63onstructor'" 10) (n FunctionExpression 26 31 (gap (one (n BlockStatement 29 31 none))))))))))))))) ≡ []
unfolding computing
escaped_method = refl

-- the flag of `static` missing
pub static_missing : found (tokens "class A { static a() {} }") (program 25 (one (n ClassDeclaration 0 25 (part (id "A" 6) (gap (one (n ClassBody 8 25 (one (formed Method (n MethodDefinition 10 23 (two (id "a" 17) (n FunctionExpression 18 23 (gap (one (n BlockStatement 21 23 none))))))))))))))) ≡ []
unfolding computing
static_missing = refl

-- the flag without its word
pub static_too_many : found (tokens "class A { a() {} }") (program 18 (one (n ClassDeclaration 0 18 (part (id "A" 6) (gap (one (n ClassBody 8 18 (one (formed Method (static_one (n MethodDefinition 10 16 (two (id "a" 10) (n FunctionExpression 11 16 (gap (one (n BlockStatement 14 16 none)))))))))))))))) ≡ []
unfolding computing
static_too_many = refl

-- the flag of the brackets missing
pub computed_missing : found (tokens "class A { [a]() {} }") (program 20 (one (n ClassDeclaration 0 20 (part (id "A" 6) (gap (one (n ClassBody 8 20 (one (formed Method (n MethodDefinition 10 18 (two (id "a" 11) (n FunctionExpression 13 18 (gap (one (n BlockStatement 16 18 none))))))))))))))) ≡ []
unfolding computing
computed_missing = refl

-- a setter for a getter
pub getter_as_setter : found (tokens "class A { get a() {} }") (program 22 (one (n ClassDeclaration 0 22 (part (id "A" 6) (gap (one (n ClassBody 8 22 (one (formed Set (n MethodDefinition 10 20 (two (id "a" 14) (n FunctionExpression 15 20 (gap (one (n BlockStatement 18 20 none))))))))))))))) ≡ []
unfolding computing
getter_as_setter = refl

-- what stands behind `extends` missing
pub heritage_missing : found (tokens "class A extends B {}") (program 20 (one (n ClassDeclaration 0 20 (part (id "A" 6) (gap (one (n ClassBody 18 20 none))))))) ≡ []
unfolding computing
heritage_missing = refl

-- a method missing
pub method_missing : found (tokens "class A { a() {} b() {} }") (program 25 (one (n ClassDeclaration 0 25 (part (id "A" 6) (gap (one (n ClassBody 8 25 (one (formed Method (n MethodDefinition 10 16 (two (id "a" 10) (n FunctionExpression 11 16 (gap (one (n BlockStatement 14 16 none))))))))))))))) ≡ []
unfolding computing
method_missing = refl

-- the methods turned about
pub methods_turned : found (tokens "class A { a() {} b() {} }") (program 25 (one (n ClassDeclaration 0 25 (part (id "A" 6) (gap (one (n ClassBody 8 25 (two (formed Method (n MethodDefinition 17 23 (two (id "b" 17) (n FunctionExpression 18 23 (gap (one (n BlockStatement 21 23 none))))))) (formed Method (n MethodDefinition 10 16 (two (id "a" 10) (n FunctionExpression 11 16 (gap (one (n BlockStatement 14 16 none))))))))))))))) ≡ []
unfolding computing
methods_turned = refl

-- the function of a method from its key on
pub function_off_by_one : found (tokens "class A { a() {} }") (program 18 (one (n ClassDeclaration 0 18 (part (id "A" 6) (gap (one (n ClassBody 8 18 (one (formed Method (n MethodDefinition 10 16 (two (id "a" 10) (n FunctionExpression 10 16 (gap (one (n BlockStatement 14 16 none))))))))))))))) ≡ []
unfolding computing
function_off_by_one = refl

-- a method with the `;` behind it
pub method_with_its_semicolon : found (tokens "class A { a() {}; }") (program 19 (one (n ClassDeclaration 0 19 (part (id "A" 6) (gap (one (n ClassBody 8 19 (one (formed Method (n MethodDefinition 10 17 (two (id "a" 10) (n FunctionExpression 11 16 (gap (one (n BlockStatement 14 16 none))))))))))))))) ≡ []
unfolding computing
method_with_its_semicolon = refl

-- the body of a class from its name on
pub body_off_by_one : found (tokens "class A { }") (program 11 (one (n ClassDeclaration 0 11 (part (id "A" 6) (gap (one (n ClassBody 6 11 none))))))) ≡ []
unfolding computing
body_off_by_one = refl

-- a block for the body of a class
pub block_for_class_body : found (tokens "class A { }") (program 11 (one (n ClassDeclaration 0 11 (part (id "A" 6) (gap (one (n BlockStatement 8 11 none))))))) ≡ []
unfolding computing
block_for_class_body = refl
