-- Examples: expressions that tokens spell, with these pairs and in this one way; and trees that they do not spell.
use Rattle.std.specs.Prelude.{◌≡◌, refl, [], ◌∷◌}
use Rattle.tree.specs.declared.kind.Kind.TheVariants.{ArrayExpression, ArrayPattern, AssignmentExpression, AssignmentPattern, BinaryExpression, CallExpression, ChainExpression, ConditionalExpression, EmptyStatement, Identifier, ImportExpression, LogicalExpression, MemberExpression, NewExpression, ObjectExpression, Property, SequenceExpression, SpreadElement, TaggedTemplateExpression, TemplateElement, TemplateLiteral, ThisExpression, UnaryExpression, UpdateExpression}
use Rattle.tree.specs.declared.kind.Form.TheVariants.{Shorthand}
use Rattle.tree.specs.Tree.{gap, none, part}
use Rattle.language.proofs.examples.Sources.{tokens, tokens_with_regexps}
use Rattle.language.proofs.examples.Trees.{before, computed, computing, formed, found, id, lit, n, once, one, optional, pair, program, st, t, three, two}

pub group_as_operand : found (tokens "a + (b);") (program 8 (one (st 0 8 (t BinaryExpression "+" 0 7 (two (id "a" 0) (id "b" 5)))))) ≡ once (pair 4 6 ∷ [])
unfolding computing
group_as_operand = refl

pub negative_exponent : found (tokens "2 ** -1;") (program 8 (one (st 0 8 (t BinaryExpression "**" 0 7 (two (lit "2" 0) (t UnaryExpression "-" 5 7 (one (lit "1" 6)))))))) ≡ once []
unfolding computing
negative_exponent = refl

pub new_of_new : found (tokens "new new a()();") (program 14 (one (st 0 14 (n NewExpression 0 13 (one (n NewExpression 4 11 (one (id "a" 8)))))))) ≡ once []
unfolding computing
new_of_new = refl

pub new_of_new_without_arguments : found (tokens "new new a") (program 9 (one (st 0 9 (n NewExpression 0 9 (one (n NewExpression 4 9 (one (id "a" 8)))))))) ≡ once []
unfolding computing
new_of_new_without_arguments = refl

pub new_with_arguments_of_new : found (tokens "new new a()") (program 11 (one (st 0 11 (n NewExpression 0 11 (one (n NewExpression 4 11 (one (id "a" 8)))))))) ≡ once []
unfolding computing
new_with_arguments_of_new = refl

pub new_of_grouped_new : found (tokens "new (new a)") (program 11 (one (st 0 11 (n NewExpression 0 11 (one (n NewExpression 5 10 (one (id "a" 9)))))))) ≡ once (pair 4 10 ∷ [])
unfolding computing
new_of_grouped_new = refl

pub spread_and_comma : found (tokens "[...a,];") (program 8 (one (st 0 8 (n ArrayExpression 0 7 (one (n SpreadElement 1 5 (one (id "a" 4)))))))) ≡ once []
unfolding computing
spread_and_comma = refl

pub import_call : found (tokens "import(a);") (program 10 (one (st 0 10 (n ImportExpression 0 9 (one (id "a" 7)))))) ≡ once []
unfolding computing
import_call = refl

pub grouped_target : found (tokens "(a.b) = 1;") (program 10 (one (st 0 10 (t AssignmentExpression "=" 0 9 (two (n MemberExpression 1 4 (two (id "a" 1) (id "b" 3))) (lit "1" 8)))))) ≡ once (pair 0 4 ∷ [])
unfolding computing
grouped_target = refl

pub grouped_chain : found (tokens "(a?.b).c; (a?.b);") (program 17 (two (st 0 9 (n MemberExpression 0 8 (two (n ChainExpression 1 5 (one (optional (n MemberExpression 1 5 (two (id "a" 1) (id "b" 4)))))) (id "c" 7)))) (st 10 17 (n ChainExpression 11 15 (one (optional (n MemberExpression 11 15 (two (id "a" 11) (id "b" 14))))))))) ≡ once (pair 0 5 ∷ pair 10 15 ∷ [])
unfolding computing
grouped_chain = refl

pub chain : found (tokens "a?.b.c(d)?.[e];") (program 15 (one (st 0 15 (n ChainExpression 0 14 (one (optional (computed (n MemberExpression 0 14 (two (n CallExpression 0 9 (two (n MemberExpression 0 6 (two (optional (n MemberExpression 0 4 (two (id "a" 0) (id "b" 3)))) (id "c" 5))) (id "d" 7))) (id "e" 12)))))))))) ≡ once []
unfolding computing
chain = refl

pub groups_within_groups : found (tokens "((((a))))") (program 9 (one (st 0 9 (id "a" 4)))) ≡ once (pair 0 8 ∷ pair 1 7 ∷ pair 2 6 ∷ pair 3 5 ∷ [])
unfolding computing
groups_within_groups = refl

pub powers_to_the_right : found (tokens "2 ** (3 ** 4)") (program 13 (one (st 0 13 (t BinaryExpression "**" 0 13 (two (lit "2" 0) (t BinaryExpression "**" 6 12 (two (lit "3" 6) (lit "4" 11)))))))) ≡ once (pair 5 12 ∷ [])
unfolding computing
powers_to_the_right = refl

pub coalesce_in_or : found (tokens "(a ?? b) || c") (program 13 (one (st 0 13 (t LogicalExpression "||" 0 13 (two (t LogicalExpression "??" 1 7 (two (id "a" 1) (id "b" 6))) (id "c" 12)))))) ≡ once (pair 0 7 ∷ [])
unfolding computing
coalesce_in_or = refl

pub coalesce_twice : found (tokens "a ?? b ?? c") (program 11 (one (st 0 11 (t LogicalExpression "??" 0 11 (two (t LogicalExpression "??" 0 6 (two (id "a" 0) (id "b" 5))) (id "c" 10)))))) ≡ once []
unfolding computing
coalesce_twice = refl

pub new_without_arguments : found (tokens "new (f().x)") (program 11 (one (st 0 11 (n NewExpression 0 11 (one (n MemberExpression 5 10 (two (n CallExpression 5 8 (one (id "f" 5))) (id "x" 9)))))))) ≡ once (pair 4 10 ∷ [])
unfolding computing
new_without_arguments = refl

pub call_behind_a_break : found (tokens "a\n(b)") (program 5 (one (st 0 5 (n CallExpression 0 5 (two (id "a" 0) (id "b" 3)))))) ≡ once []
unfolding computing
call_behind_a_break = refl

pub template_behind_a_break : found (tokens "a\n`b`") (program 5 (one (st 0 5 (n TaggedTemplateExpression 0 5 (two (id "a" 0) (n TemplateLiteral 2 5 (one (t TemplateElement "b" 3 4 none)))))))) ≡ once []
unfolding computing
template_behind_a_break = refl

pub call_as_base_of_chain : found (tokens "f()?.a;") (program 7 (one (st 0 7 (n ChainExpression 0 6 (one (optional (n MemberExpression 0 6 (two (n CallExpression 0 3 (one (id "f" 0))) (id "a" 5))))))))) ≡ once []
unfolding computing
call_as_base_of_chain = refl

pub reserved_word_as_key : found (tokens "({if: a.if});") (program 13 (one (st 0 13 (n ObjectExpression 1 11 (one (n Property 2 10 (two (id "if" 2) (n MemberExpression 6 10 (two (id "a" 6) (id "if" 8)))))))))) ≡ once (pair 0 11 ∷ [])
unfolding computing
reserved_word_as_key = refl

pub division : found (tokens "a\n/b/g") (program 6 (one (st 0 6 (t BinaryExpression "/" 0 6 (two (t BinaryExpression "/" 0 4 (two (id "a" 0) (id "b" 3))) (id "g" 5)))))) ≡ once []
unfolding computing
division = refl

pub member_of_number : found (tokens "(1).toString()") (program 14 (one (st 0 14 (n CallExpression 0 14 (one (n MemberExpression 0 12 (two (lit "1" 1) (id "toString" 4)))))))) ≡ once (pair 0 2 ∷ [])
unfolding computing
member_of_number = refl

pub minus_of_minus : found (tokens "-(-a)") (program 5 (one (st 0 5 (t UnaryExpression "-" 0 5 (one (t UnaryExpression "-" 2 4 (one (id "a" 3)))))))) ≡ once (pair 1 4 ∷ [])
unfolding computing
minus_of_minus = refl

pub holes : found (tokens "[a,,]; [,]") (program 10 (two (st 0 6 (n ArrayExpression 0 5 (part (id "a" 1) (gap none)))) (st 7 10 (n ArrayExpression 7 10 (gap none))))) ≡ once []
unfolding computing
holes = refl

pub template : found (tokens "`x${a}y${b}`;") (program 13 (one (st 0 13 (n TemplateLiteral 0 12 (part (t TemplateElement "x" 1 2 none) (part (id "a" 4) (three (t TemplateElement "y" 6 7 none) (id "b" 9) (n TemplateElement 11 11 none)))))))) ≡ once []
unfolding computing
template = refl

pub tagged_template : found (tokens "a.b`c`;") (program 7 (one (st 0 7 (n TaggedTemplateExpression 0 6 (two (n MemberExpression 0 3 (two (id "a" 0) (id "b" 2))) (n TemplateLiteral 3 6 (one (t TemplateElement "c" 4 5 none)))))))) ≡ once []
unfolding computing
tagged_template = refl

pub object : found (tokens "({a, b: c, [d]: e, ...f, \"g\": 1, 2: 3,});") (program 41 (one (st 0 41 (n ObjectExpression 1 39 (part (formed Shorthand (n Property 2 3 (two (id "a" 2) (id "a" 2)))) (part (n Property 5 9 (two (id "b" 5) (id "c" 8))) (part (computed (n Property 11 17 (two (id "d" 12) (id "e" 16)))) (three (n SpreadElement 19 23 (one (id "f" 22))) (n Property 25 31 (two (lit "\"g\"" 25) (lit "1" 30))) (n Property 33 37 (two (lit "2" 33) (lit "3" 36))))))))))) ≡ once (pair 0 39 ∷ [])
unfolding computing
object = refl

pub conditional_and_comma : found (tokens "a ? b : c, d = e += f;") (program 22 (one (st 0 22 (n SequenceExpression 0 21 (two (n ConditionalExpression 0 9 (three (id "a" 0) (id "b" 4) (id "c" 8))) (t AssignmentExpression "=" 11 21 (two (id "d" 11) (t AssignmentExpression "+=" 15 21 (two (id "e" 15) (id "f" 20)))))))))) ≡ once []
unfolding computing
conditional_and_comma = refl

pub regular_expression : found (tokens_with_regexps "x = /a/g.b") (program 10 (one (st 0 10 (t AssignmentExpression "=" 0 10 (two (id "x" 0) (n MemberExpression 4 10 (two (lit "/a/g" 4) (id "b" 9)))))))) ≡ once []
unfolding computing
regular_expression = refl

pub words_and_literals : found (tokens "typeof null, void this, true, 1n, 0x1, \"a\"") (program 42 (one (st 0 42 (n SequenceExpression 0 42 (part (t UnaryExpression "typeof" 0 11 (one (lit "null" 7))) (part (t UnaryExpression "void" 13 22 (one (n ThisExpression 18 22 none))) (part (lit "true" 24) (three (lit "1n" 30) (lit "0x1" 34) (lit "\"a\"" 39))))))))) ≡ once []
unfolding computing
words_and_literals = refl

pub relations : found (tokens "a in b instanceof c < d;") (program 24 (one (st 0 24 (t BinaryExpression "<" 0 23 (two (t BinaryExpression "instanceof" 0 19 (two (t BinaryExpression "in" 0 6 (two (id "a" 0) (id "b" 5))) (id "c" 18))) (id "d" 22)))))) ≡ once []
unfolding computing
relations = refl

pub logical_assignments : found (tokens "a &&= (b ??= c)") (program 15 (one (st 0 15 (t AssignmentExpression "&&=" 0 15 (two (id "a" 0) (t AssignmentExpression "??=" 7 14 (two (id "b" 7) (id "c" 13)))))))) ≡ once (pair 6 14 ∷ [])
unfolding computing
logical_assignments = refl

pub logical_assignment_in_or : found (tokens "(a ||= b) || c") (program 14 (one (st 0 14 (t LogicalExpression "||" 0 14 (two (t AssignmentExpression "||=" 1 8 (two (id "a" 1) (id "b" 7))) (id "c" 13)))))) ≡ once (pair 0 8 ∷ [])
unfolding computing
logical_assignment_in_or = refl

pub assignments : found (tokens "a = b += c -= d *= e /= f %= g **= h <<= i >>= j >>>= k &= l |= m ^= n") (program 70 (one (st 0 70 (t AssignmentExpression "=" 0 70 (two (id "a" 0) (t AssignmentExpression "+=" 4 70 (two (id "b" 4) (t AssignmentExpression "-=" 9 70 (two (id "c" 9) (t AssignmentExpression "*=" 14 70 (two (id "d" 14) (t AssignmentExpression "/=" 19 70 (two (id "e" 19) (t AssignmentExpression "%=" 24 70 (two (id "f" 24) (t AssignmentExpression "**=" 29 70 (two (id "g" 29) (t AssignmentExpression "<<=" 35 70 (two (id "h" 35) (t AssignmentExpression ">>=" 41 70 (two (id "i" 41) (t AssignmentExpression ">>>=" 47 70 (two (id "j" 47) (t AssignmentExpression "&=" 54 70 (two (id "k" 54) (t AssignmentExpression "|=" 59 70 (two (id "l" 59) (t AssignmentExpression "^=" 64 70 (two (id "m" 64) (id "n" 69)))))))))))))))))))))))))))))) ≡ once []
unfolding computing
assignments = refl

pub operators : found (tokens "a | b ^ c & d == e != f === g !== h <= i >= j > k >> l >>> m << n - o % p ** q") (program 78 (one (st 0 78 (t BinaryExpression "|" 0 78 (two (id "a" 0) (t BinaryExpression "^" 4 78 (two (id "b" 4) (t BinaryExpression "&" 8 78 (two (id "c" 8) (t BinaryExpression "!==" 12 78 (two (t BinaryExpression "===" 12 29 (two (t BinaryExpression "!=" 12 23 (two (t BinaryExpression "==" 12 18 (two (id "d" 12) (id "e" 17))) (id "f" 22))) (id "g" 28))) (t BinaryExpression ">" 34 78 (two (t BinaryExpression ">=" 34 45 (two (t BinaryExpression "<=" 34 40 (two (id "h" 34) (id "i" 39))) (id "j" 44))) (t BinaryExpression "<<" 48 78 (two (t BinaryExpression ">>>" 48 60 (two (t BinaryExpression ">>" 48 54 (two (id "k" 48) (id "l" 53))) (id "m" 59))) (t BinaryExpression "-" 64 78 (two (id "n" 64) (t BinaryExpression "%" 68 78 (two (id "o" 68) (t BinaryExpression "**" 72 78 (two (id "p" 72) (id "q" 77)))))))))))))))))))))) ≡ once []
unfolding computing
operators = refl

pub prefixes : found (tokens "delete void typeof + - ~ ! ++a") (program 30 (one (st 0 30 (t UnaryExpression "delete" 0 30 (one (t UnaryExpression "void" 7 30 (one (t UnaryExpression "typeof" 12 30 (one (t UnaryExpression "+" 19 30 (one (t UnaryExpression "-" 21 30 (one (t UnaryExpression "~" 23 30 (one (t UnaryExpression "!" 25 30 (one (before (t UpdateExpression "++" 27 30 (one (id "a" 29))))))))))))))))))))) ≡ once []
unfolding computing
prefixes = refl

pub await_is_a_name : found (tokens "await = async(yes)") (program 18 (one (st 0 18 (t AssignmentExpression "=" 0 18 (two (id "await" 0) (n CallExpression 8 18 (two (id "async" 8) (id "yes" 14)))))))) ≡ once []
unfolding computing
await_is_a_name = refl

-- A group where none may stand, and operators that do not go together.

-- a chain is no target
pub chain_as_target : found (tokens "(a?.b) = 1;") (program 11 (one (st 0 11 (t AssignmentExpression "=" 0 10 (two (n ChainExpression 1 5 (one (optional (n MemberExpression 1 5 (two (id "a" 1) (id "b" 4)))))) (lit "1" 9)))))) ≡ []
unfolding computing
chain_as_target = refl

-- a call is no target
pub call_as_target : found (tokens "f() = 1;") (program 8 (one (st 0 8 (t AssignmentExpression "=" 0 7 (two (n CallExpression 0 3 (one (id "f" 0))) (lit "1" 6)))))) ≡ []
unfolding computing
call_as_target = refl

-- what `++` makes is no target
pub update_of_update : found (tokens "++a++;") (program 6 (one (st 0 6 (before (t UpdateExpression "++" 0 5 (one (t UpdateExpression "++" 2 5 (one (id "a" 2))))))))) ≡ []
unfolding computing
update_of_update = refl

-- no unary operator stands left of `**`
pub minus_before_power : found (tokens "-a ** b;") (program 8 (one (st 0 8 (t BinaryExpression "**" 0 7 (two (t UnaryExpression "-" 0 2 (one (id "a" 1))) (id "b" 6)))))) ≡ []
unfolding computing
minus_before_power = refl

-- a logical assignment has no pattern on its left
pub logical_assignment_to_pattern : found (tokens "[a] &&= b") (program 9 (one (st 0 9 (t AssignmentExpression "&&=" 0 9 (two (n ArrayPattern 0 3 (one (id "a" 1))) (id "b" 8)))))) ≡ []
unfolding computing
logical_assignment_to_pattern = refl

-- `??` and `&&` go together in groups alone
pub coalesce_with_and : found (tokens "a ?? b && c;") (program 12 (one (st 0 12 (t LogicalExpression "??" 0 11 (two (id "a" 0) (t LogicalExpression "&&" 5 11 (two (id "b" 5) (id "c" 10)))))))) ≡ []
unfolding computing
coalesce_with_and = refl

-- `??` and `||` go together in groups alone
pub coalesce_with_or : found (tokens "a ?? b || c") (program 11 (one (st 0 11 (t LogicalExpression "||" 0 11 (two (t LogicalExpression "??" 0 6 (two (id "a" 0) (id "b" 5))) (id "c" 10)))))) ≡ []
unfolding computing
coalesce_with_or = refl

-- `||` left of `??`
pub or_in_coalesce : found (tokens "a || b ?? c") (program 11 (one (st 0 11 (t LogicalExpression "??" 0 11 (two (t LogicalExpression "||" 0 6 (two (id "a" 0) (id "b" 5))) (id "c" 10)))))) ≡ []
unfolding computing
or_in_coalesce = refl

-- a conditional as the test of one
pub conditional_as_test : found (tokens "a ? b : c ? d : e") (program 17 (one (st 0 17 (n ConditionalExpression 0 17 (three (n ConditionalExpression 0 9 (three (id "a" 0) (id "b" 4) (id "c" 8))) (id "d" 12) (id "e" 16)))))) ≡ []
unfolding computing
conditional_as_test = refl

-- a reserved word as the value of a shorthand property
pub shorthand_of_a_reserved_word : found (tokens "({if});") (program 7 (one (st 0 7 (n ObjectExpression 1 5 (one (formed Shorthand (n Property 2 4 (two (id "if" 2) (id "if" 2))))))))) ≡ []
unfolding computing
shorthand_of_a_reserved_word = refl

-- no chain behind `new`
pub chain_behind_new : found (tokens "new a?.b();") (program 11 (one (st 0 11 (n NewExpression 0 10 (one (n ChainExpression 4 10 (one (n CallExpression 4 10 (one (optional (n MemberExpression 4 8 (two (id "a" 4) (id "b" 7))))))))))))) ≡ []
unfolding computing
chain_behind_new = refl

-- no import behind `new`
pub import_behind_new : found (tokens "new import(a);") (program 14 (one (st 0 14 (n NewExpression 0 13 (one (n ImportExpression 4 13 (one (id "a" 11)))))))) ≡ []
unfolding computing
import_behind_new = refl

-- no member of an import behind `new`
pub member_of_import_behind_new : found (tokens "new import(a).b()") (program 17 (one (st 0 17 (n NewExpression 0 17 (one (n MemberExpression 4 15 (two (n ImportExpression 4 13 (one (id "a" 11))) (id "b" 14)))))))) ≡ []
unfolding computing
member_of_import_behind_new = refl

-- no template behind a chain
pub template_in_chain : found (tokens "a?.b`c`;") (program 8 (one (st 0 8 (n ChainExpression 0 7 (one (n TaggedTemplateExpression 0 7 (two (optional (n MemberExpression 0 4 (two (id "a" 0) (id "b" 3)))) (n TemplateLiteral 4 7 (one (t TemplateElement "c" 5 6 none)))))))))) ≡ []
unfolding computing
template_in_chain = refl

-- a comma behind the expression in a group
pub comma_in_group : found (tokens "(a,);") (program 5 (one (st 0 5 (id "a" 1)))) ≡ []
unfolding computing
comma_in_group = refl

-- a group with nothing in it
pub empty_group : found (tokens "();") (program 3 (one (st 0 3 (n SequenceExpression 0 2 none)))) ≡ []
unfolding computing
empty_group = refl

-- a rest in a group
pub rest_in_group : found (tokens "(a, ...b);") (program 10 (one (st 0 10 (n SequenceExpression 0 9 (two (id "a" 1) (n SpreadElement 4 8 (one (id "b" 7)))))))) ≡ []
unfolding computing
rest_in_group = refl

-- a group that is not closed
pub open_group : found (tokens "a = (b") (program 6 (one (st 0 6 (t AssignmentExpression "=" 0 6 (two (id "a" 0) (id "b" 5)))))) ≡ []
unfolding computing
open_group = refl

-- a group round a property
pub grouped_property : found (tokens "a.(b);") (program 6 (one (st 0 6 (n MemberExpression 0 5 (two (id "a" 0) (id "b" 3)))))) ≡ []
unfolding computing
grouped_property = refl

-- a group round a spread
pub grouped_spread : found (tokens "f((...a));") (program 10 (one (st 0 10 (n CallExpression 0 9 (two (id "f" 0) (n SpreadElement 3 7 (one (id "a" 6)))))))) ≡ []
unfolding computing
grouped_spread = refl

-- no value of a shorthand property outside patterns
pub initialised_shorthand : found (tokens "({a = 1});") (program 10 (one (st 0 10 (n ObjectExpression 1 8 (one (formed Shorthand (n Property 2 7 (two (id "a" 2) (n AssignmentPattern 2 7 (two (id "a" 2) (lit "1" 6))))))))))) ≡ []
unfolding computing
initialised_shorthand = refl

-- Trees that differ in one thing.

-- another operator
pub another_operator : found (tokens "a + (b);") (program 8 (one (st 0 8 (t BinaryExpression "*" 0 7 (two (id "a" 0) (id "b" 5)))))) ≡ []
unfolding computing
another_operator = refl

-- the group round the sum, with the places of the group round `b`
pub another_group : found (tokens "(a + b);") (program 8 (one (st 0 8 (t BinaryExpression "+" 0 7 (two (id "a" 0) (id "b" 5)))))) ≡ []
unfolding computing
another_group = refl

-- another kind
pub another_kind : found (tokens "a && b;") (program 7 (one (st 0 7 (t BinaryExpression "&&" 0 6 (two (id "a" 0) (id "b" 5)))))) ≡ []
unfolding computing
another_kind = refl

-- another flag
pub another_flag : found (tokens "a.b;") (program 4 (one (st 0 4 (computed (n MemberExpression 0 3 (two (id "a" 0) (id "b" 2))))))) ≡ []
unfolding computing
another_flag = refl

-- a flag that its kind does not use
pub flag_of_no_use : found (tokens "a.b;") (program 4 (one (st 0 4 (before (n MemberExpression 0 3 (two (id "a" 0) (id "b" 2))))))) ≡ []
unfolding computing
flag_of_no_use = refl

-- a text that its kind does not use
pub text_of_no_use : found (tokens "this;") (program 5 (one (st 0 5 (t ThisExpression "this" 0 4 none)))) ≡ []
unfolding computing
text_of_no_use = refl

-- the operator behind
pub postfix_for_prefix : found (tokens "++a;") (program 4 (one (st 0 4 (t UpdateExpression "++" 0 3 (one (id "a" 2)))))) ≡ []
unfolding computing
postfix_for_prefix = refl

-- a part missing
pub part_missing : found (tokens "f(a, b);") (program 8 (one (st 0 8 (n CallExpression 0 7 (two (id "f" 0) (id "a" 2)))))) ≡ []
unfolding computing
part_missing = refl

-- a part too many
pub part_too_many : found (tokens "f(a);") (program 5 (one (st 0 5 (n CallExpression 0 4 (three (id "f" 0) (id "a" 2) (id "a" 2)))))) ≡ []
unfolding computing
part_too_many = refl

-- a hole missing
pub hole_missing : found (tokens "[a,,];") (program 6 (one (st 0 6 (n ArrayExpression 0 5 (one (id "a" 1)))))) ≡ []
unfolding computing
hole_missing = refl

-- the start of the sum off by one
pub start_off_by_one : found (tokens "a + (b);") (program 8 (one (st 0 8 (t BinaryExpression "+" 1 7 (two (id "a" 0) (id "b" 5)))))) ≡ []
unfolding computing
start_off_by_one = refl

-- its end without the group
pub stop_off_by_one : found (tokens "a + (b);") (program 8 (one (st 0 8 (t BinaryExpression "+" 0 6 (two (id "a" 0) (id "b" 5)))))) ≡ []
unfolding computing
stop_off_by_one = refl

-- the place of the group for that of the name
pub group_within : found (tokens "(a);") (program 4 (one (st 0 4 (t Identifier "a" 0 3 none)))) ≡ []
unfolding computing
group_within = refl

-- a part of a template with its delimiters
pub template_part_off_by_one : found (tokens "`x${a}y`;") (program 9 (one (st 0 9 (n TemplateLiteral 0 8 (three (t TemplateElement "x" 0 2 none) (id "a" 4) (t TemplateElement "y" 6 7 none)))))) ≡ []
unfolding computing
template_part_off_by_one = refl

-- another text of a template
pub template_text : found (tokens "`x${a}y`;") (program 9 (one (st 0 9 (n TemplateLiteral 0 8 (three (t TemplateElement "z" 1 2 none) (id "a" 4) (t TemplateElement "y" 6 7 none)))))) ≡ []
unfolding computing
template_text = refl

-- a chain without its node
pub chain_without_its_node : found (tokens "a?.b;") (program 5 (one (st 0 5 (optional (n MemberExpression 0 4 (two (id "a" 0) (id "b" 3))))))) ≡ []
unfolding computing
chain_without_its_node = refl

-- a chain that ends before the last member, without its group
pub chain_without_a_group : found (tokens "a?.b.c; ;") (program 9 (two (st 0 7 (n MemberExpression 0 6 (two (n ChainExpression 0 4 (one (optional (n MemberExpression 0 4 (two (id "a" 0) (id "b" 3)))))) (id "c" 5)))) (n EmptyStatement 8 9 none))) ≡ []
unfolding computing
chain_without_a_group = refl

-- the right side first
pub right_before_left : found (tokens "a - b - c;") (program 10 (one (st 0 10 (t BinaryExpression "-" 0 9 (two (id "a" 0) (t BinaryExpression "-" 4 9 (two (id "b" 4) (id "c" 8)))))))) ≡ []
unfolding computing
right_before_left = refl

-- the left side first
pub left_before_right : found (tokens "2 ** 3 ** 4;") (program 12 (one (st 0 12 (t BinaryExpression "**" 0 11 (two (t BinaryExpression "**" 0 6 (two (lit "2" 0) (lit "3" 5))) (lit "4" 10)))))) ≡ []
unfolding computing
left_before_right = refl

-- a reserved word as an identifier
pub reserved_name : found (tokens "true;") (program 5 (one (st 0 5 (id "true" 0)))) ≡ []
unfolding computing
reserved_name = refl
