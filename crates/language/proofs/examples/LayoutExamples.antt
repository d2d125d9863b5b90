-- Examples: texts with a fixed text. Of each: the tree and its pairs, the layout, and that the layout spells the tree with so many pairs.
use Rattle.std.specs.Prelude.{◌≡◌, refl, [], ◌∷◌, codes}
use Rattle.tree.specs.declared.kind.Kind.TheVariants.{ArrayExpression, ArrayPattern, ArrowFunctionExpression, AssignmentExpression, BinaryExpression, BlockStatement, CallExpression, ChainExpression, ClassBody, ClassDeclaration, ConditionalExpression, DoWhileStatement, EmptyStatement, ForOfStatement, ForStatement, FunctionExpression, IfStatement, LogicalExpression, MemberExpression, MethodDefinition, NewExpression, ObjectExpression, ObjectPattern, Property, SequenceExpression, SwitchCase, SwitchStatement, TemplateElement, TemplateLiteral, UnaryExpression, UpdateExpression, VariableDeclaration, VariableDeclarator}
use Rattle.tree.specs.declared.kind.Form.TheVariants.{Get, Method, Shorthand}
use Rattle.tree.specs.Tree.{Tree, gap, none, part}
use Rattle.language.specs.Layout.{fixed_text}
use Rattle.language.proofs.examples.Sources.{tokens, tokens_with_regexps}
use Rattle.language.proofs.examples.Trees.{again, before, computed, computing, formed, found, id, lit, n, once, one, optional, pair, program, short, st, static_one, t, three, two}

abbrev pub empty : Tree
empty = program 0 none

pub empty_pairs : found (tokens "") empty ≡ once []
unfolding computing
empty_pairs = refl

pub empty_text : fixed_text empty ≡ codes ""
unfolding computing
empty_text = refl

pub empty_again : again (tokens "") empty ≡ 0 ∷ []
unfolding computing
empty_again = refl

abbrev pub four_pairs : Tree
four_pairs = program 9 (one (st 0 9 (id "a" 4)))

pub four_pairs_pairs : found (tokens "((((a))))") four_pairs ≡ once (pair 0 8 ∷ pair 1 7 ∷ pair 2 6 ∷ pair 3 5 ∷ [])
unfolding computing
four_pairs_pairs = refl

pub four_pairs_text : fixed_text four_pairs ≡ codes "a;\n"
unfolding computing
four_pairs_text = refl

pub four_pairs_again : again (tokens "a;\n") four_pairs ≡ 0 ∷ []
unfolding computing
four_pairs_again = refl

abbrev pub in_of_both_sides : Tree
in_of_both_sides = program 33 (one (n ForStatement 0 33 (part (t AssignmentExpression "=" 5 29 (two (id "x" 5) (t LogicalExpression "&&" 9 29 (two (t BinaryExpression "in" 10 16 (two (id "a" 10) (id "b" 15))) (t BinaryExpression "in" 22 28 (two (id "c" 22) (id "d" 27))))))) (gap (gap (one (n EmptyStatement 32 33 none)))))))

pub in_of_both_sides_pairs : found (tokens "for (x = (a in b) && (c in d);;);") in_of_both_sides ≡ once (pair 9 16 ∷ pair 21 28 ∷ [])
unfolding computing
in_of_both_sides_pairs = refl

pub in_of_both_sides_text : fixed_text in_of_both_sides ≡ codes "for (x = (a in b && c in d);;) ;\n"
unfolding computing
in_of_both_sides_text = refl

pub in_of_both_sides_again : again (tokens "for (x = (a in b && c in d);;) ;\n") in_of_both_sides ≡ 1 ∷ []
unfolding computing
in_of_both_sides_again = refl

abbrev pub grouped_chain : Tree
grouped_chain = program 17 (two (st 0 9 (n MemberExpression 0 8 (two (n ChainExpression 1 5 (one (optional (n MemberExpression 1 5 (two (id "a" 1) (id "b" 4)))))) (id "c" 7)))) (st 10 17 (n ChainExpression 11 15 (one (optional (n MemberExpression 11 15 (two (id "a" 11) (id "b" 14))))))))

pub grouped_chain_pairs : found (tokens "(a?.b).c; (a?.b);") grouped_chain ≡ once (pair 0 5 ∷ pair 10 15 ∷ [])
unfolding computing
grouped_chain_pairs = refl

pub grouped_chain_text : fixed_text grouped_chain ≡ codes "(a?.b).c;\na?.b;\n"
unfolding computing
grouped_chain_text = refl

pub grouped_chain_again : again (tokens "(a?.b).c;\na?.b;\n") grouped_chain ≡ 1 ∷ []
unfolding computing
grouped_chain_again = refl

abbrev pub prologue : Tree
prologue = program 21 (two (st 0 15 (lit "\"use strict\"" 1)) (st 16 21 (lit "'x'" 17)))

pub prologue_pairs : found (tokens "(\"use strict\"); ('x')") prologue ≡ once (pair 0 13 ∷ pair 16 20 ∷ [])
unfolding computing
prologue_pairs = refl

pub prologue_text : fixed_text prologue ≡ codes "(\"use strict\");\n'x';\n"
unfolding computing
prologue_text = refl

pub prologue_again : again (tokens "(\"use strict\");\n'x';\n") prologue ≡ 1 ∷ []
unfolding computing
prologue_again = refl

abbrev pub power_of_minus : Tree
power_of_minus = program 9 (one (st 0 9 (t BinaryExpression "**" 0 9 (two (t UnaryExpression "-" 1 3 (one (id "a" 2))) (id "b" 8)))))

pub power_of_minus_pairs : found (tokens "(-a) ** b") power_of_minus ≡ once (pair 0 3 ∷ [])
unfolding computing
power_of_minus_pairs = refl

pub power_of_minus_text : fixed_text power_of_minus ≡ codes "(-a) ** b;\n"
unfolding computing
power_of_minus_text = refl

pub power_of_minus_again : again (tokens "(-a) ** b;\n") power_of_minus ≡ 1 ∷ []
unfolding computing
power_of_minus_again = refl

abbrev pub power_to_the_right : Tree
power_to_the_right = program 13 (one (st 0 13 (t BinaryExpression "**" 0 13 (two (lit "2" 0) (t BinaryExpression "**" 6 12 (two (lit "3" 6) (lit "4" 11)))))))

pub power_to_the_right_pairs : found (tokens "2 ** (3 ** 4)") power_to_the_right ≡ once (pair 5 12 ∷ [])
unfolding computing
power_to_the_right_pairs = refl

pub power_to_the_right_text : fixed_text power_to_the_right ≡ codes "2 ** 3 ** 4;\n"
unfolding computing
power_to_the_right_text = refl

pub power_to_the_right_again : again (tokens "2 ** 3 ** 4;\n") power_to_the_right ≡ 0 ∷ []
unfolding computing
power_to_the_right_again = refl

abbrev pub power_to_the_left : Tree
power_to_the_left = program 13 (one (st 0 13 (t BinaryExpression "**" 0 13 (two (t BinaryExpression "**" 1 7 (two (lit "2" 1) (lit "3" 6))) (lit "4" 12)))))

pub power_to_the_left_pairs : found (tokens "(2 ** 3) ** 4") power_to_the_left ≡ once (pair 0 7 ∷ [])
unfolding computing
power_to_the_left_pairs = refl

pub power_to_the_left_text : fixed_text power_to_the_left ≡ codes "(2 ** 3) ** 4;\n"
unfolding computing
power_to_the_left_text = refl

pub power_to_the_left_again : again (tokens "(2 ** 3) ** 4;\n") power_to_the_left ≡ 1 ∷ []
unfolding computing
power_to_the_left_again = refl

abbrev pub coalesce_in_or : Tree
coalesce_in_or = program 13 (one (st 0 13 (t LogicalExpression "||" 0 13 (two (t LogicalExpression "??" 1 7 (two (id "a" 1) (id "b" 6))) (id "c" 12)))))

pub coalesce_in_or_pairs : found (tokens "(a ?? b) || c") coalesce_in_or ≡ once (pair 0 7 ∷ [])
unfolding computing
coalesce_in_or_pairs = refl

pub coalesce_in_or_text : fixed_text coalesce_in_or ≡ codes "(a ?? b) || c;\n"
unfolding computing
coalesce_in_or_text = refl

pub coalesce_in_or_again : again (tokens "(a ?? b) || c;\n") coalesce_in_or ≡ 1 ∷ []
unfolding computing
coalesce_in_or_again = refl

abbrev pub coalesce_to_the_left : Tree
coalesce_to_the_left = program 13 (one (st 0 13 (t LogicalExpression "??" 0 13 (two (t LogicalExpression "??" 1 7 (two (id "a" 1) (id "b" 6))) (id "c" 12)))))

pub coalesce_to_the_left_pairs : found (tokens "(a ?? b) ?? c") coalesce_to_the_left ≡ once (pair 0 7 ∷ [])
unfolding computing
coalesce_to_the_left_pairs = refl

pub coalesce_to_the_left_text : fixed_text coalesce_to_the_left ≡ codes "a ?? b ?? c;\n"
unfolding computing
coalesce_to_the_left_text = refl

pub coalesce_to_the_left_again : again (tokens "a ?? b ?? c;\n") coalesce_to_the_left ≡ 0 ∷ []
unfolding computing
coalesce_to_the_left_again = refl

abbrev pub coalesce_to_the_right : Tree
coalesce_to_the_right = program 13 (one (st 0 13 (t LogicalExpression "??" 0 13 (two (id "a" 0) (t LogicalExpression "??" 6 12 (two (id "b" 6) (id "c" 11)))))))

pub coalesce_to_the_right_pairs : found (tokens "a ?? (b ?? c)") coalesce_to_the_right ≡ once (pair 5 12 ∷ [])
unfolding computing
coalesce_to_the_right_pairs = refl

pub coalesce_to_the_right_text : fixed_text coalesce_to_the_right ≡ codes "a ?? (b ?? c);\n"
unfolding computing
coalesce_to_the_right_text = refl

pub coalesce_to_the_right_again : again (tokens "a ?? (b ?? c);\n") coalesce_to_the_right ≡ 1 ∷ []
unfolding computing
coalesce_to_the_right_again = refl

-- a tie: the outer node is not wrapped
abbrev pub new_of_member_of_call : Tree
new_of_member_of_call = program 13 (one (st 0 13 (n NewExpression 0 13 (one (n MemberExpression 5 10 (two (n CallExpression 5 8 (one (id "f" 5))) (id "x" 9)))))))

pub new_of_member_of_call_pairs : found (tokens "new (f().x)()") new_of_member_of_call ≡ once (pair 4 10 ∷ [])
unfolding computing
new_of_member_of_call_pairs = refl

pub new_of_member_of_call_text : fixed_text new_of_member_of_call ≡ codes "new (f()).x();\n"
unfolding computing
new_of_member_of_call_text = refl

pub new_of_member_of_call_again : again (tokens "new (f()).x();\n") new_of_member_of_call ≡ 1 ∷ []
unfolding computing
new_of_member_of_call_again = refl

abbrev pub new_of_member : Tree
new_of_member = program 11 (one (st 0 11 (n NewExpression 0 11 (one (n MemberExpression 5 8 (two (id "a" 5) (id "b" 7)))))))

pub new_of_member_pairs : found (tokens "new (a.b)()") new_of_member ≡ once (pair 4 8 ∷ [])
unfolding computing
new_of_member_pairs = refl

pub new_of_member_text : fixed_text new_of_member ≡ codes "new a.b();\n"
unfolding computing
new_of_member_text = refl

pub new_of_member_again : again (tokens "new a.b();\n") new_of_member ≡ 0 ∷ []
unfolding computing
new_of_member_again = refl

abbrev pub member_in_arrow : Tree
member_in_arrow = program 11 (one (st 0 11 (short (n ArrowFunctionExpression 0 11 (two (id "x" 0) (n MemberExpression 5 11 (two (n ObjectExpression 6 8 none) (id "a" 10))))))))

pub member_in_arrow_pairs : found (tokens "x => ({}).a") member_in_arrow ≡ once (pair 5 8 ∷ [])
unfolding computing
member_in_arrow_pairs = refl

pub member_in_arrow_text : fixed_text member_in_arrow ≡ codes "x => ({}).a;\n"
unfolding computing
member_in_arrow_text = refl

pub member_in_arrow_again : again (tokens "x => ({}).a;\n") member_in_arrow ≡ 1 ∷ []
unfolding computing
member_in_arrow_again = refl

abbrev pub pattern_at_start : Tree
pattern_at_start = program 10 (one (st 0 10 (t AssignmentExpression "=" 1 8 (two (n ObjectPattern 1 4 (one (formed Shorthand (n Property 2 3 (two (id "a" 2) (id "a" 2)))))) (id "b" 7)))))

pub pattern_at_start_pairs : found (tokens "({a} = b);") pattern_at_start ≡ once (pair 0 8 ∷ [])
unfolding computing
pattern_at_start_pairs = refl

pub pattern_at_start_text : fixed_text pattern_at_start ≡ codes "({a} = b);\n"
unfolding computing
pattern_at_start_text = refl

pub pattern_at_start_again : again (tokens "({a} = b);\n") pattern_at_start ≡ 1 ∷ []
unfolding computing
pattern_at_start_again = refl

abbrev pub function_called : Tree
function_called = program 18 (one (st 0 18 (n CallExpression 0 18 (one (n FunctionExpression 1 15 (gap (one (n BlockStatement 13 15 none))))))))

pub function_called_pairs : found (tokens "(function () {})()") function_called ≡ once (pair 0 15 ∷ [])
unfolding computing
function_called_pairs = refl

pub function_called_text : fixed_text function_called ≡ codes "(function () {})();\n"
unfolding computing
function_called_text = refl

pub function_called_again : again (tokens "(function () {})();\n") function_called ≡ 1 ∷ []
unfolding computing
function_called_again = refl

abbrev pub call_behind_a_break : Tree
call_behind_a_break = program 5 (one (st 0 5 (n CallExpression 0 5 (two (id "a" 0) (id "b" 3)))))

pub call_behind_a_break_pairs : found (tokens "a\n(b)") call_behind_a_break ≡ once []
unfolding computing
call_behind_a_break_pairs = refl

pub call_behind_a_break_text : fixed_text call_behind_a_break ≡ codes "a(b);\n"
unfolding computing
call_behind_a_break_text = refl

pub call_behind_a_break_again : again (tokens "a(b);\n") call_behind_a_break ≡ 0 ∷ []
unfolding computing
call_behind_a_break_again = refl

abbrev pub group_behind_arrow : Tree
group_behind_arrow = program 16 (two (st 0 12 (t AssignmentExpression "=" 0 12 (two (id "a" 0) (n ArrowFunctionExpression 4 12 (one (n BlockStatement 10 12 none)))))) (st 13 16 (id "b" 14)))

pub group_behind_arrow_pairs : found (tokens "a = () => {}\n(b)") group_behind_arrow ≡ once (pair 13 15 ∷ [])
unfolding computing
group_behind_arrow_pairs = refl

pub group_behind_arrow_text : fixed_text group_behind_arrow ≡ codes "a = () => {};\nb;\n"
unfolding computing
group_behind_arrow_text = refl

pub group_behind_arrow_again : again (tokens "a = () => {};\nb;\n") group_behind_arrow ≡ 0 ∷ []
unfolding computing
group_behind_arrow_again = refl

abbrev pub group_behind_update : Tree
group_behind_update = program 7 (two (st 0 3 (t UpdateExpression "++" 0 3 (one (id "a" 0)))) (st 4 7 (id "b" 5)))

pub group_behind_update_pairs : found (tokens "a++\n(b)") group_behind_update ≡ once (pair 4 6 ∷ [])
unfolding computing
group_behind_update_pairs = refl

pub group_behind_update_text : fixed_text group_behind_update ≡ codes "a++;\nb;\n"
unfolding computing
group_behind_update_text = refl

pub group_behind_update_again : again (tokens "a++;\nb;\n") group_behind_update ≡ 0 ∷ []
unfolding computing
group_behind_update_again = refl

abbrev pub division : Tree
division = program 6 (one (st 0 6 (t BinaryExpression "/" 0 6 (two (t BinaryExpression "/" 0 4 (two (id "a" 0) (id "b" 3))) (id "g" 5)))))

pub division_pairs : found (tokens "a\n/b/g") division ≡ once []
unfolding computing
division_pairs = refl

pub division_text : fixed_text division ≡ codes "a / b / g;\n"
unfolding computing
division_text = refl

pub division_again : again (tokens "a / b / g;\n") division ≡ 0 ∷ []
unfolding computing
division_again = refl

abbrev pub regexp_behind_variable : Tree
regexp_behind_variable = program 10 (two (t VariableDeclaration "var" 0 5 (one (n VariableDeclarator 4 5 (part (id "a" 4) (gap none))))) (st 6 10 (lit "/b/g" 6)))

pub regexp_behind_variable_pairs : found (tokens_with_regexps "var a\n/b/g") regexp_behind_variable ≡ once []
unfolding computing
regexp_behind_variable_pairs = refl

pub regexp_behind_variable_text : fixed_text regexp_behind_variable ≡ codes "var a;\n/b/g;\n"
unfolding computing
regexp_behind_variable_text = refl

pub regexp_behind_variable_again : again (tokens_with_regexps "var a;\n/b/g;\n") regexp_behind_variable ≡ 0 ∷ []
unfolding computing
regexp_behind_variable_again = refl

abbrev pub regexp_as_body : Tree
regexp_as_body = program 14 (one (n IfStatement 0 14 (part (id "a" 4) (part (st 7 14 (n CallExpression 7 14 (one (n MemberExpression 7 12 (two (lit "/b/" 7) (id "c" 11)))))) (gap none)))))

pub regexp_as_body_pairs : found (tokens_with_regexps "if (a) /b/.c()") regexp_as_body ≡ once []
unfolding computing
regexp_as_body_pairs = refl

pub regexp_as_body_text : fixed_text regexp_as_body ≡ codes "if (a) /b/.c();\n"
unfolding computing
regexp_as_body_text = refl

pub regexp_as_body_again : again (tokens_with_regexps "if (a) /b/.c();\n") regexp_as_body ≡ 0 ∷ []
unfolding computing
regexp_as_body_again = refl

abbrev pub member_of_number : Tree
member_of_number = program 14 (one (st 0 14 (n CallExpression 0 14 (one (n MemberExpression 0 12 (two (lit "1" 1) (id "toString" 4)))))))

pub member_of_number_pairs : found (tokens "(1).toString()") member_of_number ≡ once (pair 0 2 ∷ [])
unfolding computing
member_of_number_pairs = refl

pub member_of_number_text : fixed_text member_of_number ≡ codes "1 .toString();\n"
unfolding computing
member_of_number_text = refl

pub member_of_number_again : again (tokens "1 .toString();\n") member_of_number ≡ 0 ∷ []
unfolding computing
member_of_number_again = refl

abbrev pub minus_of_minus : Tree
minus_of_minus = program 5 (one (st 0 5 (t UnaryExpression "-" 0 5 (one (t UnaryExpression "-" 2 4 (one (id "a" 3)))))))

pub minus_of_minus_pairs : found (tokens "-(-a)") minus_of_minus ≡ once (pair 1 4 ∷ [])
unfolding computing
minus_of_minus_pairs = refl

pub minus_of_minus_text : fixed_text minus_of_minus ≡ codes "- -a;\n"
unfolding computing
minus_of_minus_text = refl

pub minus_of_minus_again : again (tokens "- -a;\n") minus_of_minus ≡ 0 ∷ []
unfolding computing
minus_of_minus_again = refl

abbrev pub grouped_name_in_target : Tree
grouped_name_in_target = program 9 (one (st 0 9 (t AssignmentExpression "=" 0 9 (two (n ArrayPattern 0 5 (one (id "a" 2))) (id "b" 8)))))

pub grouped_name_in_target_pairs : found (tokens "[(a)] = b") grouped_name_in_target ≡ once (pair 1 3 ∷ [])
unfolding computing
grouped_name_in_target_pairs = refl

pub grouped_name_in_target_text : fixed_text grouped_name_in_target ≡ codes "[a] = b;\n"
unfolding computing
grouped_name_in_target_text = refl

pub grouped_name_in_target_again : again (tokens "[a] = b;\n") grouped_name_in_target ≡ 0 ∷ []
unfolding computing
grouped_name_in_target_again = refl

abbrev pub inner_else : Tree
inner_else = program 23 (one (n IfStatement 0 23 (part (id "a" 4) (part (n IfStatement 7 23 (three (id "b" 11) (st 14 16 (id "c" 14)) (st 22 23 (id "d" 22)))) (gap none)))))

pub inner_else_pairs : found (tokens "if (a) if (b) c; else d") inner_else ≡ once []
unfolding computing
inner_else_pairs = refl

pub inner_else_text : fixed_text inner_else ≡ codes "if (a) if (b) c; else d;\n"
unfolding computing
inner_else_text = refl

pub inner_else_again : again (tokens "if (a) if (b) c; else d;\n") inner_else ≡ 0 ∷ []
unfolding computing
inner_else_again = refl

abbrev pub blocks : Tree
blocks = program 14 (one (n IfStatement 0 14 (three (id "a" 3) (n BlockStatement 5 8 (one (st 6 7 (id "b" 6)))) (st 13 14 (id "c" 13)))))

pub blocks_pairs : found (tokens "if(a){b}else c") blocks ≡ once []
unfolding computing
blocks_pairs = refl

pub blocks_text : fixed_text blocks ≡ codes "if (a) {\n  b;\n} else c;\n"
unfolding computing
blocks_text = refl

pub blocks_again : again (tokens "if (a) {\n  b;\n} else c;\n") blocks ≡ 0 ∷ []
unfolding computing
blocks_again = refl

abbrev pub group_in_product : Tree
group_in_product = program 14 (one (st 0 14 (t BinaryExpression "*" 0 13 (two (id "a" 0) (t BinaryExpression "+" 5 12 (two (id "b" 5) (id "c" 10)))))))

pub group_in_product_pairs : found (tokens "a * (b + (c));") group_in_product ≡ once (pair 4 12 ∷ pair 9 11 ∷ [])
unfolding computing
group_in_product_pairs = refl

pub group_in_product_text : fixed_text group_in_product ≡ codes "a * (b + c);\n"
unfolding computing
group_in_product_text = refl

pub group_in_product_again : again (tokens "a * (b + c);\n") group_in_product ≡ 1 ∷ []
unfolding computing
group_in_product_again = refl

abbrev pub differences : Tree
differences = program 25 (two (st 0 12 (t BinaryExpression "-" 0 11 (two (t BinaryExpression "-" 1 6 (two (id "a" 1) (id "b" 5))) (id "c" 10)))) (st 13 25 (t BinaryExpression "-" 13 24 (two (id "a" 13) (t BinaryExpression "-" 18 23 (two (id "b" 18) (id "c" 22)))))))

pub differences_pairs : found (tokens "(a - b) - c; a - (b - c);") differences ≡ once (pair 0 6 ∷ pair 17 23 ∷ [])
unfolding computing
differences_pairs = refl

pub differences_text : fixed_text differences ≡ codes "a - b - c;\na - (b - c);\n"
unfolding computing
differences_text = refl

pub differences_again : again (tokens "a - b - c;\na - (b - c);\n") differences ≡ 1 ∷ []
unfolding computing
differences_again = refl

abbrev pub sequences : Tree
sequences = program 20 (two (st 0 9 (n SequenceExpression 2 6 (two (id "a" 2) (id "b" 5)))) (st 10 20 (n SequenceExpression 10 19 (two (n SequenceExpression 11 15 (two (id "a" 11) (id "b" 14))) (id "c" 18)))))

pub sequences_pairs : found (tokens "((a, b)); (a, b), c;") sequences ≡ once (pair 0 7 ∷ pair 1 6 ∷ pair 10 15 ∷ [])
unfolding computing
sequences_pairs = refl

pub sequences_text : fixed_text sequences ≡ codes "a, b;\n(a, b), c;\n"
unfolding computing
sequences_text = refl

pub sequences_again : again (tokens "a, b;\n(a, b), c;\n") sequences ≡ 1 ∷ []
unfolding computing
sequences_again = refl

abbrev pub or_in_head : Tree
or_in_head = program 45 (one (n ForStatement 0 45 (part (t AssignmentExpression "=" 5 41 (two (id "x" 5) (t LogicalExpression "||" 9 41 (two (t BinaryExpression "in" 10 16 (two (id "a" 10) (id "b" 15))) (t LogicalExpression "&&" 21 41 (two (t BinaryExpression "in" 22 28 (two (id "c" 22) (id "d" 27))) (t BinaryExpression "in" 34 40 (two (id "e" 34) (id "f" 39))))))))) (gap (gap (one (n EmptyStatement 44 45 none)))))))

pub or_in_head_pairs : found (tokens "for (x = (a in b) || (c in d) && (e in f);;);") or_in_head ≡ once (pair 9 16 ∷ pair 21 28 ∷ pair 33 40 ∷ [])
unfolding computing
or_in_head_pairs = refl

pub or_in_head_text : fixed_text or_in_head ≡ codes "for (x = (a in b || c in d && e in f);;) ;\n"
unfolding computing
or_in_head_text = refl

pub or_in_head_again : again (tokens "for (x = (a in b || c in d && e in f);;) ;\n") or_in_head ≡ 1 ∷ []
unfolding computing
or_in_head_again = refl

abbrev pub sum_in_head : Tree
sum_in_head = program 31 (one (n ForStatement 0 31 (part (n SequenceExpression 5 27 (two (t BinaryExpression "+" 5 24 (two (t BinaryExpression "in" 6 12 (two (id "a" 6) (id "b" 11))) (t BinaryExpression "in" 17 23 (two (id "c" 17) (id "d" 22))))) (id "e" 26))) (gap (gap (one (n EmptyStatement 30 31 none)))))))

pub sum_in_head_pairs : found (tokens "for ((a in b) + (c in d), e;;);") sum_in_head ≡ once (pair 5 12 ∷ pair 16 23 ∷ [])
unfolding computing
sum_in_head_pairs = refl

pub sum_in_head_text : fixed_text sum_in_head ≡ codes "for ((a in b) + (c in d), e;;) ;\n"
unfolding computing
sum_in_head_text = refl

pub sum_in_head_again : again (tokens "for ((a in b) + (c in d), e;;) ;\n") sum_in_head ≡ 2 ∷ []
unfolding computing
sum_in_head_again = refl

abbrev pub member_of_function : Tree
member_of_function = program 18 (one (st 0 18 (n MemberExpression 1 17 (two (n FunctionExpression 1 15 (gap (one (n BlockStatement 13 15 none)))) (id "a" 16)))))

pub member_of_function_pairs : found (tokens "(function () {}.a)") member_of_function ≡ once (pair 0 17 ∷ [])
unfolding computing
member_of_function_pairs = refl

pub member_of_function_text : fixed_text member_of_function ≡ codes "(function () {}).a;\n"
unfolding computing
member_of_function_text = refl

pub member_of_function_again : again (tokens "(function () {}).a;\n") member_of_function ≡ 1 ∷ []
unfolding computing
member_of_function_again = refl

abbrev pub sequence_and_arrow : Tree
sequence_and_arrow = program 21 (one (st 0 21 (n ConditionalExpression 0 21 (three (id "a" 0) (n SequenceExpression 5 9 (two (id "b" 5) (id "c" 8))) (short (n ArrowFunctionExpression 14 20 (two (id "d" 14) (id "e" 19))))))))

pub sequence_and_arrow_pairs : found (tokens "a ? (b, c) : (d => e)") sequence_and_arrow ≡ once (pair 4 9 ∷ pair 13 20 ∷ [])
unfolding computing
sequence_and_arrow_pairs = refl

pub sequence_and_arrow_text : fixed_text sequence_and_arrow ≡ codes "a ? (b, c) : d => e;\n"
unfolding computing
sequence_and_arrow_text = refl

pub sequence_and_arrow_again : again (tokens "a ? (b, c) : d => e;\n") sequence_and_arrow ≡ 1 ∷ []
unfolding computing
sequence_and_arrow_again = refl

abbrev pub holes : Tree
holes = program 10 (two (st 0 6 (n ArrayExpression 0 5 (part (id "a" 1) (gap none)))) (st 7 10 (n ArrayExpression 7 10 (gap none))))

pub holes_pairs : found (tokens "[a,,]; [,]") holes ≡ once []
unfolding computing
holes_pairs = refl

pub holes_text : fixed_text holes ≡ codes "[a, ,];\n[,];\n"
unfolding computing
holes_text = refl

pub holes_again : again (tokens "[a, ,];\n[,];\n") holes ≡ 0 ∷ []
unfolding computing
holes_again = refl

abbrev pub numbers : Tree
numbers = program 31 (part (st 0 8 (n MemberExpression 0 7 (two (lit "0x1" 1) (id "a" 6)))) (three (st 9 16 (n MemberExpression 9 15 (two (lit "1n" 10) (id "a" 14)))) (st 17 24 (computed (n MemberExpression 17 23 (two (lit "1" 18) (id "a" 21))))) (st 25 31 (t UnaryExpression "-" 25 31 (one (before (t UpdateExpression "--" 27 30 (one (id "a" 29)))))))))

pub numbers_pairs : found (tokens "(0x1).a; (1n).a; (1)[a]; -(--a)") numbers ≡ once (pair 0 4 ∷ pair 9 12 ∷ pair 17 19 ∷ pair 26 30 ∷ [])
unfolding computing
numbers_pairs = refl

pub numbers_text : fixed_text numbers ≡ codes "0x1 .a;\n1n.a;\n1[a];\n- --a;\n"
unfolding computing
numbers_text = refl

pub numbers_again : again (tokens "0x1 .a;\n1n.a;\n1[a];\n- --a;\n") numbers ≡ 0 ∷ []
unfolding computing
numbers_again = refl

abbrev pub cases : Tree
cases = program 34 (one (n SwitchStatement 0 34 (three (id "a" 8) (n SwitchCase 13 23 (two (lit "1" 18) (st 21 23 (id "b" 21)))) (n SwitchCase 24 32 (gap none)))))

pub cases_pairs : found (tokens "switch (a) { case 1: b; default: }") cases ≡ once []
unfolding computing
cases_pairs = refl

pub cases_text : fixed_text cases ≡ codes "switch (a) {\n  case 1:\n    b;\n  default:\n}\n"
unfolding computing
cases_text = refl

pub cases_again : again (tokens "switch (a) {\n  case 1:\n    b;\n  default:\n}\n") cases ≡ 0 ∷ []
unfolding computing
cases_again = refl

abbrev pub class_members : Tree
class_members = program 38 (one (n ClassDeclaration 0 38 (part (id "A" 6) (gap (one (n ClassBody 8 38 (two (formed Get (static_one (n MethodDefinition 10 27 (two (id "b" 21) (n FunctionExpression 22 27 (gap (one (n BlockStatement 25 27 none)))))))) (formed Method (n MethodDefinition 30 36 (two (id "c" 30) (n FunctionExpression 31 36 (gap (one (n BlockStatement 34 36 none))))))))))))))

pub class_members_pairs : found (tokens "class A { static get b() {} ; c() {} }") class_members ≡ once []
unfolding computing
class_members_pairs = refl

pub class_members_text : fixed_text class_members ≡ codes "class A {\n  static get b() {}\n  c() {}\n}\n"
unfolding computing
class_members_text = refl

pub class_members_again : again (tokens "class A {\n  static get b() {}\n  c() {}\n}\n") class_members ≡ 0 ∷ []
unfolding computing
class_members_again = refl

abbrev pub else_if : Tree
else_if = program 17 (one (n IfStatement 0 17 (three (id "a" 3) (n EmptyStatement 5 6 none) (n IfStatement 11 17 (part (id "b" 14) (part (st 16 17 (id "c" 16)) (gap none)))))))

pub else_if_pairs : found (tokens "if(a);else if(b)c") else_if ≡ once []
unfolding computing
else_if_pairs = refl

pub else_if_text : fixed_text else_if ≡ codes "if (a) ; else if (b) c;\n"
unfolding computing
else_if_text = refl

pub else_if_again : again (tokens "if (a) ; else if (b) c;\n") else_if ≡ 0 ∷ []
unfolding computing
else_if_again = refl

abbrev pub method_with_body : Tree
method_with_body = program 13 (one (st 0 13 (t AssignmentExpression "=" 0 13 (two (id "x" 0) (n ObjectExpression 4 13 (one (formed Method (n Property 5 12 (two (id "m" 5) (n FunctionExpression 6 12 (gap (one (n BlockStatement 9 12 (one (st 10 11 (id "a" 10))))))))))))))))

pub method_with_body_pairs : found (tokens "x = {m() {a}}") method_with_body ≡ once []
unfolding computing
method_with_body_pairs = refl

pub method_with_body_text : fixed_text method_with_body ≡ codes "x = {m() {\n  a;\n}};\n"
unfolding computing
method_with_body_text = refl

pub method_with_body_again : again (tokens "x = {m() {\n  a;\n}};\n") method_with_body ≡ 0 ∷ []
unfolding computing
method_with_body_again = refl

abbrev pub body_of_do : Tree
body_of_do = program 20 (two (n DoWhileStatement 0 14 (two (st 3 5 (id "a" 3)) (id "b" 12))) (st 15 20 (n NewExpression 15 20 (one (id "c" 19)))))

pub body_of_do_pairs : found (tokens "do a; while(b) new c") body_of_do ≡ once []
unfolding computing
body_of_do_pairs = refl

pub body_of_do_text : fixed_text body_of_do ≡ codes "do a; while (b);\nnew c();\n"
unfolding computing
body_of_do_text = refl

pub body_of_do_again : again (tokens "do a; while (b);\nnew c();\n") body_of_do ≡ 0 ∷ []
unfolding computing
body_of_do_again = refl

abbrev pub async_in_head : Tree
async_in_head = program 19 (one (n ForOfStatement 0 19 (three (id "async" 6) (id "a" 16) (n EmptyStatement 18 19 none))))

pub async_in_head_pairs : found (tokens "for ((async) of a);") async_in_head ≡ once (pair 5 11 ∷ [])
unfolding computing
async_in_head_pairs = refl

pub async_in_head_text : fixed_text async_in_head ≡ codes "for (async of a) ;\n"
unfolding computing
async_in_head_text = refl

pub async_in_head_again : again (tokens "for (async of a) ;\n") async_in_head ≡ 0 ∷ []
unfolding computing
async_in_head_again = refl

-- what stands in the head of a case is one level below the line of the case
abbrev pub function_as_case : Tree
function_as_case = program 38 (one (n SwitchStatement 0 38 (two (id "a" 8) (n SwitchCase 13 36 (one (n FunctionExpression 18 35 (gap (one (n BlockStatement 30 35 (one (st 32 33 (id "b" 32))))))))))))

pub function_as_case_pairs : found (tokens "switch (a) { case function () { b }: }") function_as_case ≡ once []
unfolding computing
function_as_case_pairs = refl

pub function_as_case_text : fixed_text function_as_case ≡ codes "switch (a) {\n  case function () {\n    b;\n  }:\n}\n"
unfolding computing
function_as_case_text = refl

pub function_as_case_again : again (tokens "switch (a) {\n  case function () {\n    b;\n  }:\n}\n") function_as_case ≡ 0 ∷ []
unfolding computing
function_as_case_again = refl

abbrev pub function_as_heritage : Tree
function_as_heritage = program 36 (one (n ClassDeclaration 0 36 (three (id "A" 6) (n FunctionExpression 16 33 (gap (one (n BlockStatement 28 33 (one (st 30 31 (id "b" 30))))))) (n ClassBody 34 36 none))))

pub function_as_heritage_pairs : found (tokens "class A extends function () { b } {}") function_as_heritage ≡ once []
unfolding computing
function_as_heritage_pairs = refl

pub function_as_heritage_text : fixed_text function_as_heritage ≡ codes "class A extends function () {\n  b;\n} {}\n"
unfolding computing
function_as_heritage_text = refl

pub function_as_heritage_again : again (tokens "class A extends function () {\n  b;\n} {}\n") function_as_heritage ≡ 0 ∷ []
unfolding computing
function_as_heritage_again = refl

-- no space before `?.`
abbrev pub number_before_chain : Tree
number_before_chain = program 4 (one (st 0 4 (n ChainExpression 0 4 (one (optional (n MemberExpression 0 4 (two (lit "1" 0) (id "a" 3))))))))

pub number_before_chain_pairs : found (tokens "1?.a") number_before_chain ≡ once []
unfolding computing
number_before_chain_pairs = refl

pub number_before_chain_text : fixed_text number_before_chain ≡ codes "1?.a;\n"
unfolding computing
number_before_chain_text = refl

pub number_before_chain_again : again (tokens "1?.a;\n") number_before_chain ≡ 0 ∷ []
unfolding computing
number_before_chain_again = refl

-- a space before `.` alone
abbrev pub member_before_chain : Tree
member_before_chain = program 9 (one (st 0 9 (n ChainExpression 0 9 (one (n MemberExpression 0 9 (two (optional (n MemberExpression 0 7 (two (n MemberExpression 0 4 (two (lit "1" 0) (id "a" 3))) (id "b" 6)))) (id "c" 8)))))))

pub member_before_chain_pairs : found (tokens "1 .a?.b.c") member_before_chain ≡ once []
unfolding computing
member_before_chain_pairs = refl

pub member_before_chain_text : fixed_text member_before_chain ≡ codes "1 .a?.b.c;\n"
unfolding computing
member_before_chain_text = refl

pub member_before_chain_again : again (tokens "1 .a?.b.c;\n") member_before_chain ≡ 0 ∷ []
unfolding computing
member_before_chain_again = refl

-- a part of a template never stands at 0, so its layout is read with its places below
abbrev pub template : Tree
template = program 10 (one (st 0 10 (n TemplateLiteral 0 10 (three (t TemplateElement "x" 1 2 none) (id "a" 5) (t TemplateElement "y" 8 9 none)))))

pub template_pairs : found (tokens "`x${(a)}y`") template ≡ once (pair 4 6 ∷ [])
unfolding computing
template_pairs = refl

pub template_text : fixed_text template ≡ codes "`x${a}y`;\n"
unfolding computing
template_text = refl

pub template_again : found (tokens "`x${a}y`;\n") (program 10 (one (st 0 9 (n TemplateLiteral 0 8 (three (t TemplateElement "x" 1 2 none) (id "a" 4) (t TemplateElement "y" 6 7 none)))))) ≡ once []
unfolding computing
template_again = refl

abbrev pub member_of_object : Tree
member_of_object = program 17 (one (n ForStatement 0 17 (part (t AssignmentExpression "=" 5 13 (two (id "x" 5) (n MemberExpression 9 13 (two (n ObjectExpression 9 11 none) (id "a" 12))))) (gap (gap (one (n EmptyStatement 16 17 none)))))))

pub member_of_object_pairs : found (tokens "for (x = {}.a;;);") member_of_object ≡ once []
unfolding computing
member_of_object_pairs = refl

pub member_of_object_text : fixed_text member_of_object ≡ codes "for (x = {}.a;;) ;\n"
unfolding computing
member_of_object_text = refl

pub member_of_object_again : again (tokens "for (x = {}.a;;) ;\n") member_of_object ≡ 0 ∷ []
unfolding computing
member_of_object_again = refl

abbrev pub new_of_object : Tree
new_of_object = program 11 (one (st 0 11 (n NewExpression 0 10 (one (n MemberExpression 4 8 (two (n ObjectExpression 4 6 none) (id "a" 7)))))))

pub new_of_object_pairs : found (tokens "new {}.a();") new_of_object ≡ once []
unfolding computing
new_of_object_pairs = refl

pub new_of_object_text : fixed_text new_of_object ≡ codes "new {}.a();\n"
unfolding computing
new_of_object_text = refl

pub new_of_object_again : again (tokens "new {}.a();\n") new_of_object ≡ 0 ∷ []
unfolding computing
new_of_object_again = refl
