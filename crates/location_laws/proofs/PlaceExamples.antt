-- Examples: trees in order and trees that aren't, the places of scopes, and lists of places.
use Rattle.std.specs.Prelude.{◌≡◌, true, false, [], ◌∷◌, refl}
use Rattle.tree.specs.declared.kind.Kind.TheVariants.{ArrowFunctionExpression, AssignmentExpression, AssignmentPattern, BinaryExpression, BlockStatement, CatchClause, ClassBody, ClassDeclaration, DoWhileStatement, ForOfStatement, FunctionDeclaration, FunctionExpression, MethodDefinition, ObjectExpression, ObjectPattern, Property, StaticBlock, SwitchCase, SwitchStatement, TryStatement, VariableDeclaration, VariableDeclarator}
use Rattle.tree.specs.declared.kind.Form.TheVariants.{Method, Shorthand}
use Rattle.tree.specs.Tree.{Tree, gap, none, part}
use Rattle.language.proofs.examples.Trees.{computed, formed, id, lit, n, one, program, short, st, t, three, two}
use Rattle.name_tables.specs.BoundNames.{bound_names, all_bound_names, first_bound_names, last_bound_names}
use Rattle.scopes.specs.Bindings.{vars_in, parts_vars}
use Rattle.location_laws.specs.InOrder.{in_order, parts_in_order, key_in_value}
use Rattle.location_laws.specs.ScopeRanges.{scope_ranges, ranges_in, ranges_in_all, ranges_from, are_nested, are_disjoint_from}

-- `({a, b: a, [a]: a}); ({a = a} = a)`
abbrev shorthand_tree : Tree
shorthand_tree = program 34 (two (st 0 20 (n ObjectExpression 1 18 (three (formed Shorthand (n Property 2 3 (two (id "a" 2) (id "a" 2)))) (n Property 5 9 (two (id "b" 5) (id "a" 8))) (computed (n Property 11 17 (two (id "a" 12) (id "a" 16))))))) (st 21 34 (t AssignmentExpression "=" 22 33 (two (n ObjectPattern 22 29 (one (formed Shorthand (n Property 23 28 (two (id "a" 23) (n AssignmentPattern 23 28 (two (id "a" 23) (id "a" 27)))))))) (id "a" 32)))))

shorthand_in_order : in_order shorthand_tree ≡ true
unfolding in_order parts_in_order key_in_value
shorthand_in_order = refl

-- `do a; while (b)`
do_in_order : in_order (program 15 (one (n DoWhileStatement 0 15 (two (st 3 5 (id "a" 3)) (id "b" 13))))) ≡ true
unfolding in_order parts_in_order key_in_value
do_in_order = refl

-- with its parts the other way round
turned_is_none : in_order (program 15 (one (n DoWhileStatement 0 15 (two (id "b" 13) (st 3 5 (id "a" 3)))))) ≡ false
unfolding in_order parts_in_order key_in_value
turned_is_none = refl

-- `a + b`, where the second name begins within the first; where the whole ends before it
overlap_is_none : in_order (t BinaryExpression "+" 0 5 (two (id "aaaaa" 0) (id "b" 4))) ≡ false
unfolding in_order parts_in_order key_in_value
overlap_is_none = refl

outside_is_none : in_order (t BinaryExpression "+" 0 4 (two (id "a" 0) (id "b" 4))) ≡ false
unfolding in_order parts_in_order key_in_value
outside_is_none = refl

-- a key in its value's place, in a property that has a key of its own; and a shorthand property's key beside its value
own_key_is_none : in_order (n Property 2 3 (two (id "a" 2) (id "a" 2))) ≡ false
unfolding in_order parts_in_order key_in_value
own_key_is_none = refl

beside_is_none : in_order (formed Shorthand (n Property 2 6 (two (id "a" 2) (id "a" 5)))) ≡ false
unfolding in_order parts_in_order key_in_value
beside_is_none = refl

-- `switch (() => a) { case 1: let a; a }`: the cases' scope begins behind what is tested
switch_places : scope_ranges (program 37 (one (n SwitchStatement 0 37 (two (short (n ArrowFunctionExpression 8 15 (one (id "a" 14)))) (n SwitchCase 19 35 (three (lit "1" 24) (t VariableDeclaration "let" 27 33 (one (n VariableDeclarator 31 32 (part (id "a" 31) (gap none))))) (st 34 35 (id "a" 34)))))))) ≡ (0, 37) ∷ (8, 15) ∷ (15, 37) ∷ []
unfolding ranges_in ranges_in_all ranges_from bound_names all_bound_names first_bound_names last_bound_names vars_in parts_vars
switch_places = refl

-- `class A extends A { m() { A } }`
class_places : scope_ranges (program 31 (one (n ClassDeclaration 0 31 (three (id "A" 6) (id "A" 16) (n ClassBody 18 31 (one (formed Method (n MethodDefinition 20 29 (two (id "m" 20) (n FunctionExpression 21 29 (gap (one (n BlockStatement 24 29 (one (st 26 27 (id "A" 26)))))))))))))))) ≡ (0, 31) ∷ (7, 31) ∷ (21, 29) ∷ []
unfolding ranges_in ranges_in_all ranges_from bound_names all_bound_names first_bound_names last_bound_names vars_in parts_vars
class_places = refl

-- `a => a`: the script and the arrow have one place
arrow_places : scope_ranges (program 6 (one (st 0 6 (short (n ArrowFunctionExpression 0 6 (two (id "a" 0) (id "a" 5))))))) ≡ (0, 6) ∷ (0, 6) ∷ []
unfolding ranges_in ranges_in_all ranges_from bound_names all_bound_names first_bound_names last_bound_names vars_in parts_vars
arrow_places = refl

-- `for (let b of []) { }`, `function f(b) { var b }`, `try {} catch (e) {}`
for_places : scope_ranges (program 21 (one (n ForOfStatement 0 21 (three (t VariableDeclaration "let" 5 10 (one (n VariableDeclarator 9 10 (part (id "b" 9) (gap none))))) (lit "1" 14) (n BlockStatement 18 21 none))))) ≡ (0, 21) ∷ (0, 21) ∷ (18, 21) ∷ []
unfolding ranges_in ranges_in_all ranges_from bound_names all_bound_names first_bound_names last_bound_names vars_in parts_vars
for_places = refl

function_places : scope_ranges (program 23 (one (n FunctionDeclaration 0 23 (three (id "f" 9) (id "b" 11) (n BlockStatement 14 23 (one (t VariableDeclaration "var" 16 21 (one (n VariableDeclarator 20 21 (part (id "b" 20) (gap none))))))))))) ≡ (0, 23) ∷ (10, 23) ∷ []
unfolding ranges_in ranges_in_all ranges_from bound_names all_bound_names first_bound_names last_bound_names vars_in parts_vars
function_places = refl

catch_places : scope_ranges (program 19 (one (n TryStatement 0 19 (part (n BlockStatement 4 6 none) (part (n CatchClause 7 19 (two (id "e" 14) (n BlockStatement 17 19 none))) (gap none)))))) ≡ (0, 19) ∷ (4, 6) ∷ (7, 19) ∷ (17, 19) ∷ []
unfolding ranges_in ranges_in_all ranges_from bound_names all_bound_names first_bound_names last_bound_names vars_in parts_vars
catch_places = refl

-- `class A { static { let a } }`
static_places : scope_ranges (program 28 (one (n ClassDeclaration 0 28 (part (id "A" 6) (gap (one (n ClassBody 8 28 (one (n StaticBlock 10 26 (one (t VariableDeclaration "let" 19 24 (one (n VariableDeclarator 23 24 (part (id "a" 23) (gap none))))))))))))))) ≡ (0, 28) ∷ (7, 28) ∷ (10, 26) ∷ []
unfolding ranges_in ranges_in_all ranges_from bound_names all_bound_names first_bound_names last_bound_names vars_in parts_vars
static_places = refl

-- outer before inner, then the next; not inner before outer, nor one that begins in another and ends behind it
nested_ones : are_nested ((0, 37) ∷ (8, 15) ∷ (9, 12) ∷ (15, 37) ∷ []) ≡ true
nested_ones = refl

inner_first : are_nested ((8, 15) ∷ (0, 37) ∷ []) ≡ false
inner_first = refl

crossing : are_nested ((0, 10) ∷ (5, 12) ∷ []) ≡ false
crossing = refl

apart_ones : are_disjoint_from 0 ((0, 1) ∷ (1, 3) ∷ (8, 9) ∷ []) ≡ true
apart_ones = refl

later_first : are_disjoint_from 0 ((8, 9) ∷ (1, 3) ∷ []) ≡ false
later_first = refl

twice_one : are_disjoint_from 0 ((2, 3) ∷ (2, 3) ∷ []) ≡ false
twice_one = refl

empty_one : are_disjoint_from 0 ((2, 2) ∷ []) ≡ false
empty_one = refl
