-- Examples: `break`, `continue` and labels.
use Rattle.std.specs.Prelude.{◌≡◌, refl, [], ◌∷◌}
use Rattle.tree.specs.declared.kind.Kind.TheVariants.{ArrowFunctionExpression, BlockStatement, BreakStatement, CallExpression, ContinueStatement, DoWhileStatement, ExpressionStatement, ForInStatement, ForOfStatement, ForStatement, LabeledStatement, Program, SwitchCase, SwitchStatement, WhileStatement}
use Rattle.tree.specs.Tree.{gap, none}
use Rattle.early_errors.specs.Early.{errors}
use Rattle.language.proofs.examples.Trees.{id, n, one, three, two}
use Rattle.early_errors.proofs.Trees.{computing}

-- `while (a) { (() => { break })() }`
pub break_in_function : errors (n Program 0 33 (one (n WhileStatement 0 33 (two (id "a" 7) (n BlockStatement 10 33 (one (n ExpressionStatement 12 31 (one (n CallExpression 12 31 (one (n ArrowFunctionExpression 13 28 (one (n BlockStatement 19 28 (one (n BreakStatement 21 26 (gap none)))))))))))))))) ≡ (9, 21) ∷ []
unfolding computing
break_in_function = refl

-- `while (a) { break }`
pub break_in_loop : errors (n Program 0 19 (one (n WhileStatement 0 19 (two (id "a" 7) (n BlockStatement 10 19 (one (n BreakStatement 12 17 (gap none)))))))) ≡ []
unfolding computing
break_in_loop = refl

-- `switch (a) { case b: break }`
pub break_in_switch : errors (n Program 0 28 (one (n SwitchStatement 0 28 (two (id "a" 8) (n SwitchCase 13 26 (two (id "b" 18) (n BreakStatement 21 26 (gap none)))))))) ≡ []
unfolding computing
break_in_switch = refl

-- `break`
pub break_alone : errors (n Program 0 5 (one (n BreakStatement 0 5 (gap none)))) ≡ (9, 0) ∷ []
unfolding computing
break_alone = refl

-- `a: break`
pub break_in_label : errors (n Program 0 8 (one (n LabeledStatement 0 8 (two (id "a" 0) (n BreakStatement 3 8 (gap none)))))) ≡ (9, 3) ∷ []
unfolding computing
break_in_label = refl

-- `switch (a) { case b: continue }`
pub continue_in_switch : errors (n Program 0 31 (one (n SwitchStatement 0 31 (two (id "a" 8) (n SwitchCase 13 29 (two (id "b" 18) (n ContinueStatement 21 29 (gap none)))))))) ≡ (9, 21) ∷ []
unfolding computing
continue_in_switch = refl

-- `for (;;) switch (a) { case b: continue }`
pub continue_in_loop : errors (n Program 0 40 (one (n ForStatement 0 40 (gap (gap (gap (one (n SwitchStatement 9 40 (two (id "a" 17) (n SwitchCase 22 38 (two (id "b" 27) (n ContinueStatement 30 38 (gap none))))))))))))) ≡ []
unfolding computing
continue_in_loop = refl

-- `for (a in b) break`
pub break_in_for_in : errors (n Program 0 18 (one (n ForInStatement 0 18 (three (id "a" 5) (id "b" 10) (n BreakStatement 13 18 (gap none)))))) ≡ []
unfolding computing
break_in_for_in = refl

-- `for (a of b) { continue }`
pub continue_in_for_of : errors (n Program 0 25 (one (n ForOfStatement 0 25 (three (id "a" 5) (id "b" 10) (n BlockStatement 13 25 (one (n ContinueStatement 15 23 (gap none)))))))) ≡ []
unfolding computing
continue_in_for_of = refl

-- `a: for (b of c) for (d in e) continue a`
pub continue_for_of : errors (n Program 0 39 (one (n LabeledStatement 0 39 (two (id "a" 0) (n ForOfStatement 3 39 (three (id "b" 8) (id "c" 13) (n ForInStatement 16 39 (three (id "d" 21) (id "e" 26) (n ContinueStatement 29 39 (one (id "a" 38))))))))))) ≡ []
unfolding computing
continue_for_of = refl

-- `a: { continue a }`
pub continue_block : errors (n Program 0 17 (one (n LabeledStatement 0 17 (two (id "a" 0) (n BlockStatement 3 17 (one (n ContinueStatement 5 15 (one (id "a" 14))))))))) ≡ (10, 14) ∷ []
unfolding computing
continue_block = refl

-- `a: { while (b) continue a }`
pub continue_inner_loop : errors (n Program 0 27 (one (n LabeledStatement 0 27 (two (id "a" 0) (n BlockStatement 3 27 (one (n WhileStatement 5 25 (two (id "b" 12) (n ContinueStatement 15 25 (one (id "a" 24))))))))))) ≡ (10, 24) ∷ []
unfolding computing
continue_inner_loop = refl

-- `a: while (b) { continue a }`
pub continue_loop : errors (n Program 0 27 (one (n LabeledStatement 0 27 (two (id "a" 0) (n WhileStatement 3 27 (two (id "b" 10) (n BlockStatement 13 27 (one (n ContinueStatement 15 25 (one (id "a" 24))))))))))) ≡ []
unfolding computing
continue_loop = refl

-- `a: b: do { continue a } while (c)`
pub continue_loop_of_two_labels : errors (n Program 0 33 (one (n LabeledStatement 0 33 (two (id "a" 0) (n LabeledStatement 3 33 (two (id "b" 3) (n DoWhileStatement 6 33 (two (n BlockStatement 9 23 (one (n ContinueStatement 11 21 (one (id "a" 20))))) (id "c" 31))))))))) ≡ []
unfolding computing
continue_loop_of_two_labels = refl

-- `a: { break a }`
pub break_block : errors (n Program 0 14 (one (n LabeledStatement 0 14 (two (id "a" 0) (n BlockStatement 3 14 (one (n BreakStatement 5 12 (one (id "a" 11))))))))) ≡ []
unfolding computing
break_block = refl

-- `while (a) break b`
pub break_unknown : errors (n Program 0 17 (one (n WhileStatement 0 17 (two (id "a" 7) (n BreakStatement 10 17 (one (id "b" 16))))))) ≡ (10, 16) ∷ []
unfolding computing
break_unknown = refl

-- `a: while (b) () => { break a }`
pub break_out_of_function : errors (n Program 0 30 (one (n LabeledStatement 0 30 (two (id "a" 0) (n WhileStatement 3 30 (two (id "b" 10) (n ExpressionStatement 13 30 (one (n ArrowFunctionExpression 13 30 (one (n BlockStatement 19 30 (one (n BreakStatement 21 28 (one (id "a" 27))))))))))))))) ≡ (10, 27) ∷ []
unfolding computing
break_out_of_function = refl

-- `a: a: b`
pub label_twice : errors (n Program 0 7 (one (n LabeledStatement 0 7 (two (id "a" 0) (n LabeledStatement 3 7 (two (id "a" 3) (n ExpressionStatement 6 7 (one (id "b" 6))))))))) ≡ (11, 3) ∷ []
unfolding computing
label_twice = refl

-- `a: while (b) { a: c }`
pub label_in_loop_twice : errors (n Program 0 21 (one (n LabeledStatement 0 21 (two (id "a" 0) (n WhileStatement 3 21 (two (id "b" 10) (n BlockStatement 13 21 (one (n LabeledStatement 15 19 (two (id "a" 15) (n ExpressionStatement 18 19 (one (id "c" 18))))))))))))) ≡ (11, 15) ∷ []
unfolding computing
label_in_loop_twice = refl

-- `a: () => { a: b }`
pub label_in_function : errors (n Program 0 17 (one (n LabeledStatement 0 17 (two (id "a" 0) (n ExpressionStatement 3 17 (one (n ArrowFunctionExpression 3 17 (one (n BlockStatement 9 17 (one (n LabeledStatement 11 15 (two (id "a" 11) (n ExpressionStatement 14 15 (one (id "b" 14))))))))))))))) ≡ []
unfolding computing
label_in_function = refl

-- `a: b; a: c`
pub label_again : errors (n Program 0 10 (two (n LabeledStatement 0 5 (two (id "a" 0) (n ExpressionStatement 3 5 (one (id "b" 3))))) (n LabeledStatement 6 10 (two (id "a" 6) (n ExpressionStatement 9 10 (one (id "c" 9))))))) ≡ []
unfolding computing
label_again = refl
