-- Examples: how statements complete, and trees whose texts are read so.
use Rattle.std.proofs.Common.{ap, ◌∙◌}
use Rattle.std.specs.Prelude.{true, ◌≡◌, ℕ, refl, false, []}
use Rattle.tree.specs.declared.kind.Kind.TheVariants.{BlockStatement, BreakStatement, CatchClause, ContinueStatement, DoWhileStatement, EmptyStatement, ForInStatement, ForOfStatement, ForStatement, FunctionDeclaration, IfStatement, LabeledStatement, ReturnStatement, SwitchCase, SwitchStatement, ThrowStatement, TryStatement, WhileStatement}
use Rattle.tree.specs.Tree.{Tree, Parts, none, part, gap}
use Rattle.language.proofs.examples.Sources.{tokens}
use Rattle.language.proofs.examples.Trees.{computing, found, id, lit, n, once, one, program as whole, st, three, two}
use Rattle.flow_rules.specs.Completion as flow
use Rattle.completion_laws.specs.Completions.{Completion, Normal, Return, Throw, WithArgument, WithoutArgument, is_normal, here, later, Completes, simple, throws, returns_at_yield, program, block, if_true, if_false, if_neither, do_left, do_goes_on, while, for, for_in, for_of, continue, continue_to, break, break_to, return, return_value, switch_entered, switch_passed, case, default, labelled, try_passed, try_caught, try_alone, catch, catch_all, all_done, done, left, Rounds, ended, leaves, again, Finally, no_finalizer, kept, overridden}
use Rattle.completion_laws.specs.Reaches.{Reaches, first, behind}
use Rattle.completion_laws.proofs.Leaving.{Seeks, sought}
use Rattle.completion_laws.proofs.NormalCompletions.{broken, can}

computing_flow : ℕ
unfolding flow.normal flow.all_normal flow.nth_normal flow.last_normal flow.has flow.some
computing_flow = 0

never : {t : Tree} → flow.normal t ≡ false → Completes [] t Normal → ⊥
never h d = let m = (can d refl).normal in cc

-- `a: do { continue a; } while (b);`
abbrev labelled_do : Tree
labelled_do =
    n LabeledStatement 0 32
    (two (id "a" 0) (n DoWhileStatement 3 32
    (two (n BlockStatement 6 21 (one (n ContinueStatement 8 19 (one (id "a" 17))))) (id "b" 29))))

labelled_do_read : found (tokens "a: do { continue a; } while (b);") (whole 32 (one labelled_do)) ≡ once []
unfolding computing
labelled_do_read = refl

labelled_do_ends : Completes [] labelled_do Normal
labelled_do_ends = labelled refl (do_goes_on refl (block (left (continue_to refl) refl)) refl ended) refl

-- `a: b: do continue a; while (c);`
abbrev twice_labelled : Tree
twice_labelled =
    n LabeledStatement 0 31
    (two (id "a" 0) (n LabeledStatement 3 31
    (two (id "b" 3) (n DoWhileStatement 6 31 (two (n ContinueStatement 9 20 (one (id "a" 18))) (id "c" 28))))))

twice_labelled_read : found (tokens "a: b: do continue a; while (c);") (whole 31 (one twice_labelled)) ≡ once []
unfolding computing
twice_labelled_read = refl

twice_labelled_ends : Completes [] twice_labelled Normal
twice_labelled_ends = labelled refl (labelled refl (do_goes_on refl (continue_to refl) refl ended) refl) refl

-- `do break; while (true);`
abbrev left_do : Tree
left_do = n DoWhileStatement 0 23 (two (n BreakStatement 3 9 (gap none)) (lit "true" 17))

left_do_read : found (tokens "do break; while (true);") (whole 23 (one left_do)) ≡ once []
unfolding computing
left_do_read = refl

broken_do : Completes [] left_do Normal
broken_do = do_left break refl refl

-- `while (true) try { a; } finally { break; }`
abbrev overridden_try : Tree
overridden_try =
    n WhileStatement 0 42
    (two (lit "true" 7) (n TryStatement 13 42
    (part (n BlockStatement 17 23 (one (st 19 21 (id "a" 19))))
    (gap (one (n BlockStatement 32 42 (one (n BreakStatement 34 40 (gap none)))))))))

overridden_try_read : found (tokens "while (true) try { a; } finally { break; }") (whole 42 (one overridden_try)) ≡ once []
unfolding computing
overridden_try_read = refl

overridden_by_break : Completes [] overridden_try Normal
overridden_by_break =
    while (leaves (try_alone (block (done (simple refl) all_done)) (overridden (block (left break refl)) refl)) refl refl)

-- `switch (a) { case b: c; default: break; case d: }`
abbrev cases : Tree
cases =
    n SwitchStatement 0 49
    (part (id "a" 8) (three (n SwitchCase 13 23 (two (id "b" 18) (st 21 23 (id "c" 21))))
    (n SwitchCase 24 39 (gap (one (n BreakStatement 33 39 (gap none))))) (n SwitchCase 40 47 (one (id "d" 45)))))

cases_read : found (tokens "switch (a) { case b: c; default: break; case d: }") (whole 49 (one cases)) ≡ once []
unfolding computing
cases_read = refl

falls_to_default : Completes [] cases Normal
falls_to_default =
    switch_entered here (done (case refl (done (simple refl) all_done)) (left (default (left break refl)) refl)) refl

enters_the_last : Completes [] cases Normal
enters_the_last = switch_entered (later (later here)) (done (case refl all_done) all_done) refl

-- `switch (a) { case b: throw c; }`
abbrev only_case : Tree
only_case =
    n SwitchStatement 0 31 (two (id "a" 8) (n SwitchCase 13 29 (two (id "b" 18) (n ThrowStatement 21 29 (one (id "c" 27))))))

only_case_read : found (tokens "switch (a) { case b: throw c; }") (whole 31 (one only_case)) ≡ once []
unfolding computing
only_case_read = refl

no_case_matches : Completes [] only_case Normal
no_case_matches = switch_passed refl

the_case_throws : Completes [] only_case Throw
the_case_throws = switch_entered here (left (case refl (left throws refl)) refl) refl

-- `for (;;) { if (a) break; else continue; }`
abbrev endless : Tree
endless =
    n ForStatement 0 41
    (gap (gap (gap (one (n BlockStatement 9 41
    (one (n IfStatement 11 39
    (three (id "a" 15) (n BreakStatement 18 24 (gap none)) (n ContinueStatement 30 39 (gap none))))))))))

endless_read : found (tokens "for (;;) { if (a) break; else continue; }") (whole 41 (one endless)) ≡ once []
unfolding computing
endless_read = refl

endless_for_left : Completes [] endless Normal
endless_for_left =
    for refl (again (block (left (if_false continue) refl)) refl (leaves (block (left (if_true break) refl)) refl refl))

-- `for (a in b) continue;`
abbrev keys : Tree
keys = n ForInStatement 0 22 (three (id "a" 5) (id "b" 10) (n ContinueStatement 13 22 (gap none)))

keys_read : found (tokens "for (a in b) continue;") (whole 22 (one keys)) ≡ once []
unfolding computing
keys_read = refl

keys_end : Completes [] keys Normal
keys_end = for_in (again continue refl ended)

-- `for (a of b) break;`
abbrev values : Tree
values = n ForOfStatement 0 19 (three (id "a" 5) (id "b" 10) (n BreakStatement 13 19 (gap none)))

values_read : found (tokens "for (a of b) break;") (whole 19 (one values)) ≡ once []
unfolding computing
values_read = refl

values_end : Completes [] values Normal
values_end = for_of (leaves break refl refl)

-- `try { throw a; } catch (b) { } finally { c; }`
abbrev handled : Tree
handled =
    n TryStatement 0 45
    (three (n BlockStatement 4 16 (one (n ThrowStatement 6 14 (one (id "a" 12)))))
    (n CatchClause 17 30 (two (id "b" 24) (n BlockStatement 27 30 none))) (n BlockStatement 39 45 (one (st 41 43 (id "c" 41)))))

handled_read : found (tokens "try { throw a; } catch (b) { } finally { c; }") (whole 45 (one handled)) ≡ once []
unfolding computing
handled_read = refl

throw_handled : Completes [] handled Normal
throw_handled = try_caught throws (catch refl (block all_done)) (kept (block (done (simple refl) all_done)))

-- `try { a; } catch { throw b; }`
abbrev throwing_handler : Tree
throwing_handler =
    n TryStatement 0 29
    (part (n BlockStatement 4 10 (one (st 6 8 (id "a" 6))))
    (part (n CatchClause 11 29 (gap (one (n BlockStatement 17 29 (one (n ThrowStatement 19 27 (one (id "b" 25))))))))
    (gap none)))

throwing_handler_read : found (tokens "try { a; } catch { throw b; }") (whole 29 (one throwing_handler)) ≡ once []
unfolding computing
throwing_handler_read = refl

handler_passed : Completes [] throwing_handler Normal
handler_passed = try_passed (block (done (simple refl) all_done)) refl no_finalizer

handler_throws : Completes [] throwing_handler Throw
handler_throws = try_caught throws (catch_all (block (left throws refl))) no_finalizer

-- `while (0) throw a;`
abbrev zero : Tree
zero = n WhileStatement 0 18 (two (lit "0" 7) (n ThrowStatement 10 18 (one (id "a" 16))))

zero_read : found (tokens "while (0) throw a;") (whole 18 (one zero)) ≡ once []
unfolding computing
zero_read = refl

zero_is_false : Completes [] zero Normal
zero_is_false = while ended

-- `a: { b; break a; }`
abbrev labelled_block : Tree
labelled_block =
    n LabeledStatement 0 18
    (two (id "a" 0) (n BlockStatement 3 18 (two (st 5 7 (id "b" 5)) (n BreakStatement 8 16 (one (id "a" 14))))))

labelled_block_read : found (tokens "a: { b; break a; }") (whole 18 (one labelled_block)) ≡ once []
unfolding computing
labelled_block_read = refl

block_left : Completes [] labelled_block Normal
block_left = labelled refl (block (done (simple refl) (left (break_to refl) refl))) refl

-- `a: for (b of c) for (;;) continue a;`
abbrev outer_loop : Tree
outer_loop =
    n LabeledStatement 0 36
    (two (id "a" 0) (n ForOfStatement 3 36
    (three (id "b" 8) (id "c" 13)
    (n ForStatement 16 36 (gap (gap (gap (one (n ContinueStatement 25 36 (one (id "a" 34)))))))))))

outer_loop_read : found (tokens "a: for (b of c) for (;;) continue a;") (whole 36 (one outer_loop)) ≡ once []
unfolding computing
outer_loop_read = refl

outer_loop_goes_on : Completes [] outer_loop Normal
outer_loop_goes_on = labelled refl (for_of (again (for refl (leaves (continue_to refl) refl refl)) refl ended)) refl

-- `function f() { if (a) return; return b; }`
abbrev body : Tree
body =
    n BlockStatement 13 41
    (two (n IfStatement 15 29 (part (id "a" 19) (part (n ReturnStatement 22 29 (gap none)) (gap none))))
    (n ReturnStatement 30 39 (one (id "b" 37))))

body_read : found (tokens "function f() { if (a) return; return b; }")
    (whole 41 (one (n FunctionDeclaration 0 41 (two (id "f" 9) body)))) ≡ once []
unfolding computing
body_read = refl

gives : Completes [] body (Return WithArgument)
gives = block (done if_neither (left return_value refl))

gives_none : Completes [] body (Return WithoutArgument)
gives_none = block (left (if_true return) refl)

-- What never does

-- `while (true) a;`
endless_while : Completes [] (n WhileStatement 0 15 (two (lit "true" 7) (st 13 15 (id "a" 13)))) Normal → ⊥
unfolding computing_flow
endless_while = never refl

-- `a: { while (true) { break; } throw b; }`
inner_break : Completes []
    (n LabeledStatement 0 39
    (two (id "a" 0) (n BlockStatement 3 39
    (two (n WhileStatement 5 28 (two (lit "true" 12) (n BlockStatement 18 28 (one (n BreakStatement 20 26 (gap none))))))
    (n ThrowStatement 29 37 (one (id "b" 35))))))) Normal → ⊥
unfolding computing_flow
inner_break = never refl

-- `try { a; } finally { throw b; }`
throwing_finalizer : Completes []
    (n TryStatement 0 31 (part (n BlockStatement 4 10 (one (st 6 8 (id "a" 6))))
    (gap (one (n BlockStatement 19 31 (one (n ThrowStatement 21 29 (one (id "b" 27))))))))) Normal → ⊥
unfolding computing_flow
throwing_finalizer = never refl

-- `switch (a) { default: throw b; case c: throw d; }`
default_first : Completes []
    (n SwitchStatement 0 49
    (three (id "a" 8) (n SwitchCase 13 30 (gap (one (n ThrowStatement 22 30 (one (id "b" 28))))))
    (n SwitchCase 31 47 (two (id "c" 36) (n ThrowStatement 39 47 (one (id "d" 45))))))) Normal → ⊥
unfolding computing_flow
default_first = never refl

-- `a: while (12) continue a;`
own_continue : Completes []
    (n LabeledStatement 0 25
    (two (id "a" 0) (n WhileStatement 3 25 (two (lit "12" 10) (n ContinueStatement 14 25 (one (id "a" 23))))))) Normal → ⊥
unfolding computing_flow
own_continue = never refl

-- `a: for (;;) { continue; }`
unlabelled : Completes []
    (n LabeledStatement 0 25
    (two (id "a" 0) (n ForStatement 3 25
    (gap (gap (gap (one (n BlockStatement 12 25 (one (n ContinueStatement 14 23 (gap none))))))))))) Normal → ⊥
unfolding computing_flow
unlabelled = never refl

-- Where `normal` is content with a `break` that stands somewhere: `while (true) try { break; } finally { continue; }`
abbrev finalizer : Tree
finalizer = n BlockStatement 36 49 (one (n ContinueStatement 38 47 (gap none)))

abbrev tried : Tree
tried = n TryStatement 13 49 (part (n BlockStatement 17 27 (one (n BreakStatement 19 25 (gap none)))) (gap (one finalizer)))

abbrev round_and_round : Tree
round_and_round = n WhileStatement 0 49 (two (lit "true" 7) tried)

normal_by_its_break : flow.normal round_and_round ≡ true
unfolding computing_flow
normal_by_its_break = refl

never_broken : {c d : Completion} → Finally (one finalizer) c d → Seeks d flow.Break → ⊥
unfolding computing_flow
never_broken (kept h) s = never refl h
never_broken (overridden h i) s = let p = (sought h s).stands in cc

never_left : {c : Completion} → Completes [] tried c → Seeks c flow.Break → ⊥
never_left (simple h) s = absurd (cc)
never_left throws s = elim s [ ]
never_left returns_at_yield s = elim s [ ]
never_left (try_alone d f) s = never_broken f s

no_round_is_the_last : {c : Completion} → Rounds [] tried false c → is_normal c ≡ true → ⊥
no_round_is_the_last (leaves {c = c} d l e) h = never_left d (broken [] c l (ap is_normal e ∙ h))
no_round_is_the_last (again d l r) h = no_round_is_the_last r h

yet_never : Completes [] round_and_round Normal → ⊥
yet_never (simple h) = absurd (cc)
yet_never (while r) = no_round_is_the_last r refl

-- What a list comes to: `{ a; return; b; }`
abbrev statements : Parts
statements = three (st 2 4 (id "a" 2)) (n ReturnStatement 5 12 (gap none)) (st 13 15 (id "b" 13))

second_reached : Reaches statements 1
second_reached = behind (simple refl) first

third_never : Reaches statements 2 → ⊥
unfolding computing_flow
third_never (behind d (behind e r)) = never refl e

-- `a; ;`
script_ends : Completes [] (whole 4 (two (st 0 2 (id "a" 0)) (n EmptyStatement 3 4 none))) Normal
script_ends = program (done (simple refl) (done (simple refl) all_done))
