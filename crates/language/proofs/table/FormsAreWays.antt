-- The other way round: the form of a chosen production is a way of the table. For expressions and statements.
use Rattle.std.proofs.Common.{◌≡◌, ℕ, Bool, true, false, cond, List, [], ◌∷◌, sym, subst}
use Rattle.tree.specs.declared.kind.Kind.{Kind}
use Rattle.tree.specs.declared.kind.Kind.TheVariants as kind
use Rattle.tree.specs.declared.kind.Flags.{Flags}
use Rattle.tree.specs.declared.kind.Form.{Form as MethodForm}
use Rattle.tree.specs.Tree.{Parts, none, part, gap}
use Rattle.language.specs.declared.Rank.{Rank}
use Rattle.language.specs.declared.Start.{Start}
use Rattle.language.specs.Pieces.{item, switch_case, term, expr, sp, sign, Spelling}
use Rattle.language.specs.Expressions.{expressions, op_arrow, binary_ways, logical_ways, yields}
use Rattle.language.specs.FirstPart.{others}
use Rattle.language.specs.Statements.{statements, lines, whole}
use Rattle.language.specs.Derivation.{Among, first, later}
use Rattle.language.specs.Forms.{Production, form, spelling_of}
use Rattle.language.specs.Forms as made
use Rattle.language.specs.Chosen as chosen
use Rattle.language.specs.Chosen.{Chosen, ChosenStatement}
use Rattle.language.proofs.table.InLists.{in_true, in_false, in_left, in_right}
use Rattle.language.proofs.table.EveryWay.{formed_function, formed_class, formed_braced, formed_for, formed_short_arrow, formed_private}

is_first : {x y : Spelling} {xs : List Spelling} → x ≡ y → Among x (y ∷ xs)
is_first {x} {y} {xs} e = subst (λ z. Among z (y ∷ xs)) (sym e) first

way_of_arrow : (w : List ℕ) (g : Flags) (ps : Parts) → Among (spelling_of (form (made.arrow g.form)) w g ps) (op_arrow g ps)
way_of_arrow w g none = first
way_of_arrow w g (gap ps) = first
way_of_arrow w g (part n none) = first
way_of_arrow w g (part n (gap ps)) = first
way_of_arrow w g (part n (part b none)) = in_right _ first
way_of_arrow w g (part n (part b (part m ps))) = first
way_of_arrow w g (part n (part b (gap ps))) = first

-- a test before which the same stands changes nothing
after_test : (b : Bool) {x : Spelling} {xs : List Spelling} → Among x xs → Among x (cond b (x ∷ []) xs)
after_test true h = first
after_test false h = h

yield_way : (p : Production) (w : List ℕ) (g : Flags) {z : MethodForm} {ps qs : Parts} → g.form ≡ z → ps ≡ qs → Among (spelling_of (form p) w g qs) (yields z qs) → Among (spelling_of (form p) w g ps) (yields g.form ps)
yield_way p w g {qs = qs} e d h = subst (λ u. Among (spelling_of (form p) w g u) (yields g.form u)) (sym d) (subst (λ x. Among (spelling_of (form p) w g qs) (yields x qs)) (sym e) h)

pub is_way : {k : Kind} {w : List ℕ} {g : Flags} {ps : Parts} {p : Production} {y : Rank} {i : Bool} {f : Start} → Chosen w g ps (expr y i f) k p → Among (spelling_of (form p) w g ps) (expressions k w g ps)
unfolding expressions
is_way (chosen.identifier h) = in_false _ _ h first
is_way (chosen.literal h) = in_false _ _ h first
is_way {w = w} {g = g} {ps = ps} chosen.function = is_first (sym (formed_function g.form w g ps))
is_way {w = w} {g = g} {ps = ps} chosen.class = is_first (sym (formed_class w g ps))
is_way {w = w} {g = g} (chosen.short_arrow {n = n} {b = b} e h) =
    subst (λ z. Among (spelling_of (form (made.short_arrow g.form)) w g z) (op_arrow g z)) (sym e)
    (in_left _ (in_true _ _ h (is_first (sym (formed_short_arrow w g (part n (part b none)))))))
is_way {w = w} {g = g} {ps = ps} chosen.arrow = way_of_arrow w g ps
is_way (chosen.super_member o s) = in_false _ _ o (in_true _ _ s first)
is_way (chosen.member_access o s) = in_false _ _ o (in_false _ _ s first)
is_way (chosen.super_call o s) = in_false _ _ o (in_true _ _ s first)
is_way (chosen.call o s) = in_false _ _ o (in_false _ _ s first)
is_way (chosen.new_without h) = later (in_true _ _ h first)
is_way (chosen.new_target h) = in_true _ _ h first
is_way (chosen.import_meta h) = after_test _ (in_true _ _ h first)
is_way (chosen.chain h) = in_true _ _ h first
is_way (chosen.prefix h p) = in_false _ _ h (in_true _ _ p first)
is_way (chosen.postfix h p) = in_false _ _ h (in_false _ _ p first)
is_way (chosen.unary_word h v) = in_false _ _ h (in_true _ _ v first)
is_way (chosen.unary_sign h v) = in_false _ _ h (in_false _ _ v first)
is_way {w = w} {g = g} {ps = ps} (chosen.private_left p h) = in_true _ _ p (in_true _ _ h (is_first (sym (formed_private w g ps h))))
is_way {w = w} {g = g} (chosen.yield_alone e p) = yield_way made.yield_alone w g e p first
is_way {w = w} {g = g} (chosen.yield_operand e p) = yield_way made.yield_operand w g e p first
is_way {w = w} {g = g} (chosen.yield_from e p) = yield_way made.yield_from w g e p first
is_way {w = w} {g = g} {ps = ps} (chosen.power p h) = in_false _ _ p (subst (λ o. Among (spelling_of (form made.power) w g ps) (binary_ways w o)) (sym h) first)
is_way {w = w} {g = g} {ps = ps} (chosen.binary {z = z} {q = q} p h) = in_false _ _ p (subst (λ o. Among (spelling_of (form (made.binary z q)) w g ps) (binary_ways w o)) (sym h) first)
is_way {w = w} {g = g} {ps = ps} (chosen.logical {z = z} {q = q} h) = subst (λ o. Among (spelling_of (form (made.binary z q)) w g ps) (logical_ways w o)) (sym h) first
is_way (chosen.assign h t) = in_false _ _ h (in_true _ _ t first)
is_way (chosen.assign_pattern h t e) = in_false _ _ h (in_false _ _ t (in_true _ _ e first))
is_way (chosen.several h) = in_false _ _ h first
is_way (chosen.of_statement s c) = elim s [ ]
is_way (chosen.of_declaration s c) = elim s [ ]
is_way c = first

-- and of statements, where no declaration may stand
pub is_statement_way : {r : Bool} {k : Kind} {w : List ℕ} {g : Flags} {ps : Parts} {p : Production} → ChosenStatement w g ps r k p → Among (spelling_of (form p) w g ps) (statements r k w g ps)
unfolding statements
is_statement_way {r = r} {ps = ps} chosen.block_statement = is_first (sym (formed_braced ps [] (lines (item r) ps)))
is_statement_way (chosen.var_variables h) = in_true _ _ h first
is_statement_way (chosen.expression_statement h) = in_false _ _ h first
is_statement_way {r = r} {w = w} {g = g} (chosen.if_alone e) = subst (λ z. Among (spelling_of (form (made.if_alone r)) w g z) (statements r kind.IfStatement w g z)) (sym e) first
is_statement_way {r = r} {w = w} {g = g} (chosen.if_else e h) = subst (λ z. Among (spelling_of (form (made.if_else r)) w g z) (statements r kind.IfStatement w g z)) (sym e) (in_false _ _ h first)
is_statement_way {r = r} {w = w} {g = g} {ps = ps} chosen.for_loop = is_first (sym (formed_for r w g ps))
is_statement_way {r = r} {ps = ps} (chosen.switch h) = in_true _ _ h (is_first (sym (formed_braced (others ps) (term "switch" ∷ sp ∷ sign "(" ∷ whole ∷ sign ")" ∷ sp ∷ []) (lines (switch_case r) (others ps)))))
is_statement_way {r = r} {w = w} {g = g} (chosen.try_catch e) = subst (λ z. Among (spelling_of (form (made.try_catch r)) w g z) (statements r kind.TryStatement w g z)) (sym e) first
is_statement_way {r = r} {w = w} {g = g} (chosen.try_both e) = subst (λ z. Among (spelling_of (form (made.try_both r)) w g z) (statements r kind.TryStatement w g z)) (sym e) first
is_statement_way {r = r} {w = w} {g = g} (chosen.try_finally e) = subst (λ z. Among (spelling_of (form (made.try_finally r)) w g z) (statements r kind.TryStatement w g z)) (sym e) first
is_statement_way c = first
