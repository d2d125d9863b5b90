use Rattle.std.proofs.Common.{◌≡◌, [], ◌∷◌, ◌++◌, Some, sym, ap, ◌∙◌, cond, true, false, append-nil}
use Rattle.std.specs.Prelude.{is_some}
use Rattle.std.specs.Str.{bytes_eq}
use Rattle.std.proofs.lemmas.List.{map-append, length-map}
use Rattle.name_tables.specs.Tables.{value_at, undone, saved_name, saved_value}
use Rattle.name_tables.proofs.Undone.{kept-turn, undone-agrees}
use Rattle.scopes.specs.Bindings.{has_name}
use Rattle.scopes.specs.Found.{here_or_outer, index_of, nearest}
use Rattle.scopes.specs.Shown.{all_shown, declared_shown, exported_at, is_of, shown}
use Rattle.scopes.proofs.Nearest.{is_of-here, meant-further_out, one-more, meant-exported, exported-there, added-exported, added-same, added-new, again-here, again-new}
use Rattle.scopes.proofs.meanings.declare.Goals as goal

-- a name that is declared here already
pub returns-then-declared-clause-redeclared : goal.returns-then-declared-clause-redeclared
returns-then-declared-clause-redeclared c = λ fs m b.
    let bs = all_shown c.args.bindings.now.items in
    let w = c.args.declared.name.now in
    let here : has_name w bs ≡ true = sym (is_of-here c.args.number w bs fs b) ∙ ap (λ o. is_of o c.args.number) (sym (c.in_ok-before.ensures.value ∙ m w)) ∙ sym c.is_of.ensures ∙ c.if-is_of.true in
    c.in_ok-push_redeclared.ensures ∙ ap (λ l. all_shown c.args.redeclared.now.items ++ l) (sym (again-here bs (declared_shown c.args.declared) here))

pub returns-else-declared-clause-redeclared : goal.returns-else-declared-clause-redeclared
returns-else-declared-clause-redeclared c = λ fs m b.
    let bs = all_shown c.args.bindings.now.items in
    let w = c.args.declared.name.now in
    let here : has_name w bs ≡ true = sym (is_of-here c.args.number w bs fs b) ∙ ap (λ o. is_of o c.args.number) (sym (c.in_ok-before.ensures.value ∙ m w)) ∙ sym c.is_of.ensures ∙ c.if-is_of.true in
    c.in_ok-push_redeclared.ensures ∙ ap (λ l. all_shown c.args.redeclared.now.items ++ l) (sym (again-here bs (declared_shown c.args.declared) here))

pub returns-clause-redeclared : goal.returns-clause-redeclared
returns-clause-redeclared c = λ fs m b.
    let bs = all_shown c.args.bindings.now.items in
    let w = c.args.declared.name.now in
    let new : has_name w bs ≡ false = sym (is_of-here c.args.number w bs fs b) ∙ ap (λ o. is_of o c.args.number) (sym (c.in_ok-before.ensures.value ∙ m w)) ∙ sym c.is_of.ensures ∙ c.if-is_of.false in
    sym (append-nil (all_shown c.args.redeclared.now.items)) ∙ ap (λ l. all_shown c.args.redeclared.now.items ++ l) (sym (again-new bs (declared_shown c.args.declared) new))

-- one that is exported now
pub returns-then-declared-clause-bindings : goal.returns-then-declared-clause-bindings
returns-then-declared-clause-bindings c = λ fs m b.
    let bs = all_shown c.args.bindings.now.items in
    let w = c.args.declared.name.now in
    let here : has_name w bs ≡ true = sym (is_of-here c.args.number w bs fs b) ∙ ap (λ o. is_of o c.args.number) (sym (c.in_ok-before.ensures.value ∙ m w)) ∙ sym c.is_of.ensures ∙ c.if-is_of.true in
    c.export_binding.ensures ∙ ap (λ o. exported_at o bs) (c.in_ok-before.ensures.value ∙ m w) ∙ exported-there c.args.number w bs fs here
    ∙ sym (added-exported fs bs (declared_shown c.args.declared) here c.if-declared.true)

pub returns-then-declared-clause-meanings : goal.returns-then-declared-clause-meanings
returns-then-declared-clause-meanings c = λ fs m b. meant-exported (value_at c.save.new.self) c.args.number _ (all_shown c.args.bindings.now.items) _ fs c.export_binding.ensures (λ w. c.in_ok-before.ensures.same w ∙ m w)

pub returns-then-declared-clause-kept : goal.returns-then-declared-clause-kept
returns-then-declared-clause-kept c = undone-agrees saved_name saved_value (value_at c.save.new.self) (value_at c.args.meanings.now) c.args.saved.now.items c.in_ok-before.ensures.same

-- the bindings of a declaration without an export
pub returns-else-declared-clause-bindings : goal.returns-else-declared-clause-bindings
returns-else-declared-clause-bindings c = λ fs m b.
    let bs = all_shown c.args.bindings.now.items in
    let w = c.args.declared.name.now in
    sym (added-same fs bs (declared_shown c.args.declared) (sym (is_of-here c.args.number w bs fs b) ∙ ap (λ o. is_of o c.args.number) (sym (c.in_ok-before.ensures.value ∙ m w)) ∙ sym c.is_of.ensures ∙ c.if-is_of.true) c.if-declared.false)

pub returns-else-declared-clause-meanings : goal.returns-else-declared-clause-meanings
returns-else-declared-clause-meanings c = λ fs m b w. c.in_ok-before.ensures.same w ∙ m w

pub returns-else-declared-clause-kept : goal.returns-else-declared-clause-kept
returns-else-declared-clause-kept c = undone-agrees saved_name saved_value (value_at c.save.new.self) (value_at c.args.meanings.now) c.args.saved.now.items c.in_ok-before.ensures.same

pub returns-clause-bindings : goal.returns-clause-bindings
returns-clause-bindings c = λ fs m b.
    let bs = all_shown c.args.bindings.now.items in
    let w = c.args.declared.name.now in
    let new : has_name w bs ≡ false = sym (is_of-here c.args.number w bs fs b) ∙ ap (λ o. is_of o c.args.number) (sym (c.in_ok-before.ensures.value ∙ m w)) ∙ sym c.is_of.ensures ∙ c.if-is_of.false in
    let out = c.is_some.ensures ∙ ap is_some (c.in_ok-before.ensures.value ∙ m w ∙ meant-further_out c.args.number w bs fs new) in
    ap all_shown c.in_ok-push-2.ensures.items ∙ map-append shown c.args.bindings.now.items _ ∙ ap (λ s. bs ++ record (declared_shown c.args.declared) { shadows = s } ∷ []) out ∙ sym (added-new fs bs (declared_shown c.args.declared) new)

pub returns-clause-meanings : goal.returns-clause-meanings
returns-clause-meanings c = λ fs m b.
    let bs = all_shown c.args.bindings.now.items in
    let w = c.args.declared.name.now in
    let new : has_name w bs ≡ false = sym (is_of-here c.args.number w bs fs b) ∙ ap (λ o. is_of o c.args.number) (sym (c.in_ok-before.ensures.value ∙ m w)) ∙ sym c.is_of.ensures ∙ c.if-is_of.false in
    let long = c.len.ensures ∙ c.args.bindings.now.ok.0 ∙ sym (length-map c.args.bindings.now.items shown) in
    let pushed = ap all_shown c.in_ok-push-2.ensures.items ∙ map-append shown c.args.bindings.now.items _ in
    λ v. one-more (value_at c.args.meanings.now) (value_at c.set.new.self) c.args.number bs _ fs new m
    (λ u. c.in_ok-set.ensures.ok u ∙ (λ i. cond (bytes_eq (c.in_ok-before.ensures.name i) u) (Some (c.args.number, long i)) (c.in_ok-before.ensures.same u i))) v
    ∙ ap (λ x. here_or_outer c.args.number (index_of v x) (nearest v fs)) (sym pushed)

pub returns-clause-kept : goal.returns-clause-kept
returns-clause-kept c =
    let e = c.in_ok-before.ensures in
    kept-turn saved_name saved_value (undone (value_at c.args.meanings.now) c.args.saved.now.items) (value_at c.save.new.self) (value_at c.set.new.self) _ c.args.saved.now.items c.push.new.self.items _ c.in_ok-push.ensures.items
    (e.value ∙ sym (e.same c.args.declared.name.now) ∙ ap (value_at c.save.new.self) (sym e.name)) c.in_ok-set.ensures.ok
    (undone-agrees saved_name saved_value (value_at c.save.new.self) (value_at c.args.meanings.now) c.args.saved.now.items e.same)
