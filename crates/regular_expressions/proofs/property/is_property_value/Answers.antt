use Rattle.std.proofs.Common.{◌&&◌, if◌then◌else◌, sym, ap, ◌∙◌}
use Rattle.regular_expressions.specs.PropertyNames.{categories, lists, is_script}
use Rattle.regular_expressions.proofs.property.is_property_value.Goals as goal

pub returns-then-lists : goal.returns-then-lists
returns-then-lists c =
    let n = c.args.name.now in
    let v = c.args.value.now in
    c.lists-then-lists.ensures
    ∙ sym (ap (λ b. if b then lists categories v else (lists "Script sc Script_Extensions scx" n && is_script v)) (sym c.lists.ensures ∙ c.if-lists.true))

pub returns-then-lists-2 : goal.returns-then-lists-2
returns-then-lists-2 c =
    let n = c.args.name.now in
    let v = c.args.value.now in
    c.is_script.ensures
    ∙ sym (ap (λ b. if b then lists categories v else (lists "Script sc Script_Extensions scx" n && is_script v)) (sym c.lists.ensures ∙ c.if-lists.false)
    ∙ ap (λ b. b && is_script v) (sym c.lists-2.ensures ∙ c.if-lists-2.true))

pub returns-else-lists-2 : goal.returns-else-lists-2
returns-else-lists-2 c =
    let n = c.args.name.now in
    let v = c.args.value.now in
    c.if-lists-2.false
    ∙ sym (ap (λ b. if b then lists categories v else (lists "Script sc Script_Extensions scx" n && is_script v)) (sym c.lists.ensures ∙ c.if-lists.false)
    ∙ ap (λ b. b && is_script v) (sym c.lists-2.ensures ∙ c.if-lists-2.false))
