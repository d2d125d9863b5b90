use Rattle.std.proofs.Common.{◌≡◌, map, string_bytes, true, false, sym, ap, ◌∙◌}
use Rattle.std.specs.List.{list_any}
use Rattle.name_tables.specs.Sets.{contains}
use Rattle.repetition_rules.specs.Chains.{last_of}
use Rattle.repetition_rules.proofs.Covering.{any-at-last, any-before-last, last-behind}
use Rattle.repetition_rules.proofs.conditions.Choice.has_any_of.Goals as goal

pub returns-then-contains : goal.returns-then-contains
returns-then-contains c =
    let labels = c.args.labels.now in
    let inside = c.self.inside in
    let last = sym (last-behind (map string_bytes inside.others.items) (string_bytes inside.last)) ∙ ap last_of c.self.view_is ∙ sym c.last.ensures in
    let there : contains labels (string_bytes inside.last) ≡ true = ap (contains labels) last ∙ sym c.contains.ensures ∙ c.if-contains.true in
    c.if-contains.true ∙ sym (any-at-last (contains labels) string_bytes inside.others.items (string_bytes inside.last) there) ∙ ap (list_any (contains labels)) c.self.view_is

pub returns-else-contains : goal.returns-else-contains
returns-else-contains c =
    let labels = c.args.labels.now in
    let inside = c.self.inside in
    let last = sym (last-behind (map string_bytes inside.others.items) (string_bytes inside.last)) ∙ ap last_of c.self.view_is ∙ sym c.last.ensures in
    let not_there : contains labels (string_bytes inside.last) ≡ false = ap (contains labels) last ∙ sym c.contains.ensures ∙ c.if-contains.false in
    c.has_one_of.ensures ∙ ap (λ texts. list_any (λ o. contains labels (string_bytes o)) texts) c.deref.ensures.value
    ∙ sym (any-before-last (contains labels) string_bytes inside.others.items (string_bytes inside.last) not_there) ∙ ap (list_any (contains labels)) c.self.view_is
