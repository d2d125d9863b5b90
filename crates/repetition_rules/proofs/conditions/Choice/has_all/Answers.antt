use Rattle.std.proofs.Common.{◌≡◌, map, string_bytes, true, false, sym, ap, ◌∙◌}
use Rattle.std.specs.List.{list_all}
use Rattle.repetition_rules.specs.Tests.{is_among, is_covered_by}
use Rattle.repetition_rules.specs.Chains.{last_of}
use Rattle.repetition_rules.proofs.Covering.{all-with-last, last-behind, not-all-at-last}
use Rattle.repetition_rules.proofs.conditions.Choice.has_all.Goals as goal

pub returns-then-has : goal.returns-then-has
returns-then-has c =
    let choice = c.args.self.now in
    let inside = c.earlier.inside in
    let last = sym (last-behind (map string_bytes inside.others.items) (string_bytes inside.last)) ∙ ap last_of c.earlier.view_is ∙ sym c.last.ensures in
    let there : is_among choice (string_bytes inside.last) ≡ true = ap (λ t. is_among choice t) last ∙ sym c.has.ensures ∙ c.if-has.true in
    c.has_each.ensures ∙ ap (λ texts. list_all (λ o. is_among choice (string_bytes o)) texts) c.deref.ensures.value
    ∙ sym (all-with-last (λ o. is_among choice o) string_bytes inside.others.items (string_bytes inside.last) there) ∙ ap (λ v. is_covered_by choice v) c.earlier.view_is

pub returns-else-has : goal.returns-else-has
returns-else-has c =
    let choice = c.args.self.now in
    let inside = c.earlier.inside in
    let last = sym (last-behind (map string_bytes inside.others.items) (string_bytes inside.last)) ∙ ap last_of c.earlier.view_is ∙ sym c.last.ensures in
    let not_there : is_among choice (string_bytes inside.last) ≡ false = ap (λ t. is_among choice t) last ∙ sym c.has.ensures ∙ c.if-has.false in
    c.if-has.false ∙ sym (not-all-at-last (λ o. is_among choice o) string_bytes inside.others.items (string_bytes inside.last) not_there) ∙ ap (λ v. is_covered_by choice v) c.earlier.view_is
