use Rattle.std.proofs.Common.{◌≡◌, string_bytes, false, sym, ap, ◌∙◌}
use Rattle.std.specs.List.{list_any}
use Rattle.std.specs.Str.{bytes_eq}
use Rattle.repetition_rules.specs.Tests.{is_among}
use Rattle.repetition_rules.proofs.Covering.{any-before-last}
use Rattle.repetition_rules.proofs.conditions.Choice.has.Goals as goal

pub returns-else-eq : goal.returns-else-eq
returns-else-eq c =
    let label = c.args.label.now in
    let inside = c.self.inside in
    let other : bytes_eq (string_bytes inside.last) label ≡ false = ap (λ t. bytes_eq t label) (sym c.as_str.ensures.value) ∙ sym c.eq.ensures ∙ c.if-eq.false in
    c.has_text.ensures ∙ ap (λ texts. list_any (λ o. bytes_eq (string_bytes o) label) texts) c.deref.ensures.value
    ∙ sym (any-before-last (λ o. bytes_eq o label) string_bytes inside.others.items (string_bytes inside.last) other) ∙ ap (λ v. is_among v label) c.self.view_is
