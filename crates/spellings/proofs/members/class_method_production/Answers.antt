use Rattle.std.proofs.Common.{◌≡◌, ◌∙◌, true, sym, ap}
use Rattle.std.specs.Prelude.{◌&&◌}
use Rattle.tree.specs.Uses.{is_init}
use Rattle.spellings.specs.Expressions.{only_if}
use Rattle.spellings.specs.Others.{is_constructor, fits_form, method_keyed}
use Rattle.spellings.proofs.members.class_method_production.Goals as goal

pub returns : goal.returns
returns c =
    let g = c.args.flags in
    let fits : fits_form (is_constructor g c.args.key c.args.text.now && is_init c.args.value) g.form ≡ true = sym (c.fits_form.ensures ∙ ap (λ b. fits_form b g.form) c.is_constructor_method.ensures) ∙ c.if-not-fits_form.false in
    c.method_keyed.ensures ∙ sym (ap (λ b. only_if b (method_keyed g.computed g.form c.args.value c.args.key)) fits)
