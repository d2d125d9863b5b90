use Rattle.std.proofs.Common.{refl, string_bytes}
use Rattle.lint.proofs.Mending.{made_some, mended_itself, mended_on}
use Rattle.lint.proofs.mend.mend_unless_clean.Goals as goal

pub returns-in_default : goal.returns-in_default
returns-in_default g c = mended_itself _ c.args.language c.args.settings.now c.args.source.now c.args.parsed.now.program c.args.parsed.now.pairs.items c.requires.reading

pub returns : goal.returns
returns g c =
    mended_on _ c.args.language c.args.settings.now c.args.source.now (string_bytes c.in-Some.next) (string_bytes c.in_ok-text.text)
    (made_some _ c.args.language c.args.settings.now (λ s. string_bytes s) c.in_ok-next.field-0 c.in-Some.next c.args.source.now c.args.source.now c.in-Some.is refl c.in_ok-next.ensures)
    c.in_ok-text.ensures
