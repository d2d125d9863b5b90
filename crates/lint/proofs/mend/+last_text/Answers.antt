use Rattle.std.proofs.Common.{string_bytes}
use Rattle.lint.specs.Mendings.{stays}
use Rattle.lint.proofs.Mending.{made_some, mended_further}
use Rattle.lint.proofs.mend.+last_text.Goals as goal

pub returns-then-rounds-eq0 : goal.returns-then-rounds-eq0
returns-then-rounds-eq0 g t c = λ reading. stays reading

pub returns-in-Some : goal.returns-in-Some
returns-in-Some g t c =
    mended_further _ c.args.language c.args.settings.now (λ s. string_bytes s) c.last_text.result (string_bytes c.args.text) (string_bytes c.in-Some.next)
    (made_some _ c.args.language c.args.settings.now (λ s. string_bytes s) c.in_ok-next.field-0 c.in-Some.next c.as_str.result.now (string_bytes c.args.text) c.in-Some.is c.as_str.ensures.value c.in_ok-next.ensures)
    c.last_text.ensures

pub returns-in-None : goal.returns-in-None
returns-in-None g t c = λ reading. stays reading
