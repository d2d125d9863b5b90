use Rattle.std.proofs.Common.{◌∙◌, string_bytes}
use Rattle.lint.proofs.Mending.{made_over}
use Rattle.lint.proofs.mend.text_after.Goals as goal

pub returns-in-Ok-read_script : goal.returns-in-Ok-read_script
returns-in-Ok-read_script g c =
    made_over _ c.args.language c.args.settings.now (λ t. string_bytes t) c.next_text.result c.in-Ok.source c.args.text.now (c.in-Ok.ensures.ok.0 ∙ c.as_bytes.ensures.value) c.next_text.ensures
