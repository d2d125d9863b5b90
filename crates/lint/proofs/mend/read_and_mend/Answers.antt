use Rattle.std.proofs.Common.{string_bytes}
use Rattle.lint.specs.Unwraps.{made_text}
use Rattle.lint.proofs.Mending.{mended_made}
use Rattle.lint.proofs.mend.read_and_mend.Goals as goal

pub returns-in-Ok-made_or_own-clause-mended : goal.returns-in-Ok-made_or_own-clause-mended
returns-in-Ok-made_or_own-clause-mended g c =
    mended_made _ c.args.language c.args.settings.now c.args.source.now (string_bytes c.in-Ok-made_or_own.text) (made_text c.args.source.now c.in-Ok-mend_unless_clean.made) c.in-Ok-made_or_own.ensures c.in-Ok-mend_unless_clean.ensures
