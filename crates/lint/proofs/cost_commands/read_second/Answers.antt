use Rattle.std.proofs.Common.{ℕ, List, subst}
use Rattle.cost_certificate.specs.Forms.{read_text}
use Rattle.cost_certificate.specs.Read.{Reads}
use Rattle.lint.proofs.VerifyAnswers.{second_read}
use Rattle.lint.proofs.cost_commands.read_second.Goals as goal

pub returns-in-Ok-clause-table : goal.returns-in-Ok-clause-table
returns-in-Ok-clause-table g c =
    second_read (g.S.Feed.left c.args.second.now) c.in-Ok.bytes.items c.read_table.result (g.S.Feed.failed c.read_up_to.new.reader) c.in-Ok.ensures.1 c.in-Ok.ensures.0
    (subst (λ (bytes : List ℕ). Reads (read_text bytes) c.read_table.result) c.deref.ensures.value c.read_table.ensures.table)
