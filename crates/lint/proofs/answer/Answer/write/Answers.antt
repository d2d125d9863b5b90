use Rattle.std.proofs.Common.{subst}
use Rattle.std.specs.Io.KnownBytes.{Appends}
use Rattle.source_text.specs.Writing.{AppendsBeginning}
use Rattle.lint.proofs.VerifyAnswers.{table_written, begins}
use Rattle.lint.proofs.answer.Answer.write.Goals as goal

pub returns-in-Ok : goal.returns-in-Ok
returns-in-Ok g c = (
  subst (λ text. Appends (g.W.Sink.taken c.args.writer.now) (g.W.Sink.taken c.write_table.new.writer) text)
      (table_written c.args.self.now c.in-Table.parsed c.in-Table.plan _ _ c.in-Table.is c.table.ensures.rows c.table.ensures.total) c.in-Ok.ensures.0,
  c.in-Ok.ensures.1,
)

pub returns-in-Err : goal.returns-in-Err
returns-in-Err g c =
    let begun = begins _ c.in-Err.field-0 _ _ _ c.in-Err.ensures in (
      subst (λ text. AppendsBeginning (g.W.Sink.taken c.args.writer.now) (g.W.Sink.taken c.write_table.new.writer) text)
          (table_written c.args.self.now c.in-Table.parsed c.in-Table.plan _ _ c.in-Table.is c.table.ensures.rows c.table.ensures.total) begun.0,
      begun.1,
    )
