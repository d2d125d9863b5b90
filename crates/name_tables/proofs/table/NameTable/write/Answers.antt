use Rattle.std.proofs.Common.{sym}
use Rattle.name_tables.proofs.Places.{not_other, written}
use Rattle.name_tables.proofs.table.NameTable.write.Goals as goal

pub returns-clause-written : goal.returns-clause-written
returns-clause-written g c = λ w.
    written c.args.self.now.entries c.args.saved.now.place c.args.value c.in-Some.field-0-1.now c.args.saved.now.name.now c.in-Some.name.now c.len.ensures.unique (sym c.in-Some.ensures.entry)
    (not_other c.args.saved.now.name.now c.in-Some.name.now.now c.if-ne.ensures) w
