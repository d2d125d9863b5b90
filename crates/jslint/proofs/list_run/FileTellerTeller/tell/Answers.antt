use Rattle.std.proofs.Common.{◌∙◌, [], refl}
use Rattle.named_answers.specs.NamedAnswers.{told_no_memory}
use Rattle.jslint.specs.ListRun.{TellsFile, no_memory_left}
use Rattle.jslint.specs.Opened.{Gives}
use Rattle.jslint.proofs.ListRuns.{told_alone}
use Rattle.jslint.proofs.list_run.FileTellerTeller.tell.Goals as goal

pub returns-in-Ok : goal.returns-in-Ok
returns-in-Ok g c =
    let (told, is, tells) = c.in-Ok.ensures in
    told_alone (TellsFile (Gives (g.R.FileSystem.opens c.args.self.now.rt.now) (g.R.FileSystem.reads c.args.self.now.rt.now) g.R.File.Read.remaining g.R.Reader.Read.remaining) c.args.self.now.command c.args.self.now.asked c.args.self.now.settings.now) c.args.name.now [] told c.deref.result.now c.deref-in-Ok.result.now c.in-Ok.telling.status
    (record { before = g.O.Sink.taken c.args.output.now; after = g.O.Sink.taken c.tell_bytes.new.output; had_failed = g.O.Sink.failed c.args.output.now; failed = g.O.Sink.failed c.tell_bytes.new.output })
    (record { before = g.E.Sink.taken c.args.errors.now; after = g.E.Sink.taken c.tell_bytes.new.errors; had_failed = g.E.Sink.failed c.args.errors.now; failed = g.E.Sink.failed c.tell_bytes.new.errors })
    c.tell_bytes.result is (c.deref.ensures.value ∙ tells.0) (c.deref-in-Ok.ensures.value ∙ tells.1) tells.2 c.tell_bytes.ensures

pub returns-in-Err : goal.returns-in-Err
returns-in-Err g c =
    told_alone (TellsFile (Gives (g.R.FileSystem.opens c.args.self.now.rt.now) (g.R.FileSystem.reads c.args.self.now.rt.now) g.R.File.Read.remaining g.R.Reader.Read.remaining) c.args.self.now.command c.args.self.now.asked c.args.self.now.settings.now) c.args.name.now [] told_no_memory told_no_memory.output told_no_memory.errors 2
    (record { before = g.O.Sink.taken c.args.output.now; after = g.O.Sink.taken c.tell_bytes-in-Err.new.output; had_failed = g.O.Sink.failed c.args.output.now; failed = g.O.Sink.failed c.tell_bytes-in-Err.new.output })
    (record { before = g.E.Sink.taken c.args.errors.now; after = g.E.Sink.taken c.tell_bytes-in-Err.new.errors; had_failed = g.E.Sink.failed c.args.errors.now; failed = g.E.Sink.failed c.tell_bytes-in-Err.new.errors })
    c.tell_bytes-in-Err.result (no_memory_left refl) refl refl refl c.tell_bytes-in-Err.ensures
