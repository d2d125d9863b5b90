use Rattle.std.proofs.Common.{inr, refl}
use Rattle.jslint.specs.Opened.{Gives}
use Rattle.jslint.specs.Program.{written}
use Rattle.jslint.proofs.ListRuns.{runs_list}
use Rattle.jslint.proofs.list_run.run_list.Goals as goal

pub returns-in-Ok : goal.returns-in-Ok
returns-in-Ok g c =
    runs_list (Gives (g.R.FileSystem.opens c.args.rt.now) (g.R.FileSystem.reads c.args.rt.now) g.R.File.Read.remaining g.R.Reader.Read.remaining) c.args.line c.args.asked c.deref-in-Ok.result.now c.deref.result.now c.in-Ok.listed.names.items c.in-Ok.listed.settings.items
    (written g.O.Sink.taken g.O.Sink.failed c.args.output.now c.tell_listed.new.output) (written g.W.Sink.taken g.W.Sink.failed c.args.errors.now c.tell_listed.new.errors) c.tell_listed.result
    c.deref-in-Ok.ensures.value c.deref.ensures.value c.in-Ok.ensures.held.0 c.in-Ok.ensures.held.1 c.tell_listed.ensures

pub returns-in-Err : goal.returns-in-Err
returns-in-Err g c = inr (c.in-Err.stop, c.in-Err.ensures.stopped, refl, c.say_stop.ensures)
