use Rattle.jslint.specs.Opened.{Gives}
use Rattle.jslint.proofs.ListRuns.{telling_answered, telling_stopped}
use Rattle.jslint.proofs.list_run.FileTeller.telling_shown.Goals as goal

pub returns-in-Ok : goal.returns-in-Ok
returns-in-Ok g c = telling_answered (Gives (g.R.FileSystem.opens c.args.self.now.rt.now) (g.R.FileSystem.reads c.args.self.now.rt.now) g.R.File.Read.remaining g.R.Reader.Read.remaining) c.args.self.now.command c.args.self.now.asked c.args.self.now.settings.now c.args.name.now c.args.shown.now c.deref.result.now c.in-Ok.text.items _ c.deref.ensures.value c.in-Ok.ensures.held c.requires c.answered.ensures

pub returns-in-Err : goal.returns-in-Err
returns-in-Err g c = telling_stopped (Gives (g.R.FileSystem.opens c.args.self.now.rt.now) (g.R.FileSystem.reads c.args.self.now.rt.now) g.R.File.Read.remaining g.R.Reader.Read.remaining) c.args.self.now.command c.args.self.now.asked c.args.self.now.settings.now c.args.name.now c.args.shown.now c.in-Err.stop _ c.in-Err.ensures.stopped c.requires c.telling_of_stop.ensures
