use Rattle.jslint.specs.Opened.{Gives}
use Rattle.jslint.proofs.ListRuns.{telling_misnamed, telling_renamed}
use Rattle.jslint.proofs.list_run.FileTeller.telling.Goals as goal

pub returns-in-Ok : goal.returns-in-Ok
returns-in-Ok g c = telling_renamed (Gives (g.R.FileSystem.opens c.args.self.now.rt.now) (g.R.FileSystem.reads c.args.self.now.rt.now) g.R.File.Read.remaining g.R.Reader.Read.remaining) c.args.self.now.command c.args.self.now.asked c.args.self.now.settings.now c.args.name.now _ _ c.in-Ok.ensures.cases.0 c.telling_of.ensures

pub returns-in-Err : goal.returns-in-Err
returns-in-Err g c = telling_misnamed (Gives (g.R.FileSystem.opens c.args.self.now.rt.now) (g.R.FileSystem.reads c.args.self.now.rt.now) g.R.File.Read.remaining g.R.Reader.Read.remaining) c.args.self.now.command c.args.self.now.asked c.args.self.now.settings.now c.args.name.now _ c.in-Err.ensures.cases.0 c.misnamed.ensures
