use Rattle.jslint.specs.Opened.{Gives}
use Rattle.jslint.proofs.ListRuns.{stops_first}
use Rattle.jslint.proofs.list_run.names_of.Goals as goal

pub returns-in-Err-clause-stopped : goal.returns-in-Err-clause-stopped
returns-in-Err-clause-stopped g c = λ asked. stops_first (Gives (g.R.FileSystem.opens c.args.rt.now) (g.R.FileSystem.reads c.args.rt.now) g.R.File.Read.remaining g.R.Reader.Read.remaining) c.args.line asked c.in-Err.stop c.in-Err.ensures.stopped
