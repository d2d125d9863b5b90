use Rattle.jslint.specs.Opened.{Gives}
use Rattle.jslint.proofs.ListRuns.{named_settings, stops_second}
use Rattle.jslint.proofs.list_run.settings_of.Goals as goal

pub returns-in-Some-clause-held : goal.returns-in-Some-clause-held
returns-in-Some-clause-held g c = named_settings (Gives (g.R.FileSystem.opens c.args.rt.now) (g.R.FileSystem.reads c.args.rt.now) g.R.File.Read.remaining g.R.Reader.Read.remaining) c.args.line c.in-Some.name _ c.in-Some.is c.bytes_under.ensures.held

pub returns-in-Some-clause-stopped : goal.returns-in-Some-clause-stopped
returns-in-Some-clause-stopped g c = stops_second (Gives (g.R.FileSystem.opens c.args.rt.now) (g.R.FileSystem.reads c.args.rt.now) g.R.File.Read.remaining g.R.Reader.Read.remaining) c.args.line c.in-Some.name _ c.in-Some.is c.bytes_under.ensures.stopped
