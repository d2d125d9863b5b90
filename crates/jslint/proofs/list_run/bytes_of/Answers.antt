use Rattle.jslint.specs.Opened.{Gives}
use Rattle.jslint.proofs.ListRuns.{stops_reading, told_reading}
use Rattle.jslint.proofs.list_run.bytes_of.Goals as goal

pub returns-in-Ok-clause-held : goal.returns-in-Ok-clause-held
returns-in-Ok-clause-held g c = (_, c.requires.given, c.in-Ok.ensures.0)

pub returns-in-Err-clause-stopped : goal.returns-in-Err-clause-stopped
returns-in-Err-clause-stopped g c = stops_reading (Gives (g.R.FileSystem.opens c.args.rt.now) (g.R.FileSystem.reads c.args.rt.now) g.R.File.Read.remaining g.R.Reader.Read.remaining) c.args.name.now _ c.in-Err.fault _ c.at_no_place.result c.stop_of.result c.requires.given c.at_no_place.ensures c.in-Err.ensures c.stop_of.ensures

pub returns-in-Err-clause-told : goal.returns-in-Err-clause-told
returns-in-Err-clause-told g c = told_reading (Gives (g.R.FileSystem.opens c.args.rt.now) (g.R.FileSystem.reads c.args.rt.now) g.R.File.Read.remaining g.R.Reader.Read.remaining) c.args.name.now c.stop_of.result (stops_reading (Gives (g.R.FileSystem.opens c.args.rt.now) (g.R.FileSystem.reads c.args.rt.now) g.R.File.Read.remaining g.R.Reader.Read.remaining) c.args.name.now _ c.in-Err.fault _ c.at_no_place.result c.stop_of.result c.requires.given c.at_no_place.ensures c.in-Err.ensures c.stop_of.ensures)
