use Rattle.jslint.specs.Opened.{Gives}
use Rattle.jslint.proofs.UnreadFiles.{run_of_one, stopped_one}
use Rattle.jslint.proofs.files.run_alone.Goals as goal

pub returns-in-Ok-clause-answer : goal.returns-in-Ok-clause-answer
returns-in-Ok-clause-answer g c = run_of_one (Gives (g.R.FileSystem.opens c.args.rt.now) (g.R.FileSystem.reads c.args.rt.now) g.R.File.Read.remaining g.R.Reader.Read.remaining) c.args.line c.args.asked _ _ _ _ _ _ c.requires.alone c.requires.given c.in-Ok.ensures.answer

-- the script's file failed, or none did
pub returns-in-Err-clause-answer : goal.returns-in-Err-clause-answer
returns-in-Err-clause-answer g c = stopped_one (Gives (g.R.FileSystem.opens c.args.rt.now) (g.R.FileSystem.reads c.args.rt.now) g.R.File.Read.remaining g.R.Reader.Read.remaining) c.args.line c.args.asked _ _ _ _ _ c.in-Err.refused c.requires.alone c.requires.given c.in-Err.ensures.answer c.stop_of.result c.stop_of.ensures
