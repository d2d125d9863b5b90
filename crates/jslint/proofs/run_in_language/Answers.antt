use Rattle.std.proofs.Common.{Bool, subst, sym}
use Rattle.jslint.specs.Opened.{Gives}
use Rattle.jslint.specs.Program.{RunsInLanguage, written}
use Rattle.jslint.proofs.run_in_language.Goals as goal

pub returns-then-line : goal.returns-then-line
returns-then-line g c =
    subst (λ (b : Bool). RunsInLanguage b (Gives (g.R.FileSystem.opens c.args.rt.now) (g.R.FileSystem.reads c.args.rt.now) g.R.File.Read.remaining g.R.Reader.Read.remaining) c.args.line c.args.asked (written g.O.Sink.taken g.O.Sink.failed c.args.output.now c.run_list.new.output) (written g.W.Sink.taken g.W.Sink.failed c.args.errors.now c.run_list.new.errors) c.run_list.result) (sym c.if-line.true) c.run_list.ensures

pub returns : goal.returns
returns g c =
    subst (λ (b : Bool). RunsInLanguage b (Gives (g.R.FileSystem.opens c.args.rt.now) (g.R.FileSystem.reads c.args.rt.now) g.R.File.Read.remaining g.R.Reader.Read.remaining) c.args.line c.args.asked (written g.O.Sink.taken g.O.Sink.failed c.args.output.now c.run_files.new.output) (written g.W.Sink.taken g.W.Sink.failed c.args.errors.now c.run_files.new.errors) c.run_files.result) (sym c.if-line.false) c.run_files.ensures
