use Rattle.std.proofs.Common.{◌∙◌, sym}
use Rattle.jslint.specs.Opened.{Gives}
use Rattle.jslint.proofs.ListRuns.{telling_input}
use Rattle.jslint.proofs.list_run.FileTeller.telling_of.Goals as goal

pub returns-then-is_input : goal.returns-then-is_input
returns-then-is_input g c = telling_input (Gives (g.R.FileSystem.opens c.args.self.now.rt.now) (g.R.FileSystem.reads c.args.self.now.rt.now) g.R.File.Read.remaining g.R.Reader.Read.remaining) c.args.self.now.command c.args.self.now.asked c.args.self.now.settings.now c.args.name.now _ _ (sym c.is_input.ensures ∙ c.if-is_input.true) (c.deref.ensures.value ∙ c.in_ok-shown.ensures) c.unread.ensures
