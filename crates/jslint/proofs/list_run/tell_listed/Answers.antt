use Rattle.std.proofs.Common.{◌≡◌, ◌∙◌, ap, inl, inr, map, refl, subst}
use Rattle.commands.specs.Refusal.{WritesLine, refusal_line, status_of}
use Rattle.many_files.specs.Names.{names_of}
use Rattle.jslint.specs.ListRun.{TellsFile}
use Rattle.jslint.specs.Opened.{Gives}
use Rattle.jslint.proofs.ListRuns.{tells_names}
use Rattle.jslint.proofs.list_run.tell_listed.Goals as goal

pub returns-in-Ok : goal.returns-in-Ok
returns-in-Ok g c =
    inl (tells_names (TellsFile (Gives (g.R.FileSystem.opens c.args.teller.now.rt.now) (g.R.FileSystem.reads c.args.teller.now.rt.now) g.R.File.Read.remaining g.R.Reader.Read.remaining) c.args.teller.now.command c.args.teller.now.asked c.args.teller.now.settings.now) (map (λ n. n.now) c.deref.result.now) (names_of c.args.list.now)
    (g.O.Sink.taken c.args.output.now) (g.O.Sink.taken c.tell_each.new.output) (g.W.Sink.taken c.args.errors.now) (g.W.Sink.taken c.tell_each.new.errors)
    (g.O.Sink.failed c.args.output.now) (g.W.Sink.failed c.args.errors.now) (g.O.Sink.failed c.tell_each.new.output) (g.W.Sink.failed c.tell_each.new.errors) c.tell_each.result
    (ap (map (λ n. n.now)) c.deref.ensures.value ∙ c.in-Ok.ensures) c.requires.writes c.requires.tells c.tell_each.ensures)

-- memory was refused for the names
pub returns-in-Err : goal.returns-in-Err
returns-in-Err g c = inr (
  refl,
  (
    subst (λ refused. c.write_refusal.result ≡ status_of refused.fault) c.at_no_place.ensures c.write_refusal.ensures.status,
    subst (λ refused. WritesLine (refusal_line refused) (g.W.Sink.taken c.args.errors.now) (g.W.Sink.taken c.write_refusal.new.writer) (g.W.Sink.failed c.write_refusal.new.writer)) c.at_no_place.ensures c.write_refusal.ensures.line,
  ),
)
