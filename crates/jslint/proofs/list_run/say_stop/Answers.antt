use Rattle.std.proofs.Common.{sym, subst, Err}
use Rattle.jslint.specs.Program.{Ends, written}
use Rattle.jslint.proofs.list_run.say_stop.Goals as goal

pub returns-in-Unread : goal.returns-in-Unread
returns-in-Unread g c =
    subst (λ stop. Ends (Err stop) (written g.W.Sink.taken g.W.Sink.failed c.args.errors.now c.explain_unread.new.errors) c.explain_unread.result) (sym c.in-Unread.is) (c.explain_unread.ensures.status, c.explain_unread.ensures.line)
