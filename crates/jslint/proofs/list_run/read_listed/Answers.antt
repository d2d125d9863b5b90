use Rattle.jslint.proofs.list_run.read_listed.Goals as goal

pub returns-clause-stopped : goal.returns-clause-stopped
returns-clause-stopped g c = c.in-Err-names_of.ensures.stopped c.args.asked
