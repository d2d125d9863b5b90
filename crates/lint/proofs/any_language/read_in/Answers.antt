use Rattle.lint.proofs.any_language.read_in.Goals as goal

pub returns-in-Ok-clause-reading : goal.returns-in-Ok-clause-reading
returns-in-Ok-clause-reading c = record { accepted = c.in-Ok.ensures.accepted; only = c.in-Ok.ensures.only }
