use Rattle.printer.proofs.emitter.Emitter.+push_line.Given as goal

abbrev pub decreases-push_line : goal.decreases-push_line
decreases-push_line g l = l.depth
