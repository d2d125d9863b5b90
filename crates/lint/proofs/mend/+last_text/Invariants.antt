use Rattle.lint.proofs.mend.+last_text.Given as goal

abbrev pub decreases-last_text : goal.decreases-last_text
decreases-last_text g l = l.rounds
