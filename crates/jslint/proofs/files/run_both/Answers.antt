use Rattle.std.proofs.Common.{◌∙◌, Some, ap, sym, true≢false}
use Rattle.jslint.specs.Opened.{Gives}
use Rattle.jslint.proofs.UnreadFiles.{run_of_two, stopped_two}
use Rattle.jslint.proofs.files.run_both.Goals as goal
use Rattle.jslint.proofs.files.run_both.Goals.{then-has_failed, else-has_failed}

pub returns-in-Ok-run_with_rules-clause-answer : goal.returns-in-Ok-run_with_rules-clause-answer
returns-in-Ok-run_with_rules-clause-answer g c =
    run_of_two (Gives (g.R.FileSystem.opens c.args.rt.now) (g.R.FileSystem.reads c.args.rt.now) g.R.File.Read.remaining g.R.Reader.Read.remaining) c.args.line c.args.asked c.args.name.now _ _ _ _ _ _ _ _ c.requires.second c.requires.given c.in-Ok.ensures.given c.in-Ok-run_with_rules.ensures.answer

-- the file that failed is named, or none did
pub returns-clause-answer : goal.returns-clause-answer
returns-clause-answer g c = elim c.if-has_failed.branch [
  | then-has_failed w ↦ stopped_two (Gives (g.R.FileSystem.opens c.args.rt.now) (g.R.FileSystem.reads c.args.rt.now) g.R.File.Read.remaining g.R.Reader.Read.remaining) c.args.line c.args.asked c.args.name.now c.if-has_failed.unread.now _ _ _ _ _ _ _ c.in-Err-run_with_rules.refused c.requires.second c.requires.given c.in-Ok.ensures.given c.in-Err-run_with_rules.ensures.answer
      (λ failed. c.requires.second ∙ ap (λ r. Some r.now) (sym w.unread-is)) (λ well. absurd (true≢false (sym w.if-has_failed.true ∙ c.has_failed.ensures ∙ well))) c.stop_of.result c.stop_of.ensures
  | else-has_failed w ↦ stopped_two (Gives (g.R.FileSystem.opens c.args.rt.now) (g.R.FileSystem.reads c.args.rt.now) g.R.File.Read.remaining g.R.Reader.Read.remaining) c.args.line c.args.asked c.args.name.now c.if-has_failed.unread.now _ _ _ _ _ _ _ c.in-Err-run_with_rules.refused c.requires.second c.requires.given c.in-Ok.ensures.given c.in-Err-run_with_rules.ensures.answer
      (λ failed. absurd (true≢false (sym failed ∙ sym c.has_failed.ensures ∙ w.if-has_failed.false))) (λ well. ap (λ r. r.now) w.unread-is) c.stop_of.result c.stop_of.ensures
]
