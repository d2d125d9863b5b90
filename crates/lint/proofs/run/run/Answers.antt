use Rattle.std.proofs.Common.{ℕ, List, [], refl, sym, subst}
use Rattle.std.proofs.KnownBytes.{Keeps-refl}
use Rattle.lint.specs.Steps.{IsRead}
use Rattle.lint.proofs.AnyAnswers.{asked_begins, asked_refuses, asked_unread, asked_writes}
use Rattle.lint.proofs.run.run.Goals as goal

pub returns-in-Err-clause-answer : goal.returns-in-Err-clause-answer
returns-in-Err-clause-answer g c =
    rw c.at_no_place.ensures
    (asked_unread _ c.args.command c.args.asked [] _ _ _ _ _ _ _ c.in-Err.fault c.in-Err.ensures c.requires.reads_second c.requires.writes (Keeps-refl _))

pub returns-in-Err-answer_asked-clause-answer : goal.returns-in-Err-answer_asked-clause-answer
returns-in-Err-answer_asked-clause-answer g c = asked_refuses _ c.args.command c.args.asked _ _ _ _ _ _ _ _ c.in-Err-answer_asked.refused (record {
  read = subst (λ (bytes : List ℕ). IsRead (g.R.Feed.left c.args.file.now) bytes) (sym c.deref.ensures.value) c.in-Ok.ensures.0;
  of_second = refl;
  of_failed = refl;
  reader = c.in-Ok.ensures.1;
  writer = c.requires.writes;
  kept = Keeps-refl _;
}) c.in-Err-answer_asked.ensures.answer

pub returns-in-Ok-write-clause-answer : goal.returns-in-Ok-write-clause-answer
returns-in-Ok-write-clause-answer g c =
    let read = subst (λ (bytes : List ℕ). IsRead (g.R.Feed.left c.args.file.now) bytes) (sym c.deref.ensures.value) c.in-Ok.ensures.0 in
    asked_writes _ c.args.command c.args.asked _ _ _ _ _ _ _ _ c.in-Ok-answer_asked.answer _ read c.in-Ok.ensures.1 c.in-Ok-write.ensures.1 c.status.ensures c.in-Ok-write.ensures.0 c.in-Ok-answer_asked.ensures.answer

pub returns-clause-answer : goal.returns-clause-answer
returns-clause-answer g c =
    let read = subst (λ (bytes : List ℕ). IsRead (g.R.Feed.left c.args.file.now) bytes) (sym c.deref.ensures.value) c.in-Ok.ensures.0 in
    rw c.at_no_place-in-Err-write.ensures
    (asked_begins _ c.args.command c.args.asked _ _ _ _ _ _ _ _ c.in-Ok-answer_asked.answer read c.in-Ok.ensures.1 c.in-Err-write.ensures.1 c.in-Err-write.ensures.0 c.in-Ok-answer_asked.ensures.answer)
