use Rattle.lint.proofs.command_answers.answer.Goals as goal

pub returns-in-Tree-clause-answer : goal.returns-in-Tree-clause-answer
returns-in-Tree-clause-answer g c = λ finds. rw (c.in-Tree.is, c.requires.ready) (c.tree.ensures.answer c.args.language c.args.source.now finds (g.S.Feed.left c.args.second.now))

pub returns-in-Fix-clause-answer : goal.returns-in-Fix-clause-answer
returns-in-Fix-clause-answer g c = λ finds. rw (c.in-Fix.is, c.requires.ready) (c.fixed.ensures.answer c.args.language c.requires.reading finds (g.S.Feed.left c.args.second.now))

pub returns-in-Unwrap-clause-answer : goal.returns-in-Unwrap-clause-answer
returns-in-Unwrap-clause-answer g c = λ finds. rw (c.in-Unwrap.is, c.requires.ready) (c.unwrapped.ensures.answer finds (g.S.Feed.left c.args.second.now))

pub returns-in-Cost-clause-answer : goal.returns-in-Cost-clause-answer
returns-in-Cost-clause-answer g c = λ finds. rw (c.in-Cost.is, c.requires.ready) (c.cost.ensures.answer c.args.language c.args.source.now c.requires.reading finds (g.S.Feed.left c.args.second.now))

pub returns-in-Verify-clause-answer : goal.returns-in-Verify-clause-answer
returns-in-Verify-clause-answer g c = λ finds. rw c.in-Verify.is (c.verify.ensures.answer finds c.args.language c.args.source.now)

pub returns-in-Format-clause-answer : goal.returns-in-Format-clause-answer
returns-in-Format-clause-answer g c = λ finds. rw (c.in-Format.is, c.requires.ready) (c.format.ensures.answer finds (g.S.Feed.left c.args.second.now))
