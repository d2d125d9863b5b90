use Rattle.recursive_descent.proofs.parser.Parser.for_kind.Goals as goal

pub returns-then-sees_punctuator-clause-followed : goal.returns-then-sees_punctuator-clause-followed
returns-then-sees_punctuator-clause-followed c = c.if-sees_punctuator.ensures.seen

pub returns-then-sees_word-clause-followed : goal.returns-then-sees_word-clause-followed
returns-then-sees_word-clause-followed c = c.if-sees_word.ensures.seen

pub returns-then-sees_word-2-clause-followed : goal.returns-then-sees_word-2-clause-followed
returns-then-sees_word-2-clause-followed c = c.if-sees_word-2.ensures.seen

pub returns-clause-unfollowed : goal.returns-clause-unfollowed
returns-clause-unfollowed c = (c.if-sees_punctuator.ensures.missed, c.if-sees_word.ensures.missed, c.if-sees_word-2.ensures.missed)

pub returns-clause-refused : goal.returns-clause-refused
returns-clause-refused c = c.syntax_error.ensures.refused
