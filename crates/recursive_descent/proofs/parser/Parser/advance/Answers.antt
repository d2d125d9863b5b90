use Rattle.recursive_descent.proofs.parser.Parser.advance.Goals as goal

pub returns-clause-reads : goal.returns-clause-reads
returns-clause-reads c = c.advance.ensures.reads

pub returns-clause-passes : goal.returns-clause-passes
returns-clause-passes c = c.advance.ensures.passes c.requires.real
