use Rattle.tree.specs.Tree.{program_tree}
use Rattle.tree.proofs.program.Program.build.Goals as goal

pub invariant_of-result : goal.invariant_of-result
invariant_of-result c = (c.number_rows.ensures (program_tree c.args.language.now c.args.builder c.args.span) c.in_ok-tree.ensures.built).1

pub returns-clause-built : goal.returns-clause-built
returns-clause-built c = (c.number_rows.ensures (program_tree c.args.language.now c.args.builder c.args.span) c.in_ok-tree.ensures.built).0
