use Rattle.std.proofs.Common.{◌∙◌, subst, sym, true≢false}
use Rattle.tree.specs.Tree.{Tree, SameTree}
use Rattle.lint.proofs.same_command.compare.Goals as goal

pub returns-then-same_tree-clause-status : goal.returns-then-same_tree-clause-status
returns-then-same_tree-clause-status c = record {
  short = c.in-Ok.ensures.source.1;
  tree = c.in-Ok.other.program;
  pairs = c.in-Ok.other.pairs.items;
  reading = c.in-Ok.ensures.reading;
  told = subst (λ (m : Tree). SameTree m c.args.program.now) c.program.ensures (c.same_tree.ensures.0 c.if-same_tree.true);
}

pub returns-clause-status : goal.returns-clause-status
returns-clause-status c = record {
  short = c.in-Ok.ensures.source.1;
  tree = c.in-Ok.other.program;
  pairs = c.in-Ok.other.pairs.items;
  reading = c.in-Ok.ensures.reading;
  told = λ same. true≢false (sym (c.same_tree.ensures.1 (subst (λ (m : Tree). SameTree m c.args.program.now) (sym c.program.ensures) same)) ∙ c.if-same_tree.false);
}
