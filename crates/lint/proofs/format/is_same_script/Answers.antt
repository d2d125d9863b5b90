use Rattle.std.proofs.Common.{◌∙◌, ℕ, List, ap, refl, subst, sym, length}
use Rattle.std.specs.Str.{IsUtf8}
use Rattle.tree.specs.declared.kind.Pair.{Pair}
use Rattle.tree.specs.Tree.{Tree, SameTree}
use Rattle.recursive_descent.specs.Limits.{WithinLimitsIn}
use Rattle.retaining.specs.Retains.{Retains}
use Rattle.lint.proofs.Formatting.{if_said}
use Rattle.lint.proofs.format.is_same_script.Goals as goal

pub returns-in-Ok-true-clause-spells : goal.returns-in-Ok-true-clause-spells
returns-in-Ok-true-clause-spells c =
    let text = c.args.original.source.now in
    let n = c.args.original.program.now in
    let P = c.args.original.pairs.now in
    let again = c.in-Ok-parse.again.program in
    let pairs = c.in-Ok-parse.again.pairs.items in
    if_said c.is_laid_out.result (record {
      again = again;
      pairs = pairs;
      source = subst IsUtf8 c.in-Ok.ensures.ok.0 c.in-Ok-parse.ensures.source.0;
      derived = subst (λ (t : List ℕ). WithinLimitsIn c.args.terms.language t again pairs) c.in-Ok.ensures.ok.0 c.in-Ok-parse.ensures.derived;
      kept = subst (λ (t : List ℕ). Retains text n P t again pairs) c.in-Ok.ensures.ok.0
          (subst (λ (m : Tree). Retains text n P c.in-Ok.source m pairs) c.program-2.ensures
          (subst (λ (ps : List Pair). Retains text n P c.in-Ok.source c.program-2.result.now ps) c.grouping_pairs-2.ensures (c.in-Ok-true.ensures c.in-Ok-true.field-0-test n P c.requires)));
      same = subst (λ (m : Tree). SameTree m n) c.program.ensures (c.if-not-same_tree.ensures.0 refl);
      counted = ap (λ (ps : List Pair). length ps) (sym c.grouping_pairs.ensures) ∙ c.if-grouping_pairs-original.false;
    })
