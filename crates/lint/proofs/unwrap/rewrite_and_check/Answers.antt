use Rattle.std.proofs.Common.{ℕ, List, sym, subst, string_bytes}
use Rattle.std.specs.Result.{IfOk}
use Rattle.tree.specs.Tree.{Tree}
use Rattle.tree.specs.declared.kind.Pair.{Pair}
use Rattle.unwrapping.specs.Readings.{IsRead}
use Rattle.lint.specs.Unwraps.{SpellsWith}
use Rattle.lint.proofs.unwrap.rewrite_and_check.Goals as goal

pub checked_text-requires : goal.checked_text-requires
checked_text-requires c =
    subst (λ (ps : List Pair). IsRead c.args.source.now c.program-program.result.now ps c.args.reading.now) (sym c.grouping_pairs-pairs.ensures)
    (subst (λ (m : Tree). IsRead c.args.source.now m c.args.parsed.now.pairs.items c.args.reading.now) (sym c.program-program.ensures) c.requires)

pub returns-in-Ok-clause-spells : goal.returns-in-Ok-clause-spells
returns-in-Ok-clause-spells c =
    subst (λ (k : ℕ). IfOk c.checked_text.result (λ t. SpellsWith c.args.language c.args.source.now (string_bytes t) c.args.parsed.now.program c.args.parsed.now.pairs.items k)) c.fewest-count.ensures
    (subst (λ (ps : List Pair). IfOk c.checked_text.result (λ t. SpellsWith c.args.language c.args.source.now (string_bytes t) c.args.parsed.now.program ps c.fewest-count.result)) c.grouping_pairs-pairs.ensures
    (subst (λ (m : Tree). IfOk c.checked_text.result (λ t. SpellsWith c.args.language c.args.source.now (string_bytes t) m c.grouping_pairs-pairs.result.now c.fewest-count.result)) c.program-program.ensures c.checked_text.ensures.spells))
