use Rattle.std.proofs.Common.{◌≡◌, ◌∙◌, ap, sym, length, List, Some}
use Rattle.tree.specs.declared.kind.Pair.{Pair}
use Rattle.language.specs.Pieces.{script}
use Rattle.language.specs.Cost.{least}
use Rattle.lint.proofs.PlannedScripts.{script_derived, reading_script}
use Rattle.lint.proofs.Unwrapping.{one_number, unwraps_itself, unwraps_to}
use Rattle.lint.proofs.unwrap.unwrap_unless_fewest.Goals as goal

pub costs_by_pairs-requires : goal.costs_by_pairs-requires
costs_by_pairs-requires c =
    script_derived _ _ _ _ (sym c.program.ensures) (sym c.grouping_pairs-pairs.ensures) (reading_script c.args.language c.args.source.now _ _ c.requires.reading c.requires.small)

pub returns-then-pairs-fewest-clause-unwrapped : goal.returns-then-pairs-fewest-clause-unwrapped
returns-then-pairs-fewest-clause-unwrapped c =
    let n = c.args.parsed.now.program in
    let P = c.args.parsed.now.pairs.items in
    let same : length P ≡ length c.grouping_pairs-pairs.result.now = ap (λ (ps : List Pair). length ps) (sym c.grouping_pairs-pairs.ensures) in
    let fewest : Some c.in-Ok.costs.fewest ≡ least n script = c.in-Ok.ensures ∙ ap (λ m. least m script) c.program.ensures in
    unwraps_itself c.args.language c.args.source.now n P c.requires.reading.accepted c.requires.reading.only (ap (λ m. Some m) (same ∙ c.if-pairs-fewest.true ∙ c.fewest.ensures) ∙ fewest)

pub returns-in-Ok-read_and_rewrite-clause-unwrapped : goal.returns-in-Ok-read_and_rewrite-clause-unwrapped
returns-in-Ok-read_and_rewrite-clause-unwrapped c =
    let n = c.args.parsed.now.program in
    let P = c.args.parsed.now.pairs.items in
    let same : length c.grouping_pairs-pairs.result.now ≡ length P = ap (λ (ps : List Pair). length ps) c.grouping_pairs-pairs.ensures in
    let fewest : Some c.in-Ok.costs.fewest ≡ least n script = c.in-Ok.ensures ∙ ap (λ m. least m script) c.program.ensures in
    unwraps_to c.args.language c.args.source.now _ n P c.in-Ok.costs.fewest c.requires.reading.accepted c.requires.reading.only fewest (λ as_few. c.if-pairs-fewest.false (same ∙ one_number (as_few ∙ sym fewest) ∙ sym c.fewest.ensures))
    c.in-Ok-read_and_rewrite.ensures.spells
