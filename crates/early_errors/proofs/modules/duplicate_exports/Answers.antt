use Rattle.std.proofs.Common.{◌++◌, ◌<◌, ◌≤◌, subst, ap, ◌∙◌}
use Rattle.tree.specs.Node.{node_tree}
use Rattle.tree.specs.Tree.{parts_of}
use Rattle.name_tables.specs.BoundNames.{each_part}
use Rattle.early_errors.specs.declared.EarlyError.TheVariants.{DuplicateExport}
use Rattle.early_errors.specs.Early.{each}
use Rattle.early_errors.specs.ExportsRead.{all_exported}
use Rattle.early_errors.specs.Modules.{exported_names}
use Rattle.early_errors.specs.Names.{places, twice}
use Rattle.early_errors.specs.Walk.{after}
use Rattle.name_tables.proofs.EachPart.{push-turn, push-end}
use Rattle.name_tables.proofs.Results.{if_ok}
use Rattle.early_errors.proofs.Exports.{twice_exported}
use Rattle.early_errors.proofs.modules.duplicate_exports.Goals as goal

pub loop-index-preserved : goal.loop-index-preserved
loop-index-preserved c =
    let i = c.loop-index.index in
    push-turn exported_names (parts_of (node_tree c.args.program)) i _ (all_exported c.loop-index.exported.items) (all_exported c.push_exported.new.names.items) _ (subst (λ n. i < n) c.part_count-index-end.ensures c.loop-index-test.true) c.part.ensures c.in_ok-push_exported.ensures c.loop-index.invariant

pub returns : goal.returns
returns c =
    let t = node_tree c.args.program in
    let all = ap all_exported c.as_slice.ensures.value ∙ push-end exported_names (parts_of t) c.loop-index.index (all_exported c.loop-index.exported.items) _ (subst (λ n. n ≤ c.loop-index.index) c.part_count-index-end.ensures c.loop-index-test.false) c.loop-index.invariant
    ∙ ap (λ l. all_exported l ++ each_part exported_names (parts_of t)) c.requires.exported in
    if_ok c.repeated_exports.result _ _ (λ e x. x ∙ ap (λ ns. after c.args.found (each DuplicateExport (places (twice ns)))) all ∙ ap (after c.args.found) (twice_exported t c.requires.kind)) c.repeated_exports.ensures
