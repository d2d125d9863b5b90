use Rattle.std.proofs.Common.{◌<◌, ◌≤◌, None, subst, sym, ap, ◌∙◌}
use Rattle.tree.specs.Node.{node_tree}
use Rattle.tree.specs.Tree.{parts_of}
use Rattle.name_tables.specs.BoundNames.{each_part}
use Rattle.early_errors.specs.PrivateNames.{declared}
use Rattle.early_errors.specs.PrivateUses.{noted}
use Rattle.early_errors.specs.Walk.{after, look}
use Rattle.name_tables.proofs.EachPart.{drop-past}
use Rattle.name_tables.proofs.Results.{if_ok}
use Rattle.early_errors.proofs.Privates.{keys_same, noted_agree, uses-turn}
use Rattle.early_errors.proofs.private_names.errors_of_keys.Goals as goal

pub loop-index-init : goal.loop-index-init
loop-index-init c = noted_agree (look c.args.uses.now) (λ w. None) c.requires.uses (each_part declared (parts_of (node_tree c.args.body)))

pub loop-index-preserved : goal.loop-index-preserved
loop-index-preserved c =
    let ps = parts_of (node_tree c.args.body) in
    let i = c.loop-index.index in
    uses-turn (look c.loop-index.uses) (look c.note_use.new.uses) (noted (λ w. None) (each_part declared ps)) i _ ps (subst (λ n. i < n) c.part_count-index-end.ensures c.loop-index-test.true) c.part.ensures c.in_ok-note_use.ensures c.loop-index.invariant

pub returns : goal.returns
returns c =
    let ps = parts_of (node_tree c.args.body) in
    let ds = each_part declared ps in
    let past = drop-past declared ps c.loop-index.index (subst (λ n. n ≤ c.loop-index.index) c.part_count-index-end.ensures c.loop-index-test.false) in
    if_ok c.repeated_keys.result _ _
    (λ e x. x ∙ ap (after c.args.found)
    (keys_same (look c.loop-index.uses) (noted (λ w. None) ds) (look c.args.seen.now) (λ w. None) ds (λ w. ap (λ xs. noted (look c.loop-index.uses) xs w) (sym past) ∙ c.loop-index.invariant w) c.requires.seen))
    c.repeated_keys.ensures
