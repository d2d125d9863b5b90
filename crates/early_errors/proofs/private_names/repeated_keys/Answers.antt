use Rattle.std.proofs.Common.{◌+◌, ◌++◌, ◌<◌, ◌≤◌, subst, sym, ap, ◌∙◌}
use Rattle.tree.specs.Node.{node_tree}
use Rattle.tree.specs.Tree.{parts_of, parts_drop}
use Rattle.name_tables.specs.BoundNames.{each_part}
use Rattle.early_errors.specs.PrivateNames.{declared}
use Rattle.early_errors.specs.PrivateUses.{key_errors}
use Rattle.early_errors.specs.Walk.{after, look}
use Rattle.name_tables.proofs.EachPart.{drop-step, drop-past}
use Rattle.early_errors.proofs.Least.{sooner-none}
use Rattle.early_errors.proofs.Privates.{key-turn, nothing_declared}
use Rattle.early_errors.proofs.private_names.repeated_keys.Goals as goal
use Rattle.early_errors.proofs.private_names.repeated_keys.Goals.{in-Some+in_ok-found, in_default}

pub loop-index-preserved : goal.loop-index-preserved
loop-index-preserved c =
    let ps = parts_of (node_tree c.args.body) in
    let i = c.loop-index.index in
    let U = look c.args.uses.now in
    let rest = each_part declared (parts_drop (i + 1) ps) in
    let step = drop-step declared ps i _ (subst (λ n. i < n) c.part_count-index-end.ensures c.loop-index-test.true) c.part.ensures in
    elim c.match-private_key.branch [
      | in-Some+in_ok-found w ↦
          (λ j. after (w.found-is j) (key_errors U (look (w.seen-is j)) rest))
          ∙ key-turn U (look c.loop-index.seen) (look w.key_errors.new.seen) _ (node_tree w.in-Some.key) rest c.loop-index.found w.in_ok-found.found _ w.in-Some.ensures w.in_ok-found.ensures.seen w.in_ok-found.ensures.found
          (ap (λ xs. after c.loop-index.found (key_errors U (look c.loop-index.seen) xs)) (sym step) ∙ c.loop-index.invariant)
      | in_default w ↦
          (λ j. after (w.found-is j) (key_errors U (look (w.seen-is j)) rest))
          ∙ ap (λ xs. after c.loop-index.found (key_errors U (look c.loop-index.seen) (xs ++ rest))) (sym (nothing_declared _ w.in_default.ensures))
          ∙ ap (λ xs. after c.loop-index.found (key_errors U (look c.loop-index.seen) xs)) (sym step) ∙ c.loop-index.invariant
    ]

pub returns : goal.returns
returns c =
    sym (sooner-none c.loop-index.found)
    ∙ ap (λ xs. after c.loop-index.found (key_errors (look c.args.uses.now) (look c.loop-index.seen) xs)) (sym (drop-past declared (parts_of (node_tree c.args.body)) c.loop-index.index (subst (λ n. n ≤ c.loop-index.index) c.part_count-index-end.ensures c.loop-index-test.false)))
    ∙ c.loop-index.invariant
