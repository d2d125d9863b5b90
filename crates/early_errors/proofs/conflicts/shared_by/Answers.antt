use Rattle.std.proofs.Common.{ℕ, List, filter, ap, ◌∙◌}
use Rattle.std.proofs.lemmas.List.{take_all}
use Rattle.name_tables.specs.Sets.{contains}
use Rattle.early_errors.specs.Names.{has_name, places}
use Rattle.early_errors.specs.Early.{each}
use Rattle.early_errors.specs.Walk.{after, all_named}
use Rattle.early_errors.proofs.Tables.{there-turn}
use Rattle.early_errors.proofs.conflicts.shared_by.Goals as goal

pub loop-named-preserved : goal.loop-named-preserved
loop-named-preserved c = there-turn (contains c.loop-named.there) (contains c.insert.new.self) c.args.others.now c.loop-named.named-index _ c.loop-named-test.true c.in_ok-insert.ensures.after c.loop-named.invariant

pub returns : goal.returns
returns c =
    let whole = take_all c.loop-named.named-index c.args.others.now c.loop-named-test.false in
    let there = λ (w : List ℕ). c.loop-named.invariant w ∙ ap (λ l. has_name w (all_named l)) whole in
    c.held.ensures ∙ (λ i. after c.args.found (each c.args.error (places (filter (λ x. there x.0 i) (all_named c.args.names.now)))))
