use Rattle.std.proofs.Common.{map, take}
use Rattle.scopes.specs.Shown.{reference_shown}
use Rattle.rules.specs.Rules.{is_used, means, uses}
use Rattle.std.specs.Prelude.{◌&&◌}
use Rattle.rules.proofs.Flags.{any-turn, notes-same}
use Rattle.rules.proofs.used_bindings.used_by.Goals as goal

pub loop-reference-preserved : goal.loop-reference-preserved
loop-reference-preserved c =
    let references = c.references-reference-items.result.now in
    let so_far = is_used c.args.writes (map reference_shown (take c.loop-reference.reference-index references)) in
    notes-same c.args.scopes.now.scopes c.note.new.used _ _
    (λ m. any-turn (λ r. uses c.args.writes r && means r m) reference_shown references c.loop-reference.reference-index _ c.loop-reference-test.true)
    (c.note.ensures so_far c.loop-reference.invariant)
