use Rattle.std.proofs.Common.{subst, ◌<◌, ◌≤◌}
use Rattle.rules.proofs.Flags.{marked, unmarked}
use Rattle.rules.proofs.used_bindings.note_binding.Goals as goal

pub returns-then-place-binding_count : goal.returns-then-place-binding_count
returns-then-place-binding_count c = marked c.args.scopes.now.scopes c.args.used.now c.mark.new.self c.args.scope c.args.place c.mark.ensures.firsts c.mark.ensures.flags (subst (λ n. c.args.place < n) c.binding_count.ensures c.if-place-binding_count.true)

pub returns-else-place-binding_count : goal.returns-else-place-binding_count
returns-else-place-binding_count c = unmarked c.args.scopes.now.scopes c.args.used.now c.args.scope c.args.place (subst (λ n. n ≤ c.args.place) c.binding_count.ensures c.if-place-binding_count.false)
