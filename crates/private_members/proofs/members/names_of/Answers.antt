use Rattle.std.specs.Prelude.{◌&&◌}
use Rattle.std.specs.Str.{bytes_eq}
use Rattle.private_members.proofs.Sets.{any-end}
use Rattle.private_members.proofs.members.names_of.Goals as goal

pub returns : goal.returns
returns c w = (
  any-end (λ u. bytes_eq w u.name) c.args.uses.now c.loop-used.used-index _ _ c.loop-used-test.false (c.loop-used.invariant w).0,
  any-end (λ u. u.is_read && bytes_eq w u.name) c.args.uses.now c.loop-used.used-index _ _ c.loop-used-test.false (c.loop-used.invariant w).1,
)
