use Rattle.std.proofs.Common.{sym, ◌∙◌}
use Rattle.tree.specs.Uses.{used_flags}
use Rattle.spellings.proofs.Plain.{plain_within}
use Rattle.spellings.proofs.lean.has_its_flags.Goals as goal

pub returns-then-has_no_flags : goal.returns-then-has_no_flags
returns-then-has_no_flags c = sym (plain_within c.args.flags (used_flags c.args.kind c.args.flags) (sym c.has_no_flags.ensures ∙ c.if-has_no_flags.true))
