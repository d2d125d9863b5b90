-- The line that says that memory was refused is shown as it stands.
use Rattle.std.proofs.Common.{◌≡◌, ℕ, List, Bool, inr, refl, sym, subst}
use Rattle.std.specs.Char.{encode_utf8}
use Rattle.std.specs.Prelude.{Option}
use Rattle.std.specs.Str.{chars}
use Rattle.commands.specs.Refusal.{WritesLine, refusal_line}
use Rattle.commands.specs.Refused.{no_memory}
use Rattle.command_line.specs.Shown.{escaped}
use Rattle.command_line.specs.Tip.{WritesMistake}

line_shown : escaped (refusal_line no_memory) ≡ refusal_line no_memory
unfolding chars encode_utf8
line_shown = refl

pub memory_said : (tip : List ℕ) (before after : Option (List ℕ)) (failed : Bool) → WritesLine (refusal_line no_memory) before after failed → WritesMistake tip before after failed
memory_said tip before after failed written = (refusal_line no_memory, inr refl, subst (λ line. WritesLine line before after failed) (sym line_shown) written)
