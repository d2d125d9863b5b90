-- A token that was passed, from before and beyond where it was.
use Rattle.std.proofs.Common.{◌≡◌, ◌≤◌, ◌<◌, length, subst, arith}
use Rattle.token_cursor.specs.CursorState.{CursorState}
use Rattle.token_cursor.specs.CursorState.{Passes}

-- what was read before it counts too
pub passes_behind : (s m e : CursorState) → s.last.stop ≤ m.last.stop → m.text ≡ s.text → Passes m e → Passes s e
passes_behind s m e forward text (past, within) =
    let inside : m.last.stop < length s.text.bytes = subst (λ x. m.last.stop < length x.bytes) text within in
    (omega arith, omega arith)

-- and what is read behind it
pub passes_further : (s m e : CursorState) → Passes s m → m.last.stop ≤ e.last.stop → Passes s e
passes_further s m e (past, within) forward = (omega arith, within)
