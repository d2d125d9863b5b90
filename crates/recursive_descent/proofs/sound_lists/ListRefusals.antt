-- What a list refuses, as what becomes of what was read.
use Rattle.std.proofs.Common.{◌≡◌, ℕ, Bool, Result, Ok, Err, sym, subst, ◌∙◌}
use Rattle.source_text.specs.declared.fault.Fault.{Fault}
use Rattle.source_text.specs.declared.fault.Fault.TheVariants.{Syntax, OutOfMemory}
use Rattle.covers.specs.Refusals.{IsTaken}
use Rattle.parser_tables.specs.Outcomes.{RefusedUnless}

-- an item that wasn't taken
pub unless_taken : {X : Type 0} (At : ℕ → Type 0) (fits same : Bool) (at : ℕ) (r : Result X Fault) (fault : Fault) → r ≡ Err fault → IsTaken fits at r → At at → fits ≡ same → RefusedUnless At same fault
unless_taken At fits same at (Ok x) fault e h a q = absurd (cc)
unless_taken At fits same at (Err (Syntax place)) fault e h a q =
    let f : Syntax place ≡ fault = cc in
    subst (RefusedUnless At same) f (subst At (sym h.0) a, sym q ∙ h.1)
unless_taken At fits same at (Err OutOfMemory) fault e h a q =
    let f : OutOfMemory ≡ fault = cc in
    subst (RefusedUnless At same) f tt
unless_taken At fits same at (Err _) fault e h a q = absurd h
