-- What is written, one piece after the other.
use Rattle.std.proofs.Common.{◌≡◌, ℕ, ◌+◌, ◌<◌, List, [], ◌∷◌, ◌++◌, length, replicate, Ok, Err, Result, sym, subst, ◌∙◌, ap, append_assoc, length-append, arith}
use Rattle.std.proofs.lemmas.List.{replicate_more, length-replicate}
use Rattle.std.specs.Result.{IsErrAnd}
use Rattle.layout_items.specs.declared.layout_error.LayoutError.{LayoutError}
use Rattle.layout_items.specs.declared.layout_error.LayoutError.TheVariants.{OutOfMemory, TooLong}
use Rattle.layout_items.specs.declared.output.Output.{Output}
use Rattle.layout_items.specs.Written.{Appended, bytes_of}

pub then : (r : Result (Unit {0}) LayoutError) (a b c : Output) (s t : List ℕ) → Appended (Ok tt) a b s → Appended r b c t → Appended r a c (s ++ t)
then (Ok u) a b c s t h k = (k.0 ∙ (ap (λ (x : List ℕ). x ++ t) h.0 ∙ append_assoc (bytes_of a) s t), k.1 ∙ h.1)
then (Err TooLong) a b c s t h k =
    let e = ap length h.0 ∙ length-append (bytes_of a) s in
    let l = length-append s t in
    omega (arith, e, l, k, h.1)
then (Err OutOfMemory) a b c s t h k = tt

-- one of so many
pub stops_among : (e : LayoutError) (a b c d : Output) (n k x : ℕ) → Appended (Ok tt) a b (replicate k x) → Appended (Err e) b c (x ∷ []) → k < n → Appended (Err e) a d (replicate n x)
stops_among TooLong a b c d n k x h g lt =
    let e = ap length h.0 ∙ length-append (bytes_of a) (replicate k x) in
    omega (arith, e, length-replicate k x, length-replicate n x, g, h.1)
stops_among OutOfMemory a b c d n k x h g lt = tt

pub one_more : (a b c : Output) (k x : ℕ) → Appended (Ok tt) a b (replicate k x) → Appended (Ok tt) b c (x ∷ []) → Appended (Ok tt) a c (replicate (k + 1) x)
one_more a b c k x h g = let m = then (Ok tt) a b c (replicate k x) (x ∷ []) h g in (m.0 ∙ ap (λ (s : List ℕ). bytes_of a ++ s) (replicate_more k x), m.1)

-- what the exit of a `?` returns
pub passed_on : (r : Result (Unit {0}) LayoutError) (e : LayoutError) (a b : Output) (t : List ℕ) → IsErrAnd r (λ x. x ≡ e) → Appended (Err e) a b t → Appended r a b t
passed_on (Ok u) e a b t h k = absurd h
passed_on (Err x) e a b t h k = subst (λ (y : LayoutError). Appended (Err y) a b t) (sym h) k
