-- What was read of a feed, as far as it is known.
use Rattle.std.proofs.Common.{◌≡◌, ◌++◌, ◌≤◌, ℕ, List, Bool, false, Option, Some, None, take, length, sym, ap, ◌∙◌, append_assoc, rules}
use Rattle.std.proofs.lemmas.List.{append-nil, take_all}
use Rattle.std.proofs.Math.Seq.{take-append_seam}
use Rattle.std.specs.Option.{IfSome}
use Rattle.std.specs.Io.KnownBytes.{Consumes, IsAtEnd}

-- one part behind another
read_on : (before between after : Option (List ℕ)) (xs ys zs : List ℕ)
    → zs ≡ xs ++ ys → Consumes before between xs → Consumes between after ys → Consumes before after zs
read_on None between after xs ys zs e p q = search rules
read_on (Some all) None after xs ys zs e p q = absurd p
read_on (Some all) (Some rest) None xs ys zs e p q = absurd q
read_on (Some all) (Some rest) (Some left) xs ys zs e p q =
    p ∙ ap (λ l. xs ++ l) q ∙ sym (append_assoc xs ys left) ∙ ap (λ l. l ++ left) (sym e)

-- to the end
all_read : (before after : Option (List ℕ)) (xs : List ℕ) (n : ℕ)
    → length xs ≤ n → Consumes before after xs → IsAtEnd after → IfSome before (λ all. xs ≡ take n all)
all_read None after xs n fits p e = search rules
all_read (Some all) None xs n fits p e = absurd p
all_read (Some all) (Some rest) xs n fits p e =
    let whole : all ≡ xs = p ∙ ap (λ l. xs ++ l) e ∙ append-nil xs in
    sym (ap (λ l. take n l) whole ∙ take_all n xs fits)

-- as much as is asked for
pub enough_read : (before after : Option (List ℕ)) (xs : List ℕ) (n : ℕ)
    → length xs ≡ n → Consumes before after xs → IfSome before (λ all. xs ≡ take n all)
enough_read None after xs n e p = search rules
enough_read (Some all) None xs n e p = absurd p
enough_read (Some all) (Some rest) xs n e p =
    sym (ap (λ l. take n l) p ∙ ap (λ m. take m (xs ++ rest)) (sym e) ∙ take-append_seam xs rest)

-- nothing more was read, since nothing is left
pub none_left : (before between after : Option (List ℕ)) (xs room : List ℕ) (count n : ℕ) (failed : Bool)
    → count ≡ 0 → length xs ≤ n → Consumes before between xs
    → (count ≤ length room) × Consumes between after (take count room) × (count ≡ 0 → IsAtEnd after) × (failed ≡ false)
    → IfSome before (λ all. xs ≡ take n all) × (failed ≡ false)
none_left before between after xs room count n failed zero fits p (_, q, end, sound) =
    let same : xs ++ take count room ≡ xs = ap (λ k. xs ++ take k room) zero ∙ append-nil xs in
    (all_read before after xs n fits (read_on before between after xs (take count room) xs (sym same) p q) (end zero), sound)
