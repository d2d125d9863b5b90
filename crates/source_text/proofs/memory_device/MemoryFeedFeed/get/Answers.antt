use Rattle.std.proofs.Common.{arith, ℕ, List, ◌≡◌, ◌≤◌, ◌++◌, length, take, drop, length-append, ap, sym, ◌∙◌, take-append-drop}
use Rattle.std.proofs.lemmas.List.{take-append-le, take-take, length-take-le}
use Rattle.std.proofs.Math.ListN.{drop_of_length-le}
use Rattle.source_text.specs.Memory.{Unread}
use Rattle.source_text.specs.declared.memory_device.Calls.{Calls}
use Rattle.source_text.proofs.memory_device.MemoryFeedFeed.get.Goals as goal

-- the front of what is left, copied to the front of a room, and what is behind it
front_and_back : (n : ℕ) (rest front back copied tail : List ℕ) → n ≤ length rest → front ≡ take n rest → back ≡ drop n rest → copied ≡ front
    → rest ≡ take n (copied ++ tail) ++ back
front_and_back n rest front back copied tail within is_front is_back is_copied =
    let low : n ≤ length copied = omega (arith, length-take-le n rest within, ap length (is_copied ∙ is_front)) in
    sym (take-append-drop n rest)
    ∙ ap (λ l. l ++ drop n rest) (sym (take-append-le n copied tail low ∙ ap (take n) (is_copied ∙ is_front) ∙ take-take n n rest (omega arith)))
    ∙ ap (λ l. take n (copied ++ tail) ++ l) (sym is_back)

pub returns-clause-bytes : goal.returns-clause-bytes
returns-clause-bytes c =
    let n = c.min-count.result in
    let rest = c.self.inside.rest.now in
    let within : n ≤ length rest = omega (arith, c.min-count.ensures) in
    let full : length c.copy_from_slice.new.self ≡ n =
    ap length (c.copy_from_slice.ensures.after ∙ c.split_at.ensures.front) ∙ length-take-le n rest within in (
      omega (arith, full, length-append c.copy_from_slice.new.self (drop n c.args.room.now)),
      sym (ap (λ (f : Unread). f.left) c.self.view_is) ∙ front_and_back n rest _ _ _ (drop n c.args.room.now) within c.split_at.ensures.front c.split_at.ensures.back c.copy_from_slice.ensures.after,
      λ none. c.split_at.ensures.back ∙ drop_of_length-le rest (omega (arith, c.min-count.ensures, c.min.ensures, c.max-most.ensures, none)),
      ap (λ (k : Calls). k.has_failed) c.next_fails.ensures.counted ∙ ap (λ (f : Unread). f.failed) c.self.view_is ∙ c.requires.ready,
    )
