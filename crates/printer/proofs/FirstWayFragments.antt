-- What is said of the marks of a node's first way.
use Rattle.std.proofs.Common.{◌≡◌, Bool, true, false, cond, List, [], ◌∷◌, refl, sym, ap, ◌∙◌}
use Rattle.std.specs.Prelude.{◌&&◌, map, IsTrue}
use Rattle.tree.specs.Tree.{Tree, bare, Parts}
use Rattle.language.specs.FirstPart.{others}
use Rattle.tree.specs.Uses.{is_lean}
use Rattle.language.specs.Pieces.{Role, Spelling, is_none}
use Rattle.language.specs.Grammar.{ways, ways_bare, spellings, fits_position, can_run, own_rank, own_in, own_start}
use Rattle.language.specs.Layout.{some_way, first_way}
use Rattle.language.proofs.lower_bound.Domination.{settled, fits, ways_of}
use Rattle.printer.specs.Bits.{Mark, here, marks_of, piece_marks}
use Rattle.printer.proofs.ListMarks.{marks-settled}

-- so many parts as marks for them
abbrev pub counts_up : List Mark → Parts → Bool
counts_up [] ps = is_none ps
counts_up (here x ∷ ms) ps = counts_up ms (others ps)
counts_up (_ ∷ ms) ps = counts_up ms ps

abbrev pub Means : Parts → List Mark → Spelling → Type 0
Means ps M s = can_run s.pieces ≡ true → counts_up (piece_marks s.pieces) ps ≡ true → piece_marks s.pieces ≡ M

-- the first way that fits has these marks; a second one fits only where the first does
pub data Shaped (ps : Parts) (M : List Mark) : List Spelling → Type 0 where
  nowhere : Shaped ps M []
  one : {s : Spelling} → Means ps M s → Shaped ps M (s ∷ [])
  two : {s r : Spelling} → Means ps M s → ((a : Role) → IsTrue (fits a r) → IsTrue (fits a s)) → Shaped ps M (s ∷ r ∷ [])

pub shaped_if : {ps : Parts} {M : List Mark} {xs ys : List Spelling} (b : Bool) → (b ≡ true → Shaped ps M xs) → (b ≡ false → Shaped ps M ys) → Shaped ps M (cond b xs ys)
shaped_if true h k = h refl
shaped_if false h k = k refl

runs_of : (u v : Bool) → (u && v) ≡ true → v ≡ true
runs_of true v h = h
runs_of false v h = absurd (cc)

abbrev Answer : Parts → List Mark → Role → List Spelling → Type 0
Answer ps M a xs = some_way (map (settled a) xs) ≡ true → counts_up (marks_of (first_way (map (settled a) xs))) ps ≡ true → marks_of (first_way (map (settled a) xs)) ≡ M

meant_at : (ps : Parts) (M : List Mark) (a : Role) (s : Spelling) → can_run s.pieces ≡ true → Means ps M s → counts_up (marks_of (settled a s)) ps ≡ true → marks_of (settled a s) ≡ M
meant_at ps M a s r h c = let e : marks_of (settled a s) ≡ piece_marks s.pieces = marks-settled (own_rank a) (own_in a) (own_start a) s.pieces in e ∙ h r (sym (ap (λ ms. counts_up ms ps) e) ∙ c)

meant : (ps : Parts) (M : List Mark) (a : Role) (s : Spelling) (v : Bool) → fits a s ≡ v → Means ps M s → Answer ps M a (cond v (s ∷ []) [])
meant ps M a s false e h k c = absurd (cc)
meant ps M a s true e h k c = meant_at ps M a s (runs_of (fits_position a s) (can_run s.pieces) e) h c

abbrev first_of_two : Spelling → Spelling → Bool → Bool → List Spelling
first_of_two s r b c = cond b (s ∷ cond c (r ∷ []) []) (cond c (r ∷ []) [])

meant_first : (ps : Parts) (M : List Mark) (a : Role) (s r : Spelling) (v u : Bool) → fits a s ≡ v → (u ≡ true → v ≡ true) → Means ps M s → Answer ps M a (first_of_two s r v u)
meant_first ps M a s r true u e k h x c = meant_at ps M a s (runs_of (fits_position a s) (can_run s.pieces) e) h c
meant_first ps M a s r false true e k h x c = let i : false ≡ true = k refl in absurd (cc)
meant_first ps M a s r false false e k h x c = absurd (cc)

shaped_answer : (ps : Parts) (M : List Mark) (a : Role) (xs : List Spelling) → Shaped ps M xs → some_way (ways_of a xs) ≡ true → counts_up (marks_of (first_way (ways_of a xs))) ps ≡ true → marks_of (first_way (ways_of a xs)) ≡ M
shaped_answer ps M a [] nowhere k c = absurd (cc)
shaped_answer ps M a (s ∷ r ∷ t ∷ xs) x k c = elim x [ ]
shaped_answer ps M a (s ∷ []) (one h) k c = meant ps M a s (fits a s) refl h k c
shaped_answer ps M a (s ∷ r ∷ []) (two h f) k c = meant_first ps M a s r (fits a s) (fits a r) refl (f a) h k c

pub shaped_ways : (ps : Parts) (M : List Mark) (a : Role) (n : Tree) → Shaped ps M (spellings a (bare n)) → some_way (ways a n) ≡ true → counts_up (marks_of (first_way (ways a n))) ps ≡ true → marks_of (first_way (ways a n)) ≡ M
unfolding ways ways_bare
shaped_ways ps M a n h k c = of (is_lean (bare n)) k c
  where
    of : (b : Bool) → some_way (cond b (ways_of a (spellings a (bare n))) []) ≡ true → counts_up (marks_of (first_way (cond b (ways_of a (spellings a (bare n))) []))) ps ≡ true → marks_of (first_way (cond b (ways_of a (spellings a (bare n))) [])) ≡ M
    of true u v = shaped_answer ps M a (spellings a (bare n)) h u v
    of false u v = absurd (cc)
