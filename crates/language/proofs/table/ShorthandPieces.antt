-- Shorthand keys among pieces and positions.
use Rattle.std.proofs.Common.{◌≡◌, Bool, true, false, not, ◌||◌, List, [], ◌∷◌, refl, sym, ap, ◌∙◌}
use Rattle.std.proofs.lemmas.Bool.{and_parts}
use Rattle.language.specs.declared.Rank.{Rank}
use Rattle.language.specs.declared.Start.{Start}
use Rattle.language.specs.Pieces.{Role, shorthand_key, name, element, Slot, fixed, PieceOf, Piece, sub, settle}
use Rattle.language.specs.RowPositions.{roles}
use Rattle.language.specs.Grammar.{own_rank, own_in, own_start}
use Rattle.language.proofs.table.Alike.{standing_at}
use Rattle.language.proofs.table.EachPiece.{each}

abbrev pub is_echo : Role → Bool
is_echo shorthand_key = true
is_echo _ = false

abbrev pub has_echo : List Role → Bool
has_echo [] = false
has_echo (a ∷ xs) = is_echo a || has_echo xs

-- no shorthand key stands here
abbrev pub quiet : Piece → Bool
quiet (sub (fixed a)) = not (is_echo a)
quiet _ = true

-- none, or one before a name or before a name with a default
pub data EchoShape : List (PieceOf Role) → Type 0 where
  no_echo : {qs : List (PieceOf Role)} → has_echo (roles qs) ≡ false → EchoShape qs
  before_name : EchoShape (sub shorthand_key ∷ sub name ∷ [])
  before_default : EchoShape (sub shorthand_key ∷ sub (element true) ∷ [])

slot_quiet : (y : Rank) (i : Bool) (f : Start) (x : Slot) → quiet (sub x) ≡ true → is_echo (settle y i f x) ≡ false
slot_quiet y i f (fixed a) h = of (is_echo a) h
  where
    of : (b : Bool) → not b ≡ true → b ≡ false
    of true h = sym h
    of false h = refl
slot_quiet y i f _ h = refl

pub quiet_roles : (a : Role) (qs : List Piece) → each quiet qs ≡ true → has_echo (roles (standing_at a qs)) ≡ false
quiet_roles a [] h = refl
quiet_roles a (sub s ∷ qs) h = let u = and_parts _ _ h in ap (λ b. b || has_echo (roles (standing_at a qs))) (slot_quiet (own_rank a) (own_in a) (own_start a) s u.0) ∙ quiet_roles a qs u.1
quiet_roles a (_ ∷ qs) h = quiet_roles a qs h
