-- Behind `&&`, `||` and `??` an operand stands: the test of pieces.
use Rattle.std.proofs.Common.{◌≡◌, Bool, true, false, not, ◌&&◌, ◌||◌, List, [], ◌∷◌, refl, ap, ◌∙◌}
use Rattle.tokens.specs.declared.token.TokenClass.{TokenClass}
use Rattle.tokens.specs.declared.token.TokenClass.TheVariants as class
use Rattle.tokens.proofs.EarlierWords.{longer_today}
use Rattle.language.specs.Vocabulary.{among}
use Rattle.language.specs.Pieces.{Role, expr, Slot, fixed, lead_chain, lead_pattern, PieceOf, Piece, tok, may, many, sub, lay}
use Rattle.language.proofs.table.Alike.{standing_at}

abbrev pub is_mark : TokenClass → Bool
is_mark class.Punctuator = true
is_mark _ = false

abbrev pub is_operand : Role → Bool
is_operand (expr y i f) = true
is_operand _ = false

abbrev pub is_operand_slot : Slot → Bool
is_operand_slot (fixed a) = is_operand a
is_operand_slot lead_chain = false
is_operand_slot lead_pattern = false
is_operand_slot _ = true

-- an operand stands next
abbrev pub ready_by : {R : Type 0} → (R → Bool) → List (PieceOf R) → Bool
ready_by f (lay h ∷ qs) = ready_by f qs
ready_by f (sub x ∷ qs) = f x
ready_by f _ = false

-- one stands behind each of the three
abbrev pub guarded_by : {R : Type 0} → (R → Bool) → List (PieceOf R) → Bool
guarded_by f [] = true
guarded_by f (tok c w ∷ qs) = (not (is_mark c && among w longer_today) || ready_by f qs) && guarded_by f qs
guarded_by f (may w ∷ qs) = not (among w longer_today) && guarded_by f qs
guarded_by f (many w ∷ qs) = not (among w longer_today) && guarded_by f qs
guarded_by f (_ ∷ qs) = guarded_by f qs

abbrev pub ready : List Piece → Bool
ready qs = ready_by is_operand_slot qs

abbrev pub guarded : List Piece → Bool
guarded qs = guarded_by is_operand_slot qs

abbrev pub ready_here : List (PieceOf Role) → Bool
ready_here qs = ready_by is_operand qs

abbrev pub guarded_here : List (PieceOf Role) → Bool
guarded_here qs = guarded_by is_operand qs

ready_settled : (a : Role) (qs : List Piece) → ready_here (standing_at a qs) ≡ ready qs
ready_settled a [] = refl
ready_settled a (lay h ∷ qs) = ready_settled a qs
ready_settled a (sub (fixed x) ∷ qs) = refl
ready_settled a (sub _ ∷ qs) = refl
ready_settled a (_ ∷ qs) = refl

pub guarded_settled : (a : Role) (qs : List Piece) → guarded_here (standing_at a qs) ≡ guarded qs
guarded_settled a [] = refl
guarded_settled a (tok x w ∷ qs) =
    ap (λ b. (not (is_mark x && among w longer_today) || b) && guarded_here (standing_at a qs)) (ready_settled a qs)
    ∙ ap (λ b. (not (is_mark x && among w longer_today) || ready qs) && b) (guarded_settled a qs)
guarded_settled a (may w ∷ qs) = ap (λ b. not (among w longer_today) && b) (guarded_settled a qs)
guarded_settled a (many w ∷ qs) = ap (λ b. not (among w longer_today) && b) (guarded_settled a qs)
guarded_settled a (_ ∷ qs) = guarded_settled a qs
