-- How high a node may be for the bytes that spell it, by its position: at most twice as high as the bytes are many, and one, less the level
-- of the position. The table: what the pieces of each way to spell a node give pays for the node's level.
use Rattle.std.proofs.Common.{◌≡◌, ℕ, zero, suc, pred, ◌+◌, ◌≤◌, Bool, true, false, cond, List, [], ◌∷◌, ◌++◌, refl, ap, ap₂, ◌∙◌, arith}
use Rattle.std.specs.Prelude.{map, filter, nat_le}
use Rattle.std.proofs.lemmas.Bool.Decides.{nat_tests}
use Rattle.tokens.specs.declared.token.TokenClass.{TokenClass}
use Rattle.tokens.specs.declared.token.TokenClass.TheVariants.{Template, End}
use Rattle.language.specs.declared.Rank.{Rank}
use Rattle.language.specs.declared.Start.{Start}
use Rattle.language.specs.Pieces.{Role, expr, chain_part, name, word, private_name, key, shorthand_key, base, directive_string, tagged_quasi, template_element, property, pattern, pattern_property, element, class_body, script, Slot, fixed, left, tail, callee, lead_chain, lead_pattern, PieceOf, Piece, tok, may, many, ahead, unbroken, no_operand, ending, open_parameters, close_parameters, sub, absent, never, lay, Spelling, only, settle, settle_piece, sign, put, is_none, parameters, pattern_element, separator}
use Rattle.language.specs.Pieces as piece
use Rattle.language.specs.Grammar.{own_rank, own_in, own_start}
use Rattle.language.specs.Derivation.{Among, first, later}
use Rattle.language.proofs.lower_bound.Domination.{settled, fits, ways_of}

-- The level of a position. A position of level 0 may have a node that is higher by one.
abbrev pub level : Role → ℕ
level shorthand_key = 0
level property = 0
level (pattern_property b) = 0
level script = 0
level (expr y i f) = 2
level (chain_part f) = 3
level name = 2
level word = 2
level private_name = 2
level key = 2
level base = 2
level directive_string = 2
level tagged_quasi = 2
level (template_element b c) = 4
level (pattern b f) = 2
level (element b) = 2
level class_body = 2
level _ = 1

abbrev pub slot_level : Slot → ℕ
slot_level (fixed a) = level a
slot_level lead_chain = 3
slot_level _ = 2

-- twice the bytes that a token of the class has at least
abbrev pub token_gain : TokenClass → ℕ
token_gain End = 0
token_gain Template = 4
token_gain _ = 2

-- what a piece gives; nothing spells `never`
abbrev pub piece_gain : {R : Type 0} → (R → ℕ) → PieceOf R → ℕ
piece_gain l (tok c w) = token_gain c
piece_gain l (sub x) = pred (l x)
piece_gain l open_parameters = 2
piece_gain l close_parameters = 2
piece_gain l never = 9
piece_gain l _ = 0

abbrev pub gain : {R : Type 0} → (R → ℕ) → List (PieceOf R) → ℕ
gain l [] = 0
gain l (q ∷ qs) = piece_gain l q + gain l qs

-- one where a part's level is 0
abbrev pub owing : ℕ → ℕ → ℕ
owing zero d = 1
owing (suc l) d = d

abbrev pub debt : {R : Type 0} → (R → ℕ) → List (PieceOf R) → ℕ
debt l [] = 0
debt l (sub x ∷ qs) = owing (l x) (debt l qs)
debt l (_ ∷ qs) = debt l qs

owing_one : (l d : ℕ) → d ≤ 1 → owing l d ≤ 1
owing_one zero d h = omega arith
owing_one (suc l) d h = h

-- no pieces owe more than one
pub debt_one : {R : Type 0} (l : R → ℕ) (qs : List (PieceOf R)) → debt l qs ≤ 1
debt_one l [] = omega arith
debt_one l (tok c w ∷ qs) = debt_one l qs
debt_one l (may w ∷ qs) = debt_one l qs
debt_one l (many w ∷ qs) = debt_one l qs
debt_one l (ahead w ∷ qs) = debt_one l qs
debt_one l (unbroken ∷ qs) = debt_one l qs
debt_one l (no_operand ∷ qs) = debt_one l qs
debt_one l (ending e ∷ qs) = debt_one l qs
debt_one l (open_parameters ∷ qs) = debt_one l qs
debt_one l (close_parameters ∷ qs) = debt_one l qs
debt_one l (sub x ∷ qs) = owing_one (l x) (debt l qs) (debt_one l qs)
debt_one l (absent ∷ qs) = debt_one l qs
debt_one l (never ∷ qs) = debt_one l qs
debt_one l (lay h ∷ qs) = debt_one l qs

-- what both give
pub gain-append : (xs ys : List Piece) → gain slot_level (xs ++ ys) ≡ gain slot_level xs + gain slot_level ys
gain-append [] ys = let e : (m : ℕ) → m ≡ 0 + m = λ m. omega arith in e _
gain-append (x ∷ xs) ys = let e : (k m n : ℕ) → k + (m + n) ≡ k + m + n = λ k m n. omega arith in ap (λ u. piece_gain slot_level x + u) (gain-append xs ys) ∙ e _ _ _

-- A slot's level is that of the position that it becomes.
slot-settled : (z : Rank) (i : Bool) (f : Start) (s : Slot) → level (settle z i f s) ≡ slot_level s
slot-settled z i f (fixed a) = refl
slot-settled z i f (left y) = refl
slot-settled z i f (piece.lead y) = refl
slot-settled z i f (tail y x) = refl
slot-settled z i f callee = refl
slot-settled z i f lead_chain = refl
slot-settled z i f lead_pattern = refl

piece-settled : (z : Rank) (i : Bool) (f : Start) (q : Piece) → piece_gain level (settle_piece z i f q) ≡ piece_gain slot_level q
piece-settled z i f (tok c w) = refl
piece-settled z i f (may w) = refl
piece-settled z i f (many w) = refl
piece-settled z i f (ahead w) = refl
piece-settled z i f unbroken = refl
piece-settled z i f no_operand = refl
piece-settled z i f (ending e) = refl
piece-settled z i f open_parameters = refl
piece-settled z i f close_parameters = refl
piece-settled z i f (sub s) = ap pred (slot-settled z i f s)
piece-settled z i f absent = refl
piece-settled z i f never = refl
piece-settled z i f (lay h) = refl

gain-settled : (z : Rank) (i : Bool) (f : Start) (qs : List Piece) → gain level (map (settle_piece z i f) qs) ≡ gain slot_level qs
gain-settled z i f [] = refl
gain-settled z i f (q ∷ qs) = ap₂ (λ u v. u + v) (piece-settled z i f q) (gain-settled z i f qs)

debt-settled : (z : Rank) (i : Bool) (f : Start) (qs : List Piece) → debt level (map (settle_piece z i f) qs) ≡ debt slot_level qs
debt-settled z i f [] = refl
debt-settled z i f (tok c w ∷ qs) = debt-settled z i f qs
debt-settled z i f (may w ∷ qs) = debt-settled z i f qs
debt-settled z i f (many w ∷ qs) = debt-settled z i f qs
debt-settled z i f (ahead w ∷ qs) = debt-settled z i f qs
debt-settled z i f (unbroken ∷ qs) = debt-settled z i f qs
debt-settled z i f (no_operand ∷ qs) = debt-settled z i f qs
debt-settled z i f (ending e ∷ qs) = debt-settled z i f qs
debt-settled z i f (open_parameters ∷ qs) = debt-settled z i f qs
debt-settled z i f (close_parameters ∷ qs) = debt-settled z i f qs
debt-settled z i f (sub s ∷ qs) = ap₂ owing (slot-settled z i f s) (debt-settled z i f qs)
debt-settled z i f (absent ∷ qs) = debt-settled z i f qs
debt-settled z i f (never ∷ qs) = debt-settled z i f qs
debt-settled z i f (lay h ∷ qs) = debt-settled z i f qs

-- each of these spellings gives what the level asks and what its parts owe
pub data Paid (l : ℕ) : List Spelling → Type 0 where
  at_end : Paid l []
  one_more : {x : Spelling} {xs : List Spelling} → l + debt slot_level x.pieces ≤ gain slot_level x.pieces → Paid l xs → Paid l (x ∷ xs)

-- where the parts are known
pub exact : {l : ℕ} {x : Spelling} → l + debt slot_level x.pieces ≤ gain slot_level x.pieces → Paid l (x ∷ [])
exact h = one_more h at_end

-- where the parts may owe
pub ample_more : {l : ℕ} {x : Spelling} {xs : List Spelling} → suc l ≤ gain slot_level x.pieces → Paid l xs → Paid l (x ∷ xs)
ample_more {x = x} h k = let d = debt_one slot_level x.pieces in one_more (omega (arith, h, d)) k

pub ample : {l : ℕ} {x : Spelling} → suc l ≤ gain slot_level x.pieces → Paid l (x ∷ [])
ample h = ample_more h at_end

-- no spelling, or one that gives enough
abbrev pub sole_paid : ℕ → List Spelling → Bool
sole_paid l [] = true
sole_paid l (x ∷ []) = nat_le (l + debt slot_level x.pieces) (gain slot_level x.pieces)
sole_paid l (x ∷ y ∷ xs) = false

pub Paid-sole : {l : ℕ} (xs : List Spelling) → sole_paid l xs ≡ true → Paid l xs
Paid-sole [] h = at_end
Paid-sole {l} (x ∷ []) h = exact (below (l + debt slot_level x.pieces) (gain slot_level x.pieces) h)
  where
    below : (m n : ℕ) → nat_le m n ≡ true → m ≤ n
    below m n h = grind (arith, nat_tests)
Paid-sole (x ∷ y ∷ xs) h = cc

pub Paid-cond : {l : ℕ} (b : Bool) (xs ys : List Spelling) → Paid l xs → Paid l ys → Paid l (cond b xs ys)
Paid-cond true xs ys h k = h
Paid-cond false xs ys h k = k

pub Paid-if : {l : ℕ} (b : Bool) (xs : List Spelling) → Paid l xs → Paid l (cond b xs [])
Paid-if b xs h = Paid-cond b xs [] h at_end

pub Paid-unless : {l : ℕ} (b : Bool) (xs : List Spelling) → Paid l xs → Paid l (cond b [] xs)
Paid-unless b xs h = Paid-cond b [] xs at_end h

-- Of a way: the spelling's gain and debt are those of its settled pieces.
among_one : (l : ℕ) (a : Role) (x : Spelling) (xs : List Spelling) (qs : List (PieceOf Role)) → l + debt slot_level x.pieces ≤ gain slot_level x.pieces → (Among qs (ways_of a xs) → l + debt level qs ≤ gain level qs) →
    (v : Bool) → Among qs (map (settled a) (cond v (x ∷ filter (fits a) xs) (filter (fits a) xs))) → l + debt level qs ≤ gain level qs
among_one l a x xs qs k r true first =
    let d = debt-settled (own_rank a) (own_in a) (own_start a) x.pieces in
    let g = gain-settled (own_rank a) (own_in a) (own_start a) x.pieces in
    omega (arith, k, d, g)
among_one l a x xs qs k r true (later j) = r j
among_one l a x xs qs k r false j = r j

pub among_paid : {l : ℕ} (a : Role) (xs : List Spelling) (qs : List (PieceOf Role)) → Paid l xs → Among qs (ways_of a xs) → l + debt level qs ≤ gain level qs
among_paid a _ qs at_end h = elim h [ ]
among_paid a _ qs (one_more {x = x} {xs = xs} k r) h = among_one _ a x xs qs k (among_paid a xs qs r) (fits a x) h
