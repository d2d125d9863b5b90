-- Positions of one sort, and that a node's ways at such positions name the same parts, at positions of one sort.
use Rattle.std.proofs.Common.{◌≡◌, Bool, true, false, cond, ◌&&◌, List, [], ◌∷◌, refl, sym, ap, subst}
use Rattle.std.specs.Prelude.{nat_le, map}
use Rattle.language.specs.declared.Rank.{Rank}
use Rattle.language.specs.declared.Rank.TheVariants.{Expression, Member}
use Rattle.language.specs.declared.Start.{Start}
use Rattle.tree.specs.Tree.{Tree, node, Parts, none, part, gap}
use Rattle.language.specs.Vocabulary.{precedence}
use Rattle.language.specs.Pieces.{Role, expr, chain_part, pattern, Slot, fixed, left, lead, tail, callee, lead_chain, lead_pattern, PieceOf, Piece, tok, may, many, ahead, unbroken, no_operand, ending, open_parameters, close_parameters, sub, absent, never, lay, Spelling, settle, settle_piece}
use Rattle.language.specs.Grammar.{spellings, own_rank, own_in, own_start}
use Rattle.language.specs.RowPositions.{roles}
use Rattle.language.specs.Cost.{cell_position}
use Rattle.language.specs.LayoutFits.{lines_up}
use Rattle.language.proofs.table.TreesOfWords.{PieceWords, name_stays, names_stay}
use Rattle.tokens.specs.declared.token.TokenClass.TheVariants.{IdentifierName}

-- both at an expression, or one position; or, with false, but for the start both at a chain's part or both at a pattern
pub data Like : Bool → Role → Role → Type 0 where
  same : {b : Bool} {a : Role} → Like b a a
  at_expressions : {b : Bool} {y z : Rank} {i j : Bool} {f g : Start} → Like b (expr y i f) (expr z j g)
  at_chains : {f g : Start} → Like false (chain_part f) (chain_part g)
  at_patterns : {c : Bool} {f g : Start} → Like false (pattern c f) (pattern c g)

pub data AllLike : Bool → List Role → List Role → Type 0 where
  end : {b : Bool} → AllLike b [] []
  next : {b : Bool} {x y : Role} {xs ys : List Role} → Like b x y → AllLike b xs ys → AllLike b (x ∷ xs) (y ∷ ys)

pub like_back : {b : Bool} {x y : Role} → Like b x y → Like b y x
like_back same = same
like_back at_expressions = at_expressions
like_back at_chains = at_chains
like_back at_patterns = at_patterns

pub all_back : {b : Bool} {xs ys : List Role} → AllLike b xs ys → AllLike b ys xs
all_back end = end
all_back (next l h) = next (like_back l) (all_back h)

pub slot_like : (b : Bool) (y z : Rank) (i j : Bool) (f g : Start) (s : Slot) → (b ≡ true → f ≡ g) → Like b (settle y i f s) (settle z j g s)
slot_like b y z i j f g (fixed a) h = same
slot_like b y z i j f g (left k) h = at_expressions
slot_like b y z i j f g (lead k) h = at_expressions
slot_like b y z i j f g (tail k x) h = at_expressions
slot_like b y z i j f g callee h = at_expressions
slot_like true y z i j f g lead_chain h = subst (λ x. Like true (chain_part f) (chain_part x)) (h refl) same
slot_like false y z i j f g lead_chain h = at_chains
slot_like true y z i j f g lead_pattern h = subst (λ x. Like true (pattern false f) (pattern false x)) (h refl) same
slot_like false y z i j f g lead_pattern h = at_patterns

-- pieces as they stand at a position
abbrev pub standing_at : Role → List Piece → List (PieceOf Role)
standing_at a qs = map (settle_piece (own_rank a) (own_in a) (own_start a)) qs

pub roles_like : (b : Bool) (a c : Role) (qs : List Piece) → (b ≡ true → own_start a ≡ own_start c) → AllLike b (roles (standing_at a qs)) (roles (standing_at c qs))
roles_like b a c [] h = end
roles_like b a c (tok x w ∷ qs) h = roles_like b a c qs h
roles_like b a c (may w ∷ qs) h = roles_like b a c qs h
roles_like b a c (many w ∷ qs) h = roles_like b a c qs h
roles_like b a c (ahead w ∷ qs) h = roles_like b a c qs h
roles_like b a c (unbroken ∷ qs) h = roles_like b a c qs h
roles_like b a c (no_operand ∷ qs) h = roles_like b a c qs h
roles_like b a c (ending e ∷ qs) h = roles_like b a c qs h
roles_like b a c (open_parameters ∷ qs) h = roles_like b a c qs h
roles_like b a c (close_parameters ∷ qs) h = roles_like b a c qs h
roles_like b a c (sub s ∷ qs) h = next (slot_like b (own_rank a) (own_rank c) (own_in a) (own_in c) (own_start a) (own_start c) s h) (roles_like b a c qs h)
roles_like b a c (absent ∷ qs) h = roles_like b a c qs h
roles_like b a c (never ∷ qs) h = roles_like b a c qs h
roles_like b a c (lay x ∷ qs) h = roles_like b a c qs h

pub lines_alike : (a c : Role) (qs : List Piece) (ps : Parts) → lines_up (standing_at a qs) ps ≡ lines_up (standing_at c qs) ps
lines_alike a c [] ps = refl
lines_alike a c (tok x w ∷ qs) ps = lines_alike a c qs ps
lines_alike a c (may w ∷ qs) ps = lines_alike a c qs ps
lines_alike a c (many w ∷ qs) ps = lines_alike a c qs ps
lines_alike a c (ahead w ∷ qs) ps = lines_alike a c qs ps
lines_alike a c (unbroken ∷ qs) ps = lines_alike a c qs ps
lines_alike a c (no_operand ∷ qs) ps = lines_alike a c qs ps
lines_alike a c (ending e ∷ qs) ps = lines_alike a c qs ps
lines_alike a c (open_parameters ∷ qs) ps = lines_alike a c qs ps
lines_alike a c (close_parameters ∷ qs) ps = lines_alike a c qs ps
lines_alike a c (sub s ∷ qs) none = refl
lines_alike a c (sub s ∷ qs) (gap ps) = refl
lines_alike a c (sub s ∷ qs) (part n ps) = lines_alike a c qs ps
lines_alike a c (absent ∷ qs) none = refl
lines_alike a c (absent ∷ qs) (gap ps) = lines_alike a c qs ps
lines_alike a c (absent ∷ qs) (part n ps) = refl
lines_alike a c (never ∷ qs) ps = lines_alike a c qs ps
lines_alike a c (lay x ∷ qs) ps = lines_alike a c qs ps

pub words_alike : (a c : Role) (qs : List Piece) → PieceWords (standing_at a qs) → PieceWords (standing_at c qs)
words_alike a c [] h = h
words_alike a c (tok x w ∷ qs) h = (h.0, words_alike a c qs h.1)
words_alike a c (may w ∷ qs) h = words_alike a c qs h
words_alike a c (many w ∷ qs) h = words_alike a c qs h
words_alike a c (ahead w ∷ qs) h = words_alike a c qs h
words_alike a c (unbroken ∷ qs) h = words_alike a c qs h
words_alike a c (no_operand ∷ qs) h = words_alike a c qs h
words_alike a c (ending e ∷ qs) h = words_alike a c qs h
words_alike a c (open_parameters ∷ qs) h = words_alike a c qs h
words_alike a c (close_parameters ∷ qs) h = words_alike a c qs h
words_alike a c (sub s ∷ qs) h = words_alike a c qs h
words_alike a c (absent ∷ qs) h = words_alike a c qs h
words_alike a c (never ∷ qs) h = words_alike a c qs h
words_alike a c (lay x ∷ qs) h = words_alike a c qs h

pub stay_alike : (told : Bool) (a c : Role) (qs : List Piece) → names_stay told (standing_at a qs) ≡ names_stay told (standing_at c qs)
stay_alike told a c [] = refl
stay_alike told a c (tok x w ∷ qs) = ap (λ b. name_stays told x w && b) (stay_alike told a c qs)
stay_alike told a c (may w ∷ qs) = stay_alike told a c qs
stay_alike told a c (many w ∷ qs) = stay_alike told a c qs
stay_alike told a c (ahead w ∷ qs) = ap (λ b. name_stays told IdentifierName w && b) (stay_alike told a c qs)
stay_alike told a c (unbroken ∷ qs) = stay_alike told a c qs
stay_alike told a c (no_operand ∷ qs) = stay_alike told a c qs
stay_alike told a c (ending e ∷ qs) = stay_alike told a c qs
stay_alike told a c (open_parameters ∷ qs) = stay_alike told a c qs
stay_alike told a c (close_parameters ∷ qs) = stay_alike told a c qs
stay_alike told a c (sub s ∷ qs) = stay_alike told a c qs
stay_alike told a c (absent ∷ qs) = stay_alike told a c qs
stay_alike told a c (never ∷ qs) = stay_alike told a c qs
stay_alike told a c (lay x ∷ qs) = stay_alike told a c qs

-- pieces that name the same parts, at positions of one sort; the tokens of either are words where those of the other are
pub record NamesAlike (b : Bool) (qs rs : List (PieceOf Role)) : Type 0 where
  pub roles : AllLike b (Rattle.language.specs.RowPositions.roles qs) (Rattle.language.specs.RowPositions.roles rs)
  pub lines : (ps : Parts) → lines_up qs ps ≡ lines_up rs ps
  pub words : PieceWords qs → PieceWords rs
  pub words_back : PieceWords rs → PieceWords qs
  pub stay : (told : Bool) → names_stay told qs ≡ names_stay told rs

pub names_back : {b : Bool} {qs rs : List (PieceOf Role)} → NamesAlike b qs rs → NamesAlike b rs qs
names_back h = record { roles = all_back h.roles; lines = λ ps. sym (h.lines ps); words = h.words_back; words_back = h.words; stay = λ t. sym (h.stay t) }

pub itself_alike : (b : Bool) (a c : Role) (qs : List Piece) → (b ≡ true → own_start a ≡ own_start c) → NamesAlike b (standing_at a qs) (standing_at c qs)
itself_alike b a c qs h = record { roles = roles_like b a c qs h; lines = lines_alike a c qs; words = words_alike a c qs; words_back = words_alike c a qs; stay = λ t. stay_alike t a c qs }

-- the pieces of both spellings do, wherever they stand
abbrev pub AlikeAnywhere : Spelling → Spelling → Type 0
AlikeAnywhere x y = (b : Bool) (a c : Role) → NamesAlike b (standing_at a x.pieces) (standing_at c y.pieces)

pub cell_like : (y : Rank) (i : Bool) (f : Start) → Like true (cell_position (expr y i f)) (expr y i f)
cell_like y i f = go (nat_le 21 (precedence y))
  where
    go : (t : Bool) → Like true (cond t (expr Member true f) (expr Expression i f)) (expr y i f)
    go true = at_expressions
    go false = at_expressions

pub cell_start : (y : Rank) (i : Bool) (f : Start) → own_start (cell_position (expr y i f)) ≡ f
cell_start y i f = go (nat_le 21 (precedence y))
  where
    go : (t : Bool) → own_start (cond t (expr Member true f) (expr Expression i f)) ≡ f
    go true = refl
    go false = refl

-- such positions have the same table
pub spellings_alike : {b : Bool} {a c : Role} → Like b a c → (n : Tree) → spellings a n ≡ spellings c n
unfolding spellings
spellings_alike same n = refl
spellings_alike at_expressions (node k w g s e ps) = refl
spellings_alike at_chains (node k w g s e ps) = refl
spellings_alike at_patterns (node k w g s e ps) = refl
