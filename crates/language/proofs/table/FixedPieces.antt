-- Pieces that a node's own position doesn't change.
use Rattle.std.proofs.Common.{◌≡◌, Bool, true, false, cond, List, [], ◌∷◌, ◌++◌, refl}
use Rattle.std.specs.Prelude.{Option, Some, None, codes}
use Rattle.tokens.specs.declared.token.TokenClass.TheVariants.{Punctuator}
use Rattle.language.specs.declared.Rank.{Rank}
use Rattle.language.specs.declared.Start.{Start}
use Rattle.tree.specs.declared.kind.Kind.{Kind}
use Rattle.tree.specs.Tree.{Tree, Parts, none, part, gap, kind_of}
use Rattle.language.specs.Vocabulary.{is_rest}
use Rattle.language.specs.Pieces.{Role, Slot, fixed, left, lead, tail, callee, lead_chain, lead_pattern, Piece, tok, may, sub, never, lay, settle_piece, separator, listed, elements, parameters, put_at, is_none, space}
use Rattle.language.proofs.table.Begins.{goes_to}

abbrev pub is_fixed_slot : Slot → Bool
is_fixed_slot (fixed a) = true
is_fixed_slot _ = false

abbrev pub is_fixed : Piece → Bool
is_fixed (sub x) = is_fixed_slot x
is_fixed _ = true

pub data Fixed : List Piece → Type 0 where
  all_done : Fixed []
  one_more : {p : Piece} {qs : List Piece} → is_fixed p ≡ true → Fixed qs → Fixed (p ∷ qs)

piece_same : (y y' : Rank) (i i' : Bool) (f f' : Start) (p : Piece) → is_fixed p ≡ true → settle_piece y i f p ≡ settle_piece y' i' f' p
piece_same y y' i i' f f' (sub (fixed a)) h = refl
piece_same y y' i i' f f' (sub (left z)) h = cc
piece_same y y' i i' f f' (sub (lead z)) h = cc
piece_same y y' i i' f f' (sub (tail z x)) h = cc
piece_same y y' i i' f f' (sub callee) h = cc
piece_same y y' i i' f f' (sub lead_chain) h = cc
piece_same y y' i i' f f' (sub lead_pattern) h = cc
piece_same y y' i i' f f' _ h = refl

-- so they are the same at each position
pub same_pieces : {qs : List Piece} (y y' : Rank) (i i' : Bool) (f f' : Start) → Fixed qs → goes_to y i f qs ≡ goes_to y' i' f' qs
same_pieces y y' i i' f f' all_done = refl
same_pieces y y' i i' f f' (one_more {p = p} h u) = λ k. piece_same y y' i i' f f' p h k ∷ same_pieces y y' i i' f f' u k

-- both lists are fixed, so are they together
pub fixed_join : {qs rs : List Piece} → Fixed qs → Fixed rs → Fixed (qs ++ rs)
fixed_join all_done v = v
fixed_join (one_more h u) v = one_more h (fixed_join u v)

-- what stands behind an item
pub fixed_separator : (k : Kind) (b : Bool) → Fixed (separator k b)
fixed_separator k true = of (is_rest k)
  where
    of : (c : Bool) → Fixed (cond c [] (may (codes ",") ∷ []))
    of true = all_done
    of false = one_more refl all_done
fixed_separator k false = of (is_rest k)
  where
    of : (c : Bool) → Fixed (cond c (never ∷ []) (tok Punctuator (codes ",") ∷ lay space ∷ []))
    of true = one_more refl all_done
    of false = one_more refl (one_more refl all_done)

-- a list of fixed items
pub fixed_listed : (f : Tree → Piece) → ((n : Tree) → is_fixed (f n) ≡ true) → (ps : Parts) → Fixed (listed f ps)
fixed_listed f h none = all_done
fixed_listed f h (gap ps) = one_more refl all_done
fixed_listed f h (part n ps) = one_more (h n) (fixed_join (fixed_separator (kind_of n) (is_none ps)) (fixed_listed f h ps))

-- a list of fixed items and holes
pub fixed_elements : (f : Tree → Piece) → ((n : Tree) → is_fixed (f n) ≡ true) → (ps : Parts) → Fixed (elements f ps)
fixed_elements f h none = all_done
fixed_elements f h (part n ps) = one_more (h n) (fixed_join (fixed_separator (kind_of n) (is_none ps)) (fixed_elements f h ps))
fixed_elements f h (gap ps) = one_more refl (one_more refl (fixed_join (of (is_none ps)) (fixed_elements f h ps)))
  where
    of : (b : Bool) → Fixed (cond b [] (lay space ∷ []))
    of true = all_done
    of false = one_more refl all_done

pub fixed_put : (a : Option Role) → is_fixed (put_at a) ≡ true
fixed_put (Some a) = refl
fixed_put None = refl

-- parameters, before what is fixed
pub fixed_parameters : (after : List Piece) → Fixed after → (ps : Parts) → Fixed (parameters after ps)
fixed_parameters after u none = one_more refl all_done
fixed_parameters after u (gap ps) = one_more refl all_done
fixed_parameters after u (part n none) = u
fixed_parameters after u (part n (gap ps)) = one_more refl all_done
fixed_parameters after u (part n (part m ps)) = one_more (fixed_put _) (fixed_join (fixed_separator (kind_of n) (is_none ps)) (fixed_parameters after u (part m ps)))
