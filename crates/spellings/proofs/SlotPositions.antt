-- The positions that pieces name, none where one of them is never spelled.
use Rattle.std.proofs.Common.{◌≡◌, Bool, true, false, List, [], ◌∷◌, ◌++◌, refl, sym, ap, ◌∙◌}
use Rattle.std.specs.Prelude.{Option, Some, None, map}
use Rattle.language.specs.declared.Rank.{Rank}
use Rattle.language.specs.declared.Start.{Start}
use Rattle.language.specs.Pieces.{Slot, PieceOf, Piece, tok, may, many, ahead, unbroken, no_operand, ending, open_parameters, close_parameters, sub, absent, never, lay, settle, settle_piece}
use Rattle.language.specs.Grammar.{can_run}
use Rattle.language.specs.RowPositions.{roles}
use Rattle.spelling_table.specs.Outlines.{before}

abbrev pub named : List Piece → Option (List Slot)
named [] = Some []
named (sub s ∷ qs) = before s (named qs)
named (never ∷ qs) = None
named (tok c w ∷ qs) = named qs
named (may w ∷ qs) = named qs
named (many w ∷ qs) = named qs
named (ahead w ∷ qs) = named qs
named (unbroken ∷ qs) = named qs
named (no_operand ∷ qs) = named qs
named (ending e ∷ qs) = named qs
named (open_parameters ∷ qs) = named qs
named (close_parameters ∷ qs) = named qs
named (absent ∷ qs) = named qs
named (lay h ∷ qs) = named qs

-- both, where both are
abbrev pub joined : Option (List Slot) → Option (List Slot) → Option (List Slot)
joined None y = None
joined (Some []) y = y
joined (Some (s ∷ xs)) y = before s (joined (Some xs) y)

joined_before : (s : Slot) (x y : Option (List Slot)) → joined (before s x) y ≡ before s (joined x y)
joined_before s None y = refl
joined_before s (Some xs) y = refl

pub named-append : (xs ys : List Piece) → named (xs ++ ys) ≡ joined (named xs) (named ys)
named-append [] ys = refl
named-append (sub s ∷ qs) ys = ap (before s) (named-append qs ys) ∙ sym (joined_before s (named qs) (named ys))
named-append (never ∷ qs) ys = refl
named-append (tok c w ∷ qs) ys = named-append qs ys
named-append (may w ∷ qs) ys = named-append qs ys
named-append (many w ∷ qs) ys = named-append qs ys
named-append (ahead w ∷ qs) ys = named-append qs ys
named-append (unbroken ∷ qs) ys = named-append qs ys
named-append (no_operand ∷ qs) ys = named-append qs ys
named-append (ending e ∷ qs) ys = named-append qs ys
named-append (open_parameters ∷ qs) ys = named-append qs ys
named-append (close_parameters ∷ qs) ys = named-append qs ys
named-append (absent ∷ qs) ys = named-append qs ys
named-append (lay h ∷ qs) ys = named-append qs ys

-- with nothing to name behind them
joined-nothing : (x : Option (List Slot)) → joined x (Some []) ≡ x
joined-nothing None = refl
joined-nothing (Some []) = refl
joined-nothing (Some (s ∷ xs)) = ap (before s) (joined-nothing (Some xs))

pub named-closed : (xs ys : List Piece) → named ys ≡ Some [] → named (xs ++ ys) ≡ named xs
named-closed xs ys e = named-append xs ys ∙ ap (joined (named xs)) e ∙ joined-nothing (named xs)

-- What it says of `can_run` and `roles`

abbrev pub is_some : Option (List Slot) → Bool
is_some None = false
is_some (Some xs) = true

is_some-before : (s : Slot) (x : Option (List Slot)) → is_some (before s x) ≡ is_some x
is_some-before s None = refl
is_some-before s (Some xs) = refl

pub runs-named : (qs : List Piece) → can_run qs ≡ is_some (named qs)
runs-named [] = refl
runs-named (sub s ∷ qs) = runs-named qs ∙ sym (is_some-before s (named qs))
runs-named (never ∷ qs) = refl
runs-named (tok c w ∷ qs) = runs-named qs
runs-named (may w ∷ qs) = runs-named qs
runs-named (many w ∷ qs) = runs-named qs
runs-named (ahead w ∷ qs) = runs-named qs
runs-named (unbroken ∷ qs) = runs-named qs
runs-named (no_operand ∷ qs) = runs-named qs
runs-named (ending e ∷ qs) = runs-named qs
runs-named (open_parameters ∷ qs) = runs-named qs
runs-named (close_parameters ∷ qs) = runs-named qs
runs-named (absent ∷ qs) = runs-named qs
runs-named (lay h ∷ qs) = runs-named qs

module _ (z : Rank) (i : Bool) (f : Start) where
  abbrev positions : List Slot → List Rattle.language.specs.Pieces.Role
  positions xs = map (settle z i f) xs

  some_before : (s : Slot) (x : Option (List Slot)) (xs : List Slot) → before s x ≡ Some xs → (ys : List Slot) × (x ≡ Some ys) × (xs ≡ s ∷ ys)
  some_before s None xs h = absurd (cc)
  some_before s (Some ys) xs h = let e : s ∷ ys ≡ xs = cc in (ys, refl, sym e)

  -- where they are named, so are the positions of the settled pieces
  pub roles-named : (qs : List Piece) (xs : List Slot) → named qs ≡ Some xs → roles (map (settle_piece z i f) qs) ≡ positions xs
  roles-named [] xs h = let e : [] ≡ xs = cc in ap positions e
  roles-named (sub s ∷ qs) xs h = let u = some_before s (named qs) xs h in ap (λ v. settle z i f s ∷ v) (roles-named qs u.0 u.1) ∙ sym (ap positions u.2)
  roles-named (never ∷ qs) xs h = absurd (cc)
  roles-named (tok c w ∷ qs) xs h = roles-named qs xs h
  roles-named (may w ∷ qs) xs h = roles-named qs xs h
  roles-named (many w ∷ qs) xs h = roles-named qs xs h
  roles-named (ahead w ∷ qs) xs h = roles-named qs xs h
  roles-named (unbroken ∷ qs) xs h = roles-named qs xs h
  roles-named (no_operand ∷ qs) xs h = roles-named qs xs h
  roles-named (ending e ∷ qs) xs h = roles-named qs xs h
  roles-named (open_parameters ∷ qs) xs h = roles-named qs xs h
  roles-named (close_parameters ∷ qs) xs h = roles-named qs xs h
  roles-named (absent ∷ qs) xs h = roles-named qs xs h
  roles-named (lay h' ∷ qs) xs h = roles-named qs xs h
