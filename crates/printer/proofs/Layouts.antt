-- The layout of a node, mark by mark.
use Rattle.std.proofs.Common.{◌≡◌, ℕ, zero, suc, ◌+◌, Bool, true, false, not, cond, nat_eq, List, [], ◌∷◌, ◌++◌, refl, ap, ◌∙◌}
use Rattle.std.specs.Prelude.{slice_index_or, codes}
use Rattle.std.proofs.lemmas.Bool.{false≢true}
use Rattle.tree.specs.Tree.{Tree, Parts, none, part, gap}
use Rattle.language.specs.Pieces.{Role, PieceOf, tok, may, many, ahead, unbroken, no_operand, ending, open_parameters, close_parameters, sub, absent, never, lay}
use Rattle.language.specs.Pieces as piece
use Rattle.language.specs.RowPositions.{rows, roles}
use Rattle.language.specs.Layout.{layout, parts_layout, indent}
use Rattle.printer.specs.Bits.{marks_of}
use Rattle.language.specs.LayoutFits.{lines_up}
use Rattle.printer.specs.Printed.{marks_text}

abbrev pub apart_from : ℕ → List ℕ → List ℕ
apart_from c rest = cond (nat_eq (slice_index_or rest 0 0) c) (32 ∷ rest) rest

abbrev pub loose_from : Bool → List ℕ → List ℕ
loose_from b rest = cond b (32 ∷ rest) rest

module _ (W : ℕ → Bool) where
  token : (c : Rattle.tokens.specs.declared.token.TokenClass.TokenClass) (w : List ℕ) (qs : List (PieceOf Role)) (ps : Parts) (r d : ℕ) (b : Bool) → parts_layout W ps (tok c w ∷ qs) r d b ≡ w ++ parts_layout W ps qs r d b
  unfolding layout parts_layout
  token c w qs none r d b = refl
  token c w qs (gap ps) r d b = refl
  token c w qs (part n ps) r d b = refl

  ended_with : (e : piece.Ending) (qs : List (PieceOf Role)) (ps : Parts) (r d : ℕ) (b : Bool) → parts_layout W ps (ending e ∷ qs) r d b ≡ codes ";" ++ parts_layout W ps qs r d b
  unfolding layout parts_layout
  ended_with e qs none r d b = refl
  ended_with e qs (gap ps) r d b = refl
  ended_with e qs (part n ps) r d b = refl

  opened : (qs : List (PieceOf Role)) (ps : Parts) (r d : ℕ) (b : Bool) → parts_layout W ps (open_parameters ∷ qs) r d b ≡ codes "(" ++ parts_layout W ps qs r d b
  unfolding layout parts_layout
  opened qs none r d b = refl
  opened qs (gap ps) r d b = refl
  opened qs (part n ps) r d b = refl

  closed : (qs : List (PieceOf Role)) (ps : Parts) (r d : ℕ) (b : Bool) → parts_layout W ps (close_parameters ∷ qs) r d b ≡ codes ")" ++ parts_layout W ps qs r d b
  unfolding layout parts_layout
  closed qs none r d b = refl
  closed qs (gap ps) r d b = refl
  closed qs (part n ps) r d b = refl

  spaced : (qs : List (PieceOf Role)) (ps : Parts) (r d : ℕ) (b : Bool) → parts_layout W ps (lay piece.space ∷ qs) r d b ≡ 32 ∷ parts_layout W ps qs r d b
  unfolding layout parts_layout
  spaced qs none r d b = refl
  spaced qs (gap ps) r d b = refl
  spaced qs (part n ps) r d b = refl

  lined : (qs : List (PieceOf Role)) (ps : Parts) (r d : ℕ) (b : Bool) → parts_layout W ps (lay piece.line ∷ qs) r d b ≡ 10 ∷ (indent d ++ parts_layout W ps qs r d b)
  unfolding layout parts_layout
  lined qs none r d b = refl
  lined qs (gap ps) r d b = refl
  lined qs (part n ps) r d b = refl

  fed : (qs : List (PieceOf Role)) (ps : Parts) (r d : ℕ) (b : Bool) → parts_layout W ps (lay piece.feed ∷ qs) r d b ≡ 10 ∷ parts_layout W ps qs r d b
  unfolding layout parts_layout
  fed qs none r d b = refl
  fed qs (gap ps) r d b = refl
  fed qs (part n ps) r d b = refl

  held_apart : (c : ℕ) (qs : List (PieceOf Role)) (ps : Parts) (r d : ℕ) (b : Bool) → parts_layout W ps (lay (piece.apart c) ∷ qs) r d b ≡ apart_from c (parts_layout W ps qs r d b)
  unfolding layout parts_layout
  held_apart c qs none r d b = refl
  held_apart c qs (gap ps) r d b = refl
  held_apart c qs (part n ps) r d b = refl

  loosened : (qs : List (PieceOf Role)) (ps : Parts) (r d : ℕ) (b : Bool) → parts_layout W ps (lay piece.loose ∷ qs) r d b ≡ loose_from b (parts_layout W ps qs r d b)
  unfolding layout parts_layout
  loosened qs none r d b = refl
  loosened qs (gap ps) r d b = refl
  loosened qs (part n ps) r d b = refl

  may_miss : (w : List ℕ) (qs : List (PieceOf Role)) (ps : Parts) (r d : ℕ) (b : Bool) → parts_layout W ps (may w ∷ qs) r d b ≡ parts_layout W ps qs r d b
  unfolding layout parts_layout
  may_miss w qs none r d b = refl
  may_miss w qs (gap ps) r d b = refl
  may_miss w qs (part n ps) r d b = refl

  many_miss : (w : List ℕ) (qs : List (PieceOf Role)) (ps : Parts) (r d : ℕ) (b : Bool) → parts_layout W ps (many w ∷ qs) r d b ≡ parts_layout W ps qs r d b
  unfolding layout parts_layout
  many_miss w qs none r d b = refl
  many_miss w qs (gap ps) r d b = refl
  many_miss w qs (part n ps) r d b = refl

  seen_ahead : (w : List ℕ) (qs : List (PieceOf Role)) (ps : Parts) (r d : ℕ) (b : Bool) → parts_layout W ps (ahead w ∷ qs) r d b ≡ parts_layout W ps qs r d b
  unfolding layout parts_layout
  seen_ahead w qs none r d b = refl
  seen_ahead w qs (gap ps) r d b = refl
  seen_ahead w qs (part n ps) r d b = refl

  on_line : (qs : List (PieceOf Role)) (ps : Parts) (r d : ℕ) (b : Bool) → parts_layout W ps (unbroken ∷ qs) r d b ≡ parts_layout W ps qs r d b
  unfolding layout parts_layout
  on_line qs none r d b = refl
  on_line qs (gap ps) r d b = refl
  on_line qs (part n ps) r d b = refl

  bare_end : (qs : List (PieceOf Role)) (ps : Parts) (r d : ℕ) (b : Bool) → parts_layout W ps (no_operand ∷ qs) r d b ≡ parts_layout W ps qs r d b
  unfolding layout parts_layout
  bare_end qs none r d b = refl
  bare_end qs (gap ps) r d b = refl
  bare_end qs (part n ps) r d b = refl

  nothing : (qs : List (PieceOf Role)) (ps : Parts) (r d : ℕ) (b : Bool) → parts_layout W ps (never ∷ qs) r d b ≡ parts_layout W ps qs r d b
  unfolding layout parts_layout
  nothing qs none r d b = refl
  nothing qs (gap ps) r d b = refl
  nothing qs (part n ps) r d b = refl

  deepened : (qs : List (PieceOf Role)) (ps : Parts) (r d : ℕ) (b : Bool) → parts_layout W ps (lay piece.deeper ∷ qs) r d b ≡ parts_layout W ps qs r (suc d) b
  unfolding layout parts_layout
  deepened qs none r d b = refl
  deepened qs (gap ps) r d b = refl
  deepened qs (part n ps) r d b = refl

  raised : (qs : List (PieceOf Role)) (ps : Parts) (r d : ℕ) (b : Bool) → parts_layout W ps (lay piece.shallower ∷ qs) r (suc d) b ≡ parts_layout W ps qs r d b
  unfolding layout parts_layout
  raised qs none r d b = refl
  raised qs (gap ps) r d b = refl
  raised qs (part n ps) r d b = refl

  kept : (qs : List (PieceOf Role)) (ps : Parts) (r : ℕ) (b : Bool) → parts_layout W ps (lay piece.shallower ∷ qs) r zero b ≡ parts_layout W ps qs r zero b
  unfolding layout parts_layout
  kept qs none r b = refl
  kept qs (gap ps) r b = refl
  kept qs (part n ps) r b = refl

  here_part : (a : Role) (qs : List (PieceOf Role)) (n : Tree) (ps : Parts) (r d : ℕ) (b : Bool) → parts_layout W (part n ps) (sub a ∷ qs) r d b ≡ layout W n a r d ++ parts_layout W ps qs (r + rows n a) d (not (W r))
  unfolding layout parts_layout
  here_part a qs n ps r d b = refl

  here_gap : (qs : List (PieceOf Role)) (ps : Parts) (r d : ℕ) (b : Bool) → parts_layout W (gap ps) (absent ∷ qs) r d b ≡ parts_layout W ps qs r d false
  unfolding layout parts_layout
  here_gap qs ps r d b = refl

  at_end : (r d : ℕ) (b : Bool) → parts_layout W none [] r d b ≡ []
  unfolding layout parts_layout
  at_end r d b = refl

  -- the pieces of a node's parts as marks
  pub layout_marks : (qs : List (PieceOf Role)) (ps : Parts) (r d : ℕ) (b : Bool) → lines_up qs ps ≡ true → parts_layout W ps qs r d b ≡ marks_text W (marks_of qs) ps (roles qs) r d b
  layout_marks [] none r d b h = at_end r d b
  layout_marks [] (gap ps) r d b h = absurd (false≢true h)
  layout_marks [] (part n ps) r d b h = absurd (false≢true h)
  layout_marks (sub a ∷ qs) none r d b h = absurd (false≢true h)
  layout_marks (sub a ∷ qs) (gap ps) r d b h = absurd (false≢true h)
  layout_marks (sub a ∷ qs) (part n ps) r d b h = here_part a qs n ps r d b ∙ ap (λ t. layout W n a r d ++ t) (layout_marks qs ps (r + rows n a) d (not (W r)) h)
  layout_marks (absent ∷ qs) none r d b h = absurd (false≢true h)
  layout_marks (absent ∷ qs) (gap ps) r d b h = here_gap qs ps r d b ∙ layout_marks qs ps r d false h
  layout_marks (absent ∷ qs) (part n ps) r d b h = absurd (false≢true h)
  layout_marks (lay piece.deeper ∷ qs) ps r d b h = deepened qs ps r d b ∙ layout_marks qs ps r (suc d) b h
  layout_marks (lay piece.shallower ∷ qs) ps r zero b h = kept qs ps r b ∙ layout_marks qs ps r zero b h
  layout_marks (lay piece.shallower ∷ qs) ps r (suc d) b h = raised qs ps r d b ∙ layout_marks qs ps r d b h
  layout_marks (tok c w ∷ qs) ps r d b h = token c w qs ps r d b ∙ ap (λ t. w ++ t) (layout_marks qs ps r d b h)
  layout_marks (ending e ∷ qs) ps r d b h = ended_with e qs ps r d b ∙ ap (λ t. codes ";" ++ t) (layout_marks qs ps r d b h)
  layout_marks (open_parameters ∷ qs) ps r d b h = opened qs ps r d b ∙ ap (λ t. codes "(" ++ t) (layout_marks qs ps r d b h)
  layout_marks (close_parameters ∷ qs) ps r d b h = closed qs ps r d b ∙ ap (λ t. codes ")" ++ t) (layout_marks qs ps r d b h)
  layout_marks (lay piece.space ∷ qs) ps r d b h = spaced qs ps r d b ∙ ap (λ t. 32 ∷ t) (layout_marks qs ps r d b h)
  layout_marks (lay piece.line ∷ qs) ps r d b h = lined qs ps r d b ∙ ap (λ t. 10 ∷ (indent d ++ t)) (layout_marks qs ps r d b h)
  layout_marks (lay piece.feed ∷ qs) ps r d b h = fed qs ps r d b ∙ ap (λ t. 10 ∷ t) (layout_marks qs ps r d b h)
  layout_marks (lay (piece.apart c) ∷ qs) ps r d b h = held_apart c qs ps r d b ∙ ap (λ t. apart_from c (t)) (layout_marks qs ps r d b h)
  layout_marks (lay piece.loose ∷ qs) ps r d b h = loosened qs ps r d b ∙ ap (λ t. loose_from b (t)) (layout_marks qs ps r d b h)
  layout_marks (may w ∷ qs) ps r d b h = may_miss w qs ps r d b ∙ layout_marks qs ps r d b h
  layout_marks (many w ∷ qs) ps r d b h = many_miss w qs ps r d b ∙ layout_marks qs ps r d b h
  layout_marks (ahead w ∷ qs) ps r d b h = seen_ahead w qs ps r d b ∙ layout_marks qs ps r d b h
  layout_marks (unbroken ∷ qs) ps r d b h = on_line qs ps r d b ∙ layout_marks qs ps r d b h
  layout_marks (no_operand ∷ qs) ps r d b h = bare_end qs ps r d b ∙ layout_marks qs ps r d b h
  layout_marks (never ∷ qs) ps r d b h = nothing qs ps r d b ∙ layout_marks qs ps r d b h
