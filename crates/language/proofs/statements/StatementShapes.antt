-- Statements whose pieces depend on which parts there are, as pieces that a parser reads one behind the other.
use Rattle.std.proofs.Common.{◌≡◌, ℕ, Bool, true, false, cond, List, [], ◌∷◌, refl, ap}
use Rattle.std.specs.Prelude.{nat_le}
use Rattle.tree.specs.Tree.{Parts, none, part, gap, bare_parts}
use Rattle.language.specs.declared.Rank.TheVariants.{Expression}
use Rattle.language.specs.declared.Start.TheVariants.{Any}
use Rattle.language.specs.FirstPart.{others}
use Rattle.language.specs.Edges.{ends_in_if}
use Rattle.language.specs.Pieces.{statement, block, switch_case, handler, Piece, absent, sp, sign, term, put, nothing}
use Rattle.language.specs.Statements.{whole, lines, defaults}
use Rattle.language.specs.Token.{Token}
use Rattle.language.specs.Promises.{IsDetermined}
use Rattle.language.specs.Grammar.{can_run}
use Rattle.language.proofs.table.Begins.{goes_to}
use Rattle.language.proofs.table.Productions.{runs_can}
use Rattle.language.proofs.table.StatementWays.{behind_brace, condition, behind_if, behind_try, behind_switch}
use Rattle.language.proofs.list_loops.PiecesSoFar.{Sofar, retold_where}

-- behind the statement of an `if`
abbrev pub behind_consequent : Bool → Parts → List Piece
behind_consequent r (part t (part c (gap none))) = absent ∷ []
behind_consequent r (part t (part c (part a none))) = cond (ends_in_if c) nothing (sp ∷ term "else" ∷ sp ∷ put (statement r) ∷ [])
behind_consequent r _ = nothing

-- behind the block of a `try`, and behind its handler
abbrev pub behind_tried : Bool → Parts → List Piece
behind_tried r (part b (part h (gap none))) = sp ∷ put (handler r) ∷ absent ∷ []
behind_tried r (part b (part h (part f none))) = sp ∷ put (handler r) ∷ sp ∷ term "finally" ∷ sp ∷ put (block r) ∷ []
behind_tried r (part b (gap (part f none))) = absent ∷ sp ∷ term "finally" ∷ sp ∷ put (block r) ∷ []
behind_tried r _ = nothing

-- behind the `{` of a `switch`: at most one case is without test
abbrev pub behind_cases : Bool → Parts → List Piece
behind_cases r ps = cond (nat_le (defaults (others ps)) 1) (behind_brace (others ps) (lines (switch_case r) (others ps))) nothing

if_shape : (r : Bool) (ps : Parts) → can_run (behind_if r ps) ≡ true → behind_if r ps ≡ condition r (behind_consequent r ps)
if_shape r (part t (part c (gap none))) h = refl
if_shape r (part t (part c (part a none))) h = of (ends_in_if c) h
  where
    qs : List Piece
    qs = sp ∷ term "else" ∷ sp ∷ put (statement r) ∷ []

    of : (b : Bool) → can_run (cond b nothing (condition r qs)) ≡ true → cond b nothing (condition r qs) ≡ condition r (cond b nothing qs)
    of true h = cc
    of false h = refl
if_shape r _ h = cc

shape_if : (r : Bool) (ps : Parts) → can_run (condition r (behind_consequent r ps)) ≡ true → behind_if r ps ≡ condition r (behind_consequent r ps)
shape_if r (part t (part c (gap none))) h = refl
shape_if r (part t (part c (part a none))) h = of (ends_in_if c) h
  where
    qs : List Piece
    qs = sp ∷ term "else" ∷ sp ∷ put (statement r) ∷ []

    of : (b : Bool) → can_run (condition r (cond b nothing qs)) ≡ true → cond b nothing (condition r qs) ≡ condition r (cond b nothing qs)
    of true h = cc
    of false h = refl
shape_if r _ h = cc

try_shape : (r : Bool) (ps : Parts) → can_run (behind_try r ps) ≡ true → behind_try r ps ≡ sp ∷ put (block r) ∷ behind_tried r ps
try_shape r (part b (part h (gap none))) k = refl
try_shape r (part b (part h (part f none))) k = refl
try_shape r (part b (gap (part f none))) k = refl
try_shape r _ k = cc

shape_try : (r : Bool) (ps : Parts) → can_run (sp ∷ put (block r) ∷ behind_tried r ps) ≡ true → behind_try r ps ≡ sp ∷ put (block r) ∷ behind_tried r ps
shape_try r (part b (part h (gap none))) k = refl
shape_try r (part b (part h (part f none))) k = refl
shape_try r (part b (gap (part f none))) k = refl
shape_try r _ k = cc

switch_pieces : List Piece → List Piece
switch_pieces qs = sp ∷ sign "(" ∷ whole ∷ sign ")" ∷ sp ∷ sign "{" ∷ qs

switch_either : (b : Bool) (qs : List Piece) → (can_run (cond b (switch_pieces qs) nothing) ≡ true → cond b (switch_pieces qs) nothing ≡ switch_pieces (cond b qs nothing)) × (can_run (switch_pieces (cond b qs nothing)) ≡ true → cond b (switch_pieces qs) nothing ≡ switch_pieces (cond b qs nothing))
unfolding switch_pieces
switch_either true qs = ((λ h. refl), (λ h. refl))
switch_either false qs = ((λ h. cc), (λ h. cc))

module _ (S : Type 0) (Next : S → Token → S → Type 0) (behind : S → Token) (det : IsDetermined S Next behind) {Fine : Parts → S → Type 0} {o : ℕ} {mid : S} where
  -- pieces that are the same wherever they can run
  shaped : (X Y : Parts → List Piece) → ((ps : Parts) → can_run (X ps) ≡ true → X ps ≡ Y ps) → ((ps : Parts) → can_run (Y ps) ≡ true → X ps ≡ Y ps) →
      Sofar S Next behind det Fine o (λ ps. goes_to Expression true Any (X (bare_parts ps))) mid (λ ps. goes_to Expression true Any (Y (bare_parts ps))) mid (λ ps. ps) []
  shaped X Y there back = retold_where S Next behind det
      (λ o' ps e P d fine. ap (goes_to Expression true Any) (there (bare_parts ps) (runs_can S Next behind Expression true Any (X (bare_parts ps)) d)))
      (λ ps e P d. ap (goes_to Expression true Any) (back (bare_parts ps) (runs_can S Next behind Expression true Any (Y (bare_parts ps)) d)))

  -- an `if`: the condition, the statement, and what stands behind it
  pub if_begins : (r : Bool) → Sofar S Next behind det Fine o (λ ps. goes_to Expression true Any (behind_if r (bare_parts ps))) mid (λ ps. goes_to Expression true Any (condition r (behind_consequent r (bare_parts ps)))) mid (λ ps. ps) []
  if_begins r = shaped (behind_if r) (λ ps. condition r (behind_consequent r ps)) (if_shape r) (shape_if r)

  -- a `try`: the block, and what stands behind it
  pub try_begins : (r : Bool) → Sofar S Next behind det Fine o (λ ps. goes_to Expression true Any (behind_try r (bare_parts ps))) mid (λ ps. goes_to Expression true Any (sp ∷ put (block r) ∷ behind_tried r (bare_parts ps))) mid (λ ps. ps) []
  try_begins r = shaped (behind_try r) (λ ps. sp ∷ put (block r) ∷ behind_tried r ps) (try_shape r) (shape_try r)

  -- a `switch`: what it tests, and the cases
  pub switch_begins : (r : Bool) → Sofar S Next behind det Fine o (λ ps. goes_to Expression true Any (behind_switch r (bare_parts ps))) mid
      (λ ps. goes_to Expression true Any (sp ∷ sign "(" ∷ whole ∷ sign ")" ∷ sp ∷ sign "{" ∷ behind_cases r (bare_parts ps))) mid (λ ps. ps) []
  unfolding switch_pieces
  switch_begins r = shaped (behind_switch r) (λ ps. sp ∷ sign "(" ∷ whole ∷ sign ")" ∷ sp ∷ sign "{" ∷ behind_cases r ps)
      (λ ps. (switch_either (nat_le (defaults (others ps)) 1) (behind_brace (others ps) (lines (switch_case r) (others ps)))).0)
      (λ ps. (switch_either (nat_le (defaults (others ps)) 1) (behind_brace (others ps) (lines (switch_case r) (others ps)))).1)
