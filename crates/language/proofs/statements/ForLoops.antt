-- A `for` from its head (ECMA-262 13.7): its `(`, its first part or none, its tests, and that the other kinds are absent.
use Rattle.std.proofs.Common.{Bool, true, List, [], ◌∷◌, ◌++◌}
use Rattle.tree.specs.Tree.{Parts, bare_parts}
use Rattle.language.specs.declared.Rank.TheVariants.{Expression}
use Rattle.language.specs.declared.Start.TheVariants.{Any}
use Rattle.language.specs.FirstPart.{others}
use Rattle.language.specs.Pieces.{Role, statement, Piece, PieceOf, put, sign, sp}
use Rattle.language.specs.Statements.{whole}
use Rattle.language.specs.Expressions.{given}
use Rattle.language.proofs.table.Begins.{goes_to}

-- behind a `;`: a test or none, and what follows it
abbrev pub test_pieces : (Parts → List Piece) → Parts → List (PieceOf Role)
test_pieces after ps = goes_to Expression true Any (given (bare_parts ps) (sp ∷ whole ∷ []) ++ after (others (bare_parts ps)))

-- behind the first test, and behind the second
abbrev pub behind_test : Bool → Parts → List Piece
behind_test r ps = sign ";" ∷ given ps (sp ∷ whole ∷ []) ++ sign ")" ∷ sp ∷ put (statement r) ∷ []

abbrev pub behind_update : Bool → Parts → List Piece
behind_update r ps = sign ")" ∷ sp ∷ put (statement r) ∷ []
