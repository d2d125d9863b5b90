-- The head of a `for` (ECMA-262 13.7): its first part, at the position that its kind has, by the token behind it.
use Rattle.std.proofs.Common.{ℕ, Bool, true, false, cond, List, [], ◌∷◌, ◌++◌}
use Rattle.std.specs.Prelude.{Option, Some, codes, IsTrue}
use Rattle.tokens.specs.declared.token.TokenClass.TheVariants.{IdentifierName, Punctuator}
use Rattle.tree.specs.declared.kind.Kind.{Kind}
use Rattle.tree.specs.Tree.{Parts, bare_parts, Tree}
use Rattle.language.specs.declared.Rank.TheVariants.{Expression}
use Rattle.language.specs.declared.Start.TheVariants.{Any}
use Rattle.language.specs.FirstPart.{others}
use Rattle.language.specs.Pieces.{Role, expr, head, statement, Piece, PieceOf, tok, put, sign, sp, bound}
use Rattle.language.specs.Statements.{is_declaration, for_left, whole}
use Rattle.language.specs.Expressions.{given}
use Rattle.language.specs.Token.{Token}
use Rattle.language.specs.Promises.{IsDetermined, Stops, Apart}
use Rattle.language.specs.Derivation.{Reads}
use Rattle.language.proofs.table.Begins.{goes_to}
use Rattle.tokens.specs.Goals.{allows}
use Rattle.tokens.specs.declared.token.Goal.TheVariants.{Div}
use Rattle.language.specs.declared.Rank.{Rank}
use Rattle.language.proofs.statements.StatementFollow.{Unmade, unmade_before}

-- the position of the first part: of a `for` with `;`, and of one with `in` or `of`
abbrev pub first_role : Kind → Option Role
first_role k = Some (cond (is_declaration k) (head true) (expr Expression false Any))

abbrev pub left_role : Kind → Option Role
left_role k = cond (is_declaration k) (Some (head false)) (bound false k)

abbrev pub left_pieces : Bool → List ℕ → Piece → Parts → List (PieceOf Role)
left_pieces r w right ps = goes_to Expression true Any (for_left (bare_parts ps) ∷ sp ∷ tok IdentifierName w ∷ sp ∷ right ∷ sign ")" ∷ sp ∷ put (statement r) ∷ [])

abbrev pub initial_pieces : Bool → Parts → List (PieceOf Role)
initial_pieces r ps = goes_to Expression true Any (given (bare_parts ps) (put (cond (is_declaration (Rattle.language.specs.FirstPart.lead (bare_parts ps))) (head true) (expr Expression false Any)) ∷ [])
    ++ sign ";" ∷ given (others (bare_parts ps)) (sp ∷ whole ∷ [])
    ++ sign ";" ∷ given (others (others (bare_parts ps))) (sp ∷ whole ∷ [])
    ++ sign ")" ∷ sp ∷ put (statement r) ∷ [])

module _ (S : Type 0) (Next : S → Token → S → Type 0) (behind : S → Token) (det : IsDetermined S Next behind) where
  -- the place before such a word, and before `;`
  pub record Worded (w : List ℕ) (e : S) : Type 0 where
    pub sign : Token
    pub mid : S
    pub reads : Reads S Next behind IdentifierName w e sign mid
    pub apart : Apart S Next behind e

  -- behind what stands before it nothing goes on
  pub word_stops : (y : Rank) (i : Bool) (n : Tree) {w : List ℕ} {e : S} → IsTrue (allows Div IdentifierName w) → Unmade y i IdentifierName w → Worded w e → Stops S Next behind y i n e
  word_stops y i n al unmade u = record { before = unmade_before S Next behind det y i n al unmade u.reads; apart = u.apart }

  pub record Parted (e : S) : Type 0 where
    pub sign : Token
    pub mid : S
    pub reads : Reads S Next behind Punctuator (codes ";") e sign mid
