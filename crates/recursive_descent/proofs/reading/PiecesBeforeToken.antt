-- What runs over pieces with a token behind them, apart: the pieces, and the token.
use Rattle.std.proofs.Common.{ℕ, List, [], ◌∷◌, ◌++◌, sym, subst}
use Rattle.tokens.specs.declared.token.TokenClass.{TokenClass}
use Rattle.tree.specs.declared.kind.Pair.{Pair}
use Rattle.tree.specs.Tree.{Parts, none}
use Rattle.language.specs.Pieces.{Role, PieceOf, tok}
use Rattle.language.specs.Token.{Token}
use Rattle.language.specs.Derivation.{Reads, done, step, opened, closed, within, missing}
use Rattle.language.proofs.list_loops.FirstPieces.{run_token, run_none}
use Rattle.recursive_descent.specs.Soundness.{RunsIn}
use Rattle.token_cursor.specs.Seen.{ReadsHere}
use Rattle.recursive_descent.proofs.complete_expressions.Agreement.{read_here}
use Rattle.token_cursor.specs.SourceText.{SourceText, SeenNext, behind_in}

module _ (text : SourceText) where
  pub record Before (o : ℕ) (qs : List (PieceOf Role)) (c : TokenClass) (w : List ℕ) (ps : Parts) (s e : Token) (P : List Pair) : Type 0 where
    pub mid : Token
    pub runs : RunsIn text o qs ps s mid P
    pub sign : ReadsHere text c w mid e

  alone : {o : ℕ} {c : TokenClass} {w : List ℕ} {ps : Parts} {s e : Token} {P : List Pair} → RunsIn text o (tok c w ∷ []) ps s e P → Before o [] c w ps s e P
  alone {o} {c} {w} {ps} {s} {e} {P} d =
      let a = run_token Token (SeenNext text) (behind_in text) d in
      let z = run_none Token (SeenNext text) (behind_in text) a.runs in
      record {
        mid = s;
        runs = subst (λ x. RunsIn text o [] x s s P) (sym z.parts) (subst (λ x. RunsIn text o [] none s s x) (sym z.pairs) done);
        sign = read_here text (subst (λ x. Reads Token (SeenNext text) (behind_in text) c w s a.sign x) z.place a.reads);
      }

  pub run_before : {o : ℕ} (qs : List (PieceOf Role)) {c : TokenClass} {w : List ℕ} {ps : Parts} {s e : Token} {P : List Pair} → RunsIn text o (qs ++ tok c w ∷ []) ps s e P → Before o qs c w ps s e P
  run_before [] d = alone d
  run_before (q ∷ qs) (step p d) = let b = run_before qs d in record { mid = b.mid; runs = step p b.runs; sign = b.sign }
  run_before (q ∷ qs) (opened p d) = let b = run_before qs d in record { mid = b.mid; runs = opened p b.runs; sign = b.sign }
  run_before (q ∷ qs) (closed p d) = let b = run_before qs d in record { mid = b.mid; runs = closed p b.runs; sign = b.sign }
  run_before (q ∷ qs) (within p d) = let b = run_before qs d in record { mid = b.mid; runs = within p b.runs; sign = b.sign }
  run_before (q ∷ qs) (missing d) = let b = run_before qs d in record { mid = b.mid; runs = missing b.runs; sign = b.sign }
