-- A label or an expression behind `break`, `continue` or `return` (ECMA-262 13.8 to 13.10): on the same line, or none; and the end of a statement.
use Rattle.std.proofs.Common.{◌≡◌, ℕ, true, false, List, [], ◌∷◌, ◌++◌, refl, ap, ◌∙◌, subst}
use Rattle.tree.specs.declared.kind.Pair.{Pair}
use Rattle.tree.specs.Tree.{Parts, none, part, gap, bare_parts}
use Rattle.language.specs.declared.Rank.TheVariants.{Expression}
use Rattle.language.specs.declared.Start.TheVariants.{Any}
use Rattle.language.specs.declared.Edge.{Edge}
use Rattle.language.specs.Pieces.{Role, PieceOf, Ending, unbroken, ending, sub, lay, space, put, no_operand}
use Rattle.language.specs.Statements.{after_word, end_of}
use Rattle.language.specs.Token.{Token}
use Rattle.language.specs.Promises.{IsDetermined}
use Rattle.language.specs.Following.{FoundPartsWhere}
use Rattle.language.specs.Grammar.{ways}
use Rattle.language.specs.Derivation.{Runs, Step, same_line}
use Rattle.language.proofs.table.Begins.{goes_to}
use Rattle.language.proofs.list_loops.FirstPieces.{run_none, run_laid, run_unbroken, run_never, run_no_part, run_gap_part}
use Rattle.language.proofs.list_loops.PiecesSoFar.{Sofar, step_on, retold_where, gap_is}

-- the pieces behind the word, up to the end of the statement
abbrev pub word_pieces : Role → (Parts → Edge) → Parts → List (PieceOf Role)
word_pieces a right ps = goes_to Expression true Any (after_word (bare_parts ps) (put a) ++ end_of (right (bare_parts ps)) ∷ [])

abbrev pub given_pieces : Role → (Parts → Edge) → Parts → List (PieceOf Role)
given_pieces a right ps = lay space ∷ unbroken ∷ sub a ∷ ending (Rattle.language.specs.Pieces.behind (right (bare_parts ps))) ∷ []

abbrev pub bare_end : (Parts → Edge) → Parts → List (PieceOf Role)
bare_end right ps = ending (Rattle.language.specs.Pieces.behind (right (bare_parts (gap ps)))) ∷ []

module _ (S : Type 0) (Next : S → Token → S → Type 0) (behind : S → Token) (det : IsDetermined S Next behind) {Fine : Parts → S → Type 0} {o : ℕ} where
  -- no line break before the next token
  pub unbroken_on : {last : Parts → List (PieceOf Role)} {mid m : S} {t : Token} → Next mid t m → t.after_break ≡ false → Sofar S Next behind det Fine o (λ ps. unbroken ∷ last ps) mid last mid (λ ps. ps) []
  unbroken_on nx line = step_on S Next behind det (same_line nx line) (λ o' ps k' e P p d fine. of p)
    where
      of : {a b : S} → Step S Next behind unbroken a b → b ≡ a
      of (same_line nx line) = refl

  module _ (a : Role) (right : Parts → Edge) {mid : S} where
    -- where no statement ends there, the part is given
    pub word_given : ((o' : ℕ) (ps : Parts) (e : S) (P : List Pair) → Runs ways S Next behind o' (bare_end right ps) ps mid e P → Fine (gap ps) e → ⊥) → Sofar S Next behind det Fine o (word_pieces a right) mid (given_pieces a right) mid (λ ps. ps) []
    word_given no_end = retold_where S Next behind det (λ o' ps e P d fine. there o' ps e P d fine) (λ ps e P d. back ps d)
      where
        there : (o' : ℕ) (ps : Parts) (e : S) (P : List Pair) → Runs ways S Next behind o' (word_pieces a right ps) ps mid e P → Fine ps e → word_pieces a right ps ≡ given_pieces a right ps
        there o' none e P d fine = absurd (run_never S Next behind d)
        there o' (part n ps) e P d fine = refl
        there o' (gap ps) e P d fine = absurd (no_end o' ps e P (Rattle.language.proofs.list_loops.FirstPieces.run_the_gap S Next behind d) fine)

        back : {e : S} {P : List Pair} (ps : Parts) → Runs ways S Next behind o (given_pieces a right ps) ps mid e P → word_pieces a right ps ≡ given_pieces a right ps
        back (part n ps) d = refl
        back none d = let u = run_unbroken S Next behind (run_laid S Next behind d) in run_no_part S Next behind u.runs
        back (gap ps) d = let u = run_unbroken S Next behind (run_laid S Next behind d) in run_gap_part S Next behind u.runs

    -- where the part doesn't stand on the same line, it is missing
    pub word_missing : ((o' : ℕ) (ps : Parts) (e : S) (P : List Pair) → Runs ways S Next behind o' (given_pieces a right ps) ps mid e P → Fine ps e → ⊥) → Sofar S Next behind det Fine o (word_pieces a right) mid (bare_end right) mid gap []
    word_missing no_part = gap_is S Next behind det (λ ps. refl) (λ o' e P d fine. run_never S Next behind d) (λ o' m ps e P d fine. no_part o' (part m ps) e P d fine)

module _ (S : Type 0) (Next : S → Token → S → Type 0) (behind : S → Token) (det : IsDetermined S Next behind) where
  -- pieces so far, and all that is left is found
  pub and_found : {Fine : Parts → S → Type 0} {o : ℕ} {all left : Parts → List (PieceOf Role)} {s mid e : S} {f : Parts → Parts} {ps : Parts} {Q R : List Pair} → Sofar S Next behind det Fine o all s left mid f Q → FoundPartsWhere S Next behind (λ ps e. Fine (f ps) e) o left mid e ps R →
      FoundPartsWhere S Next behind Fine o all s e (f ps) (Q ++ R)
  and_found {Fine} {f = f} {Q = Q} a found = record {
    runs = a.runs found.runs;
    only = λ o' e' ps' P' d fine.
        let u = a.leads d fine in
        let same = found.only o' e' u.rest u.more u.runs (subst (λ w. Fine w e') u.parts fine) in
        (same.0, u.parts ∙ ap f same.1, u.pairs ∙ ap (λ w. Q ++ w) same.2);
  }
