-- Lists with commas, as a loop reads them: before an item; behind one, where a comma or the closing token stands.
use Rattle.std.proofs.Common.{◌≡◌, ℕ, true, List, ◌∷◌, ◌++◌, refl, subst}
use Rattle.std.specs.Prelude.{Option, Some, None, codes}
use Rattle.tokens.specs.declared.token.TokenClass.TheVariants.{Punctuator}
use Rattle.tree.specs.declared.kind.Pair.{Pair}
use Rattle.tree.specs.Tree.{Tree, Parts, part}
use Rattle.language.specs.declared.Rank.TheVariants.{Expression}
use Rattle.language.specs.declared.Start.TheVariants.{Any}
use Rattle.language.specs.Pieces.{Role, PieceOf, put_at, settle_piece}
use Rattle.language.specs.Token.{Token}
use Rattle.language.specs.Promises.{IsDetermined}
use Rattle.language.specs.Grammar.{ways}
use Rattle.language.specs.Derivation.{Reads, Spells, Runs, within}
use Rattle.language.proofs.list_loops.FirstPieces.{run_never, run_the_part}

module _ (S : Type 0) (Next : S → Token → S → Type 0) (behind : S → Token) (det : IsDetermined S Next behind) where
  -- a comma or the closing token is read here
  pub data Separated (w : List ℕ) (k : S) : Type 0 where
    by_comma : {t : Token} {m : S} → Reads S Next behind Punctuator (codes ",") k t m → Separated w k
    by_closing : {t : Token} {m : S} → Reads S Next behind Punctuator w k t m → Separated w k

  -- an item of some role, and the rest
  pub record AnItem (o : ℕ) (x : Option Role) (qs : List (PieceOf Role)) (n : Tree) (ps : Parts) (s e : S) (P : List Pair) : Type 0 where
    pub role : Role
    pub it_is : x ≡ Some role
    pub mid : S
    pub one : List Pair
    pub more : List Pair
    pub pairs : P ≡ one ++ more
    pub spelled : Spells ways S Next behind o role n s mid one
    pub runs : Runs ways S Next behind o qs ps mid e more

  -- what runs over it
  pub an_item : {o : ℕ} {qs : List (PieceOf Role)} {n : Tree} {ps : Parts} {s e : S} {P : List Pair} (x : Option Role) → Runs ways S Next behind o (settle_piece Expression true Any (put_at x) ∷ qs) (part n ps) s e P → AnItem o x qs n ps s e P
  an_item None d = absurd (run_never S Next behind d)
  an_item (Some a) d = let p = run_the_part S Next behind d in record { role = a; it_is = refl; mid = p.mid; one = p.one; more = p.more; pairs = p.pairs; spelled = p.spelled; runs = p.runs }

  -- an item and what follows it
  pub item_runs : {o : ℕ} {a : Role} {qs : List (PieceOf Role)} {n : Tree} {ps : Parts} {s m e : S} {P Q : List Pair} (x : Option Role) → x ≡ Some a → Spells ways S Next behind o a n s m P → Runs ways S Next behind o qs ps m e Q →
      Runs ways S Next behind o (settle_piece Expression true Any (put_at x) ∷ qs) (part n ps) s e (P ++ Q)
  item_runs None h p d = cc
  item_runs {o} {a} {n = n} {s = s} {m = m} {P = P} (Some b) h p d = let same : a ≡ b = cc in within (subst (λ v. Spells ways S Next behind o v n s m P) same p) d
