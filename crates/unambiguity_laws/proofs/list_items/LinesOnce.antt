-- What runs over lines, items or cases one behind the other up to what closes them, is the only thing that does.
use Rattle.std.proofs.Common.{◌≡◌, ℕ, ◌≤◌, Bool, List, ◌++◌, refl, sym, ◌∙◌, subst, arith}
use Rattle.tree.specs.declared.kind.Pair.{Pair}
use Rattle.tree.specs.Tree.{Tree, Parts, none, part, gap, height, parts_height}
use Rattle.language.specs.Pieces.{Role, PieceOf}
use Rattle.language.specs.Token.{Token}
use Rattle.language.specs.Promises.{IsDetermined}
use Rattle.language.specs.Following.{IsAlike, Finished, FoundWhere}
use Rattle.language.specs.Grammar.{ways}
use Rattle.language.specs.Derivation.{Spells, Runs}
use Rattle.language.proofs.list_loops.FirstPieces.{run_never, run_the_part}
use Rattle.language.proofs.table.ItemTokens.{item_starts}
use Rattle.language.proofs.table.StatementWays.{Stands}
use Rattle.language.proofs.list_loops.StatementLists.{plain_lines, Closing, started_follows}
use Rattle.unambiguity_laws.proofs.Unique.{Unique}

module _ (S : Type 0) (Next : S → Token → S → Type 0) (behind : S → Token) (det : IsDetermined S Next behind) (alike : IsAlike S Next behind) {h : ℕ} (u : Unique S Next behind det h) where
  -- What is asked of the lines: what stands behind a line, that the end begins none, that the end is one, and that a line is.
  pub record Lines (a : Role) (zs : List (PieceOf Role)) (Fine : Tree → S → Type 0) (End : S → Type 0) : Type 0 where
    pub follow : {o : ℕ} (m : Tree) (ps : Parts) {k e : S} {P : List Pair} → Runs ways S Next behind o (plain_lines a zs ps) ps k e P → End e → Fine m k
    pub no_line : {o o' : ℕ} {m : Tree} {s k e : S} {A P : List Pair} → Spells ways S Next behind o a m s k A → Runs ways S Next behind o' zs none s e P → End e → ⊥
    pub once : {o o' : ℕ} {k e e' : S} {P P' : List Pair} → Runs ways S Next behind o zs none k e P → End e → Runs ways S Next behind o' zs none k e' P' → End e' → (e' ≡ e) × (P' ≡ P)
    pub line : {o : ℕ} {n : Tree} {s k : S} {A : List Pair} → height n ≤ h → Spells ways S Next behind o a n s k A → Fine n k → FoundWhere S Next behind Fine o a s k n A

  module _ {a : Role} {zs : List (PieceOf Role)} {Fine : Tree → S → Type 0} {End : S → Type 0} (l : Lines a zs Fine End) where
    pub lines_unique : {o o' : ℕ} (ps ps' : Parts) {s e e' : S} {P P' : List Pair} → parts_height ps ≤ h → Runs ways S Next behind o (plain_lines a zs ps) ps s e P → End e → Runs ways S Next behind o' (plain_lines a zs ps') ps' s e' P' → End e' → (e' ≡ e) × (ps' ≡ ps) × (P' ≡ P)
    lines_unique none none low d fine d' fine' = let q = l.once d fine d' fine' in (q.0, refl, q.1)
    lines_unique none (part m ps') low d fine d' fine' = absurd (l.no_line (run_the_part S Next behind d').spelled d fine)
    lines_unique (part n ps) none low d fine d' fine' = absurd (l.no_line (run_the_part S Next behind d).spelled d' fine')
    lines_unique (gap ps) ps' low d fine d' fine' = absurd (run_never S Next behind d)
    lines_unique ps (gap ps') low d fine d' fine' = absurd (run_never S Next behind d')
    lines_unique {o} {o'} (part n ps) (part m ps') {s} {e} {e'} {P} {P'} low d fine d' fine' =
        let v = run_the_part S Next behind d in
        let v' = run_the_part S Next behind d' in
        let same = (l.line (omega arith) v.spelled (l.follow n ps v.runs fine)).only o' v'.mid m v'.one v'.spelled (l.follow m ps' v'.runs fine') in
        let rest = lines_unique ps ps' (omega arith) v.runs fine (subst (λ c. Runs ways S Next behind o' (plain_lines a zs ps') ps' c e' v'.more) same.0 v'.runs) fine' in
        (rest.0, (λ j. part (same.1 j) (rest.1 j)), v'.pairs ∙ (λ j. same.2 j ++ rest.2 j) ∙ sym v.pairs)

  -- statements and declarations, where what closes the list is one
  pub statement_lines : {p d r : Bool} {a : Role} {zs : List (PieceOf Role)} {End : S → Type 0} → Stands a p d r → Closing S Next behind det End zs →
      ((o o' : ℕ) (k e e' : S) (P P' : List Pair) → Runs ways S Next behind o zs none k e P → End e → Runs ways S Next behind o' zs none k e' P' → End e' → (e' ≡ e) × (P' ≡ P)) → Lines a zs (Finished S Next behind) End
  statement_lines {a = a} {zs} {End} stands closing once = record {
    follow = λ {o} m ps {k} {e} {P} d end. follow m ps d end;
    no_line = λ {o} {o'} {m} {s} {k} {e} {A} {P} sp d end. closing.no_item d end (item_starts S Next behind det stands sp);
    once = λ {o} {o'} {k} {e} {e'} {P} {P'} d end d' end'. once o o' k e e' P P' d end d' end';
    line = λ {o} {n} {s} {k} {A} low sp fine. u.statement stands low sp fine;
  }
    where
      follow : {o : ℕ} (m : Tree) (ps : Parts) {k e : S} {P : List Pair} → Runs ways S Next behind o (plain_lines a zs ps) ps k e P → End e → Finished S Next behind m k
      follow m none d end = closing.closes d end
      follow m (gap ps) d end = absurd (run_never S Next behind d)
      follow m (part n ps) d end = started_follows S Next behind det (item_starts S Next behind det stands (run_the_part S Next behind d).spelled)
