-- Declarators in the head of a `for` (ECMA-262 13.7): any number before `;`, one without a value before `in` and `of`.
use Rattle.std.proofs.Common.{◌≡◌, ℕ, true, false, List, [], ◌∷◌, refl, sym, ap, subst}
use Rattle.std.specs.Prelude.{codes}
use Rattle.std.proofs.lemmas.Bool.{false≢true}
use Rattle.std.proofs.lemmas.List.{append-nil}
use Rattle.tree.specs.declared.kind.Pair.{Pair}
use Rattle.tree.specs.Tree.{Tree, Parts, none, part, gap, bare_parts}
use Rattle.language.specs.declared.Rank.TheVariants.{Expression, Assignment}
use Rattle.language.specs.declared.Start.TheVariants.{Any}
use Rattle.language.specs.declared.Edge.{Edge}
use Rattle.language.specs.Vocabulary.{is}
use Rattle.language.specs.Pieces.{declarator, Piece, lay, space}
use Rattle.language.specs.Statements.{declarators}
use Rattle.language.specs.Token.{Token}
use Rattle.language.specs.Promises.{IsDetermined}
use Rattle.language.specs.Following.{Declared}
use Rattle.language.specs.Grammar.{ways}
use Rattle.language.specs.Derivation.{Runs}
use Rattle.language.proofs.table.Begins.{goes_to}
use Rattle.language.proofs.list_loops.FirstPieces.{run_none, run_never}
use Rattle.language.proofs.table.ForDeclarationWays.{behind_head, two_signs}
use Rattle.language.proofs.list_loops.StatementLists.{closed_by}
use Rattle.language.proofs.statements.StatementFollow.{idle_stops}
use Rattle.language.proofs.covers.CoverReadings.{name_or_sign}
use Rattle.language.proofs.list_loops.DeclaratorLists.{before_declarator}
use Rattle.language.proofs.statements.ForHeads.{Worded, Parted, word_stops}
use Rattle.language.proofs.list_loops.PiecesSoFar.{Sofar, retold}

-- nothing behind the last declarator
abbrev pub no_end : Edge → List Piece
no_end x = []

semicolon_equals : codes ";" ≡ codes "=" → ⊥
semicolon_equals e = false≢true (sym (ap (λ w. is w ";") e))

module _ (S : Type 0) (Next : S → Token → S → Type 0) (behind : S → Token) (det : IsDetermined S Next behind) where
  -- a declarator can't go on before these
  pub in_declared : {n : Tree} {k : S} → Worded S Next behind det (codes "in") k → Declared S Next behind false n k
  in_declared {n} u = record { stopped = word_stops S Next behind det Assignment false n refl (λ x b. refl) u; no_value = λ v m r. name_or_sign S Next behind det refl u.reads r }

  pub of_declared : {n : Tree} {k : S} → Worded S Next behind det (codes "of") k → Declared S Next behind false n k
  of_declared {n} u = record { stopped = word_stops S Next behind det Assignment false n refl (λ x b. refl) u; no_value = λ v m r. name_or_sign S Next behind det refl u.reads r }

  pub semicolon_declared : {n : Tree} {k : S} → Parted S Next behind det k → Declared S Next behind false n k
  semicolon_declared {n} u = record { stopped = idle_stops S Next behind det Assignment false n refl (λ x b. refl) u.reads; no_value = λ v m r. semicolon_equals (two_signs S Next behind det refl refl u.reads r).0 }

  module _ {Fine : Parts → S → Type 0} {o : ℕ} {mid : S} where
    -- behind the word, before `;`
    pub head_begins : Sofar S Next behind det Fine o (λ ps. goes_to Expression true Any (behind_head true (bare_parts ps))) mid (λ ps. lay space ∷ before_declarator (declarator false true) no_end ps) mid (λ ps. ps) []
    head_begins = retold S Next behind det (λ ps. ap (λ x. lay space ∷ goes_to Expression true Any x) (sym (append-nil (declarators (declarator false true) (bare_parts ps)))))

  -- the one declarator
  module _ (End : S → Type 0) (ends : (n : Tree) (k : S) → End k → Declared S Next behind false n k) where
    fits : {o : ℕ} (m : Tree) (ps : Parts) {k e : S} {P : List Pair} → Runs ways S Next behind o (closed_by [] ps) ps k e P → End e → Declared S Next behind false m k
    fits m none {k} {e} d fine = ends m k (subst End (sym (run_none S Next behind d).place) fine)
    fits m (part n ps) d fine = absurd (run_never S Next behind d)
    fits m (gap ps) d fine = absurd (run_never S Next behind d)
