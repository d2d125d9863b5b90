-- The statement behind the condition of an `if`: what follows it says that it has ended, with an `else` or without.
use Rattle.std.proofs.Common.{◌≡◌, Bool, true, false, cond, [], ◌∷◌, refl, sym, ◌∙◌, subst}
use Rattle.std.specs.Prelude.{◌&&◌, ◌||◌}
use Rattle.tree.specs.Tree.{Tree, none, part, gap, bare, bare_parts}
use Rattle.language.specs.declared.Rank.TheVariants.{Expression}
use Rattle.language.specs.declared.Start.TheVariants.{Any}
use Rattle.language.specs.Vocabulary.{is}
use Rattle.language.specs.Edges.{ends_in_if, last_ends_in_if}
use Rattle.language.specs.Pieces.{Role, statement, sp, term, put, nothing}
use Rattle.language.specs.Token.{Token, same_class}
use Rattle.tokens.specs.declared.token.TokenClass.TheVariants.{IdentifierName}
use Rattle.language.specs.StatementStart.{begins_item}
use Rattle.language.specs.Promises.{IsDetermined}
use Rattle.language.specs.Following.{IsAlike, Followed, Finished, ends_list, may_follow}
use Rattle.language.specs.Grammar.{ways}
use Rattle.language.specs.Derivation.{Runs}
use Rattle.language.proofs.table.Begins.{goes_to}
use Rattle.language.proofs.list_loops.FirstPieces.{run_none, run_never, run_the_gap}
use Rattle.language.proofs.table.BareEdges.{ends_bare}
use Rattle.language.proofs.statements.StatementShapes.{behind_consequent}
use Rattle.language.proofs.list_loops.PiecesSoFar.{Fits}
use Rattle.language.proofs.statements.StatementFollow.{before_else}

-- what may follow a statement that ends in an `if` without `else` may follow any
follows_any : (b : Bool) (t : Token) → may_follow true t ≡ true → may_follow b t ≡ true
follows_any true t h = h
follows_any false t h = of (begins_item t) (ends_list t) (same_class IdentifierName t.class) (is t.text "else") h
  where
    of : (p q c d : Bool) → (p || (q || (c && (d && false)))) ≡ true → (p || (q || (c && (d && true)))) ≡ true
    of true q c d h = refl
    of false true c d h = refl
    of false false true true h = cc
    of false false true false h = cc
    of false false false d h = cc

module _ (S : Type 0) (Next : S → Token → S → Type 0) (behind : S → Token) (det : IsDetermined S Next behind) (alike : IsAlike S Next behind) where
  any_follows : {b : Bool} {e : S} → Followed S Next behind true e → Followed S Next behind b e
  any_follows {b} u = record { token = u.token; mid = u.mid; read = u.read; follows = follows_any b u.token u.follows }

  -- behind its condition x
  pub consequent_fits : (r : Bool) (x : Tree) {a : Role} {mid : S} →
      Fits S Next behind det (λ ps e. Followed S Next behind (last_ends_in_if (part x ps)) e) (Finished S Next behind) a (λ ps. goes_to Expression true Any (behind_consequent r (bare_parts (part x ps)))) mid
  consequent_fits r x o m (gap none) k e A P d runs fine = any_follows (subst (λ v. Followed S Next behind true v) (sym (run_none S Next behind (run_the_gap S Next behind runs)).place) fine)
  consequent_fits r x o m (part n none) k e A P d runs fine = of (ends_in_if (bare m)) refl runs
    where
      of : (b : Bool) → ends_in_if (bare m) ≡ b → Runs ways S Next behind o (goes_to Expression true Any (cond b nothing (sp ∷ term "else" ∷ sp ∷ put (statement r) ∷ []))) (part n none) k e P → Finished S Next behind m k
      of true h d = absurd (run_never S Next behind d)
      of false h d = before_else S Next behind det alike m (sym (ends_bare m) ∙ h) d
  consequent_fits r x o m none k e A P d runs fine = absurd (run_never S Next behind runs)
  consequent_fits r x o m (gap (gap ps)) k e A P d runs fine = absurd (run_never S Next behind runs)
  consequent_fits r x o m (gap (part n ps)) k e A P d runs fine = absurd (run_never S Next behind runs)
  consequent_fits r x o m (part n (gap ps)) k e A P d runs fine = absurd (run_never S Next behind runs)
  consequent_fits r x o m (part n (part l ps)) k e A P d runs fine = absurd (run_never S Next behind runs)
