-- Statements and declarations by their first token: those whose first token is their own, from what stands behind it; and which one it is.
use Rattle.std.proofs.Common.{◌≡◌, ℕ, suc, ◌≤◌, Bool, true, false, List, refl, sym, ap, ◌∙◌, subst, arith}
use Rattle.std.proofs.lemmas.Bool.{false≢true}
use Rattle.tree.specs.declared.kind.Pair.{Pair}
use Rattle.tree.specs.Tree.{Tree, node, Parts, bare_parts, plain, height, parts_height}
use Rattle.language.specs.declared.Rank.TheVariants.{Expression}
use Rattle.language.specs.declared.Start.{Start}
use Rattle.language.specs.declared.Start.TheVariants.{Any}
use Rattle.language.specs.declared.Edge.TheVariants.{Closed}
use Rattle.language.specs.Edges.{last_edge}
use Rattle.language.specs.Pieces.{Role, expr, name}
use Rattle.language.specs.Token.{Token}
use Rattle.language.specs.StatementStart.{StatementStart, a_block, an_empty, a_for, a_continue, a_break, a_return, a_throw, a_debugger, is_own, statement_start}
use Rattle.language.specs.Promises.{IsDetermined, Stops}
use Rattle.language.specs.Following.{IsAlike, Followed, Finished, FoundWhere}
use Rattle.language.specs.Grammar.{ways}
use Rattle.language.specs.Derivation.{Spells, Placed}
use Rattle.language.proofs.table.Begins.{goes_to}
use Rattle.language.proofs.table.StatementWays.{kind_as, behind_own, Stands}
use Rattle.language.proofs.table.Beginnings.{text_as, LaterWay}
use Rattle.language.proofs.table.OwnTokenWays.{own_sole}
use Rattle.language.proofs.table.SoleWays.{Sole, Anyhow, sole_found}
use Rattle.language.proofs.table.ItemTokens.{item_starts}
use Rattle.language.proofs.climbing.Leaves.{name_form, name_found}
use Rattle.language.proofs.climbing.AsExpressions.{name_expression}
use Rattle.language.proofs.statements.StatementFollow.{found_whole, before_end}
use Rattle.unambiguity_laws.proofs.Unique.{Unique, StatementStep}
use Rattle.unambiguity_laws.proofs.list_items.UniqueRuns.{UniqueRuns, UniqueWhere, runs_none}
use Rattle.unambiguity_laws.proofs.statements.StatementEnds.{runs_end, runs_given, runs_word}
use Rattle.unambiguity_laws.proofs.statements.Bodies.{block_items}

module _ (S : Type 0) (Next : S → Token → S → Type 0) (behind : S → Token) (det : IsDetermined S Next behind) where
  -- a name is the only one at its place
  pub name_unique : {h : ℕ} → UniqueWhere S Next behind det h Anyhow name
  name_unique = record {
    found = λ {o} {n} {s} {e} {P} low d fine.
        let v = name_form S Next behind det d in
        let found = name_found S Next behind det {o = o} v.0.reads v.1 in
        record {
          spelled = d;
          only = λ o' e' n' P' d' fine'. (let same = found.only o' e' n' P' d' in (same.0, same.1 ∙ sym v.0.tree, same.2 ∙ sym v.0.pairs));
        };
  }

module _ (S : Type 0) (Next : S → Token → S → Type 0) (behind : S → Token) (det : IsDetermined S Next behind) (alike : IsAlike S Next behind) {h : ℕ} (u : Unique S Next behind det h) where
  -- an expression that can't go on
  pub whole_unique : {f : Start} → UniqueWhere S Next behind det h (λ n e. Stops S Next behind Expression true n e) (expr Expression true f)
  whole_unique = record { found = λ low d stops. found_whole S Next behind det (u.expressions.found low (λ c. cc) (λ c. cc) d stops) }

  -- a statement
  pub statement_unique : {a : Role} {p d r : Bool} → Stands a p d r → UniqueWhere S Next behind det h (Finished S Next behind) a
  statement_unique st = record { found = λ low d fine. u.statement st low d fine }

  -- from the pieces behind its first token to the statement
  pub own_step : (b : StatementStart) → is_own b ≡ true → (b ≡ a_for → ⊥) → ((r : Bool) (o : ℕ) (a : Role) (t : Token) (m : S) (n : Tree) (s e : S) (P : List Pair) → LaterWay S Next behind det r o a t m n s e P b → ⊥) → (FineParts : Parts → S → Type 0) → ((w : List ℕ) (st en : ℕ) (ps : Parts) (e : S) → Finished S Next behind (node (kind_as b) w plain st en ps) e → FineParts ps e) →
      ((r : Bool) → UniqueRuns S Next behind det h FineParts (λ ps. goes_to Expression true Any (behind_own r (kind_as b) (bare_parts ps)))) → StatementStep S Next behind det h b
  own_step b own no_loop no_later FineParts turn runs = record {
    gives = λ {a} {p} {d} {r} {o} {n} {s} {m} {e} {P} {t} stands low d1 fine read begun.
        let sole : Sole S Next behind det (Finished S Next behind) a (kind_as b) (text_as b t.text) plain s m (λ ps. goes_to Expression true Any (behind_own r (kind_as b) (bare_parts ps))) = own_sole S Next behind det stands read b begun own no_loop (λ o n e P w. no_later r o a t m n s e P w) in
        let v = sole.told d1 fine in
        let tall : height n ≡ suc (parts_height v.parts) = ap height v.tree in
        let low' : parts_height v.parts ≤ h = omega arith in
        let fine' : Finished S Next behind (node (kind_as b) (text_as b t.text) plain v.st v.en v.parts) e = subst (λ w. Finished S Next behind w e) v.tree fine in
        let found = (runs r).found low' v.runs (turn (text_as b t.text) v.st v.en v.parts e fine') in
        subst (λ w. FoundWhere S Next behind (Finished S Next behind) o a s e w P) (sym v.tree)
        (sole_found S Next behind det sole {FineParts = FineParts} (λ st en ps e f. turn (text_as b t.text) st en ps e f) found (subst (λ w. Placed S Next behind a w s e) v.tree v.placed));
  }

  block_statement : StatementStep S Next behind det h a_block
  block_statement = own_step a_block refl (λ e. cc) (λ r o a t m n s e P w. elim w [ ]) (λ ps e. Unit {0}) (λ w st en ps e f. tt) (λ r. block_items S Next behind det alike u r)

  empty_statement : StatementStep S Next behind det h an_empty
  empty_statement = own_step an_empty refl (λ e. cc) (λ r o a t m n s e P w. elim w [ ]) (λ ps e. Unit {0}) (λ w st en ps e f. tt) (λ r. runs_none S Next behind det)

  debugger_statement : StatementStep S Next behind det h a_debugger
  debugger_statement = own_step a_debugger refl (λ e. cc) (λ r o a t m n s e P w. elim w [ ]) (λ ps e. Unit {0}) (λ w st en ps e f. tt) (λ r. runs_end S Next behind det (λ ps. Rattle.language.specs.Pieces.behind Closed))

  continue_statement : StatementStep S Next behind det h a_continue
  continue_statement = own_step a_continue refl (λ e. cc) (λ r o a t m n s e P w. elim w [ ]) (λ ps e. Unit {0}) (λ w st en ps e f. tt)
      (λ r. runs_word S Next behind det (λ ps. Closed) (λ o n s e P d. name_expression S Next behind det d) (name_unique S Next behind det) (λ mid o m ps k e A P d runs fine. tt))

  break_statement : StatementStep S Next behind det h a_break
  break_statement = own_step a_break refl (λ e. cc) (λ r o a t m n s e P w. elim w [ ]) (λ ps e. Unit {0}) (λ w st en ps e f. tt)
      (λ r. runs_word S Next behind det (λ ps. Closed) (λ o n s e P d. name_expression S Next behind det d) (name_unique S Next behind det) (λ mid o m ps k e A P d runs fine. tt))

  return_statement : StatementStep S Next behind det h a_return
  return_statement = own_step a_return refl (λ e. cc) (λ r o a t m n s e P w. elim w [ ]) (λ ps e. Followed S Next behind false e) (λ w st en ps e f. f)
      (λ r. runs_word S Next behind det last_edge (λ o n s e P d. d) whole_unique (λ mid. before_end S Next behind det alike (λ ps. false) Expression true))

  throw_statement : StatementStep S Next behind det h a_throw
  throw_statement = own_step a_throw refl (λ e. cc) (λ r o a t m n s e P w. elim w [ ]) (λ ps e. Followed S Next behind false e) (λ w st en ps e f. f)
      (λ r. runs_given S Next behind det last_edge (λ o n s e P d. d) whole_unique (λ mid. before_end S Next behind det alike (λ ps. false) Expression true))

  -- those that need no lists of their own
  abbrev pub is_lone : StatementStart → Bool
  is_lone a_block = true
  is_lone an_empty = true
  is_lone a_debugger = true
  is_lone a_continue = true
  is_lone a_break = true
  is_lone a_return = true
  is_lone a_throw = true
  is_lone _ = false

  pub lone_statement : (b : StatementStart) → is_lone b ≡ true → StatementStep S Next behind det h b
  lone_statement a_block l = block_statement
  lone_statement an_empty l = empty_statement
  lone_statement a_debugger l = debugger_statement
  lone_statement a_continue l = continue_statement
  lone_statement a_break l = break_statement
  lone_statement a_return l = return_statement
  lone_statement a_throw l = throw_statement
  lone_statement _ l = absurd (false≢true l)

  -- a statement or declaration, by the token with which it begins
  pub statement_step : {a : Role} {p d r : Bool} {o : ℕ} {n : Tree} {s e : S} {P : List Pair} → ((b : StatementStart) → StatementStep S Next behind det h b) → Stands a p d r → height n ≤ suc h → Spells ways S Next behind o a n s e P → Finished S Next behind n e →
      FoundWhere S Next behind (Finished S Next behind) o a s e n P
  statement_step {d = d} {r = r} steps st low d1 fine = let v = item_starts S Next behind det st d1 in (steps (statement_start d r v.token)).gives st low d1 fine v.read refl
