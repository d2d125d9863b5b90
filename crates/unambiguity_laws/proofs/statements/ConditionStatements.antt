-- Statements with a condition: `if`, with its `else` or without (ECMA-262 13.6), `do` and `while`.
use Rattle.std.proofs.Common.{◌≡◌, ℕ, ◌≤◌, Bool, true, false, cond, List, [], ◌∷◌, refl, sym, ap, ◌∙◌, subst}
use Rattle.std.specs.Prelude.{codes}
use Rattle.std.proofs.lemmas.Bool.{false≢true}
use Rattle.tokens.specs.declared.token.TokenClass.TheVariants.{IdentifierName, Punctuator}
use Rattle.tokens.specs.declared.token.Goal.{Goal}
use Rattle.tokens.specs.declared.token.Goal.TheVariants.{Div}
use Rattle.tree.specs.declared.kind.Pair.{Pair}
use Rattle.tree.specs.Tree.{Tree, Parts, none, part, gap, bare, bare_parts, parts_height}
use Rattle.language.specs.declared.Rank.TheVariants.{Expression}
use Rattle.language.specs.declared.Start.TheVariants.{Any}
use Rattle.language.specs.Vocabulary.{is_reserved}
use Rattle.language.specs.Edges.{ends_in_if, last_ends_in_if}
use Rattle.language.specs.Pieces.{Role, expr, statement, Piece, PieceOf, tok, ending, of_do, sub, lay, space, sp, term, put, nothing}
use Rattle.language.specs.Token.{Token}
use Rattle.language.specs.StatementStart.{an_if, a_do, a_while}
use Rattle.language.specs.Promises.{is_free, IsDetermined}
use Rattle.language.specs.Following.{IsAlike, Followed, may_follow, FoundPartsWhere}
use Rattle.language.specs.Grammar.{ways}
use Rattle.language.specs.Derivation.{Reads, Runs}
use Rattle.language.proofs.table.Begins.{goes_to, retell}
use Rattle.language.proofs.list_loops.FirstPieces.{run_none, run_token, run_laid, run_never, run_the_part, run_the_gap, run_no_part, run_gap_part}
use Rattle.language.proofs.table.StatementWays.{as_statement}
use Rattle.language.proofs.statements.StatementShapes.{behind_consequent, if_begins}
use Rattle.language.proofs.statements.DanglingElse.{consequent_fits}
use Rattle.language.proofs.list_loops.PiecesSoFar.{Sofar, retold_where}
use Rattle.language.proofs.statements.OptionalParts.{and_found}
use Rattle.language.proofs.statements.StatementFollow.{before_token, before_while, at_last}
use Rattle.unambiguity_laws.proofs.Unique.{Unique, StatementStep}
use Rattle.unambiguity_laws.proofs.list_items.UniqueRuns.{UniqueRuns, runs_none, runs_lay, runs_token, runs_part, runs_after}
use Rattle.unambiguity_laws.proofs.statements.StatementEnds.{runs_end}
use Rattle.unambiguity_laws.proofs.statements.StatementsByToken.{whole_unique, statement_unique, own_step}

-- the pieces of an `else`
abbrev else_pieces : Bool → List (PieceOf Role)
else_pieces r = lay space ∷ tok IdentifierName (codes "else") ∷ lay space ∷ sub (statement r) ∷ []

abbrev else_table : Bool → List Piece
else_table r = sp ∷ term "else" ∷ sp ∷ put (statement r) ∷ []

module _ (S : Type 0) (Next : S → Token → S → Type 0) (behind : S → Token) (det : IsDetermined S Next behind) where
  -- behind an `if` without `else` there is none
  no_else : {s k : S} {t : Token} → Reads S Next behind IdentifierName (codes "else") s t k → Followed S Next behind true s → ⊥
  unfolding is_reserved
  no_else {s} {k} {t} r f =
      let same : t ≡ f.token = (det.same Goal.RegExp s t f.token k f.mid r.next f.read.next (det.free Goal.RegExp s t k r.next (ap is_free r.class)) f.read.allowed).0 in
      let none : may_follow true t ≡ false = ap (λ c. may_follow true (record { class = c; text = t.text; start = 0; stop = 0; after_break = false })) r.class ∙ ap (λ w. may_follow true (record { class = IdentifierName; text = w; start = 0; stop = 0; after_break = false })) r.text in
      false≢true (sym none ∙ ap (may_follow true) same ∙ f.follows)

  -- what runs over the pieces of an `else` is one statement
  one_else : {r : Bool} {o : ℕ} {s e : S} {P : List Pair} (ps : Parts) → Runs ways S Next behind o (else_pieces r) ps s e P → (n : Tree) × (ps ≡ part n none)
  one_else none d = run_no_part S Next behind (run_laid S Next behind (run_token S Next behind (run_laid S Next behind d)).runs)
  one_else (gap ps) d = run_gap_part S Next behind (run_laid S Next behind (run_token S Next behind (run_laid S Next behind d)).runs)
  one_else (part n ps) d = let v = run_the_part S Next behind (run_laid S Next behind (run_token S Next behind (run_laid S Next behind d)).runs) in (n, ap (part n) (run_none S Next behind v.runs).parts)

module _ (S : Type 0) (Next : S → Token → S → Type 0) (behind : S → Token) (det : IsDetermined S Next behind) (alike : IsAlike S Next behind) {h : ℕ} (u : Unique S Next behind det h) where
  -- behind the condition x and the statement c of an `if`: an `else`, or none
  module _ (r : Bool) (x c : Tree) where
    abbrev Behind : Parts → S → Type 0
    Behind ps e = Followed S Next behind (last_ends_in_if (part x (part c ps))) e

    abbrev left : Parts → List (PieceOf Role)
    left ps = goes_to Expression true Any (behind_consequent r (bare_parts (part x (part c ps))))

    else_read : {o : ℕ} {s e : S} {P : List Pair} (b : Bool) (n : Tree) → Runs ways S Next behind o (goes_to Expression true Any (cond b nothing (else_table r))) (part n none) s e P → (b ≡ false) × (t : Token) × (k : S) × Reads S Next behind IdentifierName (codes "else") s t k
    else_read true n d = absurd (run_never S Next behind d)
    else_read false n d = let v = run_token S Next behind (run_laid S Next behind d) in (refl, v.sign, v.mid, v.reads)

    -- where it is read, it is there
    else_there : {o : ℕ} {s k : S} {t : Token} → ends_in_if (bare c) ≡ false → Reads S Next behind IdentifierName (codes "else") s t k → Sofar S Next behind det Behind o left s (λ ps. else_pieces r) s (λ ps. ps) []
    else_there {o} {s} {k} {t} dangles read = retold_where S Next behind det there back
      where
        is_else : (n : Tree) → left (part n none) ≡ else_pieces r
        is_else n = ap (λ b. goes_to Expression true Any (cond b nothing (else_table r))) dangles

        there : (o' : ℕ) (ps : Parts) (e : S) (P : List Pair) → Runs ways S Next behind o' (left ps) ps s e P → Behind ps e → left ps ≡ else_pieces r
        there o' (gap none) e P d fine = absurd (no_else S Next behind det read (subst (λ v. Followed S Next behind true v) (sym (run_none S Next behind (run_the_gap S Next behind d)).place) fine))
        there o' (part n none) e P d fine = is_else n
        there o' _ e P d fine = absurd (run_never S Next behind d)

        back : (ps : Parts) (e : S) (P : List Pair) → Runs ways S Next behind o (else_pieces r) ps s e P → left ps ≡ else_pieces r
        back ps e P d = let v = one_else S Next behind det ps d in ap left v.1 ∙ is_else v.0

    else_unique : UniqueRuns S Next behind det h Behind left
    else_unique = record { found = λ {o} {ps} low d fine. of ps low d fine }
      where
        given : UniqueRuns S Next behind det h Behind (λ ps. else_pieces r)
        given = runs_lay S Next behind det (runs_token S Next behind det Div refl (runs_lay S Next behind det (runs_part S Next behind det {after = λ ps. []} (statement_unique S Next behind det alike u as_statement)
            (λ mid. at_last S Next behind det alike (λ ps. last_ends_in_if (part x (part c ps))) (λ m. refl)) (λ m low. runs_none S Next behind det))))

        of : {o : ℕ} {s e : S} {P : List Pair} (ps : Parts) → parts_height ps ≤ h → Runs ways S Next behind o (left ps) ps s e P → Behind ps e → FoundPartsWhere S Next behind Behind o left s e ps P
        of {o} {s} {e} {P} (gap none) low d fine =
            let z = run_none S Next behind (run_the_gap S Next behind d) in
            let none_here : Followed S Next behind true s = subst (λ v. Followed S Next behind true v) (sym z.place) fine in
            record { runs = d; only = λ o' e' ps' P' d' fine'. only none_here z.place z.pairs o' e' ps' P' d' }
          where
            only : {s e : S} {P : List Pair} → Followed S Next behind true s → s ≡ e → P ≡ [] → (o' : ℕ) (e' : S) (ps' : Parts) (P' : List Pair) → Runs ways S Next behind o' (left ps') ps' s e' P' → (e' ≡ e) × (ps' ≡ gap none) × (P' ≡ P)
            only none_here place pairs o' e' (gap none) P' d' = let z = run_none S Next behind (run_the_gap S Next behind d') in (sym z.place ∙ place, refl, z.pairs ∙ sym pairs)
            only none_here place pairs o' e' (part n none) P' d' = absurd (no_else S Next behind det (else_read (ends_in_if (bare c)) n d').3 none_here)
            only none_here place pairs o' e' _ P' d' = absurd (run_never S Next behind d')
        of {o} {s} {e} {P} (part n none) low d fine =
            let v = else_read (ends_in_if (bare c)) n d in
            let before = else_there {o = o} v.0 v.3 in
            and_found S Next behind det before (given.found low (retell S Next behind (ap (λ b. goes_to Expression true Any (cond b nothing (else_table r))) v.0) d) fine)
        of _ low d fine = absurd (run_never S Next behind d)

  pub if_statement : StatementStep S Next behind det h an_if
  if_statement = own_step S Next behind det alike u an_if refl (λ e. cc) (λ r o a t m n s e P w. elim w [ ]) (λ ps e. Followed S Next behind (last_ends_in_if ps) e) (λ w st en ps e f. f) (λ r. runs_after S Next behind det (λ o s. if_begins S Next behind det r) (pieces r))
    where
      pieces : (r : Bool) → UniqueRuns S Next behind det h (λ ps e. Followed S Next behind (last_ends_in_if ps) e) (λ ps. goes_to Expression true Any (Rattle.language.proofs.table.StatementWays.condition r (behind_consequent r (bare_parts ps))))
      pieces r = runs_lay S Next behind det (runs_token S Next behind det Div refl (runs_part S Next behind det
          {after = λ ps. tok Punctuator (codes ")") ∷ lay space ∷ sub (statement r) ∷ goes_to Expression true Any (behind_consequent r (bare_parts ps))} (whole_unique S Next behind det alike u)
          (λ mid. before_token S Next behind det (λ ps e. Followed S Next behind (last_ends_in_if ps) e) Expression true (λ ps. lay space ∷ sub (statement r) ∷ goes_to Expression true Any (behind_consequent r (bare_parts ps))) refl (λ x b. refl))
          (λ x low. runs_token S Next behind det Div refl (runs_lay S Next behind det (runs_part S Next behind det {after = λ ps. goes_to Expression true Any (behind_consequent r (bare_parts (part x ps)))} (statement_unique S Next behind det alike u as_statement)
          (λ mid. consequent_fits S Next behind det alike r x) (λ c low'. else_unique r x c))))))

  pub do_statement : StatementStep S Next behind det h a_do
  do_statement = own_step S Next behind det alike u a_do refl (λ e. cc) (λ r o a t m n s e P w. elim w [ ]) (λ ps e. Followed S Next behind false e) (λ w st en ps e f. f)
      (λ r. runs_lay S Next behind det (runs_part S Next behind det
      {after = λ ps. lay space ∷ tok IdentifierName (codes "while") ∷ lay space ∷ tok Punctuator (codes "(") ∷ sub (expr Expression true Any) ∷ tok Punctuator (codes ")") ∷ ending of_do ∷ []} (statement_unique S Next behind det alike u as_statement)
      (λ mid. before_while S Next behind det alike (λ ps e. Followed S Next behind false e) (λ ps. lay space ∷ tok Punctuator (codes "(") ∷ sub (expr Expression true Any) ∷ tok Punctuator (codes ")") ∷ ending of_do ∷ []))
      (λ m low. runs_lay S Next behind det (runs_token S Next behind det Div refl (runs_lay S Next behind det (runs_token S Next behind det Div refl (runs_part S Next behind det
      {after = λ ps. tok Punctuator (codes ")") ∷ ending of_do ∷ []} (whole_unique S Next behind det alike u)
      (λ mid. before_token S Next behind det (λ ps e. Followed S Next behind false e) Expression true (λ ps. ending of_do ∷ []) refl (λ x b. refl))
      (λ x low'. runs_token S Next behind det Div refl (runs_end S Next behind det (λ ps. of_do))))))))))

  pub while_statement : StatementStep S Next behind det h a_while
  while_statement = own_step S Next behind det alike u a_while refl (λ e. cc) (λ r o a t m n s e P w. elim w [ ]) (λ ps e. Followed S Next behind (last_ends_in_if ps) e) (λ w st en ps e f. f)
      (λ r. runs_lay S Next behind det (runs_token S Next behind det Div refl (runs_part S Next behind det
      {after = λ ps. tok Punctuator (codes ")") ∷ lay space ∷ sub (statement r) ∷ []} (whole_unique S Next behind det alike u)
      (λ mid. before_token S Next behind det (λ ps e. Followed S Next behind (last_ends_in_if ps) e) Expression true (λ ps. lay space ∷ sub (statement r) ∷ []) refl (λ x b. refl))
      (λ x low. runs_token S Next behind det Div refl (runs_lay S Next behind det (runs_part S Next behind det {after = λ ps. []} (statement_unique S Next behind det alike u as_statement)
      (λ mid. at_last S Next behind det alike (λ ps. last_ends_in_if (part x ps)) (λ m. refl)) (λ m low'. runs_none S Next behind det)))))))
