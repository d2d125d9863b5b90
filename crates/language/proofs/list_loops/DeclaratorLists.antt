-- Declarators with commas between them, as a loop reads them, and what stands behind the last (ECMA-262 13.3).
use Rattle.std.proofs.Common.{◌≡◌, ℕ, Bool, true, false, List, [], ◌∷◌, ◌++◌, refl, sym, ap, ◌∙◌, subst, arith}
use Rattle.std.specs.Prelude.{IsTrue, codes}
use Rattle.std.proofs.lemmas.Bool.{false≢true}
use Rattle.tokens.specs.declared.token.TokenClass.TheVariants.{Punctuator}
use Rattle.tokens.specs.declared.token.Goal.{Goal}
use Rattle.tokens.specs.Goals.{allows}
use Rattle.tree.specs.declared.kind.Pair.{Pair}
use Rattle.tree.specs.Tree.{Tree, Parts, none, part, gap, bare_parts}
use Rattle.language.specs.declared.Rank.TheVariants.{Expression, Assignment}
use Rattle.language.specs.declared.Start.TheVariants.{Any}
use Rattle.language.specs.declared.Edge.{Edge}
use Rattle.language.specs.Vocabulary.{is}
use Rattle.language.specs.Edges.{edge, last_edge}
use Rattle.language.specs.Pieces.{Role, declarator, Piece, PieceOf, tok, lay, space, sub, never, ending}
use Rattle.language.specs.Statements.{declarators, end_of}
use Rattle.language.specs.Token.{Token}
use Rattle.language.specs.Promises.{IsDetermined}
use Rattle.language.specs.Following.{IsAlike, Followed, may_follow, Declared, FoundWhere}
use Rattle.language.specs.Grammar.{ways}
use Rattle.language.specs.Derivation.{Reads, Spells, Runs, step, within, token, laid, Step, explicit, implicit}
use Rattle.language.proofs.table.Begins.{goes_to, retell}
use Rattle.language.proofs.list_loops.FirstPieces.{run_token, run_laid, run_never, run_the_part}
use Rattle.language.proofs.table.BareEdges.{edge_bare}
use Rattle.language.proofs.climbing.Conditionals.{same_sign}
use Rattle.language.proofs.table.ForDeclarationWays.{two_signs}
use Rattle.language.proofs.list_loops.StatementLists.{closed_by}
use Rattle.language.proofs.statements.StatementFollow.{idle_stops, end_stops}
use Rattle.language.proofs.list_loops.PiecesSoFar.{Rest, Sofar, turned, run_end}

-- declarators, and what stands behind the last, which may ask for its right edge
abbrev pub before_declarator : Role → (Edge → List Piece) → Parts → List (PieceOf Role)
before_declarator a after ps = goes_to Expression true Any (declarators a (bare_parts ps) ++ after (last_edge (bare_parts ps)))

abbrev pub behind_declarator : Role → (Edge → List Piece) → Tree → Parts → List (PieceOf Role)
behind_declarator a after n none = goes_to Expression true Any (after (edge n))
behind_declarator a after n (part m ps) = tok Punctuator (codes ",") ∷ lay space ∷ before_declarator a after (part m ps)
behind_declarator a after n (gap ps) = never ∷ []

-- the end of a declaration
abbrev pub its_end : Edge → List Piece
its_end x = end_of x ∷ []

comma_equals : codes "," ≡ codes "=" → ⊥
comma_equals e = false≢true (sym (ap (λ w. is w ",") e))

semicolon_equals : codes ";" ≡ codes "=" → ⊥
semicolon_equals e = false≢true (sym (ap (λ w. is w ";") e))

module _ (S : Type 0) (Next : S → Token → S → Type 0) (behind : S → Token) (det : IsDetermined S Next behind) where
  -- before a comma a declarator can't go on
  pub comma_declared : {i : Bool} {n : Tree} {k m : S} {t : Token} → Reads S Next behind Punctuator (codes ",") k t m → Declared S Next behind i n k
  comma_declared {i} {n} h = record {
    stopped = idle_stops S Next behind det Assignment i n refl (λ x b. refl) h;
    no_value = λ u m r. comma_equals (two_signs S Next behind det refl refl h r).0;
  }

  module _ (i b : Bool) (after : Edge → List Piece) (End : S → Type 0)
      (ends : (o : ℕ) (n : Tree) (k e : S) (P : List Pair) → Runs ways S Next behind o (goes_to Expression true Any (after (edge n))) none k e P → End e → Declared S Next behind i n k) where
    fits : {o : ℕ} (n : Tree) (ps : Parts) {k e : S} {P : List Pair} → Runs ways S Next behind o (behind_declarator (declarator i b) after n ps) ps k e P → End e → Declared S Next behind i n k
    fits {o} n none {k} {e} {P} d fine = ends o n k e P d fine
    fits n (part m ps) d fine = comma_declared (run_token S Next behind d).reads
    fits n (gap ps) d fine = absurd (run_never S Next behind d)

    -- a declarator first, and what stands behind it
    record First (o : ℕ) (n : Tree) (ps : Parts) (s e : S) (P : List Pair) : Type 0 where
      mid : S
      one : List Pair
      more : List Pair
      pairs : P ≡ one ++ more
      spelled : Spells ways S Next behind o (declarator i b) n s mid one
      runs : Runs ways S Next behind o (behind_declarator (declarator i b) after n ps) ps mid e more

    first_of : {o : ℕ} (n : Tree) (ps : Parts) {s e : S} {P : List Pair} → Runs ways S Next behind o (before_declarator (declarator i b) after (part n ps)) (part n ps) s e P → First o n ps s e P
    first_of n none d = let u = run_the_part S Next behind d in record { mid = u.mid; one = u.one; more = u.more; pairs = u.pairs; spelled = u.spelled; runs = retell S Next behind (ap (λ x. goes_to Expression true Any (after x)) (edge_bare n)) u.runs }
    first_of n (part m ps) d = let u = run_the_part S Next behind d in record { mid = u.mid; one = u.one; more = u.more; pairs = u.pairs; spelled = u.spelled; runs = u.runs }
    first_of n (gap ps) d = absurd (run_never S Next behind d)

    first_runs : {o : ℕ} (n : Tree) (ps : Parts) {s k e : S} {A P : List Pair} → Spells ways S Next behind o (declarator i b) n s k A → Runs ways S Next behind o (behind_declarator (declarator i b) after n ps) ps k e P →
        Runs ways S Next behind o (before_declarator (declarator i b) after (part n ps)) (part n ps) s e (A ++ P)
    first_runs n none p d = within p (retell S Next behind (ap (λ x. goes_to Expression true Any (after x)) (sym (edge_bare n))) d)
    first_runs n (part m ps) p d = within p d
    first_runs n (gap ps) p d = absurd (run_never S Next behind d)

    module _ {o : ℕ} {mid : S} where
      -- a declarator is read
      pub declarator_on : {k : S} {n : Tree} {A : List Pair} → FoundWhere S Next behind (Declared S Next behind i) o (declarator i b) mid k n A →
          Sofar S Next behind det (λ ps e. End e) o (before_declarator (declarator i b) after) mid (behind_declarator (declarator i b) after n) k (part n) A
      declarator_on {k} {n} {A} found = record { runs = λ {ps} {e} {R} d. first_runs n ps found.spelled d; leads = λ {o'} {ps} {e} {P} d fine. of o' ps e P d fine; higher = λ ps. omega arith }
        where
          of : (o' : ℕ) (ps : Parts) (e : S) (P : List Pair) → Runs ways S Next behind o' (before_declarator (declarator i b) after ps) ps mid e P → End e → Rest S Next behind det o' (behind_declarator (declarator i b) after n) k (part n) A ps e P
          of o' none e P d fine = absurd (run_never S Next behind d)
          of o' (gap ps) e P d fine = absurd (run_never S Next behind d)
          of o' (part m ps) e P d fine =
              let u = first_of m ps d in
              let same = found.only o' u.mid m u.one u.spelled (fits m ps u.runs fine) in
              record {
                rest = ps;
                more = u.more;
                parts = ap (λ x. part x ps) same.1;
                pairs = u.pairs ∙ ap (λ x. x ++ u.more) same.2;
                runs = retell S Next behind (ap (λ x. behind_declarator (declarator i b) after x ps) same.1) (subst (λ x. Runs ways S Next behind o' (behind_declarator (declarator i b) after m ps) ps x e u.more) same.0 u.runs);
              }

      -- a comma, where nothing ends there
      pub declarator_comma : (n : Tree) {k : S} {t : Token} → Reads S Next behind Punctuator (codes ",") mid t k → ((o' : ℕ) (e : S) (P : List Pair) → Runs ways S Next behind o' (goes_to Expression true Any (after (edge n))) none mid e P → End e → ⊥) →
          Sofar S Next behind det (λ ps e. End e) o (behind_declarator (declarator i b) after n) mid (before_declarator (declarator i b) after) k (λ ps. ps) []
      declarator_comma n {k} comma no_end = record { runs = λ {ps} {e} {R} d. back ps d; leads = λ {o'} {ps} {e} {P} d fine. record { rest = ps; more = P; parts = refl; pairs = refl; runs = of o' ps e P d fine }; higher = λ ps. omega arith }
        where
          back : {e : S} {R : List Pair} (ps : Parts) → Runs ways S Next behind o (before_declarator (declarator i b) after ps) ps k e R → Runs ways S Next behind o (behind_declarator (declarator i b) after n ps) ps mid e R
          back none d = absurd (run_never S Next behind d)
          back (gap ps) d = absurd (run_never S Next behind d)
          back (part m ps) d = step (token comma) (step laid d)

          of : (o' : ℕ) (ps : Parts) (e : S) (P : List Pair) → Runs ways S Next behind o' (behind_declarator (declarator i b) after n ps) ps mid e P → End e → Runs ways S Next behind o' (before_declarator (declarator i b) after ps) ps k e P
          of o' none e P d fine = absurd (no_end o' e P d fine)
          of o' (gap ps) e P d fine = absurd (run_never S Next behind d)
          of o' (part m ps) e P d fine =
              let u = run_token S Next behind d in
              subst (λ x. Runs ways S Next behind o' (before_declarator (declarator i b) after (part m ps)) (part m ps) x e P) (same_sign S Next behind det u.reads comma refl).1 (run_laid S Next behind u.runs)

      -- no comma: the last one was read
      pub declarators_closed : (n : Tree) → ((t : Token) (k : S) → Reads S Next behind Punctuator (codes ",") mid t k → ⊥) →
          Sofar S Next behind det (λ ps e. End e) o (behind_declarator (declarator i b) after n) mid (closed_by (goes_to Expression true Any (after (edge n)))) mid (λ ps. ps) []
      declarators_closed n no_comma = turned S Next behind det there back
        where
          there : (o' : ℕ) (ps : Parts) (e : S) (P : List Pair) → Runs ways S Next behind o' (behind_declarator (declarator i b) after n ps) ps mid e P → Runs ways S Next behind o' (closed_by (goes_to Expression true Any (after (edge n))) ps) ps mid e P
          there o' none e P d = d
          there o' (gap ps) e P d = absurd (run_never S Next behind d)
          there o' (part m ps) e P d = let u = run_token S Next behind d in absurd (no_comma u.sign u.mid u.reads)

          back : (o' : ℕ) (ps : Parts) (e : S) (P : List Pair) → Runs ways S Next behind o' (closed_by (goes_to Expression true Any (after (edge n))) ps) ps mid e P → Runs ways S Next behind o' (behind_declarator (declarator i b) after n ps) ps mid e P
          back o' none e P d = d
          back o' (gap ps) e P d = absurd (run_never S Next behind d)
          back o' (part m ps) e P d = absurd (run_never S Next behind d)

-- a declarator can't go on before the end of its declaration
module _ (S : Type 0) (Next : S → Token → S → Type 0) (behind : S → Token) (det : IsDetermined S Next behind) (alike : IsAlike S Next behind) where
  pub end_declared : {i : Bool} {f : Bool} (o : ℕ) (n : Tree) (k e : S) (P : List Pair) → Runs ways S Next behind o (goes_to Expression true Any (its_end (edge n))) none k e P → Followed S Next behind f e → Declared S Next behind i n k
  end_declared {i} {f} o n k e P d fine =
      let z = run_end S Next behind det d in
      record { stopped = end_stops S Next behind det alike Assignment i n z.ends fine; no_value = λ u m r. unequal z.ends fine u m r }
    where
      equals_follows : (f : Bool) (u : Token) → u.class ≡ Punctuator → u.text ≡ codes "=" → may_follow f u ≡ false
      equals_follows f u c w = ap (λ x. may_follow f (record { class = x; text = u.text; start = 0; stop = 0; after_break = false })) c ∙ ap (λ x. may_follow f (record { class = Punctuator; text = x; start = 0; stop = 0; after_break = false })) w

      unequal : {a c : S} → Step S Next behind (ending (Rattle.language.specs.Pieces.behind (edge n))) a c → Followed S Next behind f c → (u : Token) (m : S) → Reads S Next behind Punctuator (codes "=") a u m → ⊥
      unequal (explicit h) fine u m r = semicolon_equals (two_signs S Next behind det refl refl h r).0
      unequal {a} (implicit nx h) fine u m r =
          let al : IsTrue (allows Goal.RegExp u.class u.text) = subst (λ c. IsTrue (allows Goal.RegExp c u.text)) (sym r.class) (subst (λ w. IsTrue (allows Goal.RegExp Punctuator w)) (sym r.text) refl) in
          let same = (det.same Goal.RegExp a fine.token u fine.mid m fine.read.next r.next fine.read.allowed al).0 in
          false≢true (sym (equals_follows f u r.class r.text) ∙ ap (may_follow f) (sym same) ∙ fine.follows)
