-- A list of declarators is the only one at its place, and so is a declaration.
use Rattle.std.proofs.Common.{◌≡◌, ℕ, suc, ◌≤◌, Bool, true, false, List, refl, sym, ap, ◌∙◌, subst, arith}
use Rattle.std.specs.Prelude.{IsTrue, codes}
use Rattle.std.proofs.lemmas.Bool.{false≢true}
use Rattle.tokens.specs.declared.token.TokenClass.TheVariants.{Punctuator}
use Rattle.tokens.specs.declared.token.Goal.{Goal}
use Rattle.tokens.specs.Goals.{allows}
use Rattle.tree.specs.declared.kind.Pair.{Pair}
use Rattle.tree.specs.Tree.{Tree, Parts, none, part, gap, height, parts_height}
use Rattle.language.specs.declared.Rank.TheVariants.{Expression}
use Rattle.language.specs.declared.Start.TheVariants.{Any}
use Rattle.language.specs.declared.Edge.{Edge}
use Rattle.language.specs.Vocabulary.{is}
use Rattle.language.specs.StatementStart.{a_variable}
use Rattle.language.specs.Edges.{edge}
use Rattle.language.specs.Pieces.{declarator, Piece, ending}
use Rattle.language.specs.Token.{Token}
use Rattle.language.specs.Promises.{IsDetermined}
use Rattle.language.specs.Following.{IsAlike, Followed, Finished, Declared, may_follow, FoundPartsWhere}
use Rattle.language.specs.Grammar.{ways}
use Rattle.language.specs.Derivation.{Reads, Runs, Step, explicit, implicit, Placed}
use Rattle.language.proofs.table.Begins.{goes_to, retell}
use Rattle.language.proofs.list_loops.FirstPieces.{run_token, run_laid, run_never, run_the_part}
use Rattle.language.proofs.table.BareEdges.{edge_bare}
use Rattle.language.proofs.table.ForDeclarationWays.{two_signs}
use Rattle.language.proofs.list_loops.StatementLists.{closed_by}
use Rattle.language.proofs.statements.OptionalParts.{and_found}
use Rattle.language.proofs.table.OwnTokenWays.{own_sole}
use Rattle.language.proofs.list_loops.PiecesSoFar.{and_then, lay_on, run_end}
use Rattle.language.proofs.table.SoleWays.{sole_found}
use Rattle.language.proofs.list_loops.DeclaratorLists.{before_declarator, its_end, comma_declared, declarator_on, declarator_comma, declarators_closed, end_declared}
use Rattle.unambiguity_laws.proofs.Unique.{Unique, StatementStep}
use Rattle.unambiguity_laws.proofs.statements.StatementFacts.{found_as, parts_as, ends_once}

pub comma_semicolon : codes "," ≡ codes ";" → ⊥
comma_semicolon e = false≢true (ap (λ w. is w ";") e)

module _ (S : Type 0) (Next : S → Token → S → Type 0) (behind : S → Token) (det : IsDetermined S Next behind) (alike : IsAlike S Next behind) {h : ℕ} (u : Unique S Next behind det h) where
  -- over any end behind which no comma stands, and that is one
  module _ (i b : Bool) (after : Edge → List Piece) (End : S → Type 0)
      (ends : (o : ℕ) (n : Tree) (k e : S) (P : List Pair) → Runs ways S Next behind o (goes_to Expression true Any (after (edge n))) none k e P → End e → Declared S Next behind i n k)
      (apart : (o : ℕ) (n : Tree) (k e m : S) (t : Token) (P : List Pair) → Runs ways S Next behind o (goes_to Expression true Any (after (edge n))) none k e P → End e → Reads S Next behind Punctuator (codes ",") k t m → ⊥)
      (once : (o o' : ℕ) (n : Tree) (k e e' : S) (P P' : List Pair) → Runs ways S Next behind o (goes_to Expression true Any (after (edge n))) none k e P → End e → Runs ways S Next behind o' (goes_to Expression true Any (after (edge n))) none k e' P' → End e' → (e' ≡ e) × (P' ≡ P)) where
    pub declarators_unique : (ps : Parts) → parts_height ps ≤ h → {o : ℕ} {s e : S} {P : List Pair} → Runs ways S Next behind o (before_declarator (declarator i b) after ps) ps s e P → End e → FoundPartsWhere S Next behind (λ ps e. End e) o (before_declarator (declarator i b) after) s e ps P
    declarators_unique none low d fine = absurd (run_never S Next behind d)
    declarators_unique (gap ps) low d fine = absurd (run_never S Next behind d)
    declarators_unique (part n (gap ps)) low d fine = absurd (run_never S Next behind d)
    declarators_unique (part n none) low {o} {s} {e} {P} d fine =
        let v = run_the_part S Next behind d in
        let r : Runs ways S Next behind o (goes_to Expression true Any (after (edge n))) none v.mid e v.more = retell S Next behind (ap (λ x. goes_to Expression true Any (after x)) (edge_bare n)) v.runs in
        let found = u.declarator (omega arith) v.spelled (ends o n v.mid e v.more r fine) in
        let sofar = and_then S Next behind det (declarator_on S Next behind det i b after End ends found) (declarators_closed S Next behind det i b after End ends n (λ t k c. apart o n v.mid e k t v.more r fine c)) in
        parts_as S Next behind det (and_found S Next behind det sofar (last v.mid v.more r)) d fine
      where
        last : (k : S) (R : List Pair) → Runs ways S Next behind o (goes_to Expression true Any (after (edge n))) none k e R → FoundPartsWhere S Next behind (λ ps e. End e) o (closed_by (goes_to Expression true Any (after (edge n)))) k e none R
        last k R r = record { runs = r; only = λ o' e' ps' P' d' fine'. of o' e' ps' P' d' fine' }
          where
            of : (o' : ℕ) (e' : S) (ps' : Parts) (P' : List Pair) → Runs ways S Next behind o' (closed_by (goes_to Expression true Any (after (edge n))) ps') ps' k e' P' → End e' → (e' ≡ e) × (ps' ≡ none) × (P' ≡ R)
            of o' e' none P' d' fine' = let q = once o o' n k e e' R P' r fine d' fine' in (q.0, refl, q.1)
            of o' e' (part m ps) P' d' fine' = absurd (run_never S Next behind d')
            of o' e' (gap ps) P' d' fine' = absurd (run_never S Next behind d')
    declarators_unique (part n (part m ps)) low {o} {s} {e} {P} d fine =
        let v = run_the_part S Next behind d in
        let c = run_token S Next behind v.runs in
        let found = u.declarator (omega arith) v.spelled (comma_declared S Next behind det c.reads) in
        let sofar = and_then S Next behind det (declarator_on S Next behind det i b after End ends found) (declarator_comma S Next behind det i b after End ends n c.reads (λ o' e' P' r fine'. apart o' n v.mid e' c.mid c.sign P' r fine' c.reads)) in
        parts_as S Next behind det (and_found S Next behind det sofar (declarators_unique (part m ps) (omega arith) (run_laid S Next behind c.runs) fine)) d fine

  -- no comma stands where a declaration ends
  comma_apart : {f : Bool} {x : Edge} {a c m : S} {t : Token} → Step S Next behind (ending (Rattle.language.specs.Pieces.behind x)) a c → Followed S Next behind f c → Reads S Next behind Punctuator (codes ",") a t m → ⊥
  comma_apart (explicit k) fine r = comma_semicolon (two_signs S Next behind det refl refl r k).0
  comma_apart {f} {x} {a} {m = m} {t = t} (implicit nx k) fine r =
      let al : IsTrue (allows Goal.RegExp t.class t.text) = subst (λ c. IsTrue (allows Goal.RegExp c t.text)) (sym r.class) (subst (λ w. IsTrue (allows Goal.RegExp Punctuator w)) (sym r.text) refl) in
      let same = (det.same Goal.RegExp a fine.token t fine.mid m fine.read.next r.next fine.read.allowed al).0 in
      false≢true (sym (comma_follows f t r.class r.text) ∙ ap (may_follow f) (sym same) ∙ fine.follows)
    where
      comma_follows : (f : Bool) (t : Token) → t.class ≡ Punctuator → t.text ≡ codes "," → may_follow f t ≡ false
      comma_follows f t c w = ap (λ x. may_follow f (record { class = x; text = t.text; start = 0; stop = 0; after_break = false })) c ∙ ap (λ x. may_follow f (record { class = Punctuator; text = x; start = 0; stop = 0; after_break = false })) w

  -- a declaration
  pub variable_statement : StatementStep S Next behind det h a_variable
  variable_statement = record {
    gives = λ {a} {p} {d} {r} {o} {n} {s} {m} {e} {P} {t} stands low sp fine read begun.
        let sole = own_sole S Next behind det {Fine = Finished S Next behind} stands read a_variable begun refl (λ z. cc) (λ o n e P w. elim w [ ]) in
        let told = sole.told sp fine in
        let high : height n ≡ suc (parts_height told.parts) = ap height told.tree in
        let fine' : Followed S Next behind false e = subst (λ v. Finished S Next behind v e) told.tree fine in
        let list = declarators_unique true true its_end (Followed S Next behind false) (λ o' n' k e' P' run f. end_declared S Next behind det alike o' n' k e' P' run f)
        (λ o' n' k e' m' t' P' run f c. comma_apart (run_end S Next behind det run).ends f c)
        (λ o1 o2 n' k e1 e2 P1 P2 r1 f1 r2 f2. (let a1 = run_end S Next behind det r1 in let a2 = run_end S Next behind det r2 in (ends_once S Next behind det a1.ends a2.ends, a2.pairs ∙ sym a1.pairs)))
        told.parts (omega arith) (run_laid S Next behind told.runs) fine' in
        found_as S Next behind det (sole_found S Next behind det sole {FineParts = λ ps e. Followed S Next behind false e} (λ st en ps e f. f) (and_found S Next behind det (lay_on S Next behind det) list) (subst (λ v. Placed S Next behind a v s e) told.tree told.placed)) sp fine;
  }
