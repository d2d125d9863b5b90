-- Pieces that are read one behind the other: what is read so far, and what is left. Whatever runs over what is left completes it, and
-- whatever runs over the whole is completed so.
use Rattle.std.proofs.Common.{◌≡◌, ℕ, ◌≤◌, List, [], ◌∷◌, ◌++◌, refl, sym, ap, ◌∙◌, subst, arith, append_assoc}
use Rattle.std.specs.Prelude.{IsTrue}
use Rattle.std.proofs.lemmas.List.{append-nil}
use Rattle.tokens.specs.declared.token.TokenClass.{TokenClass}
use Rattle.tokens.specs.declared.token.Goal.{Goal}
use Rattle.tokens.specs.Goals.{allows}
use Rattle.tree.specs.declared.kind.Pair.{Pair}
use Rattle.tree.specs.Tree.{Tree, Parts, none, part, gap, parts_height}
use Rattle.language.specs.Pieces.{Role, PieceOf, Hint, Ending, tok, ending, lay, sub, absent}
use Rattle.language.specs.Token.{Token}
use Rattle.language.specs.Promises.{IsDetermined}
use Rattle.language.specs.Following.{FoundWhere, FoundPartsWhere, AbsentPartsWhere}
use Rattle.language.specs.Grammar.{ways}
use Rattle.language.specs.Derivation.{Reads, Spells, Runs, done, step, opened, closed, within, missing, Step, token, laid}
use Rattle.language.proofs.table.Begins.{retell}
use Rattle.language.proofs.list_loops.FirstPieces.{run_none, run_part, run_the_part, run_the_gap}

module _ (S : Type 0) (Next : S → Token → S → Type 0) (behind : S → Token) (det : IsDetermined S Next behind) where
  -- what runs over the rest
  pub record Rest (o : ℕ) (left : Parts → List (PieceOf Role)) (mid : S) (built : Parts → Parts) (Q : List Pair) (ps : Parts) (e : S) (P : List Pair) : Type 0 where
    pub rest : Parts
    pub more : List Pair
    pub parts : ps ≡ built rest
    pub pairs : P ≡ Q ++ more
    pub runs : Runs ways S Next behind o (left rest) rest mid e more

  -- From s on all these pieces are to run; up to mid they have, over the parts that `built` puts before the rest, and these are left.
  pub record Sofar (Fine : Parts → S → Type 0) (o : ℕ) (all : Parts → List (PieceOf Role)) (s : S) (left : Parts → List (PieceOf Role)) (mid : S) (built : Parts → Parts) (Q : List Pair) : Type 0 where
    pub runs : {ps : Parts} {e : S} {R : List Pair} → Runs ways S Next behind o (left ps) ps mid e R → Runs ways S Next behind o (all (built ps)) (built ps) s e (Q ++ R)
    pub leads : {o' : ℕ} {ps : Parts} {e : S} {P : List Pair} → Runs ways S Next behind o' (all ps) ps s e P → Fine ps e → Rest o' left mid built Q ps e P
    pub higher : (ps : Parts) → parts_height ps ≤ parts_height (built ps)

  -- nothing so far
  pub at_first : {Fine : Parts → S → Type 0} {o : ℕ} {all : Parts → List (PieceOf Role)} {s : S} → Sofar Fine o all s all s (λ ps. ps) []
  at_first = record { runs = λ d. d; leads = λ {o'} {ps} {e} {P} d fine. record { rest = ps; more = P; parts = refl; pairs = refl; runs = d }; higher = λ ps. omega arith }

  -- one behind the other
  pub and_then : {Fine : Parts → S → Type 0} {o : ℕ} {all left last : Parts → List (PieceOf Role)} {s mid k : S} {f g : Parts → Parts} {Q R : List Pair} → Sofar Fine o all s left mid f Q → Sofar (λ ps e. Fine (f ps) e) o left mid last k g R →
      Sofar Fine o all s last k (λ ps. f (g ps)) (Q ++ R)
  and_then {Fine} {o} {all} {s = s} {f = f} {g = g} {Q = Q} {R = R} a b = record {
    runs = λ {ps} {e} {R = W} d. subst (λ v. Runs ways S Next behind o (all (f (g ps))) (f (g ps)) s e v) (sym (append_assoc Q R W)) (a.runs (b.runs d));
    leads = λ {o'} {ps} {e} {P} d fine.
        let u = a.leads d fine in
        let v = b.leads u.runs (subst (λ w. Fine w e) u.parts fine) in
        record { rest = v.rest; more = v.more; parts = u.parts ∙ ap f v.parts; pairs = u.pairs ∙ ap (λ w. Q ++ w) v.pairs ∙ sym (append_assoc Q R v.more); runs = v.runs };
    higher = λ ps. let u = a.higher (g ps) in let v = b.higher ps in omega arith;
  }

  -- where nothing is left, the parts are found
  pub finished : {Fine : Parts → S → Type 0} {o : ℕ} {all left : Parts → List (PieceOf Role)} {s mid : S} {f : Parts → Parts} {Q : List Pair} → left none ≡ [] → ((o' : ℕ) (ps : Parts) (e : S) (P : List Pair) → Runs ways S Next behind o' (left ps) ps mid e P → Fine (f ps) e → left ps ≡ []) →
      Sofar Fine o all s left mid f Q → FoundPartsWhere S Next behind Fine o all s mid (f none) Q
  finished {Fine} {o} {all} {left} {s} {mid} {f} {Q} none_left ended a = record {
    runs = subst (λ v. Runs ways S Next behind o (all (f none)) (f none) s mid v) (append-nil Q) (a.runs (retell S Next behind (sym none_left) done));
    only = λ o' e' ps' P' d fine.
        let u = a.leads d fine in
        let z = run_none S Next behind (retell S Next behind (ended o' u.rest e' u.more u.runs (subst (λ w. Fine w e') u.parts fine)) u.runs) in
        (sym z.place, u.parts ∙ ap f z.parts, u.pairs ∙ ap (λ w. Q ++ w) z.pairs ∙ append-nil Q);
  }

  -- the parts are found where no piece is left, whatever they are
  pub all_read : {Fine : Parts → S → Type 0} {o : ℕ} {all : Parts → List (PieceOf Role)} {s mid : S} {f : Parts → Parts} {Q : List Pair} → Sofar Fine o all s (λ ps. []) mid f Q → FoundPartsWhere S Next behind Fine o all s mid (f none) Q
  all_read a = finished refl (λ o' ps e P d fine. refl) a

  -- where nothing runs over what is left, nothing runs over the whole
  pub refused : {Fine : Parts → S → Type 0} {o : ℕ} {all left : Parts → List (PieceOf Role)} {s mid : S} {f : Parts → Parts} {Q : List Pair} → Sofar Fine o all s left mid f Q → AbsentPartsWhere S Next behind (λ ps e. Fine (f ps) e) left mid → AbsentPartsWhere S Next behind Fine all s
  refused {Fine} a missed = record { nothing = λ o' e' ps' P' d fine. (let u = a.leads d fine in missed.nothing o' e' u.rest u.more u.runs (subst (λ w. Fine w e') u.parts fine)) }

  -- pieces that are told in another way
  pub retold : {Fine : Parts → S → Type 0} {o : ℕ} {left last : Parts → List (PieceOf Role)} {mid : S} → ((ps : Parts) → left ps ≡ last ps) → Sofar Fine o left mid last mid (λ ps. ps) []
  retold is = record {
    runs = λ {ps} d. retell S Next behind (sym (is ps)) d;
    leads = λ {o'} {ps} {e} {P} d fine. record { rest = ps; more = P; parts = refl; pairs = refl; runs = retell S Next behind (is ps) d };
    higher = λ ps. omega arith;
  }

  -- pieces over which the same runs
  pub turned : {Fine : Parts → S → Type 0} {o : ℕ} {left last : Parts → List (PieceOf Role)} {mid : S} → ((o' : ℕ) (ps : Parts) (e : S) (P : List Pair) → Runs ways S Next behind o' (left ps) ps mid e P → Runs ways S Next behind o' (last ps) ps mid e P) →
      ((o' : ℕ) (ps : Parts) (e : S) (P : List Pair) → Runs ways S Next behind o' (last ps) ps mid e P → Runs ways S Next behind o' (left ps) ps mid e P) → Sofar Fine o left mid last mid (λ ps. ps) []
  turned {o = o} there back = record {
    runs = λ {ps} {e} {R} d. back o ps e R d;
    leads = λ {o'} {ps} {e} {P} d fine. record { rest = ps; more = P; parts = refl; pairs = refl; runs = there o' ps e P d };
    higher = λ ps. omega arith;
  }

  -- pieces that are others only where what runs decides it
  pub retold_where : {Fine : Parts → S → Type 0} {o : ℕ} {left last : Parts → List (PieceOf Role)} {mid : S} → ((o' : ℕ) (ps : Parts) (e : S) (P : List Pair) → Runs ways S Next behind o' (left ps) ps mid e P → Fine ps e → left ps ≡ last ps) →
      ((ps : Parts) (e : S) (P : List Pair) → Runs ways S Next behind o (last ps) ps mid e P → left ps ≡ last ps) → Sofar Fine o left mid last mid (λ ps. ps) []
  retold_where there back = record {
    runs = λ {ps} {e} {R} d. retell S Next behind (sym (back ps e R d)) d;
    leads = λ {o'} {ps} {e} {P} d fine. record { rest = ps; more = P; parts = refl; pairs = refl; runs = retell S Next behind (there o' ps e P d fine) d };
    higher = λ ps. omega arith;
  }

  -- a piece that is no node, and the rest
  pub record AStep (o : ℕ) (q : PieceOf Role) (qs : List (PieceOf Role)) (ps : Parts) (s e : S) (P : List Pair) : Type 0 where
    pub mid : S
    pub one : Step S Next behind q s mid
    pub runs : Runs ways S Next behind o qs ps mid e P

  pub run_step : {o : ℕ} {q : PieceOf Role} {qs : List (PieceOf Role)} {ps : Parts} {s m e : S} {P : List Pair} → Step S Next behind q s m → Runs ways S Next behind o (q ∷ qs) ps s e P → AStep o q qs ps s e P
  run_step p (step {m = k} x d) = record { mid = k; one = x; runs = d }
  run_step p (opened x d) = elim p [ ]
  run_step p (closed x d) = elim p [ ]
  run_step p (within x d) = elim p [ ]
  run_step p (missing d) = elim p [ ]

  -- the end of a statement
  pub record AnEnd (y : Ending) (ps : Parts) (s e : S) (P : List Pair) : Type 0 where
    pub parts : ps ≡ none
    pub pairs : P ≡ []
    pub ends : Step S Next behind (ending y) s e

  -- what runs over it
  pub run_end : {o : ℕ} {y : Ending} {ps : Parts} {s e : S} {P : List Pair} → Runs ways S Next behind o (ending y ∷ []) ps s e P → AnEnd y ps s e P
  run_end {y = y} {s = s} (step p d) = let z = run_none S Next behind d in record { parts = z.parts; pairs = z.pairs; ends = subst (λ v. Step S Next behind (ending y) s v) z.place p }

  -- one that what follows decides
  pub step_on : {Fine : Parts → S → Type 0} {o : ℕ} {q : PieceOf Role} {last : Parts → List (PieceOf Role)} {mid k : S} → Step S Next behind q mid k →
      ((o' : ℕ) (ps : Parts) (k' e : S) (P : List Pair) → Step S Next behind q mid k' → Runs ways S Next behind o' (last ps) ps k' e P → Fine ps e → k' ≡ k) → Sofar Fine o (λ ps. q ∷ last ps) mid last k (λ ps. ps) []
  step_on {last = last} p only = record {
    runs = λ d. step p d;
    leads = λ {o'} {ps} {e} {P} d fine. let u = run_step p d in record { rest = ps; more = P; parts = refl; pairs = refl; runs = subst (λ v. Runs ways S Next behind o' (last ps) ps v e P) (only o' ps u.mid e P u.one u.runs fine) u.runs };
    higher = λ ps. omega arith;
  }

  -- layout
  pub lay_on : {Fine : Parts → S → Type 0} {o : ℕ} {h : Hint} {last : Parts → List (PieceOf Role)} {mid : S} → Sofar Fine o (λ ps. lay h ∷ last ps) mid last mid (λ ps. ps) []
  lay_on = step_on laid (λ o' ps k' e P p d fine. of p)
    where
      of : {h : Hint} {a b : S} → Step S Next behind (lay h) a b → b ≡ a
      of laid = refl

  -- a token that some goal reads
  pub token_on : {Fine : Parts → S → Type 0} {o : ℕ} {c : TokenClass} {w : List ℕ} {last : Parts → List (PieceOf Role)} {mid k : S} {t : Token} (g : Goal) → IsTrue (allows g c w) → Reads S Next behind c w mid t k →
      Sofar Fine o (λ ps. tok c w ∷ last ps) mid last k (λ ps. ps) []
  token_on {c = c} {w = w} {mid = mid} {k = k} {t = t} g al h = step_on (token h) (λ o' ps k' e P p d fine. of p)
    where
      allowed : (u : Token) → u.class ≡ c → u.text ≡ w → IsTrue (allows g u.class u.text)
      allowed u p q = subst (λ x. IsTrue (allows g x u.text)) (sym p) (subst (λ x. IsTrue (allows g c x)) (sym q) al)

      of : {b : S} → Step S Next behind (tok c w) mid b → b ≡ k
      of {b} (token {t = u} r) = (det.same g mid u t b k r.next h.next (allowed u r.class r.text) (allowed t h.class h.text)).1

  -- what follows a part, once it is fine, is fine for the part
  abbrev pub Fits : (Fine : Parts → S → Type 0) (FineNode : Tree → S → Type 0) (a : Role) (after : Parts → List (PieceOf Role)) (mid : S) → Type 0
  Fits Fine FineNode a after mid =
      (o : ℕ) (m : Tree) (ps : Parts) (k e : S) (A P : List Pair) → Spells ways S Next behind o a m mid k A → Runs ways S Next behind o (after (part m ps)) ps k e P → Fine (part m ps) e → FineNode m k

  -- a part that is found where what follows is fine
  pub part_on : {Fine : Parts → S → Type 0} {FineNode : Tree → S → Type 0} {o : ℕ} {a : Role} {after : Parts → List (PieceOf Role)} {mid k : S} {n : Tree} {A : List Pair} → FoundWhere S Next behind FineNode o a mid k n A → Fits Fine FineNode a after mid →
      Sofar Fine o (λ ps. sub a ∷ after ps) mid (λ ps. after (part n ps)) k (part n) A
  part_on {Fine} {o = o} {a = a} {after = after} {n = n} {A = A} found fits = record {
    runs = λ d. within found.spelled d;
    leads = λ {o'} {ps} {e} {P} d fine.
        let u = run_part S Next behind d in
        let d' = retell S Next behind (ap after u.parts) u.runs in
        let same = found.only o' u.mid u.item u.one u.spelled (fits o' u.item u.rest u.mid e u.one u.more u.spelled d' (subst (λ w. Fine w e) u.parts fine)) in
        record {
          rest = u.rest;
          more = u.more;
          parts = u.parts ∙ ap (λ w. part w u.rest) same.1;
          pairs = u.pairs ∙ ap (λ w. w ++ u.more) same.2;
          runs = retell S Next behind (ap (λ w. after (part w u.rest)) same.1) (subst (λ w. Runs ways S Next behind o' (after (part u.item u.rest)) u.rest w e u.more) same.0 d');
        };
    higher = λ ps. omega arith;
  }

  -- a part whose own pieces decide what follows it: these are the pieces where it is next
  pub part_is : {Fine : Parts → S → Type 0} {FineNode : Tree → S → Type 0} {o : ℕ} {a : Role} {left : Parts → List (PieceOf Role)} {last : Tree → Parts → List (PieceOf Role)} {mid k : S} {n : Tree} {A : List Pair} →
      ((m : Tree) (ps : Parts) → left (part m ps) ≡ sub a ∷ last m ps) → ((o' : ℕ) (e : S) (P : List Pair) → Runs ways S Next behind o' (left none) none mid e P → Fine none e → ⊥) →
      ((o' : ℕ) (ps : Parts) (e : S) (P : List Pair) → Runs ways S Next behind o' (left (gap ps)) (gap ps) mid e P → Fine (gap ps) e → ⊥) → FoundWhere S Next behind FineNode o a mid k n A →
      ((o' : ℕ) (m : Tree) (ps : Parts) (k' e : S) (A' P : List Pair) → Spells ways S Next behind o' a m mid k' A' → Runs ways S Next behind o' (last m ps) ps k' e P → Fine (part m ps) e → FineNode m k') →
      Sofar Fine o left mid (last n) k (part n) A
  part_is {Fine} {o = o} {a = a} {left = left} {last = last} {mid = mid} {k = k} {n = n} {A = A} is no_none no_gap found fits = record {
    runs = λ {ps} d. retell S Next behind (sym (is n ps)) (within found.spelled d);
    leads = λ {o'} {ps} {e} {P} d fine. of o' ps e P d fine;
    higher = λ ps. omega arith;
  }
    where
      of : (o' : ℕ) (ps : Parts) (e : S) (P : List Pair) → Runs ways S Next behind o' (left ps) ps mid e P → Fine ps e → Rest o' (last n) k (part n) A ps e P
      of o' none e P d fine = absurd (no_none o' e P d fine)
      of o' (gap ps) e P d fine = absurd (no_gap o' ps e P d fine)
      of o' (part m ps) e P d fine =
          let u = run_the_part S Next behind (retell S Next behind (is m ps) d) in
          let same = found.only o' u.mid m u.one u.spelled (fits o' m ps u.mid e u.one u.more u.spelled u.runs fine) in
          record {
            rest = ps;
            more = u.more;
            parts = ap (λ w. part w ps) same.1;
            pairs = u.pairs ∙ ap (λ w. w ++ u.more) same.2;
            runs = retell S Next behind (ap (λ w. last w ps) same.1) (subst (λ w. Runs ways S Next behind o' (last m ps) ps w e u.more) same.0 u.runs);
          }

  -- a part that is missing, and the rest
  pub gap_is : {Fine : Parts → S → Type 0} {o : ℕ} {left last : Parts → List (PieceOf Role)} {mid : S} → ((ps : Parts) → left (gap ps) ≡ absent ∷ last ps) →
      ((o' : ℕ) (e : S) (P : List Pair) → Runs ways S Next behind o' (left none) none mid e P → Fine none e → ⊥) →
      ((o' : ℕ) (m : Tree) (ps : Parts) (e : S) (P : List Pair) → Runs ways S Next behind o' (left (part m ps)) (part m ps) mid e P → Fine (part m ps) e → ⊥) → Sofar Fine o left mid last mid gap []
  gap_is {Fine} {o} {left} {last} {mid} is no_none no_part = record {
    runs = λ {ps} d. retell S Next behind (sym (is ps)) (missing d);
    leads = λ {o'} {ps} {e} {P} d fine. of o' ps e P d fine;
    higher = λ ps. omega arith;
  }
    where
      of : (o' : ℕ) (ps : Parts) (e : S) (P : List Pair) → Runs ways S Next behind o' (left ps) ps mid e P → Fine ps e → Rest o' last mid gap [] ps e P
      of o' none e P d fine = absurd (no_none o' e P d fine)
      of o' (part m ps) e P d fine = absurd (no_part o' m ps e P d fine)
      of o' (gap ps) e P d fine = record { rest = ps; more = P; parts = refl; pairs = refl; runs = run_the_gap S Next behind (retell S Next behind (is ps) d) }
