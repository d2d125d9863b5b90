-- A derivation is carried along a map of places that keeps what is read, and the token behind each place that reading
-- meets, at the places that pass a test. So more tokens at the end of a list leave a derivation as it is.
use Rattle.std.proofs.Common.{◌≡◌, ℕ, List, ◌++◌, refl, sym, subst}
use Rattle.std.specs.Prelude.{IsTrue}
use Rattle.tokens.specs.declared.token.TokenClass.{TokenClass}
use Rattle.tree.specs.declared.kind.Pair.{Pair}
use Rattle.tree.specs.declared.kind.Kind.TheVariants.{Identifier}
use Rattle.tree.specs.Tree.{Tree, node, plain, none, Parts, start_of, stop_of}
use Rattle.language.specs.Pieces.{Role, PieceOf}
use Rattle.language.specs.Edges.{may_omit_semicolon}
use Rattle.language.specs.Token.{Token}
use Rattle.language.specs.Cursor as Cursor
use Rattle.language.specs.Derivation.{Reads, Spells, direct, grouped, Runs, done, step, opened, closed, within, missing, Step, token, with_mark, without_mark, one_more, no_more, seen, same_line, left_bare, explicit, implicit, laid, Placed, placed, place, reserved_key, reserved_word}

module _ (S : Type 0) (Next : S → Token → S → Type 0) (behind : S → Token) (T : Type 0) (NextT : T → Token → T → Type 0) (behindT : T → Token) (to : S → T) (Good : S → Type 0) where
  pub record Carries : Type 0 where
    pub next : (s : S) (t : Token) (e : S) → Good s → Next s t e → NextT (to s) t (to e)
    pub stays : (s : S) (t : Token) (e : S) → Good s → Next s t e → Good e
    pub before : (s : S) (t : Token) (e : S) → Next s t e → behindT (to s) ≡ behind s
    pub after : (s : S) (t : Token) (e : S) → Next s t e → behindT (to e) ≡ behind e

module _ (Ways : Role → Tree → List (List (PieceOf Role))) (S : Type 0) (Next : S → Token → S → Type 0) (behind : S → Token) (T : Type 0) (NextT : T → Token → T → Type 0) (behindT : T → Token) (to : S → T) (Good : S → Type 0) (c : Carries S Next behind T NextT behindT to Good) where
  abbrev Kept : S → Type 0
  Kept s = behindT (to s) ≡ behind s

  Reads-to : {k : TokenClass} {w : List ℕ} {s e : S} {t : Token} → Good s → Reads S Next behind k w s t e → Reads T NextT behindT k w (to s) t (to e)
  Reads-to g r = record { next = c.next _ _ _ g r.next; class = r.class; text = r.text }

  Reads-good : {k : TokenClass} {w : List ℕ} {s e : S} {t : Token} → Good s → Reads S Next behind k w s t e → Good e
  Reads-good g r = c.stays _ _ _ g r.next

  Step-kept : {q : PieceOf Role} {s e : S} → Step S Next behind q s e → Kept s → Kept e
  Step-kept (token r) h = c.after _ _ _ r.next
  Step-kept (with_mark r) h = c.after _ _ _ r.next
  Step-kept without_mark h = h
  Step-kept (one_more r d) h = Step-kept d (c.after _ _ _ r.next)
  Step-kept no_more h = h
  Step-kept (seen r) h = h
  Step-kept (same_line n k) h = h
  Step-kept (left_bare n k) h = h
  Step-kept (explicit r) h = c.after _ _ _ r.next
  Step-kept (implicit n k) h = h
  Step-kept laid h = h

  Step-good : {q : PieceOf Role} {s e : S} → Good s → Step S Next behind q s e → Good e
  Step-good g (token r) = Reads-good g r
  Step-good g (with_mark r) = Reads-good g r
  Step-good g without_mark = g
  Step-good g (one_more r d) = Step-good (Reads-good g r) d
  Step-good g no_more = g
  Step-good g (seen r) = g
  Step-good g (same_line n k) = g
  Step-good g (left_bare n k) = g
  Step-good g (explicit r) = Reads-good g r
  Step-good g (implicit n k) = g
  Step-good g laid = g

  mutual
    Spells-kept : {o : ℕ} {a : Role} {n : Tree} {s e : S} {P : List Pair} → Spells Ways S Next behind o a n s e P → Kept s → Kept e
    Spells-kept (direct qs h p d) k = Runs-kept d k
    Spells-kept (grouped p d q) k = c.after _ _ _ q.next
    Spells-kept (reserved_key r b p) k = c.after _ _ _ r.next
    Spells-kept (reserved_word r b p) k = c.after _ _ _ r.next

    Runs-kept : {o : ℕ} {qs : List (PieceOf Role)} {ps : Parts} {s e : S} {P : List Pair} → Runs Ways S Next behind o qs ps s e P → Kept s → Kept e
    Runs-kept done h = h
    Runs-kept (step p d) h = Runs-kept d (Step-kept p h)
    Runs-kept (opened r d) h = Runs-kept d (c.after _ _ _ r.next)
    Runs-kept (closed r d) h = Runs-kept d (c.after _ _ _ r.next)
    Runs-kept (within p d) h = Runs-kept d (Spells-kept p h)
    Runs-kept (missing d) h = Runs-kept d h

  mutual
    pub Spells-good : {o : ℕ} {a : Role} {n : Tree} {s e : S} {P : List Pair} → Good s → Spells Ways S Next behind o a n s e P → Good e
    Spells-good g (direct qs h p d) = Runs-good g d
    Spells-good g (grouped p d q) = Reads-good (Spells-good (Reads-good g p) d) q
    Spells-good g (reserved_key r b p) = Reads-good g r
    Spells-good g (reserved_word r b p) = Reads-good g r

    Runs-good : {o : ℕ} {qs : List (PieceOf Role)} {ps : Parts} {s e : S} {P : List Pair} → Good s → Runs Ways S Next behind o qs ps s e P → Good e
    Runs-good g done = g
    Runs-good g (step p d) = Runs-good (Step-good g p) d
    Runs-good g (opened r d) = Runs-good (Reads-good g r) d
    Runs-good g (closed r d) = Runs-good (Reads-good g r) d
    Runs-good g (within p d) = Runs-good (Spells-good g p) d
    Runs-good g (missing d) = Runs-good g d

  pub Step-to : {q : PieceOf Role} {s e : S} → Good s → Step S Next behind q s e → Step T NextT behindT q (to s) (to e)
  Step-to g (token r) = token (Reads-to g r)
  Step-to g (with_mark r) = with_mark (Reads-to g r)
  Step-to g without_mark = without_mark
  Step-to g (one_more r d) = one_more (Reads-to g r) (Step-to (Reads-good g r) d)
  Step-to g no_more = no_more
  Step-to g (seen r) = seen (Reads-to g r)
  Step-to g (same_line n h) = same_line (c.next _ _ _ g n) h
  Step-to g (left_bare n h) = left_bare (c.next _ _ _ g n) h
  Step-to g (explicit r) = explicit (Reads-to g r)
  Step-to g (implicit {x = x} {t = t} n h) = implicit (c.next _ _ _ g n) (subst (λ b. IsTrue (may_omit_semicolon x b t)) (sym (c.before _ _ _ n)) h)
  Step-to g laid = laid

  Placed-to : {a : Role} {n : Tree} {s e : S} → Good s → Kept e → Placed S Next behind a n s e → Placed T NextT behindT a n (to s) (to e)
  Placed-to {a = a} {n = n} g k (placed {t = t} x h) = placed (c.next _ _ _ g x) (subst (λ b. place a t b ≡ (start_of n, stop_of n)) (sym k) h)

  before_placed : {a : Role} {n : Tree} {s e : S} → Placed S Next behind a n s e → Kept s
  before_placed (placed x h) = c.before _ _ _ x

  mutual
    pub Spells-to : {o : ℕ} {a : Role} {n : Tree} {s e : S} {P : List Pair} → Good s → Spells Ways S Next behind o a n s e P → Spells Ways T NextT behindT o a n (to s) (to e) P
    Spells-to g (direct qs h p d) = direct qs h (Placed-to g (Runs-kept d (before_placed p)) p) (Runs-to g d)
    Spells-to g (grouped p d q) = let k = Reads-good g p in grouped (Reads-to g p) (Spells-to k d) (Reads-to (Spells-good k d) q)
    Spells-to g (reserved_key {n = n} {w = w} {t = t} r b p) = reserved_key (Reads-to g r) b (subst (λ (x : Token). n ≡ node Identifier w plain t.start x.stop none) (sym (c.after _ _ _ r.next)) p)
    Spells-to g (reserved_word {n = n} {w = w} {t = t} r b p) = reserved_word (Reads-to g r) b (subst (λ (x : Token). n ≡ node Identifier w plain t.start x.stop none) (sym (c.after _ _ _ r.next)) p)

    pub Runs-to : {o : ℕ} {qs : List (PieceOf Role)} {ps : Parts} {s e : S} {P : List Pair} → Good s → Runs Ways S Next behind o qs ps s e P → Runs Ways T NextT behindT o qs ps (to s) (to e) P
    Runs-to g done = done
    Runs-to g (step p d) = step (Step-to g p) (Runs-to (Step-good g p) d)
    Runs-to g (opened r d) = opened (Reads-to g r) (Runs-to (Reads-good g r) d)
    Runs-to g (closed r d) = closed (Reads-to g r) (Runs-to (Reads-good g r) d)
    Runs-to g (within p d) = within (Spells-to g p) (Runs-to (Spells-good g p) d)
    Runs-to g (missing d) = missing (Runs-to g d)

-- every place passes
abbrev pub Any : List Token → Type 0
Any ts = Unit {0}

-- more tokens at the end
pub more : (zs : List Token) → Carries (List Token) Cursor.Next Cursor.behind (List Token) Cursor.Next Cursor.behind (λ ts. ts ++ zs) Any
more zs = record {
  next = λ s t e g h. next_more h;
  stays = λ s t e g h. tt;
  before = λ s t e h. before_more h;
  after = λ s t e h. after_more h;
}
  where
    next_more : {s e : List Token} {t : Token} → Cursor.Next s t e → Cursor.Next (s ++ zs) t (e ++ zs)
    next_more Cursor.next = Cursor.next

    before_more : {s e : List Token} {t : Token} → Cursor.Next s t e → Cursor.behind (s ++ zs) ≡ Cursor.behind s
    before_more Cursor.next = refl

    after_more : {s e : List Token} {t : Token} → Cursor.Next s t e → Cursor.behind (e ++ zs) ≡ Cursor.behind e
    after_more Cursor.next = refl

pub Spells-more : {Ways : Role → Tree → List (List (PieceOf Role))} {o : ℕ} {a : Role} {n : Tree} {ts us : List Token} {P : List Pair} (zs : List Token) →
    Spells Ways (List Token) Cursor.Next Cursor.behind o a n ts us P → Spells Ways (List Token) Cursor.Next Cursor.behind o a n (ts ++ zs) (us ++ zs) P
Spells-more {Ways} zs d = Spells-to Ways (List Token) Cursor.Next Cursor.behind (List Token) Cursor.Next Cursor.behind (λ ts. ts ++ zs) Any (more zs) tt d
