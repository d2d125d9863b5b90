-- Two lists that begin at one place, item by item: where their items end alike, they do.
use Rattle.std.proofs.Common.{◌≡◌, ℕ, ◌≤◌, List, [], ◌∷◌, refl, subst, arith}
use Rattle.std.specs.Prelude.{IsTrue, Option, Some, codes}
use Rattle.tokens.specs.declared.token.TokenClass.TheVariants.{Punctuator}
use Rattle.tokens.specs.declared.token.Goal.TheVariants.{Div}
use Rattle.tokens.specs.Goals.{allows}
use Rattle.tree.specs.declared.kind.Kind.{Kind}
use Rattle.tree.specs.declared.kind.Pair.{Pair}
use Rattle.tree.specs.Tree.{Tree, Parts, none, part, gap, kind_of, height, parts_height}
use Rattle.language.specs.Pieces.{Role, PieceOf, tok}
use Rattle.language.specs.Token.{Token}
use Rattle.language.specs.Promises.{IsDetermined}
use Rattle.language.specs.Grammar.{ways}
use Rattle.language.specs.Derivation.{Reads, Spells, Runs, done, step, token}
use Rattle.language.proofs.list_loops.FirstPieces.{run_token, run_none}
use Rattle.language.proofs.climbing.Conditionals.{same_sign}
use Rattle.language.proofs.table.ForDeclarationWays.{two_signs}
use Rattle.language.proofs.list_loops.FirstItems.{list_pieces, element_pieces, alone, and_comma, ListForm, no_item, last_item, trailing, more_items, list_form, ElementForm, no_element, a_hole, last_element, more_elements, element_form}
use Rattle.language.proofs.list_loops.CommaLists.{Separated, by_comma, by_closing}

module _ (S : Type 0) (Next : S → Token → S → Type 0) (behind : S → Token) where
  -- What runs over a list: the closing sign; a hole and the rest; an item before the closing sign; or an item, a comma and the rest.
  pub data Form (pieces : Parts → List (PieceOf Role)) (r : Kind → Option Role) (w : List ℕ) (o : ℕ) (s e : S) : Parts → Type 0 where
    closed : {t : Token} → Reads S Next behind Punctuator w s t e → Form pieces r w o s e none
    hole : {ps : Parts} {k : S} {c : Token} {P : List Pair} → Reads S Next behind Punctuator (codes ",") s c k → Runs ways S Next behind o (pieces ps) ps k e P → Form pieces r w o s e (gap ps)
    last : {a : Role} {n : Tree} {ps : Parts} {m : S} {t : Token} {P : List Pair} → r (kind_of n) ≡ Some a → Spells ways S Next behind o a n s m P → Reads S Next behind Punctuator w m t e → Form pieces r w o s e (part n ps)
    more : {a : Role} {n : Tree} {ps : Parts} {m k : S} {c : Token} {P Q : List Pair} → r (kind_of n) ≡ Some a → Spells ways S Next behind o a n s m P → Reads S Next behind Punctuator (codes ",") m c k → Runs ways S Next behind o (pieces ps) ps k e Q → Form pieces r w o s e (part n ps)

  -- the closing sign alone
  closes : {o : ℕ} {w : List ℕ} {ps : Parts} {s e : S} {P : List Pair} → Runs ways S Next behind o (tok Punctuator w ∷ []) ps s e P → (t : Token) × Reads S Next behind Punctuator w s t e
  closes {w = w} {s = s} d = let c = run_token S Next behind d in let z = run_none S Next behind c.runs in (c.sign, subst (λ v. Reads S Next behind Punctuator w s c.sign v) z.place c.reads)

  -- a list without holes, and one with holes
  pub list_view : (r : Kind → Option Role) (w : List ℕ) (o : ℕ) (ps : Parts) (s e : S) (P : List Pair) → Runs ways S Next behind o (list_pieces r w ps) ps s e P → Form (list_pieces r w) r w o s e ps
  list_view r w o ps s e P d = of (list_form S Next behind ps d)
    where
      of : {ps : Parts} → ListForm S Next behind o r w s e P ps → Form (list_pieces r w) r w o s e ps
      of (no_item x z) = closed x
      of (last_item h p x) = last h p x
      of (trailing h b p c x) = more h p c (step (token x) done)
      of (more_items h b i p c d z) = more h p c d

  pub element_view : (r : Kind → Option Role) (w : List ℕ) (o : ℕ) (ps : Parts) (s e : S) (P : List Pair) → Runs ways S Next behind o (element_pieces r w ps) ps s e P → Form (element_pieces r w) r w o s e ps
  element_view r w o ps s e P d = of (element_form S Next behind ps d)
    where
      of : {ps : Parts} → ElementForm S Next behind o r w s e P ps → Form (element_pieces r w) r w o s e ps
      of (no_element x z) = closed x
      of (a_hole c d) = hole c d
      of (last_element h p (alone d) z) = last h p (closes d).1
      of (last_element h p (and_comma b c d) z) = more h p c d
      of (more_elements h b i p c d z) = more h p c d

module _ (S : Type 0) (Next : S → Token → S → Type 0) (behind : S → Token) (det : IsDetermined S Next behind) where
  -- Items of two lists with this closing sign: none begins with what may follow one; and those at one place end alike, where the first's is no higher.
  pub record Crossing (h : ℕ) (w : List ℕ) (r q : Kind → Option Role) : Type 0 where
    pub other : codes "," ≡ w → ⊥
    pub allowed : IsTrue (allows Div Punctuator w)
    pub one_begins : {a : Role} {o : ℕ} {n : Tree} {s e : S} {P : List Pair} → r (kind_of n) ≡ Some a → Spells ways S Next behind o a n s e P → Separated S Next behind det w s → ⊥
    pub two_begins : {a : Role} {o : ℕ} {n : Tree} {s e : S} {P : List Pair} → q (kind_of n) ≡ Some a → Spells ways S Next behind o a n s e P → Separated S Next behind det w s → ⊥
    pub ends : {a b : Role} {o o' : ℕ} {n m : Tree} {s e k : S} {P Q : List Pair} → height n ≤ h → r (kind_of n) ≡ Some a → Spells ways S Next behind o a n s e P → Separated S Next behind det w e →
        q (kind_of m) ≡ Some b → Spells ways S Next behind o' b m s k Q → Separated S Next behind det w k → k ≡ e

  module _ {h : ℕ} {w : List ℕ} {r q : Kind → Option Role} (x : Crossing h w r q) (pieces pieces' : Parts → List (PieceOf Role))
      (view : (o : ℕ) (ps : Parts) (s e : S) (P : List Pair) → Runs ways S Next behind o (pieces ps) ps s e P → Form S Next behind pieces r w o s e ps)
      (view' : (o : ℕ) (ps : Parts) (s e : S) (P : List Pair) → Runs ways S Next behind o (pieces' ps) ps s e P → Form S Next behind pieces' q w o s e ps) where
    -- the closing sign and a comma aren't read at one place
    apart : {A : Type 0} {s e k : S} {t c : Token} → Reads S Next behind Punctuator w s t e → Reads S Next behind Punctuator (codes ",") s c k → A
    apart h k = absurd (x.other (two_signs S Next behind det refl x.allowed k h).0)

    -- the rest of both lists
    abbrev Rest : Parts → Type 0
    Rest ps = (o o' : ℕ) (qs : Parts) (s e k : S) (P Q : List Pair) → Runs ways S Next behind o (pieces ps) ps s e P → Runs ways S Next behind o' (pieces' qs) qs s k Q → k ≡ e

    of_none : {o o' : ℕ} {qs : Parts} {s e k : S} → Form S Next behind pieces r w o s e none → Form S Next behind pieces' q w o' s k qs → k ≡ e
    of_none (closed c) (closed c') = (same_sign S Next behind det c' c x.allowed).1
    of_none (closed c) (hole c' d) = apart c c'
    of_none (closed c) (last it p c') = absurd (x.two_begins it p (by_closing c))
    of_none (closed c) (more it p c' d) = absurd (x.two_begins it p (by_closing c))

    of_gap : {o o' : ℕ} {ps qs : Parts} {s e k : S} → Rest ps → Form S Next behind pieces r w o s e (gap ps) → Form S Next behind pieces' q w o' s k qs → k ≡ e
    of_gap further (hole c d) (closed c') = apart c' c
    of_gap {o} {o'} {k = k} further (hole c d) (hole {ps = qs} {P = Q} c' d') = further o o' qs _ _ k _ Q d (subst (λ v. Runs ways S Next behind o' (pieces' qs) qs v k Q) (same_sign S Next behind det c' c refl).1 d')
    of_gap further (hole c d) (last it p c') = absurd (x.two_begins it p (by_comma c))
    of_gap further (hole c d) (more it p c' d') = absurd (x.two_begins it p (by_comma c))

    of_part : {o o' : ℕ} {n : Tree} {ps qs : Parts} {s e k : S} → Rest ps → height n ≤ h → Form S Next behind pieces r w o s e (part n ps) → Form S Next behind pieces' q w o' s k qs → k ≡ e
    of_part further low (last it p c) (closed c') = absurd (x.one_begins it p (by_closing c'))
    of_part further low (last it p c) (hole c' d') = absurd (x.one_begins it p (by_comma c'))
    of_part {k = k} further low (last it p c) (last {t = t} it' p' c') =
        let same = x.ends low it p (by_closing c) it' p' (by_closing c') in
        (same_sign S Next behind det (subst (λ v. Reads S Next behind Punctuator w v t k) same c') c x.allowed).1
    of_part further low (last it p c) (more {k = z} {c = t} it' p' c' d') =
        let same = x.ends low it p (by_closing c) it' p' (by_comma c') in
        apart c (subst (λ v. Reads S Next behind Punctuator (codes ",") v t z) same c')
    of_part further low (more it p c d) (closed c') = absurd (x.one_begins it p (by_closing c'))
    of_part further low (more it p c d) (hole c' d') = absurd (x.one_begins it p (by_comma c'))
    of_part {k = k} further low (more it p c d) (last {t = t} it' p' c') =
        let same = x.ends low it p (by_comma c) it' p' (by_closing c') in
        apart (subst (λ v. Reads S Next behind Punctuator w v t k) same c') c
    of_part {o} {o'} {k = k} further low (more it p c d) (more {ps = qs} {k = z} {c = t} {Q = Q} it' p' c' d') =
        let same = x.ends low it p (by_comma c) it' p' (by_comma c') in
        let there = same_sign S Next behind det (subst (λ v. Reads S Next behind Punctuator (codes ",") v t z) same c') c refl in
        further o o' qs _ _ k _ Q d (subst (λ v. Runs ways S Next behind o' (pieces' qs) qs v k Q) there.1 d')

    -- the lists end alike
    pub lists_end : (ps : Parts) {o o' : ℕ} (qs : Parts) {s e k : S} {P Q : List Pair} → parts_height ps ≤ h → Runs ways S Next behind o (pieces ps) ps s e P → Runs ways S Next behind o' (pieces' qs) qs s k Q → k ≡ e
    lists_end none {o} {o'} qs low d d' = of_none (view o none _ _ _ d) (view' o' qs _ _ _ d')
    lists_end (gap ps) {o} {o'} qs low d d' = of_gap (λ o1 o2 qs s e k P Q d1 d2. lists_end ps qs low d1 d2) (view o (gap ps) _ _ _ d) (view' o' qs _ _ _ d')
    lists_end (part n ps) {o} {o'} qs low d d' =
        let rest : parts_height ps ≤ h = omega arith in
        of_part (λ o1 o2 qs s e k P Q d1 d2. lists_end ps qs rest d1 d2) (omega arith) (view o (part n ps) _ _ _ d) (view' o' qs _ _ _ d')
