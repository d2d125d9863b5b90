-- Lists whose items are the only ones are the only ones: with holes or without, by their first item.
use Rattle.std.proofs.Common.{◌≡◌, ℕ, ◌≤◌, Bool, List, [], ◌∷◌, ◌++◌, refl, sym, ap, ◌∙◌, subst, arith}
use Rattle.std.specs.Prelude.{IsTrue, Option, Some, codes}
use Rattle.std.proofs.lemmas.List.{append-nil}
use Rattle.tokens.specs.declared.token.TokenClass.TheVariants.{Punctuator}
use Rattle.tokens.specs.declared.token.Goal.TheVariants.{Div}
use Rattle.tokens.specs.Goals.{allows}
use Rattle.tree.specs.declared.kind.Kind.{Kind}
use Rattle.tree.specs.declared.kind.Pair.{Pair}
use Rattle.tree.specs.Tree.{Tree, Parts, none, part, gap, kind_of, height, parts_height}
use Rattle.language.specs.Pieces.{Role, PieceOf, tok}
use Rattle.language.specs.Token.{Token}
use Rattle.language.specs.Covers.{FoundItem}
use Rattle.language.specs.Promises.{IsDetermined}
use Rattle.language.specs.Grammar.{ways}
use Rattle.language.specs.Derivation.{Reads, Spells, Runs}
use Rattle.language.proofs.list_loops.FirstPieces.{run_none, run_token}
use Rattle.language.proofs.climbing.Conditionals.{same_sign}
use Rattle.language.proofs.table.ForDeclarationWays.{two_signs}
use Rattle.language.proofs.list_loops.FirstItems.{list_pieces, element_pieces, ListForm, no_item, last_item, trailing, more_items, list_form, ElementForm, no_element, a_hole, last_element, more_elements, element_form, BehindLast, alone, and_comma, list_runs}
use Rattle.language.proofs.list_loops.CommaLists.{Separated, by_comma, by_closing}
use Rattle.unambiguity_laws.proofs.Unique.{UniqueParts}

module _ (S : Type 0) (Next : S → Token → S → Type 0) (behind : S → Token) where
  -- behind an item: the closing sign, or a comma and what goes on
  pub data BehindItem (pieces : Parts → List (PieceOf Role)) (w : List ℕ) (o : ℕ) (ps : Parts) (s e : S) (P : List Pair) : Type 0 where
    closed : {t : Token} → Reads S Next behind Punctuator w s t e → ps ≡ none → P ≡ [] → BehindItem pieces w o ps s e P
    goes_on : {t : Token} {k : S} → Reads S Next behind Punctuator (codes ",") s t k → Runs ways S Next behind o (pieces ps) ps k e P → BehindItem pieces w o ps s e P

  -- a list by its first item: the closing sign, a hole with its comma, or an item
  pub data ListView (r : Kind → Option Role) (pieces : Parts → List (PieceOf Role)) (w : List ℕ) (o : ℕ) (s e : S) (P : List Pair) : Parts → Type 0 where
    empty : {t : Token} → Reads S Next behind Punctuator w s t e → P ≡ [] → ListView r pieces w o s e P none
    hole : {ps : Parts} {t : Token} {k : S} → Reads S Next behind Punctuator (codes ",") s t k → Runs ways S Next behind o (pieces ps) ps k e P → ListView r pieces w o s e P (gap ps)
    item : {a : Role} {n : Tree} {ps : Parts} {m : S} {Q R : List Pair} → r (kind_of n) ≡ Some a → Spells ways S Next behind o a n s m Q → BehindItem pieces w o ps m e R → P ≡ Q ++ R → ListView r pieces w o s e P (part n ps)

  -- pieces of lists that are seen so
  pub record IsListed (r : Kind → Option Role) (pieces : Parts → List (PieceOf Role)) (w : List ℕ) : Type 0 where
    pub view : {o : ℕ} {s e : S} {P : List Pair} (ps : Parts) → Runs ways S Next behind o (pieces ps) ps s e P → ListView r pieces w o s e P ps

  -- lists without holes
  pub listed : (r : Kind → Option Role) (w : List ℕ) → IsListed r (list_pieces r w) w
  listed r w = record { view = λ {o} {s} {e} {P} ps d. of (list_form S Next behind ps d) }
    where
      of : {o : ℕ} {s e : S} {P : List Pair} {ps : Parts} → ListForm S Next behind o r w s e P ps → ListView r (list_pieces r w) w o s e P ps
      of (no_item h z) = empty h z
      of {P = P} (last_item h d c) = item h d (closed c refl refl) (sym (append-nil P))
      of {P = P} (trailing h b d c t) = item h d (goes_on c (list_runs S Next behind {r = r} (no_item t refl))) (sym (append-nil P))
      of (more_items h b j d c rs z) = item h d (goes_on c rs) z

  -- lists with holes
  pub with_holes : (r : Kind → Option Role) (w : List ℕ) → IsListed r (element_pieces r w) w
  with_holes r w = record { view = λ {o} {s} {e} {P} ps d. of (element_form S Next behind ps d) }
    where
      last : {o : ℕ} {s e : S} {P : List Pair} {b : Bool} → BehindLast S Next behind o b (tok Punctuator w ∷ []) none s e P → BehindItem (element_pieces r w) w o none s e P
      last {s = s} (alone d) = let c = run_token S Next behind d in let z = run_none S Next behind c.runs in closed (subst (λ v. Reads S Next behind Punctuator w s c.sign v) z.place c.reads) refl z.pairs
      last (and_comma b c d) = goes_on c d

      of : {o : ℕ} {s e : S} {P : List Pair} {ps : Parts} → ElementForm S Next behind o r w s e P ps → ListView r (element_pieces r w) w o s e P ps
      of (no_element h z) = empty h z
      of (a_hole c d) = hole c d
      of (last_element h d b z) = item h d (last b) z
      of (more_elements h b j d c rs z) = item h d (goes_on c rs) z

module _ (S : Type 0) (Next : S → Token → S → Type 0) (behind : S → Token) (det : IsDetermined S Next behind) where
  -- items of at most this height are the only ones before a comma or the closing sign, and none begins with either
  pub record Items (r : Kind → Option Role) (w : List ℕ) (h : ℕ) : Type 0 where
    pub found : {a : Role} {o : ℕ} {n : Tree} {s e : S} {P : List Pair} → height n ≤ h → r (kind_of n) ≡ Some a → Spells ways S Next behind o a n s e P → Separated S Next behind det w e → FoundItem S Next behind (Separated S Next behind det w) r o s e n P
    pub begins : {a : Role} {o : ℕ} {n : Tree} {s e : S} {P : List Pair} → r (kind_of n) ≡ Some a → Spells ways S Next behind o a n s e P → Separated S Next behind det w s → ⊥
    pub other : codes "," ≡ w → ⊥
    pub allowed : IsTrue (allows Div Punctuator w)

  module _ {r : Kind → Option Role} {pieces : Parts → List (PieceOf Role)} {w : List ℕ} {h : ℕ} (listed : IsListed S Next behind r pieces w) (items : Items r w h) where
    -- a comma and the closing sign aren't read at one place
    two : {s e k : S} {t v : Token} → Reads S Next behind Punctuator (codes ",") s t e → Reads S Next behind Punctuator w s v k → ⊥
    two a b = items.other (two_signs S Next behind det refl items.allowed a b).0

    ended : {o : ℕ} {ps : Parts} {s e : S} {P : List Pair} → BehindItem S Next behind pieces w o ps s e P → Separated S Next behind det w s
    ended (closed h p z) = by_closing h
    ended (goes_on c d) = by_comma c

    -- what runs from here to there over these parts, all that runs does
    abbrev Only : Parts → Type 0
    Only ps = (o o' : ℕ) (qs : Parts) (s e k : S) (P Q : List Pair) → parts_height ps ≤ h → Runs ways S Next behind o (pieces ps) ps s e P → Runs ways S Next behind o' (pieces qs) qs s k Q → (k ≡ e) × (qs ≡ ps) × (Q ≡ P)

    behind_same : {o o' : ℕ} {ps qs : Parts} {s e k : S} {P Q : List Pair} → Only ps → parts_height ps ≤ h → BehindItem S Next behind pieces w o ps s e P → BehindItem S Next behind pieces w o' qs s k Q → (k ≡ e) × (qs ≡ ps) × (Q ≡ P)
    behind_same further low (closed c p z) (closed c' p' z') = ((same_sign S Next behind det c' c items.allowed).1, p' ∙ sym p, z' ∙ sym z)
    behind_same further low (closed c p z) (goes_on c' d') = absurd (two c' c)
    behind_same further low (goes_on c d) (closed c' p' z') = absurd (two c c')
    behind_same {o} {o'} {ps} {qs} {s} {e} {k} {P} {Q} further low (goes_on {k = x} c d) (goes_on c' d') = further o o' qs x e k P Q low d (subst (λ v. Runs ways S Next behind o' (pieces qs) qs v k Q) (same_sign S Next behind det c' c refl).1 d')

    same_none : {o o' : ℕ} {qs : Parts} {s e k : S} {P Q : List Pair} → ListView S Next behind r pieces w o s e P none → ListView S Next behind r pieces w o' s k Q qs → (k ≡ e) × (qs ≡ none) × (Q ≡ P)
    same_none (empty c z) (empty c' z') = ((same_sign S Next behind det c' c items.allowed).1, refl, z' ∙ sym z)
    same_none (empty c z) (hole c' d') = absurd (two c' c)
    same_none (empty c z) (item i d' b' z') = absurd (items.begins i d' (by_closing c))

    same_gap : {o o' : ℕ} {ps qs : Parts} {s e k : S} {P Q : List Pair} → Only ps → parts_height ps ≤ h → ListView S Next behind r pieces w o s e P (gap ps) → ListView S Next behind r pieces w o' s k Q qs → (k ≡ e) × (qs ≡ gap ps) × (Q ≡ P)
    same_gap further low (hole c d) (empty c' z') = absurd (two c c')
    same_gap {o} {o'} {ps} {s = s} {e} {k} {P} {Q} further low (hole {k = x} c d) (hole {ps = qs} c' d') =
        let u = further o o' qs x e k P Q low d (subst (λ v. Runs ways S Next behind o' (pieces qs) qs v k Q) (same_sign S Next behind det c' c refl).1 d') in
        (u.0, ap gap u.1, u.2)
    same_gap further low (hole c d) (item i d' b' z') = absurd (items.begins i d' (by_comma c))

    same_item : {o o' : ℕ} {n : Tree} {ps qs : Parts} {s e k : S} {P Q : List Pair} → Only ps → height n ≤ h → parts_height ps ≤ h → ListView S Next behind r pieces w o s e P (part n ps) → ListView S Next behind r pieces w o' s k Q qs → (k ≡ e) × (qs ≡ part n ps) × (Q ≡ P)
    same_item further first low (item i d b z) (empty c' z') = absurd (items.begins i d (by_closing c'))
    same_item further first low (item i d b z) (hole c' d') = absurd (items.begins i d (by_comma c'))
    same_item {o} {o'} {n} {ps} {s = s} {e} {k} {P} {Q} further first low (item {m = m} {Q = A} {R = B} i d b z) (item {a = a} {n = n'} {ps = qs} {m = m'} {Q = A'} {R = B'} i' d' b' z') =
        let same = (items.found first i d (ended b)).only o' a m' n' A' i' d' (ended b') in
        let more = behind_same further low b (subst (λ v. BehindItem S Next behind pieces w o' qs v k B') same.0 b') in
        (more.0, (λ j. part (same.1 j) (more.1 j)), z' ∙ (λ j. same.2 j ++ more.2 j) ∙ sym z)

    same_list : (ps : Parts) → Only ps
    same_list none o o' qs s e k P Q low d d' = same_none (listed.view none d) (listed.view qs d')
    same_list (gap ps) o o' qs s e k P Q low d d' = same_gap (same_list ps) low (listed.view (gap ps) d) (listed.view qs d')
    same_list (part n ps) o o' qs s e k P Q low d d' = same_item (same_list ps) (omega arith) (omega arith) (listed.view (part n ps) d) (listed.view qs d')

    -- such a list is the only one
    pub list_unique : UniqueParts S Next behind det h pieces
    list_unique = record { gives = λ {o} {s} {e} {ps} {P} low d. record { runs = d; only = λ o' k qs Q d'. same_list ps o o' qs s e k P Q low d d' } }

  -- so it is behind its opening sign
  pub behind_opening : {pieces : Parts → List (PieceOf Role)} {v : List ℕ} {h : ℕ} → IsTrue (allows Div Punctuator v) → UniqueParts S Next behind det h pieces → UniqueParts S Next behind det h (λ ps. tok Punctuator v ∷ pieces ps)
  behind_opening {pieces} {v} {h} al inner = record {
    gives = λ {o} {s} {e} {ps} {P} low d.
        let u = run_token S Next behind d in
        let f = inner.gives low u.runs in
        record {
          runs = d;
          only = λ o' k qs Q d'. let w = run_token S Next behind d' in f.only o' k qs Q (subst (λ c. Runs ways S Next behind o' (pieces qs) qs c k Q) (same_sign S Next behind det w.reads u.reads al).1 w.runs);
        };
  }
