-- Each node that has a row is spelled directly somewhere in the text.
use Rattle.std.proofs.Common.{◌≡◌, ℕ, zero, suc, Bool, true, false, List, [], ◌∷◌, Some, refl, sym, subst}
use Rattle.std.specs.Prelude.{slice_get}
use Rattle.std.specs.Str.{IsUtf8}
use Rattle.std.proofs.lemmas.Bool.{and_parts}
use Rattle.source_text.specs.Source.{IsPlace}
use Rattle.tokens.specs.Reading.{any_goal}
use Rattle.tree.specs.declared.kind.Pair.{Pair}
use Rattle.tree.specs.declared.kind.Kind.TheVariants.{Identifier}
use Rattle.tree.specs.Tree.{Tree, node, plain, none, Parts, parts_of}
use Rattle.language.specs.declared.Rank.{Rank}
use Rattle.language.specs.declared.Rank.TheVariants.{Expression}
use Rattle.language.specs.declared.Start.{Start}
use Rattle.language.specs.declared.Start.TheVariants.{Any}
use Rattle.language.specs.Pieces.{Role, expr, word, key, script, PieceOf}
use Rattle.language.specs.Token.{Token}
use Rattle.language.specs.declared.Language.{Language}
use Rattle.language.specs.Languages.{Seen, seen_next, seen_in, DerivesIn}
use Rattle.language.specs.Places.{NextIn}
use Rattle.language.proofs.texts.StartPlaces.{starting_place}
use Rattle.language.specs.Grammar.{ways}
use Rattle.language.specs.RowPositions.{roles, first_roles, widest}
use Rattle.language.specs.Derivation.{Among, Placed, Spells, direct, grouped, reserved_key, reserved_word, Runs, done, step, opened, closed, within, missing, Step, token, with_mark, without_mark, one_more, no_more, seen, same_line, left_bare, explicit, implicit, laid}
use Rattle.language.specs.Claims.{row_nodes, parts_row_nodes}
use Rattle.language.proofs.lower_bound.LowerBound.{Step-roles}
use Rattle.language.proofs.table.Alike.{Like, same, at_expressions, AllLike, next}
use Rattle.language.proofs.table.TokenWords.{read_place}
use Rattle.language.proofs.texts.Frame.{Carries, Spells-good}
use Rattle.spellings.proofs.Slots.{is_wide, all_pass, parts_wide}
use Rattle.cost_table.proofs.RowNodes.{wide_itself, wide_start, split_at}
use Rattle.cost_table.proofs.Tighter.{parts_alike}

-- directly, at an expression's position, from a place that passes a test
module _ (S : Type 0) (Next : S → Token → S → Type 0) (behind : S → Token) (Ok : S → Type 0) where
  pub record SpelledSomewhere (n : Tree) : Type 0 where
    pub most : ℕ
    pub rank : Rank
    pub has_in : Bool
    pub start : Start
    pub from : S
    pub to : S
    pub pairs : List Pair
    pub way : List (PieceOf Role)
    pub among : Among way (ways (expr rank has_in start) n)
    pub stands : Placed S Next behind (expr rank has_in start) n from to
    pub runs : Runs ways S Next behind most way (parts_of n) from to pairs
    pub place : Ok from

-- at a text's own places, as a language sees it
abbrev pub Somewhere : Language → List ℕ → Tree → Type 0
Somewhere language text n = SpelledSomewhere Token (Seen Token (NextIn text any_goal) language) (seen_in language) (λ (t : Token). IsPlace text t.stop) n

-- a name that may be reserved has no row
no_key_row : (w : List ℕ) (s e k : ℕ) (m : Tree) → slice_get (row_nodes (node Identifier w plain s e none) key) k ≡ Some m → ⊥
unfolding row_nodes parts_row_nodes
no_key_row w s e k m h = cc

no_word_row : (w : List ℕ) (s e k : ℕ) (m : Tree) → slice_get (row_nodes (node Identifier w plain s e none) word) k ≡ Some m → ⊥
unfolding row_nodes parts_row_nodes
no_word_row w s e k m h = cc

module _ (S : Type 0) (Next : S → Token → S → Type 0) (behind : S → Token) (Ok : S → Type 0) (moves : (s e : S) (t : Token) → Next s t e → Ok s → Ok e) where
  abbrev There : Tree → Type 0
  There = SpelledSomewhere S Next behind Ok

  kept : Carries S Next behind S Next behind (λ s. s) Ok
  kept = record { next = λ s t e g n. n; stays = λ s t e g n. moves s e t n g; before = λ s t e n. refl; after = λ s t e n. refl }

  -- Places at which reading goes on

  step_place : {q : PieceOf Role} {s e : S} → Step S Next behind q s e → Ok s → Ok e
  step_place (token x) p = moves _ _ _ x.next p
  step_place (with_mark x) p = moves _ _ _ x.next p
  step_place without_mark p = p
  step_place (one_more x y) p = step_place y (moves _ _ _ x.next p)
  step_place no_more p = p
  step_place (seen x) p = p
  step_place (same_line x y) p = p
  step_place (left_bare x y) p = p
  step_place (explicit x) p = moves _ _ _ x.next p
  step_place (implicit x y) p = p
  step_place laid p = p

  -- what is spelled at an expression's position is spelled directly, maybe in pairs
  itself_somewhere : {o : ℕ} {y : Rank} {i : Bool} {f : Start} {n : Tree} {s e : S} {P : List Pair} → Spells ways S Next behind o (expr y i f) n s e P → Ok s → There n
  itself_somewhere {o = o} {y = y} {i = i} {f = f} {s = s} {e = e} {P = P} (direct qs h pl d) p =
      record { most = o; rank = y; has_in = i; start = f; from = s; to = e; pairs = P; way = qs; among = h; stands = pl; runs = d; place = p }
  itself_somewhere (grouped x d y) p = itself_somewhere d (moves _ _ _ x.next p)

  -- at a position of its sort
  at_expression : {o : ℕ} {s e : S} {P : List Pair} (a : Role) (n : Tree) {y : Rank} {i : Bool} {f : Start} → Like false a (expr y i f) → Spells ways S Next behind o a n s e P → Ok s → There n
  at_expression (expr z j g) n l d p = itself_somewhere d p
  at_expression _ n l d p = elim l [ ]

  -- the first row of a node that has one is its own
  own_or_below : (n : Tree) (y : Rank) (i : Bool) (f : Start) (k : ℕ) (m : Tree) (G : Type 0) → slice_get (row_nodes n (expr y i f)) k ≡ Some m → (n ≡ m → G) →
      ((q : ℕ) → slice_get (parts_row_nodes (parts_of n) (first_roles (ways (expr Expression true Any) n))) q ≡ Some m → G) → G
  unfolding row_nodes
  own_or_below (node k w g s e ps) y i f zero m G h own below = own (cc)
  own_or_below (node k w g s e ps) y i f (suc q) m G h own below = below q h

  other_below : (n : Tree) (b : Role) (k : ℕ) (m : Tree) → is_wide b ≡ true → Rattle.language.specs.RowPositions.has_row b ≡ 0 → slice_get (row_nodes n b) k ≡ Some m →
      slice_get (parts_row_nodes (parts_of n) (first_roles (ways (widest b) n))) k ≡ Some m
  unfolding row_nodes
  other_below n (expr y i f) k m v z h = absurd (cc)
  other_below (node j w g s e ps) b k m v z h = subst (λ c. slice_get (parts_row_nodes ps (first_roles (ways c (node j w g s e ps)))) k ≡ Some m) (sym (wide_itself b v z)) h

  -- the rows of a node that is spelled directly, by those of its parts
  directly_somewhere : {o : ℕ} {s e : S} {P : List Pair} (a : Role) (n : Tree) (qs : List (PieceOf Role)) → Among qs (ways a n) → Placed S Next behind a n s e →
      Runs ways S Next behind o qs (parts_of n) s e P → Ok s →
      ((xs : List Role) → AllLike false (roles qs) xs → all_pass is_wide xs ≡ true → (q : ℕ) (m : Tree) → slice_get (parts_row_nodes (parts_of n) xs) q ≡ Some m → There m) →
      (b : Role) → Like false a b → is_wide b ≡ true → (k : ℕ) (m : Tree) → slice_get (row_nodes n b) k ≡ Some m → There m
  directly_somewhere {o} {s} {e} {P} a n qs h pl d p go b l v k m x = of b l v x
    where
      inner : (c : Role) → Like false a c → (q : ℕ) → slice_get (parts_row_nodes (parts_of n) (first_roles (ways (widest c) n))) q ≡ Some m → There m
      inner c l q y = go (first_roles (ways (widest c) n)) (parts_alike n a c l h) (parts_wide (widest c) n (wide_start c)) q m y

      of : (c : Role) → Like false a c → is_wide c ≡ true → slice_get (row_nodes n c) k ≡ Some m → There m
      of (expr z j g) l v x = own_or_below n z j g k m (There m) x (λ i. subst There i (at_expression a n l (direct qs h pl d) p)) (λ q y. inner (expr z j g) l q y)
      of c l v x = inner c l k (other_below n c k m v refl x)

  mutual
    unfolding parts_row_nodes

    pub rows_somewhere : {o : ℕ} {a : Role} {n : Tree} {s e : S} {P : List Pair} → Spells ways S Next behind o a n s e P → Ok s →
        (b : Role) → Like false a b → is_wide b ≡ true → (k : ℕ) (m : Tree) → slice_get (row_nodes n b) k ≡ Some m → There m
    rows_somewhere {a = a} {n = n} (direct qs h pl d) p b l v k m x = directly_somewhere a n qs h pl d p (λ xs ls w q j y. parts_somewhere d p xs ls w q j y) b l v k m x
    rows_somewhere (grouped x d y) p b same v k m h = rows_somewhere d (moves _ _ _ x.next p) b at_expressions v k m h
    rows_somewhere (grouped x d y) p b at_expressions v k m h = rows_somewhere d (moves _ _ _ x.next p) b at_expressions v k m h
    rows_somewhere (reserved_key {w = w} {t = t} {e = z} r h e) p b same v k m x = absurd (no_key_row w t.start (behind z).stop k m (subst (λ y. slice_get (row_nodes y key) k ≡ Some m) e x))
    rows_somewhere (reserved_word {w = w} {t = t} {e = z} r h e) p b same v k m x = absurd (no_word_row w t.start (behind z).stop k m (subst (λ y. slice_get (row_nodes y word) k ≡ Some m) e x))

    pub parts_somewhere : {o : ℕ} {qs : List (PieceOf Role)} {ps : Parts} {s e : S} {P : List Pair} → Runs ways S Next behind o qs ps s e P → Ok s →
        (xs : List Role) → AllLike false (roles qs) xs → all_pass is_wide xs ≡ true → (k : ℕ) (m : Tree) → slice_get (parts_row_nodes ps xs) k ≡ Some m → There m
    parts_somewhere done p xs l v k m h = absurd (cc)
    parts_somewhere (step {qs = qs} q d) p xs l v k m h = parts_somewhere d (step_place q p) xs (subst (λ zs. AllLike false zs xs) (Step-roles S Next behind qs q) l) v k m h
    parts_somewhere (opened x d) p xs l v k m h = parts_somewhere d (moves _ _ _ x.next p) xs l v k m h
    parts_somewhere (closed x d) p xs l v k m h = parts_somewhere d (moves _ _ _ x.next p) xs l v k m h
    parts_somewhere (within {n = n} {ps = ps} d e) p (b ∷ xs) (next l ls) v k m h =
        let w = and_parts (is_wide b) (all_pass is_wide xs) v in
        split_at (row_nodes n b) (parts_row_nodes ps xs) k m (There m) h (λ i. rows_somewhere d p b l w.0 k m i) (λ q z i. parts_somewhere e (Spells-good ways S Next behind S Next behind (λ s. s) Ok kept p d) xs ls w.1 q m i)
    parts_somewhere (within d e) p [] l v k m h = elim l [ ]
    parts_somewhere (missing d) p xs l v k m h = parts_somewhere d p xs l v k m h

seen_place : {language : Language} {text : List ℕ} {s t e : Token} → IsUtf8 text → IsPlace text s.stop → Seen Token (NextIn text any_goal) language s t e → IsPlace text e.stop
seen_place u p (seen_next n) = read_place u p n

-- each node with a row in a script or module that some text derives
pub row_somewhere : (language : Language) (text : List ℕ) (n : Tree) (P : List Pair) → IsUtf8 text → DerivesIn language text n P → (k : ℕ) (m : Tree) → slice_get (row_nodes n script) k ≡ Some m → Somewhere language text m
row_somewhere language text n P u d k m h = rows_somewhere Token (Seen Token (NextIn text any_goal) language) (seen_in language) (λ (t : Token). IsPlace text t.stop) (λ s e t q p. seen_place u p q) d.1.2 (starting_place language text u) script same refl k m h
