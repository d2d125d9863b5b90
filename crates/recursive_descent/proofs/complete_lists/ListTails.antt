-- What runs over the items of a list, inverted: its first item, and what stands behind it (ECMA-262 12.2, 12.3.8, 12.16, 13.3, 14.1).
use Rattle.std.proofs.Common.{◌≡◌, ℕ, Bool, true, false, cond, List, [], ◌∷◌, ◌++◌, refl, sym, subst}
use Rattle.std.specs.Prelude.{Option, Some, None, codes, map}
use Rattle.tokens.specs.declared.token.TokenClass.TheVariants.{Punctuator}
use Rattle.tree.specs.declared.kind.Kind.{Kind}
use Rattle.tree.specs.declared.kind.Pair.{Pair}
use Rattle.tree.specs.Tree.{Tree, Parts, none, part, gap, kind_of}
use Rattle.language.specs.declared.Rank.TheVariants.{Expression, Assignment}
use Rattle.language.specs.declared.Start.TheVariants.{Any}
use Rattle.language.specs.Vocabulary.{is_rest}
use Rattle.language.specs.Pieces.{Role, Piece, PieceOf, settle_piece, sign, sp, put_at, sub, tail, may, nothing, separator, is_none, listed as listed_pieces, elements}
use Rattle.language.specs.Expressions.{sequence}
use Rattle.language.specs.Statements.{declarators}
use Rattle.language.specs.Token.{Token}
use Rattle.language.proofs.list_loops.FirstPieces.{ATrailing, with_it, without_it, run_may, run_none, run_token, run_laid, run_never, run_the_part, run_the_gap}
use Rattle.recursive_descent.specs.Soundness.{RunsIn}
use Rattle.recursive_descent.specs.SoundnessOfLists.{several}
use Rattle.token_cursor.specs.Seen.{ReadsHere}
use Rattle.recursive_descent.proofs.complete_expressions.Agreement.{read_here}
use Rattle.token_cursor.specs.SourceText.{SourceText, SeenNext, behind_in}
use Rattle.recursive_descent.specs.Spelled.{SpellsIn}

module _ (text : SourceText) (i : Bool) where
  abbrev pub Settled : List Piece → List (PieceOf Role)
  Settled qs = map (settle_piece Expression i Any) qs

  -- behind an item: nothing; or a comma, which no rest has, and what runs over the rest
  pub data Tail (pieces : Parts → List Piece) (rest : Bool) (o : ℕ) (ps : Parts) (s e : Token) (P : List Pair) : Type 0 where
    at_end : ps ≡ none → e ≡ s → P ≡ [] → Tail pieces rest o ps s e P
    and_comma : {k : Token} → rest ≡ false → ReadsHere text Punctuator (codes ",") s k → RunsIn text o (Settled (pieces ps)) ps k e P → Tail pieces rest o ps s e P

  -- an item at the position of its kind, and what stands behind it
  pub record First (r : Kind → Option Role) (pieces : Parts → List Piece) (rest : Bool) (o : ℕ) (n : Tree) (ps : Parts) (s e : Token) (P : List Pair) : Type 0 where
    pub role : Role
    pub is : r (kind_of n) ≡ Some role
    pub mid : Token
    pub one : List Pair
    pub more : List Pair
    pub pairs : P ≡ one ++ more
    pub spelled : SpellsIn text o role n s mid one
    pub tail : Tail pieces rest o ps mid e more

  stops_here : {o : ℕ} {ps : Parts} {s e : Token} {P : List Pair} {pieces : Parts → List Piece} {rest : Bool} → RunsIn text o [] ps s e P → Tail pieces rest o ps s e P
  stops_here d = let z = run_none Token (SeenNext text) (behind_in text) d in at_end z.parts (sym z.place) z.pairs

  -- the item, and what runs behind it
  pub item_then : {r : Kind → Option Role} {pieces : Parts → List Piece} {rest : Bool} {o : ℕ} {n : Tree} {ps : Parts} {s e : Token} {P : List Pair} (x : Option Role) {qs : List (PieceOf Role)} → r (kind_of n) ≡ x → RunsIn text o (settle_piece Expression i Any (put_at x) ∷ qs) (part n ps) s e P →
      ((m : Token) (Q : List Pair) → RunsIn text o qs ps m e Q → Tail pieces rest o ps m e Q) → First r pieces rest o n ps s e P
  item_then None h d f = absurd (run_never Token (SeenNext text) (behind_in text) d)
  item_then (Some a) h d f = let p = run_the_part Token (SeenNext text) (behind_in text) d in record { role = a; is = h; mid = p.mid; one = p.one; more = p.more; pairs = p.pairs; spelled = p.spelled; tail = f p.mid p.more p.runs }

  comma_then : {pieces : Parts → List Piece} {o : ℕ} {qs : List (PieceOf Role)} {ps : Parts} {s e : Token} {P : List Pair} → RunsIn text o (settle_piece Expression i Any (sign ",") ∷ settle_piece Expression i Any sp ∷ qs) ps s e P →
      ((k : Token) → RunsIn text o qs ps k e P → RunsIn text o (Settled (pieces ps)) ps k e P) → Tail pieces false o ps s e P
  comma_then d f = let c = run_token Token (SeenNext text) (behind_in text) d in and_comma refl (read_here text c.reads) (f c.mid (run_laid Token (SeenNext text) (behind_in text) c.runs))

  -- behind the last of a list that may have a trailing comma
  trailing : {pieces : Parts → List Piece} (rest : Bool) {o : ℕ} {s e : Token} {P : List Pair} → (RunsIn text o [] none s e P → RunsIn text o [] none s e P) → ((k : Token) → RunsIn text o [] none k e P → RunsIn text o (Settled (pieces none)) none k e P) →
      RunsIn text o (Settled (cond rest [] (may (codes ",") ∷ []) ++ [])) none s e P → Tail pieces rest o none s e P
  trailing true same f d = stops_here d
  trailing {pieces} false {o} {s} {e} {P} same f d = of (run_may Token (SeenNext text) (behind_in text) d)
    where
      of : ATrailing Token (SeenNext text) (behind_in text) o (codes ",") [] none s e P → Tail pieces false o none s e P
      of (with_it x d) = and_comma refl (read_here text x) (f _ d)
      of (without_it d) = stops_here d

  between : {pieces : Parts → List Piece} (rest : Bool) (qs : List Piece) {o : ℕ} {ps : Parts} {s e : Token} {P : List Pair} → ((k : Token) → RunsIn text o (Settled qs) ps k e P → RunsIn text o (Settled (pieces ps)) ps k e P) →
      RunsIn text o (Settled (cond rest nothing (sign "," ∷ sp ∷ []) ++ qs)) ps s e P → Tail pieces rest o ps s e P
  between true qs f d = absurd (run_never Token (SeenNext text) (behind_in text) d)
  between false qs f d = comma_then d f

  behind_listed : (g : Tree → Piece) (k : Kind) {o : ℕ} (ps : Parts) {s e : Token} {P : List Pair} → RunsIn text o (Settled (separator k (is_none ps) ++ listed_pieces g ps)) ps s e P → Tail (listed_pieces g) (is_rest k) o ps s e P
  behind_listed g k none d = trailing (is_rest k) (λ d. d) (λ m d. d) d
  behind_listed g k (part n ps) d = between (is_rest k) (listed_pieces g (part n ps)) (λ m d. d) d
  behind_listed g k (gap ps) d = between (is_rest k) (listed_pieces g (gap ps)) (λ m d. d) d

  behind_elements : (g : Tree → Piece) (k : Kind) {o : ℕ} (ps : Parts) {s e : Token} {P : List Pair} → RunsIn text o (Settled (separator k (is_none ps) ++ elements g ps)) ps s e P → Tail (elements g) (is_rest k) o ps s e P
  behind_elements g k none d = trailing (is_rest k) (λ d. d) (λ m d. d) d
  behind_elements g k (part n ps) d = between (is_rest k) (elements g (part n ps)) (λ m d. d) d
  behind_elements g k (gap ps) d = between (is_rest k) (elements g (gap ps)) (λ m d. d) d

  -- a list by its first item
  pub listed_first : (r : Kind → Option Role) (g : Tree → Piece) (n : Tree) → put_at (r (kind_of n)) ≡ g n → {o : ℕ} (ps : Parts) {s e : Token} {P : List Pair} → RunsIn text o (Settled (listed_pieces g (part n ps))) (part n ps) s e P → First r (listed_pieces g) (is_rest (kind_of n)) o n ps s e P
  listed_first r g n w {o} ps {s} {e} {P} d =
      item_then (r (kind_of n)) refl (subst (λ q. RunsIn text o (settle_piece Expression i Any q ∷ Settled (separator (kind_of n) (is_none ps) ++ listed_pieces g ps)) (part n ps) s e P) (sym w) d) (λ m Q d. behind_listed g (kind_of n) ps d)

  pub elements_first : (r : Kind → Option Role) (g : Tree → Piece) (n : Tree) → put_at (r (kind_of n)) ≡ g n → {o : ℕ} (ps : Parts) {s e : Token} {P : List Pair} → RunsIn text o (Settled (elements g (part n ps))) (part n ps) s e P → First r (elements g) (is_rest (kind_of n)) o n ps s e P
  elements_first r g n w {o} ps {s} {e} {P} d =
      item_then (r (kind_of n)) refl (subst (λ q. RunsIn text o (settle_piece Expression i Any q ∷ Settled (separator (kind_of n) (is_none ps) ++ elements g ps)) (part n ps) s e P) (sym w) d) (λ m Q d. behind_elements g (kind_of n) ps d)

  -- a hole with its comma
  pub record AHole (g : Tree → Piece) (o : ℕ) (ps : Parts) (s e : Token) (P : List Pair) : Type 0 where
    pub mid : Token
    pub comma : ReadsHere text Punctuator (codes ",") s mid
    pub runs : RunsIn text o (Settled (elements g ps)) ps mid e P

  pub elements_hole : (g : Tree → Piece) {o : ℕ} (ps : Parts) {s e : Token} {P : List Pair} → RunsIn text o (Settled (elements g (gap ps))) (gap ps) s e P → AHole g o ps s e P
  elements_hole g none d = let c = run_token Token (SeenNext text) (behind_in text) (run_the_gap Token (SeenNext text) (behind_in text) d) in record { mid = c.mid; comma = read_here text c.reads; runs = c.runs }
  elements_hole g (part n ps) d = let c = run_token Token (SeenNext text) (behind_in text) (run_the_gap Token (SeenNext text) (behind_in text) d) in record { mid = c.mid; comma = read_here text c.reads; runs = run_laid Token (SeenNext text) (behind_in text) c.runs }
  elements_hole g (gap ps) d = let c = run_token Token (SeenNext text) (behind_in text) (run_the_gap Token (SeenNext text) (behind_in text) d) in record { mid = c.mid; comma = read_here text c.reads; runs = run_laid Token (SeenNext text) (behind_in text) c.runs }

  -- expressions with commas between them
  behind_several : (q : Piece) {o : ℕ} (ps : Parts) → settle_piece Expression i Any q ≡ settle_piece Expression i Any (sub (tail Assignment Any)) → {s e : Token} {P : List Pair} → RunsIn text o (Settled (sequence ps)) ps s e P → Tail (several q) false o ps s e P
  behind_several q none w d = stops_here d
  behind_several q {o} (part n ps) w {e = e} {P} d = comma_then d (λ k d. subst (λ y. RunsIn text o (y ∷ Settled (sequence ps)) (part n ps) k e P) (sym w) d)
  behind_several q (gap ps) w d = absurd (run_never Token (SeenNext text) (behind_in text) d)

  pub several_first : (r : Kind → Option Role) (q : Piece) (n : Tree) → settle_piece Expression i Any (put_at (r (kind_of n))) ≡ settle_piece Expression i Any q → settle_piece Expression i Any q ≡ settle_piece Expression i Any (sub (tail Assignment Any)) → {o : ℕ} (ps : Parts) {s e : Token} {P : List Pair} → RunsIn text o (Settled (several q (part n ps))) (part n ps) s e P → First r (several q) false o n ps s e P
  several_first r q n v w {o} ps {s} {e} {P} d =
      item_then (r (kind_of n)) refl (subst (λ y. RunsIn text o (y ∷ Settled (sequence ps)) (part n ps) s e P) (sym v) d) (λ m Q d. behind_several q ps w d)

  -- declarators
  pub declarators_first : (a : Role) (n : Tree) {o : ℕ} (ps : Parts) {s e : Token} {P : List Pair} → RunsIn text o (Settled (declarators a (part n ps))) (part n ps) s e P → First (λ k. Some a) (declarators a) false o n ps s e P
  declarators_first a n none d = item_then (Some a) refl d (λ m Q d. stops_here d)
  declarators_first a n (part k ps) d = item_then (Some a) refl d (λ m Q d. comma_then d (λ k d. d))
  declarators_first a n (gap ps) d = absurd (run_never Token (SeenNext text) (behind_in text) d)
