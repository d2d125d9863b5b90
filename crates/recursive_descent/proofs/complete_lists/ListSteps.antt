-- A list that is given is over, or has a first item and what stands behind it, whatever it lists (ECMA-262 12.2, 12.3.8, 12.16, 13.3, 13.12, 14.1, 14.6).
use Rattle.std.proofs.Common.{◌≡◌, inl, inr, ℕ, Bool, true, false, List, [], ◌∷◌, ◌++◌, refl, sym, ◌∙◌, subst}
use Rattle.std.specs.Prelude.{Option, codes}
use Rattle.tokens.specs.declared.token.TokenClass.TheVariants.{Punctuator}
use Rattle.tree.specs.declared.kind.Kind.{Kind}
use Rattle.tree.specs.declared.kind.Kind.TheVariants.{SpreadElement, RestElement, Property}
use Rattle.tree.specs.declared.kind.Pair.{Pair}
use Rattle.tree.specs.Tree.{Tree, node, Parts, none, part, gap, kind_of, join}
use Rattle.language.specs.declared.Start.TheVariants.{Any}
use Rattle.language.specs.Covers.{Reading, as_expression, as_pattern, property_as}
use Rattle.language.specs.Vocabulary.{is_rest}
use Rattle.language.specs.Pieces.{Role, Piece, PieceOf, never, put_at, listed as listed_pieces, elements}
use Rattle.language.specs.Expressions.{object_part, object_pattern_part}
use Rattle.language.specs.Token.{Token}
use Rattle.language.proofs.list_loops.FirstPieces.{run_none, run_never}
use Rattle.covers.specs.declared.list.ListKind.{ListKind}
use Rattle.covers.specs.declared.list.ListKind.TheVariants as listed
use Rattle.recursive_descent.specs.Soundness.{RunsIn}
use Rattle.recursive_descent.specs.SoundnessOfLists.{stood_in, left_of, item_role, is_chunked}
use Rattle.recursive_descent.specs.CompletenessOfLists.{LastGiven, CommaOr, ItemEnds, ItemGiven, an_item, a_hole, is_last_rest}
use Rattle.parser_tables.specs.Items.{is_unseparated}
use Rattle.token_cursor.specs.Seen.{ReadsHere}
use Rattle.recursive_descent.proofs.complete_lists.ListTails.{Settled, Tail, at_end, and_comma, First, listed_first, elements_first, elements_hole}
use Rattle.token_cursor.specs.SourceText.{SourceText, SeenNext, behind_in}

-- no item stands behind another
abbrev pub is_single : ListKind → Bool
is_single listed.OneParameter = true
is_single listed.NoParameter = true
is_single _ = false

-- Behind an item: nothing; or a comma, which no rest has, and what runs over the rest; or at once what runs over it.
pub data Behind (text : SourceText) (x : ListKind) (a : Reading) (last : Bool) (one : Parts) (o : ℕ) (ps : Parts) (s e : Token) (P : List Pair) : Type 0 where
  ended : ps ≡ none → e ≡ s → P ≡ [] → is_unseparated x ≡ false → LastGiven text x one e → Behind text x a last one o ps s e P
  comma : {k : Token} → is_unseparated x ≡ false → is_single x ≡ false → is_last_rest x a one ≡ false → ReadsHere text Punctuator (codes ",") s k → RunsIn text o (stood_in Any x (left_of x last a ps)) ps k e P → LastGiven text x ps e → Behind text x a last one o ps s e P
  next : is_unseparated x ≡ true → RunsIn text o (stood_in Any x (left_of x last a ps)) ps s e P → Behind text x a last one o ps s e P

-- what is given of the rest of a list
pub data Step (text : SourceText) (x : ListKind) (marked : Bool) (a : Reading) (o : ℕ) (ps : Parts) (s e : Token) (P : List Pair) : Type 0 where
  over : ps ≡ none → e ≡ s → P ≡ [] → RunsIn text o (stood_in Any x (left_of x marked a none)) none s s [] → Step text x marked a o ps s e P
  further : {last : Bool} {one rest : Parts} {m : Token} {Q R : List Pair} → ItemGiven text x a o s m Q last one → Behind text x a last one o rest m e R → ps ≡ join one rest → P ≡ Q ++ R → Step text x marked a o ps s e P

-- an object's part by its kind
pub object_piece : (n : Tree) → put_at (property_as as_expression (kind_of n)) ≡ object_part n
object_piece (node SpreadElement w g s e ps) = refl
object_piece (node Property w g s e ps) = refl
object_piece (node _ w g s e ps) = refl

pub pattern_piece : (b : Bool) (n : Tree) → put_at (property_as (as_pattern b) (kind_of n)) ≡ object_pattern_part b n
pattern_piece b (node RestElement w g s e ps) = refl
pattern_piece b (node Property w g s e ps) = refl
pattern_piece b (node _ w g s e ps) = refl

module _ (text : SourceText) where
  -- where an item of a list with commas ends
  pub ends_at : {i : Bool} {w : List ℕ} {pieces : Parts → List Piece} {rest : Bool} {o : ℕ} {ps : Parts} {s e to : Token} {P : List Pair} → Tail text i pieces rest o ps s e P → ReadsHere text Punctuator w e to → CommaOr text w s
  ends_at {w = w} {to = to} (at_end p z q) closed = inr (to, subst (λ v. ReadsHere text Punctuator w v to) z closed)
  ends_at (and_comma {k = k} r c d) closed = inl (k, c)

  -- an item with what stands behind it, in a list with commas
  pub with_commas : (x : ListKind) (marked : Bool) (a : Reading) {i rest : Bool} {r : Kind → Option Role} {pieces : Parts → List Piece} {o : ℕ} {n : Tree} {ps : Parts} {s e : Token} {P : List Pair} → is_unseparated x ≡ false → is_single x ≡ false → is_chunked x ≡ false →
      item_role x a (kind_of n) ≡ r (kind_of n) → (rest ≡ false → is_last_rest x a (part n none) ≡ false) → (f : First text i r pieces rest o n ps s e P) → ItemEnds text x n f.mid → (ps ≡ none → LastGiven text x (part n none) e) →
      ((k : Token) (Q : List Pair) → RunsIn text o (Settled text i (pieces ps)) ps k e Q → RunsIn text o (stood_in Any x (left_of x false a ps)) ps k e Q × LastGiven text x ps e) → Step text x marked a o (part n ps) s e P
  with_commas x marked a {i} {rest} {r} {pieces} {o} {n} {ps} {e = e} u v w role plain f ends last onward = further (an_item w (role ∙ f.is) f.spelled ends) (of f.tail) refl f.pairs
    where
      of : {m : Token} {Q : List Pair} → Tail text i pieces rest o ps m e Q → Behind text x a false (part n none) o ps m e Q
      of (at_end p z q) = ended p z q u (last p)
      of (and_comma {k = k} h c d) = let more = onward k _ d in comma u v (plain h) c more.0 more.1

  -- nothing runs
  pub nothing_there : {X : Type 0} {qs : List (PieceOf Role)} {o : ℕ} {ps : Parts} {s e : Token} {P : List Pair} → RunsIn text o (never ∷ qs) ps s e P → X
  nothing_there d = absurd (run_never Token (SeenNext text) (behind_in text) d)

  -- a list with commas, which may trail
  pub listed_step : (x : ListKind) (marked : Bool) (a : Reading) (r : Kind → Option Role) (g : Tree → Piece) {w : List ℕ} {o : ℕ} (ps : Parts) {s e to : Token} {P : List Pair} → is_unseparated x ≡ false → is_single x ≡ false → is_chunked x ≡ false →
      ((k : Kind) → item_role x a k ≡ r k) → ((n : Tree) → put_at (r (kind_of n)) ≡ g n) → ((n : Tree) → is_last_rest x a (part n none) ≡ is_rest (kind_of n)) → ((n : Tree) (m : Token) → CommaOr text w m → ItemEnds text x n m) → ((qs : Parts) → LastGiven text x qs e) →
      ((qs : Parts) (k : Token) (Q : List Pair) → RunsIn text o (Settled text true (listed_pieces g qs)) qs k e Q → RunsIn text o (stood_in Any x (left_of x false a qs)) qs k e Q) → RunsIn text o (stood_in Any x (left_of x marked a none)) none s s [] →
      ReadsHere text Punctuator w e to → RunsIn text o (Settled text true (listed_pieces g ps)) ps s e P → Step text x marked a o ps s e P
  listed_step x marked a r g none u v w role same plain ends last on empty closed d = let z = run_none Token (SeenNext text) (behind_in text) d in over refl (sym z.place) z.pairs empty
  listed_step x marked a r g (gap ps) u v w role same plain ends last on empty closed d = nothing_there d
  listed_step x marked a r g (part n ps) u v w role same plain ends last on empty closed d =
      let f = listed_first text true r g n (same n) ps d in
      with_commas x marked a u v w (role (kind_of n)) (λ h. plain n ∙ h) f (ends n f.mid (ends_at f.tail closed)) (λ p. last (part n none)) (λ k Q d. (on ps k Q d, last ps))

  pub elements_step : (marked : Bool) (a : Reading) (r : Kind → Option Role) (g : Tree → Piece) {o : ℕ} (ps : Parts) {s e to : Token} {P : List Pair} → ((k : Kind) → item_role listed.Elements a k ≡ r k) → ((n : Tree) → put_at (r (kind_of n)) ≡ g n) →
      ((n : Tree) → is_last_rest listed.Elements a (part n none) ≡ is_rest (kind_of n)) → ((qs : Parts) (k : Token) (Q : List Pair) → RunsIn text o (Settled text true (elements g qs)) qs k e Q → RunsIn text o (stood_in Any listed.Elements (left_of listed.Elements false a qs)) qs k e Q) →
      RunsIn text o (stood_in Any listed.Elements (left_of listed.Elements marked a none)) none s s [] →
      ReadsHere text Punctuator (codes "]") e to → RunsIn text o (Settled text true (elements g ps)) ps s e P → Step text listed.Elements marked a o ps s e P
  elements_step marked a r g none role same plain on empty closed d = let z = run_none Token (SeenNext text) (behind_in text) d in over refl (sym z.place) z.pairs empty
  elements_step marked a r g {o} (gap ps) role same plain on empty closed d =
      let h = elements_hole text true g ps d in
      further {one = gap none} (a_hole refl (h.mid, h.comma) refl refl) (comma refl refl (of a) h.comma (on ps h.mid _ h.runs) tt) refl refl
    where
      of : (a : Reading) → is_last_rest listed.Elements a (gap none) ≡ false
      of a = refl
  elements_step marked a r g (part n ps) role same plain on empty closed d =
      let f = elements_first text true r g n (same n) ps d in
      with_commas listed.Elements marked a refl refl refl (role (kind_of n)) (λ h. plain n ∙ h) f (ends_at f.tail closed) (λ p. tt) (λ k Q d. (on ps k Q d, tt))
