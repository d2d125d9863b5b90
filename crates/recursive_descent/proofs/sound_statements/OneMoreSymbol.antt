-- One more piece of a statement, a function or a class, and what it adds to those before it (ECMA-262 clauses 13 and 14).
use Rattle.std.proofs.Common.{◌≡◌, ℕ, suc, ◌+◌, ◌<◌, ◌≤◌, Bool, List, [], ◌∷◌, ◌++◌, length, get_or, take, refl, sym, ap, ◌∙◌, subst, append_assoc, add-one, arith}
use Rattle.std.specs.Prelude.{map}
use Rattle.std.proofs.lemmas.List.{append-nil}
use Rattle.token_cursor.specs.CursorState.{CursorState}
use Rattle.tree.specs.declared.kind.Pair.{Pair}
use Rattle.tree.specs.Tree.{Parts, none, part, gap, join, push_gap, parts_height}
use Rattle.tree.proofs.Shapes.{join-none, join-assoc, parts_height-join}
use Rattle.language.specs.declared.Edge.{Edge}
use Rattle.language.specs.Token.{Token}
use Rattle.parser_tables.specs.declared.symbol_lists.PartialStatement.{PartialStatement}
use Rattle.parser_tables.specs.declared.symbol_lists.Symbol.{Symbol as Coded}
use Rattle.recursive_descent.specs.Soundness.{Adds}
use Rattle.recursive_descent.specs.SoundnessOfStatements.{BuiltAt, PiecesAt, PieceAt}
use Rattle.parser_tables.specs.StatementSymbols.{Piece, piece_of}
use Rattle.recursive_descent.proofs.reading.AddedPairs.{adds_both, adds_none}
use Rattle.token_cursor.specs.SourceText.{SourceText}

-- no piece so far
pub built_first : {s : CursorState} {old : List Pair} {text : SourceText} {r : Bool} {b : PartialStatement} → Adds s s old old (BuiltAt text r [] b b)
built_first {b = b} = adds_none refl refl (λ o. record { added = none; nodes = sym (join-none b.nodes); read = (refl, refl, refl, refl) })

module _ (text : SourceText) (r : Bool) (o : ℕ) where
  -- one more piece behind others
  pieces_on : (qs : List Piece) (q : Piece) (s m e : Token) (x y z : Edge) (ps put : Parts) (P Q : List Pair) → PiecesAt text r o qs s m x y ps P → PieceAt text r o q m e y z put Q → PiecesAt text r o (qs ++ q ∷ []) s e x z (join ps put) (P ++ Q)
  pieces_on [] q s m e x y z ps put P Q h p = record {
    mid = e;
    right = z;
    put = put;
    rest = none;
    put_pairs = Q;
    more_pairs = [];
    first = subst (λ w. PieceAt text r o q s e w z put Q) h.1 (subst (λ w. PieceAt text r o q w e y z put Q) h.0 p);
    others = (refl, refl, refl, refl);
    parts = ap (λ w. join w put) h.2 ∙ sym (join-none put);
    pairs = ap (λ w. w ++ Q) h.3 ∙ sym (append-nil Q);
  }
  pieces_on (k ∷ qs) q s m e x y z ps put P Q h p = record {
    mid = h.mid;
    right = h.right;
    put = h.put;
    rest = join h.rest put;
    put_pairs = h.put_pairs;
    more_pairs = h.more_pairs ++ Q;
    first = h.first;
    others = pieces_on qs q h.mid m e h.right y z h.rest put h.more_pairs Q h.others p;
    parts = ap (λ w. join w put) h.parts ∙ join-assoc h.put h.rest put;
    pairs = ap (λ w. w ++ Q) h.pairs ∙ append_assoc h.put_pairs h.more_pairs Q;
  }

  built_on : (qs : List Piece) (q : Piece) {s m e : Token} {b c d : PartialStatement} (put : Parts) {P : List Pair} (Q : List Pair) → BuiltAt text r qs b c o s m P → d.nodes ≡ join c.nodes put → PieceAt text r o q m e c.edge d.edge put Q → BuiltAt text r (qs ++ q ∷ []) b d o s e (P ++ Q)
  built_on qs q {s} {m} {e} {b} {c} {d} put {P} Q h is p = record { added = join h.added put; nodes = is ∙ ap (λ w. join w put) h.nodes ∙ join-assoc b.nodes h.added put; read = pieces_on qs q s m e b.edge c.edge d.edge h.added put P Q h.read p }

-- the pieces up to a further one
one_taken : (xs : List Coded) (d : Coded) (i : ℕ) → i < length xs → map piece_of (take (i + 1) xs) ≡ map piece_of (take i xs) ++ piece_of (get_or xs i d) ∷ []
one_taken xs d i h = rw add-one (of xs i h)
  where
    of : (xs : List Coded) (i : ℕ) → i < length xs → map piece_of (take (suc i) xs) ≡ map piece_of (take i xs) ++ piece_of (get_or xs i d) ∷ []
    of [] i h = absurd (omega arith)
    of (x ∷ xs) Prim.Native.Nat.zero h = refl
    of (x ∷ xs) (suc i) h = ap (λ w. piece_of x ∷ w) (of xs i (omega arith))

-- what a further piece adds
pub record OnePiece (s e : CursorState) (old new : List Pair) (r : Bool) (q : Piece) (b c : PartialStatement) (high : ℕ) : Type 0 where
  pub put : Parts
  pub nodes : c.nodes ≡ join b.nodes put
  pub low : parts_height put ≤ high
  pub adds : Adds s e old new (λ o x y P. PieceAt s.text r o q x y b.edge c.edge put P)

-- with it the pieces so far are one more
pub piece_on : {s m e : CursorState} {old mid new : List Pair} {r : Bool} {b c d : PartialStatement} {high : ℕ} (xs : List Coded) (none_there : Coded) (i : ℕ) → m.text ≡ s.text → i < length xs → Adds s m old mid (BuiltAt s.text r (map piece_of (take i xs)) b c) →
    OnePiece m e mid new r (piece_of (get_or xs i none_there)) c d high → Adds s e old new (BuiltAt s.text r (map piece_of (take (i + 1) xs)) b d)
piece_on {s} {m} {e} {old} {new = new} {r = r} {b = b} {c = c} {d = d} xs z i same h a p =
    subst (λ qs. Adds s e old new (BuiltAt s.text r qs b d)) (sym (one_taken xs z i h))
    (adds_both a p.adds (λ o P Q u v. built_on s.text r o (map piece_of (take i xs)) (piece_of (get_or xs i z)) p.put Q u p.nodes (subst (λ x. PieceAt x r o (piece_of (get_or xs i z)) m.last e.last c.edge d.edge p.put Q) same v)))

-- and no higher
pub piece_low : {s e : CursorState} {old new : List Pair} {r : Bool} {q : Piece} {c d : PartialStatement} {high : ℕ} → OnePiece s e old new r q c d high → parts_height c.nodes ≤ high → parts_height d.nodes ≤ high
piece_low {c = c} p h =
    let joined = ap parts_height p.nodes ∙ parts_height-join c.nodes p.put in
    let low = p.low in
    omega arith

-- a piece of tokens alone; of one part
pub gap_join : (ps : Parts) → push_gap ps ≡ join ps (gap none)
gap_join none = refl
gap_join (part n ps) = ap (part n) (gap_join ps)
gap_join (gap ps) = ap gap (gap_join ps)
