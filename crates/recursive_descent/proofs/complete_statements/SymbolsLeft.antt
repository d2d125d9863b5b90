-- The pieces that are given, as far as they were read, and the rest of them (ECMA-262 clauses 13 and 14).
use Rattle.std.proofs.Common.{◌≡◌, ℕ, suc, ◌+◌, ◌<◌, ◌≤◌, Bool, true, false, List, [], ◌∷◌, ◌++◌, length, get_or, drop, Result, Ok, refl, sym, ap, ◌∙◌, subst, append_assoc, add-one, arith}
use Rattle.std.specs.Prelude.{map, not, ◌&&◌, ◌||◌}
use Rattle.std.specs.Result.{IsErrAnd}
use Rattle.std.proofs.lemmas.List.{append-nil}
use Rattle.std.proofs.lemmas.Bool.{false≢true}
use Rattle.source_text.specs.declared.fault.Fault.{Fault}
use Rattle.source_text.specs.declared.fault.Fault.TheVariants.{OutOfMemory}
use Rattle.token_cursor.specs.CursorState.{CursorState}
use Rattle.covers.specs.declared.list.ListKind.TheVariants as listed
use Rattle.tree.specs.declared.kind.Pair.{Pair}
use Rattle.tree.specs.Tree.{Parts, none, join, parts_height}
use Rattle.tree.proofs.Shapes.{join-none, join-assoc, parts_height-join}
use Rattle.language.specs.declared.Edge.{Edge}
use Rattle.language.specs.Token.{Token}
use Rattle.parser_tables.specs.declared.symbol_lists.PartialStatement.{PartialStatement}
use Rattle.parser_tables.specs.declared.symbol_lists.Symbol.{Symbol as Coded}
use Rattle.parser_tables.specs.declared.symbol_lists.Symbol.TheVariants as code
use Rattle.recursive_descent.specs.Completeness.{Agrees, Room, EndsWith}
use Rattle.recursive_descent.specs.CompletenessOfStatements.{PieceGiven, PiecesGiven, knows_edge, asks_edge, has_edges}
use Rattle.recursive_descent.specs.Complete.{SymbolsComplete}
use Rattle.parser_tables.specs.StatementSymbols.{Piece, piece_of}
use Rattle.parser_tables.specs.StatementSymbols as Given
use Rattle.recursive_descent.proofs.complete_expressions.Agreement.{Refuses, refuses_memory, agrees_on, room_part, ends_none, ends_both}
use Rattle.token_cursor.specs.SourceText.{SourceText}
use Rattle.recursive_descent.specs.Spelled.{AllOfLanguage}
use Rattle.recursive_descent.proofs.reading.LanguageTrees.{join_of_language}

-- Of what was given from s on, with parts ps and pairs P, some was read, and the rest is given from here on. The last right edge is known, if it is asked for.
pub record Left (text : SourceText) (r : Bool) (o : ℕ) (qs : List Piece) (s e : CursorState) (old new : List Pair) (b c : PartialStatement) (z : Edge) (to : Token) (ps : Parts) (P : List Pair) : Type 0 where
  pub before : Parts
  pub rest : Parts
  pub read_pairs : List Pair
  pub rest_pairs : List Pair
  pub right : Edge
  pub nodes : c.nodes ≡ join b.nodes before
  pub ends : EndsWith s e old new e.last read_pairs
  pub known : asks_edge qs ≡ true → right ≡ c.edge
  pub edges : has_edges qs ≡ true
  pub given : PiecesGiven text r o qs e.last to right z rest rest_pairs
  pub parts : ps ≡ join before rest
  pub pairs : P ≡ read_pairs ++ rest_pairs
  pub own : AllOfLanguage text rest

-- whatever is given there
abbrev pub LeftOf : Bool → List Piece → List Piece → CursorState → CursorState → List Pair → List Pair → PartialStatement → PartialStatement → Type 0
LeftOf r all qs s e old new b c = (o : ℕ) (z : Edge) (ps : Parts) (to : Token) (P : List Pair) → has_edges all ≡ true → PiecesGiven s.text r o all s.last to b.edge z ps P → AllOfLanguage s.text ps → Left s.text r o qs s e old new b c z to ps P

-- at first all is left
pub left_first : {s : CursorState} {old : List Pair} {r : Bool} {b : PartialStatement} (all : List Piece) → LeftOf r all all s s old old b b
left_first {s} {old} {r} {b} all o z ps to P edges given own = record {
  before = none;
  rest = ps;
  read_pairs = [];
  rest_pairs = P;
  right = b.edge;
  nodes = sym (join-none b.nodes);
  ends = ends_none refl refl;
  known = λ h. refl;
  edges = edges;
  given = given;
  parts = refl;
  pairs = refl;
  own = own;
}

-- the next piece and those behind it
pub one_dropped : (xs : List Coded) (d : Coded) (i : ℕ) → i < length xs → map piece_of (drop i xs) ≡ piece_of (get_or xs i d) ∷ map piece_of (drop (i + 1) xs)
one_dropped xs d i h = rw add-one (of xs i h)
  where
    of : (xs : List Coded) (i : ℕ) → i < length xs → map piece_of (drop i xs) ≡ piece_of (get_or xs i d) ∷ map piece_of (drop (suc i) xs)
    of [] i h = absurd (omega arith)
    of (x ∷ xs) Prim.Native.Nat.zero h = refl
    of (x ∷ xs) (suc i) h = of xs i (omega arith)

all_dropped : (xs : List Coded) → drop (length xs) xs ≡ []
all_dropped [] = refl
all_dropped (x ∷ xs) = all_dropped xs

-- the first piece that is left
pub record Ahead (text : SourceText) (r : Bool) (o : ℕ) (q : Piece) (qs : List Piece) (s e : CursorState) (old new : List Pair) (b c : PartialStatement) (z : Edge) (to : Token) (ps : Parts) (P : List Pair) : Type 0 where
  pub left : Left text r o (q ∷ qs) s e old new b c z to ps P
  pub low : (high : ℕ) → parts_height ps ≤ high → parts_height left.given.put ≤ high
  pub own : AllOfLanguage text left.given.put

pub ahead : {text : SourceText} {r : Bool} {o : ℕ} {s e : CursorState} {old new : List Pair} {b c : PartialStatement} {z : Edge} {to : Token} {ps : Parts} {P : List Pair} (xs : List Coded) (d : Coded) (i : ℕ) → i < length xs → Left text r o (map piece_of (drop i xs)) s e old new b c z to ps P →
    Ahead text r o (piece_of (get_or xs i d)) (map piece_of (drop (i + 1) xs)) s e old new b c z to ps P
ahead {text} {r} {o} {s} {e} {old} {new} {b} {c} {z} {to} {ps} {P} xs d i h l =
    let v = subst (λ qs. Left text r o qs s e old new b c z to ps P) (one_dropped xs d i h) l in
    record {
      left = v;
      low = λ high room.
          let whole = ap parts_height v.parts ∙ parts_height-join v.before v.rest in
          let rest = ap parts_height v.given.parts ∙ parts_height-join v.given.put v.given.rest in
          omega arith;
      own = (join_of_language v.given.put v.given.rest (subst (AllOfLanguage text) v.given.parts v.own)).0;
    }

-- the pieces behind which the last right edge is their own
abbrev pub sets_edge : Piece → Bool
sets_edge Given.expression = true
sets_edge Given.assignment = true
sets_edge (Given.list (listed.Declarators true)) = true
sets_edge _ = false

asks_on : (q : Piece) (qs : List Piece) → asks_edge qs ≡ true → sets_edge q ≡ false → asks_edge (q ∷ qs) ≡ true
asks_on Given.expression qs h k = cc
asks_on Given.assignment qs h k = cc
asks_on (Given.list (listed.Declarators true)) qs h k = cc
asks_on Given.end qs h k = refl
asks_on (Given.list (listed.Declarators false)) qs h k = h
asks_on (Given.list (listed.Cases r)) qs h k = h
asks_on (Given.list listed.Arguments) qs h k = h
asks_on (Given.list listed.AsyncArguments) qs h k = h
asks_on (Given.list listed.Elements) qs h k = h
asks_on (Given.list listed.Properties) qs h k = h
asks_on (Given.list listed.ParenthesizedItems) qs h k = h
asks_on (Given.list listed.Parameters) qs h k = h
asks_on (Given.list listed.NoParameter) qs h k = h
asks_on (Given.list listed.OneParameter) qs h k = h
asks_on (Given.list listed.Template) qs h k = h
asks_on (Given.list (listed.Sequence i)) qs h k = h
asks_on (Given.list listed.Members) qs h k = h
asks_on (Given.mark w) qs h k = h
asks_on (Given.word w) qs h k = h
asks_on Given.unbroken qs h k = h
asks_on Given.label qs h k = h
asks_on Given.end_of_do qs h k = h
asks_on Given.test qs h k = h
asks_on Given.update qs h k = h
asks_on Given.argument qs h k = h
asks_on Given.heritage qs h k = h
asks_on Given.binding qs h k = h
asks_on Given.statement qs h k = h
asks_on Given.else_part qs h k = h
asks_on Given.block qs h k = h
asks_on Given.finally_part qs h k = h
asks_on Given.handler qs h k = h
asks_on Given.body qs h k = h
asks_on Given.items qs h k = h
asks_on Given.consequent qs h k = h
asks_on Given.head qs h k = h
asks_on Given.missing qs h k = h

-- What was read of one piece agrees with what is given of it.
pub record SamePiece (q : Piece) (m e : CursorState) (mid new : List Pair) (c d : PartialStatement) (to : Token) (x y : Edge) (put : Parts) (P : List Pair) : Type 0 where
  pub nodes : d.nodes ≡ join c.nodes put
  pub ends : EndsWith m e mid new to P
  pub edge : knows_edge q ≡ true → (sets_edge q ≡ false → x ≡ c.edge) → y ≡ d.edge

both_true : (a b : Bool) → (a && b) ≡ true → (a ≡ true) × (b ≡ true)
both_true true true h = (refl, refl)
both_true true false h = absurd (false≢true h)
both_true false b h = absurd (false≢true h)

known_there : (a b : Bool) → (a || not b) ≡ true → b ≡ true → a ≡ true
known_there true b h k = refl
known_there false true h k = cc
known_there false false h k = cc

-- one piece further
left_on : {text : SourceText} {r : Bool} {o : ℕ} {q : Piece} {qs : List Piece} {s m e : CursorState} {old mid new : List Pair} {b c d : PartialStatement} {z : Edge} {to : Token} {ps : Parts} {P : List Pair} → (l : Left text r o (q ∷ qs) s m old mid b c z to ps P) →
    SamePiece q m e mid new c d l.given.mid l.right l.given.right l.given.put l.given.put_pairs → Left text r o qs s e old new b d z to ps P
left_on {text} {r} {o} {q} {qs} {s} {m} {e} {old} {mid} {new} {b} {c} {d} {z} {to} {ps} {P} l h =
    let both = both_true (knows_edge q || not (asks_edge qs)) (has_edges qs) l.edges in
    record {
      before = join l.before l.given.put;
      rest = l.given.rest;
      read_pairs = l.read_pairs ++ l.given.put_pairs;
      rest_pairs = l.given.more_pairs;
      right = l.given.right;
      nodes = h.nodes ∙ ap (λ k. join k l.given.put) l.nodes ∙ join-assoc b.nodes l.before l.given.put;
      ends = let v = ends_both l.ends h.ends in record { place = refl; more = v.more; added = v.added; pairs = v.pairs };
      known = λ asks. h.edge (known_there (knows_edge q) (asks_edge qs) both.0 asks) (λ own. l.known (asks_on q qs asks own));
      edges = both.1;
      given = subst (λ k. PiecesGiven text r o qs k to l.given.right z l.given.rest l.given.more_pairs) (sym h.ends.place) l.given.others;
      parts = l.parts ∙ ap (join l.before) l.given.parts ∙ sym (join-assoc l.before l.given.put l.given.rest);
      pairs = l.pairs ∙ ap (λ k. l.read_pairs ++ k) l.given.pairs ∙ sym (append_assoc l.read_pairs l.given.put_pairs l.given.more_pairs);
      own = (join_of_language l.given.put l.given.rest (subst (AllOfLanguage text) l.given.parts l.own)).1;
    }

-- for each derivation that is given
abbrev pub SameOf : SourceText → Bool → Piece → CursorState → CursorState → List Pair → List Pair → PartialStatement → PartialStatement → Type 0
SameOf text r q m e mid new c d = (o : ℕ) (to : Token) (x y : Edge) (put : Parts) (P : List Pair) → PieceGiven text r o q m.last to x y put P → (asks_edge (q ∷ []) ≡ true → x ≡ c.edge) → AllOfLanguage text put → SamePiece q m e mid new c d to x y put P

asks_first : (q : Piece) (qs : List Piece) → asks_edge (q ∷ []) ≡ true → asks_edge (q ∷ qs) ≡ true
asks_first Given.end qs h = refl
asks_first (Given.list (listed.Declarators true)) qs h = absurd (false≢true h)
asks_first (Given.list _) qs h = absurd (false≢true h)
asks_first _ qs h = absurd (false≢true h)

pub pieces_on : {s m e : CursorState} {old mid new : List Pair} {r : Bool} {b c d : PartialStatement} (xs : List Coded) (none_there : Coded) (i : ℕ) → m.text ≡ s.text → i < length xs → LeftOf r (map piece_of xs) (map piece_of (drop i xs)) s m old mid b c →
    SameOf m.text r (piece_of (get_or xs i none_there)) m e mid new c d → LeftOf r (map piece_of xs) (map piece_of (drop (i + 1) xs)) s e old new b d
pieces_on {m = m} {r = r} xs z i text h left same o y ps to P edges given own =
    let v = ahead xs z i h (left o y ps to P edges given own) in
    let g = v.left.given in
    left_on v.left (same o g.mid v.left.right g.right g.put g.put_pairs (subst (λ w. PieceGiven w r o (piece_of (get_or xs i z)) m.last g.mid v.left.right g.right g.put g.put_pairs) (sym text) g.first) (λ k. v.left.known (asks_first (piece_of (get_or xs i z)) (map piece_of (drop (i + 1) xs)) k)) (subst (λ w. AllOfLanguage w g.put) (sym text) v.own))

-- a piece is refused
abbrev pub RefusedOf : SourceText → Bool → Piece → CursorState → PartialStatement → ℕ → Fault → Type 0
RefusedOf text r q m c high fault = (o : ℕ) (to : Token) (x y : Edge) (put : Parts) (P : List Pair) → PieceGiven text r o q m.last to x y put P → (asks_edge (q ∷ []) ≡ true → x ≡ c.edge) → AllOfLanguage text put → Refuses (Room m o (parts_height put) high) fault

pub pieces_err : {s m : CursorState} {old mid : List Pair} {r : Bool} {b c : PartialStatement} (e : CursorState) (new : List Pair) (high : ℕ) (nodes : Parts) (result : Result (Unit {0}) Fault) (xs : List Coded) (none_there : Coded) (i : ℕ) (fault : Fault) → m.text ≡ s.text → i < length xs → m.opened ≡ s.opened →
    LeftOf r (map piece_of xs) (map piece_of (drop i xs)) s m old mid b c → IsErrAnd result (λ k. k ≡ fault) → RefusedOf m.text r (piece_of (get_or xs i none_there)) m c high fault →
    (o : ℕ) (y : Edge) (ps : Parts) (to : Token) (P : List Pair) → has_edges (map piece_of xs) ≡ true → PiecesGiven s.text r o (map piece_of xs) s.last to b.edge y ps P →
    AllOfLanguage s.text ps → Agrees (Room s o (parts_height ps) high) (λ u. (nodes ≡ join b.nodes ps) × EndsWith s e old new to P) result
pieces_err {s} {m} {old} {r = r} {b = b} e new high nodes result xs z i fault text h same left is f o y ps to P edges given own =
    let v = ahead xs z i h (left o y ps to P edges given own) in
    let g = v.left.given in
    agrees_on (Room m o (parts_height g.put) high) (Room s o (parts_height ps) high) (λ (u : Unit {0}). (nodes ≡ join b.nodes ps) × EndsWith s e old new to P) result fault is
    (f o g.mid v.left.right g.right g.put g.put_pairs (subst (λ w. PieceGiven w r o (piece_of (get_or xs i z)) m.last g.mid v.left.right g.right g.put g.put_pairs) (sym text) g.first) (λ k. v.left.known (asks_first (piece_of (get_or xs i z)) (map piece_of (drop (i + 1) xs)) k)) (subst (λ w. AllOfLanguage w g.put) (sym text) v.own))
    (room_part s m same (v.low high))

-- memory is refused
pub pieces_memory : {s m : CursorState} {old mid : List Pair} {r : Bool} {b c : PartialStatement} (e : CursorState) (new : List Pair) (high : ℕ) (nodes : Parts) (result : Result (Unit {0}) Fault) (xs : List Coded) (i : ℕ) (fault : Fault) → m.text ≡ s.text → i < length xs → m.opened ≡ s.opened →
    LeftOf r (map piece_of xs) (map piece_of (drop i xs)) s m old mid b c → IsErrAnd result (λ k. k ≡ fault) → fault ≡ OutOfMemory → (o : ℕ) (y : Edge) (ps : Parts) (to : Token) (P : List Pair) → has_edges (map piece_of xs) ≡ true → PiecesGiven s.text r o (map piece_of xs) s.last to b.edge y ps P →
    AllOfLanguage s.text ps → Agrees (Room s o (parts_height ps) high) (λ u. (nodes ≡ join b.nodes ps) × EndsWith s e old new to P) result
pieces_memory {m = m} e new high nodes result xs i fault text h same left is memory = pieces_err e new high nodes result xs code.NoCatchParameter i fault text h same left is (λ o to x y put P g at own. refuses_memory (Room m o (parts_height put) high) fault memory)

-- all of them were read
pub pieces_ok : {s e : CursorState} {old new : List Pair} {r : Bool} {b c : PartialStatement} (high : ℕ) (xs : List Coded) (i : ℕ) → i ≡ length xs → LeftOf r (map piece_of xs) (map piece_of (drop i xs)) s e old new b c → SymbolsComplete s e old new high (map piece_of xs) r b c (Ok tt)
pieces_ok {s} {e} {old} {new} {r} {b} {c} high xs i h left o y ps to P edges given own =
    let v = subst (λ qs. Left s.text r o qs s e old new b c y to ps P) (ap (λ n. map piece_of (drop n xs)) h ∙ ap (λ qs. map piece_of qs) (all_dropped xs)) (left o y ps to P edges given own) in (
      v.nodes ∙ ap (join b.nodes) (sym (v.parts ∙ ap (join v.before) v.given.2 ∙ join-none v.before)),
      record { place = sym v.given.0; more = v.ends.more; added = v.ends.added; pairs = v.ends.pairs ∙ sym (v.pairs ∙ ap (λ k. v.read_pairs ++ k) v.given.3 ∙ append-nil v.read_pairs) },
    )
