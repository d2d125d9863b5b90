-- A piece that is a block, a body or a handler (ECMA-262 13.2, 13.15, 14.1).
use Rattle.std.proofs.Common.{◌≡◌, ℕ, ◌-◌, ◌≤◌, Bool, List, [], ◌++◌, refl, sym, ap, ◌∙◌, subst, inl}
use Rattle.std.specs.Prelude.{codes, Some}
use Rattle.tokens.specs.declared.token.TokenClass.TheVariants.{IdentifierName, Punctuator}
use Rattle.token_cursor.specs.CursorState.{CursorState}
use Rattle.tree.specs.declared.kind.Kind.TheVariants.{BlockStatement, CatchClause}
use Rattle.tree.specs.declared.kind.Pair.{Pair}
use Rattle.tree.specs.Tree.{Tree, node, plain, Parts, none, part, height}
use Rattle.language.specs.declared.Edge.{Edge}
use Rattle.language.specs.Pieces.{block, body}
use Rattle.language.specs.Token.{Token}
use Rattle.language.specs.Claims.{max_open}
use Rattle.parser_tables.specs.declared.symbol_lists.PartialStatement.{PartialStatement}
use Rattle.parser_tables.specs.declared.symbol_lists.Symbol.{Symbol as Coded}
use Rattle.recursive_descent.specs.declared.statement_symbols.Expected.TheVariants as wanted
use Rattle.parser_tables.specs.declared.statements.StatementContext.{StatementContext}
use Rattle.recursive_descent.specs.Soundness.{Adds, grouping}
use Rattle.recursive_descent.specs.SoundnessOfStatements.{PieceAt, PutAt, StatementsAt, BuiltAt}
use Rattle.token_cursor.specs.CursorState.{IsPlaceHere}
use Rattle.parser_tables.specs.StatementSymbols.{Piece, piece_of, CatchParts}
use Rattle.token_cursor.specs.Seen.{ReadsHere}
use Rattle.parser_tables.specs.StatementNodes.{with_part, item_context, partial_of}
use Rattle.recursive_descent.specs.Expectations.{ExpectedAt}
use Rattle.recursive_descent.proofs.reading.AddedPairs.{adds_behind}
use Rattle.recursive_descent.proofs.sound_statements.Blocks.{block_spelled, body_spelled, handler_spelled}
use Rattle.recursive_descent.proofs.sound_statements.OneMoreSymbol.{OnePiece}
use Rattle.recursive_descent.proofs.sound_statements.PartSymbols.{one_part}
use Rattle.recursive_descent.proofs.complete_statements.SymbolViews.{something, BlockPiece, block_of_block, block_of_body, block_of_finally, wants_block, HandlerPiece, handler_of_catch, wants_handler}
use Rattle.token_cursor.specs.SourceText.{SourceText}
use Rattle.recursive_descent.specs.Spelled.{SpellsIn}
use Rattle.recursive_descent.proofs.reading.Forward.{place_by}
use Rattle.token_cursor.proofs.TokensAhead.{name_by}

-- between what adds nothing to the pairs
pub adds_within : {m x k e : CursorState} {old mid more new : List Pair} {A B : ℕ → Token → Token → List Pair → Type 0} → x.opened ≡ m.opened → mid ≡ old → Adds x k mid more A → e.opened ≡ k.opened → new ≡ more → ((o : ℕ) (P : List Pair) → A o x.last k.last P → B o m.last e.last P) → Adds m e old new B
adds_within {m} {x} {k} {e} {A = A} o1 p1 a o2 p2 f = record {
  more = a.more;
  same_open = o2 ∙ a.same_open ∙ o1;
  pairs = p2 ∙ a.pairs ∙ ap (λ y. y ++ a.more) p1;
  is = f (max_open - m.opened) (grouping a.more) (subst (λ y. A (max_open - y) x.last k.last (grouping a.more)) o1 a.is);
}

context_of : {a b : StatementContext} → Some (wanted.Block a) ≡ Some (wanted.Block b) → b ≡ a
context_of h = cc

module _ (text : SourceText) (r : Bool) (s m : CursorState) (b c : PartialStatement) (high : ℕ) (context : StatementContext) (o : ℕ) (x k e : Token) (at : ℕ) (ps : Parts) (P : List Pair) (y : Edge)
    (same : text ≡ s.text) (left : ReadsHere text Punctuator (codes "{") m.last x) (start : x.start ≡ at) (items : StatementsAt text context ps o x k P) (right : ReadsHere text Punctuator (codes "}") k e)
  where
    whole_block : context ≡ item_context r → SpellsIn text o (block r) (node BlockStatement [] plain at e.stop ps) m.last e P
    whole_block is = block_spelled text r ps left start (subst (λ z. StatementsAt text z ps o x k P) is items refl) right

    put_by : {p : Coded} → BlockPiece p → ExpectedAt p r s m b c high (wanted.Block context) → PieceAt text r o (piece_of p) s.last e b.edge y (part (node BlockStatement [] plain at e.stop ps) none) P
    put_by block_of_block h = record { put = node BlockStatement [] plain at e.stop ps; parts = refl; spelled = subst (λ z. SpellsIn text o (block r) (node BlockStatement [] plain at e.stop ps) z e P) h.1.0 (whole_block (context_of h.0)) }
    put_by block_of_body h =
        let whole = body_spelled text ps left start (subst (λ z. StatementsAt text z ps o x k P) (context_of h.0) items refl) right in
        (record { put = node BlockStatement [] plain at e.stop ps; parts = refl; spelled = subst (λ z. SpellsIn text o body (node BlockStatement [] plain at e.stop ps) z e P) h.1.0 whole }, right.text)
    put_by block_of_finally h = inl (m.last, subst (λ z. ReadsHere z IdentifierName (codes "finally") s.last m.last) (sym same) h.0.0, record { put = node BlockStatement [] plain at e.stop ps; parts = refl; spelled = whole_block h.0.1 })

    block_put : (p : Coded) → ExpectedAt p r s m b c high (wanted.Block context) → PieceAt text r o (piece_of p) s.last e b.edge y (part (node BlockStatement [] plain at e.stop ps) none) P
    block_put p h = put_by (wants_block p r s m b c high context h) h

pub block_piece : {s m x k e : CursorState} {old q0 q1 q2 new : List Pair} {r : Bool} (p : Coded) {b : PartialStatement} (c : PartialStatement) {d : PartialStatement} {high at : ℕ} {n : Tree} {ps : Parts} (context : StatementContext) → m.text ≡ s.text → x.text ≡ m.text → k.text ≡ x.text → m.opened ≡ s.opened → q0 ≡ old → x.opened ≡ m.opened → q1 ≡ q0 → e.opened ≡ k.opened → new ≡ q2 →
    ExpectedAt p r s m b c high (wanted.Block context) → ReadsHere m.text Punctuator (codes "{") m.last x.last → x.last.start ≡ at → Adds x k q1 q2 (StatementsAt x.text context ps) → ReadsHere k.text Punctuator (codes "}") k.last e.last →
    n ≡ node BlockStatement [] plain at e.last.stop ps → d ≡ with_part c n c.edge → height n ≤ high → OnePiece s e old new r (piece_of p) b d high
block_piece {s} {m} {x} {k} {e} {q0 = q0} {new = new} {r = r} p {b} c {d} {high} {at} {n} {ps} context t0 t1 t2 o0 p0 o1 p1 o2 p2 h left start a right made is low =
    let left' = subst (λ z. ReadsHere z Punctuator (codes "{") m.last x.last) t0 left in
    let right' = subst (λ z. ReadsHere z Punctuator (codes "}") k.last e.last) (t2 ∙ t1 ∙ t0) right in
    one_part p c n c.edge o0 p0 (something (wanted.Block context) refl) h is low
    (λ edges. adds_within o1 p1 a o2 p2 (λ o P v.
    subst (λ z. PieceAt s.text r o (piece_of p) s.last e.last b.edge c.edge (part z none) P) (sym made)
    (block_put s.text r s m b c high context o x.last k.last e.last at ps P c.edge refl left' start (subst (λ z. StatementsAt z context ps o x.last k.last P) (t1 ∙ t0) v) right' p h)))

-- the place of what stands ahead is that of a name there
pub place_name : (p : CursorState) {w : List ℕ} {m : Token} {at : ℕ} → IsPlaceHere p at → ReadsHere p.text IdentifierName w p.last m → at ≡ m.start
place_name p here r = place_by p.text here.1 (name_by p.text r)

-- a handler
handler_put : (text : SourceText) (r : Bool) (s m : CursorState) (b c : PartialStatement) (high at : ℕ) (ps : Parts) (o : ℕ) (e : Token) (P : List Pair) (z y : Edge) {pieces : List Piece} (p : Coded) → text ≡ s.text → ExpectedAt p r s m b c high (wanted.Handler at) → CatchParts text m.last pieces → Rattle.recursive_descent.specs.SoundnessOfStatements.PiecesAt text r o pieces m.last e Rattle.language.specs.declared.Edge.TheVariants.Closed z ps P →
    PieceAt text r o (piece_of p) s.last e b.edge y (part (node CatchClause [] plain at e.stop ps) none) P
handler_put text r s m b c high at ps o e P z y p same h parts d = of (wants_handler p r s m b c high at h) h
  where
    of : {p : Coded} → HandlerPiece p → ExpectedAt p r s m b c high (wanted.Handler at) → PieceAt text r o (piece_of p) s.last e b.edge y (part (node CatchClause [] plain at e.stop ps) none) P
    of handler_of_catch h =
        let read = subst (λ v. ReadsHere v IdentifierName (codes "catch") s.last m.last) (sym same) h.0.0 in
        inl (record { put = node CatchClause [] plain at e.stop ps; parts = refl; spelled = handler_spelled text r _ z read (sym (place_name s h.0.1 h.0.0)) parts d })

pub handler_piece : {s m e : CursorState} {old mid new : List Pair} {r : Bool} (p : Coded) {b : PartialStatement} (c : PartialStatement) {d : PartialStatement} {high : ℕ} {n : Tree} (at : ℕ) (first caught : PartialStatement) {pieces : List Piece} → m.text ≡ s.text → m.opened ≡ s.opened → mid ≡ old →
    ExpectedAt p r s m b c high (wanted.Handler at) → CatchParts m.text m.last pieces → first ≡ partial_of none → Adds m e mid new (BuiltAt m.text r pieces first caught) → n ≡ node CatchClause [] plain at e.last.stop caught.nodes → d ≡ with_part c n c.edge → height n ≤ high → OnePiece s e old new r (piece_of p) b d high
handler_piece {s} {m} {e} {r = r} p {b} c {d} {high} {n} at first caught {pieces} t0 o0 p0 h parts is_first a made is low =
    one_part p c n c.edge o0 p0 (something (wanted.Handler at) refl) h is low
    (λ edges. adds_behind refl refl a (λ o P v.
    let u = subst (λ z. BuiltAt z r pieces (partial_of none) caught o m.last e.last P) t0 (subst (λ z. BuiltAt m.text r pieces z caught o m.last e.last P) is_first v) in
    let tree : n ≡ node CatchClause [] plain at e.last.stop u.added = made ∙ ap (λ qs. node CatchClause [] plain at e.last.stop qs) u.nodes in
    subst (λ z. PieceAt s.text r o (piece_of p) s.last e.last b.edge c.edge (part z none) P) (sym tree)
    (handler_put s.text r s m b c high at u.added o e.last P caught.edge c.edge p refl h (subst (λ z. CatchParts z m.last pieces) t0 parts) u.read)))
