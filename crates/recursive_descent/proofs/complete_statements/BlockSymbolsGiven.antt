-- What is given of a piece that is a block, a body or a handler, against what was read of it (ECMA-262 13.2, 13.15, 14.1).
use Rattle.std.proofs.Common.{◌≡◌, ℕ, suc, ◌-◌, ◌≤◌, ◌<◌, Bool, true, false, List, [], Result, Ok, Err, Some, refl, sym, ap, ◌∙◌, subst, inl, inr, arith}
use Rattle.std.specs.Prelude.{codes}
use Rattle.std.proofs.lemmas.Bool.{false≢true}
use Rattle.source_text.specs.declared.fault.Fault.{Fault}
use Rattle.tokens.specs.declared.token.TokenClass.TheVariants.{Punctuator}
use Rattle.tokens.specs.declared.token.Goal.TheVariants.{Div}
use Rattle.token_cursor.specs.CursorState.{CursorState}
use Rattle.tree.specs.declared.kind.Kind.TheVariants.{BlockStatement, CatchClause}
use Rattle.tree.specs.declared.kind.Pair.{Pair}
use Rattle.tree.specs.Tree.{Tree, node, plain, Parts, none, part, join, push, height, parts_height}
use Rattle.tree.proofs.Shapes.{push-join}
use Rattle.language.specs.declared.Edge.{Edge}
use Rattle.language.specs.Statements.{prologue}
use Rattle.language.specs.Token.{Token, is_mark}
use Rattle.parser_tables.specs.declared.symbol_lists.PartialStatement.{PartialStatement}
use Rattle.parser_tables.specs.declared.symbol_lists.Symbol.{Symbol as Coded}
use Rattle.parser_tables.specs.declared.symbol_lists.Symbol.TheVariants as code
use Rattle.recursive_descent.specs.declared.statement_symbols.Expected.TheVariants as wanted
use Rattle.parser_tables.specs.declared.statements.StatementContext.{StatementContext}
use Rattle.parser_tables.specs.declared.statements.StatementListEnd.TheVariants as until
use Rattle.recursive_descent.specs.Complete.{StatementsComplete, SymbolsComplete}
use Rattle.recursive_descent.specs.Completeness.{Room, EndsWith}
use Rattle.recursive_descent.specs.CompletenessOfStatements.{PieceGiven, knows_edge}
use Rattle.parser_tables.specs.StatementSymbols.{Piece, piece_of, CatchParts}
use Rattle.token_cursor.specs.Seen.{ReadsHere, Misses, SeesBy}
use Rattle.parser_tables.specs.StatementNodes.{with_part, item_context, partial_of}
use Rattle.parser_tables.specs.Tests.{ends}
use Rattle.recursive_descent.specs.Expectations.{ExpectedAt}
use Rattle.recursive_descent.proofs.complete_expressions.Agreement.{refuses_on, refuses_high, room_part, ends_behind, marks_same, words_same, not_missed}
use Rattle.recursive_descent.proofs.complete_statements.BlocksGiven.{Braced, block_given, body_given, HandlerGiven, handler_given, caught_pieces}
use Rattle.recursive_descent.proofs.sound_statements.BlockSymbols.{place_name}
use Rattle.recursive_descent.proofs.sound_statements.PartSymbols.{wanted_nodes}
use Rattle.recursive_descent.proofs.complete_statements.SymbolsLeft.{SameOf, RefusedOf}
use Rattle.token_cursor.proofs.TokensAhead.{mark_by}
use Rattle.recursive_descent.proofs.complete_statements.SymbolViews.{something, BlockPiece, block_of_block, block_of_body, block_of_finally, wants_block, HandlerPiece, handler_of_catch, wants_handler}
use Rattle.token_cursor.specs.SourceText.{SourceText}
use Rattle.recursive_descent.specs.Spelled.{OfLanguage, AllOfLanguage}
use Rattle.recursive_descent.proofs.reading.LanguageTrees.{first_of_language, parts_of_language}

context_of : {a b : StatementContext} → Some (wanted.Block a) ≡ Some (wanted.Block b) → b ≡ a
context_of h = cc

-- a block that a piece wants
record BlockWanted (text : SourceText) (p : Coded) (context : StatementContext) (o : ℕ) (m e : Token) (put : Parts) (P : List Pair) : Type 0 where
  tree : Tree
  parts : put ≡ part tree none
  braced : Braced text BlockStatement o (prologue context.returns context.is_prologue [] []) tree m e P
  items : context.is_item ≡ true
  edge : knows_edge (piece_of p) ≡ false

plain_block : {text : SourceText} (p : Coded) (r : Bool) {context : StatementContext} {o : ℕ} {m e : Token} {put : Parts} {P : List Pair} → knows_edge (piece_of p) ≡ false → context ≡ item_context r → Rattle.recursive_descent.specs.SoundnessOfStatements.PutAt text o (Rattle.language.specs.Pieces.block r) m e put P → BlockWanted text p context o m e put P
plain_block {text} p r {o = o} {m} {e} {put} {P} edge is g = subst (λ z. BlockWanted text p z o m e put P) (sym is) (record { tree = g.put; parts = g.parts; braced = block_given text r g.spelled; items = refl; edge = edge })

block_wanted : (r : Bool) (s m : CursorState) (b c : PartialStatement) (high : ℕ) (context : StatementContext) (p : Coded) → ExpectedAt p r s m b c high (wanted.Block context) → (o : ℕ) (to : Token) (x y : Edge) (put : Parts) (P : List Pair) → PieceGiven s.text r o (piece_of p) s.last to x y put P → BlockWanted s.text p context o m.last to put P
block_wanted r s m b c high context p h o to x y put P g = of (wants_block p r s m b c high context h) h g
  where
    of : {p : Coded} → BlockPiece p → ExpectedAt p r s m b c high (wanted.Block context) → PieceGiven s.text r o (piece_of p) s.last to x y put P → BlockWanted s.text p context o m.last to put P
    of block_of_block h g = subst (λ z. BlockWanted s.text code.Block context o z to put P) (sym h.1.0) (plain_block code.Block r refl (context_of h.0) g)
    of block_of_body h g = subst (λ z. BlockWanted s.text code.FunctionBody context o z to put P) (sym h.1.0) (subst (λ z. BlockWanted s.text code.FunctionBody z o s.last to put P) (sym (context_of h.0)) (record { tree = g.put; parts = g.parts; braced = body_given s.text g.spelled; items = refl; edge = refl }))
    of block_of_finally h (inl g) = subst (λ z. BlockWanted s.text code.Finally context o z to put P) (words_same s.text g.1 h.0.0).1 (plain_block code.Finally r refl h.0.1 g.2)
    of block_of_finally h (inr g) = absurd (not_missed g.1 h.0.0)

sees_brace : (text : SourceText) {s e : Token} → ReadsHere text Punctuator (codes "}") s e → SeesBy text Div (ends until.ClosingBrace) s
sees_brace text {e = e} r = (e, (mark_by text r, λ i. is_mark (codes "}") (record { class = r.class i; text = r.text i; start = e.start; stop = e.stop; after_break = e.after_break })))

module _ (r : Bool) (s m : CursorState) (b c : PartialStatement) (high : ℕ) (context : StatementContext) (p : Coded) (same : m.text ≡ s.text) (open_same : m.opened ≡ s.opened) (h : ExpectedAt p r s m b c high (wanted.Block context)) where
  pub block_unopened : (fault : Fault) → Misses m.text Punctuator (codes "{") m.last → RefusedOf s.text r (piece_of p) s b high fault
  block_unopened fault misses o to x y put P g at own =
      let v = block_wanted r s m b c high context p h o to x y put P g in
      absurd (not_missed misses (subst (λ z. ReadsHere z Punctuator (codes "{") m.last v.braced.left) (sym same) v.braced.opens))

  module _ (x : CursorState) (inner : ℕ) (text : x.text ≡ m.text) (opened : x.opened ≡ m.opened) (left : ReadsHere m.text Punctuator (codes "{") m.last x.last) (lower : inner ≡ high - 1) where
    inside : {o : ℕ} {to : Token} {put : Parts} {P : List Pair} (v : BlockWanted s.text p context o m.last to put P) → Rattle.recursive_descent.specs.Soundness.RunsIn x.text o (Rattle.recursive_descent.specs.Soundness.anywhere (prologue context.returns context.is_prologue [] [] v.braced.parts)) v.braced.parts x.last v.braced.mid P
    inside {o} {to} {put} {P} v =
        let at = (marks_same s.text v.braced.opens (subst (λ z. ReadsHere z Punctuator (codes "{") m.last x.last) same left)).1 in
        let qs = Rattle.recursive_descent.specs.Soundness.anywhere (prologue context.returns context.is_prologue [] [] v.braced.parts) in
        subst (λ z. Rattle.recursive_descent.specs.Soundness.RunsIn z o qs v.braced.parts x.last v.braced.mid P) (sym (text ∙ same)) (subst (λ z. Rattle.recursive_descent.specs.Soundness.RunsIn s.text o qs v.braced.parts z v.braced.mid P) at v.braced.runs)

    ended : {o : ℕ} {to : Token} {put : Parts} {P : List Pair} (v : BlockWanted s.text p context o m.last to put P) → SeesBy x.text Div (ends until.ClosingBrace) v.braced.mid
    ended v = subst (λ z. SeesBy z Div (ends until.ClosingBrace) v.braced.mid) (sym (text ∙ same)) (sees_brace s.text v.braced.closes)

    items_own : {o : ℕ} {to : Token} {put : Parts} {P : List Pair} (v : BlockWanted s.text p context o m.last to put P) → AllOfLanguage s.text put → AllOfLanguage x.text v.braced.parts
    items_own v own = subst (λ z. AllOfLanguage z v.braced.parts) (sym (text ∙ same)) (parts_of_language (subst (OfLanguage s.text) v.braced.tree (first_of_language (subst (AllOfLanguage s.text) v.parts own))))

    low_items : {o : ℕ} {to : Token} {put : Parts} {P : List Pair} (v : BlockWanted s.text p context o m.last to put P) → parts_height put ≤ high → suc (parts_height v.braced.parts) ≤ high
    low_items {put = put} v low =
        let whole : parts_height put ≡ parts_height (part v.tree none) = ap parts_height v.parts in
        let tall : height v.tree ≡ suc (parts_height v.braced.parts) = ap height v.braced.tree in
        omega arith

    pub block_items_refused : (k : CursorState) (q1 q2 : List Pair) (fault : Fault) → StatementsComplete x k q1 q2 inner until.ClosingBrace context (Err fault) → RefusedOf s.text r (piece_of p) s b high fault
    block_items_refused k q1 q2 fault complete o to z y put P g at own =
        let v = block_wanted r s m b c high context p h o to z y put P g in
        refuses_on (Room x o (parts_height v.braced.parts) inner) (Room s o (parts_height put) high) fault (complete v.braced.parts o v.braced.mid P v.items (inside v) (ended v) (items_own v own))
        (λ room. room_part s x (opened ∙ open_same) (λ low. let t = low_items v low in omega arith) room)

    module _ (k : CursorState) (q1 q2 : List Pair) (list : Parts) (complete : StatementsComplete x k q1 q2 inner until.ClosingBrace context (Ok list)) where
      pub block_unclosed : (fault : Fault) → k.text ≡ x.text → Misses k.text Punctuator (codes "}") k.last → RefusedOf s.text r (piece_of p) s b high fault
      block_unclosed fault t2 misses o to z y put P g at own =
          let v = block_wanted r s m b c high context p h o to z y put P g in
          let u = complete v.braced.parts o v.braced.mid P v.items (inside v) (ended v) (items_own v own) in
          absurd (not_missed misses (subst (λ w. ReadsHere w Punctuator (codes "}") k.last to) (sym (t2 ∙ text ∙ same)) (subst (λ w. ReadsHere s.text Punctuator (codes "}") w to) (sym u.1.place) v.braced.closes)))

      pub block_high : (fault : Fault) → fault ≡ Rattle.source_text.specs.declared.fault.Fault.TheVariants.TooDeep → high < suc (parts_height list) → RefusedOf s.text r (piece_of p) s b high fault
      block_high fault is above o to z y put P g at own =
          let v = block_wanted r s m b c high context p h o to z y put P g in
          let u = complete v.braced.parts o v.braced.mid P v.items (inside v) (ended v) (items_own v own) in
          refuses_high (Room s o (parts_height put) high) (suc (parts_height list)) high fault is above (λ room. subst (λ w. suc (parts_height w) ≤ high) (sym u.0) (low_items v room.1))

      pub block_same : {e : CursorState} {old new q0 : List Pair} {n : Tree} {d : PartialStatement} {at : ℕ} → q0 ≡ old → q1 ≡ q0 → new ≡ q2 → k.text ≡ x.text → x.last.start ≡ at → ReadsHere k.text Punctuator (codes "}") k.last e.last → n ≡ node BlockStatement [] plain at e.last.stop list → d ≡ with_part c n c.edge → SameOf s.text r (piece_of p) s e old new b d
      block_same {e} {old} {new} {n = n} {at = at} p0 p1 p2 t2 start right made is o to z y put P g k2 own =
          let v = block_wanted r s m b c high context p h o to z y put P g in
          let u = complete v.braced.parts o v.braced.mid P v.items (inside v) (ended v) (items_own v own) in
          let first = (marks_same s.text v.braced.opens (subst (λ w. ReadsHere w Punctuator (codes "{") m.last x.last) same left)).1 in
          let close = subst (λ w. ReadsHere w Punctuator (codes "}") k.last e.last) (t2 ∙ text ∙ same) right in
          let last : e.last ≡ to = (marks_same s.text close (subst (λ w. ReadsHere s.text Punctuator (codes "}") w to) (sym u.1.place) v.braced.closes)).1 in
          let from : v.braced.left.start ≡ at = ap (λ (w : Token). w.start) first ∙ start in
          let tree : n ≡ v.tree = made ∙ (λ i. node BlockStatement [] plain (sym from i) ((last i).stop) (u.0 i)) ∙ sym v.braced.tree in
          record {
            nodes = ap (λ (w : PartialStatement). w.nodes) is ∙ (λ i. push (wanted_nodes p r s m b c high (wanted.Block context) (something (wanted.Block context) refl) h i) (tree i)) ∙ push-join b.nodes v.tree ∙ ap (join b.nodes) (sym v.parts);
            ends = record { place = last; more = u.1.more; added = p2 ∙ u.1.added ∙ ap (λ w. Rattle.std.proofs.Common.◌++◌ w u.1.more) (p1 ∙ p0); pairs = u.1.pairs };
            edge = λ known. absurd (false≢true (sym v.edge ∙ known));
          }

-- a handler that a piece wants
record HandlerWanted (text : SourceText) (p : Coded) (r : Bool) (o : ℕ) (s m e : Token) (put : Parts) (P : List Pair) : Type 0 where
  tree : Tree
  parts : put ≡ part tree none
  handler : HandlerGiven text o r tree s e P
  at : handler.word ≡ m
  edge : knows_edge (piece_of p) ≡ false

handler_wanted : (r : Bool) (s m : CursorState) (b c : PartialStatement) (high at : ℕ) (p : Coded) → ExpectedAt p r s m b c high (wanted.Handler at) → (o : ℕ) (to : Token) (x y : Edge) (put : Parts) (P : List Pair) → PieceGiven s.text r o (piece_of p) s.last to x y put P →
    HandlerWanted s.text p r o s.last m.last to put P × (m.last.start ≡ at)
handler_wanted r s m b c high at p h o to x y put P g = of (wants_handler p r s m b c high at h) h g
  where
    of : {p : Coded} → HandlerPiece p → ExpectedAt p r s m b c high (wanted.Handler at) → PieceGiven s.text r o (piece_of p) s.last to x y put P → HandlerWanted s.text p r o s.last m.last to put P × (m.last.start ≡ at)
    of handler_of_catch h (inl g) = (let v = handler_given s.text r g.spelled in record { tree = g.put; parts = g.parts; handler = v; at = (words_same s.text v.reads h.0.0).1; edge = refl }, sym (place_name s h.0.1 h.0.0))
    of handler_of_catch h (inr g) = absurd (false≢true (ap (λ w. Rattle.language.specs.Vocabulary.is w "catch") (sym g.1.1.text ∙ ap (λ (z : Token). z.text) (words_same s.text g.1.1 h.0.0).0 ∙ h.0.0.text)))

module _ (r : Bool) (s m : CursorState) (b c : PartialStatement) (high at inner : ℕ) (first : PartialStatement) (pieces : List Piece) (p : Coded) (same : m.text ≡ s.text) (open_same : m.opened ≡ s.opened) (h : ExpectedAt p r s m b c high (wanted.Handler at)) (is_first : first ≡ partial_of none) (caught : CatchParts m.text m.last pieces) (lower : inner ≡ high - 1) where
  record HandlerAgrees (e : CursorState) (mid new : List Pair) (d : PartialStatement) (result : Result (Unit {0}) Fault) (o : ℕ) (to : Token) (put : Parts) (P : List Pair) : Type 0 where
    wanted_there : HandlerWanted s.text p r o s.last m.last to put P
    agrees : Rattle.recursive_descent.specs.Completeness.Agrees (Room m o (parts_height wanted_there.handler.parts) inner) (λ u. (d.nodes ≡ join first.nodes wanted_there.handler.parts) × EndsWith m e mid new to P) result

  handler_agrees : (e : CursorState) (mid new : List Pair) (d : PartialStatement) (result : Result (Unit {0}) Fault) → SymbolsComplete m e mid new inner pieces r first d result → (o : ℕ) (to : Token) (x y : Edge) (put : Parts) (P : List Pair) → PieceGiven s.text r o (piece_of p) s.last to x y put P → AllOfLanguage s.text put → HandlerAgrees e mid new d result o to put P
  handler_agrees e mid new d result complete o to x y put P g own =
      let v = (handler_wanted r s m b c high at p h o to x y put P g).0 in
      let q = caught_pieces s.text first.edge (subst (λ z. CatchParts z m.last pieces) same caught) (subst (λ z. Rattle.recursive_descent.proofs.complete_statements.BlocksGiven.CaughtGiven s.text o r z to v.handler.parts P) v.at v.handler.caught) in
      record { wanted_there = v; agrees = complete o first.edge v.handler.parts to P q.0 (subst (λ z. Rattle.recursive_descent.specs.CompletenessOfStatements.PiecesGiven z r o pieces m.last to first.edge first.edge v.handler.parts P) (sym same) q.1) (subst (λ z. AllOfLanguage z v.handler.parts) (sym same) (parts_of_language (subst (OfLanguage s.text) v.handler.tree (first_of_language (subst (AllOfLanguage s.text) v.parts own))))) }

  low_handler : {o : ℕ} {to : Token} {put : Parts} {P : List Pair} (v : HandlerWanted s.text p r o s.last m.last to put P) → parts_height put ≤ high → suc (parts_height v.handler.parts) ≤ high
  low_handler {put = put} v low =
      let whole : parts_height put ≡ parts_height (part v.tree none) = ap parts_height v.parts in
      let tall : height v.tree ≡ suc (parts_height v.handler.parts) = ap height v.handler.tree in
      omega arith

  pub handler_refused : (e : CursorState) (mid new : List Pair) (d : PartialStatement) (fault : Fault) → SymbolsComplete m e mid new inner pieces r first d (Err fault) → RefusedOf s.text r (piece_of p) s b high fault
  handler_refused e mid new d fault complete o to x y put P g k own =
      let v = handler_agrees e mid new d (Err fault) complete o to x y put P g own in
      refuses_on (Room m o (parts_height v.wanted_there.handler.parts) inner) (Room s o (parts_height put) high) fault v.agrees (λ room. room_part s m open_same (λ low. let t = low_handler v.wanted_there low in omega arith) room)

  handler_nodes : (d : PartialStatement) {ps : Parts} → d.nodes ≡ join first.nodes ps → d.nodes ≡ ps
  handler_nodes d {ps = ps} is = is ∙ ap (λ (z : PartialStatement). join z.nodes ps) is_first

  pub handler_high : (e : CursorState) (mid new : List Pair) (d : PartialStatement) (fault : Fault) → SymbolsComplete m e mid new inner pieces r first d (Ok tt) → fault ≡ Rattle.source_text.specs.declared.fault.Fault.TheVariants.TooDeep → high < suc (parts_height d.nodes) → RefusedOf s.text r (piece_of p) s b high fault
  handler_high e mid new d fault complete is above o to x y put P g k own =
      let v = handler_agrees e mid new d (Ok tt) complete o to x y put P g own in
      refuses_high (Room s o (parts_height put) high) (suc (parts_height d.nodes)) high fault is above (λ room. subst (λ w. suc (parts_height w) ≤ high) (sym (handler_nodes d v.agrees.0)) (low_handler v.wanted_there room.1))

  pub handler_same : (e : CursorState) {old : List Pair} (mid new : List Pair) (d : PartialStatement) {f : PartialStatement} (n : Tree) → SymbolsComplete m e mid new inner pieces r first d (Ok tt) → mid ≡ old → n ≡ node CatchClause [] plain at e.last.stop d.nodes → f ≡ with_part c n c.edge → SameOf s.text r (piece_of p) s e old new b f
  handler_same e mid new d n complete pairs made is o to x y put P g k own =
      let v = handler_agrees e mid new d (Ok tt) complete o to x y put P g own in
      let w = v.wanted_there in
      let from : w.handler.word.start ≡ at = ap (λ (z : Token). z.start) w.at ∙ (handler_wanted r s m b c high at p h o to x y put P g).1 in
      let tree : n ≡ w.tree = made ∙ (λ i. node CatchClause [] plain (sym from i) ((v.agrees.1.place i).stop) (handler_nodes d v.agrees.0 i)) ∙ sym w.handler.tree in
      record {
        nodes = ap (λ (z : PartialStatement). z.nodes) is ∙ (λ i. push (wanted_nodes p r s m b c high (wanted.Handler at) (something (wanted.Handler at) refl) h i) (tree i)) ∙ push-join b.nodes w.tree ∙ ap (join b.nodes) (sym w.parts);
        ends = ends_behind {m = m} pairs (record { place = v.agrees.1.place; more = v.agrees.1.more; added = v.agrees.1.added; pairs = v.agrees.1.pairs });
        edge = λ known. absurd (false≢true (sym w.edge ∙ known));
      }
