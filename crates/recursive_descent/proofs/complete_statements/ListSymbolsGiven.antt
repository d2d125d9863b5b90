-- What is given of a piece that is a list, against what was read of it (ECMA-262 13.3, 13.7, 13.12, 14.1, 14.6).
use Rattle.std.proofs.Common.{◌≡◌, ℕ, ◌-◌, Bool, true, false, List, [], ◌++◌, Ok, Err, refl, sym, ap, ◌∙◌, subst, inl, inr, arith}
use Rattle.std.specs.Prelude.{Option, Some, None}
use Rattle.std.specs.Bool.{OnTrue, OnFalse}
use Rattle.std.proofs.lemmas.Bool.{false≢true}
use Rattle.source_text.specs.declared.fault.Fault.{Fault}
use Rattle.source_text.specs.declared.fault.Fault.TheVariants.{Syntax, TooDeep, OutOfMemory}
use Rattle.tokens.specs.declared.token.TokenClass.TheVariants.{Punctuator}
use Rattle.tokens.specs.declared.token.Goal.TheVariants.{Div}
use Rattle.token_cursor.specs.CursorState.{CursorState}
use Rattle.tree.specs.declared.kind.Pair.{Pair}
use Rattle.tree.specs.Tree.{Parts, none, join, parts_height}
use Rattle.covers.specs.declared.list.ListKind.{ListKind}
use Rattle.covers.specs.declared.list.ListKind.TheVariants as listed
use Rattle.covers.specs.declared.list.ListBuilder.{ListBuilder as ListOf}
use Rattle.covers.specs.Lists.{opening, closing}
use Rattle.language.specs.declared.Edge.{Edge}
use Rattle.language.specs.declared.Start.{Start}
use Rattle.language.specs.declared.Start.TheVariants.{Any}
use Rattle.language.specs.Covers.{Reading, as_expression, as_pattern}
use Rattle.language.specs.Edges.{last_edge, edge_as_written}
use Rattle.language.specs.Token.{Token}
use Rattle.language.specs.Claims.{max_open}
use Rattle.parser_tables.specs.declared.symbol_lists.PartialStatement.{PartialStatement}
use Rattle.parser_tables.specs.declared.symbol_lists.Symbol.{Symbol as Coded}
use Rattle.parser_tables.specs.declared.symbol_lists.Symbol.TheVariants as code
use Rattle.recursive_descent.specs.declared.statement_symbols.Expected.TheVariants as wanted
use Rattle.recursive_descent.specs.Complete.{ListComplete}
use Rattle.recursive_descent.specs.Soundness.{Adds, all_read_as}
use Rattle.recursive_descent.specs.SoundnessOfLists.{SoFarAt, ListAt, ClosedBy, whole_of, asks_edge}
use Rattle.recursive_descent.specs.SoundnessOfStatements.{EachAt}
use Rattle.recursive_descent.specs.Follows.{BegunAt, NotBegun, Unopened}
use Rattle.recursive_descent.specs.Completeness.{Room, EndsWith}
use Rattle.recursive_descent.specs.CompletenessOfLists.{ListGiven}
use Rattle.recursive_descent.specs.CompletenessOfStatements.{PieceGiven, ListPieceGiven}
use Rattle.parser_tables.specs.Items.{list_from}
use Rattle.parser_tables.specs.Outcomes.{RefusedWhere}
use Rattle.parser_tables.specs.StatementSymbols.{piece_of}
use Rattle.token_cursor.specs.Seen.{ReadsHere, SeesBy, MissesBy}
use Rattle.parser_tables.specs.StatementNodes.{with_list, list_parts, list_levels, listed_levels, listed_depth, takes_list, takes_listed}
use Rattle.parser_tables.specs.Tests.{is_each}
use Rattle.recursive_descent.specs.Expectations.{ExpectedAt}
use Rattle.recursive_descent.proofs.complete_expressions.Agreement.{Refuses, refuses_on, refuses_where, room_part, ends_behind, marks_same, not_missed}
use Rattle.recursive_descent.proofs.complete_lists.ForDeclarationsExpected.{head_wanted, head_some}
use Rattle.recursive_descent.proofs.complete_lists.ListsExpected.{ListSame, ListWanted, list_wanted, levels_low}
use Rattle.recursive_descent.proofs.sound_statements.ListSymbols.{is_put, list_added, list_joined, begun_list, stays_before, empty_list, list_of}
use Rattle.recursive_descent.proofs.sound_statements.PartSymbols.{each_at, wanted_nodes}
use Rattle.recursive_descent.proofs.complete_statements.SymbolViews.{something, ListPiece, list_of_list, list_of_head, wants_list}
use Rattle.recursive_descent.proofs.complete_statements.SymbolsLeft.{SameOf, RefusedOf}
use Rattle.token_cursor.specs.SourceText.{SourceText}
use Rattle.recursive_descent.specs.Spelled.{AllOfLanguage}
use Rattle.recursive_descent.proofs.reading.Forward.{place_mark}

-- no template is such a list
no_template : (which : ListKind) → is_put which ≡ true → which ≡ listed.Template → ⊥
no_template which put is = let no : false ≡ true = ap is_put (sym is) ∙ put in cc

-- a list without brackets ends where its last item does
ends_itself : (which : ListKind) (text : SourceText) {m e : Token} → asks_edge which ≡ true → ClosedBy text (closing which) m e → e ≡ m
ends_itself (listed.Sequence i) text asks h = h
ends_itself (listed.Declarators i) text asks h = h
ends_itself _ text asks h = absurd (false≢true asks)

module _ (r : Bool) (s m : CursorState) (b c : PartialStatement) (high : ℕ) (which : ListKind) (p : Coded) (same : m.text ≡ s.text) (h : ExpectedAt p r s m b c high (wanted.List which)) where
  -- what is given of the list
  list_given : (o : ℕ) (to : Token) (x y : Edge) (put : Parts) (P : List Pair) → PieceGiven s.text r o (piece_of p) s.last to x y put P → ListWanted s.text p which c.word o m.last to y put P
  list_given o to x y put P g = of (wants_list p r s m b c high which h) h g
    where
      of : {p : Coded} → ListPiece p → ExpectedAt p r s m b c high (wanted.List which) → PieceGiven s.text r o (piece_of p) s.last to x y put P → ListWanted s.text p which c.word o m.last to y put P
      of (list_of_list {k}) h g =
          subst (λ z. ListWanted s.text (code.List z) which c.word o m.last to y put P) (list_of h.0)
          (subst (λ z. ListWanted s.text (code.List which) which c.word o z to y put P) (sym h.1.0) (list_wanted s.text o which c.word s.last to x y put P (subst (λ z. ListPieceGiven s.text o z s.last to x y put P) (sym (list_of h.0)) g)))
      of list_of_head h (inl g) = head_wanted s.text o c.word which s m to y put P refl h.0 g
      of list_of_head h (inr g) = absurd (head_some s.text o c.word which s m refl h.0 g.1)

  -- its sign stands there
  pub list_unopened : (limit : ℕ) (fault : Fault) → NotBegun which m limit fault → Unopened which fault → RefusedOf s.text r (piece_of p) s b high fault
  list_unopened limit fault f unopened o to x y put P g at own = of fault f unopened (opening which) refl
    where
      v : ListWanted s.text p which c.word o m.last to y put P
      v = list_given o to x y put P g

      of : (fault : Fault) → NotBegun which m limit fault → Unopened which fault → (w : Option (List ℕ)) → opening which ≡ w → Refuses (Room s o (parts_height put) high) fault
      of (Syntax i) f u (Some w) k = absurd (not_missed (f w k) (subst (λ z. ReadsHere z Punctuator w m.last v.first) (sym same) (v.signed w k)))
      of (Syntax i) f u None k = absurd (no_template which v.is_piece (u k))
      of TooDeep f u w k = absurd (no_template which v.is_piece u)
      of OutOfMemory f u w k = tt
      of _ f u w k = absurd f

  module _ (x : CursorState) (limit : ℕ) (l0 : ListOf) (open_same : m.opened ≡ s.opened) (text : x.text ≡ m.text) (opened : x.opened ≡ m.opened) (is : l0.listed ≡ which) (begun : BegunAt m x l0) (lower : limit ≡ high - listed_depth which) where
    first_is : {o : ℕ} {to : Token} {y : Edge} {put : Parts} {P : List Pair} (v : ListWanted s.text p which c.word o m.last to y put P) → v.first ≡ x.last
    first_is v = of (opening which) refl
      where
        of : (w : Option (List ℕ)) → opening which ≡ w → v.first ≡ x.last
        of (Some w) k = (marks_same s.text (v.signed w k) (subst (λ z. ReadsHere z Punctuator w m.last x.last) same (begun.1 w (ap opening is ∙ k)).0)).1
        of None k = v.unsigned k ∙ sym (stays_before which m x {l = l0} v.is_piece is begun k)

    list_is : is_put which ≡ true → l0 ≡ list_from which l0.span.start
    list_is put = begun_list which m x {l = l0} put is begun

    items_given : {o : ℕ} {to : Token} {y : Edge} {put : Parts} {P : List Pair} (v : ListWanted s.text p which c.word o m.last to y put P) → ListGiven x.text l0 v.reading o v.items x.last to P
    items_given {o} {to} {P = P} v =
        subst (λ z. ListGiven x.text z v.reading o v.items x.last to P) (sym (list_is v.is_piece))
        (subst (λ z. ListGiven z (list_from which l0.span.start) v.reading o v.items x.last to P) (sym (text ∙ same)) (subst (λ z. ListGiven s.text (list_from which l0.span.start) v.reading o v.items z to P) (first_is v) (v.given l0.span.start)))

    own_items : {o : ℕ} {to : Token} {y : Edge} {put : Parts} {P : List Pair} (v : ListWanted s.text p which c.word o m.last to y put P) → AllOfLanguage s.text put → AllOfLanguage x.text v.items
    own_items v own = subst (λ z. AllOfLanguage z v.items) (sym (text ∙ same)) (v.own own)

    -- an item is refused, or what closes the list
    pub list_refused : (e : CursorState) (q1 new : List Pair) (fault : Fault) → ListComplete x e q1 new limit l0 (Err fault) → RefusedOf s.text r (piece_of p) s b high fault
    list_refused e q1 new fault complete o to z y put P g at own =
        let v = list_given o to z y put P g in
        refuses_on (Room x o (parts_height v.items) limit) (Room s o (parts_height put) high) fault (complete v.reading o v.items to P (items_given v) (own_items v own)) (λ room. room_part s x (opened ∙ open_same) (λ low. let less = v.low in omega arith) room)

    module _ (e : CursorState) (q1 new : List Pair) (l : ListOf) (each : Bool) (after : e.text ≡ x.text) (complete : ListComplete x e q1 new limit l0 (Ok l)) (kept : (l.listed ≡ l0.listed) × (l.span.start ≡ l0.span.start))
        (a : Adds x e q1 new (λ o k z Q. (f : Start) (w : Token) (P : List Pair) → SoFarAt x.text f l0 o w k P → ListAt x.text f l o w z (P ++ Q))) (seen : OnTrue each (SeesBy e.text Div is_each e.last)) (missed : OnFalse each (MissesBy e.text Div is_each e.last))
      where
        record ListRead (o : ℕ) (to : Token) (y : Edge) (put : Parts) (P : List Pair) : Type 0 where
          ends : EndsWith x e q1 new to P
          read : ListSame p which c.word each put y to l

        list_read : (o : ℕ) (to : Token) (z y : Edge) (put : Parts) (P : List Pair) → PieceGiven s.text r o (piece_of p) s.last to z y put P → AllOfLanguage s.text put → ListRead o to y put P
        list_read o to z y put P g own =
            let v = list_given o to z y put P g in
            let u = complete v.reading o v.items to P (items_given v) (own_items v own) in
            let at : EachAt s.text each to = subst (λ k. EachAt s.text each k) u.2.place (subst (λ k. EachAt k each e.last) (after ∙ text ∙ same) (each_at e.text e.last each seen missed)) in
            let first = list_is v.is_piece in
            let whole = a.is Any x.last [] (subst (λ k. SoFarAt x.text Any k (max_open - x.opened) x.last x.last []) (sym first) (empty_list x.text l0.span.start (max_open - x.opened) x.last which v.is_piece)) in
            let listed_same : l.listed ≡ which = kept.0 ∙ is in
            let nothing_before : all_read_as v.reading l0.nodes ≡ none = ap (λ (k : ListOf). all_read_as v.reading k.nodes) first ∙ none_read v.reading in
            record {
              ends = u.2;
              read = v.puts l each at (subst (λ k. whole_of k l v.reading ≡ true) listed_same u.0) (u.1 ∙ ap (λ k. join k v.items) nothing_before)
                  (λ w k. ap (λ (t : Token). t.start) (first_is v) ∙ sym (kept.1 ∙ place_mark m begun.0 (begun.1 w (ap opening is ∙ k)).0)) (whole.ends ∙ ap (λ (t : Token). t.stop) u.2.place)
                  (λ k. whole.edge (ap asks_edge listed_same ∙ k) ∙ ap (edge_as_written (last_edge l.nodes)) (sym (ends_itself which x.text k (subst (λ n. ClosedBy x.text (closing n) whole.mid e.last) listed_same whole.closes)) ∙ u.2.place));
            }
          where
            none_read : (f : Reading) → all_read_as f none ≡ none
            none_read as_expression = refl
            none_read (as_pattern k) = refl

        -- what it makes is refused
        pub list_unput : (At : ℕ → Type 0) (fault : Fault) → RefusedWhere At (takes_list c.word each l) (list_levels l) high fault → RefusedOf s.text r (piece_of p) s b high fault
        list_unput At fault f o to z y put P g at own =
            let v = list_read o to z y put P g own in
            let low = levels_low which c.word to.stop l in
            let whole : parts_height (list_added which c.word to.stop l.span l.nodes) ≡ parts_height put = ap parts_height v.read.added in
            let levels : list_levels l ≡ listed_levels which l.nodes = ap (λ k. listed_levels k l.nodes) (kept.0 ∙ is) in
            refuses_where (Room s o (parts_height put) high) At (takes_list c.word each l) (list_levels l) high fault f (ap (λ k. takes_listed k c.word each l) (kept.0 ∙ is) ∙ v.read.takes) (λ room. let most = room.1 in omega arith)

        -- the list
        pub list_same : {old q0 : List Pair} {d : PartialStatement} → q0 ≡ old → q1 ≡ q0 → d ≡ with_list c l e.last.stop → SameOf s.text r (piece_of p) s e old new b d
        list_same p0 p1 made o to z y put P g at own =
            let v = list_read o to z y put P g own in
            record {
              nodes = ap (λ (k : PartialStatement). k.nodes) made ∙ ap (λ k. list_parts k c.word e.last.stop l.span c.nodes l.nodes) (kept.0 ∙ is) ∙ list_joined which c.word e.last.stop l.span c.nodes l.nodes
                  ∙ ap (join c.nodes) (ap (λ (t : Token). list_added which c.word t.stop l.span l.nodes) v.ends.place ∙ v.read.added) ∙ ap (λ k. join k put) (wanted_nodes p r s m b c high (wanted.List which) (something (wanted.List which) refl) h);
              ends = ends_behind {m = x} (p1 ∙ p0) v.ends;
              edge = λ known f. v.read.edge known ∙ sym (ap (λ (k : PartialStatement). k.edge) made);
            }
