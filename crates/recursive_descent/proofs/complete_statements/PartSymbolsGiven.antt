-- What is given of a piece that is bound, a statement, or statements (ECMA-262 13.1, 13.2, 13.3, 13.6, 13.15).
use Rattle.std.proofs.Common.{◌≡◌, ℕ, Bool, true, false, ◌&&◌, List, Result, Ok, Err, Some, refl, sym, ap, ◌∙◌, subst, inl, inr}
use Rattle.std.proofs.lemmas.Bool.{false≢true, true≢false}
use Rattle.source_text.specs.declared.fault.Fault.{Fault}
use Rattle.token_cursor.specs.CursorState.{CursorState}
use Rattle.tree.specs.declared.kind.Pair.{Pair}
use Rattle.tree.specs.Tree.{Tree, Parts, join, push, height, parts_height}
use Rattle.tree.proofs.Shapes.{push-join}
use Rattle.covers.specs.Shapes.{is_pattern, is_element}
use Rattle.language.specs.declared.Edge.{Edge}
use Rattle.language.specs.declared.Rank.TheVariants.{Primary}
use Rattle.language.specs.declared.Start.TheVariants.{Any}
use Rattle.language.specs.Covers.{as_pattern}
use Rattle.language.specs.Token.{Token}
use Rattle.language.proofs.covers.CoverElements.{BoundForm, bound_form}
use Rattle.language.proofs.covers.CoverElements as form
use Rattle.token_cursor.proofs.SeenTokens.{seen_determined}
use Rattle.parser_tables.specs.declared.operand.Operand.{Operand}
use Rattle.parser_tables.specs.declared.symbol_lists.PartialStatement.{PartialStatement}
use Rattle.parser_tables.specs.declared.symbol_lists.Symbol.{Symbol as Coded}
use Rattle.parser_tables.specs.declared.symbol_lists.Symbol.TheVariants as code
use Rattle.recursive_descent.specs.declared.statement_symbols.Expected.TheVariants as wanted
use Rattle.parser_tables.specs.declared.expression_context.ExpressionContext.{ExpressionContext}
use Rattle.parser_tables.specs.declared.statements.StatementContext.{StatementContext}
use Rattle.parser_tables.specs.declared.statements.StatementListEnd.{StatementListEnd}
use Rattle.parser_tables.specs.declared.statements.StatementListEnd.TheVariants as until
use Rattle.recursive_descent.specs.Complete.{OperandComplete, StatementComplete, StatementsComplete}
use Rattle.recursive_descent.specs.SoundnessOfStatements.{TargetPut}
use Rattle.recursive_descent.specs.Completeness.{Room, EndsWith, FirstAs}
use Rattle.recursive_descent.specs.Completeness as given
use Rattle.recursive_descent.specs.CompletenessOfStatements.{PieceGiven, StatementGiven, ItemsGiven}
use Rattle.language.specs.Promises.{Apart}
use Rattle.parser_tables.specs.Outcomes.{RefusedUnless}
use Rattle.parser_tables.specs.StatementSymbols.{piece_of}
use Rattle.parser_tables.specs.StatementNodes.{put_node, takes_put, with_part, inner_context, item_context}
use Rattle.recursive_descent.specs.Expectations.{ExpectedAt}
use Rattle.recursive_descent.proofs.complete_expressions.Agreement.{refuses_on, refuses_unless, room_part, ends_behind, words_same, not_missed}
use Rattle.recursive_descent.proofs.sound_statements.PartSymbols.{wanted_nodes}
use Rattle.recursive_descent.proofs.complete_statements.SymbolsLeft.{SameOf, RefusedOf}
use Rattle.recursive_descent.proofs.complete_statements.ValueSymbolsGiven.{read_shape, one_high, one_own}
use Rattle.recursive_descent.proofs.complete_statements.SymbolViews.{something, BindingPiece, binding_of_binding, wants_binding, StatementPiece, statement_of_statement, statement_of_else, wants_statement, ItemsPiece, items_of_items, items_of_consequent, wants_items}
use Rattle.token_cursor.specs.SourceText.{SourceText, SeenNext, behind_in}
use Rattle.recursive_descent.specs.Spelled.{SpellsIn, AllOfLanguage}

-- a name or a pattern, as it is read first
first_bound : {text : SourceText} {o : ℕ} {s e : Token} {P : List Pair} {n : Tree} {pos : ExpressionContext} → pos ≡ record { rank = Primary; has_in = true; start = Any } → BoundForm Token (SeenNext text) (behind_in text) (seen_determined text) true o n s e P → Apart Token (SeenNext text) (behind_in text) e → FirstAs text pos o n s e P (as_pattern true) Primary
first_bound {text} {o} {s} {e} {P} {n} is (form.a_pattern d) apart = subst (λ z. FirstAs text z o n s e P (as_pattern true) Primary) (sym is) (given.a_pattern d)
first_bound {text} {o} {s} {e} {P} {n} is (form.a_simple (form.a_name b d)) apart = subst (λ z. FirstAs text z o n s e P (as_pattern true) Primary) (sym is) (given.a_name d (record { arrow = λ h. cc; parenthesis = λ h. cc; apart = apart }))
first_bound is (form.a_simple (form.a_target b t d)) apart = absurd (true≢false b)

both_are : (a b c : Bool) → (a && b) ≡ true → c ≡ true → (a && c) ≡ true
both_are true b c h k = k
both_are false b c h k = absurd (false≢true h)

-- what is bound
binding_given : (r : Bool) (s m : CursorState) (b c : PartialStatement) (high : ℕ) (p : Coded) → ExpectedAt p r s m b c high wanted.Binding → (o : ℕ) (to : Token) (x y : Edge) (put : Parts) (P : List Pair) → PieceGiven s.text r o (piece_of p) s.last to x y put P →
    TargetPut s.text o true m.last to put P × (p ≡ code.Binding)
binding_given r s m b c high p h o to x y put P g = of (wants_binding p r s m b c high h) h g
  where
    of : {p : Coded} → BindingPiece p → ExpectedAt p r s m b c high wanted.Binding → PieceGiven s.text r o (piece_of p) s.last to x y put P → TargetPut s.text o true m.last to put P × (p ≡ code.Binding)
    of binding_of_binding h g = (subst (λ z. TargetPut s.text o true z to put P) (sym h.1.0) g.0, refl)

-- no other name stands behind it
binding_apart : (r : Bool) (s m : CursorState) (b c : PartialStatement) (high : ℕ) (p : Coded) → ExpectedAt p r s m b c high wanted.Binding → (o : ℕ) (to : Token) (x y : Edge) (put : Parts) (P : List Pair) → PieceGiven s.text r o (piece_of p) s.last to x y put P →
    Apart Token (SeenNext s.text) (behind_in s.text) to
binding_apart r s m b c high p h o to x y put P g = of (wants_binding p r s m b c high h) g
  where
    of : {p : Coded} → BindingPiece p → PieceGiven s.text r o (piece_of p) s.last to x y put P → Apart Token (SeenNext s.text) (behind_in s.text) to
    of binding_of_binding g = g.1

module _ (r : Bool) (s m : CursorState) (b c : PartialStatement) (high : ℕ) (pos : ExpressionContext) (p : Coded) (same : m.text ≡ s.text) (h : ExpectedAt p r s m b c high wanted.Binding) (is_position : pos ≡ record { rank = Primary; has_in = true; start = Any }) where
  bound_first : (o : ℕ) (to : Token) (x y : Edge) (put : Parts) (P : List Pair) (g : PieceGiven s.text r o (piece_of p) s.last to x y put P) → FirstAs m.text pos o (binding_given r s m b c high p h o to x y put P g).0.put m.last to P (as_pattern true) Primary
  bound_first o to x y put P g =
      let v = (binding_given r s m b c high p h o to x y put P g).0 in
      subst (λ z. FirstAs z pos o v.put m.last to P (as_pattern true) Primary) (sym same) (first_bound is_position (bound_form Token (SeenNext s.text) (behind_in s.text) (seen_determined s.text) true v.put v.target.it_is v.target.spelled) (binding_apart r s m b c high p h o to x y put P g))

  pub binding_refused : (e : CursorState) (mid new : List Pair) (fault : Fault) → m.opened ≡ s.opened → OperandComplete m e mid new high pos (Err fault) → RefusedOf s.text r (piece_of p) s b high fault
  binding_refused e mid new fault open_same complete o to x y put P g at own =
      let v = (binding_given r s m b c high p h o to x y put P g).0 in
      refuses_on (Room m o (height v.put) high) (Room s o (parts_height put) high) fault (complete (as_pattern true) Primary o v.put to P (bound_first o to x y put P g) (one_own same v.parts own)) (λ room. room_part s m open_same (one_high v.parts) room)

  module _ (e : CursorState) (mid new : List Pair) (k : Operand) (complete : OperandComplete m e mid new high pos (Ok k)) where
    bound_read : (o : ℕ) (to : Token) (x y : Edge) (put : Parts) (P : List Pair) (g : PieceGiven s.text r o (piece_of p) s.last to x y put P) → AllOfLanguage s.text put →
        (put_node p false k.cover.node ≡ (binding_given r s m b c high p h o to x y put P g).0.put) × (takes_put p false k.cover.shape ≡ true) × EndsWith m e mid new to P
    bound_read o to x y put P g own =
        let w = binding_given r s m b c high p h o to x y put P g in
        let u = complete (as_pattern true) Primary o w.0.put to P (bound_first o to x y put P g) (one_own same w.0.parts own) in
        (ap (λ z. put_node z false k.cover.node) w.1 ∙ u.0.read.tree, ap (λ z. takes_put z false k.cover.shape) w.1 ∙ both_are k.cover.shape.binds (is_element k.cover.shape.assigned) (is_pattern k.cover.shape.assigned) u.0.read.fits (read_shape w.0.target.it_is u.0.read), u.1)

    pub binding_unput : (At : ℕ → Type 0) (fault : Fault) → RefusedUnless At (takes_put p false k.cover.shape) fault → RefusedOf s.text r (piece_of p) s b high fault
    binding_unput At fault f o to x y put P g at own = refuses_unless (Room s o (parts_height put) high) At (takes_put p false k.cover.shape) fault f (bound_read o to x y put P g own).1

    pub binding_same : {old : List Pair} {d : PartialStatement} → mid ≡ old → d ≡ with_part c (put_node p false k.cover.node) k.edge → SameOf s.text r (piece_of p) s e old new b d
    binding_same pairs is o to x y put P g at own =
        let w = binding_given r s m b c high p h o to x y put P g in
        let v = bound_read o to x y put P g own in
        record {
          nodes = ap (λ (z : PartialStatement). z.nodes) is ∙ (λ i. push (wanted_nodes p r s m b c high wanted.Binding (something wanted.Binding refl) h i) (v.0 i)) ∙ push-join b.nodes w.0.put ∙ ap (join b.nodes) (sym w.0.parts);
          ends = ends_behind {m = m} pairs (record { place = v.2.place; more = v.2.more; added = v.2.added; pairs = v.2.pairs });
          edge = λ known. (let no : Rattle.recursive_descent.specs.CompletenessOfStatements.knows_edge (piece_of code.Binding) ≡ true = ap (λ z. Rattle.recursive_descent.specs.CompletenessOfStatements.knows_edge (piece_of z)) (sym w.1) ∙ known in cc);
        }

-- a statement
statement_given : (r : Bool) (s m : CursorState) (b c : PartialStatement) (high : ℕ) (p : Coded) → ExpectedAt p r s m b c high wanted.Statement → (o : ℕ) (to : Token) (x y : Edge) (put : Parts) (P : List Pair) → PieceGiven s.text r o (piece_of p) s.last to x y put P →
    StatementGiven s.text r o m.last to put P × (Rattle.recursive_descent.specs.CompletenessOfStatements.knows_edge (piece_of p) ≡ false)
statement_given r s m b c high p h o to x y put P g = of (wants_statement p r s m b c high h) h g
  where
    of : {p : Coded} → StatementPiece p → ExpectedAt p r s m b c high wanted.Statement → PieceGiven s.text r o (piece_of p) s.last to x y put P → StatementGiven s.text r o m.last to put P × (Rattle.recursive_descent.specs.CompletenessOfStatements.knows_edge (piece_of p) ≡ false)
    of statement_of_statement h g = (subst (λ z. StatementGiven s.text r o z to put P) (sym h.1.0) g, refl)
    of statement_of_else h (inl g) = (subst (λ z. StatementGiven s.text r o z to put P) (words_same s.text g.1 h.0).1 g.2, refl)
    of statement_of_else h (inr g) = absurd (not_missed g.1 h.0)

module _ (r : Bool) (s m : CursorState) (b c : PartialStatement) (high : ℕ) (context : StatementContext) (p : Coded) (same : m.text ≡ s.text) (h : ExpectedAt p r s m b c high wanted.Statement) (is_context : context ≡ inner_context r) where
  statement_agrees : (e : CursorState) (mid new : List Pair) (result : Result Tree Fault) → StatementComplete m e mid new high context result → StatementComplete m e mid new high (inner_context r) result
  statement_agrees e mid new result complete = subst (λ z. StatementComplete m e mid new high z result) is_context complete

  pub statement_refused : (e : CursorState) (mid new : List Pair) (fault : Fault) → m.opened ≡ s.opened → StatementComplete m e mid new high context (Err fault) → RefusedOf s.text r (piece_of p) s b high fault
  statement_refused e mid new fault open_same complete o to x y put P g at own =
      let v = (statement_given r s m b c high p h o to x y put P g).0 in
      refuses_on (Room m o (height v.put) high) (Room s o (parts_height put) high) fault
      (statement_agrees e mid new (Err fault) complete o v.put to P (subst (λ z. SpellsIn z o (Rattle.language.specs.Pieces.statement r) v.put m.last to P) (sym same) v.spelled) (subst (λ z. given.FinishedIn z v.put to) (sym same) v.finished) (one_own same v.parts own)) (λ room. room_part s m open_same (one_high v.parts) room)

  pub statement_same : (e : CursorState) {old : List Pair} (mid new : List Pair) (n : Tree) {d : PartialStatement} → StatementComplete m e mid new high context (Ok n) → mid ≡ old → d ≡ with_part c n c.edge → SameOf s.text r (piece_of p) s e old new b d
  statement_same e mid new n complete pairs is o to x y put P g at own =
      let w = statement_given r s m b c high p h o to x y put P g in
      let v = w.0 in
      let u = statement_agrees e mid new (Ok n) complete o v.put to P (subst (λ z. SpellsIn z o (Rattle.language.specs.Pieces.statement r) v.put m.last to P) (sym same) v.spelled) (subst (λ z. given.FinishedIn z v.put to) (sym same) v.finished) (one_own same v.parts own) in
      record {
        nodes = ap (λ (z : PartialStatement). z.nodes) is ∙ (λ i. push (wanted_nodes p r s m b c high wanted.Statement (something wanted.Statement refl) h i) (u.0 i)) ∙ push-join b.nodes v.put ∙ ap (join b.nodes) (sym v.parts);
        ends = ends_behind {m = m} pairs (record { place = u.1.place; more = u.1.more; added = u.1.added; pairs = u.1.pairs });
        edge = λ known. absurd (false≢true (sym w.1 ∙ known));
      }

-- the statements of a block or a case
until_of : {a c : StatementListEnd} → Some (wanted.Items a) ≡ Some (wanted.Items c) → a ≡ c
until_of k = cc

items_given : (r : Bool) (s m : CursorState) (b c : PartialStatement) (high : ℕ) (u : StatementListEnd) (p : Coded) → ExpectedAt p r s m b c high (wanted.Items u) → (o : ℕ) (to : Token) (x y : Edge) (put : Parts) (P : List Pair) → PieceGiven s.text r o (piece_of p) s.last to x y put P →
    ItemsGiven s.text u r false o put m.last to P × (Rattle.recursive_descent.specs.CompletenessOfStatements.knows_edge (piece_of p) ≡ false)
items_given r s m b c high u p h o to x y put P g = of (wants_items p r s m b c high u h) h g
  where
    of : {p : Coded} → ItemsPiece p → ExpectedAt p r s m b c high (wanted.Items u) → PieceGiven s.text r o (piece_of p) s.last to x y put P → ItemsGiven s.text u r false o put m.last to P × (Rattle.recursive_descent.specs.CompletenessOfStatements.knows_edge (piece_of p) ≡ false)
    of items_of_items h g = (subst (λ z. ItemsGiven s.text z r false o put m.last to P) (until_of h.0) (subst (λ z. ItemsGiven s.text until.ClosingBrace r false o put z to P) (sym h.1.0) g), refl)
    of items_of_consequent h g = (subst (λ z. ItemsGiven s.text z r false o put m.last to P) (until_of h.0) (subst (λ z. ItemsGiven s.text until.NextCase r false o put z to P) (sym h.1.0) g), refl)

module _ (r : Bool) (s m : CursorState) (b c : PartialStatement) (high : ℕ) (u : StatementListEnd) (context : StatementContext) (p : Coded) (same : m.text ≡ s.text) (h : ExpectedAt p r s m b c high (wanted.Items u)) (is_context : context ≡ item_context r) where
  items_agree : (e : CursorState) (mid new : List Pair) (result : Result Parts Fault) → StatementsComplete m e mid new high u context result → StatementsComplete m e mid new high u (item_context r) result
  items_agree e mid new result complete = subst (λ z. StatementsComplete m e mid new high u z result) is_context complete

  pub items_refused : (e : CursorState) (mid new : List Pair) (fault : Fault) → m.opened ≡ s.opened → StatementsComplete m e mid new high u context (Err fault) → RefusedOf s.text r (piece_of p) s b high fault
  items_refused e mid new fault open_same complete o to x y put P g at own =
      let v = subst (λ z. ItemsGiven z u r false o put m.last to P) (sym same) (items_given r s m b c high u p h o to x y put P g).0 in
      refuses_on (Room m o (parts_height put) high) (Room s o (parts_height put) high) fault (items_agree e mid new (Err fault) complete put o to P refl v.0 v.1 (subst (λ z. AllOfLanguage z put) (sym same) own)) (λ room. room_part s m open_same (λ low. low) room)

  pub items_same : (e : CursorState) {old : List Pair} (mid new : List Pair) (ps : Parts) {d : PartialStatement} → StatementsComplete m e mid new high u context (Ok ps) → mid ≡ old → d.nodes ≡ join c.nodes ps → SameOf s.text r (piece_of p) s e old new b d
  items_same e mid new ps complete pairs is o to x y put P g at own =
      let w = items_given r s m b c high u p h o to x y put P g in
      let v = subst (λ z. ItemsGiven z u r false o put m.last to P) (sym same) w.0 in
      let w1 = items_agree e mid new (Ok ps) complete put o to P refl v.0 v.1 (subst (λ z. AllOfLanguage z put) (sym same) own) in
      record {
        nodes = is ∙ (λ i. join (wanted_nodes p r s m b c high (wanted.Items u) (something (wanted.Items u) refl) h i) (w1.0 i));
        ends = ends_behind {m = m} pairs (record { place = w1.1.place; more = w1.1.more; added = w1.1.added; pairs = w1.1.pairs });
        edge = λ known. absurd (false≢true (sym w.1 ∙ known));
      }
