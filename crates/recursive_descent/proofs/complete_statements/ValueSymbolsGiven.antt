-- What is given of a piece that is an expression, what is bound or assigned to, a statement, or statements (ECMA-262 13.3, 13.7, 13.10, 13.15, 14.6).
use Rattle.std.proofs.Common.{◌≡◌, ◌⊎◌, ℕ, ◌≤◌, Bool, true, false, ◌&&◌, List, [], ◌∷◌, Ok, Err, Some, refl, sym, ap, ◌∙◌, subst, inl, inr, arith}
use Rattle.std.specs.Prelude.{codes, Option, None}
use Rattle.std.specs.Bool.{OnTrue, OnFalse}
use Rattle.std.proofs.lemmas.Bool.{false≢true}
use Rattle.std.proofs.lemmas.Option.{none-some}
use Rattle.source_text.specs.declared.fault.Fault.{Fault}
use Rattle.tokens.specs.declared.token.TokenClass.TheVariants.{IdentifierName, Punctuator}
use Rattle.tokens.specs.declared.token.Goal.TheVariants.{Div}
use Rattle.tokens.specs.declared.token.Token.{Token as Scanned}
use Rattle.token_cursor.specs.CursorState.{CursorState}
use Rattle.tree.specs.declared.kind.Kind.{Kind}
use Rattle.tree.specs.declared.kind.Kind.TheVariants.{Identifier, MemberExpression, ArrayPattern, ObjectPattern}
use Rattle.tree.specs.declared.kind.Pair.{Pair}
use Rattle.tree.specs.Tree.{Tree, Parts, none, part, join, push, kind_of, height, parts_height}
use Rattle.tree.proofs.Shapes.{push-join}
use Rattle.covers.specs.declared.shape.CoverShape.{CoverShape}
use Rattle.covers.specs.declared.shape.TargetForm.{TargetForm}
use Rattle.covers.specs.declared.shape.TargetForm.TheVariants as assigned
use Rattle.covers.specs.Shapes.{is_pattern, is_target}
use Rattle.language.specs.declared.Edge.{Edge}
use Rattle.language.specs.declared.Rank.{Rank}
use Rattle.language.specs.declared.Rank.TheVariants.{Expression, Conditional, New}
use Rattle.language.specs.declared.Start.TheVariants.{Any}
use Rattle.language.specs.Covers.{Reading, as_expression, as_pattern}
use Rattle.language.specs.Edges.{edge, edge_as_written}
use Rattle.language.specs.Pieces.{Role, bound}
use Rattle.language.specs.Token.{Token, same_class}
use Rattle.language.specs.Vocabulary.{is_target as is_simple, is_pattern as is_pattern_kind}
use Rattle.language.proofs.table.ForDeclarationWays.{head_form}
use Rattle.token_cursor.proofs.SeenTokens.{seen_determined}
use Rattle.parser_tables.specs.declared.operand.Operand.{Operand}
use Rattle.parser_tables.specs.declared.symbol_lists.PartialStatement.{PartialStatement}
use Rattle.parser_tables.specs.declared.symbol_lists.Symbol.{Symbol as Coded}
use Rattle.parser_tables.specs.declared.symbol_lists.Symbol.TheVariants as code
use Rattle.recursive_descent.specs.declared.statement_symbols.Expected.TheVariants as wanted
use Rattle.parser_tables.specs.declared.expression_context.ExpressionContext.{ExpressionContext}
use Rattle.recursive_descent.specs.Complete.{ExpressionComplete}
use Rattle.recursive_descent.specs.Soundness.{Adds, ReadAt}
use Rattle.recursive_descent.specs.SoundnessOfStatements.{EachAt}
use Rattle.recursive_descent.specs.Completeness.{Room, EndsWith, GivenAs, IsRead}
use Rattle.recursive_descent.specs.Completeness as given
use Rattle.recursive_descent.specs.CompletenessOfStatements.{PieceGiven, ExpressionGiven, HeadGiven, a_declaration, an_expression, a_target, knows_edge}
use Rattle.parser_tables.specs.Outcomes.{RefusedUnless}
use Rattle.parser_tables.specs.StatementSymbols.{piece_of}
use Rattle.token_cursor.specs.Seen.{NoName, Sees, SeesBy, MissesBy, declares}
use Rattle.parser_tables.specs.StatementNodes.{put_node, takes_put, with_part}
use Rattle.parser_tables.specs.Tests.{is_each}
use Rattle.recursive_descent.specs.Expectations.{ExpectedAt, HeadAt}
use Rattle.recursive_descent.proofs.reading.FreeRanks.{no_conditional, no_new}
use Rattle.recursive_descent.proofs.complete_expressions.Agreement.{refuses_on, refuses_unless, room_part, ends_behind, words_same, not_missed}
use Rattle.recursive_descent.proofs.sound_statements.PartSymbols.{position_of, each_at, wanted_nodes}
use Rattle.recursive_descent.proofs.complete_statements.SymbolViews.{something, ExpressionPiece, expression_of_expression, expression_of_assignment, expression_of_test, expression_of_update, expression_of_argument, expression_of_heritage, expression_of_head, wants_expression}
use Rattle.recursive_descent.proofs.complete_statements.SymbolsLeft.{SameOf, RefusedOf}
use Rattle.token_cursor.proofs.TokensAhead.{mark_by}
use Rattle.token_cursor.specs.SourceText.{SourceText, SeenNext, behind_in}
use Rattle.recursive_descent.specs.Spelled.{OfLanguage, AllOfLanguage}
use Rattle.recursive_descent.proofs.reading.LanguageTrees.{first_of_language}

-- an expression that a piece wants, in its reading
record ValueGiven (text : SourceText) (p : Coded) (pos : ExpressionContext) (o : ℕ) (m e : Token) (y : Edge) (put : Parts) (P : List Pair) : Type 0 where
  reading : Reading
  tree : Tree
  parts : put ≡ part tree none
  spelled : GivenAs text pos o tree m e P reading
  fits : (each : Bool) → EachAt text each e → (k : Operand) → IsRead reading k tree → (put_node p each k.cover.node ≡ tree) × (takes_put p each k.cover.shape ≡ true)
  right : knows_edge (piece_of p) ≡ true → (k : Operand) → IsRead reading k tree → k.edge ≡ edge_as_written (edge k.cover.node) e → y ≡ k.edge

-- a simple target, or a pattern
bound_shape : (b : Bool) (k : Kind) {a : Role} → bound b k ≡ Some a → (is_pattern_kind k ≡ true) ⊎ (is_simple k ≡ true)
bound_shape true Identifier h = inr refl
bound_shape true ArrayPattern h = inl refl
bound_shape true ObjectPattern h = inl refl
bound_shape true _ h = absurd (none-some _ h)
bound_shape false Identifier h = inr refl
bound_shape false MemberExpression h = inr refl
bound_shape false ArrayPattern h = inl refl
bound_shape false ObjectPattern h = inl refl
bound_shape false _ h = absurd (none-some _ h)

target_pattern : (a : TargetForm) → is_target a ≡ true → is_pattern a ≡ true
target_pattern assigned.Target h = refl
target_pattern _ h = absurd (false≢true h)

pub read_shape : {b : Bool} {a : Role} {k : Operand} {n : Tree} → bound b (kind_of n) ≡ Some a → IsRead (as_pattern b) k n → is_pattern k.cover.shape.assigned ≡ true
read_shape {b} {a} {k} {n} h read = of (bound_shape b (kind_of n) h)
  where
    of : (is_pattern_kind (kind_of n) ≡ true) ⊎ (is_simple (kind_of n) ≡ true) → is_pattern k.cover.shape.assigned ≡ true
    of (inl x) = read.pattern b refl x
    of (inr x) = target_pattern k.cover.shape.assigned (read.target x)

module _ (text : SourceText) where
  -- behind an expression before `;` stands no `in` and no `of`
  no_each : {e : Token} → SeesBy text Div is_each e → Sees text Punctuator (codes ";") e → ⊥
  no_each {e} each r =
      let t = behind_in text each.0 in
      let u = behind_in text r.0 in
      let same = ((seen_determined text).same Div e t u each.0 r.0 each.1.0.next r.1.next each.1.0.allowed (mark_by text r.1).allowed).0 in
      let class : t.class ≡ Punctuator = ap (λ (z : Token). z.class) same ∙ r.1.class in
      false≢true (ap (λ c. same_class IdentifierName c && Rattle.language.specs.Vocabulary.among t.text ("in" ∷ "of" ∷ [])) (sym class) ∙ each.1.1)

  -- as an expression
  plain_given : {o : ℕ} {y : Rank} {i : Bool} {m e : Token} {x : Edge} {put : Parts} {P : List Pair} {pos : ExpressionContext} (p : Coded) → pos ≡ record { rank = y; has_in = i; start = Any } → (y ≡ Conditional → ⊥) → (y ≡ New → ⊥) → ((each : Bool) (n : Tree) → EachAt text each e → put_node p each n ≡ n) →
      ((each : Bool) (s : CoverShape) → EachAt text each e → takes_put p each s ≡ s.is_expression) → ExpressionGiven text o y i m e x put P → ValueGiven text p pos o m e x put P
  plain_given {o} {y} {i} {m} {e} {x} {put} {P} p is no_test no_new puts takes g = record {
    reading = as_expression;
    tree = g.put;
    parts = g.parts;
    spelled = subst (λ z. GivenAs text z o g.put m e P as_expression) (sym is) (given.an_expression no_test no_new g.spelled g.stopped);
    fits = λ each at k read. (puts each k.cover.node at ∙ read.tree, takes each k.cover.shape at ∙ read.fits);
    right = λ known k read at. g.right ∙ sym (at ∙ ap (λ n. edge_as_written (edge n) e) read.tree);
  }

  -- in the head of a `for`
  head_value : {o : ℕ} {s e : Token} {y : Edge} {put : Parts} {P : List Pair} {pos : ExpressionContext} → pos ≡ record { rank = Expression; has_in = false; start = Any } → NoName text declares s → HeadGiven text o s e put P → ValueGiven text code.ForHead pos o s e y put P
  head_value is none_there (a_declaration each at ends before g) =
      let u = head_form Token (SeenNext text) (behind_in text) (seen_determined text) g.spelled in
      absurd (none_there u.sign_token u.mid (record { next = u.reads.next; class = u.reads.class; text = refl }) (ap declares u.reads.text ∙ u.word))
  head_value {o} {s} {e} {y} {put} {P} {pos} is none_there (an_expression ends g) = record {
    reading = as_expression;
    tree = g.put;
    parts = g.parts;
    spelled = subst (λ z. GivenAs text z o g.put s e P as_expression) (sym is) (given.an_expression (no_conditional refl) (no_new refl) g.spelled g.stopped);
    fits = λ each at k read. of each at k read;
    right = λ known. absurd (false≢true known);
  }
    where
      of : (each : Bool) → EachAt text each e → (k : Operand) → IsRead as_expression k g.put → (put_node code.ForHead each k.cover.node ≡ g.put) × (takes_put code.ForHead each k.cover.shape ≡ true)
      of true at k read = absurd (no_each at ends)
      of false at k read = (read.tree, read.fits)
  head_value {o} {s} {e} {y} {put} {P} {pos} is none_there (a_target seen apart g) = record {
    reading = as_pattern false;
    tree = g.put;
    parts = g.parts;
    spelled = given.a_target is g.target.it_is g.target.spelled seen apart;
    fits = λ each at k read. of each at k read;
    right = λ known. absurd (false≢true known);
  }
    where
      of : (each : Bool) → EachAt text each e → (k : Operand) → IsRead (as_pattern false) k g.put → (put_node code.ForHead each k.cover.node ≡ g.put) × (takes_put code.ForHead each k.cover.shape ≡ true)
      of true at k read = (read.tree, read_shape g.target.it_is read)
      of false at k read = absurd (false≢true (sym (at (behind_in text seen.0) seen.0 seen.1.0) ∙ seen.1.1))

module _ (r : Bool) (s m : CursorState) (b c : PartialStatement) (high : ℕ) (pos : ExpressionContext) (same : m.text ≡ s.text) where
  value_given : (p : Coded) → ExpectedAt p r s m b c high (wanted.Expression pos) → (o : ℕ) (to : Token) (x y : Edge) (put : Parts) (P : List Pair) → PieceGiven s.text r o (piece_of p) s.last to x y put P → ValueGiven s.text p pos o m.last to y put P
  value_given p h o to x y put P g = of (wants_expression p r s m b c high pos h) h g
    where
      of : {p : Coded} → ExpressionPiece p → ExpectedAt p r s m b c high (wanted.Expression pos) → PieceGiven s.text r o (piece_of p) s.last to x y put P → ValueGiven s.text p pos o m.last to y put P
      of expression_of_expression h g = subst (λ z. ValueGiven s.text code.Expression pos o z to y put P) (sym h.1.0) (plain_given s.text code.Expression (position_of h.0) (no_conditional refl) (no_new refl) (λ each n at. refl) (λ each n at. refl) g)
      of expression_of_assignment h g = subst (λ z. ValueGiven s.text code.Assignment pos o z to y put P) (sym h.1.0) (plain_given s.text code.Assignment (position_of h.0) (no_conditional refl) (no_new refl) (λ each n at. refl) (λ each n at. refl) g)
      of expression_of_test h (inl g) = subst (λ z. ValueGiven s.text code.Test pos o z to y put P) (sym h.1.0) (plain_given s.text code.Test h.0.1 (no_conditional refl) (no_new refl) (λ each n at. refl) (λ each n at. refl) g.0)
      of expression_of_test h (inr g) = absurd (not_missed h.0.0 g.1.1)
      of expression_of_update h (inl g) = subst (λ z. ValueGiven s.text code.Update pos o z to y put P) (sym h.1.0) (plain_given s.text code.Update h.0.1 (no_conditional refl) (no_new refl) (λ each n at. refl) (λ each n at. refl) g.0)
      of expression_of_update h (inr g) = absurd (not_missed h.0.0 g.1.1)
      of expression_of_argument h (inl g) = subst (λ z. ValueGiven s.text code.Argument pos o z to y put P) (sym h.1.0) (plain_given s.text code.Argument h.0.1 (no_conditional refl) (no_new refl) (λ each n at. refl) (λ each n at. refl) g.1)
      of expression_of_argument h (inr g) = absurd (false≢true (sym (h.0.0 (behind_in s.text g.1.0) g.1.0 g.1.1.0) ∙ g.1.1.1))
      of expression_of_heritage h (inl g) = subst (λ z. ValueGiven s.text code.ClassHeritage pos o z to y put P) (words_same s.text g.1 h.0.0).1 (plain_given s.text code.ClassHeritage h.0.1 (no_conditional refl) (no_new refl) (λ each n at. refl) (λ each n at. refl) g.2)
      of expression_of_heritage h (inr g) = absurd (not_missed g.1 h.0.0)
      of expression_of_head h (inl g) = head_wanted c.word h.0 g
        where
          head_wanted : (word : Option Scanned) → HeadAt s m (wanted.Expression pos) word → HeadGiven s.text o s.last to put P → ValueGiven s.text code.ForHead pos o m.last to y put P
          head_wanted (Some word) k f = absurd k
          head_wanted None k f = subst (λ z. ValueGiven s.text code.ForHead pos o z to y put P) (sym k.3) (head_value s.text k.2 k.1 f)
      of expression_of_head h (inr g) = head_gap c.word h.0
        where
          head_gap : (word : Option Scanned) → HeadAt s m (wanted.Expression pos) word → ValueGiven s.text code.ForHead pos o m.last to y put P
          head_gap (Some word) k = absurd k
          head_gap None k = absurd (not_missed k.0 g.1.1)

pub one_high : {put : Parts} {n : Tree} {high : ℕ} → put ≡ part n none → parts_height put ≤ high → height n ≤ high
one_high {put} {n} is low = let whole : parts_height put ≡ parts_height (part n none) = ap parts_height is in omega arith

-- it is of the language
pub one_own : {text there : SourceText} {put : Parts} {n : Tree} → there ≡ text → put ≡ part n none → AllOfLanguage text put → OfLanguage there n
one_own {text} {n = n} same is own = subst (λ z. OfLanguage z n) (sym same) (first_of_language (subst (AllOfLanguage text) is own))

-- the expression is refused
pub value_refused : (r : Bool) (s m e : CursorState) (mid new : List Pair) (b c : PartialStatement) (high : ℕ) (pos : ExpressionContext) (p : Coded) (fault : Fault) → m.text ≡ s.text → m.opened ≡ s.opened → ExpectedAt p r s m b c high (wanted.Expression pos) → ExpressionComplete m e mid new high pos (Err fault) →
    RefusedOf s.text r (piece_of p) s b high fault
value_refused r s m e mid new b c high pos p fault same open_same h complete o to x y put P g at own =
    let v = value_given r s m b c high pos same p h o to x y put P g in
    refuses_on (Room m o (height v.tree) high) (Room s o (parts_height put) high) fault (complete v.reading o v.tree to P (subst (λ z. GivenAs z pos o v.tree m.last to P v.reading) (sym same) v.spelled) (one_own same v.parts own)) (λ room. room_part s m open_same (one_high v.parts) room)

module _ (r : Bool) (s m e : CursorState) (mid new : List Pair) (b c : PartialStatement) (high : ℕ) (pos : ExpressionContext) (k : Operand) (p : Coded) (each : Bool) (same : m.text ≡ s.text) (after : e.text ≡ m.text) (h : ExpectedAt p r s m b c high (wanted.Expression pos)) (complete : ExpressionComplete m e mid new high pos (Ok k))
    (seen : OnTrue each (SeesBy e.text Div is_each e.last)) (missed : OnFalse each (MissesBy e.text Div is_each e.last))
  where
    record ValueRead (o : ℕ) (to : Token) (y : Edge) (put : Parts) (P : List Pair) : Type 0 where
      value : ValueGiven s.text p pos o m.last to y put P
      read : IsRead value.reading k value.tree
      ends : EndsWith m e mid new to P
      puts : put_node p each k.cover.node ≡ value.tree
      takes : takes_put p each k.cover.shape ≡ true

    value_read : (o : ℕ) (to : Token) (x y : Edge) (put : Parts) (P : List Pair) → PieceGiven s.text r o (piece_of p) s.last to x y put P → AllOfLanguage s.text put → ValueRead o to y put P
    value_read o to x y put P g own =
        let v = value_given r s m b c high pos same p h o to x y put P g in
        let u = complete v.reading o v.tree to P (subst (λ z. GivenAs z pos o v.tree m.last to P v.reading) (sym same) v.spelled) (one_own same v.parts own) in
        let at : EachAt s.text each to = subst (λ z. EachAt s.text each z) u.1.place (subst (λ z. EachAt z each e.last) (after ∙ same) (each_at e.text e.last each seen missed)) in
        let f = v.fits each at k u.0 in
        record { value = v; read = u.0; ends = u.1; puts = f.0; takes = f.1 }

    -- what it makes is refused
    pub value_unput : (At : ℕ → Type 0) (fault : Fault) → RefusedUnless At (takes_put p each k.cover.shape) fault → RefusedOf s.text r (piece_of p) s b high fault
    value_unput At fault f o to x y put P g at own = refuses_unless (Room s o (parts_height put) high) At (takes_put p each k.cover.shape) fault f (value_read o to x y put P g own).takes

    -- the expression
    pub value_same : {old : List Pair} {d : PartialStatement} → mid ≡ old → Adds m e mid new (ReadAt m.text pos k) → d ≡ with_part c (put_node p each k.cover.node) k.edge → SameOf s.text r (piece_of p) s e old new b d
    value_same pairs a is o to x y put P g at own =
        let v = value_read o to x y put P g own in
        record {
          nodes = ap (λ (z : PartialStatement). z.nodes) is ∙ (λ i. push (wanted_nodes p r s m b c high (wanted.Expression pos) (something (wanted.Expression pos) refl) h i) (v.puts i)) ∙ push-join b.nodes v.value.tree ∙ ap (join b.nodes) (sym v.value.parts);
          ends = ends_behind {m = m} pairs (record { place = v.ends.place; more = v.ends.more; added = v.ends.added; pairs = v.ends.pairs });
          edge = λ known f. v.value.right known k v.read (a.is.part.edge ∙ ap (edge_as_written (edge k.cover.node)) v.ends.place) ∙ sym (ap (λ (z : PartialStatement). z.edge) is);
        }
