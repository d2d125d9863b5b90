-- A piece that is an expression, what is bound or assigned to, a statement, or statements (ECMA-262 13.3, 13.7, 13.10, 13.15, 14.6).
use Rattle.std.proofs.Common.{◌≡◌, ℕ, ◌≤◌, Bool, true, false, cond, List, [], refl, sym, ap, ◌∙◌, subst, inl, arith}
use Rattle.std.specs.Prelude.{IsTrue, codes, Option, Some, None, ◌&&◌}
use Rattle.std.specs.Bool.{OnTrue, OnFalse}
use Rattle.std.proofs.lemmas.Bool.{false≢true, true≢false}
use Rattle.std.proofs.lemmas.Option.{none-some}
use Rattle.tokens.specs.declared.token.TokenClass.TheVariants.{IdentifierName}
use Rattle.tokens.specs.declared.token.Goal.TheVariants.{Div, RegExp}
use Rattle.tokens.specs.declared.token.Token.{Token as Scanned}
use Rattle.token_cursor.specs.CursorState.{CursorState}
use Rattle.tree.specs.declared.kind.Kind.{Kind}
use Rattle.tree.specs.declared.kind.Pair.{Pair}
use Rattle.tree.specs.Tree.{Tree, Parts, none, part, join, push, kind_of, height, parts_height}
use Rattle.tree.proofs.Shapes.{push-join}
use Rattle.covers.specs.declared.shape.TargetForm.{TargetForm}
use Rattle.covers.specs.declared.shape.TargetForm.TheVariants as assigned
use Rattle.tree.specs.Patterns.{pattern_tree}
use Rattle.covers.specs.Shapes.{is_pattern, is_element}
use Rattle.productions.proofs.PatternSummaries.{same_height}
use Rattle.language.specs.declared.Edge.{Edge}
use Rattle.language.specs.declared.Rank.{Rank}
use Rattle.language.specs.declared.Rank.TheVariants.{LeftHandSide, Primary}
use Rattle.language.specs.declared.Start.TheVariants.{Any}
use Rattle.language.specs.Covers.{as_pattern}
use Rattle.language.specs.Pieces.{Role, expr, name, pattern, bound, statement}
use Rattle.language.specs.Vocabulary.{is_target as is_simple, is_pattern as is_pattern_kind, is_identifier}
use Rattle.language.specs.Statements.{prologue}
use Rattle.language.specs.Token.{Token}
use Rattle.parser_tables.specs.declared.operand.Operand.{Operand}
use Rattle.parser_tables.specs.declared.symbol_lists.PartialStatement.{PartialStatement}
use Rattle.parser_tables.specs.declared.symbol_lists.Symbol.{Symbol as Coded}
use Rattle.parser_tables.specs.declared.symbol_lists.Symbol.TheVariants as code
use Rattle.recursive_descent.specs.declared.statement_symbols.Expected.{Expected}
use Rattle.recursive_descent.specs.declared.statement_symbols.Expected.TheVariants as wanted
use Rattle.parser_tables.specs.declared.expression_context.ExpressionContext.{ExpressionContext}
use Rattle.parser_tables.specs.declared.statements.StatementContext.{StatementContext}
use Rattle.parser_tables.specs.declared.statements.StatementListEnd.{StatementListEnd}
use Rattle.recursive_descent.specs.Soundness.{RunsIn, anywhere, Adds, ReadAt, PartAt, assigned_at, target_at, pattern_at, takes_new, fits_as}
use Rattle.recursive_descent.specs.SoundnessOfStatements.{PieceAt, ExpressionPut, TargetPut, HeadPut, an_expression, a_target, EachAt, StatementAt, StatementsAt, context_role}
use Rattle.parser_tables.specs.StatementSymbols.{piece_of}
use Rattle.token_cursor.specs.Seen.{ReadsHere, SeesBy, MissesBy}
use Rattle.parser_tables.specs.StatementNodes.{put_node, takes_put, with_part, inner_context, item_context}
use Rattle.parser_tables.specs.Tests.{ends_word, is_each}
use Rattle.recursive_descent.specs.Expectations.{ExpectedAt, HeadAt}
use Rattle.recursive_descent.proofs.reading.AddedPairs.{adds_behind}
use Rattle.recursive_descent.proofs.sound_statements.OneMoreSymbol.{OnePiece}
use Rattle.recursive_descent.proofs.sound_statements.TokenSymbols.{nodes_of, token_edge}
use Rattle.recursive_descent.proofs.complete_statements.SymbolViews.{something, ExpressionPiece, expression_of_expression, expression_of_assignment, expression_of_test, expression_of_update, expression_of_argument, expression_of_heritage, expression_of_head, wants_expression, BindingPiece, binding_of_binding, wants_binding, StatementPiece, statement_of_statement, statement_of_else, wants_statement, ItemsPiece, items_of_items, items_of_consequent, wants_items}
use Rattle.token_cursor.specs.SourceText.{SourceText}

and_both : (a b : Bool) → (a && b) ≡ true → (a ≡ true) × (b ≡ true)
and_both true true h = (refl, refl)
and_both true false h = absurd (false≢true h)
and_both false b h = absurd (false≢true h)

both_are : (a b : Bool) → a ≡ true → b ≡ true → (a && b) ≡ true
both_are true b h k = k
both_are false b h k = absurd (false≢true h)

or_false : (a b : Bool) → Rattle.std.specs.Prelude.◌||◌ a b ≡ false → a ≡ false
or_false true b h = absurd (true≢false h)
or_false false b h = refl

-- a pattern, or a simple target, is no element with a default
plainly : (a : TargetForm) → is_pattern a ≡ true → (is_element a ≡ true) × (a ≡ assigned.Defaulted → ⊥)
plainly assigned.Nothing h = absurd (false≢true h)
plainly assigned.Target h = (refl, λ e. cc)
plainly assigned.Pattern h = (refl, λ e. cc)
plainly assigned.Defaulted h = absurd (false≢true h)

-- the position of what is bound or assigned to
pattern_bound : (b : Bool) (k : Kind) {a : Role} → pattern_at Any b k ≡ Some a → bound b k ≡ Some a
pattern_bound true k h = of (is_pattern_kind k) h
  where
    of : (c : Bool) {a : Role} → cond c (Some (pattern true Any)) None ≡ Some a → cond c (Some (pattern true Any)) (cond (is_identifier k) (Some name) None) ≡ Some a
    of true h = h
    of false h = absurd (none-some _ h)
pattern_bound false k h = of (is_pattern_kind k) h
  where
    of : (c : Bool) {a : Role} → cond c (Some (pattern false Any)) None ≡ Some a → cond c (Some (pattern false Any)) (cond (is_simple k) (Some (expr LeftHandSide true Any)) None) ≡ Some a
    of true h = h
    of false h = absurd (none-some _ h)

target_bound : (b : Bool) (k : Kind) {a : Role} → target_at Any b k ≡ Some a → bound b k ≡ Some a
target_bound true Rattle.tree.specs.declared.kind.Kind.TheVariants.Identifier h = h
target_bound true _ h = absurd (none-some _ h)
target_bound false Rattle.tree.specs.declared.kind.Kind.TheVariants.Identifier h = h
target_bound false Rattle.tree.specs.declared.kind.Kind.TheVariants.MemberExpression h = h
target_bound false _ h = absurd (none-some _ h)

assigned_bound : (a : TargetForm) (b : Bool) (k : Kind) {x : Role} → is_pattern a ≡ true → assigned_at a Any b k ≡ Some x → bound b k ≡ Some x
assigned_bound assigned.Nothing b k p h = absurd (false≢true p)
assigned_bound assigned.Target b k p h = target_bound b k h
assigned_bound assigned.Pattern b k p h = pattern_bound b k h
assigned_bound assigned.Defaulted b k p h = absurd (false≢true p)

pub position_of : {a b : ExpressionContext} → Some (wanted.Expression a) ≡ Some (wanted.Expression b) → b ≡ a
position_of h = cc

module _ (text : SourceText) {o : ℕ} {s e : Token} {P : List Pair} where
  -- an expression
  as_put : {y : Rank} {i : Bool} {p : ExpressionContext} {part_read : Operand} → ReadAt text p part_read o s e P → p ≡ record { rank = y; has_in = i; start = Any } → takes_new y ≡ true → part_read.cover.shape.is_expression ≡ true → ExpressionPut text o y i s e part_read.edge (part part_read.cover.node none) P
  as_put {y} {i} {p} {part_read = k} h is new fits =
      let h' : ReadAt text (record { rank = y; has_in = i; start = Any }) k o s e P = subst (λ x. ReadAt text x k o s e P) is h in
      record { put = k.cover.node; parts = refl; right = h'.part.edge; spelled = h'.part.stands fits y i (h'.taken new) (λ m. refl) }

  -- what is bound, or assigned to
  as_target : {i : Bool} {k : Operand} (b : Bool) → PartAt text i Any k o s e P → is_pattern k.cover.shape.assigned ≡ true → fits_as k.cover.shape (as_pattern b) ≡ true → TargetPut text o b s e (part (pattern_tree k.cover.node) none) P
  as_target {k = k} b h is fits =
      let t = h.assigned b fits (λ d. absurd ((plainly k.cover.shape.assigned is).1 d)) in
      record { put = pattern_tree k.cover.node; parts = refl; target = record { role = t.role; it_is = assigned_bound k.cover.shape.assigned b (kind_of (pattern_tree k.cover.node)) is t.it_is; spelled = t.spelled } }

pub each_at : (text : SourceText) (e : Token) (each : Bool) → OnTrue each (SeesBy text Div is_each e) → OnFalse each (MissesBy text Div is_each e) → EachAt text each e
each_at text e true a b = a
each_at text e false a b = b

module _ (text : SourceText) (r : Bool) (s m : CursorState) (b c : PartialStatement) (high : ℕ) (pos : ExpressionContext) (k : Operand) (o : ℕ) (e : Token) (P : List Pair) (same : text ≡ s.text) (d : ReadAt text pos k o m.last e P) where
  an_expression_put : {y : Rank} {i : Bool} → pos ≡ record { rank = y; has_in = i; start = Any } → takes_new y ≡ true → k.cover.shape.is_expression ≡ true → m.last ≡ s.last → ExpressionPut text o y i s.last e k.edge (part k.cover.node none) P
  an_expression_put {y} {i} is new fits stays = subst (λ x. ExpressionPut text o y i x e k.edge (part k.cover.node none) P) stays (as_put text d is new fits)

  -- what stands first in the head of a `for`
  head_put : (word : Option Scanned) (each : Bool) → HeadAt s m (wanted.Expression pos) word → EachAt text each e → takes_put code.ForHead each k.cover.shape ≡ true → HeadPut text o s.last e (part (put_node code.ForHead each k.cover.node) none) P
  head_put (Some word) each h at fits = absurd h
  head_put None true h at fits =
      let part_here = (subst (λ x. ReadAt text x k o m.last e P) h.2 d).part in
      a_target at (subst (λ x. TargetPut text o false x e (part (pattern_tree k.cover.node) none) P) h.3 (as_target text false part_here fits (plainly k.cover.shape.assigned fits).0))
  head_put None false h at fits =
      let put = an_expression_put h.2 refl fits h.3 in
      an_expression at (record { put = put.put; parts = put.parts; spelled = put.spelled })

  -- an expression that a piece wanted
  expression_put : (p : Coded) (each : Bool) → ExpectedAt p r s m b c high (wanted.Expression pos) → EachAt text each e → takes_put p each k.cover.shape ≡ true → PieceAt text r o (piece_of p) s.last e b.edge k.edge (part (put_node p each k.cover.node) none) P
  expression_put p each h at fits = of (wants_expression p r s m b c high pos h) h fits
    where
      of : {p : Coded} → ExpressionPiece p → ExpectedAt p r s m b c high (wanted.Expression pos) → takes_put p each k.cover.shape ≡ true → PieceAt text r o (piece_of p) s.last e b.edge k.edge (part (put_node p each k.cover.node) none) P
      of expression_of_expression h fits = an_expression_put (position_of h.0) refl fits h.1.0
      of expression_of_assignment h fits = an_expression_put (position_of h.0) refl fits h.1.0
      of expression_of_test h fits = inl (an_expression_put h.0.1 refl fits h.1.0)
      of expression_of_update h fits = inl (an_expression_put h.0.1 refl fits h.1.0)
      of expression_of_argument h fits = inl ((λ t n read. or_false t.after_break _ (subst (λ x. MissesBy x RegExp ends_word s.last) (sym same) h.0.0 t n read)), an_expression_put h.0.1 refl fits h.1.0)
      of expression_of_heritage h fits = inl (m.last, subst (λ x. ReadsHere x IdentifierName (codes "extends") s.last m.last) (sym same) h.0.0, as_put text d h.0.1 refl fits)
      of expression_of_head h fits = inl (head_put c.word each h.0 at fits)

  -- what is bound
  binding_put : (p : Coded) → ExpectedAt p r s m b c high wanted.Binding → pos ≡ record { rank = Primary; has_in = true; start = Any } → takes_put p false k.cover.shape ≡ true → PieceAt text r o (piece_of p) s.last e b.edge k.edge (part (put_node p false k.cover.node) none) P
  binding_put p h is fits = of (wants_binding p r s m b c high h) h fits
    where
      of : {p : Coded} → BindingPiece p → ExpectedAt p r s m b c high wanted.Binding → takes_put p false k.cover.shape ≡ true → PieceAt text r o (piece_of p) s.last e b.edge k.edge (part (put_node p false k.cover.node) none) P
      of binding_of_binding h fits =
          let part_here = (subst (λ x. ReadAt text x k o m.last e P) is d).part in
          let both = and_both k.cover.shape.binds (is_pattern k.cover.shape.assigned) fits in
          subst (λ x. TargetPut text o true x e (part (pattern_tree k.cover.node) none) P) h.1.0 (as_target text true part_here both.1 (both_are k.cover.shape.binds (is_element k.cover.shape.assigned) both.0 (plainly k.cover.shape.assigned both.1).0))

-- what a piece leaves of the parts before it
pub wanted_nodes : (p : Coded) (r : Bool) (s m : CursorState) (b c : PartialStatement) (high : ℕ) (want : Expected) → (want ≡ wanted.Nothing → ⊥) → ExpectedAt p r s m b c high want → c.nodes ≡ b.nodes
wanted_nodes (code.PunctuatorToken w) r s m b c high want other h = absurd (other h.1)
wanted_nodes (code.KeywordToken w) r s m b c high want other h = absurd (other h.1)
wanted_nodes code.NoLineTerminator r s m b c high want other h = absurd (other h.1)
wanted_nodes code.Label r s m b c high want other h = absurd (other h.1)
wanted_nodes code.DoWhileSemicolon r s m b c high want other h = absurd (other h.1)
wanted_nodes code.Semicolon r s m b c high want other h = absurd (other h.1)
wanted_nodes code.ForHead r s m b c high want other h = nodes_of h.1
wanted_nodes code.Else r s m b c high want other h = nodes_of h.1
wanted_nodes code.Finally r s m b c high want other h = nodes_of h.1
wanted_nodes code.Catch r s m b c high want other h = nodes_of h.1
wanted_nodes code.ClassHeritage r s m b c high want other h = nodes_of h.1
wanted_nodes _ r s m b c high want other h = nodes_of h.1.1

pub wanted_edge : (p : Coded) (r : Bool) (s m : CursorState) (b c : PartialStatement) (high : ℕ) (want : Expected) → (want ≡ wanted.Nothing → ⊥) → ExpectedAt p r s m b c high want → c.edge ≡ b.edge
wanted_edge (code.PunctuatorToken w) r s m b c high want other h = absurd (other h.1)
wanted_edge (code.KeywordToken w) r s m b c high want other h = absurd (other h.1)
wanted_edge code.NoLineTerminator r s m b c high want other h = absurd (other h.1)
wanted_edge code.Label r s m b c high want other h = absurd (other h.1)
wanted_edge code.DoWhileSemicolon r s m b c high want other h = absurd (other h.1)
wanted_edge code.Semicolon r s m b c high want other h = absurd (other h.1)
wanted_edge code.ForHead r s m b c high want other h = token_edge h.1
wanted_edge code.Else r s m b c high want other h = token_edge h.1
wanted_edge code.Finally r s m b c high want other h = token_edge h.1
wanted_edge code.Catch r s m b c high want other h = token_edge h.1
wanted_edge code.ClassHeritage r s m b c high want other h = token_edge h.1
wanted_edge _ r s m b c high want other h = token_edge h.1.1

put_height : (p : Coded) (each : Bool) (n : Tree) → height (put_node p each n) ≡ height n
put_height code.ForHead true n = same_height n
put_height code.ForHead false n = refl
put_height code.Binding each n = same_height n
put_height _ each n = refl

-- one more part
pub one_part : {s m e : CursorState} {old mid new : List Pair} {r : Bool} (p : Coded) {b : PartialStatement} (c : PartialStatement) {d : PartialStatement} {high : ℕ} {want : Expected} (n : Tree) (x : Edge) → m.opened ≡ s.opened → mid ≡ old → (want ≡ wanted.Nothing → ⊥) → ExpectedAt p r s m b c high want → d ≡ with_part c n x → height n ≤ high →
    ((c.edge ≡ b.edge) → Adds m e mid new (λ o y z P. PieceAt s.text r o (piece_of p) s.last z b.edge x (part n none) P)) → OnePiece s e old new r (piece_of p) b d high
one_part {s} {m} {e} {old} {mid} {new} {r} p {b} c {d} {high} {want} n x open_same same other h is low f = record {
  put = part n none;
  nodes = ap (λ (z : PartialStatement). z.nodes) is ∙ ap (λ ps. push ps n) (wanted_nodes p r s m b c high want other h) ∙ push-join b.nodes n;
  low = omega arith;
  adds = adds_behind open_same same (f (wanted_edge p r s m b c high want other h)) (λ o P a. subst (λ z. PieceAt s.text r o (piece_of p) s.last e.last b.edge z (part n none) P) (sym (ap (λ (z : PartialStatement). z.edge) is)) a);
}

pub expression_piece : {s m e : CursorState} {old mid new : List Pair} {r : Bool} (p : Coded) {b : PartialStatement} (c : PartialStatement) {d : PartialStatement} {high : ℕ} {pos : ExpressionContext} {k : Operand} (each : Bool) → m.text ≡ s.text → e.text ≡ m.text → m.opened ≡ s.opened → mid ≡ old → ExpectedAt p r s m b c high (wanted.Expression pos) → Adds m e mid new (ReadAt m.text pos k) →
    OnTrue each (SeesBy e.text Div is_each e.last) → OnFalse each (MissesBy e.text Div is_each e.last) → takes_put p each k.cover.shape ≡ true → d ≡ with_part c (put_node p each k.cover.node) k.edge → height k.cover.node ≤ high → OnePiece s e old new r (piece_of p) b d high
expression_piece {s} {m} {e} {r = r} p {b} c {d} {high} {pos} {k} each same after open_same same_pairs h a seen missed fits is low =
    let at : EachAt s.text each e.last = subst (λ x. EachAt x each e.last) (after ∙ same) (each_at e.text e.last each seen missed) in
    one_part p c (put_node p each k.cover.node) k.edge open_same same_pairs (something (wanted.Expression pos) refl) h is (subst (λ x. x ≤ high) (sym (put_height p each k.cover.node)) low)
    (λ edges. adds_behind refl refl a (λ o P v. expression_put s.text r s m b c high pos k o e.last P refl (subst (λ x. ReadAt x pos k o m.last e.last P) same v) p each h at fits))

pub binding_piece : {s m e : CursorState} {old mid new : List Pair} {r : Bool} (p : Coded) {b : PartialStatement} (c : PartialStatement) {d : PartialStatement} {high : ℕ} {pos : ExpressionContext} {k : Operand} → m.text ≡ s.text → m.opened ≡ s.opened → mid ≡ old → ExpectedAt p r s m b c high wanted.Binding → pos ≡ record { rank = Primary; has_in = true; start = Any } → Adds m e mid new (ReadAt m.text pos k) →
    takes_put p false k.cover.shape ≡ true → d ≡ with_part c (put_node p false k.cover.node) k.edge → height k.cover.node ≤ high → OnePiece s e old new r (piece_of p) b d high
binding_piece {s} {m} {e} {r = r} p {b} c {d} {high} {pos} {k} same open_same same_pairs h at a fits is low =
    one_part p c (put_node p false k.cover.node) k.edge open_same same_pairs (something wanted.Binding refl) h is (subst (λ x. x ≤ high) (sym (put_height p false k.cover.node)) low)
    (λ edges. adds_behind refl refl a (λ o P v. binding_put s.text r s m b c high pos k o e.last P refl (subst (λ x. ReadAt x pos k o m.last e.last P) same v) p h at fits))

-- a statement
statement_put : (text : SourceText) (p : Coded) (r : Bool) (s m : CursorState) (b c : PartialStatement) (high : ℕ) (n : Tree) (o : ℕ) (e : Token) (P : List Pair) (x : Edge) → text ≡ s.text → ExpectedAt p r s m b c high wanted.Statement → StatementAt text (statement r) n o m.last e P → PieceAt text r o (piece_of p) s.last e b.edge x (part n none) P
statement_put text p r s m b c high n o e P x same h d = of (wants_statement p r s m b c high h) h
  where
    of : {p : Coded} → StatementPiece p → ExpectedAt p r s m b c high wanted.Statement → PieceAt text r o (piece_of p) s.last e b.edge x (part n none) P
    of statement_of_statement h = record { put = n; parts = refl; statement = subst (λ y. StatementAt text (statement r) n o y e P) h.1.0 d }
    of statement_of_else h = inl (m.last, subst (λ y. ReadsHere y IdentifierName (codes "else") s.last m.last) (sym same) h.0, record { put = n; parts = refl; statement = d })

pub statement_piece : {s m e : CursorState} {old mid new : List Pair} {r : Bool} (p : Coded) {b : PartialStatement} (c : PartialStatement) {d : PartialStatement} {high : ℕ} {n : Tree} {context : StatementContext} → m.text ≡ s.text → m.opened ≡ s.opened → mid ≡ old → ExpectedAt p r s m b c high wanted.Statement → context ≡ inner_context r → Adds m e mid new (StatementAt m.text (context_role context) n) →
    d ≡ with_part c n c.edge → height n ≤ high → OnePiece s e old new r (piece_of p) b d high
statement_piece {s} {m} {e} {r = r} p {b} c {d} {high} {n} {context} same open_same same_pairs h at a is low =
    one_part p c n c.edge open_same same_pairs (something wanted.Statement refl) h is low
    (λ edges. adds_behind refl refl a (λ o P v. statement_put s.text p r s m b c high n o e.last P c.edge refl h (subst (λ x. StatementAt s.text (context_role x) n o m.last e.last P) at (subst (λ x. StatementAt x (context_role context) n o m.last e.last P) same v))))

-- statements
items_put : (text : SourceText) (p : Coded) (r : Bool) (s m : CursorState) (b c : PartialStatement) (high : ℕ) (until : StatementListEnd) (ps : Parts) (o : ℕ) (e : Token) (P : List Pair) (x : Edge) → ExpectedAt p r s m b c high (wanted.Items until) → RunsIn text o (anywhere (prologue r false [] [] ps)) ps m.last e P → PieceAt text r o (piece_of p) s.last e b.edge x ps P
items_put text p r s m b c high until ps o e P x h d = of (wants_items p r s m b c high until h) h
  where
    of : {p : Coded} → ItemsPiece p → ExpectedAt p r s m b c high (wanted.Items until) → PieceAt text r o (piece_of p) s.last e b.edge x ps P
    of items_of_items h = subst (λ y. RunsIn text o (anywhere (prologue r false [] [] ps)) ps y e P) h.1.0 d
    of items_of_consequent h = subst (λ y. RunsIn text o (anywhere (prologue r false [] [] ps)) ps y e P) h.1.0 d

pub items_piece : {s m e : CursorState} {old mid new : List Pair} {r : Bool} (p : Coded) {b : PartialStatement} (c : PartialStatement) {d : PartialStatement} {high : ℕ} {ps : Parts} (until : StatementListEnd) {context : StatementContext} → m.text ≡ s.text → m.opened ≡ s.opened → mid ≡ old → ExpectedAt p r s m b c high (wanted.Items until) → context ≡ item_context r → Adds m e mid new (StatementsAt m.text context ps) →
    d.nodes ≡ join c.nodes ps → d.edge ≡ c.edge → parts_height ps ≤ high → OnePiece s e old new r (piece_of p) b d high
items_piece {s} {m} {e} {r = r} p {b} c {d} {high} {ps} until {context} same open_same same_pairs h at a is right low = record {
  put = ps;
  nodes = is ∙ ap (λ qs. join qs ps) (wanted_nodes p r s m b c high (wanted.Items until) (something (wanted.Items until) refl) h);
  low = low;
  adds = adds_behind open_same same_pairs a (λ o P v. items_put s.text p r s m b c high until ps o e.last P d.edge h ((subst (λ x. StatementsAt s.text x ps o m.last e.last P) at (subst (λ x. StatementsAt x context ps o m.last e.last P) same v)) refl));
}
