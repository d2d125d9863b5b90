-- A `for` that is given, behind what stands first in its head; and what was read of a statement before its pieces (ECMA-262 13.7).
use Rattle.std.proofs.Common.{◌≡◌, inl, inr, ℕ, suc, ◌-◌, ◌≤◌, arith, Bool, true, false, List, Result, Ok, Err, refl, sym, ap, ◌∙◌, subst}
use Rattle.std.specs.Prelude.{codes}
use Rattle.std.specs.Result.{IsErrAnd}
use Rattle.std.proofs.lemmas.Bool.{false≢true}
use Rattle.source_text.specs.declared.fault.Fault.{Fault}
use Rattle.tokens.specs.declared.token.TokenClass.TheVariants.{IdentifierName, Punctuator, Keyword}
use Rattle.tokens.specs.declared.token.Goal.{Goal}
use Rattle.tokens.specs.declared.token.Goal.TheVariants.{Div}
use Rattle.tokens.specs.declared.token.Token.{Token as Scanned}
use Rattle.tokens.specs.Scanned.{token_of}
use Rattle.token_cursor.specs.CursorState.{CursorState, IsAhead}
use Rattle.tree.specs.declared.kind.Kind.TheVariants as kind
use Rattle.tree.specs.declared.kind.Pair.{Pair}
use Rattle.tree.specs.Tree.{Tree, node, Parts, none, part, join, plain, height, parts_height, kind_of}
use Rattle.language.specs.declared.Edge.TheVariants.{Closed}
use Rattle.language.specs.StatementStart.{statement_start}
use Rattle.language.specs.Vocabulary.{is}
use Rattle.language.specs.Token.{Token, as_read}
use Rattle.language.specs.Claims.{max_open}
use Rattle.token_cursor.proofs.SeenTokens.{seen_determined}
use Rattle.parser_tables.specs.declared.operand.Operand.{Operand}
use Rattle.parser_tables.specs.declared.symbol_lists.PartialStatement.{PartialStatement}
use Rattle.parser_tables.specs.declared.statements.StatementStart.{StatementStart as Coded}
use Rattle.parser_tables.specs.declared.statements.StatementStart.TheVariants as code
use Rattle.parser_tables.specs.declared.statements.StatementContext.{StatementContext}
use Rattle.parser_tables.specs.declared.statements.StatementKind.{StatementKind}
use Rattle.parser_tables.specs.declared.statements.StatementKind.TheVariants as headed
use Rattle.parser_tables.specs.StatementStarts.{coded_statement_start, KindFollowed, KindUnfollowed, BegunWith}
use Rattle.recursive_descent.specs.Complete.{ExpressionComplete, SymbolsComplete, StatementComplete}
use Rattle.recursive_descent.specs.Soundness.{Adds, ReadAt}
use Rattle.recursive_descent.specs.SoundnessOfStatements.{context_role}
use Rattle.recursive_descent.specs.Completeness.{Room, EndsWith, FinishedIn}
use Rattle.recursive_descent.specs.CompletenessOfStatements.{has_edges}
use Rattle.parser_tables.specs.Operands.{is_group}
use Rattle.parser_tables.specs.StatementSymbols.{Piece, statement_parts}
use Rattle.token_cursor.specs.Seen.{Sees, Misses}
use Rattle.parser_tables.specs.StatementNodes.{statement_node_kind}
use Rattle.recursive_descent.proofs.complete_expressions.Agreement.{agrees_on, ends_both, ends_same, not_missed}
use Rattle.recursive_descent.proofs.complete_statements.ExpressionStatementsGiven.{at_statement}
use Rattle.token_cursor.proofs.TokensAhead.{mark_by, name_by}
use Rattle.recursive_descent.proofs.complete_statements.SymbolSteps.{PiecesFrom}
use Rattle.recursive_descent.proofs.sound_statements.WholeStatements.{headed_text}
use Rattle.recursive_descent.proofs.complete_statements.ExpressionLedStatements.{label_main}
use Rattle.recursive_descent.proofs.complete_statements.StatementAfterRead.{MainFor, MainThere, ForOn, own_main, edges_known, join_low, pieces_there}
use Rattle.token_cursor.specs.SourceText.{SourceText, behind_in, unseen}
use Rattle.recursive_descent.specs.Spelled.{SpellsIn, OfLanguage, AllOfLanguage}
use Rattle.recursive_descent.proofs.reading.LanguageTrees.{parts_of_language, join_of_language}

module _ (text : SourceText) (s : Token) where
  -- two tokens that are seen at one place are one
  sign_word : {v w : List ℕ} → Sees text Punctuator v s → Sees text IdentifierName w s → ⊥
  sign_word a b =
      let same = ((seen_determined text).same Div s (behind_in text a.0) (behind_in text b.0) a.0 b.0 a.1.next b.1.next (mark_by text a.1).allowed (name_by text b.1).allowed).0 in
      other (sym a.1.class ∙ ap (λ (x : Token). x.class) same ∙ b.1.class)
    where
      other : Punctuator ≡ IdentifierName → ⊥
      other h = cc

  words_once : {v w : List ℕ} → Sees text IdentifierName v s → Sees text IdentifierName w s → v ≡ w
  words_once a b =
      let same = ((seen_determined text).same Div s (behind_in text a.0) (behind_in text b.0) a.0 b.0 a.1.next b.1.next (name_by text a.1).allowed (name_by text b.1).allowed).0 in
      sym a.1.text ∙ ap (λ (x : Token). x.text) same ∙ b.1.text

  in_of : codes "in" ≡ codes "of" → ⊥
  in_of h = false≢true (sym (ap (λ w. is w "in") h))

  -- what follows the first part says which `for` it is
  head_once : (h k : StatementKind) → KindFollowed text s h → KindFollowed text s k → h ≡ k
  head_once headed.ForLoop headed.ForLoop a b = refl
  head_once headed.ForLoop headed.ForIn a b = absurd (sign_word a b)
  head_once headed.ForLoop headed.ForOf a b = absurd (sign_word a b)
  head_once headed.ForIn headed.ForLoop a b = absurd (sign_word b a)
  head_once headed.ForIn headed.ForIn a b = refl
  head_once headed.ForIn headed.ForOf a b = absurd (in_of (words_once a b))
  head_once headed.ForOf headed.ForLoop a b = absurd (sign_word b a)
  head_once headed.ForOf headed.ForIn a b = absurd (in_of (words_once b a))
  head_once headed.ForOf headed.ForOf a b = refl
  head_once headed.ForLoop _ a b = absurd b
  head_once headed.ForIn _ a b = absurd b
  head_once headed.ForOf _ a b = absurd b
  head_once _ k a b = absurd a

  unfollowed : (h : StatementKind) → KindFollowed text s h → KindUnfollowed text s → ⊥
  unfollowed headed.ForLoop a missed = not_missed missed.0 a.1
  unfollowed headed.ForIn a missed = not_missed missed.1 a.1
  unfollowed headed.ForOf a missed = not_missed missed.2 a.1
  unfollowed _ a missed = absurd a

-- of a `for`, behind what stands first in its head: nothing follows that may
pub for_unfollowed : {s e : CursorState} {old new : List Pair} {c : StatementContext} {t : Scanned} {d : PartialStatement} (z : CursorState) (last : List Pair) (high : ℕ) (result : Result Tree Fault) → ((o : ℕ) (n : Tree) (to : Token) (P : List Pair) → SpellsIn s.text o (context_role c) n s.last to P → FinishedIn s.text n to → OfLanguage s.text n → ForOn s e old new c t d o n to P) →
    e.text ≡ s.text → KindUnfollowed e.text e.last → StatementComplete s z old last high c result
for_unfollowed {s} {e} z last high result on same missed o n to P spelled fine own =
    let u = on o n to P spelled fine own in
    absurd (unfollowed s.text e.last u.what u.followed (subst (λ x. KindUnfollowed x e.last) same missed))

module _ (s e : CursorState) (old new : List Pair) (c : StatementContext) (t : Scanned) (d : PartialStatement) (high inner : ℕ) (what : StatementKind) (pieces : List Piece) (on : (o : ℕ) (n : Tree) (to : Token) (P : List Pair) → SpellsIn s.text o (context_role c) n s.last to P → FinishedIn s.text n to → OfLanguage s.text n → ForOn s e old new c t d o n to P)
    (same : e.text ≡ s.text) (same_open : e.opened ≡ s.opened) (less : inner ≡ high - 1) (its : pieces ≡ statement_parts what c.returns) (followed : KindFollowed e.text e.last what) where
  -- the pieces behind it, as they are read
  it_is : {o : ℕ} {n : Tree} {to : Token} {P : List Pair} (u : ForOn s e old new c t d o n to P) → u.what ≡ what
  it_is u = head_once s.text e.last u.what what u.followed (subst (λ x. KindFollowed x e.last what) same followed)

  further : {o : ℕ} {n : Tree} {to : Token} {P : List Pair} (u : ForOn s e old new c t d o n to P) → PiecesFrom s.text c.returns o (statement_parts what c.returns) e.last to d.edge u.added u.more
  further {o} {to = to} u = subst (λ k. PiecesFrom s.text c.returns o (statement_parts k c.returns) e.last to d.edge u.added u.more) (it_is u) (u.behind d.edge)

  further_own : {o : ℕ} {n : Tree} {to : Token} {P : List Pair} (u : ForOn s e old new c t d o n to P) → OfLanguage s.text n → AllOfLanguage e.text u.added
  further_own u own = subst (λ z. AllOfLanguage z u.added) (sym same) (join_of_language d.nodes u.added (parts_of_language (subst (OfLanguage s.text) u.tree own))).1

  known : has_edges pieces ≡ true
  known = ap has_edges its ∙ edges_known what c.returns

  -- they are refused
  pub for_refused : (k z : CursorState) (newer last : List Pair) (b : PartialStatement) (result : Result Tree Fault) (fault : Fault) → IsErrAnd result (λ x. x ≡ fault) → SymbolsComplete e k new newer inner pieces c.returns d b (Err fault) → StatementComplete s z old last high c result
  for_refused k z newer last b result fault is complete o n to P spelled fine own =
      let u = on o n to P spelled fine own in
      let v = further u in
      let tall : height n ≡ suc (parts_height (join d.nodes u.added)) = ap height u.tree in
      let low = (join_low d.nodes u.added (parts_height (join d.nodes u.added)) (omega arith)).1 in
      agrees_on (Room e o (parts_height u.added) inner) (Room s o (height n) high) (λ k. (k ≡ n) × EndsWith s z old last to P) result fault is (complete o v.right u.added to u.more known (pieces_there what e d same its refl v) (further_own u own))
      (λ room. let most = room.1 in (subst (λ k. o ≤ max_open - k) (sym same_open) room.0, subst (λ k. parts_height u.added ≤ k) (sym less) (omega arith)))

  -- they were read
  pub for_done : (k : CursorState) (newer : List Pair) (b : PartialStatement) → SymbolsComplete e k new newer inner pieces c.returns d b (Ok tt) →
      (o : ℕ) (n : Tree) (to : Token) (P : List Pair) → SpellsIn s.text o (context_role c) n s.last to P → FinishedIn s.text n to → OfLanguage s.text n → (n ≡ node (statement_node_kind what) (headed_text what t.text.now) plain t.start to.stop b.nodes) × EndsWith s k old newer to P
  for_done k newer b complete o n to P spelled fine own =
      let u = on o n to P spelled fine own in
      let v = further u in
      let agrees = complete o v.right u.added to u.more known (pieces_there what e d same its refl v) (further_own u own) in
      (u.tree ∙ (λ i. node (statement_node_kind (it_is u i)) (headed_text (it_is u i) t.text.now) plain t.start to.stop (sym agrees.0 i)), ends_same (sym u.pairs) (ends_both u.ends agrees.1))

pub begun_as : {text : SourceText} {s : Token} {i : Bool} {by a b : Coded} → a ≡ b → BegunWith text s i by a → BegunWith text s i by b
begun_as {text} {s} {i} {by} same h = subst (BegunWith text s i by) same h

-- what the code takes for a statement of its own begins one
pub own_begins : {text : SourceText} {s : Token} {i : Bool} {by : Coded} {h : StatementKind} → BegunWith text s i by (code.OfKind h) → code.OfKind h ≡ by
own_begins (inl h) = (let q = h.0 in cc)
own_begins (inr h) = h.0

-- behind a first token that is the statement's own, and behind a label, where the parser stands so
pub own_begun_there : (s k m : CursorState) (old last mid : List Pair) (c : StatementContext) (t : Scanned) (h : StatementKind) (b : PartialStatement) → m ≡ k → mid ≡ last → IsAhead Goal.RegExp s.text s.last.stop (token_of t) → BegunWith s.text s.last c.is_item (coded_statement_start (statement_start c.is_item c.returns (as_read (token_of t)))) (code.OfKind h) → (h ≡ headed.For → Misses k.text Keyword (codes "await") k.last) → k.text ≡ s.text → k.last ≡ unseen (as_read (token_of t)) →
    k.opened ≡ s.opened → last ≡ old → b.nodes ≡ none → b.edge ≡ Closed → MainThere s m old mid c t h b
own_begun_there s k m old last mid c t h b is pairs ahead begun missed text at same_open same empty edge = record {
  main = own_main s m old mid c t h b.nodes ahead (own_begins begun) (λ loop. subst (λ x. Misses x Keyword (codes "await") m.last) text (subst (λ (x : CursorState). Misses k.text Keyword (codes "await") x.last) (sym is) (missed loop))) (ap (λ (x : CursorState). x.last) is ∙ at) (pairs ∙ same) empty;
  same = ap (λ (x : CursorState). x.text) is ∙ text;
  same_open = ap (λ (x : CursorState). x.opened) is ∙ same_open;
  edge = edge;
}

pub label_begun_there : (s k m : CursorState) (old last mid : List Pair) (inner high : ℕ) (c : StatementContext) (t : Scanned) (h : StatementKind) (b : PartialStatement) (p : Operand) → m ≡ k → mid ≡ last → IsAhead Goal.RegExp s.text s.last.stop (token_of t) → BegunWith s.text s.last c.is_item (coded_statement_start (statement_start c.is_item c.returns (as_read (token_of t)))) code.Expression → inner ≡ high - 1 → k.text ≡ s.text →
    ExpressionComplete s k old last inner at_statement (Ok p) → Adds s k old last (ReadAt s.text at_statement p) → h ≡ headed.Label → (kind_of p.cover.node ≡ kind.Identifier) × (is_group p.rank ≡ false) × Sees k.text Punctuator (codes ":") k.last → b.nodes ≡ part p.cover.node none → b.edge ≡ Closed → MainThere s m old mid c t h b
label_begun_there s k m old last mid inner high c t h b p is pairs ahead coded less text complete read headed_is label one edge = record {
  main = subst (λ x. MainFor s x old mid c t h b.nodes) (sym is) (subst (λ x. MainFor s k old x c t h b.nodes) (sym pairs) (label_main s k old last inner high c t ahead coded less p text complete read h b.nodes headed_is label one));
  same = ap (λ (x : CursorState). x.text) is ∙ text;
  same_open = ap (λ (x : CursorState). x.opened) is ∙ read.same_open;
  edge = edge;
}

-- a statement that is given is this
abbrev pub TheStatement : CursorState → CursorState → List Pair → List Pair → StatementContext → Scanned → StatementKind → Parts → Type 0
TheStatement s e old new c t h nodes = (o : ℕ) (n : Tree) (to : Token) (P : List Pair) → SpellsIn s.text o (context_role c) n s.last to P → FinishedIn s.text n to → OfLanguage s.text n → (n ≡ node (statement_node_kind h) (headed_text h t.text.now) plain t.start to.stop nodes) × EndsWith s e old new to P

pub the_same : {s e k : CursorState} {old new newer : List Pair} (c : StatementContext) (t : Scanned) (h what : StatementKind) (ns ms : Parts) → k ≡ e → newer ≡ new → what ≡ h → ms ≡ ns → TheStatement s e old new c t h ns → TheStatement s k old newer c t what ms
the_same {s} {e} {k} {old} {new} {newer} c t h what ns ms point pairs its nodes told o n to P spelled fine own =
    let u = told o n to P spelled fine own in
    (u.0 ∙ (λ i. node (statement_node_kind (sym its i)) (headed_text (sym its i) t.text.now) plain t.start to.stop (sym nodes i)), subst (λ x. EndsWith s x old newer to P) (sym point) (subst (λ x. EndsWith s e old x to P) (sym pairs) u.1))
