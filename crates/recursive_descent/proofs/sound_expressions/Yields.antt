-- `yield`, with what stands behind it (ECMA-262, 13th edition, 15.5).
use Rattle.std.proofs.Common.{◌≡◌, inl, inr, ℕ, Bool, true, false, List, [], ◌∷◌, refl, sym, ap, ◌∙◌, subst}
use Rattle.std.specs.Prelude.{IsTrue, codes, ◌||◌, Some}
use Rattle.std.proofs.lemmas.Bool.{false≢true}
use Rattle.tokens.specs.declared.token.TokenClass.TheVariants.{Punctuator}
use Rattle.tokens.specs.declared.token.Token.{Token as Scanned}
use Rattle.tokens.specs.Scanned.{token_of}
use Rattle.token_cursor.specs.CursorState.{CursorState}
use Rattle.tree.specs.declared.kind.Kind.TheVariants.{YieldExpression}
use Rattle.tree.specs.declared.kind.Form.{Form}
use Rattle.tree.specs.declared.kind.Form.TheVariants.{Init, Generator}
use Rattle.tree.specs.declared.kind.Pair.{Pair}
use Rattle.tree.specs.Tree.{Tree, node, none, part, gap, bare, plain}
use Rattle.language.specs.declared.Edge.{Edge}
use Rattle.language.specs.declared.Edge.TheVariants.{Arrow, Postfix, Other, Closed}
use Rattle.language.specs.declared.Rank.{Rank}
use Rattle.language.specs.declared.Rank.TheVariants.{Assignment}
use Rattle.language.specs.declared.Start.{Start}
use Rattle.language.specs.declared.Start.TheVariants.{Any, NoBrace, Statement}
use Rattle.language.specs.declared.Language.{Language}
use Rattle.language.specs.Vocabulary.{takes}
use Rattle.language.specs.Edges.{edge, edge_as_written, operand_edge, begins_no_operand}
use Rattle.language.specs.ExpressionStart.{ExpressionStart, with_yield, expression_start}
use Rattle.language.specs.Pieces.{expr, term, at}
use Rattle.language.specs.Token.{Token, as_read}
use Rattle.language.specs.Chosen as chosen
use Rattle.language.specs.Grammar.{starts}
use Rattle.language.specs.Derivation.{done, step, token, laid, same_line, left_bare, missing}
use Rattle.language.proofs.table.NodeForms.{by_form}
use Rattle.language.proofs.table.Productions.{spell}
use Rattle.language.proofs.table.TokenFirstWays.{yield_end}
use Rattle.language.proofs.texts.EarlierScripts.{operand}
use Rattle.language.proofs.climbing.OperatorNodes.{last_runs}
use Rattle.token_cursor.proofs.SeenTokens.{seen_determined}
use Rattle.parser_tables.specs.declared.operand.Operand.{Operand}
use Rattle.parser_tables.specs.declared.expression_context.ExpressionContext.{ExpressionContext}
use Rattle.parser_tables.specs.declared.expression_starts.ExpressionStart.TheVariants as code
use Rattle.parser_tables.specs.ExpressionStarts.{coded_start, coded_in, stands_at, opens_at}
use Rattle.parser_tables.specs.Operands.{plain_part}
use Rattle.parser_tables.specs.StatementNodes.{is_closed}
use Rattle.token_cursor.specs.Seen.{ReadsHere}
use Rattle.recursive_descent.specs.Soundness.{Adds, ReadAt, WordedAt, minds_in}
use Rattle.recursive_descent.specs.Later.{StarredAt, SeesNoOperand, MaySeeOperand}
use Rattle.recursive_descent.proofs.reading.AddedPairs.{adds_behind, adds_none}
use Rattle.recursive_descent.proofs.sound_expressions.CodedStarts.{coded_plain}
use Rattle.recursive_descent.proofs.sound_expressions.ExpressionParts.{minds_of, placed_at, value_part}
use Rattle.recursive_descent.proofs.sound_expressions.KeywordExpressions.{Passed, yield_passed, stands_plainly}
use Rattle.token_cursor.specs.SourceText.{SourceText, SeenNext, behind_in}
use Rattle.recursive_descent.specs.Spelled.{SpellsIn}

-- its position takes an AssignmentExpression
pub yield_taken : (l : Language) (p : ExpressionContext) (t : Token) → coded_in l t ≡ Some code.Yield → opens_at p t ≡ true → IsTrue (takes p.rank Assignment)
yield_taken l p t coded stands = of (expression_start t) (coded_plain l (expression_start t) t.text code.Yield coded refl) stands
  where
    of : (x : ExpressionStart) → coded_start x ≡ Some code.Yield → stands_at p.rank p.has_in p.start x ≡ true → IsTrue (takes p.rank Assignment)
    of with_yield h k = k
    of _ h k = cc

-- where no token that ends it stands, what stands there is on its line
on_line : (t : Token) → begins_no_operand t ≡ false → t.after_break ≡ false
on_line t h = of t.after_break _ h
  where
    of : (a b : Bool) → (a || b) ≡ false → a ≡ false
    of false b h = refl
    of true b h = absurd (false≢true (sym h))

-- an operand's right edge is the node's
pub operand_right : (x : Edge) (e : Token) → is_closed (edge_as_written x e) ≡ false → operand_edge x ≡ x
operand_right Closed e h = absurd (false≢true (sym h))
operand_right Arrow e h = refl
operand_right Postfix e h = refl
operand_right Other e h = refl

yield_bare_starts : (f : Start) → IsTrue (starts f (term "yield" ∷ yield_end Init (gap none)))
yield_bare_starts Any = refl
yield_bare_starts NoBrace = refl
yield_bare_starts Statement = refl

yield_operand_starts : (f : Start) (n : Tree) → IsTrue (starts f (term "yield" ∷ yield_end Init (part n none)))
yield_operand_starts Any n = refl
yield_operand_starts NoBrace n = refl
yield_operand_starts Statement n = refl

yield_star_starts : (f : Start) (n : Tree) → IsTrue (starts f (term "yield" ∷ yield_end Generator (part n none)))
yield_star_starts Any n = refl
yield_star_starts NoBrace n = refl
yield_star_starts Statement n = refl

-- an edge behind the word is as it stands
arrow_word : (e : Token) → e.text ≡ codes "yield" → Arrow ≡ edge_as_written Arrow e
arrow_word e h = sym (ap (λ w. edge_as_written Arrow (record e { text = w })) h)

-- the operand that was read behind the word: its right edge, and how it is spelled
same_edge : (text : SourceText) (i : Bool) (l : Operand) {o : ℕ} {x e : Token} {Q : List Pair} (b : Form) (from : ℕ) → ReadAt text (record { rank = Assignment; has_in = i; start = Any }) l o x e Q → l.edge ≡ edge_as_written (edge (node YieldExpression [] (record plain { form = b }) from e.stop (part l.cover.node none))) e
same_edge text i l {e = e} b from v = v.part.edge ∙ ap (λ x. edge_as_written x e) (sym (operand_right (edge l.cover.node) e (ap is_closed (sym v.part.edge) ∙ v.part.goes_on)))

operand_at : (text : SourceText) (i : Bool) (l : Operand) {o : ℕ} {x e : Token} {Q : List Pair} → l.cover.shape.is_expression ≡ true → ReadAt text (record { rank = Assignment; has_in = i; start = Any }) l o x e Q → (h : Rank) (j : Bool) → IsTrue (takes h Assignment) → (minds_in h ≡ true → j ≡ i) → SpellsIn text o (expr Assignment j Any) l.cover.node x e Q
operand_at text i l value v h j taken lo = v.part.stands value Assignment j (v.taken refl) (λ k. lo (minds_of h Assignment taken refl))

module _ (text : SourceText) {p : ExpressionContext} {t : Scanned} {o : ℕ} {s m : Token} where
  -- without operand
  bare_part : Passed text t (codes "yield") s m → IsTrue (takes p.rank Assignment) → SeesNoOperand text m → ReadAt text p (plain_part (node YieldExpression [] plain t.start m.stop (gap none)) Assignment Arrow) o s m []
  bare_part w tk sees = record {
    taken = λ h. tk;
    part = value_part text refl w.begins (arrow_word m w.reads.text) refl (λ h. cc)
        (λ h j taken lo. spell Token (SeenNext text) (behind_in text) (at Assignment (term "yield" ∷ yield_end Init (gap none))) (by_form (chosen.yield_alone refl refl)) refl taken refl (yield_bare_starts p.start) (placed_at text w.begins)
        (step (token w.reads) (missing (step (left_bare sees.2 sees.3) done))));
  }

  -- with one, behind a `*` or without
  module _ {e : Token} {Q : List Pair} {l : Operand} (w : Passed text t (codes "yield") s m) (tk : IsTrue (takes p.rank Assignment)) (missed : MaySeeOperand text m) (value : l.cover.shape.is_expression ≡ true) where
    operand_part : ReadAt text (record { rank = Assignment; has_in = p.has_in; start = Any }) l o m e Q → ReadAt text p (plain_part (node YieldExpression [] plain t.start e.stop (part l.cover.node none)) Assignment l.edge) o s e Q
    operand_part v = record {
      taken = λ h. tk;
      part = value_part text refl w.begins (same_edge text p.has_in l Init t.start v) v.part.goes_on (λ h. cc)
          (λ h j taken lo. let d = operand_at text p.has_in l value v h j taken lo in
          let first = operand Token (SeenNext text) (behind_in text) (seen_determined text) d in
          spell Token (SeenNext text) (behind_in text) (at Assignment (term "yield" ∷ yield_end Init (part (bare l.cover.node) none))) (by_form (chosen.yield_operand refl refl)) refl taken refl (yield_operand_starts p.start (bare l.cover.node)) (placed_at text w.begins)
          (step (token w.reads) (step laid (step (same_line first.begins.read.next (on_line first.begins.token (missed first.begins.token first.begins.mid first.begins.read.next))) (last_runs Token (SeenNext text) (behind_in text) d)))));
    }

    star_part : {x : Token} → ReadsHere text Punctuator (codes "*") m x → ReadAt text (record { rank = Assignment; has_in = p.has_in; start = Any }) l o x e Q →
        ReadAt text p (plain_part (node YieldExpression [] (record plain { form = Generator }) t.start e.stop (part l.cover.node none)) Assignment l.edge) o s e Q
    star_part {x} star v = record {
      taken = λ h. tk;
      part = value_part text refl w.begins (same_edge text p.has_in l Generator t.start v) v.part.goes_on (λ h. cc)
          (λ h j taken lo. spell Token (SeenNext text) (behind_in text) (at Assignment (term "yield" ∷ yield_end Generator (part (bare l.cover.node) none))) (by_form (chosen.yield_from refl refl)) refl taken refl (yield_star_starts p.start (bare l.cover.node)) (placed_at text w.begins)
          (step (token w.reads) (step (same_line star.next (on_line (behind_in text x) (missed (behind_in text x) x star.next))) (step (token star) (step laid (last_runs Token (SeenNext text) (behind_in text) (operand_at text p.has_in l value v h j taken lo)))))));
    }

-- what `yield_expression` makes without an operand
pub yield_bare : {s : CursorState} {old : List Pair} (t : Scanned) (p : ExpressionContext) {n : Tree} {r : Operand} → SeesNoOperand s.text s.last → n ≡ node YieldExpression [] plain t.start s.last.stop (gap none) → r ≡ plain_part n Assignment Arrow →
    Adds s s old old (WordedAt s.text p t code.Yield r)
yield_bare {s} t p sees tree made = adds_none refl refl (λ o z next coded stands.
    subst (λ v. ReadAt s.text p v o z s.last []) (sym (made ∙ ap (λ n. plain_part n Assignment Arrow) tree))
    (bare_part s.text (yield_passed {t = t} next coded) (yield_taken s.text.language p (as_read (token_of t)) coded (stands_plainly s.text p (as_read (token_of t)) code.Yield refl (λ e. cc) stands)) sees))

-- and with one
pub yield_worded : {s m e : CursorState} {old mid new : List Pair} (t : Scanned) (p q : ExpressionContext) (x : Form) {l : Operand} (u n : Tree) {r : Operand} → m.text ≡ s.text → m.opened ≡ s.opened → mid ≡ old → MaySeeOperand s.text s.last → StarredAt s m Init x →
    q ≡ record { rank = Assignment; has_in = p.has_in; start = Any } → Adds m e mid new (ReadAt m.text q l) → l.cover.shape.is_expression ≡ true → u ≡ l.cover.node → n ≡ node YieldExpression [] (record plain { form = x }) t.start e.last.stop (part u none) → r ≡ plain_part n Assignment l.edge →
    Adds s e old new (WordedAt s.text p t code.Yield r)
yield_worded {s} {m} {e} t p q x {l} u n {r} text open_same same missed starred position a value settled tree made = adds_behind open_same same a (λ o Q v z next coded stands.
    subst (λ k. ReadAt s.text p k o z e.last Q) (sym (made ∙ ap (λ n. plain_part n Assignment l.edge) (tree ∙ ap (λ u. node YieldExpression [] (record plain { form = x }) t.start e.last.stop (part u none)) settled)))
    (of (yield_passed {t = t} next coded) (yield_taken s.text.language p (as_read (token_of t)) coded (stands_plainly s.text p (as_read (token_of t)) code.Yield refl (λ e. cc) stands)) starred
    (subst (λ k. ReadAt k (record { rank = Assignment; has_in = p.has_in; start = Any }) l o m.last e.last Q) text (subst (λ k. ReadAt m.text k l o m.last e.last Q) position v))))
  where
    of : {o : ℕ} {z : Token} {Q : List Pair} → Passed s.text t (codes "yield") z s.last → IsTrue (takes p.rank Assignment) → StarredAt s m Init x → ReadAt s.text (record { rank = Assignment; has_in = p.has_in; start = Any }) l o m.last e.last Q →
        ReadAt s.text p (plain_part (node YieldExpression [] (record plain { form = x }) t.start e.last.stop (part l.cover.node none)) Assignment l.edge) o z e.last Q
    of {o} {z} {Q} w tk (inl star) v = subst (λ y. ReadAt s.text p (plain_part (node YieldExpression [] (record plain { form = y }) t.start e.last.stop (part l.cover.node none)) Assignment l.edge) o z e.last Q) (sym star.2) (star_part s.text w tk missed value star.1 v)
    of {o} {z} {Q} w tk (inr none_there) v = subst (λ y. ReadAt s.text p (plain_part (node YieldExpression [] (record plain { form = y }) t.start e.last.stop (part l.cover.node none)) Assignment l.edge) o z e.last Q) (sym none_there.1)
        (operand_part s.text w tk missed value (subst (λ k. ReadAt s.text (record { rank = Assignment; has_in = p.has_in; start = Any }) l o k e.last Q) none_there.0 v))
