-- `yield`, as it is given: alone, with an operand, or with a `*` before it (ECMA-262, 13th edition, 15.5).
use Rattle.std.proofs.Common.{◌≡◌, ℕ, Bool, true, false, List, [], inl, inr, suc, max, refl, sym, ap, ◌∙◌, subst}
use Rattle.std.specs.Prelude.{IsTrue, codes, Some, cond}
use Rattle.std.proofs.lemmas.Bool.{false≢true}
use Rattle.tokens.specs.declared.token.TokenClass.TheVariants.{Punctuator}
use Rattle.tokens.specs.declared.token.Goal.TheVariants.{RegExp}
use Rattle.token_cursor.specs.CursorState.{CursorState}
use Rattle.tree.specs.declared.kind.Kind.TheVariants.{YieldExpression}
use Rattle.tree.specs.declared.kind.Form.{Form}
use Rattle.tree.specs.declared.kind.Form.TheVariants.{Init, Generator}
use Rattle.tree.specs.declared.kind.Pair.{Pair}
use Rattle.tree.specs.Tree.{Tree, node, Parts, none, part, gap, kind_of, plain, height}
use Rattle.language.specs.declared.Edge.{Edge}
use Rattle.language.specs.declared.Rank.{Rank}
use Rattle.language.specs.declared.Rank.TheVariants.{Assignment}
use Rattle.language.specs.declared.Start.TheVariants.{Any}
use Rattle.language.specs.Covers.{Reading, as_expression}
use Rattle.language.specs.Edges.{begins_no_operand}
use Rattle.language.specs.ExpressionStart.{with_yield, no_start, expression_start}
use Rattle.language.specs.declared.Language.{Language}
use Rattle.language.specs.Languages.{is_of_2022}
use Rattle.language.specs.Pieces.{expr}
use Rattle.language.specs.Promises.{ReadBy}
use Rattle.language.specs.Token.{Token}
use Rattle.language.specs.Vocabulary.{takes, is_target as is_simple}
use Rattle.language.specs.Derivation.{Placed}
use Rattle.language.proofs.climbing.BinaryTurns.{same_node}
use Rattle.language.proofs.climbing.FirstTurn.{Begun}
use Rattle.language.proofs.climbing.LeftmostParts.{core_by}
use Rattle.language.proofs.climbing.Yields.{yield_flags, YieldApart, YieldRest, with_operand, with_star, without, yield_core, yield_stops}
use Rattle.language.proofs.table.Reaches.{loose_of}
use Rattle.unambiguity_laws.proofs.cores.YieldCores.{yield_apart}
use Rattle.token_cursor.proofs.SeenTokens.{seen_determined}
use Rattle.parser_tables.specs.declared.operand.Operand.{Operand}
use Rattle.parser_tables.specs.declared.expression_context.ExpressionContext.{ExpressionContext}
use Rattle.parser_tables.specs.Operands.{plain_part}
use Rattle.parser_tables.specs.ExpressionStarts.{coded_start, coded_in, start_in, with_async}
use Rattle.parser_tables.specs.declared.expression_starts.ExpressionStart.TheVariants as code
use Rattle.recursive_descent.proofs.complete_expressions.KeywordExpressionsGiven.{yield_coded}
use Rattle.token_cursor.specs.Seen.{ReadsHere, Misses}
use Rattle.recursive_descent.specs.Completeness.{FirstAs, IsFirst, StopsIn}
use Rattle.recursive_descent.specs.Later.{StarredAt, SeesNoOperand, MaySeeOperand}
use Rattle.recursive_descent.proofs.complete_expressions.Agreement.{read_here, not_missed, marks_same}
use Rattle.recursive_descent.proofs.complete_expressions.FunctionsAndClassesGiven.{edged_first}
use Rattle.recursive_descent.proofs.complete_expressions.PrefixesGiven.{placed_ends}
use Rattle.recursive_descent.proofs.complete_expressions.StartsGiven.{given_core, is_bracket, is_named}
use Rattle.recursive_descent.proofs.complete_subscripts.SubscriptsGiven.{alike}
use Rattle.token_cursor.specs.SourceText.{SourceText, SeenNext, behind_in}
use Rattle.recursive_descent.specs.Spelled.{SpellsIn, OfLanguage}
use Rattle.recursive_descent.proofs.reading.LanguageTrees.{parts_of_language, first_of_language}

-- What stands behind `yield`, which is this token.
pub data YieldGiven (text : SourceText) (i : Bool) (o : ℕ) (h : Rank) (u : Token) (n : Tree) (to : Token) (Q : List Pair) : Type 0 where
  yield_alone : n ≡ node YieldExpression [] plain u.start to.stop (gap none) → IsTrue (takes h Assignment) → SeesNoOperand text u → to ≡ u → Q ≡ [] → YieldGiven text i o h u n to Q
  yield_operand : {v : Tree} → n ≡ node YieldExpression [] plain u.start to.stop (part v none) → IsTrue (takes h Assignment) → MaySeeOperand text u → Misses text Punctuator (codes "*") u → SpellsIn text o (expr Assignment i Any) v u to Q → StopsIn text Assignment i v to → YieldGiven text i o h u n to Q
  yield_from : {v : Tree} {mid : Token} → n ≡ node YieldExpression [] (yield_flags Generator) u.start to.stop (part v none) → IsTrue (takes h Assignment) → MaySeeOperand text u → ReadsHere text Punctuator (codes "*") u mid → SpellsIn text o (expr Assignment i Any) v mid to Q → StopsIn text Assignment i v to → YieldGiven text i o h u n to Q

-- it begins an expression of the language of 2022 alone
pub yield_later : (l : Language) (t : Token) → coded_in l t ≡ Some code.Yield → is_of_2022 l ≡ true
yield_later l t coded = told (is_of_2022 l) (sym (ap (λ x. with_async l t.text (coded_start (start_in l x))) (yield_coded l t coded)) ∙ coded)
  where
    told : (b : Bool) → with_async l t.text (coded_start (cond b with_yield no_start)) ≡ Some code.Yield → b ≡ true
    told true h = refl
    told false h = cc

-- where a token excludes those that begin no operand
none_bare : (text : SourceText) {u : Token} → ((t m : Token) → SeenNext text u t m → IsTrue (begins_no_operand t) → ⊥) → MaySeeOperand text u
none_bare text never t m next = of (begins_no_operand t) refl
  where
    of : (b : Bool) → begins_no_operand t ≡ b → begins_no_operand t ≡ false
    of false h = h
    of true h = absurd (never t m next h)

module _ (text : SourceText) where
  apart : YieldApart Token (SeenNext text) (behind_in text) (seen_determined text)
  apart = yield_apart Token (SeenNext text) (behind_in text) (seen_determined text) (alike text)

  pub yield_given : {p : ExpressionContext} {o : ℕ} {n : Tree} {s u to : Token} {Q : List Pair} {a : Reading} {h : Rank} → ReadBy Token (SeenNext text) (behind_in text) RegExp s u u → expression_start u ≡ with_yield → FirstAs text p o n s to Q a h → (a ≡ as_expression) × YieldGiven text p.has_in o h u n to Q
  yield_given {p} {o} {n} {s} {u} {to} {Q} {a} {h} r opens g =
      let v = given_core text r (ap is_bracket opens) (ap is_named opens) g in
      let c = yield_core Token (SeenNext text) (behind_in text) (seen_determined text) r (core_by Token (SeenNext text) (behind_in text) (seen_determined text) r opens v.begun.core) in
      let ends = placed_ends text r (subst (λ c. Placed Token (SeenNext text) (behind_in text) (expr h v.j p.start) c s to) c.tree c.places) in
      (v.reading, of {j = v.j} c.class c.word (v.begun.reached.same_in (loose_of h Assignment c.stands refl)).1 v.begun c.stands (c.tree ∙ same_node refl refl refl ends.0 ends.1 refl) c.rest)
    where
      of : {y : Rank} {m : Tree} {e : Token} {P R : List Pair} {j : Bool} {b : Form} {ps : Parts} → u.class ≡ Rattle.tokens.specs.declared.token.TokenClass.TheVariants.IdentifierName → u.text ≡ codes "yield" → j ≡ p.has_in → Begun Token (SeenNext text) (behind_in text) (seen_determined text) o s y p.has_in p.start m e P h j n to R →
          IsTrue (takes h Assignment) → n ≡ node YieldExpression [] (yield_flags b) u.start to.stop ps → YieldRest Token (SeenNext text) (behind_in text) (seen_determined text) o j u to b ps R → YieldGiven text p.has_in o h u n to R
      of {R = R} {j = j} class word inside b tk tree (with_operand {u = v} next line d) =
          yield_operand tree tk (none_bare text (λ t m bare left. apart.bare_operand bare left next line d)) (λ t e star. apart.star_operand star d)
          (subst (λ k. SpellsIn text o (expr Assignment k Any) v u to R) inside d)
          (subst (λ k. StopsIn text Assignment k v to) inside (yield_stops Token (SeenNext text) (behind_in text) (seen_determined text) apart r word class opens b tk tree d))
      of {R = R} {j = j} class word inside b tk tree (with_star {u = v} {m = mid} star line d) =
          yield_from tree tk (none_bare text (λ t m bare left. apart.bare_star bare left star line)) (read_here text star)
          (subst (λ k. SpellsIn text o (expr Assignment k Any) v mid to R) inside d)
          (subst (λ k. StopsIn text Assignment k v to) inside (yield_stops Token (SeenNext text) (behind_in text) (seen_determined text) apart r word class opens b tk tree d))
      of class word inside b tk tree (without {t = t} {m = m} next left here) = yield_alone tree tk (t, m, next, left) here refl

-- where no operand is seen
pub record AloneGiven (h : Rank) (u : Token) (n : Tree) (to : Token) (Q : List Pair) : Type 0 where
  pub tree : n ≡ node YieldExpression [] plain u.start to.stop (gap none)
  pub taken : IsTrue (takes h Assignment)
  pub place : to ≡ u
  pub pairs : Q ≡ []

pub alone_given : {text : SourceText} {i : Bool} {o : ℕ} {h : Rank} {u : Token} {n : Tree} {to : Token} {Q : List Pair} → YieldGiven text i o h u n to Q → SeesNoOperand text u → AloneGiven h u n to Q
alone_given (yield_alone tree tk sees place pairs) there = record { tree = tree; taken = tk; place = place; pairs = pairs }
alone_given (yield_operand tree tk may missed d stops) there = absurd (false≢true (sym (may there.0 there.1 there.2) ∙ there.3))
alone_given (yield_from tree tk may star d stops) there = absurd (false≢true (sym (may there.0 there.1 there.2) ∙ there.3))

-- and where one may be: behind the `*`, if it stands there
pub record OperandGiven (text : SourceText) (i : Bool) (o : ℕ) (h : Rank) (u : Token) (x : Form) (n : Tree) (mid to : Token) (Q : List Pair) : Type 0 where
  pub operand : Tree
  pub tree : n ≡ node YieldExpression [] (yield_flags x) u.start to.stop (part operand none)
  pub taken : IsTrue (takes h Assignment)
  pub spelled : SpellsIn text o (expr Assignment i Any) operand mid to Q
  pub stopped : StopsIn text Assignment i operand to

pub operand_given : (s m : CursorState) {i : Bool} {o : ℕ} {h : Rank} {n : Tree} {to : Token} {Q : List Pair} {x : Form} → YieldGiven s.text i o h s.last n to Q → is_of_2022 s.text.language ≡ true → MaySeeOperand s.text s.last → StarredAt s m Init x → OperandGiven s.text i o h s.last x n m.last to Q
operand_given s m (yield_alone tree tk sees place pairs) later may starred = absurd (false≢true (sym (may sees.0 sees.1 sees.2) ∙ sees.3))
operand_given s m (yield_operand tree tk seen missed d stops) later may (inl star) = absurd (not_missed missed star.1)
operand_given s m {i} {o} {h} {n} {to} {Q} (yield_operand {v = v} tree tk seen missed d stops) later may (inr none_there) = record {
  operand = v;
  tree = subst (λ y. n ≡ node YieldExpression [] (yield_flags y) s.last.start to.stop (part v none)) (sym none_there.1) tree;
  taken = tk;
  spelled = subst (λ k. SpellsIn s.text o (expr Assignment i Any) v k to Q) (sym none_there.0) d;
  stopped = stops;
}
operand_given s m {i} {o} {h} {n} {to} {Q} (yield_from {v = v} {mid = mid} tree tk seen sign d stops) later may (inl star) = record {
  operand = v;
  tree = subst (λ y. n ≡ node YieldExpression [] (yield_flags y) s.last.start to.stop (part v none)) (sym star.2) tree;
  taken = tk;
  spelled = subst (λ k. SpellsIn s.text o (expr Assignment i Any) v k to Q) (marks_same s.text sign star.1).1 d;
  stopped = stops;
}
operand_given s m (yield_from tree tk seen sign d stops) later may (inr none_there) = absurd (not_missed (none_there.2 later) sign)

-- its operand is lower
pub yield_low : {text : SourceText} {i : Bool} {o : ℕ} {h : Rank} {u : Token} {x : Form} {n : Tree} {mid to : Token} {Q : List Pair} (v : OperandGiven text i o h u x n mid to Q) → height n ≡ suc (max (height v.operand) 0)
yield_low v = ap height v.tree

-- what the code makes is what is given
pub yield_first : {a : Reading} {h : Rank} {n m : Tree} {x : Form} {st en : ℕ} {ps : Parts} (w : Edge) (r : Operand) → a ≡ as_expression → m ≡ n → n ≡ node YieldExpression [] (yield_flags x) st en ps → IsTrue (takes h Assignment) → r ≡ plain_part m Assignment w → IsFirst a h r n
yield_first {a} {h} {n} {m} w r reading same tree tk made = subst (λ c. IsFirst a h c n) (sym made) (edged_first w reading same (λ k. absurd (false≢true (sym (ap (λ c. is_simple (kind_of c)) tree) ∙ k))) tk)

-- and its operand is of the language
pub yield_own : {text m_text : SourceText} {i : Bool} {o : ℕ} {h : Rank} {u : Token} {x : Form} {n : Tree} {mid to : Token} {Q : List Pair} (v : OperandGiven text i o h u x n mid to Q) → m_text ≡ text → OfLanguage text n → OfLanguage m_text v.operand
yield_own {text} v same own = subst (λ x. OfLanguage x v.operand) (sym same) (first_of_language (parts_of_language (subst (OfLanguage text) v.tree own)))
