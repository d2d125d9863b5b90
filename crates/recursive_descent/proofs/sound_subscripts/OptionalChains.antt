-- Optional chains, from the part before the first `?.` on (ECMA-262 12.3.9).
use Rattle.std.proofs.Common.{◌≡◌, ℕ, Bool, true, false, cond, List, [], ◌++◌, refl, sym, ap, ◌∙◌, subst, append_assoc}
use Rattle.std.specs.Prelude.{codes, ◌&&◌, ◌||◌}
use Rattle.std.proofs.lemmas.List.{append-nil}
use Rattle.tokens.specs.declared.token.TokenClass.TheVariants.{Punctuator}
use Rattle.tokens.specs.declared.token.Goal.TheVariants.{Div}
use Rattle.token_cursor.specs.CursorState.{CursorState}
use Rattle.tree.specs.declared.kind.Kind.TheVariants.{ChainExpression}
use Rattle.tree.specs.declared.kind.Pair.{Pair}
use Rattle.tree.specs.Tree.{Tree, node, plain, Parts, none, part, gap, bare, bare_parts}
use Rattle.language.specs.declared.Rank.TheVariants.{LeftHandSide}
use Rattle.language.specs.declared.Start.{Start}
use Rattle.language.specs.declared.Edge.TheVariants.{Other}
use Rattle.language.specs.Expressions.{is_chain_part, has_optional, first_has_optional}
use Rattle.language.specs.Token.{Token}
use Rattle.language.proofs.climbing.OperatorNodes.{chain_grows}
use Rattle.parser_tables.specs.declared.operand.Operand.{Operand}
use Rattle.recursive_descent.specs.Soundness.{Adds, Begins, PartAt, LinkAt, Links, GoesOn}
use Rattle.parser_tables.specs.Operands.{plain_part}
use Rattle.token_cursor.specs.Seen.{Sees, Misses, MissesBy}
use Rattle.parser_tables.specs.Tests.{is_template}
use Rattle.recursive_descent.proofs.reading.AddedPairs.{adds_behind, adds_both}
use Rattle.recursive_descent.proofs.sound_expressions.ExpressionParts.{placed_at, value_part}
use Rattle.token_cursor.specs.SourceText.{SourceText, SeenNext, behind_in}

mutual
  pub chained_bare : (n : Tree) → has_optional (bare n) ≡ has_optional n
  chained_bare (node k w g s e ps) = ap (λ b. is_chain_part k && (g.optional || b)) (first_bare ps)

  first_bare : (ps : Parts) → first_has_optional (bare_parts ps) ≡ first_has_optional ps
  first_bare none = refl
  first_bare (part n ps) = chained_bare n
  first_bare (gap ps) = refl

-- what is so far a chain, from whatever stands before its `?.`
abbrev pub ChainedOn : SourceText → Operand → Operand → ℕ → Token → Token → List Pair → Type 0
ChainedOn text l r o m e Q = (i : Bool) (f : Start) (s : Token) (P : List Pair) → PartAt text i f l o s m P → LinkAt text f r o s e (P ++ Q)

module _ (text : SourceText) where
  begun_by : {m : Token} (b : Bool) → cond b (Sees text Punctuator (codes "?.") m) (Misses text Punctuator (codes "?.") m) → Sees text Punctuator (codes "?.") m → b ≡ true
  begun_by true h sees = refl
  begun_by false h sees = absurd (h (behind_in text sees.0) sees.0 sees.1)

  pub chain_part : {i : Bool} {f : Start} {l : Operand} {at o : ℕ} {s m : Token} {P : List Pair} → Begins text at s → LinkAt text f l o s m P → PartAt text i f (plain_part (node ChainExpression [] plain at m.stop (part l.cover.node none)) LeftHandSide Other) o s m (P ++ [])
  chain_part {i} {f} {l} {at} {o} {s} {m} {P} begins links =
      value_part text refl begins refl refl (λ h. cc)
      (λ h j tk lo. chain_grows Token (SeenNext text) (behind_in text) (chained_bare l.cover.node ∙ links.chained) tk links.spelled (placed_at text begins))

-- the first part
pub chain_first : {m e : CursorState} {mid new : List Pair} {l r : Operand} → Sees m.text Punctuator (codes "?.") m.last → Adds m e mid new (Links m.text l r) → Adds m e mid new (ChainedOn m.text l r)
chain_first {m} sees a = adds_behind refl refl a (λ o Q v i f s P h. v.begun (begun_by m.text _ v.optional sees) i f s P h)

-- a further one
pub chain_on : {s m e : CursorState} {old mid new : List Pair} {text : SourceText} {l p r : Operand} → text ≡ s.text → Adds s m old mid (ChainedOn s.text l p) → MissesBy text Div is_template m.last → Adds m e mid new (Links text p r) → Adds s e old new (ChainedOn s.text l r)
chain_on {s} {m} {e} {p = p} {r = r} same a no_template b =
    adds_both a b (λ o P Q u v i f z R h. subst (λ x. LinkAt s.text f r o z e.last x) (append_assoc R P Q) ((subst (λ t. Links t p r o m.last e.last Q) same v).further (subst (λ t. MissesBy t Div is_template m.last) same no_template) f z (R ++ P) (u i f z R h)))

-- the whole
pub chain_whole : {s e : CursorState} {old new : List Pair} {l p : Operand} → Adds s e old new (ChainedOn s.text l p) → Adds s e old new (λ o m e' Q. (i : Bool) → GoesOn s.text i l (plain_part (node ChainExpression [] plain l.start e'.stop (part p.cover.node none)) LeftHandSide Other) o m e' Q)
chain_whole {s} {e} {l = l} {p = p} a =
    adds_behind refl refl a (λ o Q u i f z P h. subst (λ x. PartAt s.text i f (plain_part (node ChainExpression [] plain l.start e.last.stop (part p.cover.node none)) LeftHandSide Other) o z e.last x) (append-nil (P ++ Q)) (chain_part s.text h.begins (u i f z P h)))

pub chain_returned : {s e : CursorState} {old new : List Pair} {l r : Operand} (p : Operand) → r ≡ plain_part (node ChainExpression [] plain l.start e.last.stop (part p.cover.node none)) LeftHandSide Other →
    Adds s e old new (λ o m e' Q. (i : Bool) → GoesOn s.text i l (plain_part (node ChainExpression [] plain l.start e'.stop (part p.cover.node none)) LeftHandSide Other) o m e' Q) → Adds s e old new (λ o m e' Q. (i : Bool) → GoesOn s.text i l r o m e' Q)
chain_returned {s} {e} {l = l} {r = r} p is a = adds_behind refl refl a (λ o Q u i. subst (λ x. GoesOn s.text i l x o s.last e.last Q) (sym is) (u i))
