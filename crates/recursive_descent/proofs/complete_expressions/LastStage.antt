-- The last stage: where nothing goes on, what is given was read.
use Rattle.std.proofs.Common.{◌≡◌, ◌⊎◌, ℕ, ◌-◌, ◌≤◌, ◌<◌, Bool, true, false, List, [], ◌++◌, refl, sym, ap, ◌∙◌, subst, inl, inr, arith, append_assoc, Result}
use Rattle.source_text.specs.declared.fault.Fault.{Fault}
use Rattle.std.specs.Prelude.{IsTrue, not, ◌&&◌, ◌||◌}
use Rattle.std.proofs.lemmas.Bool.{false≢true}
use Rattle.tokens.specs.declared.token.TokenClass.TheVariants.{Punctuator}
use Rattle.tokens.specs.declared.token.Goal.TheVariants.{Div}
use Rattle.tokens.specs.Goals.{allows}
use Rattle.token_cursor.specs.CursorState.{CursorState}
use Rattle.tree.specs.declared.kind.Kind.{Kind}
use Rattle.tree.specs.declared.kind.Kind.TheVariants.{Identifier, MemberExpression, ArrayExpression, ObjectExpression, ArrayPattern, ObjectPattern}
use Rattle.tree.specs.declared.kind.Pair.{Pair}
use Rattle.tree.specs.Tree.{Tree, node, kind_of, height}
use Rattle.language.specs.declared.Rank.TheVariants.{Assignment}
use Rattle.language.specs.declared.Edge.TheVariants.{Other}
use Rattle.language.specs.Vocabulary.{is, takes, is_target as is_simple, is_pattern, op_assign}
use Rattle.language.specs.Token.{Token}
use Rattle.language.specs.Edges.{edge, edge_as_written}
use Rattle.language.specs.Continuations.{operation, rank_made_by, holds, stops_at}
use Rattle.language.specs.Promises.{ReadBy}
use Rattle.language.specs.Covers.{Reading}
use Rattle.language.specs.Claims.{max_open}
use Rattle.token_cursor.proofs.SeenTokens.{seen_determined}
use Rattle.language.proofs.climbing.NamesBehind.{apart_inside}
use Rattle.language.proofs.climbing.SpineContinuations.{makes}
use Rattle.language.proofs.climbing.OperatorLoop.{whole_where_stops}
use Rattle.language.proofs.table.Reaches.{reaches}
use Rattle.tree.specs.Patterns.{pattern_tree, pattern_kind}
use Rattle.covers.specs.Shapes.{is_element}
use Rattle.parser_tables.specs.declared.operand.Operand.{Operand}
use Rattle.parser_tables.specs.declared.expression_context.ExpressionContext.{ExpressionContext}
use Rattle.recursive_descent.specs.Soundness.{Adds, ReadAt, grouping}
use Rattle.recursive_descent.specs.Completeness.{Agrees, Room, EndsWith, IsRead, IsFirst}
use Rattle.parser_tables.specs.Operators.{stops_by, StopsHere}
use Rattle.recursive_descent.specs.Stages.{SpineAs, IsLeft, Serves, as_it_is, as_element, StageAs, on_spine, at_pattern, at_default, at_end, Staged, InfixComplete}
use Rattle.recursive_descent.proofs.reading.AddedPairs.{grouping_both}
use Rattle.recursive_descent.proofs.reading.SeenClasses.{edge_seen}
use Rattle.recursive_descent.proofs.complete_expressions.Stages.{Starts}
use Rattle.token_cursor.specs.SourceText.{SourceText, SeenNext, behind_in}
use Rattle.recursive_descent.specs.Spelled.{OfLanguage}

-- a name, a member, an array and an object end as they stand
left_edge : (n : Tree) → (is_pattern (kind_of (pattern_tree n)) || is_simple (kind_of (pattern_tree n))) ≡ true → edge n ≡ Other
left_edge (node Identifier w g s e ps) h = refl
left_edge (node MemberExpression w g s e ps) h = refl
left_edge (node ArrayExpression w g s e ps) h = refl
left_edge (node ObjectExpression w g s e ps) h = refl
left_edge (node ArrayPattern w g s e ps) h = refl
left_edge (node ObjectPattern w g s e ps) h = refl
left_edge (node _ w g s e ps) h = absurd (false≢true h)

-- what is a simple target as a pattern is one as an expression
simple_back : (k : Kind) → is_simple (pattern_kind k) ≡ true → is_simple k ≡ true
simple_back Identifier h = refl
simple_back MemberExpression h = refl
simple_back _ h = absurd (false≢true h)

tree_kind : (n : Tree) → kind_of (pattern_tree n) ≡ pattern_kind (kind_of n)
tree_kind (node k w g s e ps) = refl

-- where `=` may stand, it goes on
goes : (a b c d : Bool) → a ≡ true → b ≡ false → d ≡ true → (not a || ((b && not c) || not d)) ≡ true → ⊥
goes true false c true h k l m = cc
goes true true c d h k l m = cc
goes true b c false h k l m = cc
goes false b c d h k l m = cc

module _ (text : SourceText) where
  -- before `=` something goes on
  pub sign_goes : {p : ExpressionContext} {o : ℕ} {s e : Token} {P : List Pair} {l : Operand} {m : Token} {Q : List Pair} {b : Bool} {left : Tree} {x : Token} → IsTrue (takes p.rank Assignment) → l.edge ≡ edge_as_written (edge l.cover.node) m → IsLeft text p o s e P l m Q b left x → stops_by p l.edge (behind_in text x) ≡ true → ⊥
  sign_goes {p = p} {l = l} {m = m} {left = left} {x = x} tk at u stops =
      let y = behind_in text x in
      let op : operation y ≡ op_assign = makes y u.sign.class u.sign.text refl in
      let tree : pattern_tree l.cover.node ≡ left = u.read.tree in
      let other : edge l.cover.node ≡ Other = left_edge l.cover.node (subst (λ v. (is_pattern (kind_of v) || is_simple (kind_of v)) ≡ true) (sym tree) u.kind) in
      let edge_is : l.edge ≡ Other = at ∙ ap (λ v. edge_as_written v m) other in
      goes (takes p.rank Assignment) (is y.text "in") p.has_in (holds l.edge Assignment) tk (ap (λ w. is w "in") u.sign.text) (ap (λ v. holds v Assignment) edge_is)
      (subst (λ v. stops_at p.rank p.has_in l.edge y (rank_made_by v y.after_break) ≡ true) op stops)

  pub sign_read : {p : ExpressionContext} {o : ℕ} {s e : Token} {P : List Pair} {l : Operand} {m : Token} {Q : List Pair} {b : Bool} {left : Tree} {x : Token} → IsLeft text p o s e P l m Q b left x → ReadBy Token (SeenNext text) (behind_in text) Div m (behind_in text x) x
  sign_read {x = x} u = record { next = u.sign.next; allowed = subst (λ c. IsTrue (allows Div c (behind_in text x).text)) (sym u.sign.class) (subst (λ w. IsTrue (allows Div Punctuator w)) (sym u.sign.text) refl) }

  served : {p : ExpressionContext} {o : ℕ} {s e : Token} {P : List Pair} {l : Operand} {m : Token} {Q : List Pair} {a : Reading} {n k : Tree} → Serves text p o s e P l m Q a n k → SpineAs text p o s e P l m Q k → k ≡ l.cover.node → IsRead a l n
  served {l = l} {n = n} {k = k} (as_it_is reading same) u ended = subst (λ c. IsRead c l n) (sym reading) (record {
    fits = u.value;
    tree = sym ended ∙ same;
    target = λ h. u.target (subst (λ v. is_simple (kind_of v) ≡ true) (sym (sym ended ∙ same)) h);
    pattern = λ b c h. cc;
  })
  served {l = l} {n = n} {k = k} (as_element reading same other kind so_far) u ended = subst (λ c. IsRead c l n) (sym reading) (record {
    fits = fit so_far;
    tree = tree;
    target = λ h. u.target (simple_back (kind_of l.cover.node) (subst (λ v. is_simple v ≡ true) (sym (ap kind_of tree) ∙ tree_kind l.cover.node) h));
    pattern = λ b c h. absurd (false≢true (sym other ∙ h));
  })
    where
      tree : pattern_tree l.cover.node ≡ n
      tree = ap pattern_tree (sym ended) ∙ same

      fit : (height l.cover.node < height k) ⊎ (is_element l.cover.shape.assigned ≡ true) → is_element l.cover.shape.assigned ≡ true
      fit (inl less) = let high : height k ≡ height l.cover.node = ap height ended in absurd (omega arith)
      fit (inr h) = h

  -- nothing goes on at the last stage
  pub concluded : {p : ExpressionContext} {o : ℕ} {s e : Token} {P : List Pair} {l : Operand} {m : Token} {Q : List Pair} {a : Reading} {n : Tree} → StageAs text p o s e P l m Q a n → l.edge ≡ edge_as_written (edge l.cover.node) m → StopsHere text p l.edge m → IsRead a l n × (m ≡ e) × (Q ≡ P)
  concluded {p = p} {l = l} {m = m} (on_spine serves high u) at stops =
      let ended = whole_where_stops Token (SeenNext text) (behind_in text) (seen_determined text) u.leads.spelled (record {
        before = λ t x r. subst (λ v. stops_at p.rank p.has_in v t (rank_made_by (operation t) t.after_break) ≡ true) (at ∙ sym (edge_seen text (edge l.cover.node) m)) (stops t x r);
        apart = apart_inside Token (SeenNext text) (behind_in text) (seen_determined text) u.leads.grows u.stopped.apart;
      }) u.leads.grows in
      (served serves u ended.tree, sym ended.place, sym ended.pairs)
  concluded {p = p} {l = l} (at_pattern reading u) at stops =
      absurd (sign_goes ((reaches Token (SeenNext text) (behind_in text) u.grows).taken Assignment u.stands) at u.is_left (stops (behind_in text u.x) u.x (sign_read u.is_left)))
  concluded {p = p} {l = l} (at_default reading u) at stops = absurd (sign_goes (ap (λ q. takes q.rank Assignment) u.position) at u.is_left (stops (behind_in text u.x) u.x (sign_read u.is_left)))
  concluded {l = l} {n = n} (at_end reading read place pairs over) at stops = (subst (λ c. IsRead c l n) (sym reading) read, place, pairs)

-- the loop begins
pub stage_first : {s e : CursorState} {old new : List Pair} {p : ExpressionContext} {o : ℕ} {n : Tree} {to : Token} {P : List Pair} {a : Reading} (l : Operand) (u : Starts s.text p o n s.last to P a) → IsFirst u.reading u.rank l u.tree → EndsWith s e old new u.mid u.pairs → Staged s.text p o s.last to P l e.last [] old new a n
stage_first {s} {e} {p = p} {o = o} {n = n} {to = to} {P = P} {a = a} l u first ends = record {
  more = ends.more;
  added = ends.added;
  stage = subst (λ v. StageAs s.text p o s.last to P l v (grouping ends.more) a n) (sym ends.place) (subst (λ v. StageAs s.text p o s.last to P l u.mid v a n) (sym ends.pairs) (u.next l first));
}

-- a turn further
pub stage_next : {text : SourceText} {p : ExpressionContext} {o : ℕ} {s to m : Token} {P old mid new : List Pair} {l r : Operand} {at : Token} {a : Reading} {n : Tree} (u : Staged text p o s to P l at [] old mid a n) → Staged text p o s to P r m (grouping u.more) mid new a n → Staged text p o s to P r m [] old new a n
stage_next {text} {p} {o} {s} {to} {m} {P} {old = old} {r = r} {a = a} {n = n} u v = record {
  more = u.more ++ v.more;
  added = v.added ∙ ap (λ c. c ++ v.more) u.added ∙ append_assoc old u.more v.more;
  stage = subst (λ c. StageAs text p o s to P r m c a n) (sym (grouping_both u.more v.more)) v.stage;
}

-- a turn, told of the text and the point where the loop began
pub stage_turned : {s m : CursorState} {old mid : List Pair} {p : ExpressionContext} {l : Operand} (e : CursorState) (new : List Pair) (high : ℕ) (result : Result Operand Fault) {a : Reading} {o : ℕ} {n : Tree} {to : Token} {P : List Pair} → m.text ≡ s.text → Adds s m old mid (ReadAt s.text p l) → (u : Staged s.text p o s.last to P l m.last [] old mid a n) → OfLanguage s.text n →
    InfixComplete m e mid new high p l result → Agrees (Room m o (height n) high) (λ r. Staged s.text p o s.last to P r e.last (grouping u.more) mid new a n) result
stage_turned {s} {m} {old} {mid} {p} {l} e new high result {a} {o} {n} {to} {P} same at u own turn =
    let read : ReadAt m.text p l (max_open - m.opened) s.last m.last (grouping at.more) = subst (λ v. ReadAt v p l (max_open - m.opened) s.last m.last (grouping at.more)) (sym same) (subst (λ v. ReadAt s.text p l (max_open - v) s.last m.last (grouping at.more)) (sym at.same_open) at.is) in
    let stage = subst (λ v. StageAs v p o s.last to P l m.last (grouping u.more) a n) (sym same) u.stage in
    subst (λ v. Agrees (Room m o (height n) high) (λ r. Staged v p o s.last to P r e.last (grouping u.more) mid new a n) result) same (turn a o n s.last to P (grouping u.more) (grouping at.more) read stage (subst (λ v. OfLanguage v n) (sym same) own))

pub same_room : (s m : CursorState) {o levels high : ℕ} → m.opened ≡ s.opened → Room s o levels high → Room m o levels high
same_room s m {o} same room = (subst (λ v. o ≤ max_open - v) (sym same) room.0, room.1)
