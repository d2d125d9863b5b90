-- The next stage on the spine of an expression.
use Rattle.std.proofs.Common.{◌≡◌, ◌⊎◌, ℕ, ◌<◌, Bool, true, false, List, refl, sym, ap, ◌∙◌, subst, inl, inr}
use Rattle.std.specs.Prelude.{IsTrue, codes}
use Rattle.tree.specs.declared.kind.Kind.{Kind}
use Rattle.tree.specs.declared.kind.Kind.TheVariants.{AssignmentExpression}
use Rattle.tree.specs.declared.kind.Pair.{Pair}
use Rattle.tree.specs.Tree.{Tree, node, Parts, kind_of, text_of, height}
use Rattle.language.specs.declared.Rank.{Rank}
use Rattle.language.specs.declared.Start.{Start}
use Rattle.language.specs.Vocabulary.{takes, is_target as is_simple}
use Rattle.language.specs.Token.{Token}
use Rattle.language.specs.Edges.{edge, edge_as_written}
use Rattle.language.specs.Later.{has_later}
use Rattle.language.specs.Pieces.{Role, expr}
use Rattle.language.specs.Continuations.{operation, rank_made_by, stops_at, stops}
use Rattle.language.specs.Covers.{Reading}
use Rattle.language.specs.Derivation.{Placed}
use Rattle.token_cursor.proofs.SeenTokens.{seen_determined}
use Rattle.language.proofs.climbing.Spine.{Grows}
use Rattle.language.proofs.climbing.OperatorLoop.{Leads}
use Rattle.language.proofs.climbing.BinaryTurns.{same_places, retold, regrown}
use Rattle.covers.specs.Shapes.{is_element, is_target}
use Rattle.covers.proofs.BasePatterns.{pattern_later}
use Rattle.parser_tables.specs.declared.operand.Operand.{Operand}
use Rattle.parser_tables.specs.declared.expression_context.ExpressionContext.{ExpressionContext}
use Rattle.recursive_descent.specs.Soundness.{Begins}
use Rattle.parser_tables.specs.Operators.{stops_by}
use Rattle.recursive_descent.specs.Stages.{SpineAs, Serves, as_it_is, as_element, StageAs, on_spine}
use Rattle.recursive_descent.proofs.sound_expressions.ExpressionParts.{placed_at}
use Rattle.recursive_descent.proofs.reading.PatternEnds.{grows_or, target_element}
use Rattle.recursive_descent.proofs.reading.SeenClasses.{edge_seen}
use Rattle.recursive_descent.proofs.reading.LanguageTrees.{grown_language}
use Rattle.token_cursor.specs.SourceText.{SourceText, SeenNext, behind_in}
use Rattle.recursive_descent.specs.Spelled.{OfLanguage, SpellsIn}

module _ (text : SourceText) where
  -- what goes on at the position goes on behind the tree
  pub goes_there : (p : ExpressionContext) (l : Operand) (m t : Token) → l.edge ≡ edge_as_written (edge l.cover.node) m → stops_by p l.edge t ≡ false → stops p.rank p.has_in (edge l.cover.node) (behind_in text m) t ≡ false
  goes_there p l m t at goes = subst (λ v. stops_at p.rank p.has_in v t (rank_made_by (operation t) t.after_break) ≡ false) (at ∙ sym (edge_seen text (edge l.cover.node) m)) goes

  -- the whole that serves, and what stands on its spine, are of the language if what is given is
  serves_language : {p : ExpressionContext} {o : ℕ} {s e : Token} {P : List Pair} {l : Operand} {m : Token} {Q : List Pair} {a : Reading} {n k : Tree} → Serves text p o s e P l m Q a n k → OfLanguage text n → OfLanguage text k
  serves_language (as_it_is reading same) own = subst (OfLanguage text) (sym same) own
  serves_language {k = k} (as_element reading same other kind so_far) own = record { none_later = λ b. sym (pattern_later k) ∙ ap has_later same ∙ own.none_later b }

  pub on_language : {p : ExpressionContext} {o : ℕ} {s e : Token} {P : List Pair} {l : Operand} {m : Token} {Q : List Pair} {a : Reading} {n k k' : Tree} {b c : Role} {to : Token} {R : List Pair} → Serves text p o s e P l m Q a n k → Grows Token (SeenNext text) (behind_in text) o s b k e P c k' to R → OfLanguage text n → OfLanguage text k'
  on_language serves gs own = grown_language gs (serves_language serves own)

  -- what was read stands on the spine, and serves as what was read before it
  pub on_further : {p : ExpressionContext} {o : ℕ} {s e : Token} {P : List Pair} {l : Operand} {m : Token} {Q : List Pair} {a : Reading} {n k : Tree} {r : Operand} {to : Token} {R : List Pair} → Serves text p o s e P l m Q a n k → height k ≡ height n → SpineAs text p o s e P l m Q k →
      Leads Token (SeenNext text) (behind_in text) (seen_determined text) o s p.rank p.has_in p.start k e P r.rank r.cover.node to R → r.cover.shape.is_expression ≡ true → (is_simple (kind_of r.cover.node) ≡ true → is_target r.cover.shape.assigned ≡ true) →
      (kind_of r.cover.node ≡ AssignmentExpression → text_of r.cover.node ≡ codes "=" → is_element r.cover.shape.assigned ≡ true) → StageAs text p o s e P r to R a n
  on_further {p} {o} {s} {e} {P} {l} {m} {Q} {a} {n} {k} {r} {to} {R} serves high u leads value target element = on_spine (of serves) high (record { no_test = u.no_test; stopped = u.stopped; leads = leads; value = value; target = target })
    where
      of : Serves text p o s e P l m Q a n k → Serves text p o s e P r to R a n k
      of (as_it_is reading same) = as_it_is reading same
      of (as_element reading same other kind so_far) = as_element reading same other kind (by (grows_or text leads.grows) kind)
        where
          by : (r.cover.node ≡ k) ⊎ (height r.cover.node < height k) → (is_simple (kind_of k) ≡ true) ⊎ ((kind_of k ≡ AssignmentExpression) × (text_of k ≡ codes "=")) → (height r.cover.node < height k) ⊎ (is_element r.cover.shape.assigned ≡ true)
          by (inr less) x = inl less
          by (inl whole) (inl simple) = inr (target_element r.cover.shape.assigned (target (ap (λ v. is_simple (kind_of v)) whole ∙ simple)))
          by (inl whole) (inr x) = inr (element (ap kind_of whole ∙ x.0) (ap text_of whole ∙ x.1))

  -- a node on the spine, told of the start and the end that it has
  pub node_there : {o : ℕ} {s0 e : Token} {y : Rank} {i : Bool} {f : Start} {n : Tree} {P : List Pair} {h c : Rank} {j : Bool} {g : Start} {k : Kind} {w : List ℕ} {fl : Rattle.tree.specs.declared.kind.Flags.Flags} {st en from : ℕ} {ps : Parts} {to : Token} {Q : List Pair} → Begins text from s0 →
      Placed Token (SeenNext text) (behind_in text) (expr h j g) (node k w fl st en ps) s0 to → IsTrue (takes h c) → SpellsIn text o (expr h j g) (node k w fl st en ps) s0 to Q → Grows Token (SeenNext text) (behind_in text) o s0 (expr y i f) n e P (expr h j g) (node k w fl st en ps) to Q →
      Leads Token (SeenNext text) (behind_in text) (seen_determined text) o s0 y i f n e P c (node k w fl from to.stop ps) to Q
  node_there {s0 = s0} {h = h} {j = j} {g = g} {k = k} {w = w} {fl = fl} {st = st} {en = en} {from = from} {ps = ps} {to = to} begins pl fits sp gs =
      let places : Placed Token (SeenNext text) (behind_in text) (expr h j g) (node k w fl from to.stop ps) s0 to = placed_at text begins in
      let at = same_places Token (SeenNext text) (behind_in text) (seen_determined text) pl places refl in
      let same : node k w fl st en ps ≡ node k w fl from to.stop ps = λ v. node k w fl (at.0 v) (at.1 v) ps in
      record { h = h; j = j; g = g; fits = fits; spelled = retold Token (SeenNext text) (behind_in text) (seen_determined text) same refl refl sp; grows = regrown Token (SeenNext text) (behind_in text) (seen_determined text) same refl refl gs }
