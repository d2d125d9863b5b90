-- Every derivation has at least as many pairs as the cost of its node.
use Rattle.tree.specs.declared.kind.Kind.TheVariants.{Identifier}
use Rattle.std.proofs.Common.{sym, ◌≡◌, ℕ, true, List, ◌∷◌, length, refl, subst, arith, length-append}
use Rattle.language.specs.declared.Rank.TheVariants.{Expression}
use Rattle.language.specs.declared.Start.TheVariants.{Any}
use Rattle.tree.specs.declared.kind.Pair.{Pair}
use Rattle.tree.specs.Tree.{node, plain, none, Tree, Parts}
use Rattle.language.specs.Pieces.{key, word, Role, expr, PieceOf}
use Rattle.language.specs.Token.{Token}
use Rattle.language.specs.RowPositions.{roles}
use Rattle.language.specs.Grammar.{ways, ways_bare, spellings}
use Rattle.language.specs.Derivation.{Spells, direct, grouped, Runs, done, step, opened, closed, within, missing, Step, token, with_mark, without_mark, one_more, no_more, seen, same_line, left_bare, explicit, implicit, laid, reserved_key, reserved_word}
use Rattle.language.specs.Cost.{AtMost, at_most, if_any, least, parts_least}
use Rattle.language.proofs.table.LooserPositions.{AtMost-add, least-direct, least-grouped, Looser, same, looser, AllLooser, next}
use Rattle.language.proofs.lower_bound.Domination.{dominated}
use Rattle.language.proofs.table.TidyTable.{tidy_table}

-- a name costs nothing where reserved words stand too
least_key : (w : List ℕ) (a b : ℕ) → AtMost (least (node Identifier w plain a b none) key) 0
unfolding least parts_least ways ways_bare spellings if_any
least_key w a b = at_most (omega arith)

least_word : (w : List ℕ) (a b : ℕ) → AtMost (least (node Identifier w plain a b none) word) 0
unfolding least parts_least ways ways_bare spellings if_any
least_word w a b = at_most (omega arith)

module _ (S : Type 0) (Next : S → Token → S → Type 0) (behind : S → Token) where
  pub Step-roles : {q : PieceOf Role} {s m : S} (qs : List (PieceOf Role)) → Step S Next behind q s m → roles (q ∷ qs) ≡ roles qs
  Step-roles qs (token h) = refl
  Step-roles qs (with_mark h) = refl
  Step-roles qs without_mark = refl
  Step-roles qs (one_more h d) = refl
  Step-roles qs no_more = refl
  Step-roles qs (seen h) = refl
  Step-roles qs (same_line h k) = refl
  Step-roles qs (left_bare h k) = refl
  Step-roles qs (explicit h) = refl
  Step-roles qs (implicit h k) = refl
  Step-roles qs laid = refl

  mutual
    unfolding parts_least

    pub lower_bound : {o : ℕ} {a : Role} {n : Tree} {s e : S} {P : List Pair} →
        Spells ways S Next behind o a n s e P → (b : Role) → Looser a b → AtMost (least n b) (length P)
    lower_bound {a = a} {n = n} {P = P} (direct qs c e d) b l =
        least-direct n b (length P) (dominated tidy_table n a b qs l c (length P) (λ xs h. parts_lower_bound d xs h))
    lower_bound {n = n} (grouped {y = y} {i = i} {f = f} p d q) b same = least-grouped n y i f _ (lower_bound d (expr Expression true Any) same)
    lower_bound {n = n} (grouped p d q) b (looser {z = z} {j = j} {g = g} u v w) = least-grouped n z j g _ (lower_bound d (expr Expression true Any) same)
    lower_bound (reserved_key {w = w} r k e) b same = subst (λ v. AtMost (least v key) 0) (sym e) (least_key w _ _)
    lower_bound (reserved_word {w = w} r k e) b same = subst (λ v. AtMost (least v word) 0) (sym e) (least_word w _ _)

    pub parts_lower_bound : {o : ℕ} {qs : List (PieceOf Role)} {ps : Parts} {s e : S} {P : List Pair} →
        Runs ways S Next behind o qs ps s e P → (xs : List Role) → AllLooser (roles qs) xs → AtMost (parts_least ps xs) (length P)
    parts_lower_bound done xs h = at_most (omega arith)
    parts_lower_bound (step {qs = qs} p d) xs h = parts_lower_bound d xs (subst (λ as_roles. AllLooser as_roles xs) (Step-roles qs p) h)
    parts_lower_bound (opened p d) xs h = parts_lower_bound d xs h
    parts_lower_bound (closed p d) xs h = parts_lower_bound d xs h
    parts_lower_bound (within {P = P} {Q = Q} p d) xs (next l h) = rw length-append (AtMost-add (lower_bound p _ l) (parts_lower_bound d _ h))
    parts_lower_bound (missing d) xs h = parts_lower_bound d xs h

  -- no derivation of a node at a position has fewer pairs than its cost there
  pub at_least : {o : ℕ} {a : Role} {n : Tree} {s e : S} {P : List Pair} → Spells ways S Next behind o a n s e P → AtMost (least n a) (length P)
  at_least {a = a} d = lower_bound d a same
