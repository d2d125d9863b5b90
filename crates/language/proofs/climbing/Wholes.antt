-- An Expression from its first AssignmentExpression: that alone, or a sequence with it. So what parentheses hold, which is read as a list, is told.
use Rattle.std.proofs.Common.{◌≡◌, ℕ, ◌≤◌, Bool, true, false, List, [], ◌∷◌, ◌++◌, refl, sym, ap, ◌∙◌, subst, arith}
use Rattle.std.specs.Prelude.{IsTrue}
use Rattle.std.proofs.lemmas.Bool.{and_parts, and_from}
use Rattle.tree.specs.declared.kind.Kind.{Kind}
use Rattle.tree.specs.declared.kind.Kind.TheVariants.{SequenceExpression}
use Rattle.tree.specs.declared.kind.Flags.{Flags}
use Rattle.language.specs.declared.Start.TheVariants.{Any}
use Rattle.language.specs.declared.Rank.{Rank}
use Rattle.language.specs.declared.Rank.TheVariants.{Expression, Assignment}
use Rattle.language.specs.declared.Start.{Start}
use Rattle.tree.specs.declared.kind.Pair.{Pair}
use Rattle.tree.specs.Tree.{Tree, node, Parts, part, bare, bare_parts, plain}
use Rattle.tree.specs.Uses.{is_lean, used_flags, has_text}
use Rattle.tree.proofs.Lean.{lean_flags, lean_text}
use Rattle.language.specs.FirstPart.{others}
use Rattle.language.specs.Vocabulary.{takes, precedence}
use Rattle.language.specs.Pieces.{expr, Spelling, at, sub, left, is_none}
use Rattle.language.specs.Token.{Token}
use Rattle.language.specs.Expressions.{sequence}
use Rattle.language.specs.Promises.{IsDetermined}
use Rattle.language.specs.Grammar.{ways, spellings}
use Rattle.language.specs.Derivation.{Spells, direct, grouped, Runs, Placed, placed}
use Rattle.language.specs.Chosen as chosen
use Rattle.language.specs.Chosen.{Chosen}
use Rattle.language.specs.Forms.{Production, form, spelling_of}
use Rattle.language.proofs.table.NodeForms.{Made}
use Rattle.language.proofs.lower_bound.Domination.{settled}
use Rattle.language.proofs.table.ViewIsComplete.{Way, way_of, made}
use Rattle.language.proofs.table.OperatorFacts.{binding}
use Rattle.language.proofs.table.Productions.{way_from}
use Rattle.language.proofs.table.Begins.{goes_to, retell}
use Rattle.language.proofs.list_loops.FirstPieces.{run_part}
use Rattle.language.proofs.climbing.OperatorNodes.{none_bare}
use Rattle.language.proofs.climbing.BinaryTurns.{same_node}
use Rattle.language.proofs.climbing.Commas.{comma_pieces}
use Rattle.language.proofs.climbing.Callees.{tight_pieces}
use Rattle.language.proofs.climbing.Sequences.{takes_all}

-- a way of an expression stands at Assignment, but that of a sequence
data Stood (k : Kind) (ps : Parts) (x : Spelling) : Type 0 where
  as_several : k ≡ SequenceExpression → x ≡ at Expression (sub (left Assignment) ∷ sequence (others ps)) → is_none (others ps) ≡ false → Stood k ps x
  at_assignment : IsTrue (takes Assignment x.rank) → Stood k ps x

high_takes : (z : Rank) → 4 ≤ precedence z → IsTrue (takes Assignment z)
high_takes Expression h = absurd (omega (arith, h))
high_takes _ h = refl

form_stood : {k : Kind} {w : List ℕ} {g : Flags} {ps : Parts} {p : Production} → Chosen w g ps (expr Expression true Any) k p → Stood k ps (spelling_of (form p) w g ps)
form_stood (chosen.several h) = as_several refl refl h
form_stood {w = w} (chosen.binary {z = z} p op) = let v = binding w op in at_assignment (high_takes z v.least)
form_stood {w = w} (chosen.logical {z = z} op) = let v = binding w op in at_assignment (high_takes z v.least)
form_stood (chosen.of_statement s c) = elim s [ ]
form_stood (chosen.of_declaration s c) = elim s [ ]
form_stood _ = at_assignment refl

stood : {k : Kind} {w : List ℕ} {g : Flags} {ps : Parts} {x : Spelling} → Made k w g ps x → Stood k ps x
stood {k} {w} {g} {ps} m = subst (Stood k ps) (sym m.is) (form_stood m.chosen)

module _ (S : Type 0) (Next : S → Token → S → Type 0) (behind : S → Token) (det : IsDetermined S Next behind) where
  -- an Expression: an AssignmentExpression, or a sequence
  pub data AtExpression (o : ℕ) (i : Bool) (f : Start) (n : Tree) (s e : S) (P : List Pair) : Type 0 where
    single : Spells ways S Next behind o (expr Assignment i f) n s e P → AtExpression o i f n s e P
    sequenced : {st en : ℕ} {m : Tree} {rest : Parts} {k : S} {Q R : List Pair} → n ≡ node SequenceExpression [] plain st en (part m rest) → Placed S Next behind (expr Expression i f) (node SequenceExpression [] plain st en (part m rest)) s e →
        Spells ways S Next behind o (expr Assignment i f) m s k Q → is_none rest ≡ false → Runs ways S Next behind o (comma_pieces i f rest) rest k e R → P ≡ Q ++ R → AtExpression o i f n s e P

  pub at_expression : {o : ℕ} {i : Bool} {f : Start} {n : Tree} {s e : S} {P : List Pair} → Spells ways S Next behind o (expr Expression i f) n s e P → AtExpression o i f n s e P
  unfolding spellings
  at_expression (grouped p d q) = single (grouped p d q)
  at_expression {o} {i} {f} {n = node k w g st en ps} {s = s} {e = e} {P = P} (direct qs h (placed nx p) d) = let v = way_of h in of v (stood (made k v.listed))
    where
      of_several : {k : Kind} → k ≡ SequenceExpression → is_none (others (bare_parts ps)) ≡ false → is_lean (bare (node k w g st en ps)) ≡ true → Placed S Next behind (expr Expression i f) (node k w g st en ps) s e →
          Runs ways S Next behind o (sub (expr Assignment i f) ∷ goes_to Expression i f (sequence (others (bare_parts ps)))) ps s e P → AtExpression o i f (node k w g st en ps) s e P
      of_several {k} e' some lean pl d =
          let a = run_part S Next behind d in
          let tree : node k w g st en ps ≡ node SequenceExpression [] plain st en (part a.item a.rest) =
          same_node e' (lean_text (bare (node k w g st en ps)) lean (ap has_text e')) (lean_flags (bare (node k w g st en ps)) lean ∙ ap (λ v. used_flags v g) e') refl refl a.parts in
          let others_are : others (bare_parts ps) ≡ bare_parts a.rest = ap (λ c. others (bare_parts c)) a.parts in
          sequenced tree (subst (λ c. Placed S Next behind (expr Expression i f) c s e) tree pl) a.spelled (sym (none_bare a.rest) ∙ ap is_none (sym others_are) ∙ some)
          (retell S Next behind (ap (λ c. goes_to Expression i f (sequence c)) others_are) a.runs) a.pairs

      of : (v : Way (expr Expression i f) (node k w g st en ps) qs) → Stood k (bare_parts ps) v.spelling → AtExpression o i f (node k w g st en ps) s e P
      of v (as_several e' x some) = of_several e' some v.lean (placed nx p) (retell S Next behind (v.is ∙ ap (settled (expr Expression i f)) x) d)
      of v (at_assignment tk) =
          let fit = and_parts _ _ v.fit in
          single (direct (settled (expr Assignment i f) v.spelling) (way_from (expr Assignment i f) (node k w g st en ps) v.spelling v.lean v.listed (and_from _ _ (and_from _ _ tk (and_parts _ _ fit.0).1) fit.1)) (placed nx p)
          (retell S Next behind (v.is ∙ tight_pieces Expression Assignment i f refl v.spelling.pieces) d))

  -- an AssignmentExpression is an Expression
  pub spells_expression : {o : ℕ} {i : Bool} {f : Start} {n : Tree} {s e : S} {P : List Pair} → Spells ways S Next behind o (expr Assignment i f) n s e P → Spells ways S Next behind o (expr Expression i f) n s e P
  unfolding spellings
  spells_expression (grouped p d q) = grouped p d q
  spells_expression {i = i} {f = f} {n = node k w g st en ps} (direct qs h (placed nx p) d) =
      let v = way_of h in
      let fit = and_parts _ _ v.fit in
      direct (settled (expr Expression i f) v.spelling) (way_from (expr Expression i f) (node k w g st en ps) v.spelling v.lean v.listed (and_from _ _ (and_from _ _ (takes_all v.spelling.rank) (and_parts _ _ fit.0).1) fit.1)) (placed nx p)
      (retell S Next behind (v.is ∙ tight_pieces Assignment Expression i f refl v.spelling.pieces) d)
