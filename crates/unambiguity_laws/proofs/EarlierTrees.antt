-- What the 11th edition derived has no node of a later language.
use Rattle.std.proofs.Common.{◌≡◌, ℕ, Bool, true, false, cond, List, [], refl, ap, ◌∙◌}
use Rattle.std.specs.Prelude.{◌||◌}
use Rattle.tree.specs.declared.kind.Kind.TheVariants.{Program, AssignmentExpression, MetaProperty}
use Rattle.tree.specs.declared.kind.Flags.{Flags}
use Rattle.tree.specs.declared.kind.Pair.{Pair}
use Rattle.tree.specs.Tree.{Tree, Parts, node, bare}
use Rattle.tree.specs.Uses.{is_lean}
use Rattle.tree.proofs.Lean.{lean_flags}
use Rattle.language.specs.Pieces.{Role, PieceOf}
use Rattle.language.specs.Token.{Token}
use Rattle.language.specs.Grammar.{ways}
use Rattle.language.specs.Derivation.{Among, Spells, direct, grouped, reserved_key, reserved_word, Runs, done, step, opened, closed, within, missing}
use Rattle.language.specs.Earlier.{earlier_ways, is_new_node}
use Rattle.language.specs.Later.{is_later, is_later_form, has_later, some_has_later}
use Rattle.language.proofs.table.ViewIsComplete.{way_of}

neither : (a b : Bool) → a ≡ false → b ≡ false → (a || b) ≡ false
neither true b h k = h
neither false b h k = k

-- a name's node is none of these
name_stays : {n m : Tree} → n ≡ m → has_later m ≡ false → has_later n ≡ false
name_stays e h = ap has_later e ∙ h

was_here : (a : Role) (n : Tree) {qs : List (PieceOf Role)} → Among qs (earlier_ways a n) → is_new_node n ≡ false
was_here a n {qs} h = go (is_new_node n) h
  where
    go : (b : Bool) → Among qs (cond b [] (ways a n)) → b ≡ false
    go true h = elim h [ ]
    go false h = refl

no_later : (n : Tree) → is_lean (bare n) ≡ true → is_new_node n ≡ false → is_later n ≡ false
no_later (node AssignmentExpression w g s e ps) lean h = ap (λ (f : Flags). is_later_form f.form) (lean_flags (bare (node AssignmentExpression w g s e ps)) lean)
no_later (node Program w g s e ps) lean h = h
no_later (node MetaProperty w g s e ps) lean h = h
no_later (node k w g s e ps) lean h = h

was_way : (a : Role) (n : Tree) {qs : List (PieceOf Role)} → Among qs (earlier_ways a n) → Among qs (ways a n)
was_way a n {qs} h = go (is_new_node n) h
  where
    go : (b : Bool) → Among qs (cond b [] (ways a n)) → Among qs (ways a n)
    go true h = elim h [ ]
    go false h = h

module _ (S : Type 0) (Next : S → Token → S → Type 0) (behind : S → Token) where
  mutual
    unfolding has_later some_has_later

    pub spells_none_later : {o : ℕ} {a : Role} {n : Tree} {s e : S} {P : List Pair} → Spells earlier_ways S Next behind o a n s e P → has_later n ≡ false
    spells_none_later {a = a} {n = node k w g st en ps} (direct qs h pl d) =
        neither _ _ (no_later (node k w g st en ps) (way_of (was_way a (node k w g st en ps) h)).lean (was_here a (node k w g st en ps) h)) (runs_none_later d)
    spells_none_later (grouped p d q) = spells_none_later d
    spells_none_later (reserved_key r k e) = name_stays e refl
    spells_none_later (reserved_word r k e) = name_stays e refl

    runs_none_later : {o : ℕ} {qs : List (PieceOf Role)} {ps : Parts} {s e : S} {P : List Pair} → Runs earlier_ways S Next behind o qs ps s e P → some_has_later ps ≡ false
    runs_none_later done = refl
    runs_none_later (step p d) = runs_none_later d
    runs_none_later (opened p d) = runs_none_later d
    runs_none_later (closed p d) = runs_none_later d
    runs_none_later (within p d) = neither _ _ (spells_none_later p) (runs_none_later d)
    runs_none_later (missing d) = runs_none_later d
