-- Trees in order, with what is known of each name at its place; and lists of places in order.
use Rattle.std.proofs.Common.{◌≡◌, ℕ, ◌≤◌, Bool, true, false, cond, List, [], ◌∷◌, ◌++◌, refl, sym, ap, subst, ◌∙◌, arith}
use Rattle.std.specs.Prelude.{nat_le, nat_eq}
use Rattle.std.proofs.lemmas.Bool.{and_from}
use Rattle.std.proofs.lemmas.Bool.Decides.{nat_tests}
use Rattle.tree.specs.declared.kind.Kind.TheVariants.{Identifier}
use Rattle.tree.specs.Tree.{Tree, node, Parts, none, part, gap, kind_of, text_of, start_of, stop_of}
use Rattle.tree.specs.Flat.{post_order, parts_post_order}
use Rattle.language.specs.Derivation.{Among, first, later}
use Rattle.location_laws.specs.InOrder.{is_shorthand, is_name, in_order, parts_in_order, key_in_value}

pub le_test : (m n : ℕ) → m ≤ n → nat_le m n ≡ true
le_test m n h = grind (arith, nat_tests)

pub eq_test : (m n : ℕ) → m ≡ n → nat_eq m n ≡ true
eq_test m n h = grind (arith, nat_tests)

by_test : (b x y : Bool) → (b ≡ true → x ≡ true) → (b ≡ false → y ≡ true) → cond b x y ≡ true
by_test true x y h k = h refl
by_test false x y h k = k refl

pub by_shape : {R : Type 0} (b : Bool) → (b ≡ true → R) → (b ≡ false → R) → R
by_shape true h k = h refl
by_shape false h k = k refl

pub by_place : {X R : Type 0} {x : X} (xs ys : List X) → Among x (xs ++ ys) → (Among x xs → R) → (Among x ys → R) → R
by_place [] ys a f g = g a
by_place (x ∷ xs) ys first f g = f first
by_place (x ∷ xs) ys (later a) f g = by_place xs ys a (λ b. f (later b)) g

only : {X : Type 0} {x y : X} → Among x (y ∷ []) → x ≡ y
only first = refl
only (later a) = elim a [ ]

-- what is known of an identifier: its text, and where it starts and ends
module _ (Q : List ℕ → ℕ → ℕ → Type 0) where
  abbrev mutual
    pub Ordered : Tree → Type 0
    Ordered (node k w g s e ps) = (k ≡ Identifier → Q w s e × (ps ≡ none)) × (s ≤ e) × (is_shorthand k g ≡ true → (g.computed ≡ false) × KeyInValue s e ps) × (is_shorthand k g ≡ false → PartsOrdered s e ps)

    pub PartsOrdered : ℕ → ℕ → Parts → Type 0
    PartsOrdered from to none = from ≤ to
    PartsOrdered from to (gap ps) = PartsOrdered from to ps
    PartsOrdered from to (part t ps) = (from ≤ start_of t) × Ordered t × PartsOrdered (stop_of t) to ps

    pub KeyInValue : ℕ → ℕ → Parts → Type 0
    KeyInValue s e none = ⊥
    KeyInValue s e (gap ps) = ⊥
    KeyInValue s e (part k none) = ⊥
    KeyInValue s e (part k (gap ps)) = ⊥
    KeyInValue s e (part k (part v (gap ps))) = ⊥
    KeyInValue s e (part k (part v (part t ps))) = ⊥
    KeyInValue s e (part k (part v none)) = (is_name k ≡ true) × Ordered k × (start_of k ≡ s) × (stop_of k ≤ e) × Ordered v × (start_of v ≡ s) × (stop_of v ≡ e)

  pub span_ordered : (n : Tree) → Ordered n → start_of n ≤ stop_of n
  span_ordered (node k w g s e ps) h = h.1

  pub parts_forward : (s e : ℕ) (ps : Parts) → PartsOrdered s e ps → s ≤ e
  parts_forward s e none h = h
  parts_forward s e (gap ps) h = parts_forward s e ps h
  parts_forward s e (part t ps) h =
      let x = h.0 in
      let y = span_ordered t h.1 in
      let z = parts_forward (stop_of t) e ps h.2 in
      omega (arith, x, y, z)

  -- such a tree is in order
  mutual
    unfolding in_order parts_in_order key_in_value

    pub tree_in_order : (n : Tree) → Ordered n → in_order n ≡ true
    tree_in_order (node k w g s e ps) h = and_from (nat_le s e) _ (le_test s e h.1) (by_test (is_shorthand k g) (key_in_value s e ps) (parts_in_order s e ps) (λ i. value_in_order s e ps (h.2 i).1) (λ i. all_in_order s e ps (h.3 i)))

    all_in_order : (from to : ℕ) (ps : Parts) → PartsOrdered from to ps → parts_in_order from to ps ≡ true
    all_in_order from to none h = le_test from to h
    all_in_order from to (gap ps) h = all_in_order from to ps h
    all_in_order from to (part t ps) h = and_from (nat_le from (start_of t)) _ (le_test from (start_of t) h.0) (and_from (in_order t) _ (tree_in_order t h.1) (all_in_order (stop_of t) to ps h.2))

    value_in_order : (s e : ℕ) (ps : Parts) → KeyInValue s e ps → key_in_value s e ps ≡ true
    value_in_order s e none h = absurd h
    value_in_order s e (gap ps) h = absurd h
    value_in_order s e (part k none) h = absurd h
    value_in_order s e (part k (gap ps)) h = absurd h
    value_in_order s e (part k (part v (gap ps))) h = absurd h
    value_in_order s e (part k (part v (part t ps))) h = absurd h
    value_in_order s e (part k (part v none)) h =
        and_from (is_name k) _ h.0
        (and_from (in_order k) _ (tree_in_order k h.1)
        (and_from (nat_eq (start_of k) s) _ (eq_test (start_of k) s h.2)
        (and_from (nat_le (stop_of k) e) _ (le_test (stop_of k) e h.3)
        (and_from (in_order v) _ (tree_in_order v h.4)
        (and_from (nat_eq (start_of v) s) _ (eq_test (start_of v) s h.5) (eq_test (stop_of v) e h.6))))))

  -- each identifier in it is at its name
  at_root : {m : Tree} (n : Tree) → m ≡ n → Ordered n → kind_of m ≡ Identifier → Q (text_of m) (start_of m) (stop_of m)
  at_root {m} (node k w g s e ps) i h f = subst (λ z. Q (text_of z) (start_of z) (stop_of z)) (sym i) (h.0 (sym (ap kind_of i) ∙ f)).0

  mutual
    pub among_ordered : {m : Tree} (n : Tree) → Ordered n → Among m (post_order n) → kind_of m ≡ Identifier → Q (text_of m) (start_of m) (stop_of m)
    among_ordered (node k w g s e ps) h a f =
        by_place (parts_post_order ps) (node k w g s e ps ∷ []) a
        (λ b. by_shape (is_shorthand k g) (λ i. among_value s e ps (h.2 i).1 b f) (λ i. among_parts s e ps (h.3 i) b f))
        (λ b. at_root (node k w g s e ps) (only b) h f)

    among_parts : {m : Tree} (from to : ℕ) (ps : Parts) → PartsOrdered from to ps → Among m (parts_post_order ps) → kind_of m ≡ Identifier → Q (text_of m) (start_of m) (stop_of m)
    among_parts from to none h a f = elim a [ ]
    among_parts from to (gap ps) h a f = among_parts from to ps h a f
    among_parts from to (part t ps) h a f = by_place (post_order t) (parts_post_order ps) a (λ b. among_ordered t h.1 b f) (λ b. among_parts (stop_of t) to ps h.2 b f)

    among_value : {m : Tree} (s e : ℕ) (ps : Parts) → KeyInValue s e ps → Among m (parts_post_order ps) → kind_of m ≡ Identifier → Q (text_of m) (start_of m) (stop_of m)
    among_value s e none h a f = absurd h
    among_value s e (gap ps) h a f = absurd h
    among_value s e (part k none) h a f = absurd h
    among_value s e (part k (gap ps)) h a f = absurd h
    among_value s e (part k (part v (gap ps))) h a f = absurd h
    among_value s e (part k (part v (part t ps))) h a f = absurd h
    among_value s e (part k (part v none)) h a f = by_place (post_order k) (post_order v ++ []) a (λ b. among_ordered k h.1 b f) (λ b. by_place (post_order v) [] b (λ c. among_ordered v h.4 c f) (λ c. elim c [ ]))
