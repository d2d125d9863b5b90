-- A table whose cells are no greater than their bounds bounds every derivation from below.
use Rattle.std.proofs.Common.{◌≡◌, ℕ, zero, suc, ◌+◌, ◌≤◌, Bool, true, false, cond, nat_le, List, [], ◌∷◌, ◌++◌, length, Option, Some, None, refl, sym, ap, ap₂, ◌∙◌, subst, arith, length-append}
use Rattle.std.specs.Prelude.{IsTrue, slice_get}
use Rattle.std.proofs.lemmas.Bool.{and_parts}
use Rattle.tree.specs.declared.kind.Pair.{Pair}
use Rattle.tree.specs.declared.kind.Kind.TheVariants.{Identifier}
use Rattle.tree.specs.Tree.{Tree, node, plain, Parts, none, part, gap, parts_of, bare, bare_parts, SameTree}
use Rattle.tree.specs.Uses.{implies}
use Rattle.language.specs.declared.Rank.{Rank}
use Rattle.language.specs.declared.Rank.TheVariants.{Expression, Member}
use Rattle.language.specs.declared.Start.{Start}
use Rattle.language.specs.declared.Start.TheVariants.{Any, NoBrace, Statement}
use Rattle.language.specs.Vocabulary.{precedence}
use Rattle.language.specs.Pieces.{Role, expr, word, key, script, PieceOf}
use Rattle.language.specs.Token.{Token}
use Rattle.language.specs.Grammar.{ways, ways_bare, spellings}
use Rattle.language.specs.RowPositions.{roles, first_roles, widest, rows}
use Rattle.language.specs.Derivation.{Among, Spells, direct, grouped, Runs, done, step, opened, closed, within, missing, reserved_key, reserved_word}
use Rattle.language.specs.Places.{NextIn}
use Rattle.language.specs.declared.Language.{Language}
use Rattle.language.specs.Languages.{Seen, seen_in, DerivesIn}
use Rattle.tokens.specs.Reading.{any_goal}
use Rattle.language.specs.Cost.{add_cost, lesser, AtMost, at_most, if_any, cell_position}
use Rattle.language.specs.Claims.{Table, table_cell, cell_number, bound_at, parts_bound, cell_bound, total_bound, row_nodes, parts_row_nodes, contexts, NoGreater, Sound}
use Rattle.language.proofs.table.Ranks.{looser_rank, looser_start, looser_refl, looser_all, looser_member, looser_start_refl}
use Rattle.language.proofs.table.LooserPositions.{AtMost-lesser_left, AtMost-lesser_right, AtMost-add, Looser, same, looser, looser_spine, looser_pattern, AllLooser, next}
use Rattle.language.proofs.lower_bound.LowerBound.{Step-roles}
use Rattle.language.proofs.table.Alike.{Like, same as alike_same, at_expressions, at_chains, at_patterns, AllLike, next as next_alike, like_back}
use Rattle.language.proofs.layout.WrappedRows.{rows_like}
use Rattle.language.proofs.lower_bound.LeastPairs.{ways-bare}
use Rattle.language.proofs.layout.SameLayouts.{rows-bare}
use Rattle.spellings.proofs.Slots.{is_wide, all_pass, parts_wide}
use Rattle.cost_table.proofs.RowNodes.{wide_itself, wide_start, nodes-length}
use Rattle.cost_table.proofs.Tighter.{parts_alike, dominated_at}

-- of a row each cell is no greater than its bound
abbrev pub RowBelow : Table → Tree → ℕ → Type 0
RowBelow t n r = (c : ℕ) (a : Role) → slice_get contexts c ≡ Some a → NoGreater (table_cell t r c) (cell_bound t n a r)

unfoldable mutual
  -- so with all rows in a node, from this one on
  pub Below : Table → Tree → Role → ℕ → Type 0
  Below t (node k w g s e ps) (expr y i f) r = RowBelow t (node k w g s e ps) r × PartsBelow t ps (first_roles (ways (expr Expression true Any) (node k w g s e ps))) (suc r)
  Below t (node k w g s e ps) a r = PartsBelow t ps (first_roles (ways (widest a) (node k w g s e ps))) r

  pub PartsBelow : Table → Parts → List Role → ℕ → Type 0
  PartsBelow t none xs r = Unit {0}
  PartsBelow t (gap ps) xs r = PartsBelow t ps xs r
  PartsBelow t (part n ps) [] r = Unit {0}
  PartsBelow t (part n ps) (a ∷ xs) r = Below t n a r × PartsBelow t ps xs (r + rows n a)

pub below_like : {b : Bool} (t : Table) (n : Tree) {x y : Role} (r : ℕ) → Like b x y → Below t n x r → Below t n y r
unfolding Below
below_like t n r alike_same h = h
below_like t (node k w g s e ps) r at_expressions h = h
below_like t (node k w g s e ps) r at_chains h = h
below_like t (node k w g s e ps) r at_patterns h = h

-- Numbers

at_most_below : (x y : Option ℕ) (m : ℕ) → NoGreater x y → AtMost y m → AtMost x m
at_most_below x None m h k = elim k [ ]
at_most_below None (Some b) m h k = absurd h
at_most_below (Some c) (Some b) m h (at_most k) = at_most (omega (arith, h, k))

-- one pair more than inside is enough for the cost with a pair
one_more : {m : ℕ} (qss : List (List (PieceOf Role))) (c : Option ℕ) → AtMost (lesser (if_any qss c) (add_cost (Some 1) c)) m → AtMost (add_cost (Some 1) c) (suc m)
unfolding lesser add_cost if_any
one_more [] None h = elim h [ ]
one_more (q ∷ qs) None h = elim h [ ]
one_more [] (Some k) (at_most h) = at_most (omega (arith, h))
one_more (q ∷ qs) (Some k) (at_most h) = at_most (omega arith)

-- Positions of the cells

abbrev at_start : Bool → Start → Role
at_start true f = expr Expression true f
at_start false Any = expr Expression false Any
at_start false _ = expr Expression false NoBrace

-- the position of the cell that counts at a symbol, In and start
abbrev context_of : Rank → Bool → Start → Role
context_of y i f = cond (nat_le 21 (precedence y)) (expr Member true f) (at_start i f)

context_at : (y : Rank) (i : Bool) (f : Start) → slice_get contexts (cell_number (cell_position (expr y i f))) ≡ Some (context_of y i f)
context_at y i f = of (nat_le 21 (precedence y)) i f
  where
    of : (b i : Bool) (f : Start) → slice_get contexts (cell_number (cond b (expr Member true f) (expr Expression i f))) ≡ Some (cond b (expr Member true f) (at_start i f))
    of true i Any = refl
    of true i NoBrace = refl
    of true i Statement = refl
    of false true Any = refl
    of false true NoBrace = refl
    of false true Statement = refl
    of false false Any = refl
    of false false NoBrace = refl
    of false false Statement = refl

implies_true : (b : Bool) → IsTrue (implies b true)
implies_true true = refl
implies_true false = refl

implies_refl : (b : Bool) → IsTrue (implies b b)
implies_refl true = refl
implies_refl false = refl

any_start : (f : Start) → IsTrue (looser_start f Any)
any_start f = refl

no_brace : (f : Start) → IsTrue (looser_start f Statement) → IsTrue (looser_start f NoBrace)
no_brace Any h = h
no_brace NoBrace h = refl
no_brace Statement h = refl

context_looser : (y z : Rank) (i j : Bool) (f g : Start) → IsTrue (looser_rank y z) → IsTrue (implies i j) → IsTrue (looser_start f g) → Looser (expr y i f) (context_of z j g)
context_looser y z i j f g u v w = of (nat_le 21 (precedence z)) j g refl v w
  where
    of : (b j : Bool) (g : Start) → nat_le 21 (precedence z) ≡ b → IsTrue (implies i j) → IsTrue (looser_start f g) → Looser (expr y i f) (cond b (expr Member true g) (at_start j g))
    of true j g e v w = looser (looser_member (precedence y) (precedence z) u e) (implies_true i) w
    of false true g e v w = looser (looser_all (precedence y)) v w
    of false false Any e v w = looser (looser_all (precedence y)) v w
    of false false NoBrace e v w = looser (looser_all (precedence y)) v w
    of false false Statement e v w = looser (looser_all (precedence y)) v (no_brace f w)

looser_context : {a : Role} {y : Rank} {i : Bool} {f : Start} → Looser a (expr y i f) → Looser a (context_of y i f)
looser_context {y = y} {i = i} {f = f} same = context_looser y y i i f f (looser_refl (precedence y)) (implies_refl i) (looser_start_refl f)
looser_context (looser {y = y} {z = z} {i = i} {j = j} {f = f} {g = g} u v w) = context_looser y z i j f g u v w

-- the same symbol with In, whatever the start
looser_whole : {a : Role} {y : Rank} {i : Bool} {f : Start} → Looser a (expr y i f) → Looser a (expr y true Any)
looser_whole {y = y} {i = i} {f = f} same = looser (looser_refl (precedence y)) (implies_true i) (any_start f)
looser_whole (looser {i = i} {f = f} u v w) = looser u (implies_true i) (any_start f)

like_looser : {a b : Role} → Looser a b → Like false a b
like_looser same = alike_same
like_looser (looser u v w) = at_expressions
like_looser (looser_spine w) = at_chains
like_looser (looser_pattern w) = at_patterns

-- Derivations

module _ (t : Table) where
  -- what is known of a node's parts
  abbrev PartsKnown : Tree → List (PieceOf Role) → ℕ → Type 0
  PartsKnown n qs m = (xs ys : List Role) (q : ℕ) → AllLooser (roles qs) xs → AllLike false (roles qs) ys → PartsBelow t (parts_of n) ys q → AtMost (parts_bound t (parts_of n) xs q) m

  direct_case : (n : Tree) (a b : Role) (qs : List (PieceOf Role)) (m r : ℕ) → Looser a b → Among qs (ways a n) → PartsKnown n qs m → Below t n b r → AtMost (bound_at t n b r) m
  unfolding Below bound_at cell_bound
  direct_case (node k w g s e ps) a (expr y i f) qs m r l h go x =
      let n = node k w g s e ps in
      let c = context_of y i f in
      let inner : AtMost (cell_bound t n c r) m =
      dominated_at n a c c qs (λ xs. parts_bound t ps xs (suc r)) m (looser_context l) (looser_context l) h
      (λ xs u. go xs (first_roles (ways (expr Expression true Any) n)) (suc r) u (parts_alike n a (expr y i f) (like_looser l) h) x.1) in
      AtMost-lesser_left _ _
      (dominated_at n a (expr y true Any) (expr y true Any) qs (λ xs. table_cell t r (cell_number (cell_position (expr y i f)))) m (looser_whole l) (looser_whole l) h
      (λ xs u. at_most_below _ (cell_bound t n c r) m (x.0 (cell_number (cell_position (expr y i f))) c (context_at y i f)) inner))
  direct_case (node k w g s e ps) a b qs m r l h go x =
      let n = node k w g s e ps in
      dominated_at n a b b qs (λ xs. parts_bound t ps xs r) m l l h (λ xs u. go xs (first_roles (ways (widest b) n)) r u (parts_alike n a b (like_looser l) h) x)

  grouped_case : (n : Tree) (z : Rank) (j : Bool) (g : Start) (r m : ℕ) → AtMost (bound_at t n (expr Expression true Any) r) m → AtMost (bound_at t n (expr z j g) r) (suc m)
  unfolding bound_at
  grouped_case (node k w g s e ps) z j f r m h = AtMost-lesser_right _ _ (one_more (ways (expr Expression true Any) (node k w g s e ps)) (table_cell t r 0) h)

  -- a name has no pair where reserved words stand too
  bound_key : (w : List ℕ) (s e r : ℕ) → AtMost (bound_at t (node Identifier w plain s e none) key r) 0
  unfolding bound_at parts_bound ways ways_bare spellings if_any
  bound_key w s e r = at_most (omega arith)

  bound_word : (w : List ℕ) (s e r : ℕ) → AtMost (bound_at t (node Identifier w plain s e none) word r) 0
  unfolding bound_at parts_bound ways ways_bare spellings if_any
  bound_word w s e r = at_most (omega arith)

  module _ (S : Type 0) (Next : S → Token → S → Type 0) (behind : S → Token) where
    mutual
      unfolding PartsBelow parts_bound

      -- a node that is spelled has at least as many pairs as its bound
      pub node_at_least : {o : ℕ} {a : Role} {n : Tree} {s e : S} {P : List Pair} →
          Spells ways S Next behind o a n s e P → (b : Role) → Looser a b → (r : ℕ) → Below t n b r → AtMost (bound_at t n b r) (length P)
      node_at_least {a = a} {n = n} {P = P} (direct qs h p d) b l r x = direct_case n a b qs (length P) r l h (λ xs ys q u v z. parts_at_least d xs ys q u v z) x
      node_at_least {n = n} (grouped {y = y} {i = i} {f = f} p d q) b same r x = grouped_case n y i f r _ (node_at_least d (expr Expression true Any) same r (below_like {b = false} t n r at_expressions x))
      node_at_least {n = n} (grouped p d q) b (looser {z = z} {j = j} {g = g} u v w) r x = grouped_case n z j g r _ (node_at_least d (expr Expression true Any) same r (below_like {b = false} t n r at_expressions x))
      node_at_least (reserved_key {w = w} p k q) b same r x = subst (λ v. AtMost (bound_at t v key r) 0) (sym q) (bound_key w _ _ r)
      node_at_least (reserved_word {w = w} p k q) b same r x = subst (λ v. AtMost (bound_at t v word r) 0) (sym q) (bound_word w _ _ r)

      pub parts_at_least : {o : ℕ} {qs : List (PieceOf Role)} {ps : Parts} {s e : S} {P : List Pair} →
          Runs ways S Next behind o qs ps s e P → (xs ys : List Role) (r : ℕ) → AllLooser (roles qs) xs → AllLike false (roles qs) ys → PartsBelow t ps ys r → AtMost (parts_bound t ps xs r) (length P)
      parts_at_least done xs ys r h u x = at_most (omega arith)
      parts_at_least (step {qs = qs} p d) xs ys r h u x =
          parts_at_least d xs ys r (subst (λ zs. AllLooser zs xs) (Step-roles S Next behind qs p) h) (subst (λ zs. AllLike false zs ys) (Step-roles S Next behind qs p) u) x
      parts_at_least (opened p d) xs ys r h u x = parts_at_least d xs ys r h u x
      parts_at_least (closed p d) xs ys r h u x = parts_at_least d xs ys r h u x
      parts_at_least (within {n = n} {ps = ps} {P = P} {Q = Q} p d) (b ∷ xs) (c ∷ ys) r (next l h) (next_alike v u) x =
          let counts : rows n c ≡ rows n b = sym (rows_like n v) ∙ rows_like n (like_looser l) in
          rw length-append
          (AtMost-add (node_at_least p b l r (below_like t n r (like_looser l) (below_like t n r (like_back v) x.0)))
          (parts_at_least d xs ys (r + rows n b) h u (subst (λ q. PartsBelow t ps ys (r + q)) counts x.1)))
      parts_at_least (within p d) (b ∷ xs) [] r h u x = elim u [ ]
      parts_at_least (within p d) [] ys r h u x = elim h [ ]
      parts_at_least (missing d) xs ys r h u x = parts_at_least d xs ys r h u x

-- Rows of a table

in_front : (xs ys : List Tree) (k : ℕ) (m : Tree) → slice_get xs k ≡ Some m → slice_get (xs ++ ys) k ≡ Some m
in_front [] ys k m h = absurd (cc)
in_front (x ∷ xs) ys zero m h = h
in_front (x ∷ xs) ys (suc k) m h = in_front xs ys k m h

behind_them : (xs ys : List Tree) (q k : ℕ) (m : Tree) → length xs ≡ q → slice_get ys k ≡ Some m → slice_get (xs ++ ys) (q + k) ≡ Some m
behind_them [] ys zero k m e h = let z : 0 + k ≡ k = omega arith in subst (λ v. slice_get ys v ≡ Some m) (sym z) h
behind_them [] ys (suc q) k m e h = absurd (omega (arith, e))
behind_them (x ∷ xs) ys zero k m e h = absurd (omega (arith, e))
behind_them (x ∷ xs) ys (suc q) k m e h =
    let z : suc q + k ≡ suc (q + k) = omega arith in
    let w : length xs ≡ q = omega (arith, e) in
    subst (λ v. slice_get (x ∷ (xs ++ ys)) v ≡ Some m) (sym z) (behind_them xs ys q k m w h)

module _ (t : Table) where
  -- all rows from this one on are below their bounds
  abbrev AllBelow : List Tree → ℕ → Type 0
  AllBelow ns r = (k : ℕ) (m : Tree) → slice_get ns k ≡ Some m → RowBelow t m (r + k)

  mutual
    unfolding Below PartsBelow row_nodes parts_row_nodes

    below_all : (n : Tree) (a : Role) (r : ℕ) → is_wide a ≡ true → AllBelow (row_nodes n a) r → Below t n a r
    below_all (node k w g s e ps) (expr y i f) r v h =
        let n = node k w g s e ps in
        let first : r + 0 ≡ r = omega arith in (
          subst (λ q. RowBelow t n q) first (h 0 n refl),
          parts_below_all ps (first_roles (ways (expr Expression true Any) n)) (suc r) (parts_wide (expr Expression true Any) n refl)
              (λ q m x. let z : r + suc q ≡ suc r + q = omega arith in subst (λ j. RowBelow t m j) z (h (suc q) m x)),
        )
    below_all (node k w g s e ps) a r v h =
        let n = node k w g s e ps in
        let b : widest a ≡ a = wide_itself a v refl in
        parts_below_all ps (first_roles (ways (widest a) n)) r (parts_wide (widest a) n (wide_start a))
        (λ q m x. h q m (subst (λ c. slice_get (parts_row_nodes ps (first_roles (ways c n))) q ≡ Some m) b x))

    parts_below_all : (ps : Parts) (xs : List Role) (r : ℕ) → all_pass is_wide xs ≡ true → AllBelow (parts_row_nodes ps xs) r → PartsBelow t ps xs r
    parts_below_all none xs r v h = tt
    parts_below_all (gap ps) xs r v h = parts_below_all ps xs r v h
    parts_below_all (part n ps) [] r v h = tt
    parts_below_all (part n ps) (a ∷ xs) r v h =
        let u = and_parts (is_wide a) (all_pass is_wide xs) v in (
          below_all n a r u.0 (λ q m x. h q m (in_front (row_nodes n a) (parts_row_nodes ps xs) q m x)),
          parts_below_all ps xs (r + rows n a) u.1
              (λ q m x. let z : r + (rows n a + q) ≡ (r + rows n a) + q = omega arith in
              subst (λ j. RowBelow t m j) z (h (rows n a + q) m (behind_them (row_nodes n a) (parts_row_nodes ps xs) (rows n a) q m (nodes-length n a u.0) x))),
        )

  -- Places change no bound

  mutual
    unfolding bound_at parts_bound

    pub bound-bare : (n : Tree) (a : Role) (r : ℕ) → bound_at t (bare n) a r ≡ bound_at t n a r
    bound-bare (node k w g s e ps) (expr y i f) r =
        ap (λ qss. lesser (if_any qss (table_cell t r (cell_number (cell_position (expr y i f))))) (add_cost (Some 1) (table_cell t r 0))) (ways-bare (expr y true Any) (node k w g s e ps))
    bound-bare (node k w g s e ps) a r =
        ap (λ qss. if_any qss (parts_bound t (bare_parts ps) (first_roles qss) r)) (ways-bare a (node k w g s e ps))
        ∙ ap (if_any (ways a (node k w g s e ps))) (parts_bound-bare ps (first_roles (ways a (node k w g s e ps))) r)

    pub parts_bound-bare : (ps : Parts) (xs : List Role) (r : ℕ) → parts_bound t (bare_parts ps) xs r ≡ parts_bound t ps xs r
    parts_bound-bare none xs r = refl
    parts_bound-bare (gap ps) xs r = parts_bound-bare ps xs r
    parts_bound-bare (part n ps) [] r = refl
    parts_bound-bare (part n ps) (a ∷ xs) r =
        ap₂ add_cost (bound-bare n a r) (ap (λ q. parts_bound t (bare_parts ps) xs (r + q)) (rows-bare n a) ∙ parts_bound-bare ps xs (r + rows n a))

  cell_bound-bare : (n : Tree) (a : Role) (r : ℕ) → cell_bound t (bare n) a r ≡ cell_bound t n a r
  unfolding cell_bound
  cell_bound-bare (node k w g s e ps) a r =
      ap (λ qss. if_any qss (parts_bound t (bare_parts ps) (first_roles qss) (suc r))) (ways-bare a (node k w g s e ps))
      ∙ ap (if_any (ways a (node k w g s e ps))) (parts_bound-bare ps (first_roles (ways a (node k w g s e ps))) (suc r))

  mutual
    unfolding Below PartsBelow

    to_bare : (n : Tree) (a : Role) (r : ℕ) → Below t n a r → Below t (bare n) a r
    to_bare (node k w g s e ps) (expr y i f) r h = (
      λ c a q. subst (NoGreater (table_cell t r c)) (sym (cell_bound-bare (node k w g s e ps) a r)) (h.0 c a q),
      subst (λ qss. PartsBelow t (bare_parts ps) (first_roles qss) (suc r)) (sym (ways-bare (expr Expression true Any) (node k w g s e ps))) (parts_to_bare ps (first_roles (ways (expr Expression true Any) (node k w g s e ps))) (suc r) h.1),
    )
    to_bare (node k w g s e ps) a r h =
        subst (λ qss. PartsBelow t (bare_parts ps) (first_roles qss) r) (sym (ways-bare (widest a) (node k w g s e ps))) (parts_to_bare ps (first_roles (ways (widest a) (node k w g s e ps))) r h)

    parts_to_bare : (ps : Parts) (xs : List Role) (r : ℕ) → PartsBelow t ps xs r → PartsBelow t (bare_parts ps) xs r
    parts_to_bare none xs r h = tt
    parts_to_bare (gap ps) xs r h = parts_to_bare ps xs r h
    parts_to_bare (part n ps) [] r h = tt
    parts_to_bare (part n ps) (a ∷ xs) r h = (to_bare n a r h.0, subst (λ q. PartsBelow t (bare_parts ps) xs (r + q)) (sym (rows-bare n a)) (parts_to_bare ps xs (r + rows n a) h.1))

  mutual
    unfolding Below PartsBelow

    from_bare : (n : Tree) (a : Role) (r : ℕ) → Below t (bare n) a r → Below t n a r
    from_bare (node k w g s e ps) (expr y i f) r h = (
      λ c a q. subst (NoGreater (table_cell t r c)) (cell_bound-bare (node k w g s e ps) a r) (h.0 c a q),
      parts_from_bare ps (first_roles (ways (expr Expression true Any) (node k w g s e ps))) (suc r)
          (subst (λ qss. PartsBelow t (bare_parts ps) (first_roles qss) (suc r)) (ways-bare (expr Expression true Any) (node k w g s e ps)) h.1),
    )
    from_bare (node k w g s e ps) a r h =
        parts_from_bare ps (first_roles (ways (widest a) (node k w g s e ps))) r
        (subst (λ qss. PartsBelow t (bare_parts ps) (first_roles qss) r) (ways-bare (widest a) (node k w g s e ps)) h)

    parts_from_bare : (ps : Parts) (xs : List Role) (r : ℕ) → PartsBelow t (bare_parts ps) xs r → PartsBelow t ps xs r
    parts_from_bare none xs r h = tt
    parts_from_bare (gap ps) xs r h = parts_from_bare ps xs r h
    parts_from_bare (part n ps) [] r h = tt
    parts_from_bare (part n ps) (a ∷ xs) r h = (from_bare n a r h.0, parts_from_bare ps xs (r + rows n a) (subst (λ q. PartsBelow t (bare_parts ps) xs (r + q)) (rows-bare n a) h.1))

-- The total of a sound table

total_at_most : (c : ℕ) (y : Option ℕ) (m : ℕ) → NoGreater (Some c) y → AtMost y m → c ≤ m
total_at_most c None m h k = elim k [ ]
total_at_most c (Some b) m h (at_most k) = omega (arith, h, k)

-- cells that are no greater than their bounds, and a total that isn't
pub below_at_least : (t : Table) (n : Tree) → ((r : ℕ) (m : Tree) → slice_get (row_nodes n script) r ≡ Some m → RowBelow t m (suc r)) → NoGreater (Some t.total) (total_bound t n) →
    (language : Language) (text : List ℕ) (m : Tree) (P : List Pair) → SameTree m n → DerivesIn language text m P → t.total ≤ length P
unfolding total_bound
below_at_least t n below total language text m P h d =
    let all : Below t n script 1 = below_all t n script 1 refl (λ k x q. let z : suc k ≡ 1 + k = omega arith in subst (λ j. RowBelow t x j) z (below k x q)) in
    let there : Below t m script 1 = from_bare t m script 1 (subst (λ x. Below t x script 1) (sym h) (to_bare t n script 1 all)) in
    let same_bound : bound_at t m script 1 ≡ bound_at t n script 1 = sym (bound-bare t m script 1) ∙ ap (λ x. bound_at t x script 1) h ∙ bound-bare t n script 1 in
    total_at_most t.total (bound_at t n script 1) (length P) total
    (subst (λ x. AtMost x (length P)) same_bound (node_at_least t Token (Seen Token (NextIn text any_goal) language) (seen_in language) d.1.2 script same 1 there))

pub sound_at_least : (t : Table) (n : Tree) → Sound t n → (language : Language) (text : List ℕ) (m : Tree) (P : List Pair) → SameTree m n → DerivesIn language text m P → t.total ≤ length P
sound_at_least t n s language text m P h d = below_at_least t n s.below s.total language text m P h d
