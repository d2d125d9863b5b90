-- The scopes of a tree in order are in the order of their places.
use Rattle.std.proofs.Common.{◌≡◌, ℕ, suc, ◌+◌, ◌-◌, ◌≤◌, Bool, true, false, List, [], ◌∷◌, ◌++◌, length, length-append, refl, sym, ap, ap₂, subst, ◌∙◌, arith}
use Rattle.std.specs.Prelude.{◌&&◌, ◌||◌, nat_le, Option, Some, None, is_some}
use Rattle.std.proofs.lemmas.Bool.{and_from, and_parts, false≢true}
use Rattle.tree.specs.declared.kind.Kind.{Kind}
use Rattle.tree.specs.declared.kind.Kind.TheVariants.{Identifier, Property}
use Rattle.tree.specs.declared.kind.Flags.{Flags}
use Rattle.tree.specs.Tree.{Tree, node, Parts, none, part, gap, start_of, stop_of, part_at, part_count}
use Rattle.scopes.specs.declared.identifier_use.IdentifierUse.{IdentifierUse}
use Rattle.scopes.specs.Roles.{part_role}
use Rattle.scopes.specs.Bindings.{Binding}
use Rattle.scopes.specs.Openings.{scope_round_all, scope_round_others}
use Rattle.scopes.specs.Found.{Around, Found, Inside, nothing, enter, in_scope, at_place, round_others, found_in, all_parts, parts_from}
use Rattle.location_laws.specs.InOrder.{is_shorthand, is_name}
use Rattle.location_laws.specs.ScopeRanges.{SourceRange, range_of, ranges_in, ranges_in_all, ranges_from, follows, all_follow, are_nested}
use Rattle.location_laws.proofs.OrderLemmas.{Ordered, PartsOrdered, KeyInValue, by_shape, le_test, parts_forward}

-- Places between two places

abbrev Between : ℕ → ℕ → List SourceRange → Type 0
Between a b [] = a ≤ b
Between a b (x ∷ xs) = (a ≤ x.0) × (x.0 ≤ x.1) × (x.1 ≤ b) × Between a b xs

abbrev Stands : ℕ → ℕ → List SourceRange → Type 0
Stands a b xs = Between a b xs × (are_nested xs ≡ true)

between_within : (a from to b : ℕ) (xs : List SourceRange) → a ≤ from → to ≤ b → Between from to xs → Between a b xs
between_within a from to b [] x y h = omega (arith, x, y, h)
between_within a from to b (z ∷ xs) x y h = let c = h.0 in let d = h.2 in (omega (arith, x, c), h.1, omega (arith, y, d), between_within a from to b xs x y h.3)

between_append : (a b : ℕ) (xs ys : List SourceRange) → Between a b xs → Between a b ys → Between a b (xs ++ ys)
between_append a b [] ys h k = k
between_append a b (x ∷ xs) ys h k = (h.0, h.1, h.2, between_append a b xs ys h.3 k)

between_on : (a b : ℕ) (xs : List SourceRange) → Between a b xs → a ≤ b
between_on a b [] h = h
between_on a b (x ∷ xs) h = between_on a b xs h.3

stands_within : (a from to b : ℕ) (xs : List SourceRange) → a ≤ from → to ≤ b → Stands from to xs → Stands a b xs
stands_within a from to b xs x y h = (between_within a from to b xs x y h.0, h.1)

follow_behind : (x : SourceRange) (m b : ℕ) (ys : List SourceRange) → x.1 ≤ m → Between m b ys → all_follow x ys ≡ true
follow_behind x m b [] l h = refl
follow_behind x m b (y ∷ ys) l h = and_from (follows x y) _ (behind x.1 y.0 (let a = h.0 in omega (arith, a, l))) (follow_behind x m b ys l h.3)
  where
    behind : (p q : ℕ) → p ≤ q → (nat_le p q || (nat_le x.0 y.0 && nat_le y.1 x.1)) ≡ true
    behind p q k = ap (λ t. t || (nat_le x.0 y.0 && nat_le y.1 x.1)) (le_test p q k)

follow_inside : (s e : ℕ) (ys : List SourceRange) → Between s e ys → all_follow (s, e) ys ≡ true
follow_inside s e [] h = refl
follow_inside s e (y ∷ ys) h = and_from (follows (s, e) y) _ (either (nat_le e y.0) (and_from (nat_le s y.0) (nat_le y.1 e) (le_test s y.0 h.0) (le_test y.1 e h.2))) (follow_inside s e ys h.3)
  where
    either : (t : Bool) {r : Bool} → r ≡ true → (t || r) ≡ true
    either true k = refl
    either false k = k

follow_append : (x : SourceRange) (xs ys : List SourceRange) → all_follow x xs ≡ true → all_follow x ys ≡ true → all_follow x (xs ++ ys) ≡ true
follow_append x [] ys h k = k
follow_append x (y ∷ xs) ys h k = let u = and_parts (follows x y) (all_follow x xs) h in and_from (follows x y) _ u.0 (follow_append x xs ys u.1 k)

nested_append : (a m b : ℕ) (xs ys : List SourceRange) → Between a m xs → Between m b ys → are_nested xs ≡ true → are_nested ys ≡ true → are_nested (xs ++ ys) ≡ true
nested_append a m b [] ys h k p q = q
nested_append a m b (x ∷ xs) ys h k p q =
    let u = and_parts (all_follow x xs) (are_nested xs) p in
    and_from (all_follow x (xs ++ ys)) _ (follow_append x xs ys u.0 (follow_behind x m b ys h.2 k)) (nested_append a m b xs ys h.3 k u.1 q)

stands_append : (a m b : ℕ) (xs ys : List SourceRange) → Stands a m xs → Stands m b ys → Stands a b (xs ++ ys)
stands_append a m b xs ys h k =
    let x = between_on a m xs h.0 in
    let y = between_on m b ys k.0 in
    (between_append a b xs ys (between_within a a m b xs (omega arith) y h.0) (between_within a m b b ys x (omega arith) k.0), nested_append a m b xs ys h.0 k.0 h.1 k.1)

-- a scope round them, or none
stands_round : (b : Option (List Binding)) (s e : ℕ) (xs : List SourceRange) → s ≤ e → Stands s e xs → Stands s e (range_of b s e ++ xs)
stands_round None s e xs l h = h
stands_round (Some bs) s e xs l h = ((omega arith, l, omega arith, h.0), and_from (all_follow (s, e) xs) _ (follow_inside s e xs h.0) h.1)

stands_alone : (b : Option (List Binding)) (s e : ℕ) → s ≤ e → Stands s e (range_of b s e)
stands_alone None s e l = (l, refl)
stands_alone (Some bs) s e l = ((omega arith, l, omega arith, l), refl)

-- a shorthand property makes no scope, and its key neither
pub no_scope_round_others : (k : Kind) (g : Flags) (ps : Parts) → is_shorthand k g ≡ true → scope_round_others k ps ≡ None
no_scope_round_others Property g ps h = refl
no_scope_round_others _ g ps h = absurd (false≢true h)

no_places : (t : Tree) → is_name t ≡ true → (u : IdentifierUse) → ranges_in u t ≡ []
unfolding ranges_in ranges_in_all ranges_from
no_places (node Identifier w g s e none) i u = refl
no_places (node Identifier w g s e (gap ps)) i u = absurd (false≢true i)
no_places (node Identifier w g s e (part t ps)) i u = absurd (false≢true i)
no_places (node _ w g s e ps) i u = absurd (false≢true i)

module _ (Q : List ℕ → ℕ → ℕ → Type 0) where
  mutual
    unfolding ranges_in ranges_in_all ranges_from

    pub places_stand : (t : Tree) → Ordered Q t → (u : IdentifierUse) → Stands (start_of t) (stop_of t) (ranges_in u t)
    places_stand (node k w g s e ps) h u =
        let r : ℕ → IdentifierUse = part_role u k w g (is_some (part_at ps (part_count ps - 1))) (part_count ps - 1) in
        stands_round (scope_round_all u k ps) s e (ranges_in_all r (scope_round_others k ps) s e ps) h.1
        (by_shape (is_shorthand k g) (λ i. value_stands r (scope_round_others k ps) s e ps (no_scope_round_others k g ps i) (h.2 i).1) (λ i. all_stand r (scope_round_others k ps) s e ps (h.3 i)))

    value_stands : (r : ℕ → IdentifierUse) (c : Option (List Binding)) (s e : ℕ) (ps : Parts) → c ≡ None → KeyInValue Q s e ps → Stands s e (ranges_in_all r c s e ps)
    value_stands r c s e none i h = absurd h
    value_stands r c s e (gap ps) i h = absurd h
    value_stands r c s e (part k none) i h = absurd h
    value_stands r c s e (part k (gap ps)) i h = absurd h
    value_stands r c s e (part k (part v (gap ps))) i h = absurd h
    value_stands r c s e (part k (part v (part t ps))) i h = absurd h
    value_stands r c s e (part k (part v none)) i h =
        let start = h.5 in
        let stop = h.6 in
        subst (λ xs. Stands s e (xs ++ (range_of c (stop_of k) e ++ (ranges_in (r 1) v ++ [])))) (sym (no_places k h.0 (r 0)))
        (subst (λ b. Stands s e (range_of b (stop_of k) e ++ (ranges_in (r 1) v ++ []))) (sym i)
        (stands_append s e e (ranges_in (r 1) v) [] (stands_within s (start_of v) (stop_of v) e (ranges_in (r 1) v) (omega (arith, start)) (omega (arith, stop)) (places_stand v h.4 (r 1))) (omega arith, refl)))

    all_stand : (r : ℕ → IdentifierUse) (c : Option (List Binding)) (s e : ℕ) (ps : Parts) → PartsOrdered Q s e ps → Stands s e (ranges_in_all r c s e ps)
    all_stand r c s e none h = stands_alone c s e h
    all_stand r c s e (gap ps) h = stands_round c s e (ranges_from r 1 ps) (parts_forward Q s e ps h) (from_stand r 1 s e ps h)
    all_stand r c s e (part t ps) h =
        stands_append s (stop_of t) e (ranges_in (r 0) t) (range_of c (stop_of t) e ++ ranges_from r 1 ps) (stands_within s (start_of t) (stop_of t) (stop_of t) (ranges_in (r 0) t) h.0 (omega arith) (places_stand t h.1 (r 0)))
        (stands_round c (stop_of t) e (ranges_from r 1 ps) (parts_forward Q (stop_of t) e ps h.2) (from_stand r 1 (stop_of t) e ps h.2))

    from_stand : (r : ℕ → IdentifierUse) (i : ℕ) (s e : ℕ) (ps : Parts) → PartsOrdered Q s e ps → Stands s e (ranges_from r i ps)
    from_stand r i s e none h = (h, refl)
    from_stand r i s e (gap ps) h = from_stand r (i + 1) s e ps h
    from_stand r i s e (part t ps) h =
        stands_append s (stop_of t) e (ranges_in (r i) t) (ranges_from r (i + 1) ps) (stands_within s (start_of t) (stop_of t) (stop_of t) (ranges_in (r i) t) h.0 (omega arith) (places_stand t h.1 (r i)))
        (from_stand r (i + 1) (stop_of t) e ps h.2)

-- There are as many places as scopes.

count_append : {A B : Type 0} (xs ys : List A) (us vs : List B) → length xs ≡ length us → length ys ≡ length vs → length (xs ++ ys) ≡ length (us ++ vs)
count_append xs ys us vs h k = length-append xs ys ∙ ap₂ (λ a b. a + b) h k ∙ sym (length-append us vs)

in_scope_count : (b : Option (List Binding)) (z : Around) (n : ℕ) (f : Around → ℕ → Found) (s e : ℕ) (xs : List SourceRange) → ((x : Around) (m : ℕ) → length (f x m).scopes ≡ length xs) → length (in_scope b z n f).scopes ≡ length (range_of b s e ++ xs)
in_scope_count None z n f s e xs h = h z n
in_scope_count (Some bs) z n f s e xs h = ap suc (h (enter z n bs) (n + 1))

in_scope_alone : (b : Option (List Binding)) (z : Around) (n : ℕ) (s e : ℕ) → length (in_scope b z n (λ x m. nothing)).scopes ≡ length (range_of b s e)
in_scope_alone None z n s e = refl
in_scope_alone (Some bs) z n s e = refl

abbrev pub roles_of : Inside → ℕ → IdentifierUse
roles_of y = part_role y.role y.kind y.text y.flags y.has_last y.last

mutual
  unfolding found_in all_parts parts_from ranges_in ranges_in_all ranges_from

  pub places_count : (t : Tree) (z : Around) (n : ℕ) → length (found_in z n t).scopes ≡ length (ranges_in z.role t)
  places_count (node k w g s e ps) z n =
      let y : Inside = record { role = z.role; kind = k; text = w; flags = g; last = part_count ps - 1; has_last = is_some (part_at ps (part_count ps - 1)) } in
      in_scope_count (scope_round_all z.role k ps) z n (λ x m. all_parts y x m (scope_round_others k ps) ps) s e (ranges_in_all (roles_of y) (scope_round_others k ps) s e ps) (λ x m. all_count y x m (scope_round_others k ps) s e ps)

  all_count : (y : Inside) (z : Around) (n : ℕ) (c : Option (List Binding)) (s e : ℕ) (ps : Parts) → length (all_parts y z n c ps).scopes ≡ length (ranges_in_all (roles_of y) c s e ps)
  all_count y z n c s e none = in_scope_alone c (round_others y z) n s e
  all_count y z n c s e (gap ps) = in_scope_count c (round_others y z) n (λ x m. parts_from y x 1 m ps) s e (ranges_from (roles_of y) 1 ps) (λ x m. from_count y x 1 m ps)
  all_count y z n c s e (part t ps) =
      let m = n + length (found_in (at_place y z 0) n t).scopes in
      count_append (found_in (at_place y z 0) n t).scopes (in_scope c (round_others y z) m (λ x o. parts_from y x 1 o ps)).scopes (ranges_in (roles_of y 0) t) (range_of c (stop_of t) e ++ ranges_from (roles_of y) 1 ps)
      (places_count t (at_place y z 0) n)
      (in_scope_count c (round_others y z) m (λ x o. parts_from y x 1 o ps) (stop_of t) e (ranges_from (roles_of y) 1 ps) (λ x o. from_count y x 1 o ps))

  from_count : (y : Inside) (z : Around) (i n : ℕ) (ps : Parts) → length (parts_from y z i n ps).scopes ≡ length (ranges_from (roles_of y) i ps)
  from_count y z i n none = refl
  from_count y z i n (gap ps) = from_count y z (i + 1) n ps
  from_count y z i n (part t ps) =
      count_append (found_in (at_place y z i) n t).scopes (parts_from y z (i + 1) (n + length (found_in (at_place y z i) n t).scopes) ps).scopes (ranges_in (roles_of y i) t) (ranges_from (roles_of y) (i + 1) ps)
      (places_count t (at_place y z i) n) (from_count y z (i + 1) (n + length (found_in (at_place y z i) n t).scopes) ps)
