-- The references of a tree in order are in the order of their places.
use Rattle.std.proofs.Common.{◌≡◌, ℕ, ◌+◌, ◌-◌, ◌≤◌, ◌<◌, Bool, true, false, cond, not, List, [], ◌∷◌, ◌++◌, refl, sym, ap, subst, arith, ◌⊎◌, inl, inr}
use Rattle.std.specs.Prelude.{map, ◌&&◌, Option, Some, None, is_some, unwrap_or}
use Rattle.std.proofs.lemmas.Bool.{false≢true, true≢false}
use Rattle.tree.specs.declared.kind.Kind.{Kind}
use Rattle.tree.specs.declared.kind.Kind.TheVariants.{Identifier, Property}
use Rattle.tree.specs.declared.kind.Flags.{Flags}
use Rattle.tree.specs.Tree.{Tree, node, Parts, none, part, gap, start_of, stop_of, part_at, part_count}
use Rattle.language.specs.Vocabulary.{is}
use Rattle.scopes.specs.declared.identifier_use.IdentifierUse.{IdentifierUse}
use Rattle.scopes.specs.declared.identifier_use.IdentifierUse.TheVariants.{NoReference, Read}
use Rattle.scopes.specs.Roles.{part_role, is_reference, does_read, does_write, is_called, is_constructed, is_typeof_operand}
use Rattle.scopes.specs.Bindings.{Binding}
use Rattle.scopes.specs.Openings.{scope_round_all, scope_round_others}
use Rattle.scopes.specs.Found.{Around, Reference, Found, Inside, nearest, scope_of, nothing, own_reference, enter, in_scope, at_place, round_others, found_in, all_parts, parts_from, outside, found}
use Rattle.language.specs.Derivation.{Among}
use Rattle.location_laws.specs.ScopeRanges.{are_disjoint_from}
use Rattle.location_laws.specs.InOrder.{is_shorthand, is_name}
use Rattle.location_laws.proofs.OrderLemmas.{Ordered, PartsOrdered, KeyInValue, by_shape}
use Rattle.location_laws.proofs.Apart.{Apart, apart_within, apart_append, apart_test, apart_name}

pub own_or_none : (z : Around) (k : Kind) (w : List ℕ) (g : Flags) (s e : ℕ) (ps : Parts) → (k ≡ Identifier) ⊎ (own_reference z (node k w g s e ps) ≡ [])
own_or_none z Identifier w g s e ps = inl refl
own_or_none z _ w g s e ps = inr refl

-- a shorthand property's key is no reference
key_without : (u : IdentifierUse) (k : Kind) (w : List ℕ) (g : Flags) (b : Bool) (last : ℕ) → is_shorthand k g ≡ true → g.computed ≡ false → is_reference (part_role u k w g b last 0) ≡ false
key_without u Property w g b last h c = ap (λ x. is_reference (cond x Read NoReference)) c
key_without u _ w g b last h c = absurd (false≢true h)

no_own : (z : Around) (w : List ℕ) (g : Flags) (s e : ℕ) → is_reference z.role ≡ false → own_reference z (node Identifier w g s e none) ≡ []
no_own z w g s e h = of (is_reference z.role) _ _ h
  where
    of : (b c : Bool) (xs : List Reference) → b ≡ false → cond (b && c) xs [] ≡ []
    of true c xs h = absurd (true≢false h)
    of false c xs h = refl

none_below : (t : Tree) → is_name t ≡ true → (z : Around) (n : ℕ) → is_reference z.role ≡ false → (found_in z n t).references ≡ []
unfolding found_in all_parts parts_from
none_below (node Identifier w g s e none) i z n h = ap (λ xs. xs ++ []) (no_own z w g s e h)
none_below (node Identifier w g s e (gap ps)) i z n h = absurd (false≢true i)
none_below (node Identifier w g s e (part t ps)) i z n h = absurd (false≢true i)
none_below (node _ w g s e ps) i z n h = absurd (false≢true i)

module _ (Q : List ℕ → ℕ → ℕ → Type 0) (wide : (w : List ℕ) (s e : ℕ) → Q w s e → s < e) where
  abbrev pub RefsApart : ℕ → ℕ → List Reference → Type 0
  RefsApart = Apart Q Reference (λ r. r.name) (λ r. r.start) (λ r. r.stop)

  refs_within : (a from to b : ℕ) (xs : List Reference) → a ≤ from → to ≤ b → RefsApart from to xs → RefsApart a b xs
  refs_within = apart_within Q Reference (λ r. r.name) (λ r. r.start) (λ r. r.stop)

  refs_append : (a m b : ℕ) (xs ys : List Reference) → RefsApart a m xs → RefsApart m b ys → RefsApart a b (xs ++ ys)
  refs_append = apart_append Q Reference (λ r. r.name) (λ r. r.start) (λ r. r.stop)

  own_apart : (z : Around) (w : List ℕ) (g : Flags) (s e : ℕ) (ps : Parts) → Q w s e → RefsApart s e (own_reference z (node Identifier w g s e ps))
  own_apart z w g s e ps q = of (is_reference z.role && not (z.in_function && is w "arguments"))
    where
      of : (b : Bool) →
          RefsApart s e
          (cond b (record { name = w; scope = unwrap_or (scope_of z.frames) 0; reads = does_read z.role; writes = does_write z.role; start = s; stop = e; typeof_operand = is_typeof_operand z.role; called = is_called z.role; constructed = is_constructed z.role; meaning = nearest w z.frames } ∷ []) [])
      of true = let l = wide w s e q in (omega arith, l, q, omega arith)
      of false = let l = wide w s e q in omega (arith, l)

  in_scope_apart : (b : Option (List Binding)) (z : Around) (n : ℕ) (f : Around → ℕ → Found) (from to : ℕ) → ((x : Around) (m : ℕ) → RefsApart from to (f x m).references) → RefsApart from to (in_scope b z n f).references
  in_scope_apart None z n f from to h = h z n
  in_scope_apart (Some xs) z n f from to h = h (enter z n xs) (n + 1)

  -- an identifier's own, and what stands in any other node
  whole : (z : Around) (n : ℕ) (k : Kind) (w : List ℕ) (g : Flags) (s e : ℕ) (ps : Parts) → (k ≡ Identifier) ⊎ (own_reference z (node k w g s e ps) ≡ []) → (k ≡ Identifier → Q w s e × (ps ≡ none)) →
      RefsApart s e (in_scope (scope_round_all z.role k ps) z n (λ x m. all_parts (record { role = z.role; kind = k; text = w; flags = g; last = part_count ps - 1; has_last = is_some (part_at ps (part_count ps - 1)) }) x m (scope_round_others k ps) ps)).references →
      RefsApart s e (found_in z n (node k w g s e ps)).references
  unfolding found_in all_parts parts_from
  whole z n k w g s e ps (inr o) q h =
      let inner : List Reference = (in_scope (scope_round_all z.role k ps) z n (λ x m. all_parts (record { role = z.role; kind = k; text = w; flags = g; last = part_count ps - 1; has_last = is_some (part_at ps (part_count ps - 1)) }) x m (scope_round_others k ps) ps)).references in
      subst (λ xs. RefsApart s e (xs ++ inner)) (sym o) h
  whole z n k w g s e ps (inl i) q h =
      let own = own_reference z (node Identifier w g s e none) in
      subst (λ j. RefsApart s e (found_in z n (node j w g s e ps)).references) (sym i)
      (subst (λ qs. RefsApart s e (found_in z n (node Identifier w g s e qs)).references) (sym (q i).1) (refs_append s e e own [] (own_apart z w g s e none (q i).0) (omega arith)))

  mutual
    unfolding found_in all_parts parts_from

    pub refs_apart : (t : Tree) → Ordered Q t → (z : Around) (n : ℕ) → RefsApart (start_of t) (stop_of t) (found_in z n t).references
    refs_apart (node k w g s e ps) h z n =
        let y : Inside = record { role = z.role; kind = k; text = w; flags = g; last = part_count ps - 1; has_last = is_some (part_at ps (part_count ps - 1)) } in
        whole z n k w g s e ps (own_or_none z k w g s e ps) h.0
        (in_scope_apart (scope_round_all z.role k ps) z n (λ x m. all_parts y x m (scope_round_others k ps) ps) s e
        (λ x m. by_shape (is_shorthand k g) (λ i. value_apart y x m (scope_round_others k ps) s e ps i (h.2 i).0 (h.2 i).1) (λ i. all_apart y x m (scope_round_others k ps) s e ps (h.3 i))))

    value_apart : (y : Inside) (z : Around) (n : ℕ) (c : Option (List Binding)) (s e : ℕ) (ps : Parts) → is_shorthand y.kind y.flags ≡ true → y.flags.computed ≡ false → KeyInValue Q s e ps → RefsApart s e (all_parts y z n c ps).references
    value_apart y z n c s e none i f h = absurd h
    value_apart y z n c s e (gap ps) i f h = absurd h
    value_apart y z n c s e (part k none) i f h = absurd h
    value_apart y z n c s e (part k (gap ps)) i f h = absurd h
    value_apart y z n c s e (part k (part v (gap ps))) i f h = absurd h
    value_apart y z n c s e (part k (part v (part t ps))) i f h = absurd h
    value_apart y z n c s e (part k (part v none)) i f h =
        let start = h.5 in
        let stop = h.6 in
        refs_append s s e (found_in (at_place y z 0) n k).references _
        (subst (RefsApart s s) (sym (none_below k h.0 (at_place y z 0) n (key_without y.role y.kind y.text y.flags y.has_last y.last i f))) (omega arith))
        (in_scope_apart c (round_others y z) _ (λ x m. parts_from y x 1 m (part v none)) s e
        (λ x m. refs_append s e e (found_in (at_place y x 1) m v).references [] (refs_within s (start_of v) (stop_of v) e _ (omega (arith, start)) (omega (arith, stop)) (refs_apart v h.4 (at_place y x 1) m)) (omega arith)))

    all_apart : (y : Inside) (z : Around) (n : ℕ) (c : Option (List Binding)) (s e : ℕ) (ps : Parts) → PartsOrdered Q s e ps → RefsApart s e (all_parts y z n c ps).references
    all_apart y z n c s e none h = in_scope_apart c (round_others y z) n (λ x m. nothing) s e (λ x m. h)
    all_apart y z n c s e (gap ps) h = in_scope_apart c (round_others y z) n (λ x m. parts_from y x 1 m ps) s e (λ x m. from_apart y x 1 m s e ps h)
    all_apart y z n c s e (part t ps) h =
        refs_append s (stop_of t) e (found_in (at_place y z 0) n t).references _ (refs_within s (start_of t) (stop_of t) (stop_of t) _ h.0 (omega arith) (refs_apart t h.1 (at_place y z 0) n))
        (in_scope_apart c (round_others y z) _ (λ x m. parts_from y x 1 m ps) (stop_of t) e (λ x m. from_apart y x 1 m (stop_of t) e ps h.2))

    from_apart : (y : Inside) (z : Around) (i n : ℕ) (s e : ℕ) (ps : Parts) → PartsOrdered Q s e ps → RefsApart s e (parts_from y z i n ps).references
    from_apart y z i n s e none h = h
    from_apart y z i n s e (gap ps) h = from_apart y z (i + 1) n s e ps h
    from_apart y z i n s e (part t ps) h =
        refs_append s (stop_of t) e (found_in (at_place y z i) n t).references _ (refs_within s (start_of t) (stop_of t) (stop_of t) _ h.0 (omega arith) (refs_apart t h.1 (at_place y z i) n))
        (from_apart y z (i + 1) _ (stop_of t) e ps h.2)

  -- of a script
  pub script_refs : (n : Tree) → Ordered Q n → are_disjoint_from 0 (map (λ r. (r.start, r.stop)) (found n).references) ≡ true
  script_refs n h =
      apart_test Q Reference (λ r. r.name) (λ r. r.start) (λ r. r.stop) 0 (stop_of n) (found n).references (refs_within 0 (start_of n) (stop_of n) (stop_of n) (found n).references (omega arith) (omega arith) (refs_apart n h outside 0))

  pub ref_name : (n : Tree) → Ordered Q n → {r : Reference} → Among r (found n).references → Q r.name r.start r.stop
  ref_name n h a = apart_name Q Reference (λ r. r.name) (λ r. r.start) (λ r. r.stop) (start_of n) (stop_of n) (found n).references (refs_apart n h outside 0) a
