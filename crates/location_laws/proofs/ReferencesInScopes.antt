-- Of a tree in order, each reference stands in the place of its scope, and each scope in the place of the one round it.
use Rattle.std.proofs.Common.{◌≡◌, ℕ, zero, suc, ◌+◌, ◌-◌, ◌≤◌, Bool, true, false, cond, not, List, [], ◌∷◌, ◌++◌, length, refl, sym, ap, subst, ◌∙◌, arith, ◌⊎◌, inl, inr}
use Rattle.std.specs.Prelude.{◌&&◌, nat_le, slice_get, Option, Some, None, is_some, unwrap_or}
use Rattle.std.proofs.lemmas.Bool.{and_from, and_parts}
use Rattle.std.proofs.lemmas.Bool.Decides.{nat_tests}
use Rattle.tree.specs.declared.kind.Kind.{Kind}
use Rattle.tree.specs.declared.kind.Kind.TheVariants.{Identifier, Program}
use Rattle.tree.specs.declared.kind.Flags.{Flags}
use Rattle.tree.specs.Tree.{Tree, node, Parts, none, part, gap, kind_of, start_of, stop_of, part_at, part_count}
use Rattle.language.specs.Vocabulary.{is}
use Rattle.language.specs.Derivation.{Among, first, later}
use Rattle.scopes.specs.Roles.{is_reference, does_read, does_write, is_called, is_constructed, is_typeof_operand}
use Rattle.scopes.specs.Bindings.{Binding}
use Rattle.scopes.specs.Openings.{scope_round_all, scope_round_others}
use Rattle.scopes.specs.Found.{Frame, Around, Reference, Scope, Found, Inside, nearest, scope_of, nothing, joined, own_reference, enter, in_scope, one_part, at_place, round_others, found_in, all_parts, parts_from, outside, found}
use Rattle.location_laws.specs.InOrder.{is_shorthand}
use Rattle.location_laws.specs.ScopeRanges.{SourceRange, range_of, ranges_in, ranges_in_all, ranges_from, scope_ranges, is_within}
use Rattle.location_laws.proofs.OrderLemmas.{Ordered, PartsOrdered, KeyInValue, by_shape, le_test, span_ordered, parts_forward}
use Rattle.location_laws.proofs.References.{own_or_none}
use Rattle.location_laws.proofs.ScopeOrder.{no_scope_round_others, roles_of, places_count}

-- from an index on the list has these
abbrev Holds : List SourceRange → ℕ → List SourceRange → Type 0
Holds L n [] = Unit {0}
Holds L n (x ∷ xs) = (slice_get L n ≡ Some x) × Holds L (n + 1) xs

holds_left : (L : List SourceRange) (n : ℕ) (xs ys : List SourceRange) → Holds L n (xs ++ ys) → Holds L n xs
holds_left L n [] ys h = tt
holds_left L n (x ∷ xs) ys h = (h.0, holds_left L (n + 1) xs ys h.1)

holds_right : (L : List SourceRange) (n : ℕ) (xs ys : List SourceRange) → Holds L n (xs ++ ys) → Holds L (n + length xs) ys
holds_right L n [] ys h = let e : n ≡ n + 0 = omega arith in subst (λ m. Holds L m ys) e h
holds_right L n (x ∷ xs) ys h = let e : n + 1 + length xs ≡ n + length (x ∷ xs) = omega arith in subst (λ m. Holds L m ys) e (holds_right L (n + 1) xs ys h.1)

holds_behind : (y : SourceRange) (L : List SourceRange) (n : ℕ) (xs : List SourceRange) → Holds L n xs → Holds (y ∷ L) (n + 1) xs
holds_behind y L n [] h = tt
holds_behind y L n (x ∷ xs) h = let e : suc n ≡ n + 1 = omega arith in (subst (λ m. slice_get (y ∷ L) m ≡ Some x) e h.0, holds_behind y L (n + 1) xs h.1)

holds_itself : (xs : List SourceRange) → Holds xs 0 xs
holds_itself [] = tt
holds_itself (x ∷ xs) = (refl, holds_behind x xs 0 xs (holds_itself xs))

within_less : (o : Option SourceRange) (s e a b : ℕ) → s ≤ a → b ≤ e → is_within o s e ≡ true → is_within o a b ≡ true
within_less None s e a b x y h = h
within_less (Some p) s e a b x y h = let u = and_parts (nat_le p.0 s) (nat_le e p.1) h in and_from (nat_le p.0 a) (nat_le b p.1) (lower p.0 s a x u.0) (higher b e p.1 y u.1)
  where
    lower : (i j k : ℕ) → j ≤ k → nat_le i j ≡ true → nat_le i k ≡ true
    lower i j k x h = grind (arith, nat_tests)

    higher : (i j k : ℕ) → i ≤ j → nat_le j k ≡ true → nat_le i k ≡ true
    higher i j k x h = grind (arith, nat_tests)

itself_within : (s e : ℕ) → is_within (Some (s, e)) s e ≡ true
itself_within s e = and_from (nat_le s s) (nat_le e e) (le_test s s (omega arith)) (le_test e e (omega arith))

module _ (L : List SourceRange) where
  -- the nearest scope is round these places
  abbrev Round : List Frame → ℕ → ℕ → Type 0
  Round fs s e = is_within (slice_get L (unwrap_or (scope_of fs) 0)) s e ≡ true

  round_less : (fs : List Frame) (s e a b : ℕ) → s ≤ a → b ≤ e → Round fs s e → Round fs a b
  round_less fs s e a b x y h = within_less (slice_get L (unwrap_or (scope_of fs) 0)) s e a b x y h

  abbrev pub InScopes : List Reference → Type 0
  InScopes [] = Unit {0}
  InScopes (r ∷ rs) = (is_within (slice_get L r.scope) r.start r.stop ≡ true) × InScopes rs

  abbrev pub InParent : Option ℕ → SourceRange → Type 0
  InParent None x = Unit {0}
  InParent (Some q) x = is_within (slice_get L q) x.0 x.1 ≡ true

  abbrev pub InParents : List Scope → List SourceRange → Type 0
  InParents [] xs = Unit {0}
  InParents (s ∷ ss) [] = Unit {0}
  InParents (s ∷ ss) (x ∷ xs) = InParent s.parent x × InParents ss xs

  abbrev pub Located : Found → List SourceRange → Type 0
  Located f xs = InScopes f.references × InParents f.scopes xs

  refs_join : (rs ts : List Reference) → InScopes rs → InScopes ts → InScopes (rs ++ ts)
  refs_join [] ts h k = k
  refs_join (r ∷ rs) ts h k = (h.0, refs_join rs ts h.1 k)

  parents_join : (ss ts : List Scope) (xs ys : List SourceRange) → length ss ≡ length xs → InParents ss xs → InParents ts ys → InParents (ss ++ ts) (xs ++ ys)
  parents_join [] ts [] ys l h k = k
  parents_join [] ts (x ∷ xs) ys l h k = absurd (cc)
  parents_join (s ∷ ss) ts [] ys l h k = absurd (cc)
  parents_join (s ∷ ss) ts (x ∷ xs) ys l h k = (h.0, parents_join ss ts xs ys (less l) h.1 k)
    where
      less : length (s ∷ ss) ≡ length (x ∷ xs) → length ss ≡ length xs
      less l = omega (arith, l)

  located_join : (f g : Found) (xs ys : List SourceRange) → length f.scopes ≡ length xs → Located f xs → Located g ys → Located (joined f g) (xs ++ ys)
  located_join f g xs ys l h k = (refs_join f.references g.references h.0 k.0, parents_join f.scopes g.scopes xs ys l h.1 k.1)

  parent_round : (fs : List Frame) (s e : ℕ) → Round fs s e → InParent (scope_of fs) (s, e)
  parent_round [] s e h = tt
  parent_round (f ∷ fs) s e h = h

  in_scope_located : (b : Option (List Binding)) (z : Around) (n : ℕ) (f : Around → ℕ → Found) (s e : ℕ) (xs : List SourceRange) → Round z.frames s e → Holds L n (range_of b s e ++ xs) →
      ((x : Around) (m : ℕ) → Round x.frames s e → Holds L m xs → Located (f x m) xs) → Located (in_scope b z n f) (range_of b s e ++ xs)
  in_scope_located None z n f s e xs r h k = k z n r h
  in_scope_located (Some bs) z n f s e xs r h k =
      let u = k (enter z n bs) (n + 1) (subst (λ o. is_within o s e ≡ true) (sym h.0) (itself_within s e)) h.1 in
      (u.0, (parent_round z.frames s e r, u.1))

  nothing_located : (b : Option (List Binding)) (z : Around) (n : ℕ) (s e : ℕ) → Round z.frames s e → Located (in_scope b z n (λ x m. nothing)) (range_of b s e)
  nothing_located None z n s e r = (tt, tt)
  nothing_located (Some bs) z n s e r = (tt, (parent_round z.frames s e r, tt))

  own_located : (z : Around) (k : Kind) (w : List ℕ) (g : Flags) (s e : ℕ) (ps : Parts) → (k ≡ Identifier) ⊎ (own_reference z (node k w g s e ps) ≡ []) → Round z.frames s e → InScopes (own_reference z (node k w g s e ps))
  own_located z k w g s e ps (inr o) r = subst InScopes (sym o) tt
  own_located z k w g s e ps (inl i) r = subst (λ j. InScopes (own_reference z (node j w g s e ps))) (sym i) (of (is_reference z.role && not (z.in_function && is w "arguments")))
    where
      of : (b : Bool) →
          InScopes
          (cond b (record { name = w; scope = unwrap_or (scope_of z.frames) 0; reads = does_read z.role; writes = does_write z.role; start = s; stop = e; typeof_operand = is_typeof_operand z.role; called = is_called z.role; constructed = is_constructed z.role; meaning = nearest w z.frames } ∷ []) [])
      of true = (r, tt)
      of false = tt

  module _ (Q : List ℕ → ℕ → ℕ → Type 0) where
    -- a part, and what stands behind it
    one_located : (t : Tree) (z : Around) (n : ℕ) (g : ℕ → Found) (ys : List SourceRange) → Holds L n (ranges_in z.role t ++ ys) → (Holds L n (ranges_in z.role t) → Located (found_in z n t) (ranges_in z.role t)) → ((m : ℕ) → Holds L m ys → Located (g m) ys) →
        Located (one_part (found_in z n t) n g) (ranges_in z.role t ++ ys)
    one_located t z n g ys h k l =
        let c = places_count t z n in
        located_join (found_in z n t) (g (n + length (found_in z n t).scopes)) (ranges_in z.role t) ys c (k (holds_left L n (ranges_in z.role t) ys h))
        (l (n + length (found_in z n t).scopes) (subst (λ m. Holds L (n + m) ys) (sym c) (holds_right L n (ranges_in z.role t) ys h)))

    mutual
      unfolding found_in all_parts parts_from ranges_in ranges_in_all ranges_from

      located : (t : Tree) → Ordered Q t → (z : Around) (n : ℕ) → Round z.frames (start_of t) (stop_of t) → Holds L n (ranges_in z.role t) → Located (found_in z n t) (ranges_in z.role t)
      located (node k w g s e ps) h z n r l =
          let y : Inside = record { role = z.role; kind = k; text = w; flags = g; last = part_count ps - 1; has_last = is_some (part_at ps (part_count ps - 1)) } in
          let v = in_scope_located (scope_round_all z.role k ps) z n (λ x m. all_parts y x m (scope_round_others k ps) ps) s e (ranges_in_all (roles_of y) (scope_round_others k ps) s e ps) r l
          (λ x m o a. by_shape (is_shorthand k g)
          (λ i. value_located y x m (scope_round_others k ps) s e ps (no_scope_round_others k g ps i) (h.2 i).1 o a)
          (λ i. all_located y x m (scope_round_others k ps) s e ps (h.3 i) o a)) in
          (refs_join (own_reference z (node k w g s e ps)) _ (own_located z k w g s e ps (own_or_none z k w g s e ps) r) v.0, v.1)

      value_located : (y : Inside) (z : Around) (n : ℕ) (c : Option (List Binding)) (s e : ℕ) (ps : Parts) → c ≡ None → KeyInValue Q s e ps → Round z.frames s e → Holds L n (ranges_in_all (roles_of y) c s e ps) → Located (all_parts y z n c ps) (ranges_in_all (roles_of y) c s e ps)
      value_located y z n c s e none i h r l = absurd h
      value_located y z n c s e (gap ps) i h r l = absurd h
      value_located y z n c s e (part k none) i h r l = absurd h
      value_located y z n c s e (part k (gap ps)) i h r l = absurd h
      value_located y z n c s e (part k (part v (gap ps))) i h r l = absurd h
      value_located y z n c s e (part k (part v (part t ps))) i h r l = absurd h
      value_located y z n c s e (part k (part v none)) i h r l =
          let start = h.2 in
          let value = h.5 in
          let last = h.6 in
          let rest : List SourceRange = ranges_in (roles_of y 1) v ++ [] in
          subst (λ b. Holds L n (ranges_in (roles_of y 0) k ++ (range_of b (stop_of k) e ++ rest)) → Located (all_parts y z n b (part k (part v none))) (ranges_in_all (roles_of y) b s e (part k (part v none)))) (sym i)
          (λ a. one_located k (at_place y z 0) n (λ m. in_scope None (round_others y z) m (λ x o. parts_from y x 1 o (part v none))) rest a
          (λ b. located k h.1 (at_place y z 0) n (round_less z.frames s e (start_of k) (stop_of k) (omega (arith, start)) h.3 r) b)
          (λ m b. one_located v (at_place y (round_others y z) 1) m (λ o. nothing) [] b (λ d. located v h.4 (at_place y (round_others y z) 1) m (round_less z.frames s e (start_of v) (stop_of v) (omega (arith, value)) (omega (arith, last)) r) d) (λ o d. (tt, tt))))
          l

      all_located : (y : Inside) (z : Around) (n : ℕ) (c : Option (List Binding)) (s e : ℕ) (ps : Parts) → PartsOrdered Q s e ps → Round z.frames s e → Holds L n (ranges_in_all (roles_of y) c s e ps) → Located (all_parts y z n c ps) (ranges_in_all (roles_of y) c s e ps)
      all_located y z n c s e none h r l = nothing_located c (round_others y z) n s e r
      all_located y z n c s e (gap ps) h r l = in_scope_located c (round_others y z) n (λ x m. parts_from y x 1 m ps) s e (ranges_from (roles_of y) 1 ps) r l (λ x m o a. from_located y x 1 m s e ps h o a)
      all_located y z n c s e (part t ps) h r l =
          let b = span_ordered Q t h.1 in
          let on = parts_forward Q (stop_of t) e ps h.2 in
          let from = h.0 in
          one_located t (at_place y z 0) n (λ m. in_scope c (round_others y z) m (λ x o. parts_from y x 1 o ps)) (range_of c (stop_of t) e ++ ranges_from (roles_of y) 1 ps) l
          (λ a. located t h.1 (at_place y z 0) n (round_less z.frames s e (start_of t) (stop_of t) from on r) a)
          (λ m a. in_scope_located c (round_others y z) m (λ x o. parts_from y x 1 o ps) (stop_of t) e (ranges_from (roles_of y) 1 ps) (round_less z.frames s e (stop_of t) e (omega (arith, from, b)) (omega arith) r) a
          (λ x o q d. from_located y x 1 o (stop_of t) e ps h.2 q d))

      from_located : (y : Inside) (z : Around) (i n : ℕ) (s e : ℕ) (ps : Parts) → PartsOrdered Q s e ps → Round z.frames s e → Holds L n (ranges_from (roles_of y) i ps) → Located (parts_from y z i n ps) (ranges_from (roles_of y) i ps)
      from_located y z i n s e none h r l = (tt, tt)
      from_located y z i n s e (gap ps) h r l = from_located y z (i + 1) n s e ps h r l
      from_located y z i n s e (part t ps) h r l =
          let b = span_ordered Q t h.1 in
          let on = parts_forward Q (stop_of t) e ps h.2 in
          let from = h.0 in
          one_located t (at_place y z i) n (λ m. parts_from y z (i + 1) m ps) (ranges_from (roles_of y) (i + 1) ps) l
          (λ a. located t h.1 (at_place y z i) n (round_less z.frames s e (start_of t) (stop_of t) from on r) a)
          (λ m a. from_located y z (i + 1) m (stop_of t) e ps h.2 (round_less z.frames s e (stop_of t) e (omega (arith, from, b)) (omega arith) r) a)

-- Of a script

script_round : (k : Kind) (w : List ℕ) (g : Flags) (s e : ℕ) (ps : Parts) → k ≡ Program → is_within (slice_get (scope_ranges (node k w g s e ps)) 0) s e ≡ true
unfolding ranges_in
script_round k w g s e ps i = subst (λ j. is_within (slice_get (scope_ranges (node j w g s e ps)) 0) s e ≡ true) (sym i) (itself_within s e)

pub script_located : (Q : List ℕ → ℕ → ℕ → Type 0) (n : Tree) → kind_of n ≡ Program → Ordered Q n → Located (scope_ranges n) (found n) (scope_ranges n)
script_located Q (node k w g s e ps) i h = located (scope_ranges (node k w g s e ps)) Q (node k w g s e ps) h outside 0 (script_round k w g s e ps i) (holds_itself (scope_ranges (node k w g s e ps)))

pub ref_in_scope : (L : List SourceRange) {r : Reference} (rs : List Reference) → InScopes L rs → Among r rs → is_within (slice_get L r.scope) r.start r.stop ≡ true
ref_in_scope L [] h a = elim a [ ]
ref_in_scope L (r ∷ rs) h first = h.0
ref_in_scope L (r ∷ rs) h (later a) = ref_in_scope L rs h.1 a

pub scope_in_parent : (L : List SourceRange) (ss : List Scope) (xs : List SourceRange) (i q : ℕ) {s : Scope} {x : SourceRange} → InParents L ss xs → slice_get ss i ≡ Some s → slice_get xs i ≡ Some x → s.parent ≡ Some q → is_within (slice_get L q) x.0 x.1 ≡ true
scope_in_parent L [] xs i q h a b p = absurd (cc)
scope_in_parent L (t ∷ ss) [] i q h a b p = absurd (cc)
scope_in_parent L (t ∷ ss) (y ∷ xs) zero q {s} {x} h a b p = subst (λ v. is_within (slice_get L q) v.0 v.1 ≡ true) (some_is b) (subst (λ o. InParent L o y) (ap (λ v. v.parent) (some_is a) ∙ p) h.0)
  where
    some_is : {X : Type 0} {u v : X} → Some u ≡ Some v → u ≡ v
    some_is h = cc
scope_in_parent L (t ∷ ss) (y ∷ xs) (suc i) q h a b p = scope_in_parent L ss xs i q h.1 a b p
