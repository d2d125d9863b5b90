-- The bindings of each scope of a tree in order are in the order of their places.
use Rattle.std.proofs.Common.{◌≡◌, ℕ, ◌+◌, ◌-◌, ◌<◌, Bool, true, false, cond, List, [], ◌∷◌, ◌++◌, arith}
use Rattle.std.specs.Prelude.{map, Option, Some, None, is_some}
use Rattle.std.specs.Str.{bytes_eq}
use Rattle.tree.specs.Tree.{Tree, node, Parts, none, part, gap, stop_of, part_at, part_count}
use Rattle.scopes.specs.Bindings.{Binding, has_name}
use Rattle.scopes.specs.Openings.{scope_round_all, scope_round_others}
use Rattle.scopes.specs.Found.{Frame, Around, Scope, Found, Inside, nearest, exported_first, added, collected, nothing, enter, in_scope, at_place, round_others, found_in, all_parts, parts_from, outside, found}
use Rattle.language.specs.Derivation.{Among, first, later}
use Rattle.location_laws.specs.ScopeRanges.{are_disjoint_from}
use Rattle.location_laws.specs.InOrder.{is_shorthand}
use Rattle.location_laws.proofs.Apart.{apart_test, apart_name}
use Rattle.location_laws.proofs.OrderLemmas.{Ordered, PartsOrdered, KeyInValue, by_shape}
use Rattle.location_laws.proofs.DeclaredNameOrder.{NamesApart, names_within, names_append, IfNames, round_all_apart, round_others_apart}

module _ (Q : List ℕ → ℕ → ℕ → Type 0) (wide : (w : List ℕ) (s e : ℕ) → Q w s e → s < e) where
  -- an export of a name moves no binding
  exported_apart : (w : List ℕ) (a m : ℕ) (bs : List Binding) → NamesApart Q wide a m bs → NamesApart Q wide a m (exported_first w bs)
  exported_apart w a m [] h = h
  exported_apart w a m (b ∷ bs) h = of (bytes_eq w b.name) (exported_apart w b.stop m bs h.3)
    where
      of : (t : Bool) → NamesApart Q wide b.stop m (exported_first w bs) → NamesApart Q wide a m (cond t (record b { exported = true } ∷ bs) (b ∷ exported_first w bs))
      of true k = h
      of false k = (h.0, h.1, h.2, k)

  -- of each name its first identifier counts
  collected_apart : (fs : List Frame) (bs xs : List Binding) (a m b : ℕ) → NamesApart Q wide a m bs → NamesApart Q wide m b xs → NamesApart Q wide a b (collected fs bs xs)
  collected_apart fs bs [] a m b h k = names_within Q wide a a m b bs (omega arith) k h
  collected_apart fs bs (x ∷ xs) a m b h k = collected_apart fs (added fs bs x) xs a x.stop b (one_more (has_name x.name bs) x.exported) k.3
    where
      one_more : (t u : Bool) → NamesApart Q wide a x.stop (cond t (cond u (exported_first x.name bs) bs) (bs ++ record x { shadows = is_some (nearest x.name fs) } ∷ []))
      one_more true true = let l = k.0 in let r = k.1 in names_within Q wide a a m x.stop (exported_first x.name bs) (omega arith) (omega (arith, l, r)) (exported_apart x.name a m bs h)
      one_more true false = let l = k.0 in let r = k.1 in names_within Q wide a a m x.stop bs (omega arith) (omega (arith, l, r)) h
      one_more false u = names_append Q wide a m x.stop bs (record x { shadows = is_some (nearest x.name fs) } ∷ []) h (k.0, k.1, k.2, omega arith)

  abbrev pub EachApart : List Scope → Type 0
  EachApart [] = Unit {0}
  EachApart (x ∷ xs) = ((to : ℕ) × NamesApart Q wide 0 to x.bindings) × EachApart xs

  each_append : (xs ys : List Scope) → EachApart xs → EachApart ys → EachApart (xs ++ ys)
  each_append [] ys h k = k
  each_append (x ∷ xs) ys h k = (h.0, each_append xs ys h.1 k)

  in_scope_each : (b : Option (List Binding)) (z : Around) (n : ℕ) (f : Around → ℕ → Found) (s e : ℕ) → IfNames Q wide s e b → ((x : Around) (m : ℕ) → EachApart (f x m).scopes) → EachApart (in_scope b z n f).scopes
  in_scope_each None z n f s e i h = h z n
  in_scope_each (Some xs) z n f s e i h = ((e, collected_apart z.frames [] xs 0 0 e (omega arith) (names_within Q wide 0 s e e xs (omega arith) (omega arith) i)), h (enter z n xs) (n + 1))

  mutual
    unfolding found_in all_parts parts_from

    pub scopes_apart : (t : Tree) → Ordered Q t → (z : Around) (n : ℕ) → EachApart (found_in z n t).scopes
    scopes_apart (node k w g s e ps) h z n =
        let y : Inside = record { role = z.role; kind = k; text = w; flags = g; last = part_count ps - 1; has_last = is_some (part_at ps (part_count ps - 1)) } in
        let c = round_others_apart Q wide k w g s e ps h in
        in_scope_each (scope_round_all z.role k ps) z n (λ x m. all_parts y x m (scope_round_others k ps) ps) s e (round_all_apart Q wide z.role k w g s e ps h)
        (λ x m. by_shape (is_shorthand k g) (λ i. value_each y x m (scope_round_others k ps) s e ps c (h.2 i).1) (λ i. all_each y x m (scope_round_others k ps) s e s e ps c (h.3 i)))

    value_each : (y : Inside) (z : Around) (n : ℕ) (c : Option (List Binding)) (s e : ℕ) (ps : Parts) → IfNames Q wide s e c → KeyInValue Q s e ps → EachApart (all_parts y z n c ps).scopes
    value_each y z n c s e none i h = absurd h
    value_each y z n c s e (gap ps) i h = absurd h
    value_each y z n c s e (part k none) i h = absurd h
    value_each y z n c s e (part k (gap ps)) i h = absurd h
    value_each y z n c s e (part k (part v (gap ps))) i h = absurd h
    value_each y z n c s e (part k (part v (part t ps))) i h = absurd h
    value_each y z n c s e (part k (part v none)) i h =
        each_append (found_in (at_place y z 0) n k).scopes _ (scopes_apart k h.1 (at_place y z 0) n)
        (in_scope_each c (round_others y z) _ (λ x m. parts_from y x 1 m (part v none)) s e i (λ x m. each_append (found_in (at_place y x 1) m v).scopes [] (scopes_apart v h.4 (at_place y x 1) m) tt))

    -- its names stand between s and e, the parts between a and b
    all_each : (y : Inside) (z : Around) (n : ℕ) (c : Option (List Binding)) (s e a b : ℕ) (ps : Parts) → IfNames Q wide s e c → PartsOrdered Q a b ps → EachApart (all_parts y z n c ps).scopes
    all_each y z n c s e a b none i h = in_scope_each c (round_others y z) n (λ x m. nothing) s e i (λ x m. tt)
    all_each y z n c s e a b (gap ps) i h = in_scope_each c (round_others y z) n (λ x m. parts_from y x 1 m ps) s e i (λ x m. from_each y x 1 m a b ps h)
    all_each y z n c s e a b (part t ps) i h =
        each_append (found_in (at_place y z 0) n t).scopes _ (scopes_apart t h.1 (at_place y z 0) n)
        (in_scope_each c (round_others y z) _ (λ x m. parts_from y x 1 m ps) s e i (λ x m. from_each y x 1 m (stop_of t) b ps h.2))

    from_each : (y : Inside) (z : Around) (i n : ℕ) (a b : ℕ) (ps : Parts) → PartsOrdered Q a b ps → EachApart (parts_from y z i n ps).scopes
    from_each y z i n a b none h = tt
    from_each y z i n a b (gap ps) h = from_each y z (i + 1) n a b ps h
    from_each y z i n a b (part t ps) h = each_append (found_in (at_place y z i) n t).scopes _ (scopes_apart t h.1 (at_place y z i) n) (from_each y z (i + 1) _ (stop_of t) b ps h.2)

  pub of_each : {x : Scope} (xs : List Scope) → EachApart xs → Among x xs → (to : ℕ) × NamesApart Q wide 0 to x.bindings
  of_each [] h a = elim a [ ]
  of_each (x ∷ xs) h first = h.0
  of_each (x ∷ xs) h (later a) = of_each xs h.1 a

  -- of a script
  pub scope_names_apart : (n : Tree) → Ordered Q n → {s : Scope} → Among s (found n).scopes → are_disjoint_from 0 (map (λ b. (b.start, b.stop)) s.bindings) ≡ true
  scope_names_apart n h {s} a = let k = of_each (found n).scopes (scopes_apart n h outside 0) a in apart_test Q Binding (λ b. b.name) (λ b. b.start) (λ b. b.stop) 0 k.0 s.bindings k.1

  pub binding_name : (n : Tree) → Ordered Q n → {s : Scope} {b : Binding} → Among s (found n).scopes → Among b s.bindings → Q b.name b.start b.stop
  binding_name n h {s} a e = let k = of_each (found n).scopes (scopes_apart n h outside 0) a in apart_name Q Binding (λ b. b.name) (λ b. b.start) (λ b. b.stop) 0 k.0 s.bindings k.1 e
