-- The nearest binding of a name, as names are declared in a scope one by one.
use Rattle.std.proofs.Common.{◌≡◌, ℕ, zero, suc, ◌+◌, ◌<◌, Bool, true, false, cond, List, [], ◌∷◌, ◌++◌, length, Option, Some, None, is_some, option_map, refl, sym, ap, ◌∙◌, arith, ◌≤◌, drop, get_or, set, add-one, append_assoc, append-nil}
use Rattle.std.specs.Prelude.{◌||◌, nat_eq, IfSome}
use Rattle.std.specs.Str.{bytes_eq}
use Rattle.std.specs.Cmp.Lexicographic.{nat_list_eq_equiv}
use Rattle.std.proofs.Math.Seq.{drop-cons}
use Rattle.std.proofs.lemmas.List.{drop_all}
use Rattle.std.proofs.lemmas.Bool.{or_parts, true≢false}
use Rattle.std.proofs.lemmas.Bool.Decides.{nat_tests}
use Rattle.std.proofs.lemmas.Slice.Eq.{bytes_eq-Decides}
use Rattle.scopes.specs.declared.binding.Binding.{Binding as CodeBinding}
use Rattle.scopes.specs.Bindings.{Binding, has_name}
use Rattle.scopes.specs.Found.{Frame, index_of, here_or_outer, nearest, added, again, collected, exported_first, redeclarations}
use Rattle.name_tables.specs.declared.bound.BoundName.{BoundName}
use Rattle.scopes.specs.declared.names.DeclaredAs.{DeclaredAs}
use Rattle.scopes.specs.Shown.{Below, Meant, all_declared, declared_shown, exported_at, exported_place, all_shown, frame, is_of, shown}
use Rattle.name_tables.specs.Tables.{Agree, with_value}

mapped : (o : Option ℕ) → is_some (option_map suc o) ≡ is_some o
mapped None = refl
mapped (Some i) = refl

chosen : (c r : Bool) (o : Option ℕ) → is_some o ≡ r → is_some (cond c (Some 0) (option_map suc o)) ≡ (c || r)
chosen true r o e = refl
chosen false r o e = mapped o ∙ e

-- a name has a place exactly where it stands
index-is : (w : List ℕ) (bs : List Binding) → is_some (index_of w bs) ≡ has_name w bs
index-is w [] = refl
index-is w (b ∷ bs) = chosen (bytes_eq w b.name) (has_name w bs) (index_of w bs) (index-is w bs)

not_it : (m n : ℕ) → m < n → nat_eq m n ≡ false
not_it m n l = grind (arith, nat_tests)

it : (n : ℕ) → nat_eq n n ≡ true
it n = grind (arith, nat_tests)

-- what is meant lies in this scope exactly where the scope declares it
pub is_of-here : (n : ℕ) (w : List ℕ) (bs : List Binding) (fs : List Frame) → Below n fs → is_of (nearest w (frame n bs ∷ fs)) n ≡ has_name w bs
is_of-here n w bs fs b = pick (index_of w bs) ∙ index-is w bs
  where
    out : (p : Option (ℕ × ℕ)) → IfSome p (λ q. q.0 < n) → is_of p n ≡ false
    out None l = refl
    out (Some p) l = not_it p.0 n l

    pick : (o : Option ℕ) → is_of (here_or_outer n o (nearest w fs)) n ≡ is_some o
    pick None = out (nearest w fs) (b w)
    pick (Some i) = it n

-- a name that the scope doesn't declare is meant further out
pub meant-further_out : (n : ℕ) (w : List ℕ) (bs : List Binding) (fs : List Frame) → has_name w bs ≡ false → nearest w (frame n bs ∷ fs) ≡ nearest w fs
meant-further_out n w bs fs h = pick (index_of w bs) (index-is w bs ∙ h)
  where
    pick : (o : Option ℕ) → is_some o ≡ false → here_or_outer n o (nearest w fs) ≡ nearest w fs
    pick None e = refl
    pick (Some i) e = absurd (cc)

further : (c d : Bool) (o : Option ℕ) (n : ℕ) (m : Option ℕ) → o ≡ cond d (Some n) m → (c ≡ true → d ≡ false) → cond c (Some 0) (option_map suc o) ≡ cond d (Some (suc n)) (cond c (Some 0) (option_map suc m))
further true true o n m e f = absurd (true≢false (f refl))
further true false o n m e f = refl
further false true o n m e f = ap (option_map suc) e
further false false o n m e f = ap (option_map suc) e

-- the place of a name among bindings with one more
index-more : (w : List ℕ) (bs : List Binding) (b : Binding) → has_name b.name bs ≡ false → index_of w (bs ++ b ∷ []) ≡ cond (bytes_eq w b.name) (Some (length bs)) (index_of w bs)
index-more w [] b h = refl
index-more w (x ∷ bs) b h =
    let e = or_parts (bytes_eq b.name x.name) (has_name b.name bs) h in
    further (bytes_eq w x.name) (bytes_eq w b.name) (index_of w (bs ++ b ∷ [])) (length bs) (index_of w bs) (index-more w bs b e.1) (differs e.0)
  where
    differs : bytes_eq b.name x.name ≡ false → bytes_eq w x.name ≡ true → bytes_eq w b.name ≡ false
    differs not_b is_x = pick (bytes_eq w b.name) refl
      where
        pick : (d : Bool) → bytes_eq w b.name ≡ d → d ≡ false
        pick true t = absurd (true≢false (sym is_x ∙ ap (λ v. bytes_eq v x.name) ((bytes_eq-Decides w b.name).0 t) ∙ not_b))
        pick false t = refl

-- with one more name, not declared before
pub one-more : (f g : List ℕ → Option (ℕ × ℕ)) (n : ℕ) (bs : List Binding) (b : Binding) (fs : List Frame) → has_name b.name bs ≡ false → Meant f (frame n bs ∷ fs) → Agree g (with_value f b.name (Some (n, length bs))) → Meant g (frame n (bs ++ b ∷ []) ∷ fs)
one-more f g n bs b fs h m a w = a w ∙ pick (bytes_eq b.name w) refl
  where
    place : (c : Bool) → bytes_eq b.name w ≡ c → index_of w (bs ++ b ∷ []) ≡ cond c (Some (length bs)) (index_of w bs)
    place c e = index-more w bs b h ∙ ap (λ d. cond d (Some (length bs)) (index_of w bs)) (nat_list_eq_equiv.symm w b.name ∙ e)

    pick : (c : Bool) → bytes_eq b.name w ≡ c → cond c (Some (n, length bs)) (f w) ≡ nearest w (frame n (bs ++ b ∷ []) ∷ fs)
    pick true e = sym (ap (λ o. here_or_outer n o (nearest w fs)) (place true e))
    pick false e = m w ∙ sym (ap (λ o. here_or_outer n o (nearest w fs)) (place false e))

-- ---- a binding that stands there is exported

abbrev at_index : Option ℕ → List Binding → List Binding
at_index None bs = bs
at_index (Some i) bs = exported_place i bs

at-first : (w : List ℕ) (bs : List Binding) → at_index (index_of w bs) bs ≡ exported_first w bs
at-first w [] = refl
at-first w (b ∷ bs) = pick (bytes_eq w b.name) (at-first w bs)
  where
    behind : (o : Option ℕ) → at_index (option_map suc o) (b ∷ bs) ≡ b ∷ at_index o bs
    behind None = refl
    behind (Some i) = refl

    pick : (c : Bool) → at_index (index_of w bs) bs ≡ exported_first w bs → at_index (cond c (Some 0) (option_map suc (index_of w bs))) (b ∷ bs) ≡ cond c (record b { exported = true } ∷ bs) (b ∷ exported_first w bs)
    pick true e = refl
    pick false e = behind (index_of w bs) ∙ ap (λ l. b ∷ l) e

-- where its name stands is what the name means
pub exported-there : (n : ℕ) (w : List ℕ) (bs : List Binding) (fs : List Frame) → has_name w bs ≡ true → exported_at (nearest w (frame n bs ∷ fs)) bs ≡ exported_first w bs
exported-there n w bs fs h = pick (index_of w bs) (index-is w bs ∙ h) ∙ at-first w bs
  where
    pick : (o : Option ℕ) → is_some o ≡ true → exported_at (here_or_outer n o (nearest w fs)) bs ≡ at_index o bs
    pick None e = absurd (true≢false (sym e))
    pick (Some i) e = refl

place-same : (v : List ℕ) (i : ℕ) (bs : List Binding) → index_of v (exported_place i bs) ≡ index_of v bs
place-same v zero [] = refl
place-same v (suc i) [] = refl
place-same v zero (b ∷ bs) = refl
place-same v (suc i) (b ∷ bs) = ap (λ o. cond (bytes_eq v b.name) (Some 0) (option_map suc o)) (place-same v i bs)

-- names mean the same then
pub meant-exported : (g : List ℕ → Option (ℕ × ℕ)) (n : ℕ) (o : Option (ℕ × ℕ)) (bs more : List Binding) (fs : List Frame) → more ≡ exported_at o bs → Meant g (frame n bs ∷ fs) → Meant g (frame n more ∷ fs)
meant-exported g n o bs more fs e k w = k w ∙ sym (ap (λ i. here_or_outer n i (nearest w fs)) (ap (index_of w) e ∙ same o))
  where
    same : (o : Option (ℕ × ℕ)) → index_of w (exported_at o bs) ≡ index_of w bs
    same None = refl
    same (Some p) = place-same w p.1 bs

-- as the code has its bindings
pub exported-set : (bs : List CodeBinding) (i : ℕ) (x : CodeBinding) → x ≡ get_or bs i x → all_shown (set bs i (record x { exported = true })) ≡ exported_place i (all_shown bs)
exported-set [] zero x e = refl
exported-set [] (suc i) x e = refl
exported-set (b ∷ bs) zero x e = ap (λ y. shown (record y { exported = true }) ∷ all_shown bs) e
exported-set (b ∷ bs) (suc i) x e = ap (λ l. shown b ∷ l) (exported-set bs i x e)

pub exported-past : (bs : List CodeBinding) (i : ℕ) → length bs ≤ i → all_shown bs ≡ exported_place i (all_shown bs)
exported-past [] zero l = refl
exported-past [] (suc i) l = refl
exported-past (b ∷ bs) zero l = absurd (omega (arith, l))
exported-past (b ∷ bs) (suc i) l = ap (λ l. shown b ∷ l) (exported-past bs i (omega (arith, l)))

-- ---- one name of a list after the other

added-stands : (fs : List Frame) (bs : List Binding) (b : Binding) → has_name b.name bs ≡ true → added fs bs b ≡ cond b.exported (exported_first b.name bs) bs
added-stands fs bs b h = ap (λ c. cond c (cond b.exported (exported_first b.name bs) bs) (bs ++ record b { shadows = is_some (nearest b.name fs) } ∷ [])) h

pub added-exported : (fs : List Frame) (bs : List Binding) (b : Binding) → has_name b.name bs ≡ true → b.exported ≡ true → added fs bs b ≡ exported_first b.name bs
added-exported fs bs b h e = added-stands fs bs b h ∙ ap (λ c. cond c (exported_first b.name bs) bs) e

pub added-same : (fs : List Frame) (bs : List Binding) (b : Binding) → has_name b.name bs ≡ true → b.exported ≡ false → added fs bs b ≡ bs
added-same fs bs b h e = added-stands fs bs b h ∙ ap (λ c. cond c (exported_first b.name bs) bs) e

pub added-new : (fs : List Frame) (bs : List Binding) (b : Binding) → has_name b.name bs ≡ false → added fs bs b ≡ bs ++ record b { shadows = is_some (nearest b.name fs) } ∷ []
added-new fs bs b h = ap (λ c. cond c (cond b.exported (exported_first b.name bs) bs) (bs ++ record b { shadows = is_some (nearest b.name fs) } ∷ [])) h

-- a turn of the loop over the names
pub collected-turn : (fs : List Frame) (names : List (BoundName DeclaredAs)) (i : ℕ) (d : BoundName DeclaredAs) (bs more total : List Binding) → i < length names → more ≡ added fs bs (declared_shown (get_or names i d)) →
    collected fs bs (all_declared (drop i names)) ≡ total → collected fs more (all_declared (drop (i + 1) names)) ≡ total
collected-turn fs names i d bs more total l e so =
    rw (add-one i) (ap (λ x. collected fs x (all_declared (drop (suc i) names))) e ∙ sym (ap (λ xs. collected fs bs (all_declared xs)) (drop-cons names i d l)) ∙ so)

-- ---- a name that stands already

pub again-here : (bs : List Binding) (b : Binding) → has_name b.name bs ≡ true → again bs b ≡ b ∷ []
again-here bs b h = ap (λ c. cond c (b ∷ []) []) h

pub again-new : (bs : List Binding) (b : Binding) → has_name b.name bs ≡ false → again bs b ≡ []
again-new bs b h = ap (λ c. cond c (b ∷ []) []) h

pub redeclared-turn : (fs : List Frame) (names : List (BoundName DeclaredAs)) (i : ℕ) (d : BoundName DeclaredAs) (bs more old new total : List Binding) → i < length names → more ≡ added fs bs (declared_shown (get_or names i d)) →
    new ≡ old ++ again bs (declared_shown (get_or names i d)) → old ++ redeclarations fs bs (all_declared (drop i names)) ≡ total → new ++ redeclarations fs more (all_declared (drop (i + 1) names)) ≡ total
redeclared-turn fs names i d bs more old new total l e n so =
    let x : Binding = declared_shown (get_or names i d) in
    let step : redeclarations fs bs (all_declared (drop i names)) ≡ again bs x ++ redeclarations fs (added fs bs x) (all_declared (drop (suc i) names)) = ap (λ xs. redeclarations fs bs (all_declared xs)) (drop-cons names i d l) in
    rw (add-one i) (ap (λ y. new ++ redeclarations fs y (all_declared (drop (suc i) names))) e ∙ ap (λ y. y ++ redeclarations fs (added fs bs x) (all_declared (drop (suc i) names))) n
    ∙ append_assoc old (again bs x) (redeclarations fs (added fs bs x) (all_declared (drop (suc i) names))) ∙ ap (λ y. old ++ y) (sym step) ∙ so)

pub redeclared-end : (fs : List Frame) (names : List (BoundName DeclaredAs)) (i : ℕ) (bs old total : List Binding) → length names ≤ i → old ++ redeclarations fs bs (all_declared (drop i names)) ≡ total → old ≡ total
redeclared-end fs names i bs old total l so = sym (append-nil old) ∙ ap (λ xs. old ++ redeclarations fs bs (all_declared xs)) (sym (drop_all i names l)) ∙ so
