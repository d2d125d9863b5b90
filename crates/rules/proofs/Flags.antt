-- The flags of bindings: each binding has its own.
use Rattle.std.proofs.Common.{◌≡◌, ℕ, zero, suc, ◌+◌, ◌<◌, ◌≤◌, Bool, true, false, nat_eq, List, [], ◌∷◌, ◌++◌, length, get_or, set, replicate, Option, Some, map, take, option_map, slice_get, cond, refl, sym, ap, ap₂, ◌∙◌, add-one, arith, inl, inr, subst, subst₂, add-zero, zero-add, length-set, get_or-set_same, get_or-set_other, eq-eqb, eqb-true}
use Rattle.std.specs.Prelude.{◌&&◌, ◌||◌}
use Rattle.std.specs.List.{list_any}
use Rattle.std.proofs.lemmas.Bool.{cases_lt, cases_eq, and_from, and_parts, or_right, false_from_ne_true}
use Rattle.std.proofs.lemmas.List.{get_or_append_left, get_or_push, length_push, replicate-append-replicate, length-replicate, length-map, map_more}
use Rattle.std.proofs.lemmas.Option.{none-some}
use Rattle.scopes.specs.Bindings.{Binding}
use Rattle.scopes.specs.Found.{Reference, Scope}
use Rattle.rules.specs.declared.bindings.BindingRule.{BindingRule}
use Rattle.rules.specs.declared.bindings.BindingRule.TheVariants.{Shadow, Unused, Constant}
use Rattle.rules.specs.declared.used_bindings.UsedBindings.{UsedBindings}
use Rattle.rule_words.specs.Reports.{Report, report, quoted}
use Rattle.rules.specs.Rules.{is_param, is_unused, means, of_bindings, of_const, of_scopes, of_unused, reads_param, uses}
use Rattle.rules.specs.Settings.{Settings}
use Rattle.rules.specs.Used.{HasBinding, IsLaidOut, Notes, binding_count, bindings_before, first_flags, flag_index, is_marked, of_binding}

pub before-more : (n : ℕ) (ss : List Scope) → bindings_before (suc n) ss ≡ bindings_before n ss + binding_count ss n
before-more zero [] = refl
before-more (suc n) [] = refl
before-more zero (s ∷ ss) = omega arith
before-more (suc n) (s ∷ ss) = omega (arith, before-more n ss)

-- a binding's scope is one of them
known : (ss : List Scope) (n i : ℕ) → i < binding_count ss n → n < length ss
known [] n i h = absurd (omega (arith, h))
known (s ∷ ss) zero i h = omega arith
known (s ∷ ss) (suc n) i h = omega (arith, known ss n i h)

-- a binding's flag is one of them
below : (ss : List Scope) (n i : ℕ) → i < binding_count ss n → bindings_before n ss + i < bindings_before (length ss) ss
below [] n i h = absurd (omega (arith, h))
below (s ∷ ss) zero i h = omega (arith, h)
below (s ∷ ss) (suc n) i h = omega (arith, below ss n i h)

-- two bindings with one flag are the same
apart : (ss : List Scope) (n i m j : ℕ) → i < binding_count ss n → j < binding_count ss m → bindings_before n ss + i ≡ bindings_before m ss + j → (n ≡ m) × (i ≡ j)
apart [] n i m j h g e = absurd (omega (arith, h))
apart (s ∷ ss) zero i zero j h g e = (refl, omega (arith, e))
apart (s ∷ ss) zero i (suc m) j h g e = absurd (omega (arith, h, e))
apart (s ∷ ss) (suc n) i zero j h g e = absurd (omega (arith, g, e))
apart (s ∷ ss) (suc n) i (suc m) j h g e =
    let same = apart ss n i m j h g (omega (arith, e)) in
    (ap suc same.0, same.1)

length-first_flags : (ss : List Scope) (k : ℕ) → length (first_flags ss k) ≡ k
length-first_flags ss zero = refl
length-first_flags ss (suc k) = length_push (first_flags ss k) (bindings_before k ss) ∙ add-one (length (first_flags ss k)) ∙ ap suc (length-first_flags ss k)

first_flag-at : (ss : List Scope) (k n d : ℕ) → n < k → get_or (first_flags ss k) n d ≡ bindings_before n ss
first_flag-at ss zero n d l = absurd (omega (arith, l))
first_flag-at ss (suc k) n d l = elim (cases_lt n k) [
  | inl before ↦ get_or_append_left (first_flags ss k) (bindings_before k ss ∷ []) d n (omega (arith, before, length-first_flags ss k)) ∙ first_flag-at ss k n d before
  | inr past ↦ let same : n ≡ k = omega (arith, l, past) in
      get_or_push (first_flags ss k) (bindings_before k ss) d n (length-first_flags ss k ∙ sym same) ∙ ap (λ x. bindings_before x ss) (sym same)
]

index-is : (ss : List Scope) (u : UsedBindings) (m : ℕ × ℕ) → IsLaidOut ss (length ss) u → HasBinding ss m → flag_index u m ≡ bindings_before m.0 ss + m.1
index-is ss u m laid h = ap (λ f. f + m.1) (ap (λ fs. get_or fs m.0 (length u.flags.items)) laid.firsts ∙ first_flag-at ss (length ss) m.0 (length u.flags.items) (known ss m.0 m.1 h))

or-false : (b : Bool) → b ≡ (b || false)
or-false true = refl
or-false false = refl

-- the same scopes, with other flags
still-laid-out : (ss : List Scope) (old new : UsedBindings) → IsLaidOut ss (length ss) old → new.firsts.items ≡ old.firsts.items → length new.flags.items ≡ length old.flags.items → IsLaidOut ss (length ss) new
still-laid-out ss old new laid f l = record { firsts = f ∙ laid.firsts; flags = l ∙ laid.flags }

marked-one : (ss : List Scope) (old new : UsedBindings) (x m : ℕ × ℕ) → IsLaidOut ss (length ss) old → new.firsts.items ≡ old.firsts.items → new.flags.items ≡ set old.flags.items (flag_index old x) true
    → HasBinding ss x → HasBinding ss m → is_marked new m ≡ (is_marked old m || (nat_eq x.0 m.0 && nat_eq x.1 m.1))
marked-one ss old new x m laid f s hx hm =
    let i = flag_index old x in
    let j = flag_index old m in
    let longer : length new.flags.items ≡ length old.flags.items = ap length s ∙ length-set old.flags.items i true in
    let at-x = index-is ss old x laid hx in
    let at-m = index-is ss old m laid hm in
    let same-index : flag_index new m ≡ j = ap₂ (λ fs n. get_or fs m.0 n + m.1) f longer in
    let reads : is_marked new m ≡ get_or (set old.flags.items i true) j false = ap₂ (λ bs k. get_or bs k false) s same-index in
    let here : i < length old.flags.items = omega (arith, at-x, laid.flags, below ss x.0 x.1 hx) in
    reads ∙ elim (cases_eq j i) [
      | inl e ↦ let same = apart ss x.0 x.1 m.0 m.1 hx hm (sym at-x ∙ sym e ∙ at-m) in
          ap (λ k. get_or (set old.flags.items i true) k false) e ∙ get_or-set_same old.flags.items i true false here
          ∙ sym (or_right (is_marked old m) _ (and_from _ _ (eq-eqb x.0 m.0 same.0) (eq-eqb x.1 m.1 same.1)))
      | inr n ↦
          get_or-set_other old.flags.items i j true false n ∙ or-false (is_marked old m)
          ∙ ap (λ b. is_marked old m || b) (sym (false_from_ne_true _ (λ t. let both = and_parts _ _ t in
          n (ap₂ (λ a b. flag_index old (a, b)) (sym (eqb-true x.0 m.0 both.0)) (sym (eqb-true x.1 m.1 both.1))))))
    ]

-- the flag of a binding is set
pub marked : (ss : List Scope) (old new : UsedBindings) (n i : ℕ) → new.firsts.items ≡ old.firsts.items → new.flags.items ≡ set old.flags.items (flag_index old (n, i)) true → i < binding_count ss n
    → (p : ℕ × ℕ → Bool) → Notes ss p old → Notes ss (λ m. p m || (nat_eq n m.0 && nat_eq i m.1)) new
marked ss old new n i f s h p notes = record {
  laid_out = still-laid-out ss old new notes.laid_out f (ap length s ∙ length-set old.flags.items (flag_index old (n, i)) true);
  marked = λ m hm. marked-one ss old new (n, i) m notes.laid_out f s h hm ∙ ap (λ b. b || (nat_eq n m.0 && nat_eq i m.1)) (notes.marked m hm);
}

-- no scope has such a binding
pub unmarked : (ss : List Scope) (u : UsedBindings) (n i : ℕ) → binding_count ss n ≤ i → (p : ℕ × ℕ → Bool) → Notes ss p u → Notes ss (λ m. p m || (nat_eq n m.0 && nat_eq i m.1)) u
unmarked ss u n i h p notes = record {
  laid_out = notes.laid_out;
  marked = λ m hm. notes.marked m hm ∙ or-false (p m)
      ∙ ap (λ b. p m || b) (sym (false_from_ne_true _ (λ t. let both = and_parts _ _ t in
      let there : i < binding_count ss n = subst (λ k. i < binding_count ss k) (sym (eqb-true n m.0 both.0)) (subst (λ k. k < binding_count ss m.0) (sym (eqb-true i m.1 both.1)) hm) in
      omega (arith, h, there))));
}

pub notes-same : (ss : List Scope) (u : UsedBindings) (p q : ℕ × ℕ → Bool) → ((m : ℕ × ℕ) → p m ≡ q m) → Notes ss p u → Notes ss q u
notes-same ss u p q same notes = record { laid_out = notes.laid_out; marked = λ m h. notes.marked m h ∙ same m }

count-is : (ss : List Scope) (n : ℕ) (bs : List Binding) → Some bs ≡ option_map (λ (s : Scope). s.bindings) (slice_get ss n) → length bs ≡ binding_count ss n
count-is [] n bs h = absurd (none-some _ (sym h))
count-is (s ∷ ss) zero bs h = let same : bs ≡ s.bindings = cc in ap length same
count-is (s ∷ ss) (suc n) bs h = count-is ss n bs h

pub count-at : {X : Type 0} (f : X → Binding) (ss : List Scope) (n : ℕ) (xs : List X) → Some (map f xs) ≡ option_map (λ (s : Scope). s.bindings) (slice_get ss n) → length xs ≡ binding_count ss n
count-at f ss n xs h = sym (length-map xs f) ∙ count-is ss n (map f xs) h

pub count-past : (ss : List Scope) (n : ℕ) → length ss ≤ n → 0 ≡ binding_count ss n
count-past [] n h = refl
count-past (s ∷ ss) zero h = absurd (omega (arith, h))
count-past (s ∷ ss) (suc n) h = count-past ss n (omega (arith, h))

-- one more scope's flags
pub scope-turn : (ss : List Scope) (old new : UsedBindings) (n count : ℕ) → count ≡ binding_count ss n → new.firsts.items ≡ old.firsts.items ++ length old.flags.items ∷ [] → new.flags.items ≡ old.flags.items ++ replicate count false
    → IsLaidOut ss n old → old.flags.items ≡ replicate (bindings_before n ss) false → (IsLaidOut ss (n + 1) new) × (new.flags.items ≡ replicate (bindings_before (n + 1) ss) false)
scope-turn ss old new n count e f s laid r =
    let flags : new.flags.items ≡ replicate (bindings_before (n + 1) ss) false
    = s ∙ ap₂ (λ bs k. bs ++ replicate k false) r e ∙ replicate-append-replicate (bindings_before n ss) (binding_count ss n) false ∙ ap (λ k. replicate k false) (sym (before-more n ss)) ∙ ap (λ k. replicate (bindings_before k ss) false) (sym (add-one n)) in (
      record {
        firsts = f ∙ ap₂ (λ fs k. fs ++ k ∷ []) laid.firsts laid.flags ∙ ap (first_flags ss) (sym (add-one n));
        flags = ap length flags ∙ length-replicate (bindings_before (n + 1) ss) false;
      },
      flags,
    )

or-assoc : (a b c : Bool) → ((a || b) || c) ≡ (a || (b || c))
or-assoc true b c = refl
or-assoc false b c = refl

any-push : {X : Type 0} (p : X → Bool) (xs : List X) (x : X) → (list_any p xs || p x) ≡ list_any p (xs ++ x ∷ [])
any-push p [] x = or-false (p x)
any-push p (y ∷ ys) x = or-assoc (p y) (list_any p ys) (p x) ∙ ap (λ b. p y || b) (any-push p ys x)

abbrev meaning : Reference → Option (ℕ × ℕ) → Reference
meaning r o = record { name = r.name; scope = r.scope; reads = r.reads; writes = r.writes; start = r.start; stop = r.stop; typeof_operand = r.typeof_operand; called = r.called; constructed = r.constructed; meaning = o }

-- a reference that uses what it means
pub means-it : (writes : Bool) (r : Reference) (n i : ℕ) → uses writes r ≡ true → r.meaning ≡ Some (n, i) → (m : ℕ × ℕ) → (nat_eq n m.0 && nat_eq i m.1) ≡ (uses writes r && means r m)
means-it writes r n i u e m = ap (λ o. means (meaning r o) m) (sym e) ∙ ap (λ b. b && means r m) (sym u)

-- a turn of the loop over the references
pub any-turn : {X Y : Type 0} (p : Y → Bool) (f : X → Y) (xs : List X) (i : ℕ) (d : X) → i < length xs → (list_any p (map f (take i xs)) || p (f (get_or xs i d))) ≡ list_any p (map f (take (i + 1) xs))
any-turn p f xs i d l = any-push p (map f (take i xs)) (f (get_or xs i d)) ∙ ap (list_any p) (sym (map_more f xs i d l))

-- What is said of bindings, by what is said of each.

bindings-same : (f g : ℕ × ℕ → Binding → List Binding → List Report) (n k : ℕ) (bs : List Binding)
    → ((i : ℕ) (b : Binding) (cs : List Binding) → i + suc (length cs) ≡ length bs → f (n, k + i) b cs ≡ g (n, k + i) b cs) → of_bindings f n k bs ≡ of_bindings g n k bs
bindings-same f g n k [] h = refl
bindings-same f g n k (b ∷ bs) h = ap₂ (λ xs ys. xs ++ ys) (subst (λ j. f (n, j) b bs ≡ g (n, j) b bs) (add-zero k) (h 0 b bs (omega arith)))
    (bindings-same f g n (k + 1) bs (λ i c cs l. subst (λ j. f (n, j) c cs ≡ g (n, j) c cs) (omega arith) (h (suc i) c cs (omega (arith, l)))))

scopes-same : (f g : ℕ × ℕ → Binding → List Binding → List Report) (k : ℕ) (ss : List Scope)
    → ((n i : ℕ) (b : Binding) (cs : List Binding) → i + suc (length cs) ≡ binding_count ss n → f (k + n, i) b cs ≡ g (k + n, i) b cs) → of_scopes f k ss ≡ of_scopes g k ss
scopes-same f g k [] h = refl
scopes-same f g k (s ∷ ss) h =
    ap₂ (λ xs ys. xs ++ ys) (bindings-same f g k 0 s.bindings (λ i b cs l. subst₂ (λ j x. f (j, x) b cs ≡ g (j, x) b cs) (add-zero k) (sym (zero-add i)) (h 0 i b cs l)))
    (scopes-same f g (k + 1) ss (λ n i b cs l. subst (λ j. f (j, i) b cs ≡ g (j, i) b cs) (omega arith) (h (suc n) i b cs l)))

-- parameters are read by flags as by references
params-same : (ss : List Scope) (u : UsedBindings) (p : ℕ × ℕ → Bool) → Notes ss p u → (n i : ℕ) (bs : List Binding) → i + length bs ≤ binding_count ss n → reads_param (is_marked u) n i bs ≡ reads_param p n i bs
params-same ss u p notes n i [] l = refl
params-same ss u p notes n i (b ∷ bs) l =
    ap₂ (λ x y. (is_param b.kind && x) || y) (notes.marked (n, i) (omega (arith, l))) (params-same ss u p notes n (i + 1) bs (omega (arith, l)))

-- by flags, the same is said as by references
pub said-same : (rule : BindingRule) (s : Settings) (alone marked : ℕ → Bool) (ss : List Scope) (u : UsedBindings) (p : ℕ × ℕ → Bool) → ((at : ℕ) → marked at ≡ alone at) → Notes ss p u
    → of_scopes (of_binding rule s marked (is_marked u)) 0 ss ≡ of_scopes (of_binding rule s alone p) 0 ss
said-same rule s alone marked ss u p same notes =
    scopes-same (of_binding rule s marked (is_marked u)) (of_binding rule s alone p) 0 ss (λ n i b cs l. subst (λ j. of_binding rule s marked (is_marked u) (j, i) b cs ≡ of_binding rule s alone p (j, i) b cs) (sym (zero-add n)) (one rule n i b cs l))
  where
    one : (rule : BindingRule) (n i : ℕ) (b : Binding) (cs : List Binding) → i + suc (length cs) ≡ binding_count ss n → of_binding rule s marked (is_marked u) (n, i) b cs ≡ of_binding rule s alone p (n, i) b cs
    one Shadow n i b cs l = refl
    one Unused n i b cs l =
        ap (λ a. of_unused s (λ at. a) (is_marked u) (n, i) b cs) (same b.start)
        ∙ ap₂ (λ x y. cond (is_unused s (alone b.start) x y b) (report "no-unused-vars" b.start b.stop (quoted b.name "is never read") ∷ []) []) (notes.marked (n, i) (omega (arith, l)))
        (params-same ss u p notes n (i + 1) cs (omega (arith, l)))
    one Constant n i b cs l = ap (λ x. of_const (λ k. x) (n, i) b) (notes.marked (n, i) (omega (arith, l)))
