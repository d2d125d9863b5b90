-- Labels: what a table knows of them, and what a jump asks.
use Rattle.std.proofs.Common.{◌≡◌, ℕ, zero, suc, ◌-◌, Bool, true, false, not, cond, List, [], ◌∷◌, Option, Some, None, is_some, refl, sym, ap, subst, ◌∙◌, ◌+◌, ◌<◌, ◌≤◌, arith, add-one}
use Rattle.std.specs.Prelude.{◌||◌, ◌&&◌}
use Rattle.std.specs.Str.{bytes_eq}
use Rattle.tree.specs.declared.kind.Kind.{Kind}
use Rattle.tree.specs.declared.kind.Kind.TheVariants.{LabeledStatement}
use Rattle.tree.specs.Tree.{Tree, node, Parts, none, part, gap, kind_of, parts_of, part_at, part_count}
use Rattle.language.specs.FirstPart.{others}
use Rattle.early_errors.specs.Around as around
use Rattle.early_errors.specs.Around.{Around, is_loop, is_label, labels_loop, last_loop}
use Rattle.early_errors.specs.Names.{Named}
use Rattle.early_errors.specs.Labels.{labels_statement, labels_a_loop}
use Rattle.early_errors.specs.Owns.{label_of, or_false, is_label_for, misses}
use Rattle.early_errors.specs.Walk.{stands}

pub label_stands : (ls : List around.Label) (w : List ℕ) → is_some (label_of ls w) ≡ labels_statement ls w
label_stands [] w = refl
label_stands (l ∷ ls) w = pick (bytes_eq l.0 w) (label_stands ls w)
  where
    pick : (b : Bool) → is_some (label_of ls w) ≡ labels_statement ls w → is_some (cond b (Some (l.1 || or_false (label_of ls w))) (label_of ls w)) ≡ (b || labels_statement ls w)
    pick true e = refl
    pick false e = e

pub label_loops : (ls : List around.Label) (w : List ℕ) → or_false (label_of ls w) ≡ labels_a_loop ls w
label_loops [] w = refl
label_loops (l ∷ ls) w = pick (bytes_eq l.0 w) (label_loops ls w)
  where
    pick : (b : Bool) → or_false (label_of ls w) ≡ labels_a_loop ls w → or_false (cond b (Some (l.1 || or_false (label_of ls w))) (label_of ls w)) ≡ ((b && l.1) || labels_a_loop ls w)
    pick true e = ap (λ c. l.1 || c) e
    pick false e = e

for_any : (o : Option Bool) → is_label_for false o ≡ is_some o
for_any None = refl
for_any (Some true) = refl
for_any (Some false) = refl

for_loop : (o : Option Bool) → is_label_for true o ≡ or_false o
for_loop None = refl
for_loop (Some true) = refl
for_loop (Some false) = refl

-- a table answers as these labels do
abbrev pub Answers : (List ℕ → Option Bool) → List around.Label → Type 0
Answers f ls = (w : List ℕ) → f w ≡ label_of ls w

pub misses_any : (f : List ℕ → Option Bool) (ls : List around.Label) → Answers f ls → (x : Named) → misses false f x ≡ not (labels_statement ls x.0)
misses_any f ls h x = ap not (for_any (f x.0) ∙ ap is_some (h x.0) ∙ label_stands ls x.0)

pub misses_loop : (f : List ℕ → Option Bool) (ls : List around.Label) → Answers f ls → (x : Named) → misses true f x ≡ not (labels_a_loop ls x.0)
misses_loop f ls h x = ap not (for_loop (f x.0) ∙ ap or_false (h x.0) ∙ label_loops ls x.0)

pub stands_label : (f : List ℕ → Option Bool) (ls : List around.Label) → Answers f ls → (x : Named) → stands f x ≡ labels_statement ls x.0
stands_label f ls h x = ap is_some (h x.0) ∙ label_stands ls x.0

-- ---- whether a label's statement is a loop

abbrev loops_at : Option Tree → Bool
loops_at None = false
loops_at (Some t) = labels_loop t

last-loops : (ps : Parts) (k : ℕ) → part_count ps ≡ suc k → last_loop ps ≡ loops_at (part_at ps k)
unfolding last_loop
last-loops none k e = absurd (omega (arith, e))
last-loops (part t none) zero e = refl
last-loops (part t none) (suc k) e = absurd (omega (arith, e))
last-loops (part t (part u ps)) zero e = absurd (omega (arith, e))
last-loops (part t (part u ps)) (suc k) e = last-loops (part u ps) k (omega (arith, e))
last-loops (part t (gap ps)) zero e = absurd (omega (arith, e))
last-loops (part t (gap ps)) (suc k) e = last-loops (gap ps) k (omega (arith, e))
last-loops (gap none) zero e = refl
last-loops (gap none) (suc k) e = absurd (omega (arith, e))
last-loops (gap (part u ps)) zero e = absurd (omega (arith, e))
last-loops (gap (part u ps)) (suc k) e = last-loops (part u ps) k (omega (arith, e))
last-loops (gap (gap ps)) zero e = absurd (omega (arith, e))
last-loops (gap (gap ps)) (suc k) e = last-loops (gap ps) k (omega (arith, e))

less : (k : ℕ) → k ≡ k + 1 - 1
less k = omega arith

pub last_loop-at : (ps : Parts) → last_loop ps ≡ loops_at (part_at ps (part_count ps - 1))
unfolding last_loop
last_loop-at none = refl
last_loop-at (part t ps) = last-loops (part t ps) (part_count ps) (add-one (part_count ps)) ∙ ap (λ k. loops_at (part_at (part t ps) k)) (less (part_count ps))
last_loop-at (gap ps) = last-loops (gap ps) (part_count ps) (add-one (part_count ps)) ∙ ap (λ k. loops_at (part_at (gap ps) k)) (less (part_count ps))

by_kind : (t : Tree) → labels_loop t ≡ (is_loop (kind_of t) || (is_label (kind_of t) && last_loop (parts_of t)))
unfolding labels_loop
by_kind (node k w g s e ps) = refl

pub is_a_loop : (t : Tree) (k : Kind) (b : Bool) → k ≡ kind_of t → b ≡ is_loop k → b ≡ true → true ≡ labels_loop t
is_a_loop t k b e f h = sym (by_kind t ∙ ap (λ x. x || (is_label (kind_of t) && last_loop (parts_of t))) (ap is_loop (sym e) ∙ sym f ∙ h))

no_loop : (t : Tree) (k : Kind) (b : Bool) → k ≡ kind_of t → b ≡ is_loop k → b ≡ false → labels_loop t ≡ (is_label (kind_of t) && last_loop (parts_of t))
no_loop t k b e f h = by_kind t ∙ ap (λ x. x || (is_label (kind_of t) && last_loop (parts_of t))) (ap is_loop (sym e) ∙ sym f ∙ h)

pub is_neither : (t : Tree) (k l : Kind) (b d : Bool) → k ≡ kind_of t → b ≡ is_loop k → b ≡ false → l ≡ kind_of t → d ≡ is_label l → d ≡ false → false ≡ labels_loop t
is_neither t k l b d e f h m n o = sym (no_loop t k b e f h ∙ ap (λ x. x && last_loop (parts_of t)) (ap is_label (sym m) ∙ sym n ∙ o))

pub is_labelled : (t : Tree) (k l : Kind) (b d : Bool) (o : Option Tree) → k ≡ kind_of t → b ≡ is_loop k → b ≡ false → l ≡ kind_of t → d ≡ is_label l → d ≡ true →
    o ≡ part_at (parts_of t) (part_count (parts_of t) - 1) → loops_at o ≡ labels_loop t
is_labelled t k l b d o e f h m n p q =
    ap loops_at q ∙ sym (last_loop-at (parts_of t)) ∙ sym (no_loop t k b e f h ∙ ap (λ x. x && last_loop (parts_of t)) (ap is_label (sym m) ∙ sym n ∙ p))

alone : (ps : Parts) → part_count ps < 2 → false ≡ last_loop (others ps)
unfolding last_loop
alone none l = refl
alone (part t none) l = refl
alone (gap none) l = refl
alone (part t (part u ps)) l = absurd (omega (arith, l))
alone (part t (gap ps)) l = absurd (omega (arith, l))
alone (gap (part u ps)) l = absurd (omega (arith, l))
alone (gap (gap ps)) l = absurd (omega (arith, l))

pub label_alone : (t : Tree) (n : ℕ) → n ≡ part_count (parts_of t) → n < 2 → false ≡ last_loop (others (parts_of t))
label_alone t n e l = alone (parts_of t) (subst (λ m. m < 2) e l)

behind_one : (ps : Parts) → 2 ≤ part_count ps → last_loop ps ≡ last_loop (others ps)
unfolding last_loop
behind_one none l = absurd (omega (arith, l))
behind_one (part t none) l = absurd (omega (arith, l))
behind_one (gap none) l = absurd (omega (arith, l))
behind_one (part t (part u ps)) l = refl
behind_one (part t (gap ps)) l = refl
behind_one (gap (part u ps)) l = refl
behind_one (gap (gap ps)) l = refl

pub label_follows : (t : Tree) (n : ℕ) → n ≡ part_count (parts_of t) → 2 ≤ n → kind_of t ≡ LabeledStatement → labels_loop t ≡ last_loop (others (parts_of t))
label_follows t n e l k =
    by_kind t ∙ ap (λ x. is_loop x || (is_label x && last_loop (parts_of t))) k ∙ behind_one (parts_of t) (subst (λ m. 2 ≤ m) e l)
