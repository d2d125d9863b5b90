-- Functions: their parameters, bodies and directives, part by part.
use Rattle.std.proofs.Common.{◌≡◌, ℕ, zero, suc, ◌+◌, ◌-◌, ◌<◌, ◌≤◌, Bool, true, List, Option, Some, None, refl, sym, ap, ◌∙◌, arith, add-one}
use Rattle.std.specs.Prelude.{◌&&◌}
use Rattle.tree.specs.declared.kind.Kind.TheVariants.{BlockStatement}
use Rattle.tree.specs.Tree.{Tree, node, Parts, none, part, gap, part_at, part_count, parts_drop}
use Rattle.language.specs.FirstPart.{others}
use Rattle.early_errors.specs.declared.EarlyError.{EarlyError}
use Rattle.early_errors.specs.Functions.{is_simple}
use Rattle.name_tables.specs.PatternParts.{at_part}
use Rattle.name_tables.specs.BoundNames.{each_part}
use Rattle.early_errors.specs.Names.{items_of, body_items}
use Rattle.early_errors.specs.Early.{Error, each}
use Rattle.early_errors.specs.Owns.{block_at, items_at, is_plain}
use Rattle.early_errors.specs.Walk.{after}
use Rattle.early_errors.proofs.Least.{sooner-none, after-append, each-append}
use Rattle.name_tables.proofs.EachPart.{drop-step, drop-past}

-- a loop that reports the places that each part gives
module _ (f : Tree → List ℕ) (e : EarlyError) (ps : Parts) (i : ℕ) (total : Option Error) where
  pub places-turn : (o q : Option Error) (m : Option Tree) (l : List ℕ) → i < part_count ps → m ≡ part_at ps i → l ≡ at_part f m → q ≡ after o (each e l) → after o (each e (each_part f (parts_drop i ps))) ≡ total →
      after q (each e (each_part f (parts_drop (i + 1) ps))) ≡ total
  places-turn o q m l n k g x so =
      let rest = each_part f (parts_drop (i + 1) ps) in
      ap (λ y. after y (each e rest)) (x ∙ ap (λ y. after o (each e y)) g) ∙ sym (after-append o (each e (at_part f m)) (each e rest)) ∙ ap (after o) (sym (each-append e (at_part f m) rest))
      ∙ ap (λ y. after o (each e y)) (sym (drop-step f ps i m n k)) ∙ so

  pub places-end : (o : Option Error) → part_count ps ≤ i → after o (each e (each_part f (parts_drop i ps))) ≡ total → o ≡ total
  places-end o l so = sym (sooner-none o) ∙ ap (λ y. after o (each e y)) (sym (drop-past f ps i l)) ∙ so

pub others-drop : (ps : Parts) → others ps ≡ parts_drop 1 ps
others-drop none = refl
others-drop (part t ps) = refl
others-drop (gap ps) = refl

-- ---- the body

items : (t : Tree) → items_of t ≡ items_at (block_at (Some t))
items (node BlockStatement w g s e ps) = refl
items (node _ w g s e ps) = refl

last-body : (ps : Parts) (k : ℕ) → part_count ps ≡ suc k → body_items ps ≡ items_at (block_at (part_at ps k))
last-body none k e = absurd (omega (arith, e))
last-body (part t none) zero e = items t
last-body (part t none) (suc k) e = absurd (omega (arith, e))
last-body (part t (part u ps)) zero e = absurd (omega (arith, e))
last-body (part t (part u ps)) (suc k) e = last-body (part u ps) k (omega (arith, e))
last-body (part t (gap ps)) zero e = absurd (omega (arith, e))
last-body (part t (gap ps)) (suc k) e = last-body (gap ps) k (omega (arith, e))
last-body (gap none) zero e = refl
last-body (gap none) (suc k) e = absurd (omega (arith, e))
last-body (gap (part u ps)) zero e = absurd (omega (arith, e))
last-body (gap (part u ps)) (suc k) e = last-body (part u ps) k (omega (arith, e))
last-body (gap (gap ps)) zero e = absurd (omega (arith, e))
last-body (gap (gap ps)) (suc k) e = last-body (gap ps) k (omega (arith, e))

drop-at : (ps : Parts) (i k : ℕ) → part_at (parts_drop i ps) k ≡ part_at ps (i + k)
drop-at ps zero k = ap (part_at ps) (add k)
  where
    add : (k : ℕ) → k ≡ 0 + k
    add k = omega arith
drop-at none (suc i) k = sym (nothing (suc i + k))
  where
    nothing : (k : ℕ) → part_at none k ≡ None
    nothing k = refl
drop-at (part t ps) (suc i) k = drop-at ps i k ∙ sym (ap (part_at (part t ps)) (next i k))
  where
    next : (i k : ℕ) → suc i + k ≡ suc (i + k)
    next i k = omega arith
drop-at (gap ps) (suc i) k = drop-at ps i k ∙ sym (ap (part_at (gap ps)) (next i k))
  where
    next : (i k : ℕ) → suc i + k ≡ suc (i + k)
    next i k = omega arith

drop-count : (ps : Parts) (i : ℕ) → part_count (parts_drop i ps) ≡ part_count ps - i
drop-count ps zero = omega arith
drop-count none (suc i) = omega arith
drop-count (part t ps) (suc i) = let h = drop-count ps i in omega (arith, h)
drop-count (gap ps) (suc i) = let h = drop-count ps i in omega (arith, h)

pub body-none : (ps : Parts) (i : ℕ) → part_count ps ≤ i → none ≡ body_items (parts_drop i ps)
body-none none zero l = refl
body-none none (suc i) l = refl
body-none (part t ps) zero l = absurd (omega (arith, l))
body-none (gap ps) zero l = absurd (omega (arith, l))
body-none (part t ps) (suc i) l = body-none ps i (omega (arith, l))
body-none (gap ps) (suc i) l = body-none ps i (omega (arith, l))

pub body-at : (ps : Parts) (i : ℕ) (o : Option Tree) → i < part_count ps → o ≡ block_at (part_at ps (part_count ps - 1)) → items_at o ≡ body_items (parts_drop i ps)
body-at ps i o l e =
    let n : part_count (parts_drop i ps) ≡ suc (part_count ps - i - 1) = drop-count ps i ∙ omega (arith, l) in
    let k : i + (part_count ps - i - 1) ≡ part_count ps - 1 = omega (arith, l) in
    ap items_at (e ∙ ap (λ j. block_at (part_at ps j)) (sym k) ∙ ap block_at (sym (drop-at ps i (part_count ps - i - 1)))) ∙ sym (last-body (parts_drop i ps) (part_count ps - i - 1) n)

-- ---- simple parameters

more-simple : (ps : Parts) (i : ℕ) (o : Option Tree) → suc i < part_count ps → o ≡ part_at ps i → is_simple (parts_drop i ps) ≡ (is_plain o && is_simple (parts_drop (suc i) ps))
more-simple none i o l e = absurd (omega (arith, l))
more-simple (part t none) zero o l e = absurd (omega (arith, l))
more-simple (part t (part u ps)) zero o l e = ap (λ p. is_plain p && is_simple (part u ps)) (sym e)
more-simple (part t (gap ps)) zero o l e = ap (λ p. is_plain p && is_simple (gap ps)) (sym e)
more-simple (gap ps) zero o l e = ap (λ p. is_plain p && is_simple ps) (sym e)
more-simple (part t ps) (suc i) o l e = more-simple ps i o (omega (arith, l)) e
more-simple (gap ps) (suc i) o l e = more-simple ps i o (omega (arith, l)) e

all-simple : (ps : Parts) (i : ℕ) → part_count ps ≤ suc i → true ≡ is_simple (parts_drop i ps)
all-simple none zero l = refl
all-simple none (suc i) l = refl
all-simple (part t none) zero l = refl
all-simple (part t (part u ps)) zero l = absurd (omega (arith, l))
all-simple (part t (gap ps)) zero l = absurd (omega (arith, l))
all-simple (gap none) zero l = refl
all-simple (gap (part u ps)) zero l = absurd (omega (arith, l))
all-simple (gap (gap ps)) zero l = absurd (omega (arith, l))
all-simple (part t ps) (suc i) l = all-simple ps i (omega (arith, l))
all-simple (gap ps) (suc i) l = all-simple ps i (omega (arith, l))

pub simple-step : (ps : Parts) (i : ℕ) (o : Option Tree) (b c : Bool) → i < part_count ps - 1 → o ≡ part_at ps i → b ≡ is_plain o → b ≡ c → is_simple (parts_drop i ps) ≡ (c && is_simple (parts_drop (i + 1) ps))
simple-step ps i o b c l e f g = rw (add-one i) (more-simple ps i o (omega (arith, l)) e ∙ ap (λ x. x && is_simple (parts_drop (suc i) ps)) (sym f ∙ g))

pub simple-past : (ps : Parts) (i : ℕ) → part_count ps - 1 ≤ i → true ≡ is_simple (parts_drop i ps)
simple-past ps i l = all-simple ps i (omega (arith, l))

-- ---- directives

pub body-whole : (ps : Parts) (o : Option Tree) → o ≡ block_at (part_at ps (part_count ps - 1)) → items_at o ≡ body_items ps
body-whole none o e = ap items_at e
body-whole (part t ps) o e = body-at (part t ps) 0 o (omega arith) e
body-whole (gap ps) o e = body-at (gap ps) 0 o (omega arith) e
