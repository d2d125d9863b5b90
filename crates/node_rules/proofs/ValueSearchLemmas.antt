-- Searches for values, as the walk over parts goes.
use Rattle.std.proofs.Common.{◌≡◌, ℕ, zero, suc, ◌+◌, ◌<◌, ◌≤◌, Bool, true, false, cond, List, Option, Some, None, refl, sym, ap, ◌∙◌, arith, add-one}
use Rattle.std.specs.Prelude.{◌&&◌, ◌||◌}
use Rattle.tree.specs.declared.kind.Kind.{Kind}
use Rattle.tree.specs.Tree.{Tree, node, Parts, none, part, gap, kind_of, text_of, parts_of, part_at, part_count, parts_drop}
use Rattle.node_rules.specs.declared.value_search.Value.{Value}
use Rattle.node_rules.specs.ValueSearches.{given_part, hands_on, has_value, is_value, some_part, some_value}

-- what a search from a place on finds in a node
abbrev pub found_from : Value → Tree → ℕ → Bool
found_from v t i = some_part v (kind_of t) (text_of t) (part_count (parts_of t)) i (parts_drop i (parts_of t))

pub value-here : (v : Value) (t : Tree) → is_value v t ≡ true → true ≡ some_value v t
unfolding some_value
value-here v (node k w g s e ps) h = sym (ap (λ b. b || some_part v k w (part_count ps) 0 ps) h)

pub value-below : (v : Value) (t : Tree) → is_value v t ≡ false → found_from v t 0 ≡ some_value v t
unfolding some_value
value-below v (node k w g s e ps) h = sym (ap (λ b. b || some_part v k w (part_count ps) 0 ps) h)

given-value : (v : Value) (h : Bool) (t : Tree) → (h && some_value v t) ≡ has_value v (cond h (Some t) None)
given-value v true t = refl
given-value v false t = refl

no-value : (v : Value) (h : Bool) → has_value v (cond h None None) ≡ false
no-value v true = refl
no-value v false = refl

value-step : (v : Value) (k : Kind) (w : List ℕ) (n : ℕ) (ps : Parts) (i j : ℕ) (o : Option Tree) → i < part_count ps → o ≡ cond (hands_on v k w n j) (part_at ps i) None → some_part v k w n j (parts_drop i ps) ≡ (has_value v o || some_part v k w n (j + 1) (parts_drop (suc i) ps))
unfolding some_part
value-step v k w n none i j o l e = absurd (omega (arith, l))
value-step v k w n (part t ps) zero j o l e = ap (λ b. b || some_part v k w n (j + 1) ps) (given-value v (hands_on v k w n j) t ∙ ap (has_value v) (sym e))
value-step v k w n (gap ps) zero j o l e = sym (ap (λ b. b || some_part v k w n (j + 1) ps) (ap (has_value v) e ∙ no-value v (hands_on v k w n j)))
value-step v k w n (part t ps) (suc i) j o l e = value-step v k w n ps i j o (omega (arith, l)) e
value-step v k w n (gap ps) (suc i) j o l e = value-step v k w n ps i j o (omega (arith, l)) e

value-past : (v : Value) (k : Kind) (w : List ℕ) (n : ℕ) (ps : Parts) (i j : ℕ) → part_count ps ≤ i → some_part v k w n j (parts_drop i ps) ≡ false
unfolding some_part
value-past v k w n none zero j l = refl
value-past v k w n none (suc i) j l = refl
value-past v k w n (part t ps) zero j l = absurd (omega (arith, l))
value-past v k w n (gap ps) zero j l = absurd (omega (arith, l))
value-past v k w n (part t ps) (suc i) j l = value-past v k w n ps i j (omega (arith, l))
value-past v k w n (gap ps) (suc i) j l = value-past v k w n ps i j (omega (arith, l))

-- one part further
found-step : (v : Value) (t : Tree) (i : ℕ) (o : Option Tree) → i < part_count (parts_of t) → o ≡ given_part v t i → found_from v t i ≡ (has_value v o || found_from v t (i + 1))
found-step v t i o l e = rw (add-one i) (value-step v (kind_of t) (text_of t) (part_count (parts_of t)) (parts_of t) i i o l e ∙ ap (λ m. has_value v o || some_part v (kind_of t) (text_of t) (part_count (parts_of t)) m (parts_drop (suc i) (parts_of t))) (add-one i))

pub value-found : (v : Value) (t : Tree) (i : ℕ) (u : Tree) (total : Bool) → i < part_count (parts_of t) → Some u ≡ given_part v t i → some_value v u ≡ true → found_from v t i ≡ total → true ≡ total
value-found v t i u total l e h so = sym (ap (λ b. b || found_from v t (i + 1)) h) ∙ sym (found-step v t i (Some u) l e) ∙ so

pub value-turn : (v : Value) (t : Tree) (i : ℕ) (u : Tree) (total : Bool) → i < part_count (parts_of t) → Some u ≡ given_part v t i → some_value v u ≡ false → found_from v t i ≡ total → found_from v t (i + 1) ≡ total
value-turn v t i u total l e h so = sym (ap (λ b. b || found_from v t (i + 1)) h) ∙ sym (found-step v t i (Some u) l e) ∙ so

pub value-gap : (v : Value) (t : Tree) (i : ℕ) (total : Bool) → i < part_count (parts_of t) → None ≡ given_part v t i → found_from v t i ≡ total → found_from v t (i + 1) ≡ total
value-gap v t i total l e so = sym (found-step v t i None l e) ∙ so

pub value-end : (v : Value) (t : Tree) (i : ℕ) (total : Bool) → part_count (parts_of t) ≤ i → found_from v t i ≡ total → false ≡ total
value-end v t i total l so = sym (value-past v (kind_of t) (text_of t) (part_count (parts_of t)) (parts_of t) i i l) ∙ so
