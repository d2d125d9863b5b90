-- The fields of a node have fewer nodes than the node, in all.
use Rattle.std.proofs.Common.{◌≡◌, ℕ, zero, suc, ◌+◌, ◌-◌, ◌<◌, ◌≤◌, Option, Some, None, refl, sym, arith}
use Rattle.std.proofs.lemmas.Option.{none-some}
use Rattle.tree.specs.Tree.{Tree, node, Parts, none, part, gap, parts_of, part_count, part_at, parts_drop, parts_take, node_total, parts_total}
use Rattle.tree.specs.Fields.{field, list_from, last_part, before_last, with_one, with_two, with_three}
use Rattle.node_parts.specs.Sizes.{option_total}

-- a part, and those behind it
part_and_behind : (ps : Parts) (i : ℕ) → option_total (part_at ps i) + parts_total (parts_drop (suc i) ps) ≤ parts_total (parts_drop i ps)
part_and_behind none zero = omega arith
part_and_behind none (suc i) = omega arith
part_and_behind (part t ps) zero = omega arith
part_and_behind (part t ps) (suc i) = part_and_behind ps i
part_and_behind (gap ps) zero = omega arith
part_and_behind (gap ps) (suc i) = part_and_behind ps i

pub four_fields : (t : Tree) → option_total (field 0 t) + option_total (field 1 t) + option_total (field 2 t) + option_total (field 3 t) < node_total t
four_fields (node k w g s e ps) = omega (arith, part_and_behind ps 0, part_and_behind ps 1, part_and_behind ps 2, part_and_behind ps 3)

pub parts_smaller : (t : Tree) → parts_total (parts_of t) < node_total t
parts_smaller (node k w g s e ps) = omega arith

pub drop_smaller : (ps : Parts) (i : ℕ) → parts_total (parts_drop i ps) ≤ parts_total ps
drop_smaller none zero = omega arith
drop_smaller none (suc i) = omega arith
drop_smaller (part t ps) zero = omega arith
drop_smaller (part t ps) (suc i) = omega (arith, drop_smaller ps i)
drop_smaller (gap ps) zero = omega arith
drop_smaller (gap ps) (suc i) = drop_smaller ps i

-- the first part, and the list behind it
pub first_and_list : (t : Tree) → option_total (field 0 t) + parts_total (list_from 1 t) < node_total t
first_and_list (node k w g s e ps) = omega (arith, part_and_behind ps 0)

-- parts up to one, and that one
before_and_part : (ps : Parts) (i : ℕ) → parts_total (parts_take i ps) + option_total (part_at ps i) ≤ parts_total ps
before_and_part none zero = omega arith
before_and_part none (suc i) = omega arith
before_and_part (part t ps) zero = omega arith
before_and_part (part t ps) (suc i) = omega (arith, before_and_part ps i)
before_and_part (gap ps) zero = omega arith
before_and_part (gap ps) (suc i) = before_and_part ps i

pub list_and_last : (ps : Parts) → parts_total (before_last ps) + option_total (last_part ps) ≤ parts_total ps
list_and_last ps = before_and_part ps (part_count ps - 1)

-- What is made of parts that must be there

pub some_smaller : {A : Type 0} (total : A → ℕ) (n : ℕ) (u v : A) → Some v ≡ Some u → total u < n → total v < n
some_smaller total n u v h l = let same : v ≡ u = cc in rw same l

pub one_smaller : {A : Type 0} (total : A → ℕ) (n : ℕ) (o : Option Tree) (f : Tree → A) (v : A) → Some v ≡ with_one o f → ((a : Tree) → o ≡ Some a → total (f a) < n) → total v < n
one_smaller total n None f v h less = absurd (none-some v (sym h))
one_smaller total n (Some a) f v h less = some_smaller total n (f a) v h (less a refl)

pub two_smaller : {A : Type 0} (total : A → ℕ) (n : ℕ) (o p : Option Tree) (f : Tree → Tree → A) (v : A) → Some v ≡ with_two o p f → ((a b : Tree) → o ≡ Some a → p ≡ Some b → total (f a b) < n) → total v < n
two_smaller total n None p f v h less = absurd (none-some v (sym h))
two_smaller total n (Some a) p f v h less = one_smaller total n p (f a) v h (λ b e. less a b refl e)

pub three_smaller : {A : Type 0} (total : A → ℕ) (n : ℕ) (o p q : Option Tree) (f : Tree → Tree → Tree → A) (v : A) → Some v ≡ with_three o p q f → ((a b c : Tree) → o ≡ Some a → p ≡ Some b → q ≡ Some c → total (f a b c) < n) → total v < n
three_smaller total n None p q f v h less = absurd (none-some v (sym h))
three_smaller total n (Some a) p q f v h less = two_smaller total n p q (f a) v h (λ b c e g. less a b c refl e g)
