-- Two paths, as the walk down both goes.
use Rattle.std.proofs.Common.{◌≡◌, ℕ, Bool, true, false, cond, Option, Some, None, refl, sym, ap, ◌∙◌}
use Rattle.std.specs.Prelude.{not, ◌&&◌}
use Rattle.tree.specs.Tree.{Tree, node, Parts, none, part, gap, kind_of, part_at, parts_of}
use Rattle.node_rules.specs.Paths.{are_members, are_same, is_same_key, is_same_leaf, is_same_object, is_same_path}

path-is : (t u : Tree) → is_same_path t u ≡ cond (are_members t u) (is_same_key t u && is_same_object (parts_of t) (parts_of u)) (is_same_leaf t u)
unfolding is_same_path
path-is (node k w f s e ps) u = refl

object-is : (ps qs : Parts) → is_same_object ps qs ≡ are_same (part_at ps 0) (part_at qs 0)
unfolding is_same_object
object-is none none = refl
object-is none (part u qs) = refl
object-is none (gap qs) = refl
object-is (gap ps) none = refl
object-is (gap ps) (part u qs) = refl
object-is (gap ps) (gap qs) = refl
object-is (part t ps) none = refl
object-is (part t ps) (part u qs) = refl
object-is (part t ps) (gap qs) = refl

pub path-leaf : (t u : Tree) → are_members t u ≡ false → is_same_leaf t u ≡ is_same_path t u
path-leaf t u h = sym (path-is t u ∙ ap (λ b. cond b (is_same_key t u && is_same_object (parts_of t) (parts_of u)) (is_same_leaf t u)) h)

-- two members with one key
path-member : (t u : Tree) → are_members t u ≡ true → is_same_path t u ≡ (is_same_key t u && are_same (part_at (parts_of t) 0) (part_at (parts_of u) 0))
path-member t u h = path-is t u ∙ ap (λ b. cond b (is_same_key t u && is_same_object (parts_of t) (parts_of u)) (is_same_leaf t u)) h ∙ ap (λ b. is_same_key t u && b) (object-is (parts_of t) (parts_of u))

pub path-key : (t u : Tree) → are_members t u ≡ true → is_same_key t u ≡ false → false ≡ is_same_path t u
path-key t u h k = sym (path-member t u h ∙ ap (λ b. b && are_same (part_at (parts_of t) 0) (part_at (parts_of u) 0)) k)

path-objects : (t u : Tree) → are_members t u ≡ true → is_same_key t u ≡ true → are_same (part_at (parts_of t) 0) (part_at (parts_of u) 0) ≡ is_same_path t u
path-objects t u h k = sym (path-member t u h ∙ ap (λ b. b && are_same (part_at (parts_of t) 0) (part_at (parts_of u) 0)) k)

pub path-down : (t u a b : Tree) → are_members t u ≡ true → is_same_key t u ≡ true → Some a ≡ part_at (parts_of t) 0 → Some b ≡ part_at (parts_of u) 0 → is_same_path a b ≡ is_same_path t u
path-down t u a b h k e f = (λ i. are_same (e i) (f i)) ∙ path-objects t u h k

pub path-no-first : (t u : Tree) → are_members t u ≡ true → is_same_key t u ≡ true → None ≡ part_at (parts_of t) 0 → false ≡ is_same_path t u
path-no-first t u h k e = ap (λ o. are_same o (part_at (parts_of u) 0)) e ∙ path-objects t u h k

pub path-no-second : (t u a : Tree) → are_members t u ≡ true → is_same_key t u ≡ true → Some a ≡ part_at (parts_of t) 0 → None ≡ part_at (parts_of u) 0 → false ≡ is_same_path t u
path-no-second t u a h k e f = (λ i. are_same (e i) (f i)) ∙ path-objects t u h k
