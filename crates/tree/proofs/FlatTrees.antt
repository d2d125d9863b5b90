-- What the trees of a vector of nodes are, one by one.
use Rattle.std.proofs.Common.{◌≡◌, ℕ, zero, suc, ◌+◌, ◌<◌, ◌≤◌, List, [], ◌∷◌, ◌++◌, length, map, Option, Some, None, slice_get, get_or, take, drop, refl, sym, ap, ◌∙◌, arith, append_assoc, length-append, append-nil, subst}
use Rattle.std.proofs.lemmas.Option.{slice_get-get_or}
use Rattle.tree.specs.Tree.{Tree, node, parts_with_gaps}
use Rattle.tree.specs.declared.flat_node.NodeNumber.{NodeNumber}
use Rattle.tree.specs.declared.flat_node.FlatNode.{FlatNode}
use Rattle.tree.specs.Flat.{named, run_of, flat_tree, trees, tree_at, no_tree, IsBefore, AreBefore, AreLinked}
use Rattle.tree.specs.Growth.{row_at}

abbrev pub Pool : Type 0
Pool = List (Option NodeNumber)

pub length-trees : (pool : Pool) (ts : List Tree) (es : List FlatNode) → length (trees pool ts es) ≡ length ts + length es
length-trees pool ts [] = omega arith
length-trees pool ts (e ∷ es) = omega (arith, length-trees pool (ts ++ flat_tree pool e ts ∷ []) es, length-append ts (flat_tree pool e ts ∷ []))

-- what was there stays in front
pub trees-front : (pool : Pool) (ts : List Tree) (es : List FlatNode) → (rest : List Tree) × (trees pool ts es ≡ ts ++ rest)
trees-front pool ts [] = ([], sym (append-nil ts))
trees-front pool ts (e ∷ es) =
    let t = flat_tree pool e ts in
    let r = trees-front pool (ts ++ t ∷ []) es in
    (t ∷ r.0, r.1 ∙ append_assoc ts (t ∷ []) r.0)

pub get_or-append_mid : {X : Type 0} (xs : List X) (y : X) (ys : List X) (d : X) → get_or (xs ++ (y ∷ ys)) (length xs) d ≡ y
get_or-append_mid [] y ys d = refl
get_or-append_mid (x ∷ xs) y ys d = get_or-append_mid xs y ys d

pub slice_get-append_mid : {X : Type 0} (xs : List X) (y : X) (ys : List X) → slice_get (xs ++ (y ∷ ys)) (length xs) ≡ Some y
slice_get-append_mid [] y ys = refl
slice_get-append_mid (x ∷ xs) y ys = slice_get-append_mid xs y ys

pub slice_get-append : {X : Type 0} (xs ys : List X) (k : ℕ) → k < length xs → slice_get (xs ++ ys) k ≡ slice_get xs k
slice_get-append [] ys k h = absurd (omega (arith, h))
slice_get-append (x ∷ xs) ys zero h = refl
slice_get-append (x ∷ xs) ys (suc k) h = slice_get-append xs ys k (omega (arith, h))

-- the tree of the node at a place, from the trees before it
pub trees-at : (pool : Pool) (ts : List Tree) (es : List FlatNode) (i : ℕ) (d : Tree) (n : FlatNode) → i < length es
    → (before : List Tree) × (length before ≡ length ts + i) × ((rest : List Tree) × (trees pool ts es ≡ before ++ rest)) × (get_or (trees pool ts es) (length ts + i) d ≡ flat_tree pool (get_or es i n) before)
trees-at pool ts [] i d n h = absurd (omega (arith, h))
trees-at pool ts (e ∷ es) zero d n h =
    let t = flat_tree pool e ts in
    let r = trees-front pool (ts ++ t ∷ []) es in
    let all : trees pool ts (e ∷ es) ≡ ts ++ (t ∷ r.0) = r.1 ∙ append_assoc ts (t ∷ []) r.0 in
    let at : length ts + 0 ≡ length ts = omega arith in
    (ts, omega arith, (t ∷ r.0, all), ap (λ k. get_or (trees pool ts (e ∷ es)) k d) at ∙ ap (λ xs. get_or xs (length ts) d) all ∙ get_or-append_mid ts t r.0 d)
trees-at pool ts (e ∷ es) (suc i) d n h =
    let t = flat_tree pool e ts in
    let r = trees-at pool (ts ++ t ∷ []) es i d n (omega (arith, h)) in
    let at : length ts + suc i ≡ length (ts ++ t ∷ []) + i = omega (arith, length-append ts (t ∷ [])) in
    (r.0, omega (arith, r.1, length-append ts (t ∷ [])), r.2, ap (λ k. get_or (trees pool ts (e ∷ es)) k d) at ∙ r.3)

-- a node is linked to earlier ones
pub AreLinked-at : (pool : Pool) (j : ℕ) (es : List FlatNode) (i : ℕ) (n : FlatNode) → AreLinked pool j es → i < length es
    → ((get_or es i n).first + (get_or es i n).count ≤ length pool) × AreBefore (j + i) (run_of pool (get_or es i n))
AreLinked-at pool j [] i n a h = absurd (omega (arith, h))
AreLinked-at pool j (e ∷ es) zero n a h = let at : j ≡ j + 0 = omega arith in (a.0, subst (λ k. AreBefore k (run_of pool e)) at a.1.0)
AreLinked-at pool j (e ∷ es) (suc i) n a h =
    let at : (j + 1) + i ≡ j + suc i = omega arith in
    let r = AreLinked-at pool (j + 1) es i n a.1.1 (omega (arith, h)) in
    (r.0, subst (λ k. AreBefore k (run_of pool (get_or es i n))) at r.1)

pub AreBefore-at : (i : ℕ) (os : Pool) (p : ℕ) (k : NodeNumber) → AreBefore i os → slice_get os p ≡ Some (Some k) → k.number < i
AreBefore-at i [] p k a h = absurd (cc)
AreBefore-at i (None ∷ os) zero k a h = absurd (cc)
AreBefore-at i (Some j ∷ os) zero k a h = let same : j ≡ k = cc in omega (arith, ap (λ (x : NodeNumber). x.number) same, a.0)
AreBefore-at i (None ∷ os) (suc p) k a h = AreBefore-at i os p k a.1 h
AreBefore-at i (Some j ∷ os) (suc p) k a h = AreBefore-at i os p k a.1 h

IsBefore-more : (i j : ℕ) (o : Option NodeNumber) → i ≤ j → IsBefore i o → IsBefore j o
IsBefore-more i j None h a = tt
IsBefore-more i j (Some k) h a = omega (arith, h, a)

pub AreBefore-more : (i j : ℕ) (os : Pool) → i ≤ j → AreBefore i os → AreBefore j os
AreBefore-more i j [] h a = tt
AreBefore-more i j (o ∷ os) h a = (IsBefore-more i j o h a.0, AreBefore-more i j os h a.1)

pub AreBefore-append : (i : ℕ) (os us : Pool) → AreBefore i os → AreBefore i us → AreBefore i (os ++ us)
AreBefore-append i [] us a b = b
AreBefore-append i (o ∷ os) us a b = (a.0, AreBefore-append i os us a.1 b)

pub AreBefore-drop : (i n : ℕ) (os : Pool) → AreBefore i os → AreBefore i (drop n os)
AreBefore-drop i zero os a = a
AreBefore-drop i (suc n) [] a = tt
AreBefore-drop i (suc n) (o ∷ os) a = AreBefore-drop i n os a.1

pub AreBefore-take : (i n : ℕ) (os : Pool) → AreBefore i os → AreBefore i (take n os)
AreBefore-take i zero os a = tt
AreBefore-take i (suc n) [] a = tt
AreBefore-take i (suc n) (o ∷ os) a = (a.0, AreBefore-take i n os a.1)

-- what earlier numbers name doesn't change with further trees
named-front : (ts us : List Tree) (o : Option NodeNumber) → IsBefore (length ts) o → named (ts ++ us) o ≡ named ts o
named-front ts us None h = refl
named-front ts us (Some k) h = slice_get-append ts us k.number (omega (arith, h))

pub map_named-front : (ts us : List Tree) (os : Pool) → AreBefore (length ts) os → map (named (ts ++ us)) os ≡ map (named ts) os
map_named-front ts us [] a = refl
map_named-front ts us (o ∷ os) a =
    let here = named-front ts us o a.0 in
    let rest = map_named-front ts us os a.1 in
    cc

-- One node of the whole vector

pub tree_at-node : (pool : Pool) (es : List FlatNode) (i : ℕ) (n : FlatNode) → i < length es
    → (before : List Tree) × (length before ≡ i) × ((rest : List Tree) × (trees pool [] es ≡ before ++ rest)) × (tree_at pool es i ≡ flat_tree pool (get_or es i n) before)
tree_at-node pool es i n h =
    let r = trees-at pool [] es i no_tree n h in
    let at : 0 + i ≡ i = omega arith in
    (r.0, r.1 ∙ at, r.2, ap (λ k. get_or (trees pool [] es) k no_tree) (sym at) ∙ r.3)

-- for a node that was read: e is the node with the number i
pub range_at : (pool : Pool) (es : List FlatNode) (i : ℕ) (e : FlatNode) → AreLinked pool 0 es → i < length es → e ≡ get_or es i e → e.first + e.count ≤ length pool
range_at pool es i e a h r = omega (arith, (AreLinked-at pool 0 es i e a h).0, ap (λ (x : FlatNode). x.first) r, ap (λ (x : FlatNode). x.count) r)

pub before_at : (pool : Pool) (es : List FlatNode) (i : ℕ) (e : FlatNode) → AreLinked pool 0 es → i < length es → e ≡ get_or es i e → AreBefore (length es) (run_of pool e)
before_at pool es i e a h r =
    let found = (AreLinked-at pool 0 es i e a h).1 in
    AreBefore-more (0 + i) (length es) (run_of pool e) (omega (arith, h)) (subst (λ (x : FlatNode). AreBefore (0 + i) (run_of pool x)) (sym r) found)

-- its tree is what its parts' numbers name among all trees
pub tree_here : (pool : Pool) (es : List FlatNode) (i : ℕ) (e : FlatNode) → AreLinked pool 0 es → i < length es → e ≡ get_or es i e
    → flat_tree pool e (trees pool [] es) ≡ tree_at pool es i
tree_here pool es i e a h r =
    let at = tree_at-node pool es i e h in
    let x = get_or es i e in
    let found = (AreLinked-at pool 0 es i e a h).1 in
    let same : 0 + i ≡ length at.0 = omega (arith, at.1) in
    let low : AreBefore (length at.0) (run_of pool x) = subst (λ k. AreBefore k (run_of pool x)) same found in
    ap (λ (y : FlatNode). flat_tree pool y (trees pool [] es)) r
    ∙ ap (flat_tree pool x) at.2.1
    ∙ ap (λ (os : List (Option Tree)). node x.kind x.text.now x.flags x.start x.end (parts_with_gaps os)) (map_named-front at.0 at.2.0 (run_of pool x) low)
    ∙ sym at.3

-- what a number below the count of nodes names
pub named_at : (pool : Pool) (es : List FlatNode) (k : NodeNumber) → k.number < length es → named (trees pool [] es) (Some k) ≡ Some (tree_at pool es k.number)
named_at pool es k h = slice_get-get_or (trees pool [] es) k.number no_tree (omega (arith, length-trees pool [] es, h))

-- the row that it holds
pub held_row : (es : List FlatNode) (i : ℕ) (e : FlatNode) → i < length es → e ≡ get_or es i e → e.row ≡ row_at es i
held_row [] i e h r = absurd (omega (arith, h))
held_row (x ∷ es) zero e h r = ap (λ (y : FlatNode). y.row) r
held_row (x ∷ es) (suc i) e h r = held_row es i e (omega (arith, h)) r
