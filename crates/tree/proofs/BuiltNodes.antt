-- The vectors of nodes that are being built: what one more node, a gap or no node at all makes of them.
use Rattle.std.proofs.Common.{◌≡◌, ℕ, ◌+◌, ◌-◌, ◌≤◌, List, [], ◌∷◌, ◌++◌, length, Option, Some, None, take, drop, refl, sym, ap, ◌∙◌, arith, append_assoc, length-append, append-nil, subst}
use Rattle.std.proofs.lemmas.List.{map-append, take_all, length-map}
use Rattle.std.proofs.Math.Seq.{drop-append_seam, take-append_seam}
use Rattle.tree.specs.Tree.{Tree, Parts, node, none, part, gap, push, push_gap, join, part_count, all_but, last_parts, node_total, parts_total}
use Rattle.tree.specs.declared.flat_node.NodeNumber.{NodeNumber}
use Rattle.tree.specs.declared.flat_node.FlatNode.{FlatNode}
use Rattle.tree.specs.declared.flat_builder.FlatBuilder.{FlatBuilder}
use Rattle.tree.specs.declared.flat_tree.FlatTree.{FlatTree}
use Rattle.tree.specs.Whole.{HasNodesOf}
use Rattle.tree.specs.Flat.{run_of, AreBefore, AreLinked, numbers_of, runs_of, parts_runs}
use Rattle.tree.specs.Growth.{node_runs}
use Rattle.tree.specs.Labels.{Label, node_label, node_labels, labels_of, parts_labels}
use Rattle.tree.specs.Building.{AreInOrder, AreNodesOf, AddsGap, Finishes}
use Rattle.tree.proofs.FlatTrees.{Pool, AreBefore-more, AreBefore-append}
use Rattle.tree.proofs.Grown.{runs-more, AreLinked-more, AreLinked-append}
use Rattle.tree.specs.Patterns.{pattern_parts}
use Rattle.tree.specs.declared.kind.Kind.{Kind}
use Rattle.tree.specs.declared.kind.Flags.{Flags}
use Rattle.tree.specs.declared.build_error.BuildError.{BuildError}
use Rattle.std.specs.Prelude.{false, is_some}
use Rattle.tree.proofs.Shapes.{push-join, join-none, join-push}
use Rattle.tree.proofs.JoinedParts.{numbered, part_count-join, parts_total-join, parts_labels-join, parts_runs-join, numbers_of-join, length-numbers_of, length-parts_labels, before-numbers_of, cut_last, part_count-all_but, all_but-join, last_parts-join}

-- as many nodes as the parts have
pub count_built : (g : FlatBuilder) (w : Parts) → AreNodesOf g w → length g.nodes.items ≡ parts_total w
count_built g w h = omega (arith, length-map g.nodes.items (λ (e : FlatNode). node_label e), ap length h.labels, length-parts_labels w)

AreInOrder-more : (n m at : ℕ) (es : List FlatNode) (e : FlatNode) → AreInOrder n at es → e.first ≡ n → m ≡ n + e.count → AreInOrder m at (es ++ e ∷ [])
AreInOrder-more n m at [] e h f c = let first : e.first ≡ at = omega (arith, f, h) in (first, omega (arith, h, c))
AreInOrder-more n m at (x ∷ es) e h f c = (h.0, AreInOrder-more n m (at + x.count) es e h.1 f c)

-- the parts that go to one more node, and those that still wait
pub record Cut (g : FlatBuilder) (base own : Parts) (kept : ℕ) : Type 0 where
  pub taken : take kept g.waiting.items ≡ numbers_of 0 base
  pub dropped : drop kept g.waiting.items ≡ numbers_of (parts_total base) own

pub cut_waiting : (g : FlatBuilder) (base own : Parts) (kept : ℕ) → AreNodesOf g (join base own) → kept ≡ part_count base → Cut g base own kept
cut_waiting g base own kept h k =
    let front = numbers_of 0 base in
    let behind = numbers_of (parts_total base) own in
    let at : 0 + parts_total base ≡ parts_total base = omega arith in
    let all : g.waiting.items ≡ front ++ behind = h.waiting ∙ numbers_of-join 0 base own ∙ ap (λ n. front ++ numbers_of n own) at in
    let seam : kept ≡ length front = omega (arith, k, length-numbers_of 0 base) in
    record {
      taken = ap (λ n. take n g.waiting.items) seam ∙ ap (take (length front)) all ∙ take-append_seam front behind;
      dropped = ap (λ n. drop n g.waiting.items) seam ∙ ap (drop (length front)) all ∙ drop-append_seam front behind;
    }

-- one more node, of the parts behind a place
pub one_more : (a b : FlatBuilder) (l : Label) (kept : ℕ) (base own : Parts) → AreNodesOf a (join base own) → Finishes a b l kept → kept ≡ part_count base
    → AreNodesOf b (push base (node l.kind l.text l.flags l.start l.stop own))
one_more a b l kept base own h f k =
    let t : Tree = node l.kind l.text l.flags l.start l.stop own in
    let es = a.nodes.items in
    let pool = a.parts.items in
    let e = f.added in
    let i = parts_total base in
    let numbers = numbers_of i own in
    let c = cut_waiting a base own kept h k in
    let n = count_built a (join base own) h in
    let total = parts_total-join base own in
    let parts : b.parts.items ≡ pool ++ numbers = f.parts ∙ ap (λ (us : Pool). pool ++ us) c.dropped in
    let counted : e.count ≡ length numbers =
    omega (arith, f.count, k, ap length h.waiting, length-numbers_of 0 (join base own), part_count-join base own, length-numbers_of i own) in
    let run : run_of (pool ++ numbers) e ≡ numbers =
    ap (λ m. take e.count (drop m (pool ++ numbers))) f.first ∙ ap (take e.count) (drop-append_seam pool numbers) ∙ take_all e.count numbers (omega (arith, counted)) in
    let at : 0 + i ≡ i = omega arith in
    let number : NodeNumber = record { number = i + node_total t - 1 } in
    let same : length es ≡ i + node_total t - 1 = omega (arith, n, total) in
    let own_number : numbered (length es) ≡ number = ap numbered same in
    let size : length b.nodes.items ≡ length es + 1 = omega (arith, ap length f.nodes, length-append es (e ∷ [])) in
    let low : AreBefore (0 + length es) (run_of (pool ++ numbers) e) =
    subst (λ (us : Pool). AreBefore (0 + length es) us) (sym run) (AreBefore-more (i + parts_total own) (0 + length es) numbers (omega (arith, n, total)) (before-numbers_of i own)) in
    let fits : e.first + e.count ≤ length (pool ++ numbers) = omega (arith, f.first, counted, length-append pool numbers) in
    let linked : AreLinked (pool ++ numbers) 0 (es ++ e ∷ []) =
    AreLinked-append (pool ++ numbers) 0 es (e ∷ []) (AreLinked-more pool numbers 0 es h.sound.linked) (fits, (low, tt)) in
    let pushed : push base t ≡ join base (part t none) = push-join base t in
    let waiting : b.waiting.items ≡ numbers_of 0 (push base t) =
    f.waiting ∙ ap (λ (us : Pool). us ++ Some (record { number = length es }) ∷ []) c.taken
    ∙ ap (λ (x : NodeNumber). numbers_of 0 base ++ Some x ∷ []) own_number
    ∙ ap (λ m. numbers_of 0 base ++ numbers_of m (part t none)) (sym at)
    ∙ sym (numbers_of-join 0 base (part t none)) ∙ ap (numbers_of 0) (sym pushed) in
    let labels : node_labels b.nodes.items ≡ parts_labels (push base t) =
    ap node_labels f.nodes ∙ map-append (λ (x : FlatNode). node_label x) es (e ∷ [])
    ∙ ap (λ (x : Label). node_labels es ++ x ∷ []) f.label
    ∙ ap (λ (ls : List Label). ls ++ l ∷ []) (h.labels ∙ parts_labels-join base own)
    ∙ append_assoc (parts_labels base) (parts_labels own) (l ∷ [])
    ∙ ap (λ (ls : List Label). parts_labels base ++ ls) (sym (append-nil (parts_labels own ++ l ∷ [])))
    ∙ sym (parts_labels-join base (part t none)) ∙ ap parts_labels (sym pushed) in
    let runs : node_runs b.parts.items b.nodes.items ≡ parts_runs 0 (push base t) =
    ap (λ (us : Pool). node_runs us b.nodes.items) parts ∙ ap (node_runs (pool ++ numbers)) f.nodes
    ∙ map-append (run_of (pool ++ numbers)) es (e ∷ [])
    ∙ ap (λ (rs : List Pool). rs ++ run_of (pool ++ numbers) e ∷ []) (runs-more pool numbers 0 es h.sound.linked)
    ∙ ap (λ (us : Pool). node_runs pool es ++ us ∷ []) run
    ∙ ap (λ (rs : List Pool). rs ++ numbers ∷ []) (h.runs ∙ parts_runs-join 0 base own)
    ∙ ap (λ m. (parts_runs 0 base ++ parts_runs m own) ++ numbers ∷ []) at
    ∙ append_assoc (parts_runs 0 base) (parts_runs i own) (numbers ∷ [])
    ∙ ap (λ (rs : List Pool). parts_runs 0 base ++ rs) (sym (append-nil (parts_runs i own ++ numbers ∷ [])))
    ∙ ap (λ m. parts_runs 0 base ++ parts_runs m (part t none)) (sym at)
    ∙ sym (parts_runs-join 0 base (part t none)) ∙ ap (parts_runs 0) (sym pushed) in
    record {
      sound = record {
        linked = subst (λ (us : Pool). AreLinked us 0 b.nodes.items) (sym parts) (subst (λ (xs : List FlatNode). AreLinked (pool ++ numbers) 0 xs) (sym f.nodes) linked);
        waiting = subst (λ (us : Pool). AreBefore (length b.nodes.items) us) (sym waiting)
            (AreBefore-more (0 + parts_total (push base t)) (length b.nodes.items) (numbers_of 0 (push base t)) (omega (arith, size, n, total, ap parts_total pushed, parts_total-join base (part t none))) (before-numbers_of 0 (push base t)));
        in_order = subst (λ (xs : List FlatNode). AreInOrder (length b.parts.items) 0 xs) (sym f.nodes)
            (AreInOrder-more (length pool) (length b.parts.items) 0 es e h.sound.in_order f.first (omega (arith, ap length parts, length-append pool numbers, counted)));
        few_nodes = omega (arith, size, f.few_nodes);
        few_parts = f.few_parts;
      };
      labels = labels;
      runs = runs;
      waiting = waiting;
    }

-- a node is made of the last so many parts, whatever waits
pub finishes : (a b : FlatBuilder) (l : Label) (count kept : ℕ) (w : Parts) → AreNodesOf a w → Finishes a b l kept → kept ≡ length a.waiting.items - count
    → AreNodesOf b (push (all_but count w) (node l.kind l.text l.flags l.start l.stop (last_parts count w)))
finishes a b l count kept w h f k =
    one_more a b l kept (all_but count w) (last_parts count w) (subst (λ (u : Parts). AreNodesOf a u) (sym (cut_last count w)) h) f
    (omega (arith, k, ap length h.waiting, length-numbers_of 0 w, part_count-all_but count w))

labels-gap : (w : Parts) → parts_labels w ≡ parts_labels (push_gap w)
labels-gap none = refl
labels-gap (gap w) = labels-gap w
labels-gap (part t w) = ap (λ (ls : List Label). labels_of t ++ ls) (labels-gap w)

runs-gap : (i : ℕ) (w : Parts) → parts_runs i w ≡ parts_runs i (push_gap w)
runs-gap i none = refl
runs-gap i (gap w) = runs-gap i w
runs-gap i (part t w) = ap (λ (rs : List Pool). runs_of i t ++ rs) (runs-gap (i + node_total t) w)

numbers-gap : (i : ℕ) (w : Parts) → numbers_of i w ++ None ∷ [] ≡ numbers_of i (push_gap w)
numbers-gap i none = refl
numbers-gap i (gap w) = ap (λ (ns : Pool). None ∷ ns) (numbers-gap i w)
numbers-gap i (part t w) = ap (λ (ns : Pool). Some (record { number = i + node_total t - 1 }) ∷ ns) (numbers-gap (i + node_total t) w)

-- a gap waits
pub one_gap : (a b : FlatBuilder) (w : Parts) → AreNodesOf a w → AddsGap a b → AreNodesOf b (push_gap w)
one_gap a b w h f =
    let s = h.sound in
    let n = f.nodes in
    let p = f.parts in
    let q = f.waiting in
    record {
      sound = record {
        linked = subst (λ (us : Pool). AreLinked us 0 b.nodes.items) (sym p) (subst (λ (xs : List FlatNode). AreLinked a.parts.items 0 xs) (sym n) s.linked);
        waiting = subst (λ (us : Pool). AreBefore (length b.nodes.items) us) (sym q)
            (subst (λ (xs : List FlatNode). AreBefore (length xs) (a.waiting.items ++ None ∷ [])) (sym n) (AreBefore-append (length a.nodes.items) a.waiting.items (None ∷ []) s.waiting (tt, tt)));
        in_order = subst (λ (us : Pool). AreInOrder (length us) 0 b.nodes.items) (sym p) (subst (λ (xs : List FlatNode). AreInOrder (length a.parts.items) 0 xs) (sym n) s.in_order);
        few_nodes = omega (arith, ap length n, s.few_nodes);
        few_parts = omega (arith, ap length p, s.few_parts);
      };
      labels = ap node_labels n ∙ h.labels ∙ labels-gap w;
      runs = ap (λ (us : Pool). node_runs us b.nodes.items) p ∙ ap (node_runs a.parts.items) n ∙ h.runs ∙ runs-gap 0 w;
      waiting = q ∙ ap (λ (us : Pool). us ++ None ∷ []) h.waiting ∙ numbers-gap 0 w;
    }

-- The tree of all that waits

pub built_tree : (g : FlatBuilder) (w : Parts) (t : Tree) (f : FlatTree) → AreNodesOf g w → w ≡ push none t → f.nodes.items ≡ g.nodes.items → f.parts.items ≡ g.parts.items → HasNodesOf f t
built_tree g w t f h e n p = record {
  labels = ap node_labels n ∙ h.labels ∙ ap parts_labels e ∙ append-nil (labels_of t);
  runs = ap (λ (os : Pool). node_runs os f.nodes.items) p ∙ ap (node_runs g.parts.items) n ∙ h.runs ∙ ap (parts_runs 0) e ∙ append-nil (runs_of 0 t);
  few = omega (arith, ap length n, h.sound.few_nodes);
}

pub all_wait : (g : FlatBuilder) (w : Parts) → AreNodesOf g w → length g.waiting.items ≡ part_count w
all_wait g w h = omega (arith, ap length h.waiting, length-numbers_of 0 w)

-- What a call of the builder needs to know

pub still_open : (o : Option BuildError) → is_some o ≡ false → o ≡ None
still_open None h = refl
still_open (Some e) h = absurd (cc)

module _ (k : Kind) (w : List ℕ) (g : Flags) (s e : ℕ) where
  pub shown_leaf : (u v : Parts) → u ≡ v → push (all_but 0 u) (node k w g s e (last_parts 0 u)) ≡ push v (node k w g s e none)
  shown_leaf u v h =
      let whole : u ≡ join v none = h ∙ sym (join-none v) in
      ap (λ x. push (all_but 0 x) (node k w g s e (last_parts 0 x))) whole
      ∙ ap (λ x. push x (node k w g s e (last_parts 0 (join v none)))) (all_but-join 0 v none refl)
      ∙ ap (λ x. push v (node k w g s e x)) (last_parts-join 0 v none refl)

  pub shown_parent : (n : ℕ) (u v base own : Parts) → u ≡ v → v ≡ join base own → part_count own ≡ n → push (all_but n u) (node k w g s e (last_parts n u)) ≡ push base (node k w g s e own)
  shown_parent n u v base own h f c =
      ap (λ x. push (all_but n x) (node k w g s e (last_parts n x))) (h ∙ f)
      ∙ ap (λ x. push x (node k w g s e (last_parts n (join base own)))) (all_but-join n base own c)
      ∙ ap (λ x. push base (node k w g s e x)) (last_parts-join n base own c)

  pub shown_before : (n : ℕ) (u v base own : Parts) → u ≡ v → v ≡ join base own → part_count own ≡ n → join (push (all_but n u) (node k w g s e none)) (last_parts n u) ≡ join base (part (node k w g s e none) own)
  shown_before n u v base own h f c =
      let t : Tree = node k w g s e none in
      ap (λ x. join (push (all_but n x) t) (last_parts n x)) (h ∙ f)
      ∙ ap (λ x. join (push x t) (last_parts n (join base own))) (all_but-join n base own c)
      ∙ ap (λ x. join (push base t) x) (last_parts-join n base own c)
      ∙ join-push base own t

pub shown_patterns : (n : ℕ) (u v base own : Parts) → u ≡ v → v ≡ join base own → part_count own ≡ n → join (all_but n u) (pattern_parts 0 (last_parts n u)) ≡ join base (pattern_parts 0 own)
shown_patterns n u v base own h f c =
    ap (λ x. join (all_but n x) (pattern_parts 0 (last_parts n x))) (h ∙ f)
    ∙ ap (λ x. join x (pattern_parts 0 (last_parts n (join base own)))) (all_but-join n base own c)
    ∙ ap (λ x. join base (pattern_parts 0 x)) (last_parts-join n base own c)
