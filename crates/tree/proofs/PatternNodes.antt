-- Nodes that become patterns in place: they keep their parts, and only labels change.
use Rattle.std.proofs.Common.{◌≡◌, ℕ, zero, suc, ◌+◌, ◌-◌, ◌<◌, ◌≤◌, List, [], ◌∷◌, ◌++◌, length, set, get_or, slice_get, drop, Some, None, refl, sym, ap, ◌∙◌, arith, length-append, append-nil, subst, add-one}
use Rattle.std.proofs.lemmas.List.{map-set}
use Rattle.tree.specs.declared.flat_node.NodeNumber.{NodeNumber}
use Rattle.tree.specs.declared.flat_node.FlatNode.{FlatNode}
use Rattle.tree.specs.declared.flat_builder.FlatBuilder.{FlatBuilder}
use Rattle.tree.specs.declared.kind.Kind.{Kind}
use Rattle.tree.specs.declared.kind.Kind.TheVariants.{ArrayExpression, ObjectExpression, SpreadElement, Property}
use Rattle.tree.specs.Tree.{Tree, Parts, node, none, part, gap, join, kind_of, parts_of, part_count, parts_take, parts_drop, all_but, last_parts, node_total, parts_total}
use Rattle.tree.specs.Patterns.{pattern_kind, pattern_text, chosen, pattern_tree, pattern_parts}
use Rattle.tree.specs.Flat.{run_of, AreBefore, AreLinked, numbers_of, runs_of, parts_runs}
use Rattle.tree.specs.Growth.{node_runs}
use Rattle.tree.specs.Labels.{Label, node_label, node_labels, tree_label, labels_of, parts_labels}
use Rattle.tree.specs.Standing.{StandsFrom, with_from, Stands, AreStanding, node_places}
use Rattle.tree.specs.Building.{AreInOrder, AreNodesOf}
use Rattle.tree.specs.Repatterned.{IsPatternOf, KeepsParts, MakesPattern, MakesPatterns, first_made, pattern_label}
use Rattle.tree.proofs.FlatTrees.{Pool}
use Rattle.tree.proofs.JoinedParts.{numbered, cut, cut_last, part_count-take, part_count-all_but, length-parts_labels, parts_labels-join, parts_runs-join, numbers_of-join, length-numbers_of}
use Rattle.tree.proofs.StandingLists.{first_of, stands_within, with_from-there, with_from-put, with_from-more, with_from-front, with_last, stands_put, stands_behind}
use Rattle.tree.proofs.StandingNodes.{own_label, own_run, label_kind, standing_part, take_part, take_gap, take_whole, same_runs, same_count, same_links, same_order}
use Rattle.tree.proofs.BuiltNodes.{cut_waiting}
use Rattle.tree.proofs.Parents.{length-parts_runs}

pub chosen_has : (P : Parts → Type 0) (k : Kind) (ps all behind : Parts) → P ps → P all → P behind → P (chosen k ps all behind)
chosen_has P ArrayExpression ps all behind a b c = b
chosen_has P ObjectExpression ps all behind a b c = b
chosen_has P SpreadElement ps all behind a b c = b
chosen_has P Property ps all behind a b c = c
chosen_has P _ ps all behind a b c = a

-- Patterns have the shape of what they cover

mutual
  pub same_total : (t : Tree) → node_total (pattern_tree t) ≡ node_total t
  same_total (node k w g s e ps) = ap suc (chosen_has (λ qs. parts_total qs ≡ parts_total ps) k ps (pattern_parts 0 ps) (pattern_parts 1 ps) refl (same_parts_total 0 ps) (same_parts_total 1 ps))

  pub same_parts_total : (n : ℕ) (ps : Parts) → parts_total (pattern_parts n ps) ≡ parts_total ps
  same_parts_total n none = refl
  same_parts_total zero (part t ps) = omega (arith, same_total t, same_parts_total zero ps)
  same_parts_total (suc n) (part t ps) = omega (arith, same_parts_total n ps)
  same_parts_total zero (gap ps) = same_parts_total zero ps
  same_parts_total (suc n) (gap ps) = same_parts_total n ps

pub same_numbers : (i n : ℕ) (ps : Parts) → numbers_of i (pattern_parts n ps) ≡ numbers_of i ps
same_numbers i n none = refl
same_numbers i zero (part t ps) =
    ap (λ m. Some (numbered (i + m - 1)) ∷ numbers_of (i + m) (pattern_parts zero ps)) (same_total t)
    ∙ ap (λ (os : Pool). Some (record { number = i + node_total t - 1 }) ∷ os) (same_numbers (i + node_total t) zero ps)
same_numbers i (suc n) (part t ps) = ap (λ (os : Pool). Some (record { number = i + node_total t - 1 }) ∷ os) (same_numbers (i + node_total t) n ps)
same_numbers i zero (gap ps) = ap (λ (os : Pool). None ∷ os) (same_numbers i zero ps)
same_numbers i (suc n) (gap ps) = ap (λ (os : Pool). None ∷ os) (same_numbers i n ps)

mutual
  pub same_runs_of : (i : ℕ) (t : Tree) → runs_of i (pattern_tree t) ≡ runs_of i t
  same_runs_of i (node k w g s e ps) =
      chosen_has (λ qs. parts_runs i qs ++ numbers_of i qs ∷ [] ≡ parts_runs i ps ++ numbers_of i ps ∷ []) k ps (pattern_parts 0 ps) (pattern_parts 1 ps) refl
      (ap (λ (rs : List Pool). rs ++ numbers_of i (pattern_parts 0 ps) ∷ []) (same_parts_runs i 0 ps) ∙ ap (λ (os : Pool). parts_runs i ps ++ os ∷ []) (same_numbers i 0 ps))
      (ap (λ (rs : List Pool). rs ++ numbers_of i (pattern_parts 1 ps) ∷ []) (same_parts_runs i 1 ps) ∙ ap (λ (os : Pool). parts_runs i ps ++ os ∷ []) (same_numbers i 1 ps))

  pub same_parts_runs : (i n : ℕ) (ps : Parts) → parts_runs i (pattern_parts n ps) ≡ parts_runs i ps
  same_parts_runs i n none = refl
  same_parts_runs i zero (part t ps) =
      ap (λ (rs : List Pool). rs ++ parts_runs (i + node_total (pattern_tree t)) (pattern_parts zero ps)) (same_runs_of i t)
      ∙ ap (λ m. runs_of i t ++ parts_runs (i + m) (pattern_parts zero ps)) (same_total t)
      ∙ ap (λ (rs : List Pool). runs_of i t ++ rs) (same_parts_runs (i + node_total t) zero ps)
  same_parts_runs i (suc n) (part t ps) = ap (λ (rs : List Pool). runs_of i t ++ rs) (same_parts_runs (i + node_total t) n ps)
  same_parts_runs i zero (gap ps) = same_parts_runs i zero ps
  same_parts_runs i (suc n) (gap ps) = same_parts_runs i n ps

-- Part by part

pattern_parts-past : (n : ℕ) (ps : Parts) → part_count ps ≤ n → pattern_parts n ps ≡ ps
pattern_parts-past n none h = refl
pattern_parts-past zero (part t ps) h = absurd (omega (arith, h))
pattern_parts-past (suc n) (part t ps) h = ap (part t) (pattern_parts-past n ps (omega (arith, h)))
pattern_parts-past zero (gap ps) h = absurd (omega (arith, h))
pattern_parts-past (suc n) (gap ps) h = ap gap (pattern_parts-past n ps (omega (arith, h)))

pattern_parts-join : (n : ℕ) (ps qs : Parts) → n ≤ part_count ps → pattern_parts n (join ps qs) ≡ join (pattern_parts n ps) (pattern_parts 0 qs)
pattern_parts-join zero none qs h = refl
pattern_parts-join (suc n) none qs h = absurd (omega (arith, h))
pattern_parts-join zero (part t ps) qs h = ap (part (pattern_tree t)) (pattern_parts-join zero ps qs (omega arith))
pattern_parts-join (suc n) (part t ps) qs h = ap (part t) (pattern_parts-join n ps qs (omega (arith, h)))
pattern_parts-join zero (gap ps) qs h = ap gap (pattern_parts-join zero ps qs (omega arith))
pattern_parts-join (suc n) (gap ps) qs h = ap gap (pattern_parts-join n ps qs (omega (arith, h)))

-- the parts up to a place are patterns, from one on
abbrev pub MadeSoFar : Pool → List FlatNode → List FlatNode → Pool → ℕ → ℕ → Type 0
MadeSoFar pool old now run n j =
    (first : ℕ) (ps : Parts) → run ≡ numbers_of first ps → AreStanding pool old first ps → node_labels now ≡ with_from first (parts_labels (pattern_parts n (parts_take j ps))) (node_labels old)

pub made_none : (pool : Pool) (old : List FlatNode) (run : Pool) (n : ℕ) → MadeSoFar pool old old run n n
made_none pool old run n = λ first ps r a.
    let ls = parts_labels (parts_take n ps) in
    let rest = parts_labels (parts_drop n ps) in
    let all : parts_labels ps ≡ ls ++ rest = ap parts_labels (sym (cut n ps)) ∙ parts_labels-join (parts_take n ps) (parts_drop n ps) in
    let here : StandsFrom (node_labels old) first ls = first_of (node_labels old) ls rest first (subst (λ (us : List Label). StandsFrom (node_labels old) first us) all a.labels) in
    sym (ap (λ (qs : Parts). with_from first (parts_labels qs) (node_labels old)) (pattern_parts-past n (parts_take n ps) (few n ps)) ∙ with_from-there (node_labels old) ls first here)
  where
    few : (m : ℕ) (qs : Parts) → part_count (parts_take m qs) ≤ m
    few zero qs = omega arith
    few (suc m) none = omega arith
    few (suc m) (part t qs) = omega (arith, few m qs)
    few (suc m) (gap qs) = omega (arith, few m qs)

pub made_all : (pool : Pool) (old now : List FlatNode) (run : Pool) (n j : ℕ) → MadeSoFar pool old now run n j → length run ≤ j → MakesPatterns pool old now run n
made_all pool old now run n j h l = λ first ps r a.
    let whole : parts_take j ps ≡ ps = take_whole j ps (omega (arith, l, ap length r, length-numbers_of first ps)) in
    h first ps r a ∙ ap (λ (qs : Parts). with_from first (parts_labels (pattern_parts n qs)) (node_labels old)) whole

-- a gap at the next place
pub made_gap : (pool : Pool) (old now : List FlatNode) (run : Pool) (n j : ℕ) → MadeSoFar pool old now run n j → n ≤ j → j < length run → slice_get run j ≡ Some None → MadeSoFar pool old now run n (j + 1)
made_gap pool old now run n j h low l e = λ first ps r a.
    let next : parts_take (j + 1) ps ≡ join (parts_take j ps) (gap none) =
    ap (λ m. parts_take m ps) (add-one j) ∙ take_gap ps first j (ap (λ (os : Pool). slice_get os j) (sym r) ∙ e) in
    let size : part_count (parts_take j ps) ≡ j = part_count-take j ps (omega (arith, l, ap length r, length-numbers_of first ps)) in
    let made : pattern_parts n (join (parts_take j ps) (gap none)) ≡ join (pattern_parts n (parts_take j ps)) (gap none) = pattern_parts-join n (parts_take j ps) (gap none) (omega (arith, low, size)) in
    h first ps r a
    ∙ ap (λ (ls : List Label). with_from first ls (node_labels old))
    (sym (append-nil (parts_labels (pattern_parts n (parts_take j ps)))) ∙ sym (parts_labels-join (pattern_parts n (parts_take j ps)) (gap none)) ∙ ap parts_labels (sym made) ∙ ap (λ (qs : Parts). parts_labels (pattern_parts n qs)) (sym next))

-- a part at the next place
pub made_part : (pool : Pool) (old now new : List FlatNode) (run : Pool) (n j : ℕ) (k : NodeNumber) → MadeSoFar pool old now run n j → KeepsParts old now → n ≤ j → j < length run → slice_get run j ≡ Some (Some k)
    → MakesPattern pool now new k.number → MadeSoFar pool old new run n (j + 1)
made_part pool old now new run n j k h shape low l e m = λ first ps r a.
    let f = standing_part pool old first ps j k a (ap (λ (os : Pool). slice_get os j) (sym r) ∙ e) in
    let t = f.found in
    let front = pattern_parts n (parts_take j ps) in
    let ls = parts_labels front in
    let next : parts_take (j + 1) ps ≡ join (parts_take j ps) (part t none) = ap (λ i. parts_take i ps) (add-one j) ∙ take_part ps j t f.is in
    let size : part_count (parts_take j ps) ≡ j = part_count-take j ps (omega (arith, l, ap length r, length-numbers_of first ps)) in
    let made : pattern_parts n (join (parts_take j ps) (part t none)) ≡ join front (part (pattern_tree t) none) = pattern_parts-join n (parts_take j ps) (part t none) (omega (arith, low, size)) in
    let at : f.start ≡ first + length ls = omega (arith, f.at, length-parts_labels front, same_parts_total n (parts_take j ps)) in
    let now_is = h first ps r a in
    let within : f.start + length (labels_of t) ≤ length (node_labels old) = stands_within (node_labels old) (labels_of t) f.start f.stands.labels in
    let stands : Stands pool now f.start k.number t = record {
      number = f.stands.number;
      labels = subst (λ (us : List Label). StandsFrom us f.start (labels_of t)) (sym now_is) (stands_behind first f.start ls (labels_of t) (node_labels old) at f.stands.labels);
      runs = subst (λ (rs : List Pool). StandsFrom rs f.start (runs_of f.start t)) (sym (same_runs pool old now shape.places)) f.stands.runs;
    } in
    m f.start t stands
    ∙ ap (λ (us : List Label). with_from f.start (labels_of (pattern_tree t)) us) now_is
    ∙ with_from-more first f.start ls (labels_of (pattern_tree t)) (node_labels old) at (omega (arith, within))
    ∙ ap (λ (us : List Label). with_from first us (node_labels old))
    (ap (λ (us : List Label). ls ++ us) (sym (append-nil (labels_of (pattern_tree t)))) ∙ sym (parts_labels-join front (part (pattern_tree t) none)) ∙ ap parts_labels (sym made) ∙ ap (λ (qs : Parts). parts_labels (pattern_parts n qs)) (sym next))

-- A node and its parts

made_parts : (k : Kind) (ps : Parts) (n : ℕ) → first_made k ≡ Some n → chosen k ps (pattern_parts 0 ps) (pattern_parts 1 ps) ≡ pattern_parts n ps
made_parts ArrayExpression ps n h = let same : 0 ≡ n = cc in ap (λ m. pattern_parts m ps) same
made_parts ObjectExpression ps n h = let same : 0 ≡ n = cc in ap (λ m. pattern_parts m ps) same
made_parts SpreadElement ps n h = let same : 0 ≡ n = cc in ap (λ m. pattern_parts m ps) same
made_parts Property ps n h = let same : 1 ≡ n = cc in ap (λ m. pattern_parts m ps) same
made_parts _ ps n h = absurd (none-some h)
  where
    none-some : {X : Type 0} {x : X} → None ≡ Some x → ⊥
    none-some e = cc

kept_parts : (k : Kind) (ps : Parts) → first_made k ≡ None → chosen k ps (pattern_parts 0 ps) (pattern_parts 1 ps) ≡ ps
kept_parts ArrayExpression ps h = absurd (cc)
kept_parts ObjectExpression ps h = absurd (cc)
kept_parts SpreadElement ps h = absurd (cc)
kept_parts Property ps h = absurd (cc)
kept_parts _ ps h = refl

-- a node has the label of its pattern
relabelled : (pool : Pool) (old mid : List FlatNode) (first k : ℕ) (t : Tree) (x y : FlatNode) → Stands pool old first k t → node_label x ≡ tree_label t → IsPatternOf x y → mid ≡ set old k y
    → node_labels mid ≡ with_from first (parts_labels (parts_of t) ++ pattern_label (tree_label t) ∷ []) (node_labels old)
relabelled pool old mid first k (node q w g s e ps) x y h l p m =
    let t : Tree = node q w g s e ps in
    let own : node_label y ≡ pattern_label (tree_label t) = p.label ∙ ap pattern_label l in
    ap node_labels m ∙ map-set (λ (z : FlatNode). node_label z) old k y ∙ ap (λ (z : Label). set (node_labels old) k z) own
    ∙ with_last (node_labels old) (parts_labels ps) (tree_label t) (pattern_label (tree_label t)) first k (omega (arith, h.number, length-parts_labels ps)) h.labels

-- a node whose parts stay what they are
pub node_kept : (pool : Pool) (old mid : List FlatNode) (k : ℕ) (x y : FlatNode) → k < length old → x ≡ get_or old k x → IsPatternOf x y → mid ≡ set old k y → first_made x.kind ≡ None → MakesPattern pool old mid k
node_kept pool old mid k x y l r p m stays = λ first t h.
    let label = own_label pool old first k t x h l r in
    relabelled pool old mid first k t x y h label p m
    ∙ ap (λ (ls : List Label). with_from first ls (node_labels old)) (made_label t (ap first_made (sym (label_kind x t label)) ∙ stays))
  where
    made_label : (t : Tree) → first_made (kind_of t) ≡ None → parts_labels (parts_of t) ++ pattern_label (tree_label t) ∷ [] ≡ labels_of (pattern_tree t)
    made_label (node q w g s e ps) h =
        let l : Label = record { kind = pattern_kind q; text = pattern_text q w; flags = g; start = s; stop = e } in
        ap (λ (qs : Parts). parts_labels qs ++ l ∷ []) (sym (kept_parts q ps h))

-- a node whose parts become patterns from one on
pub node_made : (pool : Pool) (old mid new : List FlatNode) (k n : ℕ) (x y : FlatNode) (run : Pool) → k < length old → x ≡ get_or old k x → IsPatternOf x y → mid ≡ set old k y → KeepsParts old mid → first_made x.kind ≡ Some n
    → run ≡ run_of pool x → MakesPatterns pool mid new run n → MakesPattern pool old new k
node_made pool old mid new k n x y run l r p m shape some ran made = λ first t h.
    let label = own_label pool old first k t x h l r in
    let here = relabelled pool old mid first k t x y h label p m in
    let below = parts_below first t h here in
    made first (parts_of t) (ran ∙ own_run pool old first k t x h l r) below
    ∙ ap (λ (ls : List Label). with_from first (parts_labels (pattern_parts n (parts_of t))) ls) here
    ∙ put first t h
    ∙ ap (λ (ls : List Label). with_from first ls (node_labels old)) (made_label t (ap first_made (sym (label_kind x t label)) ∙ some))
  where
    parts_below : (first : ℕ) (t : Tree) → Stands pool old first k t → node_labels mid ≡ with_from first (parts_labels (parts_of t) ++ pattern_label (tree_label t) ∷ []) (node_labels old) → AreStanding pool mid first (parts_of t)
    parts_below first (node q w g s e ps) h here =
        let t : Tree = node q w g s e ps in
        let z = pattern_label (tree_label t) in
        let put_here = stands_put (node_labels old) (parts_labels ps ++ tree_label t ∷ []) (parts_labels ps ++ z ∷ []) first h.labels (omega (arith, length-append (parts_labels ps) (tree_label t ∷ []), length-append (parts_labels ps) (z ∷ []))) in
        record {
          labels = first_of (node_labels mid) (parts_labels ps) (z ∷ []) first (subst (λ (ls : List Label). StandsFrom ls first (parts_labels ps ++ z ∷ [])) (sym here) put_here);
          runs = subst (λ (rs : List Pool). StandsFrom rs first (parts_runs first ps)) (sym (same_runs pool old mid shape.places)) (first_of (node_runs pool old) (parts_runs first ps) (numbers_of first ps ∷ []) first h.runs);
        }

    put : (first : ℕ) (t : Tree) → Stands pool old first k t → with_from first (parts_labels (pattern_parts n (parts_of t))) (with_from first (parts_labels (parts_of t) ++ pattern_label (tree_label t) ∷ []) (node_labels old))
        ≡ with_from first (parts_labels (pattern_parts n (parts_of t)) ++ pattern_label (tree_label t) ∷ []) (node_labels old)
    put first (node q w g s e ps) h =
        let t : Tree = node q w g s e ps in
        let z = pattern_label (tree_label t) in
        with_from-front (node_labels old) (parts_labels ps ++ tree_label t ∷ []) (parts_labels ps) (parts_labels (pattern_parts n ps)) (z ∷ []) first h.labels
        (omega (arith, length-append (parts_labels ps) (tree_label t ∷ []), length-append (parts_labels ps) (z ∷ [])))
        (omega (arith, length-parts_labels (pattern_parts n ps), length-parts_labels ps, same_parts_total n ps))

    made_label : (t : Tree) → first_made (kind_of t) ≡ Some n → parts_labels (pattern_parts n (parts_of t)) ++ pattern_label (tree_label t) ∷ [] ≡ labels_of (pattern_tree t)
    made_label (node q w g s e ps) h =
        let z : Label = record { kind = pattern_kind q; text = pattern_text q w; flags = g; start = s; stop = e } in
        ap (λ (qs : Parts). parts_labels qs ++ z ∷ []) (sym (made_parts q ps n h))

-- a node keeps its parts where it has another label
pub places_set : (old mid : List FlatNode) (k : ℕ) (x y : FlatNode) → k < length old → x ≡ get_or old k x → IsPatternOf x y → mid ≡ set old k y → KeepsParts old mid
places_set old mid k x y l r p m = record { places = ap node_places m ∙ set_same old k l r }
  where
    set_same : (es : List FlatNode) (i : ℕ) → i < length es → x ≡ get_or es i x → node_places (set es i y) ≡ node_places es
    set_same [] i h g = absurd (omega (arith, h))
    set_same (z ∷ es) zero h g =
        let first : y.first ≡ z.first = p.first ∙ ap (λ (d : FlatNode). d.first) g in
        let count : y.count ≡ z.count = p.count ∙ ap (λ (d : FlatNode). d.count) g in
        cc
    set_same (z ∷ es) (suc i) h g = ap (λ (us : List (ℕ × ℕ)). (z.first, z.count) ∷ us) (set_same es i (omega (arith, h)) g)

-- The last that wait

pub last_made : (a b : FlatBuilder) (count : ℕ) (run : Pool) (w : Parts) → AreNodesOf a w → run ≡ drop (length a.waiting.items - count) a.waiting.items → b.parts.items ≡ a.parts.items → b.waiting.items ≡ a.waiting.items
    → KeepsParts a.nodes.items b.nodes.items → MakesPatterns a.parts.items a.nodes.items b.nodes.items run 0 → AreNodesOf b (join (all_but count w) (pattern_parts 0 (last_parts count w)))
last_made a b count run w h r p q shape made =
    let base = all_but count w in
    let own = last_parts count w in
    let ps = pattern_parts 0 own in
    let es = a.nodes.items in
    let pool = a.parts.items in
    let i = parts_total base in
    let at : 0 + i ≡ i = omega arith in
    let whole : join base own ≡ w = cut_last count w in
    let c = cut_waiting a base own (length a.waiting.items - count) (subst (λ (u : Parts). AreNodesOf a u) (sym whole) h) (omega (arith, ap length h.waiting, length-numbers_of 0 w, part_count-all_but count w)) in
    let labels : node_labels es ≡ parts_labels base ++ parts_labels own = h.labels ∙ ap parts_labels (sym whole) ∙ parts_labels-join base own in
    let runs : node_runs pool es ≡ parts_runs 0 base ++ parts_runs i own = h.runs ∙ ap (parts_runs 0) (sym whole) ∙ parts_runs-join 0 base own ∙ ap (λ m. parts_runs 0 base ++ parts_runs m own) at in
    let own_labels : StandsFrom (node_labels es) i (parts_labels own) =
    (parts_labels base, [], labels ∙ ap (λ (ls : List Label). parts_labels base ++ ls) (sym (append-nil (parts_labels own))), length-parts_labels base) in
    let stands : AreStanding pool es i own = record {
      labels = own_labels;
      runs = (parts_runs 0 base, [], runs ∙ ap (λ (rs : List Pool). parts_runs 0 base ++ rs) (sym (append-nil (parts_runs i own))), length-parts_runs 0 base);
    } in
    let s = h.sound in
    record {
      sound = record {
        linked = subst (λ (os : Pool). AreLinked os 0 b.nodes.items) (sym p) (same_links pool 0 es b.nodes.items shape.places s.linked);
        waiting = subst (λ (os : Pool). AreBefore (length b.nodes.items) os) (sym q) (subst (λ n. AreBefore n a.waiting.items) (sym (same_count es b.nodes.items shape.places)) s.waiting);
        in_order = subst (λ (os : Pool). AreInOrder (length os) 0 b.nodes.items) (sym p) (same_order (length pool) 0 es b.nodes.items shape.places s.in_order);
        few_nodes = omega (arith, s.few_nodes, same_count es b.nodes.items shape.places);
        few_parts = omega (arith, s.few_parts, ap length p);
      };
      labels = made i own (r ∙ c.dropped) stands
          ∙ with_from-put (node_labels es) (parts_labels own) (parts_labels ps) i own_labels (omega (arith, length-parts_labels ps, length-parts_labels own, same_parts_total 0 own))
          ∙ ap (λ (ls : List Label). parts_labels base ++ ls) (append-nil (parts_labels ps)) ∙ sym (parts_labels-join base ps);
      runs = ap (λ (os : Pool). node_runs os b.nodes.items) p ∙ same_runs pool es b.nodes.items shape.places ∙ runs
          ∙ ap (λ (rs : List Pool). parts_runs 0 base ++ rs) (sym (same_parts_runs i 0 own)) ∙ ap (λ m. parts_runs 0 base ++ parts_runs m ps) (sym at) ∙ sym (parts_runs-join 0 base ps);
      waiting = q ∙ h.waiting ∙ ap (numbers_of 0) (sym whole) ∙ numbers_of-join 0 base own
          ∙ ap (λ (os : Pool). numbers_of 0 base ++ os) (sym (same_numbers (0 + i) 0 own)) ∙ sym (numbers_of-join 0 base ps);
    }
