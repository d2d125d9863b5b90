-- Rows that are numbered by a walk over a whole tree.
use Rattle.std.proofs.Common.{◌≡◌, ℕ, zero, suc, ◌+◌, ◌<◌, ◌≤◌, Bool, true, false, cond, is_some, List, [], ◌∷◌, ◌++◌, length, set, get_or, slice_get, take, drop, Option, Some, None, refl, sym, ap, ◌∙◌, arith, append_assoc, length-append, append-nil, subst, add-one}
use Rattle.std.proofs.lemmas.List.{map-set, length-map, drop_all}
use Rattle.tree.specs.declared.flat_node.NodeNumber.{NodeNumber}
use Rattle.tree.specs.declared.flat_node.FlatNode.{FlatNode}
use Rattle.tree.specs.declared.flat_tree.FlatTree.{FlatTree}
use Rattle.tree.specs.declared.kind.Kind.{Kind}
use Rattle.tree.specs.declared.kind.Flags.{Flags}
use Rattle.tree.specs.declared.node_use.NodeUse.{NodeUse}
use Rattle.tree.specs.declared.node_use.NodeUse.TheVariants.{NotEvaluated}
use Rattle.tree.specs.declared.node_use.ParentUse.{ParentUse}
use Rattle.tree.specs.Tree.{Tree, Parts, node, none, part, gap, join, kind_of, flags_of, parts_of, part_at, part_count, parts_take, node_total, parts_total}
use Rattle.tree.specs.Flat.{run_of, numbers_of, runs_of, parts_runs}
use Rattle.tree.specs.Growth.{node_runs, node_rows}
use Rattle.tree.specs.Labels.{Label, node_label, node_labels, labels_of, parts_labels}
use Rattle.tree.specs.Building.{most}
use Rattle.tree.specs.NodeUses.{has_row, own_rows, use_in, rows_in, parts_rows, row_list, parts_row_list, rows_before, rows_of}
use Rattle.tree.specs.Numbering.{KeepsLabels, NumbersNode, NumbersParts}
use Rattle.tree.specs.Standing.{StandsFrom, with_from, Stands, AreStanding, node_places}
use Rattle.tree.specs.Whole.{whole_tree, IsWhole, HasNodesOf}
use Rattle.tree.proofs.FlatTrees.{Pool}
use Rattle.tree.proofs.PartRows.{length-rows, length-parts_rows}
use Rattle.tree.proofs.RowNumbers.{rows_before-part, rows_before-gap, rows_before-all}
use Rattle.tree.proofs.JoinedParts.{parts_total-join, length-numbers_of, length-labels_of, part_count-take}
use Rattle.tree.proofs.RunTrees.{made_whole}
use Rattle.tree.proofs.StandingLists.{stands_within, with_from-none, with_from-more}
use Rattle.tree.proofs.StandingNodes.{own_label, own_run, label_kind, label_flags, parts_stand, standing_part, take_part, take_gap, take_whole, same_runs, same_count}

-- Rows of parts one behind the other

parts_row_list-join : (a : ParentUse) (n i r : ℕ) (ps qs : Parts) → parts_row_list a n i r (join ps qs) ≡ parts_row_list a n i r ps ++ parts_row_list a n (i + part_count ps) (r + parts_rows a n i ps) qs
parts_row_list-join a n i r none qs =
    let at : i ≡ i + 0 = omega arith in
    let from : r ≡ r + 0 = omega arith in
    ap (λ m. parts_row_list a n m r qs) at ∙ ap (λ m. parts_row_list a n (i + 0) m qs) from
parts_row_list-join a n i r (gap ps) qs =
    let at : (i + 1) + part_count ps ≡ i + (part_count ps + 1) = omega arith in
    parts_row_list-join a n (i + 1) r ps qs ∙ ap (λ m. parts_row_list a n (i + 1) r ps ++ parts_row_list a n m (r + parts_rows a n (i + 1) ps) qs) at
parts_row_list-join a n i r (part t ps) qs =
    let at : (i + 1) + part_count ps ≡ i + (part_count ps + 1) = omega arith in
    let more = rows_in (use_in a n i t) t in
    let from : (r + more) + parts_rows a n (i + 1) ps ≡ r + (more + parts_rows a n (i + 1) ps) = omega arith in
    let own = row_list (use_in a n i t) r t in
    let front = parts_row_list a n (i + 1) (r + more) ps in
    ap (λ (rs : List (Option ℕ)). own ++ rs)
    (parts_row_list-join a n (i + 1) (r + more) ps qs
    ∙ ap (λ m. front ++ parts_row_list a n m ((r + more) + parts_rows a n (i + 1) ps) qs) at
    ∙ ap (λ m. front ++ parts_row_list a n (i + (part_count ps + 1)) m qs) from)
    ∙ sym (append_assoc own front (parts_row_list a n (i + (part_count ps + 1)) (r + (more + parts_rows a n (i + 1) ps)) qs))

own_below : (st : NodeUse) (k : Kind) → own_rows st k ≤ 1
own_below st k = elim (has_row st k) as (λ b. cond b 1 0 ≤ 1) [ true ↦ omega arith | false ↦ omega arith ]

mutual
  -- no more nodes have rows than there are
  rows_below : (st : NodeUse) (t : Tree) → rows_in st t ≤ node_total t
  rows_below st (node k w g s e ps) = omega (arith, own_below st k, parts_rows_below (record { node_use = st; kind = k; flags = g }) (part_count ps) 0 ps)

  parts_rows_below : (r : ParentUse) (n i : ℕ) (ps : Parts) → parts_rows r n i ps ≤ parts_total ps
  parts_rows_below r n i none = omega arith
  parts_rows_below r n i (gap ps) = parts_rows_below r n (i + 1) ps
  parts_rows_below r n i (part t ps) = omega (arith, rows_below (use_in r n i t) t, parts_rows_below r n (i + 1) ps)

take_total : (n : ℕ) (ps : Parts) → parts_total (parts_take n ps) ≤ parts_total ps
take_total zero ps = omega arith
take_total (suc n) none = omega arith
take_total (suc n) (part t ps) = omega (arith, take_total n ps)
take_total (suc n) (gap ps) = take_total n ps

-- Part by part

-- the rows of the parts up to a place are numbered, and that of the next is known
abbrev pub NumberedSoFar : Pool → List FlatNode → List FlatNode → ParentUse → Pool → ℕ → ℕ → ℕ → Type 0
NumberedSoFar pool old now a run r j next =
    (first : ℕ) (ps : Parts) → run ≡ numbers_of first ps → AreStanding pool old first ps → r + parts_total ps ≤ most + 1
    → (node_rows now ≡ with_from first (parts_row_list a (part_count ps) 0 r (parts_take j ps)) (node_rows old)) × (next ≡ r + rows_before a (part_count ps) j ps)

rows_length : (es : List FlatNode) → length (node_rows es) ≡ length es
rows_length es = length-map es (λ (e : FlatNode). e.row)

labels_length : (es : List FlatNode) → length (node_labels es) ≡ length es
labels_length es = length-map es (λ (e : FlatNode). node_label e)

pub numbered_none : (pool : Pool) (old : List FlatNode) (a : ParentUse) (run : Pool) (r : ℕ) → NumberedSoFar pool old old a run r 0 r
numbered_none pool old a run r = λ first ps m s few. (
  sym (with_from-none first (node_rows old) (omega (arith, stands_within (node_labels old) (parts_labels ps) first s.labels, rows_length old, labels_length old))),
  omega arith,
)

pub numbered_all : (pool : Pool) (old now : List FlatNode) (a : ParentUse) (run : Pool) (r j next : ℕ) → NumberedSoFar pool old now a run r j next → length run ≤ j → NumbersParts pool old now a run r next
numbered_all pool old now a run r j next h l = λ first ps m s few.
    let past : part_count ps ≤ j = omega (arith, l, ap length m, length-numbers_of first ps) in
    let so_far = h first ps m s few in (
      so_far.0 ∙ ap (λ (qs : Parts). with_from first (parts_row_list a (part_count ps) 0 r qs) (node_rows old)) (take_whole j ps past),
      so_far.1 ∙ ap (λ n. r + n) (rows_before-all a (part_count ps) j ps past),
    )

gap_at : (ps : Parts) (first j : ℕ) → slice_get (numbers_of first ps) j ≡ Some None → None ≡ part_at ps j
gap_at none first j h = refl
gap_at (part t ps) first zero h = absurd (cc)
gap_at (part t ps) first (suc j) h = gap_at ps (first + node_total t) j h
gap_at (gap ps) first zero h = refl
gap_at (gap ps) first (suc j) h = gap_at ps first j h

pub numbered_gap : (pool : Pool) (old now : List FlatNode) (a : ParentUse) (run : Pool) (r j next : ℕ) → NumberedSoFar pool old now a run r j next → slice_get run j ≡ Some None → NumberedSoFar pool old now a run r (j + 1) next
numbered_gap pool old now a run r j next h e = λ first ps m s few.
    let c = part_count ps in
    let so_far = h first ps m s few in
    let here = ap (λ (os : Pool). slice_get os j) (sym m) ∙ e in
    let more : parts_take (j + 1) ps ≡ join (parts_take j ps) (gap none) = ap (λ i. parts_take i ps) (add-one j) ∙ take_gap ps first j here in (
      so_far.0 ∙ ap (λ (rs : List (Option ℕ)). with_from first rs (node_rows old))
          (sym (append-nil (parts_row_list a c 0 r (parts_take j ps))) ∙ sym (parts_row_list-join a c 0 r (parts_take j ps) (gap none)) ∙ ap (parts_row_list a c 0 r) (sym more)),
      so_far.1 ∙ ap (λ n. r + n) (sym (rows_before-gap a c j ps (gap_at ps first j here))),
    )

pub numbered_part : (pool : Pool) (old now new : List FlatNode) (a : ParentUse) (run : Pool) (r j next last : ℕ) (k : NodeNumber) (st : NodeUse) → NumberedSoFar pool old now a run r j next → KeepsLabels old now → slice_get run j ≡ Some (Some k) → j < length run
    → ((first : ℕ) (t : Tree) → Stands pool now first k.number t → st ≡ use_in a (length run) j t) → NumbersNode pool now new st k.number next last → NumberedSoFar pool old new a run r (j + 1) last
numbered_part pool old now new a run r j next last k st h kept e low stands numbered = λ first ps m s few.
    let c = part_count ps in
    let so_far = h first ps m s few in
    let f = standing_part pool old first ps j k s (ap (λ (os : Pool). slice_get os j) (sym m) ∙ e) in
    let t = f.found in
    let front = parts_take j ps in
    let rs = parts_row_list a c 0 r front in
    let count : length run ≡ c = ap length m ∙ length-numbers_of first ps in
    let size : part_count front ≡ j = part_count-take j ps (omega (arith, low, count)) in
    let more : parts_take (j + 1) ps ≡ join front (part t none) = ap (λ i. parts_take i ps) (add-one j) ∙ take_part ps j t f.is in
    let here : Stands pool now f.start k.number t = record {
      number = f.stands.number;
      labels = subst (λ (ls : List Label). StandsFrom ls f.start (labels_of t)) (sym kept.labels) f.stands.labels;
      runs = subst (λ (us : List Pool). StandsFrom us f.start (runs_of f.start t)) (sym (same_runs pool old now kept.places)) f.stands.runs;
    } in
    let is : st ≡ use_in a c j t = stands f.start t here ∙ ap (λ n. use_in a n j t) count in
    let total : parts_total (join front (part t none)) ≤ parts_total ps = omega (arith, take_total (j + 1) ps, ap parts_total more) in
    let fits : next + node_total t ≤ most + 1 =
    omega (arith, few, so_far.1, parts_rows_below a c 0 front, total, parts_total-join front (part t none)) in
    let done = numbered f.start t here fits in
    let behind : j ≡ 0 + part_count front = omega (arith, size) in
    let own : row_list st next t ≡ parts_row_list a c (0 + part_count front) (r + parts_rows a c 0 front) (part t none) =
    ap (λ n. row_list st n t) so_far.1
    ∙ ap (λ (x : NodeUse). row_list x (r + parts_rows a c 0 front) t) (is ∙ ap (λ i. use_in a c i t) behind)
    ∙ sym (append-nil (row_list (use_in a c (0 + part_count front) t) (r + parts_rows a c 0 front) t)) in
    let at : f.start ≡ first + length rs = omega (arith, f.at, length-parts_rows a c 0 r front) in
    let within : f.start ≤ length (node_rows old) =
    omega (arith, stands_within (node_labels old) (labels_of t) f.start f.stands.labels, rows_length old, labels_length old) in (
      done.0
          ∙ ap (λ (us : List (Option ℕ)). with_from f.start (row_list st next t) us) so_far.0
          ∙ with_from-more first f.start rs (row_list st next t) (node_rows old) at within
          ∙ ap (λ (us : List (Option ℕ)). with_from first us (node_rows old))
          (ap (λ (us : List (Option ℕ)). rs ++ us) own ∙ sym (parts_row_list-join a c 0 r front (part t none)) ∙ ap (parts_row_list a c 0 r) (sym more)),
      omega (
        arith,
        done.1,
        so_far.1,
        rows_before-part a c j ps t (sym f.is),
        ap (λ (x : NodeUse). rows_in x t) is,
      ),
    )

-- A node and its parts

take_set : {X : Type 0} (xs : List X) (i k : ℕ) (z : X) → i ≤ k → take i (set xs k z) ≡ take i xs
take_set [] i k z h = refl
take_set (x ∷ xs) zero k z h = refl
take_set (x ∷ xs) (suc i) zero z h = absurd (omega (arith, h))
take_set (x ∷ xs) (suc i) (suc k) z h = ap (λ us. x ∷ us) (take_set xs i k z (omega (arith, h)))

drop_set : {X : Type 0} (xs : List X) (k : ℕ) (z : X) → k < length xs → drop k (set xs k z) ≡ z ∷ drop (suc k) xs
drop_set [] k z h = absurd (omega (arith, h))
drop_set (x ∷ xs) zero z h = refl
drop_set (x ∷ xs) (suc k) z h = drop_set xs k z (omega (arith, h))

put_before : {X : Type 0} (xs ys : List X) (z : X) (i k : ℕ) → k ≡ i + length ys → k < length xs → with_from i ys (set xs k z) ≡ with_from i (ys ++ z ∷ []) xs
put_before xs ys z i k e h =
    let end : suc k ≡ i + length (ys ++ z ∷ []) = omega (arith, e, length-append ys (z ∷ [])) in
    ap (λ us. us ++ (ys ++ drop (i + length ys) (set xs k z))) (take_set xs i k z (omega (arith, e)))
    ∙ ap (λ n. take i xs ++ (ys ++ drop n (set xs k z))) (sym e)
    ∙ ap (λ us. take i xs ++ (ys ++ us)) (drop_set xs k z h)
    ∙ ap (λ us. take i xs ++ us) (sym (append_assoc ys (z ∷ []) (drop (suc k) xs)))
    ∙ ap (λ n. take i xs ++ ((ys ++ z ∷ []) ++ drop n xs)) end

labels_set : (es : List FlatNode) (k : ℕ) (x : FlatNode) (own : Option ℕ) → k < length es → x ≡ get_or es k x → node_labels (set es k (record x { row = own })) ≡ node_labels es
labels_set [] k x own h g = absurd (omega (arith, h))
labels_set (e ∷ es) zero x own h g = ap (λ (y : FlatNode). node_label y ∷ node_labels es) g
labels_set (e ∷ es) (suc k) x own h g = ap (λ (ls : List Label). node_label e ∷ ls) (labels_set es k x own (omega (arith, h)) g)

places_set : (es : List FlatNode) (k : ℕ) (x : FlatNode) (own : Option ℕ) → k < length es → x ≡ get_or es k x → node_places (set es k (record x { row = own })) ≡ node_places es
places_set [] k x own h g = absurd (omega (arith, h))
places_set (e ∷ es) zero x own h g = ap (λ (y : FlatNode). (y.first, y.count) ∷ node_places es) g
places_set (e ∷ es) (suc k) x own h g = ap (λ (us : List (ℕ × ℕ)). (e.first, e.count) ∷ us) (places_set es k x own (omega (arith, h)) g)

-- a node with another row keeps its label
pub row_set : (old mid : List FlatNode) (k : ℕ) (x : FlatNode) (own : Option ℕ) → k < length old → x ≡ get_or old k x → mid ≡ set old k (record x { row = own }) → KeepsLabels old mid
row_set old mid k x own h g m = record { labels = ap node_labels m ∙ labels_set old k x own h g; places = ap node_places m ∙ places_set old k x own h g }

pub kept_twice : (a b c : List FlatNode) → KeepsLabels a b → KeepsLabels b c → KeepsLabels a c
kept_twice a b c h g = record { labels = g.labels ∙ h.labels; places = g.places ∙ h.places }

pub node_numbered : (pool : Pool) (old mid new : List FlatNode) (a : NodeUse) (k r next last : ℕ) (x : FlatNode) (own : Option ℕ) → k < length old → x ≡ get_or old k x → mid ≡ set old k (record x { row = own })
    → own ≡ cond (has_row a x.kind) (Some r) None → (r ≤ most → next ≡ r + cond (is_some own) 1 0) → NumbersParts pool mid new (record { node_use = a; kind = x.kind; flags = x.flags }) (run_of pool x) next last → NumbersNode pool old new a k r last
node_numbered pool old mid new a k r next last x own l g m w behind parts = λ first t h few.
    let kept = row_set old mid k x own l g m in
    let label = own_label pool old first k t x h l g in
    let A : ParentUse = record { node_use = a; kind = x.kind; flags = x.flags } in
    let B : ParentUse = record { node_use = a; kind = kind_of t; flags = flags_of t } in
    let kinds = label_kind x t label in
    let flags = label_flags x t label in
    let around : A ≡ B = ap (λ (q : Kind). record { node_use = a; kind = q; flags = x.flags }) kinds ∙ ap (λ (f : Flags). record { node_use = a; kind = kind_of t; flags = f }) flags in
    let total = total_of t in
    let row : next ≡ r + own_rows a (kind_of t) = behind (omega (arith, few, total)) ∙ ap (λ (o : Option ℕ). r + cond (is_some o) 1 0) w ∙ ap (λ n. r + n) (counted (has_row a x.kind)) ∙ ap (λ q. r + own_rows a q) kinds in
    let below = parts_stand pool old first k t h in
    let s : AreStanding pool mid first (parts_of t) = record {
      labels = subst (λ (ls : List Label). StandsFrom ls first (parts_labels (parts_of t))) (sym kept.labels) below.labels;
      runs = subst (λ (us : List Pool). StandsFrom us first (parts_runs first (parts_of t))) (sym (same_runs pool old mid kept.places)) below.runs;
    } in
    let ps = parts_of t in
    let done = parts first ps (own_run pool old first k t x h l g) s (omega (arith, few, row, total, own_below a (kind_of t))) in
    let rs = parts_row_list A (part_count ps) 0 next ps in
    let rows : node_rows mid ≡ set (node_rows old) k own = ap node_rows m ∙ map-set (λ (e : FlatNode). e.row) old k (record x { row = own }) in
    let at : k ≡ first + length rs = omega (arith, h.number, total, length-parts_rows A (part_count ps) 0 next ps) in
    let same : rs ≡ parts_row_list B (part_count ps) 0 (r + own_rows a (kind_of t)) ps = ap (λ (P : ParentUse). parts_row_list P (part_count ps) 0 next ps) around ∙ ap (λ n. parts_row_list B (part_count ps) 0 n ps) row in
    let is_own : own ≡ cond (has_row a (kind_of t)) (Some r) None = w ∙ ap (λ q. cond (has_row a q) (Some r) None) kinds in (
      done.0
          ∙ ap (λ (us : List (Option ℕ)). with_from first rs us) rows
          ∙ put_before (node_rows old) rs own first k at (omega (arith, l, rows_length old))
          ∙ ap (λ (us : List (Option ℕ)). with_from first (us ++ own ∷ []) (node_rows old)) same
          ∙ ap (λ (o : Option ℕ). with_from first (parts_row_list B (part_count ps) 0 (r + own_rows a (kind_of t)) ps ++ o ∷ []) (node_rows old)) is_own
          ∙ ap (λ (us : List (Option ℕ)). with_from first us (node_rows old)) (sym (list_of t)),
      omega (arith, done.1, row, ap (λ (P : ParentUse). parts_rows P (part_count ps) 0 ps) around, rows_of-node t),
    )
  where
    counted : (b : Bool) → ◌≡◌ {A = ℕ} (cond (is_some (cond b (Some r) None)) 1 0) (cond b 1 0)
    counted true = refl
    counted false = refl

    total_of : (t : Tree) → node_total t ≡ suc (parts_total (parts_of t))
    total_of (node q w g s e ps) = refl

    list_of : (t : Tree) → row_list a r t ≡ parts_row_list (record { node_use = a; kind = kind_of t; flags = flags_of t }) (part_count (parts_of t)) 0 (r + own_rows a (kind_of t)) (parts_of t) ++ cond (has_row a (kind_of t)) (Some r) None ∷ []
    list_of (node q w g s e ps) = refl

    rows_of-node : (t : Tree) → rows_in a t ≡ own_rows a (kind_of t) + parts_rows (record { node_use = a; kind = kind_of t; flags = flags_of t }) (part_count (parts_of t)) 0 (parts_of t)
    rows_of-node (node q w g s e ps) = refl

-- a node without parts
pub none_numbered : (pool : Pool) (es : List FlatNode) (a : ParentUse) (x : FlatNode) (r : ℕ) → x.count ≡ 0 → NumbersParts pool es es a (run_of pool x) r r
none_numbered pool es a x r h = numbered_all pool es es a (run_of pool x) r 0 r (numbered_none pool es a (run_of pool x) r) (omega (arith, ap (λ n. length (take n (drop x.first pool))) h))

-- The whole tree

pub all_numbered : (f g : FlatTree) (new : List FlatNode) (k last : ℕ) → g.nodes.items ≡ new → g.parts.items ≡ f.parts.items → KeepsLabels f.nodes.items new → k + 1 ≡ length f.nodes.items → NumbersNode f.parts.items f.nodes.items new NotEvaluated k 1 last
    → (t : Tree) → HasNodesOf f t → (whole_tree g ≡ t) × IsWhole g
all_numbered f g new k last n p kept l numbered t h =
    let es = f.nodes.items in
    let pool = f.parts.items in
    let total : length es ≡ node_total t = omega (arith, labels_length es, ap length h.labels, length-labels_of t) in
    let s : Stands pool es 0 k t = record {
      number = omega (arith, l, total);
      labels = ([], [], h.labels ∙ sym (append-nil (labels_of t)), refl);
      runs = ([], [], h.runs ∙ sym (append-nil (runs_of 0 t)), refl);
    } in
    let done = numbered 0 t s (omega (arith, h.few, total)) in
    let rest : drop (0 + length (rows_of t)) (node_rows es) ≡ [] = drop_all (0 + length (rows_of t)) (node_rows es) (omega (arith, length-rows NotEvaluated 1 t, rows_length es, total)) in
    made_whole g t (ap node_labels n ∙ kept.labels ∙ h.labels)
    (ap (λ (os : Pool). node_runs os g.nodes.items) p ∙ ap (node_runs pool) n ∙ same_runs pool es new kept.places ∙ h.runs)
    (ap node_rows n ∙ done.0 ∙ ap (λ (us : List (Option ℕ)). rows_of t ++ us) rest ∙ append-nil (rows_of t))
    (omega (arith, ap length n, same_count es new kept.places, total))
