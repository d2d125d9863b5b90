-- Parts that are too large: they stay so while others come, and one more node is too many where the builder says so.
use Rattle.std.proofs.Common.{◌≡◌, ℕ, zero, suc, true, false, is_some, ◌+◌, ◌-◌, max, min, List, [], ◌∷◌, ◌++◌, length, Option, Some, None, drop, refl, sym, ap, ◌∙◌, arith, length-drop, subst}
use Rattle.std.proofs.lemmas.List.{length-take}
use Rattle.tree.specs.Tree.{Tree, Parts, node, none, part, gap, push, push_gap, join, part_count, all_but, last_parts, node_total, parts_total}
use Rattle.tree.specs.declared.flat_node.FlatNode.{FlatNode}
use Rattle.tree.specs.declared.flat_builder.FlatBuilder.{FlatBuilder}
use Rattle.tree.specs.Flat.{AreLinked, numbers_of, runs_of, parts_runs}
use Rattle.tree.specs.Growth.{node_runs}
use Rattle.tree.specs.Labels.{Label}
use Rattle.tree.specs.Patterns.{pattern_tree, pattern_parts}
use Rattle.tree.specs.Building.{AreInOrder, AreNodesOf, AddsGap, Finishes}
use Rattle.tree.specs.TooLarge.{part_total, parts_part_total, last_place, parts_last_place, IsTooLarge, AreTooLarge, Overflows, Holds}
use Rattle.tree.specs.declared.build_error.BuildError.{BuildError}
use Rattle.tree.specs.declared.build_error.BuildError.TheVariants.{Memory, TooLarge}
use Rattle.tree.proofs.FlatTrees.{Pool}
use Rattle.tree.proofs.Shapes.{push-join}
use Rattle.tree.proofs.Joined.{join-none, join-gap}
use Rattle.tree.proofs.JoinedParts.{part_count-join, parts_total-join, length-numbers_of, cut_last, part_count-all_but}
use Rattle.tree.proofs.PatternNodes.{chosen_has, same_parts_total, same_numbers}
use Rattle.tree.proofs.BuiltNodes.{count_built, all_wait, one_gap, finishes}

parts_part_total-join : (ps qs : Parts) → parts_part_total (join ps qs) ≡ parts_part_total ps + parts_part_total qs
parts_part_total-join none qs = omega arith
parts_part_total-join (part t ps) qs = omega (arith, parts_part_total-join ps qs)
parts_part_total-join (gap ps) qs = parts_part_total-join ps qs

parts_last_place-join : (ps qs : Parts) → parts_last_place (join ps qs) ≡ max (parts_last_place ps) (parts_last_place qs)
parts_last_place-join none qs = omega arith
parts_last_place-join (part t ps) qs = omega (arith, parts_last_place-join ps qs)
parts_last_place-join (gap ps) qs = parts_last_place-join ps qs

-- Patterns have as many parts as what they cover, in the same places

count_patterns : (n : ℕ) (ps : Parts) → part_count (pattern_parts n ps) ≡ part_count ps
count_patterns n ps = omega (arith, length-numbers_of 0 (pattern_parts n ps), length-numbers_of 0 ps, ap length (same_numbers 0 n ps))

mutual
  same_part_total : (t : Tree) → part_total (pattern_tree t) ≡ part_total t
  same_part_total (node k w g s e ps) =
      chosen_has (λ qs. part_count qs + parts_part_total qs ≡ part_count ps + parts_part_total ps) k ps (pattern_parts 0 ps) (pattern_parts 1 ps) refl
      (omega (arith, count_patterns 0 ps, same_parts_part_total 0 ps)) (omega (arith, count_patterns 1 ps, same_parts_part_total 1 ps))

  same_parts_part_total : (n : ℕ) (ps : Parts) → parts_part_total (pattern_parts n ps) ≡ parts_part_total ps
  same_parts_part_total n none = refl
  same_parts_part_total zero (part t ps) = omega (arith, same_part_total t, same_parts_part_total zero ps)
  same_parts_part_total (suc n) (part t ps) = omega (arith, same_parts_part_total n ps)
  same_parts_part_total zero (gap ps) = same_parts_part_total zero ps
  same_parts_part_total (suc n) (gap ps) = same_parts_part_total n ps

mutual
  same_last_place : (t : Tree) → last_place (pattern_tree t) ≡ last_place t
  same_last_place (node k w g s e ps) =
      chosen_has (λ qs. max (max s e) (parts_last_place qs) ≡ max (max s e) (parts_last_place ps)) k ps (pattern_parts 0 ps) (pattern_parts 1 ps) refl
      (ap (max (max s e)) (same_parts_last_place 0 ps)) (ap (max (max s e)) (same_parts_last_place 1 ps))

  same_parts_last_place : (n : ℕ) (ps : Parts) → parts_last_place (pattern_parts n ps) ≡ parts_last_place ps
  same_parts_last_place n none = refl
  same_parts_last_place zero (part t ps) = omega (arith, same_last_place t, same_parts_last_place zero ps)
  same_parts_last_place (suc n) (part t ps) = omega (arith, same_parts_last_place n ps)
  same_parts_last_place zero (gap ps) = same_parts_last_place zero ps
  same_parts_last_place (suc n) (gap ps) = same_parts_last_place n ps

-- As many parts stand there as the nodes have

abbrev lengths : List Pool → ℕ
lengths [] = 0
lengths (os ∷ rs) = length os + lengths rs

lengths-append : (rs us : List Pool) → lengths (rs ++ us) ≡ lengths rs + lengths us
lengths-append [] us = omega arith
lengths-append (os ∷ rs) us = omega (arith, lengths-append rs us)

mutual
  run_lengths : (i : ℕ) (t : Tree) → lengths (runs_of i t) ≡ part_total t
  run_lengths i (node k w g s e ps) = omega (arith, lengths-append (parts_runs i ps) (numbers_of i ps ∷ []), parts_run_lengths i ps, length-numbers_of i ps)

  parts_run_lengths : (i : ℕ) (ps : Parts) → lengths (parts_runs i ps) ≡ parts_part_total ps
  parts_run_lengths i none = refl
  parts_run_lengths i (part t ps) = omega (arith, lengths-append (runs_of i t) (parts_runs (i + node_total t) ps), run_lengths i t, parts_run_lengths (i + node_total t) ps)
  parts_run_lengths i (gap ps) = parts_run_lengths i ps

ordered_lengths : (pool : Pool) (i n at : ℕ) (es : List FlatNode) → AreLinked pool i es → AreInOrder n at es → at + lengths (node_runs pool es) ≡ n
ordered_lengths pool i n at [] a h = omega (arith, h)
ordered_lengths pool i n at (e ∷ es) a h =
    omega (arith, a.0, length-take e.count (drop e.first pool), length-drop e.first pool, ordered_lengths pool (i + 1) n (at + e.count) es a.1.1 h.1)

parts_built : (g : FlatBuilder) (w : Parts) → AreNodesOf g w → length g.parts.items ≡ parts_part_total w
parts_built g w h =
    omega (arith, ordered_lengths g.parts.items 0 (length g.parts.items) 0 g.nodes.items h.sound.linked h.sound.in_order, ap lengths h.runs, parts_run_lengths 0 w)

-- What one more node makes of their sizes

-- so many more nodes and parts, and places up to one
record Grows (v w : Parts) (nodes parts place : ℕ) : Type 0 where
  total : parts_total w ≡ parts_total v + nodes
  held : parts_part_total w ≡ parts_part_total v + parts
  last : parts_last_place w ≡ max (parts_last_place v) place

stays : (v w : Parts) (nodes parts place : ℕ) → Grows v w nodes parts place → AreTooLarge v → AreTooLarge w
stays v w nodes parts place g h = omega (arith, h, g.total, g.held, g.last)

module _ (l : Label) (n : ℕ) (w : Parts) where
  grows_pushed : Grows w (push (all_but n w) (node l.kind l.text l.flags l.start l.stop (last_parts n w))) 1 (part_count (last_parts n w)) (max l.start l.stop)
  grows_pushed =
      let base = all_but n w in
      let own = last_parts n w in
      let t : Tree = node l.kind l.text l.flags l.start l.stop own in
      let whole = cut_last n w in
      let made = push-join base t in
      record {
        total = omega (arith, ap parts_total whole, ap parts_total made, parts_total-join base own, parts_total-join base (part t none));
        held = omega (arith, ap parts_part_total whole, ap parts_part_total made, parts_part_total-join base own, parts_part_total-join base (part t none));
        last = omega (arith, ap parts_last_place whole, ap parts_last_place made, parts_last_place-join base own, parts_last_place-join base (part t none));
      }

  grows_led : Grows w (join (all_but n w) (part (node l.kind l.text l.flags l.start l.stop none) (last_parts n w))) 1 0 (max l.start l.stop)
  grows_led =
      let base = all_but n w in
      let own = last_parts n w in
      let t : Tree = node l.kind l.text l.flags l.start l.stop none in
      let whole = cut_last n w in
      record {
        total = omega (arith, ap parts_total whole, parts_total-join base own, parts_total-join base (part t own));
        held = omega (arith, ap parts_part_total whole, parts_part_total-join base own, parts_part_total-join base (part t own));
        last = omega (arith, ap parts_last_place whole, parts_last_place-join base own, parts_last_place-join base (part t own));
      }

  stays_pushed : AreTooLarge w → AreTooLarge (push (all_but n w) (node l.kind l.text l.flags l.start l.stop (last_parts n w)))
  stays_pushed h = stays w _ _ _ _ grows_pushed h

  stays_led : AreTooLarge w → AreTooLarge (join (all_but n w) (part (node l.kind l.text l.flags l.start l.stop none) (last_parts n w)))
  stays_led h = stays w _ _ _ _ grows_led h

  overflows_pushed : (g : FlatBuilder) (count : ℕ) → AreNodesOf g w → count ≡ min n (length g.waiting.items) → Overflows g l count → AreTooLarge (push (all_but n w) (node l.kind l.text l.flags l.start l.stop (last_parts n w)))
  overflows_pushed g count h c o =
      let s = grows_pushed in
      omega (arith, o, c, s.total, s.held, s.last, count_built g w h, parts_built g w h, all_wait g w h, part_count-all_but n w, ap part_count (cut_last n w), part_count-join (all_but n w) (last_parts n w))

  overflows_led : (g : FlatBuilder) → AreNodesOf g w → Overflows g l 0 → AreTooLarge (join (all_but n w) (part (node l.kind l.text l.flags l.start l.stop none) (last_parts n w)))
  overflows_led g h o = let s = grows_led in omega (arith, o, s.total, s.held, s.last, count_built g w h, parts_built g w h)

stays_gap : (w : Parts) → AreTooLarge w → AreTooLarge (push_gap w)
stays_gap w h =
    let made : push_gap w ≡ join w (gap none) = sym (join-none (push_gap w)) ∙ sym (join-gap w none) in
    omega (arith, h, ap parts_total made, ap parts_part_total made, ap parts_last_place made, parts_total-join w (gap none), parts_part_total-join w (gap none), parts_last_place-join w (gap none))

stays_patterns : (n : ℕ) (w : Parts) → AreTooLarge w → AreTooLarge (join (all_but n w) (pattern_parts 0 (last_parts n w)))
stays_patterns n w h =
    let base = all_but n w in
    let own = last_parts n w in
    let made = pattern_parts 0 own in
    let whole = cut_last n w in
    omega (
      arith,
      h,
      ap parts_total whole,
      ap parts_part_total whole,
      ap parts_last_place whole,
      parts_total-join base own,
      parts_part_total-join base own,
      parts_last_place-join base own,
      parts_total-join base made,
      parts_part_total-join base made,
      parts_last_place-join base made,
      same_parts_total 0 own,
      same_parts_part_total 0 own,
      same_parts_last_place 0 own,
    )

-- What a call of the builder leaves, where others are shown: it is done, or refused, or another was refused before

module _ (g h : FlatBuilder) (o : Option BuildError) (w shown : Parts) where
  done : o ≡ None → AreNodesOf h shown → Holds h o shown
  done e a = record { nodes = λ _. a; too_large = λ f. absurd (cc) }

  refused : (e : BuildError) → (e ≡ TooLarge → AreTooLarge shown) → Holds h (Some e) shown
  refused e a = record { nodes = λ f. absurd (cc); too_large = λ f. a (cc) }

  still : is_some o ≡ true → Holds g o w → (AreTooLarge w → AreTooLarge shown) → Holds g o shown
  still s a stay = record { nodes = λ e. absurd (let q : false ≡ true = sym (ap is_some e) ∙ s in cc); too_large = λ e. stay (a.too_large e) }

  -- a gap waits
  module _ (is : shown ≡ push_gap w) where
    pub gap_done : o ≡ None → Holds g o w → AddsGap g h → Holds h o shown
    gap_done e a f = done e (subst (λ (u : Parts). AreNodesOf h u) (sym is) (one_gap g h w (a.nodes e) f))

    pub gap_refused : (e : BuildError) → e ≡ Memory → Holds h (Some e) shown
    gap_refused e m = refused e (λ f. absurd (cc))

    pub gap_still : is_some o ≡ true → Holds g o w → Holds g o shown
    gap_still s a = still s a (λ t. subst (λ (u : Parts). AreTooLarge u) (sym is) (stays_gap w t))

  -- patterns wait
  module _ (n : ℕ) (is : shown ≡ join (all_but n w) (pattern_parts 0 (last_parts n w))) where
    pub patterns_done : o ≡ None → AreNodesOf h (join (all_but n w) (pattern_parts 0 (last_parts n w))) → Holds h o shown
    patterns_done e a = done e (subst (λ (u : Parts). AreNodesOf h u) (sym is) a)

    pub patterns_still : is_some o ≡ true → Holds g o w → Holds g o shown
    patterns_still s a = still s a (λ t. subst (λ (u : Parts). AreTooLarge u) (sym is) (stays_patterns n w t))

  -- a node waits in the place of the last so many
  module _ (l : Label) (n : ℕ) (is : shown ≡ push (all_but n w) (node l.kind l.text l.flags l.start l.stop (last_parts n w))) where
    pub node_done : (kept : ℕ) → o ≡ None → Holds g o w → Finishes g h l kept → kept ≡ length g.waiting.items - n → Holds h o shown
    node_done kept e a f k = done e (subst (λ (u : Parts). AreNodesOf h u) (sym is) (finishes g h l n kept w (a.nodes e) f k))

    pub node_refused : (count : ℕ) (e : BuildError) → o ≡ None → Holds g o w → count ≡ min n (length g.waiting.items) → (e ≡ TooLarge → Overflows g l count) → Holds h (Some e) shown
    node_refused count e i a c f = refused e (λ t. subst (λ (u : Parts). AreTooLarge u) (sym is) (overflows_pushed l n w g count (a.nodes i) c (f t)))

    pub node_still : is_some o ≡ true → Holds g o w → Holds g o shown
    node_still s a = still s a (λ t. subst (λ (u : Parts). AreTooLarge u) (sym is) (stays_pushed l n w t))

  -- a node waits before the last so many
  module _ (l : Label) (n : ℕ) (is : shown ≡ join (all_but n w) (part (node l.kind l.text l.flags l.start l.stop none) (last_parts n w))) where
    pub led_done : o ≡ None → AreNodesOf h (join (all_but n w) (part (node l.kind l.text l.flags l.start l.stop none) (last_parts n w))) → Holds h o shown
    led_done e a = done e (subst (λ (u : Parts). AreNodesOf h u) (sym is) a)

    pub led_refused : (e : BuildError) → o ≡ None → Holds g o w → (e ≡ TooLarge → Overflows g l 0) → Holds h (Some e) shown
    led_refused e i a f = refused e (λ t. subst (λ (u : Parts). AreTooLarge u) (sym is) (overflows_led l n w g (a.nodes i) (f t)))

    pub led_still : is_some o ≡ true → Holds g o w → Holds g o shown
    led_still s a = still s a (λ t. subst (λ (u : Parts). AreTooLarge u) (sym is) (stays_led l n w t))

-- the node of all that waits, as the builder ends
pub made_too_large : (t : Tree) → AreTooLarge (push none t) → IsTooLarge t
made_too_large t h = omega (arith, h)
