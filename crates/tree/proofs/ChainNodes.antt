-- Whether a `?.` stands in a member or a call whose nodes stand in a vector.
use Rattle.std.proofs.Common.{◌≡◌, ℕ, ◌+◌, ◌<◌, nat_eq, Bool, true, false, ◌&&◌, ◌||◌, List, [], ◌∷◌, length, get_or, slice_get, Option, Some, None, refl, sym, ap, ◌∙◌}
use Rattle.tree.specs.declared.flat_node.NodeNumber.{NodeNumber}
use Rattle.tree.specs.declared.flat_node.FlatNode.{FlatNode}
use Rattle.tree.specs.declared.kind.Kind.{Kind}
use Rattle.tree.specs.declared.kind.Flags.{Flags}
use Rattle.tree.specs.declared.node_use.ParentUse.{ParentUse}
use Rattle.tree.specs.declared.node_use.ChildPlace.{ChildPlace}
use Rattle.tree.specs.Kinds.{is_chain_part}
use Rattle.tree.specs.Tree.{Tree, Parts, node, none, part, gap, kind_of, flags_of, parts_of, part_at}
use Rattle.tree.specs.Flat.{run_of, AreLinked, numbers_of}
use Rattle.tree.specs.NodeUses.{contains_optional, first_contains_optional, child_place, looks}
use Rattle.tree.specs.Standing.{Stands, held_number}
use Rattle.tree.proofs.FlatTrees.{Pool, AreBefore-at}
use Rattle.tree.proofs.StandingNodes.{own_label, own_run, label_kind, label_flags, parts_stand, standing_part, node_links}

not_chain : (t : Tree) → is_chain_part (kind_of t) ≡ false → contains_optional t ≡ false
not_chain (node k w g s e ps) h = ap (λ b. b && (g.optional || first_contains_optional ps)) h

is_optional : (t : Tree) → is_chain_part (kind_of t) ≡ true → (flags_of t).optional ≡ true → contains_optional t ≡ true
is_optional (node k w g s e ps) h f = ap (λ b. b && (g.optional || first_contains_optional ps)) h ∙ ap (λ b. b || first_contains_optional ps) f

by_first : (t : Tree) (b : Bool) → is_chain_part (kind_of t) ≡ true → (flags_of t).optional ≡ false → first_contains_optional (parts_of t) ≡ b → contains_optional t ≡ b
by_first (node k w g s e ps) b h f p = ap (λ c. c && (g.optional || first_contains_optional ps)) h ∙ ap (λ c. c || first_contains_optional ps) f ∙ p

first_part : (ps : Parts) (t : Tree) → part_at ps 0 ≡ Some t → first_contains_optional ps ≡ contains_optional t
first_part none t h = absurd (cc)
first_part (part u ps) t h = let same : u ≡ t = cc in ap contains_optional same
first_part (gap ps) t h = absurd (cc)

first_gap : (i : ℕ) (ps : Parts) → held_number (slice_get (numbers_of i ps) 0) ≡ None → first_contains_optional ps ≡ false
first_gap i none h = refl
first_gap i (part t ps) h = absurd (cc)
first_gap i (gap ps) h = refl

pub first_named : (os : Pool) (q : NodeNumber) → held_number (slice_get os 0) ≡ Some q → slice_get os 0 ≡ Some (Some q)
first_named [] q h = absurd (cc)
first_named (None ∷ os) q h = absurd (cc)
first_named (Some r ∷ os) q h = ap (λ (o : Option NodeNumber). Some o) h

module _ (pool : Pool) (es : List FlatNode) (k : ℕ) (x : FlatNode) (low : k < length es) (read : x ≡ get_or es k x) where
  pub chain_false : is_chain_part x.kind ≡ false → (first : ℕ) (t : Tree) → Stands pool es first k t → false ≡ contains_optional t
  chain_false h first t s = sym (not_chain t (ap is_chain_part (sym (label_kind x t (own_label pool es first k t x s low read))) ∙ h))

  pub chain_true : is_chain_part x.kind ≡ true → x.flags.optional ≡ true → (first : ℕ) (t : Tree) → Stands pool es first k t → true ≡ contains_optional t
  chain_true h f first t s =
      let label = own_label pool es first k t x s low read in
      sym (is_optional t (ap is_chain_part (sym (label_kind x t label)) ∙ h) (ap (λ (g : Flags). g.optional) (sym (label_flags x t label)) ∙ f))

  pub chain_below : (o : Option NodeNumber) (q : NodeNumber) (b : Bool) → is_chain_part x.kind ≡ true → x.flags.optional ≡ false → o ≡ held_number (slice_get (run_of pool x) 0) → o ≡ Some q
      → ((first : ℕ) (t : Tree) → Stands pool es first q.number t → b ≡ contains_optional t) → (first : ℕ) (t : Tree) → Stands pool es first k t → b ≡ contains_optional t
  chain_below o q b h f e is below first t s =
      let label = own_label pool es first k t x s low read in
      let run = own_run pool es first k t x s low read in
      let p = standing_part pool es first (parts_of t) 0 q (parts_stand pool es first k t s) (ap (λ (os : Pool). slice_get os 0) (sym run) ∙ first_named (run_of pool x) q (sym e ∙ is)) in
      below p.start p.found p.stands
      ∙ sym (by_first t (contains_optional p.found) (ap is_chain_part (sym (label_kind x t label)) ∙ h) (ap (λ (g : Flags). g.optional) (sym (label_flags x t label)) ∙ f) (first_part (parts_of t) p.found p.is))

  pub chain_gap : (o : Option NodeNumber) → is_chain_part x.kind ≡ true → x.flags.optional ≡ false → o ≡ held_number (slice_get (run_of pool x) 0) → o ≡ None → (first : ℕ) (t : Tree) → Stands pool es first k t → false ≡ contains_optional t
  chain_gap o h f e is first t s =
      let label = own_label pool es first k t x s low read in
      let run = own_run pool es first k t x s low read in
      sym (by_first t false (ap is_chain_part (sym (label_kind x t label)) ∙ h) (ap (λ (g : Flags). g.optional) (sym (label_flags x t label)) ∙ f)
      (first_gap first (parts_of t) (ap (λ (os : Pool). held_number (slice_get os 0)) (sym run) ∙ sym e ∙ is)))

  -- the first part is before its node
  pub first_before : (o : Option NodeNumber) (q : NodeNumber) → AreLinked pool 0 es → o ≡ held_number (slice_get (run_of pool x) 0) → o ≡ Some q → q.number < k
  first_before o q a e is = AreBefore-at k (run_of pool x) 0 q (node_links pool es k x a low read).1 (first_named (run_of pool x) q (sym e ∙ is))

-- the place of a part, by its kind and whether a chain is looked at there
pub placed : (around : ParentUse) (n i : ℕ) (t : Tree) (k : Kind) (b : Bool) → k ≡ kind_of t → b ≡ looks around i && contains_optional t
    → ◌≡◌ {A = ChildPlace} (record { index = i; is_last = nat_eq (i + 1) n; kind = k; is_chained = b }) (child_place around n i t)
placed around n i t k b h e =
    ap (λ (x : Kind). let p : ChildPlace = record { index = i; is_last = nat_eq (i + 1) n; kind = x; is_chained = b } in p) h
    ∙ ap (λ (x : Bool). let p : ChildPlace = record { index = i; is_last = nat_eq (i + 1) n; kind = kind_of t; is_chained = x } in p) e
