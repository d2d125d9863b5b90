-- What waits in the tree, from one call to the next: a base, and behind it the parts of the node that is being made.
use Rattle.std.proofs.Common.{◌≡◌, ◌∙◌, ap, sym, Result, Ok, Err}
use Rattle.std.specs.Prelude.{IfOk}
use Rattle.source_text.specs.declared.fault.Fault.{Fault}
use Rattle.tree.specs.Tree.{Tree, Parts, none, part, push, push_gap, join}
use Rattle.covers.specs.declared.list.ListBuilder.{ListBuilder}
use Rattle.covers.specs.declared.list.ListItem.{ListItem}
use Rattle.covers.specs.declared.list.ListSummary.{ListSummary}
use Rattle.tree.proofs.Joined.{join-none, join-one, join-two, join-push, join-push_gap, join-join}

-- no parts yet
pub waits_none : {tree nodes : Parts} → nodes ≡ none → tree ≡ join tree nodes
waits_none {tree} empty = sym (join-none tree) ∙ ap (join tree) (sym empty)

-- a node is the only part so far
pub waits_one : {tree nodes : Parts} (base : Parts) {n : Tree} → tree ≡ push base n → nodes ≡ part n none → tree ≡ join base nodes
waits_one base {n} last one = last ∙ sym (join-one base n) ∙ ap (join base) (sym one)

-- two nodes are the parts
pub waits_two : {tree nodes : Parts} (base : Parts) {m n : Tree} → tree ≡ push (push base m) n → nodes ≡ part m (part n none) → tree ≡ join base nodes
waits_two base {m} {n} last two = last ∙ sym (join-two base m n) ∙ ap (join base) (sym two)

-- one more part
pub waits_push : {old new more : Parts} (base nodes : Parts) (n : Tree) → old ≡ join base nodes → new ≡ push old n → more ≡ push nodes n → new ≡ join base more
waits_push base nodes n before last pushed = last ∙ ap (λ ps. push ps n) before ∙ sym (join-push base nodes n) ∙ ap (join base) (sym pushed)

-- one more gap
pub waits_gap : {old new more : Parts} (base nodes : Parts) → old ≡ join base nodes → new ≡ push_gap old → more ≡ push_gap nodes → new ≡ join base more
waits_gap base nodes before last pushed = last ∙ ap push_gap before ∙ sym (join-push_gap base nodes) ∙ ap (join base) (sym pushed)

-- further parts
pub waits_join : {old new more : Parts} (base nodes further : Parts) → old ≡ join base nodes → new ≡ join old further → more ≡ join nodes further → new ≡ join base more
waits_join base nodes further before last joined = last ∙ ap (λ ps. join ps further) before ∙ sym (join-join base nodes further) ∙ ap (join base) (sym joined)

-- a node is the only part so far, as what it was settled to be
pub waits_first : {tree nodes : Parts} (base : Parts) {m n : Tree} → tree ≡ push base n → m ≡ n → nodes ≡ part m none → tree ≡ join base nodes
waits_first base last settled one = waits_one base (last ∙ ap (push base) (sym settled)) one

-- one more part, as what it was settled to be
pub waits_on : {old new more : Parts} (base nodes : Parts) (n : Tree) {m : Tree} → old ≡ join base nodes → new ≡ push old m → n ≡ m → more ≡ push nodes n → new ≡ join base more
waits_on {old} base nodes n before last settled pushed = waits_push base nodes n before (last ∙ ap (push old) (sym settled)) pushed

-- what an arm hands on, behind a call that touched no nodes
pub waits_behind : {X E : Type 0} {old mid : Parts} (new : Parts) (f : X → Tree) (r : Result X E) → mid ≡ old → IfOk r (λ x. new ≡ push mid (f x)) → IfOk r (λ x. new ≡ push old (f x))
waits_behind new f (Ok x) same h = h ∙ ap (λ ps. push ps (f x)) same
waits_behind new f (Err e) same h = tt

-- a list takes a hole
pub hole_waits : {old : Parts} (new : Parts) (after : ListBuilder) (s : ListSummary) (base : Parts) (list : ListBuilder) → old ≡ join base list.nodes → (r : Result Unit Fault) → IfOk r (λ _. new ≡ push_gap old) → IfOk r (λ _. after ≡ record list { nodes = push_gap list.nodes; seen = s }) → IfOk r (λ _. new ≡ join base after.nodes)
hole_waits new after s base list h (Ok done) last pushed = waits_gap base list.nodes h last (ap (λ (l : ListBuilder). l.nodes) pushed)
hole_waits new after s base list h (Err fault) last pushed = tt

-- a list takes an item
pub item_waits : {old new : Parts} (after : ListBuilder) (s : ListSummary) (base : Parts) (list : ListBuilder) (item : ListItem) → old ≡ join base list.nodes → new ≡ push old item.node → (r : Result Unit Fault) → IfOk r (λ _. after ≡ record list { nodes = push list.nodes item.node; seen = s }) → IfOk r (λ _. new ≡ join base after.nodes)
item_waits after s base list item h last (Ok done) pushed = waits_push base list.nodes item.node h last (ap (λ (l : ListBuilder). l.nodes) pushed)
item_waits after s base list item h last (Err fault) pushed = tt

-- one more part, where there is a number for it
pub push_waits : {old new : Parts} (more base nodes : Parts) (n : Tree) → old ≡ join base nodes → new ≡ push old n → (r : Result Unit Fault) → IfOk r (λ _. more ≡ push nodes n) → IfOk r (λ _. new ≡ join base more)
push_waits more base nodes n before last (Ok done) pushed = waits_push base nodes n before last pushed
push_waits more base nodes n before last (Err fault) pushed = tt

-- one more gap, where there is a number for it
pub gap_waits : {old : Parts} (new more base nodes : Parts) → old ≡ join base nodes → (r : Result Unit Fault) → IfOk r (λ _. new ≡ push_gap old) → IfOk r (λ _. more ≡ push_gap nodes) → IfOk r (λ _. new ≡ join base more)
gap_waits new more base nodes before (Ok done) last pushed = waits_gap base nodes before last pushed
gap_waits new more base nodes before (Err fault) last pushed = tt

-- further parts, where there is a number for them
pub join_waits : {old new : Parts} (more base nodes further : Parts) → old ≡ join base nodes → new ≡ join old further → (r : Result Unit Fault) → IfOk r (λ _. more ≡ join nodes further) → IfOk r (λ _. new ≡ join base more)
join_waits more base nodes further before last (Ok done) joined = waits_join base nodes further before last joined
join_waits more base nodes further before last (Err fault) joined = tt
