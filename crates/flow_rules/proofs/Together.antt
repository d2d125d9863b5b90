-- Rules in one walk find what each of them finds, in another order: once, for any list of rules.
use Rattle.std.proofs.Common.{◌≡◌, ℕ, true, nat_eq, length, List, [], ◌∷◌, ◌++◌, refl, sym, ap, ◌∙◌, subst, append_assoc, IsPermutation}
use Rattle.std.proofs.lemmas.Bool.{eqb-true}
use Rattle.std.proofs.lemmas.List.{nil_from_length}
use Rattle.std.proofs.lemmas.List.Sorted.{IsPermutation-refl, IsPermutation-trans, IsPermutation-append, IsPermutation-append_left, IsPermutation-append_right, IsPermutation-append_comm}
use Rattle.tree.specs.Tree.{Tree, node, Parts, none, part, gap}
use Rattle.rule_words.specs.Reports.{Report}
use Rattle.flow_rules.specs.declared.around.Around.{Around}
use Rattle.flow_rules.specs.declared.flow.Flow.{Flow}
use Rattle.flow_rules.specs.declared.flow_rule.FlowRule.{FlowRule}
use Rattle.flow_rules.specs.Arounds.{inside, behind, behind_gap, round_root}
use Rattle.flow_rules.specs.Flows.{flow_of}
use Rattle.flow_rules.specs.Found.{found_by_rules}
use Rattle.flow_rules.specs.Laws.{FindTogether}
use Rattle.flow_rules.specs.Over.{over_nodes, over_parts}
use Rattle.flow_rules.specs.Rows.{of_node, of_rules}

pub same-permutation : {X : Type 0} (xs ys : List X) → xs ≡ ys → IsPermutation xs ys
same-permutation xs ys e = subst (IsPermutation xs) e (IsPermutation-refl xs)

-- the two in the middle change places
middle-permutation : {X : Type 0} (a b c d : List X) → IsPermutation ((a ++ b) ++ (c ++ d)) ((a ++ c) ++ (b ++ d))
middle-permutation a b c d =
    IsPermutation-trans _ _ _ (same-permutation _ _ (append_assoc a b (c ++ d) ∙ ap (λ l. a ++ l) (sym (append_assoc b c d))))
    (IsPermutation-trans _ _ _ (IsPermutation-append_right a _ _ (IsPermutation-append_left d _ _ (IsPermutation-append_comm b c)))
    (same-permutation _ _ (ap (λ l. a ++ l) (append_assoc c b d) ∙ sym (append_assoc a c (b ++ d)))))

mutual
  unfolding over_nodes over_parts

  pub both-nodes : (f g : Around → Flow → Tree → List Report) (a : Around) (t : Tree) → IsPermutation (over_nodes f a t ++ over_nodes g a t) (over_nodes (λ a w t. f a w t ++ g a w t) a t)
  both-nodes f g a (node k w x s e ps) =
      IsPermutation-trans _ _ _ (middle-permutation (over_parts f (inside a (node k w x s e ps)) ps) (f a (flow_of (node k w x s e ps)) (node k w x s e ps)) (over_parts g (inside a (node k w x s e ps)) ps) (g a (flow_of (node k w x s e ps)) (node k w x s e ps)))
      (IsPermutation-append_left (f a (flow_of (node k w x s e ps)) (node k w x s e ps) ++ g a (flow_of (node k w x s e ps)) (node k w x s e ps)) _ _ (both-parts f g (inside a (node k w x s e ps)) ps))

  both-parts : (f g : Around → Flow → Tree → List Report) (a : Around) (ps : Parts) → IsPermutation (over_parts f a ps ++ over_parts g a ps) (over_parts (λ a w t. f a w t ++ g a w t) a ps)
  both-parts f g a none = IsPermutation-refl []
  both-parts f g a (part t ps) =
      IsPermutation-trans _ _ _ (middle-permutation (over_nodes f a t) (over_parts f (behind a (flow_of t) t) ps) (over_nodes g a t) (over_parts g (behind a (flow_of t) t) ps))
      (IsPermutation-append _ _ _ _ (both-nodes f g a t) (both-parts f g (behind a (flow_of t) t) ps))
  both-parts f g a (gap ps) = both-parts f g (behind_gap a) ps

mutual
  unfolding over_nodes over_parts

  nothing-nodes : (a : Around) (t : Tree) → over_nodes (λ a w t. []) a t ≡ []
  nothing-nodes a (node k w x s e ps) = ap (λ l. l ++ []) (nothing-parts (inside a (node k w x s e ps)) ps)

  nothing-parts : (a : Around) (ps : Parts) → over_parts (λ a w t. []) a ps ≡ []
  nothing-parts a none = refl
  nothing-parts a (part t ps) = ap (λ l. l ++ over_parts (λ a w t. []) (behind a (flow_of t) t) ps) (nothing-nodes a t) ∙ nothing-parts (behind a (flow_of t) t) ps
  nothing-parts a (gap ps) = nothing-parts (behind_gap a) ps

-- no rules find nothing
none-found : (source : List ℕ) (t : Tree) → found_by_rules source [] t ≡ []
none-found source t = nothing-nodes round_root t

pub no-rules : (source : List ℕ) (rules : List FlowRule) (t : Tree) → nat_eq (length rules) 0 ≡ true → found_by_rules source rules t ≡ []
no-rules source rules t h = ap (λ rs. found_by_rules source rs t) (nil_from_length rules (eqb-true (length rules) 0 h)) ∙ none-found source t

pub together : FindTogether
together source [] t = same-permutation [] (over_nodes (λ a w u. []) round_root t) (sym (nothing-nodes round_root t))
together source (r ∷ rs) t = IsPermutation-trans _ _ _ (IsPermutation-append_right (over_nodes (of_node source r) round_root t) _ _ (together source rs t)) (both-nodes (of_node source r) (of_rules source rs) round_root t)

rules-append : (source : List ℕ) (rs qs : List FlowRule) (a : Around) (w : Flow) (u : Tree) → of_rules source (rs ++ qs) a w u ≡ of_rules source rs a w u ++ of_rules source qs a w u
rules-append source [] qs a w u = refl
rules-append source (r ∷ rs) qs a w u = ap (λ l. of_node source r a w u ++ l) (rules-append source rs qs a w u) ∙ sym (append_assoc (of_node source r a w u) (of_rules source rs a w u) (of_rules source qs a w u))

-- two lists of rules, one behind the other
pub both : (source : List ℕ) (rs qs : List FlowRule) (t : Tree) → IsPermutation (found_by_rules source rs t ++ found_by_rules source qs t) (found_by_rules source (rs ++ qs) t)
both source rs qs t =
    subst (IsPermutation (found_by_rules source rs t ++ found_by_rules source qs t)) (λ i. over_nodes (λ a w u. sym (rules-append source rs qs a w u) i) round_root t)
    (both-nodes (of_rules source rs) (of_rules source qs) round_root t)
