-- Rules in one walk find what each of them finds, in another order: once, for any list of rules.
use Rattle.std.proofs.Common.{◌≡◌, ℕ, ◌+◌, true, nat_eq, length, List, [], ◌∷◌, ◌++◌, refl, sym, ap, ◌∙◌, subst, append_assoc, append-nil, IsPermutation}
use Rattle.std.proofs.lemmas.Bool.{eqb-true}
use Rattle.std.proofs.lemmas.List.{nil_from_length}
use Rattle.std.proofs.lemmas.List.Sorted.{IsPermutation-refl, IsPermutation-trans, IsPermutation-append, IsPermutation-append_left, IsPermutation-append_right, IsPermutation-append_comm}
use Rattle.tree.specs.Tree.{Tree, node, Parts, none, part, gap}
use Rattle.rule_words.specs.Reports.{Report}
use Rattle.node_rules.specs.declared.around.Around.{Around}
use Rattle.node_rules.specs.declared.node_rule.NodeRule.{NodeRule}
use Rattle.node_rules.specs.declared.node_rule.NodeOptions.{NodeOptions}
use Rattle.node_rules.specs.Arounds.{inside, at_place, round_root}
use Rattle.node_rules.specs.Found.{found_by_rule, found_by_rules}
use Rattle.node_rules.specs.Laws.{each_alone, FindTogether}
use Rattle.node_rules.specs.Over.{over_nodes, over_parts}
use Rattle.node_rules.specs.Rows.{of_node, of_rules}

pub same-permutation : {X : Type 0} (xs ys : List X) → xs ≡ ys → IsPermutation xs ys
same-permutation xs ys e = subst (IsPermutation xs) e (IsPermutation-refl xs)

-- the two in the middle change places
middle-permutation : {X : Type 0} (a b c d : List X) → IsPermutation ((a ++ b) ++ (c ++ d)) ((a ++ c) ++ (b ++ d))
middle-permutation a b c d =
    IsPermutation-trans _ _ _ (same-permutation _ _ (append_assoc a b (c ++ d) ∙ ap (λ l. a ++ l) (sym (append_assoc b c d))))
    (IsPermutation-trans _ _ _ (IsPermutation-append_right a _ _ (IsPermutation-append_left d _ _ (IsPermutation-append_comm b c)))
    (same-permutation _ _ (ap (λ l. a ++ l) (append_assoc c b d) ∙ sym (append_assoc a c (b ++ d)))))

mutual
  unfolding over_nodes over_parts

  pub both-nodes : (f g : Around → Tree → List Report) (a : Around) (t : Tree) → IsPermutation (over_nodes f a t ++ over_nodes g a t) (over_nodes (λ a t. f a t ++ g a t) a t)
  both-nodes f g a (node k w x s e ps) =
      IsPermutation-trans _ _ _ (middle-permutation (f a (node k w x s e ps)) (over_parts f (inside a (node k w x s e ps)) 0 ps) (g a (node k w x s e ps)) (over_parts g (inside a (node k w x s e ps)) 0 ps))
      (IsPermutation-append_right (f a (node k w x s e ps) ++ g a (node k w x s e ps)) _ _ (both-parts f g (inside a (node k w x s e ps)) 0 ps))

  both-parts : (f g : Around → Tree → List Report) (a : Around) (i : ℕ) (ps : Parts) → IsPermutation (over_parts f a i ps ++ over_parts g a i ps) (over_parts (λ a t. f a t ++ g a t) a i ps)
  both-parts f g a i none = IsPermutation-refl []
  both-parts f g a i (part t ps) =
      IsPermutation-trans _ _ _ (middle-permutation (over_nodes f (at_place a i) t) (over_parts f a (i + 1) ps) (over_nodes g (at_place a i) t) (over_parts g a (i + 1) ps))
      (IsPermutation-append _ _ _ _ (both-nodes f g (at_place a i) t) (both-parts f g a (i + 1) ps))
  both-parts f g a i (gap ps) = both-parts f g a (i + 1) ps

mutual
  unfolding over_nodes over_parts

  nothing-nodes : (a : Around) (t : Tree) → over_nodes (λ a t. []) a t ≡ []
  nothing-nodes a (node k w x s e ps) = nothing-parts (inside a (node k w x s e ps)) 0 ps

  nothing-parts : (a : Around) (i : ℕ) (ps : Parts) → over_parts (λ a t. []) a i ps ≡ []
  nothing-parts a i none = refl
  nothing-parts a i (part t ps) = ap (λ l. l ++ over_parts (λ a t. []) a (i + 1) ps) (nothing-nodes (at_place a i) t) ∙ nothing-parts a (i + 1) ps
  nothing-parts a i (gap ps) = nothing-parts a (i + 1) ps

-- no rules find nothing
none-found : (options : NodeOptions) (source : List ℕ) (t : Tree) → found_by_rules options source [] t ≡ []
none-found options source t = nothing-nodes round_root t

pub no-rules : (options : NodeOptions) (source : List ℕ) (rules : List NodeRule) (t : Tree) → nat_eq (length rules) 0 ≡ true → found_by_rules options source rules t ≡ []
no-rules options source rules t h = ap (λ rs. found_by_rules options source rs t) (nil_from_length rules (eqb-true (length rules) 0 h)) ∙ none-found options source t

pub together : FindTogether
together options source [] t = same-permutation [] (over_nodes (λ a u. []) round_root t) (sym (nothing-nodes round_root t))
together options source (r ∷ rs) t = IsPermutation-trans _ _ _ (IsPermutation-append_right (over_nodes (of_node options source r) round_root t) _ _ (together options source rs t)) (both-nodes (of_node options source r) (of_rules options source rs) round_root t)
