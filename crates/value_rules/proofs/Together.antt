-- Rules in one walk find what each of them finds, in another order: once, for any list of rules.
use Rattle.std.proofs.Common.{◌≡◌, true, nat_eq, length, List, [], ◌∷◌, ◌++◌, refl, sym, ap, ◌∙◌, subst, append_assoc, IsPermutation}
use Rattle.std.proofs.lemmas.Bool.{eqb-true}
use Rattle.std.proofs.lemmas.List.{nil_from_length}
use Rattle.std.proofs.lemmas.List.Sorted.{IsPermutation-refl, IsPermutation-trans, IsPermutation-append_left, IsPermutation-append_right, IsPermutation-append_comm}
use Rattle.tree.specs.Tree.{Tree}
use Rattle.tree.specs.Flat.{post_order}
use Rattle.rule_words.specs.Reports.{Report}
use Rattle.value_rules.specs.declared.value_rule.ValueRule.{ValueRule}
use Rattle.value_rules.specs.Found.{each, found_by_rule, found_by_rules, of_node, over_nodes}
use Rattle.value_rules.specs.Laws.{FindTogether}

equal-permutation : {X : Type 0} (xs ys : List X) → xs ≡ ys → IsPermutation xs ys
equal-permutation xs ys e = subst (IsPermutation xs) e (IsPermutation-refl xs)

-- the two in the middle change places
crossed : {X : Type 0} (a b c d : List X) → IsPermutation ((a ++ b) ++ (c ++ d)) ((a ++ c) ++ (b ++ d))
crossed a b c d =
    IsPermutation-trans _ _ _ (equal-permutation _ _ (append_assoc a b (c ++ d) ∙ ap (λ l. a ++ l) (sym (append_assoc b c d))))
    (IsPermutation-trans _ _ _ (IsPermutation-append_right a _ _ (IsPermutation-append_left d _ _ (IsPermutation-append_comm b c)))
    (equal-permutation _ _ (ap (λ l. a ++ l) (append_assoc c b d) ∙ sym (append_assoc a c (b ++ d)))))

each-append : {X : Type 0} (f : X → List Report) (xs ys : List X) → each f (xs ++ ys) ≡ each f xs ++ each f ys
each-append f [] ys = refl
each-append f (x ∷ xs) ys = ap (λ l. f x ++ l) (each-append f xs ys) ∙ sym (append_assoc (f x) (each f xs) (each f ys))

each-both : {X : Type 0} (f g : X → List Report) (xs : List X) → IsPermutation (each f xs ++ each g xs) (each (λ x. f x ++ g x) xs)
each-both f g [] = IsPermutation-refl []
each-both f g (x ∷ xs) = IsPermutation-trans _ _ _ (crossed (f x) (each f xs) (g x) (each g xs)) (IsPermutation-append_right (f x ++ g x) _ _ (each-both f g xs))

each-nothing : {X : Type 0} (xs : List X) → each (λ x. []) xs ≡ []
each-nothing [] = refl
each-nothing (x ∷ xs) = each-nothing xs

-- two lists of rules, one behind the other
pub both : (rs qs : List ValueRule) (ts : List Tree) → IsPermutation (over_nodes rs ts ++ over_nodes qs ts) (over_nodes (rs ++ qs) ts)
both rs qs ts =
    subst (IsPermutation (over_nodes rs ts ++ over_nodes qs ts)) (λ i. each (λ t. sym (each-append (λ r. of_node r t) rs qs) i) ts)
    (each-both (λ t. each (λ r. of_node r t) rs) (λ t. each (λ r. of_node r t) qs) ts)

-- no rules find nothing
none-found : (t : Tree) → found_by_rules [] t ≡ []
none-found t = each-nothing (post_order t)

pub no-rules : (rules : List ValueRule) (t : Tree) → nat_eq (length rules) 0 ≡ true → found_by_rules rules t ≡ []
no-rules rules t h = ap (λ rs. found_by_rules rs t) (nil_from_length rules (eqb-true (length rules) 0 h)) ∙ none-found t

pub together : FindTogether
together [] t = equal-permutation [] (found_by_rules [] t) (sym (none-found t))
together (r ∷ rs) t = IsPermutation-trans _ _ _ (IsPermutation-append_right (found_by_rule r t) _ _ (together rs t)) (both (r ∷ []) rs (post_order t))
