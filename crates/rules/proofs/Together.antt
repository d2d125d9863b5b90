-- Rules on nodes in one walk: what they find is what each of them finds, in another order.
use Rattle.std.proofs.Common.{◌≡◌, ℕ, suc, ◌+◌, ◌<◌, ◌≤◌, length, drop, get_or, add-one, Bool, true, cond, List, [], ◌∷◌, ◌++◌, refl, sym, ap, ◌∙◌, subst, append_assoc, append-nil, IsPermutation}
use Rattle.std.proofs.lemmas.List.Sorted.{IsPermutation-trans, IsPermutation-append_left, IsPermutation-append_right, IsPermutation-append_comm}
use Rattle.std.proofs.Math.Seq.{drop-cons}
use Rattle.std.proofs.lemmas.List.{drop_all}
use Rattle.tree.specs.Tree.{Tree}
use Rattle.rule_words.specs.Reports.{Report}
use Rattle.node_rules.specs.declared.node_rule.NodeOptions.{NodeOptions}
use Rattle.node_rules.specs.declared.node_rule.NodeRule.{NodeRule}
use Rattle.node_rules.specs.Arounds.{round_root}
use Rattle.node_rules.specs.Over.{over_nodes}
use Rattle.node_rules.specs.Rows.{of_node, of_rules}
use Rattle.node_rules.proofs.Together.{both-nodes, no-rules, same-permutation}
use Rattle.rules.specs.NodeRules.{found_on_nodes}
use Rattle.rules.specs.Rules.{View, node_options, on_nodes}

-- no rules find nothing
pub none-on-nodes : (v : View) → found_on_nodes [] v ≡ []
none-on-nodes v = no-rules (node_options v.settings) v.text [] v.tree refl

-- one more rule reports what it reports
joined : (options : NodeOptions) (source : List ℕ) (rs : List NodeRule) (r : NodeRule) (a : _) (t : Tree) → of_rules options source (rs ++ r ∷ []) a t ≡ of_rules options source rs a t ++ of_node options source r a t
joined options source [] r a t = append-nil (of_node options source r a t)
joined options source (x ∷ xs) r a t = ap (λ l. of_node options source x a t ++ l) (joined options source xs r a t) ∙ sym (append_assoc (of_node options source x a t) (of_rules options source xs a t) (of_node options source r a t))

-- a rule joins those that run together
pub joins : (rs : List NodeRule) (r : NodeRule) (v : View) → IsPermutation (found_on_nodes rs v ++ on_nodes r v) (found_on_nodes (rs ++ r ∷ []) v)
joins rs r v =
    let o : NodeOptions = node_options v.settings in
    subst (IsPermutation (found_on_nodes rs v ++ on_nodes r v)) (λ i. over_nodes (λ a t. sym (joined o v.text rs r a t) i) round_root v.tree)
    (both-nodes (of_rules o v.text rs) (of_node o v.text r) round_root v.tree)

-- one rule alone
pub alone : (r : NodeRule) (v : View) → found_on_nodes (r ∷ []) v ≡ on_nodes r v
alone r v = λ i. over_nodes (λ a t. append-nil (of_node (node_options v.settings) v.text r a t) i) round_root v.tree

-- ---- a list of rules, one by one

-- a rule joins those that run together
pub after-joining : (out found new rest : List Report) (alone : List Report) → rest ≡ alone → IsPermutation (found ++ alone) new → IsPermutation ((out ++ found) ++ rest) (out ++ new)
after-joining out found new rest alone e h =
    subst (λ l. IsPermutation ((out ++ found) ++ l) (out ++ new)) (sym e)
    (subst (λ l. IsPermutation l (out ++ new)) (sym (append_assoc out found alone)) (IsPermutation-append_right out _ _ h))

-- a rule has run alone
pub after-running : (out found new more : List Report) → new ≡ out ++ more → IsPermutation ((out ++ found) ++ more) (new ++ found)
after-running out found new more e =
    subst (λ l. IsPermutation ((out ++ found) ++ more) (l ++ found)) (sym e)
    (IsPermutation-trans _ _ _ (same-permutation _ _ (append_assoc out found more))
    (IsPermutation-trans _ _ _ (IsPermutation-append_right out _ _ (IsPermutation-append_comm found more)) (same-permutation _ _ (sym (append_assoc out more found)))))

pub is-on : (on : Bool) (fs gs : List Report) → on ≡ true → fs ≡ gs → cond on fs [] ≡ gs
is-on on fs gs h e = ap (λ b. cond b fs []) h ∙ e

pub rules-begin : (each out found : List Report) → out ≡ [] → found ≡ [] → IsPermutation each (out ++ (found ++ each))
rules-begin each out found o e = same-permutation each (out ++ (found ++ each)) (ap (λ l. l ++ each) (sym e) ∙ ap (λ l. l ++ (found ++ each)) (sym o))

pub names-turn : {X : Type 0} (xs : List X) (i : ℕ) (d : X) (each : List X → List Report) (one : X → List Report) → ((y : X) (ys : List X) → each (y ∷ ys) ≡ one y ++ each ys) → (all out found out' found' : List Report) → i < length xs →
    IsPermutation ((out ++ found) ++ one (get_or xs i d)) (out' ++ found') → IsPermutation all (out ++ (found ++ each (drop i xs))) → IsPermutation all (out' ++ (found' ++ each (drop (i + 1) xs)))
names-turn {X} xs i d each one step all out found out' found' l h so =
    let x : X = get_or xs i d in
    let rest : List Report = each (drop (suc i) xs) in
    let split : each (drop i xs) ≡ one x ++ rest = ap each (drop-cons xs i d l) ∙ step x (drop (suc i) xs) in
    rw (add-one i) (IsPermutation-trans _ _ _ so
    (IsPermutation-trans _ _ _ (same-permutation _ _ (ap (λ t. out ++ (found ++ t)) split ∙ sym (append_assoc out found (one x ++ rest)) ∙ sym (append_assoc (out ++ found) (one x) rest)))
    (IsPermutation-trans _ _ _ (IsPermutation-append_left rest _ _ h) (same-permutation _ _ (append_assoc out' found' rest)))))

pub rules-turn : {X : Type 0} (xs : List X) (i : ℕ) (x : X) (each : List X → List Report) (one : X → List Report) → ((y : X) (ys : List X) → each (y ∷ ys) ≡ one y ++ each ys) → (all out found out' found' : List Report) → i < length xs → x ≡ get_or xs i x →
    IsPermutation ((out ++ found) ++ one x) (out' ++ found') → IsPermutation all (out ++ (found ++ each (drop i xs))) → IsPermutation all (out' ++ (found' ++ each (drop (i + 1) xs)))
rules-turn xs i x each one step all out found out' found' l is h so =
    names-turn xs i x each one step all out found out' found' l (subst (λ y. IsPermutation ((out ++ found) ++ one y) (out' ++ found')) is h) so

pub rules-end : {X : Type 0} (xs : List X) (i : ℕ) (each : List X → List Report) → each [] ≡ [] → (all out found new : List Report) → length xs ≤ i → new ≡ out ++ found → IsPermutation all (out ++ (found ++ each (drop i xs))) → IsPermutation all new
rules-end xs i each nothing all out found new l e so =
    IsPermutation-trans _ _ _ so
    (same-permutation _ _ (ap (λ t. out ++ (found ++ t)) (ap each (drop_all i xs l) ∙ nothing) ∙ ap (λ t. out ++ t) (append-nil found) ∙ sym e))

-- what rules of names find, and what the others do
pub with-others : (each found out new : List Report) → IsPermutation found out → IsPermutation (each ++ out) new → IsPermutation (each ++ found) new
with-others each found out new f n = IsPermutation-trans _ _ _ (IsPermutation-append_right each _ _ f) n
