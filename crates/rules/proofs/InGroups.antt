-- What rules find group after group is what they find one by one, in another order.
use Rattle.std.proofs.Common.{◌≡◌, ◌+◌, Bool, true, false, cond, List, [], ◌∷◌, ◌++◌, Some, refl, sym, ap, ◌∙◌, append_assoc, IsPermutation}
use Rattle.std.proofs.lemmas.List.Sorted.{IsPermutation-refl, IsPermutation-trans, IsPermutation-append_left, IsPermutation-append_right, IsPermutation-append_comm}
use Rattle.tree.specs.Flat.{post_order}
use Rattle.rule_words.specs.Reports.{Report}
use Rattle.node_rules.specs.Arounds.{round_root}
use Rattle.node_rules.specs.Rows.{of_node, of_rules}
use Rattle.node_rules.proofs.Together.{both-nodes, same-permutation}
use Rattle.reference_rules.proofs.Together.{both as both-references, no-rules as no-reference-rules}
use Rattle.repetition_rules.proofs.Together.{both as both-repetitions, no-rules as no-repetition-rules}
use Rattle.flow_rules.specs.Arounds.{round_root as flow_round_root}
use Rattle.flow_rules.specs.Rows.{of_node as flow_of_node, of_rules as flow_of_rules}
use Rattle.flow_rules.proofs.Together.{both-nodes as both-flows, no-rules as no-flow-rules}
use Rattle.literal_rules.proofs.Together.{both as both-literal, no-rules as no-literal-rules}
use Rattle.value_rules.proofs.Together.{both as both-values, no-rules as no-value-rules}
use Rattle.rules.specs.declared.rule_list.RuleName.{RuleName}
use Rattle.rules.specs.declared.rule_list.RuleName.TheVariants.{OnNodes, OnReferences, OnRepetitions, OnFlow, OnLiterals, OnTexts, NoExtraParens, NoShadow, NoUndef, NoUnusedPrivateClassMembers, NoUnusedVars, PreferConst, OnValues, NoExtendNative}
use Rattle.rules.specs.Groups.{chosen, chosen_if, found_alone, found_in_groups, found_on_references, found_on_repetitions, found_on_flow, flow_rule_named, found_on_literals, literal_rule_named, found_on_texts, text_rule_named, node_rule_named, reference_rule_named, repetition_rule_named, found_on_values, value_rule_named}
use Rattle.rules.specs.NodeRules.{found_on_nodes}
use Rattle.rules.specs.RuleNames.{called}
use Rattle.rules.specs.Rules.{View, node_options, on_nodes, on_references, on_repetitions, on_flow, on_literals, on_texts, on_values, profile_of}
use Rattle.rules.specs.Run.{found_by_name, found_by_names}
use Rattle.rules.specs.Settings.{is_on}
use Rattle.rules.proofs.Together.{none-on-nodes}

-- ---- one name more

-- what a rule finds stands in front of what its group finds
module _ {R : Type 0} (found : List R → List Report) (one : R → List Report) (joins : (r : R) (rs : List R) → IsPermutation (one r ++ found rs) (found (r ∷ rs))) where
  joins-if : (on : Bool) (r : R) (rs : List R) → IsPermutation (cond on (one r) [] ++ found rs) (found (chosen_if (Some r) on rs))
  joins-if true r rs = joins r rs
  joins-if false r rs = IsPermutation-refl (found rs)

at-head : (one old new rest : List Report) → IsPermutation (one ++ old) new → IsPermutation (one ++ (old ++ rest)) (new ++ rest)
at-head one old new rest h = IsPermutation-trans _ _ _ (same-permutation _ _ (sym (append_assoc one old rest))) (IsPermutation-append_left rest _ _ h)

behind : (first one old new : List Report) → IsPermutation (one ++ old) new → IsPermutation (one ++ (first ++ old)) (first ++ new)
behind first one old new h =
    IsPermutation-trans _ _ _ (same-permutation _ _ (sym (append_assoc one first old)))
    (IsPermutation-trans _ _ _ (IsPermutation-append_left old _ _ (IsPermutation-append_comm one first))
    (IsPermutation-trans _ _ _ (same-permutation _ _ (append_assoc first one old)) (IsPermutation-append_right first _ _ h)))

-- what each group finds of these
abbrev nodes-find : List RuleName → View → List Report
nodes-find names v = found_on_nodes (chosen node_rule_named names v.settings) v

abbrev references-find : List RuleName → View → List Report
references-find names v = found_on_references (chosen reference_rule_named names v.settings) v

abbrev repetitions-find : List RuleName → View → List Report
repetitions-find names v = found_on_repetitions (chosen repetition_rule_named names v.settings) v

abbrev flow-find : List RuleName → View → List Report
flow-find names v = found_on_flow (chosen flow_rule_named names v.settings) v

abbrev literals-find : List RuleName → View → List Report
literals-find names v = found_on_literals (chosen literal_rule_named names v.settings) v

abbrev texts-find : List RuleName → View → List Report
texts-find names v = found_on_texts (chosen text_rule_named names v.settings) v

abbrev values-find : List RuleName → View → List Report
values-find names v = found_on_values (chosen value_rule_named names v.settings) v

-- what a rule finds that is of no group stands behind what the groups find
alone-last : (one : List Report) (names : List RuleName) (v : View) → IsPermutation (one ++ found_in_groups names v) (nodes-find names v ++ (references-find names v ++ (repetitions-find names v ++ (flow-find names v ++ (literals-find names v ++ (texts-find names v ++ (values-find names v ++ (one ++ found_alone names v))))))))
alone-last one names v =
    behind (nodes-find names v) one (references-find names v ++ (repetitions-find names v ++ (flow-find names v ++ (literals-find names v ++ (texts-find names v ++ (values-find names v ++ found_alone names v)))))) (references-find names v ++ (repetitions-find names v ++ (flow-find names v ++ (literals-find names v ++ (texts-find names v ++ (values-find names v ++ (one ++ found_alone names v)))))))
    (behind (references-find names v) one (repetitions-find names v ++ (flow-find names v ++ (literals-find names v ++ (texts-find names v ++ (values-find names v ++ found_alone names v))))) (repetitions-find names v ++ (flow-find names v ++ (literals-find names v ++ (texts-find names v ++ (values-find names v ++ (one ++ found_alone names v))))))
    (behind (repetitions-find names v) one (flow-find names v ++ (literals-find names v ++ (texts-find names v ++ (values-find names v ++ found_alone names v)))) (flow-find names v ++ (literals-find names v ++ (texts-find names v ++ (values-find names v ++ (one ++ found_alone names v)))))
    (behind (flow-find names v) one (literals-find names v ++ (texts-find names v ++ (values-find names v ++ found_alone names v))) (literals-find names v ++ (texts-find names v ++ (values-find names v ++ (one ++ found_alone names v))))
    (behind (literals-find names v) one (texts-find names v ++ (values-find names v ++ found_alone names v)) (texts-find names v ++ (values-find names v ++ (one ++ found_alone names v)))
    (behind (texts-find names v) one (values-find names v ++ found_alone names v) (values-find names v ++ (one ++ found_alone names v))
    (behind (values-find names v) one (found_alone names v) (one ++ found_alone names v)
    (IsPermutation-refl (one ++ found_alone names v))))))))

-- a name more
step : (name : RuleName) (names : List RuleName) (v : View) → IsPermutation (found_by_name name v ++ found_in_groups names v) (found_in_groups (name ∷ names) v)
step (OnNodes r) names v =
    at-head (found_by_name (OnNodes r) v) (nodes-find names v) (nodes-find (OnNodes r ∷ names) v) (references-find names v ++ (repetitions-find names v ++ (flow-find names v ++ (literals-find names v ++ (texts-find names v ++ (values-find names v ++ found_alone names v))))))
    (joins-if (λ rs. found_on_nodes rs v) (λ q. on_nodes q v) (λ q rs. both-nodes (of_node (node_options v.settings) v.text q) (of_rules (node_options v.settings) v.text rs) round_root v.tree) (is_on (called (OnNodes r)) v.settings) r (chosen node_rule_named names v.settings))
step (OnReferences r) names v =
    behind (nodes-find names v) (found_by_name (OnReferences r) v) (references-find names v ++ (repetitions-find names v ++ (flow-find names v ++ (literals-find names v ++ (texts-find names v ++ (values-find names v ++ found_alone names v)))))) (references-find (OnReferences r ∷ names) v ++ (repetitions-find names v ++ (flow-find names v ++ (literals-find names v ++ (texts-find names v ++ (values-find names v ++ found_alone names v))))))
    (at-head (found_by_name (OnReferences r) v) (references-find names v) (references-find (OnReferences r ∷ names) v) (repetitions-find names v ++ (flow-find names v ++ (literals-find names v ++ (texts-find names v ++ (values-find names v ++ found_alone names v)))))
    (joins-if (λ rs. found_on_references rs v) (λ q. on_references q v) (λ q rs. both-references (profile_of v.tree) (q ∷ []) rs v.found) (is_on (called (OnReferences r)) v.settings) r (chosen reference_rule_named names v.settings)))
step (OnRepetitions r) names v =
    behind (nodes-find names v) (found_by_name (OnRepetitions r) v) (references-find names v ++ (repetitions-find names v ++ (flow-find names v ++ (literals-find names v ++ (texts-find names v ++ (values-find names v ++ found_alone names v)))))) (references-find names v ++ (repetitions-find (OnRepetitions r ∷ names) v ++ (flow-find names v ++ (literals-find names v ++ (texts-find names v ++ (values-find names v ++ found_alone names v))))))
    (behind (references-find names v) (found_by_name (OnRepetitions r) v) (repetitions-find names v ++ (flow-find names v ++ (literals-find names v ++ (texts-find names v ++ (values-find names v ++ found_alone names v))))) (repetitions-find (OnRepetitions r ∷ names) v ++ (flow-find names v ++ (literals-find names v ++ (texts-find names v ++ (values-find names v ++ found_alone names v)))))
    (at-head (found_by_name (OnRepetitions r) v) (repetitions-find names v) (repetitions-find (OnRepetitions r ∷ names) v) (flow-find names v ++ (literals-find names v ++ (texts-find names v ++ (values-find names v ++ found_alone names v))))
    (joins-if (λ rs. found_on_repetitions rs v) (λ q. on_repetitions q v) (λ q rs. both-repetitions (q ∷ []) rs (post_order v.tree)) (is_on (called (OnRepetitions r)) v.settings) r (chosen repetition_rule_named names v.settings))))
step (OnFlow r) names v =
    behind (nodes-find names v) (found_by_name (OnFlow r) v) (references-find names v ++ (repetitions-find names v ++ (flow-find names v ++ (literals-find names v ++ (texts-find names v ++ (values-find names v ++ found_alone names v)))))) (references-find names v ++ (repetitions-find names v ++ (flow-find (OnFlow r ∷ names) v ++ (literals-find names v ++ (texts-find names v ++ (values-find names v ++ found_alone names v))))))
    (behind (references-find names v) (found_by_name (OnFlow r) v) (repetitions-find names v ++ (flow-find names v ++ (literals-find names v ++ (texts-find names v ++ (values-find names v ++ found_alone names v))))) (repetitions-find names v ++ (flow-find (OnFlow r ∷ names) v ++ (literals-find names v ++ (texts-find names v ++ (values-find names v ++ found_alone names v)))))
    (behind (repetitions-find names v) (found_by_name (OnFlow r) v) (flow-find names v ++ (literals-find names v ++ (texts-find names v ++ (values-find names v ++ found_alone names v)))) (flow-find (OnFlow r ∷ names) v ++ (literals-find names v ++ (texts-find names v ++ (values-find names v ++ found_alone names v))))
    (at-head (found_by_name (OnFlow r) v) (flow-find names v) (flow-find (OnFlow r ∷ names) v) (literals-find names v ++ (texts-find names v ++ (values-find names v ++ found_alone names v)))
    (joins-if (λ rs. found_on_flow rs v) (λ q. on_flow q v) (λ q rs. both-flows (flow_of_node v.text q) (flow_of_rules v.text rs) flow_round_root v.tree) (is_on (called (OnFlow r)) v.settings) r (chosen flow_rule_named names v.settings)))))
step (OnLiterals r) names v =
    behind (nodes-find names v) (found_by_name (OnLiterals r) v) (references-find names v ++ (repetitions-find names v ++ (flow-find names v ++ (literals-find names v ++ (texts-find names v ++ (values-find names v ++ found_alone names v)))))) (references-find names v ++ (repetitions-find names v ++ (flow-find names v ++ (literals-find (OnLiterals r ∷ names) v ++ (texts-find names v ++ (values-find names v ++ found_alone names v))))))
    (behind (references-find names v) (found_by_name (OnLiterals r) v) (repetitions-find names v ++ (flow-find names v ++ (literals-find names v ++ (texts-find names v ++ (values-find names v ++ found_alone names v))))) (repetitions-find names v ++ (flow-find names v ++ (literals-find (OnLiterals r ∷ names) v ++ (texts-find names v ++ (values-find names v ++ found_alone names v)))))
    (behind (repetitions-find names v) (found_by_name (OnLiterals r) v) (flow-find names v ++ (literals-find names v ++ (texts-find names v ++ (values-find names v ++ found_alone names v)))) (flow-find names v ++ (literals-find (OnLiterals r ∷ names) v ++ (texts-find names v ++ (values-find names v ++ found_alone names v))))
    (behind (flow-find names v) (found_by_name (OnLiterals r) v) (literals-find names v ++ (texts-find names v ++ (values-find names v ++ found_alone names v))) (literals-find (OnLiterals r ∷ names) v ++ (texts-find names v ++ (values-find names v ++ found_alone names v)))
    (at-head (found_by_name (OnLiterals r) v) (literals-find names v) (literals-find (OnLiterals r ∷ names) v) (texts-find names v ++ (values-find names v ++ found_alone names v))
    (joins-if (λ rs. found_on_literals rs v) (λ q. on_literals q v) (λ q rs. both-literal (q ∷ []) rs (post_order v.tree)) (is_on (called (OnLiterals r)) v.settings) r (chosen literal_rule_named names v.settings))))))
step (OnTexts r) names v =
    behind (nodes-find names v) (found_by_name (OnTexts r) v) (references-find names v ++ (repetitions-find names v ++ (flow-find names v ++ (literals-find names v ++ (texts-find names v ++ (values-find names v ++ found_alone names v)))))) (references-find names v ++ (repetitions-find names v ++ (flow-find names v ++ (literals-find names v ++ (texts-find (OnTexts r ∷ names) v ++ (values-find names v ++ found_alone names v))))))
    (behind (references-find names v) (found_by_name (OnTexts r) v) (repetitions-find names v ++ (flow-find names v ++ (literals-find names v ++ (texts-find names v ++ (values-find names v ++ found_alone names v))))) (repetitions-find names v ++ (flow-find names v ++ (literals-find names v ++ (texts-find (OnTexts r ∷ names) v ++ (values-find names v ++ found_alone names v)))))
    (behind (repetitions-find names v) (found_by_name (OnTexts r) v) (flow-find names v ++ (literals-find names v ++ (texts-find names v ++ (values-find names v ++ found_alone names v)))) (flow-find names v ++ (literals-find names v ++ (texts-find (OnTexts r ∷ names) v ++ (values-find names v ++ found_alone names v))))
    (behind (flow-find names v) (found_by_name (OnTexts r) v) (literals-find names v ++ (texts-find names v ++ (values-find names v ++ found_alone names v))) (literals-find names v ++ (texts-find (OnTexts r ∷ names) v ++ (values-find names v ++ found_alone names v)))
    (behind (literals-find names v) (found_by_name (OnTexts r) v) (texts-find names v ++ (values-find names v ++ found_alone names v)) (texts-find (OnTexts r ∷ names) v ++ (values-find names v ++ found_alone names v))
    (at-head (found_by_name (OnTexts r) v) (texts-find names v) (texts-find (OnTexts r ∷ names) v) (values-find names v ++ found_alone names v)
    (joins-if (λ rs. found_on_texts rs v) (λ q. on_texts q v) (λ q rs. IsPermutation-refl (on_texts q v ++ found_on_texts rs v)) (is_on (called (OnTexts r)) v.settings) r (chosen text_rule_named names v.settings)))))))
step (OnValues r) names v =
    behind (nodes-find names v) (found_by_name (OnValues r) v) (references-find names v ++ (repetitions-find names v ++ (flow-find names v ++ (literals-find names v ++ (texts-find names v ++ (values-find names v ++ found_alone names v)))))) (references-find names v ++ (repetitions-find names v ++ (flow-find names v ++ (literals-find names v ++ (texts-find names v ++ (values-find (OnValues r ∷ names) v ++ found_alone names v))))))
    (behind (references-find names v) (found_by_name (OnValues r) v) (repetitions-find names v ++ (flow-find names v ++ (literals-find names v ++ (texts-find names v ++ (values-find names v ++ found_alone names v))))) (repetitions-find names v ++ (flow-find names v ++ (literals-find names v ++ (texts-find names v ++ (values-find (OnValues r ∷ names) v ++ found_alone names v)))))
    (behind (repetitions-find names v) (found_by_name (OnValues r) v) (flow-find names v ++ (literals-find names v ++ (texts-find names v ++ (values-find names v ++ found_alone names v)))) (flow-find names v ++ (literals-find names v ++ (texts-find names v ++ (values-find (OnValues r ∷ names) v ++ found_alone names v))))
    (behind (flow-find names v) (found_by_name (OnValues r) v) (literals-find names v ++ (texts-find names v ++ (values-find names v ++ found_alone names v))) (literals-find names v ++ (texts-find names v ++ (values-find (OnValues r ∷ names) v ++ found_alone names v)))
    (behind (literals-find names v) (found_by_name (OnValues r) v) (texts-find names v ++ (values-find names v ++ found_alone names v)) (texts-find names v ++ (values-find (OnValues r ∷ names) v ++ found_alone names v))
    (behind (texts-find names v) (found_by_name (OnValues r) v) (values-find names v ++ found_alone names v) (values-find (OnValues r ∷ names) v ++ found_alone names v)
    (at-head (found_by_name (OnValues r) v) (values-find names v) (values-find (OnValues r ∷ names) v) (found_alone names v)
    (joins-if (λ rs. found_on_values rs v) (λ q. on_values q v) (λ q rs. both-values (q ∷ []) rs (post_order v.tree)) (is_on (called (OnValues r)) v.settings) r (chosen value_rule_named names v.settings))))))))
step NoExtendNative names v = alone-last (found_by_name NoExtendNative v) names v
step NoExtraParens names v = alone-last (found_by_name NoExtraParens v) names v
step NoShadow names v = alone-last (found_by_name NoShadow v) names v
step NoUndef names v = alone-last (found_by_name NoUndef v) names v
step NoUnusedPrivateClassMembers names v = alone-last (found_by_name NoUnusedPrivateClassMembers v) names v
step NoUnusedVars names v = alone-last (found_by_name NoUnusedVars v) names v
step PreferConst names v = alone-last (found_by_name PreferConst v) names v

-- no names, no reports
none-in-groups : (v : View) → found_in_groups [] v ≡ []
none-in-groups v =
    ap (λ l. l ++ (found_on_references [] v ++ (found_on_repetitions [] v ++ (found_on_flow [] v ++ (found_on_literals [] v ++ (found_on_values [] v ++ [])))))) (none-on-nodes v)
    ∙ ap (λ l. l ++ (found_on_repetitions [] v ++ (found_on_flow [] v ++ (found_on_literals [] v ++ (found_on_values [] v ++ []))))) (no-reference-rules (profile_of v.tree) [] v.found refl)
    ∙ ap (λ l. l ++ (found_on_flow [] v ++ (found_on_literals [] v ++ (found_on_values [] v ++ [])))) (no-repetition-rules [] v.tree refl)
    ∙ ap (λ l. l ++ (found_on_literals [] v ++ (found_on_values [] v ++ []))) (no-flow-rules v.text [] v.tree refl)
    ∙ ap (λ l. l ++ (found_on_values [] v ++ [])) (no-literal-rules [] v.tree refl)
    ∙ ap (λ l. l ++ []) (no-value-rules [] v.tree refl)

-- group after group
pub group-after-group : (names : List RuleName) (v : View) → IsPermutation (found_by_names names v) (found_in_groups names v)
group-after-group [] v = same-permutation [] (found_in_groups [] v) (sym (none-in-groups v))
group-after-group (name ∷ names) v = IsPermutation-trans _ _ _ (IsPermutation-append_right (found_by_name name v) _ _ (group-after-group names v)) (step name names v)

-- what a group finds, appended, and what is appended behind it
then : (out found rest next new : List Report) → next ≡ out ++ found → new ≡ next ++ rest → new ≡ out ++ (found ++ rest)
then out found rest next new is all = all ∙ ap (λ l. l ++ rest) is ∙ append_assoc out found rest

-- what was found before, and behind it what the groups find
pub behind-found : (names : List RuleName) (v : View) (out new : List Report) → new ≡ out ++ found_in_groups names v → IsPermutation (found_by_names names v ++ out) new
behind-found names v out new is =
    IsPermutation-trans _ _ _ (IsPermutation-append_comm (found_by_names names v) out)
    (IsPermutation-trans _ _ _ (IsPermutation-append_right out _ _ (group-after-group names v)) (same-permutation _ _ (sym is)))

-- group after group, appended
pub appended-groups : (names : List RuleName) (v : View) (out one two three four five six seven new : List Report)
    → one ≡ out ++ found_on_nodes (chosen node_rule_named names v.settings) v
    → two ≡ one ++ found_on_references (chosen reference_rule_named names v.settings) v
    → three ≡ two ++ found_on_repetitions (chosen repetition_rule_named names v.settings) v
    → four ≡ three ++ found_on_flow (chosen flow_rule_named names v.settings) v
    → five ≡ four ++ found_on_literals (chosen literal_rule_named names v.settings) v
    → six ≡ five ++ found_on_texts (chosen text_rule_named names v.settings) v
    → seven ≡ six ++ found_on_values (chosen value_rule_named names v.settings) v
    → new ≡ seven ++ found_alone names v
    → IsPermutation (found_by_names names v ++ out) new
appended-groups names v out one two three four five six seven new a b c d e f g h =
    behind-found names v out new
    (then out (found_on_nodes (chosen node_rule_named names v.settings) v) _ one new a
    (then one (found_on_references (chosen reference_rule_named names v.settings) v) _ two new b
    (then two (found_on_repetitions (chosen repetition_rule_named names v.settings) v) _ three new c
    (then three (found_on_flow (chosen flow_rule_named names v.settings) v) _ four new d
    (then four (found_on_literals (chosen literal_rule_named names v.settings) v) _ five new e
    (then five (found_on_texts (chosen text_rule_named names v.settings) v) _ six new f
    (then six (found_on_values (chosen value_rule_named names v.settings) v) _ seven new g h)))))))
