-- Nodes of two other parts.
use Rattle.std.proofs.Common.{◌≡◌, ℕ, Bool, true, false, not, ◌&&◌, List, ◌++◌, Option, Some, None, refl, sym, ap, ◌∙◌, subst, arith}
use Rattle.std.specs.Prelude.{codes, cond}
use Rattle.language.specs.Vocabulary.{is}
use Rattle.tree.specs.declared.kind.Flags.{Flags}
use Rattle.tree.specs.declared.kind.Kind.{Kind}
use Rattle.tree.specs.declared.kind.Kind.TheVariants.{Identifier}
use Rattle.tree.specs.Tree.{Tree, node, Parts, none, part, gap, kind_of, text_of, flags_of, start_of, stop_of, parts_of, part_count, part_at, plain}
use Rattle.mending.specs.declared.change.Change.{Change}
use Rattle.mending.specs.declared.change.MendRule.TheVariants.{DotNotation, OperatorAssignment}
use Rattle.mending.specs.Changes.{change, dotted, is_name_as_key, assigned_by, second_of, are_same_name}
use Rattle.mending.specs.Words.{nth, inside, is_assignment, is_binary, is_member}
use Rattle.mending.specs.Mends.{is_asked, Mends, kept, changed, all, one}
use Rattle.mending.specs.Making.{is_made, MendsBoth, BecomesDotted, IsName, HasDot, BecomesAssignment, HasOperator}

no_part : (ps : Parts) → part_count ps ≡ 0 → ps ≡ none
no_part none h = refl
no_part (part t ps) h = absurd (omega (arith, h))
no_part (gap ps) h = absurd (omega (arith, h))

two_parts : (ps : Parts) (a b : Tree) → part_count ps ≡ 2 → Some a ≡ part_at ps 0 → Some b ≡ part_at ps 1 → ps ≡ part a (part b none)
two_parts none a b h e f = absurd (omega (arith, h))
two_parts (gap ps) a b h e f = absurd (cc)
two_parts (part t none) a b h e f = absurd (omega (arith, h))
two_parts (part t (gap ps)) a b h e f = absurd (cc)
two_parts (part t (part u ps)) a b h e f =
    let first : t ≡ a = cc in
    let second : u ≡ b = cc in
    let rest : ps ≡ none = no_part ps (omega (arith, h)) in
    (λ i. part (first i) (part (second i) (rest i)))

-- nodes that are made of two parts mend if their parts do
two_mend : (changes : List Change) (k : Kind) (w : List ℕ) (g : Flags) (s e : ℕ) (a b p q m : Tree) → k ≡ kind_of m → w ≡ text_of m → g ≡ flags_of m → part_count (parts_of m) ≡ 2 → Some p ≡ nth 0 m → Some q ≡ nth 1 m →
    Mends (is_made changes) a p → Mends (is_made changes) b q → Mends (is_made changes) (node k w g s e (part a (part b none))) m
two_mend changes k w g s e a b p q (node l v f t u qs) kinds texts flags count at first x y =
    subst (λ z. Mends (is_made changes) (node k w g s e (part a (part b none))) (node z v f t u qs)) kinds
    (subst (λ z. Mends (is_made changes) (node k w g s e (part a (part b none))) (node k z f t u qs)) texts
    (subst (λ z. Mends (is_made changes) (node k w g s e (part a (part b none))) (node k w z t u qs)) flags
    (subst (λ z. Mends (is_made changes) (node k w g s e (part a (part b none))) (node k w g t u z)) (sym (two_parts qs p q count at first)) (kept (one x (one y all))))))

name_mends : (changes : List Change) (s e : ℕ) (key name : Tree) → IsName name key → Mends (is_made changes) (node Identifier (inside (text_of key)) plain s e none) name
name_mends changes s e key (node l v f t u qs) h =
    subst (λ z. Mends (is_made changes) (node Identifier (inside (text_of key)) plain s e none) (node z v f t u qs)) h.kinds
    (subst (λ z. Mends (is_made changes) (node Identifier (inside (text_of key)) plain s e none) (node Identifier z f t u qs)) h.text
    (subst (λ z. Mends (is_made changes) (node Identifier (inside (text_of key)) plain s e none) (node Identifier (inside (text_of key)) z t u qs)) h.flags
    (subst (λ z. Mends (is_made changes) (node Identifier (inside (text_of key)) plain s e none) (node Identifier (inside (text_of key)) plain t u z)) (sym (no_part qs h.parts)) (kept all))))

-- two parts that are there, of which the one mends to the other
record AreThere (changes : List Change) (o p : Option Tree) : Type 0 where
  n : Tree
  m : Tree
  at : Some n ≡ o
  other : Some m ≡ p
  mends : Mends (is_made changes) n m

there : (changes : List Change) (o p : Option Tree) → MendsBoth changes o p → AreThere changes o p
there changes None p h = absurd h
there changes (Some n) None h = absurd h
there changes (Some n) (Some m) h = record { n = n; m = m; at = refl; other = refl; mends = h }

pub becomes_dotted : (changes : List Change) (n key : Tree) → is_member (kind_of n) ≡ true → (flags_of n).computed ≡ true → Some key ≡ nth 1 n → is_name_as_key key ≡ true → is_asked (is_made changes) DotNotation n ≡ true → BecomesDotted changes n key
becomes_dotted changes n key member computed at name asked object first m h =
    let c : Tree = node (kind_of n) (text_of n) (record (flags_of n) { computed = false }) (start_of n) (stop_of n) (part object (part (node Identifier (inside (text_of key)) plain (start_of key) (stop_of key) none) none)) in
    let one_step : change DotNotation n ≡ dotted n (Some object) (Some key) = (λ i. cond (member i && computed i) (dotted n (sym first i) (sym at i)) None) in
    let two_steps : dotted n (Some object) (Some key) ≡ Some c = (λ i. cond (name i) (Some c) None) in
    changed DotNotation asked (sym (one_step ∙ two_steps)) h

pub dot_mends : (changes : List Change) (n key m : Tree) (o p : Option Tree) → BecomesDotted changes n key → HasDot n key m → o ≡ nth 0 n → p ≡ nth 0 m → MendsBoth changes o p → Mends (is_made changes) n m
dot_mends changes n key m o p becomes has e f h =
    let t = there changes o p h in
    becomes t.n (t.at ∙ e) m
    (two_mend changes (kind_of n) (text_of n) (record (flags_of n) { computed = false }) (start_of n) (stop_of n) t.n (node Identifier (inside (text_of key)) plain (start_of key) (stop_of key) none) t.m has.name m
    has.kinds has.text has.flags has.parts (t.other ∙ f) has.at t.mends (name_mends changes (start_of key) (stop_of key) key has.name has.named))

pub becomes_assignment : (changes : List Change) (n operation : Tree) → is_assignment (kind_of n) ≡ true → is (text_of n) "=" ≡ true → Some operation ≡ nth 1 n → is_binary (kind_of operation) ≡ true → are_same_name (nth 0 n) (nth 0 operation) ≡ true →
    is_asked (is_made changes) OperatorAssignment n ≡ true → BecomesAssignment changes n operation
becomes_assignment changes n operation assignment equals at binary same asked target right first second assigns m h =
    let c : Tree = node (kind_of n) (text_of operation ++ codes "=") (flags_of n) (start_of n) (stop_of n) (part target (part right none)) in
    let one_step : change OperatorAssignment n ≡ assigned_by n (Some target) (Some operation) (Some right) =
    (λ i. cond (assignment i && equals i) (assigned_by n (sym first i) (sym at i) (second_of (sym at i))) None) ∙ (λ i. assigned_by n (Some target) (Some operation) (sym second i)) in
    let name : are_same_name (Some target) (nth 0 operation) ≡ true = ap (λ o. are_same_name o (nth 0 operation)) first ∙ same in
    let two_steps : assigned_by n (Some target) (Some operation) (Some right) ≡ Some c = (λ i. cond (binary i && (assigns i && name i)) (Some c) None) in
    changed OperatorAssignment asked (sym (one_step ∙ two_steps)) h

pub operator_mends : (changes : List Change) (n operation m : Tree) (o p r q : Option Tree) → BecomesAssignment changes n operation → HasOperator n operation m → o ≡ nth 0 n → p ≡ nth 0 m → MendsBoth changes o p → r ≡ nth 1 operation → q ≡ nth 1 m → MendsBoth changes r q →
    Mends (is_made changes) n m
operator_mends changes n operation m o p r q becomes has e f h e' f' h' =
    let t = there changes o p h in
    let u = there changes r q h' in
    becomes t.n u.n (t.at ∙ e) (u.at ∙ e') has.assigns m
    (two_mend changes (kind_of n) (text_of operation ++ codes "=") (flags_of n) (start_of n) (stop_of n) t.n u.n t.m u.m m has.kinds has.text has.flags has.parts (t.other ∙ f) (u.other ∙ f') t.mends u.mends)

pub not_false : (b : Bool) → not b ≡ false → b ≡ true
not_false true h = refl
not_false false h = sym h
