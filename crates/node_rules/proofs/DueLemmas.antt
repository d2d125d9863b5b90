-- The table of which rules look at which kind.
use Rattle.std.proofs.Common.{◌≡◌, ℕ, zero, suc, ◌+◌, ◌<◌, ◌≤◌, Bool, true, false, cond, List, [], ◌∷◌, ◌++◌, map, length, drop, get_or, refl, sym, ap, ◌∙◌, subst, arith, add-one, append_assoc, append-nil}
use Rattle.std.specs.Prelude.{◌&&◌}
use Rattle.std.proofs.Math.Seq.{drop-cons}
use Rattle.std.proofs.lemmas.List.{drop_all}
use Rattle.tree.specs.declared.kind.Kind.{Kind}
use Rattle.tree.specs.declared.kind.Kind.TheVariants.{Program}
use Rattle.tree.specs.Tree.{Tree, node, kind_of}
use Rattle.rule_words.specs.Reports.{Report}
use Rattle.node_rules.specs.declared.around.Around.{Around}
use Rattle.node_rules.specs.declared.due_rules.DueRules.{DueRules}
use Rattle.node_rules.specs.declared.node_rule.NodeRule.{NodeRule}
use Rattle.node_rules.specs.declared.node_rule.NodeOptions.{NodeOptions}
use Rattle.node_rules.specs.Due.{IsDue, due_at, lists_of, looking_at, of_due}
use Rattle.node_rules.specs.KindNumbers.{all_kinds, kind_number}
use Rattle.node_rules.specs.Over.{over_nodes}
use Rattle.node_rules.specs.Arounds.{round_root}
use Rattle.node_rules.specs.Found.{found_by_rules}
use Rattle.node_rules.specs.Rows.{holds, looks, of_node, of_rules, report_of}

-- ---- the table by numbers

numbered : (f : Kind → List NodeRule) (k : Kind) → get_or (map f all_kinds) (kind_number k) [] ≡ f k
numbered f Program = refl
numbered f k = refl

pub due-is : (rules : List NodeRule) (due : DueRules) (k : Kind) → IsDue rules due → due_at due k ≡ looking_at rules k
due-is rules due k h = ap (λ lists. get_or lists (kind_number k) []) h ∙ numbered (looking_at rules) k

-- ---- what doesn't look reports nothing

passed-rule : (options : NodeOptions) (source : List ℕ) (r : NodeRule) (rest : List NodeRule) (a : Around) (t : Tree) (b : Bool) → looks r (kind_of t) ≡ b → of_rules options source (cond b (r ∷ rest) rest) a t ≡ of_node options source r a t ++ of_rules options source rest a t
passed-rule options source r rest a t true h = refl
passed-rule options source r rest a t false h = sym (ap (λ b. cond (b && holds options source r a t) (report_of r t ∷ []) [] ++ of_rules options source rest a t) h)

due-rules : (options : NodeOptions) (source : List ℕ) (rules : List NodeRule) (a : Around) (t : Tree) → of_rules options source (looking_at rules (kind_of t)) a t ≡ of_rules options source rules a t
due-rules options source [] a t = refl
due-rules options source (r ∷ rs) a t = passed-rule options source r (looking_at rs (kind_of t)) a t (looks r (kind_of t)) refl ∙ ap (λ l. of_node options source r a t ++ l) (due-rules options source rs a t)

-- a walk by a table finds what its rules find
pub due-found : (options : NodeOptions) (source : List ℕ) (rules : List NodeRule) (due : DueRules) (t : Tree) → IsDue rules due → over_nodes (of_due options source due) round_root t ≡ found_by_rules options source rules t
due-found options source rules due t h =
    (λ i. over_nodes (λ a u. of_rules options source (due-is rules due (kind_of u) h i) a u) round_root t)
    ∙ (λ i. over_nodes (λ a u. due-rules options source rules a u i) round_root t)

-- ---- the loops that make it

cond-cons : (b : Bool) (r : NodeRule) (rest : List NodeRule) → cond b (r ∷ []) [] ++ rest ≡ cond b (r ∷ rest) rest
cond-cons true r rest = refl
cond-cons false r rest = refl

-- one more of the rules
pub looking-turn : (rules : List NodeRule) (i : ℕ) (k : Kind) (d : NodeRule) (acc new total : List NodeRule) → i < length rules → new ≡ acc ++ cond (looks (get_or rules i d) k) (get_or rules i d ∷ []) []
    → acc ++ looking_at (drop i rules) k ≡ total → new ++ looking_at (drop (i + 1) rules) k ≡ total
looking-turn rules i k d acc new total l n so =
    let r : NodeRule = get_or rules i d in
    let rest : List NodeRule = looking_at (drop (suc i) rules) k in
    rw (add-one i) (ap (λ x. x ++ rest) n ∙ append_assoc acc (cond (looks r k) (r ∷ []) []) rest ∙ ap (λ x. acc ++ x) (cond-cons (looks r k) r rest ∙ sym (ap (λ rs. looking_at rs k) (drop-cons rules i d l))) ∙ so)

pub looking-end : (rules : List NodeRule) (i : ℕ) (k : Kind) (acc total : List NodeRule) → length rules ≤ i → acc ++ looking_at (drop i rules) k ≡ total → acc ≡ total
looking-end rules i k acc total l so = sym (append-nil acc) ∙ ap (λ rs. acc ++ looking_at rs k) (sym (drop_all i rules l)) ∙ so

map-pushed : {X Y : Type 0} (f : X → Y) (xs : List X) (x : X) → map f (xs ++ x ∷ []) ≡ map f xs ++ f x ∷ []
map-pushed f [] x = refl
map-pushed f (y ∷ xs) x = ap (λ l. f y ∷ l) (map-pushed f xs x)

-- a kind's list behind the others
pub lists-turn : {X : Type 0} (items : X → List NodeRule) (f : Kind → List NodeRule) (kinds : List Kind) (i : ℕ) (d : Kind) (old new : List X) (x : X) (total : List (List NodeRule)) → i < length kinds → new ≡ old ++ x ∷ []
    → items x ≡ f (get_or kinds i d) → map items old ++ map f (drop i kinds) ≡ total → map items new ++ map f (drop (i + 1) kinds) ≡ total
lists-turn items f kinds i d old new x total l n e so =
    let rest : List (List NodeRule) = map f (drop (suc i) kinds) in
    rw (add-one i) (ap (λ xs. map items xs ++ rest) n ∙ ap (λ xs. xs ++ rest) (map-pushed items old x) ∙ append_assoc (map items old) (items x ∷ []) rest ∙ ap (λ y. map items old ++ (y ∷ rest)) e
    ∙ ap (λ xs. map items old ++ xs) (sym (ap (map f) (drop-cons kinds i d l))) ∙ so)

pub lists-end : {X : Type 0} (items : X → List NodeRule) (f : Kind → List NodeRule) (kinds : List Kind) (i : ℕ) (lists : List X) (total : List (List NodeRule)) → length kinds ≤ i → map items lists ++ map f (drop i kinds) ≡ total → map items lists ≡ total
lists-end items f kinds i lists total l so = sym (append-nil (map items lists)) ∙ ap (λ ks. map items lists ++ map f ks) (sym (drop_all i kinds l)) ∙ so
