-- The value of a node, member by member.
use Rattle.std.proofs.Common.{◌≡◌, ℕ, zero, suc, ◌+◌, ◌<◌, ◌≤◌, Bool, true, false, not, List, [], ◌∷◌, ◌++◌, length, drop, get_or, map, Vec, Global, Result, IfOk, OnOk, Option, Some, None, option_map, rules, refl, sym, ap, ◌∙◌, subst, arith, append_assoc, append-nil}
use Rattle.std.proofs.lemmas.Bool.{false≢true}
use Rattle.std.proofs.lemmas.List.{map-append, drop_more}
use Rattle.std.specs.declared.alloc.AllocError.{AllocError}
use Rattle.serde_json.specs.Data.{Data, null, array, object, Members, no_members, put}
use Rattle.serde_json.specs.View.{view, items_of}
use Rattle.serde_json.specs.declared.value.Value.{Value, Null, Array, the_lemmas}
use Rattle.serde_json.proofs.Views.{view-Array}
use Rattle.tree.specs.declared.kind.Kind.{Kind}
use Rattle.tree.specs.Tree.{Tree, node, kind_of}
use Rattle.estree_json.specs.declared.table.Member.{Member}
use Rattle.estree_json.specs.Json.{label_of, first_or_null, node_json, parts_json}
use Rattle.estree_json.specs.Table.{Subject, from, option_put, put_line, put_lines, PutsAll, subject_of}
use Rattle.estree_json.proofs.Lists.{in_turns, turns_taken, turns_passed}

pub view_null : view Null ≡ null
view_null = search (rules, the_lemmas)

-- the same value by another name
pub data_as : (r : Result Value AllocError) (x y : Data) → x ≡ y → IfOk r (λ v. view v ≡ x) → IfOk r (λ v. view v ≡ y)
data_as r x y e h = let P : Data → Type 0 = λ d. IfOk r (λ v. view v ≡ d) in subst P e h

pub option_as : (r : Result (Option Value) AllocError) (x y : Option Data) → x ≡ y → IfOk r (λ o. option_map view o ≡ x) → IfOk r (λ o. option_map view o ≡ y)
option_as r x y e h = let P : Option Data → Type 0 = λ d. IfOk r (λ o. option_map view o ≡ d) in subst P e h

-- a member that is put, and none
pub put_as : {A E : Type 0} (r : Result A E) (k l : List ℕ) (d : Data) (o : Option Data) (old new : Members) → k ≡ l → Some d ≡ o → OnOk r (new ≡ put k d old) → OnOk r (new ≡ option_put l o old)
put_as r k l d o old new e f h = let P : List ℕ → Option Data → Type 0 = λ n x. OnOk r (new ≡ option_put n x old) in subst (P l) f (subst (λ n. P n (Some d)) e h)

pub put_nothing : (k : List ℕ) (o : Option Data) (ms : Members) → None ≡ o → ms ≡ option_put k o ms
put_nothing k o ms e = ap (λ x. option_put k x ms) e

-- one more value
pub one_more : (old new : List Value) (v : Value) (d : Data) (rest left whole : List Data) → new ≡ old ++ v ∷ [] → view v ≡ d → left ≡ d ∷ rest → map view old ++ left ≡ whole
    → map view new ++ rest ≡ whole
one_more old new v d rest left whole n e l w =
    rw (n, map-append view old (v ∷ []), append_assoc, e, ← l) w

pub all_found : (vs : List Value) (left whole : List Data) → left ≡ [] → map view vs ++ left ≡ whole → map view vs ≡ whole
all_found vs left whole e w = sym (append-nil (map view vs)) ∙ rw e at w

-- the array of the values that were found
pub array_found : (v : Vec Value Global) (left whole : List Data) → left ≡ [] → map view v.items ++ left ≡ whole → Some (view (Array v)) ≡ Some (array (items_of whole))
array_found v left whole e w = ap Some (view-Array v ∙ ap (λ ds. array (items_of ds)) (all_found v.items left whole e w))

pub turn_taken : (b : Bool) (i : ℕ) (ds : List Data) (old new : List Value) (v : Value) (whole : List Data) → b ≡ true → i < length ds → new ≡ old ++ v ∷ [] → view v ≡ first_or_null (from i ds)
    → map view old ++ in_turns b (drop i ds) ≡ whole → map view new ++ in_turns (not b) (drop (i + 1) ds) ≡ whole
turn_taken true i ds old new v whole b l n e w = one_more old new v (first_or_null (from i ds)) (in_turns false (drop (i + 1) ds)) (in_turns true (drop i ds)) whole n e (turns_taken i ds l) w
turn_taken false i ds old new v whole b l n e w = absurd (false≢true b)

pub turn_passed : (b : Bool) (i : ℕ) (ds : List Data) (vs : List Value) (whole : List Data) → b ≡ false → i < length ds → map view vs ++ in_turns b (drop i ds) ≡ whole → map view vs ++ in_turns (not b) (drop (i + 1) ds) ≡ whole
turn_passed false i ds vs whole b l w = ap (λ es. map view vs ++ es) (sym (turns_passed i ds l)) ∙ w
turn_passed true i ds vs whole b l w = absurd (false≢true (sym b))

-- the members that the lines put which are left, after one more
pub put_more : (x : Subject) (ls : List Member) (i : ℕ) (d : Member) (old new whole : Members) → i < length ls → new ≡ put_line x (get_or ls i d) old → put_lines x (drop i ls) old ≡ whole → put_lines x (drop (i + 1) ls) new ≡ whole
put_more x ls i d old new whole l e w = ap (put_lines x (drop (i + 1) ls)) e ∙ ap (λ ys. put_lines x ys old) (sym (drop_more ls i d l)) ∙ w

pub no_lines : (ls : List Member) (i : ℕ) → length ls ≤ i → drop i ls ≡ []
no_lines [] zero l = refl
no_lines [] (suc i) l = refl
no_lines (x ∷ ls) zero l = absurd (omega (arith, l))
no_lines (x ∷ ls) (suc i) l = no_lines ls i (omega (arith, l))

pub node_made : (is_last : Bool) (t : Tree) (kind : Kind) (ls : List Member) (i : ℕ) (start ms : Members) (d : Data) → kind ≡ kind_of t → PutsAll kind ls → start ≡ no_members → length ls ≤ i
    → put_lines (subject_of is_last t) (drop i ls) ms ≡ put_lines (subject_of is_last t) ls start → d ≡ object ms → d ≡ node_json is_last t
unfolding node_json
node_made is_last (node k w g s e ps) kind ls i start ms d is table n l h o =
    let x = subject_of is_last (node k w g s e ps) in
    let right : PutsAll k ls = subst (λ v. PutsAll v ls) is table in
    o ∙ ap object (ap (λ ys. put_lines x ys ms) (sym (no_lines ls i l)) ∙ h ∙ ap (put_lines x ls) n ∙ right is_last (label_of (node k w g s e ps)) s e (parts_json ps))
