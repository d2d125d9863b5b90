-- What a walk has found behind one part and behind the next.
use Rattle.std.proofs.Common.{◌≡◌, ℕ, Bool, true, false, ◌+◌, ◌<◌, ◌≤◌, List, [], ◌++◌, length, map, Option, Some, None, refl, sym, ap, ◌∙◌, arith, append_assoc, append-nil}
use Rattle.std.specs.Prelude.{◌||◌, IfSome}
use Rattle.std.proofs.lemmas.Bool.{true≢false}
use Rattle.std.proofs.lemmas.List.{length-map, length-append}
use Rattle.tree.specs.declared.kind.Kind.{Kind}
use Rattle.tree.specs.declared.kind.Kind.TheVariants.{Program, StaticBlock, BlockStatement, SwitchStatement, CatchClause, ForStatement, ForInStatement, ForOfStatement, FunctionDeclaration, FunctionExpression, ArrowFunctionExpression, ClassDeclaration, ClassExpression}
use Rattle.tree.specs.Tree.{Tree, node, Parts, none, part, gap, kind_of, parts_of, part_at, part_count, parts_drop}
use Rattle.tree.proofs.PartWalk.{parts_drop-some, parts_drop-gap, parts_drop-past}
use Rattle.scopes.specs.declared.binding.Reference.{Reference as CodeReference}
use Rattle.scopes.specs.declared.binding.Scope.{Scope as CodeScope}
use Rattle.scopes.specs.declared.identifier_use.IdentifierUse.{IdentifierUse}
use Rattle.scopes.specs.declared.scope_names.ScopeKind.TheVariants.{NoScope}
use Rattle.scopes.specs.Bindings.{Binding}
use Rattle.scopes.specs.Openings.{has_arguments, opens_all, opens_others, scope_names, scope_round_others}
use Rattle.scopes.specs.Found.{Frame, Around, Found, Inside, Reference, nothing, joined, found_in, all_parts, parts_from, in_scope, one_part, at_place, round_others, own_reference, nearest}
use Rattle.scopes.specs.Shown.{Knows, found_of, reference_shown, scope_shown}
use Rattle.name_tables.specs.Tables.{Agree}
use Rattle.scopes.specs.Walks.{all_within, inside_of, may_make_scope, others_within, within_node}

pub joined-twice : (a b c : Found) → joined (joined a b) c ≡ joined a (joined b c)
joined-twice a b c = λ i. record { scopes = append_assoc a.scopes b.scopes c.scopes i; references = append_assoc a.references b.references c.references i }

pub joined-nothing : (a : Found) → joined a nothing ≡ a
joined-nothing a = λ i. record { scopes = append-nil a.scopes i; references = append-nil a.references i }

-- the number of the next scope
pub longer : (ss ts : List CodeScope) (rs qs : List CodeReference) (a : Found) → found_of ts qs ≡ joined (found_of ss rs) a → length ts ≡ length ss + length a.scopes
longer ss ts rs qs a e = sym (length-map ts scope_shown) ∙ ap (λ f. length f.scopes) e ∙ length-append (map scope_shown ss) a.scopes ∙ ap (λ n. n + length a.scopes) (length-map ss scope_shown)

pub no_shorter : (ss ts : List CodeScope) (rs qs : List CodeReference) (a : Found) → found_of ts qs ≡ joined (found_of ss rs) a → length ss ≤ length ts
no_shorter ss ts rs qs a e = omega (arith, longer ss ts rs qs a e)

-- what is known lasts while scopes are added
pub knows-on : (f g : List ℕ → Option (ℕ × ℕ)) (n m : ℕ) (s : Option ℕ) (fs : List Frame) → Knows f n s fs → Agree g f → n ≤ m → Knows g m s fs
knows-on f g n m s fs k a l = record {
  meant = λ w. a w ∙ k.meant w;
  below = λ w. lift (nearest w fs) (k.below w);
  nearest_is = k.nearest_is;
}
  where
    lift : (o : Option (ℕ × ℕ)) → IfSome o (λ p. p.0 < n) → IfSome o (λ p. p.0 < m)
    lift None h = h
    lift (Some p) h = omega (arith, h, l)

-- a reference is found where the node is one
pub referred : (ss : List CodeScope) (rs qs : List CodeReference) (own : List Reference) → map reference_shown qs ≡ map reference_shown rs ++ own → found_of ss qs ≡ joined (found_of ss rs) (record { scopes = []; references = own })
referred ss rs qs own e = λ i. record { scopes = sym (append-nil (map scope_shown ss)) i; references = e i }

found_in-is : (z : Around) (n : ℕ) (t : Tree) → found_in z n t ≡ joined (record { scopes = []; references = own_reference z t }) (within_node z n t)
unfolding found_in
found_in-is z n (node k w g s e ps) = refl

-- ---- a node that makes no scope

opens_none : (u : IdentifierUse) (k : Kind) → may_make_scope k ≡ false → opens_all u k ≡ NoScope
opens_none u Program h = absurd (true≢false h)
opens_none u StaticBlock h = absurd (true≢false h)
opens_none u BlockStatement h = absurd (true≢false h)
opens_none u CatchClause h = absurd (true≢false h)
opens_none u ForStatement h = absurd (true≢false h)
opens_none u ForInStatement h = absurd (true≢false h)
opens_none u ForOfStatement h = absurd (true≢false h)
opens_none u FunctionExpression h = absurd (true≢false h)
opens_none u ArrowFunctionExpression h = absurd (true≢false h)
opens_none u _ h = refl

opens_no_others : (k : Kind) → may_make_scope k ≡ false → opens_others k ≡ NoScope
opens_no_others SwitchStatement h = absurd (true≢false h)
opens_no_others FunctionDeclaration h = absurd (true≢false h)
opens_no_others FunctionExpression h = absurd (true≢false h)
opens_no_others ClassDeclaration h = absurd (true≢false h)
opens_no_others ClassExpression h = absurd (true≢false h)
opens_no_others _ h = refl

no_arguments : (k : Kind) → may_make_scope k ≡ false → has_arguments k ≡ false
no_arguments FunctionDeclaration h = absurd (true≢false h)
no_arguments FunctionExpression h = absurd (true≢false h)
no_arguments _ h = refl

same_round : (y : Inside) (z : Around) → has_arguments y.kind ≡ false → round_others y z ≡ z
same_round y z h = λ i. record z { in_function = (ap (λ b. z.in_function || b) h ∙ or_false z.in_function) i }
  where
    or_false : (b : Bool) → (b || false) ≡ b
    or_false true = refl
    or_false false = refl

flat : (y : Inside) (z : Around) (n : ℕ) (ps : Parts) → round_others y z ≡ z → all_parts y z n None ps ≡ parts_from y z 0 n ps
unfolding all_parts parts_from
flat y z n none e = refl
flat y z n (gap ps) e = ap (λ x. parts_from y x 1 n ps) e
flat y z n (part t ps) e = ap (λ x. one_part (found_in (at_place y z 0) n t) n (λ m. parts_from y x 1 m ps)) e

pub flat-found : (z : Around) (n : ℕ) (t : Tree) → may_make_scope (kind_of t) ≡ false → within_node z n t ≡ parts_from (inside_of z.role t) z 0 n (parts_of t)
flat-found z n t h =
    let k = kind_of t in
    let ps = parts_of t in
    let y = inside_of z.role t in
    ap (λ s. in_scope (scope_names s ps) z n (all_within z.role t)) (opens_none z.role k h)
    ∙ ap (λ s. all_parts y z n (scope_names s ps) ps) (opens_no_others k h)
    ∙ flat y z n ps (same_round y z (no_arguments k h))

-- what is found behind a node's reference
pub behind-reference : (z : Around) (n : ℕ) (t : Tree) (old own new : Found) → own ≡ joined old (record { scopes = []; references = own_reference z t }) → new ≡ joined own (within_node z n t) → new ≡ joined old (found_in z n t)
behind-reference z n t old own new r h = h ∙ ap (λ x. joined x (within_node z n t)) r ∙ joined-twice old _ _ ∙ ap (joined old) (sym (found_in-is z n t))

-- ---- all parts of a node

-- what is found in the first part
abbrev pub first_found : IdentifierUse → Tree → Around → ℕ → Option Tree → Found
first_found u t z n None = nothing
first_found u t z n (Some v) = found_in (at_place (inside_of u t) z 0) n v

missing : (f : ℕ → Found) (a : Found) (n : ℕ) → a ≡ nothing → f n ≡ joined a (f (n + length a.scopes))
missing f a n e = let same : n ≡ n + 0 = omega arith in ap f same ∙ sym (ap (λ x. joined x (f (n + length x.scopes))) e)

split-all : (y : Inside) (z : Around) (n : ℕ) (b : Option (List Binding)) (ps : Parts) (o : Option Tree) (f : Option Tree → Found) → f None ≡ nothing → ((v : Tree) → f (Some v) ≡ found_in (at_place y z 0) n v) → o ≡ part_at ps 0 →
    all_parts y z n b ps ≡ joined (f o) (in_scope b (round_others y z) (n + length (f o).scopes) (λ x m. parts_from y x 1 m (parts_drop 1 ps)))
unfolding all_parts parts_from
split-all y z n b none o f absent given e = missing (λ m. in_scope b (round_others y z) m (λ x k. nothing)) (f o) n (ap f e ∙ absent)
split-all y z n b (gap ps) o f absent given e = missing (λ m. in_scope b (round_others y z) m (λ x k. parts_from y x 1 k ps)) (f o) n (ap f e ∙ absent)
split-all y z n b (part t ps) o f absent given e = ap (λ a. joined a (in_scope b (round_others y z) (n + length a.scopes) (λ x m. parts_from y x 1 m ps))) (sym (ap f e ∙ given t))

-- the first part, and the others in their scope
pub all-found : (z : Around) (ss ts : List CodeScope) (rs qs : List CodeReference) (u : IdentifierUse) (t : Tree) (o : Option Tree) (b : Option (List Binding)) (new : Found) → o ≡ part_at (parts_of t) 0 → scope_round_others (kind_of t) (parts_of t) ≡ b →
    found_of ts qs ≡ joined (found_of ss rs) (first_found u t z (length ss) o) → new ≡ joined (found_of ts qs) (in_scope b (round_others (inside_of u t) z) (length ts) (others_within u t)) →
    new ≡ joined (found_of ss rs) (all_within u t z (length ss))
all-found z ss ts rs qs u t o b new e c h k =
    let y = inside_of u t in
    let a = first_found u t z (length ss) o in
    k ∙ (λ i. joined (h i) (in_scope (sym c i) (round_others y z) (longer ss ts rs qs a h i) (others_within u t)))
    ∙ joined-twice (found_of ss rs) a _
    ∙ ap (joined (found_of ss rs)) (sym (split-all y z (length ss) (scope_round_others (kind_of t) (parts_of t)) (parts_of t) o (first_found u t z (length ss)) refl (λ v. refl) e))

-- ---- a loop over the parts behind the first

from-given : (y : Inside) (z : Around) (i n : ℕ) (ps : Parts) (u : Tree) → Some u ≡ part_at ps i → parts_from y z i n (parts_drop i ps) ≡ one_part (found_in (at_place y z i) n u) n (λ m. parts_from y z (i + 1) m (parts_drop (i + 1) ps))
unfolding parts_from
from-given y z i n ps u e = ap (parts_from y z i n) (parts_drop-some ps i u e)

-- a turn of the loop at a part
pub turn-given : (z : Around) (ss ts : List CodeScope) (rs qs : List CodeReference) (u : IdentifierUse) (t v : Tree) (i : ℕ) (total : Found) → Some v ≡ part_at (parts_of t) i →
    found_of ts qs ≡ joined (found_of ss rs) (found_in (at_place (inside_of u t) z i) (length ss) v) →
    joined (found_of ss rs) (parts_from (inside_of u t) z i (length ss) (parts_drop i (parts_of t))) ≡ total →
    joined (found_of ts qs) (parts_from (inside_of u t) z (i + 1) (length ts) (parts_drop (i + 1) (parts_of t))) ≡ total
turn-given z ss ts rs qs u t v i total e h so =
    let y = inside_of u t in
    let a = found_in (at_place y z i) (length ss) v in
    (λ j. joined (h j) (parts_from y z (i + 1) (longer ss ts rs qs a h j) (parts_drop (i + 1) (parts_of t)))) ∙ joined-twice (found_of ss rs) a _
    ∙ ap (joined (found_of ss rs)) (sym (from-given y z i (length ss) (parts_of t) v e)) ∙ so

-- at a gap
pub turn-gap : (z : Around) (n : ℕ) (u : IdentifierUse) (t : Tree) (i : ℕ) (old total : Found) → None ≡ part_at (parts_of t) i → i < part_count (parts_of t) →
    joined old (parts_from (inside_of u t) z i n (parts_drop i (parts_of t))) ≡ total → joined old (parts_from (inside_of u t) z (i + 1) n (parts_drop (i + 1) (parts_of t))) ≡ total
unfolding parts_from
turn-gap z n u t i old total e l so = sym (ap (λ ps. joined old (parts_from (inside_of u t) z i n ps)) (parts_drop-gap (parts_of t) i e l)) ∙ so

-- behind the last
pub turn-end : (z : Around) (n : ℕ) (u : IdentifierUse) (t : Tree) (i : ℕ) (old total : Found) → part_count (parts_of t) ≤ i → joined old (parts_from (inside_of u t) z i n (parts_drop i (parts_of t))) ≡ total → old ≡ total
unfolding parts_from
turn-end z n u t i old total l so = sym (joined-nothing old) ∙ sym (ap (λ ps. joined old (parts_from (inside_of u t) z i n ps)) (parts_drop-past (parts_of t) i l)) ∙ so
