-- A tree's JSON, places aside, is that of the tree with its places left out.
use Rattle.std.proofs.Common.{◌≡◌, ℕ, zero, suc, ◌-◌, Bool, true, cond, List, [], ◌∷◌, ◌++◌, length, map, take, drop, Some, None, Ordering, Less, Equal, Greater, refl, sym, ap, ap₂, ◌∙◌}
use Rattle.std.specs.Prelude.{codes}
use Rattle.std.specs.Cmp.Lexicographic.{slice_cmp}
use Rattle.std.specs.Ordering.{nat_cmp, match_ordering}
use Rattle.serde_json.specs.Data.{Data, null, array, object, Members, no_members, member, put}
use Rattle.serde_json.specs.View.{items_of}
use Rattle.tree.specs.declared.kind.Kind.{Kind}
use Rattle.tree.specs.Tree.{Tree, node, Parts, none, part, gap, bare, bare_parts, SameTree}
use Rattle.estree_json.specs.Fields as f
use Rattle.estree_json.specs.Fields.{Field, Label, fields, first_text}
use Rattle.estree_json.specs.Json.{Made, first_or_null, odd_ones, with_value, with_part, with_list, with_ends, with_turns, with_option, with_field, with_fields, begun, ends_parts, label_of, node_json, parts_json, json_of}
use Rattle.json_laws.specs.Placeless.{is_place, without_places, items_without, members_without, is_specifier, specifier_forms, parts_forms}
use Rattle.json_laws.proofs.Told.{shown}

-- ---- members that differ in places alone

data Alike : Members → Members → Type 0 where
  no_more : Alike no_members no_members
  same_value : {k : List ℕ} {d e : Data} {ms ns : Members} → shown d ≡ shown e → Alike ms ns → Alike (member k d ms) (member k e ns)
  a_place : {k : List ℕ} {d e : Data} {ms ns : Members} → is_place k ≡ true → Alike ms ns → Alike (member k d ms) (member k e ns)

alike_shown : {ms ns : Members} → Alike ms ns → members_without ms ≡ members_without ns
alike_shown no_more = refl
alike_shown (same_value {k = k} h r) = let l = alike_shown r in (λ i. cond (is_place k) (l i) (member k (h i) (l i)))
alike_shown (a_place {k = k} {d = d} {e = e} {ms = ms} {ns = ns} h r) =
    ap (λ b. cond b (members_without ms) (member k (shown d) (members_without ms))) h ∙ alike_shown r ∙ sym (ap (λ b. cond b (members_without ns) (member k (shown e) (members_without ns))) h)

in_order : {a b c u v w : Members} (o : Ordering) → Alike a u → Alike b v → Alike c w → Alike (match_ordering o a b c) (match_ordering o u v w)
in_order Less x y z = x
in_order Equal x y z = y
in_order Greater x y z = z

put_alike : (k : List ℕ) (d e : Data) {ms ns : Members} → shown d ≡ shown e → Alike ms ns → Alike (put k d ms) (put k e ns)
put_alike k d e h no_more = same_value h no_more
put_alike k d e h (same_value {k = l} v r) = in_order (slice_cmp nat_cmp k l) (same_value h (same_value v r)) (same_value h r) (same_value v (put_alike k d e h r))
put_alike k d e h (a_place {k = l} v r) = in_order (slice_cmp nat_cmp k l) (same_value h (a_place v r)) (same_value h r) (a_place v (put_alike k d e h r))

-- ---- lists of values

first_shown : (ds : List Data) → shown (first_or_null ds) ≡ first_or_null (map shown ds)
first_shown [] = refl
first_shown (d ∷ ds) = refl

items_shown : (ds : List Data) → items_without (items_of ds) ≡ items_of (map shown ds)
items_shown [] = refl
items_shown (d ∷ ds) = ap (λ xs. Rattle.serde_json.specs.Data.item (shown d) xs) (items_shown ds)

length_shown : (ds : List Data) → length ds ≡ length (map shown ds)
length_shown [] = refl
length_shown (d ∷ ds) = ap (λ n. suc n) (length_shown ds)

drop_shown : (n : ℕ) (ds : List Data) → map shown (drop n ds) ≡ drop n (map shown ds)
drop_shown zero ds = refl
drop_shown (suc n) [] = refl
drop_shown (suc n) (d ∷ ds) = drop_shown n ds

take_shown : (n : ℕ) (ds : List Data) → map shown (take n ds) ≡ take n (map shown ds)
take_shown zero ds = refl
take_shown (suc n) [] = refl
take_shown (suc n) (d ∷ ds) = ap (λ xs. shown d ∷ xs) (take_shown n ds)

odd_shown : (ds : List Data) → map shown (odd_ones ds) ≡ odd_ones (map shown ds)
odd_shown [] = refl
odd_shown (d ∷ []) = refl
odd_shown (d ∷ e ∷ ds) = ap (λ xs. shown d ∷ xs) (odd_shown ds)

-- what is made of values depends on what they show alone
module _ (ds es : List Data) (h : map shown ds ≡ map shown es) where
  same_first : shown (first_or_null ds) ≡ shown (first_or_null es)
  same_first = first_shown ds ∙ ap first_or_null h ∙ sym (first_shown es)

  same_count : length ds ≡ length es
  same_count = length_shown ds ∙ ap length h ∙ sym (length_shown es)

  same_drop : (n : ℕ) → map shown (drop n ds) ≡ map shown (drop n es)
  same_drop n = drop_shown n ds ∙ ap (drop n) h ∙ sym (drop_shown n es)

  same_drop_behind : (n : ℕ) → map shown (drop (length ds - n) ds) ≡ map shown (drop (length es - n) es)
  same_drop_behind n = same_drop (length ds - n) ∙ ap (λ c. map shown (drop (c - n) es)) same_count

  same_array : shown (array (items_of ds)) ≡ shown (array (items_of es))
  same_array = ap array (items_shown ds ∙ ap items_of h ∙ sym (items_shown es))

  same_take_behind : (n : ℕ) → map shown (take (length ds - n) ds) ≡ map shown (take (length es - n) es)
  same_take_behind n = take_shown (length ds - n) ds ∙ ap (take (length ds - n)) h ∙ sym (take_shown (length ds - n) es) ∙ ap (λ c. map shown (take (c - n) es)) same_count

  same_odd : map shown (odd_ones ds) ≡ map shown (odd_ones es)
  same_odd = odd_shown ds ∙ ap odd_ones h ∙ sym (odd_shown es)

-- ---- objects while they are made

record Like (x y : Made) : Type 0 where
  members : Alike x.members y.members
  left : map shown x.left ≡ map shown y.left

field_like : (x y : Made) (a : Field) → Like x y → Like (with_field a x) (with_field a y)
unfolding with_value with_part with_list with_ends with_turns with_option
field_like x y (f.part name) l = record { members = put_alike (codes name) _ _ (same_first x.left y.left l.left) l.members; left = same_drop x.left y.left l.left 1 }
field_like x y (f.list name behind) l =
    record {
      members = put_alike (codes name) _ _ (same_array (take (length x.left - behind) x.left) (take (length y.left - behind) y.left) (same_take_behind x.left y.left l.left behind)) l.members;
      left = same_drop_behind x.left y.left l.left behind;
    }
field_like x y (f.ends first last) l =
    record {
      members =
          put_alike (codes last) _ _ (same_first (drop (length x.left - 1) x.left) (drop (length y.left - 1) y.left) (same_drop_behind x.left y.left l.left 1))
          (put_alike (codes first) _ _ (same_first x.left y.left l.left) l.members);
      left = refl;
    }
field_like x y (f.turns first second) l =
    record {
      members =
          put_alike (codes second) _ _ (same_array (odd_ones (drop 1 x.left)) (odd_ones (drop 1 y.left)) (same_odd (drop 1 x.left) (drop 1 y.left) (same_drop x.left y.left l.left 1)))
          (put_alike (codes first) _ _ (same_array (odd_ones x.left) (odd_ones y.left) (same_odd x.left y.left l.left)) l.members);
      left = refl;
    }
field_like x y (f.says name d) l = record { members = put_alike (codes name) d d refl l.members; left = l.left }
field_like x y (f.may name None) l = l
field_like x y (f.may name (Some d)) l = record { members = put_alike (codes name) d d refl l.members; left = l.left }

fields_like : (xs : List Field) (x y : Made) → Like x y → Like (with_fields xs x) (with_fields xs y)
fields_like [] x y l = l
fields_like (a ∷ more) x y l = fields_like more (with_field a x) (with_field a y) (field_like x y a l)

begun_like : (k : Kind) (s e t u : ℕ) (ds es : List Data) → map shown ds ≡ map shown es → Like (begun k s e ds) (begun k t u es)
unfolding with_value
begun_like k s e t u ds es h = record { members = a_place refl (a_place refl (same_value refl no_more)); left = h }

-- ---- trees

first_bare : (ps : Parts) → first_text ps ≡ first_text (bare_parts ps)
first_bare none = refl
first_bare (part (node k w g s e qs) ps) = refl
first_bare (gap ps) = refl

ends_bare : (ps : Parts) → ends_parts ps ≡ ends_parts (bare_parts ps)
ends_bare none = refl
ends_bare (part n ps) = refl
ends_bare (gap ps) = refl

mutual
  unfolding node_json parts_json

  shown_bare : (b : Bool) (n : Tree) → shown (node_json b n) ≡ shown (node_json b (bare n))
  shown_bare b (node k w g s e ps) =
      let l = fields_like (fields b k (label_of (node k w g s e ps))) (begun k s e (parts_json ps)) (begun k 0 0 (parts_json (bare_parts ps))) (begun_like k s e 0 0 (parts_json ps) (parts_json (bare_parts ps)) (parts_bare ps)) in
      ap object (alike_shown l.members) ∙ ap (λ (x : List ℕ). shown (object (with_fields (fields b k (record { text = w; flags = g; first_text = x })) (begun k 0 0 (parts_json (bare_parts ps)))).members)) (first_bare ps)

  parts_bare : (ps : Parts) → map shown (parts_json ps) ≡ map shown (parts_json (bare_parts ps))
  parts_bare none = refl
  parts_bare (part n ps) = let h = shown_bare (ends_parts ps) n ∙ ap (λ b. shown (node_json b (bare n))) (ends_bare ps) in let r = parts_bare ps in (λ i. h i ∷ r i)
  parts_bare (gap ps) = ap (λ xs. null ∷ xs) (parts_bare ps)

mutual
  forms_bare : (n : Tree) → specifier_forms n ≡ specifier_forms (bare n)
  forms_bare (node k w g s e ps) = ap (λ xs. cond (is_specifier k) (g.form ∷ xs) xs) (parts_forms_bare ps)

  parts_forms_bare : (ps : Parts) → parts_forms ps ≡ parts_forms (bare_parts ps)
  parts_forms_bare none = refl
  parts_forms_bare (part n ps) = ap₂ (λ xs ys. xs ++ ys) (forms_bare n) (parts_forms_bare ps)
  parts_forms_bare (gap ps) = parts_forms_bare ps

pub same_values : (m n : Tree) → SameTree m n → without_places (json_of m) ≡ without_places (json_of n)
same_values m n h = shown_bare true m ∙ ap (λ t. shown (node_json true t)) h ∙ sym (shown_bare true n)

pub same_forms : (m n : Tree) → SameTree m n → specifier_forms m ≡ specifier_forms n
same_forms m n h = forms_bare m ∙ ap specifier_forms h ∙ sym (forms_bare n)
