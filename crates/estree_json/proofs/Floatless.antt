-- No value of a tree has a float, so its text is the compact one.
use Rattle.std.proofs.Common.{◌≡◌, ℕ, zero, suc, Bool, true, false, not, ◌||◌, ◌&&◌, ◌-◌, List, [], ◌∷◌, length, take, drop, Option, Some, None, Ordering, Less, Equal, Greater, refl, ap, ◌∙◌}
use Rattle.std.specs.Cmp.Lexicographic.{slice_cmp}
use Rattle.std.specs.Ordering.{nat_cmp, match_ordering}
use Rattle.std.specs.Char.Utf16.{has_unpaired_surrogate, utf16_lossy_chars}
use Rattle.std.specs.Prelude.{encode_utf8_all, bytes_eq, codes, if◌then◌else◌, Result, Ok, Err, IfOk}
use Rattle.std.specs.Str.{chars}
use Rattle.serde_json.specs.Data.{Data, null, boolean, number, unsigned, string, array, Members, member, no_members, put}
use Rattle.serde_json.specs.View.{items_of}
use Rattle.serde_json.specs.Written.{compact_text, has_float, items_have_float, members_have_float}
use Rattle.tokens.specs.Alphabet.{one_of, begins_with}
use Rattle.tokens.specs.Strings.{string_units}
use Rattle.tokens.specs.Templates.{cooked_value}
use Rattle.tree.specs.declared.kind.Kind.{Kind}
use Rattle.tree.specs.declared.kind.Kind.TheVariants as k
use Rattle.tree.specs.Tree.{Tree, Parts, node, none, part, gap}
use Rattle.tree.specs.Kinds.{type_name}
use Rattle.estree_json.specs.Texts.{text_of_units, unquoted, regex_of, literal_value, literal_regex, is_quoted, cooked_of_units, with_cooked, template_value}
use Rattle.estree_json.specs.Fields as f
use Rattle.estree_json.specs.Fields.{Field, Label, fields, directive}
use Rattle.estree_json.specs.Json.{Made, first_or_null, odd_ones, even_ones, with_value, with_part, with_list, with_ends, with_turns, with_option, with_field, with_fields, begun, label_of, ends_parts, node_json, parts_json, json_text}

both : (a b : Bool) → a ≡ false → b ≡ false → (a || b) ≡ false
both a b e h = rw (e, h)

first_of_two : (a b : Bool) → (a || b) ≡ false → a ≡ false
first_of_two false b e = refl
first_of_two true b e = e

second_of_two : (a b : Bool) → (a || b) ≡ false → b ≡ false
second_of_two false b e = e
second_of_two true b e = absurd (cc)

left_holds : (a b : Bool) → (a && b) ≡ true → a ≡ true
left_holds true b e = refl
left_holds false b e = e

right_holds : (a b : Bool) → (a && b) ≡ true → b ≡ true
right_holds true b e = e
right_holds false b e = absurd (cc)

denied : (a : Bool) → not a ≡ true → a ≡ false
denied false e = refl
denied true e = absurd (cc)

by_order : (o : Ordering) (a b c : Members) → members_have_float a ≡ false → members_have_float b ≡ false → members_have_float c ≡ false → members_have_float (match_ordering o a b c) ≡ false
by_order Less a b c x y z = x
by_order Equal a b c x y z = y
by_order Greater a b c x y z = z

put_fine : (key : List ℕ) (d : Data) (ms : Members) → has_float d ≡ false → members_have_float ms ≡ false → members_have_float (put key d ms) ≡ false
put_fine key d no_members e h = both _ _ e refl
put_fine key d (member l x ms) e h =
    let here = first_of_two (has_float x) (members_have_float ms) h in
    let later = second_of_two (has_float x) (members_have_float ms) h in
    by_order (slice_cmp nat_cmp key l) _ _ _ (both _ _ e h) (both _ _ e later) (both _ _ here (put_fine key d ms e later))

abbrev ItemsFine : List Data → Type 0
ItemsFine ds = items_have_float (items_of ds) ≡ false

first_fine : (ds : List Data) → ItemsFine ds → has_float (first_or_null ds) ≡ false
first_fine [] h = refl
first_fine (d ∷ ds) h = first_of_two (has_float d) (items_have_float (items_of ds)) h

take_fine : (n : ℕ) (ds : List Data) → ItemsFine ds → ItemsFine (take n ds)
take_fine zero ds h = refl
take_fine (suc n) [] h = refl
take_fine (suc n) (d ∷ ds) h =
    both _ _ (first_of_two (has_float d) (items_have_float (items_of ds)) h) (take_fine n ds (second_of_two (has_float d) (items_have_float (items_of ds)) h))

drop_fine : (n : ℕ) (ds : List Data) → ItemsFine ds → ItemsFine (drop n ds)
drop_fine zero ds h = h
drop_fine (suc n) [] h = refl
drop_fine (suc n) (d ∷ ds) h = drop_fine n ds (second_of_two (has_float d) (items_have_float (items_of ds)) h)

odd_fine : (ds : List Data) → ItemsFine ds → ItemsFine (odd_ones ds)
odd_fine [] h = refl
odd_fine (d ∷ []) h = h
odd_fine (d ∷ e ∷ ds) h =
    let rest = second_of_two (has_float d) (items_have_float (items_of (e ∷ ds))) h in
    both _ _ (first_of_two (has_float d) (items_have_float (items_of (e ∷ ds))) h) (odd_fine ds (second_of_two (has_float e) (items_have_float (items_of ds)) rest))

record Fine (m : Made) : Type 0 where
  members : members_have_float m.members ≡ false
  left : ItemsFine m.left

value_fine : (name : List ℕ) (d : Data) (m : Made) → has_float d ≡ false → Fine m → Fine (with_value name d m)
unfolding with_value
value_fine name d m e h = record { members = put_fine name d m.members e h.members; left = h.left }

abbrev option_fine : Option Data → Bool
option_fine None = true
option_fine (Some d) = not (has_float d)

maybe_fine : (name : List ℕ) (o : Option Data) (m : Made) → option_fine o ≡ true → Fine m → Fine (with_option name o m)
unfolding with_option
maybe_fine name None m e h = h
maybe_fine name (Some d) m e h = value_fine name d m (denied _ e) h

part_fine : (name : List ℕ) (m : Made) → Fine m → Fine (with_part name m)
unfolding with_part
part_fine name m h = record { members = put_fine name _ m.members (first_fine m.left h.left) h.members; left = drop_fine 1 m.left h.left }

list_fine : (name : List ℕ) (n : ℕ) (m : Made) → Fine m → Fine (with_list name n m)
unfolding with_list
list_fine name n m h = record { members = put_fine name _ m.members (take_fine _ m.left h.left) h.members; left = drop_fine _ m.left h.left }

ends_fine : (a b : List ℕ) (m : Made) → Fine m → Fine (with_ends a b m)
unfolding with_ends
ends_fine a b m h =
    record {
      members = put_fine b _ (put a (first_or_null m.left) m.members) (first_fine (drop (length m.left - 1) m.left) (drop_fine (length m.left - 1) m.left h.left)) (put_fine a _ m.members (first_fine m.left h.left) h.members);
      left = refl;
    }

turns_fine : (a b : List ℕ) (m : Made) → Fine m → Fine (with_turns a b m)
unfolding with_turns
turns_fine a b m h =
    let odd = put_fine a (array (items_of (odd_ones m.left))) m.members (odd_fine m.left h.left) h.members in
    record {
      members = put_fine b (array (items_of (even_ones m.left))) (put a (array (items_of (odd_ones m.left))) m.members) (odd_fine (drop 1 m.left) (drop_fine 1 m.left h.left)) odd;
      left = refl;
    }

abbrev field_fine : Field → Bool
field_fine (f.part name) = true
field_fine (f.list name behind) = true
field_fine (f.ends a b) = true
field_fine (f.turns a b) = true
field_fine (f.says name d) = not (has_float d)
field_fine (f.may name o) = option_fine o

abbrev all_fine : List Field → Bool
all_fine [] = true
all_fine (x ∷ xs) = field_fine x && all_fine xs

one_fine : (x : Field) (m : Made) → field_fine x ≡ true → Fine m → Fine (with_field x m)
one_fine (f.part name) m e h = part_fine (codes name) m h
one_fine (f.list name behind) m e h = list_fine (codes name) behind m h
one_fine (f.ends a b) m e h = ends_fine (codes a) (codes b) m h
one_fine (f.turns a b) m e h = turns_fine (codes a) (codes b) m h
one_fine (f.says name d) m e h = value_fine (codes name) d m (denied _ e) h
one_fine (f.may name o) m e h = maybe_fine (codes name) o m e h

many_fine : (xs : List Field) (m : Made) → all_fine xs ≡ true → Fine m → Fine (with_fields xs m)
many_fine [] m e h = h
many_fine (x ∷ xs) m e h = many_fine xs _ (right_holds (field_fine x) (all_fine xs) e) (one_fine x m (left_holds (field_fine x) (all_fine xs) e) h)

choice_fine : (b : Bool) (x y : Option Data) → option_fine x ≡ true → option_fine y ≡ true → option_fine (if b then x else y) ≡ true
choice_fine true x y e h = e
choice_fine false x y e h = h

units_fine : (units : List ℕ) → option_fine (text_of_units units) ≡ true
units_fine units = choice_fine (has_unpaired_surrogate units) None (Some (string (encode_utf8_all (utf16_lossy_chars units)))) refl refl

literal_fine : (w : List ℕ) → option_fine (literal_value w) ≡ true
literal_fine w =
    let on_null = choice_fine (bytes_eq w (codes "null")) (Some null) None refl refl in
    let on_false = choice_fine (bytes_eq w (codes "false")) (Some (boolean false)) (if bytes_eq w (codes "null") then Some null else None) refl on_null in
    let others = if bytes_eq w (codes "false") then Some (boolean false) else if bytes_eq w (codes "null") then Some null else None in
    let on_true = choice_fine (bytes_eq w (codes "true")) (Some (boolean true)) others refl on_false in
    choice_fine (is_quoted w) (text_of_units (string_units (chars w))) (if bytes_eq w (codes "true") then Some (boolean true) else others) (units_fine (string_units (chars w))) on_true

regex_fine : (w : List ℕ) → option_fine (literal_regex w) ≡ true
regex_fine w = choice_fine (begins_with (one_of "/") w) (Some (regex_of (drop 1 w))) None refl refl

directive_fine : (l : Label) → option_fine (directive l) ≡ true
directive_fine l = choice_fine l.flags.directive (Some (string (unquoted l.first_text))) None refl refl

cooked_fine : (o : Option (List ℕ)) → option_fine (cooked_of_units o) ≡ true
cooked_fine None = refl
cooked_fine (Some units) = units_fine units

member_fine : (o : Option Data) (w : List ℕ) → option_fine o ≡ true → members_have_float (with_cooked o (member (codes "raw") (string w) no_members)) ≡ false
member_fine None w e = refl
member_fine (Some d) w e = both _ _ (denied _ e) refl

template_fine : (w : List ℕ) → has_float (template_value w) ≡ false
template_fine w = member_fine (cooked_of_units (cooked_value (chars w))) w (cooked_fine _)

fields_fine : (b : Bool) (kind : Kind) (l : Label) → all_fine (fields b kind l) ≡ true
fields_fine b k.Literal l = rw (literal_fine l.text, regex_fine l.text)
fields_fine b k.TemplateElement l = rw (template_fine l.text)
fields_fine b k.ExpressionStatement l = rw (directive_fine l)
fields_fine b kind l = refl

begun_fine : (kind : Kind) (start stop : ℕ) (vs : List Data) → ItemsFine vs → Fine (begun kind start stop vs)
begun_fine kind start stop vs h =
    let empty : Made = record { members = no_members; left = vs } in
    let typed = value_fine (codes "type") (string (type_name kind)) empty refl (record { members = refl; left = h }) in
    let from = value_fine (codes "start") (number (unsigned start)) (with_value (codes "type") (string (type_name kind)) empty) refl typed in
    value_fine (codes "end") (number (unsigned stop)) (with_value (codes "start") (number (unsigned start)) (with_value (codes "type") (string (type_name kind)) empty)) refl from

mutual
  unfolding node_json parts_json

  pub node_fine : (b : Bool) (t : Tree) → has_float (node_json b t) ≡ false
  node_fine b (node kind w g s e ps) =
      let l = label_of (node kind w g s e ps) in
      (many_fine (fields b kind l) (begun kind s e (parts_json ps)) (fields_fine b kind l) (begun_fine kind s e (parts_json ps) (parts_fine ps))).members

  parts_fine : (ps : Parts) → ItemsFine (parts_json ps)
  parts_fine none = refl
  parts_fine (part t ps) = both _ _ (node_fine (ends_parts ps) t) (parts_fine ps)
  parts_fine (gap ps) = both _ _ refl (parts_fine ps)

-- the text of the value of a tree is the definition's
pub text_written : {A E : Type 0} (bytes_of : A → List ℕ) (r : Result A E) (d : Data) (t : Tree) → d ≡ node_json true t
    → IfOk r (λ a. has_float d ≡ false → bytes_of a ≡ compact_text d) → IfOk r (λ a. bytes_of a ≡ json_text t)
text_written bytes_of (Ok a) d t f h = h (ap has_float f ∙ node_fine true t) ∙ ap compact_text f
text_written bytes_of (Err e) d t f h = tt
