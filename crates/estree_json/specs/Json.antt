-- The JSON of a tree: an object for each node, with ESTree's type, the node's place in bytes and the fields of its type, keys in
-- the order of their bytes.
use Rattle.std.specs.Prelude.{ℕ, Bool, true, false, ◌-◌, List, [], ◌∷◌, length, take, drop, Option, Some, None, codes}
use Rattle.serde_json.specs.Data.{Data, null, number, unsigned, string, array, object, Members, no_members, put}
use Rattle.serde_json.specs.View.{items_of}
use Rattle.serde_json.specs.Written.{compact_text}
use Rattle.tree.specs.declared.kind.Kind.{Kind}
use Rattle.tree.specs.Tree.{Tree, Parts, node, none, part, gap, text_of, flags_of, parts_of}
use Rattle.tree.specs.Kinds.{type_name}
use Rattle.estree_json.specs.Fields.{Field, Label, fields, first_text}
use Rattle.estree_json.specs.Fields as f

-- an object that is being made: its members so far, and the values of the parts that have no name yet
pub record Made : Type 0 where
  pub members : Members
  pub left : List Data

abbrev pub first_or_null : List Data → Data
first_or_null [] = null
first_or_null (d ∷ ds) = d

-- the first, the third and so on; the second, the fourth and so on
abbrev pub odd_ones : List Data → List Data
odd_ones [] = []
odd_ones (d ∷ []) = d ∷ []
odd_ones (d ∷ e ∷ ds) = d ∷ odd_ones ds

abbrev pub even_ones : List Data → List Data
even_ones ds = odd_ones (drop 1 ds)

-- one more member
unfoldable pub with_value : List ℕ → Data → Made → Made
with_value name d m = record { members = put name d m.members; left = m.left }

-- one more member, of the next part
unfoldable pub with_part : List ℕ → Made → Made
with_part name m = record { members = put name (first_or_null m.left) m.members; left = drop 1 m.left }

-- one more member, of the next parts but for the last so many
unfoldable pub with_list : List ℕ → ℕ → Made → Made
with_list name behind m =
    record { members = put name (array (items_of (take (length m.left - behind) m.left))) m.members; left = drop (length m.left - behind) m.left }

-- two more members, of the next part and of the last one
unfoldable pub with_ends : List ℕ → List ℕ → Made → Made
with_ends first last m =
    record { members = put last (first_or_null (drop (length m.left - 1) m.left)) (put first (first_or_null m.left) m.members); left = [] }

-- two more members, of the next parts in turns
unfoldable pub with_turns : List ℕ → List ℕ → Made → Made
with_turns first second m =
    record { members = put second (array (items_of (even_ones m.left))) (put first (array (items_of (odd_ones m.left))) m.members); left = [] }

-- one more member, or none
unfoldable pub with_option : List ℕ → Option Data → Made → Made
with_option name None m = m
with_option name (Some d) m = with_value name d m

abbrev pub with_field : Field → Made → Made
with_field (f.part name) m = with_part (codes name) m
with_field (f.list name behind) m = with_list (codes name) behind m
with_field (f.ends first last) m = with_ends (codes first) (codes last) m
with_field (f.turns first second) m = with_turns (codes first) (codes second) m
with_field (f.says name d) m = with_value (codes name) d m
with_field (f.may name o) m = with_option (codes name) o m

abbrev pub with_fields : List Field → Made → Made
with_fields [] m = m
with_fields (field ∷ more) m = with_fields more (with_field field m)

abbrev pub ends_parts : Parts → Bool
ends_parts none = true
ends_parts (part t ps) = false
ends_parts (gap ps) = false

-- type and place
abbrev pub begun : Kind → ℕ → ℕ → List Data → Made
begun kind start stop values =
    with_value (codes "end") (number (unsigned stop)) (with_value (codes "start") (number (unsigned start))
    (with_value (codes "type") (string (type_name kind)) (record { members = no_members; left = values })))

-- what a node's fields depend on beside its kind and its parts
abbrev pub label_of : Tree → Label
label_of t = record { text = text_of t; flags = flags_of t; first_text = first_text (parts_of t) }

unfoldable mutual
  -- the value of a node; the flag says that it is the last part of the node that it is in
  pub node_json : Bool → Tree → Data
  node_json is_last (node kind text flags start stop ps) =
      object (with_fields (fields is_last kind (label_of (node kind text flags start stop ps)))
      (begun kind start stop (parts_json ps))).members

  -- the values of parts, null for what is missing
  pub parts_json : Parts → List Data
  parts_json none = []
  parts_json (part t ps) = node_json (ends_parts ps) t ∷ parts_json ps
  parts_json (gap ps) = null ∷ parts_json ps

-- the value of a script
abbrev pub json_of : Tree → Data
json_of t = node_json true t

-- its text
abbrev pub json_text : Tree → List ℕ
json_text t = compact_text (json_of t)
