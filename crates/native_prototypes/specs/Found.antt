-- What is reported: assignments to members of built-in prototypes (12.15, clause 18), each where it stands.
use Rattle.std.specs.Prelude.{ℕ, Bool, true, false, not, cond, ◌&&◌, nat_le, List, [], ◌∷◌, ◌++◌, Option, Some, None, is_some, codes}
use Rattle.std.specs.List.{list_any}
use Rattle.std.specs.Str.{bytes_eq}
use Rattle.tree.specs.declared.kind.Kind.{Kind}
use Rattle.tree.specs.declared.kind.Kind.TheVariants.{AssignmentExpression, MemberExpression}
use Rattle.tree.specs.Kinds.{is_identifier}
use Rattle.tree.specs.Tree.{Tree, kind_of, text_of, flags_of, parts_of, part_at, start_of, stop_of}
use Rattle.tree.specs.Flat.{post_order}
use Rattle.language.specs.Vocabulary.{is}
use Rattle.scopes.specs.Found.{Reference}
use Rattle.reference_rules.specs.BuiltIn.{is_built_in_for}
use Rattle.rule_words.specs.Reports.{Report}

-- what settings and reports call the rule
abbrev pub called : List ℕ
called = codes "no-extend-native"

abbrev pub says : List ℕ
says = codes "built-in prototype is extended"

-- the first letter is a capital
abbrev pub is_capital : List ℕ → Bool
is_capital [] = false
is_capital (c ∷ cs) = nat_le 65 c && nat_le c 90

-- a reference of this name means a binding of the script
abbrev pub is_bound : List Reference → List ℕ → Bool
is_bound references name = list_any (λ r. is_some r.meaning && bytes_eq name r.name) references

abbrev pub is_member : Kind → Bool
is_member MemberExpression = true
is_member _ = false

abbrev pub is_assignment : Kind → Bool
is_assignment AssignmentExpression = true
is_assignment _ = false

-- the name `prototype`
abbrev pub is_prototype : Option Tree → Bool
is_prototype None = false
is_prototype (Some tree) = is_identifier (kind_of tree) && is (text_of tree) "prototype"

-- the object of a member
abbrev pub object_of : Option Tree → Option Tree
object_of None = None
object_of (Some tree) = cond (is_member (kind_of tree)) (part_at (parts_of tree) 0) None

-- what has a prototype: `a` of `a.prototype`
abbrev pub owner_of : Option Tree → Option Tree
owner_of None = None
owner_of (Some tree) = cond (not (flags_of tree).computed && is_prototype (part_at (parts_of tree) 1)) (object_of (Some tree)) None

-- what has the prototype whose member is assigned to
abbrev pub extended_by : Tree → Option Tree
extended_by tree = cond (is_assignment (kind_of tree)) (owner_of (object_of (part_at (parts_of tree) 0))) None

-- it is a built-in object, by its name
abbrev pub is_native : (is_2022 : Bool) → (List ℕ → Bool) → Option Tree → Bool
is_native is_2022 bound None = false
is_native is_2022 bound (Some tree) = is_identifier (kind_of tree) && (is_capital (text_of tree) && (is_built_in_for is_2022 (text_of tree) && not (bound (text_of tree))))

abbrev pub of_node : Bool → (List ℕ → Bool) → Tree → List Report
of_node is_2022 bound tree = cond (is_native is_2022 bound (extended_by tree)) (record { start = start_of tree; stop = stop_of tree; rule = called; text = says } ∷ []) []

abbrev pub over_nodes : Bool → (List ℕ → Bool) → List Tree → List Report
over_nodes is_2022 bound [] = []
over_nodes is_2022 bound (tree ∷ trees) = of_node is_2022 bound tree ++ over_nodes is_2022 bound trees

-- of a script, in the order of its nodes, with its references; where it has none, it assigns to no member of a name
abbrev pub found : Bool → List Reference → Tree → List Report
found is_2022 [] tree = []
found is_2022 (r ∷ rs) tree = over_nodes is_2022 (is_bound (r ∷ rs)) (post_order tree)
