-- `__proto__` in objects.
use Rattle.std.specs.Prelude.{ℕ, Bool, true, false, not, ◌&&◌, List, []}
use Rattle.tree.specs.declared.kind.Kind.{Kind}
use Rattle.tree.specs.declared.kind.Kind.TheVariants.{ObjectExpression, Property}
use Rattle.tree.specs.Uses.{is_init}
use Rattle.tree.specs.Tree.{Tree, node, kind_of, flags_of, parts_of}
use Rattle.name_tables.specs.BoundNames.{each_part}
use Rattle.early_errors.specs.Names.{when}
use Rattle.early_errors.specs.Classes.{key_places, has_key, named, after_first}
use Rattle.early_errors.specs.Around.{Around}

abbrev pub is_property : Kind → Bool
is_property Property = true
is_property _ = false

-- a property with a key and a value: no shorthand, method, getter or setter, and no spread
abbrev pub has_value : Tree → Bool
has_value tree = is_property (kind_of tree) && is_init (flags_of tree).form

-- a property `__proto__: v`
abbrev pub is_proto : Tree → Bool
is_proto tree = (not (flags_of tree).computed && has_key (parts_of tree) (λ n. named n "__proto__")) && has_value tree

abbrev pub proto_places : Tree → List ℕ
proto_places tree = when (is_proto tree) (key_places (parts_of tree))

-- A second or later `__proto__: v` of one object, in the language of 2022 (13.2.5.1 of the 13th edition): its key. A pattern is another kind of node.
unfoldable pub duplicate_proto : Around → Tree → List ℕ
duplicate_proto z (node ObjectExpression text flags from to parts) = when z.of_2022 (after_first (each_part proto_places parts))
duplicate_proto z (node _ text flags from to parts) = []
