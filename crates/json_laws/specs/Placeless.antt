-- JSON without places, and what ESTree doesn't say of a tree.
use Rattle.std.specs.Prelude.{ℕ, Bool, true, false, cond, ◌||◌, List, [], ◌∷◌, ◌++◌, bytes_eq, codes}
use Rattle.serde_json.specs.Data.{Data, null, boolean, number, string, array, object, Items, no_items, item, Members, no_members, member}
use Rattle.tree.specs.declared.kind.Kind.{Kind}
use Rattle.tree.specs.declared.kind.Kind.TheVariants.{ImportSpecifier, ExportSpecifier}
use Rattle.tree.specs.declared.kind.Form.{Form}
use Rattle.tree.specs.Tree.{Tree, node, Parts, none, part, gap}

-- the keys of places
abbrev pub is_place : List ℕ → Bool
is_place key = bytes_eq key (codes "start") || bytes_eq key (codes "end")

abbrev mutual
  -- each object without its members of such keys
  pub without_places : Data → Data
  without_places null = null
  without_places (boolean b) = boolean b
  without_places (number n) = number n
  without_places (string s) = string s
  without_places (array ds) = array (items_without ds)
  without_places (object ms) = object (members_without ms)

  pub items_without : Items → Items
  items_without no_items = no_items
  items_without (item d ds) = item (without_places d) (items_without ds)

  pub members_without : Members → Members
  members_without no_members = no_members
  members_without (member key d ms) = cond (is_place key) (members_without ms) (member key (without_places d) (members_without ms))

abbrev pub is_specifier : Kind → Bool
is_specifier ImportSpecifier = true
is_specifier ExportSpecifier = true
is_specifier _ = false

abbrev mutual
  -- of the names in the braces of imports and exports, in source order, whether each has one name, as `{a}`, or two, as `{a as a}`
  pub specifier_forms : Tree → List Form
  specifier_forms (node kind text flags from to parts) = cond (is_specifier kind) (flags.form ∷ parts_forms parts) (parts_forms parts)

  pub parts_forms : Parts → List Form
  parts_forms none = []
  parts_forms (part tree rest) = specifier_forms tree ++ parts_forms rest
  parts_forms (gap rest) = parts_forms rest
