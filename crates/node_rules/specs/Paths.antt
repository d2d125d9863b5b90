-- Names, `this`, `super`, literals, and members of such by such: what two of them say is compared as it is written, places aside.
use Rattle.std.specs.Prelude.{ℕ, Bool, true, false, not, ◌&&◌, ◌||◌, cond, List, Option, Some, None}
use Rattle.std.specs.Str.{bytes_eq}
use Rattle.tree.specs.declared.kind.Kind.{Kind}
use Rattle.tree.specs.declared.kind.Flags.{Flags}
use Rattle.tree.specs.Tree.{Tree, node, Parts, none, part, gap, kind_of, text_of, flags_of, part_at, parts_of}
use Rattle.node_rules.specs.KindSets.{is_literal_kind, is_member_expression, is_name_kind, is_super, is_this}

-- two single names, two literals, `this` twice or `super` twice
abbrev pub are_leaves : Kind → Kind → Bool
are_leaves one other = (is_name_kind one && is_name_kind other) || ((is_literal_kind one && is_literal_kind other) || ((is_this one && is_this other) || (is_super one && is_super other)))

abbrev pub is_same_leaf : Tree → Tree → Bool
is_same_leaf one other = are_leaves (kind_of one) (kind_of other) && bytes_eq (text_of one) (text_of other)

abbrev pub is_same_part : Option Tree → Option Tree → Bool
is_same_part None other = false
is_same_part (Some one) None = false
is_same_part (Some one) (Some other) = is_same_leaf one other

-- two members have one key: both in brackets, or neither
abbrev pub is_same_key : Tree → Tree → Bool
is_same_key one other = cond (flags_of one).computed (flags_of other).computed (not (flags_of other).computed) && is_same_part (part_at (parts_of one) 1) (part_at (parts_of other) 1)

-- two members
abbrev pub are_members : Tree → Tree → Bool
are_members one other = is_member_expression (kind_of one) && is_member_expression (kind_of other)

unfoldable mutual
  pub is_same_path : Tree → Tree → Bool
  is_same_path (node kind text flags from to parts) other =
      cond (are_members (node kind text flags from to parts) other) (is_same_key (node kind text flags from to parts) other && is_same_object parts (parts_of other))
      (is_same_leaf (node kind text flags from to parts) other)

  -- the objects of two members
  pub is_same_object : Parts → Parts → Bool
  is_same_object (part one rest) (part other others) = is_same_path one other
  is_same_object (part one rest) none = false
  is_same_object (part one rest) (gap others) = false
  is_same_object none others = false
  is_same_object (gap rest) others = false

-- the same of parts that may be missing
abbrev pub are_same : Option Tree → Option Tree → Bool
are_same None other = false
are_same (Some one) None = false
are_same (Some one) (Some other) = is_same_path one other
