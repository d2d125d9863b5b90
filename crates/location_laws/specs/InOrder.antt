-- Trees whose nodes stand in order of their places.
use Rattle.std.specs.Prelude.{ℕ, Bool, true, false, cond, ◌&&◌, nat_le, nat_eq}
use Rattle.tree.specs.declared.kind.Kind.{Kind}
use Rattle.tree.specs.declared.kind.Kind.TheVariants.{Identifier, Property}
use Rattle.tree.specs.declared.kind.Form.{Form}
use Rattle.tree.specs.declared.kind.Form.TheVariants.{Shorthand}
use Rattle.tree.specs.declared.kind.Flags.{Flags}
use Rattle.tree.specs.Tree.{Tree, node, Parts, none, part, gap, start_of, stop_of}

-- a property that is named by its value (12.2.6, 13.3.3)
abbrev pub is_shorthand : Kind → Flags → Bool
is_shorthand Property g = is_short g.form
  where
    is_short : Form → Bool
    is_short Shorthand = true
    is_short _ = false
is_shorthand _ g = false

abbrev pub is_name : Tree → Bool
is_name (node Identifier w g s e none) = true
is_name _ = false

unfoldable mutual
  -- a node's parts stand within its span, each where the one before it ends or behind it; but a shorthand property's key stands in its value
  pub in_order : Tree → Bool
  in_order (node k w g s e ps) = nat_le s e && cond (is_shorthand k g) (key_in_value s e ps) (parts_in_order s e ps)

  -- parts between two places
  pub parts_in_order : ℕ → ℕ → Parts → Bool
  parts_in_order from to none = nat_le from to
  parts_in_order from to (gap ps) = parts_in_order from to ps
  parts_in_order from to (part t ps) = nat_le from (start_of t) && (in_order t && parts_in_order (stop_of t) to ps)

  -- a name and a value that begin where the property does; the value ends where it does, the name no later
  pub key_in_value : ℕ → ℕ → Parts → Bool
  key_in_value from to (part k (part v none)) = is_name k && (in_order k && (nat_eq (start_of k) from && (nat_le (stop_of k) to && (in_order v && (nat_eq (start_of v) from && nat_eq (stop_of v) to)))))
  key_in_value from to _ = false
