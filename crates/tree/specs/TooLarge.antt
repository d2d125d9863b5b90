-- Trees that four bytes don't number.
use Rattle.std.specs.Prelude.{◌≡◌, ℕ, ◌+◌, ◌<◌, max, length, Option, Some, None}
use Rattle.tree.specs.Tree.{Tree, Parts, node, none, part, gap, node_total, parts_total, part_count}
use Rattle.tree.specs.Labels.{Label}
use Rattle.tree.specs.Building.{AreNodesOf, most}
use Rattle.tree.specs.declared.build_error.BuildError.{BuildError}
use Rattle.tree.specs.declared.build_error.BuildError.TheVariants.{TooLarge}
use Rattle.tree.specs.declared.flat_builder.FlatBuilder.{FlatBuilder}

abbrev mutual
  -- how many parts the nodes of a tree have, gaps included
  pub part_total : Tree → ℕ
  part_total (node kind text flags from to parts) = part_count parts + parts_part_total parts

  pub parts_part_total : Parts → ℕ
  parts_part_total none = 0
  parts_part_total (part tree rest) = part_total tree + parts_part_total rest
  parts_part_total (gap rest) = parts_part_total rest

abbrev mutual
  -- the greatest place in a tree
  pub last_place : Tree → ℕ
  last_place (node kind text flags from to parts) = max (max from to) (parts_last_place parts)

  pub parts_last_place : Parts → ℕ
  parts_last_place none = 0
  parts_last_place (part tree rest) = max (last_place tree) (parts_last_place rest)
  parts_last_place (gap rest) = parts_last_place rest

-- more nodes or parts than are numbered, or a later place
abbrev pub IsTooLarge : Tree → Type 0
IsTooLarge tree = most < max (max (node_total tree) (part_total tree)) (last_place tree)

-- some parts, or one below them, are too large
abbrev pub AreTooLarge : Parts → Type 0
AreTooLarge parts = most < max (max (parts_total parts) (parts_part_total parts)) (parts_last_place parts)

-- one more node with this label and so many parts is too many for what is there, or too late
abbrev pub Overflows : FlatBuilder → Label → ℕ → Type 0
Overflows g l count = most < max (max (length g.nodes.items + 1) (length g.parts.items + count)) (max l.start l.stop)

-- all nodes of these parts are there while no call was refused; and the parts are too large where one was refused for that
pub record Holds (g : FlatBuilder) (refused : Option BuildError) (w : Parts) : Type 0 where
  pub nodes : refused ≡ None → AreNodesOf g w
  pub too_large : refused ≡ Some TooLarge → AreTooLarge w
