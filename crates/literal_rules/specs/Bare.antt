-- Nodes without a text that rules read.
use Rattle.std.specs.Prelude.{Bool, false, not, ◌&&◌, ◌||◌}
use Rattle.tree.specs.Tree.{Tree, Parts, none, part, gap, kind_of, parts_of}
use Rattle.literal_rules.specs.Found.{is_literal, is_template}

-- a template stands among parts
abbrev pub has_template : Parts → Bool
has_template none = false
has_template (part tree rest) = is_template (kind_of tree) || has_template rest
has_template (gap rest) = has_template rest

-- no literal, and no template among its parts
abbrev pub is_bare : Tree → Bool
is_bare tree = not (is_literal (kind_of tree)) && not (has_template (parts_of tree))
