-- Nodes of which rules say nothing.
use Rattle.std.specs.Prelude.{Bool, true, false, not, ◌&&◌, ◌||◌}
use Rattle.tree.specs.declared.kind.Kind.{Kind}
use Rattle.tree.specs.declared.kind.Kind.TheVariants.{ClassBody, ObjectExpression, SwitchStatement}
use Rattle.tree.specs.Tree.{Tree, Parts, none, part, gap, kind_of, parts_of}
use Rattle.repetition_rules.specs.Tests.{is_if}

-- a rule compares parts of such nodes
abbrev pub is_compared : Kind → Bool
is_compared ClassBody = true
is_compared ObjectExpression = true
is_compared SwitchStatement = true
is_compared _ = false

-- an `if` stands among parts
abbrev pub has_if : Parts → Bool
has_if none = false
has_if (part tree rest) = is_if (kind_of tree) || has_if rest
has_if (gap rest) = has_if rest

-- no rule compares its parts, and no `if` is one of them
abbrev pub is_bare : Tree → Bool
is_bare tree = not (is_compared (kind_of tree)) && not (has_if (parts_of tree))
