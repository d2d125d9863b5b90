-- Searches in a node and all below it, but not in the functions there.
use Rattle.std.specs.Prelude.{ℕ, Bool, true, false, not, ◌||◌, ◌&&◌, List, Option, Some, None}
use Rattle.tree.specs.declared.kind.Kind.TheVariants.{BreakStatement, ContinueStatement, YieldExpression}
use Rattle.tree.specs.Kinds.{is_function}
use Rattle.tree.specs.Tree.{Tree, node, Parts, none, part, gap, part_at}
use Rattle.node_rules.specs.Words.{is_name}
use Rattle.node_rules.specs.declared.search.Sought.{Sought}
use Rattle.node_rules.specs.declared.search.Sought.TheVariants.{Yield, Jump}

-- what is looked for: a `yield`; a `break` or `continue` with a label
abbrev pub is_sought : Sought → List ℕ → Tree → Bool
is_sought Yield label (node YieldExpression text flags from to parts) = true
is_sought Jump label (node BreakStatement text flags from to parts) = is_name label (part_at parts 0)
is_sought Jump label (node ContinueStatement text flags from to parts) = is_name label (part_at parts 0)
is_sought _ label tree = false

unfoldable mutual
  -- a node is so, or one below it that stands in no function there
  pub some_in : (Tree → Bool) → Tree → Bool
  some_in test (node kind text flags from to parts) = test (node kind text flags from to parts) || (not (is_function kind) && some_below test parts)

  pub some_below : (Tree → Bool) → Parts → Bool
  some_below test none = false
  some_below test (part tree rest) = some_in test tree || some_below test rest
  some_below test (gap rest) = some_below test rest

-- the same of a part that may be missing
abbrev pub has_sought : Sought → List ℕ → Option Tree → Bool
has_sought sought label None = false
has_sought sought label (Some tree) = some_in (is_sought sought label) tree
