-- Tests of a node's parts.
use Rattle.std.specs.Prelude.{Bool, true, false, not, is_some, ◌||◌, ◌&&◌, Option, Some, None}
use Rattle.tree.specs.declared.kind.Kind.TheVariants.{Literal}
use Rattle.tree.specs.Tree.{Tree, node, Parts, none, part, gap}
use Rattle.language.specs.Vocabulary.{is}
use Rattle.node_rules.specs.KindSets.{destructures, has_default, is_case}
use Rattle.node_rules.specs.Words.{kind_at, nth}
use Rattle.node_rules.specs.declared.part_test.PartTest.{PartTest}
use Rattle.node_rules.specs.declared.part_test.PartTest.TheVariants.{IsDefault, IsGap, IsNull, IsPattern}

-- some part, or gap, is so
unfoldable pub any_part : (Option Tree → Bool) → Parts → Bool
any_part test none = false
any_part test (part tree rest) = test (Some tree) || any_part test rest
any_part test (gap rest) = test None || any_part test rest

abbrev pub is_null : Option Tree → Bool
is_null None = false
is_null (Some (node Literal text flags from to parts)) = is text "null"
is_null (Some (node _ text flags from to parts)) = false

abbrev pub is_gap : Option Tree → Bool
is_gap None = true
is_gap (Some tree) = false

-- a case with a test
abbrev pub has_test : Option Tree → Bool
has_test None = false
has_test (Some tree) = is_some (nth 0 tree)

-- a pattern, perhaps with a default
abbrev pub is_pattern : Option Tree → Bool
is_pattern it = destructures (kind_at it) || has_default (kind_at it)

-- `default`
abbrev pub is_default : Option Tree → Bool
is_default it = is_case (kind_at it) && not (has_test it)

abbrev pub passes : PartTest → Option Tree → Bool
passes IsDefault it = is_default it
passes IsGap it = is_gap it
passes IsNull it = is_null it
passes IsPattern it = is_pattern it
