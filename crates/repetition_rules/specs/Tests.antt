-- Tests of `if` and `else if` that can't hold: what they ask, a test further up the chain asks too (13.6, 12.13).
use Rattle.std.specs.Prelude.{ℕ, zero, suc, Bool, true, false, ◌&&◌, ◌||◌, cond, map, List, [], ◌∷◌, ◌++◌, Option, Some, None, codes}
use Rattle.std.specs.List.{list_any, list_all}
use Rattle.std.specs.Str.{bytes_eq}
use Rattle.tree.specs.declared.kind.Kind.{Kind}
use Rattle.tree.specs.declared.kind.Kind.TheVariants.{IfStatement, LogicalExpression}
use Rattle.tree.specs.Tree.{Tree, node, Parts, none, part, gap, kind_of, part_at, parts_of}
use Rattle.name_tables.specs.BoundNames.{each_part}
use Rattle.repetition_rules.specs.Written.{written}

abbrev pub is_if : Kind → Bool
is_if IfStatement = true
is_if _ = false

abbrev pub is_logical : Kind → Bool
is_logical LogicalExpression = true
is_logical _ = false

unfoldable mutual
  -- the operands of an operator, as deep as it is taken apart
  pub split : List ℕ → Tree → List Tree
  split operator (node kind text flags from to parts) =
      cond (is_logical kind && bytes_eq text operator) (split_parts operator (node kind text flags from to parts) parts) (node kind text flags from to parts ∷ [])

  -- those of a node with these parts, the first two of them
  pub split_parts : List ℕ → Tree → Parts → List Tree
  split_parts operator tree (part left (part right rest)) = split operator left ++ split operator right
  split_parts operator tree _ = tree ∷ []

-- what holds together where a test holds: all operands of `&&`, each as it is written
abbrev pub Choice : Type 0
Choice = List (List ℕ)

abbrev pub asked : Tree → Choice
asked tree = map written (split (codes "&&") tree)

-- a test holds where one of these does
abbrev pub choices : Tree → List Choice
choices tree = map asked (split (codes "||") tree)

abbrev pub is_among : Choice → List ℕ → Bool
is_among choice label = list_any (λ other. bytes_eq other label) choice

-- where one holds, all that the other asks holds
abbrev pub is_covered_by : Choice → Choice → Bool
is_covered_by choice earlier = list_all (λ label. is_among choice label) earlier

-- one of these holds wherever it does
abbrev pub is_covered : List Choice → Choice → Bool
is_covered before choice = list_any (λ earlier. is_covered_by choice earlier) before

-- wherever a test holds, one of these does
abbrev pub is_covered_test : List Choice → Tree → Bool
is_covered_test before tree = list_all (λ choice. is_covered before choice) (choices tree)

-- so it is with the test, or with an operand of its `&&`
abbrev pub never_holds : List Choice → Tree → Bool
never_holds before tree = is_covered_test before tree || list_any (λ operand. is_covered_test before operand) (split (codes "&&") tree)

abbrev pub alone : Option Tree → List Tree
alone None = []
alone (Some tree) = tree ∷ []

unfoldable mutual
  -- the test of an `if`, and those of the chain at its `else`
  pub tests : Tree → List Tree
  tests (node kind text flags from to parts) = cond (is_if kind) (alone (part_at parts 0) ++ tests_at 2 parts) []

  -- those of the part at a place
  pub tests_at : ℕ → Parts → List Tree
  tests_at i none = []
  tests_at zero (part tree rest) = tests tree
  tests_at zero (gap rest) = []
  tests_at (suc i) (part tree rest) = tests_at i rest
  tests_at (suc i) (gap rest) = tests_at i rest

-- of these tests, behind what those before them ask, those that never hold
abbrev pub moot_among : List Choice → List Tree → List Tree
moot_among before [] = []
moot_among before (test ∷ rest) = cond (never_holds before test) (test ∷ []) [] ++ moot_among (before ++ choices test) rest

-- of the chain that begins here
abbrev pub moot_tests : Tree → List Tree
moot_tests tree = moot_among [] (tests tree)

abbrev pub moot_at : Option Tree → List Tree
moot_at None = []
moot_at (Some tree) = moot_tests tree

-- where chains begin among the parts of a node: the alternate of an `if` begins none
abbrev pub moot_below : Tree → List Tree
moot_below tree = cond (is_if (kind_of tree)) (moot_at (part_at (parts_of tree) 1)) (each_part moot_tests (parts_of tree))
