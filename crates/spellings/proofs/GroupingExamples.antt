-- Examples: the rows of the nodes in the grouping pairs of small scripts.
use Rattle.std.specs.Prelude.{◌≡◌, ℕ, refl, List, [], ◌∷◌, Some, None, map}
use Rattle.tree.specs.declared.kind.Kind.TheVariants.{ArrayPattern, AssignmentExpression, BinaryExpression, ChainExpression, MemberExpression, SequenceExpression}
use Rattle.tree.specs.declared.kind.Pair.{Pair}
use Rattle.tree.specs.Tree.{Tree}
use Rattle.language.proofs.examples.Trees.{id, n, one, optional, pair, program, st, t, two}
use Rattle.spellings.specs.Groupings.{start_among, row_starts, row_after, grouping}

-- the row of each pair's node
abbrev rows_of : Tree → List Pair → List ℕ
rows_of a P = map (λ g. g.row) (map (grouping (row_starts a)) P)

-- `((a));`: both pairs are of the one node
pub two_of_one_node : rows_of (program 6 (one (st 0 6 (id "a" 2)))) (pair 0 4 ∷ pair 1 3 ∷ []) ≡ 1 ∷ 1 ∷ []
two_of_one_node = refl

-- `(a, b), c;`: the outer node starts with the pair, the node in it behind its `(`
pub sequence_in_sequence : rows_of (program 10 (one (st 0 10 (n SequenceExpression 0 9 (two (n SequenceExpression 1 5 (two (id "a" 1) (id "b" 4))) (id "c" 8)))))) (pair 0 5 ∷ []) ≡ 2 ∷ []
sequence_in_sequence = refl

-- `((a) + b) * c;`: the sum is in the outer pair, its first part in the inner
pub first_part_of_a_sum : rows_of (program 14 (one (st 0 14 (t BinaryExpression "*" 0 13 (two (t BinaryExpression "+" 1 8 (two (id "a" 2) (id "b" 7))) (id "c" 12)))))) (pair 0 8 ∷ pair 1 3 ∷ []) ≡ 2 ∷ 3 ∷ []
first_part_of_a_sum = refl

-- `(a?.b).c;`: the members of a chain have no rows, and the names behind their dots neither
pub chain_in_member : row_starts (program 9 (one (st 0 9 (n MemberExpression 0 8 (two (n ChainExpression 1 5 (one (optional (n MemberExpression 1 5 (two (id "a" 1) (id "b" 4)))))) (id "c" 7)))))) ≡ 0 ∷ 1 ∷ 1 ∷ 0 ∷ 0 ∷ 0 ∷ 0 ∷ 0 ∷ []
chain_in_member = refl

-- `[(a)] = b;`: the pattern has no row
pub target_in_pattern : rows_of (program 10 (one (st 0 10 (t AssignmentExpression "=" 0 9 (two (n ArrayPattern 0 5 (one (id "a" 2))) (id "b" 8)))))) (pair 1 3 ∷ []) ≡ 2 ∷ []
target_in_pattern = refl

-- where two nodes hold a row, the last counts
pub last_that_holds_it : start_among (Some 1 ∷ None ∷ Some 1 ∷ Some 2 ∷ []) (id "a" 3 ∷ id "b" 4 ∷ id "c" 5 ∷ id "d" 6 ∷ []) 1 0 ≡ 5
last_that_holds_it = refl

pub none_holds_it : start_among (Some 2 ∷ None ∷ []) (id "a" 3 ∷ id "b" 4 ∷ []) 1 0 ≡ 0
none_holds_it = refl

-- a row that starts at a place isn't behind it
pub behind_the_last : row_after (0 ∷ 2 ∷ []) 2 1 ≡ 0
behind_the_last = refl

pub none_behind : row_after [] 0 1 ≡ 0
none_behind = refl
