-- What is derived, the fewest pairs, and cost tables.
use Rattle.std.specs.Prelude.{map, ◌≡◌, ℕ, zero, suc, ◌+◌, ◌≤◌, Bool, true, false, not, cond, ◌&&◌, ◌||◌, List, [], ◌∷◌, ◌++◌, length, nat_eq, slice_get, Option, Some, None, All, unwrap_or, ◌⊎◌}
use Rattle.tree.specs.declared.kind.Kind.{Kind}
use Rattle.language.specs.declared.Rank.TheVariants.{Expression, Member}
use Rattle.language.specs.declared.Start.{Start}
use Rattle.language.specs.declared.Start.TheVariants.{Any, NoBrace, Statement}
use Rattle.tree.specs.declared.kind.Pair.{Pair}
use Rattle.tree.specs.Tree.{Tree, node, Parts, none, part, gap, kind_of, parts_of, height, SameTree}
use Rattle.language.specs.Pieces.{Role, expr, script, PieceOf}
use Rattle.language.specs.Token.{Token}
use Rattle.language.specs.Grammar.{ways}
use Rattle.language.specs.Derivation.{Runs, Among}
use Rattle.language.specs.RowPositions.{rows, first_roles}
use Rattle.language.specs.Places.{SpellsIn}
use Rattle.language.specs.Cursor.{beginning, Next, behind}
use Rattle.language.specs.Cost.{add_cost, lesser, cell_position, if_any}

-- the text, in UTF-8, spells the tree as a Script, with at most o parentheses open at one point
abbrev pub DerivesOpen : ℕ → List ℕ → Tree → List Pair → Type 0
DerivesOpen o text tree P = (last : Token) × SpellsIn text o script tree beginning last P

abbrev pub Derives : List ℕ → Tree → List Pair → Type 0
Derives text tree P = (o : ℕ) × DerivesOpen o text tree P

-- the greatest height of a tree, and the most parentheses that are open at one point
abbrev pub max_height : ℕ
max_height = 600

abbrev pub max_open : ℕ
max_open = 1200

-- a text with fewer bytes is too short to be nested too deep
abbrev pub short_bytes : ℕ
short_bytes = 300

abbrev pub WithinLimits : List ℕ → Tree → List Pair → Type 0
WithinLimits text tree P = (height tree ≤ max_height) × DerivesOpen max_open text tree P

-- some text derives the tree with this number of pairs, and none derives it with fewer
pub record Fewest (n : Tree) (count : ℕ) : Type 0 where
  pub attained : (text : List ℕ) × (m : Tree) × (P : List Pair) × SameTree m n × Derives text m P × (length P ≡ count)
  pub least : (text : List ℕ) (m : Tree) (P : List Pair) → SameTree m n → Derives text m P → count ≤ length P

-- a table of costs: of each row the type and eight cells
pub record Table : Type 0 where
  pub rows : List (Kind × List (Option ℕ))
  pub total : ℕ

abbrev pub start_number : Start → ℕ
start_number Any = 0
start_number NoBrace = 1
start_number Statement = 2

-- the number, from 0, of the cell that counts at a position; no position has start Statement without In
abbrev pub cell_number : Role → ℕ
cell_number (expr Member has_in start) = 5 + start_number start
cell_number (expr rank true start) = start_number start
cell_number (expr rank false Any) = 3
cell_number (expr rank false _) = 4
cell_number _ = 0

abbrev pub cell_at : Option (Kind × List (Option ℕ)) → ℕ → Option ℕ
cell_at None c = None
cell_at (Some x) c = unwrap_or (slice_get x.1 c) None

-- of the row with this number, from 1, a cell
abbrev pub table_cell : Table → ℕ → ℕ → Option ℕ
table_cell t zero c = None
table_cell t (suc r) c = cell_at (slice_get t.rows r) c

unfoldable mutual
  -- the least number of pairs of a node at a position, by the table
  pub bound_at : Table → Tree → Role → ℕ → Option ℕ
  bound_at t (node kind text flags from to parts) (expr rank has_in start) r =
      lesser
      (if_any (ways (expr rank true Any) (node kind text flags from to parts)) (table_cell t r (cell_number (cell_position (expr rank has_in start)))))
      (add_cost (Some 1) (table_cell t r 0))
  bound_at t (node kind text flags from to parts) role r = if_any (ways role (node kind text flags from to parts)) (parts_bound t parts (first_roles (ways role (node kind text flags from to parts))) r)

  pub parts_bound : Table → Parts → List Role → ℕ → Option ℕ
  parts_bound t none xs r = Some 0
  parts_bound t (gap rest) xs r = parts_bound t rest xs r
  parts_bound t (part tree rest) [] r = None
  parts_bound t (part tree rest) (a ∷ xs) r = add_cost (bound_at t tree a r) (parts_bound t rest xs (r + rows tree a))

-- the bound of a cell of the row r, that of the node n
unfoldable pub cell_bound : Table → Tree → Role → ℕ → Option ℕ
cell_bound t tree role r = if_any (ways role tree) (parts_bound t (parts_of tree) (first_roles (ways role tree)) (suc r))

unfoldable pub total_bound : Table → Tree → Option ℕ
total_bound t tree = bound_at t tree script 1

unfoldable mutual
  -- the nodes that have rows, in source order
  pub row_nodes : Tree → Role → List Tree
  row_nodes (node kind text flags from to parts) (expr rank has_in start) = node kind text flags from to parts ∷ parts_row_nodes parts (first_roles (ways (expr Expression true Any) (node kind text flags from to parts)))
  row_nodes (node kind text flags from to parts) role = parts_row_nodes parts (first_roles (ways role (node kind text flags from to parts)))

  pub parts_row_nodes : Parts → List Role → List Tree
  parts_row_nodes none xs = []
  parts_row_nodes (gap rest) xs = parts_row_nodes rest xs
  parts_row_nodes (part tree rest) [] = []
  parts_row_nodes (part tree rest) (a ∷ xs) = row_nodes tree a ++ parts_row_nodes rest xs

-- the positions of the eight cells
abbrev pub contexts : List Role
contexts =
    expr Expression true Any ∷ expr Expression true NoBrace ∷ expr Expression true Statement ∷
    expr Expression false Any ∷ expr Expression false NoBrace ∷
    expr Member true Any ∷ expr Member true NoBrace ∷ expr Member true Statement ∷ []

-- the first is no greater than the second
abbrev pub NoGreater : Option ℕ → Option ℕ → Type 0
NoGreater x None = Unit {0}
NoGreater None (Some n) = ⊥
NoGreater (Some m) (Some n) = m ≤ n

pub record Sound (t : Table) (n : Tree) : Type 0 where
  pub shape : Rattle.std.specs.Prelude.map (λ x. x.0) t.rows ≡ Rattle.std.specs.Prelude.map kind_of (row_nodes n script)
  pub below : (r : ℕ) (m : Tree) → slice_get (row_nodes n script) r ≡ Some m → (c : ℕ) (a : Role) → slice_get contexts c ≡ Some a → NoGreater (table_cell t (suc r) c) (cell_bound t m a (suc r))
  pub total : NoGreater (Some t.total) (total_bound t n)

-- the tokens between the cursors spell the node directly at the position
abbrev pub SpellsDirectly : Role → Tree → List Token → List Token → List Pair → Type 0
SpellsDirectly role tree ts us P = (m : Tree) × (o : ℕ) × (qs : List (PieceOf Role)) × SameTree m tree × Among qs (ways role m) × Runs ways (List Token) Next behind o qs (parts_of m) ts us P
