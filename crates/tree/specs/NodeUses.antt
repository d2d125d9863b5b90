-- Which nodes have rows: expressions where they are evaluated, and simple targets. Rows are counted from 1 in source order, a node's before
-- those of its parts. Of a tree that a text derives they are those of the cost table; of another tree they say nothing.
use Rattle.std.specs.Prelude.{ℕ, zero, suc, ◌+◌, Bool, false, not, ◌&&◌, ◌||◌, cond, nat_eq, List, [], ◌∷◌, ◌++◌, Option, Some, None}
use Rattle.tree.specs.declared.kind.Kind.{Kind}
use Rattle.tree.specs.declared.kind.Kind.TheVariants as kind
use Rattle.tree.specs.declared.kind.Flags.{Flags}
use Rattle.tree.specs.declared.kind.Form.{Form}
use Rattle.tree.specs.declared.kind.Form.TheVariants.{Init}
use Rattle.tree.specs.declared.node_use.NodeUse.{NodeUse}
use Rattle.tree.specs.declared.node_use.NodeUse.TheVariants.{Evaluated, ChainPart, Assigned, Bound, NotEvaluated}
use Rattle.tree.specs.declared.node_use.ParentUse.{ParentUse}
use Rattle.tree.specs.declared.node_use.ChildPlace.{ChildPlace}
use Rattle.tree.specs.Kinds.{is_chain_part, is_expression, is_pattern, is_target}
use Rattle.tree.specs.Tree.{Tree, Parts, node, none, part, gap, kind_of, part_count, parts_take}

abbrev pub has_row : NodeUse → Kind → Bool
has_row Evaluated node_kind = is_expression node_kind
has_row Assigned node_kind = is_target node_kind
has_row _ node_kind = false

abbrev pub first_else : ℕ → NodeUse → NodeUse → NodeUse
first_else zero a b = a
first_else (suc i) a b = b

abbrev pub value_use : NodeUse → Form → NodeUse
value_use Assigned Init = Assigned
value_use Bound Init = Bound
value_use NotEvaluated Init = NotEvaluated
value_use _ Init = Evaluated
value_use _ _ = NotEvaluated

-- a key
abbrev pub key_use : Flags → NodeUse
key_use flags = cond flags.computed Evaluated NotEvaluated

abbrev pub property_use : NodeUse → Flags → ℕ → NodeUse
property_use a flags i = first_else i (key_use flags) (value_use a flags.form)

-- what a member or a call is of
abbrev pub on_chain : NodeUse → Bool → NodeUse
on_chain ChainPart goes_on = cond goes_on ChainPart Evaluated
on_chain _ goes_on = Evaluated

abbrev pub callee_use : ParentUse → ChildPlace → NodeUse
callee_use a p = on_chain a.node_use (nat_eq p.index 0 && (not a.flags.optional || p.is_chained))

abbrev pub member_use : ParentUse → ChildPlace → NodeUse
member_use a p = first_else p.index (callee_use a p) (cond a.flags.computed Evaluated NotEvaluated)

abbrev pub part_use_in : Kind → ParentUse → ChildPlace → NodeUse
part_use_in kind.Property a p = property_use a.node_use a.flags p.index
part_use_in kind.MethodDefinition a p = property_use a.node_use a.flags p.index
part_use_in kind.PropertyDefinition a p = first_else p.index (key_use a.flags) Evaluated
part_use_in kind.MemberExpression a p = member_use a p
part_use_in kind.CallExpression a p = callee_use a p
part_use_in kind.ChainExpression a p = ChainPart
part_use_in kind.TaggedTemplateExpression a p = first_else p.index Evaluated NotEvaluated
part_use_in kind.MetaProperty a p = NotEvaluated
part_use_in kind.LabeledStatement a p = NotEvaluated
part_use_in kind.BreakStatement a p = NotEvaluated
part_use_in kind.ContinueStatement a p = NotEvaluated
part_use_in kind.ImportDeclaration a p = NotEvaluated
part_use_in kind.ImportSpecifier a p = NotEvaluated
part_use_in kind.ImportDefaultSpecifier a p = NotEvaluated
part_use_in kind.ImportNamespaceSpecifier a p = NotEvaluated
part_use_in kind.ExportNamedDeclaration a p = NotEvaluated
part_use_in kind.ExportSpecifier a p = NotEvaluated
part_use_in kind.ExportAllDeclaration a p = NotEvaluated
part_use_in kind.FunctionExpression a p = cond p.is_last NotEvaluated (first_else p.index NotEvaluated Bound)
part_use_in kind.FunctionDeclaration a p = cond p.is_last NotEvaluated (first_else p.index NotEvaluated Bound)
part_use_in kind.ArrowFunctionExpression a p = cond p.is_last (cond a.flags.expression Evaluated NotEvaluated) Bound
part_use_in kind.ClassExpression a p = cond (nat_eq p.index 1) Evaluated NotEvaluated
part_use_in kind.ClassDeclaration a p = cond (nat_eq p.index 1) Evaluated NotEvaluated
part_use_in kind.CatchClause a p = first_else p.index Bound NotEvaluated
part_use_in kind.VariableDeclarator a p = first_else p.index Bound Evaluated
part_use_in kind.ExpressionStatement a p = cond a.flags.directive NotEvaluated Evaluated
part_use_in kind.ArrayPattern a p = a.node_use
part_use_in kind.ObjectPattern a p = a.node_use
part_use_in kind.RestElement a p = a.node_use
part_use_in kind.AssignmentPattern a p = first_else p.index a.node_use Evaluated
part_use_in kind.AssignmentExpression a p = cond (is_pattern p.kind) (first_else p.index Assigned Evaluated) Evaluated
part_use_in kind.ForInStatement a p = cond (is_pattern p.kind) (first_else p.index Assigned Evaluated) Evaluated
part_use_in kind.ForOfStatement a p = cond (is_pattern p.kind) (first_else p.index Assigned Evaluated) Evaluated
part_use_in _ a p = Evaluated

abbrev pub part_use : ParentUse → ChildPlace → NodeUse
part_use a p = part_use_in a.kind a p

abbrev mutual
  -- whether a `?.` stands in a member or a call, or in what it is of
  pub contains_optional : Tree → Bool
  contains_optional (node node_kind text flags from to parts) = is_chain_part node_kind && (flags.optional || first_contains_optional parts)

  pub first_contains_optional : Parts → Bool
  first_contains_optional none = false
  first_contains_optional (gap rest) = false
  first_contains_optional (part tree rest) = contains_optional tree

-- whether a chain goes on or ends at what is below
abbrev pub looks_from : NodeUse → Bool → Bool
looks_from ChainPart b = b
looks_from _ b = false

abbrev pub looks : ParentUse → ℕ → Bool
looks a i = looks_from a.node_use (a.flags.optional && nat_eq i 0)

-- a part among so many
abbrev pub child_place : ParentUse → ℕ → ℕ → Tree → ChildPlace
child_place a count i tree = record { index = i; is_last = nat_eq (i + 1) count; kind = kind_of tree; is_chained = looks a i && contains_optional tree }

abbrev pub use_in : ParentUse → ℕ → ℕ → Tree → NodeUse
use_in a count i tree = part_use a (child_place a count i tree)

abbrev pub own_rows : NodeUse → Kind → ℕ
own_rows a node_kind = cond (has_row a node_kind) 1 0

abbrev mutual
  pub rows_in : NodeUse → Tree → ℕ
  rows_in a (node node_kind text node_flags from to parts) = own_rows a node_kind + parts_rows (record { node_use = a; kind = node_kind; flags = node_flags }) (part_count parts) 0 parts

  pub parts_rows : ParentUse → ℕ → ℕ → Parts → ℕ
  parts_rows a count i none = 0
  parts_rows a count i (gap rest) = parts_rows a count (i + 1) rest
  parts_rows a count i (part tree rest) = rows_in (use_in a count i tree) tree + parts_rows a count (i + 1) rest

abbrev mutual
  -- the rows of a tree's nodes, parts before their node, where the next row has this number
  pub row_list : NodeUse → ℕ → Tree → List (Option ℕ)
  row_list a r (node node_kind text node_flags from to parts) =
      parts_row_list (record { node_use = a; kind = node_kind; flags = node_flags }) (part_count parts) 0 (r + own_rows a node_kind) parts ++ cond (has_row a node_kind) (Some r) None ∷ []

  pub parts_row_list : ParentUse → ℕ → ℕ → ℕ → Parts → List (Option ℕ)
  parts_row_list a count i r none = []
  parts_row_list a count i r (gap rest) = parts_row_list a count (i + 1) r rest
  parts_row_list a count i r (part tree rest) =
      row_list (use_in a count i tree) r tree ++ parts_row_list a count (i + 1) (r + rows_in (use_in a count i tree) tree) rest

-- the rows in the parts before a place
abbrev pub rows_before : ParentUse → ℕ → ℕ → Parts → ℕ
rows_before a count i parts = parts_rows a count 0 (parts_take i parts)

-- those of a whole script
abbrev pub rows_of : Tree → List (Option ℕ)
rows_of tree = row_list NotEvaluated 1 tree
