-- What the walk has found so far, and what it is given, in the words of `Found`.
use Rattle.std.specs.Prelude.{ℕ, Bool, true, false, cond, ◌-◌, List}
use Rattle.tree.specs.declared.kind.Kind.{Kind}
use Rattle.tree.specs.declared.kind.Kind.TheVariants.{Program, StaticBlock, BlockStatement, SwitchStatement, CatchClause, ForStatement, ForInStatement, ForOfStatement, FunctionDeclaration, FunctionExpression, ArrowFunctionExpression, ClassDeclaration, ClassExpression}
use Rattle.tree.specs.Tree.{Tree, kind_of, text_of, flags_of, parts_of, part_at, part_count, start_of, stop_of, parts_drop}
use Rattle.std.specs.Prelude.{is_some, unwrap_or}
use Rattle.scopes.specs.declared.identifier_use.IdentifierUse.{IdentifierUse}
use Rattle.scopes.specs.declared.walk.Context.{Context as CodeAround}
use Rattle.scopes.specs.declared.walk.Walk.{Walk}
use Rattle.scopes.specs.Roles.{does_read, does_write, is_called, is_constructed, is_typeof_operand}
use Rattle.scopes.specs.Found.{Frame, Around, Inside, Found, Reference, nearest, scope_of, all_parts, in_scope, parts_from}
use Rattle.scopes.specs.Openings.{scope_round_all, scope_round_others}
use Rattle.scopes.specs.Shown.{found_of}

abbrev pub seen : Walk → Found
seen w = found_of w.scopes.items w.references.items

abbrev pub round : CodeAround → List Frame → Around
round a fs = record { frames = fs; in_function = a.in_function; role = a.role }

abbrev pub inside_of : IdentifierUse → Tree → Inside
inside_of u tree = record { role = u; kind = kind_of tree; text = text_of tree; flags = flags_of tree; last = part_count (parts_of tree) - 1; has_last = is_some (part_at (parts_of tree) (part_count (parts_of tree) - 1)) }

-- the kinds of nodes that may make a scope, or have an `arguments` of their own
abbrev pub may_make_scope : Kind → Bool
may_make_scope Program = true
may_make_scope StaticBlock = true
may_make_scope BlockStatement = true
may_make_scope SwitchStatement = true
may_make_scope CatchClause = true
may_make_scope ForStatement = true
may_make_scope ForInStatement = true
may_make_scope ForOfStatement = true
may_make_scope FunctionDeclaration = true
may_make_scope FunctionExpression = true
may_make_scope ArrowFunctionExpression = true
may_make_scope ClassDeclaration = true
may_make_scope ClassExpression = true
may_make_scope _ = false

-- the reference that an identifier makes
abbrev pub reference_at : Around → Tree → Reference
reference_at z tree = record { name = text_of tree; scope = unwrap_or (scope_of z.frames) 0; reads = does_read z.role; writes = does_write z.role; start = start_of tree; stop = stop_of tree; typeof_operand = is_typeof_operand z.role; called = is_called z.role; constructed = is_constructed z.role; meaning = nearest (text_of tree) z.frames }

-- ---- what is found in a node's parts: in those behind the first, in all, in either

abbrev pub others_within : IdentifierUse → Tree → Around → ℕ → Found
others_within u tree z n = parts_from (inside_of u tree) z 1 n (parts_drop 1 (parts_of tree))

abbrev pub all_within : IdentifierUse → Tree → Around → ℕ → Found
all_within u tree z n = all_parts (inside_of u tree) z n (scope_round_others (kind_of tree) (parts_of tree)) (parts_of tree)

abbrev pub parts_within : Bool → IdentifierUse → Tree → Around → ℕ → Found
parts_within others u tree z n = cond others (others_within u tree z n) (all_within u tree z n)

-- what is found in a node but for the reference that it is
abbrev pub within_node : Around → ℕ → Tree → Found
within_node z n tree = in_scope (scope_round_all z.role (kind_of tree) (parts_of tree)) z n (all_within z.role tree)
