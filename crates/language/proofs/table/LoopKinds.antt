-- The three kinds of statements that begin with `for`.
use Rattle.std.proofs.Common.{◌≡◌, Bool, true, false, ap}
use Rattle.std.proofs.lemmas.Bool.{false≢true}
use Rattle.tree.specs.declared.kind.Kind.{Kind}
use Rattle.tree.specs.declared.kind.Kind.TheVariants.{ForStatement, ForInStatement, ForOfStatement}
use Rattle.language.specs.StatementStart.{StatementStart, a_for}
use Rattle.language.proofs.table.StatementWays.{begins_as}

pub data LoopKind : Kind → Type 0 where
  a_loop : LoopKind ForStatement
  a_loop_in : LoopKind ForInStatement
  a_loop_of : LoopKind ForOfStatement

abbrev is_for : StatementStart → Bool
is_for a_for = true
is_for _ = false

pub loop_kind : (k : Kind) → begins_as k ≡ a_for → LoopKind k
loop_kind ForStatement h = a_loop
loop_kind ForInStatement h = a_loop_in
loop_kind ForOfStatement h = a_loop_of
loop_kind _ h = absurd (false≢true (ap is_for h))
