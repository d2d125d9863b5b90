-- What a cover may be, and what it becomes.
use Rattle.std.specs.Prelude.{◌≡◌, ℕ, Bool, true, false, ◌&&◌, ◌||◌, if◌then◌else◌, Result, Ok, Err}
use Rattle.source_text.specs.declared.fault.Fault.{Fault}
use Rattle.source_text.specs.declared.fault.Fault.TheVariants.{Syntax}
use Rattle.tree.specs.declared.kind.Kind.TheVariants.{Identifier, MemberExpression}
use Rattle.tree.specs.Tree.{Tree, node}
use Rattle.covers.specs.declared.shape.TargetForm.{TargetForm}
use Rattle.covers.specs.declared.shape.TargetForm.TheVariants as assigned
use Rattle.covers.specs.declared.shape.CoverShape.{CoverShape}

-- a target or a pattern, with a default or without
abbrev pub is_element : TargetForm → Bool
is_element assigned.Nothing = false
is_element _ = true

-- a target or a pattern
abbrev pub is_pattern : TargetForm → Bool
is_pattern assigned.Target = true
is_pattern assigned.Pattern = true
is_pattern _ = false

-- a target
abbrev pub is_target : TargetForm → Bool
is_target assigned.Target = true
is_target _ = false

-- an element whose names are bound, or a parameter
abbrev pub is_bound : CoverShape → Bool
is_bound s = s.binds && is_element s.assigned

-- an expression, or an element that is assigned to
abbrev pub is_either : CoverShape → Bool
is_either s = s.is_expression || is_element s.assigned

-- an array or an object with nothing in it: an expression and a pattern
abbrev pub empty : CoverShape
empty = record { is_expression = true; assigned = assigned.Pattern; binds = true }

-- an expression that is no element of a pattern
abbrev pub value : CoverShape
value = record { is_expression = true; assigned = assigned.Nothing; binds = false }

-- a member: an expression, and a target that binds nothing
abbrev pub target : CoverShape
target = record { is_expression = true; assigned = assigned.Target; binds = false }

-- a name: an expression, and a target that is bound
abbrev pub name : CoverShape
name = record { is_expression = true; assigned = assigned.Target; binds = true }

-- An expression that is no array, no object and no assignment: a name, a member outside an optional chain (12.15.1), or another.
abbrev pub shape_of : Tree → CoverShape
shape_of (node Identifier w g s e ps) = name
shape_of (node MemberExpression w g s e ps) = if g.optional then value else target
shape_of _ = value

-- `s = value`: an expression; a target or a pattern before its `=` has a default (AssignmentElement, 12.15.5)
abbrev pub defaulted : CoverShape → CoverShape
defaulted s = record { is_expression = true; assigned = if is_pattern s.assigned then assigned.Defaulted else assigned.Nothing; binds = s.binds }

-- what is assigned to only where it is a target: behind `...` among properties (AssignmentRestProperty, 12.15.5)
abbrev pub simple : CoverShape → CoverShape
simple s = record { is_expression = s.is_expression; assigned = if is_target s.assigned then assigned.Target else assigned.Nothing; binds = s.binds }

-- in parentheses: only a target is assigned to (12.15.1), and nothing is bound
abbrev pub grouped : CoverShape → CoverShape
grouped s = record { is_expression = s.is_expression; assigned = if is_target s.assigned then assigned.Target else assigned.Nothing; binds = false }

-- no pattern
abbrev pub unassigned : CoverShape → CoverShape
unassigned s = record { is_expression = s.is_expression; assigned = assigned.Nothing; binds = false }

-- no expression: a name in it has a default (CoverInitializedName, 12.2.6)
abbrev pub initialized : CoverShape → CoverShape
initialized s = record { is_expression = false; assigned = s.assigned; binds = s.binds }

-- with one more part, which fits a pattern or not
abbrev pub together : CoverShape → CoverShape → Bool → CoverShape
together s p fits = record { is_expression = s.is_expression && p.is_expression; assigned = if fits then s.assigned else assigned.Nothing; binds = s.binds && p.binds }

-- with one more element, or the value of one more property
abbrev pub with_element : CoverShape → CoverShape → CoverShape
with_element s p = together s p (is_element p.assigned)

-- with a last element behind `...`, which has no default (AssignmentRestElement, 12.15.5)
abbrev pub with_rest : CoverShape → CoverShape → CoverShape
with_rest s p = together s p (is_pattern p.assigned)

-- this where it fits, else a syntax error at the place that was handed in
abbrev pub Becomes : {X : Type 0} → X → Bool → ℕ → Result X Fault → Type 0
Becomes x fits at (Ok made) = (made ≡ x) × (fits ≡ true)
Becomes x fits at (Err fault) = (fault ≡ Syntax at) × (fits ≡ false)
