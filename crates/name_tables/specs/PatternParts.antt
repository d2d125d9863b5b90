-- What a node binds by its parts, as the code goes through them.
use Rattle.std.specs.Prelude.{ℕ, List, [], Option, Some, None, map}
use Rattle.tree.specs.declared.kind.Kind.{Kind}
use Rattle.tree.specs.declared.kind.Kind.TheVariants.{Identifier, ArrayPattern, ObjectPattern, AssignmentPattern, RestElement, Property}
use Rattle.tree.specs.Tree.{Tree, text_of, start_of, stop_of}
use Rattle.name_tables.specs.declared.bound.BoundName.{BoundName}
use Rattle.name_tables.specs.declared.bound.PatternNames.{PatternNames}
use Rattle.name_tables.specs.declared.bound.PatternNames.TheVariants.{Name, AllParts, FirstPart, LastPart, Nothing}

-- what a part gives that may be missing
abbrev pub at_part : {B : Type 0} → (Tree → List B) → Option Tree → List B
at_part f None = []
at_part f (Some t) = f t

-- an identifier that is bound, and how
pub record Bound (H : Type 0) : Type 0 where
  pub name : List ℕ
  pub start : ℕ
  pub stop : ℕ
  pub how : H

abbrev pub bound_as : {H : Type 0} → H → Tree → Bound H
bound_as h t = record { name = text_of t; start = start_of t; stop = stop_of t; how = h }

-- the program's own in these words
abbrev pub bound : {H : Type 0} → BoundName H → Bound H
bound x = record { name = x.name.now; start = x.start; stop = x.end; how = x.how }

abbrev pub all_bound : {H : Type 0} → List (BoundName H) → List (Bound H)
all_bound xs = map bound xs

-- which parts of a node have the names that it binds, by its kind
abbrev pub pattern_of : Kind → PatternNames
pattern_of Identifier = Name
pattern_of ArrayPattern = AllParts
pattern_of ObjectPattern = AllParts
pattern_of RestElement = AllParts
pattern_of AssignmentPattern = FirstPart
pattern_of Property = LastPart
pattern_of _ = Nothing
