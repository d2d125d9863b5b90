-- The code's own values as those of the definitions.
use Rattle.std.specs.Prelude.{◌≡◌, ◌<◌, ℕ, zero, suc, Bool, true, nat_eq, List, [], ◌∷◌, map, Option, Some, None, IfSome, false}
use Rattle.name_tables.specs.declared.bound.BoundName.{BoundName}
use Rattle.name_tables.specs.PatternParts.{Bound, bound}
use Rattle.scopes.specs.declared.binding.Binding.{Binding as CodeBinding}
use Rattle.scopes.specs.declared.binding.Reference.{Reference as CodeReference}
use Rattle.scopes.specs.declared.binding.Scope.{Scope as CodeScope}
use Rattle.scopes.specs.declared.names.DeclaredAs.{DeclaredAs}
use Rattle.scopes.specs.Bindings.{Binding}
use Rattle.scopes.specs.Found.{Frame, Reference, Scope, Found, nearest, scope_of}

abbrev pub shown : CodeBinding → Binding
shown b = record { name = b.name.now; kind = b.kind; start = b.start; stop = b.end; settled = b.settled; shadows = b.shadows; exported = b.exported }

abbrev pub all_shown : List CodeBinding → List Binding
all_shown bs = map shown bs

-- a name as it is declared, as the binding that it makes
abbrev pub made_of : Bound DeclaredAs → Binding
made_of b = record { name = b.name; kind = b.how.kind; start = b.start; stop = b.stop; settled = b.how.settled; shadows = false; exported = b.how.exported }

abbrev pub declared_shown : BoundName DeclaredAs → Binding
declared_shown x = made_of (bound x)

abbrev pub all_declared : List (BoundName DeclaredAs) → List Binding
all_declared xs = map declared_shown xs

abbrev pub reference_shown : CodeReference → Reference
reference_shown r = record { name = r.name.now; scope = r.scope; reads = r.reads; writes = r.writes; start = r.start; stop = r.end; typeof_operand = r.typeof_operand; called = r.called; constructed = r.constructed; meaning = r.meaning }

abbrev pub scope_shown : CodeScope → Scope
scope_shown s = record { parent = s.parent; bindings = all_shown s.bindings.items; redeclared = all_shown s.redeclared.items }

abbrev pub found_of : List CodeScope → List CodeReference → Found
found_of ss rs = record { scopes = map scope_shown ss; references = map reference_shown rs }

abbrev pub frame : ℕ → List Binding → Frame
frame n bs = record { number = n; bindings = bs }

-- a table says what each name means
abbrev pub Meant : (List ℕ → Option (ℕ × ℕ)) → List Frame → Type 0
Meant f fs = (w : List ℕ) → f w ≡ nearest w fs

-- all meanings lie in scopes with a number below this
abbrev pub Below : ℕ → List Frame → Type 0
Below n fs = (w : List ℕ) → IfSome (nearest w fs) (λ p. p.0 < n)

-- what the walk knows of the scopes round a node: its table says what each name means, in scopes below the next number
pub record Knows (f : List ℕ → Option (ℕ × ℕ)) (n : ℕ) (s : Option ℕ) (fs : List Frame) : Type 0 where
  pub meant : Meant f fs
  pub below : Below n fs
  pub nearest_is : s ≡ scope_of fs

-- whether a meaning lies in the scope of this number
abbrev pub is_of : Option (ℕ × ℕ) → ℕ → Bool
is_of None n = false
is_of (Some p) n = nat_eq p.0 n

-- the binding at a place is exported
abbrev pub exported_place : ℕ → List Binding → List Binding
exported_place n [] = []
exported_place zero (b ∷ bs) = record b { exported = true } ∷ bs
exported_place (suc n) (b ∷ bs) = b ∷ exported_place n bs

abbrev pub exported_at : Option (ℕ × ℕ) → List Binding → List Binding
exported_at None bs = bs
exported_at (Some p) bs = exported_place p.1 bs
