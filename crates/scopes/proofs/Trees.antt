-- What the examples compute with, and words to show what is found in them.
use Rattle.std.specs.Prelude.{ℕ, ◌&&◌, cond, List, map, Option}
use Rattle.tree.specs.Tree.{Tree}
use Rattle.scopes.specs.declared.kind.BindingKind.{BindingKind}
use Rattle.scopes.specs.declared.identifier_use.IdentifierUse.{IdentifierUse}
use Rattle.scopes.specs.declared.identifier_use.IdentifierUse.TheVariants.{Read, Write, ReadWrite, Typeof}
use Rattle.name_tables.specs.BoundNames.{bound_names, all_bound_names, first_bound_names, last_bound_names}
use Rattle.scopes.specs.Bindings.{vars_in, parts_vars}
use Rattle.scopes.specs.Found.{Reference, found, found_in, all_parts, parts_from}

-- all that the definitions compute with
unfoldable pub computing : ℕ
unfolding bound_names all_bound_names first_bound_names last_bound_names vars_in parts_vars found_in all_parts parts_from
computing = 0

-- of each scope the one round it and its bindings: name, kind, start
abbrev pub scopes_shown : Tree → List (Option ℕ × List (List ℕ × BindingKind × ℕ))
scopes_shown t = map (λ s. (s.parent, map (λ b. (b.name, b.kind, b.start)) s.bindings)) (found t).scopes

abbrev pub role_shown : Reference → IdentifierUse
role_shown r = cond r.typeof_operand Typeof (cond (r.reads && r.writes) ReadWrite (cond r.writes Write Read))

-- of each reference its start, its scope, what it does, and what it means
abbrev pub references_shown : Tree → List (ℕ × ℕ × IdentifierUse × Option (ℕ × ℕ))
references_shown t = map (λ r. (r.start, r.scope, role_shown r, r.meaning)) (found t).references
