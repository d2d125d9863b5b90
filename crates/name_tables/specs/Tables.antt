-- Tables of names: what a name stands for, and what it stood for before.
use Rattle.std.specs.Prelude.{◌≡◌, ℕ, cond, List, [], ◌∷◌, Option, Some, None}
use Rattle.std.specs.Str.{bytes_eq}
use Rattle.indexmap.specs.IndexMap.{get_by}
use Rattle.name_tables.specs.declared.table.NameTable.{NameTable}
use Rattle.name_tables.specs.declared.table.SavedName.{SavedName}

abbrev pub value_of : {V : Type 0} → Option (Option V) → Option V
value_of None = None
value_of (Some o) = o

-- what a name stands for in a table
abbrev pub value_at : {V : Type 0} → NameTable V → List ℕ → Option V
value_at t w = value_of (get_by (λ k. bytes_eq w k.now) t.entries)

-- a table with another value at one name
abbrev pub with_value : {V : Type 0} → (List ℕ → Option V) → List ℕ → Option V → List ℕ → Option V
with_value f name o w = cond (bytes_eq name w) o (f w)

-- two tables say the same of each name
abbrev pub Agree : {V : Type 0} → (f g : List ℕ → Option V) → Type 0
Agree f g = (w : List ℕ) → f w ≡ g w

-- with what names stood for before, the last first; what was saved says for which name, and for what
abbrev pub undone_by : {S V : Type 0} → (S → List ℕ) → (S → Option V) → (List ℕ → Option V) → List S → List ℕ → Option V
undone_by name value f [] = f
undone_by name value f (x ∷ xs) = with_value (undone_by name value f xs) (name x) (value x)

-- the name that was saved, and what it stood for
abbrev pub saved_name : {V : Type 0} → SavedName V → List ℕ
saved_name x = x.name.now

abbrev pub saved_value : {V : Type 0} → SavedName V → Option V
saved_value x = x.value

abbrev pub undone : {V : Type 0} → (List ℕ → Option V) → List (SavedName V) → List ℕ → Option V
undone f xs = undone_by saved_name saved_value f xs
