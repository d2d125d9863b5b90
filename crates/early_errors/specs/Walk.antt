-- What the program's own calls say on the way: the least error so far, tables of names, and what a `var` clashes with.
use Rattle.std.specs.Prelude.{ℕ, Bool, cond, List, [], ◌∷◌, map, Option, Some, None, is_some}
use Rattle.std.specs.BTreeMap.{get_by}
use Rattle.std.specs.Cmp.Lexicographic.{slice_cmp}
use Rattle.std.specs.Ordering.{nat_cmp}
use Rattle.std.specs.Str.{bytes_eq}
use Rattle.tree.specs.Tree.{Tree}
use Rattle.name_tables.specs.declared.bound.BoundName.{BoundName}
use Rattle.name_tables.specs.PatternParts.{Bound, at_part, bound}
use Rattle.name_tables.specs.Tables.{undone_by, value_of}
use Rattle.early_errors.specs.declared.EarlyError.{EarlyError}
use Rattle.name_tables.specs.declared.declared.DeclaratorAs.{DeclaratorAs}
use Rattle.name_tables.specs.declared.declared.LexicalAs.{LexicalAs}
use Rattle.early_errors.specs.Names.{names_in}
use Rattle.early_errors.specs.declared.table.Table.{Table}
use Rattle.early_errors.specs.declared.conflicts.Saved.{Saved}
use Rattle.early_errors.specs.Names as names
use Rattle.early_errors.specs.Early.{Error, number, lesser, least}

-- the lesser of two, where there are any
abbrev pub sooner : Option Error → Option Error → Option Error
sooner None o = o
sooner (Some x) o = Some (lesser x o)

-- the least of what was found and of these
abbrev pub after : Option Error → List Error → Option Error
after o xs = sooner o (least xs)

-- an identifier that the program has found, with its name and place
abbrev pub Named : Type 0
Named = BoundName (Unit {0})

abbrev pub name_of : Bound (Unit {0}) → names.Named
name_of b = (b.name, b.start)

abbrev pub named : Named → names.Named
named x = name_of (bound x)

abbrev pub all_named : List Named → List names.Named
all_named xs = map named xs

-- what a name stands for in a table
abbrev pub look : {V : Type 0} → Table V → List ℕ → Option V
look t text = value_of (get_by (λ k. slice_cmp nat_cmp text k.now) t.entries)

-- names are bound with nothing more, and functions declare theirs lexically where `b` says so
abbrev pub with_nothing : DeclaratorAs (Unit {0})
with_nothing = record { initialized = tt; bare = tt }

abbrev pub lexical_as : Bool → LexicalAs (Unit {0})
lexical_as b = record { by_let = with_nothing; by_const = with_nothing; class = tt; import = tt; function = cond b (Some tt) None }

-- the names of a part that may be missing
abbrev pub names_at : Option Tree → List names.Named
names_at o = at_part names_in o

abbrev pub listed : Option ℕ → List ℕ
listed None = []
listed (Some p) = p ∷ []

-- a name stands for something
abbrev pub stands : {V : Type 0} → (List ℕ → Option V) → names.Named → Bool
stands f x = is_some (f x.0)

-- the least error that a table has for one of the names
abbrev pub hits : (List ℕ → Option Error) → List names.Named → Option Error
hits f [] = None
hits f (v ∷ vs) = sooner (f v.0) (hits f vs)

-- with names that clash, each with an error at its place
abbrev pub clashing : (List ℕ → Option Error) → EarlyError → List names.Named → List ℕ → Option Error
clashing f e [] = f
clashing f e (x ∷ xs) = clashing (λ w. cond (bytes_eq x.0 w) (sooner (f x.0) (Some (number e, x.1))) (f w)) e xs

-- with what names stood for before, the last first
abbrev pub saved_name : Saved → List ℕ
saved_name x = x.name.now

abbrev pub saved_value : Saved → Option Error
saved_value x = x.value

abbrev pub undone : (List ℕ → Option Error) → List Saved → List ℕ → Option Error
undone f xs = undone_by saved_name saved_value f xs
