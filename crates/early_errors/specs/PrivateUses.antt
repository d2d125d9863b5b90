-- How the elements of a class use private names, as the program's own calls go through them.
use Rattle.std.specs.Prelude.{ℕ, Bool, true, false, not, cond, ◌&&◌, List, [], ◌∷◌, ◌++◌, Option, Some, None, is_some}
use Rattle.tree.specs.declared.kind.Form.{Form}
use Rattle.tree.specs.declared.kind.Form.TheVariants.{Get, Set}
use Rattle.tree.specs.Tree.{Tree, kind_of, flags_of, parts_of, part_at}
use Rattle.language.specs.Vocabulary.{is, is_private}
use Rattle.name_tables.specs.Tables.{undone_by, with_value}
use Rattle.early_errors.specs.declared.EarlyError.TheVariants.{PrivateConstructor, DuplicatePrivateName}
use Rattle.early_errors.specs.declared.private_names.PrivateUse.{PrivateUse}
use Rattle.early_errors.specs.declared.private_names.PrivateUse.TheVariants as by
use Rattle.early_errors.specs.declared.private_names.SavedPrivate.{SavedPrivate}
use Rattle.early_errors.specs.Early.{Error, each}
use Rattle.early_errors.specs.Names.{when}
use Rattle.early_errors.specs.PrivateNames.{Declared}

-- a key that is a private name
abbrev pub only_private : Option Tree → Option Tree
only_private None = None
only_private (Some k) = cond (is_private (kind_of k)) (Some k) None

abbrev pub private_key_at : Option Tree → Option Tree
private_key_at None = None
private_key_at (Some t) = only_private (part_at (parts_of t) 0)

-- with what names stood for before, the last first
abbrev pub undone_privates : (List ℕ → Option (Unit {0})) → List SavedPrivate → List ℕ → Option (Unit {0})
undone_privates f xs = undone_by (λ x. x.name.now) (λ x. x.value) f xs

abbrev pub is_same : Bool → Bool → Bool
is_same true b = b
is_same false b = not b

abbrev pub pair_if : Bool → PrivateUse
pair_if b = cond b by.Pair by.Other

-- how an element of this form uses its name
abbrev pub use_of : Form → Bool → PrivateUse
use_of Get is_static = by.Getter is_static
use_of Set is_static = by.Setter is_static
use_of _ is_static = by.Other

abbrev pub use_at : Option Tree → PrivateUse
use_at None = by.Other
use_at (Some t) = use_of (flags_of t).form (flags_of t).is_static

-- how it is used with one more element
abbrev pub joined_use : Option PrivateUse → PrivateUse → PrivateUse
joined_use None own = own
joined_use (Some (by.Getter a)) (by.Setter b) = pair_if (is_same a b)
joined_use (Some (by.Setter a)) (by.Getter b) = pair_if (is_same a b)
joined_use (Some before) own = by.Other

abbrev pub is_pair_use : Option PrivateUse → Bool
is_pair_use (Some by.Pair) = true
is_pair_use _ = false

-- how an element that declares a name uses it
abbrev pub declared_use : Declared → PrivateUse
declared_use x = cond x.gets (by.Getter x.is_static) (cond x.sets (by.Setter x.is_static) by.Other)

-- how names are used with these elements
abbrev pub noted : (List ℕ → Option PrivateUse) → List Declared → List ℕ → Option PrivateUse
noted f [] = f
noted f (x ∷ xs) = noted (with_value f x.name (Some (joined_use (f x.name) (declared_use x)))) xs

-- the errors of keys, by how each name is used, and which names were seen before
abbrev pub key_errors : (List ℕ → Option PrivateUse) → (List ℕ → Option (Unit {0})) → List Declared → List Error
key_errors uses seen [] = []
key_errors uses seen (x ∷ xs) =
    each PrivateConstructor (when (is x.name "constructor") (x.at ∷ []))
    ++ (each DuplicatePrivateName (when (is_some (seen x.name) && not (is_pair_use (uses x.name))) (x.at ∷ []))
    ++ key_errors uses (with_value seen x.name (Some tt)) xs)
