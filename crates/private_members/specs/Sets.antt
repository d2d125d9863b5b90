-- Sets of private names.
use Rattle.std.specs.Prelude.{◌≡◌, ℕ, Bool, cond, List, Option, Some, None}
use Rattle.std.specs.List.{list_any}
use Rattle.name_tables.specs.Sets.{contains}
use Rattle.name_tables.specs.declared.set.NameSet.{NameSet}
use Rattle.tree.specs.declared.kind.Form.{Form}
use Rattle.tree.specs.Kinds.{is_private}
use Rattle.tree.specs.Tree.{Tree, kind_of}
use Rattle.private_members.specs.declared.members.UsedNames.{UsedNames}
use Rattle.private_members.specs.Found.{is_accessor, is_named, is_read}
use Rattle.private_members.specs.Uses.{Use, has_name, private_key}

-- a set has these names
abbrev pub Has : NameSet → List (List ℕ) → Type 0
Has set names = (w : List ℕ) → contains set w ≡ has_name names w

-- two sets have the names of these uses, and of those that are read
abbrev pub Knows : UsedNames → List Use → Type 0
Knows x us = (w : List ℕ) → (contains x.named w ≡ is_named us w) × (contains x.read w ≡ is_read us w)

abbrev pub is_known : UsedNames → Form → List ℕ → Bool
is_known x form name = cond (is_accessor form) (contains x.named name) (contains x.read name)

-- the private name that is the key of a member which may be missing
abbrev pub key_at : Option Tree → Option Tree
key_at None = None
key_at (Some member) = private_key member

-- one of these nodes is a private name
abbrev pub has_private : List Tree → Bool
has_private trees = list_any (λ tree. is_private (kind_of tree)) trees
