-- Uses of private names (15.7.1 of the 13th edition): what stands in a class, and is of no class in it.
use Rattle.std.specs.Prelude.{ℕ, ◌+◌, Bool, true, false, cond, nat_eq, List, [], ◌∷◌, ◌++◌, Option, Some, None}
use Rattle.std.specs.List.{list_any}
use Rattle.std.specs.Str.{bytes_eq}
use Rattle.tree.specs.declared.kind.Kind.{Kind}
use Rattle.tree.specs.declared.kind.Kind.TheVariants.{ArrayPattern, AssignmentExpression, AssignmentPattern, ClassBody, ExpressionStatement, ForInStatement, ForOfStatement, MemberExpression, MethodDefinition, ObjectPattern, Property, PropertyDefinition, RestElement, UpdateExpression}
use Rattle.tree.specs.Kinds.{is_private}
use Rattle.tree.specs.Tree.{Tree, node, Parts, none, part, gap, kind_of, text_of, parts_of, part_at}
use Rattle.language.specs.Vocabulary.{is}
use Rattle.name_tables.specs.BoundNames.{each_part}
use Rattle.private_members.specs.declared.standing.Standing.{Standing}
use Rattle.private_members.specs.declared.standing.Standing.TheVariants.{Discarded, InPattern, Key, Other, Unread, Written}

abbrev pub is_class_body : Kind → Bool
is_class_body ClassBody = true
is_class_body _ = false

abbrev pub written_if : Bool → Standing
written_if true = Written
written_if false = Other

abbrev pub is_written : Standing → Bool
is_written Written = true
is_written _ = false

abbrev pub is_discarded : Standing → Bool
is_discarded Discarded = true
is_discarded _ = false

abbrev pub is_in_pattern : Standing → Bool
is_in_pattern InPattern = true
is_in_pattern _ = false

-- the target of `=`, or of another operator whose value nothing asks for
abbrev pub target : Standing → List ℕ → Standing
target standing operator = cond (is operator "=") Written (written_if (is_discarded standing))

abbrev pub property_name : Standing → Standing
property_name standing = cond (is_written standing) Unread Other

abbrev pub first_standing : Standing → Kind → List ℕ → Standing
first_standing standing ExpressionStatement text = Discarded
first_standing standing AssignmentExpression text = target standing text
first_standing standing UpdateExpression text = written_if (is_discarded standing)
first_standing standing ForInStatement text = Written
first_standing standing ForOfStatement text = Written
first_standing standing AssignmentPattern text = Written
first_standing standing MethodDefinition text = Key
first_standing standing PropertyDefinition text = Key
first_standing standing _ text = Other

abbrev pub later_standing : Standing → Kind → Standing
later_standing standing MemberExpression = property_name standing
later_standing standing Property = written_if (is_in_pattern standing)
later_standing standing _ = Other

-- how the part at a place of a node stands, by how the node does
abbrev pub standing_at : Standing → Kind → List ℕ → ℕ → Standing
standing_at standing ArrayPattern text place = Written
standing_at standing RestElement text place = Written
standing_at standing ObjectPattern text place = InPattern
standing_at standing kind text place = cond (nat_eq place 0) (first_standing standing kind text) (later_standing standing kind)

-- a use of a private name: what is only written isn't read
pub record Use : Type 0 where
  pub name : List ℕ
  pub is_read : Bool

-- what a private name is where it stands: as a key it is declared and not used
abbrev pub use_as : Standing → List ℕ → List Use
use_as Key name = []
use_as Unread name = record { name = name; is_read = false } ∷ []
use_as _ name = record { name = name; is_read = true } ∷ []

abbrev pub own_use : Standing → Kind → List ℕ → List Use
own_use standing kind text = cond (is_private kind) (use_as standing text) []

-- the key of a member, if it is a private name
abbrev pub if_private : Option Tree → Option Tree
if_private None = None
if_private (Some key) = cond (is_private (kind_of key)) (Some key) None

abbrev pub private_key : Tree → Option Tree
private_key member = if_private (part_at (parts_of member) 0)

abbrev pub name_of : Option Tree → List (List ℕ)
name_of None = []
name_of (Some key) = text_of key ∷ []

-- the private names that members declare
abbrev pub declared_names : Parts → List (List ℕ)
declared_names members = each_part (λ member. name_of (private_key member)) members

abbrev pub has_name : List (List ℕ) → List ℕ → Bool
has_name names name = list_any (λ other. bytes_eq name other) names

-- the uses of other names than those
abbrev pub free : (List ℕ → Bool) → List Use → List Use
free is_declared [] = []
free is_declared (u ∷ us) = cond (is_declared u.name) (free is_declared us) (u ∷ free is_declared us)

-- a class keeps what it declares
abbrev pub free_of : Kind → Parts → List Use → List Use
free_of kind parts us = cond (is_class_body kind) (free (has_name (declared_names parts)) us) us

unfoldable mutual
  -- the uses in a node that no class in it declares
  pub uses_of : Standing → Tree → List Use
  uses_of standing (node kind text flags from to parts) = own_use standing kind text ++ free_of kind parts (uses_in standing kind text 0 parts)

  -- in parts of a node, the first of them at this place
  pub uses_in : Standing → Kind → List ℕ → ℕ → Parts → List Use
  uses_in standing kind text place none = []
  uses_in standing kind text place (part tree rest) = uses_of (standing_at standing kind text place) tree ++ uses_in standing kind text (place + 1) rest
  uses_in standing kind text place (gap rest) = uses_in standing kind text (place + 1) rest
